-- Two digits, the higher first.
use Rattle.script.specs.Files.{pair_value, pair_of, value-taken}
use Rattle.script.proofs.files.byte_at.Goals as goal

pub returns : goal.returns
unfolding pair_value pair_of
returns c =
    rw (c.from-high.ensures, c.from-low.ensures, value-taken _ _ _ c.hex_value.ensures c.unwrap_or.ensures, value-taken _ _ _ c.hex_value-2.ensures c.unwrap_or-2.ensures)
