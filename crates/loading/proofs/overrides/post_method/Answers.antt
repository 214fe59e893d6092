-- The method's record gives the signature that posting goes by.
use Rattle.loading.proofs.Defined.{method-there, method-signed}
use Rattle.loading.proofs.overrides.post_method.Goals as goal

pub returns-in_default : goal.returns-in_default
returns-in_default c = absurd (method-there c.args.file.now c.args.j c.requires.0 _ c.method_place.ensures c.in_default.is)

pub post_override-requires : goal.post_override-requires
post_override-requires c =
    (c.requires.1, c.requires.2, c.requires.3)

pub returns : goal.returns
returns c =
    rw (← method-signed c.args.file.now c.args.j c.requires.0 _ c.method_place.ensures _ _ c.in-Some.is c.method_signature-s.ensures) c.post_override.ensures
