-- Three cells, one after another.
use Rattle.driver.specs.Driven.{put_reply}
use Rattle.driver.proofs.write_answer.Goals as goal

pub returns : goal.returns
unfolding put_reply
returns c =
    rw (c.put-3.ensures, c.put-2.ensures, c.put.ensures, c.tell-it.ensures.0, c.tell-it.ensures.1, c.tell-it.ensures.2)
