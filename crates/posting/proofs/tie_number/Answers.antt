-- As many as there are names.
use Rattle.std.proofs.Math.Path.{refl}
use native.Mathlib.Omega.{arith}
use Rattle.posting.specs.Postings.{to_post, few-names, ties-counted}
use Rattle.posting.proofs.tie_number.Goals as goal

pub returns-in-None : goal.returns-in-None
unfolding to_post
returns-in-None c = rw c.in-None.is (refl, omega arith)

pub returns-in-Some : goal.returns-in-Some
returns-in-Some c =
    let new = c.in-Some.new in
    rw c.in-Some.is (omega (arith, ties-counted new.one new.two new.names new.last), omega (arith, few-names new.names))
