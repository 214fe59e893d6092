-- Each arm leaves what its plan says.
use Rattle.std.proofs.Common.{refl}
use Rattle.execution.proofs.carrying.carry_out.Goals as goal

pub push-requires : goal.push-requires
push-requires c = rw c.in-Above.is at c.requires.1

pub give-requires : goal.give-requires
give-requires c = rw c.in-Give.is at c.requires.1

pub enter-requires : goal.enter-requires
enter-requires c = let f = rw c.in-Enter.is at c.requires.1 in (c.requires.0, f.1, f.2)

pub make-requires : goal.make-requires
make-requires c = let f = rw c.in-Make.is at c.requires.1 in (f.0, f.2, f.3)

pub returns-in-Refuse : goal.returns-in-Refuse
returns-in-Refuse c = rw c.in-Refuse.is (refl, refl, refl, refl)

pub returns-in-Keep : goal.returns-in-Keep
returns-in-Keep c = rw c.in-Keep.is (refl, refl, refl, c.write_moved.ensures)

pub returns-in-Jump : goal.returns-in-Jump
returns-in-Jump c = rw c.in-Jump.is (refl, refl, refl, rw (c.write_moved-in-Jump.ensures, c.from.ensures))

pub returns-in-Above : goal.returns-in-Above
returns-in-Above c = rw c.in-Above.is (refl, refl, refl, c.push.ensures)

pub returns-in-Local : goal.returns-in-Local
returns-in-Local c = rw c.in-Local.is (refl, refl, refl, c.store.ensures)

pub returns-in-Give : goal.returns-in-Give
returns-in-Give c = rw c.in-Give.is (refl, c.give.ensures.counted, refl, c.give.ensures.written)

pub returns-in-Finish : goal.returns-in-Finish
returns-in-Finish c = rw c.in-Finish.is (refl, c.write_frame_count.ensures, refl, refl)

pub returns-in-Field : goal.returns-in-Field
returns-in-Field c = rw c.in-Field.is (refl, refl, c.write_field.ensures, c.write_moved-in-Field.ensures)

pub returns-in-Enter : goal.returns-in-Enter
returns-in-Enter c = rw c.in-Enter.is (refl, c.enter.ensures.counted, refl, c.enter.ensures.written)

pub returns-in-Make : goal.returns-in-Make
returns-in-Make c = rw c.in-Make.is (refl, c.make.ensures.counted, c.make.ensures.made, c.make.ensures.pushed)
