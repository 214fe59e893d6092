-- Each opcode's instruction is read off its inline bytes.
use Rattle.definition.specs.Instructions.{instruction_of}
use Rattle.verifier.proofs.CallLaws.{call-inline, call-list}
use Rattle.verifier.proofs.decoding.instruction_of.Goals as goal

pub returns-in-OpAconstNull : goal.returns-in-OpAconstNull
returns-in-OpAconstNull c = unfold instruction_of in rw c.in-OpAconstNull.is

pub returns-in-OpSipush : goal.returns-in-OpSipush
returns-in-OpSipush c = unfold instruction_of in rw (c.in-OpSipush.is, c.extended.ensures, c.short_at.ensures)

pub returns-in-OpLoad : goal.returns-in-OpLoad
returns-in-OpLoad c = unfold instruction_of in rw (c.in-OpLoad.is, c.at.ensures)

pub returns-in-OpStore : goal.returns-in-OpStore
returns-in-OpStore c = unfold instruction_of in rw (c.in-OpStore.is, c.at-in-OpStore.ensures)

pub returns-in-OpPop : goal.returns-in-OpPop
returns-in-OpPop c = unfold instruction_of in rw c.in-OpPop.is

pub returns-in-OpDup : goal.returns-in-OpDup
returns-in-OpDup c = unfold instruction_of in rw c.in-OpDup.is

pub returns-in-OpArithmetic : goal.returns-in-OpArithmetic
returns-in-OpArithmetic c = unfold instruction_of in rw c.in-OpArithmetic.is

pub returns-in-OpInvokevirtual : goal.returns-in-OpInvokevirtual
returns-in-OpInvokevirtual c = rw (c.in-OpInvokevirtual.is, ← call-inline) c.call_at.ensures

-- a list behind two names and its count
pub returns-in-OpInvokevirtualList : goal.returns-in-OpInvokevirtualList
returns-in-OpInvokevirtualList c = rw (c.in-OpInvokevirtualList.is, ← call-list, ← c.list_count.ensures) c.call_at-in-OpInvokevirtualList.ensures

pub returns-in-OpNew : goal.returns-in-OpNew
returns-in-OpNew c = unfold instruction_of in rw (c.in-OpNew.is, c.short_at-in-OpNew.ensures)

pub returns-in-OpReturn : goal.returns-in-OpReturn
returns-in-OpReturn c = unfold instruction_of in rw c.in-OpReturn.is

pub returns-in-OpBranch : goal.returns-in-OpBranch
returns-in-OpBranch c = unfold instruction_of in rw (c.in-OpBranch.is, c.target_at.ensures)

pub returns-in-OpUnknown : goal.returns-in-OpUnknown
returns-in-OpUnknown c = unfold instruction_of in rw c.in-OpUnknown.is
