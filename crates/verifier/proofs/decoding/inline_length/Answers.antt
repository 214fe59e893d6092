-- Each opcode's inline length is the definition's.
use Rattle.definition.specs.Instructions.{inline_length}
use Rattle.verifier.proofs.decoding.inline_length.Goals as goal

pub returns-in-OpAconstNull : goal.returns-in-OpAconstNull
returns-in-OpAconstNull c = unfold inline_length in rw c.in-OpAconstNull.is

pub returns-in-OpSipush : goal.returns-in-OpSipush
returns-in-OpSipush c = unfold inline_length in rw c.in-OpSipush.is

pub returns-in-OpLoad : goal.returns-in-OpLoad
returns-in-OpLoad c = unfold inline_length in rw c.in-OpLoad.is

pub returns-in-OpStore : goal.returns-in-OpStore
returns-in-OpStore c = unfold inline_length in rw c.in-OpStore.is

pub returns-in-OpPop : goal.returns-in-OpPop
returns-in-OpPop c = unfold inline_length in rw c.in-OpPop.is

pub returns-in-OpDup : goal.returns-in-OpDup
returns-in-OpDup c = unfold inline_length in rw c.in-OpDup.is

pub returns-in-OpArithmetic : goal.returns-in-OpArithmetic
returns-in-OpArithmetic c = unfold inline_length in rw c.in-OpArithmetic.is

pub returns-in-OpGetfield : goal.returns-in-OpGetfield
returns-in-OpGetfield c = unfold inline_length in rw c.in-OpGetfield.is

pub returns-in-OpPutfield : goal.returns-in-OpPutfield
returns-in-OpPutfield c = unfold inline_length in rw c.in-OpPutfield.is

pub returns-in-OpInvokevirtual : goal.returns-in-OpInvokevirtual
returns-in-OpInvokevirtual c = unfold inline_length in rw c.in-OpInvokevirtual.is

pub returns-in-OpInvokevirtualList : goal.returns-in-OpInvokevirtualList
returns-in-OpInvokevirtualList c = unfold inline_length in rw (c.in-OpInvokevirtualList.is, c.from.ensures, c.list_count.ensures)

pub returns-in-OpNew : goal.returns-in-OpNew
returns-in-OpNew c = unfold inline_length in rw c.in-OpNew.is

pub returns-in-OpReturn : goal.returns-in-OpReturn
returns-in-OpReturn c = unfold inline_length in rw c.in-OpReturn.is

pub returns-in-OpBranch : goal.returns-in-OpBranch
returns-in-OpBranch c = unfold inline_length in rw c.in-OpBranch.is

pub returns-in-OpUnknown : goal.returns-in-OpUnknown
returns-in-OpUnknown c = unfold inline_length in rw c.in-OpUnknown.is
