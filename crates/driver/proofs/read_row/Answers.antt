-- A row by its kind.
use borrow.Author.Tests.{ne_eqb}
use Rattle.definition.specs.Instructions.{pick}
use Rattle.calls.specs.Made.{call_of}
use Rattle.driver.specs.Encoded.{kind_in, cell_in, call_in}
use Rattle.driver.specs.Laws.{call_made}
use Rattle.driver.proofs.read_row.Goals as goal

pub returns-in-0 : goal.returns-in-0
unfolding call_made call_of call_in kind_in pick
returns-in-0 c = rw c.in-0.is

pub returns-in-1 : goal.returns-in-1
unfolding call_in kind_in cell_in pick call_of
returns-in-1 c =
    rw c.in-1.is (c.with_file.ensures _)

pub returns-in-2 : goal.returns-in-2
unfolding call_made call_of call_in kind_in cell_in pick
returns-in-2 c =
    rw c.in-2.is

pub returns-in-3 : goal.returns-in-3
unfolding call_in kind_in cell_in pick
returns-in-3 c =
    rw c.in-3.is (c.read_start.ensures _)

pub returns-in-4 : goal.returns-in-4
unfolding call_made call_of call_in kind_in pick
returns-in-4 c = rw c.in-4.is

pub returns-in-5 : goal.returns-in-5
unfolding call_made call_of call_in kind_in cell_in pick
returns-in-5 c = rw c.in-5.is

pub returns-in-6 : goal.returns-in-6
unfolding call_made call_of call_in kind_in cell_in pick
returns-in-6 c = rw c.in-6.is

pub returns-in-7 : goal.returns-in-7
unfolding call_made call_of call_in kind_in pick
returns-in-7 c = rw c.in-7.is

pub returns-in-8 : goal.returns-in-8
unfolding call_in kind_in cell_in pick call_of
returns-in-8 c =
    rw c.in-8.is (c.with_file-in-8.ensures _)

pub returns-in-9 : goal.returns-in-9
unfolding call_made call_of call_in kind_in cell_in pick
returns-in-9 c =
    rw c.in-9.is

pub returns-in-10 : goal.returns-in-10
unfolding call_made call_of call_in kind_in pick
returns-in-10 c = rw c.in-10.is

pub returns-in_default : goal.returns-in_default
unfolding call_made call_in kind_in pick
returns-in_default c = rw (ne_eqb _ _ c.in_default.in_default-own.rest.0.0.0.0.0.0.0.0.0.0.1, ne_eqb _ _ c.in_default.in_default-own.rest.0.0.0.0.0.0.0.0.0.1, ne_eqb _ _ c.in_default.in_default-own.rest.0.0.0.0.0.0.0.0.1, ne_eqb _ _ c.in_default.in_default-own.rest.0.0.0.0.0.0.0.1, ne_eqb _ _ c.in_default.in_default-own.rest.0.0.0.0.0.0.1, ne_eqb _ _ c.in_default.in_default-own.rest.0.0.0.0.0.1, ne_eqb _ _ c.in_default.in_default-own.rest.0.0.0.0.1, ne_eqb _ _ c.in_default.in_default-own.rest.0.0.0.1, ne_eqb _ _ c.in_default.in_default-own.rest.0.0.1, ne_eqb _ _ c.in_default.in_default-own.rest.0.1, ne_eqb _ _ c.in_default.in_default-own.rest.1)
