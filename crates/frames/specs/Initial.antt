-- What a new object's row holds, by the types of its fields; the empty locals of a new frame.
use Rattle.std.specs.Prelude.{◌≡◌, refl, Bool, true, false, List, [], ◌∷◌, ℕ, get_or, eqb}
use Rattle.definition.specs.Lists.{rows}
use Rattle.definition.specs.Classes.{Slot}
use Rattle.definition.specs.Instructions.{pick}
use Rattle.definition.specs.Machine.{Value, empty_value, int_value, null_value, Object, initial_value}
use Rattle.definition.specs.Tables.{value_of, put_local}
use Rattle.frames.specs.declared.Entry.{Entry}

-- a field of type t begins as 0 or null
unfoldable pub initial_of : ℕ → Value
initial_of t = pick (eqb t 1) (int_value 0) null_value

-- an object of class c with the first n of those types
abbrev pub initial_object : ℕ → List ℕ → ℕ → Object
initial_object c ts n = record { class = c; values = rows (λ i. initial_of (get_or ts i 0)) n 0 }

-- what a frame is entered with: four arguments, of which those that the method hasn't are empty
abbrev pub entry_values : Entry → List Value
entry_values e = value_of e.first.kind e.first.bits ∷ value_of e.second.kind e.second.bits ∷ value_of e.third.kind e.third.bits ∷ value_of e.fourth.kind e.fourth.bits ∷ []

-- locals 5 to 7 emptied
unfoldable pub put_empty : ℕ → List ℕ → List ℕ
put_empty b t =
    put_local b (put_local b (put_local b t 7 empty_value) 6 empty_value) 5 empty_value

pub initial-value : (s : Slot) → initial_value s ≡ initial_of s.type
unfolding initial_value initial_of pick
initial-value s = go (eqb s.type 1)
  where
    go : (u : Bool) → ◌≡◌ {A = Value} (elim u as (λ _. Value) [ true ↦ int_value 0 | false ↦ null_value ]) (pick u (int_value 0) null_value)
    go true = refl
    go false = refl
