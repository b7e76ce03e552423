-- Outcomes and rows with the orders that lead to them.
use Rattle.std.specs.Prelude.{◌≡◌, ℕ, ◌<◌, List, [], ◌∷◌, Some, string_bytes}
use Rattle.cheri_model.specs.declared.operation.Op.{Op}
use Rattle.cheri_model.specs.runs.Machine.{MachineState}
use Rattle.conditions.specs.declared.parts.Shown.{Shown}
use Rattle.order_texts.specs.OrderTexts.{order_text}
use Rattle.outcomes.specs.Rows.{values_at}
use Rattle.outcomes.specs.declared.rows.Row.{Row}
use Rattle.outcome_texts.specs.declared.told.Outcome.{Outcome}
use Rattle.outcome_texts.specs.declared.told.ShownRow.{ShownRow}
use Rattle.shown_states.specs.Meant.{state_meant}
use Rattle.states.specs.Kept.{KeptParts, at, IsWitnessOrder}

-- the kept state of this number
abbrev pub kept_state : KeptParts → ℕ → MachineState
kept_state kept number = state_meant (at kept number)

-- the text is that of the witness of the state of this number
pub record IsWitnessText (kept : KeptParts) (number : ℕ) (text : List ℕ) : Type 0 where
  pub order : List Op
  pub witness : (s : MachineState) → at kept number ≡ Some s →
      IsWitnessOrder kept.image kept.sweeps kept.sight s order
  pub text_is : text ≡ order_text order

-- an outcome with its witness
pub record IsOutcomeTold (kept : KeptParts) (number : ℕ) (told : Outcome) : Type 0 where
  pub state : told.state ≡ number
  pub order : IsWitnessText kept number (string_bytes told.order)

abbrev pub AreOutcomesTold : KeptParts → List ℕ → List Outcome → Type 0
AreOutcomesTold kept [] [] = Unit {0}
AreOutcomesTold kept [] (t ∷ ts) = ⊥
AreOutcomesTold kept (n ∷ ns) [] = ⊥
AreOutcomesTold kept (n ∷ ns) (t ∷ ts) = IsOutcomeTold kept n t × AreOutcomesTold kept ns ts

-- a row with its values, and the witness of the first outcome that has it
pub record IsRowTold (kept : KeptParts) (shown : List Shown) (row : Row) (told : ShownRow)
    : Type 0 where
  pub states : told.states ≡ row.states
  pub values : told.values.items ≡ values_at (at kept) shown row.first
  pub order : IsWitnessText kept row.first (string_bytes told.order)

abbrev pub AreRowsTold : KeptParts → List Shown → List Row → List ShownRow → Type 0
AreRowsTold kept shown [] [] = Unit {0}
AreRowsTold kept shown [] (t ∷ ts) = ⊥
AreRowsTold kept shown (r ∷ rs) [] = ⊥
AreRowsTold kept shown (r ∷ rs) (t ∷ ts) = IsRowTold kept shown r t × AreRowsTold kept shown rs ts

-- all of these numbers are those of kept states
abbrev pub AreBelow : ℕ → List ℕ → Type 0
AreBelow states [] = Unit {0}
AreBelow states (n ∷ ns) = (n < states) × AreBelow states ns

abbrev pub AreRowsBelow : ℕ → List Row → Type 0
AreRowsBelow states [] = Unit {0}
AreRowsBelow states (r ∷ rs) = (r.first < states) × AreRowsBelow states rs

abbrev pub AreOutcomesBelow : ℕ → List Outcome → Type 0
AreOutcomesBelow states [] = Unit {0}
AreOutcomesBelow states (t ∷ ts) = (t.state < states) × AreOutcomesBelow states ts
