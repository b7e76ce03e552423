-- What a step of a graph answers.
use Rattle.std.specs.Prelude.{◌≡◌, ℕ, List, Option, None, IsSome, Bool, true, false}

-- the step leads to the state of this row; or it leads nowhere
abbrev pub LeadsTo : {S : Type 0} → (List ℕ → Option S) → Bool → List ℕ → Option S → Type 0
LeadsTo meaning true row target = IsSome target × (meaning row ≡ target)
LeadsTo meaning false row target = target ≡ None
