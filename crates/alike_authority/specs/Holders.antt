-- Which hart holds rights, of those that stand for a hart.
use Rattle.std.specs.Prelude.{◌≡◌, ◌<◌, ℕ, true, List, length, slice_index_or}
use Rattle.cheri_model.specs.runs.Machine.{no_hart}
use Rattle.cheri_model.specs.steps.Hart.{HartState}
use Rattle.explore_rights.specs.Held.{Holds, held_by}
use Rattle.explore_rights.specs.declared.rights.Rights.{Rights}
use Rattle.hart_exchanges.specs.Exchanges.{stands_for}

-- this one does
pub record IsHolder (harts : List HartState) (groups : List ℕ) (hart : ℕ) (rights : Rights)
    (other : ℕ) : Type 0 where
  pub inside : other < length harts
  pub alike : stands_for groups hart other ≡ true
  pub holds : Holds (held_by (slice_index_or harts other no_hart)) rights

-- one does
abbrev pub HasHolder : List HartState → List ℕ → ℕ → Rights → Type 0
HasHolder harts groups hart rights = (other : ℕ) × IsHolder harts groups hart rights other
