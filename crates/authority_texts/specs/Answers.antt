-- What the search for the greatest rights answers.
use Rattle.std.specs.Prelude.{◌≡◌, ℕ, List, length, slice_get, Some, true, Vec}
use Rattle.std.specs.Global.{Global}
use Rattle.authorities.specs.Authorities.{AreGreatest, hart_values, memory_values}
use Rattle.explore_rights.specs.Rights.{is_within}
use Rattle.explore_rights.specs.Held.{Holds}
use Rattle.authorities.specs.declared.rights.Authority.{Authority}
use Rattle.explore_rights.specs.declared.rights.Rights.{Rights}
use Rattle.cap_model.specs.values.CapValue.{CapValue}
use Rattle.cheri_model.specs.declared.operation.Op.{Op}
use Rattle.cheri_model.specs.runs.Image.{ImageParts}
use Rattle.cheri_model.specs.runs.Machine.{MachineState, opening_state}
use Rattle.cheri_model.specs.runs.Replay.{is_legal, replayed_state}
use Rattle.explore_sights.specs.declared.sights.Sight.TheVariants as sights
use Rattle.schedules.specs.declared.ranges.SweepRange.{SweepRange}
use Rattle.schedules.specs.Schedules.{AreAllowed}
use Rattle.shown_states.specs.Endings.{ending_of}
use Rattle.shown_states.specs.declared.form.Ending.{Ending}
use Rattle.shown_states.specs.declared.form.Format.{Format}
use Rattle.states.specs.Kept.{KeptParts, count, at, IsKeptOf, IsSearch}
use Rattle.states.specs.Searches.{SearchParts}
use Rattle.authority_texts.specs.AuthorityTexts.{said}
use Rattle.authority_texts.specs.Told.{AreTold, AreAllTold}
use Rattle.authority_texts.specs.declared.told.Told.{Told}

-- What is held after any legal order of steps and of these sweeps, of any length, lies within one
-- of the list.
abbrev pub AreBounds : ImageParts → List SweepRange → (MachineState → List CapValue) →
    List Authority → Type 0
AreBounds image sweeps values list = (order : List Op) → AreAllowed sweeps order →
    is_legal image (opening_state image) order ≡ true →
    (r : Rights) → Holds (values (replayed_state image order)) r →
    (k : ℕ) × (a : Authority) × (slice_get list k ≡ Some a) × (is_within r a.rights ≡ true)

-- The greatest rights of each hart, and of memory, over the kept states; where these are all, no
-- order gives more.
pub record AreFound (kept : KeptParts) (harts : List (Vec Authority Global))
    (memory : List Authority) : Type 0 where
  pub one_each : length harts ≡ length kept.image.harts
  pub of_hart : (number : ℕ) (list : Vec Authority Global) → slice_get harts number ≡ Some list →
      AreGreatest (at kept) (hart_values number) list.items
  pub of_memory : AreGreatest (at kept) memory_values memory
  pub hart_bounds : kept.complete ≡ true → (number : ℕ) (list : Vec Authority Global) →
      slice_get harts number ≡ Some list →
      AreBounds kept.image kept.sweeps (hart_values number) list.items
  pub memory_bounds : kept.complete ≡ true →
      AreBounds kept.image kept.sweeps memory_values memory

-- The answer: the greatest rights over the kept states, each with the witness of the first state in
-- which just these are held.
pub record IsAuthorityAnswer (search : SearchParts) (format : Format) (text : List ℕ)
    (ending : Ending) : Type 0 where
  pub kept : KeptParts
  pub kept_of : IsKeptOf search sights.Rights kept
  pub limit_is : kept.limit ≡ search.limit
  pub searched : IsSearch kept
  pub harts : List (Vec Authority Global)
  pub memory : List Authority
  pub found : AreFound kept harts memory
  pub told_harts : List (Vec Told Global)
  pub told_memory : List Told
  pub harts_told : AreAllTold kept harts told_harts
  pub memory_told : AreTold kept memory told_memory
  pub text_is : text ≡ said format kept.complete kept.image (count kept) told_harts told_memory
  pub ending_is : ending ≡ ending_of kept.complete
