-- What the search for outcomes answers.
use Rattle.std.specs.Prelude.{◌≡◌, ℕ, List, length, slice_get, Some, true}
use Rattle.cheri_model.specs.declared.operation.Op.{Op}
use Rattle.cheri_model.specs.runs.Machine.{opening_state}
use Rattle.cheri_model.specs.runs.Replay.{is_legal, replayed_state}
use Rattle.conditions.specs.Items.{ItemList}
use Rattle.outcomes.specs.Outcomes.{AreOutcomes, is_final}
use Rattle.outcomes.specs.Rows.{AreRows, values_at}
use Rattle.outcomes.specs.declared.rows.Row.{Row}
use Rattle.outcome_texts.specs.OutcomeTexts.{listed, shown}
use Rattle.outcome_texts.specs.Told.{AreOutcomesTold, AreRowsTold}
use Rattle.outcome_texts.specs.declared.told.Outcome.{Outcome}
use Rattle.outcome_texts.specs.declared.told.ShownRow.{ShownRow}
use Rattle.outcome_texts.specs.declared.searching.Searched.{Searched}
use Rattle.explore_sights.specs.declared.sights.Sight.TheVariants.{NoStep}
use Rattle.schedules.specs.Schedules.{AreAllowed}
use Rattle.shown_states.specs.Endings.{ending_of}
use Rattle.shown_states.specs.declared.form.Ending.{Ending}
use Rattle.shown_states.specs.declared.form.Format.{Format}
use Rattle.state_loops.specs.Endless.{IsEndless}
use Rattle.state_loops.specs.declared.endless.Endless.{Endless}
use Rattle.states.specs.Kept.{KeptParts, at, IsKeptOf, IsSearch}
use Rattle.states.specs.Searches.{SearchParts}

-- every legal order of steps and of these sweeps, of any length, after which no hart runs leads to
-- a state that is listed
abbrev pub AreAllListed : KeptParts → List ℕ → Type 0
AreAllListed kept numbers = (order : List Op) → AreAllowed kept.sweeps order →
    is_legal kept.image (opening_state kept.image) order ≡ true →
    is_final (replayed_state kept.image order) ≡ true →
    (k n : ℕ) × (slice_get numbers k ≡ Some n)
    × (at kept n ≡ Some (replayed_state kept.image order))

-- What a search found: the kept states, whether runs through them can go on for ever, and the
-- outcomes among them; where the kept states are all, so are the outcomes.
pub record IsSearched (search : SearchParts) (kept : KeptParts) (endless : Endless)
    (numbers : List ℕ) : Type 0 where
  pub kept_of : IsKeptOf search NoStep kept
  pub limit_is : kept.limit ≡ search.limit
  pub searched : IsSearch kept
  pub forever : IsEndless kept endless
  pub outcomes : AreOutcomes kept numbers
  pub all : kept.complete ≡ true → AreAllListed kept numbers

abbrev pub IsFound : SearchParts → Searched → Type 0
IsFound search found = IsSearched search found.kept found.endless found.outcomes.items

-- The answer: each outcome, with its witness.
pub record IsListedAnswer (search : SearchParts) (format : Format) (text : List ℕ)
    (ending : Ending) : Type 0 where
  pub kept : KeptParts
  pub endless : Endless
  pub numbers : List ℕ
  pub searched : IsSearched search kept endless numbers
  pub outcomes : List Outcome
  pub told : AreOutcomesTold kept numbers outcomes
  pub text_is : text ≡ listed format kept endless outcomes
  pub ending_is : ending ≡ ending_of kept.complete

-- The answer where items are shown: each distinct row of what they hold in outcomes, with just as
-- many outcomes as have it, and the witness of the first of these.
pub record IsShownAnswer (search : SearchParts) (items : ItemList) (format : Format)
    (text : List ℕ) (ending : Ending) : Type 0 where
  pub kept : KeptParts
  pub endless : Endless
  pub numbers : List ℕ
  pub searched : IsSearched search kept endless numbers
  pub rows : List Row
  pub distinct : AreRows (values_at (at kept) items.shown) numbers rows
  pub shown_rows : List ShownRow
  pub told : AreRowsTold kept items.shown rows shown_rows
  pub text_is : text ≡ shown format items.names kept endless (length numbers) shown_rows
  pub ending_is : ending ≡ ending_of kept.complete
