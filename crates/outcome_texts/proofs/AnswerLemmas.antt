-- What was found is an answer.
use Rattle.std.proofs.Common.{◌≡◌, ℕ, List, length, Bool, true, false, refl, sym, ◌∙◌, subst}
use Rattle.cheri_model.specs.runs.Image.{ImageParts}
use Rattle.cheri_model.specs.runs.Machine.{MachineState}
use Rattle.cheri_model.specs.runs.Replay.{replayed_state}
use Rattle.conditions.specs.Items.{ItemList}
use Rattle.conditions.specs.declared.parts.Shown.{Shown}
use Rattle.outcomes.specs.Outcomes.{AreOutcomes}
use Rattle.outcomes.specs.Rows.{AreRows, values_at}
use Rattle.outcomes.specs.declared.rows.Row.{Row}
use Rattle.outcomes.proofs.OutcomeLemmas.{at_within}
use Rattle.outcome_texts.specs.Answers.{IsSearched, IsListedAnswer, IsShownAnswer}
use Rattle.outcome_texts.specs.OutcomeTexts.{shown}
use Rattle.outcome_texts.specs.OutcomeParts.{listed_whole, shown_whole}
use Rattle.outcome_texts.proofs.ListedLemmas.{listed_is, shown_is}
use Rattle.outcome_texts.proofs.ToldLemmas.{all_below, all_rows_below}
use Rattle.outcome_texts.specs.Told.{AreBelow, AreRowsBelow, AreOutcomesTold, AreRowsTold}
use Rattle.outcome_texts.specs.declared.told.Outcome.{Outcome}
use Rattle.outcome_texts.specs.declared.told.ShownRow.{ShownRow}
use Rattle.explore_sights.specs.declared.sights.Sight.TheVariants.{NoStep}
use Rattle.graph_search.specs.Trees.{IsFound}
use Rattle.outcomes.proofs.RestLemmas.{final_rests}
use Rattle.shown_states.specs.Endings.{ending_of}
use Rattle.shown_states.specs.declared.form.Ending.{Ending}
use Rattle.shown_states.specs.declared.form.Format.{Format}
use Rattle.state_loops.specs.Endless.{IsEndless, IsSame}
use Rattle.state_loops.specs.declared.endless.Endless.{Endless}
use Rattle.states.specs.Kept.{KeptParts, count, at, IsKeptOf, IsSearch, AreAllKept}
use Rattle.states.specs.Searches.{SearchParts}

pub searched_is : (search : SearchParts) (old kept : KeptParts) (endless : Endless) (numbers : List ℕ) (complete : Bool)
    → IsKeptOf search NoStep old → old.limit ≡ search.limit → IsSame old kept → IsSearch kept → IsEndless kept endless
    → AreOutcomes kept numbers → complete ≡ kept.complete → (complete ≡ true → AreAllKept kept) → IsSearched search kept endless numbers
searched_is search old kept endless numbers complete kept_of limit_is same searched forever outcomes complete_is all = record {
  kept_of = record {
    image_is = same.image ∙ kept_of.image_is;
    sweeps_are = same.sweeps ∙ kept_of.sweeps_are;
    sight_is = same.sight ∙ kept_of.sight_is;
  };
  limit_is = same.limit ∙ limit_is;
  searched = searched;
  forever = forever;
  outcomes = outcomes;
  all = λ whole order allowed legal final.
      let state = replayed_state kept.image order in
      let rested = all (complete_is ∙ whole) order allowed legal in
      let rests = final_rests kept.image kept.sweeps kept.sight state final in
      let there = subst (λ (s : MachineState). IsFound (at kept) s) rests rested in
      let within = at_within kept there.0 (replayed_state kept.image order) there.1 in
      let one = outcomes.all there.0 (replayed_state kept.image order) within there.1 final in (one.0, there.0, one.1, there.1);
}

-- an answer in other words
pub said_as : (IsSo : List ℕ → Ending → Type 0) (text said : List ℕ) (ending told : Ending) → IsSo said told → text ≡ said → ending ≡ told
    → IsSo text ending
said_as IsSo text said ending told so text_is ending_is = rw (text_is, ending_is) so

-- outcomes are kept states, and so are the first ones of rows
pub outcomes_below : (kept : KeptParts) (numbers : List ℕ) → AreOutcomes kept numbers → AreBelow (count kept) numbers
outcomes_below kept numbers are = all_below (count kept) numbers (λ k n is. (are.each k n is).0)

pub rows_below : {X : Type 0} (kept : KeptParts) (value : ℕ → X) (numbers : List ℕ) (rows : List Row) → AreOutcomes kept numbers
    → AreRows value numbers rows → AreRowsBelow (count kept) rows
rows_below kept value numbers rows are distinct =
    all_rows_below (count kept) rows (λ k r is.
    let first = (distinct.each k r is).listed in (are.each first.0 r.first first.1).0)

-- ---- outcomes as states

pub listed_said : (search : SearchParts) (kept : KeptParts) (endless told : Endless) (numbers : List ℕ) (format : Format)
    (outcomes : List Outcome) (complete : Bool) (image : ImageParts) (states : ℕ) → IsSearched search kept endless numbers
    → AreOutcomesTold kept numbers outcomes → complete ≡ kept.complete → image ≡ kept.image → states ≡ count kept → told ≡ endless
    → IsListedAnswer search format (listed_whole format complete image states told kept outcomes) (ending_of kept.complete)
listed_said search kept endless told numbers format outcomes complete image states searched outcomes_told complete_is image_is states_are told_is =
    record {
      kept = kept;
      endless = endless;
      numbers = numbers;
      searched = searched;
      outcomes = outcomes;
      told = outcomes_told;
      text_is = rw (complete_is, image_is, states_are, told_is) (sym (listed_is format kept endless outcomes));
      ending_is = refl;
    }

-- ---- outcomes as rows

-- of lists as slices
pub rows_distinct : (kept : KeptParts) (items shown : List Shown) (numbers outcomes : List ℕ) (rows : List Row) → shown ≡ items
    → outcomes ≡ numbers → AreRows (values_at (at kept) shown) outcomes rows → AreRows (values_at (at kept) items) numbers rows
rows_distinct kept items shown numbers outcomes rows shown_is outcomes_are distinct =
    subst (λ (ns : List ℕ). AreRows (values_at (at kept) items) ns rows) outcomes_are
    (subst (λ (i : List Shown). AreRows (values_at (at kept) i) outcomes rows) shown_is distinct)

pub rows_known : (kept : KeptParts) (items shown : List Shown) (rows given : List Row) (told shown_rows : List ShownRow) → shown ≡ items
    → given ≡ rows → shown_rows ≡ told → AreRowsTold kept shown given told → AreRowsTold kept items rows shown_rows
rows_known kept items shown rows given told shown_rows shown_is given_are rows_are known =
    subst (λ (ts : List ShownRow). AreRowsTold kept items rows ts) (sym rows_are)
    (subst (λ (rs : List Row). AreRowsTold kept items rs told) given_are
    (subst (λ (i : List Shown). AreRowsTold kept i given told) shown_is known))

pub shown_said : (search : SearchParts) (kept : KeptParts) (items : ItemList) (endless told : Endless) (numbers : List ℕ) (format : Format) (rows : List Row)
    (shown_rows : List ShownRow) (reduced complete : Bool) (image : ImageParts) (states outcomes : ℕ) (names : List (List ℕ))
    → IsSearched search kept endless numbers → AreRows (values_at (at kept) items.shown) numbers rows
    → AreRowsTold kept items.shown rows shown_rows → reduced ≡ false → complete ≡ kept.complete → image ≡ kept.image → states ≡ count kept → told ≡ endless
    → outcomes ≡ length numbers → names ≡ items.names
    → IsShownAnswer search items format
    (shown_whole format reduced complete image states told outcomes names shown_rows) (ending_of kept.complete)
shown_said search kept items endless told numbers format rows shown_rows reduced complete image states outcomes names searched distinct rows_told
    nothing
    complete_is image_is states_are told_is outcomes_are names_are =
    record {
      kept = kept;
      endless = endless;
      numbers = numbers;
      searched = searched;
      rows = rows;
      distinct = distinct;
      shown_rows = shown_rows;
      told = rows_told;
      text_is =
          rw (nothing, complete_is, image_is, states_are, told_is, outcomes_are, names_are)
          (sym (shown_is format items.names kept endless (length numbers) shown_rows));
      ending_is = refl;
    }
