-- What was found is an answer.
use Rattle.std.proofs.Common.{◌≡◌, ℕ, List, [], Bool, true, Option, Result, Ok, Err, IfOk, IfErr, refl, sym, ap, ◌∙◌, subst}
use Rattle.std.specs.Prelude.{Some, slice_get}
use Rattle.std.proofs.lemmas.Bool.{eq-eqb}
use Rattle.std.proofs.lemmas.Option.{slice_get_within}
use Rattle.asked_registers.specs.Asked.{HasAsked, items_ask}
use Rattle.cheri_model.specs.runs.Image.{ImageParts}
use Rattle.cheri_model.specs.runs.Machine.{MachineState}
use Rattle.cheri_model.specs.runs.Replay.{replayed_state}
use Rattle.conditions.specs.Items.{ItemList}
use Rattle.conditions.specs.declared.parts.Shown.{Shown}
use Rattle.forgotten_runs.specs.ForgottenRuns.{forgotten_state}
use Rattle.forgotten_states.proofs.SurveyLemmas.{all_there}
use Rattle.forgotten_states.specs.Surveys.{IsSurvey, SurveyParts, at, count}
use Rattle.hart_order.specs.Arrangements.{IsUngrouped, group_of}
use Rattle.hart_order.specs.GroupedTurns.{keeps_number}
use Rattle.hart_symmetry.specs.Named.{NamedStay}
use Rattle.hart_symmetry.specs.Renaming.{IsRenaming}
use Rattle.live_registers.specs.LiveSets.{LiveSets}
use Rattle.named_items.specs.NamedItems.{items_name}
use Rattle.outcomes.proofs.RestLemmas.{final_rests}
use Rattle.outcomes.specs.Items.{values_of}
use Rattle.outcomes.specs.Outcomes.{AreOutcomesBelow, is_final}
use Rattle.outcomes.specs.Rows.{AreRows, values_at}
use Rattle.outcomes.specs.declared.items.ItemValue.{ItemValue}
use Rattle.outcomes.specs.declared.rows.Row.{Row}
use Rattle.outcome_texts.proofs.ListedLemmas.{reduced_is}
use Rattle.outcome_texts.specs.OutcomeParts.{shown_whole}
use Rattle.outcome_texts.specs.declared.told.ShownRow.{ShownRow}
use Rattle.shown_states.specs.Endings.{IsUnwritten, IsWritten, ending_of}
use Rattle.shown_states.specs.Meant.{state_meant}
use Rattle.shown_states.specs.declared.form.Ending.{Ending}
use Rattle.shown_states.specs.declared.form.Format.{Format}
use Rattle.sinks.specs.declared.fault.WriteFault.{WriteFault}
use Rattle.sinks.specs.declared.fault.WriteFault.TheVariants.{Write, NoMemory}
use Rattle.state_loops.specs.declared.endless.Endless.{Endless}
use Rattle.states.specs.Searches.{SearchParts}
use Rattle.forgotten_outcomes.proofs.ForgetLemmas.{final_renamed, final_same, values_renamed, values_same}
use Rattle.forgotten_outcomes.proofs.ToldLemmas.{told_at, values_left}
use Rattle.forgotten_outcomes.specs.ShownStates.{AreAllShown, AreFinalRows, AreRowsTold, IsReducedShownAnswer, IsRowTold, IsSurveyed}

-- the first nodes of rows are outcomes
pub rows_final : {X : Type 0} (survey : SurveyParts) (value : ℕ → X) (numbers : List ℕ) (rows : List Row) →
    AreOutcomesBelow (at survey) (count survey) numbers → AreRows value numbers rows → AreFinalRows survey rows
rows_final survey value numbers rows are distinct k row is =
    let first = (distinct.each k row is).listed in are.each first.0 row.first first.1

-- where no hart is of a group each that items name stays
pub none_moves : (groups : List ℕ) (items : List Shown) → IsUngrouped groups → NamedStay (keeps_number groups) (items_name items)
none_moves groups items none hart names = eq-eqb (group_of groups hart) 0 (none hart)

-- ---- each final state has a row

module _ (survey : SurveyParts) (is : IsSurvey survey) (items : List Shown) (asked : HasAsked survey.live.asked (items_ask items))
    (named : NamedStay (keeps_number survey.groups) (items_name items)) (numbers : List ℕ) (rows : List Row) (told : List ShownRow)
    (outcomes : AreOutcomesBelow (at survey) (count survey) numbers)
    (distinct : AreRows (values_at (at survey) items) numbers rows) (are : AreRowsTold survey items rows told) where
  -- a node that a state forgets to be, in some order of harts of a group
  abbrev IsLike : MachineState → MachineState → Type 0
  IsLike s r = IsRenaming (keeps_number survey.groups) (forgotten_state survey.live s) r

  -- what items hold in such a node is what they hold in the state
  node_values : (number : ℕ) (s r : MachineState) → IsLike s r → at survey number ≡ Some r →
      values_at (at survey) items number ≡ values_of items s
  unfolding values_at
  node_values number s r like there =
      ap (λ (o : Option MachineState). values_of items (state_meant o)) there
      ∙ (values_renamed (keeps_number survey.groups) items named (forgotten_state survey.live s) r like
      ∙ values_same survey.image.program survey.live is.right s items asked)

  -- what was told of a row is what items hold in its first node
  told_values : (row : Row) (t : ShownRow) → IsRowTold survey items row t → t.values.items ≡ values_at (at survey) items row.first
  told_values row t of_row =
      of_row.values
      ∙ sym (values_left survey items row.first of_row.node of_row.order is asked (λ hart names. named hart names) of_row.there of_row.leads)

  row_shown : (k : ℕ) (row : Row) (values : List ItemValue) → slice_get rows k ≡ Some row →
      values_at (at survey) items row.first ≡ values →
      (k : ℕ) × (t : ShownRow) × (slice_get told k ≡ Some t) × (t.values.items ≡ values)
  row_shown k row values there same =
      let shown = told_at survey items rows told k row are there in
      (k, shown.0, shown.1, told_values row shown.0 shown.2 ∙ same)

  -- of the node of a state in which no hart runs
  node_shown : (number : ℕ) (s r : MachineState) → IsLike s r → at survey number ≡ Some r → is_final s ≡ true →
      (k : ℕ) × (row : ShownRow) × (slice_get told k ≡ Some row) × (row.values.items ≡ values_of items s)
  node_shown number s r like there final =
      let below = slice_get_within survey.states number r there in
      let stopped = final_renamed (keeps_number survey.groups) (forgotten_state survey.live s) r like
      ∙ (final_same survey.live s ∙ final) in
      let one = outcomes.all number r below there stopped in
      let row = distinct.all one.0 number one.1 in
      row_shown row.0 row.1 (values_of items s) row.2 (row.3 ∙ node_values number s r like there)

  pub all_shown : survey.complete ≡ true → AreAllShown survey.image items told
  all_shown done order allowed legal final =
      let s = replayed_state survey.image order in
      let there = all_there survey is done order allowed legal in
      let like : IsLike s there.0 =
      subst (λ (t : MachineState). IsLike t there.0) (final_rests survey.image [] survey.sight s final) there.1 in
      node_shown there.2.0 s there.0 like there.2.1 final

-- ---- of lists as slices

pub rows_distinct : (survey : SurveyParts) (items shown : List Shown) (numbers outcomes : List ℕ) (rows : List Row) → shown ≡ items →
    outcomes ≡ numbers → AreRows (values_at (at survey) shown) outcomes rows → AreRows (values_at (at survey) items) numbers rows
rows_distinct survey items shown numbers outcomes rows shown_is outcomes_are distinct =
    subst (λ (ns : List ℕ). AreRows (values_at (at survey) items) ns rows) outcomes_are
    (subst (λ (i : List Shown). AreRows (values_at (at survey) i) outcomes rows) shown_is distinct)

pub rows_known : (survey : SurveyParts) (items shown : List Shown) (rows given : List Row) (told shown_rows : List ShownRow) →
    shown ≡ items → given ≡ rows → shown_rows ≡ told → AreRowsTold survey shown given told → AreRowsTold survey items rows shown_rows
rows_known survey items shown rows given told shown_rows shown_is given_are rows_are known =
    subst (λ (ts : List ShownRow). AreRowsTold survey items rows ts) (sym rows_are)
    (subst (λ (rs : List Row). AreRowsTold survey items rs told) given_are
    (subst (λ (i : List Shown). AreRowsTold survey i given told) shown_is known))

-- ---- answers

-- what is said of what was found is an answer
pub reduced_said : (search : SearchParts) (live : LiveSets) (groups : List ℕ) (items : ItemList) (format : Format)
    (survey : SurveyParts) (endless told : Endless) (numbers : List ℕ)
    (rows : List Row) (shown_rows : List ShownRow) (reduced complete : Bool) (image : ImageParts) (states outcomes : ℕ)
    (names : List (List ℕ)) → IsSurveyed search live groups survey endless numbers → HasAsked live.asked (items_ask items.shown) →
    IsUngrouped groups → AreRows (values_at (at survey) items.shown) numbers rows →
    AreRowsTold survey items.shown rows shown_rows → reduced ≡ true →
    complete ≡ survey.complete → image ≡ survey.image → states ≡ count survey → told ≡ endless → names ≡ items.names →
    IsReducedShownAnswer search items live groups format
    (shown_whole format reduced complete image states told outcomes names shown_rows) (ending_of survey.complete)
reduced_said search live groups items format survey endless told numbers rows shown_rows reduced complete image states outcomes names
    surveyed asked ungrouped distinct rows_told forgot complete_is image_is states_are told_is names_are =
    let asked_there = subst (λ (l : LiveSets). HasAsked l.asked (items_ask items.shown)) (sym surveyed.survey_is.live_is) asked in
    let ungrouped_there = subst IsUngrouped (sym surveyed.survey_is.groups_are) ungrouped in
    record {
      survey = survey;
      endless = endless;
      numbers = numbers;
      surveyed = surveyed;
      rows = rows;
      distinct = distinct;
      shown_rows = shown_rows;
      told = rows_told;
      all = all_shown survey surveyed.nodes items.shown asked_there (none_moves survey.groups items.shown ungrouped_there) numbers rows
          shown_rows surveyed.outcomes distinct rows_told;
      text_is =
          rw (forgot, complete_is, image_is, states_are, told_is, names_are)
          (sym (reduced_is format items.names survey.complete survey.image (count survey) endless outcomes shown_rows));
      ending_is = refl;
    }

-- a sink has one answer where it has another that is one
pub written_as : (IsSo IsToo : List ℕ → Ending → Type 0) (result : Result Ending WriteFault) (old new : Option (List ℕ)) →
    ((text : List ℕ) (ending : Ending) → IsSo text ending → IsToo text ending) →
    IfOk result (λ ending. IsWritten (λ text. IsSo text ending) old new) →
    IfOk result (λ ending. IsWritten (λ text. IsToo text ending) old new)
written_as IsSo IsToo (Ok ending) old new also is = (is.0, also is.0 ending is.1, is.2)
written_as IsSo IsToo (Err fault) old new also is = tt

pub begun_as : (IsSo IsToo : List ℕ → Ending → Type 0) (result : Result Ending WriteFault) (old new : Option (List ℕ)) →
    ((text : List ℕ) (ending : Ending) → IsSo text ending → IsToo text ending) →
    IfErr result (IsUnwritten (λ text. (ending : Ending) × IsSo text ending) old new) →
    IfErr result (IsUnwritten (λ text. (ending : Ending) × IsToo text ending) old new)
begun_as IsSo IsToo (Ok ending) old new also is = tt
begun_as IsSo IsToo (Err Write) old new also is = (is.0, (is.1.0, also is.0 is.1.0 is.1.1), is.2)
begun_as IsSo IsToo (Err NoMemory) old new also is = is
