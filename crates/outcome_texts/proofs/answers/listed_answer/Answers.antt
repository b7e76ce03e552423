use Rattle.std.proofs.Common.{length, ap, sym, ◌∙◌, subst, List, ℕ, arith}
use Rattle.cheri_model.specs.runs.Image.{ImageParts}
use Rattle.cheri_model.specs.runs.Machine.{MachineState, opening_state}
use Rattle.states.specs.Searches.{search_of}
use Rattle.states.specs.Kept.{count}
use Rattle.states.proofs.OpeningLemmas.{opening_granules, opening_harts}
use Rattle.shown_states.specs.Endings.{ending_of}
use Rattle.outcome_texts.specs.Answers.{IsListedAnswer}
use Rattle.outcome_texts.specs.Told.{AreOutcomesTold}
use Rattle.outcome_texts.specs.declared.told.Outcome.{Outcome}
use Rattle.outcome_texts.proofs.ToldLemmas.{told_below}
use Rattle.outcome_texts.proofs.AnswerLemmas.{outcomes_below, listed_said, said_as}
use Rattle.outcome_texts.proofs.answers.listed_answer.Goals as goal

pub outcomes_told-requires : goal.outcomes_told-requires
outcomes_told-requires c =
    rw c.as_slice.ensures.value
    (outcomes_below c.args.searched.now.kept c.args.searched.now.outcomes.items c.requires.found.outcomes)

pub listed_text-requires-clause-there : goal.listed_text-requires-clause-there
listed_text-requires-clause-there c =
    let kept = c.args.searched.now.kept in
    let numbers = c.args.searched.now.outcomes.items in
    rw c.as_slice-2.ensures.value
    (told_below kept (count kept) numbers c.in_ok-told.told.items (outcomes_below kept numbers c.requires.found.outcomes)
    (subst (λ (ns : List ℕ). AreOutcomesTold kept ns c.in_ok-told.told.items) c.as_slice.ensures.value c.in_ok-told.ensures))

pub listed_text-requires-clause-harts : goal.listed_text-requires-clause-harts
listed_text-requires-clause-harts c =
    let opening = ap (λ (i : ImageParts). opening_state i) (sym c.requires.found.kept_of.image_is) in
    ap (λ (s : MachineState). length s.harts) (c.in_ok-state.ensures ∙ (c.view-view.ensures.state ∙ (c.requires.opening ∙ opening)))
    ∙ opening_harts c.args.searched.now.kept.image

pub listed_text-requires-clause-granules : goal.listed_text-requires-clause-granules
listed_text-requires-clause-granules c =
    let opening = ap (λ (i : ImageParts). opening_state i) (sym c.requires.found.kept_of.image_is) in
    let size = ap (λ (s : MachineState). length s.memory) (c.in_ok-state.ensures ∙ (c.view-view.ensures.state ∙ (c.requires.opening ∙ opening))) in
    let formed = rw c.image.ensures at c.granules-granules.ensures.formed in
    let granules = opening_granules c.args.searched.now.kept.image formed in
    omega (arith, size, granules)

pub returns : goal.returns
returns c =
    let search = search_of c.args.search.now in
    let kept = c.args.searched.now.kept in
    let numbers = c.args.searched.now.outcomes.items in
    said_as (IsListedAnswer search c.args.format) _ _ _ (ending_of kept.complete)
    (listed_said search kept c.args.searched.now.endless _ numbers c.args.format c.as_slice-2.result.now _ _ _ c.requires.found
    (subst (λ (ts : List Outcome). AreOutcomesTold kept numbers ts) (sym c.as_slice-2.ensures.value)
    (subst (λ (ns : List ℕ). AreOutcomesTold kept ns c.in_ok-told.told.items) c.as_slice.ensures.value c.in_ok-told.ensures))
    c.head_of-head.ensures.complete c.head_of-head.ensures.image c.head_of-head.ensures.states c.head_of-head.ensures.endless)
    c.in_ok-text.ensures c.ending-ending.ensures
