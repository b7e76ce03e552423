use Rattle.std.proofs.Common.{List, sym, subst, ap, ◌∙◌}
use Rattle.shown_states.specs.Endings.{ending_of}
use Rattle.states.specs.Searches.{search_of}
use Rattle.std.specs.Prelude.{Vec}
use Rattle.std.specs.Global.{Global}
use Rattle.authorities.specs.declared.rights.Authority.{Authority}
use Rattle.authority_texts.specs.Told.{AreTold, AreAllTold}
use Rattle.authority_texts.specs.declared.told.Told.{Told}
use Rattle.authority_texts.proofs.AnswerLemmas.{answer_is, harts_known, memory_known}
use Rattle.authority_texts.proofs.answer.answer_of.Goals as goal

pub all_told_of-requires : goal.all_told_of-requires
all_told_of-requires c =
    rw c.as_slice.ensures.value
    (harts_known c.args.found.now.kept c.args.found.now.harts.items c.args.found.now.memory.items c.requires.found)

pub told_of-requires : goal.told_of-requires
told_of-requires c =
    rw c.as_slice-2.ensures.value
    (memory_known c.args.found.now.kept c.args.found.now.harts.items c.args.found.now.memory.items c.requires.found)

pub returns : goal.returns
returns c =
    let kept = c.args.found.now.kept in
    let harts = c.args.found.now.harts.items in
    let memory = c.args.found.now.memory.items in
    answer_is (search_of c.args.search.now) kept c.args.format harts memory c.as_slice-3.result.now c.as_slice-4.result.now _ _
    c.requires.kept_of c.requires.limit c.len-count.ensures.search c.requires.found
    (subst (λ (ts : List (Vec Told Global)). AreAllTold kept harts ts) (sym c.as_slice-3.ensures.value)
    (subst (λ (xs : List (Vec Authority Global)). AreAllTold kept xs c.in_ok-harts.harts.items) c.as_slice.ensures.value c.in_ok-harts.ensures))
    (subst (λ (ts : List Told). AreTold kept memory ts) (sym c.as_slice-4.ensures.value)
    (subst (λ (xs : List Authority). AreTold kept xs c.in_ok-memory.memory.items) c.as_slice-2.ensures.value c.in_ok-memory.ensures))
    (rw c.new-text.ensures.bytes at c.in_ok-write_said.ensures)
    (c.of_search-ending.ensures ∙ ap ending_of c.is_complete.ensures.complete)
