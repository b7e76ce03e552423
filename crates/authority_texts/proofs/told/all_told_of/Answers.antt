use Rattle.std.proofs.Common.{List, [], ◌∷◌, ◌++◌, take, ap, sym, ◌∙◌, subst}
use Rattle.std.specs.Prelude.{Vec}
use Rattle.std.specs.Global.{Global}
use Rattle.std.proofs.lemmas.List.{take_more}
use Rattle.authorities.specs.declared.rights.Authority.{Authority}
use Rattle.authority_texts.specs.Told.{AreTold, AreAllTold}
use Rattle.authority_texts.specs.declared.told.Told.{Told}
use Rattle.authority_texts.proofs.ToldLemmas.{all_told_more}
use Rattle.authority_texts.proofs.told.all_told_of.Goals as goal

pub loop-list-preserved : goal.loop-list-preserved
loop-list-preserved c =
    let i = c.loop-list.list-index in
    let a = c.list-item.result in
    let more = take_more c.args.lists.now i a c.loop-list-test.true in
    subst (λ (xs : List (Vec Authority Global)). AreAllTold c.args.kept.now xs c.push.new.self.items)
    (ap (λ (x : Vec Authority Global). take i c.args.lists.now ++ x ∷ []) c.list-item.is ∙ sym more)
    (subst (λ (ts : List (Vec Told Global)). AreAllTold c.args.kept.now (take i c.args.lists.now ++ a ∷ []) ts)
    (sym c.in_ok-push.ensures.items)
    (all_told_more c.args.kept.now (take i c.args.lists.now) c.loop-list.told.items a c.in_ok-told_of.field-0
    c.loop-list.invariant
    (subst (λ (xs : List Authority). AreTold c.args.kept.now xs c.in_ok-told_of.field-0.items) c.as_slice.ensures.value
    c.in_ok-told_of.ensures)))
