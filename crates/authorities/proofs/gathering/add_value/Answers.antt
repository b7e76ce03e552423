use Rattle.std.proofs.Common.{◌≡◌, ◌∷◌, [], List, ap, sym, ◌∙◌, subst}
use Rattle.std.specs.Prelude.{true, false}
use Rattle.cap_model.specs.values.CapValue.{tag_of}
use Rattle.explore_rights.specs.declared.rights.Rights.{Rights}
use Rattle.authorities.specs.declared.rights.Authority.{Authority}
use Rattle.explore_rights.specs.Rights.{rights_of}
use Rattle.authorities.specs.Gathering.{Gathers, with_rights}
use Rattle.authorities.proofs.GatherLemmas.{gathers_untagged, gathers_tagged}
use Rattle.authorities.proofs.gathering.add_value.Goals as goal

pub returns-then-not-tag : goal.returns-then-not-tag
returns-then-not-tag c =
    let untagged : tag_of c.value.result ≡ false =
    sym (c.tag.ensures.value ∙ ap tag_of c.of_value-cap.ensures) ∙ c.if-not-tag.true in
    gathers_untagged c.args.store.now.values c.args.id c.args.state c.value.result c.args.greatest.now.items
    c.value.ensures untagged c.requires.apart

pub returns : goal.returns
returns c =
    let tagged : tag_of c.value.result ≡ true =
    sym (c.tag.ensures.value ∙ ap tag_of c.of_value-cap.ensures) ∙ c.if-not-tag.false in
    let same : c.of.result ≡ rights_of c.value.result = c.of.ensures ∙ ap rights_of c.of_value-cap.ensures in
    let made : c.add.new.greatest.items ≡ with_rights c.args.greatest.now.items (rights_of c.value.result) c.args.state =
    c.in_ok-add.ensures ∙ ap (λ (r : Rights). with_rights c.args.greatest.now.items r c.args.state) same in
    subst (λ (zs : List Authority). Gathers c.args.store.now.values (c.args.id ∷ []) c.args.state
    c.args.greatest.now.items zs) (sym made)
    (gathers_tagged c.args.store.now.values c.args.id c.args.state c.value.result c.args.greatest.now.items
    c.value.ensures tagged c.requires.apart)
