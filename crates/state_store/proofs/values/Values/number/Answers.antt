use Rattle.std.proofs.Common.{◌≡◌, ◌≢◌, ℕ, List, ◌∷◌, [], ◌++◌, ap, sym, ◌∙◌, subst, inl, refl, Some, slice_get, length}
use Rattle.cap_model.specs.values.CapValue.{CapValue}
use Rattle.interner.specs.Rows.{IsInterned}
use Rattle.state_store.specs.Numbered.{IsNumbered}
use Rattle.state_store.specs.Values.{row_of, IsValues}
use Rattle.state_store.proofs.NumberedLemmas.{numbered_extends}
use Rattle.state_store.proofs.ValueLemmas.{found_value, values_more, numbered_last}
use Rattle.state_store.proofs.values.Values.number.Goals as goal

pub returns-in-Some-clause-numbered : goal.returns-in-Some-clause-numbered
returns-in-Some-clause-numbered c = (
  sym (ap (λ (vs : List CapValue). slice_get vs c.in-Some.number) c.self.view_is)
      ∙ found_value c.self.inside.rows c.self.inside.values.items c.args.value c.in-Some.number c.self.invariant
      c.row_of-row.ensures.lawful (c.in-Some.ensures.found ∙ ap (λ (r : List ℕ). Some r) c.row_of-row.ensures.row),
  inl refl,
)

pub invariant_of-self-in-Ok : goal.invariant_of-self-in-Ok
invariant_of-self-in-Ok c =
    let absent : (i : ℕ) → slice_get c.self.inside.rows.rows i ≢ Some (row_of c.args.value) =
    λ i at. c.find.ensures.absent c.in_default.is i (at ∙ ap (λ (r : List ℕ). Some r) (sym c.row_of-row.ensures.row)) in
    let interned = subst (λ (r : List ℕ). IsInterned c.self.inside.rows c.insert.new.self r c.in-Ok.number)
    c.row_of-row.ensures.row c.in-Ok.ensures.interned in
    subst (λ (vs : List CapValue). IsValues c.insert.new.self vs) (sym c.in_ok-push.ensures.items)
    (values_more c.self.inside.rows c.insert.new.self c.self.inside.values.items c.args.value c.in-Ok.number
    c.self.invariant c.row_of-row.ensures.lawful absent interned).0

numbered : goal.returns-in-Ok-clause-numbered
numbered c =
    let absent : (i : ℕ) → slice_get c.self.inside.rows.rows i ≢ Some (row_of c.args.value) =
    λ i at. c.find.ensures.absent c.in_default.is i (at ∙ ap (λ (r : List ℕ). Some r) (sym c.row_of-row.ensures.row)) in
    let interned = subst (λ (r : List ℕ). IsInterned c.self.inside.rows c.insert.new.self r c.in-Ok.number)
    c.row_of-row.ensures.row c.in-Ok.ensures.interned in
    let more = values_more c.self.inside.rows c.insert.new.self c.self.inside.values.items c.args.value c.in-Ok.number
    c.self.invariant c.row_of-row.ensures.lawful absent interned in
    subst (λ (vs : List CapValue). IsNumbered c.args.self.now vs c.args.value c.in-Ok.number) (sym c.in_ok-push.ensures.items)
    (subst (λ (vs : List CapValue). IsNumbered vs (c.self.inside.values.items ++ c.args.value ∷ []) c.args.value c.in-Ok.number)
    c.self.view_is (numbered_last c.self.inside.values.items c.args.value c.in-Ok.number more.1))

pub returns-in-Ok-clause-numbered : goal.returns-in-Ok-clause-numbered
returns-in-Ok-clause-numbered c = numbered c

pub returns-in-Ok-clause-kept : goal.returns-in-Ok-clause-kept
returns-in-Ok-clause-kept c i x is =
    numbered_extends c.args.self.now c.push.new.self.items c.args.value c.in-Ok.number (numbered c) i x is
