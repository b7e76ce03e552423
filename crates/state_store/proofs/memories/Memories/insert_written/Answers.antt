use Rattle.std.proofs.Common.{◌≡◌, ◌≢◌, ◌<◌, ℕ, List, [], ◌∷◌, ◌++◌, ap, sym, ◌∙◌, subst, arith, length, slice_get, Some}
use Rattle.std.specs.Prelude.{slice_set, slice_index_or}
use Rattle.std.proofs.lemmas.Grind.{common_steps}
use Rattle.std.proofs.lemmas.List.{take_at}
use Rattle.std.proofs.lemmas.Option.{slice_get-get_or, slice_get_within}
use Rattle.interner.specs.Rows.{Rows}
use Rattle.state_store.specs.Memories.{IsWrite, AreWrites}
use Rattle.state_store.proofs.NumberedLemmas.{interned_extends}
use Rattle.state_store.proofs.MemoryLemmas.{write_left, writes_kept, writes_more}
use Rattle.state_store.proofs.memories.Memories.insert_written.Goals as goal

pub returns-in-Some-clause-left : goal.returns-in-Some-clause-left
returns-in-Some-clause-left c =
    let writes = c.self.inside.writes.rows in
    let known = c.in-Some.known in
    let low = slice_get_within writes known (c.args.before ∷ c.args.place ∷ c.args.value ∷ []) c.in-Some.ensures.found in
    let within : known < length c.self.inside.after.items = omega (arith, c.self.invariant.as_many, low) in
    subst (λ (t : Rows). (row : List ℕ) → slice_get t.rows c.args.before ≡ Some row →
    slice_get t.rows c.index.result.now ≡ Some (slice_set row c.args.place c.args.value)) c.self.view_is
    (write_left c.self.inside.rows.rows c.self.inside.writes c.self.inside.after.items c.self.invariant known
    c.args.before c.args.place c.args.value c.index.result.now c.in-Some.ensures.found
    (slice_get-get_or c.self.inside.after.items known c.index.result.now within
    ∙ ap (λ (n : ℕ). Some n) (sym c.index.ensures)))

pub invariant_of-self-in_err-push : goal.invariant_of-self-in_err-push
invariant_of-self-in_err-push c =
    subst (λ (after : List ℕ). AreWrites c.insert.new.self.rows c.self.inside.writes after)
    (sym c.in_err-push.ensures.items)
    (writes_kept c.self.inside.rows.rows c.insert.new.self.rows c.self.inside.writes c.self.inside.after.items
    (interned_extends c.self.inside.rows c.insert.new.self c.as_slice.result.now c.in_ok-number.number
    c.in_ok-number.ensures.interned) c.self.invariant)

pub returns-in_err-push-clause-kept : goal.returns-in_err-push-clause-kept
returns-in_err-push-clause-kept c i x is =
    interned_extends c.self.inside.rows c.insert.new.self c.as_slice.result.now c.in_ok-number.number
    c.in_ok-number.ensures.interned i x (ap (λ (t : Rows). slice_get t.rows i) c.self.view_is ∙ is)

pub invariant_of-self-in-Ok : goal.invariant_of-self-in-Ok
invariant_of-self-in-Ok c =
    let kept = interned_extends c.self.inside.rows c.insert.new.self c.as_slice.result.now c.in_ok-number.number
    c.in_ok-number.ensures.interned in
    let row : List ℕ = c.in-Some-row.row.now in
    let copied : c.as_slice.result.now ≡ slice_set row c.args.place c.args.value = c.as_slice.ensures.value
    ∙ ap (λ (l : List ℕ). slice_set l c.args.place c.args.value) (c.in_ok-extend_from_slice.ensures.items
    ∙ ap (λ (l : List ℕ). l ++ row) c.clear.ensures.items) in
    let write : IsWrite c.insert.new.self.rows c.args.before c.args.place c.args.value c.in_ok-number.number = record {
      row = row;
      from = kept c.args.before row (sym c.in-Some-row.ensures);
      leaves = c.in_ok-number.ensures.interned.0 ∙ ap (λ (l : List ℕ). Some l) copied;
    } in
    subst (λ (after : List ℕ). AreWrites c.insert.new.self.rows c.insert-2.new.self after)
    (sym c.in_ok-push.ensures.items)
    (writes_more c.insert.new.self.rows c.self.inside.writes c.insert-2.new.self c.self.inside.after.items
    c.args.before c.args.place c.args.value c.in_ok-number.number c.in-Ok.field-0
    (writes_kept c.self.inside.rows.rows c.insert.new.self.rows c.self.inside.writes c.self.inside.after.items kept
    c.self.invariant) write (λ i at. c.find.ensures.absent c.in_default.is i at) c.in-Ok.ensures.interned)

pub invariant_of-self-in-Err : goal.invariant_of-self-in-Err
invariant_of-self-in-Err c =
    let same : c.pop.new.self.items ≡ c.self.inside.after.items = grind (arith, common_steps, take_at) in
    subst (λ (after : List ℕ). AreWrites c.insert.new.self.rows c.insert-2.new.self after) (sym same)
    (subst (λ (t : Rows). AreWrites c.insert.new.self.rows t c.self.inside.after.items)
    (sym c.in-Err.ensures.unchanged)
    (writes_kept c.self.inside.rows.rows c.insert.new.self.rows c.self.inside.writes c.self.inside.after.items
    (interned_extends c.self.inside.rows c.insert.new.self c.as_slice.result.now c.in_ok-number.number
    c.in_ok-number.ensures.interned) c.self.invariant))

pub returns-in-Ok-clause-kept : goal.returns-in-Ok-clause-kept
returns-in-Ok-clause-kept c i x is =
    interned_extends c.self.inside.rows c.insert.new.self c.as_slice.result.now c.in_ok-number.number
    c.in_ok-number.ensures.interned i x (ap (λ (t : Rows). slice_get t.rows i) c.self.view_is ∙ is)

pub returns-in-Err-clause-kept : goal.returns-in-Err-clause-kept
returns-in-Err-clause-kept c i x is =
    interned_extends c.self.inside.rows c.insert.new.self c.as_slice.result.now c.in_ok-number.number
    c.in_ok-number.ensures.interned i x (ap (λ (t : Rows). slice_get t.rows i) c.self.view_is ∙ is)
