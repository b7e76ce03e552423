-- The numbers of a slice's runs ascend, and don't touch.
use Rattle.std.proofs.Common.{◌≡◌, ℕ, ◌+◌, ◌≤◌, ◌==◌, Bool, true, false, cond, List, [], ◌∷◌, length, ap, subst, arith, Some, None, inl, inr}
use Rattle.std.proofs.lemmas.Bool.Decides.{nat_tests}
use Rattle.std.proofs.lemmas.Option.{cond_some, none-some, option_and_then_some, same_Some}
use Rattle.std.specs.Prelude.{codes, is_some, nat_le}
use Rattle.explore_sweeps.specs.Sweeps.{◌>>=◌}
use Rattle.sample_checks.specs.Checks.{CheckedParts}
use Rattle.sample_draws.specs.declared.drawing.TheConstants.{MAX_RUN}
use Rattle.sample_slices.specs.Drawn.{question_in}
use Rattle.serde_json.specs.Data.{Data, Items, no_items, item}
use Rattle.sample_slices.specs.Claimed.{checked_in, claimed, sliced}
use Rattle.sample_slices.specs.Lines.{IsSlice}
use Rattle.sample_slices.specs.Members.{all_steps, list_in, number_at}
use Rattle.sample_slices.specs.Numbers.{NumbersParts, ascending, no_numbers, some_numbers, numbers_in, span_in, span_step, with_span}
use Rattle.sample_slices.specs.Slices.{ListingParts, QuestionParts, looked_at, SliceParts, slice_of}
use Rattle.sample_texts.specs.declared.spans.Span.{Span}
use Rattle.sample_merges.specs.Spans.{AreSpans, HasRun}
use Rattle.sample_merges.proofs.SpanLemmas.{ascend_none, ascend_push, none_has, of_both, of_one}

-- spans so far, and the least number that may come next
record Ascends (numbers : NumbersParts) : Type 0 where
  spans : AreSpans numbers.spans
  gap : (run : ℕ) → HasRun numbers.spans run → run + 2 ≤ numbers.least

with_kept : (before after : NumbersParts) (span : Span) → Ascends before → span.first ≤ span.last → with_span before span ≡ Some after → Ascends after
with_kept before after span so some is =
    let c = cond_some (nat_le before.least span.first) _ after is in
    let test = c.0 in
    let low : before.least ≤ span.first = grind (arith, nat_tests) in
    subst Ascends c.1 (record {
      spans = ascend_push 0 before.spans span so.spans (omega arith) some (λ run h. let g = so.gap run h in omega (arith, g, low));
      gap = λ run h. elim (of_both before.spans (span ∷ []) run h) [
        | inl b ↦ let g = so.gap run b in omega (arith, g, low, some)
        | inr s ↦ let i = of_one span run s in omega (arith, i.1)
      ];
    })

span_some : (value : Data) (span : Span) → span_in value ≡ Some span → span.first ≤ span.last
unfolding span_in
span_some value span is =
    option_and_then_some (λ (first : ℕ). number_at 1 MAX_RUN value >>= (λ (last : ℕ). ascending (record { first = first; last = last })))
    (number_at 0 MAX_RUN value) span is
    (λ first found more. option_and_then_some (λ (last : ℕ). ascending (record { first = first; last = last })) (number_at 1 MAX_RUN value) span more
    (λ last then made.
    let c = cond_some (nat_le first last) _ span made in
    let test = c.0 in
    let le : first ≤ last = grind (arith, nat_tests) in
    subst (λ (s : Span). s.first ≤ s.last) c.1 le))

step_kept : (value : Data) (before after : NumbersParts) → Ascends before → span_step value before ≡ Some after → Ascends after
unfolding span_step
step_kept value before after so is =
    option_and_then_some (with_span before) (span_in value) after is (λ span found more. with_kept before after span so (span_some value span found) more)

steps_kept : (items : Items) (before after : NumbersParts) → Ascends before → all_steps span_step items before ≡ Some after → Ascends after
unfolding all_steps
steps_kept no_items before after so is = subst Ascends (same_Some before after is) so
steps_kept (item value items) before after so is =
    option_and_then_some (all_steps span_step items) (span_step value before) after is (λ next made more. steps_kept items next after (step_kept value before next so made) more)

some_unless : {A : Type 0} (b : Bool) (x y : A) → cond b None (Some x) ≡ Some y → x ≡ y
some_unless true x y is = absurd (none-some y is)
some_unless false x y is = same_Some x y is

begins : Ascends no_numbers
begins = record { spans = ascend_none 0; gap = λ run h. absurd (none_has run h) }

numbers_spans : (value : Data) (numbers : List Span) → numbers_in value ≡ Some numbers → AreSpans numbers
unfolding numbers_in
numbers_spans value numbers is =
    option_and_then_some (λ (list : Items). all_steps span_step list no_numbers >>= some_numbers) (list_in (codes "numbers") value) numbers is
    (λ list found more. option_and_then_some some_numbers (all_steps span_step list no_numbers) numbers more
    (λ made steps last.
    subst AreSpans (some_unless (length made.spans == 0) made.spans numbers last) (steps_kept list no_numbers made begins steps).spans))

-- the slice that is claimed has the line's numbers
sliced_numbers : (listing : ListingParts) (question : QuestionParts) (numbers : List Span) (value : Data) (slice : SliceParts)
    → sliced listing question numbers value ≡ Some slice → numbers ≡ slice.numbers
unfolding sliced
sliced_numbers listing question numbers value slice is =
    option_and_then_some (λ (checked : CheckedParts). Some (slice_of question numbers checked))
    (checked_in (record { image = listing.image; drawing = question.drawing; numbers = numbers })
    (looked_at listing.properties question.is_checked) (is_some question.items) value) slice is
    (λ checked c made. ap (λ (s : SliceParts). s.numbers) (same_Some (slice_of question numbers checked) slice made))

claimed_spans : (listing : ListingParts) (value : Data) (slice : SliceParts) → claimed listing value ≡ Some slice → AreSpans slice.numbers
unfolding claimed
claimed_spans listing value slice is =
    option_and_then_some (λ (question : QuestionParts). numbers_in value >>= (λ (numbers : List Span). sliced listing question numbers value))
    (question_in listing value) slice is
    (λ question q more. option_and_then_some (λ (numbers : List Span). sliced listing question numbers value) (numbers_in value) slice more
    (λ numbers n made.
    subst AreSpans (sliced_numbers listing question numbers value slice made) (numbers_spans value numbers n)))

pub slice_spans : (listing : ListingParts) (line : List ℕ) (slice : SliceParts) → IsSlice listing line slice → AreSpans slice.numbers
slice_spans listing line slice is = claimed_spans listing is.value slice is.is_claimed
