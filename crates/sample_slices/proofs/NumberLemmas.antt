-- Numbers of runs, span by span.
use Rattle.std.proofs.Common.{◌≡◌, ◌∙◌, ℕ, ◌+◌, ◌-◌, ◌<◌, ◌≤◌, List, [], ◌∷◌, ◌++◌, length, drop, get_or, sym, ap, refl, arith, drop-cons, add-one}
use Rattle.std.proofs.Math.ListN.{drop_of_length-le}
use Rattle.std.specs.Prelude.{true, false}
use Rattle.sample_draws.specs.declared.drawing.TheConstants.{MAX_RUN}
use Rattle.sample_texts.specs.declared.spans.Span.{Span}
use Rattle.sample_slices.specs.Numbers.{AreNumbers, count_of, has_number, is_in}

-- ---- how many

count_more : (spans : List Span) (span : Span) → count_of (spans ++ span ∷ []) ≡ count_of spans + (span.last + 1 - span.first)
unfolding count_of
count_more [] span = omega arith
count_more (one ∷ spans) span = omega (arith, count_more spans span)

pub span_added : (spans : List Span) (least count : ℕ) (span : Span) → AreNumbers spans least count → span.first ≤ span.last
    → span.last ≤ MAX_RUN → least ≤ span.first
    → AreNumbers (spans ++ span ∷ []) (span.last + 2) (count + (span.last + 1 - span.first))
span_added spans least count span are ascends within apart = record {
  counted = ap (λ (n : ℕ). n + (span.last + 1 - span.first)) are.counted ∙ sym (count_more spans span);
  few = omega (arith, are.few, ascends, apart);
  within = omega (arith, within);
}

pub no_spans : AreNumbers [] 0 0
unfolding count_of
no_spans = record { counted = refl; few = omega arith; within = omega arith }

-- ---- whether a number is among them

module _ (list : List Span) (i : ℕ) (d : Span) (number : ℕ) (room : i < length list) where
  left : drop i list ≡ get_or list i d ∷ drop (i + 1) list
  left = rw add-one (drop-cons list i d room)

  pub number_missed : is_in (get_or list i d) number ≡ false → has_number (drop i list) number ≡ has_number list number
      → has_number (drop (i + 1) list) number ≡ has_number list number
  unfolding has_number
  number_missed is so = rw is at (rw left at so)

  pub number_found : is_in (get_or list i d) number ≡ true → has_number (drop i list) number ≡ has_number list number
      → true ≡ has_number list number
  unfolding has_number
  number_found is so = rw is at (rw left at so)

pub no_number_left : (list : List Span) (i number : ℕ) → length list ≤ i
    → has_number (drop i list) number ≡ has_number list number → false ≡ has_number list number
unfolding has_number
no_number_left list i number past so = rw (drop_of_length-le list past) at so

pub ruleset has = (number_missed, number_found, no_number_left)

pub ruleset spans = (span_added, no_spans)
