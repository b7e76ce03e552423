-- Spans that ascend and don't touch, and their runs.
use Rattle.std.proofs.Common.{◌≡◌, ℕ, ◌+◌, ◌<◌, ◌≤◌, true, cond, List, [], ◌∷◌, ◌++◌, length, refl, subst, inl, inr, arith}
use Rattle.std.proofs.lemmas.Bool.{cases_lt, false≢true}
use Rattle.std.proofs.lemmas.Bool.Decides.{nat_tests}
use Rattle.std.proofs.lemmas.Grind.{common_steps}
use Rattle.std.specs.Prelude.{◌⊎◌, ◌&&◌, nat_le}
use Rattle.sample_slices.specs.Numbers.{has_number, is_in}
use Rattle.sample_merges.specs.Spans.{AreBelow, AreSpans, AscendFrom, HasRun, IsJoined, ShareRun}
use Rattle.sample_merges.specs.Sooner.{IsBefore}
use Rattle.sample_texts.specs.declared.spans.Span.{Span}

-- ---- runs

-- a span has the run of this number
abbrev pub IsIn : Span → ℕ → Type 0
IsIn span run = (span.first ≤ run) × (run ≤ span.last)

pub none_has : (run : ℕ) → HasRun [] run → ⊥
unfolding has_number
none_has run h = false≢true h

unfolded : (s : Span) (ss : List Span) (run : ℕ)
    → has_number (s ∷ ss) run ≡ cond (nat_le s.first run && nat_le run s.last) true (has_number ss run)
unfolding has_number is_in
unfolded s ss run = refl

pub has_cons : (s : Span) (ss : List Span) (run : ℕ) → IsIn s run ⊎ HasRun ss run → HasRun (s ∷ ss) run
has_cons s ss run (inl i) = let e = unfolded s ss run in grind (arith, nat_tests, common_steps)
has_cons s ss run (inr m) = let e = unfolded s ss run in grind (arith, nat_tests, common_steps)

pub of_cons : (s : Span) (ss : List Span) (run : ℕ) → HasRun (s ∷ ss) run → IsIn s run ⊎ HasRun ss run
of_cons s ss run h = let e = unfolded s ss run in grind (arith, nat_tests, common_steps)

pub has_one : (s : Span) (run : ℕ) → IsIn s run → HasRun (s ∷ []) run
has_one s run h = has_cons s [] run (inl h)

pub of_one : (s : Span) (run : ℕ) → HasRun (s ∷ []) run → IsIn s run
of_one s run h = elim (of_cons s [] run h) [ inl i ↦ i | inr n ↦ absurd (none_has run n) ]

pub has_left : (xs ys : List Span) (run : ℕ) → HasRun xs run → HasRun (xs ++ ys) run
has_left [] ys run h = absurd (none_has run h)
has_left (x ∷ xs) ys run h =
    has_cons x (xs ++ ys) run (elim (of_cons x xs run h) as (λ _. IsIn x run ⊎ HasRun (xs ++ ys) run) [ inl i ↦ inl i | inr m ↦ inr (has_left xs ys run m) ])

pub has_right : (xs ys : List Span) (run : ℕ) → HasRun ys run → HasRun (xs ++ ys) run
has_right [] ys run h = h
has_right (x ∷ xs) ys run h = has_cons x (xs ++ ys) run (inr (has_right xs ys run h))

pub of_both : (xs ys : List Span) (run : ℕ) → HasRun (xs ++ ys) run → HasRun xs run ⊎ HasRun ys run
of_both [] ys run h = inr h
of_both (x ∷ xs) ys run h =
    elim (of_cons x (xs ++ ys) run h) as (λ _. HasRun (x ∷ xs) run ⊎ HasRun ys run) [
      | inl i ↦ inl (has_cons x xs run (inl i))
      | inr m ↦ elim (of_both xs ys run m) as (λ _. HasRun (x ∷ xs) run ⊎ HasRun ys run) [ inl l ↦ inl (has_cons x xs run (inr l)) | inr r ↦ inr r ]
    ]

-- ---- ascending spans

pub ascend_none : (n : ℕ) → AscendFrom n []
unfolding AscendFrom
ascend_none n = tt

pub ascend_cons : (n : ℕ) (s : Span) (ss : List Span) → n ≤ s.first → s.first ≤ s.last → AscendFrom (s.last + 2) ss → AscendFrom n (s ∷ ss)
unfolding AscendFrom
ascend_cons n s ss low some rest = (low, some, rest)

pub record Ascending (n : ℕ) (s : Span) (ss : List Span) : Type 0 where
  pub low : n ≤ s.first
  pub some : s.first ≤ s.last
  pub rest : AscendFrom (s.last + 2) ss

pub ascending : (n : ℕ) (s : Span) (ss : List Span) → AscendFrom n (s ∷ ss) → Ascending n s ss
unfolding AscendFrom
ascending n s ss h = record { low = h.0; some = h.1; rest = h.2 }

pub ascend_lower : (n m : ℕ) (ss : List Span) → m ≤ n → AscendFrom n ss → AscendFrom m ss
ascend_lower n m [] le h = ascend_none m
ascend_lower n m (s ∷ ss) le h =
    let a = ascending n s ss h in
    let low : m ≤ s.first = omega (arith, a.low) in
    ascend_cons m s ss low a.some a.rest

-- all runs come from the first number on
pub from_on : (n : ℕ) (ss : List Span) → AscendFrom n ss → (run : ℕ) → HasRun ss run → n ≤ run
from_on n [] h run has = absurd (none_has run has)
from_on n (s ∷ ss) h run has =
    let a = ascending n s ss h in
    elim (of_cons s ss run has) [
      | inl i ↦ omega (arith, a.low, i.0)
      | inr m ↦ let later = from_on (s.last + 2) ss a.rest run m in omega (arith, a.low, a.some, later)
    ]

-- the spans after one begin after it
pub after_span : (n : ℕ) (s : Span) (ss : List Span) → AscendFrom n (s ∷ ss) → IsBefore s ss
after_span n s ss h run has =
    let a = ascending n s ss h in
    let later = from_on (s.last + 2) ss a.rest run has in
    omega (arith, later)

-- one more, after a gap
pub ascend_push : (n : ℕ) (ss : List Span) (s : Span) → AscendFrom n ss → n ≤ s.first → s.first ≤ s.last
    → ((run : ℕ) → HasRun ss run → run + 2 ≤ s.first) → AscendFrom n (ss ++ s ∷ [])
ascend_push n [] s h low some gap = ascend_cons n s [] low some (ascend_none (s.last + 2))
ascend_push n (x ∷ xs) s h low some gap =
    let a = ascending n x xs h in
    let next = gap x.last (has_cons x xs x.last (inl (a.some, omega arith))) in
    ascend_cons n x (xs ++ s ∷ []) a.low a.some
    (ascend_push (x.last + 2) xs s a.rest next some (λ run m. gap run (has_cons x xs run (inr m))))

-- what is known of the last one
pub record IsLast (n : ℕ) (xs : List Span) (last : Span) : Type 0 where
  pub before : AscendFrom n xs
  pub low : n ≤ last.first
  pub some : last.first ≤ last.last
  pub gap : (run : ℕ) → HasRun xs run → run + 2 ≤ last.first

pub the_last : (n : ℕ) (xs : List Span) (last : Span) → AscendFrom n (xs ++ last ∷ []) → IsLast n xs last
the_last n [] last h =
    let a = ascending n last [] h in
    record { before = ascend_none n; low = a.low; some = a.some; gap = λ run m. absurd (none_has run m) }
the_last n (x ∷ xs) last h =
    let a = ascending n x (xs ++ last ∷ []) h in
    let l = the_last (x.last + 2) xs last a.rest in
    let low : n ≤ last.first = omega (arith, a.low, a.some, l.low) in
    record {
      before = ascend_cons n x xs a.low a.some l.before;
      low = low;
      some = l.some;
      gap = λ run m. elim (of_cons x xs run m) [ inl i ↦ omega (arith, i.1, l.low) | inr k ↦ l.gap run k ];
    }

-- ---- a span more

abbrev pub grown : Span → Span → Span
grown last s = record { first = last.first; last = s.last }

in_grown : (last s : Span) → last.last + 1 ≡ s.first → last.first ≤ last.last → s.first ≤ s.last → (run : ℕ)
    → IsIn last run ⊎ IsIn s run → IsIn (grown last s) run
in_grown last s touch some more run (inl i) = (i.0, omega (arith, i.1))
in_grown last s touch some more run (inr i) = (omega (arith, i.0), i.1)

of_grown : (last s : Span) → last.last + 1 ≡ s.first → (run : ℕ) → IsIn (grown last s) run → IsIn last run ⊎ IsIn s run
of_grown last s touch run i = grind arith

-- a list with a last span has the runs of those before it, and its own
of_last : (xs : List Span) (last : Span) (run : ℕ) → HasRun (xs ++ last ∷ []) run → HasRun xs run ⊎ IsIn last run
of_last xs last run h =
    elim (of_both xs (last ∷ []) run h) as (λ _. HasRun xs run ⊎ IsIn last run) [ inl l ↦ inl l | inr r ↦ inr (of_one last run r) ]

has_last : (xs : List Span) (last : Span) (run : ℕ) → HasRun xs run ⊎ IsIn last run → HasRun (xs ++ last ∷ []) run
has_last xs last run (inl l) = has_left xs (last ∷ []) run l
has_last xs last run (inr r) = has_right xs (last ∷ []) run (has_one last run r)

-- all runs are at most those of the last span
below_next : (xs : List Span) (last s : Span) → AreSpans (xs ++ last ∷ []) → last.last < s.first → (run : ℕ)
    → HasRun (xs ++ last ∷ []) run → HasRun (s ∷ []) run → ⊥
below_next xs last s spans later run h m =
    let l = the_last 0 xs last spans in
    let i = of_one s run m in
    elim (of_last xs last run h) [
      | inl k ↦ let g = l.gap run k in omega (arith, g, l.some, i.0)
      | inr k ↦ omega (arith, k.1, i.0)
    ]

-- the last span grows
pub joined_grown : (xs : List Span) (last s : Span) → AreSpans (xs ++ last ∷ []) → last.last + 1 ≡ s.first → s.first ≤ s.last
    → IsJoined (xs ++ last ∷ []) (s ∷ []) (xs ++ grown last s ∷ [])
joined_grown xs last s spans touch some =
    let l = the_last 0 xs last spans in
    let later : last.last < s.first = omega (arith, touch) in
    let ends : last.first ≤ s.last = omega (arith, l.some, touch, some) in
    record {
      spans = ascend_push 0 xs (grown last s) l.before l.low ends l.gap;
      runs = λ run. (
        λ h. elim (of_last xs (grown last s) run h) as (λ _. HasRun (xs ++ last ∷ []) run ⊎ HasRun (s ∷ []) run) [
          | inl k ↦ inl (has_last xs last run (inl k))
          | inr k ↦ elim (of_grown last s touch run k) as (λ _. HasRun (xs ++ last ∷ []) run ⊎ HasRun (s ∷ []) run) [
            | inl a ↦ inl (has_last xs last run (inr a))
            | inr b ↦ inr (has_one s run b)
          ]
        ],
        λ h. has_last xs (grown last s) run (elim h as (λ _. HasRun xs run ⊎ IsIn (grown last s) run) [
          | inl k ↦ elim (of_last xs last run k) as (λ _. HasRun xs run ⊎ IsIn (grown last s) run) [
            | inl a ↦ inl a
            | inr b ↦ inr (in_grown last s touch l.some some run (inl b))
          ]
          | inr k ↦ inr (in_grown last s touch l.some some run (inr (of_one s run k)))
        ]),
      );
      apart = below_next xs last s spans later;
    }

-- another span comes after a gap
pub joined_apart : (xs : List Span) (last s : Span) → AreSpans (xs ++ last ∷ []) → last.last + 1 < s.first → s.first ≤ s.last
    → IsJoined (xs ++ last ∷ []) (s ∷ []) ((xs ++ last ∷ []) ++ s ∷ [])
joined_apart xs last s spans gap some =
    let l = the_last 0 xs last spans in
    let later : last.last < s.first = omega (arith, gap) in
    record {
      spans = ascend_push 0 (xs ++ last ∷ []) s spans (omega arith) some
          (λ run m. elim (of_last xs last run m) [
            | inl k ↦ let g = l.gap run k in omega (arith, g, l.some, gap)
            | inr k ↦ omega (arith, k.1, gap)
          ]);
      runs = λ run. (
        of_both (xs ++ last ∷ []) (s ∷ []) run,
        λ h. elim h [
          | inl k ↦ has_left (xs ++ last ∷ []) (s ∷ []) run k
          | inr k ↦ has_right (xs ++ last ∷ []) (s ∷ []) run k
        ],
      );
      apart = below_next xs last s spans later;
    }

-- the first span
pub joined_first : (s : Span) → s.first ≤ s.last → IsJoined [] (s ∷ []) (s ∷ [])
joined_first s some = record {
  spans = ascend_cons 0 s [] (omega arith) some (ascend_none (s.last + 2));
  runs = λ run. (λ h. inr h, λ h. elim h [ inl k ↦ absurd (none_has run k) | inr k ↦ k ]);
  apart = λ run h m. none_has run h;
}

-- ---- two lists

-- what ends before the first of spans is before all of them
pub before_all : (s t : Span) (ts : List Span) → AreSpans (t ∷ ts) → s.last < t.first → IsBefore s (t ∷ ts)
before_all s t ts spans later run h =
    elim (of_cons t ts run h) [
      | inl i ↦ omega (arith, later, i.0)
      | inr m ↦ let after = after_span 0 t ts spans run m in let a = ascending 0 t ts spans in omega (arith, later, after, a.some)
    ]

-- two first spans of which neither is before the other share a run
pub first_shared : (s : Span) (ss : List Span) (t : Span) (ts : List Span) → AreSpans (s ∷ ss) → AreSpans (t ∷ ts)
    → t.first ≤ s.last → s.first ≤ t.last → ShareRun (s ∷ ss) (t ∷ ts)
first_shared s ss t ts one other left right =
    let a = ascending 0 s ss one in
    let b = ascending 0 t ts other in
    elim (cases_lt s.first t.first) as (λ _. ShareRun (s ∷ ss) (t ∷ ts)) [
      | inl lt ↦ (t.first, has_cons s ss t.first (inl (omega (arith, lt), left)), has_cons t ts t.first (inl (omega arith, b.some)))
      | inr ge ↦ (s.first, has_cons s ss s.first (inl (omega arith, a.some)), has_cons t ts s.first (inl (ge, right)))
    ]

-- no run of no span
pub before_none : (s : Span) (ss : List Span) → length ss ≡ 0 → IsBefore s ss
before_none s [] none run h = absurd (none_has run h)
before_none s (t ∷ ts) none run h = absurd (omega arith)

-- the last span of those that are all below
pub last_below : (spans xs : List Span) (last : Span) (n : ℕ) → spans ≡ xs ++ last ∷ [] → AreSpans spans → AreBelow spans n → last.last < n
last_below spans xs last n parts are below =
    let l = the_last 0 xs last (subst AreSpans parts are) in
    let there : HasRun (xs ++ last ∷ []) last.last = has_right xs (last ∷ []) last.last (has_one last last.last (l.some, omega arith)) in
    below last.last (rw parts there)

-- ---- joining

-- So far the whole has been joined of what both lists had before these rests.
pub record IsJoining (one other whole left right : List Span) : Type 0 where
  pub spans : AreSpans whole
  pub left_spans : AreSpans left
  pub right_spans : AreSpans right
  pub before_left : (run k : ℕ) → HasRun whole run → HasRun left k → run < k
  pub before_right : (run k : ℕ) → HasRun whole run → HasRun right k → run < k
  pub of_left : (run : ℕ) → HasRun left run → HasRun one run
  pub of_right : (run : ℕ) → HasRun right run → HasRun other run
  pub of_whole : (run : ℕ) → HasRun whole run → HasRun one run ⊎ HasRun other run
  pub one_kept : (run : ℕ) → HasRun one run → HasRun whole run ⊎ HasRun left run
  pub other_kept : (run : ℕ) → HasRun other run → HasRun whole run ⊎ HasRun right run
  pub shared : (run : ℕ) → HasRun one run → HasRun other run → HasRun left run × HasRun right run

pub joining_begins : (one other : List Span) → AreSpans one → AreSpans other → IsJoining one other [] one other
joining_begins one other a b = record {
  spans = ascend_none 0;
  left_spans = a;
  right_spans = b;
  before_left = λ run k h m. absurd (none_has run h);
  before_right = λ run k h m. absurd (none_has run h);
  of_left = λ run h. h;
  of_right = λ run h. h;
  of_whole = λ run h. absurd (none_has run h);
  one_kept = λ run h. inr h;
  other_kept = λ run h. inr h;
  shared = λ run h m. (h, m);
}

-- the same of the two lists exchanged
swapped_sum : {A B : Type 0} → A ⊎ B → B ⊎ A
swapped_sum (inl a) = inr a
swapped_sum (inr b) = inl b

pub joining_swapped : (one other whole left right : List Span) → IsJoining one other whole left right → IsJoining other one whole right left
joining_swapped one other whole left right j = record {
  spans = j.spans;
  left_spans = j.right_spans;
  right_spans = j.left_spans;
  before_left = j.before_right;
  before_right = j.before_left;
  of_left = j.of_right;
  of_right = j.of_left;
  of_whole = λ run h. swapped_sum (j.of_whole run h);
  one_kept = j.other_kept;
  other_kept = j.one_kept;
  shared = λ run h m. let both = j.shared run m h in (both.1, both.0);
}

-- the next span begins after all before it
pub next_later : (one other whole left right rest : List Span) (s : Span) → IsJoining one other whole left right → left ≡ s ∷ rest
    → (run : ℕ) → HasRun whole run → run < s.first
next_later one other whole left right rest s j is run h =
    let spans : AreSpans (s ∷ rest) = rw is at j.left_spans in
    let a = ascending 0 s rest spans in
    let there : HasRun left s.first = rw is (has_cons s rest s.first (inl (omega arith, a.some))) in
    j.before_left run s.first h there

pub next_some : (one other whole left right rest : List Span) (s : Span) → IsJoining one other whole left right → left ≡ s ∷ rest → s.first ≤ s.last
next_some one other whole left right rest s j is =
    let spans : AreSpans (s ∷ rest) = rw is at j.left_spans in
    (ascending 0 s rest spans).some

-- a span more of the first list
module _ (one other whole right rest more : List Span) (s : Span) (j : IsJoining one other whole (s ∷ rest) right)
    (before : IsBefore s right) (joined : IsJoined whole (s ∷ []) more) where
  more_of : (run : ℕ) → HasRun more run → HasRun whole run ⊎ IsIn s run
  more_of run h =
      elim ((joined.runs run).0 h) as (λ _. HasRun whole run ⊎ IsIn s run) [ inl w ↦ inl w | inr m ↦ inr (of_one s run m) ]

  more_has : (run : ℕ) → HasRun whole run ⊎ IsIn s run → HasRun more run
  more_has run (inl w) = (joined.runs run).1 (inl w)
  more_has run (inr i) = (joined.runs run).1 (inr (has_one s run i))

  kept_one : (run : ℕ) → HasRun whole run ⊎ HasRun (s ∷ rest) run → HasRun more run ⊎ HasRun rest run
  kept_one run (inl w) = inl (more_has run (inl w))
  kept_one run (inr m) =
      elim (of_cons s rest run m) as (λ _. HasRun more run ⊎ HasRun rest run) [ inl i ↦ inl (more_has run (inr i)) | inr r ↦ inr r ]

  kept_other : (run : ℕ) → HasRun whole run ⊎ HasRun right run → HasRun more run ⊎ HasRun right run
  kept_other run (inl w) = inl (more_has run (inl w))
  kept_other run (inr r) = inr r

  shared_more : (run : ℕ) → HasRun (s ∷ rest) run × HasRun right run → HasRun rest run × HasRun right run
  shared_more run both =
      let later = before run both.1 in
      elim (of_cons s rest run both.0) as (λ _. HasRun rest run × HasRun right run) [ inl i ↦ absurd (omega (arith, i.1, later)) | inr r ↦ (r, both.1) ]

  before_rest : (run k : ℕ) → HasRun more run → HasRun rest k → run < k
  before_rest run k h m =
      let after = after_span 0 s rest j.left_spans k m in
      elim (more_of run h) [
        | inl w ↦ j.before_left run k w (has_cons s rest k (inr m))
        | inr i ↦ omega (arith, i.1, after)
      ]

  before_other : (run k : ℕ) → HasRun more run → HasRun right k → run < k
  before_other run k h m =
      let after = before k m in
      elim (more_of run h) [ inl w ↦ j.before_right run k w m | inr i ↦ omega (arith, i.1, after) ]

  whole_of : (run : ℕ) → HasRun more run → HasRun one run ⊎ HasRun other run
  whole_of run h =
      elim (more_of run h) as (λ _. HasRun one run ⊎ HasRun other run) [ inl w ↦ j.of_whole run w | inr i ↦ inl (j.of_left run (has_cons s rest run (inl i))) ]

  pub joining_more : IsJoining one other more rest right
  joining_more =
      let a = ascending 0 s rest j.left_spans in
      record {
        spans = joined.spans;
        left_spans = ascend_lower (s.last + 2) 0 rest (omega arith) a.rest;
        right_spans = j.right_spans;
        before_left = before_rest;
        before_right = before_other;
        of_left = λ run h. j.of_left run (has_cons s rest run (inr h));
        of_right = j.of_right;
        of_whole = whole_of;
        one_kept = λ run h. kept_one run (j.one_kept run h);
        other_kept = λ run h. kept_other run (j.other_kept run h);
        shared = λ run h m. shared_more run (j.shared run h m);
      }

pub joining_next : (one other whole left right rest more : List Span) (s : Span) → IsJoining one other whole left right → left ≡ s ∷ rest
    → IsBefore s right → IsJoined whole (s ∷ []) more → IsJoining one other more rest right
joining_next one other whole left right rest more s j is before joined =
    let at : IsJoining one other whole (s ∷ rest) right = subst (λ (l : List Span). IsJoining one other whole l right) is j in
    joining_more one other whole right rest more s at before joined

-- where nothing is left
joining_done : (one other whole : List Span) → IsJoining one other whole [] [] → IsJoined one other whole
joining_done one other whole j = record {
  spans = j.spans;
  runs = λ run. (
    j.of_whole run,
    λ h. elim h [
      | inl a ↦ elim (j.one_kept run a) [ inl w ↦ w | inr n ↦ absurd (none_has run n) ]
      | inr b ↦ elim (j.other_kept run b) [ inl w ↦ w | inr n ↦ absurd (none_has run n) ]
    ],
  );
  apart = λ run h m. none_has run (j.shared run h m).0;
}

pub joining_ends : (one other whole left right : List Span) → IsJoining one other whole left right → left ≡ [] → right ≡ [] → IsJoined one other whole
joining_ends one other whole left right j left_is right_is =
    joining_done one other whole
    (subst (λ (l : List Span). IsJoining one other whole l []) left_is (subst (λ (r : List Span). IsJoining one other whole left r) right_is j))

-- where both rests share a run, both lists do
pub joining_shared : (one other whole left right : List Span) → IsJoining one other whole left right → ShareRun left right → ShareRun one other
joining_shared one other whole left right j (run, h, m) = (run, j.of_left run h, j.of_right run m)
