-- Rounds, and what their parts give together.
use Rattle.std.proofs.Common.{◌≡◌, ◌≤◌, ◌<◌, ◌+◌, ◌-◌, ◌*◌, ℕ, zero, suc, List, [], ◌∷◌, ◌++◌, length, sym, ap, ◌∙◌, subst, arith}
use Rattle.std.specs.Prelude.{Result, Ok, Err, IfOk}
use Rattle.std.specs.Result.{IsOkAnd}
use Rattle.std.proofs.lemmas.Result.{IfOk-weaker}
use Rattle.std.proofs.Math.Nat.{mul-add, mul-le-mul_right}
use Rattle.std.proofs.lemmas.List.{append-nil, append_assoc}
use Rattle.sample_tallies.specs.Tallies.{TallyParts, tally, add, numbers_from}
use Rattle.sample_tallies.proofs.TallyLemmas.{slices_sum}
use Rattle.sample_checks.specs.Checks.{CheckedParts, decided_in, either_each}
use Rattle.sample_checks.proofs.DecidedLemmas.{in_more, in_long}
use Rattle.sample_threads.specs.declared.rounds.Runs.{Runs}
use Rattle.sample_threads.specs.declared.rounds.Round.{Round}
use Rattle.sample_threads.specs.Rounds.{cut_at, CountsFrom, Counts, CountsPart, IsAlike, IsSum}

-- numbers, and those after them
pub numbers_split : (first a b : ℕ) → numbers_from first (a + b) ≡ numbers_from first a ++ numbers_from (first + a) b
unfolding numbers_from
numbers_split first a zero =
    let none : a + zero ≡ a = omega arith in
    ap (numbers_from first) none ∙ sym (append-nil (numbers_from first a))
numbers_split first a (suc b) =
    let next : a + suc b ≡ suc (a + b) = omega arith in
    let last : first + (a + b) ≡ first + a + b = omega arith in
    ap (numbers_from first) next
    ∙ ap (λ (xs : List ℕ). xs ++ (first + (a + b)) ∷ []) (numbers_split first a b)
    ∙ ap (λ (n : ℕ). (numbers_from first a ++ numbers_from (first + a) b) ++ n ∷ []) last
    ∙ append_assoc (numbers_from first a) (numbers_from (first + a) b) ((first + a + b) ∷ [])

-- the product of a number and the next one
next_product : (each part : ℕ) → each * (part + 1) ≡ each * part + each
next_product each part =
    let whole = mul-add each part 1 in
    let once : each * 1 ≡ each = omega arith in
    omega (arith, whole, once)

pub cuts_ascend : (done each count part : ℕ) → cut_at done each count part ≤ cut_at done each count (part + 1)
cuts_ascend done each count part = omega (arith, next_product each part)

pub cut_first : (done each count : ℕ) → done ≤ count → cut_at done each count 0 ≡ done
cut_first done each count within =
    let none : each * 0 ≡ 0 = omega arith in omega (arith, none, within)

pub cut_within : (done each count part : ℕ) → cut_at done each count part ≤ count
cut_within done each count part = omega arith

-- some runs, and those after them
pub counts_more : (runs : Runs) (a b : ℕ) (one other both : CheckedParts) → Counts runs a one
    → CountsFrom runs (runs.first + a) b other → IsSum one other both → Counts runs (a + b) both
counts_more runs a b one other both before more sum =
    let image = runs.image.now in
    let drawing = runs.drawing.now in
    let properties = runs.properties.now in
    let first = numbers_from runs.first a in
    let rest = numbers_from (runs.first + a) b in
    let all = numbers_split runs.first a b in
    record {
      sum = sum.sum ∙ ap (λ (t : TallyParts). add t other.sum) before.sum
          ∙ ap (add (tally image drawing first)) more.sum
          ∙ sym (slices_sum image drawing first rest)
          ∙ ap (tally image drawing) (sym all);
      decided = sum.decided ∙ ap (λ d. either_each d other.decided) before.decided
          ∙ ap (either_each (decided_in image drawing properties first)) more.decided
          ∙ sym (in_more image drawing properties first rest)
          ∙ ap (decided_in image drawing properties) (sym all);
      harts = sum.harts ∙ before.harts;
      granules = sum.granules ∙ before.granules;
    }

-- a part more
pub part_more : (runs : Runs) (round : Round) (part : ℕ) (one other both : CheckedParts)
    → Counts runs (cut_at round.done round.each runs.count part) one → CountsPart runs round part other
    → IsSum one other both → Counts runs (cut_at round.done round.each runs.count (part + 1)) both
part_more runs round part one other both before more sum =
    let from = cut_at round.done round.each runs.count part in
    let to = cut_at round.done round.each runs.count (part + 1) in
    let up = cuts_ascend round.done round.each runs.count part in
    let all : from + (to - from) ≡ to = omega (arith, up) in
    subst (λ (n : ℕ). Counts runs n both) all
    (counts_more runs from (to - from) one other both before more sum)

-- two parts can be added
pub are_alike : (runs : Runs) (a first b : ℕ) (one other : CheckedParts) → Counts runs a one
    → CountsFrom runs first b other → IsAlike one other
are_alike runs a first b one other before more = record {
  harts = more.harts ∙ sym before.harts;
  granules = more.granules ∙ sym before.granules;
  properties = ap length more.decided
      ∙ in_long runs.image.now runs.drawing.now runs.properties.now (numbers_from first b)
      ∙ sym (ap length before.decided
      ∙ in_long runs.image.now runs.drawing.now runs.properties.now (numbers_from runs.first a));
}

positive : (each parts : ℕ) → 0 < each → 0 < parts → 1 ≤ each * parts
positive each parts some few =
    let one : 1 ≤ each = omega arith in
    let more : 1 * parts ≤ each * parts = mul-le-mul_right parts one in
    omega (arith, more)

-- a round counts something
pub goes_on : (done each count parts : ℕ) → done < count → 0 < each → 0 < parts
    → done < cut_at done each count parts
goes_on done each count parts left some few =
    let product : 1 ≤ each * parts = omega (arith, positive each parts some few) in omega (arith, product, left)

-- ---- parts that may have failed

pub alike_part : {E : Type 0} (runs : Runs) (round : Round) (part : ℕ) (one : CheckedParts) (more : Result CheckedParts E)
    → Counts runs (cut_at round.done round.each runs.count part) one → IfOk more (CountsPart runs round part)
    → IfOk more (IsAlike one)
alike_part {E} runs round part one more before is =
    let from = cut_at round.done round.each runs.count part in
    let to = cut_at round.done round.each runs.count (part + 1) in
    IfOk-weaker more (CountsPart runs round part) (IsAlike one)
    (λ other counts. are_alike runs from (runs.first + from) (to - from) one other before counts) is

pub next_part : {E : Type 0} (runs : Runs) (round : Round) (part : ℕ) (one both : CheckedParts) (more : Result CheckedParts E)
    → Counts runs (cut_at round.done round.each runs.count part) one → IfOk more (CountsPart runs round part)
    → IsOkAnd more (λ other. IsSum one other both)
    → Counts runs (cut_at round.done round.each runs.count (part + 1)) both
next_part {E} runs round part one both (Ok other) before is sum = part_more runs round part one other both before is sum
next_part {E} runs round part one both (Err fault) before is sum = absurd sum

pub begins : (runs : Runs) (round : Round) (one : CheckedParts) → round.done ≤ runs.count → Counts runs round.done one
    → Counts runs (cut_at round.done round.each runs.count 0) one
begins runs round one within before =
    subst (λ (n : ℕ). Counts runs n one) (sym (cut_first round.done round.each runs.count within)) before
