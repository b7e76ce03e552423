use Rattle.std.proofs.Common.{◌≡◌, ◌<◌, ℕ, ap, sym, ◌∙◌, subst, arith}
use Rattle.std.specs.Prelude.{IfOk, slice_index_or}
use Rattle.sample_threads.specs.Rounds.{cut_at, Counts, CountsPart}
use Rattle.sample_threads.proofs.RoundLemmas.{begins, alike_part, next_part}
use Rattle.sample_threads.proofs.threads.with_round.Goals as goal

pub loop-part-init : goal.loop-part-init
loop-part-init g c = record {
  sum = begins c.args.runs.now c.args.round c.args.before c.requires.done c.requires.before;
  harts = c.requires.harts ∙ c.requires.before.harts;
  granules = c.requires.granules ∙ c.requires.before.granules;
}

pub with_part-requires-clause-alike : goal.with_part-requires-clause-alike
with_part-requires-clause-alike g c =
    let runs = c.args.runs.now in
    let round = c.args.round in
    let part = c.loop-part.part in
    let more = c.index-parts-part.result in
    let inside : part < round.parts =
    omega (arith, c.as_slice-parts.ensures.len, c.in_ok-counted.ensures.count) in
    let there = c.index-parts-part.is ∙ ap (λ xs. slice_index_or xs part more) c.as_slice-parts.ensures.value in
    alike_part runs round part c.loop-part.sum more c.loop-part.invariant.sum
    (subst (λ x. IfOk x (CountsPart runs round part)) (sym there) (c.in_ok-counted.ensures.each part more inside))

pub with_part-requires-clause-harts : goal.with_part-requires-clause-harts
with_part-requires-clause-harts g c = c.loop-part.invariant.harts ∙ sym c.loop-part.invariant.sum.harts

pub with_part-requires-clause-granules : goal.with_part-requires-clause-granules
with_part-requires-clause-granules g c = c.loop-part.invariant.granules ∙ sym c.loop-part.invariant.sum.granules

pub returns-in_err-sum-clause-harts : goal.returns-in_err-sum-clause-harts
returns-in_err-sum-clause-harts g c =
    c.with_part.ensures.harts ∙ (c.loop-part.invariant.sum.harts ∙ sym c.requires.before.harts)

pub returns-in_err-sum-clause-granules : goal.returns-in_err-sum-clause-granules
returns-in_err-sum-clause-granules g c =
    c.with_part.ensures.granules ∙ (c.loop-part.invariant.sum.granules ∙ sym c.requires.before.granules)

pub loop-part-preserved : goal.loop-part-preserved
loop-part-preserved g c =
    let runs = c.args.runs.now in
    let round = c.args.round in
    let part = c.loop-part.part in
    let more = c.index-parts-part.result in
    let inv = c.loop-part.invariant in
    let inside : part < round.parts =
    omega (arith, c.as_slice-parts.ensures.len, c.in_ok-counted.ensures.count) in
    let there = c.index-parts-part.is ∙ ap (λ xs. slice_index_or xs part more) c.as_slice-parts.ensures.value in
    record {
      sum = next_part runs round part c.loop-part.sum c.in_ok-sum.sum more inv.sum
          (subst (λ x. IfOk x (CountsPart runs round part)) (sym there) (c.in_ok-counted.ensures.each part more inside))
          c.in_ok-sum.ensures.sum;
      harts = c.with_part.ensures.harts ∙ inv.sum.harts;
      granules = c.with_part.ensures.granules ∙ inv.sum.granules;
    }

pub returns-clause-sum : goal.returns-clause-sum
returns-clause-sum g c =
    let runs = c.args.runs.now in
    let round = c.args.round in
    let all : c.loop-part.part ≡ round.parts =
    omega (arith, c.as_slice-parts.ensures.len, c.in_ok-counted.ensures.count) in
    subst (λ (n : ℕ). Counts runs (cut_at round.done round.each runs.count n) c.loop-part.sum) all c.loop-part.invariant.sum

pub returns-clause-harts : goal.returns-clause-harts
returns-clause-harts g c = c.loop-part.invariant.harts ∙ sym c.requires.before.harts

pub returns-clause-granules : goal.returns-clause-granules
returns-clause-granules g c = c.loop-part.invariant.granules ∙ sym c.requires.before.granules
