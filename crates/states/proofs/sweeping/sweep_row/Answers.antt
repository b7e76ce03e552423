use Rattle.std.proofs.Common.{◌≡◌, ◌+◌, ◌<◌, ◌≤◌, ℕ, suc, List, length, length-set, arith, ap, sym, ◌∙◌, refl}
use Rattle.std.specs.Prelude.{Some, slice_get, slice_index_or}
use Rattle.std.proofs.lemmas.Option.{slice_get_within}
use Rattle.cap_model.specs.values.CapValue.{CapValue}
use Rattle.cap_model.specs.results.Swept.{swept}
use Rattle.cheri_model.specs.runs.Sweeps.{swept_memory}
use Rattle.state_store.specs.Numbered.{each}
use Rattle.state_store.proofs.NumberedLemmas.{some_of, each_length}
use Rattle.state_store.proofs.StoreLemmas.{keeps_self, keeps_on}
use Rattle.states.proofs.RowLemmas.{partly, partly_none, partly_all, partly_there, partly_step}
use Rattle.states.proofs.sweeping.sweep_row.Goals as goal

pub loop-place-init : goal.loop-place-init
loop-place-init c = record {
  kept = keeps_self c.args.store.now;
  same_harts = refl;
  size = refl;
  swept = λ m is. is ∙ ap (λ (l : List CapValue). Some l) (sym (partly_none (swept c.args.range.lo c.args.range.hi) m));
}

pub swept_value-requires : goal.swept_value-requires
swept_value-requires c =
    let inv = c.loop-place.invariant in
    let n = c.loop-place.place in
    let m = some_of (each (slice_get c.args.store.now.values) c.args.row.now) c.requires in
    let size = inv.size in
    let below : n < length c.loop-place.row = omega arith in
    let there = partly_there (slice_get c.loop-place.store.values) (swept c.args.range.lo c.args.range.hi) c.loop-place.row n m.0
    (inv.swept m.0 m.1) below in
    slice_get_within c.loop-place.store.values (slice_index_or c.loop-place.row n 0) there.0 there.2

pub loop-place-preserved : goal.loop-place-preserved
loop-place-preserved c =
    let inv = c.loop-place.invariant in
    let n = c.loop-place.place in
    let size = inv.size in
    let below : n < length c.loop-place.row = omega arith in
    let more : suc n ≡ n + 1 = omega arith in
    record {
      kept = keeps_on c.args.store.now c.loop-place.store c.swept_value.new.store inv.kept c.swept_value.ensures.kept;
      same_harts = c.swept_value.ensures.same_harts ∙ inv.same_harts;
      size = length-set c.loop-place.row n c.in_ok-id.id ∙ inv.size;
      swept = λ m is.
          let there = partly_there (slice_get c.loop-place.store.values) (swept c.args.range.lo c.args.range.hi) c.loop-place.row n m
          (inv.swept m is) below in
          partly_step (slice_get c.loop-place.store.values) (slice_get c.swept_value.new.store.values)
          (swept c.args.range.lo c.args.range.hi) (λ i x known. c.swept_value.ensures.kept.values i x known) c.loop-place.row n
          c.in_ok-id.id m there.0 (inv.swept m is) there.1 (c.in_ok-id.ensures.numbered there.0 there.2)
          ∙ ap (λ (k : ℕ). Some (partly (swept c.args.range.lo c.args.range.hi) k m)) more;
    }

pub returns-in_err-id-clause-kept : goal.returns-in_err-id-clause-kept
returns-in_err-id-clause-kept c =
    keeps_on c.args.store.now c.loop-place.store c.swept_value.new.store c.loop-place.invariant.kept c.swept_value.ensures.kept

pub returns-clause-swept : goal.returns-clause-swept
unfolding swept_memory
returns-clause-swept c m is =
    let inv = c.loop-place.invariant in
    let size = inv.size in
    let count = each_length (slice_get c.args.store.now.values) c.args.row.now m is in
    let all : length m ≤ c.loop-place.place = omega arith in
    inv.swept m is ∙ ap (λ (l : List CapValue). Some l) (partly_all (swept c.args.range.lo c.args.range.hi) c.loop-place.place m all)
