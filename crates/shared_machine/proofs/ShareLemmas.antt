-- The books of a machine as its shares are drawn, and after a step.
use Rattle.std.proofs.Common.{◌≡◌, ◌≢◌, ℕ, zero, suc, ◌+◌, ◌<◌, ◌≤◌, Bool, true, false, ◌==◌, List, [], ◌∷◌, ◌++◌, length, replicate, get_or, set, refl, sym, ap, subst, ◌∙◌, arith, get_or-set_same, get_or-set_other, length-set}
use Rattle.std.specs.Prelude.{slice_set, slice_index, cond}
use Rattle.std.proofs.lemmas.Bool.Decides.{nat_tests}
use Rattle.std.proofs.lemmas.List.{get_or-replicate}
use Rattle.std.proofs.lemmas.List.Sums.{sum_by-append}
use Rattle.std.proofs.lemmas.List.FromFn.{map-range_with_len_more}
use Rattle.cheri_model.specs.declared.operation.Op.TheVariants as operation
use Rattle.cheri_model.specs.declared.operation.Event.{Event}
use Rattle.cheri_model.specs.declared.operation.Event.TheVariants as event
use Rattle.cheri_model.specs.declared.trace.Entry.{Entry}
use Rattle.cheri_model.specs.runs.Replay.{is_step_of, step_count}
use Rattle.cheri_model.specs.runs.Machine.{entry_of, event_of}
use Rattle.cores.specs.Cores.{CoreParts, core_after}
use Rattle.shared_machine.specs.Shares.{ShareParts, share_at, shares_of, IsCounted, is_sweep, sweep_count}

-- while shares are drawn: the harts before this one have theirs, and the others' ledgers are whole and empty
pub record IsOpening (books parts amounts : List ℕ) (made : List ShareParts) (trace : List Event) (drawn : ℕ) : Type 0 where
  pub lanes : length books ≡ 8
  pub lanes_of_parts : length parts ≡ 8
  pub counts : (k : ℕ) → k < drawn → slice_index books k ≡ step_count trace k
  pub fresh : (k : ℕ) → drawn ≤ k → k < 8 → slice_index books k ≡ 0
  pub whole : (k : ℕ) → drawn ≤ k → k < 8 → slice_index parts k ≡ 1
  pub none : (k : ℕ) → k < 8 → slice_index amounts k ≡ 0
  pub shares : made ≡ shares_of trace drawn

pub opening_none : (trace : List Event) → IsOpening (replicate 8 0) (replicate 8 1) (replicate 8 0) [] trace 0
unfolding shares_of
opening_none trace = record {
  lanes = refl;
  lanes_of_parts = refl;
  counts = λ k below. absurd (omega arith);
  fresh = λ k from below. get_or-replicate 8 k 0 0 below;
  whole = λ k from below. get_or-replicate 8 k 1 0 below;
  none = λ k below. get_or-replicate 8 k 0 0 below;
  shares = refl;
}

-- one more share was drawn, with its hart's entries counted
pub opening_more : (books parts amounts : List ℕ) (shares : List ShareParts) (trace : List Event) (drawn : ℕ) →
    drawn < 8 → IsOpening books parts amounts shares trace drawn →
    IsOpening (slice_set books drawn (step_count trace drawn)) (slice_set parts drawn 0) amounts (shares ++ share_at trace drawn ∷ []) trace (drawn + 1)
unfolding shares_of
opening_more books parts amounts shares trace drawn room is = record {
  lanes = simp length-set is.lanes;
  lanes_of_parts = simp length-set is.lanes_of_parts;
  counts = λ k below. by_place k (k == drawn) refl below;
  fresh = λ k from below. get_or-set_other books drawn k _ 0 (λ e. absurd (omega arith)) ∙ is.fresh k (omega arith) below;
  whole = λ k from below. get_or-set_other parts drawn k _ 0 (λ e. absurd (omega arith)) ∙ is.whole k (omega arith) below;
  none = is.none;
  shares = ap (λ (s : List ShareParts). s ++ share_at trace drawn ∷ []) is.shares ∙ sym (map-range_with_len_more (share_at trace) 0 drawn drawn (omega arith));
}
  where
    by_place : (k : ℕ) (b : Bool) → (k == drawn) ≡ b → k < drawn + 1 → get_or (set books drawn (step_count trace drawn)) k 0 ≡ step_count trace k
    by_place k true e below =
        let same : k ≡ drawn = grind (arith, nat_tests) in
        subst (λ n. get_or (set books drawn (step_count trace drawn)) n 0 ≡ step_count trace n) (sym same)
        (get_or-set_same books drawn (step_count trace drawn) 0 (let lanes = is.lanes in omega arith))
    by_place k false e below =
        let other : k ≢ drawn = grind (arith, nat_tests) in
        get_or-set_other books drawn k _ 0 other ∙ is.counts k (omega arith)

-- the same, of what drawing a share leaves
pub opening_next : (books parts amounts : List ℕ) (made : List ShareParts) (trace : List Event) (drawn : ℕ)
    (books' parts' amounts' : List ℕ) (made' : List ShareParts) → drawn < 8 → IsOpening books parts amounts made trace drawn →
    books' ≡ slice_set books drawn (step_count trace drawn) → parts' ≡ slice_set parts drawn 0 → amounts' ≡ amounts →
    made' ≡ made ++ share_at trace drawn ∷ [] → IsOpening books' parts' amounts' made' trace (drawn + 1)
opening_next books parts amounts made trace drawn books' parts' amounts' made' room is b p a m =
    rw (b, p, a, m) (opening_more books parts amounts made trace drawn room is)

-- all shares were drawn
pub opened_counts : (books parts amounts : List ℕ) (shares : List ShareParts) (trace : List Event) (harts : ℕ) →
    IsOpening books parts amounts shares trace harts → IsCounted books trace harts
opened_counts books parts amounts shares trace harts is = record { lanes = is.lanes; counts = is.counts }

-- one more event counts for its hart alone, and a sweep for none
step_count_push : (trace : List Event) (added : Event) (k : ℕ) → step_count (trace ++ added ∷ []) k ≡ step_count trace k + cond (is_step_of k added) 1 0
unfolding step_count
step_count_push trace added k = omega (arith, sum_by-append (λ (e : Event). cond (is_step_of k e) 1 0) trace (added ∷ []))

-- the books after a step of a hart was counted
counted_more : (books : List ℕ) (trace : List Event) (harts : ℕ) (entry : Entry) → entry.hart < 8 → IsCounted books trace harts →
    IsCounted (slice_set books entry.hart (slice_index books entry.hart + 1)) (trace ++ event.Step entry ∷ []) harts
counted_more books trace harts entry room is = record {
  lanes = simp length-set is.lanes;
  counts = λ k below. by_hart k (entry.hart == k) refl below;
}
  where
    by_hart : (k : ℕ) (b : Bool) → (entry.hart == k) ≡ b → k < harts →
        get_or (set books entry.hart (get_or books entry.hart 0 + 1)) k 0 ≡ step_count (trace ++ event.Step entry ∷ []) k
    by_hart k true e below =
        let same : k ≡ entry.hart = grind (arith, nat_tests) in
        let old = is.counts k below in
        let here : get_or (set books entry.hart (get_or books entry.hart 0 + 1)) k 0 ≡ get_or books k 0 + 1 =
        subst (λ n. get_or (set books entry.hart (get_or books entry.hart 0 + 1)) n 0 ≡ get_or books n 0 + 1) (sym same)
        (get_or-set_same books entry.hart (get_or books entry.hart 0 + 1) 0 (let lanes = is.lanes in omega arith)) in
        let more = step_count_push trace (event.Step entry) k in
        here ∙ ap (λ n. n + 1) old ∙ sym (more ∙ ap (λ (b : Bool). step_count trace k + cond b 1 0) e)
    by_hart k false e below =
        let other : k ≢ entry.hart = grind (arith, nat_tests) in
        let more = step_count_push trace (event.Step entry) k in
        get_or-set_other books entry.hart k _ 0 other ∙ is.counts k below
        ∙ sym (more ∙ ap (λ (b : Bool). step_count trace k + cond b 1 0) e ∙ omega arith)

-- the machine after a step of this hart that was not refused
pub counted_after : (books : List ℕ) (core after : CoreParts) (hart harts : ℕ) → hart < 8 → after ≡ core_after core (operation.Step hart) →
    IsCounted books core.trace harts → IsCounted (slice_set books hart (slice_index books hart + 1)) after.trace harts
unfolding core_after entry_of event_of
counted_after books core after hart harts room is counted =
    subst (λ (k : CoreParts). IsCounted (slice_set books hart (slice_index books hart + 1)) k.trace harts) (sym is)
    (counted_more books core.trace harts (entry_of core.image core.state hart) room counted)

-- the machine after a sweep that was not refused
pub counted_still : (books : List ℕ) (core after : CoreParts) (lo hi harts : ℕ) → after ≡ core_after core (operation.Sweep lo hi) →
    IsCounted books core.trace harts → IsCounted books after.trace harts
unfolding core_after event_of
counted_still books core after lo hi harts is counted =
    let added = event_of core.image core.state (operation.Sweep lo hi) in
    subst (λ (k : CoreParts). IsCounted books k.trace harts) (sym is) (record {
      lanes = counted.lanes;
      counts = λ k below. counted.counts k below ∙ sym (step_count_push core.trace added k ∙ omega arith);
    })

-- one more event counts as a sweep where it is one
sweep_count_push : (trace : List Event) (added : Event) → sweep_count (trace ++ added ∷ []) ≡ sweep_count trace + cond (is_sweep added) 1 0
unfolding sweep_count
sweep_count_push trace added = omega (arith, sum_by-append (λ (e : Event). cond (is_sweep e) 1 0) trace (added ∷ []))

-- a step is no sweep
pub swept_still : (core after : CoreParts) (hart : ℕ) → after ≡ core_after core (operation.Step hart) →
    sweep_count after.trace ≡ sweep_count core.trace
unfolding core_after event_of
swept_still core after hart is =
    let added = event_of core.image core.state (operation.Step hart) in
    ap (λ (k : CoreParts). sweep_count k.trace) is ∙ (sweep_count_push core.trace added ∙ omega arith)

-- a sweep is one more
pub swept_more : (core after : CoreParts) (lo hi : ℕ) → after ≡ core_after core (operation.Sweep lo hi) →
    sweep_count after.trace ≡ sweep_count core.trace + 1
unfolding core_after event_of
swept_more core after lo hi is =
    let added = event_of core.image core.state (operation.Sweep lo hi) in
    ap (λ (k : CoreParts). sweep_count k.trace) is ∙ sweep_count_push core.trace added

-- one more share has counted the steps of its hart
pub audited_more : (items : List ShareParts) (trace : List Event) (place : ℕ) (share : ShareParts) → place < length items →
    share.amount ≡ step_count trace share.hart →
    ((k : ℕ) (d : ShareParts) → k < place → (get_or items k d).amount ≡ step_count trace (get_or items k d).hart) →
    (k : ℕ) (d : ShareParts) → k < place + 1 → (get_or (set items place share) k d).amount ≡ step_count trace (get_or (set items place share) k d).hart
audited_more items trace place share inside counted before k d below = by_place (k == place) refl
  where
    Counts : ShareParts → Type 0
    Counts s = s.amount ≡ step_count trace s.hart

    by_place : (b : Bool) → (k == place) ≡ b → Counts (get_or (set items place share) k d)
    by_place true e =
        let same : k ≡ place = grind (arith, nat_tests) in
        subst Counts (sym (ap (λ n. get_or (set items place share) n d) same ∙ get_or-set_same items place share d inside)) counted
    by_place false e =
        let other : k ≢ place = grind (arith, nat_tests) in
        let less : k < place = omega (arith, other, below) in
        subst Counts (sym (get_or-set_other items place k share d other)) (before k d less)

-- writing what was read changes nothing
pub set_read : (items : List ShareParts) (place : ℕ) (x : ShareParts) → x ≡ get_or items place x → set items place x ≡ items
set_read [] place x is = refl
set_read (y ∷ ys) zero x is = ap (λ (z : ShareParts). z ∷ ys) is
set_read (y ∷ ys) (suc place) x is = ap (λ (zs : List ShareParts). y ∷ zs) (set_read ys place x is)
