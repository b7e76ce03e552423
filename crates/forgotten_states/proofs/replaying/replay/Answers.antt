use Rattle.std.proofs.Common.{◌≡◌, ◌+◌, ◌<◌, ℕ, List, length, arith, refl, ap, sym, ◌∙◌, subst}
use Rattle.std.specs.Prelude.{Option, Some, slice_index_or}
use Rattle.cheri_model.specs.runs.Image.{ImageParts}
use Rattle.cheri_model.specs.runs.Machine.{MachineState}
use Rattle.hart_order.specs.Arrangements.{arranged_state}
use Rattle.state_store.proofs.NumberedLemmas.{some_of}
use Rattle.states.proofs.NodeLemmas.{node_of}
use Rattle.states.proofs.RowLemmas.{row_back}
use Rattle.forgotten_states.specs.Graphs.{AreMoved, forgotten_in, state_in}
use Rattle.forgotten_states.proofs.GraphLemmas.{forgotten_kept, remembers_on, remembers_self}
use Rattle.forgotten_states.proofs.ReplayLemmas.{IsTold, label_low, stuck, told_all, told_more, told_none, told_stuck, went}
use Rattle.forgotten_states.proofs.replaying.replay.Goals as goal

pub loop-label-init : goal.loop-label-init
loop-label-init c =
    let s = some_of (state_in c.args.graph.now c.args.row.now) c.requires.meant in
    let width = (node_of c.args.graph.now.graph c.args.row.now s.0 s.1).width in record {
      remembers = remembers_self c.args.graph.now;
      row = width;
      room = ap (λ (l : List ℕ). length l) c.in_ok-to.ensures.items ∙ width;
      places = c.requires.places;
      told = λ t is. (
        t,
        is,
        subst (λ (told : List ℕ). IsTold (forgotten_in c.args.graph.now) c.args.graph.now.groups c.args.labels.now told
            c.args.places.now 0 c.args.places.now t t) (sym c.in_ok-own.ensures.items)
            (told_none (forgotten_in c.args.graph.now) c.args.graph.now.groups c.args.labels.now c.args.places.now t),
      );
    }

pub bounds-places-label : goal.bounds-places-label
bounds-places-label c =
    let low = label_low c.args.labels.now (length c.args.graph.now.graph.image.harts) (λ i label at. c.requires.labels i label at)
    c.loop-label.label-index c.loop-label-test.true in
    subst (λ (n : ℕ). slice_index_or c.args.labels.now c.loop-label.label-index 0 < n) (sym c.loop-label.invariant.places) low

pub follow_placed-requires-clause-labelled : goal.follow_placed-requires-clause-labelled
follow_placed-requires-clause-labelled c =
    let low = label_low c.args.labels.now (length c.args.graph.now.graph.image.harts) (λ i label at. c.requires.labels i label at)
    c.loop-label.label-index c.loop-label-test.true in
    let same : length c.loop-label.graph.graph.image.harts ≡ length c.args.graph.now.graph.image.harts =
    ap (λ (i : ImageParts). length i.harts) c.loop-label.invariant.remembers.graph.image in
    omega (arith, low, same)

pub returns-then-not-branch : goal.returns-then-not-branch
returns-then-not-branch c s is =
    let t = c.loop-label.invariant.told s is in
    let label = slice_index_or c.args.labels.now c.loop-label.label-index 0 in
    let none = stuck c.follow_placed.new.self c.in_ok-follow_placed.field-0 c.follow_placed.new.to c.loop-label.places
    c.follow_placed.new.places (forgotten_in c.loop-label.graph t.0 label) c.if-not-branch.true
    (c.in_ok-follow_placed.ensures.value t.0 t.1) in
    let kept = forgotten_kept c.args.graph.now c.loop-label.graph c.loop-label.invariant.remembers in
    let low = label_low c.args.labels.now (length c.args.graph.now.graph.image.harts) (λ i l at. c.requires.labels i l at)
    c.loop-label.label-index c.loop-label-test.true in
    c.in_ok-push.ensures.items
    ∙ told_stuck (forgotten_in c.args.graph.now) c.args.graph.now.groups c.args.labels.now c.loop-label.own.items c.loop-label.places
    c.loop-label.label-index c.args.places.now s t.0 label t.2 c.loop-label-test.true refl
    (subst (λ (n : ℕ). label < n) (sym c.loop-label.invariant.places) low)
    (ap (λ (f : MachineState → ℕ → Option MachineState). f t.0 label) (sym kept) ∙ none)

pub loop-label-preserved : goal.loop-label-preserved
loop-label-preserved c =
    let was = c.loop-label.invariant in
    let label = slice_index_or c.args.labels.now c.loop-label.label-index 0 in
    let kept = remembers_on c.args.graph.now c.loop-label.graph c.follow_placed.new.self was.remembers
    c.follow_placed.ensures.remembers in
    let s = some_of (state_in c.args.graph.now c.args.row.now) c.requires.meant in
    let t = was.told s.0 s.1 in
    let gone = went c.follow_placed.new.self c.in_ok-follow_placed.field-0 c.follow_placed.new.to c.loop-label.places
    c.follow_placed.new.places (forgotten_in c.loop-label.graph t.0 label) c.if-not-branch.false
    (c.in_ok-follow_placed.ensures.value t.0 t.1) in
    let width = (node_of c.follow_placed.new.self.graph c.follow_placed.new.to
    (arranged_state c.follow_placed.new.self.groups gone.0) gone.2).width in
    let same : length c.follow_placed.new.self.graph.image.harts ≡ length c.args.graph.now.graph.image.harts =
    ap (λ (i : ImageParts). length i.harts) kept.graph.image in
    let room = was.room in
    let count : c.loop-label.to.len ≡ length c.follow_placed.new.to = omega (arith, c.loop-label.to.ok.0) in
    let back = row_back c.loop-label.to.len c.follow_placed.new.to c.loop-label.to.items count in
    let whole : length c.follow_placed.new.to ≡ length c.args.graph.now.graph.image.harts + 1 = omega arith in
    let copied : c.copy_from_slice.new.self ≡ c.follow_placed.new.to =
    c.copy_from_slice.ensures.after ∙ (c.as_slice.ensures.value ∙ back) in
    let low = label_low c.args.labels.now (length c.args.graph.now.graph.image.harts) (λ i l at. c.requires.labels i l at)
    c.loop-label.label-index c.loop-label-test.true in record {
      remembers = kept;
      row = ap (λ (l : List ℕ). length l) copied ∙ whole;
      room = ap (λ (l : List ℕ). length l) back ∙ whole;
      places = c.follow_placed.ensures.places ∙ was.places;
      told = λ first is.
          let here = was.told first is in
          let on = went c.follow_placed.new.self c.in_ok-follow_placed.field-0 c.follow_placed.new.to c.loop-label.places
          c.follow_placed.new.places (forgotten_in c.loop-label.graph here.0 label) c.if-not-branch.false
          (c.in_ok-follow_placed.ensures.value here.0 here.1) in
          let next = forgotten_kept c.args.graph.now c.loop-label.graph was.remembers in
          let goes = ap (λ (f : MachineState → ℕ → Option MachineState). f here.0 label) (sym next) ∙ on.1 in
          let moved = subst (λ (gs : List ℕ). AreMoved gs on.0 c.loop-label.places c.follow_placed.new.places) kept.groups
          on.3 in
          let told = told_more (forgotten_in c.args.graph.now) c.args.graph.now.groups c.args.labels.now c.loop-label.own.items
          c.loop-label.places c.follow_placed.new.places c.loop-label.label-index c.args.places.now first here.0 on.0 label here.2
          c.loop-label-test.true refl (subst (λ (n : ℕ). label < n) (sym was.places) low) goes moved in (
            arranged_state c.args.graph.now.groups on.0,
            ap (state_in c.follow_placed.new.self) copied
                ∙ (on.2 ∙ ap (λ (gs : List ℕ). Some (arranged_state gs on.0)) kept.groups),
            subst (λ (ls : List ℕ). IsTold (forgotten_in c.args.graph.now) c.args.graph.now.groups c.args.labels.now ls
                c.follow_placed.new.places (c.loop-label.label-index + 1) c.args.places.now first
                (arranged_state c.args.graph.now.groups on.0)) (sym c.in_ok-push.ensures.items) told,
          );
    }

pub returns : goal.returns
returns c s is =
    let t = c.loop-label.invariant.told s is in
    told_all (forgotten_in c.args.graph.now) c.args.graph.now.groups c.args.labels.now c.loop-label.own.items c.loop-label.places
    c.loop-label.label-index c.args.places.now s t.0 t.2 c.loop-label-test.false
