use Rattle.std.proofs.Common.{◌≡◌, ◌+◌, ◌<◌, ℕ, List, ap, sym, ◌∙◌, subst, arith, length}
use Rattle.std.specs.Prelude.{true, false, ◌&&◌, Some, slice_index_or}
use Rattle.std.proofs.lemmas.Bool.{both_ways}
use Rattle.std.proofs.lemmas.List.{with_items_is}
use Rattle.cheri_model.specs.runs.Image.{ImageParts}
use Rattle.cheri_model.specs.runs.Machine.{hart_at, state_after_step, stepped}
use Rattle.explore_sights.specs.Sights.{hides}
use Rattle.state_store.specs.Stores as stores
use Rattle.state_store.proofs.NumberedLemmas.{some_of}
use Rattle.states.specs.Graphs as plain
use Rattle.states.proofs.NodeLemmas.{is_some, node_of}
use Rattle.granule_states.specs.Accesses.{IsAsked}
use Rattle.granule_states.specs.Graphs.{GranuleParts, is_shared, quiet_in, state_in}
use Rattle.granule_states.proofs.QuietLemmas.{private_quiet, shared_still, stopped_still}
use Rattle.granule_states.proofs.RowLemmas.{after_is, after_some, followed, place_of, place_within}
use Rattle.granule_states.proofs.graph.GranuleGraph.quiet_step.Goals as goal

pub returns-in_default-clause-quiet : goal.returns-in_default-clause-quiet
returns-in_default-clause-quiet c s is =
    sym (stopped_still c.args.self.now.graph.image (is_shared c.args.self.now.shared) (hides c.args.self.now.sight) s c.args.hart
    (c.in_default.ensures s is))

pub returns-then-asks_shared-clause-quiet : goal.returns-then-asks_shared-clause-quiet
returns-then-asks_shared-clause-quiet c s is =
    sym (shared_still c.args.self.now.graph.image (is_shared c.args.self.now.shared) (hides c.args.self.now.sight) s c.args.hart
    c.in-Some.access (c.in-Some.ensures s is) (sym c.asks_shared.ensures ∙ c.if-asks_shared.true))

pub returns-then-not-branch-clause-quiet : goal.returns-then-not-branch-clause-quiet
returns-then-not-branch-clause-quiet c s is =
    let g = c.self.inside.graph in
    let here : plain.state_in g c.args.row.now ≡ Some s = ap (λ (p : GranuleParts). plain.state_in p.graph c.args.row.now) c.self.view_is ∙ is in
    let low : c.args.hart < length g.image.harts =
    subst (λ (p : GranuleParts). c.args.hart < length p.graph.image.harts) (sym c.self.view_is) c.requires.hart in
    let f = followed g c.follow.new.self c.follow.ensures.continues c.self.invariant.unswept c.self.invariant.seen c.args.row.now c.follow.new.to
    s c.args.hart c.in_ok-follow.field-0 here low (c.in-Some.ensures s is).runs (c.in_ok-follow.ensures.value s here) in
    absurd (both_ways c.in_ok-follow.field-0 c.if-not-branch.true f.there)

pub returns-then-not-branch-clause-row : goal.returns-then-not-branch-clause-row
returns-then-not-branch-clause-row c s is =
    let g = c.self.inside.graph in
    let here : plain.state_in g c.args.row.now ≡ Some s = ap (λ (p : GranuleParts). plain.state_in p.graph c.args.row.now) c.self.view_is ∙ is in
    let low : c.args.hart < length g.image.harts =
    subst (λ (p : GranuleParts). c.args.hart < length p.graph.image.harts) (sym c.self.view_is) c.requires.hart in
    (followed g c.follow.new.self c.follow.ensures.continues c.self.invariant.unswept c.self.invariant.seen c.args.row.now c.follow.new.to
    s c.args.hart c.in_ok-follow.field-0 here low (c.in-Some.ensures s is).runs (c.in_ok-follow.ensures.value s here)).stays

pub bounds-row-hart : goal.bounds-row-hart
bounds-row-hart c = place_within c.args.self.now.graph c.args.row.now c.args.hart c.requires.meant c.requires.hart

pub hides-requires-clause-before : goal.hides-requires-clause-before
hides-requires-clause-before c =
    let g = c.self.inside.graph in
    let s = some_of (state_in c.args.self.now c.args.row.now) c.requires.meant in
    let here : plain.state_in g c.args.row.now ≡ Some s.0 =
    ap (λ (p : GranuleParts). plain.state_in p.graph c.args.row.now) c.self.view_is ∙ s.1 in
    let low : c.args.hart < length g.image.harts =
    subst (λ (p : GranuleParts). c.args.hart < length p.graph.image.harts) (sym c.self.view_is) c.requires.hart in
    let f = followed g c.follow.new.self c.follow.ensures.continues c.self.invariant.unswept c.self.invariant.seen c.args.row.now c.follow.new.to
    s.0 c.args.hart c.in_ok-follow.field-0 here low (c.in-Some.ensures s.0 s.1).runs (c.in_ok-follow.ensures.value s.0 here) in
    is_some (stores.hart_at c.follow.new.self.store (slice_index_or c.args.row.now (c.args.hart + 1) 0)) (hart_at s.0 c.args.hart) f.before

pub hides-requires-clause-after : goal.hides-requires-clause-after
hides-requires-clause-after c =
    let g = c.self.inside.graph in
    let s = some_of (state_in c.args.self.now c.args.row.now) c.requires.meant in
    let here : plain.state_in g c.args.row.now ≡ Some s.0 =
    ap (λ (p : GranuleParts). plain.state_in p.graph c.args.row.now) c.self.view_is ∙ s.1 in
    let low : c.args.hart < length g.image.harts =
    subst (λ (p : GranuleParts). c.args.hart < length p.graph.image.harts) (sym c.self.view_is) c.requires.hart in
    let f = followed g c.follow.new.self c.follow.ensures.continues c.self.invariant.unswept c.self.invariant.seen c.args.row.now c.follow.new.to
    s.0 c.args.hart c.in_ok-follow.field-0 here low (c.in-Some.ensures s.0 s.1).runs (c.in_ok-follow.ensures.value s.0 here) in
    let end = place_of c.follow.new.self c.follow.new.to _ c.args.hart f.state
    (subst (λ (i : ImageParts). c.args.hart < length i.harts) (sym c.follow.ensures.continues.image) low) in
    after_some c.follow.new.self.store c.follow.new.to (c.args.hart + 1) c.index-after.result.now
    (stepped g.image s.0 c.args.hart).hart end.within
    (c.index-after.ensures ∙ ap (λ (r : List ℕ). slice_index_or r (c.args.hart + 1) c.index-after.result.now)
    (with_items_is c.self.inside.row c.follow.new.to (c.follow.auto.to ∙ c.as_mut_slice.ensures.len))) f.after

pub returns-then-not-hides-clause-quiet : goal.returns-then-not-hides-clause-quiet
returns-then-not-hides-clause-quiet c s is =
    let g = c.self.inside.graph in
    let here : plain.state_in g c.args.row.now ≡ Some s = ap (λ (p : GranuleParts). plain.state_in p.graph c.args.row.now) c.self.view_is ∙ is in
    let low : c.args.hart < length g.image.harts =
    subst (λ (p : GranuleParts). c.args.hart < length p.graph.image.harts) (sym c.self.view_is) c.requires.hart in
    let f = followed g c.follow.new.self c.follow.ensures.continues c.self.invariant.unswept c.self.invariant.seen c.args.row.now c.follow.new.to
    s c.args.hart c.in_ok-follow.field-0 here low (c.in-Some.ensures s is).runs (c.in_ok-follow.ensures.value s here) in
    let end = place_of c.follow.new.self c.follow.new.to _ c.args.hart f.state
    (subst (λ (i : ImageParts). c.args.hart < length i.harts) (sym c.follow.ensures.continues.image) low) in
    let after = after_is c.follow.new.self.store c.follow.new.to (c.args.hart + 1) c.index-after.result.now
    (stepped g.image s c.args.hart).hart end.within
    (c.index-after.ensures ∙ ap (λ (r : List ℕ). slice_index_or r (c.args.hart + 1) c.index-after.result.now)
    (with_items_is c.self.inside.row c.follow.new.to (c.follow.auto.to ∙ c.as_mut_slice.ensures.len))) f.after in
    let seen = c.hides.ensures (hart_at s c.args.hart) (stepped g.image s c.args.hart).hart f.before after in
    let there : quiet_in c.args.self.now s c.args.hart ≡ false =
    subst (λ (p : GranuleParts). quiet_in p s c.args.hart ≡ false) c.self.view_is
    (private_quiet g.image (is_shared c.self.inside.shared.items) (hides c.self.inside.sight) s c.args.hart c.in-Some.access
    (place_of g c.args.row.now s c.args.hart here low).low
    (subst (λ (p : GranuleParts). IsAsked p.graph.image (hart_at s c.args.hart) c.in-Some.access) (sym c.self.view_is) (c.in-Some.ensures s is))
    (ap (λ (p : GranuleParts). c.in-Some.access.asks && is_shared p.shared c.in-Some.access.granule) c.self.view_is
    ∙ (sym c.asks_shared.ensures ∙ c.if-asks_shared.false))
    ∙ (sym seen ∙ c.if-not-hides.true)) in
    sym there

pub returns-then-not-hides-clause-row : goal.returns-then-not-hides-clause-row
returns-then-not-hides-clause-row c s is =
    let g = c.self.inside.graph in
    let here : plain.state_in g c.args.row.now ≡ Some s = ap (λ (p : GranuleParts). plain.state_in p.graph c.args.row.now) c.self.view_is ∙ is in
    let low : c.args.hart < length g.image.harts =
    subst (λ (p : GranuleParts). c.args.hart < length p.graph.image.harts) (sym c.self.view_is) c.requires.hart in
    (followed g c.follow.new.self c.follow.ensures.continues c.self.invariant.unswept c.self.invariant.seen c.args.row.now c.follow.new.to
    s c.args.hart c.in_ok-follow.field-0 here low (c.in-Some.ensures s is).runs (c.in_ok-follow.ensures.value s here)).stays

pub copy_from_slice-requires : goal.copy_from_slice-requires
copy_from_slice-requires c =
    let g = c.self.inside.graph in
    let s = some_of (state_in c.args.self.now c.args.row.now) c.requires.meant in
    let here : plain.state_in g c.args.row.now ≡ Some s.0 =
    ap (λ (p : GranuleParts). plain.state_in p.graph c.args.row.now) c.self.view_is ∙ s.1 in
    let low : c.args.hart < length g.image.harts =
    subst (λ (p : GranuleParts). c.args.hart < length p.graph.image.harts) (sym c.self.view_is) c.requires.hart in
    let f = followed g c.follow.new.self c.follow.ensures.continues c.self.invariant.unswept c.self.invariant.seen c.args.row.now c.follow.new.to
    s.0 c.args.hart c.in_ok-follow.field-0 here low (c.in-Some.ensures s.0 s.1).runs (c.in_ok-follow.ensures.value s.0 here) in
    let first = (node_of c.follow.new.self c.args.row.now s.0 f.stays).width in
    let second = (node_of c.follow.new.self c.follow.new.to _ f.state).width in
    let same = ap (λ (r : List ℕ). length r) (c.as_slice.ensures.value
    ∙ with_items_is c.self.inside.row c.follow.new.to (c.follow.auto.to ∙ c.as_mut_slice.ensures.len)) in
    omega (arith, first, second, same)

pub returns-clause-quiet : goal.returns-clause-quiet
returns-clause-quiet c s is =
    let g = c.self.inside.graph in
    let here : plain.state_in g c.args.row.now ≡ Some s = ap (λ (p : GranuleParts). plain.state_in p.graph c.args.row.now) c.self.view_is ∙ is in
    let low : c.args.hart < length g.image.harts =
    subst (λ (p : GranuleParts). c.args.hart < length p.graph.image.harts) (sym c.self.view_is) c.requires.hart in
    let f = followed g c.follow.new.self c.follow.ensures.continues c.self.invariant.unswept c.self.invariant.seen c.args.row.now c.follow.new.to
    s c.args.hart c.in_ok-follow.field-0 here low (c.in-Some.ensures s is).runs (c.in_ok-follow.ensures.value s here) in
    let end = place_of c.follow.new.self c.follow.new.to _ c.args.hart f.state
    (subst (λ (i : ImageParts). c.args.hart < length i.harts) (sym c.follow.ensures.continues.image) low) in
    let after = after_is c.follow.new.self.store c.follow.new.to (c.args.hart + 1) c.index-after.result.now
    (stepped g.image s c.args.hart).hart end.within
    (c.index-after.ensures ∙ ap (λ (r : List ℕ). slice_index_or r (c.args.hart + 1) c.index-after.result.now)
    (with_items_is c.self.inside.row c.follow.new.to (c.follow.auto.to ∙ c.as_mut_slice.ensures.len))) f.after in
    let seen = c.hides.ensures (hart_at s c.args.hart) (stepped g.image s c.args.hart).hart f.before after in
    let there : quiet_in c.args.self.now s c.args.hart ≡ true =
    subst (λ (p : GranuleParts). quiet_in p s c.args.hart ≡ true) c.self.view_is
    (private_quiet g.image (is_shared c.self.inside.shared.items) (hides c.self.inside.sight) s c.args.hart c.in-Some.access
    (place_of g c.args.row.now s c.args.hart here low).low
    (subst (λ (p : GranuleParts). IsAsked p.graph.image (hart_at s c.args.hart) c.in-Some.access) (sym c.self.view_is) (c.in-Some.ensures s is))
    (ap (λ (p : GranuleParts). c.in-Some.access.asks && is_shared p.shared c.in-Some.access.granule) c.self.view_is
    ∙ (sym c.asks_shared.ensures ∙ c.if-asks_shared.false))
    ∙ (sym seen ∙ c.if-not-hides.false)) in
    sym there

pub returns-clause-row : goal.returns-clause-row
returns-clause-row c s is =
    let g = c.self.inside.graph in
    let here : plain.state_in g c.args.row.now ≡ Some s = ap (λ (p : GranuleParts). plain.state_in p.graph c.args.row.now) c.self.view_is ∙ is in
    let low : c.args.hart < length g.image.harts =
    subst (λ (p : GranuleParts). c.args.hart < length p.graph.image.harts) (sym c.self.view_is) c.requires.hart in
    let f = followed g c.follow.new.self c.follow.ensures.continues c.self.invariant.unswept c.self.invariant.seen c.args.row.now c.follow.new.to
    s c.args.hart c.in_ok-follow.field-0 here low (c.in-Some.ensures s is).runs (c.in_ok-follow.ensures.value s here) in
    ap (plain.state_in c.follow.new.self) (c.copy_from_slice.ensures.after ∙ (c.as_slice.ensures.value
    ∙ with_items_is c.self.inside.row c.follow.new.to (c.follow.auto.to ∙ c.as_mut_slice.ensures.len)))
    ∙ (f.state ∙ ap (λ (p : GranuleParts). Some (state_after_step p.graph.image s c.args.hart)) c.self.view_is)
