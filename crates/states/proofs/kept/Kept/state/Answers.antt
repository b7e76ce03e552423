use Rattle.std.proofs.Common.{◌≡◌, ◌+◌, ◌<◌, ◌*◌, length, arith, ap, sym, ◌∙◌, subst}
use Rattle.state_store.specs.Stores.{Stored, state_of}
use Rattle.states.specs.Kept.{KeptParts, at, count, kept_of}
use Rattle.states.proofs.NodeLemmas.{is_some}
use Rattle.states.proofs.SizeLemmas.{sizes_of}
use Rattle.states.proofs.KeptLemmas.{seen_state, kept_granules}
use Rattle.states.proofs.kept.Kept.state.Goals as goal

pub read-requires-clause-few : goal.read-requires-clause-few
read-requires-clause-few c =
    omega (arith, c.self.invariant.wide, (sizes_of c.self.inside.image c.granules-granules.ensures.formed).harts_few)

pub returns-clause-state : goal.returns-clause-state
returns-clause-state c =
    let view : KeptParts = kept_of c.self.inside.image c.self.inside.sweeps.items c.self.inside.sight c.self.inside.graph.store c.self.inside.reached c.self.inside.limit in
    let below : c.args.number < count view = subst (λ (k : KeptParts). c.args.number < count k) (sym c.self.view_is) c.requires in
    let seen = seen_state view c.args.number c.read.result.now c.self.invariant.search below c.read.ensures in
    ap (λ (k : KeptParts). at k c.args.number) (sym c.self.view_is)
    ∙ (seen.there ∙ sym (ap (λ (st : Stored). state_of st c.read.result.now) c.store.ensures ∙ seen.means))

pub returns-clause-meant : goal.returns-clause-meant
returns-clause-meant c =
    let view : KeptParts = kept_of c.self.inside.image c.self.inside.sweeps.items c.self.inside.sight c.self.inside.graph.store c.self.inside.reached c.self.inside.limit in
    let below : c.args.number < count view = subst (λ (k : KeptParts). c.args.number < count k) (sym c.self.view_is) c.requires in
    let seen = seen_state view c.args.number c.read.result.now c.self.invariant.search below c.read.ensures in
    is_some (state_of c.store.result.now c.read.result.now) seen.state
    (ap (λ (st : Stored). state_of st c.read.result.now) c.store.ensures ∙ seen.means)

pub returns-clause-harts : goal.returns-clause-harts
returns-clause-harts c =
    let view : KeptParts = kept_of c.self.inside.image c.self.inside.sweeps.items c.self.inside.sight c.self.inside.graph.store c.self.inside.reached c.self.inside.limit in
    let below : c.args.number < count view = subst (λ (k : KeptParts). c.args.number < count k) (sym c.self.view_is) c.requires in
    let seen = seen_state view c.args.number c.read.result.now c.self.invariant.search below c.read.ensures in
    subst (λ (k : KeptParts). length c.read.result.now ≡ length k.image.harts + 1) c.self.view_is seen.width

pub returns-clause-granules : goal.returns-clause-granules
returns-clause-granules c =
    let view : KeptParts = kept_of c.self.inside.image c.self.inside.sweeps.items c.self.inside.sight c.self.inside.graph.store c.self.inside.reached c.self.inside.limit in
    ap (λ (st : Stored). 16 * st.granules) c.store.ensures
    ∙ (kept_granules view c.self.invariant.search c.granules-granules.ensures.formed ∙ ap (λ (k : KeptParts). k.image.ram) c.self.view_is)
