use Rattle.std.proofs.Common.{sym, subst, refl, ◌∙◌, ap, ◌+◌}
use Rattle.std.specs.Prelude.{Option, IsSome, slice_index_or, Some}
use Rattle.std.proofs.lemmas.Option.{same_Some}
use Rattle.cheri_model.specs.declared.trace.Status.{Status}
use Rattle.cheri_model.specs.steps.Hart.{HartState}
use Rattle.cheri_model.specs.runs.Machine.{hart_at}
use Rattle.state_store.specs.Stores.{state_of}
use Rattle.state_store.proofs.NumberedLemmas.{some_of}
use Rattle.state_store.proofs.SeenLemmas.{seen_hart, seen_status}
use Rattle.state_store.proofs.view.State.status.Goals as goal

pub hart-requires : goal.hart-requires
hart-requires c =
    let s = some_of (state_of c.args.self.store.now c.args.self.row.now) c.requires.state in
    subst (λ (o : Option HartState). IsSome o)
    (sym (seen_hart c.args.self.store.now c.args.self.row.now s.0 c.args.hart s.1 c.requires.hart)) refl

pub bounds-hart-0 : goal.bounds-hart-0
bounds-hart-0 c =
    let s = some_of (state_of c.args.self.store.now c.args.self.row.now) c.requires.state in
    (seen_status c.args.self.store.now (slice_index_or c.args.self.row.now (c.args.hart + 1) 0) c.hart.result.now
    (hart_at s.0 c.args.hart)
    (seen_hart c.args.self.store.now c.args.self.row.now s.0 c.args.hart s.1 c.requires.hart) c.hart.ensures).0

pub status_of-requires : goal.status_of-requires
status_of-requires c =
    let s = some_of (state_of c.args.self.store.now c.args.self.row.now) c.requires.state in
    subst (λ (o : Option Status). IsSome o)
    (sym (seen_status c.args.self.store.now (slice_index_or c.args.self.row.now (c.args.hart + 1) 0) c.hart.result.now
    (hart_at s.0 c.args.hart)
    (seen_hart c.args.self.store.now c.args.self.row.now s.0 c.args.hart s.1 c.requires.hart) c.hart.ensures).1) refl

pub returns : goal.returns
returns c s is =
    let seen = seen_status c.args.self.store.now (slice_index_or c.args.self.row.now (c.args.hart + 1) 0) c.hart.result.now
    (hart_at s c.args.hart)
    (seen_hart c.args.self.store.now c.args.self.row.now s c.args.hart is c.requires.hart) c.hart.ensures in
    same_Some c.status_of.result (hart_at s c.args.hart).status (sym c.status_of.ensures ∙ seen.1)
