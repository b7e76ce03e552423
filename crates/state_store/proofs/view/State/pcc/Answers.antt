use Rattle.std.proofs.Common.{sym, subst, refl, ◌∙◌, ap, ◌+◌}
use Rattle.std.specs.Prelude.{Option, IsSome, slice_index_or, Some}
use Rattle.std.proofs.lemmas.Option.{same_Some}
use Rattle.cheri_model.specs.steps.Hart.{HartState}
use Rattle.cheri_model.specs.runs.Machine.{hart_at}
use Rattle.state_store.specs.Stores.{state_of}
use Rattle.state_store.proofs.NumberedLemmas.{some_of}
use Rattle.state_store.proofs.SeenLemmas.{seen_hart, seen_pcc}
use Rattle.state_store.proofs.view.State.pcc.Goals as goal

pub hart-row-requires : goal.hart-row-requires
hart-row-requires c =
    let s = some_of (state_of c.args.self.store.now c.args.self.row.now) c.requires.state in
    subst (λ (o : Option HartState). IsSome o)
    (sym (seen_hart c.args.self.store.now c.args.self.row.now s.0 c.args.hart s.1 c.requires.hart)) refl

pub bounds-row-1 : goal.bounds-row-1
bounds-row-1 c =
    let s = some_of (state_of c.args.self.store.now c.args.self.row.now) c.requires.state in
    (seen_pcc c.args.self.store.now (slice_index_or c.args.self.row.now (c.args.hart + 1) 0) c.hart-row.result.now
    (hart_at s.0 c.args.hart)
    (seen_hart c.args.self.store.now c.args.self.row.now s.0 c.args.hart s.1 c.requires.hart) c.hart-row.ensures).0

pub value-requires : goal.value-requires
value-requires c =
    let s = some_of (state_of c.args.self.store.now c.args.self.row.now) c.requires.state in
    (seen_pcc c.args.self.store.now (slice_index_or c.args.self.row.now (c.args.hart + 1) 0) c.hart-row.result.now
    (hart_at s.0 c.args.hart)
    (seen_hart c.args.self.store.now c.args.self.row.now s.0 c.args.hart s.1 c.requires.hart) c.hart-row.ensures).1

pub returns : goal.returns
returns c s is =
    let seen = seen_pcc c.args.self.store.now (slice_index_or c.args.self.row.now (c.args.hart + 1) 0) c.hart-row.result.now
    (hart_at s c.args.hart)
    (seen_hart c.args.self.store.now c.args.self.row.now s c.args.hart is c.requires.hart) c.hart-row.ensures in
    c.of_value.ensures ∙ same_Some c.value.result (hart_at s c.args.hart).pcc (sym c.value.ensures ∙ seen.2)
