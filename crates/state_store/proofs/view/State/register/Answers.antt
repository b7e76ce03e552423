use Rattle.std.proofs.Common.{sym, subst, refl, ◌∙◌, ap, ◌+◌, ◌<◌, ◌≡◌, arith, ℕ}
use Rattle.std.specs.Prelude.{Option, IsSome, slice_index_or, Some}
use Rattle.std.proofs.lemmas.Option.{same_Some}
use Rattle.cheri_model.specs.steps.Hart.{HartState, register}
use Rattle.cheri_model.specs.runs.Machine.{hart_at}
use Rattle.state_store.specs.Stores.{state_of}
use Rattle.state_store.proofs.NumberedLemmas.{some_of}
use Rattle.state_store.proofs.SeenLemmas.{seen_hart, seen_register, seen_null}
use Rattle.state_store.proofs.view.State.register.Goals as goal

pub returns-then-number-eq0 : goal.returns-then-number-eq0
returns-then-number-eq0 c s is =
    let zero : c.args.reg ≡ 0 = omega arith in
    let seen = seen_hart c.args.self.store.now c.args.self.row.now s c.args.hart is c.requires.hart in
    c.null.ensures ∙ sym (ap (register (hart_at s c.args.hart)) zero
    ∙ seen_null c.args.self.store.now (slice_index_or c.args.self.row.now (c.args.hart + 1) 0) (hart_at s c.args.hart) seen)

pub hart-row-requires : goal.hart-row-requires
hart-row-requires c =
    let s = some_of (state_of c.args.self.store.now c.args.self.row.now) c.requires.state in
    subst (λ (o : Option HartState). IsSome o)
    (sym (seen_hart c.args.self.store.now c.args.self.row.now s.0 c.args.hart s.1 c.requires.hart)) refl

pub bounds-row-number : goal.bounds-row-number
bounds-row-number c =
    let s = some_of (state_of c.args.self.store.now c.args.self.row.now) c.requires.state in
    let seen = seen_register c.args.self.store.now (slice_index_or c.args.self.row.now (c.args.hart + 1) 0) c.hart-row.result.now
    (hart_at s.0 c.args.hart) c.from-number.result
    (seen_hart c.args.self.store.now c.args.self.row.now s.0 c.args.hart s.1 c.requires.hart) c.hart-row.ensures
    (omega arith) (omega arith) in
    seen.0

pub value-requires : goal.value-requires
value-requires c =
    let s = some_of (state_of c.args.self.store.now c.args.self.row.now) c.requires.state in
    let seen = seen_register c.args.self.store.now (slice_index_or c.args.self.row.now (c.args.hart + 1) 0) c.hart-row.result.now
    (hart_at s.0 c.args.hart) c.from-number.result
    (seen_hart c.args.self.store.now c.args.self.row.now s.0 c.args.hart s.1 c.requires.hart) c.hart-row.ensures
    (omega arith) (omega arith) in
    seen.1

pub returns : goal.returns
returns c s is =
    let seen = seen_register c.args.self.store.now (slice_index_or c.args.self.row.now (c.args.hart + 1) 0) c.hart-row.result.now
    (hart_at s c.args.hart) c.from-number.result
    (seen_hart c.args.self.store.now c.args.self.row.now s c.args.hart is c.requires.hart) c.hart-row.ensures
    (omega arith) (omega arith) in
    let same : c.from-number.result ≡ c.args.reg = omega arith in
    c.of_value.ensures ∙ (same_Some c.value.result (register (hart_at s c.args.hart) c.from-number.result) (sym c.value.ensures ∙ seen.2)
    ∙ ap (register (hart_at s c.args.hart)) same)
