use Rattle.std.proofs.Common.{sym, subst, refl, ◌∙◌, ap, ◌+◌}
use Rattle.std.specs.Prelude.{Option, IsSome, slice_index_or, Some}
use Rattle.std.proofs.lemmas.Option.{same_Some}
use Rattle.cheri_model.specs.steps.Hart.{HartState}
use Rattle.cheri_model.specs.runs.Machine.{hart_at}
use Rattle.state_store.specs.Stores.{state_of}
use Rattle.state_store.proofs.NumberedLemmas.{some_of}
use Rattle.state_store.proofs.SeenLemmas.{seen_hart}
use Rattle.state_store.proofs.view.State.load_hart.Goals as goal

pub load_hart-requires : goal.load_hart-requires
load_hart-requires c =
    let s = some_of (state_of c.args.self.store.now c.args.self.row.now) c.requires.state in
    subst (λ (o : Option HartState). IsSome o)
    (sym (seen_hart c.args.self.store.now c.args.self.row.now s.0 c.args.number s.1 c.requires.hart)) refl

pub returns : goal.returns
returns c s is =
    same_Some c.load_hart.new.hart (hart_at s c.args.number)
    (sym c.load_hart.ensures ∙ seen_hart c.args.self.store.now c.args.self.row.now s c.args.number is c.requires.hart)
