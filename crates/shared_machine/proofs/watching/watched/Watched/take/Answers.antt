-- An operation that is not refused is taken by the core that nobody watches.
use Rattle.std.proofs.Common.{◌≡◌, ◌∷◌, [], ◌++◌, List, sym, ap, ◌∙◌}
use Rattle.std.specs.Prelude.{None}
use Rattle.cheri_model.specs.declared.operation.Op.{Op}
use Rattle.cheri_model.specs.runs.Replay.{operations_of}
use Rattle.cores.specs.Cores.{CoreParts, core_after, refused}
use Rattle.shared_machine.specs.Machines.{machine_at}
use Rattle.cores.proofs.CoreLemmas.{operations_after}
use Rattle.shared_machine.proofs.CopyLemmas.{applied_after, core_is, image_after}
use Rattle.shared_machine.proofs.watching.watched.Watched.take.Goals as goal

pub invariant_of-self : goal.invariant_of-self
invariant_of-self g c =
    let op = c.args.op in
    let core = c.in-Alone.core in
    let here : (machine_at c.self.inside.stage).core ≡ core = ap (λ s. (machine_at s).core) c.in-Alone.is in
    let seen : core ≡ c.args.self.now.core = sym here ∙ core_is c.self.view_is in
    let none : refused core op ≡ None = ap (λ (k : CoreParts). refused k op) seen ∙ c.requires in
    let after : c.apply-event.new.self ≡ core_after core op = c.apply-event.ensures.applied ∙ applied_after core op none in (
      ap (λ (k : CoreParts). k.image) after ∙ (image_after core op ∙ (ap (λ (k : CoreParts). k.image) (sym here) ∙ c.self.invariant.0)),
      c.add.ensures ∙ (ap (λ (os : List Op). os ++ op ∷ []) (c.self.invariant.1 ∙ ap (λ (k : CoreParts). operations_of k.trace) here)
          ∙ (sym (operations_after core op) ∙ ap (λ (k : CoreParts). operations_of k.trace) (sym after))),
    )

pub returns-in-Alone-clause-ok : goal.returns-in-Alone-clause-ok
returns-in-Alone-clause-ok g c =
    let op = c.args.op in
    let core = c.in-Alone.core in
    let here : (machine_at c.self.inside.stage).core ≡ core = ap (λ s. (machine_at s).core) c.in-Alone.is in
    let seen : core ≡ c.args.self.now.core = sym here ∙ core_is c.self.view_is in
    let none : refused core op ≡ None = ap (λ (k : CoreParts). refused k op) seen ∙ c.requires in
    c.apply-event.ensures.applied ∙ (applied_after core op none ∙ ap (λ (k : CoreParts). core_after k op) seen)
