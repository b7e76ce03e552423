-- A step of a core that is followed: its facts are those of the definition, and it is followed on.
use Rattle.std.proofs.Common.{◌≡◌, length, sym, ◌∙◌, ap, subst}
use Rattle.cheri_model.specs.declared.operation.Op.TheVariants as operation
use Rattle.cheri_model.specs.steps.HartStep.{Stepped, hart_step}
use Rattle.cheri_model.specs.runs.Machine.{hart_at}
use Rattle.origins.specs.Flows.{step_flows}
use Rattle.origins.specs.Table.{list_of, AreFlows, IsAfter}
use Rattle.origins.proofs.Slots.{tells_after}
use Rattle.cores.specs.Cores.{IsCore, core_after}
use Rattle.facts.specs.StepFacts.{hart_facts}
use Rattle.facts.proofs.Tables.{spots_are_flows}
use Rattle.following.specs.Following.{IsFollowed, origins_now}
use Rattle.following.proofs.Followed.{hart_there, hart_there_after, table_for, table_for_after, step_parts, followed_step, facts_joined}
use Rattle.following.proofs.follower.follow_step.Goals as goal

pub hart_of-hart-requires : goal.hart_of-hart-requires
hart_of-hart-requires c = hart_there c.args.core.now c.args.number c.requires.accepted

pub before_step-seen-requires : goal.before_step-seen-requires
before_step-seen-requires c =
    rw c.ram_of-memory.ensures (table_for c.args.core.now c.args.origins.now c.args.number c.requires.followed (hart_there c.args.core.now c.args.number c.requires.accepted))

pub hart_of-after-requires : goal.hart_of-after-requires
hart_of-after-requires c =
    rw c.stepped-outcome.ensures.after (hart_there_after c.args.core.now c.args.number (hart_there c.args.core.now c.args.number c.requires.accepted))

pub follow-requires : goal.follow-requires
follow-requires c =
    let there = hart_there c.args.core.now c.args.number c.requires.accepted in
    let for = table_for_after c.args.core.now c.args.number c.args.origins.now c.stepped-outcome.new.core c.requires.followed there c.stepped-outcome.ensures.after in
    spots_are_flows c.args.origins.now c.args.number (length c.ram_of-now.result.now) (list_of c.flows_of_step.result) (rw c.ram_of-now.ensures for) c.flows_of_step.ensures.spots

pub after_step-requires : goal.after_step-requires
after_step-requires c =
    let core = c.args.core.now in
    let number = c.args.number in
    let there = hart_there core number c.requires.accepted in
    let for = table_for_after core number c.args.origins.now c.stepped-outcome.new.core c.requires.followed there c.stepped-outcome.ensures.after in
    record {
      hart = rw c.follow.ensures.harts for.hart;
      size = rw (c.follow.ensures.size, c.follow.ensures.harts, c.ram_of-now.ensures) for.size;
    }

pub returns-clause-facts : goal.returns-clause-facts
returns-clause-facts c =
    let core = c.args.core.now in
    let number = c.args.number in
    let program = core.image.program in
    let memory = core.state.memory in
    let from = origins_now core in
    let there = hart_there core number c.requires.accepted in
    let hart = c.hart_of-hart.ensures in
    let seen = rw (c.program_of.ensures, c.ram_of-memory.ensures) at (c.before_step-seen.ensures.seen from c.requires.followed.tells) in
    let parts = step_parts core number c.stepped-outcome.new.core c.hart_of-after.result.now c.ram_of-now.result.now c.stepped-outcome.result
    c.stepped-outcome.ensures.after there c.hart_of-after.ensures c.ram_of-now.ensures c.stepped-outcome.ensures.outcome in
    let stepped : Stepped = record { hart = c.hart_of-after.result.now; memory = c.ram_of-now.result.now; outcome = c.stepped-outcome.result } in
    let is : hart_step program c.hart_of-hart.result.now memory ≡ stepped = ap (λ h. hart_step program h memory) hart ∙ parts in
    let flows : list_of c.flows_of_step.result ≡ step_flows program c.hart_of-hart.result.now memory =
    c.flows_of_step.ensures.value program number c.hart_of-hart.result.now c.hart_of-after.result.now memory from c.before_step-seen.new.facts seen is in
    let for = table_for_after core number c.args.origins.now c.stepped-outcome.new.core c.requires.followed there c.stepped-outcome.ensures.after in
    let are = spots_are_flows c.args.origins.now number (length c.ram_of-now.result.now) (list_of c.flows_of_step.result) (rw c.ram_of-now.ensures for) c.flows_of_step.ensures.spots in
    let tells = tells_after number (step_flows program c.hart_of-hart.result.now memory) from c.args.origins.now c.follow.new.self
    (subst (λ f. AreFlows c.args.origins.now number f) flows are) (subst (λ f. IsAfter number f c.args.origins.now c.follow.new.self) flows c.follow.ensures) c.requires.followed.tells in
    facts_joined program number c.hart_of-hart.result.now memory from stepped _ is (c.after_step.ensures program c.hart_of-hart.result.now memory from _ seen tells is)
    ∙ ap (λ h. hart_facts program number h memory from) hart

pub returns-clause-registers : goal.returns-clause-registers
returns-clause-registers c =
    rw (c.program_of.ensures, c.hart_of-hart.ensures) at c.before_step-seen.ensures.registers

pub returns-clause-followed_on : goal.returns-clause-followed_on
returns-clause-followed_on c =
    let core = c.args.core.now in
    let number = c.args.number in
    let program = core.image.program in
    let memory = core.state.memory in
    let from = origins_now core in
    let there = hart_there core number c.requires.accepted in
    let hart = c.hart_of-hart.ensures in
    let seen = rw (c.program_of.ensures, c.ram_of-memory.ensures) at (c.before_step-seen.ensures.seen from c.requires.followed.tells) in
    let parts = step_parts core number c.stepped-outcome.new.core c.hart_of-after.result.now c.ram_of-now.result.now c.stepped-outcome.result
    c.stepped-outcome.ensures.after there c.hart_of-after.ensures c.ram_of-now.ensures c.stepped-outcome.ensures.outcome in
    let stepped : Stepped = record { hart = c.hart_of-after.result.now; memory = c.ram_of-now.result.now; outcome = c.stepped-outcome.result } in
    let is : hart_step program c.hart_of-hart.result.now memory ≡ stepped = ap (λ h. hart_step program h memory) hart ∙ parts in
    let flows : list_of c.flows_of_step.result ≡ step_flows program (hart_at core.state number) memory =
    c.flows_of_step.ensures.value program number c.hart_of-hart.result.now c.hart_of-after.result.now memory from c.before_step-seen.new.facts seen is ∙ ap (λ h. step_flows program h memory) hart in
    let for = table_for_after core number c.args.origins.now c.stepped-outcome.new.core c.requires.followed there c.stepped-outcome.ensures.after in
    let are = spots_are_flows c.args.origins.now number (length c.ram_of-now.result.now) (list_of c.flows_of_step.result) (rw c.ram_of-now.ensures for) c.flows_of_step.ensures.spots in
    let kept : IsCore (core_after core (operation.Step number)) = subst (λ core. IsCore core) c.stepped-outcome.ensures.after c.stepped-outcome.ensures.core in
    subst (λ core. IsFollowed core c.follow.new.self) (sym c.stepped-outcome.ensures.after)
    (followed_step core number c.args.origins.now c.follow.new.self kept c.requires.followed there
    (subst (λ f. AreFlows c.args.origins.now number f) flows are) (subst (λ f. IsAfter number f c.args.origins.now c.follow.new.self) flows c.follow.ensures))
