-- The registers that an instruction reads are registers.
use Rattle.std.proofs.Common.{◌≡◌, ◌∙◌, length, ap, subst}
use Rattle.cheri_model.specs.instructions.Form.{form_of}
use Rattle.origins.specs.Flows.{IsSpot}
use Rattle.facts.specs.Names.{EachIs, reads_of}
use Rattle.facts.proofs.stepping.seen_before.Goals as goal

pub each_named-facts-requires-clause-spots : goal.each_named-facts-requires-clause-spots
each_named-facts-requires-clause-spots c = c.reads_of.ensures.spots (length c.args.now.ram.now)

pub returns-clause-registers : goal.returns-clause-registers
returns-clause-registers c =
    let is : c.reads_of.result ≡ reads_of (form_of c.args.fetched.now.instr) = c.reads_of.ensures.value ∙ ap (λ form. reads_of form) c.form.ensures in
    subst (EachIs (IsSpot 0)) is (c.reads_of.ensures.spots 0)
