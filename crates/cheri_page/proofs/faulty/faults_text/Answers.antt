use Rattle.std.proofs.Common.{◌≡◌, take, arith, ap, ◌∙◌}
use Rattle.std.specs.List.{flat_map}
use Rattle.std.proofs.lemmas.List.{take_all}
use Rattle.cheri_page.specs.Faulty.{fault_line, faults_text}
use Rattle.cheri_page.proofs.faulty.faults_text.Goals as goal

-- after the last fault
pub returns : goal.returns
unfolding faults_text
returns c =
    let items = c.as_slice-fault-items.result.now in
    let over = c.loop-fault-test.false in
    let end = c.loop-fault.auto.fault-index-end in
    let all : take c.loop-fault.fault-index items ≡ items = take_all c.loop-fault.fault-index items (omega arith) in
    c.loop-fault.invariant ∙ ap (λ faults. flat_map fault_line faults)
    (all ∙ c.as_slice-fault-items.ensures.value ∙ c.in_ok-faults.ensures)
