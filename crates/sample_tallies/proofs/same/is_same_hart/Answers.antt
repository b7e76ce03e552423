use Rattle.std.proofs.Common.{◌≡◌, true, rules}
use Rattle.sample_tallies.proofs.KnownLemmas.{hart_is}
use Rattle.sample_tallies.proofs.same.is_same_hart.Goals as goal

pub returns : goal.returns
returns c = λ same.
    let status : c.is_same_status.result ≡ true = search rules in
    let pcc : c.is_same_value.result ≡ true = search rules in
    hart_is c.args.a.now c.args.b.now c.status.result c.status-2.result c.pcc.result c.pcc-2.result
    c.is_same_status.result c.status.ensures c.status-2.ensures c.pcc.ensures.value c.pcc-2.ensures.value
    c.is_same_status.ensures status (c.is_same_value.ensures pcc) (c.are_same_registers.ensures same)
