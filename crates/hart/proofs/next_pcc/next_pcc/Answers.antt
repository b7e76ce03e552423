-- PCC keeps its tag four bytes on, so what CSetAddr gives is PCC with that address.
use Rattle.std.proofs.Common.{◌+◌, ◌%◌, ◌^◌, ap, ◌∙◌}
use Rattle.cap_model.specs.results.Addresses.{set_address}
use Rattle.cheri_model.proofs.Runs.Advances.{following_is, following_stays}
use Rattle.hart.proofs.next_pcc.next_pcc.Goals as goal

pub at-next-requires-clause-kept : goal.at-next-requires-clause-kept
at-next-requires-clause-kept c =
    rw c.addr.ensures.integer (following_stays c.args.pcc c.tag-lawful.ensures.lawful c.requires.open c.requires.within)

pub returns-clause-value : goal.returns-clause-value
returns-clause-value c =
    let pcc = c.args.pcc in
    c.at-next.ensures ∙ ap (λ a. set_address pcc ((a + 4) % 2 ^ 64)) c.addr.ensures.integer
    ∙ following_is pcc c.tag-lawful.ensures.lawful c.requires.open c.requires.within
