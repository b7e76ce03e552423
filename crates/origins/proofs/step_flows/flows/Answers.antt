-- The places of each instruction's flows are places of the machine.
use Rattle.std.proofs.Common.{lit<}
use Rattle.origins.proofs.step_flows.flows.Goals as goal

pub returns-in-Lc-clause-spots : goal.returns-in-Lc-clause-spots
returns-in-Lc-clause-spots c count below = c.into.ensures.spots count (c.granule.ensures.spot count below)

pub returns-in-Sc-clause-spots : goal.returns-in-Sc-clause-spots
returns-in-Sc-clause-spots c count below = (c.stored.ensures.set count below, c.stored.ensures.source count, tt)

pub returns-in-AmoSwapC-clause-spots : goal.returns-in-AmoSwapC-clause-spots
returns-in-AmoSwapC-clause-spots c count below =
    c.and_into.ensures.spots count (c.stored-in-AmoSwapC.ensures.set count below) (c.stored-in-AmoSwapC.ensures.source count) (c.granule-in-AmoSwapC.ensures.spot count below)

pub returns-in-CJalr-clause-spots : goal.returns-in-CJalr-clause-spots
returns-in-CJalr-clause-spots c count below =
    c.and_into-in-CJalr.ensures.spots count (c.jumped_to.ensures.set count) (c.jumped_to.ensures.source count) tt

pub returns-in-CInvoke-clause-spots : goal.returns-in-CInvoke-clause-spots
returns-in-CInvoke-clause-spots c count below =
    (c.jumped_to-in-CInvoke.ensures.set count, c.jumped_to-in-CInvoke.ensures.source count, (lit< tt, c.number.ensures.below, tt))

pub returns-in-AuiPcc-clause-spots : goal.returns-in-AuiPcc-clause-spots
returns-in-AuiPcc-clause-spots c count below = c.into-in-AuiPcc.ensures.spots count tt
