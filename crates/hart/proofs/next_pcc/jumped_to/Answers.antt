-- A jump goes through a tagged capability, which unsealed is open with the same bounds.
use Rattle.cheri_model.proofs.Runs.Advances.{unsealed_is_open, in_bounds-unsealed}
use Rattle.hart.proofs.next_pcc.jumped_to.Goals as goal

pub at_target-requires-clause-open : goal.at_target-requires-clause-open
at_target-requires-clause-open c = rw c.unsealed.ensures (unsealed_is_open c.args.through c.requires.tag)

pub at_target-requires-clause-within : goal.at_target-requires-clause-within
at_target-requires-clause-within c =
    rw c.unsealed.ensures (in_bounds-unsealed c.args.through c.args.target 4 c.requires.tag c.requires.within)
