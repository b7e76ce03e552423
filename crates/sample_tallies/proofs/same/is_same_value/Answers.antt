use Rattle.sample_tallies.proofs.KnownLemmas.{value_is}
use Rattle.sample_tallies.proofs.same.is_same_value.Goals as goal

pub returns : goal.returns
returns c =
    value_is c.args.a c.args.b c.same_value.result c.bits.ensures.lawful c.bits-2.ensures.lawful c.same_value.ensures
