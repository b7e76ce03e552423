use Rattle.std.proofs.Common.{◌≡◌, length, refl, rules}
use Rattle.sample_merges.proofs.SpanLemmas.{before_none}
use Rattle.sample_merges.proofs.sooner.sooner_from.Goals as goal

pub returns-in-None : goal.returns-in-None
returns-in-None c =
    let none : length c.args.other.now ≡ 0 = search rules in
    (refl, before_none c.args.span c.args.other.now none)
