use Rattle.std.proofs.Common.{◌≡◌, ◌∷◌, rules}
use Rattle.sample_merges.proofs.SpanLemmas.{none_has}
use Rattle.sample_merges.proofs.sooner.sooner_in.Goals as goal

pub returns-in-Some : goal.returns-in-Some
returns-in-Some c =
    let parts : c.args.other.now ≡ c.in-Some.first.now ∷ c.in-Some.after.now = search rules in
    (parts, λ run h. absurd (none_has run h))
