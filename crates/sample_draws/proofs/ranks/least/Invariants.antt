use Rattle.std.proofs.Common.{◌≡◌, ◌<◌, None, IfSome, fold, take}
use Rattle.cheri_model.specs.declared.image.TheConstants.{MAX_HARTS}
use Rattle.sample_draws.specs.Ranks.{better}
use Rattle.sample_draws.proofs.ranks.least.Given as goal

-- the best of those before
abbrev pub invariant-loop-hart : goal.invariant-loop-hart
invariant-loop-hart l =
    (l.best ≡ fold (better l.ranks l.waiting) None (take l.hart-index l.harts))
    × IfSome l.best (λ best. best < MAX_HARTS)
