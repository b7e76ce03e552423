use Rattle.std.proofs.Common.{◌≡◌, ◌<◌, ◌≤◌, ◌++◌, All, length, drop}
use Rattle.cheri_model.specs.declared.image.TheConstants.{MAX_HARTS}
use Rattle.sample_draws.specs.Orders.{running_from}
use Rattle.sample_steps.proofs.listing.list_running.Given as goal

-- those that were found and those that are left
abbrev pub invariant-loop-number : goal.invariant-loop-number
invariant-loop-number l = record {
  listed : l.running.items ++ running_from l.number (drop l.number l.harts) ≡ running_from 0 l.harts;
  few : length l.running.items ≤ l.number;
  within : All (λ hart. hart < MAX_HARTS) l.running.items;
}
