-- What a question sees of a hart's steps.
use Rattle.std.specs.Prelude.{Bool, true, false, if◌then◌else◌}
use Rattle.std.specs.List.{list_all}
use Rattle.cheri_model.specs.steps.Hart.{HartState}
use Rattle.explore_sights.specs.declared.sights.Sight.{Sight}
use Rattle.explore_sights.specs.declared.sights.Sight.TheVariants.{EveryStep, NoStep}
use Rattle.explore_sights.specs.declared.sights.Sight.TheVariants as sight
use Rattle.explore_sights.specs.Watches as watches
use Rattle.conditions.specs.Hiding as condition
use Rattle.explore_rights.specs.Held.{keeps_rights}

-- nothing is seen of a step between these two states of a hart
unfoldable pub hides : Sight → HartState → HartState → Bool
hides EveryStep before after = false
hides NoStep before after = true
hides (sight.Condition atoms) before after = condition.hides atoms before after
hides (sight.Watches asked) before after =
    list_all (λ watch. watches.hides watch before after) asked
hides sight.Rights before after = keeps_rights before after

-- every step is seen where that is asked for; else what the question sees by itself
abbrev pub sight_of : Bool → Sight → Sight
sight_of every_step sight = if every_step then EveryStep else sight
