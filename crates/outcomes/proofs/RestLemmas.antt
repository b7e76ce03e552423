-- Where no hart runs, each is at its rest.
use Rattle.std.proofs.Common.{◌≡◌, ℕ, zero, suc, List, [], ◌∷◌, slice_get, ap, sym, ◌∙◌, refl}
use Rattle.std.specs.Prelude.{Bool, true, false, not, ◌&&◌, Some}
use Rattle.std.specs.List.{list_all}
use Rattle.std.proofs.lemmas.Option.{none-some, same_Some}
use Rattle.cheri_model.specs.runs.Image.{ImageParts}
use Rattle.cheri_model.specs.runs.Machine.{MachineState, is_running}
use Rattle.cheri_model.specs.steps.Hart.{HartState}
use Rattle.explore_sights.specs.declared.sights.Sight.{Sight}
use Rattle.explore_turns.specs.Turns.{rest_by}
use Rattle.explore_sights.specs.Sights.{hides}
use Rattle.explore_turns.specs.declared.quiet.TheConstants.{MAX_QUIET_STEPS}
use Rattle.explore_turns.proofs.TurnLemmas.{stopped_rests}
use Rattle.outcomes.specs.Outcomes.{is_final, is_stopped}
use Rattle.schedules.specs.declared.ranges.SweepRange.{SweepRange}

not_true : (b : Bool) → not b ≡ true → b ≡ false
not_true true is = sym is
not_true false is = refl

both_true : (a b : Bool) → (a && b) ≡ true → (a ≡ true) × (b ≡ true)
both_true true b e = (refl, e)
both_true false b e = absurd (cc)

stopped_all : (hs : List HartState) (l : ℕ) (h : HartState) → list_all is_stopped hs ≡ true → slice_get hs l ≡ Some h →
    is_running h.status ≡ false
stopped_all [] l h all is = absurd (none-some h is)
stopped_all (g ∷ hs) zero h all is =
    ap (λ (x : HartState). is_running x.status) (sym (same_Some g h is))
    ∙ not_true (is_running g.status) (both_true (is_stopped g) (list_all is_stopped hs) all).0
stopped_all (g ∷ hs) (suc l) h all is = stopped_all hs l h (both_true (is_stopped g) (list_all is_stopped hs) all).1 is

pub final_rests : (image : ImageParts) (sweeps : List SweepRange) (sight : Sight) (state : MachineState) →
    is_final state ≡ true → rest_by image sweeps sight state ≡ state
unfolding is_final
final_rests image sweeps sight state final =
    stopped_rests image sweeps (hides sight) MAX_QUIET_STEPS state (λ l h is. stopped_all state.harts l h final is)
