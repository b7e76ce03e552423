-- What a sweep leaves of a core's harts and of the core.
use Rattle.std.proofs.Common.{◌≡◌, ℕ, ◌+◌, ◌-◌, ◌<◌, ◌≤◌, List, [], ◌∷◌, ◌++◌, length, map, take, drop, get_or, sym, ap, subst, ◌∙◌, arith}
use Rattle.std.specs.Prelude.{false, true}
use Rattle.std.proofs.Math.Seq.{get_or-append_right}
use Rattle.std.proofs.lemmas.List.{length-map, length-take, get_or-drop}
use Rattle.std.proofs.lemmas.List.Sums.{count_by-le-length}
use Rattle.cheri_model.specs.declared.operation.Op.TheVariants as operation
use Rattle.cheri_model.specs.declared.operation.Event.TheVariants as event
use Rattle.cap_model.specs.values.CapValue.{CapValue}
use Rattle.cheri_model.specs.steps.Hart.{HartState}
use Rattle.cheri_model.specs.runs.ImageRules.{is_image}
use Rattle.cap_model.specs.results.Swept.{is_in_sweep}
use Rattle.cheri_model.specs.runs.Sweeps.{cleared_in_memory}
use Rattle.cheri_model.specs.runs.Machine.{event_of, state_after_one, swept_state, cleared}
use Rattle.cheri_model.specs.runs.Authority.{EachOfState}
use Rattle.cheri_model.proofs.Runs.Sweeping.{state_left}
use Rattle.cores.specs.Cores.{CoreParts, IsCore, core_after}
use Rattle.cores.proofs.CoreLemmas.{hart_count_kept, image_hart_limit}

-- a hart that the sweep has not come to is as it was
pub hart_ahead : (f : HartState → HartState) (harts now : List HartState) (i : ℕ) (hart : HartState) → i < length harts →
    now ≡ map f (take i harts) ++ drop i harts → hart ≡ get_or now i hart → hart ≡ get_or harts i hart
hart_ahead f harts now i hart inside form is =
    let size : length (map f (take i harts)) ≡ i = length-map (take i harts) f ∙ omega (arith, length-take i harts) in
    let ahead = get_or-append_right (map f (take i harts)) (drop i harts) i hart (omega arith) in
    let none_more : i - length (map f (take i harts)) ≡ 0 = omega arith in
    let same : i + 0 ≡ i = omega arith in
    is ∙ ap (λ l. get_or l i hart) form ∙ ahead ∙ ap (λ n. get_or (drop i harts) n hart) none_more
    ∙ get_or-drop i harts 0 hart ∙ ap (λ n. get_or harts n hart) same

-- a core has at most eight harts
pub harts_are_few : (core : CoreParts) → IsCore core → is_image core.image ≡ true → length core.state.harts ≤ 8
harts_are_few core is image = omega (arith, hart_count_kept core is, image_hart_limit core.image image)

-- no more tags are cleared in memory than it has granules
pub granules_cleared : (lo hi : ℕ) (memory : List CapValue) → cleared_in_memory lo hi memory ≤ length memory
unfolding cleared_in_memory
granules_cleared lo hi memory = count_by-le-length (is_in_sweep lo hi) memory

-- a core after a sweep that was not refused
module _ (core after : CoreParts) (lo hi : ℕ) (is : after ≡ core_after core (operation.Sweep lo hi)) where
  pub ends_with_sweep : after.trace ≡ core.trace ++ event.Sweep (cleared lo hi core.state) lo hi ∷ []
  unfolding core_after event_of
  ends_with_sweep = ap (λ (k : CoreParts). k.trace) is

  pub state_swept : after.state ≡ swept_state lo hi core.state
  unfolding core_after state_after_one
  state_swept = ap (λ (k : CoreParts). k.state) is

  pub none_left : EachOfState (λ v. is_in_sweep lo hi v ≡ false) after.state
  none_left = subst (EachOfState (λ v. is_in_sweep lo hi v ≡ false)) (sym state_swept) (state_left lo hi core.state)
