-- What a hart holds lies within what it holds at its rest, where steps by which rights are lost are
-- seen, or all are.
use Rattle.std.proofs.Common.{◌≡◌, ℕ, zero, suc, ◌<◌, List, [], ◌∷◌, length, get_or, slice_get, slice_set, arith, ap, sym, ◌∙◌, inl, inr, subst}
use Rattle.std.specs.Prelude.{Bool, true, false, Some}
use Rattle.std.specs.List.{list_any}
use Rattle.std.proofs.lemmas.Bool.{cases_eq}
use Rattle.std.proofs.lemmas.List.{get_or-set_same, get_or-set_other}
use Rattle.std.proofs.lemmas.Option.{none-some, same_Some}
use Rattle.cheri_model.specs.runs.Machine.{MachineState, hart_at, no_hart}
use Rattle.cheri_model.specs.steps.Hart.{HartState}
use Rattle.authorities.specs.Authorities.{hart_values}
use Rattle.explore_rights.specs.Held.{held_by, bounds}
use Rattle.explore_rights.specs.declared.rights.Rights.{Rights}
use Rattle.explore_rights.proofs.HeldLemmas.{bounding_any, any_bounding, kept_bounding}
use Rattle.explore_sights.specs.Sights.{hides, sight_of}
use Rattle.explore_sights.specs.declared.sights.Sight.{Sight}
use Rattle.explore_sights.specs.declared.sights.Sight.TheVariants as sight
use Rattle.explore_turns.specs.Turns.{KeepsPassing, rest_by}
use Rattle.explore_turns.proofs.PassingLemmas.{rest_passes}
use Rattle.states.specs.Kept.{KeptParts}
use Rattle.authority_texts.proofs.AnswerLemmas.{RestsBound}

there_is : (hs : List HartState) (k : ℕ) (h d : HartState) → slice_get hs k ≡ Some h →
    (k < length hs) × (get_or hs k d ≡ h)
there_is [] k h d is = absurd (none-some h is)
there_is (g ∷ hs) zero h d is = (omega arith, same_Some g h is)
there_is (g ∷ hs) (suc k) h d is = let later = there_is hs k h d is in (omega (arith, later.0), later.1)

-- whether the hart of a number holds something that bounds these rights
abbrev bounding : ℕ → Rights → MachineState → Bool
bounding number r s = list_any (bounds r) (held_by (hart_at s number))

keeps_bounding : (number : ℕ) (r : Rights) → KeepsPassing (hides sight.Rights) (bounding number r)
unfolding hides hart_at
keeps_bounding number r s l before after here hidden passes = elim (cases_eq number l) [
  | inl same ↦
      let there = there_is s.harts l before no_hart here in
      let old : get_or s.harts number no_hart ≡ before = ap (λ (k : ℕ). get_or s.harts k no_hart) same ∙ there.1 in
      let new : get_or (slice_set s.harts l after) number no_hart ≡ after =
      ap (λ (k : ℕ). get_or (slice_set s.harts l after) k no_hart) same ∙ get_or-set_same s.harts l after no_hart there.0 in
      let held = subst (λ (h : HartState). list_any (bounds r) (held_by h) ≡ true) old passes in
      subst (λ (h : HartState). list_any (bounds r) (held_by h) ≡ true) (sym new) (kept_bounding before after r hidden held)
  | inr apart ↦
      subst (λ (h : HartState). list_any (bounds r) (held_by h) ≡ true)
      (sym (get_or-set_other s.harts l number after no_hart apart)) passes
]

keeps_seen : (passing : MachineState → Bool) → KeepsPassing (hides sight.EveryStep) passing
unfolding hides
keeps_seen passing s l before after here hidden passes = absurd (cc)

keeps_all : (every : Bool) (number : ℕ) (r : Rights) → KeepsPassing (hides (sight_of every sight.Rights)) (bounding number r)
keeps_all true number r = keeps_seen (bounding number r)
keeps_all false number r = keeps_bounding number r

pub hart_rests : (kept : KeptParts) (every : Bool) (number : ℕ) → kept.sight ≡ sight_of every sight.Rights →
    RestsBound kept (hart_values number)
hart_rests kept every number is s r holds =
    let keeps = subst (λ (x : Sight). KeepsPassing (hides x) (bounding number r)) (sym is) (keeps_all every number r) in
    any_bounding (held_by (hart_at (rest_by kept.image kept.sweeps kept.sight s) number)) r
    (rest_passes kept.image kept.sweeps kept.sight (bounding number r) keeps s
    (bounding_any (held_by (hart_at s number)) r holds))
