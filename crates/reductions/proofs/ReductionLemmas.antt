-- What may be said of a search by what it leaves out.
use Rattle.std.proofs.Common.{◌≡◌, ℕ, suc, refl, sym, ap, ◌∙◌, subst, inl, inr, arith, eqb-true}
use Rattle.std.specs.Prelude.{Bool, true, false, ◌&&◌, ◌||◌, not, nat_lt, List, [], ◌∷◌, length, Some, None}
use Rattle.std.proofs.lemmas.Bool.{cases_lt, eq-eqb, or_left, or_right}
use Rattle.asked_registers.specs.Asked.{HasAsked, IsWith}
use Rattle.cheri_model.specs.runs.Image.{ImageParts}
use Rattle.hart_order.specs.Arrangements.{IsUngrouped, group_of}
use Rattle.hart_order.specs.GroupedTurns.{keeps_number}
use Rattle.hart_symmetry.specs.Named.{NamedStay}
use Rattle.live_registers.specs.LiveSets.{LiveSets}
use Rattle.live_registers.specs.RegisterSets.{has as in_set}
use Rattle.named_harts.specs.NamedHarts.{IsSetOf}
use Rattle.reductions.specs.declared.reduction.Keeps.{Keeps}
use Rattle.reductions.specs.declared.reduction.Reduction.{Reduction}
use Rattle.reductions.specs.Reductions.{AreGroupsBy, ByKeeping, ByLeavingOut, IsAskedBy, IsByReduction, IsGroupedBy}
use Rattle.reductions.specs.Reductions.{IsReduction, MayLeaveOut, MayReduce, asks_by, keeps_all}
use Rattle.states.specs.Searches.{SearchParts}

-- a set with all registers has each
pub with_all : (set all : List Bool) → IsWith set (λ reg. nat_lt reg 32) all → HasAsked all (λ reg. nat_lt reg 32)
with_all set all is reg below = is reg ∙ or_right (in_set set reg) (nat_lt reg 32) below

-- ---- what is found

-- registers that are asked for are among those that matter
asked_so : (keeps : Bool) (asked set : List Bool) (asks : ℕ → Bool) → IsAskedBy keeps asked set → HasAsked asked asks →
    HasAsked set (asks_by keeps asks)
asked_so true asked set asks by has = with_all asked set by
asked_so false asked set asks by has = subst (λ (s : List Bool). HasAsked s asks) (sym by) has

-- groups are those of a question that names the harts of a set
grouped_so : (keeps : Bool) (image : ImageParts) (names : ℕ → Bool) (named : List Bool) (groups : List ℕ) →
    IsGroupedBy keeps image named groups → IsSetOf names named → AreGroupsBy keeps image names groups
grouped_so true image names named groups by set = by
grouped_so false image names named groups by set = record { named = named; are = set; groups_are = by }

module _ (keeps : Keeps) (search : SearchParts) (asked named : List Bool) (asks names : ℕ → Bool) (whole : Type 0)
    (reduced : LiveSets → List ℕ → Type 0) (has : HasAsked asked asks) (set : IsSetOf names named) where
  by_some : (some : Bool) (live : LiveSets) (groups : List ℕ) → MayLeaveOut keeps search asked named live groups some →
      ByLeavingOut some whole (reduced live groups) → MayReduce keeps search asks names whole reduced
  by_some some live groups is answer =
      subst (λ (b : Bool). ByKeeping b whole (IsByReduction keeps search asks names whole reduced)) (sym is.not_all) (record {
        live = live;
        groups = groups;
        right = is.right;
        asked = asked_so keeps.registers asked live.asked asks is.asked_are has;
        grouped = grouped_so keeps.harts search.image names named groups is.grouped set;
        answer = subst (λ (b : Bool). ByLeavingOut b whole (reduced live groups)) (sym is.reduces_is) answer;
      })

  pub by_whole : IsReduction keeps search asked named None → whole → MayReduce keeps search asks names whole reduced
  by_whole (inl all) answer =
      subst (λ (b : Bool). ByKeeping b whole (IsByReduction keeps search asks names whole reduced)) (sym all) answer
  by_whole (inr (live, groups, is)) answer = by_some false live groups is answer

  pub by_reduction : (found : Reduction) → IsReduction keeps search asked named (Some found) → reduced found.live found.groups →
      MayReduce keeps search asks names whole reduced
  by_reduction found is answer = by_some true found.live found.groups is answer

-- ---- what is so of a search of which something is left out

-- what a question asks for is among the registers that matter
asked_too : (keeps : Bool) (asked set : List Bool) (asks : ℕ → Bool) → IsAskedBy keeps asked set → HasAsked asked asks →
    HasAsked set asks
asked_too true asked set asks by has reg asking = by reg ∙ or_left (in_set asked reg) (nat_lt reg 32) (has reg asking)
asked_too false asked set asks by has reg asking = ap (λ (s : List Bool). in_set s reg) by ∙ has reg asking

pub matter_asked : (keeps : Keeps) (search : SearchParts) (asked named : List Bool) (asks : ℕ → Bool) (found : Reduction) →
    IsReduction keeps search asked named (Some found) → HasAsked asked asks → HasAsked found.live.asked asks
matter_asked keeps search asked named asks found is has =
    asked_too keeps.registers asked found.live.asked asks is.asked_are has

-- each hart that a question names keeps its number
pub named_stay : (keeps : Bool) (image : ImageParts) (names : ℕ → Bool) (groups : List ℕ) → AreGroupsBy keeps image names groups →
    NamedStay (keeps_number groups) names
named_stay true image names groups are hart named = eq-eqb (group_of groups hart) 0 (are hart)
named_stay false image names groups are hart named = elim (cases_lt hart 8) [
  | inl few ↦ eq-eqb (group_of groups hart) 0 (are.groups_are.0.free hart (are.are hart few ∙ named))
  | inr many ↦
      let harts = are.groups_are.1 in
      eq-eqb (group_of groups hart) 0 (are.groups_are.0.beyond hart (omega arith))
]

-- where harts are to be kept, none is of a group
grouped_kept : (keeps : Bool) (image : ImageParts) (named : List Bool) (groups : List ℕ) → keeps ≡ true →
    IsGroupedBy keeps image named groups → IsUngrouped groups
grouped_kept true image named groups kept by = by
grouped_kept false image named groups kept by = absurd (cc)

pub kept_harts : (keeps : Keeps) (search : SearchParts) (asked named : List Bool) (found : Reduction) → keeps.harts ≡ true →
    IsReduction keeps search asked named (Some found) → IsUngrouped found.groups
kept_harts keeps search asked named found kept is = grouped_kept keeps.harts search.image named found.groups kept is.grouped

neither : (a b : Bool) → (a || b) ≡ false → (a ≡ false) × (b ≡ false)
neither false false is = (refl, refl)
neither false true is = absurd (cc)
neither true b is = absurd (cc)

so_true : (b : Bool) → not b ≡ false → b ≡ true
so_true true is = refl
so_true false is = absurd (cc)

no_more : (n : ℕ) → suc n ≡ 0 → ⊥
no_more n is = omega (arith, is)

empty : {A : Type 0} (xs : List A) → length xs ≡ 0 → xs ≡ []
empty [] is = refl
empty (x ∷ xs) is = absurd (no_more (length xs) is)

-- turns are taken, and there is no sweep
module _ (keeps : Keeps) (search : SearchParts) (some : keeps_all keeps search ≡ false) where
  pub by_turns : search.every_step ≡ false
  by_turns = (neither search.every_step _ (neither (keeps.registers && keeps.harts) _ some).1).0

  pub unswept : search.sweeps ≡ []
  unswept =
      empty search.sweeps
      (eqb-true (length search.sweeps) 0
      (so_true _ (neither search.every_step _ (neither (keeps.registers && keeps.harts) _ some).1).1))
