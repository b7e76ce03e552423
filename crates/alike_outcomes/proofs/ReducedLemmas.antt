-- What may be said of a search by whether harts change places in it.
use Rattle.std.proofs.Common.{◌≡◌, ℕ, ◌<◌, sym, subst, inl, inr}
use Rattle.std.specs.Prelude.{Bool, true, false, List, Some, None}
use Rattle.std.proofs.lemmas.Bool.{lt-ltb}
use Rattle.asked_registers.specs.Asked.{HasAsked}
use Rattle.cheri_model.specs.runs.Image.{ImageParts}
use Rattle.hart_groups.specs.HartGroups.{any_grouped}
use Rattle.hart_order.specs.GroupedTurns.{keeps_number}
use Rattle.hart_symmetry.specs.Named.{NamedStay}
use Rattle.live_registers.specs.LiveSets.{LiveSets}
use Rattle.live_registers.specs.RegisterSets.{has}
use Rattle.named_harts.specs.NamedHarts.{IsSetOf}
use Rattle.reductions.specs.Reductions.{ByLeavingOut, IsAskedBy, IsGroupedBy, IsReduction, MayReduce}
use Rattle.reductions.specs.declared.reduction.Keeps.{Keeps}
use Rattle.reductions.specs.declared.reduction.Reduction.{Reduction}
use Rattle.reductions.proofs.ReductionLemmas.{by_reduction, by_whole, named_stay, with_all}
use Rattle.states.specs.Searches.{SearchParts}
use Rattle.alike_outcomes.specs.Grouped.{IsGroupedReduction}

module _ (keeps : Keeps) (search : SearchParts) (asked named : List Bool) (asks names : ℕ → Bool) (whole : Type 0)
    (reduced : LiveSets → List ℕ → Type 0) (is_asked : HasAsked asked asks) (set : IsSetOf names named) where
  abbrev by_groups : LiveSets → List ℕ → Type 0
  by_groups live groups = ByLeavingOut (any_grouped groups) whole (reduced live groups)

  -- where no hart is of a group it is said of the whole
  pub by_none : IsGroupedReduction keeps search asked named None → whole → MayReduce keeps search asks names whole by_groups
  by_none (inl is) answer = by_whole keeps search asked named asks names whole by_groups is_asked set is answer
  by_none (inr (found, is, none)) answer =
      by_reduction keeps search asked named asks names whole by_groups is_asked set found is
      (subst (λ (b : Bool). ByLeavingOut b whole (reduced found.live found.groups)) (sym none) answer)

  pub by_some : (found : Reduction) → IsGroupedReduction keeps search asked named (Some found) → reduced found.live found.groups →
      MayReduce keeps search asks names whole by_groups
  by_some found is answer =
      by_reduction keeps search asked named asks names whole by_groups is_asked set found is.0
      (subst (λ (b : Bool). ByLeavingOut b whole (reduced found.live found.groups)) (sym is.1) answer)

-- where all registers are to be kept, each matters
all_asked : (keeps : Bool) (asked set : List Bool) → keeps ≡ true → IsAskedBy keeps asked set → (reg : ℕ) → reg < 32 →
    has set reg ≡ true
all_asked true asked set kept by reg low = with_all asked set by reg (lt-ltb reg 32 low)
all_asked false asked set kept by reg low = absurd (cc)

pub all_matter : (keeps : Keeps) (search : SearchParts) (asked named : List Bool) (found : Reduction) → keeps.registers ≡ true →
    IsReduction keeps search asked named (Some found) → (reg : ℕ) → reg < 32 → has found.live.asked reg ≡ true
all_matter keeps search asked named found kept is reg low =
    all_asked keeps.registers asked found.live.asked kept is.asked_are reg low

-- each hart that a question names keeps its number
stay_by : (keeps : Bool) (image : ImageParts) (names : ℕ → Bool) (named : List Bool) (groups : List ℕ) →
    IsGroupedBy keeps image named groups → IsSetOf names named → NamedStay (keeps_number groups) names
stay_by true image names named groups by set = named_stay true image names groups by
stay_by false image names named groups by set =
    named_stay false image names groups (record { named = named; are = set; groups_are = by })

pub named_keep : (keeps : Keeps) (search : SearchParts) (asked named : List Bool) (names : ℕ → Bool) (found : Reduction) →
    IsReduction keeps search asked named (Some found) → IsSetOf names named → NamedStay (keeps_number found.groups) names
named_keep keeps search asked named names found is set =
    stay_by keeps.harts search.image names named found.groups is.grouped set
