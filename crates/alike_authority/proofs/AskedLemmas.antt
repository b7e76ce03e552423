-- What is found is an answer by whether harts change places.
use Rattle.std.proofs.Common.{◌≡◌, ℕ, List, [], replicate, arith, sym, ap, ◌∙◌, subst, inl, inr}
use Rattle.std.specs.Prelude.{Bool, true, false, not, nat_lt, ◌==◌, slice_index_or, Some, None}
use Rattle.std.proofs.lemmas.Bool.{and_parts, cases_lt, eq-eqb, false≢true, lt-ltb, or_left, or_right}
use Rattle.std.proofs.lemmas.List.{get_or_past, length-replicate}
use Rattle.asked_registers.specs.Asked.{HasAsked, IsWith}
use Rattle.authority_texts.specs.Answers.{IsAuthorityAnswer}
use Rattle.cheri_model.specs.runs.Image.{ImageParts}
use Rattle.hart_exchanges.specs.Exchanges.{AreGroupsEqual}
use Rattle.hart_groups.specs.HartGroups.{any_grouped}
use Rattle.hart_order.specs.Arrangements.{group_of}
use Rattle.live_registers.specs.LiveSets.{IsRight, LiveSets}
use Rattle.live_registers.specs.RegisterSets.{has}
use Rattle.named_harts.specs.NamedHarts.{IsSetOf}
use Rattle.reductions.specs.Reductions.{ByLeavingOut, IsGroupedBy}
use Rattle.reductions.specs.declared.reduction.Reduction.{Reduction}
use Rattle.reductions.proofs.ReductionLemmas.{by_reduction, by_turns, by_whole, unswept}
use Rattle.shown_states.specs.declared.form.Ending.{Ending}
use Rattle.shown_states.specs.declared.form.Format.{Format}
use Rattle.states.specs.Searches.{SearchParts}
use Rattle.alike_authority.specs.AlikeAuthority.{IsAlikeAnswer, IsAlikeAuthority}
use Rattle.alike_authority.specs.Grouped.{IsGrouping, keeps_of}

no_register : (asked : List Bool) → HasAsked asked (λ reg. false)
no_register asked reg asks = absurd (false≢true asks)

module _ (keeps_harts : Bool) (search : SearchParts) (format : Format) (asked named : List Bool)
    (set : IsSetOf (λ hart. false) named) (text : List ℕ) (ending : Ending) where
  abbrev whole : Type 0
  whole = IsAuthorityAnswer search format text ending

  abbrev by_groups : LiveSets → List ℕ → Type 0
  by_groups live groups = ByLeavingOut (any_grouped groups) whole (IsAlikeAnswer search live groups format text ending)

  -- where no hart is of a group it is the answer of all harts told apart
  pub by_none : IsGrouping keeps_harts search asked named None → whole → IsAlikeAuthority keeps_harts search format text ending
  by_none (inl is) answer =
      by_whole (keeps_of keeps_harts) search asked named (λ reg. false) (λ hart. false) whole by_groups (no_register asked) set is
      answer
  by_none (inr (found, is, none)) answer =
      by_reduction (keeps_of keeps_harts) search asked named (λ reg. false) (λ hart. false) whole by_groups (no_register asked)
      set found is
      (subst (λ (b : Bool). ByLeavingOut b whole (IsAlikeAnswer search found.live found.groups format text ending)) (sym none)
      answer)

  pub by_some : (found : Reduction) → IsGrouping keeps_harts search asked named (Some found) →
      IsAlikeAnswer search found.live found.groups format text ending → IsAlikeAuthority keeps_harts search format text ending
  by_some found is answer =
      by_reduction (keeps_of keeps_harts) search asked named (λ reg. false) (λ hart. false) whole by_groups (no_register asked)
      set found is.0
      (subst (λ (b : Bool). ByLeavingOut b whole (IsAlikeAnswer search found.live found.groups format text ending)) (sym is.1)
      answer)

-- ---- what is searched

-- a set with all registers has each, and whatever lies beyond
all_in : (set : List Bool) → IsWith (replicate 32 false) (λ reg. nat_lt reg 32) set → (reg : ℕ) → has set reg ≡ true
all_in set is reg = elim (cases_lt reg 32) [
  | inl low ↦ is reg ∙ or_right (has (replicate 32 false) reg) (nat_lt reg 32) (lt-ltb reg 32 low)
  | inr past ↦
      let count = length-replicate 32 false in
      is reg
      ∙ or_left (has (replicate 32 false) reg) (nat_lt reg 32)
      (or_right (reg == 0) (slice_index_or (replicate 32 false) reg true)
      (get_or_past (replicate 32 false) reg true (omega arith)))
]

-- harts of no group are of none together
groups_equal : (keeps : Bool) (image : ImageParts) (named : List Bool) (groups : List ℕ) → IsGroupedBy keeps image named groups →
    AreGroupsEqual image.harts groups
groups_equal true image named groups by one other grouped =
    let some = (and_parts (not (group_of groups one == 0)) (group_of groups one == group_of groups other) grouped).0 in
    absurd (false≢true (sym (ap not (eq-eqb (group_of groups one) 0 (by one))) ∙ some))
groups_equal false image named groups by one other grouped = by.0.equal one other grouped

module _ (keeps_harts : Bool) (search : SearchParts) (asked named : List Bool) (found : Reduction)
    (is : IsGrouping keeps_harts search asked named (Some found)) where
  pub searched_turns : search.every_step ≡ false
  searched_turns = by_turns (keeps_of keeps_harts) search is.0.not_all

  pub searched_unswept : search.sweeps ≡ []
  searched_unswept = unswept (keeps_of keeps_harts) search is.0.not_all

  pub searched_right : IsRight search.image.program found.live
  searched_right = is.0.right

  pub searched_equal : AreGroupsEqual search.image.harts found.groups
  searched_equal = groups_equal keeps_harts search.image named found.groups is.0.grouped

  pub searched_asked : asked ≡ replicate 32 false → (reg : ℕ) → has found.live.asked reg ≡ true
  searched_asked none reg =
      all_in found.live.asked
      (subst (λ (set : List Bool). IsWith set (λ r. nat_lt r 32) found.live.asked) none is.0.asked_are) reg
