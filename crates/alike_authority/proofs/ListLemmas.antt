-- What is told of a holder.
use Rattle.std.proofs.Common.{◌≡◌, ℕ, zero, suc, ◌<◌, List, [], ◌∷◌, ◌++◌, length, sym, ap, ◌∙◌, subst}
use Rattle.std.specs.Prelude.{Option, Some, Result, Ok, Err, IfOk, IfSome, Vec, slice_get, true}
use Rattle.std.specs.Global.{Global}
use Rattle.authorities.specs.Authorities.{AreGreatest, memory_values}
use Rattle.authorities.specs.declared.rights.Authority.{Authority}
use Rattle.authority_texts.specs.declared.told.Told.{Told}
use Rattle.cheri_model.specs.runs.Machine.{MachineState}
use Rattle.explore_sights.specs.declared.sights.Sight.TheVariants as sight
use Rattle.forgotten_states.specs.Surveys.{IsSurvey, SurveyParts, at, count}
use Rattle.live_registers.specs.RegisterSets.{has}
use Rattle.alike_authority.specs.AlikeAuthority.{AreTold, IsHartList, IsHartTold, IsMemoryList, IsMemoryTold}
use Rattle.alike_authority.specs.GroupRights.{IsWhole, group_values}
use Rattle.alike_authority.proofs.BoundLemmas.{hart_bounds, memory_bounds}

module _ {E : Type 0} (survey : SurveyParts) (is : IsSurvey survey) (rights : survey.sight ≡ sight.Rights)
    (list : List Authority) where
  pub hart_list_is : (groups : List ℕ) (hart : ℕ) (result : Result (Vec Told Global) E) → IsWhole survey groups →
      hart < length survey.image.harts →
      AreGreatest (at survey) (group_values groups hart (length survey.image.harts)) list →
      IfOk result (λ told. AreTold (IsHartTold survey hart) list told.items) →
      IfOk result (λ told. IsHartList survey hart told.items)
  hart_list_is groups hart (Ok told) whole inside greatest are =
      let own = subst (λ (gs : List ℕ). AreGreatest (at survey) (group_values gs hart (length survey.image.harts)) list)
      (sym whole.groups_are) greatest in
      record {
        list = list;
        greatest = own;
        told_are = are;
        bounds = λ done. hart_bounds survey is rights (λ reg. whole.asked reg) done hart list inside own;
      }
  hart_list_is groups hart (Err fault) whole inside greatest are = tt

  pub memory_list_is : (result : Result (Vec Told Global) E) → ((reg : ℕ) → has survey.live.asked reg ≡ true) →
      AreGreatest (at survey) memory_values list → IfOk result (λ told. AreTold (IsMemoryTold survey) list told.items) →
      IfOk result (λ told. IsMemoryList survey told.items)
  memory_list_is (Ok told) asked greatest are = record {
    list = list;
    greatest = greatest;
    told_are = are;
    bounds = λ done. memory_bounds survey is rights (λ reg. asked reg) done list greatest;
  }
  memory_list_is (Err fault) asked greatest are = tt

-- rows that mean the states of a survey, and are as many, mean some each
pub rows_meant : (survey : SurveyParts) (is : IsSurvey survey) (found : ℕ → Option MachineState) (number : ℕ) →
    found ≡ at survey → number ≡ count survey → (i : ℕ) → i < number → (s : MachineState) × (found i ≡ Some s)
rows_meant survey is found number states same i low =
    let there = is.nodes.meant i (subst (λ (n : ℕ). i < n) same low) in
    (there.0, ap (λ (a : ℕ → Option MachineState). a i) states ∙ there.1)

-- what is so of each of a list, and of one more, is so of each of both
one_more : {X : Type 0} (P : ℕ → X → Type 0) (xs : List X) (x : X) → ((n : ℕ) → IfSome (slice_get xs n) (P n)) →
    P (length xs) x → (n : ℕ) → IfSome (slice_get (xs ++ x ∷ []) n) (P n)
one_more {X} P [] x each own zero = own
one_more {X} P [] x each own (suc n) = tt
one_more {X} P (y ∷ xs) x each own zero = each 0
one_more {X} P (y ∷ xs) x each own (suc n) = one_more (λ (k : ℕ). P (suc k)) xs x (λ k. each (suc k)) own n

pub each_more : {X : Type 0} (P : ℕ → X → Type 0) (xs ys : List X) (x : X) (number : ℕ) → ys ≡ xs ++ x ∷ [] →
    length xs ≡ number → ((n : ℕ) → IfSome (slice_get xs n) (P n)) → P number x → (n : ℕ) → IfSome (slice_get ys n) (P n)
each_more {X} P xs ys x number made count each own n =
    subst (λ (l : List X). IfSome (slice_get l n) (P n)) (sym made)
    (one_more P xs x each (subst (λ (k : ℕ). P k x) (sym count) own) n)
