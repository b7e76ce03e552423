-- Changes of a memory, noted and undone.
use Rattle.std.proofs.Common.{◌≡◌, ℕ, ◌<◌, Bool, true, List, [], ◌∷◌, ◌++◌, All, length, Some, refl, sym, ap, ◌∙◌, subst, arith}
use Rattle.std.proofs.lemmas.Bool.{false≢true}
use Rattle.std.proofs.lemmas.List.{length-set, length-map}
use Rattle.std.proofs.lemmas.List.Elements.{All-nil, All-push, All-pop}
use Rattle.std.specs.Prelude.{slice_set, option_to_list}
use Rattle.cap_model.specs.values.CapValue.{CapValue}
use Rattle.cap_model.specs.results.Swept.{swept}
use Rattle.cheri_model.specs.runs.Sweeps.{swept_memory}
use Rattle.sample_steps.specs.declared.writes.Change.{Change}
use Rattle.sample_runs.specs.Memories.{undone, IsRunMemory}

-- the last change is undone first
pub undone_push : (changes : List Change) (change : Change) (memory : List CapValue)
    → undone (changes ++ change ∷ []) memory ≡ undone changes (slice_set memory change.granule change.value)
unfolding undone
undone_push [] change memory = refl
undone_push (first ∷ changes) change memory =
    ap (λ (m : List CapValue). slice_set m first.granule first.value) (undone_push changes change memory)

-- what is so once the last change is undone
pub record IsUndone (all left : List Change) (before after : List CapValue) : Type 0 where
  pub within : All (λ (c : Change). c.granule < length after) left
  pub back : undone left after ≡ undone all before

pub one_undone : (all left : List Change) (change : Change) (before after : List CapValue)
    → all ≡ left ++ option_to_list (Some change) → after ≡ slice_set before change.granule change.value
    → All (λ (c : Change). c.granule < length before) all → IsUndone all left before after
one_undone all left change before after parts is within =
    let P : ℕ → Change → Type 0 = λ n c. c.granule < n in
    let size : length after ≡ length before = ap length is ∙ length-set before change.granule change.value in
    record {
      within = subst (λ n. All (P n) left) (sym size) (All-pop (P (length before)) all left (Some change) parts within).0;
      back = ap (undone left) is ∙ sym (ap (λ cs. undone cs before) parts ∙ undone_push left change before);
    }

pub none_undone : (changes : List Change) (memory : List CapValue) → length changes ≡ 0 → undone changes memory ≡ memory
unfolding undone
none_undone [] memory none = refl
none_undone (change ∷ changes) memory none = absurd (omega arith)

-- a change is noted
pub noted : (opening before now : List CapValue) (changes more : List Change) (whole : Bool) (change : Change)
    → IsRunMemory opening before changes whole → more ≡ changes ++ change ∷ []
    → change.granule < length now → slice_set now change.granule change.value ≡ before
    → IsRunMemory opening now more whole
noted opening before now changes more whole change is grown within back =
    let size : length now ≡ length before = sym (length-set now change.granule change.value) ∙ ap length back in
    let P : List Change → Type 0 = λ cs. All (λ (c : Change). c.granule < length opening) cs in
    record {
      size = size ∙ is.size;
      within = subst P (sym grown)
          (All-push (λ (c : Change). c.granule < length opening) changes change is.within (omega (arith, size, is.size, within)));
      back = λ known. ap (λ cs. undone cs now) grown ∙ undone_push changes change now ∙ ap (undone changes) back ∙ is.back known;
    }

-- or is not, and the whole memory is to be brought back
pub not_noted : (opening before now : List CapValue) (changes more : List Change) (whole : Bool) (change : Change)
    → IsRunMemory opening before changes whole → more ≡ changes
    → slice_set now change.granule change.value ≡ before
    → IsRunMemory opening now more true
not_noted opening before now changes more whole change is same back =
    let size : length now ≡ length before = sym (length-set now change.granule change.value) ∙ ap length back in
    let P : List Change → Type 0 = λ cs. All (λ (c : Change). c.granule < length opening) cs in
    record {
      size = size ∙ is.size;
      within = subst P (sym same) is.within;
      back = λ known. absurd (false≢true (sym known));
    }

-- after a sweep the whole memory is to be brought back
pub swept_kept : (opening before now : List CapValue) (changes : List Change) (whole : Bool) (lo hi : ℕ)
    → IsRunMemory opening before changes whole → now ≡ swept_memory lo hi before → IsRunMemory opening now changes true
unfolding swept_memory
swept_kept opening before now changes whole lo hi is swept_is = record {
  size = ap length swept_is ∙ length-map before (swept lo hi) ∙ is.size;
  within = is.within;
  back = λ known. absurd (false≢true (sym known));
}

-- a memory as at first
pub as_at_first : (opening now : List CapValue) (changes : List Change) (whole : Bool)
    → now ≡ opening → changes ≡ [] → IsRunMemory opening now changes whole
unfolding undone
as_at_first opening now changes whole same none =
    let P : Change → Type 0 = λ c. c.granule < length opening in
    record {
      size = ap length same;
      within = subst (All P) (sym none) (All-nil P);
      back = λ known. ap (λ cs. undone cs now) none ∙ same;
    }
