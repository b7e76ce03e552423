-- The labels so far, and those that are left.
use Rattle.std.proofs.Common.{◌≡◌, ◌⊎◌, inl, inr, ℕ, zero, suc, ◌+◌, ◌-◌, ◌<◌, true, false, nat_lt, List, length, Ok, Err, sym, arith}
use Rattle.std.specs.Prelude.{Result}
use Rattle.asm_tokens.specs.declared.fault.AsmFault.{AsmFault}
use Rattle.asm_tokens.specs.Faults.{◌>>=◌, no_memory}
use Rattle.asm_tokens.specs.Tokens.{TokenParts}
use Rattle.asm_drafts.specs.Drafts.{DraftParts}
use Rattle.asm_drafts.specs.Labels.{labelled, labels_put}

module _ (tokens : List TokenParts) (at left : ℕ) (parts : DraftParts) (whole : Result DraftParts AsmFault)
    (some : 0 < left) (inside : nat_lt at (length tokens) ≡ true) (so_far : labels_put tokens at left parts ≡ whole) where
  label_here : (more : ℕ) → left ≡ suc more → (labelled tokens parts at >>= λ next. labels_put tokens (at + 2) more next) ≡ whole
  unfolding labels_put
  label_here more is = rw inside at (rw is at so_far)

  label_now : (labelled tokens parts at >>= λ next. labels_put tokens (at + 2) (left - 1) next) ≡ whole
  label_now = let is : left ≡ suc (left - 1) = omega arith in label_here (left - 1) is

  pub label_step : (next : DraftParts) → labelled tokens parts at ≡ Ok next → labels_put tokens (at + 2) (left - 1) next ≡ whole
  label_step next done = rw done at label_now

  pub label_refused : (fault : AsmFault) → (fault ≡ no_memory) ⊎ (labelled tokens parts at ≡ Err fault) → (fault ≡ no_memory) ⊎ (whole ≡ Err fault)
  label_refused fault (inl none) = inl none
  label_refused fault (inr refused) = inr (sym (rw refused at label_now))

-- no token is left, or no label
pub labels_beyond : (tokens : List TokenParts) (at left : ℕ) (parts : DraftParts) (whole : Result DraftParts AsmFault)
    → nat_lt at (length tokens) ≡ false → labels_put tokens at left parts ≡ whole → whole ≡ Ok parts
unfolding labels_put
labels_beyond tokens at zero parts whole outside so_far = sym so_far
labels_beyond tokens at (suc more) parts whole outside so_far = sym (rw outside at so_far)

pub labels_end : (tokens : List TokenParts) (at left : ℕ) (parts : DraftParts) (whole : Result DraftParts AsmFault)
    → left ≡ 0 → labels_put tokens at left parts ≡ whole → whole ≡ Ok parts
unfolding labels_put
labels_end tokens at zero parts whole none so_far = sym so_far
labels_end tokens at (suc more) parts whole none so_far = absurd (omega arith)
