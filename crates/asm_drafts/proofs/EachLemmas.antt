-- A step for each operand: those so far, and those that are left.
use Rattle.std.proofs.Common.{◌≡◌, ◌⊎◌, inl, inr, ℕ, ◌+◌, ◌<◌, ◌≤◌, List, [], ◌∷◌, length, drop, get_or, Ok, Err, sym, ap, ◌∙◌, drop-cons, add-one}
use Rattle.std.specs.Prelude.{Result}
use Rattle.std.proofs.Math.ListN.{drop_of_length-le}
use Rattle.asm_tokens.specs.declared.fault.AsmFault.{AsmFault}
use Rattle.asm_tokens.specs.Faults.{◌>>=◌, no_memory}
use Rattle.asm_statements.specs.declared.statement.Operand.{Operand}
use Rattle.asm_drafts.specs.Drafts.{DraftParts, each_put}

module _ (step : Operand → DraftParts → Result DraftParts AsmFault) (operands : List Operand) (place : ℕ) (d operand : Operand) (parts : DraftParts)
    (whole : Result DraftParts AsmFault) (inside : place < length operands) (here : operand ≡ get_or operands place d)
    (so_far : each_put step (drop place operands) parts ≡ whole) where
  next_operand : drop place operands ≡ operand ∷ drop (place + 1) operands
  next_operand = rw (here, add-one) (drop-cons operands place d inside)

  from_here : (step operand parts >>= λ next. each_put step (drop (place + 1) operands) next) ≡ whole
  unfolding each_put
  from_here = ap (λ (items : List Operand). each_put step items parts) (sym next_operand) ∙ so_far

  pub each_step : (next : DraftParts) → step operand parts ≡ Ok next → each_put step (drop (place + 1) operands) next ≡ whole
  each_step next done = rw done at from_here

  pub each_refused : (fault : AsmFault) → (fault ≡ no_memory) ⊎ (step operand parts ≡ Err fault) → (fault ≡ no_memory) ⊎ (whole ≡ Err fault)
  each_refused fault (inl none) = inl none
  each_refused fault (inr refused) = inr (sym (rw refused at from_here))

-- no operand is left
pub each_end : (step : Operand → DraftParts → Result DraftParts AsmFault) (operands : List Operand) (place : ℕ) (parts : DraftParts)
    (whole : Result DraftParts AsmFault) → length operands ≤ place → each_put step (drop place operands) parts ≡ whole → whole ≡ Ok parts
unfolding each_put
each_end step operands place parts whole ended so_far =
    let none : drop place operands ≡ [] = drop_of_length-le operands ended in
    sym (rw none at so_far)
