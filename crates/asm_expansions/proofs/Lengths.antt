-- An expansion has as many instructions as its count says.
use Rattle.std.proofs.Common.{◌≡◌, refl, ℕ, [], ◌∷◌, length, option_map}
use Rattle.std.specs.Prelude.{ℤ, Option, Some, None, IfSome}
use Rattle.cheri_model.specs.declared.instr.Instr.{Instr}
use Rattle.asm_expansions.specs.declared.operation.Operation.{Operation}
use Rattle.asm_expansions.specs.declared.operation.Operation.TheVariants as operation
use Rattle.asm_expansions.specs.Expansions.{expansion_of, count_of, reaching}

one_long : {A : Type 0} (f : A → Instr) (value : Option A) →
    IfSome (option_map (λ operand. f operand ∷ []) value) (λ instrs. length instrs ≡ 1)
one_long f None = tt
one_long f (Some operand) = refl

two_long : (cd : ℕ) (second : Instr) (field : Option ℕ) →
    IfSome (reaching cd second field) (λ instrs. length instrs ≡ 2)
unfolding reaching
two_long cd second None = tt
two_long cd second (Some field) = refl

pub length_is : (i : Operation) (value : ℤ) →
    IfSome (expansion_of i value) (λ instrs. length instrs ≡ count_of i value)
unfolding expansion_of count_of
length_is (operation.Three op cd c1 c2) value = refl
length_is (operation.Two op cd c1) value = refl
length_is (operation.Immediate op cd c1) value = one_long _ _
length_is (operation.Shift op cd c1) value = one_long _ _
length_is (operation.WordShift op cd c1) value = one_long _ _
length_is (operation.SetBoundsImm cd c1) value = one_long _ _
length_is (operation.Upper op cd) value = one_long _ _
length_is (operation.Load op cd c1) value = one_long _ _
length_is (operation.Store op c2 c1) value = one_long _ _
length_is (operation.Swap cd c2 c1) value = refl
length_is (operation.Branch op c1 c2) value = one_long _ _
length_is (operation.Jump cd) value = one_long _ _
length_is (operation.Invoke c1 c2) value = refl
length_is operation.Alone value = refl
length_is operation.Nop value = refl
length_is operation.Unimp value = refl
length_is (operation.PseudoTwo op d s) value = refl
length_is (operation.PseudoThree op d s t) value = refl
length_is (operation.PseudoBranch op s t) value = one_long _ _
length_is (operation.ZeroBranch op s) value = one_long _ _
length_is (operation.Li rd) value = refl
length_is (operation.Call cd) value = two_long _ _ _
length_is operation.Tail value = two_long _ _ _
length_is (operation.Cllc cd) value = two_long _ _ _
length_is (operation.Clgc cd) value = two_long _ _ _
length_is (operation.LoadSymbol op rd) value = two_long _ _ _
length_is (operation.La rd) value = two_long _ _ _

pub ruleset lengths = (length_is)
