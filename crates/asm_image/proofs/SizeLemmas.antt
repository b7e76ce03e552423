-- A program whose sizes were judged has no more instructions than there can be.
use Rattle.std.proofs.Common.{◌≡◌, ℕ, ◌≤◌, Bool, true, false, ◌||◌, cond, nat_lt, Ok, Err, refl, sym, arith}
use Rattle.std.proofs.lemmas.Bool.Decides.{nat_tests}
use Rattle.std.specs.Prelude.{Result}
use Rattle.cheri_model.specs.declared.image.TheConstants.{MAX_INSTRUCTIONS}
use Rattle.asm_files.specs.declared.fault.AssemblyFault.{AssemblyFault}
use Rattle.asm_pictures.specs.Image.{total, sizes_judged}

-- an answer that is a fault where one of three tests says so
answer : Bool → Bool → Bool → AssemblyFault → Result (Unit {0}) AssemblyFault
answer a b c fault = cond (a || b || c) (Err fault) (Ok tt)

refused : (a c : Bool) (fault : AssemblyFault) (done : Unit {0}) → answer a true c fault ≡ Ok done → ⊥
unfolding answer
refused true c fault done is = cc
refused false c fault done is = cc

within : (most count : ℕ) → nat_lt most count ≡ false → count ≤ most
within most count not = grind (arith, nat_tests)

passed : (a b c : Bool) (fault : AssemblyFault) (done : Unit {0}) (most count : ℕ) → nat_lt most count ≡ b → answer a b c fault ≡ Ok done → count ≤ most
passed a true c fault done most count test is = absurd (refused a c fault done is)
passed a false c fault done most count test is = within most count test

no_more : (count : ℕ) (there : Bool) → count ≤ total count there
no_more count true = omega arith
no_more count false = omega arith

pub few : (count : ℕ) (there : Bool) (memory_end : ℕ) (done : Unit {0}) → Ok done ≡ sizes_judged count there memory_end → count ≤ MAX_INSTRUCTIONS
unfolding sizes_judged answer
few count there memory_end done is =
    let most = passed _ _ _ _ done MAX_INSTRUCTIONS (total count there) refl (sym is) in
    let grown = no_more count there in
    omega (arith, most, grown)
