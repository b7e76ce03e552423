-- What a passed check of an access or of a jump says: that no line of its table fails.
use Rattle.std.proofs.Common.{◌≡◌, ℕ, ◌%◌, ◌==◌, Bool, true, List, refl}
use Rattle.std.specs.Prelude.{Ok, Option}
use Rattle.cheri_model.specs.declared.access.Access.{Access}
use Rattle.cap_model.specs.values.CapValue.{CapValue, tag_of}
use Rattle.cheri_model.specs.steps.Memory.{is_in_ram}
use Rattle.cap_model.specs.results.Addresses.{in_bounds}
use Rattle.cheri_model.specs.steps.Checks.{first_failing, size_of, access_table, target_table, jump_table, invoke_table}
use Rattle.cheri_model.proofs.Runs.Fetches.{passes_at, not_false}

-- an access that passed is aligned and lies wholly in RAM
pub record IsPlacedAccess (addr : ℕ) (kind : Access) (granules : List CapValue) : Type 0 where
  pub aligned : (addr % size_of kind == 0) ≡ true
  pub placed : is_in_ram granules addr (size_of kind) ≡ true

pub access_is : (auth : CapValue) (reg addr : ℕ) (kind : Access) (stored : Option CapValue) (granules : List CapValue) →
    first_failing (access_table auth reg addr kind stored granules) ≡ Ok tt → IsPlacedAccess addr kind granules
unfolding access_table
access_is auth reg addr kind stored granules passed =
    let line = passes_at _ passed in
    record { aligned = not_false _ (line 7 refl); placed = not_false _ (line 8 refl) }

pub target_within : (pcc : CapValue) (target : ℕ) → first_failing (target_table pcc target) ≡ Ok tt → in_bounds pcc target 4 ≡ true
unfolding target_table
target_within pcc target passed = not_false _ (passes_at _ passed 0 refl)

-- the capability that a jump goes through is tagged, and has the target in its bounds
pub record IsEntered (through : CapValue) (target : ℕ) : Type 0 where
  pub tagged : tag_of through ≡ true
  pub within : in_bounds through target 4 ≡ true

pub jump_is : (through : CapValue) (reg : ℕ) (is_entry : Bool) (target : ℕ) →
    first_failing (jump_table through reg is_entry target) ≡ Ok tt → IsEntered through target
unfolding jump_table
jump_is through reg is_entry target passed =
    let line = passes_at _ passed in
    record { tagged = not_false _ (line 0 refl); within = not_false _ (line 3 refl) }

pub invoke_is : (code : CapValue) (c1 : ℕ) (pair : CapValue) (c2 target : ℕ) →
    first_failing (invoke_table code c1 pair c2 target) ≡ Ok tt → IsEntered code target
unfolding invoke_table
invoke_is code c1 pair c2 target passed =
    let line = passes_at _ passed in
    record { tagged = not_false _ (line 0 refl); within = not_false _ (line 9 refl) }
