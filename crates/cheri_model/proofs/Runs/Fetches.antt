-- What a passed check of a fetch says: that no line of its table fails.
use Rattle.std.proofs.Common.{◌≡◌, ◌-◌, ◌/◌, ◌%◌, ◌<◌, ◌≤◌, ◌==◌, ℕ, arith, Bool, true, false, List, ◌∷◌, refl, sym, cond, [], length, ltb-true}
use Rattle.std.specs.Prelude.{Some, Ok, not, find, nat_lt, All, slice_index_or}
use Rattle.std.proofs.lemmas.List.Elements.{All-nil, All-cons}
use Rattle.std.proofs.lemmas.Bool.{false≢true}
use Rattle.std.proofs.lemmas.Bool.Decides.{nat_tests}
use Rattle.cap_model.specs.values.Capability.{unsealed_type}
use Rattle.cap_model.specs.values.CapValue.{CapValue, tag_of, parts_of}
use Rattle.cap_model.specs.results.Addresses.{address_of, has_permission, in_bounds}
use Rattle.cheri_model.specs.steps.Checks.{CheckLine, verdict_of, first_failing, fetch_table, is_in_code, code_base}

abbrev no_line : CheckLine
no_line = record { fails = false; trap = record { cause = 0; reg = 0 } }

-- a table passes where its first line does not fail and the others pass
pub passes_cons : (line : CheckLine) (table : List CheckLine) → first_failing (line ∷ table) ≡ Ok tt →
    (line.fails ≡ false) × (first_failing table ≡ Ok tt)
unfolding first_failing
passes_cons line table = by_fails line.fails
  where
    by_fails : (b : Bool) → verdict_of (cond b (Some line) (find (λ l. l.fails) table)) ≡ Ok tt → (b ≡ false) × (verdict_of (find (λ l. l.fails) table) ≡ Ok tt)
    by_fails true passed = cc
    by_fails false passed = (refl, passed)

-- no line of a table that passes fails
pub passes : (table : List CheckLine) → first_failing table ≡ Ok tt → All (λ line. line.fails ≡ false) table
passes [] passed = All-nil (λ line. line.fails ≡ false)
passes (line ∷ table) passed =
    let parts = passes_cons line table passed in
    All-cons (λ line. line.fails ≡ false) line table parts.0 (passes table parts.1)

-- so what a line tests for is so, at its place in the table
pub passes_at : (table : List CheckLine) → first_failing table ≡ Ok tt → (place : ℕ) → nat_lt place (length table) ≡ true →
    (slice_index_or table place no_line).fails ≡ false
passes_at table passed place inside = passes table passed place no_line (ltb-true _ _ inside)

pub not_false : (b : Bool) → not b ≡ false → b ≡ true
not_false true same = refl
not_false false same = absurd (false≢true (sym same))

-- PCC is open and may execute, has four bytes at its address in its bounds, and stands at an instruction
pub record IsFetched (pcc : CapValue) (count : ℕ) : Type 0 where
  pub tagged : tag_of pcc ≡ true
  pub unsealed : ((parts_of pcc).otype == unsealed_type) ≡ true
  pub executes : has_permission pcc 1 ≡ true
  pub within : in_bounds pcc (address_of pcc) 4 ≡ true
  pub aligned : (address_of pcc % 4 == 0) ≡ true
  pub placed : is_in_code count (address_of pcc) ≡ true

pub fetched_is : (pcc : CapValue) (count : ℕ) → first_failing (fetch_table pcc count) ≡ Ok tt → IsFetched pcc count
unfolding fetch_table
fetched_is pcc count passed =
    let line = passes_at _ passed in
    record {
      tagged = not_false _ (line 0 refl);
      unsealed = not_false _ (line 1 refl);
      executes = not_false _ (line 2 refl);
      within = not_false _ (line 3 refl);
      aligned = not_false _ (line 4 refl);
      placed = not_false _ (line 5 refl);
    }

-- the place of an instruction, as numbers
pub from_code : (count addr : ℕ) → is_in_code count addr ≡ true → (code_base ≤ addr) × ((addr - code_base) / 4 < count)
from_code count addr placed = grind (arith, nat_tests)
