-- What a branch goes to is the instruction at the place that its target is.
use Rattle.std.proofs.Common.{◌≡◌, ℕ, ◌+◌, ◌*◌, ◌/◌, ◌%◌, ◌^◌, ◌<◌, ◌≤◌, ◌==◌, nat_lt, not, Bool, true, false, cond, slice_index_or, Option, Some, None, Result, Ok, Err, refl, sym, ap, ◌∙◌, subst, arith}
use Rattle.std.specs.Prelude.{◌||◌}
use Rattle.std.proofs.lemmas.Bool.Decides.{nat_tests}
use Rattle.cheri_model.specs.declared.code.TheConstants.{CODE_BASE, INSTRUCTION_BYTES}
use Rattle.asm_tokens.specs.declared.fault.AsmFaultKind.{AsmFaultKind}
use Rattle.asm_tokens.specs.declared.fault.AsmFaultKind.TheVariants as faults
use Rattle.asm_values.specs.declared.values.Location.{Location}
use Rattle.asm_values.specs.declared.values.Value.TheVariants.{At}
use Rattle.asm_layout.specs.declared.chunk.ChunkKind.TheVariants.{Code}
use Rattle.asm_layout.specs.Placement.{rank}
use Rattle.asm_places.specs.Places.{PlacesParts, behind, kind_of, address_in, or_section, address_of, instruction_at, target_at, target_of}
use Rattle.asm_late.specs.Late.{LateParts, places_of}
use Rattle.asm_code.specs.Standing as standing
use Rattle.asm_code.specs.Standing.{stand_of, index_of, address_of as statement_address}
use Rattle.asm_files.specs.declared.stand.Stand.{Stand}
use Rattle.asm_promises.proofs.Symbols.{address_is}
use Rattle.asm_listable.proofs.Starts.{located_low}

-- a number of an instruction, from an offset
record IsAt (offset most n : ℕ) : Type 0 where
  even : offset % INSTRUCTION_BYTES ≡ 0
  number : offset / INSTRUCTION_BYTES ≡ n
  within : n ≤ most

at_by : (even past : Bool) (offset most n : ℕ) → (offset % INSTRUCTION_BYTES == 0) ≡ even → nat_lt most (offset / INSTRUCTION_BYTES) ≡ past
    → cond (not even || past) (Err faults.Range) (Ok (offset / INSTRUCTION_BYTES)) ≡ Ok n → IsAt offset most n
at_by false past offset most n v p e = absurd (cc)
at_by true true offset most n v p e = absurd (cc)
at_by true false offset most n v p e =
    let is : offset / INSTRUCTION_BYTES ≡ n = cc in
    let few : offset / INSTRUCTION_BYTES ≤ most = grind (arith, nat_tests) in
    record { even = grind (arith, nat_tests); number = is; within = subst (λ (k : ℕ). k ≤ most) is few }

offset_at : (offset most n : ℕ) → instruction_at offset most ≡ Ok n → IsAt offset most n
offset_at offset most n e = at_by (offset % INSTRUCTION_BYTES == 0) (nat_lt most (offset / INSTRUCTION_BYTES)) offset most n refl refl e

code_by : (test : Bool) (offset most n : ℕ) → cond test (instruction_at offset most) (Err faults.Range) ≡ Ok n → IsAt offset most n
code_by true offset most n e = offset_at offset most n e
code_by false offset most n e = absurd (cc)

-- the address of a target, and what it is from it
abbrev IsFound : PlacesParts → Location → ℕ → ℕ → Type 0
IsFound parts location most n = (addr : ℕ) × (address_of parts (At location) ≡ Ok addr) × IsAt (behind addr CODE_BASE) most n

found_by : (parts : PlacesParts) (location : Location) (most n : ℕ) (address : Result ℕ AsmFaultKind) → address_of parts (At location) ≡ address
    → target_at parts location most address ≡ Ok n → IsFound parts location most n
found_by parts location most n (Ok addr) a e = (addr, a, code_by (rank (kind_of parts location.chunk) == rank Code) (behind addr CODE_BASE) most n e)
found_by parts location most n (Err fault) a e = absurd (cc)

found : (parts : PlacesParts) (location : Location) (most n : ℕ) → target_of parts (At location) most ≡ Ok n → IsFound parts location most n
unfolding target_of
found parts location most n e = found_by parts location most n (address_of parts (At location)) refl e

back : (addr n : ℕ) → addr < 2 ^ 64 → behind addr CODE_BASE % INSTRUCTION_BYTES ≡ 0 → behind addr CODE_BASE / INSTRUCTION_BYTES ≡ n
    → addr ≡ (CODE_BASE + INSTRUCTION_BYTES * n) % 2 ^ 64
back addr n h even number = omega arith

pub target_address : (parts : PlacesParts) (location : Location) (most n : ℕ) → target_of parts (At location) most ≡ Ok n
    → (n ≤ most) × (address_of parts (At location) ≡ Ok ((CODE_BASE + INSTRUCTION_BYTES * n) % 2 ^ 64))
target_address parts location most n e =
    let x = found parts location most n e in
    let low = located_low parts location x.0 x.1 in
    (x.2.within, x.1 ∙ ap (λ (k : ℕ). Ok k) (back x.0 n low x.2.even x.2.number))

same_ok : (a b : ℕ) (r : Result ℕ AsmFaultKind) → r ≡ Ok a → r ≡ Ok b → a ≡ b
same_ok a b r p q = cc

pub target_statement : (late : LateParts) (file number most n : ℕ) (parts : PlacesParts) (location : Location) → target_of parts (At location) most ≡ Ok n
    → address_of parts (At location) ≡ Ok (standing.address_of late file number 0 0) → n ≡ index_of late file number
unfolding index_of
target_statement late file number most n parts location e there =
    let x = found parts location most n e in
    let same : x.0 ≡ standing.address_of late file number 0 0 = same_ok x.0 (standing.address_of late file number 0 0) (address_of parts (At location)) x.1 there in
    sym x.2.number ∙ ap (λ (k : ℕ). behind k CODE_BASE / INSTRUCTION_BYTES) same

-- ---- labels

section_ok : (o : Option ℕ) (addr : ℕ) → or_section o ≡ Ok addr → o ≡ Some addr
section_ok (Some one) addr e = let is : one ≡ addr = cc in ap (λ (n : ℕ). Some n) is
section_ok None addr e = absurd (cc)

same_place : (start offset addr : ℕ) → (start + offset) % 2 ^ 64 ≡ addr → addr ≡ (start + (offset + 0 * 0) % 2 ^ 64) % 2 ^ 64
same_place start offset addr e = omega arith

-- a place where a statement stands has the statement's address
pub label_address : (late : LateParts) (file number addr : ℕ) (location : Location) → location.chunk ≡ (stand_of late file number).chunk
    → location.offset ≡ (stand_of late file number).offset → address_of (places_of late) (At location) ≡ Ok addr → addr ≡ statement_address late file number 0 0
unfolding address_of statement_address places_of
label_address late file number addr location chunk offset e =
    let there = address_is (places_of late) location.chunk location.offset addr (section_ok (address_in (places_of late) location.chunk location.offset) addr e) in
    let stand : Stand = stand_of late file number in
    let by_chunk : (slice_index_or late.linked.layout.addresses stand.chunk 0 + location.offset) % 2 ^ 64 ≡ addr =
    subst (λ (n : ℕ). (slice_index_or late.linked.layout.addresses n 0 + location.offset) % 2 ^ 64 ≡ addr) chunk there in
    let by_offset : (slice_index_or late.linked.layout.addresses stand.chunk 0 + stand.offset) % 2 ^ 64 ≡ addr =
    subst (λ (n : ℕ). (slice_index_or late.linked.layout.addresses stand.chunk 0 + n) % 2 ^ 64 ≡ addr) offset by_chunk in
    same_place (slice_index_or late.linked.layout.addresses stand.chunk 0) stand.offset addr by_offset

pub target_label : (late : LateParts) (file number most n : ℕ) (location : Location) → location.chunk ≡ (stand_of late file number).chunk
    → location.offset ≡ (stand_of late file number).offset → target_of (places_of late) (At location) most ≡ Ok n → n ≡ index_of late file number
target_label late file number most n location chunk offset e =
    let x = found (places_of late) location most n e in
    let is = label_address late file number x.0 location chunk offset x.1 in
    target_statement late file number most n (places_of late) location e (x.1 ∙ ap (λ (k : ℕ). Ok k) is)
