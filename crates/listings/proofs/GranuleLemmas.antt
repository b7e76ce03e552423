-- Bytes stored one after another, and the granules that are listed.
use Rattle.std.proofs.Common.{◌≡◌, ℕ, suc, ◌+◌, ◌*◌, ◌<◌, ◌≤◌, nat_le, Bool, true, false, cond, IsTrue, List, [], ◌∷◌, ◌++◌, length, get_or, drop, refl, sym, ap, ◌∙◌, add-one, add_assoc, append_assoc, arith}
use Rattle.std.proofs.Math.Seq.{drop-cons}
use Rattle.std.proofs.Math.ListN.{drop_of_length-le, length-set}
use Rattle.std.proofs.lemmas.List.{append-nil}
use Rattle.std.proofs.lemmas.Bool.Decides.{nat_tests}
use Rattle.cap_model.specs.values.CapValue.{CapValue, raw}
use Rattle.cheri_model.specs.steps.Memory.{ram_base, is_in_ram, fits, store_data}
use Rattle.cheri_model.specs.runs.ImageRules.{is_listed}
use Rattle.grammar.proofs.PermissionTexts.{first, second}
use Rattle.listings.specs.Draft.{stored_bytes}
use Rattle.listings.specs.Meaning.{listed_from}

-- what a test of RAM says
pub in_ram_from : (memory : List CapValue) (addr bytes : ℕ) → IsTrue (is_in_ram memory addr bytes) → ram_base ≤ addr
in_ram_from memory addr bytes h = let low : IsTrue (nat_le ram_base addr) = first _ _ h in grind (arith, nat_tests)

pub in_ram_to : (memory : List CapValue) (addr bytes : ℕ) → IsTrue (is_in_ram memory addr bytes) → addr + bytes ≤ ram_base + 16 * length memory
in_ram_to memory addr bytes h =
    let high : IsTrue (nat_le (addr + bytes) (ram_base + 16 * length memory)) = second (nat_le ram_base addr) _ h in grind (arith, nat_tests)

pub length_stored : (memory : List CapValue) (addr bytes number : ℕ) → length (store_data memory addr bytes number) ≡ length memory
unfolding store_data
length_stored memory addr bytes number = length-set _ _ _

-- after one more byte the rest makes of memory what all bytes make
pub stored_step : (memory after whole : List CapValue) (addr offset byte : ℕ) (bytes : List ℕ) → offset < length bytes → byte ≡ get_or bytes offset 0
    → after ≡ store_data memory (addr + offset) 1 byte
    → stored_bytes memory (addr + offset) (drop offset bytes) ≡ whole
    → stored_bytes after (addr + (offset + 1)) (drop (offset + 1) bytes) ≡ whole
unfolding stored_bytes
stored_step memory after whole addr offset byte bytes room here stored same =
    let next : drop offset bytes ≡ get_or bytes offset 0 ∷ drop (offset + 1) bytes = rw add-one (drop-cons bytes offset 0 room) in
    rw (stored, here, ← (add_assoc addr offset 1)) (rw next at same)

pub stored_end : (memory whole : List CapValue) (addr offset : ℕ) (bytes : List ℕ) → length bytes ≤ offset → stored_bytes memory (addr + offset) (drop offset bytes) ≡ whole → memory ≡ whole
unfolding stored_bytes
stored_end memory whole addr offset bytes ended same = rw (drop_of_length-le bytes ended) at same

listed_or_not : (test : Bool) (v : CapValue) (place : ℕ) (memory : List CapValue) → is_listed v ≡ test → listed_from place (v ∷ memory) ≡ cond test ((place, v) ∷ []) [] ++ listed_from (place + 16) memory
unfolding listed_from
listed_or_not true v place memory e = rw e refl
listed_or_not false v place memory e = rw e refl

-- the granules so far and those from a place on stay the same when the one there is appended, if it is listed
pub listed_step : (some after whole : List (ℕ × CapValue)) (place number : ℕ) (v : CapValue) (memory : List CapValue) → number < length memory → v ≡ get_or memory number (raw 0)
    → place ≡ ram_base + 16 * number
    → after ≡ some ++ cond (is_listed v) ((place, v) ∷ []) []
    → some ++ listed_from (ram_base + 16 * number) (drop number memory) ≡ whole
    → after ++ listed_from (ram_base + 16 * (number + 1)) (drop (number + 1) memory) ≡ whole
listed_step some after whole place number v memory room here at appended same =
    let next : drop number memory ≡ v ∷ drop (number + 1) memory = rw add-one (drop-cons memory number (raw 0) room ∙ ap (λ w. w ∷ drop (suc number) memory) (sym here)) in
    let further : ram_base + 16 * (number + 1) ≡ ram_base + 16 * number + 16 = omega arith in
    let split : listed_from (ram_base + 16 * number) (drop number memory) ≡ cond (is_listed v) ((ram_base + 16 * number, v) ∷ []) [] ++ listed_from (ram_base + 16 * number + 16) (drop (number + 1) memory) =
    ap (listed_from (ram_base + 16 * number)) next ∙ listed_or_not (is_listed v) v (ram_base + 16 * number) (drop (number + 1) memory) refl in
    rw (appended, at, further, append_assoc) (ap (λ l. some ++ l) (sym split) ∙ same)

pub listed_end : (some whole : List (ℕ × CapValue)) (place number : ℕ) (memory : List CapValue) → length memory ≤ number → some ++ listed_from place (drop number memory) ≡ whole → some ≡ whole
unfolding listed_from
listed_end some whole place number memory ended h = rw append-nil at (rw (drop_of_length-le memory ended) at h)

-- one byte of RAM fits
pub byte_fits : (memory : List CapValue) (addr : ℕ) → ram_base ≤ addr → addr + 1 ≤ ram_base + 16 * length memory → IsTrue (fits memory addr 1)
byte_fits memory addr low high = grind (arith, nat_tests)
