-- The image of a draft, by its sizes and its granules.
use Rattle.std.proofs.Common.{◌≡◌, ℕ, ◌+◌, ◌*◌, ◌%◌, ◌≤◌, ◌==◌, ◌&&◌, nat_le, Bool, true, false, not, cond, List, [], ◌∷◌, length, Some, None, Result, Ok, Err, refl, sym, inr, ◌∙◌, arith}
use Rattle.std.specs.Prelude.{ok_or}
use Rattle.std.proofs.lemmas.Bool.Decides.{nat_tests}
use Rattle.cap_model.specs.values.CapValue.{CapValue}
use Rattle.cheri_model.specs.steps.Memory.{ram_base, IsMemory}
use Rattle.cheri_model.specs.runs.Image.{ImageParts}
use Rattle.cheri_model.specs.runs.ImageRules.{image_of, is_image, are_granules, is_granule, is_listed}
use Rattle.cheri_model.specs.declared.instr.Instr.{Instr}
use Rattle.cheri_model.specs.declared.image.HartImage.{HartImage}
use Rattle.listings.specs.declared.fault.ListingFault.{ListingFault}
use Rattle.grammar.specs.declared.fault.ListingFaultKind.TheVariants.{Size}
use Rattle.listings.specs.Faults.{Gives}
use Rattle.listings.specs.Draft.{DraftParts}
use Rattle.listings.specs.Meaning.{whole_fault, listed_from, finished}

all_four : (a b c d : Bool) → a ≡ true → b ≡ true → c ≡ true → d ≡ true → (((a && b) && c) && d) ≡ true
all_four true true true true e f g h = refl
all_four false b c d e f g h = absurd (cc)
all_four true false c d e f g h = absurd (cc)
all_four true true false d e f g h = absurd (cc)
all_four true true true false e f g h = absurd (cc)

both : (a b : Bool) → a ≡ true → b ≡ true → (a && b) ≡ true
both true true e f = refl
both false b e f = absurd (cc)
both true false e f = absurd (cc)

module _ (ram : ℕ) where
  listed_where : (test : Bool) (v : CapValue) (from addr : ℕ) (rest : List (ℕ × CapValue)) → is_listed v ≡ test → is_granule ram from addr v ≡ test
      → are_granules ram (addr + 1) rest ≡ true → are_granules ram from rest ≡ true → are_granules ram from (cond test ((addr, v) ∷ rest) rest) ≡ true
  unfolding are_granules
  listed_where true v from addr rest e f h k = both _ _ f h
  listed_where false v from addr rest e f h k = k

  granule_test : (test : Bool) (v : CapValue) (from addr : ℕ) → is_listed v ≡ test → from ≤ addr → addr % 16 ≡ 0 → addr + 16 ≤ ram_base + ram → is_granule ram from addr v ≡ test
  granule_test true v from addr e low aligned high = all_four (nat_le from addr) (addr % 16 == 0) (nat_le (addr + 16) (ram_base + ram)) (is_listed v) (grind (arith, nat_tests)) (grind (arith, nat_tests)) (grind (arith, nat_tests)) e
  granule_test false v from addr e low aligned high = tested_false (nat_le from addr) (addr % 16 == 0) (nat_le (addr + 16) (ram_base + ram)) (is_listed v) e
    where
      tested_false : (a b c d : Bool) → d ≡ false → (((a && b) && c) && d) ≡ false
      tested_false true true true d e = e
      tested_false false b c d e = refl
      tested_false true false c d e = refl
      tested_false true true false d e = refl

  -- the granules that are listed rise, and are aligned and in RAM
  pub listed_are_granules : (memory : List CapValue) (from addr : ℕ) → from ≤ addr → addr % 16 ≡ 0 → addr + 16 * length memory ≤ ram_base + ram → are_granules ram from (listed_from addr memory) ≡ true
  unfolding are_granules listed_from
  listed_are_granules [] from addr low aligned high = refl
  listed_are_granules (v ∷ memory) from addr low aligned high =
      let room : addr + 16 ≤ ram_base + ram = omega arith in
      let step : (addr + 16) % 16 ≡ 0 = omega arith in
      let left : addr + 16 + 16 * length memory ≤ ram_base + ram = omega arith in
      listed_where (is_listed v) v from addr (listed_from (addr + 16) memory) refl (granule_test (is_listed v) v from addr refl low aligned room)
      (listed_are_granules memory (addr + 1) (addr + 16) (omega arith) step left)
      (listed_are_granules memory from (addr + 16) (omega arith) step left)

tested : (a b c d e f g : Bool) (image : ImageParts) (fault : ListingFault) → b ≡ true → c && d ≡ true → e ≡ true → f && g ≡ true → (h : Bool) → h ≡ true → ok_or (cond ((((a && b) && (c && d)) && e) && (f && g) && h) (Some image) None) fault ≡ cond a (Ok image) (Err fault)
tested true b c d e f g image fault p q r s h t = rw (p, q, r, s, t) refl
tested false b c d e f g image fault p q r s h t = refl

opposite : (a b : Bool) (image : ImageParts) (fault : ListingFault) → a ≡ not b → cond a (Ok image) (Err fault) ≡ cond b (Err fault) (Ok image)
opposite a true image fault e = rw e refl
opposite a false image fault e = rw e refl

some_or_none : (n : ℕ) → nat_le 1 n ≡ not (n == 0)
some_or_none n = grind (arith, nat_tests)

-- the image of these parts
abbrev pub image_with : List Instr → List CapValue → List HartImage → ImageParts
image_with program memory harts =
    record { program = program; ram = 16 * length memory; granules = listed_from ram_base memory; harts = harts }

-- where there are harts, only the lack of instructions refuses the image
pub image_or_size : (program : List Instr) (memory : List CapValue) (harts : List HartImage) → IsMemory memory → length program ≤ 16384 → length harts ≤ 8 → 1 ≤ length harts
    → ok_or (image_of program (16 * length memory) (listed_from ram_base memory) harts) (whole_fault Size) ≡ cond (length program == 0) (Err (whole_fault Size)) (Ok (image_with program memory harts))
unfolding image_of is_image
image_or_size program memory harts lawful most_code most_harts harts_there =
    let size = lawful.size in
    let bytes = 16 * length memory in
    let small : bytes ≤ 1048576 = grind (arith, nat_tests, size) in
    let some : 16 ≤ bytes = grind (arith, nat_tests, size) in
    tested (nat_le 1 (length program)) (nat_le (length program) 16384) (nat_le 16 bytes) (nat_le bytes 1048576) (bytes % 16 == 0) (nat_le 1 (length harts)) (nat_le (length harts) 8) (image_with program memory harts) (whole_fault Size)
    (grind (arith, nat_tests)) (both (nat_le 16 bytes) (nat_le bytes 1048576) (grind (arith, nat_tests)) (grind (arith, nat_tests))) (grind (arith, nat_tests, size)) (both (nat_le 1 (length harts)) (nat_le (length harts) 8) (grind (arith, nat_tests)) (grind (arith, nat_tests)))
    _ (listed_are_granules bytes memory ram_base ram_base (omega arith) refl (omega arith))
    ∙ opposite _ _ (image_with program memory harts) (whole_fault Size) (some_or_none (length program))

-- the image of a draft with harts, as its parts make it
pub finished_image : (draft : DraftParts) (ram : ℕ) (granules : List (ℕ × CapValue)) (result : Result ImageParts ListingFault)
    → IsMemory draft.memory → length draft.program ≤ 16384 → length draft.harts ≤ 8 → (length draft.harts == 0) ≡ false
    → ram ≡ 16 * length draft.memory → granules ≡ listed_from ram_base draft.memory
    → result ≡ ok_or (image_of draft.program ram granules draft.harts) (whole_fault Size)
    → Gives result (finished draft)
unfolding finished
finished_image draft ram granules result lawful most_code most_harts some size listed made =
    let there : 1 ≤ length draft.harts = grind (arith, nat_tests) in
    gives_same result _ (rw some (sym (made ∙ (rw (size, listed) (image_or_size draft.program draft.memory draft.harts lawful most_code most_harts there)))))
  where
    gives_same : (r m : Result ImageParts ListingFault) → m ≡ r → Gives r m
    gives_same (Ok x) m e = e
    gives_same (Err fault) m e = inr e
