-- Every value of an image is one that it may hold.
use Rattle.std.proofs.Common.{◌≡◌, ℕ, ◌≤◌, nat_lt, Bool, true, false, cond, List, length, Option, Some, None, Ok, All, refl, ap, ◌∙◌, subst, arith}
use Rattle.std.proofs.lemmas.Bool.Decides.{nat_tests}
use Rattle.cap_model.specs.values.CapValue.{CapValue}
use Rattle.cheri_model.specs.declared.instr.Instr.{Instr}
use Rattle.cheri_model.specs.declared.image.HartImage.{HartImage}
use Rattle.cheri_model.specs.runs.Image.{ImageParts}
use Rattle.cheri_model.specs.runs.ImageRules.{is_image, image_of}
use Rattle.listings.specs.Meaning.{listing_limit}
use Rattle.canonical.specs.Canon.{canon}
use Rattle.canonical.proofs.round_trip.Ranges.{test_false}
use Rattle.asm_memory.specs.Memory.{listed_below}
use Rattle.asm_tokens.specs.declared.fault.AsmFaultKind.TheVariants as faults
use Rattle.asm_files.specs.declared.fault.AssemblyFault.{AssemblyFault}
use Rattle.asm_listable.proofs.Starts.{then_ok}
use Rattle.asm_starts.specs.Starts.{NoteParts}
use Rattle.asm_pictures.specs.Asked.{HartsParts}
use Rattle.asm_pictures.specs.Image.{exit_address, whole, or_fault, listed, program_with, image_made}
use Rattle.asm_image.specs.Whole.{AssembledParts, scene_of, assembly_meaning}
use Rattle.asm_promises.specs.Given.{objects_in, requests_in, IsHeld, IsGivenHart}
use Rattle.asm_promises.specs.Origins.{late_in}
use Rattle.asm_promises.proofs.Steps.{Steps, steps_of}
use Rattle.asm_promises.proofs.Held.{granules_held}
use Rattle.asm_promises.proofs.Registers.{InHart, harts_given}

-- an image has just its parts, is one, and its canonical listing is no longer than a listing may be
pub record IsMade (program : List Instr) (ram : ℕ) (granules : List (ℕ × CapValue)) (harts : List HartImage) (image : ImageParts) : Type 0 where
  pub parts : record { program = program; ram = ram; granules = granules; harts = harts } ≡ image
  pub is : is_image image ≡ true
  pub short : length (canon image) ≤ listing_limit

some_of : (r : Option ImageParts) (fault : AssemblyFault) (image : ImageParts) → or_fault fault r ≡ Ok image → r ≡ Some image
some_of (Some one) fault image e = let is : one ≡ image = cc in ap (λ x. Some x) is
some_of None fault image e = absurd (cc)

made_by : (test : Bool) (one image : ImageParts) → is_image one ≡ test → cond test (Some one) None ≡ Some image → (one ≡ image) × (is_image image ≡ true)
made_by true one image t e = let is : one ≡ image = cc in (is, subst (λ (i : ImageParts). is_image i ≡ true) is t)
made_by false one image t e = absurd (cc)

short_by : (n : ℕ) → nat_lt listing_limit n ≡ false → n ≤ listing_limit
short_by n e = grind (arith, nat_tests)

pub made_of : (program : List Instr) (ram : ℕ) (granules : List (ℕ × CapValue)) (harts : List HartImage) (image : ImageParts)
    → image_made program ram granules harts ≡ Ok image → IsMade program ram granules harts image
unfolding image_made image_of
made_of program ram granules harts image e =
    let one : ImageParts = record { program = program; ram = ram; granules = granules; harts = harts } in
    let x = then_ok (or_fault (whole faults.Size) (cond (is_image one) (Some one) None)) listed image e in
    let short = test_false (nat_lt listing_limit (length (canon x.0))) (Ok x.0) (whole faults.Size) image x.2 in
    let same : x.0 ≡ image = (let h = short.1 in cc) in
    let made = made_by (is_image one) one x.0 refl (some_of (cond (is_image one) (Some one) None) (whole faults.Size) x.0 x.1) in
    record {
      parts = made.0 ∙ same;
      is = subst (λ (i : ImageParts). is_image i ≡ true) same made.1;
      short = subst (λ (i : ImageParts). length (canon i) ≤ listing_limit) same (short_by (length (canon x.0)) short.0);
    }

pub granules_given : (texts : List (List ℕ)) (harts : HartsParts) (a : AssembledParts) → assembly_meaning texts harts ≡ Ok a
    → All (λ g. IsHeld (objects_in a) g.1) a.image.granules
granules_given texts harts a e =
    let s = steps_of texts harts a e in
    let made = made_of (program_with s.contents.code.instructions a.exit) s.ram (listed_below s.ram s.contents.memory) s.opened.images a.image s.image in
    subst (λ (i : ImageParts). All (λ g. IsHeld (objects_in a) g.1) i.granules) made.parts (granules_held (late_in a) s.contents s.ram s.contents_is)

opened_given : (texts : List (List ℕ)) (harts : HartsParts) (a : AssembledParts) (s : Steps texts harts a)
    → All (InHart (objects_in a) (length a.linked.table.symbols) (requests_in harts a) s.opened.notes) s.opened.images
unfolding scene_of
opened_given texts harts a s =
    harts_given (scene_of (late_in a) (exit_address a.linked.instructions a.exit)) (requests_in harts a) a.linked.layout.memory_end s.opened s.opened_is

pub harts_are_given : (texts : List (List ℕ)) (harts : HartsParts) (a : AssembledParts) → assembly_meaning texts harts ≡ Ok a
    → All (IsGivenHart harts a) a.image.harts
harts_are_given texts harts a e =
    let s = steps_of texts harts a e in
    let made = made_of (program_with s.contents.code.instructions a.exit) s.ram (listed_below s.ram s.contents.memory) s.opened.images a.image s.image in
    let noted : All (IsGivenHart harts a) s.opened.images =
    subst (λ (notes : List NoteParts). All (InHart (objects_in a) (length a.linked.table.symbols) (requests_in harts a) notes) s.opened.images) s.notes (opened_given texts harts a s) in
    subst (λ (i : ImageParts). All (IsGivenHart harts a) i.harts) made.parts noted
