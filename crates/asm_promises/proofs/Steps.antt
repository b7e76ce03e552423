-- The steps by which files mean an image.
use Rattle.std.proofs.Common.{◌≡◌, ℕ, Bool, List, Ok, refl, ap, ◌∙◌, subst}
use Rattle.asm_memory.specs.Memory.{listed_below}
use Rattle.asm_tokens.specs.Faults.{◌>>=◌}
use Rattle.asm_files.specs.Programs.{ProgramParts}
use Rattle.asm_files.specs.Requests.{HartRequestParts}
use Rattle.asm_files.specs.Files.{program_of}
use Rattle.asm_late.specs.Linked.{linked_of}
use Rattle.asm_late.specs.Late.{LateParts}
use Rattle.asm_data.specs.Contents.{ContentsParts, contents_of}
use Rattle.asm_pictures.specs.Asked.{HartsParts, asked_harts}
use Rattle.asm_pictures.specs.Harts.{OpenedParts, exits_in, harts_of}
use Rattle.asm_pictures.specs.Image.{sizes_judged, exit_address, program_with, image_made}
use Rattle.asm_image.specs.Whole.{AssembledParts, DrawnParts, scene_of, drawn_in, ram_for, drawn, linked_drawn, assembled, linked_meaning, program_meaning, assembly_meaning}
use Rattle.asm_listable.proofs.Starts.{then_ok}
use Rattle.asm_promises.specs.Given.{requests_in}
use Rattle.asm_promises.specs.Origins.{late_in}

pub record Steps (texts : List (List ℕ)) (harts : HartsParts) (a : AssembledParts) : Type 0 where
  pub contents : ContentsParts
  pub opened : OpenedParts
  pub ram : ℕ
  pub read : program_of texts ≡ Ok a.program
  pub exits : exits_in (requests_in harts a) ≡ a.exit
  pub linked : linked_of a.program a.exit ≡ Ok a.linked
  pub contents_is : contents_of (late_in a) ≡ Ok contents
  pub judged : sizes_judged a.linked.instructions a.exit a.linked.layout.memory_end ≡ Ok tt
  pub opened_is : harts_of (scene_of (late_in a) (exit_address a.linked.instructions a.exit)) a.linked.layout.memory_end (requests_in harts a) ≡ Ok opened
  pub ram_is : ram_for a.program opened.memory_end ≡ Ok ram
  pub image : image_made (program_with contents.code.instructions a.exit) ram (listed_below ram contents.memory) opened.images ≡ Ok a.image
  pub notes : opened.notes ≡ a.harts
  pub origins : contents.code.origins ≡ a.origins

-- the steps of what was drawn
record Draws (late : LateParts) (requests : List HartRequestParts) (exit : Bool) (d : DrawnParts) : Type 0 where
  contents : ContentsParts
  opened : OpenedParts
  ram : ℕ
  contents_is : contents_of late ≡ Ok contents
  judged : sizes_judged late.linked.instructions exit late.linked.layout.memory_end ≡ Ok tt
  opened_is : harts_of (scene_of late (exit_address late.linked.instructions exit)) late.linked.layout.memory_end requests ≡ Ok opened
  ram_is : ram_for late.program opened.memory_end ≡ Ok ram
  image : image_made (program_with contents.code.instructions exit) ram (listed_below ram contents.memory) opened.images ≡ Ok d.image
  notes : opened.notes ≡ d.harts
  origins : contents.code.origins ≡ d.origins

unit_is : (u : Unit {0}) → u ≡ tt
unit_is tt = refl

draws_of : (late : LateParts) (requests : List HartRequestParts) (exit : Bool) (d : DrawnParts) → linked_drawn late requests exit ≡ Ok d → Draws late requests exit d
unfolding linked_drawn drawn drawn_in
draws_of late requests exit d e =
    let scene = scene_of late (exit_address late.linked.instructions exit) in
    let s1 = then_ok (contents_of late) (λ contents. drawn late contents requests exit) d e in
    let contents : ContentsParts = s1.0 in
    let s2 = then_ok (sizes_judged late.linked.instructions exit late.linked.layout.memory_end)
    (λ judged. harts_of (scene_of late (exit_address late.linked.instructions exit)) late.linked.layout.memory_end requests >>= λ opened. ram_for late.program opened.memory_end >>= λ ram. drawn_in contents exit opened.images opened.notes ram) d s1.2 in
    let s3 = then_ok (harts_of (scene_of late (exit_address late.linked.instructions exit)) late.linked.layout.memory_end requests)
    (λ opened. ram_for late.program opened.memory_end >>= λ ram. drawn_in contents exit opened.images opened.notes ram) d s2.2 in
    let opened : OpenedParts = s3.0 in
    let s4 = then_ok (ram_for late.program opened.memory_end) (λ ram. drawn_in contents exit opened.images opened.notes ram) d s3.2 in
    let ram : ℕ = s4.0 in
    let s5 = then_ok (image_made (program_with contents.code.instructions exit) ram (listed_below ram contents.memory) opened.images)
    (λ image. Ok (record { image = image; harts = opened.notes; origins = contents.code.origins })) d s4.2 in
    let made : DrawnParts = record { image = s5.0; harts = opened.notes; origins = contents.code.origins } in
    let is : made ≡ d = (let h = s5.2 in cc) in
    subst (Draws late requests exit) is (record {
      contents = contents;
      opened = opened;
      ram = ram;
      contents_is = s1.1;
      judged = s2.1 ∙ ap (λ (u : Unit {0}). Ok u) (unit_is s2.0);
      opened_is = s3.1;
      ram_is = s4.1;
      image = s5.1;
      notes = refl;
      origins = refl;
    })

pub steps_of : (texts : List (List ℕ)) (harts : HartsParts) (a : AssembledParts) → assembly_meaning texts harts ≡ Ok a → Steps texts harts a
unfolding assembly_meaning program_meaning
steps_of texts harts a e =
    let s0 = then_ok (program_of texts) (λ program. program_meaning program harts) a e in
    let program : ProgramParts = s0.0 in
    let requests : List HartRequestParts = asked_harts harts program.requests.harts in
    let exit : Bool = exits_in requests in
    let s1 = then_ok (linked_of program exit) (λ linked. linked_meaning (record { program = program; linked = linked }) requests exit) a s0.2 in
    let late : LateParts = record { program = program; linked = s1.0 } in
    let s2 = then_ok (linked_drawn late requests exit) (λ drawn. Ok (assembled late exit drawn)) a s1.2 in
    let is : assembled late exit s2.0 ≡ a = (let h = s2.2 in cc) in
    let d = draws_of late requests exit s2.0 s2.1 in
    subst (Steps texts harts) is (record {
      contents = d.contents;
      opened = d.opened;
      ram = d.ram;
      read = s0.1;
      exits = refl;
      linked = s1.1;
      contents_is = d.contents_is;
      judged = d.judged;
      opened_is = d.opened_is;
      ram_is = d.ram_is;
      image = d.image;
      notes = d.notes;
      origins = d.origins;
    })
