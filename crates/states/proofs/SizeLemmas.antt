-- The sizes of an image, and of a graph of which nothing is known yet.
use Rattle.std.proofs.Common.{◌≡◌, ◌<◌, ◌≤◌, List, [], length, arith, ap, sym}
use Rattle.std.specs.Prelude.{true, nat_le, ◌&&◌, ◌==◌, ◌%◌}
use Rattle.std.proofs.lemmas.Bool.{and_parts}
use Rattle.std.proofs.lemmas.Bool.Decides.{nat_tests}
use Rattle.std.proofs.lemmas.Option.{none-some}
use Rattle.cheri_model.specs.declared.instr.Instr.{Instr}
use Rattle.cheri_model.specs.steps.Hart.{HartState}
use Rattle.cheri_model.specs.runs.Image.{ImageParts}
use Rattle.cheri_model.specs.runs.ImageRules.{is_image, are_sizes, is_between}
use Rattle.state_store.specs.Stores.{Stored}
use Rattle.states.specs.Locals.{IsTabled}

pub record AreSizes (image : ImageParts) : Type 0 where
  pub harts_some : 0 < length image.harts
  pub harts_few : length image.harts ≤ 8
  pub ram_some : 16 ≤ image.ram
  pub ram_few : image.ram ≤ 1048576

pub sizes_of : (image : ImageParts) → is_image image ≡ true → AreSizes image
unfolding is_image
sizes_of image is =
    let sizes = (and_parts (are_sizes (length image.program) image.ram (length image.harts)) _ is).0 in
    let last = and_parts (is_between 1 16384 (length image.program) && is_between 16 1048576 image.ram && (image.ram % 16 == 0)) _ sizes in
    let ram = and_parts (is_between 1 16384 (length image.program) && is_between 16 1048576 image.ram) _ last.0 in
    let between = (and_parts (is_between 1 16384 (length image.program)) _ ram.0).1 in
    let r = and_parts (nat_le 16 image.ram) _ between in
    let h = and_parts (nat_le 1 (length image.harts)) _ last.1 in
    record {
      harts_some = grind (arith, nat_tests, h.0);
      harts_few = grind (arith, nat_tests, h.1);
      ram_some = grind (arith, nat_tests, r.0);
      ram_few = grind (arith, nat_tests, r.1);
    }

pub tabled_none : (program : List Instr) (rests : HartState → HartState) (store : Stored) → store.harts ≡ [] → IsTabled program rests store [] []
tabled_none program rests store none = record {
  even = sym (ap length none);
  sites_are = λ id site at. absurd (none-some site at);
  steps_are = λ step known. absurd (none-some step known.1);
}
