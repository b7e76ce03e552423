-- How many harts an image has.
use Rattle.std.proofs.Common.{◌≡◌, ◌≤◌, length}
use Rattle.std.specs.Prelude.{true, nat_le, ◌&&◌, ◌==◌, ◌%◌}
use Rattle.std.proofs.lemmas.Bool.{and_parts}
use Rattle.std.proofs.lemmas.Bool.Decides.{nat_tests}
use Rattle.std.proofs.Common.{arith}
use Rattle.cheri_model.specs.runs.Image.{ImageParts}
use Rattle.cheri_model.specs.runs.ImageRules.{is_image, are_sizes, is_between}

pub harts_few : (image : ImageParts) → is_image image ≡ true → length image.harts ≤ 8
unfolding is_image
harts_few image is =
    let sizes = (and_parts (are_sizes (length image.program) image.ram (length image.harts)) _ is).0 in
    let last = and_parts (is_between 1 16384 (length image.program) && is_between 16 1048576 image.ram && (image.ram % 16 == 0)) _ sizes in
    let h = and_parts (nat_le 1 (length image.harts)) _ last.1 in
    grind (arith, nat_tests, h.1)
