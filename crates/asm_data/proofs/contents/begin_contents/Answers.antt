use Rattle.std.proofs.Common.{◌≡◌, List, refl}
use Rattle.cap_model.specs.values.CapValue.{CapValue}
use Rattle.asm_code.specs.Code.{CodeParts}
use Rattle.asm_data.specs.Contents.{ContentsParts}
use Rattle.asm_data.proofs.contents.begin_contents.Goals as goal

abbrev contents_with : CodeParts → List CapValue → ContentsParts
contents_with code memory = record { code = code; memory = memory }

same_contents : (code begun : CodeParts) (memory cleared : List CapValue) → code ≡ begun → memory ≡ cleared → contents_with code memory ≡ contents_with begun cleared
same_contents code begun memory cleared same_code same_memory = rw (same_code, same_memory) refl

pub returns-in-Ok : goal.returns-in-Ok
returns-in-Ok c = same_contents _ _ _ _ c.in_ok-code.ensures c.in-Ok.ensures.cleared
