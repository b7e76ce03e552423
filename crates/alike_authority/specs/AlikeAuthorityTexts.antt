-- What is said of the greatest rights where equal harts are not told apart: what was left out
-- besides.
use Rattle.std.specs.Prelude.{ℕ, Bool, List, codes, Vec}
use Rattle.std.specs.Global.{Global}
use Rattle.serde_json.specs.Data.{Data, boolean, object, no_members, member}
use Rattle.serde_json.specs.Written.{compact_text}
use Rattle.authority_texts.specs.AuthorityTexts.{hart_block, harts_data, list_data, rights_lines}
use Rattle.authority_texts.specs.declared.told.Told.{Told}
use Rattle.cheri_model.specs.runs.Image.{ImageParts}
use Rattle.reduced_texts.specs.ReducedTexts.{reduced_data, reduced_line}
use Rattle.reductions.specs.declared.reduction.LeftOut.{LeftOut}
use Rattle.report_lines.specs.EventData.{image_data}
use Rattle.report_lines.specs.Lines.{image_line}
use Rattle.report_lines.specs.Texts.{◌+++◌, line, numbered}
use Rattle.report_lines.specs.ValueData.{count}
use Rattle.shown_states.specs.StateTexts.{states_line}
use Rattle.shown_states.specs.declared.form.Format.{Format}
use Rattle.shown_states.specs.declared.form.Format.TheVariants.{Text, Json}

-- what stands before the rights, or beside them: what was left out, whether all states were kept,
-- the image, and how many states there are
pub record HeadParts : Type 0 where
  pub left_out : LeftOut
  pub complete : Bool
  pub image : ImageParts
  pub states : ℕ

abbrev pub parts_of : LeftOut → Bool → ImageParts → ℕ → HeadParts
parts_of left_out complete image states =
    record { left_out = left_out; complete = complete; image = image; states = states }

-- ---- the text

unfoldable pub alike_head_lines : HeadParts → List ℕ
alike_head_lines head =
    line (codes "cheri-sim authority 2") +++ image_line head.image +++ reduced_line head.left_out
    +++ states_line head.complete head.states

unfoldable pub alike_text : HeadParts → List (Vec Told Global) → List Told → List ℕ
alike_text head harts memory =
    alike_head_lines head +++ numbered hart_block 0 harts +++ line (codes "memory")
    +++ rights_lines memory +++ line (codes "end")

-- ---- JSON

-- the object, of the values of its members
unfoldable pub alike_object : Bool → Data → Data → Data → Data → ℕ → Data
alike_object complete harts image memory reduced states = object
    (member (codes "complete") (boolean complete)
    (member (codes "explore") (count 2)
    (member (codes "harts") harts
    (member (codes "image") image
    (member (codes "memory") memory
    (member (codes "reduced") reduced
    (member (codes "states") (count states) no_members)))))))

abbrev pub alike_data : HeadParts → List (Vec Told Global) → List Told → Data
alike_data head harts memory =
    alike_object head.complete (harts_data harts) (image_data head.image) (list_data memory)
    (reduced_data head.left_out) head.states

-- ---- in a form

abbrev pub alike_said : Format → HeadParts → List (Vec Told Global) → List Told → List ℕ
alike_said Text head harts memory = alike_text head harts memory
alike_said Json head harts memory = line (compact_text (alike_data head harts memory))
