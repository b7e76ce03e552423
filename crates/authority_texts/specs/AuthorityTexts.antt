-- What is said of the greatest rights: of each hart, and of memory.
use Rattle.std.specs.Prelude.{ℕ, Bool, List, [], ◌∷◌, ◌++◌, map, codes, decimal, Vec}
use Rattle.std.specs.Global.{Global}
use Rattle.serde_json.specs.Data.{Data, string, boolean, array, object, no_members, member}
use Rattle.serde_json.specs.View.{items_of}
use Rattle.serde_json.specs.Written.{compact_text}
use Rattle.cheri_model.specs.runs.Image.{ImageParts}
use Rattle.authority_texts.specs.declared.told.Told.{Told}
use Rattle.order_texts.specs.OrderTexts.{order_text}
use Rattle.report_lines.specs.EventData.{image_data}
use Rattle.report_lines.specs.Lines.{image_line}
use Rattle.report_lines.specs.Texts.{◌+++◌, line, numbered}
use Rattle.report_lines.specs.ValueData.{count}
use Rattle.report_lines.specs.ValueText.{hex_text}
use Rattle.shown_states.specs.StateTexts.{states_line}
use Rattle.shown_states.specs.declared.form.Format.{Format}
use Rattle.shown_states.specs.declared.form.Format.TheVariants.{Text, Json}

-- ---- the text

-- `BASE TOP PERMS first=ORDER`
unfoldable pub rights_line : Told → List ℕ
rights_line told =
    line (hex_text 16 told.rights.base +++ codes " " +++ hex_text 17 told.rights.top +++ codes " "
    +++ hex_text 5 told.rights.perms.0 +++ codes " first=" +++ order_text told.order.items)

unfoldable pub rights_lines : List Told → List ℕ
rights_lines [] = []
rights_lines (t ∷ ts) = rights_line t ++ rights_lines ts

unfoldable pub hart_block : ℕ → Vec Told Global → List ℕ
hart_block number list = line (codes "hart " +++ decimal number) +++ rights_lines list.items

unfoldable pub head_lines : Bool → ImageParts → ℕ → List ℕ
head_lines complete image states =
    line (codes "cheri-sim authority 1") +++ image_line image +++ states_line complete states

unfoldable pub authority_text : Bool → ImageParts → ℕ → List (Vec Told Global) → List Told → List ℕ
authority_text complete image states harts memory =
    head_lines complete image states +++ numbered hart_block 0 harts +++ line (codes "memory")
    +++ rights_lines memory +++ line (codes "end")

-- ---- JSON

unfoldable pub rights_data : Told → Data
rights_data told = object
    (member (codes "base") (string (hex_text 16 told.rights.base))
    (member (codes "first") (string (order_text told.order.items))
    (member (codes "perms") (string (hex_text 5 told.rights.perms.0))
    (member (codes "top") (string (hex_text 17 told.rights.top)) no_members))))

abbrev pub list_data : List Told → Data
list_data list = array (items_of (map rights_data list))

abbrev pub harts_data : List (Vec Told Global) → Data
harts_data harts = array (items_of (map (λ list. list_data list.items) harts))

-- the object, of the values of its members
unfoldable pub object_of : Bool → Data → Data → Data → ℕ → Data
object_of complete harts image memory states = object
    (member (codes "complete") (boolean complete)
    (member (codes "explore") (count 1)
    (member (codes "harts") harts
    (member (codes "image") image
    (member (codes "memory") memory
    (member (codes "states") (count states) no_members))))))

abbrev pub authority_data : Bool → ImageParts → ℕ → List (Vec Told Global) → List Told → Data
authority_data complete image states harts memory =
    object_of complete (harts_data harts) (image_data image) (list_data memory) states

-- ---- in a form

abbrev pub said : Format → Bool → ImageParts → ℕ → List (Vec Told Global) → List Told → List ℕ
said Text complete image states harts memory = authority_text complete image states harts memory
said Json complete image states harts memory =
    line (compact_text (authority_data complete image states harts memory))
