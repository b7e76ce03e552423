-- What items hold, as text and in JSON.
use Rattle.std.specs.Prelude.{ℕ, List, [], ◌∷◌, ◌++◌, codes, decimal}
use Rattle.serde_json.specs.Data.{Members, string, put}
use Rattle.order_texts.specs.OrderTexts.{number_text}
use Rattle.outcomes.specs.declared.items.ItemValue.{ItemValue}
use Rattle.outcomes.specs.declared.items.ItemValue.TheVariants.{Number, Running, Halted, Trapped}
use Rattle.report_lines.specs.Texts.{◌+++◌}

abbrev pub item_value_text : ItemValue → List ℕ
item_value_text (Number number) = number_text number
item_value_text Running = codes "running"
item_value_text Halted = codes "halted"
item_value_text (Trapped cause) = codes "trapped:" ++ decimal cause

abbrev pub item_part : List ℕ → ItemValue → List ℕ
item_part name value = codes " " +++ name +++ codes "=" +++ item_value_text value

-- each by the text that it was given by
unfoldable pub items_text : List (List ℕ) → List ItemValue → List ℕ
items_text [] values = []
items_text (name ∷ names) [] = []
items_text (name ∷ names) (v ∷ values) = item_part name v ++ items_text names values

-- a name that is given twice is there once
unfoldable pub put_items : List (List ℕ) → List ItemValue → Members → Members
put_items [] values members = members
put_items (name ∷ names) [] members = members
put_items (name ∷ names) (v ∷ values) members =
    put_items names values (put name (string (item_value_text v)) members)
