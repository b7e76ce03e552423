-- Lists in JSON, item by item.
use Rattle.std.specs.Prelude.{ℕ, nat_lt, List, ◌++◌}
use Rattle.serde_json.specs.Data.{Data}
use Rattle.serde_json.specs.Written.{comma_if, compact_text}

-- an item of a list, after a comma where it isn't the first
unfoldable pub item_text : {X : Type 0} → (X → Data) → ℕ → X → List ℕ
item_text data_of number x = comma_if (nat_lt 0 number) ++ compact_text (data_of x)
