-- An order as text: a digit for each step, `[LO,HI]` for each sweep (this project's own format).
use Rattle.std.specs.Prelude.{ℕ, ◌<◌, ◌≤◌, List, [], ◌∷◌, ◌++◌, codes, decimal, map, Vec}
use Rattle.std.specs.Global.{Global}
use Rattle.cap_model.specs.declared.encoding.TheConstants.{ADDRESS_SPACE}
use Rattle.cheri_model.specs.declared.operation.Op.{Op}
use Rattle.cheri_model.specs.declared.operation.Op.TheVariants as operation
use Rattle.report_lines.specs.Texts.{◌+++◌}
pub use Rattle.text_numbers.specs.Hexadecimal.{number_text}

abbrev pub operation_text : Op → List ℕ
operation_text (operation.Step hart) = decimal hart
operation_text (operation.Sweep lo hi) =
    codes "[" +++ number_text lo +++ codes "," +++ number_text hi +++ codes "]"

unfoldable pub operations_text : List Op → List ℕ
operations_text [] = []
operations_text (op ∷ ops) = operation_text op ++ operations_text ops

-- an order without operations is a dash
abbrev pub order_text : List Op → List ℕ
order_text [] = codes "-"
order_text (op ∷ ops) = operations_text (op ∷ ops)

-- orders, each as its operations
abbrev pub orders_of : List (Vec Op Global) → List (List Op)
orders_of orders = map (λ order. order.items) orders

-- an operation that an order can have: a step of one of eight harts, or a sweep of addresses
abbrev pub IsOperation : Op → Type 0
IsOperation (operation.Step hart) = hart < 8
IsOperation (operation.Sweep lo hi) = (lo ≤ hi) × (lo < ADDRESS_SPACE) × (hi ≤ ADDRESS_SPACE)

abbrev pub AreOperations : List Op → Type 0
AreOperations [] = Unit {0}
AreOperations (op ∷ ops) = IsOperation op × AreOperations ops

abbrev pub IsStep : Op → Type 0
IsStep (operation.Step hart) = hart < 8
IsStep (operation.Sweep lo hi) = ⊥

abbrev pub AreSteps : List Op → Type 0
AreSteps [] = Unit {0}
AreSteps (op ∷ ops) = IsStep op × AreSteps ops
