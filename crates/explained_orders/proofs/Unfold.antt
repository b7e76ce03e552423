-- Names for `unfolding(..)` that open what their own line names.
use Rattle.std.specs.Prelude.{ℕ, List}
use Rattle.cheri_model.specs.declared.operation.Op.{Op}
use Rattle.cheri_model.specs.runs.Image.{ImageParts}
use Rattle.explained_orders.specs.ExplainedOrders.{Sources, explanation_of, order_head}

unfoldable pub explained : List ℕ → Sources → ImageParts → List Op → List ℕ
unfolding explanation_of order_head
explained listing sources image order = explanation_of listing sources image order
