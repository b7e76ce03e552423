-- What is said of runs that go on for ever.
use Rattle.std.specs.Prelude.{ℕ, List, codes}
use Rattle.serde_json.specs.Data.{Data, string, object, no_members, member}
use Rattle.order_texts.specs.OrderTexts.{order_text}
use Rattle.report_lines.specs.Texts.{◌+++◌, line}
use Rattle.state_loops.specs.declared.endless.Lasso.{Lasso}
use Rattle.state_loops.specs.declared.endless.Endless.{Endless}
use Rattle.state_loops.specs.declared.endless.Endless.TheVariants.{Yes, Unknown, Unfair, No}

-- with the order that leads to a state, and the loop of this state
abbrev pub lasso_line : List ℕ → Lasso → List ℕ
lasso_line word lasso =
    line (codes "endless " +++ word +++ codes " order=" +++ order_text lasso.order.items
    +++ codes " loop=" +++ order_text lasso.cycle.items)

abbrev pub endless_line : Endless → List ℕ
endless_line (Yes lasso) = lasso_line (codes "yes") lasso
endless_line Unknown = line (codes "endless unknown")
endless_line (Unfair lasso) = lasso_line (codes "unfair") lasso
endless_line No = line (codes "endless no")

abbrev pub lasso_data : List ℕ → Lasso → Data
lasso_data word lasso = object
    (member (codes "answer") (string word)
    (member (codes "loop") (string (order_text lasso.cycle.items))
    (member (codes "order") (string (order_text lasso.order.items)) no_members)))

abbrev pub word_data : List ℕ → Data
word_data word = object (member (codes "answer") (string word) no_members)

abbrev pub endless_data : Endless → Data
endless_data (Yes lasso) = lasso_data (codes "yes") lasso
endless_data Unknown = word_data (codes "unknown")
endless_data (Unfair lasso) = lasso_data (codes "unfair") lasso
endless_data No = word_data (codes "no")
