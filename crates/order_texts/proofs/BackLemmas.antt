-- An order's text is that of its operations, one by one, and is read as them.
use Rattle.std.proofs.Common.{◌≡◌, ℕ, ◌+◌, ◌<◌, ◌≤◌, List, [], ◌∷◌, ◌++◌, length, drop, get_or, append_assoc, append-nil, drop-cons, add-one}
use Rattle.std.proofs.Math.ListN.{drop_of_length-le}
use Rattle.cheri_model.specs.declared.operation.Op.{Op}
use Rattle.order_texts.specs.OrderTexts.{operation_text, operations_text}

-- one operation more is written
pub operation_written : (order : List Op) (place : ℕ) (d op : Op) (before after all : List ℕ)
    → place < length order → op ≡ get_or order place d → after ≡ before ++ operation_text op
    → before ++ operations_text (drop place order) ≡ all
    → after ++ operations_text (drop (place + 1) order) ≡ all
unfolding operations_text
operation_written order place d op before after all room here written whole =
    let next : drop place order ≡ get_or order place d ∷ drop (place + 1) order = rw add-one (drop-cons order place d room) in
    rw (written, here, append_assoc) (rw next at whole)

pub operations_end : (order : List Op) (place : ℕ) (before all : List ℕ) → length order ≤ place
    → before ++ operations_text (drop place order) ≡ all → before ≡ all
unfolding operations_text
operations_end order place before all ended whole =
    let none : drop place order ≡ [] = drop_of_length-le order ended in
    rw append-nil at (rw none at whole)
