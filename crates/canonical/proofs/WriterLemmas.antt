-- One line or name more of a canonical listing.
use Rattle.std.proofs.Common.{◌≡◌, ℕ, ◌+◌, ◌<◌, ◌≤◌, ◌==◌, Bool, true, false, cond, List, [], ◌∷◌, ◌++◌, length, drop, map, get_or, refl, ◌∙◌, append_assoc, drop-cons, add-one}
use Rattle.std.specs.Prelude.{bit_and, codes}
use Rattle.std.proofs.Math.ListN.{drop_of_length-le}
use Rattle.std.proofs.lemmas.List.{append-nil}
use Rattle.cap_model.specs.values.CapValue.{CapValue}
use Rattle.canonical.specs.Canon.{each, register_line, register_lines}

-- the text so far and that of the items from a place on stay the same when the item there is written
pub each_step : {X : Type 0} (text : X → List ℕ) (items : List X) (place : ℕ) (d item : X) (before after all : List ℕ)
    → place < length items → item ≡ get_or items place d → after ≡ before ++ text item
    → before ++ each text (drop place items) ≡ all
    → after ++ each text (drop (place + 1) items) ≡ all
unfolding each
each_step text items place d item before after all room here written whole =
    let next : drop place items ≡ get_or items place d ∷ drop (place + 1) items = rw add-one (drop-cons items place d room) in
    rw (written, here, append_assoc) (rw next at whole)

-- where no item is left the text is whole
pub each_end : {X : Type 0} (text : X → List ℕ) (items : List X) (place : ℕ) (before all : List ℕ)
    → length items ≤ place → before ++ each text (drop place items) ≡ all → before ≡ all
unfolding each
each_end text items place before all ended whole =
    let none : drop place items ≡ [] = drop_of_length-le items ended in
    rw append-nil at (rw none at whole)

-- the same of registers
pub register_step : (items : List CapValue) (place : ℕ) (d item : CapValue) (before after all : List ℕ)
    → place < length items → item ≡ get_or items place d → after ≡ before ++ register_line (place + 1) item
    → before ++ register_lines (place + 1) (drop place items) ≡ all
    → after ++ register_lines (place + 1 + 1) (drop (place + 1) items) ≡ all
unfolding register_lines
register_step items place d item before after all room here written whole =
    let next : drop place items ≡ get_or items place d ∷ drop (place + 1) items = rw add-one (drop-cons items place d room) in
    rw (written, here, append_assoc) (rw next at whole)

pub register_end : (items : List CapValue) (place number : ℕ) (before all : List ℕ)
    → length items ≤ place → before ++ register_lines number (drop place items) ≡ all → before ≡ all
unfolding register_lines
register_end items place number before all ended whole =
    let none : drop place items ≡ [] = drop_of_length-le items ended in
    rw append-nil at (rw none at whole)
