-- Lines of items: those so far, and those that are left.
use Rattle.std.proofs.Common.{◌≡◌, ℕ, ◌+◌, ◌<◌, ◌≤◌, List, [], ◌∷◌, ◌++◌, length, drop, get_or, map, sym, ap, ◌∙◌, drop-cons, add-one, append_assoc}
use Rattle.std.proofs.Math.ListN.{drop_of_length-le}
use Rattle.std.proofs.lemmas.List.{append-nil}
use Rattle.asm_mapping.specs.Lines.{LineParts, each_line}

-- the items that are left begin with this one
pub left_items : {X : Type 0} (items : List X) (place : ℕ) (d item : X) → place < length items → item ≡ get_or items place d
    → drop place items ≡ item ∷ drop (place + 1) items
left_items items place d item inside here = rw (here, add-one) (drop-cons items place d inside)

pub left_seen : {X Y : Type 0} (view : X → Y) (items : List X) (place : ℕ) (d item : X) → place < length items → item ≡ get_or items place d
    → map view (drop place items) ≡ view item ∷ map view (drop (place + 1) items)
left_seen view items place d item inside here = ap (map view) (left_items items place d item inside here)

-- one more item's lines
pub lines_more : {X : Type 0} (line : ℕ → X → List LineParts) (number : ℕ) (left rest : List X) (item : X) (before after whole : List LineParts)
    → left ≡ item ∷ rest → before ++ each_line line number left ≡ whole → after ≡ before ++ line number item
    → after ++ each_line line (number + 1) rest ≡ whole
unfolding each_line
lines_more line number left rest item before after whole is so_far now =
    ap (λ lines. lines ++ each_line line (number + 1) rest) now
    ∙ append_assoc before (line number item) (each_line line (number + 1) rest)
    ∙ ap (λ items. before ++ each_line line number items) (sym is) ∙ so_far

-- no item is left
pub lines_end : {X : Type 0} (line : ℕ → X → List LineParts) (number : ℕ) (left : List X) (before whole : List LineParts)
    → left ≡ [] → before ++ each_line line number left ≡ whole → before ≡ whole
unfolding each_line
lines_end line number left before whole none so_far = sym (append-nil before) ∙ ap (λ items. before ++ each_line line number items) (sym none) ∙ so_far

pub none_left : {X : Type 0} (items : List X) (place : ℕ) → length items ≤ place → drop place items ≡ []
none_left items place ended = drop_of_length-le items ended

pub none_seen : {X Y : Type 0} (view : X → Y) (items : List X) (place : ℕ) → length items ≤ place → map view (drop place items) ≡ []
none_seen view items place ended = ap (map view) (none_left items place ended)
