-- Lists that are written item by item.
use Rattle.std.proofs.Common.{◌≡◌, ℕ, ◌+◌, ◌<◌, ◌≤◌, List, [], ◌∷◌, ◌++◌, length, drop, map, get_or, append_assoc, drop-cons, add-one}
use Rattle.std.proofs.Math.ListN.{drop_of_length-le}
use Rattle.std.proofs.lemmas.List.{append-nil}
use Rattle.report_lines.specs.Texts.{numbered}

-- of a list in memory, each item of which stands for another
pub mapped_step : {X Y : Type 0} (f : X → Y) (text : ℕ → Y → List ℕ) (items : List X) (place : ℕ) (d item : X)
    (before after all : List ℕ) → place < length items → item ≡ get_or items place d → after ≡ before ++ text place (f item)
    → before ++ numbered text place (map f (drop place items)) ≡ all
    → after ++ numbered text (place + 1) (map f (drop (place + 1) items)) ≡ all
unfolding numbered
mapped_step f text items place d item before after all room here written whole =
    let next : drop place items ≡ get_or items place d ∷ drop (place + 1) items = rw add-one (drop-cons items place d room) in
    rw (written, here, append_assoc) (rw next at whole)

pub mapped_end : {X Y : Type 0} (f : X → Y) (text : ℕ → Y → List ℕ) (items : List X) (place : ℕ) (before all : List ℕ)
    → length items ≤ place → before ++ numbered text place (map f (drop place items)) ≡ all → before ≡ all
unfolding numbered
mapped_end f text items place before all ended whole =
    let none : drop place items ≡ [] = drop_of_length-le items ended in
    rw append-nil at (rw none at whole)
