-- The texts of a list's items, one by one, as they are kept and put to a sink.
use Rattle.std.proofs.Common.{◌≡◌, ℕ, ◌+◌, ◌<◌, ◌≤◌, List, [], ◌∷◌, ◌++◌, Option, length, drop, get_or, refl, append_assoc, drop-cons, add-one}
use Rattle.std.proofs.Math.ListN.{drop_of_length-le}
use Rattle.std.proofs.lemmas.List.{append-nil}
use Rattle.report_lines.specs.Texts.{numbered}
use Rattle.sinks.specs.Sinks.{TakesAllBut, TakesPrefix}
use Rattle.sinks.proofs.SinkLemmas.{takes_then, stops_then}

-- the text so far and that of the items from a place on stay the same when the item there is written
pub numbered_step : {X : Type 0} (text : ℕ → X → List ℕ) (items : List X) (place : ℕ) (d item : X) (before after all : List ℕ)
    → place < length items → item ≡ get_or items place d → after ≡ before ++ text place item
    → before ++ numbered text place (drop place items) ≡ all
    → after ++ numbered text (place + 1) (drop (place + 1) items) ≡ all
unfolding numbered
numbered_step text items place d item before after all room here written whole =
    let next : drop place items ≡ get_or items place d ∷ drop (place + 1) items = rw add-one (drop-cons items place d room) in
    rw (written, here, append_assoc) (rw next at whole)

-- where no item is left the text is whole
pub numbered_end : {X : Type 0} (text : ℕ → X → List ℕ) (items : List X) (place : ℕ) (before all : List ℕ)
    → length items ≤ place → before ++ numbered text place (drop place items) ≡ all → before ≡ all
unfolding numbered
numbered_end text items place before all ended whole =
    let none : drop place items ≡ [] = drop_of_length-le items ended in
    rw append-nil at (rw none at whole)

-- an item more was written, and what was kept was put up to what is still kept
pub item_takes : {X : Type 0} (text : ℕ → X → List ℕ) (items : List X) (place : ℕ) (d item : X)
    (before now after : Option (List ℕ)) (kept written still all : List ℕ)
    → place < length items → item ≡ get_or items place d → written ≡ kept ++ text place item
    → TakesAllBut before now (kept ++ numbered text place (drop place items)) all → TakesAllBut now after still written
    → TakesAllBut before after (still ++ numbered text (place + 1) (drop (place + 1) items)) all
item_takes text items place d item before now after kept written still all room here more so_far put =
    takes_then before now after written _ _ still all (numbered_step text items place d item kept written _ room here more refl)
    so_far put

-- the same where the put failed
pub item_stops : {X : Type 0} (text : ℕ → X → List ℕ) (items : List X) (place : ℕ) (d item : X)
    (before now after : Option (List ℕ)) (kept written all : List ℕ)
    → place < length items → item ≡ get_or items place d → written ≡ kept ++ text place item
    → TakesAllBut before now (kept ++ numbered text place (drop place items)) all → TakesPrefix now after written
    → TakesPrefix before after all
item_stops text items place d item before now after kept written all room here more so_far stop =
    stops_then before now after written _ _ all (numbered_step text items place d item kept written _ room here more refl)
    so_far stop

-- no item is left
pub items_end : {X : Type 0} (text : ℕ → X → List ℕ) (items : List X) (place : ℕ) (before now : Option (List ℕ)) (kept all : List ℕ)
    → length items ≤ place → TakesAllBut before now (kept ++ numbered text place (drop place items)) all
    → TakesAllBut before now kept all
items_end text items place before now kept all ended so_far = record {
  taken = so_far.taken;
  grown = so_far.grown;
  parts = rw (numbered_end text items place kept (kept ++ numbered text place (drop place items)) ended refl) so_far.parts;
}
