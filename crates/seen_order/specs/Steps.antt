-- The rule of a book, and what its steps tell.
use Rattle.std.specs.Prelude.{◌≡◌, ℕ, ◌<◌, true, List, [], ◌∷◌, ◌++◌, length}
use Rattle.logbook.specs.Pages.{Cell, cell, Step, View, Book, Named, Nib, may_make}
use Rattle.seen_order.specs.declared.links.Link.{Link}
use Rattle.seen_order.specs.Orders.{order, open_end}

-- a pen that wrote its link is spent: it may write no other
abbrev pub IsSpent : List Cell → ℕ → Type 0
IsSpent cells pen = (cell cells pen).1 ≡ true

-- the pen of each link is spent
abbrev pub AreSpent : List Cell → List Link → Type 0
AreSpent cells [] = Unit {0}
AreSpent cells (link ∷ links) = IsSpent cells link.pen × AreSpent cells links

pub record IsKept (cells : List Cell) (links : List Link) : Type 0 where
  pub there : 0 < length cells
  pub head : IsSpent cells 0
  pub spent : AreSpent cells links

abbrev pub head_of : Book → Named
head_of book = record { tracked = true; key = 0; book = book }

-- what whoever takes a step has before it, or after it: the links that were seen, and a pen
abbrev pub links_seen : View Link ℕ → List Link
links_seen view = view.0

abbrev pub pen_held : View Link ℕ → Nib
pen_held view = view.1.0

-- A step makes a pen. No chain that was seen has a link of it: the chain that it begins is empty.
abbrev pub MakesPen : Step Link → View Link ℕ → ℕ → View Link ℕ → Type 0
MakesPen step before found after =
    ((pen_held after).right ≡ may_make)
    × (order (pen_held after).key (links_seen after) ≡ [])
    × (open_end (pen_held after).key (links_seen after) ≡ (pen_held after).key)

-- Who holds the pen at the end of a chain adds one operation to it, and then the next pen is the
-- one at its end.
abbrev pub AddsLink : Step Link → View Link ℕ → ℕ → View Link ℕ → Type 0
AddsLink step before found after =
    (first : ℕ) → open_end first (links_seen before) ≡ step.ask.pen
    → (order first (links_seen after)
    ≡ order first (links_seen before) ++ step.ask.operation ∷ [])
    × (open_end first (links_seen after) ≡ step.ask.next)
