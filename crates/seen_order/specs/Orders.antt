-- Which order a book keeps: a chain of links, each written by a pen that the link before it names.
use Rattle.std.specs.Prelude.{ℕ, ◌==◌, List, [], ◌∷◌, Bool, true, false}
use Rattle.logbook.specs.Pages.{Book}
use Rattle.seen_order.specs.declared.links.Link.{Link}
use Rattle.cheri_model.specs.declared.operation.Op.{Op}

-- which order it is: its book, and the key of the pen that writes its first link
pub record OrderName : Type 0 where
  pub book : Book
  pub first : ℕ

abbrev pub order_name : Book → ℕ → OrderName
order_name book first = record { book = book; first = first }

abbrev pub either_order : Bool → List Op → List Op → List Op
either_order true its other = its
either_order false its other = other

abbrev pub either_key : Bool → ℕ → ℕ → ℕ
either_key true its other = its
either_key false its other = other

-- the operations of the chain that the pen with this key begins
unfoldable pub order : ℕ → List Link → List Op
order key [] = []
order key (link ∷ links) =
    either_order (link.pen == key) (link.operation ∷ order link.next links) (order key links)

-- the key of the pen that may write the next link of that chain
unfoldable pub open_end : ℕ → List Link → ℕ
open_end key [] = key
open_end key (link ∷ links) =
    either_key (link.pen == key) (open_end link.next links) (open_end key links)
