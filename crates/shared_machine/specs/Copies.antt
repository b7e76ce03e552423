-- What watchers are shown of a machine, and what was seen of its order of operations.
use Rattle.std.specs.Prelude.{◌≡◌}
use Rattle.cheri_model.specs.runs.Image.{ImageParts}
use Rattle.cheri_model.specs.runs.Replay.{operations_of}
use Rattle.seen_order.specs.Orders.{OrderName, order}
use Rattle.cores.specs.Cores.{applied}
use Rattle.shared_machine.specs.declared.watching.shown.Shown.{Shown}
use Rattle.shared_machine.specs.declared.watching.shown.Ticket.{Ticket}
use Rattle.shared_machine.specs.declared.watching.shown.Ticket.TheVariants.{Take, Tell}

-- a copy after a ticket: an operation is applied; or it is told what was seen of the order
unfoldable pub shown_after : Shown → Ticket → Shown
shown_after shown (Take op) = record { core = applied shown.core op; token = shown.token }
shown_after shown (Tell token) = record { core = shown.core; token = token }

-- What watchers are shown is a core of this image, and the order that was seen is that of its
-- trace.
pub record IsShown (image : ImageParts) (name : OrderName) (shown : Shown) : Type 0 where
  pub image_is : shown.core.image ≡ image
  pub book_is : shown.token.seen.book ≡ name.book
  pub order_is : order name.first shown.token.seen.log ≡ operations_of shown.core.trace
