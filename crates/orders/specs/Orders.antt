-- Orders: texts of digits, each of which asks for one step of that hart, and in version 2 of sweeps
-- (this project's own format).
use Rattle.std.specs.Prelude.{◌≡◌, ℕ, ◌+◌, ◌-◌, ◌≤◌, ◌<◌, ◌==◌, nat_eq, nat_lt, nat_le, Bool, ◌&&◌}
use Rattle.std.specs.Prelude.{◌||◌, if◌then◌else◌, List, [], ◌∷◌, ◌++◌, length, drop, Option, Some}
use Rattle.std.specs.Prelude.{None, Result, Ok, Err, IsOk, Vec, codes}
use Rattle.std.specs.List.{starts_with, cons_option}
use Rattle.std.specs.Global.{Global}
use Rattle.cap_model.specs.declared.encoding.TheConstants.{ADDRESS_SPACE}
use Rattle.cheri_model.specs.declared.operation.Op.{Op}
use Rattle.cheri_model.specs.declared.operation.Op.TheVariants as operation
use Rattle.orders.specs.declared.reader.TheConstants.{ORDER_LIMIT}
use Rattle.orders.specs.declared.fault.OrderFault.{OrderFault}
use Rattle.orders.specs.declared.fault.OrderFaultKind.{OrderFaultKind}
use Rattle.orders.specs.declared.fault.OrderFaultKind.TheVariants.{NoMemory}
use Rattle.orders.specs.Sweeps.{sweep_at}
pub use Rattle.orders.specs.Faults.{order_fault_number, order_fault_name, order_fault_text}
pub use Rattle.orders.specs.Faults.{byte_fault, range_fault, size_fault, no_memory, ◌>>=◌}

-- the most operations that an order may ask for
abbrev pub order_limit : ℕ
order_limit = ORDER_LIMIT

-- an order of version 2 begins with `order 2` and a newline, and any other text is an order of
-- version 1
abbrev pub header : List ℕ
header = codes "order 2" ++ 0x0A ∷ []

unfoldable pub is_version_2 : List ℕ → Bool
is_version_2 text = starts_with nat_eq text header

-- where an order's first token is
abbrev pub body_start : List ℕ → ℕ
body_start text = if is_version_2 text then length header else 0

-- the digit of a hart, `0` to `7`, and the bytes between operations: a space and a newline
abbrev pub is_hart_digit : ℕ → Bool
is_hart_digit b = nat_le 0x30 b && nat_le b 0x37

abbrev pub is_blank : ℕ → Bool
is_blank b = (b == 0x20) || (b == 0x0A)

-- the token at a place, where this byte is: the operation that it asks for, if any, and the place
-- after it
unfoldable pub token_at : List ℕ → ℕ → ℕ → Result (Option Op × ℕ) OrderFault
token_at text place b =
    if is_hart_digit b then Ok (Some (operation.Step (b - 0x30)), place + 1)
    else if is_blank b then Ok (None, place + 1)
    else if (b == 0x5B) && is_version_2 text
    then sweep_at text place >>= (λ sweep. Ok (Some sweep.0, sweep.1))
    else Err (byte_fault place)

-- an operation that was read, or the fault in its place, as a token
abbrev pub as_token : Result (Op × ℕ) OrderFault → Result (Option Op × ℕ) OrderFault
as_token read = read >>= (λ operation. Ok (Some operation.0, operation.1))

-- The operations of a text, first one first, from its bytes from a place on. Those before `next`
-- are of a token that was read.
unfoldable pub operations_from : List ℕ → ℕ → ℕ → List ℕ → Result (List Op) OrderFault
operations_from text next place [] = Ok []
operations_from text next place (b ∷ rest) =
    if nat_lt place next then operations_from text next (place + 1) rest
    else do
      token ← token_at text place b
      later ← operations_from text token.1 (place + 1) rest
      Ok (cons_option token.0 later)

-- the operations of the tokens from a place on
abbrev pub from_place : List ℕ → ℕ → Result (List Op) OrderFault
from_place text place = operations_from text place place (drop place text)

-- how many they are
abbrev pub count_from : List ℕ → ℕ → Result ℕ OrderFault
count_from text place = from_place text place >>= (λ operations. Ok (length operations))

-- What is left of a good text from a place on: its operations. Of any other text none are left.
abbrev pub or_none : Result (List Op) OrderFault → List Op
or_none (Ok operations) = operations
or_none (Err fault) = []

abbrev pub left_from : List ℕ → ℕ → List Op
left_from text place = or_none (from_place text place)

-- a text that is good from a place on
pub record IsGoodFrom (text : List ℕ) (place : ℕ) : Type 0 where
  pub inside : place ≤ length text
  pub good : IsOk (from_place text place)

-- an order that is not too long
abbrev pub within_limit : List Op → Result (List Op) OrderFault
within_limit operations =
    if nat_lt order_limit (length operations) then Err size_fault else Ok operations

-- The meaning of a text as an order: its operations, in turn, or the fault.
unfoldable pub order_of : List ℕ → Result (List Op) OrderFault
order_of text = operations_from text (body_start text) 0 text >>= within_limit

-- what an order asks for: a step of one of eight harts, or a sweep of a range of addresses
abbrev pub IsAsked : Op → Type 0
IsAsked (operation.Step hart) = hart < 8
IsAsked (operation.Sweep lo hi) = (lo ≤ hi) × (hi ≤ ADDRESS_SPACE)

-- a fault that was answered for this meaning: out of memory, or the meaning's own fault
abbrev pub GivesFault : OrderFaultKind → OrderFault → Result (List Op) OrderFault → Type 0
GivesFault NoMemory fault meaning = fault ≡ no_memory
GivesFault _ fault meaning = meaning ≡ Err fault

-- an answer gives a meaning: the order that it is, or its fault, or out of memory
abbrev pub Gives : Result (Vec Op Global) OrderFault → Result (List Op) OrderFault → Type 0
Gives (Ok order) meaning = meaning ≡ Ok order.items
Gives (Err fault) meaning = GivesFault fault.kind fault meaning
