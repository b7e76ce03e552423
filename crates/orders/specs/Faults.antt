-- What is wrong with an order, and how reports of faults print it (this project's own format).
use Rattle.std.specs.Prelude.{ℕ, List, Result, Ok, Err, codes, decimal, ◌++◌}
use Rattle.orders.specs.declared.fault.OrderFault.{OrderFault}
use Rattle.orders.specs.declared.fault.OrderFaultKind.{OrderFaultKind}
use Rattle.orders.specs.declared.fault.OrderFaultKind.TheVariants.{Byte, Size, NoMemory, Range}

-- the number and the name of a kind of fault, and both as reports of faults print them
abbrev pub order_fault_number : OrderFaultKind → ℕ
order_fault_number Byte = 1
order_fault_number Size = 2
order_fault_number NoMemory = 3
order_fault_number Range = 4

abbrev pub order_fault_name : OrderFaultKind → List ℕ
order_fault_name Byte = codes "Byte"
order_fault_name Size = codes "Size"
order_fault_name NoMemory = codes "NoMemory"
order_fault_name Range = codes "Range"

abbrev pub order_fault_text : OrderFaultKind → List ℕ
order_fault_text kind = decimal (order_fault_number kind) ++ (codes " " ++ order_fault_name kind)

-- a byte that no order can have after the bytes before it, a sweep's range that is none (at its
-- `[`), and too many operations, which is no single byte's fault
abbrev pub byte_fault : ℕ → OrderFault
byte_fault place = record { offset = place; kind = Byte }

abbrev pub range_fault : ℕ → OrderFault
range_fault place = record { offset = place; kind = Range }

abbrev pub size_fault : OrderFault
size_fault = record { offset = 0; kind = Size }

-- out of memory, which has no offset
abbrev pub no_memory : OrderFault
no_memory = record { offset = 0; kind = NoMemory }

infixl 10 ◌>>=◌
abbrev pub ◌>>=◌ : {A B E : Type 0} → Result A E → (A → Result B E) → Result B E
(Ok x) >>= f = f x
(Err e) >>= f = Err e
