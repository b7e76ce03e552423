-- The kinds of faults of a listing's lines, and steps that may end at one.
use Rattle.std.specs.Prelude.{ℕ, List, ◌++◌, Result, Ok, Err, codes, decimal}
use Rattle.grammar.specs.declared.fault.ListingFaultKind.{ListingFaultKind}
use Rattle.grammar.specs.declared.fault.ListingFaultKind.TheVariants.{NotAscii, Word, Operand}
use Rattle.grammar.specs.declared.fault.ListingFaultKind.TheVariants.{Range, Label, Twice}
use Rattle.grammar.specs.declared.fault.ListingFaultKind.TheVariants.{Capability, NoHart, Size}
use Rattle.grammar.specs.declared.fault.ListingFaultKind.TheVariants.{NoMemory}

-- the number and the name of a kind of fault, and both as reports of faults print them
abbrev pub listing_fault_number : ListingFaultKind → ℕ
listing_fault_number NotAscii = 1
listing_fault_number Word = 2
listing_fault_number Operand = 3
listing_fault_number Range = 4
listing_fault_number Label = 5
listing_fault_number Twice = 6
listing_fault_number Capability = 7
listing_fault_number NoHart = 8
listing_fault_number Size = 9
listing_fault_number NoMemory = 10

abbrev pub listing_fault_name : ListingFaultKind → List ℕ
listing_fault_name NotAscii = codes "NotAscii"
listing_fault_name Word = codes "Word"
listing_fault_name Operand = codes "Operand"
listing_fault_name Range = codes "Range"
listing_fault_name Label = codes "Label"
listing_fault_name Twice = codes "Twice"
listing_fault_name Capability = codes "Capability"
listing_fault_name NoHart = codes "NoHart"
listing_fault_name Size = codes "Size"
listing_fault_name NoMemory = codes "NoMemory"

abbrev pub listing_fault_text : ListingFaultKind → List ℕ
listing_fault_text kind =
    decimal (listing_fault_number kind) ++ (codes " " ++ listing_fault_name kind)

-- a step that may end at a fault, and what follows it
infixl 10 ◌>>=◌
abbrev pub ◌>>=◌ : {A B E : Type 0} → Result A E → (A → Result B E) → Result B E
(Ok x) >>= f = f x
(Err e) >>= f = Err e
