-- The kinds of faults of assembly, and what an answer that may be one says.
use Rattle.std.specs.Prelude.{◌≡◌, ℕ, List, ◌++◌, Result, Ok, Err, ◌⊎◌, codes, decimal}
use Rattle.asm_tokens.specs.declared.fault.AsmFaultKind.{AsmFaultKind}
use Rattle.asm_tokens.specs.declared.fault.AsmFaultKind.TheVariants as kinds
use Rattle.asm_tokens.specs.declared.fault.AsmFault.{AsmFault}

abbrev pub fault_number : AsmFaultKind → ℕ
fault_number kinds.Byte = 1
fault_number kinds.Statement = 2
fault_number kinds.Operand = 3
fault_number kinds.Range = 4
fault_number kinds.Register = 5
fault_number kinds.Symbol = 6
fault_number kinds.Twice = 7
fault_number kinds.Expression = 8
fault_number kinds.Profile = 9
fault_number kinds.Section = 10
fault_number kinds.Capability = 11
fault_number kinds.Hart = 12
fault_number kinds.Size = 13
fault_number kinds.NoMemory = 14

abbrev pub fault_name : AsmFaultKind → List ℕ
fault_name kinds.Byte = codes "Byte"
fault_name kinds.Statement = codes "Statement"
fault_name kinds.Operand = codes "Operand"
fault_name kinds.Range = codes "Range"
fault_name kinds.Register = codes "Register"
fault_name kinds.Symbol = codes "Symbol"
fault_name kinds.Twice = codes "Twice"
fault_name kinds.Expression = codes "Expression"
fault_name kinds.Profile = codes "Profile"
fault_name kinds.Section = codes "Section"
fault_name kinds.Capability = codes "Capability"
fault_name kinds.Hart = codes "Hart"
fault_name kinds.Size = codes "Size"
fault_name kinds.NoMemory = codes "NoMemory"

-- the kind as reports of faults print it
abbrev pub fault_text : AsmFaultKind → List ℕ
fault_text kind = decimal (fault_number kind) ++ (codes " " ++ fault_name kind)

-- out of memory, which has no place
abbrev pub no_memory : AsmFault
no_memory = record { kind = kinds.NoMemory; place = record { line = 0; column = 0 } }

-- An answer by what its text means: that, seen by `view`, or its fault, or out of memory.
abbrev pub Gives : {X Y : Type 0} → (X → Y) → Result X AsmFault → Result Y AsmFault → Type 0
Gives view (Ok x) meaning = meaning ≡ Ok (view x)
Gives view (Err fault) meaning = (fault ≡ no_memory) ⊎ (meaning ≡ Err fault)

-- a step that may end at a fault, and what follows it
infixl 10 ◌>>=◌
abbrev pub ◌>>=◌ : {A B E : Type 0} → Result A E → (A → Result B E) → Result B E
(Ok x) >>= f = f x
(Err e) >>= f = Err e
