-- Faults of files.
use Rattle.std.specs.Prelude.{◌≡◌, ◌⊎◌, ℕ, ◌+◌, ◌%◌, ◌^◌, List, ◌++◌, codes, decimal}
use Rattle.std.specs.Prelude.{Result, Ok, Err}
use Rattle.asm_tokens.specs.declared.fault.AsmFault.{AsmFault}
use Rattle.asm_tokens.specs.declared.fault.AsmFaultKind.{AsmFaultKind}
use Rattle.asm_tokens.specs.Faults.{no_memory, fault_text}
use Rattle.asm_files.specs.declared.fault.AssemblyFault.{AssemblyFault}

-- a fault of the file of a number, from 0 on
abbrev pub in_file : ℕ → AsmFault → AssemblyFault
in_file number fault = record { file = (number + 1) % 2 ^ 32; fault = fault }

-- a fault of a kind that is nowhere in its file
abbrev pub whole_file : ℕ → AsmFaultKind → AssemblyFault
whole_file number kind =
    in_file number (record { kind = kind; place = record { line = 0; column = 0 } })

-- what was read in a file, or its fault there
abbrev pub of_file : {A : Type 0} → ℕ → Result A AsmFault → Result A AssemblyFault
of_file number (Ok a) = Ok a
of_file number (Err fault) = Err (in_file number fault)

-- out of memory
abbrev pub IsNoMemory : AssemblyFault → Type 0
IsNoMemory fault = fault.fault ≡ no_memory

-- An answer by what texts mean: that, seen by `view`, or its fault, or out of memory.
abbrev pub GivesAll : {X Y : Type 0} → (X → Y) → Result X AssemblyFault → Result Y AssemblyFault
    → Type 0
GivesAll view (Ok x) meaning = meaning ≡ Ok (view x)
GivesAll view (Err fault) meaning = IsNoMemory fault ⊎ (meaning ≡ Err fault)

-- a fault as reports print it: file, line and column, and the kind
abbrev pub fault_line : AssemblyFault → List ℕ
fault_line fault =
    decimal fault.file
    ++ (codes ":"
    ++ (decimal fault.fault.place.line
    ++ (codes ":"
    ++ (decimal fault.fault.place.column ++ (codes ": " ++ fault_text fault.fault.kind)))))
