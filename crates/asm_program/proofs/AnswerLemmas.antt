-- What was made of files, as an answer.
use Rattle.std.proofs.Common.{◌≡◌, ℕ, Bool, true, false, List, map, Ok, Err, Result, refl, sym, ap, subst, inl, inr}
use Rattle.std.specs.Prelude.{◌⊎◌, Option}
use Rattle.canonical.specs.Canon.{canon}
use Rattle.std.specs.Io.KnownBytes.{Appends}
use Rattle.sinks.specs.Sinks.{TakesPrefix}
use Rattle.asm_files.specs.Faults.{IsNoMemory}
use Rattle.asm_files.specs.declared.fault.AssemblyFault.{AssemblyFault}
use Rattle.asm_image.specs.Whole.{AssembledParts, assembly_meaning, map_of}
use Rattle.asm_line.specs.Requests.{AsmAsked}
use Rattle.asm_maps.specs.Maps.{map_text}
use Rattle.asm_maps.specs.declared.line.MapLine.{MapLine}
use Rattle.asm_mapping.specs.Lines.{line_parts}
use Rattle.asm_tokens.specs.declared.fault.AsmFault.{AsmFault}
use Rattle.asm_tokens.specs.declared.fault.AsmFaultKind.{AsmFaultKind}
use Rattle.asm_tokens.specs.declared.fault.AsmFaultKind.TheVariants as kinds
use Rattle.printing.specs.Endings.{FailsBy, HasWhole}
use Rattle.program_io.specs.Faults.{no_memory}
use Rattle.program_io.specs.declared.fault.Fault.TheVariants.{CannotWrite, Own}
use Rattle.asm_program.specs.declared.faults.OwnFault.TheVariants.{Assembly}
use Rattle.asm_program.specs.Faults.{Answer, Fault, assembly_fault, failure_of, fault_of_kind}
use Rattle.asm_program.specs.Program.{IsAssembled, IsPrinted, IsRefused, IsText, harts_by}

module _ (asked : AsmAsked) (texts : List (List ℕ)) where
  -- the text of what the files mean
  text_is : (parts : AssembledParts) (is_map : Bool) (text : List ℕ) → assembly_meaning texts (harts_by asked.harts asked.count) ≡ Ok parts
      → asked.map ≡ is_map → IsText is_map asked.files parts text → IsAssembled asked texts (Ok (text, tt))
  text_is parts is_map text means is so =
      subst (λ (r : Result AssembledParts AssemblyFault). IsPrinted asked r (Ok (text, tt))) (sym means)
      (subst (λ (m : Bool). IsText m asked.files parts text) (sym is) so)

  pub listed : (parts : AssembledParts) (text : List ℕ) → assembly_meaning texts (harts_by asked.harts asked.count) ≡ Ok parts
      → asked.map ≡ false → text ≡ canon parts.image → IsAssembled asked texts (Ok (text, tt))
  listed parts text means is same = text_is parts false text means is same

  pub mapped : (parts : AssembledParts) (text : List ℕ) (lines : List MapLine)
      → assembly_meaning texts (harts_by asked.harts asked.count) ≡ Ok parts → asked.map ≡ true
      → map line_parts lines ≡ map_of parts asked.files → text ≡ map_text lines → IsAssembled asked texts (Ok (text, tt))
  mapped parts text lines means is are same = text_is parts true text means is (lines, are, same)

  -- why they are refused
  pub refused : (fault : AssemblyFault)
      → IsNoMemory fault ⊎ (assembly_meaning texts (harts_by asked.harts asked.count) ≡ Err fault) → IsRefused asked texts fault
  refused fault (inl none) = inl none
  refused fault (inr means) =
      inr (subst (λ (r : Result AssembledParts AssemblyFault). IsPrinted asked r (Err (assembly_fault fault))) (sym means) refl)

-- a fault is out of memory, or the program's own
by_kind : (kind : AsmFaultKind) (fault : AssemblyFault) → (kind ≡ kinds.NoMemory) ⊎ (fault_of_kind kind fault ≡ Own (Assembly fault))
by_kind kinds.NoMemory fault = inl refl
by_kind kinds.Byte fault = inr refl
by_kind kinds.Statement fault = inr refl
by_kind kinds.Operand fault = inr refl
by_kind kinds.Range fault = inr refl
by_kind kinds.Register fault = inr refl
by_kind kinds.Symbol fault = inr refl
by_kind kinds.Twice fault = inr refl
by_kind kinds.Expression fault = inr refl
by_kind kinds.Profile fault = inr refl
by_kind kinds.Section fault = inr refl
by_kind kinds.Capability fault = inr refl
by_kind kinds.Hart fault = inr refl
by_kind kinds.Size fault = inr refl

-- a fault leaves nothing printed
module _ (IsAnswer : Answer → Type 0) (old new : Option (List ℕ)) (same : new ≡ old) where
  memory_fails : (fault : Fault) → fault ≡ no_memory → FailsBy (failure_of fault) IsAnswer fault old new
  memory_fails fault is = subst (λ (f : Fault). FailsBy (failure_of f) IsAnswer f old new) (sym is) (inl same)

  own_fails : (refused : AssemblyFault) (fault : Fault) → fault ≡ Own (Assembly refused) → IsAnswer (Err fault)
      → FailsBy (failure_of fault) IsAnswer fault old new
  own_fails refused fault is answer =
      subst (λ (f : Fault). IsAnswer (Err f) → FailsBy (failure_of f) IsAnswer f old new) (sym is) (λ a. (a, same)) answer

  no_memory_is : (fault : AssemblyFault) → fault.fault.kind ≡ kinds.NoMemory → assembly_fault fault ≡ no_memory
  no_memory_is fault is = ap (λ (kind : AsmFaultKind). fault_of_kind kind fault) is

  pub refused_fails : (fault : AssemblyFault) → IsNoMemory fault ⊎ IsAnswer (Err (assembly_fault fault))
      → FailsBy (failure_of (assembly_fault fault)) IsAnswer (assembly_fault fault) old new
  refused_fails fault (inl none) = memory_fails (assembly_fault fault) (no_memory_is fault (ap (λ (f : AsmFault). f.kind) none))
  refused_fails fault (inr answer) = told_by fault answer (by_kind fault.fault.kind fault)
    where
      told_by : (fault : AssemblyFault) → IsAnswer (Err (assembly_fault fault))
          → (fault.fault.kind ≡ kinds.NoMemory) ⊎ (assembly_fault fault ≡ Own (Assembly fault))
          → FailsBy (failure_of (assembly_fault fault)) IsAnswer (assembly_fault fault) old new
      told_by fault answer (inl none) = memory_fails (assembly_fault fault) (no_memory_is fault none)
      told_by fault answer (inr is) = own_fails fault (assembly_fault fault) is answer

-- the text that was asked for, put to a sink
module _ (asked : AsmAsked) (texts : List (List ℕ)) (text : List ℕ) (is : IsAssembled asked texts (Ok (text, tt)))
    (old new : Option (List ℕ)) where
  pub put_whole_is : Appends old new text → HasWhole (IsAssembled asked texts) tt old new
  put_whole_is grown = (text, is, grown)

  pub put_in_part : TakesPrefix old new text → FailsBy (failure_of CannotWrite) (IsAssembled asked texts) CannotWrite old new
  put_in_part begun = (text, tt, is, begun)

pub ruleset answers = (listed, mapped, refused, refused_fails, put_whole_is, put_in_part)
