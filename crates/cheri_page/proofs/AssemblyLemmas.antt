-- What was made of a file of assembly, as what is told of it.
use Rattle.std.proofs.Common.{◌≡◌, ◌∙◌, refl, sym, ap, subst, ℕ, List, [], Option, Result, inl, inr}
use Rattle.std.specs.Prelude.{Some, None, Ok, Err, ◌⊎◌}
use Rattle.canonical.specs.Canon.{canon}
use Rattle.asm_files.specs.Faults.{IsNoMemory}
use Rattle.asm_files.specs.declared.fault.AssemblyFault.{AssemblyFault}
use Rattle.asm_tokens.specs.declared.fault.AsmFault.{AsmFault}
use Rattle.asm_image.specs.Whole.{AssembledParts}
use Rattle.asm_map_reader.specs.Words.{text_of}
use Rattle.cheri_page.specs.declared.answer.Answer.{Answer}
use Rattle.cheri_page.specs.declared.fault.Fault.{Fault}
use Rattle.cheri_page.specs.declared.fault.Fault.TheVariants.{BadName}
use Rattle.cheri_page.specs.Answers.{Told, Answers, IsTold, out_of_memory}
use Rattle.cheri_page.specs.Faults.{assembly_fault, assembly_fault_of_kind}
use Rattle.cheri_page.specs.Assembly.{IsListingTold, IsMapText, IsMapTold, IsMeantMap, IsNamedMap, meaning_of, refused, told_of_assembled}
use Rattle.cheri_page.proofs.RunLemmas.{says_more}

-- what is told of a fault that says nothing of the assembly
nothing_told : (fault : AssemblyFault) (told_fault : Fault) → told_fault ≡ assembly_fault fault → IsNoMemory fault → refused told_fault ≡ out_of_memory
nothing_told fault told_fault is none =
    ap refused (is ∙ ap (λ (f : AsmFault). assembly_fault_of_kind f.kind fault) none)

-- ---- the listing

told_same : (meant other told : Told) → meant ≡ other → IsTold meant told → IsTold other told
told_same meant other told same (inl none) = inl none
told_same meant other told same (inr is) = inr (is ∙ same)

module _ (assembly : List ℕ) (old new : List ℕ) (answer : Answer) where
  pub listing_told : (text : List ℕ) (parts : AssembledParts) → meaning_of assembly ≡ Ok parts → text ≡ canon parts.image
      → Answers (IsTold (record { text = text; fault = None })) old new answer → Answers (IsListingTold assembly) old new answer
  listing_told text parts means is said =
      let same : record { text = text; fault = None } ≡ told_of_assembled (meaning_of assembly) =
      ap (λ (t : List ℕ). record { text = t; fault = None }) is ∙ sym (ap told_of_assembled means) in
      says_more _ _ old new answer (λ told so. told_same _ _ told same so) said

  listing_refused_so : (fault : AssemblyFault) (told_fault : Fault) (told : Told) → told_fault ≡ assembly_fault fault
      → IsNoMemory fault ⊎ (meaning_of assembly ≡ Err fault) → IsTold (refused told_fault) told → IsListingTold assembly told
  listing_refused_so fault told_fault told is means (inl none) = inl none
  listing_refused_so fault told_fault told is (inl none) (inr so) = inl (so ∙ nothing_told fault told_fault is none)
  listing_refused_so fault told_fault told is (inr means) (inr so) =
      inr (so ∙ (ap refused is ∙ sym (ap told_of_assembled means)))

  pub listing_refused : (fault : AssemblyFault) (told_fault : Fault) → told_fault ≡ assembly_fault fault
      → IsNoMemory fault ⊎ (meaning_of assembly ≡ Err fault)
      → Answers (IsTold (record { text = []; fault = Some told_fault })) old new answer → Answers (IsListingTold assembly) old new answer
  listing_refused fault told_fault is means said =
      says_more _ _ old new answer (λ told so. listing_refused_so fault told_fault told is means so) said

-- ---- the map

-- a map that was made, of what a file means
map_so : (meaning : Result AssembledParts AssemblyFault) (name text : List ℕ) (told : Told) → IsMapText meaning name text
    → told ≡ record { text = text; fault = None } → IsMeantMap meaning name told
map_so (Ok parts) name text told is same =
    subst (λ (t : Told). IsMeantMap (Ok parts) name t) (sym same) (refl, is)
map_so (Err fault) name text told is same = absurd is

refusal_so : (meaning : Result AssembledParts AssemblyFault) (name : List ℕ) (fault : AssemblyFault) (told : Told) → meaning ≡ Err fault
    → told ≡ refused (assembly_fault fault) → IsMeantMap meaning name told
refusal_so meaning name fault told means same =
    subst (λ (m : Result AssembledParts AssemblyFault). IsMeantMap m name told) (sym means) same

module _ (assembly bytes : List ℕ) (old new : List ℕ) (answer : Answer) where
  named : (name : List ℕ) (told : Told) → Some name ≡ text_of bytes → IsMeantMap (meaning_of assembly) name told
      → IsNamedMap assembly (text_of bytes) told
  named name told is so = subst (λ (n : Option (List ℕ)). IsNamedMap assembly n told) is so

  map_told_so : (name text : List ℕ) (told : Told) → Some name ≡ text_of bytes → IsMapText (meaning_of assembly) name text
      → IsTold (record { text = text; fault = None }) told → IsMapTold assembly bytes told
  map_told_so name text told is map (inl none) = inl none
  map_told_so name text told is map (inr same) = inr (named name told is (map_so (meaning_of assembly) name text told map same))

  pub map_told : (name text : List ℕ) → Some name ≡ text_of bytes → IsMapText (meaning_of assembly) name text
      → Answers (IsTold (record { text = text; fault = None })) old new answer → Answers (IsMapTold assembly bytes) old new answer
  map_told name text is map said = says_more _ _ old new answer (λ told so. map_told_so name text told is map so) said

  map_refused_so : (name : List ℕ) (fault : AssemblyFault) (told_fault : Fault) (told : Told) → Some name ≡ text_of bytes
      → told_fault ≡ assembly_fault fault → IsNoMemory fault ⊎ (meaning_of assembly ≡ Err fault)
      → IsTold (refused told_fault) told → IsMapTold assembly bytes told
  map_refused_so name fault told_fault told named_so is means (inl none) = inl none
  map_refused_so name fault told_fault told named_so is (inl none) (inr so) = inl (so ∙ nothing_told fault told_fault is none)
  map_refused_so name fault told_fault told named_so is (inr means) (inr so) =
      inr (named name told named_so (refusal_so (meaning_of assembly) name fault told means (so ∙ ap refused is)))

  pub map_refused : (name : List ℕ) (fault : AssemblyFault) (told_fault : Fault) → Some name ≡ text_of bytes
      → told_fault ≡ assembly_fault fault → IsNoMemory fault ⊎ (meaning_of assembly ≡ Err fault)
      → Answers (IsTold (record { text = []; fault = Some told_fault })) old new answer → Answers (IsMapTold assembly bytes) old new answer
  map_refused name fault told_fault named_so is means said =
      says_more _ _ old new answer (λ told so. map_refused_so name fault told_fault told named_so is means so) said

  unnamed_so : (told : Told) → None ≡ text_of bytes → IsTold (refused BadName) told → IsMapTold assembly bytes told
  unnamed_so told is (inl none) = inl none
  unnamed_so told is (inr so) = inr (subst (λ (n : Option (List ℕ)). IsNamedMap assembly n told) is so)

  pub map_unnamed : None ≡ text_of bytes → Answers (IsTold (record { text = []; fault = Some BadName })) old new answer
      → Answers (IsMapTold assembly bytes) old new answer
  map_unnamed is said = says_more _ _ old new answer (λ told so. unnamed_so told is so) said

-- the text of a map, of a file that was assembled
pub map_made : (meaning : Result AssembledParts AssemblyFault) (name text : List ℕ) (parts : AssembledParts) → meaning ≡ Ok parts
    → IsMapText (Ok parts) name text → IsMapText meaning name text
map_made meaning name text parts means is =
    subst (λ (m : Result AssembledParts AssemblyFault). IsMapText m name text) (sym means) is

pub ruleset assembles = (listing_told, listing_refused, map_told, map_refused, map_unnamed, map_made)
