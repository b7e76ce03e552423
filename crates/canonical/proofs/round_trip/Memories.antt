-- The lines of the granules read back to the memory that they were listed of.
use Rattle.std.proofs.Common.{◌≡◌, ℕ, suc, ◌+◌, ◌*◌, ◌%◌, ◌^◌, ◌<◌, ◌≤◌, ◌==◌, ◌&&◌, nat_le, Bool, true, false, List, [], ◌∷◌, ◌++◌, length, refl, ap, ◌∙◌, subst, append_assoc, length-append, arith}
use Rattle.std.specs.Prelude.{codes, replicate}
use Rattle.std.specs.List.{AllByRecursion}
use Rattle.std.proofs.lemmas.Bool.Decides.{nat_tests}
use Rattle.std.proofs.lemmas.List.{length-replicate}
use Rattle.cap_model.specs.values.Capability.{Capability, IsLawful}
use Rattle.cap_model.specs.values.CapValue.{CapValue, valid, raw}
use Rattle.cheri_model.specs.steps.Memory.{ram_base, is_in_ram, fits}
use Rattle.grammar.specs.Tokens.{is_blank}
use Rattle.listings.specs.Draft.{DraftParts, no_registers}
use Rattle.listings.specs.Meaning.{listed_from}
use Rattle.canonical.specs.Canon.{each, hex_number, cap_text, memory_text, granule_line}
use Rattle.canonical.specs.Listable.{IsWritable}
use Rattle.canonical.proofs.round_trip.Words.{is_open, is_word_byte, IsWord, both}
use Rattle.canonical.proofs.round_trip.Lines.{IsLine, last_word, then_space}
use Rattle.canonical.proofs.round_trip.Numbers.{hex_word}
use Rattle.canonical.proofs.round_trip.Capabilities.{cap_words, cap_line}
use Rattle.canonical.proofs.round_trip.Bytes.{memory_word}
use Rattle.canonical.proofs.round_trip.Reading.{Reads, reads_none, reads_both, reads_line}
use Rattle.canonical.proofs.round_trip.Granules.{word_stored, capability_stored}
use Rattle.canonical.proofs.round_trip.Statements.{bytes_mean, cap_means}

-- a draft with no harts yet, after a line has settled the size of RAM
abbrev pub sized_draft : List CapValue → DraftParts
sized_draft memory = record { program = []; harts = []; set = no_registers; memory = memory; sized = true }

-- three parts and a newline
pub line_end : (a b c : List ℕ) → (a ++ (b ++ c)) ++ 0x0A ∷ [] ≡ a ++ (b ++ (c ++ 0x0A ∷ []))
line_end a b c = append_assoc a (b ++ c) (0x0A ∷ []) ∙ ap (λ l. a ++ l) (append_assoc b c (0x0A ∷ []))

cap_name : IsWord (codes ".cap")
unfolding is_word_byte is_open is_blank
cap_name = record { filled = refl; bytes = refl }

bytes_name : IsWord (codes ".bytes")
unfolding is_word_byte is_open is_blank
bytes_name = record { filled = refl; bytes = refl }

-- a granule is aligned and in RAM
inside : (n total : ℕ) → n < total → (nat_le ram_base (ram_base + 16 * n) && nat_le (ram_base + 16 * n + 16) (ram_base + 16 * total)) ≡ true
inside n total h = both (nat_le ram_base (ram_base + 16 * n)) (nat_le (ram_base + 16 * n + 16) (ram_base + 16 * total)) (grind (arith, nat_tests)) (grind (arith, nat_tests))

aligned : (n : ℕ) → ((ram_base + 16 * n) % 16 == 0) ≡ true
aligned n = let e : (ram_base + 16 * n) % 16 ≡ 0 = omega arith in rw e refl

module _ (enough : ℕ) (done rest : List CapValue) (room : ram_base + 16 * (length done + suc (length rest)) ≤ 2 ^ 64) where
  abbrev addr : ℕ
  addr = ram_base + 16 * length done

  among : length done < length (done ++ raw 0 ∷ rest)
  among = rw length-append (omega arith)

  in_ram : is_in_ram (done ++ raw 0 ∷ rest) (ram_base + 16 * length done) 16 ≡ true
  in_ram = inside (length done) (length (done ++ raw 0 ∷ rest)) among

  fitting : fits (done ++ raw 0 ∷ rest) (ram_base + 16 * length done) 16 ≡ true
  fitting = both _ _ (aligned (length done)) in_ram

  address_low : ram_base + 16 * length done < 2 ^ 64
  address_low = omega arith

  word_line : (word : ℕ) (low : word < 2 ^ 128) → IsLine (codes ".bytes" ++ 0x20 ∷ (hex_number addr ++ 0x20 ∷ memory_text word)) (codes ".bytes" ∷ hex_number addr ∷ memory_text word ∷ [])
  word_line word low = then_space (codes ".bytes") _ _ bytes_name (then_space (hex_number addr) _ _ (hex_word addr (omega (arith, address_low))) (last_word (memory_text word) (memory_word word low)))

  -- an untagged word
  word_granule : (word : ℕ) → word < 2 ^ 128 → Reads enough (codes ".bytes " ++ (hex_number addr ++ (codes " " ++ (memory_text word ++ codes "\n")))) (sized_draft (done ++ raw 0 ∷ rest)) (sized_draft (done ++ raw word ∷ rest)) 0
  word_granule word low =
      subst (λ text. Reads enough text (sized_draft (done ++ raw 0 ∷ rest)) (sized_draft (done ++ raw word ∷ rest)) 0)
      (line_end (codes ".bytes ") (hex_number addr) (codes " " ++ memory_text word))
      (reads_line enough (codes ".bytes" ++ 0x20 ∷ (hex_number addr ++ 0x20 ∷ memory_text word)) _ _ _ 0 (word_line word low) (omega arith)
      (λ labels h number. bytes_mean labels number (sized_draft (done ++ raw 0 ∷ rest)) addr word low (done ++ raw word ∷ rest) address_low in_ram (word_stored done rest word low)))

  capability_line : (c : Capability) (h : IsLawful c) → IsLine (codes ".cap" ++ 0x20 ∷ (hex_number addr ++ 0x20 ∷ cap_text c)) (codes ".cap" ∷ hex_number addr ∷ cap_words c h)
  capability_line c h = then_space (codes ".cap") _ _ cap_name (then_space (hex_number addr) _ _ (hex_word addr (omega (arith, address_low))) (cap_line c h))

  -- a capability
  capability_granule : (c : Capability) → IsLawful c → c.flag ≡ 0 → Reads enough (codes ".cap " ++ (hex_number addr ++ (codes " " ++ (cap_text c ++ codes "\n")))) (sized_draft (done ++ raw 0 ∷ rest)) (sized_draft (done ++ valid c ∷ rest)) 0
  capability_granule c h plain =
      subst (λ text. Reads enough text (sized_draft (done ++ raw 0 ∷ rest)) (sized_draft (done ++ valid c ∷ rest)) 0)
      (line_end (codes ".cap ") (hex_number addr) (codes " " ++ cap_text c))
      (reads_line enough (codes ".cap" ++ 0x20 ∷ (hex_number addr ++ 0x20 ∷ cap_text c)) _ _ _ 0 (capability_line c h) (omega arith)
      (λ labels k number. cap_means c h plain labels number (sized_draft (done ++ raw 0 ∷ rest)) addr (done ++ valid c ∷ rest) address_low fitting (capability_stored done rest (raw 0) (valid c))))

module _ (enough : ℕ) where
  abbrev Leads : List ℕ → List CapValue → List CapValue → Type 0
  Leads text before after = Reads enough text (sized_draft before) (sized_draft after) 0

  next_word : (test : Bool) (done rest zeros : List CapValue) (word : ℕ) → (word == 0) ≡ test → ram_base + 16 * (length done + suc (length zeros)) ≤ 2 ^ 64 → word < 2 ^ 128
      → Leads (each granule_line (listed_from (ram_base + 16 * length done + 16) rest)) (done ++ raw word ∷ zeros) (done ++ raw word ∷ rest)
      → Leads (each granule_line (listed_from (ram_base + 16 * length done) (raw word ∷ rest))) (done ++ raw 0 ∷ zeros) (done ++ raw word ∷ rest)
  unfolding listed_from each granule_line
  next_word true done rest zeros word t room low later =
      let same : word ≡ 0 = grind (arith, nat_tests) in
      rw t (subst (λ w. Leads (each granule_line (listed_from (ram_base + 16 * length done + 16) rest)) (done ++ raw w ∷ zeros) (done ++ raw word ∷ rest)) same later)
  next_word false done rest zeros word t room low later =
      rw t (reads_both enough _ _ _ _ _ 0 0 (word_granule enough done zeros room word low) later)

  next_capability : (done rest zeros : List CapValue) (c : Capability) → ram_base + 16 * (length done + suc (length zeros)) ≤ 2 ^ 64 → IsLawful c → c.flag ≡ 0
      → Leads (each granule_line (listed_from (ram_base + 16 * length done + 16) rest)) (done ++ valid c ∷ zeros) (done ++ valid c ∷ rest)
      → Leads (each granule_line (listed_from (ram_base + 16 * length done) (valid c ∷ rest))) (done ++ raw 0 ∷ zeros) (done ++ valid c ∷ rest)
  unfolding listed_from each granule_line
  next_capability done rest zeros c room h plain later = reads_both enough _ _ _ _ _ 0 0 (capability_granule enough done zeros room c h plain) later

  next_value : (done rest zeros : List CapValue) (v : CapValue) → IsWritable v → ram_base + 16 * (length done + suc (length zeros)) ≤ 2 ^ 64
      → Leads (each granule_line (listed_from (ram_base + 16 * length done + 16) rest)) (done ++ v ∷ zeros) (done ++ v ∷ rest)
      → Leads (each granule_line (listed_from (ram_base + 16 * length done) (v ∷ rest))) (done ++ raw 0 ∷ zeros) (done ++ v ∷ rest)
  next_value done rest zeros (valid c) w room later = next_capability done rest zeros c room w.0 w.1 later
  next_value done rest zeros (raw word) w room later = next_word _ done rest zeros word refl room w later

  -- all granules from a place on
  pub granules_read : (rest done : List CapValue) → AllByRecursion IsWritable rest → ram_base + 16 * (length done + length rest) ≤ 2 ^ 64
      → Leads (each granule_line (listed_from (ram_base + 16 * length done) rest)) (done ++ replicate (length rest) (raw 0)) (done ++ rest)
  unfolding listed_from each
  granules_read [] done w room = reads_none enough (sized_draft (done ++ []))
  granules_read (v ∷ rest) done w room =
      let zeros = replicate (length rest) (raw 0) in
      let counted : length zeros ≡ length rest = length-replicate (length rest) (raw 0) in
      let longer : length (done ++ v ∷ []) ≡ length done + 1 = length-append done (v ∷ []) in
      let place : ram_base + 16 * length (done ++ v ∷ []) ≡ ram_base + 16 * length done + 16 = omega (arith, longer) in
      let later : Leads (each granule_line (listed_from (ram_base + 16 * length (done ++ v ∷ [])) rest)) ((done ++ v ∷ []) ++ zeros) ((done ++ v ∷ []) ++ rest) = granules_read rest (done ++ v ∷ []) w.1 (omega (arith, longer)) in
      next_value done rest zeros v w.0 (omega (arith, counted)) (rw (place, append_assoc done (v ∷ []) zeros, append_assoc done (v ∷ []) rest) at later)
