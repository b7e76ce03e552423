-- The lines of the harts and of the instructions read back.
use Rattle.std.proofs.Common.{◌≡◌, ℕ, ◌+◌, ◌^◌, ◌<◌, ◌≤◌, nat_lt, Bool, true, false, List, [], ◌∷◌, ◌++◌, length, Ok, refl, sym, ap, ◌∙◌, subst, zero-add, append_assoc, length-append, arith}
use Rattle.std.specs.Prelude.{codes, replicate}
use Rattle.std.specs.List.{AllByRecursion}
use Rattle.std.proofs.Math.Numerals.{one-add}
use Rattle.std.proofs.lemmas.Bool.Decides.{nat_tests}
use Rattle.std.proofs.lemmas.List.{get_or-replicate, get_or_past, append-nil}
use Rattle.std.proofs.lemmas.Bool.{cases_lt}
use Rattle.std.proofs.Common.{inl, inr}
use Rattle.cheri_model.specs.declared.instr.Instr.{Instr}
use Rattle.cheri_model.specs.declared.image.HartImage.{HartImage}
use Rattle.cheri_model.specs.instructions.Form.{form_of, instr_of}
use Rattle.cheri_model.proofs.Runs.Instructions.{instr_of-form_of}
use Rattle.cap_model.specs.values.Capability as capability
use Rattle.cap_model.specs.values.Capability.{IsLawful, unsealed_type}
use Rattle.cap_model.specs.values.CapValue.{CapValue, valid, raw}
use Rattle.cheri_model.specs.declared.names.Mnemonic.{Mnemonic}
use Rattle.grammar.specs.Tokens.{is_blank, token_at}
use Rattle.cheri_model.specs.instructions.Names.{is_instruction}
use Rattle.grammar.specs.Labels.{count_of}
use Rattle.listings.specs.Draft.{DraftParts, no_registers, hart_from}
use Rattle.notation.specs.Instructions.{form_text}
use Rattle.canonical.specs.Canon.{each, cap_text, register_lines, hart_lines, program_line}
use Rattle.canonical.specs.Listable.{IsWritable, IsWritablePcc, IsWritableHart, IsReadable}
use Rattle.canonical.proofs.round_trip.Words.{is_open, is_word_byte, IsWord}
use Rattle.canonical.proofs.round_trip.Lines.{then_space}
use Rattle.canonical.proofs.round_trip.Names.{IsName}
use Rattle.canonical.proofs.round_trip.Forms.{form_reads}
use Rattle.canonical.proofs.round_trip.Capabilities.{cap_words, cap_line}
use Rattle.canonical.proofs.round_trip.Reading.{Reads, reads_none, reads_both, reads_line}
use Rattle.canonical.proofs.round_trip.Statements.{hart_means, instruction_means}
use Rattle.canonical.proofs.round_trip.Registers.{hart_draft, IsFresh, registers_read}

hart_name : IsWord (codes ".hart")
unfolding is_word_byte is_open is_blank
hart_name = record { filled = refl; bytes = refl }

-- after `.hart` no register is set
none_set : IsFresh no_registers 1
none_set k h =
    elim (cases_lt k 32) [ inl low ↦ get_or-replicate 32 k false false low | inr past ↦ get_or_past (replicate 32 false) k false past ]

room_test : (n : ℕ) → n < 8 → nat_lt n 8 ≡ true
room_test n h = grind (arith, nat_tests)

module _ (enough : ℕ) (memory : List CapValue) where
  abbrev Leads : List ℕ → List HartImage → List HartImage → List Bool → Type 0
  Leads text before after set = (later : List Bool) × Reads enough text (hart_draft memory before set) (hart_draft memory after later) 0

  pcc_line : (before : List HartImage) (set : List Bool) (c : capability.Capability) (h : IsLawful c) → c.flag ≡ 0 → c.otype ≡ unsealed_type → length before < 8
      → Reads enough ((codes ".hart " ++ cap_text c) ++ 0x0A ∷ []) (hart_draft memory before set) (hart_draft memory (before ++ hart_from (valid c) ∷ []) no_registers) 0
  pcc_line before set c h plain unsealed room =
      reads_line enough (codes ".hart" ++ 0x20 ∷ cap_text c) (codes ".hart" ∷ cap_words c h) (hart_draft memory before set) (hart_draft memory (before ++ hart_from (valid c) ∷ []) no_registers) 0
      (then_space (codes ".hart") _ _ hart_name (cap_line c h)) (omega arith)
      (λ labels k number. hart_means c h plain labels number (hart_draft memory before set) unsealed (room_test (length before) room))

  -- a hart whose PCC is this capability
  capability_hart : (before : List HartImage) (set : List Bool) (c : capability.Capability) (regs : List CapValue) (h : IsLawful c) → c.flag ≡ 0 → c.otype ≡ unsealed_type → length before < 8
      → length regs ≡ 31 → AllByRecursion IsWritable regs
      → Leads (codes ".hart " ++ (cap_text c ++ (codes "\n" ++ register_lines 1 regs))) before (before ++ record { pcc = valid c; regs = regs } ∷ []) set
  capability_hart before set c regs h plain unsealed room count values =
      let fields = registers_read enough memory before (valid c) regs [] no_registers values (rw zero-add count) none_set in
      let null_regs : replicate (length regs) (raw 0) ≡ replicate 31 (raw 0) = ap (λ n. replicate n (raw 0)) count in
      let lines : Reads enough (register_lines 1 regs) (hart_draft memory (before ++ record { pcc = valid c; regs = replicate 31 (raw 0) } ∷ []) no_registers) (hart_draft memory (before ++ record { pcc = valid c; regs = regs } ∷ []) fields.0) 0
      = subst (λ nulls. Reads enough (register_lines 1 regs) (hart_draft memory (before ++ record { pcc = valid c; regs = nulls } ∷ []) no_registers) (hart_draft memory (before ++ record { pcc = valid c; regs = regs } ∷ []) fields.0) 0) null_regs fields.1 in
      let whole : Reads enough (((codes ".hart " ++ cap_text c) ++ 0x0A ∷ []) ++ register_lines 1 regs) (hart_draft memory before set) (hart_draft memory (before ++ record { pcc = valid c; regs = regs } ∷ []) fields.0) 0
      = reads_both enough ((codes ".hart " ++ cap_text c) ++ 0x0A ∷ []) (register_lines 1 regs) _ _ _ 0 0 (pcc_line before set c h plain unsealed room) lines in (
        fields.0,
        subst (λ text. Reads enough text (hart_draft memory before set) (hart_draft memory (before ++ record { pcc = valid c; regs = regs } ∷ []) fields.0) 0)
            (append_assoc (codes ".hart " ++ cap_text c) (0x0A ∷ []) (register_lines 1 regs)) whole,
      )

  one_hart : (before : List HartImage) (set : List Bool) (pcc : CapValue) (regs : List CapValue) → IsWritablePcc pcc → length before < 8 → length regs ≡ 31 → AllByRecursion IsWritable regs
      → Leads (hart_lines (record { pcc = pcc; regs = regs })) before (before ++ record { pcc = pcc; regs = regs } ∷ []) set
  unfolding hart_lines
  one_hart before set (valid c) regs w room count values = capability_hart before set c regs w.0 w.1 w.2 room count values
  one_hart before set (raw word) regs w room count values = absurd w

  -- all harts from one on
  pub harts_read : (rest before : List HartImage) (set : List Bool) → AllByRecursion IsWritableHart rest → length before + length rest ≤ 8 → Leads (each hart_lines rest) before (before ++ rest) set
  unfolding each
  harts_read [] before set w room = (set, subst (λ harts. Reads enough [] (hart_draft memory before set) (hart_draft memory harts set) 0) (sym (append-nil before)) (reads_none enough (hart_draft memory before set)))
  harts_read (hart ∷ rest) before set w room =
      let longer : length (before ++ hart ∷ []) ≡ length before + 1 = length-append before (hart ∷ []) in
      let first = one_hart before set hart.pcc hart.regs w.0.program_counter (omega arith) w.0.count w.0.values in
      let later = harts_read rest (before ++ hart ∷ []) first.0 w.1 (omega (arith, longer)) in
      let later_harts : Reads enough (each hart_lines rest) (hart_draft memory (before ++ hart ∷ []) first.0) (hart_draft memory (before ++ hart ∷ rest) later.0) 0
      = subst (λ harts. Reads enough (each hart_lines rest) (hart_draft memory (before ++ hart ∷ []) first.0) (hart_draft memory harts later.0) 0) (append_assoc before (hart ∷ []) rest) later.1 in
      (later.0, reads_both enough (hart_lines hart) (each hart_lines rest) _ _ _ 0 0 first.1 later_harts)

-- a draft with instructions
abbrev pub program_draft : List CapValue → List HartImage → List Bool → List Instr → DraftParts
program_draft memory harts set program = record { program = program; harts = harts; set = set; memory = memory; sized = true }

program_room : (n : ℕ) → n < 16384 → nat_lt n 16384 ≡ true
program_room n h = grind (arith, nat_tests)

module _ (enough : ℕ) (small : enough < 2 ^ 128) (memory : List CapValue) (harts : List HartImage) (set : List Bool) where
  counted_line : (name : List ℕ) (mnemonic : Mnemonic) (operands : List (List ℕ)) → IsName name mnemonic → 1 ≤ count_of (token_at (name ∷ operands) 0)
  unfolding count_of token_at is_instruction
  counted_line name mnemonic operands named = rw named.found (omega arith)

  one_instruction : (before : List Instr) (instr : Instr) → IsReadable enough (form_of instr) → length before < 16384
      → Reads enough (form_text (form_of instr) ++ 0x0A ∷ []) (program_draft memory harts set before) (program_draft memory harts set (before ++ instr ∷ [])) 1
  one_instruction before instr readable room =
      let back = form_reads enough (form_of instr) small readable in
      let same : instr_of (form_of instr) ≡ instr = instr_of-form_of instr in
      reads_line enough (form_text (form_of instr)) (back.name ∷ back.operands) (program_draft memory harts set before) (program_draft memory harts set (before ++ instr ∷ [])) 1 back.line
      (counted_line back.name back.mnemonic back.operands back.named)
      (λ labels h number.
      instruction_means labels number (program_draft memory harts set before) back.name back.mnemonic back.operands (form_of instr) back.named (back.read labels h) (program_room (length before) room)
      ∙ ap (λ i. Ok (program_draft memory harts set (before ++ i ∷ []))) same)

  -- all instructions from one on
  pub program_read : (rest before : List Instr) → AllByRecursion (λ i. IsReadable enough (form_of i)) rest → length before + length rest ≤ 16384
      → Reads enough (each program_line rest) (program_draft memory harts set before) (program_draft memory harts set (before ++ rest)) (length rest)
  unfolding each program_line
  program_read [] before w room = subst (λ program. Reads enough [] (program_draft memory harts set before) (program_draft memory harts set program) 0) (sym (append-nil before)) (reads_none enough (program_draft memory harts set before))
  program_read (instr ∷ rest) before w room =
      let longer : length (before ++ instr ∷ []) ≡ length before + 1 = length-append before (instr ∷ []) in
      let first = one_instruction before instr w.0 (omega arith) in
      let later : Reads enough (each program_line rest) (program_draft memory harts set (before ++ instr ∷ [])) (program_draft memory harts set (before ++ instr ∷ rest)) (length rest)
      = subst (λ program. Reads enough (each program_line rest) (program_draft memory harts set (before ++ instr ∷ [])) (program_draft memory harts set program) (length rest)) (append_assoc before (instr ∷ []) rest) (program_read rest (before ++ instr ∷ []) w.1 (omega (arith, longer))) in
      subst (λ count. Reads enough (each program_line (instr ∷ rest)) (program_draft memory harts set before) (program_draft memory harts set (before ++ instr ∷ rest)) count) (one-add (length rest))
      (reads_both enough (program_line instr) (each program_line rest) _ _ _ 1 (length rest) first later)
