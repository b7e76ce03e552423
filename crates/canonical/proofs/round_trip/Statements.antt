-- What the words of each canonical line make of a draft.
use Rattle.std.proofs.Common.{◌≡◌, ℕ, ◌-◌, ◌^◌, ◌<◌, ◌==◌, nat_lt, Bool, true, false, List, [], ◌∷◌, ◌++◌, length, Some, None, Ok, refl, sym, ap, ◌∙◌, arith}
use Rattle.std.specs.Prelude.{codes, decimal, slice_index_or, slice_set}
use Rattle.std.proofs.lemmas.Bool.Decides.{nat_tests}
use Rattle.cheri_model.specs.declared.form.Form.{Form}
use Rattle.cheri_model.specs.instructions.Form.{instr_of}
use Rattle.cap_model.specs.values.Capability.{IsLawful, unsealed_type, sentry_type}
use Rattle.cap_model.specs.values.Capability as capability
use Rattle.cap_model.specs.values.CapValue.{CapValue, valid}
use Rattle.cheri_model.specs.steps.Memory.{cleared_memory, is_ram_size, is_in_ram, fits, store_capability}
use Rattle.grammar.specs.declared.directives.Directive.TheVariants as directive
use Rattle.grammar.specs.declared.operands.TypeOperand.TheVariants.{Unsealed}
use Rattle.listings.specs.declared.draft.Setting.{Setting}
use Rattle.listings.specs.declared.draft.Setting.TheVariants.{Word, Capability}
use Rattle.cheri_model.specs.declared.names.Mnemonic.{Mnemonic}
use Rattle.grammar.specs.Tokens.{token_at}
use Rattle.cheri_model.specs.instructions.Tables.{found_at}
use Rattle.grammar.specs.Directives.{directive_of}
use Rattle.grammar.specs.Labels.{LabelParts}
use Rattle.grammar.specs.Operands.{type_operand_of, type_in_range}
use Rattle.grammar.specs.Capability.{cap_operands_of, optional_type, cap_tokens, cap_parts_of}
use Rattle.grammar.specs.Forms.{counted, form_from}
use Rattle.listings.specs.Statement.{tokens_meaning, line_from, directive_line, other_line, instruction_line, ram_line, hart_line, set_line, settable_register_of, setting_of, word_setting, capability_setting, bytes_line, hex_bytes, cap_line}
use Rattle.listings.specs.Draft.{DraftParts, no_registers, hart_from, with_register, latest, with_latest, with_ram, add_hart, with_hart, value_of, with_set, set_register, with_bytes, stored_bytes, with_capability, with_instruction}
use Rattle.canonical.specs.Canon.{hex_number, perms_text, memory_text, word_text}
use Rattle.canonical.proofs.round_trip.Words.{negated}
use Rattle.canonical.proofs.round_trip.Numbers.{decimal_reads, hex_reads}
use Rattle.canonical.proofs.round_trip.Operands.{reg_text, register_reads, in_range}
use Rattle.canonical.proofs.round_trip.Names.{IsName}
use Rattle.canonical.proofs.round_trip.Capabilities.{type_words, type_operand, type_reads, number_read, cap_words, operands_with, parts_with, operands_read, in_ranges, made_of_parts}
use Rattle.canonical.proofs.round_trip.Bytes.{granule_bytes, memory_decodes, memory_word, word_reads}
use Rattle.canonical.proofs.round_trip.Reading.{words_mean}

-- the directives' names
ram_named : directive_of (codes ".ram") ≡ Some directive.Ram
unfolding directive_of found_at
ram_named = refl

bytes_named : directive_of (codes ".bytes") ≡ Some directive.Bytes
unfolding directive_of found_at
bytes_named = refl

cap_named : directive_of (codes ".cap") ≡ Some directive.Cap
unfolding directive_of found_at
cap_named = refl

hart_named : directive_of (codes ".hart") ≡ Some directive.Hart
unfolding directive_of found_at
hart_named = refl

set_named : directive_of (codes ".set") ≡ Some directive.Set
unfolding directive_of found_at
set_named = refl

module _ (labels : LabelParts) (number : ℕ) (draft : DraftParts) where
  ram_read : (ram : ℕ) → ram < 2 ^ 128 → is_ram_size ram ≡ true → draft.sized ≡ false
      → line_from labels number draft (Some directive.Ram) (codes ".ram" ∷ decimal ram ∷ []) ≡ Ok (record draft { memory = cleared_memory ram; sized = true })
  unfolding line_from directive_line ram_line counted token_at with_ram
  ram_read ram low size fresh = rw (decimal_reads ram low, fresh, size) refl

  -- `.ram N`
  pub ram_means : (ram : ℕ) → ram < 2 ^ 128 → is_ram_size ram ≡ true → draft.sized ≡ false
      → tokens_meaning labels number draft (codes ".ram" ∷ decimal ram ∷ []) ≡ Ok (record draft { memory = cleared_memory ram; sized = true })
  ram_means ram low size fresh = words_mean labels number draft (codes ".ram") (decimal ram ∷ []) (Some directive.Ram) ram_named ∙ ram_read ram low size fresh

  decoded : (word : ℕ) (low : word < 2 ^ 128) → hex_bytes (memory_text word) ≡ Ok (granule_bytes word low)
  unfolding hex_bytes
  decoded word low = let some = negated _ (memory_word word low).filled in rw (some, memory_decodes word low) refl

  bytes_read : (addr word : ℕ) (low : word < 2 ^ 128) (memory : List CapValue) → addr < 2 ^ 64 → is_in_ram draft.memory addr 16 ≡ true → stored_bytes draft.memory addr (granule_bytes word low) ≡ memory
      → line_from labels number draft (Some directive.Bytes) (codes ".bytes" ∷ hex_number addr ∷ memory_text word ∷ []) ≡ Ok (record draft { memory = memory; sized = true })
  unfolding line_from directive_line bytes_line counted token_at with_bytes
  bytes_read addr word low memory below inside stored = rw (hex_reads addr (omega arith), decoded word low, in_range addr (2 ^ 64 - 1) (omega arith), inside, stored) refl

  -- `.bytes A HEX`
  pub bytes_mean : (addr word : ℕ) (low : word < 2 ^ 128) (memory : List CapValue) → addr < 2 ^ 64 → is_in_ram draft.memory addr 16 ≡ true → stored_bytes draft.memory addr (granule_bytes word low) ≡ memory
      → tokens_meaning labels number draft (codes ".bytes" ∷ hex_number addr ∷ memory_text word ∷ []) ≡ Ok (record draft { memory = memory; sized = true })
  bytes_mean addr word low memory below inside stored = words_mean labels number draft (codes ".bytes") (hex_number addr ∷ memory_text word ∷ []) (Some directive.Bytes) bytes_named ∙ bytes_read addr word low memory below inside stored

-- the type after six or seven words
type_step_6 : (unsealed sentry : Bool) (a b c d e f : List ℕ) (otype : ℕ) → otype < 2 ^ 128 → (otype == unsealed_type) ≡ unsealed → (otype == sentry_type) ≡ sentry
    → optional_type (a ∷ b ∷ c ∷ d ∷ e ∷ f ∷ type_words otype) 6 ≡ Ok (type_operand otype)
unfolding optional_type token_at type_words type_operand type_operand_of
type_step_6 true sentry a b c d e f otype low u s = rw u refl
type_step_6 false true a b c d e f otype low u s = rw (u, s) refl
type_step_6 false false a b c d e f otype low u s = rw (u, s) (number_read otype low)

type_step_7 : (unsealed sentry : Bool) (a b c d e f g : List ℕ) (otype : ℕ) → otype < 2 ^ 128 → (otype == unsealed_type) ≡ unsealed → (otype == sentry_type) ≡ sentry
    → optional_type (a ∷ b ∷ c ∷ d ∷ e ∷ f ∷ g ∷ type_words otype) 7 ≡ Ok (type_operand otype)
unfolding optional_type token_at type_words type_operand type_operand_of
type_step_7 true sentry a b c d e f g otype low u s = rw u refl
type_step_7 false true a b c d e f g otype low u s = rw (u, s) refl
type_step_7 false false a b c d e f g otype low u s = rw (u, s) (number_read otype low)

module _ (c : capability.Capability) (h : IsLawful c) (plain : c.flag ≡ 0) where
  type_low : c.otype < 2 ^ 128
  type_low = let below = h.otype.below in omega arith

  operands_at_two : (a b : List ℕ) → cap_operands_of (a ∷ b ∷ cap_words c h) 2 (type_operand c.otype) ≡ Ok (operands_with c h (type_operand c.otype))
  unfolding token_at
  operands_at_two a b = operands_read c h (a ∷ b ∷ cap_words c h) 2 (type_operand c.otype) refl refl refl refl

  after_two : (a b : List ℕ) → cap_tokens (a ∷ b ∷ cap_words c h) 2 ≡ Ok (operands_with c h (type_operand c.otype))
  unfolding cap_tokens
  after_two a b =
      rw (type_step_6 _ _ a b (hex_number c.base) (decimal (c.top - c.base)) (hex_number c.addr) (perms_text c.perms) c.otype type_low refl refl) (operands_at_two a b)

  operands_at_three : (x y z : List ℕ) → cap_operands_of (x ∷ y ∷ z ∷ cap_words c h) 3 (type_operand c.otype) ≡ Ok (operands_with c h (type_operand c.otype))
  unfolding token_at
  operands_at_three x y z = operands_read c h (x ∷ y ∷ z ∷ cap_words c h) 3 (type_operand c.otype) refl refl refl refl

  after_three : (x y z : List ℕ) → cap_tokens (x ∷ y ∷ z ∷ cap_words c h) 3 ≡ Ok (operands_with c h (type_operand c.otype))
  unfolding cap_tokens
  after_three x y z =
      rw (type_step_7 _ _ x y z (hex_number c.base) (decimal (c.top - c.base)) (hex_number c.addr) (perms_text c.perms) c.otype type_low refl refl) (operands_at_three x y z)

  ranges : cap_parts_of (operands_with c h (type_operand c.otype)) ≡ Ok (parts_with c h c.otype)
  ranges = in_ranges c h (type_operand c.otype) c.otype (type_reads c.otype h.otype)

  cap_read : (labels : LabelParts) (number : ℕ) (draft : DraftParts) (addr : ℕ) (memory : List CapValue) → addr < 2 ^ 64 → fits draft.memory addr 16 ≡ true → store_capability draft.memory addr (valid c) ≡ memory
      → line_from labels number draft (Some directive.Cap) (codes ".cap" ∷ hex_number addr ∷ cap_words c h) ≡ Ok (record draft { memory = memory; sized = true })
  unfolding line_from directive_line cap_line token_at with_capability
  cap_read labels number draft addr memory below inside stored =
      rw (hex_reads addr (omega arith), after_two (codes ".cap") (hex_number addr), in_range addr (2 ^ 64 - 1) (omega arith), ranges, inside, made_of_parts c h plain, stored) refl

  -- `.cap A BASE LEN ADDR PERMS [TYPE]`
  pub cap_means : (labels : LabelParts) (number : ℕ) (draft : DraftParts) (addr : ℕ) (memory : List CapValue) → addr < 2 ^ 64 → fits draft.memory addr 16 ≡ true → store_capability draft.memory addr (valid c) ≡ memory
      → tokens_meaning labels number draft (codes ".cap" ∷ hex_number addr ∷ cap_words c h) ≡ Ok (record draft { memory = memory; sized = true })
  cap_means labels number draft addr memory below inside stored =
      words_mean labels number draft (codes ".cap") (hex_number addr ∷ cap_words c h) (Some directive.Cap) cap_named ∙ cap_read labels number draft addr memory below inside stored

  no_type_word : c.otype ≡ unsealed_type → type_words c.otype ≡ []
  unfolding type_words
  no_type_word unsealed = rw unsealed refl

  pcc_operands : cap_operands_of (codes ".hart" ∷ cap_words c h) 1 Unsealed ≡ Ok (operands_with c h Unsealed)
  unfolding token_at
  pcc_operands = operands_read c h (codes ".hart" ∷ cap_words c h) 1 Unsealed refl refl refl refl

  pcc_count : c.otype ≡ unsealed_type → counted 5 (codes ".hart" ∷ cap_words c h) ≡ Ok tt
  unfolding counted
  pcc_count unsealed = rw (no_type_word unsealed) refl

  pcc_parts : c.otype ≡ unsealed_type → cap_parts_of (operands_with c h Unsealed) ≡ Ok (parts_with c h c.otype)
  unfolding type_in_range
  pcc_parts unsealed = in_ranges c h Unsealed c.otype (ap (λ n. Ok n) (sym unsealed))

  hart_read : (labels : LabelParts) (number : ℕ) (draft : DraftParts) → c.otype ≡ unsealed_type → nat_lt (length draft.harts) 8 ≡ true
      → line_from labels number draft (Some directive.Hart) (codes ".hart" ∷ cap_words c h) ≡ Ok (record draft { harts = draft.harts ++ hart_from (valid c) ∷ []; set = no_registers })
  unfolding line_from directive_line hart_line with_hart add_hart
  hart_read labels number draft unsealed room = rw (pcc_count unsealed, pcc_operands, pcc_parts unsealed, made_of_parts c h plain, room) refl

  -- `.hart BASE LEN ADDR PERMS`
  pub hart_means : (labels : LabelParts) (number : ℕ) (draft : DraftParts) → c.otype ≡ unsealed_type → nat_lt (length draft.harts) 8 ≡ true
      → tokens_meaning labels number draft (codes ".hart" ∷ cap_words c h) ≡ Ok (record draft { harts = draft.harts ++ hart_from (valid c) ∷ []; set = no_registers })
  hart_means labels number draft unsealed room = words_mean labels number draft (codes ".hart") (cap_words c h) (Some directive.Hart) hart_named ∙ hart_read labels number draft unsealed room

  -- `cap BASE LEN ADDR PERMS [TYPE]`
  pub cap_setting : (reg : List ℕ) → setting_of (codes ".set" ∷ reg ∷ codes "cap" ∷ cap_words c h) ≡ Ok (Capability (parts_with c h c.otype))
  unfolding setting_of capability_setting token_at
  cap_setting reg = rw (after_three (codes ".set") reg (codes "cap"), ranges) refl

  pub cap_value : value_of (Capability (parts_with c h c.otype)) ≡ Ok (valid c)
  unfolding value_of
  cap_value = made_of_parts c h plain

-- `int V` and `word V`
pub int_setting : (reg : List ℕ) (word : ℕ) → word < 2 ^ 64 → setting_of (codes ".set" ∷ reg ∷ codes "int" ∷ decimal word ∷ []) ≡ Ok (Word word)
unfolding setting_of word_setting counted token_at
int_setting reg word low = rw (decimal_reads word (omega arith), in_range word (2 ^ 64 - 1) (omega arith)) refl

pub word_set : (reg : List ℕ) (word : ℕ) (low : word < 2 ^ 128) → setting_of (codes ".set" ∷ reg ∷ codes "word" ∷ word_text word ∷ []) ≡ Ok (Word word)
unfolding setting_of word_setting counted token_at
word_set reg word low = rw (word_reads word low, in_range word (2 ^ 128 - 1) (omega arith)) refl

not_zero : (reg : ℕ) → 0 < reg → (reg == 0) ≡ false
not_zero reg h = grind (arith, nat_tests)

set_register_read : (reg : ℕ) → 0 < reg → reg < 32 → settable_register_of (reg_text reg) ≡ Ok reg
unfolding settable_register_of
set_register_read reg some low = rw (register_reads reg low, not_zero reg some) refl

set_read : (labels : LabelParts) (number : ℕ) (draft : DraftParts) (reg : ℕ) (words : List (List ℕ)) (setting : Setting) (v : CapValue) → 0 < reg → reg < 32
    → setting_of (codes ".set" ∷ reg_text reg ∷ words) ≡ Ok setting → value_of setting ≡ Ok v → slice_index_or draft.set reg false ≡ false → (length draft.harts == 0) ≡ false
    → line_from labels number draft (Some directive.Set) (codes ".set" ∷ reg_text reg ∷ words)
    ≡ Ok (record draft { harts = with_latest draft.harts (with_register (latest draft.harts) reg v); set = slice_set draft.set reg true })
unfolding line_from directive_line set_line token_at with_set set_register
set_read labels number draft reg words setting v some low read value fresh harts = rw (set_register_read reg some low, read, fresh, value, harts) refl

-- `.set` of a register that was not set, c1 to c31
pub set_means : (labels : LabelParts) (number : ℕ) (draft : DraftParts) (reg : ℕ) (words : List (List ℕ)) (setting : Setting) (v : CapValue) → 0 < reg → reg < 32
    → setting_of (codes ".set" ∷ reg_text reg ∷ words) ≡ Ok setting → value_of setting ≡ Ok v → slice_index_or draft.set reg false ≡ false → (length draft.harts == 0) ≡ false
    → tokens_meaning labels number draft (codes ".set" ∷ reg_text reg ∷ words)
    ≡ Ok (record draft { harts = with_latest draft.harts (with_register (latest draft.harts) reg v); set = slice_set draft.set reg true })
set_means labels number draft reg words setting v some low read value fresh harts =
    words_mean labels number draft (codes ".set") (reg_text reg ∷ words) (Some directive.Set) set_named ∙ set_read labels number draft reg words setting v some low read value fresh harts

instruction_read : (labels : LabelParts) (number : ℕ) (draft : DraftParts) (name : List ℕ) (mnemonic : Mnemonic) (operands : List (List ℕ)) (whole : Form) → IsName name mnemonic
    → form_from labels mnemonic (name ∷ operands) ≡ Ok whole → nat_lt (length draft.program) 16384 ≡ true
    → line_from labels number draft None (name ∷ operands) ≡ Ok (record draft { program = draft.program ++ instr_of whole ∷ [] })
unfolding line_from other_line instruction_line token_at with_instruction
instruction_read labels number draft name mnemonic operands whole named read room = rw (named.found, read, room) refl

-- an instruction
pub instruction_means : (labels : LabelParts) (number : ℕ) (draft : DraftParts) (name : List ℕ) (mnemonic : Mnemonic) (operands : List (List ℕ)) (whole : Form) → IsName name mnemonic
    → form_from labels mnemonic (name ∷ operands) ≡ Ok whole → nat_lt (length draft.program) 16384 ≡ true
    → tokens_meaning labels number draft (name ∷ operands) ≡ Ok (record draft { program = draft.program ++ instr_of whole ∷ [] })
instruction_means labels number draft name mnemonic operands whole named read room =
    words_mean labels number draft name operands None named.undirected ∙ instruction_read labels number draft name mnemonic operands whole named read room
