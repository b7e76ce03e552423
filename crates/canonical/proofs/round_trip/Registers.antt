-- The lines of a hart's registers read back to their values.
use Rattle.std.proofs.Common.{◌≡◌, ℕ, suc, ◌+◌, ◌-◌, ◌/◌, ◌%◌, ◌^◌, ◌<◌, ◌≤◌, ◌==◌, Bool, true, false, List, [], ◌∷◌, ◌++◌, length, Ok, refl, ap, ◌∙◌, subst, append_assoc, length-append, arith}
use Rattle.std.specs.Prelude.{codes, decimal, replicate, slice_index_or, slice_set}
use Rattle.std.specs.List.{AllByRecursion}
use Rattle.std.proofs.lemmas.Bool.Decides.{nat_tests}
use Rattle.std.proofs.lemmas.List.{get_or_at, set_at, get_or-set_other}
use Rattle.cheri_model.specs.declared.image.HartImage.{HartImage}
use Rattle.cap_model.specs.values.Capability as capability
use Rattle.cap_model.specs.values.Capability.{IsLawful}
use Rattle.cap_model.specs.values.CapValue.{CapValue, valid, raw}
use Rattle.cheri_model.specs.runs.ImageRules.{is_listed}
use Rattle.listings.specs.declared.draft.Setting.{Setting}
use Rattle.listings.specs.declared.draft.Setting.TheVariants.{Word}
use Rattle.grammar.specs.Tokens.{is_blank}
use Rattle.listings.specs.Statement.{setting_of}
use Rattle.listings.specs.Draft.{DraftParts, value_of, latest, with_latest, with_register, hart_from}
use Rattle.canonical.specs.Canon.{word_text, setting_text, register_line, register_lines}
use Rattle.canonical.specs.Listable.{IsWritable}
use Rattle.canonical.proofs.round_trip.Words.{is_open, is_word_byte, IsWord}
use Rattle.canonical.proofs.round_trip.Lines.{IsLine, last_word, then_space}
use Rattle.canonical.proofs.round_trip.Numbers.{decimal_word}
use Rattle.canonical.proofs.round_trip.Operands.{reg_text, register_word}
use Rattle.canonical.proofs.round_trip.Capabilities.{cap_words, cap_line}
use Rattle.canonical.proofs.round_trip.Bytes.{word_word}
use Rattle.canonical.proofs.round_trip.Reading.{Reads, reads_none, reads_both, reads_line}
use Rattle.canonical.proofs.round_trip.Statements.{cap_setting, cap_value, int_setting, word_set, set_means}
use Rattle.canonical.proofs.round_trip.Memories.{line_end}

-- a register's setting is a line that reads back to its value
pub record SetsTo (text : List ℕ) (v : CapValue) : Type 0 where
  pub words : List (List ℕ)
  pub setting : Setting
  pub line : IsLine text words
  pub read : (reg : List ℕ) → setting_of (codes ".set" ∷ reg ∷ words) ≡ Ok setting
  pub value : value_of setting ≡ Ok v

int_name : IsWord (codes "int")
unfolding is_word_byte is_open is_blank
int_name = record { filled = refl; bytes = refl }

word_name : IsWord (codes "word")
unfolding is_word_byte is_open is_blank
word_name = record { filled = refl; bytes = refl }

cap_name : IsWord (codes "cap")
unfolding is_word_byte is_open is_blank
cap_name = record { filled = refl; bytes = refl }

set_name : IsWord (codes ".set")
unfolding is_word_byte is_open is_blank
set_name = record { filled = refl; bytes = refl }

word_value : (word other : ℕ) → word ≡ other → value_of (Word word) ≡ Ok (raw other)
unfolding value_of
word_value word other e = ap (λ w. Ok (raw w)) e

raw_sets : (small : Bool) (word : ℕ) → word < 2 ^ 128 → (word / 2 ^ 64 == 0) ≡ small → SetsTo (setting_text (raw word)) (raw word)
unfolding setting_text
raw_sets true word low t =
    let high : word / 2 ^ 64 ≡ 0 = grind (arith, nat_tests) in
    let same : word % 2 ^ 64 ≡ word = omega (arith, high) in
    rw t (record {
      words = codes "int" ∷ decimal (word % 2 ^ 64) ∷ [];
      setting = Word (word % 2 ^ 64);
      line = then_space (codes "int") _ _ int_name (last_word (decimal (word % 2 ^ 64)) (decimal_word (word % 2 ^ 64) (omega arith)));
      read = λ reg. int_setting reg (word % 2 ^ 64) (omega arith);
      value = word_value (word % 2 ^ 64) word same;
    })
raw_sets false word low t =
    rw t (record {
      words = codes "word" ∷ word_text word ∷ [];
      setting = Word word;
      line = then_space (codes "word") _ _ word_name (last_word (word_text word) (word_word word low));
      read = λ reg. word_set reg word low;
      value = word_value word word refl;
    })

capability_sets : (c : capability.Capability) (h : IsLawful c) → c.flag ≡ 0 → SetsTo (setting_text (valid c)) (valid c)
unfolding setting_text
capability_sets c h plain = record {
  words = codes "cap" ∷ cap_words c h;
  setting = _;
  line = then_space (codes "cap") _ _ cap_name (cap_line c h);
  read = λ reg. cap_setting c h plain reg;
  value = cap_value c h plain;
}

pub value_sets : (v : CapValue) → IsWritable v → SetsTo (setting_text v) v
value_sets (valid c) w = capability_sets c w.0 w.1
value_sets (raw word) w = raw_sets _ word w refl

-- a draft with harts and no instructions yet
abbrev pub hart_draft : List CapValue → List HartImage → List Bool → DraftParts
hart_draft memory harts set = record { program = []; harts = harts; set = set; memory = memory; sized = true }

abbrev hart_with : CapValue → List CapValue → HartImage
hart_with pcc regs = record { pcc = pcc; regs = regs }

some_harts : (n : ℕ) → (suc n == 0) ≡ false
some_harts n = grind (arith, nat_tests)

no_harts_not : (before : List HartImage) (hart : HartImage) → (length (before ++ hart ∷ []) == 0) ≡ false
no_harts_not [] hart = some_harts 0
no_harts_not (first ∷ before) hart = some_harts (length (before ++ hart ∷ []))

module _ (before : List HartImage) (pcc : CapValue) (done rest : List CapValue) where
  last_place : (hart : HartImage) → length (before ++ hart ∷ []) - 1 ≡ length before
  last_place hart = let e : length (before ++ hart ∷ []) ≡ length before + 1 = length-append before (hart ∷ []) in omega (arith, e)

  latest_is : (hart : HartImage) → latest (before ++ hart ∷ []) ≡ hart
  latest_is hart = ap (λ k. slice_index_or (before ++ hart ∷ []) k (hart_from (raw 0))) (last_place hart) ∙ get_or_at before hart [] (hart_from (raw 0)) (length before) refl

  with_latest_is : (hart other : HartImage) → with_latest (before ++ hart ∷ []) other ≡ before ++ other ∷ []
  with_latest_is hart other = ap (λ k. slice_set (before ++ hart ∷ []) k other) (last_place hart) ∙ set_at before hart [] other (length before) refl

  register_is : (v : CapValue) → with_register (hart_with pcc (done ++ raw 0 ∷ rest)) (length done + 1) v ≡ hart_with pcc (done ++ v ∷ rest)
  register_is v =
      let place : length done + 1 - 1 ≡ length done = omega arith in
      ap (λ regs. hart_with pcc regs) (ap (λ k. slice_set (done ++ raw 0 ∷ rest) k v) place ∙ set_at done (raw 0) rest v (length done) refl)

  -- the latest hart with another value in its next register
  harts_after : (v : CapValue) → with_latest (before ++ hart_with pcc (done ++ raw 0 ∷ rest) ∷ []) (with_register (latest (before ++ hart_with pcc (done ++ raw 0 ∷ rest) ∷ [])) (length done + 1) v)
      ≡ before ++ hart_with pcc (done ++ v ∷ rest) ∷ []
  harts_after v =
      ap (λ hart. with_latest (before ++ hart_with pcc (done ++ raw 0 ∷ rest) ∷ []) (with_register hart (length done + 1) v)) (latest_is (hart_with pcc (done ++ raw 0 ∷ rest)))
      ∙ ap (with_latest (before ++ hart_with pcc (done ++ raw 0 ∷ rest) ∷ [])) (register_is v)
      ∙ with_latest_is (hart_with pcc (done ++ raw 0 ∷ rest)) (hart_with pcc (done ++ v ∷ rest))

-- which registers are not set yet
abbrev pub IsFresh : List Bool → ℕ → Type 0
IsFresh set from = (k : ℕ) → from ≤ k → slice_index_or set k false ≡ false

still_fresh : (set : List Bool) (from : ℕ) → IsFresh set from → IsFresh (slice_set set from true) (from + 1)
still_fresh set from fresh k h = get_or-set_other set from k true false (omega arith) ∙ fresh k (omega arith)

fresh_later : (set : List Bool) (from : ℕ) → IsFresh set from → IsFresh set (from + 1)
fresh_later set from fresh k h = fresh k (omega arith)

module _ (enough : ℕ) (memory : List CapValue) (before : List HartImage) (pcc : CapValue) where
  abbrev pub state : List CapValue → List Bool → DraftParts
  state regs set = hart_draft memory (before ++ hart_with pcc regs ∷ []) set

  -- one register's line
  set_line : (done rest : List CapValue) (v : CapValue) (set : List Bool) → SetsTo (setting_text v) v → length done + 1 < 32 → IsFresh set (length done + 1)
      → Reads enough (codes ".set c" ++ (decimal (length done + 1) ++ (codes " " ++ (setting_text v ++ codes "\n")))) (state (done ++ raw 0 ∷ rest) set) (state (done ++ v ∷ rest) (slice_set set (length done + 1) true)) 0
  set_line done rest v set s low fresh =
      let reg : ℕ = length done + 1 in
      subst (λ text. Reads enough text (state (done ++ raw 0 ∷ rest) set) (state (done ++ v ∷ rest) (slice_set set (length done + 1) true)) 0)
      (line_end (codes ".set c") (decimal (length done + 1)) (codes " " ++ setting_text v))
      (reads_line enough (codes ".set" ++ 0x20 ∷ (reg_text (length done + 1) ++ 0x20 ∷ setting_text v)) (codes ".set" ∷ reg_text (length done + 1) ∷ s.words) (state (done ++ raw 0 ∷ rest) set) (state (done ++ v ∷ rest) (slice_set set (length done + 1) true)) 0
      (then_space (codes ".set") _ _ set_name (then_space (reg_text (length done + 1)) _ _ (register_word (length done + 1) low) s.line)) (omega arith)
      (λ labels h number. set_means labels number (state (done ++ raw 0 ∷ rest) set) (length done + 1) s.words s.setting v (omega arith) low (s.read (reg_text (length done + 1))) s.value (fresh (length done + 1) (omega arith)) (no_harts_not before (hart_with pcc (done ++ raw 0 ∷ rest)))
      ∙ ap (λ harts. Ok (hart_draft memory harts (slice_set set (length done + 1) true))) (harts_after before pcc done rest v)))

  -- the registers from one on: what was set after them is left open
  abbrev pub Leads : List ℕ → List CapValue → List CapValue → List Bool → Type 0
  Leads text regs after set = (later : List Bool) × Reads enough text (state regs set) (state after later) 0

  next_written : (done rest zeros : List CapValue) (v : CapValue) (set : List Bool) → IsWritable v → is_listed v ≡ true → length done + 1 < 32 → IsFresh set (length done + 1)
      → ((set : List Bool) → IsFresh set (length done + 1 + 1) → Leads (register_lines (length done + 1 + 1) rest) (done ++ v ∷ zeros) (done ++ v ∷ rest) set)
      → Leads (register_lines (length done + 1) (v ∷ rest)) (done ++ raw 0 ∷ zeros) (done ++ v ∷ rest) set
  unfolding register_lines register_line
  next_written done rest zeros v set w listed low fresh more =
      let after = more (slice_set set (length done + 1) true) (still_fresh set (length done + 1) fresh) in
      rw listed (after.0, reads_both enough _ _ _ _ _ 0 0 (set_line done zeros v set (value_sets v w) low fresh) after.1)

  next_null : (done rest zeros : List CapValue) (set : List Bool) → IsFresh set (length done + 1)
      → ((set : List Bool) → IsFresh set (length done + 1 + 1) → Leads (register_lines (length done + 1 + 1) rest) (done ++ raw 0 ∷ zeros) (done ++ raw 0 ∷ rest) set)
      → Leads (register_lines (length done + 1) (raw 0 ∷ rest)) (done ++ raw 0 ∷ zeros) (done ++ raw 0 ∷ rest) set
  unfolding register_lines register_line
  next_null done rest zeros set fresh more = more set (fresh_later set (length done + 1) fresh)

  next_raw : (null : Bool) (done rest zeros : List CapValue) (word : ℕ) (set : List Bool) → (word == 0) ≡ null → word < 2 ^ 128 → length done + 1 < 32 → IsFresh set (length done + 1)
      → ((set : List Bool) → IsFresh set (length done + 1 + 1) → Leads (register_lines (length done + 1 + 1) rest) (done ++ raw word ∷ zeros) (done ++ raw word ∷ rest) set)
      → Leads (register_lines (length done + 1) (raw word ∷ rest)) (done ++ raw 0 ∷ zeros) (done ++ raw word ∷ rest) set
  next_raw false done rest zeros word set t low small fresh more = next_written done rest zeros (raw word) set low (rw t refl) small fresh more
  next_raw true done rest zeros word set t low small fresh more =
      let same : 0 ≡ word = grind (arith, nat_tests) in
      subst (λ w. ((set : List Bool) → IsFresh set (length done + 1 + 1) → Leads (register_lines (length done + 1 + 1) rest) (done ++ raw w ∷ zeros) (done ++ raw w ∷ rest) set)
      → Leads (register_lines (length done + 1) (raw w ∷ rest)) (done ++ raw 0 ∷ zeros) (done ++ raw w ∷ rest) set) same (next_null done rest zeros set fresh) more

  next_value : (done rest zeros : List CapValue) (v : CapValue) (set : List Bool) → IsWritable v → length done + 1 < 32 → IsFresh set (length done + 1)
      → ((set : List Bool) → IsFresh set (length done + 1 + 1) → Leads (register_lines (length done + 1 + 1) rest) (done ++ v ∷ zeros) (done ++ v ∷ rest) set)
      → Leads (register_lines (length done + 1) (v ∷ rest)) (done ++ raw 0 ∷ zeros) (done ++ v ∷ rest) set
  next_value done rest zeros (valid c) set w low fresh more = next_written done rest zeros (valid c) set w refl low fresh more
  next_value done rest zeros (raw word) set w low fresh more = next_raw _ done rest zeros word set refl w low fresh more

  pub registers_read : (rest done : List CapValue) (set : List Bool) → AllByRecursion IsWritable rest → length done + length rest ≡ 31 → IsFresh set (length done + 1)
      → Leads (register_lines (length done + 1) rest) (done ++ replicate (length rest) (raw 0)) (done ++ rest) set
  unfolding register_lines
  registers_read [] done set w count fresh = (set, reads_none enough (state (done ++ []) set))
  registers_read (v ∷ rest) done set w count fresh =
      let zeros = replicate (length rest) (raw 0) in
      let longer : length (done ++ v ∷ []) ≡ length done + 1 = length-append done (v ∷ []) in
      next_value done rest zeros v set w.0 (omega arith) fresh
      (λ next fresh_next.
      (let later : Leads (register_lines (length (done ++ v ∷ []) + 1) rest) ((done ++ v ∷ []) ++ zeros) ((done ++ v ∷ []) ++ rest) next = registers_read rest (done ++ v ∷ []) next w.1 (omega (arith, longer)) (λ k h. fresh_next k (omega (arith, longer))) in
      rw (longer, append_assoc done (v ∷ []) zeros, append_assoc done (v ∷ []) rest) at later))
