-- The image that a listing means is one that listings can write.
use Rattle.std.proofs.Common.{◌≡◌, ℕ, suc, ◌+◌, ◌-◌, ◌*◌, ◌^◌, ◌<◌, ◌≤◌, ◌==◌, nat_lt, Bool, true, false, cond, List, [], ◌∷◌, length, drop, Option, Some, None, Result, Ok, Err, refl, sym, ap, ◌∙◌, subst, arith}
use Rattle.std.specs.Prelude.{slice_index_or, codes, bytes_eq}
use Rattle.std.specs.List.{list_all}
use Rattle.std.proofs.lemmas.Bool.Decides.{nat_tests}
use Rattle.std.proofs.lemmas.List.Elements.{All-nil, All-replicate, recursion_from_All}
use Rattle.std.proofs.lemmas.Slice.Eq.{bytes_eq-Decides}
use Rattle.cheri_model.specs.declared.form.Form.{Form}
use Rattle.cheri_model.specs.declared.form.Form.TheVariants.{Three, Two, Immediate, Shift, WordShift, SetBoundsImm, Upper, Load, Store, Swap, Branch, Jump, Invoke, Alone}
use Rattle.cheri_model.specs.declared.form.ThreeOp.TheVariants as three_op
use Rattle.cheri_model.specs.declared.form.TwoOp.TheVariants as two_op
use Rattle.cheri_model.specs.declared.form.ImmediateOp.TheVariants as immediate_op
use Rattle.cheri_model.specs.declared.form.ShiftOp.TheVariants as shift_op
use Rattle.cheri_model.specs.declared.form.WordShiftOp.TheVariants as word_shift_op
use Rattle.cheri_model.specs.declared.form.UpperOp.TheVariants as upper_op
use Rattle.cheri_model.specs.declared.form.LoadOp.TheVariants as load_op
use Rattle.cheri_model.specs.declared.form.StoreOp.TheVariants as store_op
use Rattle.cheri_model.specs.declared.form.BranchOp.TheVariants as branch_op
use Rattle.cheri_model.specs.instructions.Form.{form_of, instr_of, three_instr, two_instr, immediate_instr, shift_instr, word_shift_instr, upper_instr, load_instr, store_instr, branch_instr}
use Rattle.cap_model.specs.values.CapValue.{CapValue, raw}
use Rattle.cheri_model.specs.steps.Memory.{ram_base}
use Rattle.cheri_model.specs.runs.Image.{ImageParts}
use Rattle.listings.specs.declared.fault.ListingFault.{ListingFault}
use Rattle.grammar.specs.declared.fault.ListingFaultKind.{ListingFaultKind}
use Rattle.grammar.specs.declared.fault.ListingFaultKind.TheVariants as kind
use Rattle.grammar.specs.declared.directives.Directive.{Directive}
use Rattle.grammar.specs.declared.directives.Directive.TheVariants as directive
use Rattle.cheri_model.specs.declared.names.Mnemonic.{Mnemonic}
use Rattle.grammar.specs.declared.labels.LabelLine.{LabelLine}
use Rattle.grammar.specs.declared.operands.TypeOperand.TheVariants.{Unsealed}
use Rattle.grammar.specs.declared.operands.TypeOperand.{TypeOperand}
use Rattle.grammar.specs.declared.capability.CapOperands.{CapOperands}
use Rattle.listings.specs.declared.draft.Setting.{Setting}
use Rattle.listings.specs.declared.draft.Setting.TheVariants.{Word, Capability}
use Rattle.grammar.specs.Faults.{◌>>=◌}
use Rattle.grammar.specs.Lines.{lines_of, is_plain}
use Rattle.grammar.specs.Tokens.{tokens_of, token_at}
use Rattle.grammar.specs.Numerals.{number_of, at_most}
use Rattle.grammar.specs.Permissions.{permissions_of}
use Rattle.grammar.specs.Capability.{cap_operands_of, cap_tokens, cap_parts_of}
use Rattle.cheri_model.specs.instructions.Tables.{found_at}
use Rattle.grammar.specs.Directives.{directive_of, directive_table}
use Rattle.cheri_model.specs.instructions.Names.{mnemonic_of, mnemonic_table, is_instruction}
use Rattle.grammar.specs.Forms.{counted, form_from}
use Rattle.grammar.specs.Labels.{LabelParts, is_label_token, label_name, label_of, label_fault, count_of, labels_from, instruction_lines, labels_of}
use Rattle.grammar.specs.LabelMap.{first_line}
use Rattle.listings.specs.Statement.{ram_line, hart_line, settable_register_of, word_setting, capability_setting, setting_of, set_line, hex_bytes, bytes_line, cap_line, directive_line, instruction_line, label_line, other_line, line_from, tokens_meaning}
use Rattle.listings.specs.Draft.{DraftParts, empty_draft, with_ram, with_hart, value_of, with_set, set_register, with_bytes, with_capability, with_instruction}
use Rattle.listings.specs.Meaning.{line_meaning, at_line, lines_meaning, whole_fault, listed_from, finished, listing_limit, listing_meaning}
use Rattle.canonical.specs.Listable.{IsWritable, IsWritableHart, IsReadable, IsListable}
use Rattle.grammar.proofs.LabelLemmas.{found-append}
use Rattle.canonical.proofs.round_trip.Ranges.{then_ok, test_true, test_false, at_most_ok, IsBounded}
use Rattle.canonical.proofs.round_trip.FormRanges.{form_ok}
use Rattle.canonical.proofs.round_trip.Drafts.{ArePartsOf, parts_ok, capability_ok, writable, IsDraft, Goes, ram_ok, hart_ok, set_ok, bytes_ok, granule_ok, instruction_ok, same_ok}

-- a form gives itself back through its instruction
form_back : (whole : Form) → form_of (instr_of whole) ≡ whole
unfolding form_of instr_of three_instr two_instr immediate_instr shift_instr word_shift_instr upper_instr load_instr store_instr branch_instr
form_back (Three three_op.CSetAddr cd c1 c2) = refl
form_back (Three _ cd c1 c2) = refl
form_back (Two two_op.CMove cd c1) = refl
form_back (Two _ cd c1) = refl
form_back (Immediate immediate_op.CIncOffsetImm cd c1 imm) = refl
form_back (Immediate _ cd c1 imm) = refl
form_back (Shift shift_op.Slli cd c1 amount) = refl
form_back (Shift _ cd c1 amount) = refl
form_back (WordShift word_shift_op.Slliw cd c1 amount) = refl
form_back (WordShift _ cd c1 amount) = refl
form_back (SetBoundsImm cd c1 len) = refl
form_back (Upper upper_op.Lui cd imm) = refl
form_back (Upper _ cd imm) = refl
form_back (Load load_op.Lb cd c1 imm) = refl
form_back (Load _ cd c1 imm) = refl
form_back (Store store_op.Sb c2 c1 imm) = refl
form_back (Store _ c2 c1 imm) = refl
form_back (Swap cd c2 c1) = refl
form_back (Branch branch_op.Beq c1 c2 target) = refl
form_back (Branch _ c1 c2 target) = refl
form_back (Jump cd target) = refl
form_back (Invoke c1 c2) = refl
form_back Alone = refl

-- what a register is set to
abbrev IsSetting : Setting → Type 0
IsSetting (Word bits) = bits < 2 ^ 128
IsSetting (Capability parts) = (operand : TypeOperand) × ArePartsOf operand parts

abbrev OnSetting : Result Setting ListingFaultKind → Type 0
OnSetting (Ok setting) = IsSetting setting
OnSetting (Err f) = Unit {0}

word_ok : (limit : ℕ) (tokens : List (List ℕ)) (setting : Setting) → limit < 2 ^ 128 → word_setting limit tokens ≡ Ok setting → IsSetting setting
unfolding word_setting
word_ok limit tokens setting low e =
    let s0 = then_ok (counted 4 tokens) (λ c. number_of (token_at tokens 3) >>= (λ number. at_most limit number >>= (λ bits. Ok (Word bits)))) setting e in
    let s1 = then_ok (number_of (token_at tokens 3)) (λ number. at_most limit number >>= (λ bits. Ok (Word bits))) setting s0.2 in
    let s2 = then_ok (at_most limit s1.0) (λ bits. Ok (Word bits)) setting s1.2 in
    let most = at_most_ok limit s1.0 s2.0 s2.1 in
    subst OnSetting s2.2 (omega arith)

capability_set_ok : (tokens : List (List ℕ)) (setting : Setting) → capability_setting tokens ≡ Ok setting → IsSetting setting
unfolding capability_setting
capability_set_ok tokens setting e =
    let s0 = then_ok (cap_tokens tokens 3) (λ operands. cap_parts_of operands >>= (λ parts. Ok (Capability parts))) setting e in
    let s1 = then_ok (cap_parts_of s0.0) (λ parts. Ok (Capability parts)) setting s0.2 in
    subst OnSetting s1.2 (s0.0.otype, parts_ok s0.0 s1.0 s1.1)

setting_step : (int word cap : Bool) (tokens : List (List ℕ)) (setting : Setting) → bytes_eq (token_at tokens 2) (codes "int") ≡ int → bytes_eq (token_at tokens 2) (codes "word") ≡ word
    → bytes_eq (token_at tokens 2) (codes "cap") ≡ cap → setting_of tokens ≡ Ok setting → IsSetting setting
unfolding setting_of
setting_step true word cap tokens setting i w c e = word_ok (2 ^ 64 - 1) tokens setting (omega arith) (rw i at e)
setting_step false true cap tokens setting i w c e = word_ok (2 ^ 128 - 1) tokens setting (omega arith) (rw (i, w) at e)
setting_step false false true tokens setting i w c e = capability_set_ok tokens setting (rw (i, w, c) at e)
setting_step false false false tokens setting i w c e = absurd (let clash = rw (i, w, c) at e in cc)

value_ok : (setting : Setting) (v : CapValue) → IsSetting setting → value_of setting ≡ Ok v → IsWritable v
unfolding value_of
value_ok (Word bits) v h e = let same : raw bits ≡ v = cc in subst IsWritable same h
value_ok (Capability parts) v h e = writable v parts.otype (capability_ok h.0 parts v h.1 e)

abbrev OnOperands : TypeOperand → Result CapOperands ListingFaultKind → Type 0
OnOperands otype (Ok operands) = otype ≡ operands.otype
OnOperands otype (Err f) = Unit {0}

operands_typed : (tokens : List (List ℕ)) (place : ℕ) (otype : TypeOperand) (operands : CapOperands) → cap_operands_of tokens place otype ≡ Ok operands → otype ≡ operands.otype
unfolding cap_operands_of
operands_typed tokens place otype operands e =
    let s1 = then_ok (number_of (token_at tokens place)) (λ base. number_of (token_at tokens (place + 1)) >>= (λ len. number_of (token_at tokens (place + 2)) >>= (λ addr. permissions_of (token_at tokens (place + 3)) >>= (λ perms. Ok (record { base = base; len = len; addr = addr; perms = perms; otype = otype }))))) operands e in
    let s2 = then_ok (number_of (token_at tokens (place + 1))) (λ len. number_of (token_at tokens (place + 2)) >>= (λ addr. permissions_of (token_at tokens (place + 3)) >>= (λ perms. Ok (record { base = s1.0; len = len; addr = addr; perms = perms; otype = otype })))) operands s1.2 in
    let s3 = then_ok (number_of (token_at tokens (place + 2))) (λ addr. permissions_of (token_at tokens (place + 3)) >>= (λ perms. Ok (record { base = s1.0; len = s2.0; addr = addr; perms = perms; otype = otype }))) operands s2.2 in
    let s4 = then_ok (permissions_of (token_at tokens (place + 3))) (λ perms. Ok (record { base = s1.0; len = s2.0; addr = s3.0; perms = perms; otype = otype })) operands s3.2 in
    subst (OnOperands otype) s4.2 refl

module _ (count : ℕ) (draft : DraftParts) (d : IsDraft count draft) (tokens : List (List ℕ)) (after : DraftParts) where
  ram_line_ok : ram_line draft tokens ≡ Ok after → Goes count draft after 0
  unfolding ram_line
  ram_line_ok e =
      let s0 = then_ok (counted 2 tokens) (λ c. number_of (token_at tokens 1) >>= (λ size. with_ram draft size)) after e in
      let s1 = then_ok (number_of (token_at tokens 1)) (λ size. with_ram draft size) after s0.2 in
      ram_ok count draft d s1.0 after s1.2

  hart_line_ok : hart_line draft tokens ≡ Ok after → Goes count draft after 0
  unfolding hart_line
  hart_line_ok e =
      let s0 = then_ok (counted 5 tokens) (λ c. cap_operands_of tokens 1 Unsealed >>= (λ operands. cap_parts_of operands >>= (λ parts. with_hart draft parts))) after e in
      let s1 = then_ok (cap_operands_of tokens 1 Unsealed) (λ operands. cap_parts_of operands >>= (λ parts. with_hart draft parts)) after s0.2 in
      let s2 = then_ok (cap_parts_of s1.0) (λ parts. with_hart draft parts) after s1.2 in
      let parts : ArePartsOf Unsealed s2.0 = subst (λ otype. ArePartsOf otype s2.0) (sym (operands_typed tokens 1 Unsealed s1.0 s1.1)) (parts_ok s1.0 s2.0 s2.1) in
      hart_ok count draft d s2.0 after parts s2.2

  with_set_ok : (reg : ℕ) (setting : Setting) → IsSetting setting → with_set draft reg setting ≡ Ok after → Goes count draft after 0
  unfolding with_set
  with_set_ok reg setting h e =
      let s0 = test_false (slice_index_or draft.set reg false) (value_of setting >>= (λ v. set_register draft reg v)) kind.Twice after e in
      let s1 = then_ok (value_of setting) (λ v. set_register draft reg v) after s0.1 in
      set_ok count draft d reg s1.0 after (value_ok setting s1.0 h s1.1) s1.2

  set_line_ok : set_line draft tokens ≡ Ok after → Goes count draft after 0
  unfolding set_line
  set_line_ok e =
      let s0 = then_ok (settable_register_of (token_at tokens 1)) (λ reg. setting_of tokens >>= (λ value. with_set draft reg value)) after e in
      let s1 = then_ok (setting_of tokens) (λ value. with_set draft s0.0 value) after s0.2 in
      with_set_ok s0.0 s1.0 (setting_step _ _ _ tokens s1.0 refl refl refl s1.1) s1.2

  bytes_line_ok : bytes_line draft tokens ≡ Ok after → Goes count draft after 0
  unfolding bytes_line
  bytes_line_ok e =
      let s0 = then_ok (counted 3 tokens) (λ c. number_of (token_at tokens 1) >>= (λ addr. hex_bytes (token_at tokens 2) >>= (λ bytes. at_most (2 ^ 64 - 1) addr >>= (λ addr. with_bytes draft addr bytes)))) after e in
      let s1 = then_ok (number_of (token_at tokens 1)) (λ addr. hex_bytes (token_at tokens 2) >>= (λ bytes. at_most (2 ^ 64 - 1) addr >>= (λ addr. with_bytes draft addr bytes))) after s0.2 in
      let s2 = then_ok (hex_bytes (token_at tokens 2)) (λ bytes. at_most (2 ^ 64 - 1) s1.0 >>= (λ addr. with_bytes draft addr bytes)) after s1.2 in
      let s3 = then_ok (at_most (2 ^ 64 - 1) s1.0) (λ addr. with_bytes draft addr s2.0) after s2.2 in
      bytes_ok count draft d s3.0 s2.0 after s3.2

  cap_line_ok : cap_line draft tokens ≡ Ok after → Goes count draft after 0
  unfolding cap_line
  cap_line_ok e =
      let s0 = then_ok (number_of (token_at tokens 1)) (λ addr. cap_tokens tokens 2 >>= (λ operands. at_most (2 ^ 64 - 1) addr >>= (λ addr. cap_parts_of operands >>= (λ parts. with_capability draft addr parts)))) after e in
      let s1 = then_ok (cap_tokens tokens 2) (λ operands. at_most (2 ^ 64 - 1) s0.0 >>= (λ addr. cap_parts_of operands >>= (λ parts. with_capability draft addr parts))) after s0.2 in
      let s2 = then_ok (at_most (2 ^ 64 - 1) s0.0) (λ addr. cap_parts_of s1.0 >>= (λ parts. with_capability draft addr parts)) after s1.2 in
      let s3 = then_ok (cap_parts_of s1.0) (λ parts. with_capability draft s2.0 parts) after s2.2 in
      granule_ok count draft d s1.0.otype s2.0 s3.0 after (parts_ok s1.0 s3.0 s3.1) s3.2

  instruction_line_ok : (labels : LabelParts) (mnemonic : Mnemonic) → labels.instructions ≤ count → IsBounded labels → instruction_line labels draft mnemonic tokens ≡ Ok after → Goes count draft after 1
  unfolding instruction_line
  instruction_line_ok labels mnemonic few bounded e =
      let s0 = then_ok (form_from labels mnemonic tokens) (λ whole. with_instruction draft (instr_of whole)) after e in
      let readable : IsReadable count (form_of (instr_of s0.0)) = subst (IsReadable count) (sym (form_back s0.0)) (form_ok count labels mnemonic tokens s0.0 few bounded s0.1) in
      instruction_ok count draft d (instr_of s0.0) after readable s0.2

  label_line_ok : (labels : LabelParts) (number : ℕ) → label_line labels number draft tokens ≡ Ok after → Goes count draft after 0
  unfolding label_line
  label_line_ok labels number e =
      let s0 = then_ok (counted 1 tokens) (λ c. label_fault labels number (label_name (token_at tokens 0)) >>= (λ fault. Ok draft)) after e in
      let s1 = then_ok (label_fault labels number (label_name (token_at tokens 0))) (λ fault. Ok draft) after s0.2 in
      same_ok count draft d after (let h = s1.2 in cc)

  directive_line_ok : (which : Directive) → directive_line draft which tokens ≡ Ok after → Goes count draft after 0
  unfolding directive_line
  directive_line_ok directive.Ram e = ram_line_ok e
  directive_line_ok directive.Hart e = hart_line_ok e
  directive_line_ok directive.Set e = set_line_ok e
  directive_line_ok directive.Bytes e = bytes_line_ok e
  directive_line_ok directive.Cap e = cap_line_ok e

-- a directive's name is no instruction's
ram_counts_none : count_of (codes ".ram") ≡ 0
unfolding count_of is_instruction mnemonic_of mnemonic_table found_at
ram_counts_none = refl

hart_counts_none : count_of (codes ".hart") ≡ 0
unfolding count_of is_instruction mnemonic_of mnemonic_table found_at
hart_counts_none = refl

set_counts_none : count_of (codes ".set") ≡ 0
unfolding count_of is_instruction mnemonic_of mnemonic_table found_at
set_counts_none = refl

bytes_counts_none : count_of (codes ".bytes") ≡ 0
unfolding count_of is_instruction mnemonic_of mnemonic_table found_at
bytes_counts_none = refl

cap_counts_none : count_of (codes ".cap") ≡ 0
unfolding count_of is_instruction mnemonic_of mnemonic_table found_at
cap_counts_none = refl

name_step : (same : Bool) (name token : List ℕ) (which other : Directive) (rest : Option Directive) → bytes_eq name token ≡ same → count_of name ≡ 0
    → (rest ≡ Some which → count_of token ≡ 0) → cond same (Some other) rest ≡ Some which → count_of token ≡ 0
name_step true name token which other rest t none later e = ap count_of (sym ((bytes_eq-Decides name token).0 t)) ∙ none
name_step false name token which other rest t none later e = later e

directive_counts_none : (token : List ℕ) (which : Directive) → directive_of token ≡ Some which → count_of token ≡ 0
unfolding directive_of found_at
directive_counts_none token which e =
    name_step (bytes_eq (codes ".ram") token) (codes ".ram") token which directive.Ram (found_at (drop 1 directive_table) token) refl ram_counts_none
    (name_step (bytes_eq (codes ".hart") token) (codes ".hart") token which directive.Hart (found_at (drop 2 directive_table) token) refl hart_counts_none
    (name_step (bytes_eq (codes ".set") token) (codes ".set") token which directive.Set (found_at (drop 3 directive_table) token) refl set_counts_none
    (name_step (bytes_eq (codes ".bytes") token) (codes ".bytes") token which directive.Bytes (found_at (drop 4 directive_table) token) refl bytes_counts_none
    (name_step (bytes_eq (codes ".cap") token) (codes ".cap") token which directive.Cap None refl cap_counts_none (λ none. absurd (cc)))))) e

some_words : (n : ℕ) → (suc n == 0) ≡ false
some_words n = grind (arith, nat_tests)

module _ (count : ℕ) (labels : LabelParts) (few : labels.instructions ≤ count) (bounded : IsBounded labels) where
  other_ok : (number : ℕ) (draft after : DraftParts) (found : Option Mnemonic) (label : Bool) (tokens : List (List ℕ)) → IsDraft count draft → mnemonic_of (token_at tokens 0) ≡ found → is_label_token (token_at tokens 0) ≡ label
      → other_line labels number draft found tokens ≡ Ok after → Goes count draft after (count_of (token_at tokens 0))
  unfolding other_line count_of is_instruction
  other_ok number draft after (Some mnemonic) label tokens d m l e = rw m (instruction_line_ok count draft d tokens after labels mnemonic few bounded e)
  other_ok number draft after None true tokens d m l e = rw m (label_line_ok count draft d tokens after labels number (rw l at e))
  other_ok number draft after None false tokens d m l e = absurd (let clash = rw l at e in cc)

  line_from_ok : (number : ℕ) (draft after : DraftParts) (which : Option Directive) (tokens : List (List ℕ)) → IsDraft count draft → directive_of (token_at tokens 0) ≡ which
      → line_from labels number draft which tokens ≡ Ok after → Goes count draft after (count_of (token_at tokens 0))
  unfolding line_from
  line_from_ok number draft after (Some which) tokens d n e =
      subst (Goes count draft after) (sym (directive_counts_none (token_at tokens 0) which n)) (directive_line_ok count draft d tokens after which e)
  line_from_ok number draft after None tokens d n e = other_ok number draft after _ _ tokens d refl refl e

  no_words : count_of (token_at [] 0) ≡ 0
  unfolding token_at count_of is_instruction mnemonic_of mnemonic_table found_at
  no_words = refl

  tokens_ok : (number : ℕ) (draft after : DraftParts) (tokens : List (List ℕ)) → IsDraft count draft → tokens_meaning labels number draft tokens ≡ Ok after → Goes count draft after (count_of (token_at tokens 0))
  unfolding tokens_meaning
  tokens_ok number draft after [] d e = subst (Goes count draft after) (sym no_words) (same_ok count draft d after (cc))
  tokens_ok number draft after (word ∷ words) d e = line_from_ok number draft after _ (word ∷ words) d refl (rw (some_words (length words)) at e)

  line_ok : (number : ℕ) (draft after : DraftParts) (line : List ℕ) → IsDraft count draft → line_meaning labels number draft line ≡ Ok after → Goes count draft after (count_of (token_at (tokens_of line) 0))
  unfolding line_meaning
  line_ok number draft after line d e =
      let plain = test_true (list_all is_plain line) (tokens_meaning labels number draft (tokens_of line)) kind.NotAscii after e in
      tokens_ok number draft after (tokens_of line) d plain.1

  at_line_ok : (number : ℕ) (made : Result DraftParts ListingFaultKind) (next : DraftParts) → at_line number made ≡ Ok next → made ≡ Ok next
  at_line_ok number (Ok draft) next e = let same : draft ≡ next = cc in ap (λ x. Ok x) same
  at_line_ok number (Err f) next e = absurd (cc)

  lines_ok : (lines : List (List ℕ)) (number : ℕ) (draft after : DraftParts) → IsDraft count draft → lines_meaning labels number draft lines ≡ Ok after → Goes count draft after (instruction_lines lines)
  unfolding lines_meaning instruction_lines
  lines_ok [] number draft after d e = same_ok count draft d after (cc)
  lines_ok (line ∷ lines) number draft after d e =
      let s0 = then_ok (at_line number (line_meaning labels number draft line)) (λ next. lines_meaning labels (number + 1) next lines) after e in
      let one = line_ok number draft s0.0 line d (at_line_ok number (line_meaning labels number draft line) s0.0 s0.1) in
      let rest = lines_ok lines (number + 1) s0.0 after one.good s0.2 in
      let a = one.counted in
      let b = rest.counted in
      record { good = rest.good; counted = omega (arith, a, b) }

-- a label is at or before the end of the instruction lines
place_step : (instruction label same : Bool) (token name : List ℕ) (place found : LabelLine) → is_instruction token ≡ instruction → is_label_token token ≡ label → bytes_eq (label_name token) name ≡ same
    → found_at (label_of token place) name ≡ Some found → place ≡ found
unfolding label_of found_at
place_step true label same token name place found i l s e = absurd (let clash = rw i at e in cc)
place_step false true true token name place found i l s e = let h = rw (i, l, s) at e in cc
place_step false true false token name place found i l s e = absurd (let clash = rw (i, l, s) at e in cc)
place_step false false same token name place found i l s e = absurd (let clash = rw (i, l) at e in cc)

either_place : (here later : Option LabelLine) (limit : ℕ) (found : LabelLine) → ((place : LabelLine) → here ≡ Some place → place.instructions ≤ limit) → ((place : LabelLine) → later ≡ Some place → place.instructions ≤ limit)
    → first_line here later ≡ Some found → found.instructions ≤ limit
either_place (Some place) later limit found h k e = h found e
either_place None later limit found h k e = k found e

labels_bounded : (lines : List (List ℕ)) (number instructions : ℕ) (name : List ℕ) (found : LabelLine) → found_at (labels_from number instructions lines) name ≡ Some found → found.instructions ≤ instructions + instruction_lines lines
unfolding labels_from instruction_lines found_at
labels_bounded [] number instructions name found e = absurd (cc)
labels_bounded (line ∷ lines) number instructions name found e =
    let token = token_at (tokens_of line) 0 in
    let place : LabelLine = record { line = number; instructions = instructions } in
    let later = labels_from (number + 1) (instructions + count_of token) lines in
    let split : first_line (found_at (label_of token place) name) (found_at later name) ≡ Some found = sym (found-append (label_of token place) later name) ∙ e in
    either_place (found_at (label_of token place) name) (found_at later name) (instructions + (count_of token + instruction_lines lines)) found
    (λ p h. (let same : place ≡ p = place_step _ _ _ token name place p refl refl refl h in let at : instructions ≡ p.instructions = ap (λ (q : LabelLine). q.instructions) same in omega (arith, at)))
    (λ p h. (let rest = labels_bounded lines (number + 1) (instructions + count_of token) name p h in omega (arith, rest))) split

places_bounded : (text : List ℕ) → IsBounded (labels_of text)
unfolding labels_of
places_bounded text name place e = let h = labels_bounded (lines_of text) 1 0 name place e in omega (arith, h)

opening_draft : (count : ℕ) → IsDraft count empty_draft
opening_draft count = record {
  legal = refl;
  values = All-replicate IsWritable 256 (raw 0) (omega arith);
  all_harts = All-nil IsWritableHart;
  most_harts = omega arith;
  instructions = All-nil (λ i. IsReadable count (form_of i));
  most_instructions = omega arith;
}

some_where : (n : ℕ) → (n == 0) ≡ false → 0 < n
some_where n e = grind (arith, nat_tests)

abbrev OnImage : Result ImageParts ListingFault → Type 0
OnImage (Ok image) = IsListable image
OnImage (Err f) = Unit {0}

places_count : (text : List ℕ) → (labels_of text).instructions ≤ instruction_lines (lines_of text)
unfolding labels_of
places_count text = omega arith

-- what a whole draft is finished to
finished_ok : (draft : DraftParts) (image : ImageParts) → IsDraft (length draft.program) draft → finished draft ≡ Ok image → IsListable image
unfolding finished
finished_ok draft image d e =
    let harts = test_false (length draft.harts == 0) (cond (length draft.program == 0) (Err (whole_fault kind.Size)) (Ok (record { program = draft.program; ram = 16 * length draft.memory; granules = listed_from ram_base draft.memory; harts = draft.harts }))) (whole_fault kind.NoHart) image e in
    let program = test_false (length draft.program == 0) (Ok (record { program = draft.program; ram = 16 * length draft.memory; granules = listed_from ram_base draft.memory; harts = draft.harts })) (whole_fault kind.Size) image harts.1 in
    subst OnImage program.1 (record {
      memory = draft.memory;
      size = d.legal;
      whole = refl;
      listed = refl;
      values = recursion_from_All IsWritable draft.memory d.values;
      writable_harts = recursion_from_All IsWritableHart draft.harts d.all_harts;
      some_harts = some_where (length draft.harts) harts.0;
      most_harts = d.most_harts;
      readable = recursion_from_All (λ i. IsReadable (length draft.program) (form_of i)) draft.program d.instructions;
      some_instructions = some_where (length draft.program) program.0;
      most_instructions = d.most_instructions;
    })

-- the image that a listing means is listable
pub meant_is_listable : (text : List ℕ) (image : ImageParts) → listing_meaning text ≡ Ok image → IsListable image
unfolding listing_meaning
meant_is_listable text image e =
    let count = instruction_lines (lines_of text) in
    let s0 = test_false (nat_lt listing_limit (length text)) (lines_meaning (labels_of text) 1 empty_draft (lines_of text) >>= (λ draft. finished draft)) (whole_fault kind.Size) image e in
    let s1 = then_ok (lines_meaning (labels_of text) 1 empty_draft (lines_of text)) (λ draft. finished draft) image s0.1 in
    let read = lines_ok count (labels_of text) (places_count text) (places_bounded text) (lines_of text) 1 empty_draft s1.0 (opening_draft count) s1.1 in
    let all : length s1.0.program ≡ instruction_lines (lines_of text) = (let c = read.counted in omega (arith, c)) in
    finished_ok s1.0 image (subst (λ n. IsDraft n s1.0) (sym all) read.good) s1.2
