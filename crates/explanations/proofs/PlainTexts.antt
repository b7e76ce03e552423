-- Texts that stand for themselves in JSON: no byte of theirs is escaped.
use Rattle.std.proofs.Common.{◌≡◌, ℕ, zero, suc, pos, negsuc, ◌/◌, ◌%◌, ◌<◌, ◌==◌, Bool, true, false, if◌then◌else◌, List, [], ◌∷◌, ◌++◌, codes, decimal, refl, ◌∙◌, arith}
use Rattle.std.specs.Prelude.{ℤ, ⊤}
use Rattle.std.specs.Char.{digit_char}
use Rattle.std.specs.Fmt.{digit_glyph, digits_onto, digits, signed_decimal}
use Rattle.std.proofs.lemmas.Bool.Decides.{nat_tests}
use Rattle.std.proofs.lemmas.Grind.{flat_map-append}
use Rattle.json.specs.Print.{escape_byte, escape}
use Rattle.cap_model.specs.values.Capability.{unsealed_type, sentry_type}
use Rattle.cap_model.specs.words.PermissionNames.{permission_table}
use Rattle.cheri_model.specs.declared.form.Form.{Form}
use Rattle.cheri_model.specs.declared.form.Form.TheVariants as form
use Rattle.cheri_model.specs.declared.form.ThreeOp.TheVariants as three_op
use Rattle.cheri_model.specs.declared.form.TwoOp.TheVariants as two_op
use Rattle.cheri_model.specs.declared.form.ImmediateOp.TheVariants as immediate_op
use Rattle.cheri_model.specs.declared.form.ShiftOp.TheVariants as shift_op
use Rattle.cheri_model.specs.declared.form.WordShiftOp.TheVariants as word_shift_op
use Rattle.cheri_model.specs.declared.form.UpperOp.TheVariants as upper_op
use Rattle.cheri_model.specs.declared.form.LoadOp.TheVariants as load_op
use Rattle.cheri_model.specs.declared.form.StoreOp.TheVariants as store_op
use Rattle.cheri_model.specs.declared.form.BranchOp.TheVariants as branch_op
use Rattle.cheri_model.specs.declared.names.Mnemonic.{Mnemonic}
use Rattle.cheri_model.specs.declared.names.Mnemonic.TheVariants.{Three, Two, Immediate, Shift, WordShift, SetBoundsImm, Upper, Load, Store, Swap, Branch, Jump, Invoke, Alone}
use Rattle.cheri_model.specs.instructions.Names.{mnemonic_table, name_among, name_of}
use Rattle.notation.specs.Instructions.{form_text}
use Rattle.notation.specs.Permissions.{joined_text}
use Rattle.report_lines.specs.Names.{address_of_granule}
use Rattle.report_lines.specs.ValueText.{hex_text, type_text, word_text}
use Rattle.origins.specs.declared.place.Spot.{Spot}
use Rattle.origins.specs.declared.place.Spot.TheVariants.{Pcc, Register, Granule}
use Rattle.origins.specs.declared.place.Place.{Place}
use Rattle.origins.specs.declared.place.Place.TheVariants.{PccOf, RegisterOf, GranuleOf}
use Rattle.facts.specs.declared.why.Why.{Why}
use Rattle.facts.specs.declared.why.Why.TheVariants as why
use Rattle.explanations.specs.Names.{spot_name, origin_name}
use Rattle.explanations.specs.FactData.{spot_key}
use Rattle.explanations.specs.Reasons.{permission_names, permission_set, untagged, why_text}

abbrev pub IsPlain : List ℕ → Type 0
IsPlain s = escape s ≡ s

pub joined : (s t : List ℕ) → IsPlain s → IsPlain t → IsPlain (s ++ t)
joined s t first second = flat_map-append escape_byte s t ∙ (λ i. first i ++ second i)

either : (b : Bool) (s t : List ℕ) → IsPlain s → IsPlain t → IsPlain (if b then s else t)
either true s t first second = first
either false s t first second = second

-- ---- numbers

hex_digit : (d : ℕ) → d < 16 → IsPlain (digit_char d ∷ [])
unfolding escape_byte
hex_digit d small = grind (arith, nat_tests)

pub hex : (width n : ℕ) → IsPlain (hex_text width n)
unfolding hex_text
hex zero n = refl
hex (suc width) n = joined _ _ (hex width (n / 16)) (hex_digit (n % 16) (omega arith))

digit : (d : ℕ) → d < 10 → IsPlain (digit_glyph false d ∷ [])
unfolding escape_byte
digit d small = grind (arith, nat_tests)

onto : (k n : ℕ) (rest : List ℕ) → IsPlain rest → IsPlain (digits_onto k 10 false n rest)
onto zero n rest plain = plain
onto (suc k) n rest plain =
    let more : IsPlain (digit_glyph false (n % 10) ∷ rest) = joined (digit_glyph false (n % 10) ∷ []) rest (digit (n % 10) (omega arith)) plain in
    either _ _ _ more (onto k (n / 10) _ more)

pub number : (n : ℕ) → IsPlain (decimal n)
unfolding digits
number n = onto 64 n [] refl

pub signed : (z : ℤ) → IsPlain (signed_decimal z)
unfolding escape_byte
signed (pos n) = number n
signed (negsuc n) = joined (45 ∷ []) _ refl (number (suc n))

-- ---- values and names

pub word : (bits : ℕ) → IsPlain (word_text bits)
unfolding escape_byte
word bits = joined _ _ (hex 16 _) (joined (codes "_") _ refl (hex 16 _))

pub type_name : (otype : ℕ) → IsPlain (type_text otype)
unfolding escape_byte
type_name otype =
    either (otype == unsealed_type) (codes "unsealed") _ refl (either (otype == sentry_type) (codes "sentry") (decimal otype) refl (number otype))

register : (n : ℕ) → IsPlain (codes "c" ++ decimal n)
unfolding escape_byte
register n = joined (codes "c") _ refl (number n)

memory : (n : ℕ) → IsPlain (codes "mem " ++ hex_text 16 n)
unfolding escape_byte
memory n = joined (codes "mem ") _ refl (hex 16 n)

pub spot : (s : Spot) → IsPlain (spot_name s)
unfolding escape_byte
spot Pcc = refl
spot (Register number) = register number
spot (Granule number) = memory (address_of_granule number)

pub key : (s : Spot) → IsPlain (spot_key s)
unfolding escape_byte
key Pcc = refl
key (Register number) = register number
key (Granule number) = hex 16 (address_of_granule number)

pub origin : (p : Place) → IsPlain (origin_name p)
unfolding escape_byte
origin (PccOf hart) = joined _ (codes ":pcc") (number hart) refl
origin (RegisterOf hart n) = joined _ _ (number hart) (joined (codes ":c") _ refl (number n))
origin (GranuleOf n) = joined (codes "mem:") _ refl (hex 16 (address_of_granule n))

-- ---- instructions

name : (m : Mnemonic) → IsPlain (name_of m)
unfolding name_of name_among mnemonic_table escape_byte
name (Three three_op.CSetAddr) = refl
name (Three _) = refl
name (Two two_op.CMove) = refl
name (Two _) = refl
name (Immediate immediate_op.CIncOffsetImm) = refl
name (Immediate _) = refl
name (Shift shift_op.Slli) = refl
name (Shift _) = refl
name (WordShift word_shift_op.Slliw) = refl
name (WordShift _) = refl
name SetBoundsImm = refl
name (Upper upper_op.Lui) = refl
name (Upper _) = refl
name (Load load_op.Lb) = refl
name (Load _) = refl
name (Store store_op.Sb) = refl
name (Store _) = refl
name Swap = refl
name (Branch branch_op.Beq) = refl
name (Branch _) = refl
name Jump = refl
name Invoke = refl
name Alone = refl

pub instruction : (f : Form) → IsPlain (form_text f)
unfolding form_text escape_byte
instruction (form.Three op cd c1 c2) = joined _ _ (name (Three op)) (joined (codes " c") _ refl (joined _ _ (number cd) (joined (codes ", c") _ refl (joined _ _ (number c1) (joined (codes ", c") _ refl (number c2))))))
instruction (form.Two op cd c1) = joined _ _ (name (Two op)) (joined (codes " c") _ refl (joined _ _ (number cd) (joined (codes ", c") _ refl (number c1))))
instruction (form.Immediate op cd c1 imm) = joined _ _ (name (Immediate op)) (joined (codes " c") _ refl (joined _ _ (number cd) (joined (codes ", c") _ refl (joined _ _ (number c1) (joined (codes ", ") _ refl (signed imm))))))
instruction (form.Shift op cd c1 amount) = joined _ _ (name (Shift op)) (joined (codes " c") _ refl (joined _ _ (number cd) (joined (codes ", c") _ refl (joined _ _ (number c1) (joined (codes ", ") _ refl (number amount))))))
instruction (form.WordShift op cd c1 amount) = joined _ _ (name (WordShift op)) (joined (codes " c") _ refl (joined _ _ (number cd) (joined (codes ", c") _ refl (joined _ _ (number c1) (joined (codes ", ") _ refl (number amount))))))
instruction (form.SetBoundsImm cd c1 len) = joined _ _ (name SetBoundsImm) (joined (codes " c") _ refl (joined _ _ (number cd) (joined (codes ", c") _ refl (joined _ _ (number c1) (joined (codes ", ") _ refl (number len))))))
instruction (form.Upper op cd imm) = joined _ _ (name (Upper op)) (joined (codes " c") _ refl (joined _ _ (number cd) (joined (codes ", ") _ refl (number imm))))
instruction (form.Load op cd c1 imm) = joined _ _ (name (Load op)) (joined (codes " c") _ refl (joined _ _ (number cd) (joined (codes ", ") _ refl (joined _ _ (signed imm) (joined (codes "(c") _ refl (joined _ (codes ")") (number c1) (refl)))))))
instruction (form.Store op c2 c1 imm) = joined _ _ (name (Store op)) (joined (codes " c") _ refl (joined _ _ (number c2) (joined (codes ", ") _ refl (joined _ _ (signed imm) (joined (codes "(c") _ refl (joined _ (codes ")") (number c1) (refl)))))))
instruction (form.Swap cd c2 c1) = joined _ _ (name Swap) (joined (codes " c") _ refl (joined _ _ (number cd) (joined (codes ", c") _ refl (joined _ _ (number c2) (joined (codes ", c") _ refl (number c1))))))
instruction (form.Branch op c1 c2 target) = joined _ _ (name (Branch op)) (joined (codes " c") _ refl (joined _ _ (number c1) (joined (codes ", c") _ refl (joined _ _ (number c2) (joined (codes ", @") _ refl (number target))))))
instruction (form.Jump cd target) = joined _ _ (name Jump) (joined (codes " c") _ refl (joined _ _ (number cd) (joined (codes ", @") _ refl (number target))))
instruction (form.Invoke c1 c2) = joined _ _ (name Invoke) (joined (codes " c") _ refl (joined _ _ (number c1) (joined (codes ", c") _ refl (number c2))))
instruction form.Alone = name Alone

-- ---- reasons

-- the names of a table's rows are plain
abbrev ArePlain : List (List ℕ × ℕ) → Type 0
ArePlain [] = ⊤
ArePlain (row ∷ rows) = IsPlain row.0 × ArePlain rows

permissions : (begun : Bool) (perms : ℕ) (rows : List (List ℕ × ℕ)) → ArePlain rows → IsPlain (joined_text begun perms rows)
unfolding joined_text escape_byte
permissions begun perms [] plain = refl
permissions begun perms (row ∷ rows) plain =
    either _ _ _ (joined _ _ (either begun (codes "+") [] refl refl) (joined _ _ plain.0 (permissions true perms rows plain.1)))
    (permissions begun perms rows plain.1)

permission : (perms : ℕ) → IsPlain (permission_names perms)
unfolding escape_byte
permission perms = permissions false perms permission_table (refl, (refl, (refl, (refl, (refl, (refl, (refl, (refl, (refl, (refl, (refl, (refl, (refl, (refl, (refl, (refl, tt))))))))))))))))

no_tag : (s : Spot) → IsPlain (untagged s)
unfolding escape_byte
no_tag s = joined _ (codes " is untagged") (spot s) refl

pub reason : (w : Why) → IsPlain (why_text w)
unfolding why_text escape_byte
reason why.AskedFor = refl
reason why.UpperReplaced = refl
reason (why.Sealed name otype) = joined _ _ (spot name) (joined (codes " is sealed (") _ refl (joined _ (codes ")") (type_name otype) (refl)))
reason (why.OutsideRegion address power start) = joined (codes "address ") _ refl (joined _ _ (hex 16 address) (joined (codes " is outside the representable region of 2^") _ refl (joined _ _ (number power) (joined (codes " bytes at ") _ refl (hex 16 start)))))
reason (why.BaseBelow base limit) = joined (codes "base ") _ refl (joined _ _ (hex 16 base) (joined (codes " is below ") _ refl (hex 16 limit)))
reason (why.EndAbove end limit) = joined (codes "end ") _ refl (joined _ _ (hex 17 end) (joined (codes " is above ") _ refl (hex 17 limit)))
reason (why.Rounds base top) = joined (codes "rounds to ") _ refl (joined _ _ (hex 16 base) (joined (codes " ") _ refl (hex 17 top)))
reason (why.Lacks name permitted) = joined _ _ (spot name) (joined (codes " has no ") _ refl (permission (permission_set permitted)))
reason (why.Untagged name) = no_tag name
reason (why.TypeOutside otype base top authority) = joined (codes "type ") _ refl (joined _ _ (hex 16 otype) (joined (codes " is not in ") _ refl (joined _ _ (hex 16 base) (joined (codes " ") _ refl (joined _ _ (hex 17 top) (joined (codes " of ") _ refl (spot authority)))))))
reason (why.TypeAbove otype) = joined (codes "type ") _ refl (joined _ (codes " is above 262139") (hex 16 otype) (refl))
reason (why.NotSealed name) = joined _ (codes " is not sealed") (spot name) (refl)
reason (why.Sentry name) = joined _ (codes " is sealed as sentry") (spot name) (refl)
reason (why.TypeDiffers otype authority sealed_type) = joined (codes "type ") _ refl (joined _ _ (hex 16 otype) (joined (codes " of ") _ refl (joined _ _ (spot authority) (joined (codes " is not ") _ refl (number sealed_type)))))
reason (why.ReservedBits name) = joined _ (codes " has reserved bits") (spot name) (refl)
reason (why.TopAbove top limit) = joined (codes "top ") _ refl (joined _ _ (hex 17 top) (joined (codes " is above ") _ refl (hex 17 limit)))
reason (why.BaseAboveTop base top) = joined (codes "base ") _ refl (joined _ _ (hex 16 base) (joined (codes " is above top ") _ refl (hex 17 top)))
reason (why.MorePermissions name permissions source) = joined _ _ (spot name) (joined (codes " has ") _ refl (joined _ _ (permission permissions.0) (joined (codes " that ") _ refl (joined _ (codes " lacks") (spot source) (refl)))))
reason (why.NotAligned alignment) = joined (codes "bounds are no multiples of ") _ refl (hex 16 alignment)
reason why.DataStored = refl
