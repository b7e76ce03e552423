-- Names, reasons and instructions have no mark.
use Rattle.std.proofs.Common.{◌≡◌, ℕ, ◌==◌, ◌/◌, ◌%◌, ◌^◌, nat_lt, Bool, true, false, ◌||◌, if◌then◌else◌, List, [], ◌∷◌, ◌++◌, codes, decimal, refl, Option, Some, None}
use Rattle.std.specs.Prelude.{bit_and}
use Rattle.std.specs.Option.{unwrap_or}
use Rattle.std.specs.Fmt.{signed_decimal}
use Rattle.cap_model.specs.words.PermissionNames.{permission_table}
use Rattle.cap_model.specs.values.Capability.{unsealed_type, sentry_type}
use Rattle.cheri_model.specs.declared.form.Form.{Form}
use Rattle.cheri_model.specs.declared.form.Form.TheVariants as form
use Rattle.cheri_model.specs.declared.names.Mnemonic.{Mnemonic}
use Rattle.cheri_model.specs.declared.names.Mnemonic.TheVariants as mnemonic
use Rattle.cheri_model.specs.contracts.names.MnemonicPartialEq.TheImpl as same
use Rattle.cheri_model.specs.instructions.Names.{mnemonic_table, name_among, name_of}
use Rattle.notation.specs.Instructions.{form_text}
use Rattle.notation.specs.Permissions.{joined_text}
use Rattle.report_lines.specs.Names.{address_of_granule, register_name}
use Rattle.report_lines.specs.ValueText.{hex_text, type_text, word_text}
use Rattle.origins.specs.declared.place.Spot.{Spot}
use Rattle.origins.specs.declared.place.Spot.TheVariants.{Pcc, Register, Granule}
use Rattle.origins.specs.declared.place.Place.{Place}
use Rattle.origins.specs.declared.place.Place.TheVariants.{PccOf, RegisterOf, GranuleOf}
use Rattle.facts.specs.declared.why.Why.{Why}
use Rattle.facts.specs.declared.why.Why.TheVariants as why
use Rattle.facts.specs.declared.why.TrapWhy.{TrapWhy}
use Rattle.facts.specs.declared.why.TrapWhy.TheVariants as trap_why
use Rattle.explanations.specs.Names.{spot_name, swept_name, origin_name}
use Rattle.explanations.specs.Reasons.{permission_names, permission_set, h64, h65, untagged, sealed, lacks, outside_region, type_outside, why_text, outside, trap_why_text}
use Rattle.explanations.specs.FactData.{spot_key}
use Rattle.explained_page.specs.ScriptText.{has_mark}
use Rattle.explained_page.proofs.PlainTexts.{joined, either, both, or_left, or_right, decimal_plain, signed_plain, hex_plain}

abbrev Plain : List ℕ → Type 0
Plain text = has_mark text ≡ false

-- ---- instructions

abbrev names_marked : List (List ℕ × Mnemonic) → Bool
names_marked [] = false
names_marked (row ∷ rows) = has_mark row.0 || names_marked rows

unwrap_if : (b : Bool) (name : List ℕ) (other : Option (List ℕ)) → Plain name → Plain (unwrap_or other [])
    → Plain (unwrap_or (if b then Some name else other) [])
unwrap_if true name other first second = first
unwrap_if false name other first second = second

among_plain : (rows : List (List ℕ × Mnemonic)) (m : Mnemonic) → names_marked rows ≡ false → Plain (unwrap_or (name_among rows m) [])
unfolding name_among
among_plain [] m plain = refl
among_plain (row ∷ rows) m plain =
    unwrap_if ((same.ghosts).eq row.1 m) row.0 (name_among rows m) (or_left (has_mark row.0) (names_marked rows) plain)
    (among_plain rows m (or_right (has_mark row.0) (names_marked rows) plain))

table_plain : names_marked mnemonic_table ≡ false
unfolding mnemonic_table
table_plain = refl

name_plain : (m : Mnemonic) → Plain (name_of m)
unfolding name_of
name_plain m = among_plain mnemonic_table m table_plain

-- the same as a type of its own, so that the rest of a text is found
record Clean (text : List ℕ) : Type 0 where
  pub none : has_mark text ≡ false

says : {text : List ℕ} → has_mark text ≡ false → Clean text
says plain = record { none = plain }

join : (first second : List ℕ) → Clean first → Clean second → Clean (first ++ second)
join first second a b = record { none = joined first second a.none b.none }

middle : (first second third : List ℕ) → Clean first → Clean second → Clean third → Clean (first ++ (second ++ third))
middle first second third a b c = join first (second ++ third) a (join second third b c)

-- a number after these letters, and then more
after : (head : List ℕ) (n : ℕ) (rest : List ℕ) → Clean head → Clean rest → Clean (head ++ (decimal n ++ rest))
after head n rest first second = middle head (decimal n) rest first (says (decimal_plain n)) second

form_clean : (f : Form) → Clean (form_text f)
unfolding form_text
form_clean (form.Three op cd c1 c2) =
    join (name_of (mnemonic.Three op)) _ (says (name_plain (mnemonic.Three op)))
    (after (codes " c") cd _ (says refl) (after (codes ", c") c1 _ (says refl) (join (codes ", c") (decimal c2) (says refl) (says (decimal_plain c2)))))
form_clean (form.Two op cd c1) =
    join (name_of (mnemonic.Two op)) _ (says (name_plain (mnemonic.Two op)))
    (after (codes " c") cd _ (says refl) (join (codes ", c") (decimal c1) (says refl) (says (decimal_plain c1))))
form_clean (form.Immediate op cd c1 imm) =
    join (name_of (mnemonic.Immediate op)) _ (says (name_plain (mnemonic.Immediate op)))
    (after (codes " c") cd _ (says refl) (after (codes ", c") c1 _ (says refl) (join (codes ", ") (signed_decimal imm) (says refl) (says (signed_plain imm)))))
form_clean (form.Shift op cd c1 amount) =
    join (name_of (mnemonic.Shift op)) _ (says (name_plain (mnemonic.Shift op)))
    (after (codes " c") cd _ (says refl) (after (codes ", c") c1 _ (says refl) (join (codes ", ") (decimal amount) (says refl) (says (decimal_plain amount)))))
form_clean (form.WordShift op cd c1 amount) =
    join (name_of (mnemonic.WordShift op)) _ (says (name_plain (mnemonic.WordShift op)))
    (after (codes " c") cd _ (says refl) (after (codes ", c") c1 _ (says refl) (join (codes ", ") (decimal amount) (says refl) (says (decimal_plain amount)))))
form_clean (form.SetBoundsImm cd c1 len) =
    join (name_of mnemonic.SetBoundsImm) _ (says (name_plain mnemonic.SetBoundsImm))
    (after (codes " c") cd _ (says refl) (after (codes ", c") c1 _ (says refl) (join (codes ", ") (decimal len) (says refl) (says (decimal_plain len)))))
form_clean (form.Upper op cd imm) =
    join (name_of (mnemonic.Upper op)) _ (says (name_plain (mnemonic.Upper op)))
    (after (codes " c") cd _ (says refl) (join (codes ", ") (decimal imm) (says refl) (says (decimal_plain imm))))
form_clean (form.Load op cd c1 imm) =
    join (name_of (mnemonic.Load op)) _ (says (name_plain (mnemonic.Load op)))
    (after (codes " c") cd _ (says refl) (join (codes ", ") _ (says refl) (join (signed_decimal imm) _ (says (signed_plain imm))
    (after (codes "(c") c1 (codes ")") (says refl) (says refl)))))
form_clean (form.Store op c2 c1 imm) =
    join (name_of (mnemonic.Store op)) _ (says (name_plain (mnemonic.Store op)))
    (after (codes " c") c2 _ (says refl) (join (codes ", ") _ (says refl) (join (signed_decimal imm) _ (says (signed_plain imm))
    (after (codes "(c") c1 (codes ")") (says refl) (says refl)))))
form_clean (form.Swap cd c2 c1) =
    join (name_of mnemonic.Swap) _ (says (name_plain mnemonic.Swap))
    (after (codes " c") cd _ (says refl) (after (codes ", c") c2 _ (says refl) (join (codes ", c") (decimal c1) (says refl) (says (decimal_plain c1)))))
form_clean (form.Branch op c1 c2 target) =
    join (name_of (mnemonic.Branch op)) _ (says (name_plain (mnemonic.Branch op)))
    (after (codes " c") c1 _ (says refl) (after (codes ", c") c2 _ (says refl) (join (codes ", @") (decimal target) (says refl) (says (decimal_plain target)))))
form_clean (form.Jump cd target) =
    join (name_of mnemonic.Jump) _ (says (name_plain mnemonic.Jump))
    (after (codes " c") cd _ (says refl) (join (codes ", @") (decimal target) (says refl) (says (decimal_plain target))))
form_clean (form.Invoke c1 c2) =
    join (name_of mnemonic.Invoke) _ (says (name_plain mnemonic.Invoke))
    (after (codes " c") c1 _ (says refl) (join (codes ", c") (decimal c2) (says refl) (says (decimal_plain c2))))
form_clean form.Alone = says (name_plain mnemonic.Alone)

pub form_plain : (f : Form) → Plain (form_text f)
form_plain f = (form_clean f).none

-- ---- values and places

pub type_plain : (otype : ℕ) → Plain (type_text otype)
type_plain otype =
    either (otype == unsealed_type) (codes "unsealed") (if otype == sentry_type then codes "sentry" else decimal otype) refl
    (either (otype == sentry_type) (codes "sentry") (decimal otype) refl (decimal_plain otype))

pub word_plain : (bits : ℕ) → Plain (word_text bits)
word_plain bits =
    joined (hex_text 16 (bits / 2 ^ 64)) (codes "_" ++ hex_text 16 (bits % 2 ^ 64)) (hex_plain 16 (bits / 2 ^ 64))
    (joined (codes "_") (hex_text 16 (bits % 2 ^ 64)) refl (hex_plain 16 (bits % 2 ^ 64)))

pub register_plain : (number : ℕ) → Plain (register_name number)
register_plain number = decimal_plain number

pub spot_plain : (spot : Spot) → Plain (spot_name spot)
spot_plain Pcc = refl
spot_plain (Register number) = decimal_plain number
spot_plain (Granule number) = hex_plain 16 (address_of_granule number)

pub key_plain : (spot : Spot) → Plain (spot_key spot)
key_plain Pcc = refl
key_plain (Register number) = decimal_plain number
key_plain (Granule number) = hex_plain 16 (address_of_granule number)

pub swept_plain : (place : Place) → Plain (swept_name place)
swept_plain (PccOf hart) = joined (decimal hart) (codes ":pcc") (decimal_plain hart) refl
swept_plain (RegisterOf hart number) = joined (decimal hart) (codes ":c" ++ decimal number) (decimal_plain hart) (decimal_plain number)
swept_plain (GranuleOf number) = hex_plain 16 (address_of_granule number)

pub origin_plain : (place : Place) → Plain (origin_name place)
origin_plain (PccOf hart) = joined (decimal hart) (codes ":pcc") (decimal_plain hart) refl
origin_plain (RegisterOf hart number) = joined (decimal hart) (codes ":c" ++ decimal number) (decimal_plain hart) (decimal_plain number)
origin_plain (GranuleOf number) = hex_plain 16 (address_of_granule number)

-- ---- reasons

abbrev perms_marked : List (List ℕ × ℕ) → Bool
perms_marked [] = false
perms_marked (row ∷ rows) = has_mark row.0 || perms_marked rows

joined_plain : (begun : Bool) (perms : ℕ) (rows : List (List ℕ × ℕ)) → perms_marked rows ≡ false → Plain (joined_text begun perms rows)
unfolding joined_text
joined_plain begun perms [] plain = refl
joined_plain begun perms (row ∷ rows) plain =
    let here = or_left (has_mark row.0) (perms_marked rows) plain in
    let others = or_right (has_mark row.0) (perms_marked rows) plain in
    either (bit_and perms row.1 == row.1) ((if begun then codes "+" else []) ++ (row.0 ++ joined_text true perms rows)) (joined_text begun perms rows)
    (joined (if begun then codes "+" else []) (row.0 ++ joined_text true perms rows) (either begun (codes "+") [] refl refl)
    (joined row.0 (joined_text true perms rows) here (joined_plain true perms rows others)))
    (joined_plain begun perms rows others)

perms_plain : (perms : ℕ) → Plain (permission_names perms)
perms_plain perms = joined_plain false perms permission_table refl

-- a text between two others
between : (first second third : List ℕ) → Plain first → Plain second → Plain third → Plain (first ++ (second ++ third))
between first second third a b c = joined first (second ++ third) a (joined second third b c)

untagged_plain : (name : Spot) → Plain (untagged name)
untagged_plain name = joined (spot_name name) (codes " is untagged") (spot_plain name) refl

sealed_plain : (name : Spot) (otype : ℕ) → Plain (sealed name otype)
sealed_plain name otype =
    joined (spot_name name) (codes " is sealed (" ++ (type_text otype ++ codes ")")) (spot_plain name)
    (between (codes " is sealed (") (type_text otype) (codes ")") refl (type_plain otype) refl)

lacks_plain : (name : Spot) (permission : ℕ) → Plain (lacks name permission)
lacks_plain name permission =
    between (spot_name name) (codes " has no ") (permission_names (permission_set permission)) (spot_plain name) refl (perms_plain (permission_set permission))

why_clean : (w : Why) → Clean (why_text w)
unfolding why_text
why_clean why.AskedFor = says refl
why_clean why.UpperReplaced = says refl
why_clean (why.Sealed name otype) = says (sealed_plain name otype)
why_clean (why.OutsideRegion address power start) =
    join (codes "address ") _ (says refl) (join (h64 address) _ (says (hex_plain 16 address))
    (join (codes " is outside the representable region of 2^") _ (says refl) (join (decimal power) _ (says (decimal_plain power))
    (join (codes " bytes at ") (h64 start) (says refl) (says (hex_plain 16 start))))))
why_clean (why.BaseBelow base limit) =
    join (codes "base ") _ (says refl) (middle (h64 base) (codes " is below ") (h64 limit) (says (hex_plain 16 base)) (says refl) (says (hex_plain 16 limit)))
why_clean (why.EndAbove end limit) =
    join (codes "end ") _ (says refl) (middle (h65 end) (codes " is above ") (h65 limit) (says (hex_plain 17 end)) (says refl) (says (hex_plain 17 limit)))
why_clean (why.Rounds base top) =
    join (codes "rounds to ") _ (says refl) (middle (h64 base) (codes " ") (h65 top) (says (hex_plain 16 base)) (says refl) (says (hex_plain 17 top)))
why_clean (why.Lacks name permission) = says (lacks_plain name permission)
why_clean (why.Untagged name) = says (untagged_plain name)
why_clean (why.TypeOutside otype base top authority) =
    join (codes "type ") _ (says refl) (join (h64 otype) _ (says (hex_plain 16 otype))
    (join (codes " is not in ") _ (says refl) (join (h64 base) _ (says (hex_plain 16 base))
    (join (codes " ") _ (says refl) (middle (h65 top) (codes " of ") (spot_name authority) (says (hex_plain 17 top)) (says refl) (says (spot_plain authority)))))))
why_clean (why.TypeAbove otype) = join (codes "type ") _ (says refl) (join (h64 otype) (codes " is above 262139") (says (hex_plain 16 otype)) (says refl))
why_clean (why.NotSealed name) = join (spot_name name) (codes " is not sealed") (says (spot_plain name)) (says refl)
why_clean (why.Sentry name) = join (spot_name name) (codes " is sealed as sentry") (says (spot_plain name)) (says refl)
why_clean (why.TypeDiffers otype authority sealed_type) =
    join (codes "type ") _ (says refl) (join (h64 otype) _ (says (hex_plain 16 otype))
    (join (codes " of ") _ (says refl) (middle (spot_name authority) (codes " is not ") (decimal sealed_type) (says (spot_plain authority)) (says refl) (says (decimal_plain sealed_type)))))
why_clean (why.ReservedBits name) = join (spot_name name) (codes " has reserved bits") (says (spot_plain name)) (says refl)
why_clean (why.TopAbove top limit) =
    join (codes "top ") _ (says refl) (middle (h65 top) (codes " is above ") (h65 limit) (says (hex_plain 17 top)) (says refl) (says (hex_plain 17 limit)))
why_clean (why.BaseAboveTop base top) =
    join (codes "base ") _ (says refl) (middle (h64 base) (codes " is above top ") (h65 top) (says (hex_plain 16 base)) (says refl) (says (hex_plain 17 top)))
why_clean (why.MorePermissions name permissions source) =
    join (spot_name name) _ (says (spot_plain name)) (join (codes " has ") _ (says refl)
    (join (permission_names permissions.0) _ (says (perms_plain permissions.0))
    (middle (codes " that ") (spot_name source) (codes " lacks") (says refl) (says (spot_plain source)) (says refl))))
why_clean (why.NotAligned alignment) = join (codes "bounds are no multiples of ") (h64 alignment) (says refl) (says (hex_plain 16 alignment))
why_clean why.DataStored = says refl

pub why_plain : (w : Why) → Plain (why_text w)
why_plain w = (why_clean w).none

trap_why_clean : (w : TrapWhy) → Clean (trap_why_text w)
unfolding trap_why_text
trap_why_clean (trap_why.Untagged name) = says (untagged_plain name)
trap_why_clean (trap_why.Sealed name otype) = says (sealed_plain name otype)
trap_why_clean (trap_why.NotInvocable name) = join (spot_name name) (codes " is not sealed with a type") (says (spot_plain name)) (says refl)
trap_why_clean (trap_why.Lacks name permission) = says (lacks_plain name permission)
trap_why_clean (trap_why.HasExecute name) = join (spot_name name) (codes " has execute") (says (spot_plain name)) (says refl)
trap_why_clean (trap_why.LacksStoreCap name stored) =
    middle (spot_name name) (codes " has no store_cap for a tagged ") (spot_name stored) (says (spot_plain name)) (says refl) (says (spot_plain stored))
trap_why_clean (trap_why.LacksStoreLocal name stored) =
    middle (spot_name name) (codes " has no store_local for a local ") (spot_name stored) (says (spot_plain name)) (says refl) (says (spot_plain stored))
trap_why_clean (trap_why.Outside bytes address base top name) =
    join (decimal bytes) _ (says (decimal_plain bytes)) (join (codes " bytes at ") _ (says refl) (join (h64 address) _ (says (hex_plain 16 address))
    (join (codes " are not in ") _ (says refl) (join (h64 base) _ (says (hex_plain 16 base))
    (join (codes " ") _ (says refl) (middle (h65 top) (codes " of ") (spot_name name) (says (hex_plain 17 top)) (says refl) (says (spot_plain name))))))))
trap_why_clean (trap_why.Misaligned address bytes) =
    middle (h64 address) (codes " is no multiple of ") (decimal bytes) (says (hex_plain 16 address)) (says refl) (says (decimal_plain bytes))
trap_why_clean (trap_why.NotInRam bytes address) =
    join (decimal bytes) _ (says (decimal_plain bytes)) (middle (codes " bytes at ") (h64 address) (codes " are not in RAM") (says refl) (says (hex_plain 16 address)) (says refl))
trap_why_clean (trap_why.NoInstruction address) = join (codes "no instruction at ") (h64 address) (says refl) (says (hex_plain 16 address))
trap_why_clean (trap_why.TypesDiffer code data_type) =
    join (codes "types ") _ (says refl) (join (decimal code) _ (says (decimal_plain code))
    (middle (codes " and ") (decimal data_type) (codes " differ") (says refl) (says (decimal_plain data_type)) (says refl)))

pub trap_why_plain : (w : TrapWhy) → Plain (trap_why_text w)
trap_why_plain w = (trap_why_clean w).none
