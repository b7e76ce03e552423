-- What a word of a request says, in its ranges.
use Rattle.std.proofs.Common.{◌≡◌, ℕ, ◌-◌, ◌%◌, ◌^◌, ◌==◌, ◌<◌, ◌≤◌, nat_le, Bool, true, false, cond, List, length, drop, Option, Some, None, Result, Ok, Err, refl, ap, ◌∙◌, subst, arith}
use Rattle.std.specs.Prelude.{option_map, codes, bytes_eq}
use Rattle.std.proofs.lemmas.Bool.Decides.{nat_tests}
use Rattle.text_numbers.specs.Numerals.{number_of, within_128_bits}
use Rattle.grammar.specs.declared.fault.ListingFaultKind.{ListingFaultKind}
use Rattle.grammar.specs.declared.operands.TypeOperand.{TypeOperand}
use Rattle.grammar.specs.declared.capability.CapOperands.{CapOperands}
use Rattle.grammar.specs.declared.capability.CapParts.{CapParts}
use Rattle.grammar.specs.Capability.{cap_parts_of}
use Rattle.grammar.specs.Permissions.{permissions_of}
use Rattle.canonical.proofs.round_trip.Drafts.{ArePartsOf, parts_ok}
use Rattle.text_parts.specs.Parts.{parted}
use Rattle.asm_names.specs.declared.registers.RegisterKind.{RegisterKind}
use Rattle.asm_names.specs.declared.registers.RegisterKind.TheVariants as kinds
use Rattle.asm_names.specs.declared.registers.RegisterName.{RegisterName}
use Rattle.asm_names.specs.Registers.{register_named}
use Rattle.cheri_model.specs.declared.memory.TheConstants.{MAX_RAM_BYTES}
use Rattle.asm_capabilities.specs.Capabilities.{is_stack_size}
use Rattle.asm_requests.specs.Steps.{◌>>=◌}
use Rattle.asm_requests.specs.Numbers.{in_range, number_up_to, integer_of, stack_of, begins, negated}
use Rattle.asm_requests.specs.Values.{HeldParts, symbol, table, written, if_read, typed, operand_of, operands_of, literal_of, symbol_from, symbol_of, begins_cap, held_of}
use Rattle.asm_requests.specs.Settings.{SettingParts, entry, stack, exit, integer, capability, exit_of, plain_setting, value_setting, register_setting, setting_by, named_setting, setting_of}

-- what is written out has its parts in their ranges
abbrev pub IsReadHeld : HeldParts → Type 0
IsReadHeld (symbol name offset) = Unit {0}
IsReadHeld table = Unit {0}
IsReadHeld (written parts) = (operand : TypeOperand) × ArePartsOf operand parts

abbrev pub IsReadSetting : SettingParts → Type 0
IsReadSetting (entry name) = Unit {0}
IsReadSetting (stack size) = size ≤ MAX_RAM_BYTES
IsReadSetting (exit given) = Unit {0}
IsReadSetting (integer register bits) = bits < 2 ^ 64
IsReadSetting (capability register held) = IsReadHeld held

-- a step that has an answer
then_some : {A B : Type 0} (o : Option A) (f : A → Option B) (y : B) → (o >>= f) ≡ Some y → (x : A) × (o ≡ Some x) × (f x ≡ Some y)
then_some (Some x) f y e = (x, refl, e)
then_some None f y e = absurd (cc)

-- an answer of a view
of_map : {A B : Type 0} (f : A → B) (o : Option A) (y : B) → option_map f o ≡ Some y → (x : A) × (o ≡ Some x) × (f x ≡ y)
of_map f (Some x) y e = (x, refl, cc)
of_map f None y e = absurd (cc)

read_ok : {A : Type 0} (r : Result A ListingFaultKind) (x : A) → if_read r ≡ Some x → r ≡ Ok x
read_ok (Ok y) x e = let same : y ≡ x = cc in ap Ok same
read_ok (Err fault) x e = absurd (cc)

-- ---- numbers

most_by : (test : Bool) (n limit m : ℕ) → nat_le n limit ≡ test → cond test (Some n) None ≡ Some m → m ≤ limit
most_by true n limit m t e =
    let same : n ≡ m = cc in
    let most : n ≤ limit = grind (arith, nat_tests) in
    omega arith
most_by false n limit m t e = absurd (cc)

ranged : (limit : ℕ) (o : Option (Option ℕ)) (m : ℕ) → in_range limit o ≡ Some m → m ≤ limit
ranged limit (Some (Some n)) m e = most_by (nat_le n limit) n limit m refl e
ranged limit (Some None) m e = absurd (cc)
ranged limit None m e = absurd (cc)

up_to : (limit : ℕ) (text : List ℕ) (m : ℕ) → number_up_to limit text ≡ Some m → m ≤ limit
unfolding number_up_to
up_to limit text m e = ranged limit (option_map within_128_bits (number_of text)) m e

negated_low : (n : ℕ) → negated n < 2 ^ 64
negated_low n = omega arith

integer_by : (minus : Bool) (text : List ℕ) (n : ℕ) → begins 0x2D text ≡ minus → integer_of text ≡ Some n → n < 2 ^ 64
unfolding integer_of
integer_by true text n m e =
    let x = of_map negated (number_up_to (2 ^ 63) (drop 1 text)) n (rw m at e) in
    subst (λ (k : ℕ). k < 2 ^ 64) x.2 (negated_low x.0)
integer_by false text n m e =
    let most : n ≤ 2 ^ 64 - 1 = up_to (2 ^ 64 - 1) text n (rw m at e) in
    omega arith

integer_low : (text : List ℕ) (n : ℕ) → integer_of text ≡ Some n → n < 2 ^ 64
integer_low text n e = integer_by (begins 0x2D text) text n refl e

kept_if : (test : Bool) (size kept : ℕ) → size ≤ MAX_RAM_BYTES → cond test (Some size) None ≡ Some kept → kept ≤ MAX_RAM_BYTES
kept_if true size kept low e = let is : size ≡ kept = cc in subst (λ (n : ℕ). n ≤ MAX_RAM_BYTES) is low
kept_if false size kept low e = absurd (cc)

stack_low : (text : List ℕ) (size : ℕ) → stack_of text ≡ Some size → size ≤ MAX_RAM_BYTES
unfolding stack_of
stack_low text size e =
    let x = then_some (number_up_to MAX_RAM_BYTES text) (λ n. cond (is_stack_size n) (Some n) None) size e in
    kept_if (is_stack_size x.0) x.0 size (up_to MAX_RAM_BYTES text x.0 x.1) x.2

-- ---- capabilities that are written out

literal_read : (text : List ℕ) (parts : CapParts) → literal_of text ≡ Some parts → (operand : TypeOperand) × ArePartsOf operand parts
unfolding literal_of
literal_read text parts e =
    let one = then_some (parted 0x3A text) (λ base. parted 0x3A base.1 >>= (λ len. parted 0x3A len.1 >>= (λ addr. typed addr.1 >>= (λ perms. operands_of base.0 len.0 addr.0 perms.0 perms.1 >>= (λ operands. if_read (cap_parts_of operands)))))) parts e in
    let two = then_some (parted 0x3A one.0.1) (λ len. parted 0x3A len.1 >>= (λ addr. typed addr.1 >>= (λ perms. operands_of one.0.0 len.0 addr.0 perms.0 perms.1 >>= (λ operands. if_read (cap_parts_of operands))))) parts one.2 in
    let three = then_some (parted 0x3A two.0.1) (λ addr. typed addr.1 >>= (λ perms. operands_of one.0.0 two.0.0 addr.0 perms.0 perms.1 >>= (λ operands. if_read (cap_parts_of operands)))) parts two.2 in
    let four = then_some (typed three.0.1) (λ perms. operands_of one.0.0 two.0.0 three.0.0 perms.0 perms.1 >>= (λ operands. if_read (cap_parts_of operands))) parts three.2 in
    let five = then_some (operands_of one.0.0 two.0.0 three.0.0 four.0.0 four.0.1) (λ operands. if_read (cap_parts_of operands)) parts four.2 in
    (five.0.otype, parts_ok five.0 parts (read_ok (cap_parts_of five.0) parts five.2))

symbol_read : (text : List ℕ) (o : Option (List ℕ × List ℕ)) (held : HeldParts) → symbol_from text o ≡ Some held → IsReadHeld held
symbol_read text (Some parts) held e =
    let x = of_map (λ offset. symbol parts.0 offset) (number_up_to (2 ^ 64 - 1) parts.1) held e in
    subst IsReadHeld x.2 tt
symbol_read text None held e = let is : symbol text 0 ≡ held = cc in subst IsReadHeld is tt

held_by_table : (is_table : Bool) (text : List ℕ) (held : HeldParts) → cond is_table (Some table) (symbol_of text) ≡ Some held → IsReadHeld held
unfolding symbol_of
held_by_table true text held e = let is : table ≡ held = cc in subst IsReadHeld is tt
held_by_table false text held e = symbol_read text (parted 0x2B text) held e

held_by_cap : (is_cap : Bool) (text : List ℕ) (held : HeldParts) → begins_cap text ≡ is_cap → held_of text ≡ Some held → IsReadHeld held
unfolding held_of
held_by_cap true text held c e =
    let x = of_map (λ parts. written parts) (literal_of (drop 4 text)) held (rw c at e) in
    subst IsReadHeld x.2 (literal_read (drop 4 text) x.0 x.1)
held_by_cap false text held c e = held_by_table (bytes_eq text (codes "@table")) text held (rw c at e)

held_read : (text : List ℕ) (held : HeldParts) → held_of text ≡ Some held → IsReadHeld held
held_read text held e = held_by_cap (begins_cap text) text held refl e

-- ---- settings

value_read : (kind : RegisterKind) (register : ℕ) (text : List ℕ) (setting : SettingParts) → value_setting kind register text ≡ Some setting
    → IsReadSetting setting
value_read kinds.Integer register text setting e =
    let x = of_map (λ bits. integer register bits) (integer_of text) setting e in
    subst IsReadSetting x.2 (integer_low text x.0 x.1)
value_read kinds.Capability register text setting e =
    let x = of_map (λ held. capability register held) (held_of text) setting e in
    subst IsReadSetting x.2 (held_read text x.0 x.1)

register_by : (null : Bool) (name : RegisterName) (text : List ℕ) (setting : SettingParts) → (name.register == 0) ≡ null
    → register_setting name text ≡ Some setting → IsReadSetting setting
unfolding register_setting
register_by true name text setting n e = absurd (let clash = rw n at e in cc)
register_by false name text setting n e = value_read name.kind name.register text setting (rw n at e)

plain_by : (is_entry is_stack is_exit : Bool) (name text : List ℕ) (setting : SettingParts) → bytes_eq name (codes "entry") ≡ is_entry
    → bytes_eq name (codes "stack") ≡ is_stack → bytes_eq name (codes "exit") ≡ is_exit → plain_setting name text ≡ Some setting
    → IsReadSetting setting
unfolding plain_setting
plain_by true is_stack is_exit name text setting a b c e =
    let is : entry text ≡ setting = (let h = rw a at e in cc) in subst IsReadSetting is tt
plain_by false true is_exit name text setting a b c e =
    let x = of_map (λ size. stack size) (stack_of text) setting (rw (a, b) at e) in subst IsReadSetting x.2 (stack_low text x.0 x.1)
plain_by false false true name text setting a b c e =
    let x = of_map (λ given. exit given) (exit_of text) setting (rw (a, b, c) at e) in subst IsReadSetting x.2 tt
plain_by false false false name text setting a b c e = absurd (let clash = rw (a, b, c) at e in cc)

by_name : (register : Option RegisterName) (name text : List ℕ) (setting : SettingParts) → setting_by register name text ≡ Some setting
    → IsReadSetting setting
by_name (Some register) name text setting e = register_by (register.register == 0) register text setting refl e
by_name None name text setting e =
    plain_by (bytes_eq name (codes "entry")) (bytes_eq name (codes "stack")) (bytes_eq name (codes "exit")) name text setting refl refl refl e

named_by : (none : Bool) (name text : List ℕ) (setting : SettingParts) → (length text == 0) ≡ none → named_setting name text ≡ Some setting
    → IsReadSetting setting
unfolding named_setting
named_by true name text setting n e = absurd (let clash = rw n at e in cc)
named_by false name text setting n e = by_name (register_named name) name text setting (rw n at e)

named_read : (name text : List ℕ) (setting : SettingParts) → named_setting name text ≡ Some setting → IsReadSetting setting
named_read name text setting e = named_by (length text == 0) name text setting refl e

pub setting_read : (word : List ℕ) (setting : SettingParts) → setting_of word ≡ Some setting → IsReadSetting setting
unfolding setting_of
setting_read word setting e =
    let x = then_some (parted 0x3D word) (λ parts. named_setting parts.0 parts.1) setting e in
    named_read x.0.0 x.0.1 setting x.2
