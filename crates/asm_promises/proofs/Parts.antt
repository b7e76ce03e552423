-- What is read of a statement: registers below 32, numbers of 64 bits, names of symbols, and no operation yet.
use Rattle.std.proofs.Common.{◌≡◌, ℕ, ◌+◌, ◌-◌, ◌*◌, ◌<◌, ◌==◌, nat_lt, Bool, true, false, cond, List, Option, Some, None, Result, Ok, Err, All, refl, subst, lit<, arith}
use Rattle.std.proofs.lemmas.List.Elements.{All-append}
use Rattle.std.proofs.lemmas.Bool.Decides.{nat_tests}
use Rattle.std.specs.Prelude.{bytes_eq, codes, slice_index}
use Rattle.cheri_model.specs.instructions.Tables.{found_at}
use Rattle.asm_names.specs.declared.registers.RegisterKind.{RegisterKind}
use Rattle.asm_names.specs.declared.registers.RegisterName.{RegisterName}
use Rattle.asm_names.specs.declared.relocations.Relocation.{Relocation}
use Rattle.asm_names.specs.Registers as registers
use Rattle.asm_names.specs.Registers.{register_numbered, numbered, if_numbered, table_named, integer_named, capability_named, register_named, begins}
use Rattle.asm_tokens.specs.declared.fault.AsmFault.{AsmFault}
use Rattle.asm_tokens.specs.Tokens.{TokenParts}
use Rattle.asm_expressions.specs.declared.node.Node.{Node}
use Rattle.asm_expressions.specs.Tokens.{text_at}
use Rattle.asm_statements.specs.declared.draft.Registers.{Registers}
use Rattle.asm_statements.specs.declared.statement.Body.{Body}
use Rattle.asm_statements.specs.declared.statement.Body.TheVariants as bodies
use Rattle.asm_statements.specs.declared.statement.Role.{Role}
use Rattle.asm_statements.specs.Drafts.{Parts, Step, next_step, ◌>>=◌, add, done, look, registers_with, with_body, with_register, with_nodes, with_operand}
use Rattle.asm_statements.specs.Marks.{is_kind, register_or_fault, register_at, is_name}
use Rattle.asm_promises.proofs.Nodes.{IsLowNode}

-- ---- registers

pub record AreLow (rs : Registers) : Type 0 where
  pub first : rs.first < 32
  pub second : rs.second < 32
  pub third : rs.third < 32

numbered_by : (test : Bool) (n r : ℕ) → nat_lt n 32 ≡ test → cond test (Some n) None ≡ Some r → r < 32
numbered_by true n r t e = let is : n ≡ r = cc in let low : n < 32 = grind (arith, nat_tests) in subst (λ (m : ℕ). m < 32) is low
numbered_by false n r t e = absurd (cc)

if_low : (o : Option ℕ) (r : ℕ) → if_numbered o ≡ Some r → r < 32
if_low (Some n) r e = numbered_by (nat_lt n 32) n r refl e
if_low None r e = absurd (cc)

table_low : (name : List ℕ) (r : ℕ) → table_named name ≡ Some r → r < 32
unfolding table_named
table_low name r e = if_low (found_at registers.register_table name) r e

digits_by : (one two : Bool) (a b r : ℕ) → cond one (register_numbered a) (cond two (register_numbered b) None) ≡ Some r → r < 32
digits_by true two a b r e = numbered_by (nat_lt a 32) a r refl e
digits_by false true a b r e = numbered_by (nat_lt b 32) b r refl e
digits_by false false a b r e = absurd (cc)

numbered_low : (digits : List ℕ) (r : ℕ) → numbered digits ≡ Some r → r < 32
unfolding numbered
numbered_low digits r e = digits_by _ _ (slice_index digits 0 - 0x30) (10 * (slice_index digits 0 - 0x30) + (slice_index digits 1 - 0x30)) r e

first_low : (a b : Option ℕ) (r : ℕ) → (a ≡ Some r → r < 32) → (b ≡ Some r → r < 32) → registers.first_of a b ≡ Some r → r < 32
first_low (Some x) b r p q e = p e
first_low None b r p q e = q e

zero_low : (r : ℕ) (o : Option ℕ) → Some 0 ≡ o → o ≡ Some r → r < 32
zero_low r o s e = let is : 0 ≡ r = cc in subst (λ (m : ℕ). m < 32) is (lit< tt)

integer_by : (none short : Bool) (name rest : List ℕ) (r : ℕ) → cond none (Some 0) (cond short (numbered rest) (table_named name)) ≡ Some r → r < 32
integer_by true short name rest r e = zero_low r (Some 0) refl e
integer_by false true name rest r e = numbered_low rest r e
integer_by false false name rest r e = table_low name r e

integer_low : (name : List ℕ) (r : ℕ) → integer_named name ≡ Some r → r < 32
unfolding integer_named
integer_low name r e = integer_by (bytes_eq name (codes "zero")) (begins 0x78 name) name _ r e

capability_by : (none short : Bool) (rest : List ℕ) (r : ℕ) → cond none (Some 0) (cond short (registers.first_of (numbered rest) (table_named rest)) None) ≡ Some r → r < 32
capability_by true short rest r e = zero_low r (Some 0) refl e
capability_by false true rest r e = first_low (numbered rest) (table_named rest) r (λ h. numbered_low rest r h) (λ h. table_low rest r h) e
capability_by false false rest r e = absurd (cc)

capability_low : (name : List ℕ) (r : ℕ) → capability_named name ≡ Some r → r < 32
unfolding capability_named
capability_low name r e = capability_by (bytes_eq name (codes "cnull")) (begins 0x63 name) _ r e

named_by : (a b : Option ℕ) (name : RegisterName) → ((r : ℕ) → a ≡ Some r → r < 32) → ((r : ℕ) → b ≡ Some r → r < 32) → registers.kind_of a b ≡ Some name → name.register < 32
named_by (Some x) b name p q e = let is : x ≡ name.register = cc in subst (λ (m : ℕ). m < 32) is (p x refl)
named_by None (Some x) name p q e = let is : x ≡ name.register = cc in subst (λ (m : ℕ). m < 32) is (q x refl)
named_by None None name p q e = absurd (cc)

name_low : (text : List ℕ) (name : RegisterName) → register_named text ≡ Some name → name.register < 32
unfolding register_named
name_low text name e = named_by (integer_named text) (capability_named text) name (λ r h. integer_low text r h) (λ r h. capability_low text r h) e

kind_by : (test : Bool) (name : RegisterName) (fault : AsmFault) (r : ℕ) → name.register < 32 → cond test (Ok name.register) (Err fault) ≡ Ok r → r < 32
kind_by true name fault r low e = let is : name.register ≡ r = cc in subst (λ (m : ℕ). m < 32) is low
kind_by false name fault r low e = absurd (cc)

or_fault_low : (kind : RegisterKind) (o : Option RegisterName) (tokens : List TokenParts) (at r : ℕ) → ((name : RegisterName) → o ≡ Some name → name.register < 32)
    → register_or_fault kind o tokens at ≡ Ok r → r < 32
or_fault_low kind (Some name) tokens at r low e = kind_by (is_kind name.kind kind) name _ r (low name refl) e
or_fault_low kind None tokens at r low e = absurd (cc)

at_by : (test : Bool) (kind : RegisterKind) (tokens : List TokenParts) (at r : ℕ) (fault : AsmFault)
    → cond test (register_or_fault kind (register_named (text_at tokens at)) tokens at) (Err fault) ≡ Ok r → r < 32
at_by true kind tokens at r fault e = or_fault_low kind (register_named (text_at tokens at)) tokens at r (λ name h. name_low (text_at tokens at) name h) e
at_by false kind tokens at r fault e = absurd (cc)

pub register_low : (tokens : List TokenParts) (kind : RegisterKind) (at r : ℕ) → register_at tokens kind at ≡ Ok r → r < 32
unfolding register_at
register_low tokens kind at r e = at_by (is_name tokens at) kind tokens at r _ e

put_by : (none one : Bool) (rs : Registers) (r : ℕ) → r < 32 → AreLow rs → AreLow (cond none (record { count = 1; first = r; second = rs.second; third = rs.third })
    (cond one (record { count = 2; first = rs.first; second = r; third = rs.third }) (record { count = 3; first = rs.first; second = rs.second; third = r })))
put_by true one rs r low h = record { first = low; second = h.second; third = h.third }
put_by false true rs r low h = record { first = h.first; second = low; third = h.third }
put_by false false rs r low h = record { first = h.first; second = h.second; third = low }

pub put_low : (rs : Registers) (r : ℕ) → r < 32 → AreLow rs → AreLow (registers_with rs r)
unfolding registers_with
put_low rs r low h = put_by (rs.count == 0) (rs.count == 1) rs r low h

-- ---- parts

-- no operation yet; and the symbol that is set is a name
abbrev pub HasNone : List TokenParts → Body → Type 0
HasNone tokens (bodies.Instruction at (Some operation)) = ⊥
HasNone tokens (bodies.Set at) = is_name tokens at ≡ true
HasNone tokens (bodies.Comm at) = is_name tokens at ≡ true
HasNone tokens _ = Unit {0}

pub record IsPart (tokens : List TokenParts) (p : Parts) : Type 0 where
  pub registers : AreLow p.registers
  pub none : HasNone tokens p.body
  pub nodes : All IsLowNode p.nodes

-- a step keeps what is so of parts
pub record Keeps (P : Parts → Type 0) {A : Type 0} (step : Step A) : Type 0 where
  pub keep : (p : Parts) → P p → P (step p).0

next_kept : (P : Parts → Type 0) {A B : Type 0} (r : Result A AsmFault) (p : Parts) (next : A → Step B) → ((a : A) → r ≡ Ok a → Keeps P (next a)) → P p
    → P (next_step r p next).0
next_kept P (Ok a) p next kept h = (kept a refl).keep p h
next_kept P (Err fault) p next kept h = h

pub then_kept : (P : Parts → Type 0) {A B : Type 0} (step : Step A) (next : A → Step B) → Keeps P step → ((a : A) → Keeps P (next a)) → Keeps P (step >>= next)
then_kept P step next first later = record { keep = λ p h. next_kept P (step p).1 (step p).0 next (λ a e. later a) (first.keep p h) }

pub look_kept : (P : Parts → Type 0) {A B : Type 0} (r : Result A AsmFault) (next : A → Step B) → ((a : A) → r ≡ Ok a → Keeps P (next a)) → Keeps P (look r >>= next)
look_kept P r next later = record { keep = λ p h. next_kept P r p next later h }

pub look_same : (P : Parts → Type 0) {A : Type 0} (r : Result A AsmFault) → Keeps P (look r)
look_same P r = record { keep = λ p h. h }

pub done_kept : (P : Parts → Type 0) {A : Type 0} (a : A) → Keeps P (done a)
done_kept P a = record { keep = λ p h. h }

pub add_kept : (P : Parts → Type 0) (more : Parts → Parts) → ((p : Parts) → P p → P (more p)) → Keeps P (add more)
add_kept P more kept = record { keep = λ p h. kept p h }

pub cond_kept : (P : Parts → Type 0) {A : Type 0} (test : Bool) (a b : Step A) → Keeps P a → Keeps P b → Keeps P (cond test a b)
cond_kept P true a b p q = p
cond_kept P false a b p q = q

pub body_part : (tokens : List TokenParts) (body : Body) → HasNone tokens body → (p : Parts) → IsPart tokens p → IsPart tokens (with_body body p)
unfolding with_body
body_part tokens body none p h = record { registers = h.registers; none = none; nodes = h.nodes }

pub register_part : (tokens : List TokenParts) (r : ℕ) → r < 32 → (p : Parts) → IsPart tokens p → IsPart tokens (with_register r p)
unfolding with_register
register_part tokens r low p h = record { registers = put_low p.registers r low h.registers; none = h.none; nodes = h.nodes }

pub operand_part : (tokens : List TokenParts) (role : Role) (relocation : Option Relocation) (first : ℕ) (p : Parts) → IsPart tokens p
    → IsPart tokens (with_operand role relocation first p)
unfolding with_operand
operand_part tokens role relocation first p h = record { registers = h.registers; none = h.none; nodes = h.nodes }

pub nodes_part : (tokens : List TokenParts) (nodes : List Node) → All IsLowNode nodes → (p : Parts) → IsPart tokens p → IsPart tokens (with_nodes nodes p)
unfolding with_nodes
nodes_part tokens nodes low p h = record { registers = h.registers; none = h.none; nodes = All-append IsLowNode p.nodes nodes h.nodes low }
