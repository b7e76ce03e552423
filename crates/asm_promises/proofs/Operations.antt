-- Operations as they are read: registers below 32, targets where they go to one, and an early number with `li`.
use Rattle.std.proofs.Common.{◌≡◌, ℕ, ◌+◌, ◌<◌, nat_lt, Bool, true, false, cond, List, [], ◌∷◌, length, Option, Some, None, Result, Ok, Err, All, refl, subst, lit<}
use Rattle.std.proofs.lemmas.List.Elements.{All-push}
use Rattle.asm_names.specs.declared.registers.RegisterKind.{RegisterKind}
use Rattle.asm_names.specs.declared.registers.RegisterKind.TheVariants.{Integer, Capability}
use Rattle.asm_mnemonics.specs.declared.mnemonics.Mnemonic.{Mnemonic}
use Rattle.asm_mnemonics.specs.declared.mnemonics.Mnemonic.TheVariants as mnemonics
use Rattle.asm_tokens.specs.declared.fault.AsmFault.{AsmFault}
use Rattle.asm_tokens.specs.Tokens.{TokenParts}
use Rattle.asm_expressions.specs.declared.node.Node.{Node}
use Rattle.asm_expressions.specs.Expressions.{expression_at}
use Rattle.asm_expansions.specs.declared.operation.Operation.{Operation}
use Rattle.asm_expansions.specs.declared.operation.Operation.TheVariants as does
use Rattle.cheri_model.specs.declared.form.LoadOp.{LoadOp}
use Rattle.asm_statements.specs.declared.choosing.Ending.{Ending}
use Rattle.asm_statements.specs.declared.draft.Registers.{Registers}
use Rattle.asm_statements.specs.declared.forms.Form.{Form}
use Rattle.asm_statements.specs.declared.forms.Form.TheVariants as form
use Rattle.asm_statements.specs.declared.forms.Wanted.{Wanted}
use Rattle.asm_statements.specs.declared.forms.Wanted.TheVariants as wanted
use Rattle.asm_statements.specs.declared.statement.Operand.{Operand}
use Rattle.asm_statements.specs.declared.statement.Role.{Role}
use Rattle.asm_statements.specs.declared.statement.Role.TheVariants as roles
use Rattle.asm_statements.specs.Choosing.{fits, first_fit, first_form, or_else, form_of, meant_form, survey_of, operand_count, ending_of}
use Rattle.asm_statements.specs.Drafts.{Parts, Step, ◌>>=◌, add, done, with_register, with_nodes, with_operand}
use Rattle.asm_statements.specs.Forms.{forms_of}
use Rattle.asm_statements.specs.Instructions.{next_wanted, operands}
use Rattle.asm_statements.specs.Marks.{comma_at, register_at}
use Rattle.asm_statements.specs.Operands.{add_nodes, expression, operand, plain_register, wanted_operand}
use Rattle.asm_statements.specs.Operations.{through, link, load, operation_of, return_register}
use Rattle.asm_promises.proofs.Parts.{AreLow, Keeps, then_kept, look_kept, done_kept, add_kept}

-- ---- operations

abbrev pub IsLowOperation : Operation → Type 0
IsLowOperation (does.Three op a b c) = (a < 32) × (b < 32) × (c < 32)
IsLowOperation (does.Two op a b) = (a < 32) × (b < 32)
IsLowOperation (does.Immediate op a b) = (a < 32) × (b < 32)
IsLowOperation (does.Shift op a b) = (a < 32) × (b < 32)
IsLowOperation (does.WordShift op a b) = (a < 32) × (b < 32)
IsLowOperation (does.SetBoundsImm a b) = (a < 32) × (b < 32)
IsLowOperation (does.Upper op a) = a < 32
IsLowOperation (does.Load op a b) = (a < 32) × (b < 32)
IsLowOperation (does.Store op a b) = (a < 32) × (b < 32)
IsLowOperation (does.Swap a b c) = (a < 32) × (b < 32) × (c < 32)
IsLowOperation (does.Branch op a b) = (a < 32) × (b < 32)
IsLowOperation (does.Jump a) = a < 32
IsLowOperation (does.Invoke a b) = (a < 32) × (b < 32)
IsLowOperation does.Alone = Unit {0}
IsLowOperation does.Nop = Unit {0}
IsLowOperation does.Unimp = Unit {0}
IsLowOperation (does.PseudoTwo op a b) = (a < 32) × (b < 32)
IsLowOperation (does.PseudoThree op a b c) = (a < 32) × (b < 32) × (c < 32)
IsLowOperation (does.PseudoBranch op a b) = (a < 32) × (b < 32)
IsLowOperation (does.ZeroBranch op a) = a < 32
IsLowOperation (does.Li a) = a < 32
IsLowOperation (does.Call a) = a < 32
IsLowOperation does.Tail = Unit {0}
IsLowOperation (does.Cllc a) = a < 32
IsLowOperation (does.Clgc a) = a < 32
IsLowOperation (does.LoadSymbol op a) = a < 32
IsLowOperation (does.La a) = a < 32

-- the operands of what goes somewhere are targets, and those of `li` are known while a file is read
abbrev pub AreAimed : Operation → List Operand → Type 0
AreAimed (does.Branch op a b) operands = All (λ o. o.role ≡ roles.Target) operands
AreAimed (does.Jump a) operands = All (λ o. o.role ≡ roles.Target) operands
AreAimed (does.PseudoBranch op a b) operands = All (λ o. o.role ≡ roles.Target) operands
AreAimed (does.ZeroBranch op a) operands = All (λ o. o.role ≡ roles.Target) operands
AreAimed (does.Li a) operands = All (λ o. o.role ≡ roles.Early) operands
AreAimed _ operands = Unit {0}

pub record IsSound (operation : Operation) (operands : List Operand) : Type 0 where
  pub low : IsLowOperation operation
  pub aimed : AreAimed operation operands

abbrev pub AreAimedBy : Mnemonic → List Operand → Type 0
AreAimedBy (mnemonics.Branch op) operands = All (λ o. o.role ≡ roles.Target) operands
AreAimedBy (mnemonics.PseudoBranch op) operands = All (λ o. o.role ≡ roles.Target) operands
AreAimedBy (mnemonics.ZeroBranch op) operands = All (λ o. o.role ≡ roles.Target) operands
AreAimedBy mnemonics.Li operands = All (λ o. o.role ≡ roles.Early) operands
AreAimedBy mnemonics.Jump operands = All (λ o. o.role ≡ roles.Target) operands
AreAimedBy mnemonics.JumpAndLink operands = All (λ o. o.role ≡ roles.Target) operands
AreAimedBy _ operands = Unit {0}

either : (test : Bool) (a b : Operation) (operands : List Operand) → IsSound a operands → IsSound b operands → IsSound (cond test a b) operands
either true a b operands p q = p
either false a b operands p q = q

link_low : (test : Bool) (other first : ℕ) → other < 32 → first < 32 → cond test other first < 32
link_low true other first p q = p
link_low false other first p q = q

linked : (rs : Registers) → AreLow rs → link rs return_register < 32
unfolding link
linked rs h = link_low (nat_lt rs.count 1) return_register rs.first (lit< tt) h.first

through_by : (fewer : Bool) (rs : Registers) (op : LoadOp) (operands : List Operand) → AreLow rs
    → IsSound (cond fewer (does.Load op return_register rs.first) (does.Load op rs.first rs.second)) operands
through_by true rs op operands h = record { low = (lit< tt, h.first); aimed = tt }
through_by false rs op operands h = record { low = (h.first, h.second); aimed = tt }

load_by : (fewer : Bool) (rs : Registers) (op : LoadOp) (operands : List Operand) → AreLow rs
    → IsSound (cond fewer (does.LoadSymbol op rs.first) (does.Load op rs.first rs.second)) operands
load_by true rs op operands h = record { low = h.first; aimed = tt }
load_by false rs op operands h = record { low = (h.first, h.second); aimed = tt }

count_by : (fewer : Bool) (a b : Operation) (operands : List Operand) → IsSound a operands → IsSound b operands → IsSound (cond fewer a b) operands
count_by fewer a b operands p q = either fewer a b operands p q

module _ (rs : Registers) (h : AreLow rs) (os : List Operand) where
  three : (rs.first < 32) × (rs.second < 32) × (rs.third < 32)
  three = (h.first, h.second, h.third)

  two : (rs.first < 32) × (rs.second < 32)
  two = (h.first, h.second)

  pub operation_sound : (m : Mnemonic) → AreAimedBy m os → IsSound (operation_of m rs) os
  unfolding operation_of through load
  operation_sound (mnemonics.Three op) a = record { low = three; aimed = tt }
  operation_sound (mnemonics.ThreeOrImmediate op other) a =
      either (nat_lt rs.count 3) (does.Immediate other rs.first rs.second) (does.Three op rs.first rs.second rs.third) os (record { low = two; aimed = tt }) (record { low = three; aimed = tt })
  operation_sound (mnemonics.ThreeOrShift op other) a =
      either (nat_lt rs.count 3) (does.Shift other rs.first rs.second) (does.Three op rs.first rs.second rs.third) os (record { low = two; aimed = tt }) (record { low = three; aimed = tt })
  operation_sound (mnemonics.ThreeOrWordShift op other) a =
      either (nat_lt rs.count 3) (does.WordShift other rs.first rs.second) (does.Three op rs.first rs.second rs.third) os (record { low = two; aimed = tt }) (record { low = three; aimed = tt })
  operation_sound (mnemonics.Immediate op) a = record { low = two; aimed = tt }
  operation_sound (mnemonics.Shift op) a = record { low = two; aimed = tt }
  operation_sound (mnemonics.WordShift op) a = record { low = two; aimed = tt }
  operation_sound mnemonics.Lui a = record { low = h.first; aimed = tt }
  operation_sound mnemonics.Auipcc a = record { low = h.first; aimed = tt }
  operation_sound (mnemonics.Load op) a = load_by (nat_lt rs.count 2) rs op os h
  operation_sound (mnemonics.LoadAlone op) a = record { low = two; aimed = tt }
  operation_sound (mnemonics.Store op) a = record { low = two; aimed = tt }
  operation_sound (mnemonics.StoreAlone op) a = record { low = two; aimed = tt }
  operation_sound mnemonics.LoadCapability a = record { low = two; aimed = tt }
  operation_sound mnemonics.LoadCapabilityAlone a = record { low = two; aimed = tt }
  operation_sound mnemonics.StoreCapability a = record { low = two; aimed = tt }
  operation_sound mnemonics.StoreCapabilityAlone a = record { low = two; aimed = tt }
  operation_sound mnemonics.Swap a = record { low = three; aimed = tt }
  operation_sound (mnemonics.Branch op) a = record { low = two; aimed = a }
  operation_sound (mnemonics.PseudoBranch op) a = record { low = two; aimed = a }
  operation_sound (mnemonics.ZeroBranch op) a = record { low = h.first; aimed = a }
  operation_sound mnemonics.Jump a = record { low = lit< tt; aimed = a }
  operation_sound mnemonics.JumpAndLink a = record { low = linked rs h; aimed = a }
  operation_sound mnemonics.JumpRegisterAndLink a = through_by (nat_lt rs.count 2) rs _ os h
  operation_sound mnemonics.JumpRegisterPlain a = record { low = two; aimed = tt }
  operation_sound mnemonics.JumpRegister a = record { low = (lit< tt, h.first); aimed = tt }
  operation_sound mnemonics.Return a = record { low = (lit< tt, lit< tt); aimed = tt }
  operation_sound mnemonics.Alone a = record { low = tt; aimed = tt }
  operation_sound mnemonics.Unimp a = record { low = tt; aimed = tt }
  operation_sound mnemonics.Nop a = record { low = tt; aimed = tt }
  operation_sound mnemonics.Fence a = record { low = tt; aimed = tt }
  operation_sound (mnemonics.PseudoTwo op) a = record { low = two; aimed = tt }
  operation_sound (mnemonics.PseudoThree op) a = record { low = three; aimed = tt }
  operation_sound mnemonics.Li a = record { low = h.first; aimed = a }
  operation_sound (mnemonics.Inspect op) a = record { low = two; aimed = tt }
  operation_sound (mnemonics.Modify op) a = record { low = two; aimed = tt }
  operation_sound (mnemonics.Round op) a = record { low = two; aimed = tt }
  operation_sound (mnemonics.ModifyBy op) a = record { low = three; aimed = tt }
  operation_sound mnemonics.IncOffset a =
      either (nat_lt rs.count 3) (does.Immediate _ rs.first rs.second) (does.Three _ rs.first rs.second rs.third) os (record { low = two; aimed = tt }) (record { low = three; aimed = tt })
  operation_sound mnemonics.IncOffsetImm a = record { low = two; aimed = tt }
  operation_sound mnemonics.SetBounds a =
      either (nat_lt rs.count 3) (does.SetBoundsImm rs.first rs.second) (does.Three _ rs.first rs.second rs.third) os (record { low = two; aimed = tt }) (record { low = three; aimed = tt })
  operation_sound mnemonics.SetBoundsImm a = record { low = two; aimed = tt }
  operation_sound (mnemonics.ModifyTogether op) a = record { low = three; aimed = tt }
  operation_sound (mnemonics.Compare op) a = record { low = three; aimed = tt }
  operation_sound mnemonics.Csub a = record { low = three; aimed = tt }
  operation_sound mnemonics.Invoke a = record { low = two; aimed = tt }
  operation_sound mnemonics.Call a = record { low = linked rs h; aimed = tt }
  operation_sound mnemonics.Tail a = record { low = tt; aimed = tt }
  operation_sound mnemonics.Cllc a = record { low = h.first; aimed = tt }
  operation_sound mnemonics.Clgc a = record { low = h.first; aimed = tt }
  operation_sound mnemonics.La a = record { low = h.first; aimed = tt }

-- ---- forms whose only expression has a role

module _ (role : Role) where
  abbrev IsAimedWanted : Wanted → Type 0
  IsAimedWanted wanted.Integer = Unit {0}
  IsAimedWanted wanted.Capability = Unit {0}
  IsAimedWanted wanted.Target = roles.Target ≡ role
  IsAimedWanted wanted.Constant = roles.Early ≡ role
  IsAimedWanted _ = ⊥

  abbrev IsAimedOf : Form → Type 0
  IsAimedOf form.None = Unit {0}
  IsAimedOf (form.One a) = IsAimedWanted a
  IsAimedOf (form.Two a b) = IsAimedWanted a × IsAimedWanted b
  IsAimedOf (form.Three a b c) = IsAimedWanted a × IsAimedWanted b × IsAimedWanted c

  record IsAimedForm (f : Form) : Type 0 where
    is : IsAimedOf f

  abbrev AreAimedForms : List Form → Type 0
  AreAimedForms [] = Unit {0}
  AreAimedForms (f ∷ forms) = IsAimedForm f × AreAimedForms forms

  record IsAimedIf (o : Option Form) : Type 0 where
    then : (f : Form) → o ≡ Some f → IsAimedForm f

  fit_by : (test : Bool) (f : Form) (o : Option Form) → IsAimedForm f → IsAimedIf o → IsAimedIf (cond test (Some f) o)
  fit_by true f o h k = record { then = λ g e. (let is : f ≡ g = cc in subst IsAimedForm is h) }
  fit_by false f o h k = k

  fit_aimed : (count : ℕ) (ending : Option Ending) (forms : List Form) → AreAimedForms forms → IsAimedIf (first_fit count ending forms)
  unfolding first_fit
  fit_aimed count ending [] h = record { then = λ g e. absurd (cc) }
  fit_aimed count ending (f ∷ forms) h = fit_by (fits count ending f) f (first_fit count ending forms) h.0 (fit_aimed count ending forms h.1)

  or_aimed : (o : Option Form) (f : Form) → IsAimedIf o → IsAimedForm f → IsAimedForm (or_else o f)
  or_aimed (Some g) f h k = h.then g refl
  or_aimed None f h k = k

  first_aimed : (forms : List Form) → AreAimedForms forms → IsAimedForm (first_form forms)
  first_aimed [] h = record { is = tt }
  first_aimed (f ∷ forms) h = h.0

  meant_aimed : (tokens : List TokenParts) (forms : List Form) (at : ℕ) → AreAimedForms forms → IsAimedForm (meant_form tokens forms at)
  unfolding meant_form form_of
  meant_aimed tokens forms at h =
      let s = survey_of tokens at in
      let count = operand_count at s in
      or_aimed (first_fit count (Some (ending_of tokens s)) forms) (or_else (first_fit count None forms) (first_form forms)) (fit_aimed count (Some (ending_of tokens s)) forms h)
      (or_aimed (first_fit count None forms) (first_form forms) (fit_aimed count None forms h) (first_aimed forms h))

-- ---- operands of such forms

pub record IsAimed (role : Role) (p : Parts) : Type 0 where
  pub all : All (λ o. o.role ≡ role) p.operands

-- whatever the role is
abbrev pub AreNone : Parts → Type 0
AreNone p = (role : Role) → IsAimed role p

module _ (tokens : List TokenParts) (role : Role) where
  abbrev A : {X : Type 0} → Step X → Type 0
  A step = Keeps (IsAimed role) step

  nodes_aimed : (r : Result (List Node × ℕ) AsmFault) → A (add_nodes r)
  unfolding with_nodes
  nodes_aimed (Ok read) = record { keep = λ p h. record { all = h.all } }
  nodes_aimed (Err fault) = record { keep = λ p h. h }

  expression_aimed : (at : ℕ) → A (expression tokens at)
  unfolding expression
  expression_aimed at = nodes_aimed (expression_at tokens at)

  added_aimed : (one : Role) (at : ℕ) → one ≡ role → A (add (with_operand one None at))
  unfolding with_operand
  added_aimed one at is =
      add_kept (IsAimed role) (with_operand one None at)
      (λ p h. record { all = All-push (λ o. o.role ≡ role) p.operands (record { role = one; relocation = None; first = at; end = length p.nodes }) h.all is })

  operand_aimed : (one : Role) (at : ℕ) → one ≡ role → A (operand tokens one at)
  unfolding operand
  operand_aimed one at is =
      then_kept (IsAimed role) (expression tokens at) (λ next. add (with_operand one None at) >>= λ u. done next) (expression_aimed at)
      (λ next. then_kept (IsAimed role) (add (with_operand one None at)) (λ u. done next) (added_aimed one at is) (λ u. done_kept (IsAimed role) next))

  register_aimed : (kind : RegisterKind) (at : ℕ) → A (plain_register tokens kind at)
  unfolding plain_register with_register
  register_aimed kind at =
      look_kept (IsAimed role) (register_at tokens kind at) (λ register. add (with_register register) >>= λ u. done (at + 1))
      (λ register e. then_kept (IsAimed role) (add (with_register register)) (λ u. done (at + 1)) (add_kept (IsAimed role) (with_register register) (λ p h. record { all = h.all }))
      (λ u. done_kept (IsAimed role) (at + 1)))

  wanted_aimed : (which : Wanted) (at : ℕ) → IsAimedWanted role which → A (wanted_operand tokens which at)
  unfolding wanted_operand
  wanted_aimed wanted.Integer at h = register_aimed Integer at
  wanted_aimed wanted.Capability at h = register_aimed Capability at
  wanted_aimed wanted.Target at h = operand_aimed roles.Target at h
  wanted_aimed wanted.Constant at h = operand_aimed roles.Early at h
  wanted_aimed _ at h = absurd h

  next_aimed : (which : Wanted) (at : ℕ) → IsAimedWanted role which → A (next_wanted tokens which at)
  unfolding next_wanted
  next_aimed which at h = look_kept (IsAimed role) (comma_at tokens at) (λ next. wanted_operand tokens which next) (λ next e. wanted_aimed which next h)

  operands_aimed : (f : Form) (at : ℕ) → IsAimedForm role f → A (operands tokens f at)
  unfolding operands
  operands_aimed form.None at h = done_kept (IsAimed role) at
  operands_aimed (form.One a) at h = wanted_aimed a at h.is
  operands_aimed (form.Two a b) at h =
      then_kept (IsAimed role) (wanted_operand tokens a at) (λ next. next_wanted tokens b next) (wanted_aimed a at h.is.0) (λ next. next_aimed b next h.is.1)
  operands_aimed (form.Three a b c) at h =
      then_kept (IsAimed role) (wanted_operand tokens a at) (λ next. next_wanted tokens b next >>= λ after. next_wanted tokens c after) (wanted_aimed a at h.is.0)
      (λ next. then_kept (IsAimed role) (next_wanted tokens b next) (λ after. next_wanted tokens c after) (next_aimed b next h.is.1) (λ after. next_aimed c after h.is.2))

module _ (tokens : List TokenParts) where
  -- what is read after the name has that role, where the name's forms have it
  abbrev pub read_of : Mnemonic → ℕ → Step ℕ
  read_of m at = operands tokens (meant_form tokens (forms_of m) at) at

  aimed_by : (role : Role) (forms : List Form) (at : ℕ) (p : Parts) → AreAimedForms role forms → IsAimed role p → All (λ o. o.role ≡ role) (operands tokens (meant_form tokens forms at) at p).0.operands
  aimed_by role forms at p h k = ((operands_aimed tokens role (meant_form tokens forms at) at (meant_aimed role tokens forms at h)).keep p k).all

  pub name_aimed : (m : Mnemonic) (at : ℕ) (p : Parts) → AreNone p → AreAimedBy m (read_of m at p).0.operands
  unfolding forms_of
  name_aimed (mnemonics.Branch op) at p h =
      aimed_by roles.Target (form.Three wanted.Integer wanted.Integer wanted.Target ∷ []) at p (record { is = (tt, tt, refl) }, tt) (h roles.Target)
  name_aimed (mnemonics.PseudoBranch op) at p h =
      aimed_by roles.Target (form.Three wanted.Integer wanted.Integer wanted.Target ∷ []) at p (record { is = (tt, tt, refl) }, tt) (h roles.Target)
  name_aimed (mnemonics.ZeroBranch op) at p h = aimed_by roles.Target (form.Two wanted.Integer wanted.Target ∷ []) at p (record { is = (tt, refl) }, tt) (h roles.Target)
  name_aimed mnemonics.Jump at p h = aimed_by roles.Target (form.One wanted.Target ∷ []) at p (record { is = refl }, tt) (h roles.Target)
  name_aimed mnemonics.JumpAndLink at p h =
      aimed_by roles.Target (form.Two wanted.Capability wanted.Target ∷ form.One wanted.Target ∷ []) at p (record { is = (tt, refl) }, (record { is = refl }, tt)) (h roles.Target)
  name_aimed mnemonics.Li at p h = aimed_by roles.Early (form.Two wanted.Integer wanted.Constant ∷ []) at p (record { is = (tt, refl) }, tt) (h roles.Early)
  name_aimed _ at p h = tt
