-- Statements as they are read: registers below 32, numbers of 64 bits, and targets where instructions
-- go to one.
use Rattle.std.proofs.Common.{◌≡◌, ℕ, zero, suc, ◌+◌, Bool, true, false, cond, List, length, Option, Some, None, Result, Ok, Err, All, refl}
use Rattle.canonical.proofs.round_trip.Ranges.{test_true}
use Rattle.asm_names.specs.declared.directives.Directive.{Directive}
use Rattle.asm_names.specs.declared.directives.Directive.TheVariants as names
use Rattle.asm_names.specs.declared.registers.RegisterKind.{RegisterKind}
use Rattle.asm_names.specs.declared.registers.RegisterKind.TheVariants.{Integer, Capability}
use Rattle.asm_names.specs.declared.relocations.Relocation.{Relocation}
use Rattle.asm_names.specs.declared.sections.SectionKind.{SectionKind}
use Rattle.asm_names.specs.Directives.{directive_of}
use Rattle.asm_tokens.specs.declared.fault.AsmFault.{AsmFault}
use Rattle.asm_tokens.specs.declared.fault.AsmFaultKind.TheVariants as faults
use Rattle.asm_tokens.specs.Tokens.{TokenParts}
use Rattle.asm_expressions.specs.declared.node.Node.{Node}
use Rattle.asm_expressions.specs.Expressions.{expression_at}
use Rattle.asm_expressions.specs.Tokens.{text_at, fault_at}
use Rattle.asm_statements.specs.declared.forms.Wanted.{Wanted}
use Rattle.asm_statements.specs.declared.forms.Wanted.TheVariants as wanted
use Rattle.asm_statements.specs.declared.statement.Body.{Body}
use Rattle.asm_statements.specs.declared.statement.Body.TheVariants as bodies
use Rattle.asm_statements.specs.declared.statement.Role.{Role}
use Rattle.asm_statements.specs.declared.statement.Role.TheVariants as roles
use Rattle.asm_statements.specs.Drafts.{Step, ◌>>=◌, add, done, look, with_body, with_register, with_operand}
use Rattle.asm_statements.specs.Fences.{fence}
use Rattle.asm_statements.specs.Marks.{is_name, is_comma, is_percent, comma_at, open_at, close_at, name_at, string_at, equals_at, end_at, register_at, relocation_at}
use Rattle.asm_statements.specs.Operands.{add_nodes, expression, operand, relocated, immediate, alone, plain_register, base, has_base_alone, memory, wanted_operand}
use Rattle.asm_statements.specs.Lists.{name_item, string_item, item, next_item, listed_more, listed, one_more, fill, after_number, padding}
use Rattle.asm_statements.specs.Sections.{section_read, entered, section}
use Rattle.asm_statements.specs.Directives.{alone_body, body_of, padded, zeros, options_at, named_or_fault, new_name_at, set_value, set, size, comm, known_directive, by_directive, directive}
use Rattle.asm_promises.proofs.Tokens.{IsLowToken}
use Rattle.asm_promises.proofs.Nodes.{IsLowNode, expression_low}
use Rattle.asm_promises.proofs.Parts.{register_low, HasNone, IsPart, Keeps, then_kept, look_kept, look_same, done_kept, add_kept, cond_kept, body_part, register_part, operand_part, nodes_part}

module _ (tokens : List TokenParts) (low : All IsLowToken tokens) where
  abbrev K : {A : Type 0} → Step A → Type 0
  K step = Keeps (IsPart tokens) step

  nodes_by : (r : Result (List Node × ℕ) AsmFault) → ((read : List Node × ℕ) → r ≡ Ok read → All IsLowNode read.0) → K (add_nodes r)
  nodes_by (Ok read) h = record { keep = λ p k. nodes_part tokens read.0 (h read refl) p k }
  nodes_by (Err fault) h = record { keep = λ p k. k }

  expression_kept : (at : ℕ) → K (expression tokens at)
  unfolding expression
  expression_kept at = nodes_by (expression_at tokens at) (λ read e. expression_low tokens at read low e)

  operand_added : (role : Role) (relocation : Option Relocation) (at : ℕ) → K (add (with_operand role relocation at))
  operand_added role relocation at = add_kept (IsPart tokens) (with_operand role relocation at) (λ p h. operand_part tokens role relocation at p h)

  then_done : {A : Type 0} (step : Step (Unit {0})) (a : A) → K step → K (step >>= λ u. done a)
  then_done step a h = then_kept (IsPart tokens) step (λ u. done a) h (λ u. done_kept (IsPart tokens) a)

  pub operand_kept : (role : Role) (at : ℕ) → K (operand tokens role at)
  unfolding operand
  operand_kept role at =
      then_kept (IsPart tokens) (expression tokens at) (λ next. add (with_operand role None at) >>= λ u. done next) (expression_kept at)
      (λ next. then_done (add (with_operand role None at)) next (operand_added role None at))

  relocated_kept : (at : ℕ) → K (relocated tokens at)
  unfolding relocated
  relocated_kept at =
      look_kept (IsPart tokens) (relocation_at tokens at)
      (λ relocation. look (open_at tokens (at + 1)) >>= λ inner. expression tokens inner >>= λ end. look (close_at tokens end) >>= λ next. done (Some relocation, next))
      (λ relocation e. look_kept (IsPart tokens) (open_at tokens (at + 1))
      (λ inner. expression tokens inner >>= λ end. look (close_at tokens end) >>= λ next. done (Some relocation, next))
      (λ inner f. then_kept (IsPart tokens) (expression tokens inner) (λ end. look (close_at tokens end) >>= λ next. done (Some relocation, next)) (expression_kept inner)
      (λ end. look_kept (IsPart tokens) (close_at tokens end) (λ next. done (Some relocation, next)) (λ next g. done_kept (IsPart tokens) (Some relocation, next)))))

  immediate_kept : (at : ℕ) → K (immediate tokens at)
  unfolding immediate
  immediate_kept at =
      cond_kept (IsPart tokens) (is_percent tokens at) (relocated tokens (at + 1)) (expression tokens at >>= λ next. done (None, next)) (relocated_kept (at + 1))
      (then_kept (IsPart tokens) (expression tokens at) (λ next. done (None, next)) (expression_kept at) (λ next. done_kept (IsPart tokens) (None, next)))

  alone_kept : (at : ℕ) → K (alone tokens at)
  unfolding alone
  alone_kept at =
      then_kept (IsPart tokens) (immediate tokens at) (λ read. add (with_operand roles.Immediate read.0 at) >>= λ u. done read.1) (immediate_kept at)
      (λ read. then_done (add (with_operand roles.Immediate read.0 at)) read.1 (operand_added roles.Immediate read.0 at))

  register_kept : (kind : RegisterKind) (at : ℕ) → K (plain_register tokens kind at)
  unfolding plain_register
  register_kept kind at =
      look_kept (IsPart tokens) (register_at tokens kind at) (λ register. add (with_register register) >>= λ u. done (at + 1))
      (λ register e. then_done (add (with_register register)) (at + 1)
      (add_kept (IsPart tokens) (with_register register) (λ p h. register_part tokens register (register_low tokens kind at register e) p h)))

  base_kept : (at : ℕ) → K (base tokens at)
  unfolding base
  base_kept at =
      look_kept (IsPart tokens) (open_at tokens at) (λ inner. plain_register tokens Capability inner >>= λ end. look (close_at tokens end) >>= λ next. done next)
      (λ inner e. then_kept (IsPart tokens) (plain_register tokens Capability inner) (λ end. look (close_at tokens end) >>= λ next. done next) (register_kept Capability inner)
      (λ end. look_kept (IsPart tokens) (close_at tokens end) (λ next. done next) (λ next f. done_kept (IsPart tokens) next)))

  memory_kept : (role : Role) (at : ℕ) → K (memory tokens role at)
  unfolding memory
  memory_kept role at =
      cond_kept (IsPart tokens) (has_base_alone tokens at) (base tokens at)
      (immediate tokens at >>= λ read. base tokens read.1 >>= λ next. add (with_operand role read.0 at) >>= λ u. done next) (base_kept at)
      (then_kept (IsPart tokens) (immediate tokens at) (λ read. base tokens read.1 >>= λ next. add (with_operand role read.0 at) >>= λ u. done next) (immediate_kept at)
      (λ read. then_kept (IsPart tokens) (base tokens read.1) (λ next. add (with_operand role read.0 at) >>= λ u. done next) (base_kept read.1)
      (λ next. then_done (add (with_operand role read.0 at)) next (operand_added role read.0 at))))

  pub wanted_kept : (which : Wanted) (at : ℕ) → K (wanted_operand tokens which at)
  unfolding wanted_operand
  wanted_kept wanted.Integer at = register_kept Integer at
  wanted_kept wanted.Capability at = register_kept Capability at
  wanted_kept wanted.Immediate at = alone_kept at
  wanted_kept wanted.Memory at = memory_kept roles.Immediate at
  wanted_kept wanted.Pointer at = memory_kept roles.Zero at
  wanted_kept wanted.Target at = operand_kept roles.Target at
  wanted_kept wanted.Symbol at = operand_kept roles.Symbol at
  wanted_kept wanted.Constant at = operand_kept roles.Early at
  wanted_kept wanted.Fence at = look_same (IsPart tokens) (fence tokens at)

  -- ---- lists

  name_kept : (at : ℕ) → K (name_item tokens at)
  unfolding name_item
  name_kept at =
      look_kept (IsPart tokens) (name_at tokens at) (λ next. add (with_operand roles.Name None at) >>= λ u. done next)
      (λ next e. then_done (add (with_operand roles.Name None at)) next (operand_added roles.Name None at))

  string_kept : (at : ℕ) → K (string_item tokens at)
  unfolding string_item
  string_kept at =
      look_kept (IsPart tokens) (string_at tokens at) (λ next. add (with_operand roles.String None at) >>= λ u. done next)
      (λ next e. then_done (add (with_operand roles.String None at)) next (operand_added roles.String None at))

  item_kept : (role : Role) (at : ℕ) → K (item tokens role at)
  unfolding item
  item_kept roles.Name at = name_kept at
  item_kept roles.String at = string_kept at
  item_kept role at = operand_kept role at

  next_item_kept : (role : Role) (at : ℕ) → K (next_item tokens role at)
  unfolding next_item
  next_item_kept role at = look_kept (IsPart tokens) (comma_at tokens at) (λ next. item tokens role next) (λ next e. item_kept role next)

  more_kept : (more : ℕ) (role : Role) (at : ℕ) → K (listed_more more tokens role at)
  unfolding listed_more
  more_kept zero role at = look_same (IsPart tokens) (end_at tokens at)
  more_kept (suc more) role at =
      cond_kept (IsPart tokens) (is_comma tokens at) (next_item tokens role at >>= λ next. listed_more more tokens role next) (look (end_at tokens at))
      (then_kept (IsPart tokens) (next_item tokens role at) (λ next. listed_more more tokens role next) (next_item_kept role at) (λ next. more_kept more role next))
      (look_same (IsPart tokens) (end_at tokens at))

  listed_kept : (role : Role) (at : ℕ) → K (listed tokens role at)
  unfolding listed
  listed_kept role at =
      then_kept (IsPart tokens) (item tokens role at) (λ next. listed_more (length tokens) tokens role next) (item_kept role at) (λ next. more_kept (length tokens) role next)

  one_more_kept : (at : ℕ) → K (one_more tokens at)
  unfolding one_more
  one_more_kept at =
      cond_kept (IsPart tokens) (is_comma tokens at) (next_item tokens roles.Early at >>= λ next. look (end_at tokens next)) (look (end_at tokens at))
      (then_kept (IsPart tokens) (next_item tokens roles.Early at) (λ next. look (end_at tokens next)) (next_item_kept roles.Early at) (λ next. look_same (IsPart tokens) (end_at tokens next)))
      (look_same (IsPart tokens) (end_at tokens at))

  fill_by : (absent : Bool) (at : ℕ) → K (cond absent (add (with_operand roles.Absent None at) >>= λ u. done at) (operand tokens roles.Early at))
  fill_by true at = then_done (add (with_operand roles.Absent None at)) at (operand_added roles.Absent None at)
  fill_by false at = operand_kept roles.Early at

  fill_kept : (at : ℕ) → K (fill tokens at)
  unfolding fill
  fill_kept at = fill_by _ at

  after_kept : (at : ℕ) → K (after_number tokens at)
  unfolding after_number
  after_kept at =
      cond_kept (IsPart tokens) (is_comma tokens at) (fill tokens (at + 1) >>= λ after. one_more tokens after) (look (end_at tokens at))
      (then_kept (IsPart tokens) (fill tokens (at + 1)) (λ after. one_more tokens after) (fill_kept (at + 1)) (λ after. one_more_kept after))
      (look_same (IsPart tokens) (end_at tokens at))

  padding_kept : (at : ℕ) → K (padding tokens at)
  unfolding padding
  padding_kept at =
      then_kept (IsPart tokens) (operand tokens roles.Early at) (λ next. after_number tokens next) (operand_kept roles.Early at) (λ next. after_kept next)

  -- ---- directives

  -- a name that has to be there
  pub name_there : (at next : ℕ) → name_at tokens at ≡ Ok next → is_name tokens at ≡ true
  unfolding name_at
  name_there at next e = (test_true (is_name tokens at) (Ok (at + 1)) (fault_at tokens faults.Operand at) next e).0

  pub new_named : (at next : ℕ) → new_name_at tokens at ≡ Ok next → is_name tokens at ≡ true
  unfolding new_name_at
  new_named at next e = (test_true (is_name tokens at) (named_or_fault tokens at) (fault_at tokens faults.Operand at) next e).0

  body_added : (body : Body) → HasNone tokens body → K (add (with_body body))
  body_added body none = add_kept (IsPart tokens) (with_body body) (λ p h. body_part tokens body none p h)

  alone_body_kept : (body : Body) (at : ℕ) → HasNone tokens body → K (alone_body tokens body at)
  unfolding alone_body
  alone_body_kept body at none = look_kept (IsPart tokens) (end_at tokens at) (λ u. add (with_body body)) (λ u e. body_added body none)

  body_of_kept : (body : Body) (role : Role) (at : ℕ) → HasNone tokens body → K (body_of tokens body role at)
  unfolding body_of
  body_of_kept body role at none =
      then_kept (IsPart tokens) (add (with_body body)) (λ u. listed tokens role at) (body_added body none) (λ u. listed_kept role at)

  padded_kept : (body : Body) (at : ℕ) → HasNone tokens body → K (padded tokens body at)
  unfolding padded
  padded_kept body at none = then_kept (IsPart tokens) (add (with_body body)) (λ u. padding tokens at) (body_added body none) (λ u. padding_kept at)

  early_more : (at : ℕ) → K (operand tokens roles.Early at >>= λ next. one_more tokens next)
  early_more at = then_kept (IsPart tokens) (operand tokens roles.Early at) (λ next. one_more tokens next) (operand_kept roles.Early at) (λ next. one_more_kept next)

  zeros_kept : (body : Body) (at : ℕ) → HasNone tokens body → K (zeros tokens body at)
  unfolding zeros
  zeros_kept body at none =
      then_kept (IsPart tokens) (add (with_body body)) (λ u. operand tokens roles.Early at >>= λ next. one_more tokens next) (body_added body none) (λ u. early_more at)

  set_value_kept : (at : ℕ) → K (set_value tokens at)
  unfolding set_value
  set_value_kept at =
      then_kept (IsPart tokens) (operand tokens roles.Data at) (λ next. look (end_at tokens next)) (operand_kept roles.Data at) (λ next. look_same (IsPart tokens) (end_at tokens next))

  set_kept : (at : ℕ) → K (set tokens at)
  unfolding set
  set_kept at =
      look_kept (IsPart tokens) (new_name_at tokens at) (λ comma. add (with_body (bodies.Set at)) >>= λ u. look (comma_at tokens comma) >>= λ next. set_value tokens next)
      (λ comma e. then_kept (IsPart tokens) (add (with_body (bodies.Set at))) (λ u. look (comma_at tokens comma) >>= λ next. set_value tokens next) (body_added (bodies.Set at) (new_named at comma e))
      (λ u. look_kept (IsPart tokens) (comma_at tokens comma) (λ next. set_value tokens next) (λ next f. set_value_kept next)))

  size_kept : (at : ℕ) → K (size tokens at)
  unfolding size
  size_kept at =
      look_kept (IsPart tokens) (name_at tokens at) (λ comma. add (with_body (bodies.Size at)) >>= λ u. look (comma_at tokens comma) >>= λ next. set_value tokens next)
      (λ comma e. then_kept (IsPart tokens) (add (with_body (bodies.Size at))) (λ u. look (comma_at tokens comma) >>= λ next. set_value tokens next) (body_added (bodies.Size at) tt)
      (λ u. look_kept (IsPart tokens) (comma_at tokens comma) (λ next. set_value tokens next) (λ next f. set_value_kept next)))

  comm_kept : (at : ℕ) → K (comm tokens at)
  unfolding comm
  comm_kept at =
      look_kept (IsPart tokens) (name_at tokens at)
      (λ comma. add (with_body (bodies.Comm at)) >>= λ u. look (comma_at tokens comma) >>= λ next. operand tokens roles.Early next >>= λ end. one_more tokens end)
      (λ comma e. then_kept (IsPart tokens) (add (with_body (bodies.Comm at))) (λ u. look (comma_at tokens comma) >>= λ next. operand tokens roles.Early next >>= λ end. one_more tokens end)
      (body_added (bodies.Comm at) (name_there at comma e))
      (λ u. look_kept (IsPart tokens) (comma_at tokens comma) (λ next. operand tokens roles.Early next >>= λ end. one_more tokens end) (λ next f. early_more next)))

  entered_kept : (at : ℕ) (r : Result (ℕ × Option SectionKind) AsmFault) → K (entered at r)
  entered_kept at (Ok read) = record { keep = λ p h. body_part tokens (bodies.Section at read.0 read.1) tt p h }
  entered_kept at (Err fault) = record { keep = λ p h. h }

  section_kept : (at : ℕ) → K (section tokens at)
  unfolding section
  section_kept at = entered_kept at (section_read tokens at)

  known_kept : (which : Directive) (at : ℕ) → K (known_directive tokens which at)
  unfolding known_directive
  known_kept names.Plain at = alone_body_kept (bodies.PlainSection at) (at + 1) tt
  known_kept names.Section at = section_kept (at + 1)
  known_kept names.Previous at = alone_body_kept bodies.Previous (at + 1) tt
  known_kept names.Global at = body_of_kept bodies.Global roles.Name (at + 1) tt
  known_kept names.Local at = body_of_kept bodies.Nothing roles.Name (at + 1) tt
  known_kept names.Options at = look_same (IsPart tokens) (options_at tokens (at + 1))
  known_kept names.Set at = set_kept (at + 1)
  known_kept names.Size at = size_kept (at + 1)
  known_kept names.Comm at = comm_kept (at + 1)
  known_kept names.Align at = padded_kept (bodies.Align at) (at + 1) tt
  known_kept names.Balign at = padded_kept (bodies.Balign at) (at + 1) tt
  known_kept (names.Data width) at = body_of_kept (bodies.Data at width) roles.Data (at + 1) tt
  known_kept names.Chericap at = body_of_kept (bodies.Chericap at) roles.Data (at + 1) tt
  known_kept names.Zero at = zeros_kept (bodies.Zero at) (at + 1) tt
  known_kept names.Ascii at = body_of_kept (bodies.Ascii at) roles.String (at + 1) tt
  known_kept names.Asciz at = body_of_kept (bodies.Asciz at) roles.String (at + 1) tt
  known_kept names.Ignored at = done_kept (IsPart tokens) tt
  known_kept names.Outside at = body_added (bodies.OutsideDirective at) tt

  by_kept : (o : Option Directive) (at : ℕ) → K (by_directive o tokens at)
  by_kept (Some which) at = known_kept which at
  by_kept None at = body_added (bodies.UnknownDirective at) tt

  pub directive_kept : (at : ℕ) → K (directive tokens at)
  unfolding directive
  directive_kept at = by_kept (directive_of (text_at tokens at)) at

  pub assigned_kept : (at equals : ℕ) → is_name tokens at ≡ true → K (add (with_body (bodies.Set at)) >>= λ u. look (equals_at tokens equals) >>= λ next. set_value tokens next)
  assigned_kept at equals named =
      then_kept (IsPart tokens) (add (with_body (bodies.Set at))) (λ u. look (equals_at tokens equals) >>= λ next. set_value tokens next) (body_added (bodies.Set at) named)
      (λ u. look_kept (IsPart tokens) (equals_at tokens equals) (λ next. set_value tokens next) (λ next e. set_value_kept next))
