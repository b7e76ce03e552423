-- Every statement of a file that was read is sound: its operation's registers are below 32, its numbers
-- have 64 bits, and where the operation goes somewhere its operands are targets.
use Rattle.std.proofs.Common.{◌≡◌, ℕ, zero, suc, ◌+◌, ◌*◌, ◌<◌, nat_lt, Bool, true, false, cond, List, [], ◌∷◌, ◌++◌, length, Option, Some, None, Result, Ok, Err, All, refl, ap, subst, lit<, arith}
use Rattle.std.specs.Prelude.{map}
use Rattle.std.specs.Char.{to_ascii_lowercase}
use Rattle.std.proofs.lemmas.List.Elements.{All-nil, All-cons, All-push}
use Rattle.asm_names.specs.Outside.{is_outside}
use Rattle.asm_mnemonics.specs.declared.mnemonics.Mnemonic.{Mnemonic}
use Rattle.asm_mnemonics.specs.Mnemonics.{mnemonic_of}
use Rattle.asm_tokens.specs.declared.fault.AsmFault.{AsmFault}
use Rattle.asm_tokens.specs.Tokens.{TokenParts, tokens_of}
use Rattle.asm_expressions.specs.Tokens.{text_at}
use Rattle.asm_statements.specs.declared.forms.Form.{Form}
use Rattle.asm_statements.specs.declared.forms.Form.TheVariants as form
use Rattle.asm_statements.specs.declared.forms.Wanted.{Wanted}
use Rattle.asm_statements.specs.declared.statement.Body.{Body}
use Rattle.asm_statements.specs.declared.statement.Body.TheVariants as bodies
use Rattle.asm_statements.specs.declared.statement.Operand.{Operand}
use Rattle.asm_statements.specs.Choosing.{meant_form}
use Rattle.asm_statements.specs.Directives.{set_value, new_name_at, directive}
use Rattle.asm_statements.specs.Drafts.{Parts, next_step, ◌>>=◌, add, done, look, with_body, empty_parts}
use Rattle.asm_statements.specs.Forms.{forms_of}
use Rattle.asm_statements.specs.Instructions.{next_wanted, operands, finished, known, unknown, by_mnemonic, named, instruction}
use Rattle.asm_statements.specs.Marks.{comma_at, end_at, equals_at, is_name, is_equals}
use Rattle.asm_statements.specs.Operands.{wanted_operand}
use Rattle.asm_statements.specs.Statements.{begins_with_point, is_label, labels_up_to, labels_end, assigned, named_body, is_nothing, body, StatementParts, statement_of, next_at, statements_up_to, statements_of}
use Rattle.asm_files.specs.Faults.{of_file}
use Rattle.asm_files.specs.Programs.{FileParts}
use Rattle.asm_files.specs.Files.{file_of, file_read, files_of}
use Rattle.asm_listable.proofs.Starts.{then_ok}
use Rattle.asm_promises.proofs.Tokens.{IsLowToken, IsNamedToken, tokens_low, tokens_named}
use Rattle.asm_promises.proofs.Nodes.{IsLowNode}
use Rattle.asm_promises.proofs.Parts.{HasNone, IsPart, Keeps, then_kept, look_kept, done_kept, add_kept, body_part}
use Rattle.asm_promises.proofs.Statements.{wanted_kept, directive_kept, new_named, assigned_kept}
use Rattle.asm_promises.proofs.Memory.{each_kept}
use Rattle.asm_promises.proofs.Operations.{IsSound, AreAimedBy, operation_sound, AreNone, name_aimed}

-- ---- statements

abbrev pub IsSoundBody : Body → List Operand → Type 0
IsSoundBody (bodies.Instruction at (Some operation)) operands = IsSound operation operands
IsSoundBody _ operands = Unit {0}

-- the symbol that a statement sets is a name
abbrev pub IsNamedBody : List TokenParts → Body → Type 0
IsNamedBody tokens (bodies.Set at) = is_name tokens at ≡ true
IsNamedBody tokens (bodies.Comm at) = is_name tokens at ≡ true
IsNamedBody tokens _ = Unit {0}

record IsSoundPart (tokens : List TokenParts) (p : Parts) : Type 0 where
  body : IsSoundBody p.body p.operands
  named : IsNamedBody tokens p.body
  nodes : All IsLowNode p.nodes

module _ (tokens : List TokenParts) where
  none_sound : (b : Body) (os : List Operand) → HasNone tokens b → IsSoundBody b os
  none_sound (bodies.Instruction at (Some operation)) os h = absurd h
  none_sound (bodies.Instruction at None) os h = tt
  none_sound _ os h = tt

  none_named : (b : Body) → HasNone tokens b → IsNamedBody tokens b
  none_named (bodies.Set at) h = h
  none_named (bodies.Comm at) h = h
  none_named _ h = tt

  part_sound : (p : Parts) → IsPart tokens p → IsSoundPart tokens p
  part_sound p h = record { body = none_sound p.body p.operands h.none; named = none_named p.body h.none; nodes = h.nodes }

module _ (tokens : List TokenParts) (low : All IsLowToken tokens) where
  next_kept : (which : Wanted) (at : ℕ) → Keeps (IsPart tokens) (next_wanted tokens which at)
  unfolding next_wanted
  next_kept which at = look_kept (IsPart tokens) (comma_at tokens at) (λ next. wanted_operand tokens which next) (λ next e. wanted_kept tokens low which next)

  operands_kept : (f : Form) (at : ℕ) → Keeps (IsPart tokens) (operands tokens f at)
  unfolding operands
  operands_kept form.None at = done_kept (IsPart tokens) at
  operands_kept (form.One a) at = wanted_kept tokens low a at
  operands_kept (form.Two a b) at =
      then_kept (IsPart tokens) (wanted_operand tokens a at) (λ next. next_wanted tokens b next) (wanted_kept tokens low a at) (λ next. next_kept b next)
  operands_kept (form.Three a b c) at =
      then_kept (IsPart tokens) (wanted_operand tokens a at) (λ next. next_wanted tokens b next >>= λ after. next_wanted tokens c after) (wanted_kept tokens low a at)
      (λ next. then_kept (IsPart tokens) (next_wanted tokens b next) (λ after. next_wanted tokens c after) (next_kept b next) (λ after. next_kept c after))

  finished_sound : (m : Mnemonic) (at : ℕ) (p : Parts) → (IsPart tokens) p → AreAimedBy m p.operands → IsSoundPart tokens (finished m at p)
  unfolding finished with_body
  finished_sound m at p h a = record { body = operation_sound p.registers h.registers p.operands m a; named = tt; nodes = h.nodes }

  ended_by : (r : Result (Unit {0}) AsmFault) (m : Mnemonic) (at : ℕ) (p : Parts) → (IsPart tokens) p → AreAimedBy m p.operands
      → IsSoundPart tokens (next_step r p (λ u. add (finished m at))).0
  ended_by (Ok u) m at p h a = finished_sound m at p h a
  ended_by (Err fault) m at p h a = part_sound tokens p h

  read_by : (r : Result ℕ AsmFault) (m : Mnemonic) (at : ℕ) (p : Parts) → (IsPart tokens) p → AreAimedBy m p.operands
      → IsSoundPart tokens (next_step r p (λ next. look (end_at tokens next) >>= λ u. add (finished m at))).0
  read_by (Ok next) m at p h a = ended_by (end_at tokens next) m at p h a
  read_by (Err fault) m at p h a = part_sound tokens p h

  known_sound : (m : Mnemonic) (at : ℕ) (p : Parts) → (IsPart tokens) p → AreNone p → IsSoundPart tokens (known tokens m at p).0
  unfolding known with_body
  known_sound m at p h a =
      let q : Parts = with_body (bodies.Instruction at None) p in
      let start : (IsPart tokens) q = body_part tokens (bodies.Instruction at None) tt p h in
      let aimed : AreNone q = λ role. record { all = (a role).all } in
      let step = operands tokens (meant_form tokens (forms_of m) (at + 1)) (at + 1) in
      read_by (step q).1 m at (step q).0 ((operands_kept (meant_form tokens (forms_of m) (at + 1)) (at + 1)).keep q start) (name_aimed tokens m (at + 1) q aimed)

  unknown_kept : (outside : Bool) (at : ℕ) → Keeps (IsPart tokens) (cond outside (add (with_body (bodies.OutsideInstruction at))) (add (with_body (bodies.UnknownInstruction at))))
  unknown_kept true at = add_kept (IsPart tokens) (with_body (bodies.OutsideInstruction at)) (λ p h. body_part tokens (bodies.OutsideInstruction at) tt p h)
  unknown_kept false at = add_kept (IsPart tokens) (with_body (bodies.UnknownInstruction at)) (λ p h. body_part tokens (bodies.UnknownInstruction at) tt p h)

  mnemonic_sound : (o : Option Mnemonic) (name : List ℕ) (at : ℕ) (p : Parts) → (IsPart tokens) p → AreNone p → IsSoundPart tokens (by_mnemonic o tokens name at p).0
  unfolding unknown
  mnemonic_sound (Some m) name at p h a = known_sound m at p h a
  mnemonic_sound None name at p h a = part_sound tokens _ ((unknown_kept (is_outside name) at).keep p h)

  instruction_sound : (at : ℕ) (p : Parts) → (IsPart tokens) p → AreNone p → IsSoundPart tokens (instruction tokens at p).0
  unfolding instruction named
  instruction_sound at p h a =
      let name = map to_ascii_lowercase (text_at tokens at) in mnemonic_sound (mnemonic_of name) name at p h a

  assigned_sound : (at : ℕ) (p : Parts) → (IsPart tokens) p → IsSoundPart tokens (assigned tokens at p).0
  unfolding assigned
  assigned_sound at p h =
      let kept : Keeps (IsPart tokens) (look (new_name_at tokens at) >>= λ equals. add (with_body (bodies.Set at)) >>= λ u. look (equals_at tokens equals) >>= λ next. set_value tokens next) =
      look_kept (IsPart tokens) (new_name_at tokens at) (λ equals. add (with_body (bodies.Set at)) >>= λ u. look (equals_at tokens equals) >>= λ next. set_value tokens next)
      (λ equals e. assigned_kept tokens low at equals (new_named tokens low at equals e)) in
      part_sound tokens _ (kept.keep p h)

  named_by : (equals alone point : Bool) (at : ℕ) (p : Parts) (fault : AsmFault) → (IsPart tokens) p → AreNone p
      → IsSoundPart tokens (cond equals (assigned tokens at) (cond alone (look (Err fault)) (cond point (directive tokens at) (instruction tokens at))) p).0
  named_by true alone point at p fault h a = assigned_sound at p h
  named_by false true point at p fault h a = part_sound tokens p h
  named_by false false true at p fault h a = part_sound tokens _ ((directive_kept tokens low at).keep p h)
  named_by false false false at p fault h a = instruction_sound at p h a

  named_sound : (at : ℕ) (p : Parts) → (IsPart tokens) p → AreNone p → IsSoundPart tokens (named_body tokens at p).0
  unfolding named_body
  named_sound at p h a = named_by (is_equals tokens (at + 1)) _ (begins_with_point (text_at tokens at)) at p _ h a

  body_by : (nothing name : Bool) (at : ℕ) (p : Parts) (fault : AsmFault) → (IsPart tokens) p → AreNone p
      → IsSoundPart tokens (cond nothing (done tt) (cond name (named_body tokens at) (look (Err fault))) p).0
  body_by true name at p fault h a = part_sound tokens p h
  body_by false true at p fault h a = named_sound at p h a
  body_by false false at p fault h a = part_sound tokens p h

  body_sound : (at : ℕ) (p : Parts) → (IsPart tokens) p → AreNone p → IsSoundPart tokens (body tokens at p).0
  unfolding body
  body_sound at p h a = body_by (is_nothing tokens at) (is_name tokens at) at p _ h a

empty_part : (tokens : List TokenParts) → IsPart tokens empty_parts
empty_part tokens = record { registers = record { first = lit< tt; second = lit< tt; third = lit< tt }; none = tt; nodes = All-nil IsLowNode }

empty_aimed : AreNone empty_parts
empty_aimed role = record { all = All-nil (λ o. o.role ≡ role) }

pub record IsSoundStatement (s : StatementParts) : Type 0 where
  pub body : IsSoundBody s.body s.operands
  pub nodes : All IsLowNode s.nodes

statement_sound : (tokens : List TokenParts) (at : ℕ) → All IsLowToken tokens → IsSoundStatement (statement_of tokens at)
unfolding statement_of
statement_sound tokens at low =
    let p = body_sound tokens low (labels_end tokens at) empty_parts (empty_part tokens) empty_aimed in
    record { body = p.body; nodes = p.nodes }

-- its labels are labels, and the symbol that it sets is a name
pub record IsNamedStatement (tokens : List TokenParts) (s : StatementParts) : Type 0 where
  pub body : IsNamedBody tokens s.body
  pub labels : (k : ℕ) → k < s.labels → is_label tokens (s.first + 2 * k) ≡ true

-- so many labels, each of two tokens
record AreLabels (tokens : List TokenParts) (at end : ℕ) : Type 0 where
  count : ℕ
  is : at + 2 * count ≡ end
  each : (k : ℕ) → k < count → is_label tokens (at + 2 * k) ≡ true

no_labels : (tokens : List TokenParts) (at : ℕ) → AreLabels tokens at at
no_labels tokens at = record { count = 0; is = omega arith; each = λ k less. absurd (omega arith) }

first_label : (tokens : List TokenParts) (at end : ℕ) → is_label tokens at ≡ true → AreLabels tokens (at + 2) end → AreLabels tokens at end
first_label tokens at end h rest =
    let is = rest.is in
    record { count = rest.count + 1; is = omega arith; each = λ k less. label_at k less }
  where
    label_at : (k : ℕ) → k < rest.count + 1 → is_label tokens (at + 2 * k) ≡ true
    label_at zero less = let same : at ≡ at + 2 * 0 = omega arith in subst (λ (n : ℕ). is_label tokens n ≡ true) same h
    label_at (suc k) less =
        let same : at + 2 + 2 * k ≡ at + 2 * suc k = omega arith in subst (λ (n : ℕ). is_label tokens n ≡ true) same (rest.each k (omega arith))

labels_by : (test : Bool) (tokens : List TokenParts) (at more : ℕ) → is_label tokens at ≡ test → AreLabels tokens (at + 2) (labels_up_to more tokens (at + 2))
    → AreLabels tokens at (cond test (labels_up_to more tokens (at + 2)) at)
labels_by true tokens at more t rest = first_label tokens at (labels_up_to more tokens (at + 2)) t rest
labels_by false tokens at more t rest = no_labels tokens at

labels_are : (more : ℕ) (tokens : List TokenParts) (at : ℕ) → AreLabels tokens at (labels_up_to more tokens at)
unfolding labels_up_to
labels_are zero tokens at = no_labels tokens at
labels_are (suc more) tokens at = labels_by (is_label tokens at) tokens at more refl (labels_are more tokens (at + 2))

statement_named : (tokens : List TokenParts) (at : ℕ) → All IsLowToken tokens → IsNamedStatement tokens (statement_of tokens at)
unfolding statement_of labels_end
statement_named tokens at low =
    let p = body_sound tokens low (labels_end tokens at) empty_parts (empty_part tokens) empty_aimed in
    let labels = labels_are (length tokens) tokens at in
    let is = labels.is in
    record { body = p.named; labels = λ k less. labels.each k (omega arith) }

more_by : (P : StatementParts → Type 0) (test : Bool) (s : StatementParts) (rest : List StatementParts) → P s → All P rest → All P (cond test (s ∷ rest) [])
more_by P true s rest h k = All-cons P s rest h k
more_by P false s rest h k = All-nil P

-- all statements are what each is
statements_all : (P : StatementParts → Type 0) (tokens : List TokenParts) → ((at : ℕ) → P (statement_of tokens at)) → (count at : ℕ) → All P (statements_up_to count tokens at)
unfolding statements_up_to
statements_all P tokens each zero at = All-nil P
statements_all P tokens each (suc count) at =
    more_by P (nat_lt at (length tokens)) (statement_of tokens at) (statements_up_to count tokens (next_at tokens at)) (each at) (statements_all P tokens each count (next_at tokens at))

-- ---- files

pub record IsSoundFile (file : FileParts) : Type 0 where
  pub tokens : All IsNamedToken file.tokens
  pub statements : All IsSoundStatement file.statements
  pub named : All (IsNamedStatement file.tokens) file.statements

file_sound : (tokens : List TokenParts) → All IsLowToken tokens → All IsNamedToken tokens → IsSoundFile (file_of tokens)
unfolding statements_of
file_sound tokens low named =
    record {
      tokens = named;
      statements = statements_all IsSoundStatement tokens (λ at. statement_sound tokens at low) (length tokens) 0;
      named = statements_all (IsNamedStatement tokens) tokens (λ at. statement_named tokens at low) (length tokens) 0;
    }

pub of_file_ok : {X : Type 0} (number : ℕ) (r : Result X AsmFault) (x : X) → of_file number r ≡ Ok x → r ≡ Ok x
of_file_ok number (Ok y) x e = let is : y ≡ x = cc in ap (λ z. Ok z) is
of_file_ok number (Err fault) x e = absurd (cc)

read_sound : (number : ℕ) (text : List ℕ) (files after : List FileParts) → All IsSoundFile files → file_read number text files ≡ Ok after → All IsSoundFile after
unfolding file_read
read_sound number text files after h e =
    let x = then_ok (of_file number (tokens_of text)) (λ tokens. Ok (files ++ file_of tokens ∷ [])) after e in
    let is : files ++ file_of x.0 ∷ [] ≡ after = (let k = x.2 in cc) in
    subst (All IsSoundFile) is
    (All-push IsSoundFile files (file_of x.0) h (file_sound x.0 (tokens_low text x.0 (of_file_ok number (tokens_of text) x.0 x.1)) (tokens_named text x.0 (of_file_ok number (tokens_of text) x.0 x.1))))

pub files_sound : (texts : List (List ℕ)) (files : List FileParts) → files_of texts ≡ Ok files → All IsSoundFile files
unfolding files_of
files_sound texts files e =
    each_kept (All IsSoundFile) file_read (λ n text s t h k. read_sound n text s t h k) 0 texts [] files (All-nil IsSoundFile) e
