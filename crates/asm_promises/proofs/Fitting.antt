-- What an instruction stands for is as long as its bytes.
use Rattle.std.proofs.Common.{◌≡◌, ℕ, List, [], ◌∷◌, length, slice_get, Option, Some, None, Ok, All, refl, sym, ap, ◌∙◌, subst}
use Rattle.std.specs.Prelude.{ℤ, IfSome}
use Rattle.std.specs.Int.{w64, cast_signed}
use Rattle.std.proofs.lemmas.List.Elements.{All-head}
use Rattle.cheri_model.specs.declared.instr.Instr.{Instr}
use Rattle.asm_tokens.specs.Faults.{◌>>=◌}
use Rattle.asm_names.specs.declared.relocations.Relocation.{Relocation}
use Rattle.asm_expansions.specs.declared.operation.Operation.{Operation}
use Rattle.asm_expansions.specs.declared.operation.Operation.TheVariants as does
use Rattle.asm_expansions.specs.Expansions.{expansion_of, count_of}
use Rattle.asm_expansions.proofs.Lengths.{length_is}
use Rattle.asm_immediates.specs.Immediates.{immediate_of, immediate_value}
use Rattle.asm_statements.specs.declared.statement.Operand.{Operand}
use Rattle.asm_statements.specs.declared.statement.Role.{Role}
use Rattle.asm_statements.specs.declared.statement.Role.TheVariants as roles
use Rattle.asm_statements.specs.Statements.{StatementParts}
use Rattle.asm_late.specs.Late.{LateParts}
use Rattle.asm_instructions.specs.declared.origin.Origin.{Origin}
use Rattle.asm_instructions.specs.declared.source.Source.{Source}
use Rattle.asm_instructions.specs.declared.source.Source.TheVariants as sources
use Rattle.asm_instructions.specs.Sources.{role_source, source_of, or_range, expansion_for}
use Rattle.asm_code.specs.Standing.{stand_of, at_operand}
use Rattle.asm_code.specs.Numbers.{number_of}
use Rattle.asm_code.specs.Code.{instructions_with, instructions_by, instructions_of}
use Rattle.asm_listable.proofs.Starts.{then_ok}
use Rattle.asm_promises.proofs.Memory.{at_ok}
use Rattle.asm_promises.proofs.Operations.{AreAimed, IsSound}

-- ---- how many instructions

-- only of `li` does a number tell
same_count : (operation : Operation) (v w : ℤ) → ((rd : ℕ) → operation ≡ does.Li rd → v ≡ w) → count_of operation v ≡ count_of operation w
unfolding count_of
same_count (does.Li rd) v w h = ap (λ (n : ℤ). count_of (does.Li rd) n) (h rd refl)
same_count _ v w h = refl

range_is : (operation : Operation) (value : ℤ) (o : Option (List Instr)) (instrs : List Instr) → IfSome o (λ is. length is ≡ count_of operation value) → or_range o ≡ Ok instrs
    → length instrs ≡ count_of operation value
range_is operation value (Some one) instrs h e = let is : one ≡ instrs = cc in ap (λ (x : List Instr). length x) (sym is) ∙ h
range_is operation value None instrs h e = absurd (cc)

-- the value that an expansion has, and its length
record Expands (operation : Operation) (relocation : Option Relocation) (n : ℕ) (instrs : List Instr) : Type 0 where
  value : ℤ
  value_is : immediate_value (immediate_of operation) relocation (cast_signed w64 n) ≡ Ok value
  long : length instrs ≡ count_of operation value

expands : (operation : Operation) (relocation : Option Relocation) (n : ℕ) (instrs : List Instr) → expansion_for operation relocation n ≡ Ok instrs → Expands operation relocation n instrs
unfolding expansion_for
expands operation relocation n instrs e =
    let x = then_ok (immediate_value (immediate_of operation) relocation (cast_signed w64 n)) (λ value. or_range (expansion_of operation value)) instrs e in
    record { value = x.0; value_is = x.1; long = range_is operation x.0 (expansion_of operation x.0) instrs (length_is operation x.0) x.2 }

li_value : (rd : ℕ) (relocation : Option Relocation) (number value : ℤ) → immediate_value (immediate_of (does.Li rd)) relocation number ≡ Ok value → number ≡ value
unfolding immediate_value
li_value rd None number value e = cc
li_value rd (Some relocation) number value e = absurd (cc)

first_early : (operands : List Operand) (operand : Operand) → slice_get operands 0 ≡ Some operand → All (λ o. o.role ≡ roles.Early) operands → operand.role ≡ roles.Early
first_early [] operand g h = absurd (cc)
first_early (one ∷ rest) operand g h =
    let is : one ≡ operand = cc in subst (λ (o : Operand). o.role ≡ roles.Early) is (All-head (λ o. o.role ≡ roles.Early) one rest h)

module _ (late : LateParts) where
  early_number : (operation : Operation) (relocation : Option Relocation) (role : Role) (origins : List Origin) (file number : ℕ) (s : StatementParts) (source : Source) (n : ℕ)
      → role ≡ roles.Early → role_source operation relocation role ≡ Ok source → number_of late origins file number s source ≡ Ok n → n ≡ (stand_of late file number).value
  unfolding number_of
  early_number operation relocation roles.Early origins file number s source n r o e =
      let is : sources.Constant ≡ source = cc in
      let there : number_of late origins file number s sources.Constant ≡ Ok n = ap (λ (k : Source). number_of late origins file number s k) is ∙ e in
      cc
  early_number operation relocation _ origins file number s source n r o e = absurd (cc)

  li_early : (rd : ℕ) (operation : Operation) (operands : List Operand) (operand : Operand) → operation ≡ does.Li rd → slice_get operands 0 ≡ Some operand → AreAimed operation operands
      → operand.role ≡ roles.Early
  li_early rd operation operands operand is g h = first_early operands operand g (subst (λ (o : Operation). AreAimed o operands) is h)

  fits_by : (origins : List Origin) (file number : ℕ) (s : StatementParts) (operation : Operation) (o : Option Operand) (instrs : List Instr) → slice_get s.operands 0 ≡ o
      → IsSound operation s.operands → (o ≡ None → (stand_of late file number).value ≡ 0) → instructions_by late origins file number s operation o ≡ Ok instrs
      → length instrs ≡ count_of operation (cast_signed w64 (stand_of late file number).value)
  unfolding instructions_with source_of
  fits_by origins file number s operation (Some operand) instrs g h none e =
      let x = then_ok (at_operand late file number 0 (source_of operation operand))
      (λ source. number_of late origins file number s source >>= λ value. at_operand late file number 0 (expansion_for operation operand.relocation value)) instrs e in
      let y = then_ok (number_of late origins file number s x.0) (λ value. at_operand late file number 0 (expansion_for operation operand.relocation value)) instrs x.2 in
      let source = at_ok late file number 0 (source_of operation operand) x.0 x.1 in
      let made = expands operation operand.relocation y.0 instrs (at_ok late file number 0 (expansion_for operation operand.relocation y.0) instrs y.2) in
      made.long
      ∙ same_count operation made.value (cast_signed w64 (stand_of late file number).value)
      (λ rd is.
      (let role = li_early rd operation s.operands operand is g h.aimed in
      let n = early_number operation operand.relocation operand.role origins file number s x.0 y.0 role source y.1 in
      let value = subst (λ (p : Operation). immediate_value (immediate_of p) operand.relocation (cast_signed w64 y.0) ≡ Ok made.value) is made.value_is in
      sym (li_value rd operand.relocation (cast_signed w64 y.0) made.value value) ∙ ap (λ (k : ℕ). cast_signed w64 k) n))
  fits_by origins file number s operation None instrs g h none e =
      let made = expands operation None 0 instrs (at_ok late file number 0 (expansion_for operation None 0) instrs e) in
      made.long
      ∙ same_count operation made.value (cast_signed w64 (stand_of late file number).value)
      (λ rd is.
      (let value = subst (λ (p : Operation). immediate_value (immediate_of p) None (cast_signed w64 0) ≡ Ok made.value) is made.value_is in
      sym (li_value rd None (cast_signed w64 0) made.value value) ∙ ap (λ (k : ℕ). cast_signed w64 k) (sym (none refl))))

  pub instructions_fit : (origins : List Origin) (file number : ℕ) (s : StatementParts) (operation : Operation) (instrs : List Instr) → IsSound operation s.operands
      → (slice_get s.operands 0 ≡ None → (stand_of late file number).value ≡ 0) → instructions_of late origins file number s operation ≡ Ok instrs
      → length instrs ≡ count_of operation (cast_signed w64 (stand_of late file number).value)
  unfolding instructions_of
  instructions_fit origins file number s operation instrs h none e = fits_by origins file number s operation (slice_get s.operands 0) instrs refl h none e
