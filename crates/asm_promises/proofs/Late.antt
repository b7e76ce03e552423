-- What operands and symbols are worth: numbers of 64 bits, and places.
use Rattle.std.proofs.Common.{◌≡◌, inl, inr, ℕ, zero, suc, ◌-◌, Bool, true, false, cond, List, [], ◌∷◌, length, drop, Option, Some, None, Result, Ok, Err, All, refl, sym, ap, subst}
use Rattle.std.specs.Prelude.{slice_get, slice_range, map}
use Rattle.std.specs.List.{range_with_len}
use Rattle.std.proofs.lemmas.Bool.{cases_lt}
use Rattle.std.proofs.lemmas.List.{get_or_past}
use Rattle.std.proofs.lemmas.List.Elements.{All-nil, All-cons, All-head, All-tail, All-get_or, All-take, All-drop, All-map, All-weaker}
use Rattle.asm_tokens.specs.declared.fault.AsmFaultKind.TheVariants as faults
use Rattle.asm_tokens.specs.Faults.{◌>>=◌}
use Rattle.asm_tokens.specs.Tokens.{TokenParts}
use Rattle.asm_values.specs.declared.values.Location.{Location}
use Rattle.asm_values.specs.declared.values.Value.{Value}
use Rattle.asm_expressions.specs.declared.node.Node.{Node}
use Rattle.asm_expressions.specs.declared.node.NodeKind.{NodeKind}
use Rattle.asm_expressions.specs.declared.node.NodeKind.TheVariants as kinds
use Rattle.asm_expressions.specs.declared.values.ValueFault.{ValueFault}
use Rattle.asm_expressions.specs.declared.values.ValueFault.TheVariants.{Operator, Name, NoMemory}
use Rattle.asm_expressions.specs.Tokens.{text_at}
use Rattle.asm_expressions.specs.Values.{meanings_of}
use Rattle.asm_chains.specs.declared.scene.Leaf.{Leaf}
use Rattle.asm_chains.specs.declared.scene.Leaf.TheVariants.{Is, Stands, Missing}
use Rattle.asm_chains.specs.declared.scene.LateFault.{LateFault}
use Rattle.asm_chains.specs.declared.scene.Setting.{Setting}
use Rattle.asm_chains.specs.Faults.{fault_in, no_memory}
use Rattle.asm_chains.specs.Scenes.{SceneParts, SymbolParts, no_symbol, symbol_at, leaf_value, named_in, worked_out, own_or, symbol_worked_out}
use Rattle.asm_chains.specs.Chains.{or_fault, is_open, value_by, value_on, symbol_value, if_value, known, known_values}
use Rattle.asm_chains.specs.Tables.{value_at, or_lack, in_table, no_name, by_table, value_or_fault, symbol_fault, late_value, symbol_or_fault, late_symbol}
use Rattle.asm_symbols.specs.declared.locals.Local.{Local}
use Rattle.asm_symbols.specs.declared.definitions.Meaning.{Meaning}
use Rattle.asm_symbols.specs.declared.definitions.Meaning.TheVariants.{Place, Assigned}
use Rattle.asm_symbols.specs.Definitions.{DefinitionParts}
use Rattle.asm_drafts.specs.Operands.{operand_start, operand_end, nodes_of}
use Rattle.asm_statements.specs.Statements.{StatementParts}
use Rattle.asm_links.specs.Locals.{local_label}
use Rattle.asm_places.specs.Places.{PlacesParts}
use Rattle.asm_files.specs.Faults.{of_file}
use Rattle.asm_files.specs.Steps.{each_from}
use Rattle.asm_files.specs.Stands.{statement_stood}
use Rattle.asm_files.specs.Sections.{SectionsParts, numbered, entry_of}
use Rattle.asm_files.specs.Programs.{FileParts, MadeParts, ProgramParts, statements_or_none, tokens_in, statement_at}
use Rattle.asm_files.specs.Files.{all_names, ReadingParts, with_stand, statement_step, statements_put, begun_draft, file_begun, file_ended, file_put, no_made, made_of, program_of}
use Rattle.asm_tables.specs.Names.{named, nodes_by, nodes_in}
use Rattle.asm_late.specs.Linked.{LinkedParts, places_by, linked_with, linked_of}
use Rattle.asm_late.specs.Late.{LateParts, places_of, scene_in, operand_value, name_fault, symbol_value as late_symbol_value}
use Rattle.asm_late.specs.Scene.{stands_or_missing, is_or_missing, leaf_by, leaf_of, symbol_by, symbol_of, scene_of}
use Rattle.asm_late.specs.Values.{in_files, setting_at}
use Rattle.asm_links.specs.Seen.{seen_of}
use Rattle.asm_links.specs.Sections.{sections_judged}
use Rattle.asm_listable.proofs.Starts.{then_ok}
use Rattle.asm_promises.proofs.Memory.{each_kept}
use Rattle.asm_promises.proofs.Nodes.{IsLowNode}
use Rattle.asm_promises.proofs.Sound.{IsSoundStatement, IsSoundFile, of_file_ok, files_sound}
use Rattle.asm_promises.proofs.Reading.{phases_of}
use Rattle.asm_promises.proofs.Walk.{stood_keeps}
use Rattle.asm_promises.proofs.Values.{IsLowValue, IsLowIf, none_low, some_low, value_low}
use Rattle.asm_promises.proofs.Drafts.{OfMeaning, IsPlaced, IsGood, labels_good, body_good}

-- ---- what was read

-- files of sound statements, and symbols that are worth a place where they are one
pub record IsRead (program : ProgramParts) : Type 0 where
  pub files : All IsSoundFile program.files
  pub symbols : All IsPlaced program.made.symbols

step_good : (sections : SectionsParts) (tokens : List TokenParts) (number : ℕ) (s : StatementParts) (reading after : ReadingParts) → IsGood reading.draft
    → statement_step sections tokens number s reading ≡ Ok after → IsGood after.draft
unfolding statement_step
step_good sections tokens number s reading after h e =
    let x = then_ok (statement_stood tokens reading.draft number s (entry_of sections tokens s)) (λ next. Ok (with_stand reading next)) after e in
    let is : with_stand reading x.0 ≡ after = (let k = x.2 in cc) in
    subst (λ (r : ReadingParts). IsGood r.draft) is
    (stood_keeps tokens s (entry_of sections tokens s) (λ at. Unit {0}) IsGood IsGood (labels_good tokens) (body_good tokens s.body (entry_of sections tokens s)) (λ k less. tt) reading.draft number x.0 h x.1)

file_good : (sections : SectionsParts) (number : ℕ) (file : FileParts) (made after : MadeParts) → All IsPlaced made.symbols
    → file_put sections number file made ≡ Ok after → All IsPlaced after.symbols
unfolding file_put statements_put file_begun file_ended
file_good sections number file made after h e =
    let begun : ReadingParts = record { draft = begun_draft sections.count number made; stands = [] } in
    let x = then_ok (of_file number (each_from (statement_step sections file.tokens) 0 file.statements begun)) (λ reading. Ok (file_ended made reading)) after e in
    let good : IsGood x.0.draft =
    each_kept (λ (r : ReadingParts). IsGood r.draft) (statement_step sections file.tokens) (λ n s p q k f. step_good sections file.tokens n s p q k f) 0 file.statements begun x.0
    (record { placed = h }) (of_file_ok number (each_from (statement_step sections file.tokens) 0 file.statements begun) x.0 x.1) in
    let is : file_ended made x.0 ≡ after = (let k = x.2 in cc) in
    subst (λ (m : MadeParts). All IsPlaced m.symbols) is good.placed

made_good : (sections : SectionsParts) (files : List FileParts) (made : MadeParts) → made_of sections files ≡ Ok made → All IsPlaced made.symbols
unfolding made_of
made_good sections files made e =
    each_kept (λ (m : MadeParts). All IsPlaced m.symbols) (file_put sections) (λ n f p q k g. file_good sections n f p q k g) 0 files no_made made (All-nil IsPlaced) e

pub program_read : (texts : List (List ℕ)) (program : ProgramParts) → program_of texts ≡ Ok program → IsRead program
program_read texts program e =
    let p = phases_of texts program e in
    record { files = files_sound texts program.files p.files_read; symbols = made_good (numbered (all_names program.files)) program.files program.made p.made }

-- ---- nodes of operands

pub got : {X : Type 0} (P : X → Type 0) (xs : List X) (n : ℕ) (x : X) → All P xs → slice_get xs n ≡ Some x → P x
got P [] n x h e = absurd (cc)
got P (y ∷ xs) zero x h e = let is : y ≡ x = cc in subst P is (All-head P y xs h)
got P (y ∷ xs) (suc n) x h e = got P xs n x (All-tail P y xs h) e

sliced : (test : Bool) (nodes : List Node) (from to : ℕ) → All IsLowNode nodes → All IsLowNode (cond test (slice_range nodes from to) [])
sliced true nodes from to h = All-take IsLowNode (to - from) (drop from nodes) (All-drop IsLowNode from nodes h)
sliced false nodes from to h = All-nil IsLowNode

nodes_low : (s : StatementParts) (operand : ℕ) → All IsLowNode s.nodes → All IsLowNode (nodes_of s operand)
unfolding nodes_of
nodes_low s operand h = sliced _ s.nodes (operand_start s operand) (operand_end s operand) h

by_low : (o : Option StatementParts) (operand : ℕ) → ((s : StatementParts) → o ≡ Some s → All IsLowNode s.nodes) → All IsLowNode (nodes_by o operand)
by_low (Some s) operand h = nodes_low s operand (h s refl)
by_low None operand h = All-nil IsLowNode

statements_sound : (o : Option FileParts) → ((f : FileParts) → o ≡ Some f → IsSoundFile f) → All IsSoundStatement (statements_or_none o)
statements_sound (Some f) h = (h f refl).statements
statements_sound None h = All-nil IsSoundStatement

pub statement_sound_at : (program : ProgramParts) (file number : ℕ) (s : StatementParts) → All IsSoundFile program.files → statement_at program file number ≡ Some s
    → IsSoundStatement s
unfolding statement_at
statement_sound_at program file number s h e =
    got IsSoundStatement (statements_or_none (slice_get program.files file)) number s
    (statements_sound (slice_get program.files file) (λ f g. got IsSoundFile program.files file f h g)) e

program_nodes : (program : ProgramParts) (file statement operand : ℕ) → All IsSoundFile program.files → All IsLowNode (nodes_in program file statement operand)
unfolding nodes_in
program_nodes program file statement operand h =
    by_low (statement_at program file statement) operand (λ s e. (statement_sound_at program file statement s h e).nodes)

-- ---- scenes

record IsLowSymbol (s : SymbolParts) : Type 0 where
  own : IsLowIf s.own
  nodes : All IsLowNode s.nodes

abbrev IsLowLeafOf : Leaf → Type 0
IsLowLeafOf (Is value) = IsLowValue value
IsLowLeafOf _ = Unit {0}

record IsLowLeaf (leaf : Leaf) : Type 0 where
  low : IsLowLeafOf leaf

record IsLowScene (scene : SceneParts) : Type 0 where
  symbols : All IsLowSymbol scene.symbols
  leaf : (setting : Setting) (node : Node) → IsLowLeaf (scene.leaf setting node)

stands_low : (o : Option ℕ) → IsLowLeaf (stands_or_missing o)
stands_low (Some symbol) = record { low = tt }
stands_low None = record { low = tt }

local_low : (o : Option Local) → IsLowLeaf (is_or_missing o)
local_low (Some local) = record { low = record { low = tt } }
local_low None = record { low = tt }

leaf_by_low : (program : ProgramParts) (seen : List ℕ → Option ℕ) (setting : Setting) (at : ℕ) (kind : NodeKind) → IsLowLeaf (leaf_by program seen setting at kind)
leaf_by_low program seen setting at kinds.Symbol = stands_low (named program seen setting.file (text_at (tokens_in program setting.file) at))
leaf_by_low program seen setting at kinds.Local = local_low (local_label program setting.file setting.statement (text_at (tokens_in program setting.file) at))
leaf_by_low program seen setting at kinds.Dot = record { low = record { low = tt } }
leaf_by_low program seen setting at _ = record { low = tt }

leaf_low : (program : ProgramParts) (seen : List ℕ → Option ℕ) (setting : Setting) (node : Node) → IsLowLeaf (leaf_of program seen setting node)
unfolding leaf_of
leaf_low program seen setting node = leaf_by_low program seen setting node.at node.kind

early_low : (d : DefinitionParts) (meaning : Meaning) → d.meaning ≡ meaning → IsPlaced d → OfMeaning meaning d.early
early_low d meaning m h = subst (λ (k : Meaning). OfMeaning k d.early) m h.early

module _ (program : ProgramParts) (read : IsRead program) where
  meaning_low : (d : DefinitionParts) (meaning : Meaning) → d.meaning ≡ meaning → IsPlaced d → IsLowSymbol (symbol_by program d meaning)
  meaning_low d (Place chunk offset) m h = record { own = early_low d (Place chunk offset) m h; nodes = All-nil IsLowNode }
  meaning_low d (Assigned statement) m h = record { own = none_low; nodes = program_nodes program d.file statement 0 read.files }

  symbol_low : (d : DefinitionParts) → IsPlaced d → IsLowSymbol (symbol_of program d)
  unfolding symbol_of
  symbol_low d h = meaning_low d d.meaning refl h

  scene_low : (seen : List ℕ → Option ℕ) (places : PlacesParts) → IsLowScene (scene_of program seen places)
  unfolding scene_of
  scene_low seen places = record {
    symbols = All-map IsLowSymbol (symbol_of program) program.made.symbols (All-weaker IsPlaced (λ d. IsLowSymbol (symbol_of program d)) (λ d h. symbol_low d h) program.made.symbols read.symbols);
    leaf = λ setting node. leaf_low program seen setting node;
  }

-- ---- values

module _ (scene : SceneParts) (low : IsLowScene scene) where
  leaf_value_low : {E : Type 0} (symbols : ℕ → ℕ → Result Value E) (missing : ℕ → E) (at : ℕ) (leaf : Leaf) (value : Value) → IsLowLeaf leaf
      → ((symbol at : ℕ) (value : Value) → symbols symbol at ≡ Ok value → IsLowValue value) → leaf_value symbols missing at leaf ≡ Ok value → IsLowValue value
  leaf_value_low symbols missing at (Is one) value h s e = let is : one ≡ value = cc in subst IsLowValue is h.low
  leaf_value_low symbols missing at (Stands symbol) value h s e = s symbol at value e
  leaf_value_low symbols missing at Missing value h s e = absurd (cc)

  worked_low : {E : Type 0} (symbols : ℕ → ℕ → Result Value E) (missing : ℕ → E) (setting : Setting) (nodes : List Node) (value : Value) → All IsLowNode nodes
      → ((symbol at : ℕ) (value : Value) → symbols symbol at ≡ Ok value → IsLowValue value) → worked_out scene symbols missing setting nodes ≡ Ok value → IsLowValue value
  unfolding worked_out named_in
  worked_low symbols missing setting nodes value h s e =
      value_low (meanings_of (named_in scene symbols missing setting) scene.apart)
      (λ node one f. leaf_value_low symbols missing node.at (scene.leaf setting node) one (low.leaf setting node) s f) nodes value h e

  own_low : {E : Type 0} (o : Option Value) (r : Result Value (ValueFault E)) (value : Value) → IsLowIf o → (r ≡ Ok value → IsLowValue value)
      → own_or o r ≡ Ok value → IsLowValue value
  own_low (Some one) r value h k e = let is : one ≡ value = cc in subst IsLowValue is (h.then one refl)
  own_low None r value h k e = k e

  symbol_worked_low : {E : Type 0} (symbols : ℕ → ℕ → Result Value E) (missing : ℕ → E) (symbol : SymbolParts) (value : Value) → IsLowSymbol symbol
      → ((other at : ℕ) (value : Value) → symbols other at ≡ Ok value → IsLowValue value) → symbol_worked_out scene symbols missing symbol ≡ Ok value → IsLowValue value
  unfolding symbol_worked_out
  symbol_worked_low symbols missing symbol value h s e =
      own_low symbol.own (worked_out scene symbols missing symbol.setting symbol.nodes) value h.own
      (λ f. worked_low symbols missing symbol.setting symbol.nodes value h.nodes s f) e

  fault_ok : (setting : Setting) (r : Result Value (ValueFault LateFault)) (value : Value) → or_fault setting r ≡ Ok value → r ≡ Ok value
  fault_ok setting (Ok one) value e = let is : one ≡ value = cc in ap (λ x. Ok x) is
  fault_ok setting (Err (Operator at)) value e = absurd (cc)
  fault_ok setting (Err (Name fault)) value e = absurd (cc)
  fault_ok setting (Err NoMemory) value e = absurd (cc)

  nothing_low : IsLowSymbol no_symbol
  nothing_low = record { own = none_low; nodes = All-nil IsLowNode }

  at_low : (symbol : ℕ) → IsLowSymbol (symbol_at scene symbol)
  at_low symbol =
      elim (cases_lt symbol (length scene.symbols)) [
        | inl within ↦ All-get_or IsLowSymbol scene.symbols symbol no_symbol within low.symbols
        | inr past ↦ subst IsLowSymbol (sym (get_or_past scene.symbols symbol no_symbol past)) nothing_low
      ]

  on_by : (test : Bool) (r : Result Value LateFault) (again : LateFault) (value : Value) → (r ≡ Ok value → IsLowValue value) → cond test r (Err again) ≡ Ok value
      → IsLowValue value
  on_by true r again value h e = h e
  on_by false r again value h e = absurd (cc)

  on_low : (more : ℕ) (way : List ℕ) (symbol : ℕ) (again : LateFault) (value : Value) → value_on scene more way symbol again ≡ Ok value → IsLowValue value
  unfolding value_on
  on_low zero way symbol again value e = absurd (cc)
  on_low (suc more) way symbol again value e =
      on_by (is_open scene way symbol) (value_by scene (value_on scene more (symbol ∷ way)) (symbol_at scene symbol)) again value
      (λ f. symbol_worked_low (λ other at. value_on scene more (symbol ∷ way) other (fault_in (symbol_at scene symbol).setting faults.Expression at)) (fault_in (symbol_at scene symbol).setting faults.Symbol) (symbol_at scene symbol) value (at_low symbol)
      (λ other at one g. on_low more (symbol ∷ way) other (fault_in (symbol_at scene symbol).setting faults.Expression at) one g) (fault_ok (symbol_at scene symbol).setting (symbol_worked_out scene (λ other at. value_on scene more (symbol ∷ way) other (fault_in (symbol_at scene symbol).setting faults.Expression at)) (fault_in (symbol_at scene symbol).setting faults.Symbol) (symbol_at scene symbol)) value f)) e

  if_low : (r : Result Value LateFault) → ((value : Value) → r ≡ Ok value → IsLowValue value) → IsLowIf (if_value r)
  if_low (Ok value) h = some_low value (h value refl)
  if_low (Err fault) h = none_low

  known_low : (symbol : ℕ) → IsLowIf (known scene symbol)
  unfolding known symbol_value
  known_low symbol = if_low (symbol_value scene symbol no_memory) (λ value e. on_low (length scene.symbols) [] symbol no_memory value e)

  all_known : (symbols : List ℕ) → All IsLowIf (map (known scene) symbols)
  all_known [] = All-nil IsLowIf
  all_known (symbol ∷ symbols) = All-cons IsLowIf (known scene symbol) (map (known scene) symbols) (known_low symbol) (all_known symbols)

  values_low : All IsLowIf (known_values scene)
  unfolding known_values
  values_low = all_known (range_with_len 0 (length scene.symbols))

  -- ---- by the table

  module _ (values : List (Option Value)) (table : All IsLowIf values) where
    table_low : (symbol : ℕ) → IsLowIf (value_at values symbol)
    table_low symbol =
        elim (cases_lt symbol (length values)) [
          | inl within ↦ All-get_or IsLowIf values symbol None within table
          | inr past ↦ subst IsLowIf (sym (get_or_past values symbol None past)) none_low
        ]

    lack_low : (o : Option Value) (symbol at : ℕ) (value : Value) → IsLowIf o → or_lack o symbol at ≡ Ok value → IsLowValue value
    lack_low (Some one) symbol at value h e = let is : one ≡ value = cc in subst IsLowValue is (h.then one refl)
    lack_low None symbol at value h e = absurd (cc)

    value_ok : (symbols : ℕ → LateFault → LateFault) (setting : Setting) (r : Result Value (ValueFault _)) (value : Value)
        → value_or_fault symbols setting r ≡ Ok value → r ≡ Ok value
    value_ok symbols setting (Ok one) value e = let is : one ≡ value = cc in ap (λ x. Ok x) is
    value_ok symbols setting (Err fault) value e = absurd (cc)

    late_low : (setting : Setting) (nodes : List Node) (value : Value) → All IsLowNode nodes → late_value scene values setting nodes ≡ Ok value → IsLowValue value
    unfolding late_value by_table
    late_low setting nodes value h e =
        worked_low (in_table values) no_name setting nodes value h
        (λ symbol at one f. lack_low (value_at values symbol) symbol at one (table_low symbol) f)
        (value_ok (symbol_fault scene values) setting (worked_out scene (in_table values) no_name setting nodes) value e)

    or_low : (symbol : ℕ) (again : LateFault) (o : Option Value) (value : Value) → IsLowIf o → symbol_or_fault scene values symbol again o ≡ Ok value → IsLowValue value
    or_low symbol again (Some one) value h e = let is : one ≡ value = cc in subst IsLowValue is (h.then one refl)
    or_low symbol again None value h e = absurd (cc)

    symbol_late_low : (symbol : ℕ) (again : LateFault) (value : Value) → late_symbol scene values symbol again ≡ Ok value → IsLowValue value
    unfolding late_symbol
    symbol_late_low symbol again value e = or_low symbol again (value_at values symbol) value (table_low symbol) e

-- ---- of a program that is linked

in_ok : {X : Type 0} (program : ProgramParts) (r : Result X LateFault) (x : X) → in_files program r ≡ Ok x → r ≡ Ok x
in_ok program (Ok y) x e = let is : y ≡ x = cc in ap (λ z. Ok z) is
in_ok program (Err fault) x e = absurd (cc)

-- the values of its symbols are low, by the scene of its own places
pub record IsLinked (late : LateParts) : Type 0 where
  pub read : IsRead late.program
  pub values : All IsLowIf late.linked.values

pub linked_low : (program : ProgramParts) (exits : Bool) (linked : LinkedParts) → IsRead program → linked_of program exits ≡ Ok linked
    → IsLinked (record { program = program; linked = linked })
unfolding linked_of linked_with
linked_low program exits linked read e =
    let x = then_ok (seen_of program) (λ seen. sections_judged program >>= λ u. Ok (linked_with program exits seen)) linked e in
    let y = then_ok (sections_judged program) (λ u. Ok (linked_with program exits x.0)) linked x.2 in
    let is : linked_with program exits x.0 ≡ linked = (let k = y.2 in cc) in
    let one : LinkedParts = linked_with program exits x.0 in
    let values : All IsLowIf one.values = values_low (scene_of program x.0 (places_by program one.layout)) (scene_low program read x.0 (places_by program one.layout)) in
    subst (λ (l : LinkedParts). IsLinked (record { program = program; linked = l })) is (record { read = read; values = values })

module _ (late : LateParts) (h : IsLinked late) where
  own_scene : IsLowScene (scene_in late)
  unfolding scene_in
  own_scene = scene_low late.program h.read late.linked.seen (places_of late)

  pub operand_low : (file number operand : ℕ) (dot : Location) (value : Value) → operand_value late file number operand dot ≡ Ok value → IsLowValue value
  unfolding operand_value
  operand_low file number operand dot value e =
      late_low (scene_in late) own_scene late.linked.values h.values (setting_at file number dot) (nodes_in late.program file number operand) value
      (program_nodes late.program file number operand h.read.files)
      (in_ok late.program (late_value (scene_in late) late.linked.values (setting_at file number dot) (nodes_in late.program file number operand)) value e)

  pub symbol_low_late : (symbol : ℕ) (value : Value) → late_symbol_value late symbol ≡ Ok value → IsLowValue value
  unfolding late_symbol_value
  symbol_low_late symbol value e =
      symbol_late_low (scene_in late) own_scene late.linked.values h.values symbol (name_fault (slice_get late.program.made.symbols symbol)) value
      (in_ok late.program (late_symbol (scene_in late) late.linked.values symbol (name_fault (slice_get late.program.made.symbols symbol))) value e)
