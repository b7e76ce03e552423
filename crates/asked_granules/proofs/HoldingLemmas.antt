-- What a memory has in other granules makes no difference to a condition.
use Rattle.std.proofs.Common.{◌≡◌, ℕ, zero, suc, ◌+◌, length, List, [], ◌∷◌, refl, ap, ◌∙◌}
use Rattle.std.specs.Prelude.{Bool, true, not, ◌||◌, ◌==◌, if◌then◌else◌}
use Rattle.std.proofs.lemmas.Bool.{or_left, or_right, eq-eqb}
use Rattle.cap_model.specs.values.CapValue.{CapValue, bits_of}
use Rattle.cheri_model.specs.runs.Machine.{MachineState, hart_at}
use Rattle.cheri_model.specs.steps.Memory.{bytes_of, bytes_at, granule_at, granule_number, granule_offset, load_capability, load_data}
use Rattle.conditions.specs.declared.parts.Atom.{Atom}
use Rattle.conditions.specs.declared.parts.Atom.TheVariants as atom
use Rattle.conditions.specs.declared.parts.Holder.{Holder}
use Rattle.conditions.specs.declared.parts.Holder.TheVariants as holder
use Rattle.conditions.specs.declared.parts.Node.{Node}
use Rattle.conditions.specs.declared.parts.Node.TheVariants as node
use Rattle.conditions.specs.declared.parts.Source.{Source}
use Rattle.conditions.specs.declared.parts.Source.TheVariants as source
use Rattle.conditions.specs.declared.parts.Term.{Term}
use Rattle.conditions.specs.declared.parts.Term.TheVariants as term
use Rattle.conditions.specs.Formulas.{Formula, says, deny, enclosed, join, counted, grow, grown, last_part, formula_of}
use Rattle.conditions.specs.Holding.{joined, how_many, is_so, holds}
use Rattle.conditions.specs.Values.{field_value, value_in, number_at, compares, source_number, term_number, atom_holds}
use Rattle.asked_granules.specs.AskedGranules.{holder_reads, source_reads, term_reads, atom_reads, node_reads, condition_reads}

-- of as many numbers what holds of the same
how_many_same : (p q : ℕ → Bool) → ((n : ℕ) → p n ≡ q n) → (count : ℕ) → how_many p count ≡ how_many q count
unfolding how_many
how_many_same p q same zero = refl
how_many_same p q same (suc n) =
    ap (λ (k : ℕ). k + (if p n then 1 else 0)) (how_many_same p q same n)
    ∙ ap (λ (b : Bool). how_many q n + (if b then 1 else 0)) (same n)

module _ (s : MachineState) (memory : List CapValue) where
  abbrev pub other : MachineState
  other = record s { memory = memory }

  -- both memories have the same in each granule that is looked at
  abbrev pub Agree : (ℕ → Bool) → Type 0
  Agree reads = (granule : ℕ) → reads granule ≡ true → granule_at memory granule ≡ granule_at s.memory granule

  left_agree : (one two : ℕ → Bool) → Agree (λ granule. one granule || two granule) → Agree one
  left_agree one two same granule looks = same granule (or_left (one granule) (two granule) looks)

  right_agree : (one two : ℕ → Bool) → Agree (λ granule. one granule || two granule) → Agree two
  right_agree one two same granule looks = same granule (or_right (one granule) (two granule) looks)

  -- ---- the trees of conditions

  -- the memories agree in what each atom of a condition looks at
  unfoldable AgreeIn : Formula → Type 0
  AgreeIn (says a) = Agree (atom_reads a)
  AgreeIn (deny f) = AgreeIn f
  AgreeIn (enclosed f) = AgreeIn f
  AgreeIn (join joint f g) = AgreeIn f × AgreeIn g
  AgreeIn (counted f comparison number) = AgreeIn f

  AllAgree : List Formula → Type 0
  AllAgree [] = Unit {0}
  AllAgree (f ∷ fs) = AgreeIn f × AllAgree fs

  grow_agree : (n : Node) (fs : List Formula) → Agree (node_reads n) → AllAgree fs → AllAgree (grow n fs)
  unfolding grow node_reads AllAgree AgreeIn
  grow_agree (node.Says a) fs same are = (same, are)
  grow_agree node.Not [] same are = are
  grow_agree node.Not (f ∷ fs) same are = are
  grow_agree node.Enclosed [] same are = are
  grow_agree node.Enclosed (f ∷ fs) same are = are
  grow_agree (node.Joined joint second) [] same are = are
  grow_agree (node.Joined joint second) (g ∷ []) same are = are
  grow_agree (node.Joined joint second) (g ∷ f ∷ fs) same are = ((are.1.0, are.0), are.1.1)
  grow_agree (node.Counted comparison number) [] same are = are
  grow_agree (node.Counted comparison number) (f ∷ fs) same are = are

  grown_agree : (fs : List Formula) (nodes : List Node) → Agree (condition_reads nodes) → AllAgree fs → AllAgree (grown fs nodes)
  unfolding grown condition_reads AllAgree
  grown_agree fs [] same are = are
  grown_agree fs (n ∷ nodes) same are =
      grown_agree (grow n fs) nodes (right_agree (node_reads n) (condition_reads nodes) same)
      (grow_agree n fs (left_agree (node_reads n) (condition_reads nodes) same) are)

  last_agree : (fs : List Formula) → AllAgree fs → AgreeIn (last_part fs)
  unfolding atom_reads AgreeIn AllAgree
  last_agree [] are = λ granule looks. absurd (cc)
  last_agree (f ∷ fs) are = are.0

  formula_agree : (nodes : List Node) → Agree (condition_reads nodes) → AgreeIn (formula_of nodes)
  unfolding formula_of AllAgree
  formula_agree nodes same = last_agree (grown [] nodes) (grown_agree [] nodes same tt)

  -- ---- what is so in a state

  named_same : (addr : ℕ) → Agree (λ granule. granule == granule_number addr) →
      granule_at memory (granule_number addr) ≡ granule_at s.memory (granule_number addr)
  named_same addr same = same (granule_number addr) (eq-eqb (granule_number addr) (granule_number addr) refl)

  value_same : (held : Holder) → Agree (holder_reads held) → value_in held other ≡ value_in held s
  unfolding value_in holder_reads hart_at load_capability
  value_same (holder.Register hart named) same = refl
  value_same (holder.Pcc hart) same = refl
  value_same (holder.Granule addr) same = named_same addr same

  data_same : (addr bytes : ℕ) → Agree (λ granule. granule == granule_number addr) →
      load_data memory addr bytes ≡ load_data s.memory addr bytes
  unfolding load_data
  data_same addr bytes same = ap (λ (v : CapValue). bytes_at (bits_of v) (granule_offset addr) bytes) (named_same addr same)

  source_same : (each : ℕ) (from : Source) → Agree (source_reads from) → source_number other each from ≡ source_number s each from
  unfolding source_number number_at source_reads hart_at
  source_same each (source.Value held read) same = ap (field_value read) (value_same held same)
  source_same each (source.Data addr width) same = data_same addr (bytes_of width) same
  source_same each (source.Each held read) same = refl

  term_same : (each : ℕ) (with : Term) → Agree (term_reads with) → term_number other each with ≡ term_number s each with
  unfolding term_number term_reads
  term_same each (term.Number number) same = refl
  term_same each (term.Source from) same = source_same each from same

  atom_same : (each : ℕ) (a : Atom) → Agree (atom_reads a) → atom_holds other each a ≡ atom_holds s each a
  unfolding atom_holds atom_reads hart_at
  atom_same each (atom.Compares from comparison with) same =
      ap (λ (x : ℕ). compares comparison x (term_number other each with))
      (source_same each from (left_agree (source_reads from) (term_reads with) same))
      ∙ ap (λ (y : ℕ). compares comparison (source_number s each from) y)
      (term_same each with (right_agree (source_reads from) (term_reads with) same))
  atom_same each (atom.HasStatus who test) same = refl
  atom_same each (atom.Reaches who addr perms) same = refl
  atom_same each (atom.IsAt who addr) same = refl
  atom_same each (atom.IsIn who first second) same = refl

  so_same : (f : Formula) (each : ℕ) → AgreeIn f → is_so other each f ≡ is_so s each f
  unfolding is_so AgreeIn
  so_same (says a) each same = atom_same each a same
  so_same (deny f) each same = ap not (so_same f each same)
  so_same (enclosed f) each same = so_same f each same
  so_same (join joint f g) each same =
      ap (λ (x : Bool). joined joint x (is_so other each g)) (so_same f each same.0)
      ∙ ap (λ (y : Bool). joined joint (is_so s each f) y) (so_same g each same.1)
  so_same (counted f comparison number) each same =
      ap (λ (k : ℕ). compares comparison k number)
      (how_many_same (λ hart. is_so other hart f) (λ hart. is_so s hart f) (λ hart. so_same f hart same) (length s.harts))

  pub holds_same : (nodes : List Node) → Agree (condition_reads nodes) → holds other nodes ≡ holds s nodes
  unfolding holds
  holds_same nodes same = so_same (formula_of nodes) 0 (formula_agree nodes same)
