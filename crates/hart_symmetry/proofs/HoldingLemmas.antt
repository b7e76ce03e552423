-- In which of two states whose harts stand in another order a condition holds.
use Rattle.std.proofs.Common.{◌≡◌, ℕ, length, refl, sym, ap, ◌∙◌}
use Rattle.std.specs.Prelude.{Bool, true, false, not, ◌||◌, ◌==◌, List}
use Rattle.std.proofs.lemmas.Bool.{or_left, or_right, eq-eqb}
use Rattle.cap_model.specs.values.CapValue.{CapValue}
use Rattle.cap_model.specs.results.Addresses.{address_of}
use Rattle.cheri_model.specs.runs.Machine.{MachineState, hart_at}
use Rattle.cheri_model.specs.steps.Hart.{HartState, register}
use Rattle.cheri_model.specs.steps.Memory.{bytes_of, load_data, load_capability}
use Rattle.conditions.specs.declared.parts.Atom.{Atom}
use Rattle.conditions.specs.declared.parts.Atom.TheVariants as atom
use Rattle.conditions.specs.declared.parts.Holder.{Holder}
use Rattle.conditions.specs.declared.parts.Holder.TheVariants as holder
use Rattle.conditions.specs.declared.parts.Node.{Node}
use Rattle.conditions.specs.declared.parts.Source.{Source}
use Rattle.conditions.specs.declared.parts.Source.TheVariants as source
use Rattle.conditions.specs.declared.parts.Subject.{Subject}
use Rattle.conditions.specs.declared.parts.Subject.TheVariants as subject
use Rattle.conditions.specs.declared.parts.Term.{Term}
use Rattle.conditions.specs.declared.parts.Term.TheVariants as term
use Rattle.conditions.specs.Formulas.{Formula, says, deny, enclosed, join, counted, formula_of}
use Rattle.conditions.specs.Holding.{joined, how_many, is_so, holds}
use Rattle.conditions.specs.Values.{field_value, value_in, number_at, compares, has_status, reaches, number_of}
use Rattle.conditions.specs.Values.{own_value, source_number, term_number, is_between, atom_holds}
use Rattle.hart_symmetry.specs.Named.{each_names, holder_names, subject_names, source_names, term_names, atom_names}
use Rattle.hart_symmetry.specs.Named.{formula_names, condition_names, NamedStay}
use Rattle.hart_symmetry.specs.Renaming.{IsRenamed}
use Rattle.hart_symmetry.proofs.CountLemmas.{how_many_same, how_many_renamed}

module _ (stays : ℕ → Bool) where
  left_stays : (one other : ℕ → Bool) → NamedStay stays (λ i. one i || other i) → NamedStay stays one
  left_stays one other named i names = named i (or_left (one i) (other i) names)

  right_stays : (one other : ℕ → Bool) → NamedStay stays (λ i. one i || other i) → NamedStay stays other
  right_stays one other named i names = named i (or_right (one i) (other i) names)

  module _ (p : ℕ → ℕ) (s t : MachineState) (r : IsRenamed stays p s t) where
    -- `h` is the same hart of both states within a count, and hart 0 outside of all
    abbrev MeansSame : Bool → ℕ → ℕ → Type 0
    MeansSame true i j = hart_at t i ≡ hart_at s j
    MeansSame false i j = (i ≡ 0) × (j ≡ 0)

    stays_there : (i : ℕ) → stays i ≡ true → hart_at t i ≡ hart_at s i
    stays_there i stay = r.harts i ∙ ap (hart_at s) (r.staying i stay)

    named_same : (i : ℕ) → NamedStay stays (λ hart. hart == i) → hart_at t i ≡ hart_at s i
    named_same i named = stays_there i (named i (eq-eqb i i refl))

    each_same : (counts : Bool) (i j : ℕ) → MeansSame counts i j → NamedStay stays (each_names counts) →
        hart_at t i ≡ hart_at s j
    each_same true i j same named = same
    each_same false i j same named =
        ap (hart_at t) same.0 ∙ (stays_there 0 (named 0 refl) ∙ sym (ap (hart_at s) same.1))

    subject_same : (counts : Bool) (who : Subject) (i j : ℕ) → MeansSame counts i j →
        NamedStay stays (subject_names counts who) → hart_at t (number_of who i) ≡ hart_at s (number_of who j)
    unfolding subject_names number_of
    subject_same counts (subject.Numbered number) i j same named = named_same number named
    subject_same counts subject.Each i j same named = each_same counts i j same named

    value_same : (held : Holder) → NamedStay stays (holder_names held) → value_in held t ≡ value_in held s
    unfolding value_in holder_names
    value_same (holder.Register hart reg) named = ap (λ (h : HartState). register h reg) (named_same hart named)
    value_same (holder.Pcc hart) named = ap (λ (h : HartState). h.pcc) (named_same hart named)
    value_same (holder.Granule addr) named = ap (λ (m : List CapValue). load_capability m addr) r.memory

    source_same : (counts : Bool) (from : Source) (i j : ℕ) → MeansSame counts i j →
        NamedStay stays (source_names counts from) → source_number t i from ≡ source_number s j from
    unfolding source_number number_at source_names
    source_same counts (source.Value held read) i j same named = ap (field_value read) (value_same held named)
    source_same counts (source.Data addr width) i j same named =
        ap (λ (m : List CapValue). load_data m addr (bytes_of width)) r.memory
    source_same counts (source.Each held read) i j same named =
        ap (λ (h : HartState). field_value read (own_value held h)) (each_same counts i j same named)

    term_same : (counts : Bool) (with : Term) (i j : ℕ) → MeansSame counts i j →
        NamedStay stays (term_names counts with) → term_number t i with ≡ term_number s j with
    unfolding term_number term_names
    term_same counts (term.Number number) i j same named = refl
    term_same counts (term.Source from) i j same named = source_same counts from i j same named

    atom_same : (counts : Bool) (a : Atom) (i j : ℕ) → MeansSame counts i j → NamedStay stays (atom_names counts a) →
        atom_holds t i a ≡ atom_holds s j a
    unfolding atom_holds atom_names
    atom_same counts (atom.Compares from comparison with) i j same named =
        ap (λ (x : ℕ). compares comparison x (term_number t i with))
        (source_same counts from i j same (left_stays (source_names counts from) (term_names counts with) named))
        ∙ ap (λ (y : ℕ). compares comparison (source_number s j from) y)
        (term_same counts with i j same (right_stays (source_names counts from) (term_names counts with) named))
    atom_same counts (atom.HasStatus who wanted) i j same named =
        ap (λ (h : HartState). has_status wanted h.status) (subject_same counts who i j same named)
    atom_same counts (atom.Reaches who addr perms) i j same named =
        ap (reaches addr perms) (subject_same counts who i j same named)
    atom_same counts (atom.IsAt who addr) i j same named =
        ap (λ (h : HartState). address_of h.pcc == addr) (subject_same counts who i j same named)
    atom_same counts (atom.IsIn who first second) i j same named =
        ap (λ (h : HartState). is_between first second (address_of h.pcc)) (subject_same counts who i j same named)

    so_same : (counts : Bool) (f : Formula) (i j : ℕ) → MeansSame counts i j → NamedStay stays (formula_names counts f) →
        is_so t i f ≡ is_so s j f
    unfolding is_so formula_names
    so_same counts (says a) i j same named = atom_same counts a i j same named
    so_same counts (deny f) i j same named = ap not (so_same counts f i j same named)
    so_same counts (enclosed f) i j same named = so_same counts f i j same named
    so_same counts (join joint f g) i j same named =
        ap (λ (x : Bool). joined joint x (is_so t i g))
        (so_same counts f i j same (left_stays (formula_names counts f) (formula_names counts g) named))
        ∙ ap (λ (y : Bool). joined joint (is_so s j f) y)
        (so_same counts g i j same (right_stays (formula_names counts f) (formula_names counts g) named))
    so_same counts (counted f comparison number) i j same named =
        let holding : ℕ → Bool = λ hart. is_so s hart f in
        ap (λ (k : ℕ). compares comparison k number)
        (ap (how_many (λ hart. is_so t hart f)) r.count
        ∙ (how_many_same (λ hart. is_so t hart f) (λ hart. holding (p hart)) (length s.harts)
        (λ hart low. so_same true f hart (p hart) (r.harts hart) named)
        ∙ how_many_renamed (length s.harts) holding p r.to r.there r.back r.beyond))

    pub holds_same : (nodes : List Node) → NamedStay stays (condition_names nodes) → holds t nodes ≡ holds s nodes
    unfolding holds condition_names
    holds_same nodes named = so_same false (formula_of nodes) 0 0 (refl, refl) named
