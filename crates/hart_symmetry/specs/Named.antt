-- The harts that a condition names by their numbers.
use Rattle.std.specs.Prelude.{◌≡◌, ℕ, ◌==◌, Bool, true, false, not, ◌&&◌, ◌||◌, List}
use Rattle.conditions.specs.declared.parts.Atom.{Atom}
use Rattle.conditions.specs.declared.parts.Atom.TheVariants as atom
use Rattle.conditions.specs.declared.parts.Holder.{Holder}
use Rattle.conditions.specs.declared.parts.Holder.TheVariants as holder
use Rattle.conditions.specs.declared.parts.Node.{Node}
use Rattle.conditions.specs.declared.parts.Source.{Source}
use Rattle.conditions.specs.declared.parts.Source.TheVariants as source
use Rattle.conditions.specs.declared.parts.Subject.{Subject}
use Rattle.conditions.specs.declared.parts.Subject.TheVariants as subject
use Rattle.conditions.specs.declared.parts.Term.{Term}
use Rattle.conditions.specs.declared.parts.Term.TheVariants as term
use Rattle.conditions.specs.Formulas.{Formula, says, deny, enclosed, join, counted, formula_of}

-- `h` stands for each hart in turn within a count; outside of all counts it is hart 0
abbrev pub each_names : Bool → ℕ → Bool
each_names counts hart = not counts && (hart == 0)

unfoldable pub holder_names : Holder → ℕ → Bool
holder_names (holder.Register named reg) hart = hart == named
holder_names (holder.Pcc named) hart = hart == named
holder_names (holder.Granule addr) hart = false

unfoldable pub subject_names : Bool → Subject → ℕ → Bool
subject_names counts (subject.Numbered named) hart = hart == named
subject_names counts subject.Each hart = each_names counts hart

unfoldable pub source_names : Bool → Source → ℕ → Bool
source_names counts (source.Value held read) hart = holder_names held hart
source_names counts (source.Data addr width) hart = false
source_names counts (source.Each held read) hart = each_names counts hart

unfoldable pub term_names : Bool → Term → ℕ → Bool
term_names counts (term.Number number) hart = false
term_names counts (term.Source from) hart = source_names counts from hart

unfoldable pub atom_names : Bool → Atom → ℕ → Bool
atom_names counts (atom.Compares from comparison with) hart =
    source_names counts from hart || term_names counts with hart
atom_names counts (atom.HasStatus who test) hart = subject_names counts who hart
atom_names counts (atom.Reaches who addr perms) hart = subject_names counts who hart
atom_names counts (atom.IsAt who addr) hart = subject_names counts who hart
atom_names counts (atom.IsIn who first second) hart = subject_names counts who hart

unfoldable pub formula_names : Bool → Formula → ℕ → Bool
formula_names counts (says a) hart = atom_names counts a hart
formula_names counts (deny f) hart = formula_names counts f hart
formula_names counts (enclosed f) hart = formula_names counts f hart
formula_names counts (join joint f g) hart =
    formula_names counts f hart || formula_names counts g hart
formula_names counts (counted f comparison number) hart = formula_names true f hart

-- what a condition of these nodes names
unfoldable pub condition_names : List Node → ℕ → Bool
condition_names nodes hart = formula_names false (formula_of nodes) hart

-- each hart that is named stays where it stands
abbrev pub NamedStay : (ℕ → Bool) → (ℕ → Bool) → Type 0
NamedStay stays names = (hart : ℕ) → names hart ≡ true → stays hart ≡ true
