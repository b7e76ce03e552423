-- The granules of memory that a condition looks at.
use Rattle.std.specs.Prelude.{◌≡◌, ℕ, ◌==◌, Bool, true, false, ◌||◌, List, length, slice_index_or}
use Rattle.std.specs.List.{list_any}
use Rattle.cheri_model.specs.steps.Memory.{granule_number}
use Rattle.conditions.specs.declared.parts.Atom.{Atom}
use Rattle.conditions.specs.declared.parts.Atom.TheVariants as atom
use Rattle.conditions.specs.declared.parts.Holder.{Holder}
use Rattle.conditions.specs.declared.parts.Holder.TheVariants as holder
use Rattle.conditions.specs.declared.parts.Node.{Node}
use Rattle.conditions.specs.declared.parts.Node.TheVariants as node
use Rattle.conditions.specs.declared.parts.Source.{Source}
use Rattle.conditions.specs.declared.parts.Source.TheVariants as source
use Rattle.conditions.specs.declared.parts.Term.{Term}
use Rattle.conditions.specs.declared.parts.Term.TheVariants as term

-- the granule of a capability's address, and that of a number's first byte, which has all of it
unfoldable pub holder_reads : Holder → ℕ → Bool
holder_reads (holder.Register hart named) granule = false
holder_reads (holder.Pcc hart) granule = false
holder_reads (holder.Granule addr) granule = granule == granule_number addr

unfoldable pub source_reads : Source → ℕ → Bool
source_reads (source.Value held read) granule = holder_reads held granule
source_reads (source.Data addr width) granule = granule == granule_number addr
source_reads (source.Each held read) granule = false

unfoldable pub term_reads : Term → ℕ → Bool
term_reads (term.Number number) granule = false
term_reads (term.Source from) granule = source_reads from granule

unfoldable pub atom_reads : Atom → ℕ → Bool
atom_reads (atom.Compares from comparison with) granule =
    source_reads from granule || term_reads with granule
atom_reads (atom.HasStatus who test) granule = false
atom_reads (atom.Reaches who addr perms) granule = false
atom_reads (atom.IsAt who addr) granule = false
atom_reads (atom.IsIn who first second) granule = false

unfoldable pub node_reads : Node → ℕ → Bool
node_reads (node.Says a) granule = atom_reads a granule
node_reads node.Not granule = false
node_reads node.Enclosed granule = false
node_reads (node.Joined joint second) granule = false
node_reads (node.Counted comparison number) granule = false

-- what a condition of these nodes looks at
unfoldable pub condition_reads : List Node → ℕ → Bool
condition_reads nodes granule = list_any (λ n. node_reads n granule) nodes

-- each granule that is looked at is shared; those past the end of the list are
abbrev pub AreReadShared : (ℕ → Bool) → List Bool → Type 0
AreReadShared reads shared =
    (granule : ℕ) → reads granule ≡ true → slice_index_or shared granule true ≡ true

-- the list is as long as another, and shared are those that were and those that are looked at
abbrev pub IsWith : List Bool → (ℕ → Bool) → List Bool → Type 0
IsWith shared reads all =
    (length all ≡ length shared)
    × ((granule : ℕ) →
    slice_index_or all granule true ≡ (slice_index_or shared granule true || reads granule))
