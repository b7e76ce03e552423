-- Names for `unfolding(..)` that open what their own line names.
use Rattle.std.specs.Prelude.{ℕ, Bool}
use Rattle.conditions.specs.declared.parts.Atom.{Atom}
use Rattle.hart_symmetry.specs.Named.{holder_names, subject_names, source_names, term_names, atom_names}

unfoldable pub named : Bool → Atom → ℕ → Bool
unfolding holder_names subject_names source_names term_names atom_names
named counts atom hart = atom_names counts atom hart
