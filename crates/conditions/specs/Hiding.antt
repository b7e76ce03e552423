-- What a condition doesn't see of a hart's step, whichever hart that is.
use Rattle.std.specs.Prelude.{ℕ, ◌+◌, ◌==◌, nat_le, Bool, true, false, not, ◌&&◌, ◌||◌}
use Rattle.std.specs.Prelude.{if◌then◌else◌, List, [], ◌∷◌, replicate, Option, Some, None}
use Rattle.cap_model.specs.values.CapValue.{raw}
use Rattle.cheri_model.specs.steps.Hart.{HartState}
use Rattle.cheri_model.specs.runs.Machine.{MachineState}
use Rattle.conditions.specs.declared.parts.Atom.{Atom}
use Rattle.conditions.specs.declared.parts.Atom.TheVariants as atom
use Rattle.conditions.specs.declared.parts.Comparison.{Comparison}
use Rattle.conditions.specs.declared.parts.Comparison.TheVariants as comparison
use Rattle.conditions.specs.declared.parts.Holder.{Holder}
use Rattle.conditions.specs.declared.parts.Holder.TheVariants as holder
use Rattle.conditions.specs.declared.parts.Joint.{Joint}
use Rattle.conditions.specs.declared.parts.Joint.TheVariants.{And, Or}
use Rattle.conditions.specs.declared.parts.Node.{Node}
use Rattle.conditions.specs.declared.parts.Source.{Source}
use Rattle.conditions.specs.declared.parts.Source.TheVariants as source
use Rattle.conditions.specs.declared.parts.Subject.{Subject}
use Rattle.conditions.specs.declared.parts.Subject.TheVariants.{Numbered, Each}
use Rattle.conditions.specs.declared.parts.Term.{Term}
use Rattle.conditions.specs.declared.parts.Term.TheVariants as term
use Rattle.conditions.specs.declared.ways.Way.{Way}
use Rattle.conditions.specs.declared.ways.Way.TheVariants.{Falls, Rises, Stays}
use Rattle.conditions.specs.Formulas.{Formula, says, deny, enclosed, join, counted, formula_of}
use Rattle.conditions.specs.Holding.{joined, is_so}
use Rattle.conditions.specs.Values.{source_number}

-- the hart that is spoken of alone; none where it is memory, or several
abbrev pub alone_holder : Holder → Option Subject
alone_holder (holder.Register hart reg) = Some (Numbered hart)
alone_holder (holder.Pcc hart) = Some (Numbered hart)
alone_holder (holder.Granule addr) = None

unfoldable pub alone_source : Source → Option Subject
alone_source (source.Value held read) = alone_holder held
alone_source (source.Data addr width) = None
alone_source (source.Each held read) = Some Each

abbrev pub is_same : Subject → Subject → Bool
is_same (Numbered one) (Numbered other) = one == other
is_same (Numbered one) Each = false
is_same Each (Numbered other) = false
is_same Each Each = true

abbrev pub is_of : Subject → Option Subject → Bool
is_of who (Some other) = is_same who other
is_of who None = false

unfoldable pub alone_both : Option Subject → Option Subject → Option Subject
alone_both (Some who) other = if is_of who other then Some who else None
alone_both None other = None

abbrev pub alone_with : Option Subject → Term → Option Subject
alone_with first (term.Number number) = first
alone_with first (term.Source from) = alone_both first (alone_source from)

unfoldable pub alone_atom : Atom → Option Subject
alone_atom (atom.Compares from compared with) = alone_with (alone_source from) with
alone_atom (atom.HasStatus who test) = Some who
alone_atom (atom.Reaches who addr perms) = Some who
alone_atom (atom.IsAt who addr) = Some who
alone_atom (atom.IsIn who first second) = Some who

unfoldable pub alone : Formula → Option Subject
alone (says a) = alone_atom a
alone (deny f) = alone f
alone (enclosed f) = alone f
alone (join j f g) = alone_both (alone f) (alone g)
alone (counted f c n) = None

-- harts that are all this one, up to this number, and a memory of one granule, which is null
abbrev pub all_alike : ℕ → HartState → MachineState
all_alike count hart = record { harts = replicate count hart; memory = raw 0 ∷ [] }

-- a state in which the hart that is spoken of is this one
abbrev pub copies : Subject → HartState → MachineState
copies (Numbered number) hart = all_alike (number + 1) hart
copies Each hart = all_alike 1 hart

-- a condition of one hart alone holds of it
unfoldable pub so_of : Subject → HartState → Formula → Bool
so_of who hart f = is_so (copies who hart) 0 f

-- what doesn't count where parts are joined
abbrev pub neutral : Joint → Bool
neutral And = true
neutral Or = false

abbrev pub is_joint : Joint → Joint → Bool
is_joint And And = true
is_joint And Or = false
is_joint Or And = false
is_joint Or Or = true

-- The parts of one hart, which are joined so, hold of it together; other parts don't count.
abbrev pub part_so : Joint → Subject → HartState → Formula → Bool
part_so joint who hart f = if is_of who (alone f) then so_of who hart f else neutral joint

unfoldable pub parts_so : Joint → Subject → HartState → Formula → Bool
parts_so joint who hart (join j f g) =
    if is_joint joint j
    then joined joint (parts_so joint who hart f) (parts_so joint who hart g)
    else part_so joint who hart (join j f g)
parts_so joint who hart (says a) = part_so joint who hart (says a)
parts_so joint who hart (deny f) = part_so joint who hart (deny f)
parts_so joint who hart (enclosed f) = part_so joint who hart (enclosed f)
parts_so joint who hart (counted f c n) = part_so joint who hart (counted f c n)

-- the parts that a part is joined with, if it is
pub data Chain : Type 0 where
  single : Chain
  chain : Joint → Formula → Chain

-- the chain of a part's own parts: that in which it is, where the joint is the same
abbrev pub chain_of : Chain → Joint → Formula → Chain
chain_of single joint f = chain joint f
chain_of (chain j whole) joint f = if is_joint j joint then chain j whole else chain joint f

-- what is looked at together, of one hart: a condition, or all parts of the chain in which it is
abbrev pub unit_so : Chain → Subject → HartState → Formula → Bool
unit_so single who hart f = so_of who hart f
unit_so (chain joint whole) who hart f = parts_so joint who hart whole

-- what is as wanted before is so after
abbrev pub is_equal : Bool → Bool → Bool
is_equal true value = value
is_equal false value = not value

unfoldable pub stays_so : Bool → Bool → Bool → Bool
stays_so true before after = not before || after
stays_so false before after = before || not after

-- how a number may move where a comparison is to stay true; and where it is to stay false
abbrev pub way_of : Comparison → Way
way_of comparison.Equal = Stays
way_of comparison.NotEqual = Stays
way_of comparison.Less = Falls
way_of comparison.AtMost = Falls
way_of comparison.Greater = Rises
way_of comparison.AtLeast = Rises

abbrev pub opposite : Way → Way
opposite Falls = Rises
opposite Rises = Falls
opposite Stays = Stays

unfoldable pub left_way : Bool → Comparison → Way
left_way true compared = way_of compared
left_way false compared = opposite (way_of compared)

unfoldable pub moves : Way → ℕ → ℕ → Bool
moves Falls before after = nat_le after before
moves Rises before after = nat_le before after
moves Stays before after = after == before

-- a hart's number moves so; memory stays as it is
abbrev pub source_moves_of : Option Subject → Way → Source → HartState → HartState → Bool
source_moves_of (Some who) way from before after =
    moves way (source_number (copies who before) 0 from) (source_number (copies who after) 0 from)
source_moves_of None way from before after = true

unfoldable pub source_moves : Way → Source → HartState → HartState → Bool
source_moves way from before after = source_moves_of (alone_source from) way from before after

-- both numbers of a comparison
abbrev pub term_moves : Way → Term → HartState → HartState → Bool
term_moves way (term.Number number) before after = true
term_moves way (term.Source from) before after = source_moves way from before after

unfoldable pub atom_keeps : Bool → Atom → HartState → HartState → Bool
atom_keeps wanted (atom.Compares from compared with) before after =
    source_moves (left_way wanted compared) from before after
    && term_moves (opposite (left_way wanted compared)) with before after
atom_keeps wanted (atom.HasStatus who test) before after = true
atom_keeps wanted (atom.Reaches who addr perms) before after = true
atom_keeps wanted (atom.IsAt who addr) before after = true
atom_keeps wanted (atom.IsIn who first second) before after = true

-- Whether a count that is to stay as wanted needs that no part stops being true, or false.
abbrev pub count_needs : Bool → Comparison → ℕ → Bool → Bool
count_needs wanted comparison.AtLeast number value = is_equal wanted value
count_needs wanted comparison.Greater number value = is_equal wanted value
count_needs wanted comparison.AtMost number value = not (is_equal wanted value)
count_needs wanted comparison.Less number value = not (is_equal wanted value)
count_needs wanted comparison.Equal number value =
    not (number == 0) || not (is_equal wanted value)
count_needs wanted comparison.NotEqual number value = true

-- what is of one hart alone is a unit; of others there is more to say
abbrev pub unit_or : Option Subject → Bool → Chain → Formula → HartState → HartState → Bool → Bool
unit_or (Some who) wanted around f before after more =
    stays_so wanted (unit_so around who before f) (unit_so around who after f)
unit_or None wanted around f before after more = more

-- A step of a hart leaves each unit as it is wanted to be, true or false.
unfoldable pub keeps : Bool → Chain → Formula → HartState → HartState → Bool
keeps wanted around (says a) before after =
    unit_or (alone (says a)) wanted around (says a) before after (atom_keeps wanted a before after)
keeps wanted around (deny f) before after =
    unit_or (alone (deny f)) wanted around (deny f) before after
    (keeps (not wanted) single f before after)
keeps wanted around (enclosed f) before after =
    unit_or (alone (enclosed f)) wanted around (enclosed f) before after
    (keeps wanted single f before after)
keeps wanted around (join j f g) before after =
    unit_or (alone (join j f g)) wanted around (join j f g) before after
    (keeps wanted (chain_of around j (join j f g)) f before after
    && keeps wanted (chain_of around j (join j f g)) g before after)
keeps wanted around (counted f c n) before after =
    (not (count_needs wanted c n true) || keeps true single f before after)
    && (not (count_needs wanted c n false) || keeps false single f before after)

-- a condition that holds goes on to hold
unfoldable pub hides : List Node → HartState → HartState → Bool
hides nodes before after = keeps true single (formula_of nodes) before after
