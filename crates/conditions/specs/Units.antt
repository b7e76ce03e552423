-- Parts that are joined, and the harts of them that were looked at, in memory.
use Rattle.std.specs.Prelude.{◌≡◌, Bool, true, false, slice_get, Option, Some, None}
use Rattle.cheri_model.specs.steps.Hart.{HartState}
use Rattle.conditions.specs.declared.hiding.Around.{Around}
use Rattle.conditions.specs.declared.parts.Joint.{Joint}
use Rattle.conditions.specs.declared.parts.Subject.{Subject}
use Rattle.conditions.specs.declared.parts.Subject.TheVariants.{Numbered, Each}
use Rattle.conditions.specs.declared.seen.Seen.{Seen}
use Rattle.conditions.specs.Formulas.{Formula}
use Rattle.conditions.specs.Entries.{entries_of}
use Rattle.conditions.specs.Hiding.{parts_so, stays_so, chain, keeps}

abbrev pub mark_of : Option Bool → Bool
mark_of (Some mark) = mark
mark_of None = false

unfoldable pub has_seen : Seen → Subject → Bool
has_seen seen (Numbered number) = mark_of (slice_get seen.numbers number)
has_seen seen Each = seen.each

-- the parts of a hart that are joined so in a whole are, together, after a step as they are wanted
unfoldable pub unit_keeps : Bool → Joint → Formula → HartState → HartState → Subject → Bool
unit_keeps wanted joint whole before after who =
    stays_so wanted (parts_so joint who before whole) (parts_so joint who after whole)

-- this is so of each hart that was looked at
abbrev pub AllKeep : Around → Formula → HartState → HartState → Seen → Type 0
AllKeep around whole before after seen =
    (who : Subject) → has_seen seen who ≡ true
    → unit_keeps around.wanted around.joint whole before after who ≡ true

-- these are all parts that are joined
abbrev pub IsWhole : Around → Formula → Type 0
IsWhole around whole = around.whole.now ≡ entries_of whole

-- one of them is after the step as it is wanted
abbrev pub part_keeps : Around → Formula → Formula → HartState → HartState → Bool
part_keeps around whole part before after =
    keeps around.wanted (chain around.joint whole) part before after
