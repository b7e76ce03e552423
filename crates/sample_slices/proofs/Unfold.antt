-- Names for `unfolding(..)` that open what their own line names.
use Rattle.std.specs.Prelude.{ℕ, List, Option, Bool}
use Rattle.explore_properties.specs.Properties.{PropertiesParts}
use Rattle.sample_draws.specs.Drawings.{DrawingParts}
use Rattle.sample_tallies.specs.Tallies.{TallyParts}
use Rattle.sample_tallies.specs.declared.seen.Seen.{Seen}
use Rattle.sample_texts.specs.declared.spans.Span.{Span}
use Rattle.serde_json.specs.Data.{Data}
use Rattle.cheri_model.specs.runs.Image.{ImageParts}
use Rattle.cheri_model.specs.runs.Machine.{hart_at}
use Rattle.schedules.specs.declared.ranges.SweepRange.{SweepRange}
use Rattle.sample_slices.specs.Claimed.{AgainParts, adds_up, checked_in, claimed, claims_in, decided_by, decided_in}
use Rattle.sample_slices.specs.Claimed.{decided_of, decided_step, deciding_in, does_decide, end_by, end_step, ended, ends_of}
use Rattle.sample_slices.specs.Claimed.{leaves_trap, runs_in, seen_in, seen_of, sliced, tally_in, trap_in, trap_step, unended_in}
use Rattle.sample_slices.specs.Claimed.{with_ends, with_traps}
use Rattle.sample_slices.specs.Drawn.{are_given, depth_in, drawing_in, drawing_of, items_in, items_text, question_in, question_of}
use Rattle.sample_slices.specs.Drawn.{range_in, ranges_in, text_of_items}
use Rattle.sample_slices.specs.Members.{list_in, number_at, number_in, number_within, text_in}
use Rattle.sample_slices.specs.Numbers.{is_in, numbers_in, span_in, span_step}
use Rattle.sample_slices.specs.Slices.{ListingParts, QuestionParts, SliceParts}
use Rattle.sample_slices.specs.Sweeps.{united}

unfoldable pub members : ℕ → Data → Option ℕ
unfolding number_within number_in number_at text_in list_in
members limit value = number_within limit value

unfoldable pub sweeps : List SweepRange → List SweepRange → List SweepRange
unfolding united
sweeps given more = united given more

unfoldable pub drawn : Option PropertiesParts → Data → Option DrawingParts
unfolding range_in ranges_in depth_in drawing_of are_given drawing_in
drawn properties value = drawing_in properties value

unfoldable pub items : ImageParts → Data → Option (Option (List ℕ))
unfolding items_text text_of_items items_in
items image value = items_in image value

unfoldable pub question : ListingParts → Data → Option QuestionParts
unfolding question_of question_in
question listing value = question_in listing value

unfoldable pub numbers : Data → Option (List Span)
unfolding span_in span_step numbers_in is_in
numbers value = numbers_in value

unfoldable pub again : List Span → Data → Option Seen
unfolding seen_of runs_in seen_in leaves_trap does_decide end_by hart_at
again numbers value = seen_in numbers value

unfoldable pub tally : AgainParts → Bool → Data → Option TallyParts
unfolding ends_of unended_in trap_in trap_step with_traps end_step with_ends claims_in tally_in
tally again is_shown value = tally_in again is_shown value

unfoldable pub counts : TallyParts → Bool
unfolding ended adds_up
counts tally = adds_up tally

unfoldable pub decided : AgainParts → Option PropertiesParts → Data → Option (List (Option Seen))
unfolding deciding_in decided_of decided_step decided_by decided_in
decided again properties value = decided_in again properties value

unfoldable pub claims : ListingParts → Data → Option SliceParts
unfolding checked_in sliced claimed
claims listing value = claimed listing value
