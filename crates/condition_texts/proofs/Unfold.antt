-- Names for `unfolding(..)` that open what their own line names.
use Rattle.std.specs.Prelude.{ℕ, Bool, List, Option, Result}
use Rattle.cheri_model.specs.runs.Image.{ImageParts}
use Rattle.grammar.specs.Labels.{LabelParts}
use Rattle.conditions.specs.declared.parts.Comparison.{Comparison}
use Rattle.conditions.specs.declared.parts.Field.{Field}
use Rattle.conditions.specs.declared.parts.Node.{Node}
use Rattle.conditions.specs.declared.parts.Shown.{Shown}
use Rattle.condition_texts.specs.declared.openings.Opening.{Opening}
use Rattle.condition_texts.specs.Places.{field_of, number_in, fits_image, address_in, holder_named}
use Rattle.condition_texts.specs.Places.{hart_place, granule_place, width_of, data_place, place_of}
use Rattle.condition_texts.specs.Places.{own_named, own_place, source_of}
use Rattle.condition_texts.specs.Atoms.{comparison_of, status_of, address_in_word, permissions_in}
use Rattle.condition_texts.specs.Terms.{target_in, target_after_points, range_in, term_of}
use Rattle.condition_texts.specs.Reading.{Context, says_at, is_at, only, verb_of, said_after, said_of}
use Rattle.condition_texts.specs.Reading.{compared, asked_of_count, count_of, count_or_source, opening_of}
use Rattle.condition_texts.specs.Reading.{is_plural, noun_of, asked_of}
use Rattle.condition_texts.specs.Conditions.{condition_of}
use Rattle.condition_texts.specs.Shown.{shown_of}
use Rattle.condition_texts.specs.Items.{items_of}
use Rattle.conditions.specs.Items.{ItemList}

unfoldable pub places : List ℕ → Option Field
unfolding field_of number_in fits_image address_in holder_named hart_place granule_place width_of data_place place_of own_named own_place source_of
places suffix = field_of suffix

unfoldable pub atoms : List ℕ → Option Comparison
unfolding comparison_of status_of address_in_word permissions_in
atoms word = comparison_of word

unfoldable pub terms : LabelParts → List ℕ → Option ℕ
unfolding target_in target_after_points range_in term_of
terms labels word = target_in labels word

unfoldable pub openings : ImageParts → Bool → List ℕ → Option Opening
unfolding verb_of count_of count_or_source opening_of is_plural noun_of asked_of
openings image each word = opening_of image each word

unfoldable pub reading : Context → ℕ → List ℕ → Bool
unfolding says_at is_at only said_after said_of compared asked_of_count
reading c at wanted = is_at c at wanted

unfoldable pub condition : LabelParts → ImageParts → List ℕ → Result (List Node) ℕ
unfolding condition_of
condition labels image text = condition_of labels image text

unfoldable pub items : ImageParts → List ℕ → Option Shown
unfolding shown_of
items image word = shown_of image word

unfoldable pub lists : ImageParts → List ℕ → Result ItemList ℕ
unfolding items_of
lists image text = items_of image text
