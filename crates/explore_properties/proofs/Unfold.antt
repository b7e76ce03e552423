-- Names for `unfolding(..)` that open what their own line names.
use Rattle.std.specs.Prelude.{ℕ, List, Option, Result}
use Rattle.cheri_model.specs.runs.Image.{ImageParts}
use Rattle.explore_properties.specs.Properties.{PropertiesParts}
use Rattle.explore_properties.specs.Reading.{claim_of, marked_read, properties_of, statement_of}
use Rattle.explore_properties.specs.Reading.{trimmed_read, when_of}
use Rattle.explore_properties.specs.declared.claims.When.{When}
use Rattle.explore_properties.specs.declared.fault.PropertyPlace.{PropertyPlace}
use Rattle.grammar.specs.Labels.{LabelParts}

unfoldable pub statements : List ℕ → Option When
unfolding claim_of statement_of when_of
statements word = when_of word

unfoldable pub reading : LabelParts → ImageParts → List ℕ → Result PropertiesParts PropertyPlace
unfolding marked_read trimmed_read properties_of
reading labels image text = properties_of labels image text
