-- The replaced fields are the lowest.
use Rattle.cap_model.proofs.Words.FieldsReplaced.{replaced_fields, replaced_upper}
use Rattle.cap_model.proofs.laws.words.bounds_fields_replaced.Goals as goal

pub returns-clause-fields : goal.returns-clause-fields
returns-clause-fields c = replaced_fields

pub returns-clause-bounds : goal.returns-clause-bounds
returns-clause-bounds c = replaced_upper
