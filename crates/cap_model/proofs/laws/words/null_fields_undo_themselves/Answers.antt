-- Exclusive-or undoes itself.
use Rattle.cap_model.proofs.Words.FieldsBack.{with_null_fields_twice}
use Rattle.cap_model.proofs.laws.words.null_fields_undo_themselves.Goals as goal

pub returns : goal.returns
returns c = with_null_fields_twice
