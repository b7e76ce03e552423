-- The upper half names no address.
use Rattle.cap_model.proofs.Words.AddressesMoved.{moved_lawful, moved_word, moved_encoding, moved_read}
use Rattle.cap_model.proofs.laws.words.addresses_move_within_window.Goals as goal

pub returns-clause-lawful : goal.returns-clause-lawful
returns-clause-lawful c = moved_lawful

pub returns-clause-word : goal.returns-clause-word
returns-clause-word c = moved_word

pub returns-clause-encoding : goal.returns-clause-encoding
returns-clause-encoding c = moved_encoding

pub returns-clause-read : goal.returns-clause-read
returns-clause-read c = moved_read
