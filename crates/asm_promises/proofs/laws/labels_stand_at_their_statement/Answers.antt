use Rattle.asm_promises.proofs.LabelPlaces.{labels_there}
use Rattle.asm_promises.proofs.laws.labels_stand_at_their_statement.Goals as goal

pub returns : goal.returns
returns c = λ tokens parts number s entry next e. labels_there tokens parts number s entry next e
