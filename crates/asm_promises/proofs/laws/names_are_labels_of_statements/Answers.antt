use Rattle.asm_promises.proofs.Reading.{phases_of}
use Rattle.asm_promises.proofs.NamesOfFiles.{label_named}
use Rattle.asm_promises.proofs.laws.names_are_labels_of_statements.Goals as goal

pub returns : goal.returns
returns c = λ texts program e file number label f s f_is s_is less named.
    label_named texts program file number label f s (phases_of texts program e) f_is s_is less named
