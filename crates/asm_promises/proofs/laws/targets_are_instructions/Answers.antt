use Rattle.asm_promises.proofs.Targets.{target_address, target_statement, label_address, target_label}
use Rattle.asm_promises.proofs.laws.targets_are_instructions.Goals as goal

pub returns : goal.returns
returns c = record {
  address = λ parts location most n e. target_address parts location most n e;
  statement = λ late file number most n parts location e there. target_statement late file number most n parts location e there;
  place = λ late file number addr location chunk offset e. label_address late file number addr location chunk offset e;
  label = λ late file number most n location chunk offset e. target_label late file number most n location chunk offset e;
}
