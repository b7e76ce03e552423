use Rattle.asm_listable.proofs.Plain.{pcc_plain, sentry_plain, data_plain, table_plain, stack_plain}
use Rattle.asm_listable.proofs.laws.capabilities_are_plain.Goals as goal

pub returns : goal.returns
returns c = record {
  pcc = λ reach addr v h. pcc_plain reach addr v h;
  sentry = λ reach addr v h. sentry_plain reach addr v h;
  symbol = λ kind base length addr v h. data_plain kind base length addr v h;
  table = λ entries v h. table_plain entries v h;
  stack = λ base size v h. stack_plain base size v h;
}
