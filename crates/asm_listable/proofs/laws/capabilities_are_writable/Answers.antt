use Rattle.asm_listable.proofs.Capabilities.{pcc_writable, sentry_writable, data_writable, table_writable, stack_writable}
use Rattle.asm_listable.proofs.laws.capabilities_are_writable.Goals as goal

pub returns : goal.returns
returns c = record {
  pcc = λ reach addr v low h. pcc_writable reach addr v low h;
  sentry = λ reach addr v low h. sentry_writable reach addr v low h;
  symbol = λ kind base length addr v base_low addr_low h. data_writable kind base length addr v base_low addr_low h;
  table = λ entries v h. table_writable entries v h;
  stack = λ base size v low h. stack_writable base size v low h;
}
