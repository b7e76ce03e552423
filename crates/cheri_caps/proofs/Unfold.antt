-- Names for `unfolding(..)` that open what their own line names.
use Rattle.std.specs.Prelude.{ℕ, List, Option}
use Rattle.cap_model.specs.results.CapInstructions.{CapInstruction}
use Rattle.cap_model.specs.results.Reasons.{reasons}
use Rattle.cap_model.specs.values.CapValue.{CapValue}
use Rattle.cheri_model.specs.steps.Checks.{CheckLine, access_table, fetch_table, jump_table}
use Rattle.cheri_model.specs.steps.Checks.{invoke_table, target_table}
use Rattle.cheri_caps.specs.Checks.{access_checks, fetch_checks}
use Rattle.cheri_caps.specs.Reasons.{why}
use Rattle.cheri_caps.specs.declared.structs.CheriRange.{CheriRange}

unfoldable pub tables : CapValue → CheriRange → List CheckLine
unfolding access_checks access_table fetch_checks fetch_table
tables pcc code = fetch_checks pcc code

unfoldable pub jumping : CapValue → ℕ → List CheckLine
unfolding target_table jump_table invoke_table
jumping pcc target = target_table pcc target

unfoldable pub whys : Option CapInstruction → CapValue → CapValue → ℕ
unfolding why reasons
whys instruction v w = why instruction v w
