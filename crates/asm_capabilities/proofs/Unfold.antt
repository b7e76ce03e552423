-- Names for `unfolding(..)` that open what their own line names.
use Rattle.std.specs.Prelude.{ℕ, Bool}
use Rattle.asm_capabilities.specs.declared.code.Reach.{Reach}
use Rattle.asm_capabilities.specs.Capabilities.{reach_length, reach_permissions, pcc_at, sentry_at}
use Rattle.asm_capabilities.specs.Capabilities.{kind_permissions, data_at, table_length, table_of}
use Rattle.asm_capabilities.specs.Capabilities.{is_stack_size, stack_alignment, stack_at}

unfoldable pub code : Reach → ℕ
unfolding reach_length reach_permissions pcc_at sentry_at
code reach = reach_length reach

unfoldable pub data_parts : ℕ → ℕ
unfolding kind_permissions data_at table_length table_of
data_parts entries = table_length entries

unfoldable pub stacks : ℕ → Bool
unfolding is_stack_size stack_alignment stack_at
stacks size = is_stack_size size
