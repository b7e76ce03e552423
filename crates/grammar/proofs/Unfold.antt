-- Names for `unfolding(..)` that open what their own line names.
use Rattle.std.specs.Prelude.{ℕ, Bool, List, Result}
use Rattle.bitflags.specs.Sets.{known_from}
use Rattle.cheri_model.specs.declared.form.Form.{Form}
use Rattle.cap_model.specs.declared.perms.Perms.{Perms}
use Rattle.grammar.specs.declared.fault.ListingFaultKind.{ListingFaultKind}
use Rattle.grammar.specs.declared.operands.MemoryOperand.{MemoryOperand}
use Rattle.grammar.specs.declared.operands.TypeOperand.{TypeOperand}
use Rattle.grammar.specs.Permissions.{permission_named, permissions_of}
use Rattle.grammar.specs.Operands.{register_of, immediate_of, immediate_of_12_bits}
use Rattle.grammar.specs.Operands.{immediate_up_to, memory_operand_from, memory_operand_of}
use Rattle.grammar.specs.Operands.{type_operand_of, type_in_range}
use Rattle.grammar.specs.Labels.{is_label_name, is_label_token, target_operand_of, target_of}
use Rattle.grammar.specs.Labels.{label_fault}
use Rattle.grammar.specs.LabelMap.{label_parts}
use Rattle.grammar.specs.Capability.{optional_type, cap_operands_of, cap_tokens, cap_parts_of}
use Rattle.grammar.specs.Capability.{capability_of}
use Rattle.grammar.specs.Forms.{three_form, two_form, immediate_form, shift_form}
use Rattle.grammar.specs.Forms.{word_shift_form, set_bounds_form, upper_form, load_form}
use Rattle.grammar.specs.Forms.{store_form, swap_form, branch_form, jump_form, invoke_form}
use Rattle.grammar.specs.Forms.{alone_form}
use Rattle.grammar.specs.Forms.{counted, form_from}
use Rattle.grammar.specs.Permissions.{with_named}
use Rattle.grammar.specs.Tokens.{is_blank, ends_token, token_at}

unfoldable pub named : List ℕ → Result Perms ListingFaultKind
unfolding permissions_of known_from permission_named with_named
named token = permissions_of token

unfoldable pub memory : List ℕ → Result MemoryOperand ListingFaultKind
unfolding memory_operand_of
memory token = memory_operand_of token

unfoldable pub operands : List ℕ → Result ℕ ListingFaultKind
unfolding register_of immediate_of immediate_of_12_bits immediate_up_to memory_operand_from type_operand_of type_in_range
operands token = register_of token

unfoldable pub capabilities : List (List ℕ) → ℕ → Result TypeOperand ListingFaultKind
unfolding cap_operands_of optional_type cap_tokens cap_parts_of capability_of
capabilities tokens place = optional_type tokens place

unfoldable pub labels : List ℕ → Bool
unfolding is_label_name is_label_token label_parts target_operand_of target_of label_fault
labels token = is_label_token token

unfoldable pub forms : List (List ℕ) → Result Form ListingFaultKind
unfolding three_form two_form immediate_form shift_form word_shift_form set_bounds_form upper_form load_form store_form swap_form branch_form jump_form invoke_form alone_form counted form_from
forms tokens = alone_form tokens

unfoldable pub tokens : ℕ
unfolding is_blank ends_token token_at
tokens = 0
