-- Names for `unfolding(..)` that open what their own line names, and for `using(..)` of a long path.
use Rattle.std.specs.Prelude.{ℕ, ℤ}
use Rattle.cheri_model.specs.declared.form.Form.{Form}
use Rattle.cheri_model.specs.declared.form.ThreeOp.{ThreeOp}
use Rattle.cheri_model.specs.declared.form.ImmediateOp.{ImmediateOp}
use Rattle.cheri_model.specs.declared.form.LoadOp.{LoadOp}
use Rattle.cheri_model.specs.declared.form.BranchOp.{BranchOp}
use Rattle.cheri_model.specs.instructions.Form.{instr_of, three_instr, two_instr, immediate_instr}
use Rattle.cheri_model.specs.instructions.Form.{shift_instr, word_shift_instr, upper_instr}
use Rattle.cheri_model.specs.instructions.Form.{load_instr, store_instr, branch_instr}
use Rattle.cheri_model.specs.instructions.Integers.{sum, difference, word_sum, word_difference}
use Rattle.cheri_model.specs.instructions.Integers.{is_less_signed, shifted_left, shifted_right}
use Rattle.cheri_model.specs.instructions.Integers.{shifted_arithmetic, extended_word, extended}
use Rattle.cheri_model.specs.instructions.Integers.{word_shifted_left, word_shifted_right}
use Rattle.cheri_model.specs.instructions.Integers.{word_shifted_arithmetic, upper_immediate}
use Rattle.cheri_model.specs.steps.Actions.{Action, action, address_of_target}
use Rattle.cheri_model.specs.steps.Hart.{HartState}
use Rattle.cap_model.specs.results.CapInstructions.{capability_result}
use Rattle.cheri_model.proofs.Runs.Instructions.{integers_back, extended_low}

pub ruleset back = (integers_back)

pub ruleset low = (extended_low)

unfoldable pub integers : ℕ → ℕ → ℕ
unfolding is_less_signed shifted_left shifted_right shifted_arithmetic extended_word word_sum word_difference word_shifted_left word_shifted_right word_shifted_arithmetic upper_immediate extended
integers a b = word_sum a b

-- what instructions ask for, by their forms
unfoldable pub forms : Form → HartState → Action
unfolding instr_of action
forms form hart = action (instr_of form) hart

unfoldable pub registers : ThreeOp → ℕ → ℕ → ℕ → HartState → Action
unfolding three_instr two_instr action capability_result sum difference
registers op cd c1 c2 hart = action (three_instr op cd c1 c2) hart

unfoldable pub immediates : ImmediateOp → ℕ → ℕ → ℤ → HartState → Action
unfolding immediate_instr shift_instr word_shift_instr upper_instr action capability_result sum
immediates op cd c1 imm hart = action (immediate_instr op cd c1 imm) hart

unfoldable pub accesses : LoadOp → ℕ → ℕ → ℤ → HartState → Action
unfolding load_instr store_instr action sum
accesses op cd c1 imm hart = action (load_instr op cd c1 imm) hart

unfoldable pub jumps : BranchOp → ℕ → ℕ → ℕ → HartState → Action
unfolding branch_instr action address_of_target
jumps op c1 c2 target hart = action (branch_instr op c1 c2 target) hart
