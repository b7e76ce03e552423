-- Names for `unfolding(..)` that open what their own line names.
use Rattle.std.specs.Prelude.{ℕ, ℤ, List, Option}
use Rattle.cheri_model.specs.declared.instr.Instr.{Instr}
use Rattle.cheri_model.specs.instructions.Form.{instr_of, three_instr, immediate_instr, shift_instr}
use Rattle.cheri_model.specs.instructions.Form.{branch_instr, load_instr}
use Rattle.asm_expansions.specs.declared.operation.Operation.{Operation}
use Rattle.asm_expansions.specs.Constants.{upper_place, upper_rest, li}
use Rattle.asm_expansions.specs.Immediates.{signed}
use Rattle.asm_expansions.specs.Expansions.{expansion_of, instrs_of, reaching, pseudo_two}
use Rattle.asm_expansions.specs.Expansions.{pseudo_three, pseudo_branch, zero_branch}
use Rattle.asm_expansions.specs.Constants.{upper, word_constant, placed}
use Rattle.asm_expansions.specs.Expansions.{count_of}
use Rattle.asm_expansions.specs.Immediates.{low, high_bits, high_field, up_to}

unfoldable pub expansions : Operation → ℤ → Option (List Instr)
unfolding instr_of three_instr immediate_instr shift_instr branch_instr load_instr instrs_of reaching pseudo_two pseudo_three pseudo_branch zero_branch expansion_of
expansions operation value = expansion_of operation value

unfoldable pub constants : ℕ → ℤ → List Instr
unfolding upper upper_place upper_rest word_constant placed li signed
constants rd n = li rd n

unfoldable pub counts : Operation → ℤ → ℕ
unfolding li signed word_constant placed pseudo_two count_of
counts operation value = count_of operation value

unfoldable pub immediates : ℕ → ℤ → Option ℕ
unfolding low high_bits high_field signed up_to
immediates most n = up_to most n
