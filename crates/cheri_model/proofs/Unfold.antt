-- Names for `unfolding(..)` that open what their own line names.
use Rattle.std.specs.Prelude.{ℕ, Bool, List}
use Rattle.cheri_model.specs.declared.form.Form.{Form}
use Rattle.cheri_model.specs.declared.instr.Instr.{Instr}
use Rattle.cheri_model.specs.declared.names.Mnemonic.{Mnemonic}
use Rattle.cheri_model.specs.instructions.Form.{three_instr, two_instr, immediate_instr, shift_instr}
use Rattle.cheri_model.specs.instructions.Form.{word_shift_instr, upper_instr, load_instr}
use Rattle.cheri_model.specs.instructions.Form.{store_instr, branch_instr, instr_of}
use Rattle.cheri_model.specs.instructions.Names.{names_from, mnemonic_table, is_instruction}
use Rattle.cheri_model.specs.instructions.Names.{name_among, name_in, name_of}
use Rattle.cheri_model.specs.runs.Image.{ImageParts}
use Rattle.cheri_model.specs.runs.ImageRules.{image_of, is_image, are_granules}

unfoldable pub instr : Form → Instr
unfolding three_instr two_instr immediate_instr shift_instr word_shift_instr upper_instr load_instr store_instr branch_instr instr_of
instr form = instr_of form

unfoldable pub names : Mnemonic → List ℕ
unfolding names_from mnemonic_table is_instruction name_among name_in
names mnemonic = name_of mnemonic

unfoldable pub images : ImageParts → Bool
unfolding image_of is_image are_granules
images image = is_image image
