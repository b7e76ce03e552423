-- The canonical text of an instruction: its name, a space, and its operands with a comma and a
-- space between them.
use Rattle.std.specs.Prelude.{ℕ, List, ◌++◌, codes, decimal}
use Rattle.std.specs.Fmt.{signed_decimal}
use Rattle.cheri_model.specs.declared.form.Form.{Form}
use Rattle.cheri_model.specs.declared.form.Form.TheVariants as form
use Rattle.cheri_model.specs.declared.names.Mnemonic.TheVariants as mnemonic
use Rattle.cheri_model.specs.instructions.Names.{name_of}

-- one text and then another; it groups to the right
infixr 65 ◌+++◌
abbrev pub ◌+++◌ : List ℕ → List ℕ → List ℕ
first +++ second = first ++ second

unfoldable pub form_text : Form → List ℕ
form_text (form.Three op cd c1 c2) =
    name_of (mnemonic.Three op) +++ codes " c" +++ decimal cd +++ codes ", c" +++ decimal c1
    +++ codes ", c" +++ decimal c2
form_text (form.Two op cd c1) =
    name_of (mnemonic.Two op) +++ codes " c" +++ decimal cd +++ codes ", c" +++ decimal c1
form_text (form.Immediate op cd c1 imm) =
    name_of (mnemonic.Immediate op) +++ codes " c" +++ decimal cd +++ codes ", c" +++ decimal c1
    +++ codes ", " +++ signed_decimal imm
form_text (form.Shift op cd c1 amount) =
    name_of (mnemonic.Shift op) +++ codes " c" +++ decimal cd +++ codes ", c" +++ decimal c1
    +++ codes ", " +++ decimal amount
form_text (form.WordShift op cd c1 amount) =
    name_of (mnemonic.WordShift op) +++ codes " c" +++ decimal cd +++ codes ", c" +++ decimal c1
    +++ codes ", " +++ decimal amount
form_text (form.SetBoundsImm cd c1 len) =
    name_of mnemonic.SetBoundsImm +++ codes " c" +++ decimal cd +++ codes ", c" +++ decimal c1
    +++ codes ", " +++ decimal len
form_text (form.Upper op cd imm) =
    name_of (mnemonic.Upper op) +++ codes " c" +++ decimal cd +++ codes ", " +++ decimal imm
form_text (form.Load op cd c1 imm) =
    name_of (mnemonic.Load op) +++ codes " c" +++ decimal cd +++ codes ", " +++ signed_decimal imm
    +++ codes "(c" +++ decimal c1 +++ codes ")"
form_text (form.Store op c2 c1 imm) =
    name_of (mnemonic.Store op) +++ codes " c" +++ decimal c2 +++ codes ", " +++ signed_decimal imm
    +++ codes "(c" +++ decimal c1 +++ codes ")"
form_text (form.Swap cd c2 c1) =
    name_of mnemonic.Swap +++ codes " c" +++ decimal cd +++ codes ", c" +++ decimal c2
    +++ codes ", c" +++ decimal c1
form_text (form.Branch op c1 c2 target) =
    name_of (mnemonic.Branch op) +++ codes " c" +++ decimal c1 +++ codes ", c" +++ decimal c2
    +++ codes ", @" +++ decimal target
form_text (form.Jump cd target) =
    name_of mnemonic.Jump +++ codes " c" +++ decimal cd +++ codes ", @" +++ decimal target
form_text (form.Invoke c1 c2) =
    name_of mnemonic.Invoke +++ codes " c" +++ decimal c1 +++ codes ", c" +++ decimal c2
form_text form.Alone = name_of mnemonic.Alone
