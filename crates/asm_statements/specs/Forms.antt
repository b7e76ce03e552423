-- The operands that instructions take.
use Rattle.std.specs.Prelude.{ℕ, List, [], ◌∷◌, Option, Some, None}
use Rattle.asm_mnemonics.specs.declared.mnemonics.Mnemonic.{Mnemonic}
use Rattle.asm_mnemonics.specs.declared.mnemonics.Mnemonic.TheVariants as names
use Rattle.asm_statements.specs.declared.forms.Form.{Form}
use Rattle.asm_statements.specs.declared.forms.Form.TheVariants as form
use Rattle.asm_statements.specs.declared.forms.Wanted.{Wanted}
use Rattle.asm_statements.specs.declared.forms.Wanted.TheVariants as wanted

abbrev pub count_of : Form → ℕ
count_of form.None = 0
count_of (form.One a) = 1
count_of (form.Two a b) = 2
count_of (form.Three a b c) = 3

abbrev pub last_of : Form → Option Wanted
last_of form.None = None
last_of (form.One a) = Some a
last_of (form.Two a b) = Some b
last_of (form.Three a b c) = Some c

-- the forms in which the operands of a name may be written
unfoldable pub forms_of : Mnemonic → List Form
forms_of (names.Three op) = (form.Three wanted.Integer wanted.Integer wanted.Integer) ∷ []
forms_of (names.ThreeOrImmediate op other) = (form.Three wanted.Integer wanted.Integer wanted.Integer) ∷ (form.Three wanted.Integer wanted.Integer wanted.Immediate) ∷ []
forms_of (names.ThreeOrShift op other) = (form.Three wanted.Integer wanted.Integer wanted.Integer) ∷ (form.Three wanted.Integer wanted.Integer wanted.Immediate) ∷ []
forms_of (names.ThreeOrWordShift op other) = (form.Three wanted.Integer wanted.Integer wanted.Integer) ∷ (form.Three wanted.Integer wanted.Integer wanted.Immediate) ∷ []
forms_of (names.Immediate op) = (form.Three wanted.Integer wanted.Integer wanted.Immediate) ∷ []
forms_of (names.Shift op) = (form.Three wanted.Integer wanted.Integer wanted.Immediate) ∷ []
forms_of (names.WordShift op) = (form.Three wanted.Integer wanted.Integer wanted.Immediate) ∷ []
forms_of names.Lui = (form.Two wanted.Integer wanted.Immediate) ∷ []
forms_of names.Auipcc = (form.Two wanted.Capability wanted.Immediate) ∷ []
forms_of (names.Load op) = (form.Two wanted.Integer wanted.Memory) ∷ (form.Two wanted.Integer wanted.Symbol) ∷ []
forms_of (names.LoadAlone op) = (form.Two wanted.Integer wanted.Pointer) ∷ []
forms_of (names.Store op) = (form.Two wanted.Integer wanted.Memory) ∷ []
forms_of (names.StoreAlone op) = (form.Two wanted.Integer wanted.Pointer) ∷ []
forms_of names.LoadCapability = (form.Two wanted.Capability wanted.Memory) ∷ []
forms_of names.LoadCapabilityAlone = (form.Two wanted.Capability wanted.Pointer) ∷ []
forms_of names.StoreCapability = (form.Two wanted.Capability wanted.Memory) ∷ []
forms_of names.StoreCapabilityAlone = (form.Two wanted.Capability wanted.Pointer) ∷ []
forms_of names.Swap = (form.Three wanted.Capability wanted.Capability wanted.Pointer) ∷ []
forms_of (names.Branch op) = (form.Three wanted.Integer wanted.Integer wanted.Target) ∷ []
forms_of (names.PseudoBranch op) = (form.Three wanted.Integer wanted.Integer wanted.Target) ∷ []
forms_of (names.ZeroBranch op) = (form.Two wanted.Integer wanted.Target) ∷ []
forms_of names.Jump = (form.One wanted.Target) ∷ []
forms_of names.JumpAndLink = (form.Two wanted.Capability wanted.Target) ∷ (form.One wanted.Target) ∷ []
forms_of names.JumpRegisterAndLink = (form.One wanted.Capability) ∷ (form.One wanted.Memory) ∷ (form.Two wanted.Capability wanted.Capability) ∷ (form.Two wanted.Capability wanted.Memory) ∷ (form.Three wanted.Capability wanted.Capability wanted.Immediate) ∷ []
forms_of names.JumpRegisterPlain = (form.Two wanted.Capability wanted.Capability) ∷ []
forms_of names.JumpRegister = (form.One wanted.Capability) ∷ (form.One wanted.Memory) ∷ []
forms_of names.Return = form.None ∷ []
forms_of names.Alone = form.None ∷ []
forms_of names.Unimp = form.None ∷ []
forms_of names.Nop = form.None ∷ []
forms_of names.Fence = (form.One wanted.Fence) ∷ []
forms_of (names.PseudoTwo op) = (form.Two wanted.Integer wanted.Integer) ∷ []
forms_of (names.PseudoThree op) = (form.Three wanted.Integer wanted.Integer wanted.Integer) ∷ []
forms_of names.Li = (form.Two wanted.Integer wanted.Constant) ∷ []
forms_of (names.Inspect op) = (form.Two wanted.Integer wanted.Capability) ∷ []
forms_of (names.Modify op) = (form.Two wanted.Capability wanted.Capability) ∷ []
forms_of (names.Round op) = (form.Two wanted.Integer wanted.Integer) ∷ []
forms_of (names.ModifyBy op) = (form.Three wanted.Capability wanted.Capability wanted.Integer) ∷ []
forms_of names.IncOffset = (form.Three wanted.Capability wanted.Capability wanted.Integer) ∷ (form.Three wanted.Capability wanted.Capability wanted.Immediate) ∷ []
forms_of names.IncOffsetImm = (form.Three wanted.Capability wanted.Capability wanted.Immediate) ∷ []
forms_of names.SetBounds = (form.Three wanted.Capability wanted.Capability wanted.Integer) ∷ (form.Three wanted.Capability wanted.Capability wanted.Immediate) ∷ []
forms_of names.SetBoundsImm = (form.Three wanted.Capability wanted.Capability wanted.Immediate) ∷ []
forms_of (names.ModifyTogether op) = (form.Three wanted.Capability wanted.Capability wanted.Capability) ∷ []
forms_of (names.Compare op) = (form.Three wanted.Integer wanted.Capability wanted.Capability) ∷ []
forms_of names.Csub = (form.Three wanted.Integer wanted.Capability wanted.Capability) ∷ []
forms_of names.Invoke = (form.Two wanted.Capability wanted.Capability) ∷ []
forms_of names.Call = (form.One wanted.Symbol) ∷ (form.Two wanted.Capability wanted.Symbol) ∷ []
forms_of names.Tail = (form.One wanted.Symbol) ∷ []
forms_of names.Cllc = (form.Two wanted.Capability wanted.Symbol) ∷ []
forms_of names.Clgc = (form.Two wanted.Capability wanted.Symbol) ∷ []
forms_of names.La = (form.Two wanted.Integer wanted.Symbol) ∷ []
