-- The operands of instructions, by their form: first their count and shapes, then their ranges,
-- then labels.
use Rattle.std.specs.Prelude.{ℕ, ◌==◌, if◌then◌else◌, List, length, Result, Ok, Err}
use Rattle.cheri_model.specs.declared.form.Form.{Form}
use Rattle.cheri_model.specs.declared.form.Form.TheVariants as form
use Rattle.cheri_model.specs.declared.form.ThreeOp.{ThreeOp}
use Rattle.cheri_model.specs.declared.form.TwoOp.{TwoOp}
use Rattle.cheri_model.specs.declared.form.ImmediateOp.{ImmediateOp}
use Rattle.cheri_model.specs.declared.form.ShiftOp.{ShiftOp}
use Rattle.cheri_model.specs.declared.form.WordShiftOp.{WordShiftOp}
use Rattle.cheri_model.specs.declared.form.UpperOp.{UpperOp}
use Rattle.cheri_model.specs.declared.form.LoadOp.{LoadOp}
use Rattle.cheri_model.specs.declared.form.StoreOp.{StoreOp}
use Rattle.cheri_model.specs.declared.form.BranchOp.{BranchOp}
use Rattle.grammar.specs.declared.fault.ListingFaultKind.{ListingFaultKind}
use Rattle.grammar.specs.declared.fault.ListingFaultKind.TheVariants.{Operand}
use Rattle.cheri_model.specs.declared.names.Mnemonic.{Mnemonic}
use Rattle.cheri_model.specs.declared.names.Mnemonic.TheVariants as mnemonic
use Rattle.cheri_model.specs.declared.operands.TheConstants.{MAX_SHIFT, MAX_WORD_SHIFT}
use Rattle.cheri_model.specs.declared.operands.TheConstants.{MAX_IMMEDIATE_LENGTH}
use Rattle.cheri_model.specs.declared.operands.TheConstants.{MAX_UPPER_IMMEDIATE}
use Rattle.grammar.specs.Faults.{◌>>=◌}
use Rattle.grammar.specs.Tokens.{token_at}
use Rattle.grammar.specs.Operands.{register_of, immediate_of, immediate_of_12_bits, immediate_up_to}
use Rattle.grammar.specs.Operands.{memory_operand_of}
use Rattle.grammar.specs.Labels.{LabelParts, target_operand_of, target_of}

-- a line of just this many tokens
unfoldable pub counted : ℕ → List (List ℕ) → Result (Unit {0}) ListingFaultKind
counted count tokens = if length tokens == count then Ok tt else Err Operand

-- `cd, c1, c2`
unfoldable pub three_form : ThreeOp → List (List ℕ) → Result Form ListingFaultKind
three_form op tokens = do
  count ← counted 4 tokens
  cd ← register_of (token_at tokens 1)
  c1 ← register_of (token_at tokens 2)
  c2 ← register_of (token_at tokens 3)
  Ok (form.Three op cd c1 c2)

-- `cd, c1`
unfoldable pub two_form : TwoOp → List (List ℕ) → Result Form ListingFaultKind
two_form op tokens = do
  count ← counted 3 tokens
  cd ← register_of (token_at tokens 1)
  c1 ← register_of (token_at tokens 2)
  Ok (form.Two op cd c1)

-- `cd, c1, i`, from -2,048 to 2,047
unfoldable pub immediate_form : ImmediateOp → List (List ℕ) → Result Form ListingFaultKind
immediate_form op tokens = do
  count ← counted 4 tokens
  cd ← register_of (token_at tokens 1)
  c1 ← register_of (token_at tokens 2)
  imm ← immediate_of (token_at tokens 3)
  imm ← immediate_of_12_bits imm
  Ok (form.Immediate op cd c1 imm)

-- `cd, c1, n`, from 0 to MAX_SHIFT
unfoldable pub shift_form : ShiftOp → List (List ℕ) → Result Form ListingFaultKind
shift_form op tokens = do
  count ← counted 4 tokens
  cd ← register_of (token_at tokens 1)
  c1 ← register_of (token_at tokens 2)
  imm ← immediate_of (token_at tokens 3)
  amount ← immediate_up_to MAX_SHIFT imm
  Ok (form.Shift op cd c1 amount)

-- `cd, c1, n`, from 0 to MAX_WORD_SHIFT
unfoldable pub word_shift_form : WordShiftOp → List (List ℕ) → Result Form ListingFaultKind
word_shift_form op tokens = do
  count ← counted 4 tokens
  cd ← register_of (token_at tokens 1)
  c1 ← register_of (token_at tokens 2)
  imm ← immediate_of (token_at tokens 3)
  amount ← immediate_up_to MAX_WORD_SHIFT imm
  Ok (form.WordShift op cd c1 amount)

-- `cd, c1, i`, from 0 to MAX_IMMEDIATE_LENGTH
unfoldable pub set_bounds_form : List (List ℕ) → Result Form ListingFaultKind
set_bounds_form tokens = do
  count ← counted 4 tokens
  cd ← register_of (token_at tokens 1)
  c1 ← register_of (token_at tokens 2)
  imm ← immediate_of (token_at tokens 3)
  len ← immediate_up_to MAX_IMMEDIATE_LENGTH imm
  Ok (form.SetBoundsImm cd c1 len)

-- `cd, i`, from 0 to MAX_UPPER_IMMEDIATE
unfoldable pub upper_form : UpperOp → List (List ℕ) → Result Form ListingFaultKind
upper_form op tokens = do
  count ← counted 3 tokens
  cd ← register_of (token_at tokens 1)
  imm ← immediate_of (token_at tokens 2)
  imm ← immediate_up_to MAX_UPPER_IMMEDIATE imm
  Ok (form.Upper op cd imm)

-- `cd, i(c1)`
unfoldable pub load_form : LoadOp → List (List ℕ) → Result Form ListingFaultKind
load_form op tokens = do
  count ← counted 3 tokens
  cd ← register_of (token_at tokens 1)
  operand ← memory_operand_of (token_at tokens 2)
  imm ← immediate_of_12_bits operand.imm
  Ok (form.Load op cd operand.c1 imm)

-- `c2, i(c1)`
unfoldable pub store_form : StoreOp → List (List ℕ) → Result Form ListingFaultKind
store_form op tokens = do
  count ← counted 3 tokens
  c2 ← register_of (token_at tokens 1)
  operand ← memory_operand_of (token_at tokens 2)
  imm ← immediate_of_12_bits operand.imm
  Ok (form.Store op c2 operand.c1 imm)

-- `cd, c2, c1`
unfoldable pub swap_form : List (List ℕ) → Result Form ListingFaultKind
swap_form tokens = do
  count ← counted 4 tokens
  cd ← register_of (token_at tokens 1)
  c2 ← register_of (token_at tokens 2)
  c1 ← register_of (token_at tokens 3)
  Ok (form.Swap cd c2 c1)

-- `c1, c2, target`
unfoldable pub branch_form : LabelParts → BranchOp → List (List ℕ) → Result Form ListingFaultKind
branch_form labels op tokens = do
  count ← counted 4 tokens
  c1 ← register_of (token_at tokens 1)
  c2 ← register_of (token_at tokens 2)
  operand ← target_operand_of labels (token_at tokens 3)
  target ← target_of labels operand
  Ok (form.Branch op c1 c2 target)

-- `cd, target`
unfoldable pub jump_form : LabelParts → List (List ℕ) → Result Form ListingFaultKind
jump_form labels tokens = do
  count ← counted 3 tokens
  cd ← register_of (token_at tokens 1)
  operand ← target_operand_of labels (token_at tokens 2)
  target ← target_of labels operand
  Ok (form.Jump cd target)

-- `c1, c2`
unfoldable pub invoke_form : List (List ℕ) → Result Form ListingFaultKind
invoke_form tokens = do
  count ← counted 3 tokens
  c1 ← register_of (token_at tokens 1)
  c2 ← register_of (token_at tokens 2)
  Ok (form.Invoke c1 c2)

-- no operands
unfoldable pub alone_form : List (List ℕ) → Result Form ListingFaultKind
alone_form tokens = do
  count ← counted 1 tokens
  Ok form.Alone

-- the operands of an instruction's line
unfoldable pub form_from : LabelParts → Mnemonic → List (List ℕ) → Result Form ListingFaultKind
form_from labels (mnemonic.Three op) tokens = three_form op tokens
form_from labels (mnemonic.Two op) tokens = two_form op tokens
form_from labels (mnemonic.Immediate op) tokens = immediate_form op tokens
form_from labels (mnemonic.Shift op) tokens = shift_form op tokens
form_from labels (mnemonic.WordShift op) tokens = word_shift_form op tokens
form_from labels mnemonic.SetBoundsImm tokens = set_bounds_form tokens
form_from labels (mnemonic.Upper op) tokens = upper_form op tokens
form_from labels (mnemonic.Load op) tokens = load_form op tokens
form_from labels (mnemonic.Store op) tokens = store_form op tokens
form_from labels mnemonic.Swap tokens = swap_form tokens
form_from labels (mnemonic.Branch op) tokens = branch_form labels op tokens
form_from labels mnemonic.Jump tokens = jump_form labels tokens
form_from labels mnemonic.Invoke tokens = invoke_form tokens
form_from labels mnemonic.Alone tokens = alone_form tokens
