-- The operands of an instruction that reads without a fault are in their ranges.
use Rattle.std.proofs.Common.{◌≡◌, ℕ, ◌≤◌, List, Result, Ok, Err, subst, arith}
use Rattle.cheri_model.specs.declared.form.Form.{Form}
use Rattle.cheri_model.specs.declared.form.Form.TheVariants as form
use Rattle.cheri_model.specs.declared.form.ThreeOp.{ThreeOp}
use Rattle.cheri_model.specs.declared.form.TwoOp.{TwoOp}
use Rattle.cheri_model.specs.declared.form.ImmediateOp.{ImmediateOp}
use Rattle.cheri_model.specs.declared.form.ShiftOp.{ShiftOp}
use Rattle.cheri_model.specs.declared.form.WordShiftOp.{WordShiftOp}
use Rattle.cheri_model.specs.declared.form.UpperOp.{UpperOp}
use Rattle.cheri_model.specs.declared.form.LoadOp.{LoadOp}
use Rattle.cheri_model.specs.declared.form.StoreOp.{StoreOp}
use Rattle.cheri_model.specs.declared.form.BranchOp.{BranchOp}
use Rattle.cheri_model.specs.declared.operands.TheConstants.{MAX_SHIFT, MAX_WORD_SHIFT, MAX_IMMEDIATE_LENGTH, MAX_UPPER_IMMEDIATE}
use Rattle.grammar.specs.declared.fault.ListingFaultKind.{ListingFaultKind}
use Rattle.cheri_model.specs.declared.names.Mnemonic.{Mnemonic}
use Rattle.cheri_model.specs.declared.names.Mnemonic.TheVariants.{Three, Two, Immediate, Shift, WordShift, SetBoundsImm, Upper, Load, Store, Swap, Branch, Jump, Invoke, Alone}
use Rattle.grammar.specs.Faults.{◌>>=◌}
use Rattle.grammar.specs.Tokens.{token_at}
use Rattle.grammar.specs.Operands.{register_of, immediate_of, immediate_of_12_bits, immediate_up_to, memory_operand_of}
use Rattle.grammar.specs.Labels.{LabelParts, target_operand_of, target_of}
use Rattle.grammar.specs.Forms.{counted, three_form, two_form, immediate_form, shift_form, word_shift_form, set_bounds_form, upper_form, load_form, store_form, swap_form, branch_form, jump_form, invoke_form, alone_form, form_from}
use Rattle.canonical.specs.Listable.{IsReadable}
use Rattle.canonical.proofs.round_trip.Ranges.{then_ok, register_ok, twelve_ok, up_to_ok, memory_ok, IsBounded, target_ok}

-- what an answer says of its value
abbrev OnRead : ℕ → Result Form ListingFaultKind → Type 0
OnRead count (Ok whole) = IsReadable count whole
OnRead count (Err f) = Unit {0}

three_ok : (count : ℕ) (op : ThreeOp) (tokens : List (List ℕ)) (whole : Form) → three_form op tokens ≡ Ok whole → IsReadable count whole
unfolding three_form
three_ok count op tokens whole e =
    let s0 = then_ok (counted 4 tokens) (λ c. register_of (token_at tokens 1) >>= (λ cd. register_of (token_at tokens 2) >>= (λ c1. register_of (token_at tokens 3) >>= (λ c2. Ok (form.Three op cd c1 c2))))) whole e in
    let s1 = then_ok (register_of (token_at tokens 1)) (λ cd. register_of (token_at tokens 2) >>= (λ c1. register_of (token_at tokens 3) >>= (λ c2. Ok (form.Three op cd c1 c2)))) whole s0.2 in
    let s2 = then_ok (register_of (token_at tokens 2)) (λ c1. register_of (token_at tokens 3) >>= (λ c2. Ok (form.Three op s1.0 c1 c2))) whole s1.2 in
    let s3 = then_ok (register_of (token_at tokens 3)) (λ c2. Ok (form.Three op s1.0 s2.0 c2)) whole s2.2 in
    subst (OnRead count) s3.2 (register_ok (token_at tokens 1) s1.0 s1.1, register_ok (token_at tokens 2) s2.0 s2.1, register_ok (token_at tokens 3) s3.0 s3.1)

two_ok : (count : ℕ) (op : TwoOp) (tokens : List (List ℕ)) (whole : Form) → two_form op tokens ≡ Ok whole → IsReadable count whole
unfolding two_form
two_ok count op tokens whole e =
    let s0 = then_ok (counted 3 tokens) (λ c. register_of (token_at tokens 1) >>= (λ cd. register_of (token_at tokens 2) >>= (λ c1. Ok (form.Two op cd c1)))) whole e in
    let s1 = then_ok (register_of (token_at tokens 1)) (λ cd. register_of (token_at tokens 2) >>= (λ c1. Ok (form.Two op cd c1))) whole s0.2 in
    let s2 = then_ok (register_of (token_at tokens 2)) (λ c1. Ok (form.Two op s1.0 c1)) whole s1.2 in
    subst (OnRead count) s2.2 (register_ok (token_at tokens 1) s1.0 s1.1, register_ok (token_at tokens 2) s2.0 s2.1)

immediate_ok : (count : ℕ) (op : ImmediateOp) (tokens : List (List ℕ)) (whole : Form) → immediate_form op tokens ≡ Ok whole → IsReadable count whole
unfolding immediate_form
immediate_ok count op tokens whole e =
    let s0 = then_ok (counted 4 tokens) (λ c. register_of (token_at tokens 1) >>= (λ cd. register_of (token_at tokens 2) >>= (λ c1. immediate_of (token_at tokens 3) >>= (λ size. immediate_of_12_bits size >>= (λ imm. Ok (form.Immediate op cd c1 imm)))))) whole e in
    let s1 = then_ok (register_of (token_at tokens 1)) (λ cd. register_of (token_at tokens 2) >>= (λ c1. immediate_of (token_at tokens 3) >>= (λ size. immediate_of_12_bits size >>= (λ imm. Ok (form.Immediate op cd c1 imm))))) whole s0.2 in
    let s2 = then_ok (register_of (token_at tokens 2)) (λ c1. immediate_of (token_at tokens 3) >>= (λ size. immediate_of_12_bits size >>= (λ imm. Ok (form.Immediate op s1.0 c1 imm)))) whole s1.2 in
    let s3 = then_ok (immediate_of (token_at tokens 3)) (λ size. immediate_of_12_bits size >>= (λ imm. Ok (form.Immediate op s1.0 s2.0 imm))) whole s2.2 in
    let s4 = then_ok (immediate_of_12_bits s3.0) (λ imm. Ok (form.Immediate op s1.0 s2.0 imm)) whole s3.2 in
    subst (OnRead count) s4.2 (register_ok (token_at tokens 1) s1.0 s1.1, register_ok (token_at tokens 2) s2.0 s2.1, twelve_ok s3.0 s4.0 s4.1)

shift_ok : (count : ℕ) (op : ShiftOp) (tokens : List (List ℕ)) (whole : Form) → shift_form op tokens ≡ Ok whole → IsReadable count whole
unfolding shift_form
shift_ok count op tokens whole e =
    let s0 = then_ok (counted 4 tokens) (λ c. register_of (token_at tokens 1) >>= (λ cd. register_of (token_at tokens 2) >>= (λ c1. immediate_of (token_at tokens 3) >>= (λ size. immediate_up_to MAX_SHIFT size >>= (λ amount. Ok (form.Shift op cd c1 amount)))))) whole e in
    let s1 = then_ok (register_of (token_at tokens 1)) (λ cd. register_of (token_at tokens 2) >>= (λ c1. immediate_of (token_at tokens 3) >>= (λ size. immediate_up_to MAX_SHIFT size >>= (λ amount. Ok (form.Shift op cd c1 amount))))) whole s0.2 in
    let s2 = then_ok (register_of (token_at tokens 2)) (λ c1. immediate_of (token_at tokens 3) >>= (λ size. immediate_up_to MAX_SHIFT size >>= (λ amount. Ok (form.Shift op s1.0 c1 amount)))) whole s1.2 in
    let s3 = then_ok (immediate_of (token_at tokens 3)) (λ size. immediate_up_to MAX_SHIFT size >>= (λ amount. Ok (form.Shift op s1.0 s2.0 amount))) whole s2.2 in
    let s4 = then_ok (immediate_up_to MAX_SHIFT s3.0) (λ amount. Ok (form.Shift op s1.0 s2.0 amount)) whole s3.2 in
    subst (OnRead count) s4.2 (register_ok (token_at tokens 1) s1.0 s1.1, register_ok (token_at tokens 2) s2.0 s2.1, up_to_ok MAX_SHIFT s3.0 s4.0 s4.1)

word_shift_ok : (count : ℕ) (op : WordShiftOp) (tokens : List (List ℕ)) (whole : Form) → word_shift_form op tokens ≡ Ok whole → IsReadable count whole
unfolding word_shift_form
word_shift_ok count op tokens whole e =
    let s0 = then_ok (counted 4 tokens) (λ c. register_of (token_at tokens 1) >>= (λ cd. register_of (token_at tokens 2) >>= (λ c1. immediate_of (token_at tokens 3) >>= (λ size. immediate_up_to MAX_WORD_SHIFT size >>= (λ amount. Ok (form.WordShift op cd c1 amount)))))) whole e in
    let s1 = then_ok (register_of (token_at tokens 1)) (λ cd. register_of (token_at tokens 2) >>= (λ c1. immediate_of (token_at tokens 3) >>= (λ size. immediate_up_to MAX_WORD_SHIFT size >>= (λ amount. Ok (form.WordShift op cd c1 amount))))) whole s0.2 in
    let s2 = then_ok (register_of (token_at tokens 2)) (λ c1. immediate_of (token_at tokens 3) >>= (λ size. immediate_up_to MAX_WORD_SHIFT size >>= (λ amount. Ok (form.WordShift op s1.0 c1 amount)))) whole s1.2 in
    let s3 = then_ok (immediate_of (token_at tokens 3)) (λ size. immediate_up_to MAX_WORD_SHIFT size >>= (λ amount. Ok (form.WordShift op s1.0 s2.0 amount))) whole s2.2 in
    let s4 = then_ok (immediate_up_to MAX_WORD_SHIFT s3.0) (λ amount. Ok (form.WordShift op s1.0 s2.0 amount)) whole s3.2 in
    subst (OnRead count) s4.2 (register_ok (token_at tokens 1) s1.0 s1.1, register_ok (token_at tokens 2) s2.0 s2.1, up_to_ok MAX_WORD_SHIFT s3.0 s4.0 s4.1)

set_bounds_ok : (count : ℕ) (tokens : List (List ℕ)) (whole : Form) → set_bounds_form tokens ≡ Ok whole → IsReadable count whole
unfolding set_bounds_form
set_bounds_ok count tokens whole e =
    let s0 = then_ok (counted 4 tokens) (λ c. register_of (token_at tokens 1) >>= (λ cd. register_of (token_at tokens 2) >>= (λ c1. immediate_of (token_at tokens 3) >>= (λ size. immediate_up_to MAX_IMMEDIATE_LENGTH size >>= (λ amount. Ok (form.SetBoundsImm cd c1 amount)))))) whole e in
    let s1 = then_ok (register_of (token_at tokens 1)) (λ cd. register_of (token_at tokens 2) >>= (λ c1. immediate_of (token_at tokens 3) >>= (λ size. immediate_up_to MAX_IMMEDIATE_LENGTH size >>= (λ amount. Ok (form.SetBoundsImm cd c1 amount))))) whole s0.2 in
    let s2 = then_ok (register_of (token_at tokens 2)) (λ c1. immediate_of (token_at tokens 3) >>= (λ size. immediate_up_to MAX_IMMEDIATE_LENGTH size >>= (λ amount. Ok (form.SetBoundsImm s1.0 c1 amount)))) whole s1.2 in
    let s3 = then_ok (immediate_of (token_at tokens 3)) (λ size. immediate_up_to MAX_IMMEDIATE_LENGTH size >>= (λ amount. Ok (form.SetBoundsImm s1.0 s2.0 amount))) whole s2.2 in
    let s4 = then_ok (immediate_up_to MAX_IMMEDIATE_LENGTH s3.0) (λ amount. Ok (form.SetBoundsImm s1.0 s2.0 amount)) whole s3.2 in
    subst (OnRead count) s4.2 (register_ok (token_at tokens 1) s1.0 s1.1, register_ok (token_at tokens 2) s2.0 s2.1, up_to_ok MAX_IMMEDIATE_LENGTH s3.0 s4.0 s4.1)

upper_ok : (count : ℕ) (op : UpperOp) (tokens : List (List ℕ)) (whole : Form) → upper_form op tokens ≡ Ok whole → IsReadable count whole
unfolding upper_form
upper_ok count op tokens whole e =
    let s0 = then_ok (counted 3 tokens) (λ c. register_of (token_at tokens 1) >>= (λ cd. immediate_of (token_at tokens 2) >>= (λ size. immediate_up_to MAX_UPPER_IMMEDIATE size >>= (λ amount. Ok (form.Upper op cd amount))))) whole e in
    let s1 = then_ok (register_of (token_at tokens 1)) (λ cd. immediate_of (token_at tokens 2) >>= (λ size. immediate_up_to MAX_UPPER_IMMEDIATE size >>= (λ amount. Ok (form.Upper op cd amount)))) whole s0.2 in
    let s2 = then_ok (immediate_of (token_at tokens 2)) (λ size. immediate_up_to MAX_UPPER_IMMEDIATE size >>= (λ amount. Ok (form.Upper op s1.0 amount))) whole s1.2 in
    let s3 = then_ok (immediate_up_to MAX_UPPER_IMMEDIATE s2.0) (λ amount. Ok (form.Upper op s1.0 amount)) whole s2.2 in
    subst (OnRead count) s3.2 (register_ok (token_at tokens 1) s1.0 s1.1, up_to_ok MAX_UPPER_IMMEDIATE s2.0 s3.0 s3.1)

load_ok : (count : ℕ) (op : LoadOp) (tokens : List (List ℕ)) (whole : Form) → load_form op tokens ≡ Ok whole → IsReadable count whole
unfolding load_form
load_ok count op tokens whole e =
    let s0 = then_ok (counted 3 tokens) (λ c. register_of (token_at tokens 1) >>= (λ cd. memory_operand_of (token_at tokens 2) >>= (λ operand. immediate_of_12_bits operand.imm >>= (λ imm. Ok (form.Load op cd operand.c1 imm))))) whole e in
    let s1 = then_ok (register_of (token_at tokens 1)) (λ cd. memory_operand_of (token_at tokens 2) >>= (λ operand. immediate_of_12_bits operand.imm >>= (λ imm. Ok (form.Load op cd operand.c1 imm)))) whole s0.2 in
    let s2 = then_ok (memory_operand_of (token_at tokens 2)) (λ operand. immediate_of_12_bits operand.imm >>= (λ imm. Ok (form.Load op s1.0 operand.c1 imm))) whole s1.2 in
    let s3 = then_ok (immediate_of_12_bits s2.0.imm) (λ imm. Ok (form.Load op s1.0 s2.0.c1 imm)) whole s2.2 in
    subst (OnRead count) s3.2 (register_ok (token_at tokens 1) s1.0 s1.1, memory_ok (token_at tokens 2) s2.0 s2.1, twelve_ok s2.0.imm s3.0 s3.1)

store_ok : (count : ℕ) (op : StoreOp) (tokens : List (List ℕ)) (whole : Form) → store_form op tokens ≡ Ok whole → IsReadable count whole
unfolding store_form
store_ok count op tokens whole e =
    let s0 = then_ok (counted 3 tokens) (λ c. register_of (token_at tokens 1) >>= (λ cd. memory_operand_of (token_at tokens 2) >>= (λ operand. immediate_of_12_bits operand.imm >>= (λ imm. Ok (form.Store op cd operand.c1 imm))))) whole e in
    let s1 = then_ok (register_of (token_at tokens 1)) (λ cd. memory_operand_of (token_at tokens 2) >>= (λ operand. immediate_of_12_bits operand.imm >>= (λ imm. Ok (form.Store op cd operand.c1 imm)))) whole s0.2 in
    let s2 = then_ok (memory_operand_of (token_at tokens 2)) (λ operand. immediate_of_12_bits operand.imm >>= (λ imm. Ok (form.Store op s1.0 operand.c1 imm))) whole s1.2 in
    let s3 = then_ok (immediate_of_12_bits s2.0.imm) (λ imm. Ok (form.Store op s1.0 s2.0.c1 imm)) whole s2.2 in
    subst (OnRead count) s3.2 (register_ok (token_at tokens 1) s1.0 s1.1, memory_ok (token_at tokens 2) s2.0 s2.1, twelve_ok s2.0.imm s3.0 s3.1)

swap_ok : (count : ℕ) (tokens : List (List ℕ)) (whole : Form) → swap_form tokens ≡ Ok whole → IsReadable count whole
unfolding swap_form
swap_ok count tokens whole e =
    let s0 = then_ok (counted 4 tokens) (λ c. register_of (token_at tokens 1) >>= (λ cd. register_of (token_at tokens 2) >>= (λ c1. register_of (token_at tokens 3) >>= (λ c2. Ok (form.Swap cd c1 c2))))) whole e in
    let s1 = then_ok (register_of (token_at tokens 1)) (λ cd. register_of (token_at tokens 2) >>= (λ c1. register_of (token_at tokens 3) >>= (λ c2. Ok (form.Swap cd c1 c2)))) whole s0.2 in
    let s2 = then_ok (register_of (token_at tokens 2)) (λ c1. register_of (token_at tokens 3) >>= (λ c2. Ok (form.Swap s1.0 c1 c2))) whole s1.2 in
    let s3 = then_ok (register_of (token_at tokens 3)) (λ c2. Ok (form.Swap s1.0 s2.0 c2)) whole s2.2 in
    subst (OnRead count) s3.2 (register_ok (token_at tokens 1) s1.0 s1.1, register_ok (token_at tokens 2) s2.0 s2.1, register_ok (token_at tokens 3) s3.0 s3.1)

branch_ok : (count : ℕ) (labels : LabelParts) (op : BranchOp) (tokens : List (List ℕ)) (whole : Form) → labels.instructions ≤ count → IsBounded labels → branch_form labels op tokens ≡ Ok whole → IsReadable count whole
unfolding branch_form
branch_ok count labels op tokens whole few bounded e =
    let s0 = then_ok (counted 4 tokens) (λ c. register_of (token_at tokens 1) >>= (λ c1. register_of (token_at tokens 2) >>= (λ c2. target_operand_of labels (token_at tokens 3) >>= (λ operand. target_of labels operand >>= (λ place. Ok (form.Branch op c1 c2 place)))))) whole e in
    let s1 = then_ok (register_of (token_at tokens 1)) (λ c1. register_of (token_at tokens 2) >>= (λ c2. target_operand_of labels (token_at tokens 3) >>= (λ operand. target_of labels operand >>= (λ place. Ok (form.Branch op c1 c2 place))))) whole s0.2 in
    let s2 = then_ok (register_of (token_at tokens 2)) (λ c2. target_operand_of labels (token_at tokens 3) >>= (λ operand. target_of labels operand >>= (λ place. Ok (form.Branch op s1.0 c2 place)))) whole s1.2 in
    let s3 = then_ok (target_operand_of labels (token_at tokens 3)) (λ operand. target_of labels operand >>= (λ place. Ok (form.Branch op s1.0 s2.0 place))) whole s2.2 in
    let s4 = then_ok (target_of labels s3.0) (λ place. Ok (form.Branch op s1.0 s2.0 place)) whole s3.2 in
    subst (OnRead count) s4.2 (register_ok (token_at tokens 1) s1.0 s1.1, register_ok (token_at tokens 2) s2.0 s2.1, (let most = target_ok labels (token_at tokens 3) s3.0 s4.0 bounded s3.1 s4.1 in omega arith))

jump_ok : (count : ℕ) (labels : LabelParts) (tokens : List (List ℕ)) (whole : Form) → labels.instructions ≤ count → IsBounded labels → jump_form labels tokens ≡ Ok whole → IsReadable count whole
unfolding jump_form
jump_ok count labels tokens whole few bounded e =
    let s0 = then_ok (counted 3 tokens) (λ c. register_of (token_at tokens 1) >>= (λ cd. target_operand_of labels (token_at tokens 2) >>= (λ operand. target_of labels operand >>= (λ place. Ok (form.Jump cd place))))) whole e in
    let s1 = then_ok (register_of (token_at tokens 1)) (λ cd. target_operand_of labels (token_at tokens 2) >>= (λ operand. target_of labels operand >>= (λ place. Ok (form.Jump cd place)))) whole s0.2 in
    let s2 = then_ok (target_operand_of labels (token_at tokens 2)) (λ operand. target_of labels operand >>= (λ place. Ok (form.Jump s1.0 place))) whole s1.2 in
    let s3 = then_ok (target_of labels s2.0) (λ place. Ok (form.Jump s1.0 place)) whole s2.2 in
    subst (OnRead count) s3.2 (register_ok (token_at tokens 1) s1.0 s1.1, (let most = target_ok labels (token_at tokens 2) s2.0 s3.0 bounded s2.1 s3.1 in omega arith))

invoke_ok : (count : ℕ) (tokens : List (List ℕ)) (whole : Form) → invoke_form tokens ≡ Ok whole → IsReadable count whole
unfolding invoke_form
invoke_ok count tokens whole e =
    let s0 = then_ok (counted 3 tokens) (λ c. register_of (token_at tokens 1) >>= (λ c1. register_of (token_at tokens 2) >>= (λ c2. Ok (form.Invoke c1 c2)))) whole e in
    let s1 = then_ok (register_of (token_at tokens 1)) (λ c1. register_of (token_at tokens 2) >>= (λ c2. Ok (form.Invoke c1 c2))) whole s0.2 in
    let s2 = then_ok (register_of (token_at tokens 2)) (λ c2. Ok (form.Invoke s1.0 c2)) whole s1.2 in
    subst (OnRead count) s2.2 (register_ok (token_at tokens 1) s1.0 s1.1, register_ok (token_at tokens 2) s2.0 s2.1)

alone_ok : (count : ℕ) (tokens : List (List ℕ)) (whole : Form) → alone_form tokens ≡ Ok whole → IsReadable count whole
unfolding alone_form
alone_ok count tokens whole e =
    let s0 = then_ok (counted 1 tokens) (λ c. Ok (form.Alone)) whole e in
    subst (OnRead count) s0.2 (tt)

-- an instruction's operands are in their ranges, where no label is past the last instruction line
pub form_ok : (count : ℕ) (labels : LabelParts) (mnemonic : Mnemonic) (tokens : List (List ℕ)) (whole : Form) → labels.instructions ≤ count → IsBounded labels
    → form_from labels mnemonic tokens ≡ Ok whole → IsReadable count whole
unfolding form_from
form_ok count labels (Three op) tokens whole few bounded e = three_ok count op tokens whole e
form_ok count labels (Two op) tokens whole few bounded e = two_ok count op tokens whole e
form_ok count labels (Immediate op) tokens whole few bounded e = immediate_ok count op tokens whole e
form_ok count labels (Shift op) tokens whole few bounded e = shift_ok count op tokens whole e
form_ok count labels (WordShift op) tokens whole few bounded e = word_shift_ok count op tokens whole e
form_ok count labels SetBoundsImm tokens whole few bounded e = set_bounds_ok count tokens whole e
form_ok count labels (Upper op) tokens whole few bounded e = upper_ok count op tokens whole e
form_ok count labels (Load op) tokens whole few bounded e = load_ok count op tokens whole e
form_ok count labels (Store op) tokens whole few bounded e = store_ok count op tokens whole e
form_ok count labels Swap tokens whole few bounded e = swap_ok count tokens whole e
form_ok count labels (Branch op) tokens whole few bounded e = branch_ok count labels op tokens whole few bounded e
form_ok count labels Jump tokens whole few bounded e = jump_ok count labels tokens whole few bounded e
form_ok count labels Invoke tokens whole few bounded e = invoke_ok count tokens whole e
form_ok count labels Alone tokens whole few bounded e = alone_ok count tokens whole e
