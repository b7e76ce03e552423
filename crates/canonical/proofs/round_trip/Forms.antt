-- An instruction's text reads back to its form, one lemma for each form of operands.
use Rattle.std.proofs.Common.{◌≡◌, ℕ, ◌^◌, ◌<◌, ◌≤◌, List, [], ◌∷◌, Ok, refl, arith}
use Rattle.std.specs.Prelude.{codes, decimal, ℤ}
use Rattle.std.specs.Fmt.{signed_decimal}
use Rattle.cheri_model.specs.declared.form.Form.{Form}
use Rattle.cheri_model.specs.declared.form.Form.TheVariants.{Three, Two, Immediate, Shift, WordShift, SetBoundsImm, Upper, Load, Store, Swap, Branch, Jump, Invoke, Alone}
use Rattle.cheri_model.specs.declared.form.ThreeOp.{ThreeOp}
use Rattle.cheri_model.specs.declared.form.TwoOp.{TwoOp}
use Rattle.cheri_model.specs.declared.form.ImmediateOp.{ImmediateOp}
use Rattle.cheri_model.specs.declared.form.ShiftOp.{ShiftOp}
use Rattle.cheri_model.specs.declared.form.WordShiftOp.{WordShiftOp}
use Rattle.cheri_model.specs.declared.form.UpperOp.{UpperOp}
use Rattle.cheri_model.specs.declared.form.LoadOp.{LoadOp}
use Rattle.cheri_model.specs.declared.form.StoreOp.{StoreOp}
use Rattle.cheri_model.specs.declared.form.BranchOp.{BranchOp}
use Rattle.cheri_model.specs.declared.names.Mnemonic.{Mnemonic}
use Rattle.cheri_model.specs.declared.names.Mnemonic.TheVariants as mnemonic
use Rattle.canonical.specs.Listable.{Is12Bits, IsReadable}
use Rattle.cheri_model.specs.declared.operands.TheConstants.{MAX_SHIFT, MAX_WORD_SHIFT, MAX_IMMEDIATE_LENGTH, MAX_UPPER_IMMEDIATE}
use Rattle.grammar.specs.Tokens.{token_at}
use Rattle.grammar.specs.Labels.{LabelParts}
use Rattle.grammar.specs.Forms.{counted, three_form, two_form, immediate_form, shift_form, word_shift_form, set_bounds_form, upper_form, load_form, store_form, swap_form, branch_form, jump_form, invoke_form, alone_form, form_from}
use Rattle.cheri_model.specs.instructions.Names.{name_of}
use Rattle.notation.specs.Instructions.{form_text}
use Rattle.canonical.proofs.round_trip.Lines.{IsLine, last_word, then_space, then_comma}
use Rattle.canonical.proofs.round_trip.Numbers.{decimal_word}
use Rattle.canonical.proofs.round_trip.Operands.{reg_text, register_reads, register_word, signed_reads, signed_in_range, signed_word, plain_reads, up_to_reads, memory_text, memory_reads, memory_word, target_text, target_reads, target_in_range, target_word}
use Rattle.canonical.proofs.round_trip.Names.{IsName, named}

-- a text is a line of an instruction's name and operands, which read as a form where there are enough instruction lines
pub record ReadsAs (count : ℕ) (text : List ℕ) (whole : Form) : Type 0 where
  pub name : List ℕ
  pub mnemonic : Mnemonic
  pub operands : List (List ℕ)
  pub named : IsName name mnemonic
  pub line : IsLine text (name ∷ operands)
  pub read : (labels : LabelParts) → count ≤ labels.instructions → form_from labels mnemonic (name ∷ operands) ≡ Ok whole

-- the operands of each form read back after any name
module _ (name : List ℕ) where
  three_back : (op : ThreeOp) (cd c1 c2 : ℕ) → cd < 32 → c1 < 32 → c2 < 32 → three_form op (name ∷ reg_text cd ∷ reg_text c1 ∷ reg_text c2 ∷ []) ≡ Ok (Three op cd c1 c2)
  unfolding three_form counted token_at
  three_back op cd c1 c2 p q r = rw (register_reads cd p, register_reads c1 q, register_reads c2 r) refl

  two_back : (op : TwoOp) (cd c1 : ℕ) → cd < 32 → c1 < 32 → two_form op (name ∷ reg_text cd ∷ reg_text c1 ∷ []) ≡ Ok (Two op cd c1)
  unfolding two_form counted token_at
  two_back op cd c1 p q = rw (register_reads cd p, register_reads c1 q) refl

  immediate_back : (op : ImmediateOp) (cd c1 : ℕ) (imm : ℤ) → cd < 32 → c1 < 32 → Is12Bits imm → immediate_form op (name ∷ reg_text cd ∷ reg_text c1 ∷ signed_decimal imm ∷ []) ≡ Ok (Immediate op cd c1 imm)
  unfolding immediate_form counted token_at
  immediate_back op cd c1 imm p q r = rw (register_reads cd p, register_reads c1 q, signed_reads imm r, signed_in_range imm r) refl

  shift_back : (op : ShiftOp) (cd c1 amount : ℕ) → cd < 32 → c1 < 32 → amount ≤ MAX_SHIFT → shift_form op (name ∷ reg_text cd ∷ reg_text c1 ∷ decimal amount ∷ []) ≡ Ok (Shift op cd c1 amount)
  unfolding shift_form counted token_at
  shift_back op cd c1 amount p q r = rw (register_reads cd p, register_reads c1 q, plain_reads amount (omega arith), up_to_reads amount MAX_SHIFT r) refl

  word_shift_back : (op : WordShiftOp) (cd c1 amount : ℕ) → cd < 32 → c1 < 32 → amount ≤ MAX_WORD_SHIFT → word_shift_form op (name ∷ reg_text cd ∷ reg_text c1 ∷ decimal amount ∷ []) ≡ Ok (WordShift op cd c1 amount)
  unfolding word_shift_form counted token_at
  word_shift_back op cd c1 amount p q r = rw (register_reads cd p, register_reads c1 q, plain_reads amount (omega arith), up_to_reads amount MAX_WORD_SHIFT r) refl

  set_bounds_back : (cd c1 len : ℕ) → cd < 32 → c1 < 32 → len ≤ MAX_IMMEDIATE_LENGTH → set_bounds_form (name ∷ reg_text cd ∷ reg_text c1 ∷ decimal len ∷ []) ≡ Ok (SetBoundsImm cd c1 len)
  unfolding set_bounds_form counted token_at
  set_bounds_back cd c1 len p q r = rw (register_reads cd p, register_reads c1 q, plain_reads len (omega arith), up_to_reads len MAX_IMMEDIATE_LENGTH r) refl

  upper_back : (op : UpperOp) (cd imm : ℕ) → cd < 32 → imm ≤ MAX_UPPER_IMMEDIATE → upper_form op (name ∷ reg_text cd ∷ decimal imm ∷ []) ≡ Ok (Upper op cd imm)
  unfolding upper_form counted token_at
  upper_back op cd imm p q = rw (register_reads cd p, plain_reads imm (omega arith), up_to_reads imm MAX_UPPER_IMMEDIATE q) refl

  load_back : (op : LoadOp) (cd c1 : ℕ) (imm : ℤ) → cd < 32 → c1 < 32 → Is12Bits imm → load_form op (name ∷ reg_text cd ∷ memory_text imm c1 ∷ []) ≡ Ok (Load op cd c1 imm)
  unfolding load_form counted token_at
  load_back op cd c1 imm p q r = rw (register_reads cd p, memory_reads imm c1 r q, signed_in_range imm r) refl

  store_back : (op : StoreOp) (c2 c1 : ℕ) (imm : ℤ) → c2 < 32 → c1 < 32 → Is12Bits imm → store_form op (name ∷ reg_text c2 ∷ memory_text imm c1 ∷ []) ≡ Ok (Store op c2 c1 imm)
  unfolding store_form counted token_at
  store_back op c2 c1 imm p q r = rw (register_reads c2 p, memory_reads imm c1 r q, signed_in_range imm r) refl

  swap_back : (cd c2 c1 : ℕ) → cd < 32 → c2 < 32 → c1 < 32 → swap_form (name ∷ reg_text cd ∷ reg_text c2 ∷ reg_text c1 ∷ []) ≡ Ok (Swap cd c2 c1)
  unfolding swap_form counted token_at
  swap_back cd c2 c1 p q r = rw (register_reads cd p, register_reads c2 q, register_reads c1 r) refl

  branch_back : (labels : LabelParts) (op : BranchOp) (c1 c2 target : ℕ) → c1 < 32 → c2 < 32 → target < 2 ^ 128 → target ≤ labels.instructions
      → branch_form labels op (name ∷ reg_text c1 ∷ reg_text c2 ∷ target_text target ∷ []) ≡ Ok (Branch op c1 c2 target)
  unfolding branch_form counted token_at
  branch_back labels op c1 c2 target p q low r = rw (register_reads c1 p, register_reads c2 q, target_reads labels target low, target_in_range labels target r) refl

  jump_back : (labels : LabelParts) (cd target : ℕ) → cd < 32 → target < 2 ^ 128 → target ≤ labels.instructions → jump_form labels (name ∷ reg_text cd ∷ target_text target ∷ []) ≡ Ok (Jump cd target)
  unfolding jump_form counted token_at
  jump_back labels cd target p low q = rw (register_reads cd p, target_reads labels target low, target_in_range labels target q) refl

  invoke_back : (c1 c2 : ℕ) → c1 < 32 → c2 < 32 → invoke_form (name ∷ reg_text c1 ∷ reg_text c2 ∷ []) ≡ Ok (Invoke c1 c2)
  unfolding invoke_form counted token_at
  invoke_back c1 c2 p q = rw (register_reads c1 p, register_reads c2 q) refl

  alone_back : alone_form (name ∷ []) ≡ Ok Alone
  unfolding alone_form counted
  alone_back = refl

-- the canonical text of each form reads back
pub form_reads : (count : ℕ) (whole : Form) → count < 2 ^ 128 → IsReadable count whole → ReadsAs count (form_text whole) whole
unfolding form_text form_from
form_reads count (Three op cd c1 c2) few h =
    record {
      name = name_of (mnemonic.Three op);
      mnemonic = mnemonic.Three op;
      operands = reg_text cd ∷ reg_text c1 ∷ reg_text c2 ∷ [];
      named = named (mnemonic.Three op);
      line = then_space (name_of (mnemonic.Three op)) _ _ (named (mnemonic.Three op)).word (then_comma (reg_text cd) _ _ (register_word cd h.0) (then_comma (reg_text c1) _ _ (register_word c1 h.1) (last_word (reg_text c2) (register_word c2 h.2))));
      read = λ labels enough. three_back (name_of (mnemonic.Three op)) op cd c1 c2 h.0 h.1 h.2;
    }
form_reads count (Two op cd c1) few h =
    record {
      name = name_of (mnemonic.Two op);
      mnemonic = mnemonic.Two op;
      operands = reg_text cd ∷ reg_text c1 ∷ [];
      named = named (mnemonic.Two op);
      line = then_space (name_of (mnemonic.Two op)) _ _ (named (mnemonic.Two op)).word (then_comma (reg_text cd) _ _ (register_word cd h.0) (last_word (reg_text c1) (register_word c1 h.1)));
      read = λ labels enough. two_back (name_of (mnemonic.Two op)) op cd c1 h.0 h.1;
    }
form_reads count (Immediate op cd c1 imm) few h =
    record {
      name = name_of (mnemonic.Immediate op);
      mnemonic = mnemonic.Immediate op;
      operands = reg_text cd ∷ reg_text c1 ∷ signed_decimal imm ∷ [];
      named = named (mnemonic.Immediate op);
      line = then_space (name_of (mnemonic.Immediate op)) _ _ (named (mnemonic.Immediate op)).word (then_comma (reg_text cd) _ _ (register_word cd h.0) (then_comma (reg_text c1) _ _ (register_word c1 h.1) (last_word (signed_decimal imm) (signed_word imm h.2))));
      read = λ labels enough. immediate_back (name_of (mnemonic.Immediate op)) op cd c1 imm h.0 h.1 h.2;
    }
form_reads count (Shift op cd c1 amount) few h =
    record {
      name = name_of (mnemonic.Shift op);
      mnemonic = mnemonic.Shift op;
      operands = reg_text cd ∷ reg_text c1 ∷ decimal amount ∷ [];
      named = named (mnemonic.Shift op);
      line = then_space (name_of (mnemonic.Shift op)) _ _ (named (mnemonic.Shift op)).word (then_comma (reg_text cd) _ _ (register_word cd h.0) (then_comma (reg_text c1) _ _ (register_word c1 h.1) (last_word (decimal amount) (decimal_word amount (omega (arith, h.2))))));
      read = λ labels enough. shift_back (name_of (mnemonic.Shift op)) op cd c1 amount h.0 h.1 h.2;
    }
form_reads count (WordShift op cd c1 amount) few h =
    record {
      name = name_of (mnemonic.WordShift op);
      mnemonic = mnemonic.WordShift op;
      operands = reg_text cd ∷ reg_text c1 ∷ decimal amount ∷ [];
      named = named (mnemonic.WordShift op);
      line = then_space (name_of (mnemonic.WordShift op)) _ _ (named (mnemonic.WordShift op)).word (then_comma (reg_text cd) _ _ (register_word cd h.0) (then_comma (reg_text c1) _ _ (register_word c1 h.1) (last_word (decimal amount) (decimal_word amount (omega (arith, h.2))))));
      read = λ labels enough. word_shift_back (name_of (mnemonic.WordShift op)) op cd c1 amount h.0 h.1 h.2;
    }
form_reads count (SetBoundsImm cd c1 len) few h =
    record {
      name = name_of mnemonic.SetBoundsImm;
      mnemonic = mnemonic.SetBoundsImm;
      operands = reg_text cd ∷ reg_text c1 ∷ decimal len ∷ [];
      named = named mnemonic.SetBoundsImm;
      line = then_space (name_of mnemonic.SetBoundsImm) _ _ (named mnemonic.SetBoundsImm).word (then_comma (reg_text cd) _ _ (register_word cd h.0) (then_comma (reg_text c1) _ _ (register_word c1 h.1) (last_word (decimal len) (decimal_word len (omega (arith, h.2))))));
      read = λ labels enough. set_bounds_back (name_of mnemonic.SetBoundsImm) cd c1 len h.0 h.1 h.2;
    }
form_reads count (Upper op cd imm) few h =
    record {
      name = name_of (mnemonic.Upper op);
      mnemonic = mnemonic.Upper op;
      operands = reg_text cd ∷ decimal imm ∷ [];
      named = named (mnemonic.Upper op);
      line = then_space (name_of (mnemonic.Upper op)) _ _ (named (mnemonic.Upper op)).word (then_comma (reg_text cd) _ _ (register_word cd h.0) (last_word (decimal imm) (decimal_word imm (omega (arith, h.1)))));
      read = λ labels enough. upper_back (name_of (mnemonic.Upper op)) op cd imm h.0 h.1;
    }
form_reads count (Load op cd c1 imm) few h =
    record {
      name = name_of (mnemonic.Load op);
      mnemonic = mnemonic.Load op;
      operands = reg_text cd ∷ memory_text imm c1 ∷ [];
      named = named (mnemonic.Load op);
      line = then_space (name_of (mnemonic.Load op)) _ _ (named (mnemonic.Load op)).word (then_comma (reg_text cd) _ _ (register_word cd h.0) (last_word (memory_text imm c1) (memory_word imm c1 h.2 h.1)));
      read = λ labels enough. load_back (name_of (mnemonic.Load op)) op cd c1 imm h.0 h.1 h.2;
    }
form_reads count (Store op c2 c1 imm) few h =
    record {
      name = name_of (mnemonic.Store op);
      mnemonic = mnemonic.Store op;
      operands = reg_text c2 ∷ memory_text imm c1 ∷ [];
      named = named (mnemonic.Store op);
      line = then_space (name_of (mnemonic.Store op)) _ _ (named (mnemonic.Store op)).word (then_comma (reg_text c2) _ _ (register_word c2 h.0) (last_word (memory_text imm c1) (memory_word imm c1 h.2 h.1)));
      read = λ labels enough. store_back (name_of (mnemonic.Store op)) op c2 c1 imm h.0 h.1 h.2;
    }
form_reads count (Swap cd c2 c1) few h =
    record {
      name = name_of mnemonic.Swap;
      mnemonic = mnemonic.Swap;
      operands = reg_text cd ∷ reg_text c2 ∷ reg_text c1 ∷ [];
      named = named mnemonic.Swap;
      line = then_space (name_of mnemonic.Swap) _ _ (named mnemonic.Swap).word (then_comma (reg_text cd) _ _ (register_word cd h.0) (then_comma (reg_text c2) _ _ (register_word c2 h.1) (last_word (reg_text c1) (register_word c1 h.2))));
      read = λ labels enough. swap_back (name_of mnemonic.Swap) cd c2 c1 h.0 h.1 h.2;
    }
form_reads count (Branch op c1 c2 target) few h =
    record {
      name = name_of (mnemonic.Branch op);
      mnemonic = mnemonic.Branch op;
      operands = reg_text c1 ∷ reg_text c2 ∷ target_text target ∷ [];
      named = named (mnemonic.Branch op);
      line = then_space (name_of (mnemonic.Branch op)) _ _ (named (mnemonic.Branch op)).word (then_comma (reg_text c1) _ _ (register_word c1 h.0) (then_comma (reg_text c2) _ _ (register_word c2 h.1) (last_word (target_text target) (target_word target (omega (arith, h.2))))));
      read = λ labels enough. branch_back (name_of (mnemonic.Branch op)) labels op c1 c2 target h.0 h.1 (omega (arith, h.2)) (omega (arith, h.2));
    }
form_reads count (Jump cd target) few h =
    record {
      name = name_of mnemonic.Jump;
      mnemonic = mnemonic.Jump;
      operands = reg_text cd ∷ target_text target ∷ [];
      named = named mnemonic.Jump;
      line = then_space (name_of mnemonic.Jump) _ _ (named mnemonic.Jump).word (then_comma (reg_text cd) _ _ (register_word cd h.0) (last_word (target_text target) (target_word target (omega (arith, h.1)))));
      read = λ labels enough. jump_back (name_of mnemonic.Jump) labels cd target h.0 (omega (arith, h.1)) (omega (arith, h.1));
    }
form_reads count (Invoke c1 c2) few h =
    record {
      name = name_of mnemonic.Invoke;
      mnemonic = mnemonic.Invoke;
      operands = reg_text c1 ∷ reg_text c2 ∷ [];
      named = named mnemonic.Invoke;
      line = then_space (name_of mnemonic.Invoke) _ _ (named mnemonic.Invoke).word (then_comma (reg_text c1) _ _ (register_word c1 h.0) (last_word (reg_text c2) (register_word c2 h.1)));
      read = λ labels enough. invoke_back (name_of mnemonic.Invoke) c1 c2 h.0 h.1;
    }
form_reads count Alone few h =
    record { name = name_of mnemonic.Alone; mnemonic = mnemonic.Alone; operands = []; named = named mnemonic.Alone; line = last_word (name_of mnemonic.Alone) (named mnemonic.Alone).word; read = λ labels enough. alone_back (name_of mnemonic.Alone) }
