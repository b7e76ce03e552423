-- The names of instructions read back: each is one word that names its instruction and no directive.
use Rattle.std.proofs.Common.{◌≡◌, List, ℕ, Some, None, refl}
use Rattle.cheri_model.specs.declared.form.ThreeOp.TheVariants as three_op
use Rattle.cheri_model.specs.declared.form.TwoOp.TheVariants as two_op
use Rattle.cheri_model.specs.declared.form.ImmediateOp.TheVariants as immediate_op
use Rattle.cheri_model.specs.declared.form.ShiftOp.TheVariants as shift_op
use Rattle.cheri_model.specs.declared.form.WordShiftOp.TheVariants as word_shift_op
use Rattle.cheri_model.specs.declared.form.UpperOp.TheVariants as upper_op
use Rattle.cheri_model.specs.declared.form.LoadOp.TheVariants as load_op
use Rattle.cheri_model.specs.declared.form.StoreOp.TheVariants as store_op
use Rattle.cheri_model.specs.declared.form.BranchOp.TheVariants as branch_op
use Rattle.cheri_model.specs.declared.names.Mnemonic.{Mnemonic}
use Rattle.cheri_model.specs.declared.names.Mnemonic.TheVariants.{Three, Two, Immediate, Shift, WordShift, SetBoundsImm, Upper, Load, Store, Swap, Branch, Jump, Invoke, Alone}
use Rattle.cheri_model.specs.instructions.Tables.{found_at}
use Rattle.cheri_model.specs.instructions.Names.{mnemonic_of, mnemonic_table, name_among, name_of}
use Rattle.cheri_model.proofs.NameLemmas.{names_back}
use Rattle.grammar.specs.Tokens.{is_blank}
use Rattle.grammar.specs.Directives.{directive_of}
use Rattle.canonical.proofs.round_trip.Words.{is_open, is_word_byte, IsWord}

pub record IsName (name : List ℕ) (mnemonic : Mnemonic) : Type 0 where
  pub word : IsWord name
  pub found : mnemonic_of name ≡ Some mnemonic
  pub undirected : directive_of name ≡ None

-- each name is a word
name_word : (mnemonic : Mnemonic) → IsWord (name_of mnemonic)
unfolding name_of name_among mnemonic_table is_word_byte is_open is_blank
name_word (Three three_op.CSetAddr) = record { filled = refl; bytes = refl }
name_word (Three _) = record { filled = refl; bytes = refl }
name_word (Two two_op.CMove) = record { filled = refl; bytes = refl }
name_word (Two _) = record { filled = refl; bytes = refl }
name_word (Immediate immediate_op.CIncOffsetImm) = record { filled = refl; bytes = refl }
name_word (Immediate _) = record { filled = refl; bytes = refl }
name_word (Shift shift_op.Slli) = record { filled = refl; bytes = refl }
name_word (Shift _) = record { filled = refl; bytes = refl }
name_word (WordShift word_shift_op.Slliw) = record { filled = refl; bytes = refl }
name_word (WordShift _) = record { filled = refl; bytes = refl }
name_word SetBoundsImm = record { filled = refl; bytes = refl }
name_word (Upper upper_op.Lui) = record { filled = refl; bytes = refl }
name_word (Upper _) = record { filled = refl; bytes = refl }
name_word (Load load_op.Lb) = record { filled = refl; bytes = refl }
name_word (Load _) = record { filled = refl; bytes = refl }
name_word (Store store_op.Sb) = record { filled = refl; bytes = refl }
name_word (Store _) = record { filled = refl; bytes = refl }
name_word Swap = record { filled = refl; bytes = refl }
name_word (Branch branch_op.Beq) = record { filled = refl; bytes = refl }
name_word (Branch _) = record { filled = refl; bytes = refl }
name_word Jump = record { filled = refl; bytes = refl }
name_word Invoke = record { filled = refl; bytes = refl }
name_word Alone = record { filled = refl; bytes = refl }

-- and no directive's
no_directive : (mnemonic : Mnemonic) → directive_of (name_of mnemonic) ≡ None
unfolding name_of name_among mnemonic_table directive_of found_at
no_directive (Three three_op.CSetAddr) = refl
no_directive (Three _) = refl
no_directive (Two two_op.CMove) = refl
no_directive (Two _) = refl
no_directive (Immediate immediate_op.CIncOffsetImm) = refl
no_directive (Immediate _) = refl
no_directive (Shift shift_op.Slli) = refl
no_directive (Shift _) = refl
no_directive (WordShift word_shift_op.Slliw) = refl
no_directive (WordShift _) = refl
no_directive SetBoundsImm = refl
no_directive (Upper upper_op.Lui) = refl
no_directive (Upper _) = refl
no_directive (Load load_op.Lb) = refl
no_directive (Load _) = refl
no_directive (Store store_op.Sb) = refl
no_directive (Store _) = refl
no_directive Swap = refl
no_directive (Branch branch_op.Beq) = refl
no_directive (Branch _) = refl
no_directive Jump = refl
no_directive Invoke = refl
no_directive Alone = refl

pub named : (mnemonic : Mnemonic) → IsName (name_of mnemonic) mnemonic
named mnemonic = record { word = name_word mnemonic; found = names_back mnemonic; undirected = no_directive mnemonic }
