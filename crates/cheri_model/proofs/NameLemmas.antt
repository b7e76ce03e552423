-- A name is looked up among those that begin with its letter.
use Rattle.std.proofs.Common.{◌≡◌, ℕ, ◌==◌, ◌<◌, ◌||◌, ◌&&◌, Bool, true, false, List, [], ◌∷◌, Some, None, map, filter, get_or, length, refl, sym, ap, ◌∙◌, arith}
use Rattle.std.specs.Prelude.{bytes_eq}
use Rattle.std.specs.List.{list_all}
use Rattle.std.proofs.lemmas.Bool.Decides.{nat_tests}
use Rattle.std.proofs.lemmas.Slice.Eq.{bytes_eq-Decides}
use Rattle.cheri_model.specs.declared.form.ThreeOp.TheVariants as three_op
use Rattle.cheri_model.specs.declared.form.TwoOp.TheVariants as two_op
use Rattle.cheri_model.specs.declared.form.ImmediateOp.TheVariants as immediate_op
use Rattle.cheri_model.specs.declared.form.ShiftOp.TheVariants as shift_op
use Rattle.cheri_model.specs.declared.form.WordShiftOp.TheVariants as word_shift_op
use Rattle.cheri_model.specs.declared.form.UpperOp.TheVariants as upper_op
use Rattle.cheri_model.specs.declared.form.LoadOp.TheVariants as load_op
use Rattle.cheri_model.specs.declared.form.StoreOp.TheVariants as store_op
use Rattle.cheri_model.specs.declared.form.BranchOp.TheVariants as branch_op
use Rattle.cheri_model.specs.instructions.Tables.{found_at}
use Rattle.cheri_model.specs.declared.names.Mnemonic.{Mnemonic}
use Rattle.cheri_model.specs.declared.names.Mnemonic.TheVariants.{Three, Two, Immediate, Shift, WordShift, SetBoundsImm, Upper, Load, Store, Swap, Branch, Jump, Invoke, Alone}
use Rattle.cheri_model.specs.instructions.Names.{mnemonic_table, mnemonic_of, names_from, name_among, name_in, name_of}

begins : ℕ → List ℕ × Mnemonic → Bool
begins letter row = get_or row.0 0 0 == letter

letter_of : (letter : ℕ) (name token : List ℕ) (test : Bool) → bytes_eq name token ≡ true → get_or token 0 0 ≡ letter → (get_or name 0 0 == letter) ≡ test → test ≡ true
letter_of letter name token test e h f =
    let same : get_or name 0 0 ≡ letter = ap (λ n. get_or n 0 0) ((bytes_eq-Decides name token).0 e) ∙ h in grind (arith, nat_tests)

found_where : (letter : ℕ) (row : List ℕ × Mnemonic) (rows : List (List ℕ × Mnemonic)) (token : List ℕ) (same test : Bool) → bytes_eq row.0 token ≡ same → begins letter row ≡ test
    → get_or token 0 0 ≡ letter → found_at (filter (begins letter) rows) token ≡ found_at rows token
    → found_at (filter (begins letter) (row ∷ rows)) token ≡ found_at (row ∷ rows) token
unfolding found_at begins
found_where letter row rows token true true e f h rest = rw f (rw e refl)
found_where letter row rows token true false e f h rest = absurd (let no = letter_of letter row.0 token false e h f in cc)
found_where letter row rows token false true e f h rest = rw f (rw e rest)
found_where letter row rows token false false e f h rest = rw f (rw e rest)

found_among : (letter : ℕ) (rows : List (List ℕ × Mnemonic)) (token : List ℕ) → get_or token 0 0 ≡ letter → found_at (filter (begins letter) rows) token ≡ found_at rows token
unfolding found_at
found_among letter [] token h = refl
found_among letter (row ∷ rows) token h = found_where letter row rows token (bytes_eq row.0 token) (begins letter row) refl refl h (found_among letter rows token h)

-- a token's instruction is among the names that begin with its letter
pub found_by_letter : (letter : ℕ) (token : List ℕ) → get_or token 0 0 ≡ letter → found_at (names_from letter) token ≡ mnemonic_of token
unfolding names_from mnemonic_of begins
found_by_letter letter token h = found_among letter mnemonic_table token h

-- the letters that names begin with
abbrev pub is_initial : ℕ → Bool
is_initial b = (b == 0x61) || (b == 0x62) || (b == 0x63) || (b == 0x65) || (b == 0x6C) || (b == 0x6F) || (b == 0x73) || (b == 0x78)

other_letter : (letter first : ℕ) (test : Bool) → is_initial letter ≡ false → is_initial first ≡ true → (first == letter) ≡ test → test ≡ false
other_letter letter first true e f h = absurd (let same : first ≡ letter = grind (arith, nat_tests) in let no : true ≡ false = sym f ∙ ap is_initial same ∙ e in cc)
other_letter letter first false e f h = refl

none_where : (letter : ℕ) (row : List ℕ × Mnemonic) (rows : List (List ℕ × Mnemonic)) (good rest : Bool) → is_initial (get_or row.0 0 0) ≡ good → is_initial letter ≡ false
    → (good && rest) ≡ true → (rest ≡ true → filter (begins letter) rows ≡ []) → filter (begins letter) (row ∷ rows) ≡ []
unfolding begins
none_where letter row rows true rest e f all h = rw (other_letter letter (get_or row.0 0 0) (get_or row.0 0 0 == letter) f e refl) (h all)
none_where letter row rows false rest e f all h = absurd (cc)

none_begins : (letter : ℕ) (rows : List (List ℕ × Mnemonic)) → is_initial letter ≡ false → list_all (λ row. is_initial (get_or row.0 0 0)) rows ≡ true → filter (begins letter) rows ≡ []
none_begins letter [] e all = refl
none_begins letter (row ∷ rows) e all =
    none_where letter row rows (is_initial (get_or row.0 0 0)) (list_all (λ r. is_initial (get_or r.0 0 0)) rows) refl e all (λ rest. none_begins letter rows e rest)

-- no name begins with another letter
pub no_names : (letter : ℕ) → is_initial letter ≡ false → names_from letter ≡ []
unfolding names_from mnemonic_table begins
no_names letter e = none_begins letter mnemonic_table e refl

-- an empty token names nothing
pub nothing_named : (token : List ℕ) → length token < 1 → None ≡ mnemonic_of token
unfolding found_at
nothing_named [] h = ap (λ rows. found_at rows []) (sym (no_names 0 refl)) ∙ found_by_letter 0 [] refl
nothing_named (b ∷ token) h = absurd (omega (arith, h))

-- the tables by their letters, in the code's order
abbrev pub tables_by_letter : List (List (List ℕ × Mnemonic))
tables_by_letter = map names_from (0x61 ∷ 0x62 ∷ 0x63 ∷ 0x65 ∷ 0x6C ∷ 0x6F ∷ 0x73 ∷ 0x78 ∷ [])

-- an instruction has one name, wherever it is looked for
pub one_name : (mnemonic : Mnemonic) → name_in tables_by_letter mnemonic ≡ name_of mnemonic
unfolding name_in name_of name_among names_from mnemonic_table
one_name (Three three_op.CSetAddr) = refl
one_name (Three _) = refl
one_name (Two two_op.CMove) = refl
one_name (Two _) = refl
one_name (Immediate immediate_op.CIncOffsetImm) = refl
one_name (Immediate _) = refl
one_name (Shift shift_op.Slli) = refl
one_name (Shift _) = refl
one_name (WordShift word_shift_op.Slliw) = refl
one_name (WordShift _) = refl
one_name SetBoundsImm = refl
one_name (Upper upper_op.Lui) = refl
one_name (Upper _) = refl
one_name (Load load_op.Lb) = refl
one_name (Load _) = refl
one_name (Store store_op.Sb) = refl
one_name (Store _) = refl
one_name Swap = refl
one_name (Branch branch_op.Beq) = refl
one_name (Branch _) = refl
one_name Jump = refl
one_name Invoke = refl
one_name Alone = refl

-- and that names it
pub names_back : (mnemonic : Mnemonic) → mnemonic_of (name_of mnemonic) ≡ Some mnemonic
unfolding mnemonic_of name_of found_at name_among mnemonic_table
names_back (Three three_op.CSetAddr) = refl
names_back (Three _) = refl
names_back (Two two_op.CMove) = refl
names_back (Two _) = refl
names_back (Immediate immediate_op.CIncOffsetImm) = refl
names_back (Immediate _) = refl
names_back (Shift shift_op.Slli) = refl
names_back (Shift _) = refl
names_back (WordShift word_shift_op.Slliw) = refl
names_back (WordShift _) = refl
names_back SetBoundsImm = refl
names_back (Upper upper_op.Lui) = refl
names_back (Upper _) = refl
names_back (Load load_op.Lb) = refl
names_back (Load _) = refl
names_back (Store store_op.Sb) = refl
names_back (Store _) = refl
names_back Swap = refl
names_back (Branch branch_op.Beq) = refl
names_back (Branch _) = refl
names_back Jump = refl
names_back Invoke = refl
names_back Alone = refl
