-- A permission set reads back from its names.
use Rattle.std.proofs.Common.{◌≡◌, ℕ, zero, suc, ◌*◌, ◌^◌, ◌<◌, ◌==◌, ◌&&◌, Bool, true, false, not, cond, List, [], ◌∷◌, ◌++◌, Option, Some, None, Ok, fold, min, max, refl, sym, ap, ◌∙◌, subst, arith}
use Rattle.std.specs.Prelude.{codes, bit_and, bit_or, bytes_eq}
use Rattle.std.specs.Int.{bit_at}
use Rattle.std.specs.List.{list_all, slice_split}
use Rattle.std.proofs.lemmas.Bool.Decides.{nat_tests}
use Rattle.std.proofs.lemmas.Slice.Eq.{bytes_eq-Decides}
use Rattle.std.proofs.lemmas.List.{append-nil}
use Rattle.std.proofs.lemmas.List.Splits.{slice_split_at, slice_split_none}
use Rattle.std.proofs.lemmas.Nat.Bits.{bit_at_and, bit_at_or, bit_at-zero, bit_at-lt, and_pow, same_from_bits}
use Rattle.bitflags.specs.Sets.{find_row}
use Rattle.cap_model.specs.declared.perms.Perms.{Perms}
use Rattle.cap_model.specs.words.PermissionNames.{permission_table, all_permissions}
use Rattle.cap_model.specs.values.Capability.{IsPermissionSet}
use Rattle.cap_model.proofs.Results.PermissionSets.{set_drops_nothing}
use Rattle.grammar.specs.Tokens.{is_blank, is_filled}
use Rattle.grammar.specs.Permissions.{permission_named, set_of, with_named, joined_names, permissions_of}
use Rattle.notation.specs.Permissions.{joined_text}
use Rattle.canonical.specs.Canon.{perms_text}
use Rattle.grammar.proofs.PermissionTexts.{first, second}
use Rattle.canonical.proofs.round_trip.Words.{is_open, is_word_byte, IsWord, negated, all_joined, filled_cons}
use Rattle.canonical.proofs.round_trip.Lines.{all_fail}

abbrev Row : Type 0
Row = List ℕ × ℕ

abbrev is_plus : ℕ → Bool
is_plus b = b == 0x2B

is_at : Option ℕ → ℕ → Bool
is_at (Some n) m = n == m
is_at None m = false

-- a row's name is of bytes of a word but `+`, and is found
has_name : Row → Bool
has_name row = list_all (λ b. not (is_plus b)) row.0 && list_all is_word_byte row.0 && is_at (permission_named row.0) row.1

all_named : list_all has_name permission_table ≡ true
unfolding has_name is_at permission_named find_row is_word_byte is_open is_blank
all_named = refl

no_plus : (row : Row) → has_name row ≡ true → list_all (λ b. not (is_plus b)) row.0 ≡ true
unfolding has_name
no_plus row e = first _ _ (first _ _ e)

name_bytes : (row : Row) → has_name row ≡ true → list_all is_word_byte row.0 ≡ true
unfolding has_name
name_bytes row e = second (list_all (λ b. not (is_plus b)) row.0) _ (first _ _ e)

at_some : (o : Option ℕ) (n : ℕ) → is_at o n ≡ true → o ≡ Some n
unfolding is_at
at_some (Some m) n e = let same : m ≡ n = grind (arith, nat_tests) in ap (λ k. Some k) same
at_some None n e = absurd (cc)

named : (row : Row) → has_name row ≡ true → permission_named row.0 ≡ Some row.1
unfolding has_name
named row e = at_some _ row.1 (second (list_all (λ b. not (is_plus b)) row.0 && list_all is_word_byte row.0) _ e)

apart : (word : List ℕ) → list_all (λ b. not (is_plus b)) word ≡ true → slice_split is_plus word ≡ word ∷ []
apart word e = slice_split_none is_plus word (all_fail (λ b. not (is_plus b)) is_plus word (λ b f. negated _ f) e)

module _ (perms : ℕ) where
  -- the names of a set, and its bits, row by row
  names_in : List Row → List (List ℕ)
  names_in [] = []
  names_in (row ∷ rows) = cond (bit_and perms row.1 == row.1) (row.0 ∷ names_in rows) (names_in rows)

  bits_in : ℕ → List Row → ℕ
  bits_in acc [] = acc
  bits_in acc (row ∷ rows) = cond (bit_and perms row.1 == row.1) (bits_in (bit_or acc row.1) rows) (bits_in acc rows)

  -- the parts of the joined names are the names
  parts_step : (test : Bool) (word : List ℕ) (row : Row) (rows : List Row) → (bit_and perms row.1 == row.1) ≡ test → list_all (λ b. not (is_plus b)) word ≡ true
      → slice_split is_plus (row.0 ++ joined_text true perms rows) ≡ row.0 ∷ names_in rows
      → slice_split is_plus (word ++ joined_text true perms rows) ≡ word ∷ names_in rows
      → slice_split is_plus (word ++ joined_text true perms (row ∷ rows)) ≡ word ∷ names_in (row ∷ rows)
  unfolding names_in joined_text
  parts_step true word row rows t e here later =
      rw t (slice_split_at is_plus word 0x2B (row.0 ++ joined_text true perms rows) (all_fail (λ b. not (is_plus b)) is_plus word (λ b f. negated _ f) e) refl ∙ ap (λ parts. word ∷ parts) here)
  parts_step false word row rows t e here later = rw t later

  parts_of : (word : List ℕ) (rows : List Row) → list_all (λ b. not (is_plus b)) word ≡ true → list_all has_name rows ≡ true
      → slice_split is_plus (word ++ joined_text true perms rows) ≡ word ∷ names_in rows
  unfolding names_in joined_text
  parts_of word [] e f = rw append-nil (apart word e)
  parts_of word (row ∷ rows) e f =
      parts_step _ word row rows refl e (parts_of row.0 rows (no_plus row (first _ _ f)) (second (has_name row) _ f)) (parts_of word rows e (second (has_name row) _ f))

  whole_step : (test : Bool) (row : Row) (rows : List Row) (name : List ℕ) (names : List (List ℕ)) → (bit_and perms row.1 == row.1) ≡ test → has_name row ≡ true → list_all has_name rows ≡ true
      → (names_in rows ≡ name ∷ names → slice_split is_plus (joined_text false perms rows) ≡ name ∷ names)
      → names_in (row ∷ rows) ≡ name ∷ names → slice_split is_plus (joined_text false perms (row ∷ rows)) ≡ name ∷ names
  unfolding names_in joined_text
  whole_step true row rows name names t e f later h =
      let here = rw t at h in rw t (parts_of row.0 rows (no_plus row e) f ∙ here)
  whole_step false row rows name names t e f later h = let here = rw t at h in rw t (later here)

  whole_parts : (rows : List Row) (name : List ℕ) (names : List (List ℕ)) → list_all has_name rows ≡ true → names_in rows ≡ name ∷ names → slice_split is_plus (joined_text false perms rows) ≡ name ∷ names
  unfolding names_in
  whole_parts [] name names e h = absurd (cc)
  whole_parts (row ∷ rows) name names e h =
      whole_step _ row rows name names refl (first _ _ e) (second (has_name row) _ e) (whole_parts rows name names (second (has_name row) _ e)) h

  -- reading the names one after another gives their bits
  with_one : (acc : ℕ) (row : Row) → has_name row ≡ true → with_named (Some (set_of acc)) row.0 ≡ Some (set_of (bit_or acc row.1))
  unfolding with_named
  with_one acc row e = rw (named row e) refl

  fold_step : (test : Bool) (acc : ℕ) (row : Row) (rows : List Row) → (bit_and perms row.1 == row.1) ≡ test → has_name row ≡ true
      → fold with_named (Some (set_of (bit_or acc row.1))) (names_in rows) ≡ Some (set_of (bits_in (bit_or acc row.1) rows))
      → fold with_named (Some (set_of acc)) (names_in rows) ≡ Some (set_of (bits_in acc rows))
      → fold with_named (Some (set_of acc)) (names_in (row ∷ rows)) ≡ Some (set_of (bits_in acc (row ∷ rows)))
  unfolding names_in bits_in
  fold_step true acc row rows t e taken skipped = rw t (ap (λ set. fold with_named set (names_in rows)) (with_one acc row e) ∙ taken)
  fold_step false acc row rows t e taken skipped = rw t skipped

  fold_names : (acc : ℕ) (rows : List Row) → list_all has_name rows ≡ true → fold with_named (Some (set_of acc)) (names_in rows) ≡ Some (set_of (bits_in acc rows))
  unfolding names_in bits_in
  fold_names acc [] e = refl
  fold_names acc (row ∷ rows) e =
      fold_step _ acc row rows refl (first _ _ e) (fold_names (bit_or acc row.1) rows (second (has_name row) _ e)) (fold_names acc rows (second (has_name row) _ e))

-- the bits of all rows
union : List Row → ℕ
union [] = 0
union (row ∷ rows) = bit_or row.1 (union rows)

or_zero : (a : ℕ) → bit_or a 0 ≡ a
or_zero a = same_from_bits (bit_or a 0) a (λ i. (let e : bit_at (bit_or a 0) i ≡ max (bit_at a i) (bit_at 0 i) = bit_at_or a 0 i in let z : bit_at 0 i ≡ 0 = bit_at-zero i in omega arith))

and_zero : (a : ℕ) → bit_and a 0 ≡ 0
and_zero a = same_from_bits (bit_and a 0) 0 (λ i. (let e : bit_at (bit_and a 0) i ≡ min (bit_at a i) (bit_at 0 i) = bit_at_and a 0 i in let z : bit_at 0 i ≡ 0 = bit_at-zero i in omega arith))

-- a bit that is taken, and one that is left out
taken_or_none : (acc perms bit rest : ℕ) (taken : ℕ) → bit_and perms bit ≡ taken → bit_or (bit_or acc taken) (bit_and perms rest) ≡ bit_or acc (bit_and perms (bit_or bit rest))
taken_or_none acc perms bit rest taken e = same_from_bits _ _ (λ i. at i)
  where
    at : (i : ℕ) → bit_at (bit_or (bit_or acc taken) (bit_and perms rest)) i ≡ bit_at (bit_or acc (bit_and perms (bit_or bit rest))) i
    at i =
        let t : bit_at taken i ≡ min (bit_at perms i) (bit_at bit i) = ap (λ n. bit_at n i) (sym e) ∙ bit_at_and perms bit i in
        let left : bit_at (bit_or (bit_or acc taken) (bit_and perms rest)) i ≡ max (bit_at (bit_or acc taken) i) (bit_at (bit_and perms rest) i) = bit_at_or _ _ i in
        let left_acc : bit_at (bit_or acc taken) i ≡ max (bit_at acc i) (bit_at taken i) = bit_at_or acc taken i in
        let left_rest : bit_at (bit_and perms rest) i ≡ min (bit_at perms i) (bit_at rest i) = bit_at_and perms rest i in
        let right : bit_at (bit_or acc (bit_and perms (bit_or bit rest))) i ≡ max (bit_at acc i) (bit_at (bit_and perms (bit_or bit rest)) i) = bit_at_or _ _ i in
        let right_and : bit_at (bit_and perms (bit_or bit rest)) i ≡ min (bit_at perms i) (bit_at (bit_or bit rest) i) = bit_at_and perms (bit_or bit rest) i in
        let right_or : bit_at (bit_or bit rest) i ≡ max (bit_at bit i) (bit_at rest i) = bit_at_or bit rest i in
        omega arith

abbrev AreBits : List Row → Type 0
AreBits [] = Unit {0}
AreBits (row ∷ rows) = ((k : ℕ) × (row.1 ≡ 2 ^ k)) × AreBits rows

single_none : (perms k : ℕ) → (bit_and perms (2 ^ k) == 2 ^ k) ≡ false → bit_and perms (2 ^ k) ≡ 0
single_none perms k e = where_bit (bit_at perms k) (2 ^ k) (bit_and perms (2 ^ k)) (bit_at-lt perms k) (and_pow perms k) e
  where
    where_bit : (b p n : ℕ) → b < 2 → n ≡ b * p → (n == p) ≡ false → n ≡ 0
    where_bit zero p n h e f = e ∙ omega arith
    where_bit (suc zero) p n h e f = absurd (let same : n ≡ p = e ∙ omega arith in grind (arith, nat_tests))
    where_bit (suc (suc b)) p n h e f = absurd (omega arith)

bits_step : (test : Bool) (perms acc : ℕ) (row : Row) (rows : List Row) (k : ℕ) → row.1 ≡ 2 ^ k → (bit_and perms row.1 == row.1) ≡ test
    → bits_in perms (bit_or acc row.1) rows ≡ bit_or (bit_or acc row.1) (bit_and perms (union rows))
    → bits_in perms acc rows ≡ bit_or acc (bit_and perms (union rows))
    → bits_in perms acc (row ∷ rows) ≡ bit_or acc (bit_and perms (union (row ∷ rows)))
unfolding bits_in union
bits_step true perms acc row rows k p t here later =
    let same : bit_and perms row.1 ≡ row.1 = grind (arith, nat_tests) in
    rw t (here ∙ taken_or_none acc perms row.1 (union rows) row.1 same)
bits_step false perms acc row rows k p t here later =
    let none : bit_and perms row.1 ≡ 0 = ap (bit_and perms) p ∙ single_none perms k (subst (λ n. (bit_and perms n == n) ≡ false) p t) in
    rw t (later ∙ ap (λ a. bit_or a (bit_and perms (union rows))) (sym (or_zero acc)) ∙ taken_or_none acc perms row.1 (union rows) 0 none)

bits_are : (perms acc : ℕ) (rows : List Row) → AreBits rows → bits_in perms acc rows ≡ bit_or acc (bit_and perms (union rows))
unfolding bits_in union
bits_are perms acc [] h = sym (ap (bit_or acc) (and_zero perms) ∙ or_zero acc)
bits_are perms acc (row ∷ rows) h =
    bits_step _ perms acc row rows h.0.0 h.0.1 refl (bits_are perms (bit_or acc row.1) rows h.1) (bits_are perms acc rows h.1)

table_bits : AreBits permission_table
table_bits = ((0, refl), ((1, refl), ((2, refl), ((3, refl), ((4, refl), ((5, refl), ((6, refl), ((7, refl), ((8, refl), ((9, refl), ((10, refl), ((11, refl), ((15, refl), ((16, refl), ((17, refl), ((18, refl), tt))))))))))))))))

table_union : union permission_table ≡ all_permissions
unfolding union
table_union = refl

all_bits : (perms : ℕ) → IsPermissionSet perms → bits_in perms 0 permission_table ≡ perms
all_bits perms h =
    bits_are perms 0 permission_table table_bits ∙ ap (λ u. bit_or 0 (bit_and perms u)) table_union ∙ ap (bit_or 0) (set_drops_nothing perms h) ∙ zero_or perms
  where
    zero_or : (a : ℕ) → bit_or 0 a ≡ a
    zero_or a = same_from_bits (bit_or 0 a) a (λ i. (let e : bit_at (bit_or 0 a) i ≡ max (bit_at 0 i) (bit_at a i) = bit_at_or 0 a i in let z : bit_at 0 i ≡ 0 = bit_at-zero i in omega arith))

-- a set that is not empty reads back from its joined names
number : Option Perms → ℕ
number (Some perms) = perms.0
number None = 0

module _ (perms : ℕ) (known : IsPermissionSet perms) (some : perms ≡ 0 → ⊥) where
  abbrev token : List ℕ
  token = joined_text false perms permission_table

  read_as_names : (names : List (List ℕ)) → names_in perms permission_table ≡ names → fold with_named (Some (set_of 0)) (joined_names token) ≡ Some (set_of perms)
  unfolding number
  read_as_names [] e =
      let none : Some (set_of 0) ≡ Some (set_of (bits_in perms 0 permission_table)) = rw e at (fold_names perms 0 permission_table all_named) in
      let zero_bits : 0 ≡ bits_in perms 0 permission_table = ap number none in
      absurd (some (sym (zero_bits ∙ all_bits perms known)))
  read_as_names (name ∷ names) e =
      ap (fold with_named (Some (set_of 0))) (whole_parts perms permission_table name names all_named e ∙ sym e)
      ∙ fold_names perms 0 permission_table all_named ∙ ap (λ b. Some (set_of b)) (all_bits perms known)

  reads : fold with_named (Some (set_of 0)) (joined_names token) ≡ Some (set_of perms)
  reads = read_as_names _ refl

-- what reads as names is neither of two words that do not
other_word : (word text : List ℕ) (perms : Perms) (test : Bool) → bytes_eq word text ≡ test → fold with_named (Some (set_of 0)) (joined_names word) ≡ Some perms
    → fold with_named (Some (set_of 0)) (joined_names text) ≡ None → test ≡ false
other_word word text perms false t e f = refl
other_word word text perms true t e f =
    let same : word ≡ text = (bytes_eq-Decides word text).0 t in
    absurd (let clash : Some perms ≡ None = sym e ∙ ap (λ w. fold with_named (Some (set_of 0)) (joined_names w)) same ∙ f in cc)

no_all : fold with_named (Some (set_of 0)) (joined_names (codes "all")) ≡ None
unfolding with_named permission_named find_row
no_all = refl

no_none : fold with_named (Some (set_of 0)) (joined_names (codes "none")) ≡ None
unfolding with_named permission_named find_row
no_none = refl

no_empty : fold with_named (Some (set_of 0)) (joined_names []) ≡ None
unfolding with_named permission_named find_row
no_empty = refl

names_read : (word : List ℕ) (perms : Perms) → fold with_named (Some (set_of 0)) (joined_names word) ≡ Some perms → permissions_of word ≡ Ok perms
unfolding permissions_of
names_read word perms e =
    rw (other_word word (codes "all") perms _ refl e no_all, other_word word (codes "none") perms _ refl e no_none, e) refl

bytes_step : (test begun : Bool) (perms : ℕ) (row : Row) (rows : List Row) → (bit_and perms row.1 == row.1) ≡ test → has_name row ≡ true
    → list_all is_word_byte (joined_text true perms rows) ≡ true → list_all is_word_byte (joined_text begun perms rows) ≡ true
    → list_all is_word_byte (joined_text begun perms (row ∷ rows)) ≡ true
unfolding joined_text is_word_byte is_open is_blank
bytes_step true true perms row rows t e more skipped = rw t (all_joined is_word_byte row.0 (joined_text true perms rows) (name_bytes row e) more)
bytes_step true false perms row rows t e more skipped = rw t (all_joined is_word_byte row.0 (joined_text true perms rows) (name_bytes row e) more)
bytes_step false begun perms row rows t e more skipped = rw t skipped

joined_bytes : (begun : Bool) (perms : ℕ) (rows : List Row) → list_all has_name rows ≡ true → list_all is_word_byte (joined_text begun perms rows) ≡ true
unfolding joined_text
joined_bytes begun perms [] e = refl
joined_bytes begun perms (row ∷ rows) e =
    bytes_step _ begun perms row rows refl (first _ _ e) (joined_bytes true perms rows (second (has_name row) _ e)) (joined_bytes begun perms rows (second (has_name row) _ e))

filled_names : (word : List ℕ) (perms : Perms) → fold with_named (Some (set_of 0)) (joined_names word) ≡ Some perms → is_filled word ≡ true
filled_names [] perms e = absurd (let clash : Some perms ≡ None = sym e ∙ no_empty in cc)
filled_names (b ∷ word) perms e = filled_cons b word

-- a permission set's text
set_step : (all none : Bool) (perms : ℕ) → IsPermissionSet perms → (perms == all_permissions) ≡ all → (perms == 0) ≡ none → permissions_of (perms_text perms) ≡ Ok (set_of perms)
unfolding perms_text permissions_of
set_step true none perms h a n = let same : perms ≡ all_permissions = grind (arith, nat_tests) in rw a (ap (λ p. Ok (set_of p)) (sym same))
set_step false true perms h a n = let same : perms ≡ 0 = grind (arith, nat_tests) in rw (a, n) (ap (λ p. Ok (set_of p)) (sym same))
set_step false false perms h a n =
    let some : perms ≡ 0 → ⊥ = λ e. absurd (let t : (perms == 0) ≡ true = grind (arith, nat_tests) in cc) in
    rw (a, n) (names_read (joined_text false perms permission_table) (set_of perms) (reads perms h some))

pub perms_read : (perms : ℕ) → IsPermissionSet perms → permissions_of (perms_text perms) ≡ Ok (set_of perms)
perms_read perms h = set_step _ _ perms h refl refl

word_step : (all none : Bool) (perms : ℕ) → IsPermissionSet perms → (perms == all_permissions) ≡ all → (perms == 0) ≡ none → IsWord (perms_text perms)
unfolding perms_text is_word_byte is_open is_blank
word_step true none perms h a n = rw a (record { filled = refl; bytes = refl })
word_step false true perms h a n = rw (a, n) (record { filled = refl; bytes = refl })
word_step false false perms h a n =
    let some : perms ≡ 0 → ⊥ = λ e. absurd (let t : (perms == 0) ≡ true = grind (arith, nat_tests) in cc) in
    rw (a, n) (record { filled = filled_names _ (set_of perms) (reads perms h some); bytes = joined_bytes false perms permission_table all_named })

pub perms_word : (perms : ℕ) → IsPermissionSet perms → IsWord (perms_text perms)
perms_word perms h = word_step _ _ perms h refl refl
