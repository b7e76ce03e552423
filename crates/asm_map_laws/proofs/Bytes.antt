-- Texts parted at marks that their first parts lack, and texts that differ.
use Rattle.std.proofs.Common.{◌≡◌, ℕ, ◌+◌, ◌==◌, ◌&&◌, nat_lt, Bool, true, false, List, [], ◌∷◌, ◌++◌, length, get_or, take, drop, Some, refl, sym, ap, ◌∙◌, subst, arith}
use Rattle.std.specs.Prelude.{not, bytes_eq}
use Rattle.std.specs.List.{All, list_all, position_or_len}
use Rattle.std.proofs.lemmas.Bool.Decides.{nat_tests}
use Rattle.std.proofs.lemmas.List.Elements.{All-cons, All-nil, All-append}
use Rattle.std.proofs.lemmas.List.Sums.{position_or_len_is}
use lib.ListN.{length-append, get_or-append}
use lib.Seq.{get_or-append_seam, take-append_seam, drop-append-add}
use Rattle.std.proofs.lemmas.Slice.Eq.{bytes_eq-Decides}
use Rattle.text_parts.specs.Parts.{parted}

-- a text has no such byte
abbrev pub Lacks : ℕ → List ℕ → Type 0
Lacks m text = All (λ b. (b == m) ≡ false) text

same_byte : (b m : ℕ) → (b == m) ≡ true → b ≡ m
same_byte b m e = grind (arith, nat_tests)

pub itself : (m : ℕ) → (m == m) ≡ true
itself m = grind (arith, nat_tests)

-- a byte of which something is so that is not so of the mark
pub byte_lacks : (P : ℕ → Type 0) (m b : ℕ) → (P m → ⊥) → P b → (b == m) ≡ false
byte_lacks P m b never so = by (b == m) refl
  where
    by : (t : Bool) → (b == m) ≡ t → t ≡ false
    by true e = absurd (never (subst P (same_byte b m e) so))
    by false e = refl

pub first_of_both : (p q : Bool) → (p && q) ≡ true → p ≡ true
first_of_both true q e = refl
first_of_both false q e = e

pub second_of_both : (p q : Bool) → (p && q) ≡ true → q ≡ true
second_of_both true q e = e
second_of_both false q e = let never : false ≡ true = e in absurd (cc)

pub both_of : (p q : Bool) → p ≡ true → q ≡ true → (p && q) ≡ true
both_of true q e f = f
both_of false q e f = e

pub not_second : (p q : Bool) → q ≡ false → (p && q) ≡ false
not_second true q e = e
not_second false q e = refl

-- by a test that passes for each of its bytes, and not for the mark
pub lacks_where : (test : ℕ → Bool) (m : ℕ) (text : List ℕ) → test m ≡ false → list_all test text ≡ true → Lacks m text
lacks_where test m [] never all = All-nil (λ b. (b == m) ≡ false)
lacks_where test m (b ∷ text) never all =
    All-cons (λ b. (b == m) ≡ false) b text
    (byte_lacks (λ c. test c ≡ true) m b (λ yes. let both : true ≡ false = sym yes ∙ never in absurd (cc)) (first_of_both (test b) (list_all test text) all))
    (lacks_where test m text never (second_of_both (test b) (list_all test text) all))

-- a text of bytes that are known
pub lacks_plainly : (m : ℕ) (text : List ℕ) → list_all (λ b. not (b == m)) text ≡ true → Lacks m text
lacks_plainly m text all = lacks_where (λ b. not (b == m)) m text (ap not (itself m)) all

pub lacks_both : (m : ℕ) (first later : List ℕ) → Lacks m first → Lacks m later → Lacks m (first ++ later)
lacks_both m first later a b = All-append (λ c. (c == m) ≡ false) first later a b

-- ---- a text parted at its first mark

place_is : (m : ℕ) (first later : List ℕ) → Lacks m first → position_or_len (λ b. b == m) (first ++ m ∷ later) ≡ length first
place_is m first later lacks =
    position_or_len_is (λ b. b == m) (first ++ m ∷ later) (length first) 0 (omega (arith, length-append first (m ∷ later)))
    (λ k low. rw (get_or-append first (m ∷ later) 0 k low) (lacks k 0 low))
    (λ low. rw (get_or-append_seam first m later 0) (itself m))

pub parted_at : (m : ℕ) (first later : List ℕ) → Lacks m first → parted m (first ++ m ∷ later) ≡ Some (first, later)
unfolding parted
parted_at m first later lacks =
    let place = place_is m first later lacks in
    let within : nat_lt (length first) (length (first ++ m ∷ later)) ≡ true = grind (arith, nat_tests, length-append first (m ∷ later)) in
    let front : take (length first) (first ++ m ∷ later) ≡ first = take-append_seam first (m ∷ later) in
    let back : drop (length first + 1) (first ++ m ∷ later) ≡ later = drop-append-add first (m ∷ later) 1 in
    rw (place, within, front, back) refl

-- ---- texts that differ

pub unequal : (first later : List ℕ) → (first ≡ later → ⊥) → bytes_eq first later ≡ false
unequal first later never = by (bytes_eq first later) refl
  where
    by : (t : Bool) → bytes_eq first later ≡ t → t ≡ false
    by true e = absurd (never ((bytes_eq-Decides first later).0 e))
    by false e = refl

-- by their first byte
pub other_head : (first later : List ℕ) → (get_or first 0 0 ≡ get_or later 0 0 → ⊥) → bytes_eq first later ≡ false
other_head first later never = unequal first later (λ same. never (ap (λ (l : List ℕ). get_or l 0 0) same))

-- by how many they are
pub other_length : (first later : List ℕ) → (length first ≡ length later → ⊥) → bytes_eq first later ≡ false
other_length first later never = unequal first later (λ same. never (ap (λ (l : List ℕ). length l) same))

pub same_text : (text : List ℕ) → bytes_eq text text ≡ true
same_text text = (bytes_eq-Decides text text).1 refl
