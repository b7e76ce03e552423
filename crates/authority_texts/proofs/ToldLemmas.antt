-- Rights with their orders, one more at a time.
use Rattle.std.proofs.Common.{◌≡◌, ℕ, zero, suc, ◌+◌, ◌<◌, ◌≤◌, List, [], ◌∷◌, ◌++◌, length, drop, take, drop-cons, add-one, arith, append_assoc, append-nil, subst, sym}
use Rattle.std.proofs.lemmas.List.{take_more}
use Rattle.std.proofs.Math.ListN.{drop_of_length-le}
use Rattle.authority_texts.specs.AuthorityTexts.{rights_line, rights_lines}
use Rattle.std.specs.Prelude.{slice_index_or, Vec}
use Rattle.std.specs.Global.{Global}
use Rattle.authorities.specs.declared.rights.Authority.{Authority}
use Rattle.authority_texts.specs.declared.told.Told.{Told}
use Rattle.authority_texts.specs.Told.{AreKnown, AreAllKnown, AreTold, AreAllTold, IsTold}
use Rattle.states.specs.Kept.{KeptParts}

-- the state of one of the list is kept
pub known_at : (n : ℕ) (xs : List Authority) (i : ℕ) (d : Authority) → AreKnown n xs → i < length xs
    → (slice_index_or xs i d).first < n
known_at n [] i d known within = omega arith
known_at n (a ∷ xs) zero d known within = known.0
known_at n (a ∷ xs) (suc i) d known within = known_at n xs i d known.1 (omega arith)

nothing : (i : ℕ) → i < 0 → ⊥
nothing i within = omega arith

pub all_known_at : (n : ℕ) (xs : List (Vec Authority Global)) (i : ℕ) (d : Vec Authority Global) → AreAllKnown n xs
    → i < length xs → AreKnown n (slice_index_or xs i d).items
all_known_at n [] i d known within = absurd (nothing i within)
all_known_at n (a ∷ xs) zero d known within = known.0
all_known_at n (a ∷ xs) (suc i) d known within = all_known_at n xs i d known.1 (omega arith)

-- one more was told
pub told_more : (kept : KeptParts) (xs : List Authority) (ts : List Told) (a : Authority) (t : Told)
    → AreTold kept xs ts → IsTold kept a t → AreTold kept (xs ++ a ∷ []) (ts ++ t ∷ [])
told_more kept [] [] a t are is = (is, tt)
told_more kept [] (y ∷ ts) a t are is = absurd are
told_more kept (x ∷ xs) [] a t are is = absurd are
told_more kept (x ∷ xs) (y ∷ ts) a t are is = (are.0, told_more kept xs ts a t are.1 is)

pub all_told_more : (kept : KeptParts) (xs : List (Vec Authority Global)) (ts : List (Vec Told Global))
    (a : Vec Authority Global) (t : Vec Told Global) → AreAllTold kept xs ts → AreTold kept a.items t.items
    → AreAllTold kept (xs ++ a ∷ []) (ts ++ t ∷ [])
all_told_more kept [] [] a t are is = (is, tt)
all_told_more kept [] (y ∷ ts) a t are is = absurd are
all_told_more kept (x ∷ xs) [] a t are is = absurd are
all_told_more kept (x ∷ xs) (y ∷ ts) a t are is = (are.0, all_told_more kept xs ts a t are.1 is)

pub ruleset told = (known_at, all_known_at, told_more, all_told_more)

-- the line of one more was written
pub line_written : (list : List Told) (i : ℕ) (d t : Told) (before after all : List ℕ) → i < length list → t ≡ slice_index_or list i d
    → after ≡ before ++ rights_line t → before ++ rights_lines (drop i list) ≡ all
    → after ++ rights_lines (drop (i + 1) list) ≡ all
unfolding rights_lines
line_written list i d t before after all within is written whole =
    let here : drop i list ≡ slice_index_or list i d ∷ drop (i + 1) list = rw add-one (drop-cons list i d within) in
    rw (written, is, append_assoc) (rw here at whole)

pub lines_end : (list : List Told) (i : ℕ) (before all : List ℕ) → length list ≤ i → before ++ rights_lines (drop i list) ≡ all
    → before ≡ all
unfolding rights_lines
lines_end list i before all past whole =
    let none : drop i list ≡ [] = drop_of_length-le list past in
    rw append-nil at (rw none at whole)

-- the same of the one at a place
pub told_step : (kept : KeptParts) (list : List Authority) (i : ℕ) (d : Authority) (ts new : List Told) (t : Told) → i < length list
    → new ≡ ts ++ t ∷ [] → AreTold kept (take i list) ts → IsTold kept (slice_index_or list i d) t → AreTold kept (take (i + 1) list) new
told_step kept list i d ts new t within pushed are is =
    subst (λ (xs : List Authority). AreTold kept xs new) (sym (take_more list i d within))
    (subst (λ (us : List Told). AreTold kept (take i list ++ slice_index_or list i d ∷ []) us) (sym pushed)
    (told_more kept (take i list) ts (slice_index_or list i d) t are is))
