-- Items at their places: those so far, and those that are left.
use Rattle.std.proofs.Common.{◌≡◌, ℕ, zero, suc, ◌+◌, ◌-◌, ◌<◌, ◌≤◌, List, [], ◌∷◌, length, get_or, drop, set, replicate, refl, arith, add-one, drop-cons}
use Rattle.std.proofs.Math.ListN.{drop_of_length-le}
use Rattle.std.proofs.lemmas.List.{set_past}
use Rattle.asm_instructions.specs.Overwriting.{overwritten}

pub overwritten_step : {A : Type 0} (items after whole : List A) (place index : ℕ) (x d : A) (xs : List A) → index < length xs → x ≡ get_or xs index d
    → after ≡ set items place x → overwritten items place (drop index xs) ≡ whole → overwritten after (place + 1) (drop (index + 1) xs) ≡ whole
unfolding overwritten
overwritten_step items after whole place index x d xs room here put same =
    let next : drop index xs ≡ x ∷ drop (index + 1) xs = rw (here, add-one) (drop-cons xs index d room) in
    rw put (rw next at same)

pub overwritten_end : {A : Type 0} (items whole : List A) (place index : ℕ) (xs : List A) → length xs ≤ index → overwritten items place (drop index xs) ≡ whole → items ≡ whole
unfolding overwritten
overwritten_end items whole place index xs ended same = rw (drop_of_length-le xs ended) at same

-- nothing lies behind the last place
pub overwritten_past : {A : Type 0} (items : List A) (place : ℕ) (xs : List A) → length items ≤ place → overwritten items place xs ≡ items
unfolding overwritten
overwritten_past items place [] past = refl
overwritten_past items place (x ∷ xs) past = rw (set_past items place x past) (overwritten_past items (place + 1) xs (omega (arith, past)))

-- one and the same item, so many times
pub repeated_step : {A : Type 0} (items whole : List A) (place left : ℕ) (x : A) → 0 < left → overwritten items place (replicate left x) ≡ whole
    → overwritten (set items place x) (place + 1) (replicate (left - 1) x) ≡ whole
unfolding overwritten
repeated_step items whole place zero x some same = absurd (omega (arith, some))
repeated_step items whole place (suc left) x some same =
    let less : suc left - 1 ≡ left = omega arith in
    rw less same

pub repeated_end : {A : Type 0} (items whole : List A) (place left : ℕ) (x : A) → left ≤ 0 → overwritten items place (replicate left x) ≡ whole → items ≡ whole
unfolding overwritten
repeated_end items whole place zero x none same = same
repeated_end items whole place (suc left) x none same = absurd (omega (arith, none))
