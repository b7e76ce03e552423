-- Where words begin: bytes that were passed, and then what is left.
use Rattle.std.proofs.Common.{◌≡◌, ℕ, zero, suc, ◌+◌, ◌-◌, ◌<◌, ◌≤◌, ◌==◌, if◌then◌else◌, List, [], ◌∷◌, length, get_or, drop, refl, ap, ◌∙◌, add-one, arith}
use Rattle.std.proofs.Math.Seq.{drop-cons}
use Rattle.std.proofs.lemmas.List.{drop_all}
use Rattle.condition_texts.specs.Words.{word_start}

start_first : (separator : ℕ) (text : List ℕ) → word_start separator 0 text ≡ 0
unfolding word_start
start_first separator [] = refl
start_first separator (b ∷ rest) = refl

-- the word that begins here
pub start_here : (separator left place total : ℕ) (text : List ℕ) → left ≡ 0 → place + word_start separator left (drop place text) ≡ total → place ≡ total
start_here separator left place total text none h =
    let first : word_start separator left (drop place text) ≡ 0 = rw none (start_first separator (drop place text)) in
    omega (arith, first, h)

-- how many words are left after a byte
abbrev pub left_after : ℕ → ℕ → ℕ → ℕ
left_after separator left b = if b == separator then left - 1 else left

start_cons : (separator left b : ℕ) (rest : List ℕ) → 0 < left → word_start separator left (b ∷ rest) ≡ word_start separator (left_after separator left b) rest + 1
unfolding word_start
start_cons separator zero b rest some = absurd (omega arith)
start_cons separator (suc left) b rest some = let back : suc left - 1 ≡ left = omega arith in rw back refl

pub start_next : (separator left place total : ℕ) (text : List ℕ) → 0 < left → place < length text
    → place + word_start separator left (drop place text) ≡ total
    → place + 1 + word_start separator (left_after separator left (get_or text place 0)) (drop (place + 1) text) ≡ total
start_next separator left place total text some room h =
    let b = get_or text place 0 in
    let split : drop place text ≡ b ∷ drop (place + 1) text = rw add-one (drop-cons text place 0 room) in
    let step : word_start separator left (drop place text) ≡ word_start separator (left_after separator left b) (drop (place + 1) text) + 1 =
    ap (word_start separator left) split ∙ start_cons separator left b (drop (place + 1) text) some in
    omega (arith, step, h)

start_nothing : (separator left : ℕ) → word_start separator left [] ≡ 0
unfolding word_start
start_nothing separator left = refl

-- no byte is left
pub start_end : (separator left place total : ℕ) (text : List ℕ) → length text ≤ place → place ≤ length text → place + word_start separator left (drop place text) ≡ total → length text ≡ total
start_end separator left place total text long short h =
    let none : word_start separator left (drop place text) ≡ 0 = ap (word_start separator left) (drop_all place text long) ∙ start_nothing separator left in
    omega (arith, none, h)
