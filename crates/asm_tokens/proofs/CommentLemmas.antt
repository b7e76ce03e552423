-- Comments, one byte after another.
use Rattle.std.proofs.Common.{◌≡◌, ℕ, ◌+◌, ◌-◌, ◌≤◌, cond, true, false, List, [], ◌∷◌, length, drop, Option, Some, None, refl, sym, ap, ◌∙◌, length-drop, arith}
use Rattle.std.specs.Option.{option_map}
use Rattle.asm_tokens.specs.Lexemes.{comment_end, ends_comment}

-- an end that is so many bytes further on
abbrev pub further_on : ℕ → Option ℕ → Option ℕ
further_on more end = option_map (λ n. more + n) end

comment_step : (rest : List ℕ) → 1 ≤ length rest
    → comment_end rest ≡ cond (ends_comment rest) (Some 0) (option_map (λ n. n + 1) (comment_end (drop 1 rest)))
unfolding comment_end
comment_step [] h = absurd (omega arith)
comment_step (b ∷ text) h = refl

-- it ends here
pub comment_ends : (all : ℕ) (rest : List ℕ) (whole : Option ℕ) → 1 ≤ length rest → ends_comment rest ≡ true
    → further_on (all - length rest) (comment_end rest) ≡ whole → Some (all - length rest) ≡ whole
comment_ends all rest whole some ends h =
    let here : comment_end rest ≡ Some 0 = comment_step rest some ∙ ap (λ test. cond test (Some 0) (option_map (λ n. n + 1) (comment_end (drop 1 rest)))) ends in
    let same : all - length rest ≡ all - length rest + 0 = omega arith in
    ap Some same ∙ ap (further_on (all - length rest)) (sym here) ∙ h

moved_once : (more left : ℕ) (end : Option ℕ) → left ≡ more + 1 → further_on left end ≡ further_on more (option_map (λ n. n + 1) end)
moved_once more left None h = refl
moved_once more left (Some n) h = ap Some (omega arith)

-- it goes on
pub comment_more : (all : ℕ) (rest left : List ℕ) (whole : Option ℕ) → 1 ≤ length rest → length rest ≤ all → left ≡ drop 1 rest → ends_comment rest ≡ false
    → further_on (all - length rest) (comment_end rest) ≡ whole → further_on (all - length left) (comment_end left) ≡ whole
comment_more all rest left whole some fits is ends h =
    let here : comment_end rest ≡ option_map (λ n. n + 1) (comment_end (drop 1 rest)) =
    comment_step rest some ∙ ap (λ test. cond test (Some 0) (option_map (λ n. n + 1) (comment_end (drop 1 rest)))) ends in
    let shorter : length left + 1 ≡ length rest = omega (arith, ap length is, length-drop 1 rest) in
    moved_once (all - length rest) (all - length left) _ (omega arith)
    ∙ ap (λ l. further_on (all - length rest) (option_map (λ n. n + 1) (comment_end l))) is
    ∙ ap (further_on (all - length rest)) (sym here) ∙ h

pub no_comment_end : (all : ℕ) (rest : List ℕ) (whole : Option ℕ) → length rest ≡ 0
    → further_on (all - length rest) (comment_end rest) ≡ whole → None ≡ whole
unfolding comment_end
no_comment_end all [] whole none h = h
no_comment_end all (b ∷ rest) whole none h = absurd (omega arith)
