use Rattle.std.proofs.Common.{◌≡◌, ◌==◌, ℕ, List, [], ◌∷◌, ◌++◌, length, false, rules, tests, arith, refl}
use Rattle.sample_merges.proofs.LineLemmas.{lines_none, lines_ended, lines_open}
use Rattle.sample_merges.proofs.lines.slice_lines.Goals as goal

none_left : (xs : List ℕ) → length xs ≡ 0 → xs ≡ []
none_left [] e = refl
none_left (x ∷ xs) e = absurd (omega arith)

pub returns-in_default : goal.returns-in_default
returns-in_default c =
    let none : length c.args.text.now ≡ 0 = search rules in
    let is = none_left c.args.text.now none in
    rw (c.new.ensures.items, is, lines_none) refl

pub returns-then-last-eq10 : goal.returns-then-last-eq10
returns-then-last-eq10 c =
    let parts : c.args.text.now ≡ c.in-Some.before.now ++ c.in-Some.last.now ∷ [] = search rules in
    let ten : c.in-Some.last.now ≡ 10 = search (rules, tests) in
    rw (parts, ten, lines_ended c.in-Some.before.now) c.newline_parts.ensures

pub returns-else-last-eq10 : goal.returns-else-last-eq10
returns-else-last-eq10 c =
    let parts : c.args.text.now ≡ c.in-Some.before.now ++ c.in-Some.last.now ∷ [] = search rules in
    let other : (c.in-Some.last.now == 10) ≡ false = search (rules, tests) in
    rw (parts, lines_open c.in-Some.before.now c.in-Some.last.now other)
    (rw parts at c.newline_parts-else-last-eq10.ensures)
