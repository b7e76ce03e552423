-- Where a comment begins, and what stands before it.
use Rattle.std.proofs.Common.{◌≡◌, ℕ, ◌≤◌, Bool, true, false, cond, not, nat_lt, List, [], length, take, drop, Some, None, refl, ap, position, fold, ◌&&◌, ◌∷◌, arith}
use Rattle.std.specs.List.{position_or_len, before_first, list_all}
use Rattle.std.proofs.Math.ListN.{drop_of_length-le}
use Rattle.std.proofs.lemmas.Bool.Decides.{nat_tests}
use Rattle.std.proofs.lemmas.List.{take_all}
use Rattle.grammar.specs.Lines.{is_plain}
use Rattle.grammar.specs.Tokens.{is_blank, ends_token, after_blanks, before_end}

pub found_at : (test : Bool) (at end : ℕ) → cond test (Some at) None ≡ Some end → at ≡ end
found_at true at end e = cc
found_at false at end e = absurd (cc)

pub not_found : (test : Bool) (at : ℕ) → cond test (Some at) None ≡ None → test ≡ false
not_found true at e = absurd (cc)
not_found false at e = refl

-- what is before the first byte that passes a test, and what is from there on
module _ (p : ℕ → Bool) (line : List ℕ) where
  pub before_first_some : (end : ℕ) → position p line ≡ Some end → before_first p line ≡ take end line
  before_first_some end e = ap (λ at. take at line) (found_at _ _ end e)

  pub from_first_some : (start : ℕ) → position p line ≡ Some start → drop (position_or_len p line) line ≡ drop start line
  from_first_some start e = ap (λ at. drop at line) (found_at _ _ start e)

  all_before : position p line ≡ None → length line ≤ position_or_len p line
  all_before e =
      let f : nat_lt (position_or_len p line) (length line) ≡ false = not_found _ (position_or_len p line) e in
      grind (arith, nat_tests)

  pub before_first_none : position p line ≡ None → before_first p line ≡ line
  before_first_none e = take_all (position_or_len p line) line (all_before e)

  pub from_first_none : position p line ≡ None → drop (position_or_len p line) line ≡ []
  from_first_none e = drop_of_length-le line (all_before e)

-- a byte that is not plain makes its line not plain
plain_from : (plain : Bool) (line : List ℕ) → fold (λ (some : Bool) b. some && is_plain b) plain line ≡ (plain && list_all is_plain line)
plain_from true [] = refl
plain_from false [] = refl
plain_from true (b ∷ line) = plain_from (is_plain b) line
plain_from false (b ∷ line) = plain_from false line

pub each_plain : (line : List ℕ) → fold (λ (plain : Bool) b. plain && is_plain b) true line ≡ list_all is_plain line
each_plain line = plain_from true line

-- where the first token begins, and where it ends
pub after_blanks_some : (line : List ℕ) (start : ℕ) → position (λ b. not (is_blank b)) line ≡ Some start → after_blanks line ≡ drop start line
after_blanks_some line start e = from_first_some (λ b. not (is_blank b)) line start e

pub after_blanks_none : (line : List ℕ) → position (λ b. not (is_blank b)) line ≡ None → after_blanks line ≡ []
after_blanks_none line e = from_first_none (λ b. not (is_blank b)) line e

pub before_end_some : (line : List ℕ) (end : ℕ) → position ends_token line ≡ Some end → before_end line ≡ take end line
before_end_some line end e = before_first_some ends_token line end e

pub before_end_none : (line : List ℕ) → position ends_token line ≡ None → before_end line ≡ line
before_end_none line e = before_first_none ends_token line e
