-- The labels of a listing, one line after another.
use Rattle.std.proofs.Common.{◌≡◌, ℕ, ◌+◌, ◌≤◌, ◌==◌, Bool, true, false, cond, List, [], ◌∷◌, ◌++◌, length, drop, Option, Some, None, refl, sym, subst, ap, ◌∙◌, arith}
use Rattle.std.specs.Prelude.{bytes_eq, count_by, is_some}
use Rattle.std.proofs.Math.ListN.{drop_of_length-le}
use Rattle.std.proofs.lemmas.List.Splits.{length-slice_split}
use Rattle.std.proofs.lemmas.List.Sums.{count_by-le-length}
use Rattle.std.proofs.lemmas.Slice.Eq.{bytes_eq-Decides}
use Rattle.grammar.specs.declared.labels.LabelLine.{LabelLine}
use Rattle.grammar.specs.Tokens.{tokens_of, token_at}
use Rattle.cheri_model.specs.instructions.Tables.{found_at}
use Rattle.cheri_model.specs.instructions.Names.{is_instruction}
use Rattle.grammar.specs.Lines.{lines_of}
use Rattle.grammar.specs.declared.labels.Labels.{Labels}
use Rattle.grammar.specs.Labels.{is_label_token, label_name, labels_from, label_of, count_of, instruction_lines, label_in, labels_of}
use Rattle.grammar.specs.LabelMap.{named_in, first_line, label_parts}

first_or_none : (o : Option LabelLine) → o ≡ first_line o None
first_or_none (Some place) = refl
first_or_none None = refl

-- what a map has at each name after one more is put in that it did not have, or where it had that one
pub put_in : (old : List ℕ → Option LabelLine) (name q : List ℕ) (place : LabelLine) (same : Bool) → bytes_eq name q ≡ same → old name ≡ None → cond same (Some place) (old q) ≡ first_line (old q) (cond same (Some place) None)
put_in old name q place true e none =
    let missing : old q ≡ None = subst (λ n. old n ≡ None) ((bytes_eq-Decides name q).0 e) none in
    sym (ap (λ o. first_line o (Some place)) missing)
put_in old name q place false e none = first_or_none (old q)

had : (o : Option LabelLine) (place there : LabelLine) → o ≡ Some there → o ≡ first_line o (Some place)
had (Some p) place there e = refl
had None place there e = absurd (cc)

pub kept_in : (old : List ℕ → Option LabelLine) (name q : List ℕ) (place there : LabelLine) (same : Bool) → bytes_eq name q ≡ same → old name ≡ Some there → old q ≡ first_line (old q) (cond same (Some place) None)
kept_in old name q place there true e some = had (old q) place there (subst (λ n. old n ≡ Some there) ((bytes_eq-Decides name q).0 e) some)
kept_in old name q place there false e some = first_or_none (old q)

-- where a look-up fails there is nothing
pub none_where : (o : Option LabelLine) → is_some o ≡ false → o ≡ None
none_where (Some place) e = absurd (cc)
none_where None e = refl

-- what a line of this first token defines
module _ (o : Option LabelLine) (token q : List ℕ) (place : LabelLine) where
  pub instruction_defines : is_instruction token ≡ true → o ≡ first_line o (found_at (label_of token place) q)
  unfolding label_of found_at
  instruction_defines e = rw e (first_or_none o)

  pub other_defines : is_instruction token ≡ false → is_label_token token ≡ false → o ≡ first_line o (found_at (label_of token place) q)
  unfolding label_of found_at
  other_defines e f = rw (e, f) (first_or_none o)

  pub label_defines : (new : Option LabelLine) → is_instruction token ≡ false → is_label_token token ≡ true
      → new ≡ first_line o (cond (bytes_eq (label_name token) q) (Some place) None) → new ≡ first_line o (found_at (label_of token place) q)
  unfolding label_of found_at
  label_defines new e f h = rw (e, f) h

-- what it counts
pub counts_one : (token : List ℕ) → is_instruction token ≡ true → 1 ≡ count_of token
unfolding count_of
counts_one token e = rw e refl

pub counts_none : (token : List ℕ) → is_instruction token ≡ false → 0 ≡ count_of token
unfolding count_of
counts_none token e = rw e refl

regrouped : (o p q : Option LabelLine) → first_line (first_line o p) q ≡ first_line o (first_line p q)
regrouped (Some place) p q = refl
regrouped None p q = refl

found_in_either : (same : Bool) (place : LabelLine) (rest more : Option LabelLine) → first_line (cond same (Some place) rest) more ≡ cond same (Some place) (first_line rest more)
found_in_either true place rest more = refl
found_in_either false place rest more = refl

-- a look-up in one table after another
pub found-append : (xs ys : List (List ℕ × LabelLine)) (q : List ℕ) → found_at (xs ++ ys) q ≡ first_line (found_at xs q) (found_at ys q)
unfolding found_at
found-append [] ys q = refl
found-append (x ∷ xs) ys q =
    ap (λ rest. cond (bytes_eq x.0 q) (Some x.1) rest) (found-append xs ys q)
    ∙ sym (found_in_either (bytes_eq x.0 q) x.1 (found_at xs q) (found_at ys q))

-- what a line defines, and then the lines after it
pub label_first : (new old whole : Option LabelLine) (number instructions : ℕ) (line q : List ℕ) (rest : List (List ℕ))
    → new ≡ first_line old (found_at (label_of (token_at (tokens_of line) 0) (record { line = number; instructions = instructions })) q)
    → first_line old (found_at (labels_from number instructions (line ∷ rest)) q) ≡ whole
    → first_line new (found_at (labels_from (number + 1) (instructions + count_of (token_at (tokens_of line) 0)) rest) q) ≡ whole
unfolding labels_from
label_first new old whole number instructions line q rest e h =
    let token = token_at (tokens_of line) 0 in
    let here = label_of token (record { line = number; instructions = instructions }) in
    let later = labels_from (number + 1) (instructions + count_of token) rest in
    ap (λ o. first_line o (found_at later q)) e ∙ regrouped old (found_at here q) (found_at later q)
    ∙ ap (first_line old) (sym (found-append here later q)) ∙ h

pub label_last : (o whole : Option LabelLine) (number instructions index : ℕ) (q : List ℕ) (lines : List (List ℕ)) → length lines ≤ index
    → first_line o (found_at (labels_from number instructions (drop index lines)) q) ≡ whole → o ≡ whole
unfolding labels_from found_at
label_last o whole number instructions index q lines ended h = first_or_none o ∙ (rw (drop_of_length-le lines ended) at h)

pub count_first : (before after whole : ℕ) (line : List ℕ) (rest : List (List ℕ)) → after ≡ before + count_of (token_at (tokens_of line) 0)
    → before + instruction_lines (line ∷ rest) ≡ whole → after + instruction_lines rest ≡ whole
unfolding instruction_lines
count_first before after whole line rest e h = omega (arith, e, h)

pub count_last : (count whole index : ℕ) (lines : List (List ℕ)) → length lines ≤ index → count + instruction_lines (drop index lines) ≡ whole → count ≡ whole
unfolding instruction_lines
count_last count whole index lines ended h =
    let none : count + 0 ≡ whole = rw (drop_of_length-le lines ended) at h in omega (arith, none)

counted_one : (token : List ℕ) (test : Bool) → is_instruction token ≡ test → count_of token ≤ 1
unfolding count_of
counted_one token true e = rw e (omega arith)
counted_one token false e = rw e (omega arith)

pub count_at_most_one : (token : List ℕ) → count_of token ≤ 1
count_at_most_one token = counted_one token (is_instruction token) refl

-- there are at most as many lines as bytes, and one
pub lines_at_most : (text : List ℕ) → length (lines_of text) ≤ length text + 1
lines_at_most text =
    let parts : length (lines_of text) ≡ count_by (λ b. b == 0x0A) text + 1 = length-slice_split (λ b. b == 0x0A) text in
    omega (arith, parts, count_by-le-length (λ b. b == 0x0A) text)

-- the labels of a text, by what is at each name
pub places_where : (text : List ℕ) (labels : Labels) → labels.instructions ≡ instruction_lines (lines_of text)
    → ((q : List ℕ) → named_in labels.labels q ≡ label_in text q) → label_parts labels ≡ labels_of text
unfolding label_parts labels_of
places_where text labels e h = λ i. record { label = λ q. h q i; instructions = e i }
