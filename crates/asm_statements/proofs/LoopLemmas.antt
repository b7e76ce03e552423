-- One turn of each loop over tokens, letters or forms.
use Rattle.std.proofs.Common.{◌≡◌, ℕ, zero, suc, ◌+◌, ◌-◌, ◌<◌, ◌≤◌, true, false, List, [], ◌∷◌, ◌++◌, length, take, drop, map, get_or, slice_index_or, Option, Some, None, Result, Ok, Err, refl, sym, ap, ◌∙◌, add-one, append_assoc, arith}
use Rattle.std.proofs.Math.Seq.{drop-cons}
use Rattle.std.proofs.lemmas.List.{append-nil, drop_all, length-map}
use Rattle.std.proofs.lemmas.Bool.Decides.{nat_tests}
use Rattle.asm_tokens.specs.declared.fault.AsmFault.{AsmFault}
use Rattle.asm_tokens.specs.declared.token.Token.{Token}
use Rattle.asm_tokens.specs.declared.token.TokenKind.{TokenKind}
use Rattle.asm_tokens.specs.declared.token.TokenKind.TheVariants as kinds
use Rattle.asm_tokens.specs.declared.token.Mark.TheVariants as marks
use Rattle.asm_tokens.specs.Tokens.{TokenParts, token_parts}
use Rattle.asm_expressions.proofs.ReadingLemmas.{tokens_here}
use Rattle.asm_statements.specs.declared.choosing.Ending.{Ending}
use Rattle.asm_statements.specs.declared.choosing.Survey.{Survey}
use Rattle.asm_statements.specs.declared.flags.Flags.{Flags}
use Rattle.asm_statements.specs.declared.forms.Form.{Form}
use Rattle.asm_statements.specs.Choosing.{after_token, after_comma, after_open, after_close, after_other, fits, first_fit, seen_from}
use Rattle.asm_statements.specs.Flags.{with_letter, flags_from}
use Rattle.asm_statements.specs.Marks.{end_kind, is_comma, string_kind}
use Rattle.asm_statements.specs.SectionNames.{goes_on, is_part, name_count, name_end, parts_after, texts_between, texts_of}
use Rattle.asm_statements.specs.Sections.{next_word, words_up_to}
use Rattle.asm_statements.specs.Statements.{StatementParts, after_end, is_label, labels_up_to, next_at, statement_of, statements_up_to}
use Rattle.asm_statements.proofs.ListLemmas.{one_fewer}

-- kinds of tokens
pub not_end : (kind : TokenKind) → (kind ≡ kinds.End → ⊥) → end_kind kind ≡ false
not_end kinds.Name other = refl
not_end (kinds.Number n) other = refl
not_end kinds.Local other = refl
not_end kinds.String other = refl
not_end (kinds.Mark mark) other = refl
not_end kinds.Request other = refl
not_end kinds.End other = absurd (other refl)

pub not_string : (kind : TokenKind) → (kind ≡ kinds.String → ⊥) → string_kind kind ≡ false
not_string kinds.Name other = refl
not_string (kinds.Number n) other = refl
not_string kinds.Local other = refl
not_string kinds.String other = absurd (other refl)
not_string (kinds.Mark mark) other = refl
not_string kinds.Request other = refl
not_string kinds.End other = refl

-- as many tokens as parts of them
pub counted : (tokens : List Token) (i : ℕ) → i < length tokens → i < length (map token_parts tokens)
counted tokens i h = rw length-map h

pub uncounted : (tokens : List Token) (i : ℕ) → length tokens ≤ i → length (map token_parts tokens) ≤ i
uncounted tokens i h = rw length-map h

-- letters
letters_here : (flags : Flags) (b : ℕ) (rest : List ℕ) → flags_from flags (b ∷ rest) ≡ flags_from (with_letter flags b) rest
unfolding flags_from
letters_here flags b rest = refl

pub next_letter : (before after : Flags) (letters : List ℕ) (n d : ℕ) (all : Flags) → n < length letters → after ≡ with_letter before (slice_index_or letters n d)
    → flags_from before (drop n letters) ≡ all → flags_from after (drop (n + 1) letters) ≡ all
next_letter before after letters n d all room same now =
    ap (λ (f : Flags). flags_from f (drop (n + 1) letters)) same
    ∙ (sym (ap (flags_from before) (drop-cons letters n d room ∙ ap (λ k. get_or letters n d ∷ drop k letters) (sym (add-one n)))
    ∙ letters_here before (get_or letters n d) (drop (n + 1) letters)) ∙ now)

pub last_letter : (flags : Flags) (letters : List ℕ) (n : ℕ) (all : Flags) → length letters ≤ n → flags_from flags (drop n letters) ≡ all → flags ≡ all
unfolding flags_from
last_letter flags letters n all past now = let none : drop n letters ≡ [] = drop_all n letters past in rw none at now

-- forms
form_fits : (count : ℕ) (ending : Option Ending) (form : Form) (rest : List Form) → fits count ending form ≡ true → first_fit count ending (form ∷ rest) ≡ Some form
unfolding first_fit
form_fits count ending form rest e = rw e refl

form_misfits : (count : ℕ) (ending : Option Ending) (form : Form) (rest : List Form) → fits count ending form ≡ false → first_fit count ending (form ∷ rest) ≡ first_fit count ending rest
unfolding first_fit
form_misfits count ending form rest e = rw e refl

forms_here : (forms : List Form) (n : ℕ) (d : Form) → n < length forms → drop n forms ≡ slice_index_or forms n d ∷ drop (n + 1) forms
forms_here forms n d room = drop-cons forms n d room ∙ ap (λ k. get_or forms n d ∷ drop k forms) (sym (add-one n))

pub this_form : (count : ℕ) (ending : Option Ending) (forms : List Form) (n : ℕ) (d : Form) (all : Option Form) → n < length forms → fits count ending (slice_index_or forms n d) ≡ true
    → first_fit count ending (drop n forms) ≡ all → Some (slice_index_or forms n d) ≡ all
this_form count ending forms n d all room e now =
    sym (ap (first_fit count ending) (forms_here forms n d room) ∙ form_fits count ending _ _ e) ∙ now

pub next_form : (count : ℕ) (ending : Option Ending) (forms : List Form) (n : ℕ) (d : Form) (all : Option Form) → n < length forms → fits count ending (slice_index_or forms n d) ≡ false
    → first_fit count ending (drop n forms) ≡ all → first_fit count ending (drop (n + 1) forms) ≡ all
next_form count ending forms n d all room e now =
    sym (ap (first_fit count ending) (forms_here forms n d room) ∙ form_misfits count ending _ _ e) ∙ now

pub no_form : (count : ℕ) (ending : Option Ending) (forms : List Form) (n : ℕ) (all : Option Form) → length forms ≤ n → first_fit count ending (drop n forms) ≡ all → None ≡ all
unfolding first_fit
no_form count ending forms n all past now = let none : drop n forms ≡ [] = drop_all n forms past in rw none at now

-- what is seen of operands
seen_end : (s : Survey) (token : TokenParts) (rest : List TokenParts) → end_kind token.kind ≡ true → seen_from s (token ∷ rest) ≡ s
unfolding seen_from
seen_end s token rest e = rw e refl

seen_more : (s : Survey) (token : TokenParts) (rest : List TokenParts) → end_kind token.kind ≡ false → seen_from s (token ∷ rest) ≡ seen_from (after_token token.kind token.text s) rest
unfolding seen_from
seen_more s token rest e = rw e refl

pub at_after : (kind : TokenKind) (text : List ℕ) (s : Survey) → (after_token kind text s).at ≡ s.at + 1
unfolding after_token after_comma after_open after_close after_other
at_after kinds.Name text s = refl
at_after (kinds.Number n) text s = refl
at_after kinds.Local text s = refl
at_after kinds.String text s = refl
at_after kinds.Request text s = refl
at_after kinds.End text s = refl
at_after (kinds.Mark marks.ShiftLeft) text s = refl
at_after (kinds.Mark marks.ShiftRight) text s = refl
at_after (kinds.Mark marks.Comma) text s = refl
at_after (kinds.Mark marks.Open) text s = refl
at_after (kinds.Mark marks.Close) text s = refl
at_after (kinds.Mark marks.Plus) text s = refl
at_after (kinds.Mark marks.Minus) text s = refl
at_after (kinds.Mark marks.Star) text s = refl
at_after (kinds.Mark marks.Slash) text s = refl
at_after (kinds.Mark marks.Percent) text s = refl
at_after (kinds.Mark marks.And) text s = refl
at_after (kinds.Mark marks.Or) text s = refl
at_after (kinds.Mark marks.Caret) text s = refl
at_after (kinds.Mark marks.Bang) text s = refl
at_after (kinds.Mark marks.Tilde) text s = refl
at_after (kinds.Mark marks.Colon) text s = refl
at_after (kinds.Mark marks.Equals) text s = refl
at_after (kinds.Mark marks.At) text s = refl

pub seen_at_end : (s : Survey) (tokens : List Token) (n : ℕ) (d : Token) (all : Survey) → n < length tokens → end_kind (slice_index_or tokens n d).kind ≡ true
    → seen_from s (drop n (map token_parts tokens)) ≡ all → s ≡ all
seen_at_end s tokens n d all room e now =
    sym (ap (seen_from s) (tokens_here tokens n d room) ∙ seen_end s _ _ e) ∙ now

pub seen_next : (s t : Survey) (tokens : List Token) (n k : ℕ) (d : Token) (all : Survey) → n < length tokens → end_kind (slice_index_or tokens n d).kind ≡ false
    → t ≡ after_token (slice_index_or tokens n d).kind (slice_index_or tokens n d).text.now s → k ≡ n + 1
    → seen_from s (drop n (map token_parts tokens)) ≡ all → seen_from t (drop k (map token_parts tokens)) ≡ all
seen_next s t tokens n k d all room e same next now =
    rw (same, next) (sym (ap (seen_from s) (tokens_here tokens n d room) ∙ seen_more s _ _ e) ∙ now)

pub seen_past : (s : Survey) (tokens : List Token) (n : ℕ) (all : Survey) → length tokens ≤ n → seen_from s (drop n (map token_parts tokens)) ≡ all → s ≡ all
unfolding seen_from
seen_past s tokens n all past now =
    let none : drop n (map token_parts tokens) ≡ [] = drop_all n (map token_parts tokens) (rw length-map past) in rw none at now

-- words after a section's type
words_stop : (n : ℕ) (ts : List TokenParts) (at : ℕ) → is_comma ts at ≡ false → words_up_to n ts at ≡ Ok at
unfolding words_up_to
words_stop zero ts at e = refl
words_stop (suc n) ts at e = rw e refl

pub words_end : (n : ℕ) (ts : List TokenParts) (at : ℕ) (all : Result ℕ AsmFault) → is_comma ts at ≡ false → words_up_to n ts at ≡ all → Ok at ≡ all
words_end n ts at all e now = sym (words_stop n ts at e) ∙ now

abbrev next_words : ℕ → List TokenParts → Result ℕ AsmFault → Result ℕ AsmFault
next_words n ts (Ok next) = words_up_to n ts next
next_words n ts (Err fault) = Err fault

words_next : (n : ℕ) (ts : List TokenParts) (at : ℕ) (r : Result ℕ AsmFault) → is_comma ts at ≡ true → next_word ts at ≡ r → words_up_to (suc n) ts at ≡ next_words n ts r
unfolding words_up_to
words_next n ts at (Ok next) e is = rw (e, is) refl
words_next n ts at (Err fault) e is = rw (e, is) refl

pub words_turn : (n i : ℕ) (ts : List TokenParts) (at next : ℕ) (all : Result ℕ AsmFault) → i < n → is_comma ts at ≡ true → next_word ts at ≡ Ok next
    → words_up_to (n - i) ts at ≡ all → words_up_to (n - (i + 1)) ts next ≡ all
words_turn n i ts at next all below e is now =
    sym (ap (λ k. words_up_to k ts at) (one_fewer n i below) ∙ words_next (n - (i + 1)) ts at (Ok next) e is) ∙ now

pub words_fault : (n i : ℕ) (ts : List TokenParts) (at : ℕ) (fault : AsmFault) (all : Result ℕ AsmFault) → i < n → is_comma ts at ≡ true → next_word ts at ≡ Err fault
    → words_up_to (n - i) ts at ≡ all → Err fault ≡ all
words_fault n i ts at fault all below e is now =
    sym (ap (λ k. words_up_to k ts at) (one_fewer n i below) ∙ words_next (n - (i + 1)) ts at (Err fault) e is) ∙ now

pub words_past : (n i : ℕ) (ts : List TokenParts) (at : ℕ) (all : Result ℕ AsmFault) → n ≤ i → words_up_to (n - i) ts at ≡ all → Ok at ≡ all
unfolding words_up_to
words_past n i ts at all past now =
    let none : n - i ≡ 0 = omega arith in rw none at now

-- labels
labels_stop : (n : ℕ) (ts : List TokenParts) (at : ℕ) → is_label ts at ≡ false → labels_up_to n ts at ≡ at
unfolding labels_up_to
labels_stop zero ts at e = refl
labels_stop (suc n) ts at e = rw e refl

labels_next : (n : ℕ) (ts : List TokenParts) (at : ℕ) → is_label ts at ≡ true → labels_up_to (suc n) ts at ≡ labels_up_to n ts (at + 2)
unfolding labels_up_to
labels_next n ts at e = rw e refl

pub labels_done : (n : ℕ) (ts : List TokenParts) (at all : ℕ) → is_label ts at ≡ false → labels_up_to n ts at ≡ all → at ≡ all
labels_done n ts at all e now = sym (labels_stop n ts at e) ∙ now

pub labels_turn : (n i : ℕ) (ts : List TokenParts) (at all : ℕ) → i < n → is_label ts at ≡ true → labels_up_to (n - i) ts at ≡ all → labels_up_to (n - (i + 1)) ts (at + 2) ≡ all
labels_turn n i ts at all below e now =
    sym (ap (λ k. labels_up_to k ts at) (one_fewer n i below) ∙ labels_next (n - (i + 1)) ts at e) ∙ now

pub labels_past : (n i : ℕ) (ts : List TokenParts) (at all : ℕ) → n ≤ i → labels_up_to (n - i) ts at ≡ all → at ≡ all
unfolding labels_up_to
labels_past n i ts at all past now = let none : n - i ≡ 0 = omega arith in rw none at now

-- the end of a statement
end_now : (at : ℕ) (token : TokenParts) (rest : List TokenParts) → end_kind token.kind ≡ true → after_end at (token ∷ rest) ≡ at + 1
unfolding after_end
end_now at token rest e = rw e refl

end_later : (at : ℕ) (token : TokenParts) (rest : List TokenParts) → end_kind token.kind ≡ false → after_end at (token ∷ rest) ≡ after_end (at + 1) rest
unfolding after_end
end_later at token rest e = rw e refl

pub ends_here : (tokens : List Token) (n : ℕ) (d : Token) (all : ℕ) → n < length tokens → end_kind (slice_index_or tokens n d).kind ≡ true
    → after_end n (drop n (map token_parts tokens)) ≡ all → n + 1 ≡ all
ends_here tokens n d all room e now = sym (ap (after_end n) (tokens_here tokens n d room) ∙ end_now n _ _ e) ∙ now

pub ends_later : (tokens : List Token) (n : ℕ) (d : Token) (all : ℕ) → n < length tokens → end_kind (slice_index_or tokens n d).kind ≡ false
    → after_end n (drop n (map token_parts tokens)) ≡ all → after_end (n + 1) (drop (n + 1) (map token_parts tokens)) ≡ all
ends_later tokens n d all room e now = sym (ap (after_end n) (tokens_here tokens n d room) ∙ end_later n _ _ e) ∙ now

pub ends_past : (tokens : List Token) (n : ℕ) (all : ℕ) → length tokens ≤ n → after_end n (drop n (map token_parts tokens)) ≡ all → n ≡ all
unfolding after_end
ends_past tokens n all past now =
    let none : drop n (map token_parts tokens) ≡ [] = drop_all n (map token_parts tokens) (rw length-map past) in rw none at now

-- a section's name
parts_stop : (before token : TokenParts) (rest : List TokenParts) → goes_on before token ≡ false → parts_after before (token ∷ rest) ≡ 0
unfolding parts_after
parts_stop before token rest e = rw e refl

parts_more : (before token : TokenParts) (rest : List TokenParts) → goes_on before token ≡ true → parts_after before (token ∷ rest) ≡ 1 + parts_after token rest
unfolding parts_after
parts_more before token rest e = rw e refl

pub parts_done : (before : TokenParts) (tokens : List Token) (start n : ℕ) (d : Token) (all : ℕ) → n < length tokens → goes_on before (token_parts (slice_index_or tokens n d)) ≡ false
    → start ≤ n → (n - start) + parts_after before (drop n (map token_parts tokens)) ≡ all → n - start ≡ all
parts_done before tokens start n d all room e from now =
    let here = ap (parts_after before) (tokens_here tokens n d room) ∙ parts_stop before _ (drop (n + 1) (map token_parts tokens)) e in
    omega (arith, here, now)

pub parts_turn : (before : TokenParts) (tokens : List Token) (start n : ℕ) (d : Token) (all : ℕ) → n < length tokens → goes_on before (token_parts (slice_index_or tokens n d)) ≡ true
    → start ≤ n → (n - start) + parts_after before (drop n (map token_parts tokens)) ≡ all
    → ((n + 1) - start) + parts_after (token_parts (slice_index_or tokens n d)) (drop (n + 1) (map token_parts tokens)) ≡ all
parts_turn before tokens start n d all room e from now =
    let here = ap (parts_after before) (tokens_here tokens n d room) ∙ parts_more before _ (drop (n + 1) (map token_parts tokens)) e in
    omega (arith, here, now)

pub parts_past : (before : TokenParts) (tokens : List Token) (start n : ℕ) (all : ℕ) → length tokens ≤ n
    → (n - start) + parts_after before (drop n (map token_parts tokens)) ≡ all → n - start ≡ all
unfolding parts_after
parts_past before tokens start n all past now =
    let none : drop n (map token_parts tokens) ≡ [] = drop_all n (map token_parts tokens) (rw length-map past) in
    let zero_more : parts_after before (drop n (map token_parts tokens)) ≡ 0 = rw none refl in
    omega (arith, zero_more, now)

name_of_string : (token : TokenParts) (rest : List TokenParts) → string_kind token.kind ≡ true → name_count (token ∷ rest) ≡ 1
unfolding name_count
name_of_string token rest e = rw e refl

name_of_none : (token : TokenParts) (rest : List TokenParts) → string_kind token.kind ≡ false → is_part token.kind ≡ false → name_count (token ∷ rest) ≡ 0
unfolding name_count
name_of_none token rest e f = rw (e, f) refl

name_of_parts : (token : TokenParts) (rest : List TokenParts) → string_kind token.kind ≡ false → is_part token.kind ≡ true → name_count (token ∷ rest) ≡ 1 + parts_after token rest
unfolding name_count
name_of_parts token rest e f = rw (e, f) refl

pub name_past : (tokens : List Token) (n : ℕ) → length tokens ≤ n → n ≡ name_end (map token_parts tokens) n
unfolding name_end name_count
name_past tokens n past =
    let none : drop n (map token_parts tokens) ≡ [] = drop_all n (map token_parts tokens) (rw length-map past) in rw none (omega arith)

pub name_string : (tokens : List Token) (n : ℕ) (d : Token) → n < length tokens → string_kind (slice_index_or tokens n d).kind ≡ true → n + 1 ≡ name_end (map token_parts tokens) n
unfolding name_end
name_string tokens n d room e = sym (ap (λ k. n + k) (ap name_count (tokens_here tokens n d room) ∙ name_of_string _ _ e))

pub name_none : (tokens : List Token) (n : ℕ) (d : Token) → n < length tokens → string_kind (slice_index_or tokens n d).kind ≡ false → is_part (slice_index_or tokens n d).kind ≡ false
    → n ≡ name_end (map token_parts tokens) n
unfolding name_end
name_none tokens n d room e f =
    let none : name_count (drop n (map token_parts tokens)) ≡ 0 = ap name_count (tokens_here tokens n d room) ∙ name_of_none _ _ e f in omega (arith, none)

pub name_parts : (tokens : List Token) (n more : ℕ) (d : Token) → n < length tokens → string_kind (slice_index_or tokens n d).kind ≡ false → is_part (slice_index_or tokens n d).kind ≡ true
    → more ≡ parts_after (token_parts (slice_index_or tokens n d)) (drop (n + 1) (map token_parts tokens)) → n + 1 + more ≡ name_end (map token_parts tokens) n
unfolding name_end
name_parts tokens n more d room e f is =
    let some = ap name_count (tokens_here tokens n d room) ∙ name_of_parts _ (drop (n + 1) (map token_parts tokens)) e f in omega (arith, some, is)

-- texts
texts_more : (token : TokenParts) (rest : List TokenParts) → texts_of (token ∷ rest) ≡ token.text ++ texts_of rest
unfolding texts_of
texts_more token rest = refl

texts_step : (token : TokenParts) (rest : List TokenParts) (n k : ℕ) → n ≡ suc k → texts_of (take n (token ∷ rest)) ≡ token.text ++ texts_of (take k rest)
texts_step token rest n k e = ap (λ m. texts_of (take m (token ∷ rest))) e ∙ texts_more token (take k rest)

pub texts_turn : (before after : List ℕ) (tokens : List Token) (n end : ℕ) (d : Token) (all : List ℕ) → n < length tokens → n < end → after ≡ before ++ (slice_index_or tokens n d).text.now
    → before ++ texts_between (map token_parts tokens) n end ≡ all → after ++ texts_between (map token_parts tokens) (n + 1) end ≡ all
unfolding texts_between
texts_turn before after tokens n end d all room below same now =
    let here : texts_of (take (end - n) (drop n (map token_parts tokens))) ≡ (slice_index_or tokens n d).text.now ++ texts_of (take (end - (n + 1)) (drop (n + 1) (map token_parts tokens))) =
    ap (λ ts. texts_of (take (end - n) ts)) (tokens_here tokens n d room) ∙ texts_step _ _ (end - n) (end - (n + 1)) (omega arith) in
    rw same (append_assoc before (slice_index_or tokens n d).text.now (texts_of (take (end - (n + 1)) (drop (n + 1) (map token_parts tokens))))
    ∙ (ap (λ rest. before ++ rest) (sym here) ∙ now))

texts_none : (n : ℕ) → texts_of (take n []) ≡ []
unfolding texts_of
texts_none zero = refl
texts_none (suc n) = refl

pub texts_past : (out : List ℕ) (tokens : List Token) (n end : ℕ) (all : List ℕ) → length tokens ≤ n → out ++ texts_between (map token_parts tokens) n end ≡ all → out ≡ all
unfolding texts_between
texts_past out tokens n end all past now =
    let none : drop n (map token_parts tokens) ≡ [] = drop_all n (map token_parts tokens) (rw length-map past) in
    sym (append-nil out) ∙ (ap (λ rest. out ++ rest) (sym (ap (λ ts. texts_of (take (end - n) ts)) none ∙ texts_none (end - n))) ∙ now)

pub texts_done : (out : List ℕ) (ts : List TokenParts) (n end : ℕ) (all : List ℕ) → end ≤ n → out ++ texts_between ts n end ≡ all → out ≡ all
unfolding texts_between texts_of
texts_done out ts n end all past now =
    let none : end - n ≡ 0 = omega arith in
    sym (append-nil out) ∙ (rw none at now)

-- statements
statements_next : (n : ℕ) (ts : List TokenParts) (at : ℕ) → at < length ts → statements_up_to (suc n) ts at ≡ statement_of ts at ∷ statements_up_to n ts (next_at ts at)
unfolding statements_up_to
statements_next n ts at below = grind (arith, nat_tests)

statements_none : (n : ℕ) (ts : List TokenParts) (at : ℕ) → length ts ≤ at → statements_up_to n ts at ≡ []
unfolding statements_up_to
statements_none zero ts at past = refl
statements_none (suc n) ts at past = grind (arith, nat_tests)

pub statements_turn : (n i : ℕ) (ts : List TokenParts) (at next : ℕ) (before after : List StatementParts) (all : List StatementParts) → i < n → at < length ts
    → after ≡ before ++ statement_of ts at ∷ [] → next ≡ next_at ts at → before ++ statements_up_to (n - i) ts at ≡ all → after ++ statements_up_to (n - (i + 1)) ts next ≡ all
statements_turn n i ts at next before after all below room same is now =
    rw (same, is) (append_assoc before (statement_of ts at ∷ []) (statements_up_to (n - (i + 1)) ts (next_at ts at))
    ∙ (ap (λ rest. before ++ rest) (sym (ap (λ k. statements_up_to k ts at) (one_fewer n i below) ∙ statements_next (n - (i + 1)) ts at room)) ∙ now))

pub statements_end : (n : ℕ) (ts : List TokenParts) (at : ℕ) (before all : List StatementParts) → length ts ≤ at → before ++ statements_up_to n ts at ≡ all → before ≡ all
statements_end n ts at before all past now =
    sym (append-nil before) ∙ (ap (λ rest. before ++ rest) (sym (statements_none n ts at past)) ∙ now)

pub statements_past : (n i : ℕ) (ts : List TokenParts) (at : ℕ) (before all : List StatementParts) → n ≤ i → before ++ statements_up_to (n - i) ts at ≡ all → before ≡ all
unfolding statements_up_to
statements_past n i ts at before all past now =
    let none : n - i ≡ 0 = omega arith in
    sym (append-nil before) ∙ (rw none at now)
