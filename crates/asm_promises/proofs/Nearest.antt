-- `1b` and `1f`: the last local label up to a statement, and the first one after it.
use Rattle.std.proofs.Common.{◌≡◌, ℕ, zero, suc, ◌+◌, ◌<◌, ◌≤◌, Bool, true, false, cond, List, [], ◌∷◌, ◌++◌, length, take, drop, slice_get, slice_index, slice_index_or, Option, Some, None, refl, sym, ap, ◌∙◌, subst, append-nil, append_assoc, codes, arith}
use Rattle.std.proofs.lemmas.List.{length-append, take_more, take_at, drop_at}
use Rattle.std.proofs.lemmas.Option.{slice_get-get_or}
use Rattle.std.proofs.lemmas.List.Elements.{All-nil, All-cons, All-push}
use Rattle.asm_tokens.specs.Tokens.{TokenParts}
use Rattle.asm_symbols.specs.declared.locals.Local.{Local}
use Rattle.asm_statements.specs.Statements.{StatementParts}
use Rattle.asm_files.specs.declared.stand.Stand.{Stand}
use Rattle.asm_files.specs.Programs.{FileParts, ProgramParts, tokens_or_none, tokens_in, stand_in, locals_in, no_stand}
use Rattle.asm_links.specs.Locals.{has_digits, if_digits, label_at, or_others, last_before, first_in, first_from, label_of, label_by, local_label}
use Rattle.asm_promises.specs.Labels.{labels_here, all_labels, stands_of, labels_up_to, labels_after, IsLast, IsFirst}
use Rattle.asm_promises.proofs.Reading.{Phases, none_more}
use Rattle.asm_promises.proofs.Sizes.{found}
use Rattle.asm_promises.proofs.Locals.{AreCounted, AreStood, no_file, stood_same, files_stood}

-- ---- what statements see

no_stands : (tokens : List TokenParts) (statements : List StatementParts) → all_labels tokens statements [] ≡ []
unfolding all_labels
no_stands tokens [] = refl
no_stands tokens (s ∷ statements) = refl

split : (tokens : List TokenParts) (k : ℕ) (statements : List StatementParts) (stands : List Stand)
    → all_labels tokens (take k statements) (take k stands) ++ all_labels tokens (drop k statements) (drop k stands) ≡ all_labels tokens statements stands
unfolding all_labels
split tokens zero statements stands = refl
split tokens (suc k) [] stands = refl
split tokens (suc k) (s ∷ statements) [] = no_stands tokens (drop k statements)
split tokens (suc k) (s ∷ statements) (stand ∷ stands) =
    append_assoc (labels_here tokens stand s.first s.labels) (all_labels tokens (take k statements) (take k stands)) (all_labels tokens (drop k statements) (drop k stands))
    ∙ ap (λ (ls : List Local). labels_here tokens stand s.first s.labels ++ ls) (split tokens k statements stands)

count_at : (count : ℕ) (tokens : List TokenParts) (statements : List StatementParts) (stands : List Stand) (number : ℕ) → length stands ≡ length statements
    → number < length statements → AreCounted count tokens statements stands
    → (slice_index_or stands number no_stand).locals ≡ count + length (all_labels tokens (take (suc number) statements) (take (suc number) stands))
unfolding all_labels
count_at count tokens [] stands number h less c = absurd (omega arith)
count_at count tokens (s ∷ statements) [] number h less c = absurd (omega arith)
count_at count tokens (s ∷ statements) (stand ∷ stands) zero h less c =
    let here = c.0 in
    let alone : length (labels_here tokens stand s.first s.labels ++ []) ≡ length (labels_here tokens stand s.first s.labels) =
    ap (λ (ls : List Local). length ls) (append-nil (labels_here tokens stand s.first s.labels)) in
    omega arith
count_at count tokens (s ∷ statements) (stand ∷ stands) (suc number) h less c =
    let here = c.0 in
    let rest = count_at stand.locals tokens statements stands number (omega arith) (omega arith) c.1 in
    let both : length (labels_here tokens stand s.first s.labels ++ all_labels tokens (take (suc number) statements) (take (suc number) stands))
    ≡ length (labels_here tokens stand s.first s.labels) + length (all_labels tokens (take (suc number) statements) (take (suc number) stands)) =
    length-append (labels_here tokens stand s.first s.labels) (all_labels tokens (take (suc number) statements) (take (suc number) stands)) in
    omega arith

-- ---- the last one and the first one

module _ (tokens : List TokenParts) (digits : List ℕ) where
  abbrev Has : Local → Bool
  Has label = has_digits tokens digits label

  last_by : (test : Bool) (front : List Local) (here label : Local) (before : Option Local) → Has here ≡ test → (before ≡ Some label → IsLast Has front label)
      → or_others (cond test (Some here) None) before ≡ Some label → IsLast Has (front ++ here ∷ []) label
  last_by true front here label before t later e =
      let is : here ≡ label = cc in
      let this : IsLast Has (front ++ here ∷ []) here = record { before = front; after = []; parts = refl; passes = t; none = All-nil (λ other. Has other ≡ false) } in
      subst (IsLast Has (front ++ here ∷ [])) is this
  last_by false front here label before t later e =
      let rest = later e in
      record {
        before = rest.before;
        after = rest.after ++ here ∷ [];
        parts = sym (append_assoc rest.before (label ∷ rest.after) (here ∷ [])) ∙ ap (λ (ls : List Local). ls ++ here ∷ []) rest.parts;
        passes = rest.passes;
        none = All-push (λ other. Has other ≡ false) rest.after here rest.none t;
      }

  last_of : (labels : List Local) (count : ℕ) (label : Local) → count ≤ length labels → last_before tokens digits labels count ≡ Some label → IsLast Has (take count labels) label
  unfolding last_before label_at
  last_of labels zero label h e = absurd (cc)
  last_of labels (suc count) label h e =
      let here : Local = slice_index_or labels count label in
      let there : slice_get labels count ≡ Some here = slice_get-get_or labels count label (omega arith) in
      let found : or_others (cond (Has here) (Some here) None) (last_before tokens digits labels count) ≡ Some label =
      ap (λ (o : Option Local). or_others (if_digits tokens digits o) (last_before tokens digits labels count)) (sym there) ∙ e in
      let one = last_by (Has here) (take count labels) here label (last_before tokens digits labels count) refl (λ f. last_of labels count label (omega arith) f) found in
      let next : take (count + 1) labels ≡ take count labels ++ here ∷ [] = take_more labels count label (omega arith) in
      let same : count + 1 ≡ suc count = omega arith in
      subst (λ (n : ℕ). IsLast Has (take n labels) label) same (subst (λ (ls : List Local). IsLast Has ls label) (sym next) one)

  first_by : (test : Bool) (here label : Local) (rest : List Local) → Has here ≡ test → (first_in tokens digits rest ≡ Some label → IsFirst Has rest label)
      → cond test (Some here) (first_in tokens digits rest) ≡ Some label → IsFirst Has (here ∷ rest) label
  first_by true here label rest t later e =
      let is : here ≡ label = cc in
      let this : IsFirst Has (here ∷ rest) here = record { before = []; after = rest; parts = refl; passes = t; none = All-nil (λ other. Has other ≡ false) } in
      subst (IsFirst Has (here ∷ rest)) is this
  first_by false here label rest t later e =
      let more = later e in
      record {
        before = here ∷ more.before;
        after = more.after;
        parts = ap (λ (ls : List Local). here ∷ ls) more.parts;
        passes = more.passes;
        none = All-cons (λ other. Has other ≡ false) here more.before t more.none;
      }

  first_of : (labels : List Local) (label : Local) → first_in tokens digits labels ≡ Some label → IsFirst Has labels label
  unfolding first_in
  first_of [] label e = absurd (cc)
  first_of (here ∷ labels) label e = first_by (Has here) here label labels refl (λ f. first_of labels label f) e

-- ---- `1b` and `1f`

front_of : (xs : List ℕ) (c : ℕ) → take (length xs) (xs ++ c ∷ []) ≡ xs
front_of xs c = take_at xs (c ∷ []) (length xs) refl

end_of : (xs : List ℕ) (c : ℕ) → slice_index (xs ++ c ∷ []) (length xs) ≡ c
end_of [] c = refl
end_of (x ∷ xs) c = end_of xs c

label_pushed : (tokens : List TokenParts) (labels : List Local) (count : ℕ) (digits : List ℕ) (c : ℕ)
    → label_by tokens labels count (digits ++ c ∷ []) ≡ label_of tokens labels count digits c
label_pushed tokens labels count [] c = refl
label_pushed tokens labels count (d ∷ digits) c =
    let long : length (digits ++ c ∷ []) ≡ suc (length digits) = length-append digits (c ∷ []) ∙ (omega arith) in
    let front : take (length (digits ++ c ∷ [])) (d ∷ digits ++ c ∷ []) ≡ d ∷ digits =
    ap (λ (n : ℕ). take n (d ∷ digits ++ c ∷ [])) long ∙ front_of (d ∷ digits) c in
    let end : slice_index (d ∷ digits ++ c ∷ []) (length (digits ++ c ∷ [])) ≡ c =
    ap (λ (n : ℕ). slice_index (d ∷ digits ++ c ∷ []) n) long ∙ end_of (d ∷ digits) c in
    ap (λ (ds : List ℕ). label_of tokens labels count ds (slice_index (d ∷ digits ++ c ∷ []) (length (digits ++ c ∷ [])))) front
    ∙ ap (λ (b : ℕ). label_of tokens labels count (d ∷ digits) b) end

-- where the statements of a file of a program stand, and its local labels
pub program_stood : (texts : List (List ℕ)) (program : ProgramParts) (file : ℕ) (f : FileParts) → Phases texts program → slice_get program.files file ≡ Some f
    → AreStood f.tokens f.statements (stands_of program file) (locals_in program file)
unfolding locals_in
program_stood texts program file f phases e =
    let all = files_stood _ program.files program.made phases.made in
    let found = found program.files file f no_file e in
    stood_same (slice_index_or program.files file no_file) f (stands_of program file) (stands_of program file) (slice_index_or program.made.locals file []) (slice_index_or program.made.locals file [])
    found.1 refl refl (all.each file found.0)

-- the labels that a statement sees before it, and those after
record Sees (program : ProgramParts) (file : ℕ) (f : FileParts) (number : ℕ) : Type 0 where
  whole : labels_up_to program file f number ++ labels_after program file f number ≡ locals_in program file
  count : (stand_in program file number).locals ≡ length (labels_up_to program file f number)

sees : (program : ProgramParts) (file : ℕ) (f : FileParts) (number : ℕ) → number < length f.statements
    → AreStood f.tokens f.statements (stands_of program file) (locals_in program file) → Sees program file f number
unfolding stand_in
sees program file f number less h =
    let counted = count_at 0 f.tokens f.statements (stands_of program file) number h.length_is less h.counted in
    let same : suc number ≡ number + 1 = omega arith in
    let count : (slice_index_or (stands_of program file) number no_stand).locals ≡ length (labels_up_to program file f number) =
    subst (λ (n : ℕ). (slice_index_or (stands_of program file) number no_stand).locals ≡ length (all_labels f.tokens (take n f.statements) (take n (stands_of program file)))) same (counted ∙ none_more (length (all_labels f.tokens (take (suc number) f.statements) (take (suc number) (stands_of program file))))) in
    record { whole = split f.tokens (number + 1) f.statements (stands_of program file) ∙ sym h.labels_are; count = count }

module _ (texts : List (List ℕ)) (program : ProgramParts) (file : ℕ) (f : FileParts) (number : ℕ) (phases : Phases texts program) (there : slice_get program.files file ≡ Some f)
    (less : number < length f.statements) where
  seen : Sees program file f number
  seen = sees program file f number less (program_stood texts program file f phases there)

  tokens_are : tokens_in program file ≡ f.tokens
  unfolding tokens_in
  tokens_are = ap tokens_or_none there

  by_parts : (digits : List ℕ) (c : ℕ) (label : Local) → local_label program file number (digits ++ c ∷ []) ≡ Some label
      → label_of f.tokens (labels_up_to program file f number ++ labels_after program file f number) (length (labels_up_to program file f number)) digits c ≡ Some label
  unfolding local_label
  by_parts digits c label e =
      let one = label_pushed (tokens_in program file) (locals_in program file) (stand_in program file number).locals digits c in
      let two : label_of (tokens_in program file) (locals_in program file) (stand_in program file number).locals digits c ≡ Some label = sym one ∙ e in
      let three = subst (λ (ts : List TokenParts). label_of ts (locals_in program file) (stand_in program file number).locals digits c ≡ Some label) tokens_are two in
      let four = subst (λ (ls : List Local). label_of f.tokens ls (stand_in program file number).locals digits c ≡ Some label) (sym seen.whole) three in
      subst (λ (n : ℕ). label_of f.tokens (labels_up_to program file f number ++ labels_after program file f number) n digits c ≡ Some label) seen.count four

  pub back_is_last : (digits : List ℕ) (label : Local) → local_label program file number (digits ++ codes "b") ≡ Some label
      → IsLast (has_digits f.tokens digits) (labels_up_to program file f number) label
  back_is_last digits label e =
      let front : List Local = labels_up_to program file f number in
      let rest : List Local = labels_after program file f number in
      let found : last_before f.tokens digits (front ++ rest) (length front) ≡ Some label = by_parts digits 0x62 label e in
      let long : length (front ++ rest) ≡ length front + length rest = length-append front rest in
      let last = last_of f.tokens digits (front ++ rest) (length front) label (omega arith) found in
      subst (λ (ls : List Local). IsLast (has_digits f.tokens digits) ls label) (take_at front rest (length front) refl) last

  pub ahead_is_first : (digits : List ℕ) (label : Local) → local_label program file number (digits ++ codes "f") ≡ Some label
      → IsFirst (has_digits f.tokens digits) (labels_after program file f number) label
  unfolding first_from
  ahead_is_first digits label e =
      let front : List Local = labels_up_to program file f number in
      let rest : List Local = labels_after program file f number in
      let found : first_in f.tokens digits (drop (length front) (front ++ rest)) ≡ Some label = by_parts digits 0x66 label e in
      let only : first_in f.tokens digits rest ≡ Some label = subst (λ (ls : List Local). first_in f.tokens digits ls ≡ Some label) (drop_at front rest (length front) refl) found in
      first_of f.tokens digits rest label only
