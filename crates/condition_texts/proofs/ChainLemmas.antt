-- A text without parentheses that writes a chain is a condition that holds in the same states.
use Rattle.std.proofs.Common.{◌≡◌, ℕ, zero, suc, ◌+◌, ◌-◌, ◌<◌, ◌≤◌, ◌==◌, Bool, true, false, ◌&&◌, ◌||◌, if◌then◌else◌, List, [], ◌∷◌, ◌++◌, length, drop, map, refl, sym, ap, ◌∙◌, append_assoc, subst, arith}
use Rattle.std.specs.Prelude.{Option, Some, None, Result, Ok, Err, ok_or, slice_get, slice_index, codes, bytes_eq, nat_lt, nat_le, nat_eq, not, option_map}
use Rattle.std.specs.List.{list_all, slice_split, onto_first}
use Rattle.std.proofs.lemmas.List.{append-nil, drop_all}
use Rattle.std.proofs.lemmas.Slice.Eq.{bytes_eq-Decides}
use Rattle.std.proofs.lemmas.Bool.Decides.{nat_tests}
use Rattle.std.proofs.lemmas.Bool.{cond-true, cond-false}
use Rattle.cap_model.specs.declared.perms.Perms.{Perms}
use Rattle.cheri_model.specs.instructions.Tables.{found_at}
use Rattle.cheri_model.specs.runs.Image.{ImageParts}
use Rattle.cheri_model.specs.runs.Machine.{MachineState}
use Rattle.grammar.specs.Faults.{◌>>=◌}
use Rattle.grammar.specs.Labels.{LabelParts}
use Rattle.grammar.specs.Numerals.{number_of}
use Rattle.grammar.specs.declared.fault.ListingFaultKind.TheVariants.{Operand}
use Rattle.text_numbers.specs.Numerals.{number_of as written_number, number_in as numeral_in, begins_hexadecimal, is_numeral, within_128_bits}
use Rattle.conditions.specs.declared.parts.Atom.{Atom}
use Rattle.conditions.specs.declared.parts.Atom.TheVariants as atom
use Rattle.conditions.specs.declared.parts.Comparison.{Comparison}
use Rattle.conditions.specs.declared.parts.Joint.TheVariants as joint
use Rattle.conditions.specs.declared.parts.Node.{Node}
use Rattle.conditions.specs.declared.parts.Place.{Place}
use Rattle.conditions.specs.declared.parts.Place.TheVariants as place
use Rattle.conditions.specs.declared.parts.Source.{Source}
use Rattle.conditions.specs.declared.parts.Source.TheVariants as source
use Rattle.conditions.specs.declared.parts.StatusTest.{StatusTest}
use Rattle.conditions.specs.declared.parts.Subject.TheVariants as who
use Rattle.conditions.specs.declared.parts.Term.TheVariants as term
use Rattle.conditions.specs.Formulas.{Formula, says, join, nodes_of}
use Rattle.conditions.specs.Holding.{is_so, holds, joined}
use Rattle.conditions.specs.Values.{atom_holds, source_number, term_number}
use Rattle.conditions.specs.Values as value
use Rattle.conditions.proofs.FormulaLemmas.{given_back}
use Rattle.condition_texts.specs.declared.condition.TheConstants.{MAX_BYTES, MAX_PARENTHESES}
use Rattle.condition_texts.specs.declared.openings.Opening.{Opening}
use Rattle.condition_texts.specs.declared.openings.Opening.TheVariants as opening
use Rattle.condition_texts.specs.declared.openings.Verb.TheVariants as verbs
use Rattle.condition_texts.specs.Words.{words_of, is_parenthesis, run_of, words_from, condition_words}
use Rattle.condition_texts.specs.Places.{hart_numbered, number_in, number_read, place_of, source_of, source_at, begins_each, begins_hart, is_data}
use Rattle.condition_texts.specs.Atoms.{comparison_of, status_of, address_in_word, permissions_in}
use Rattle.condition_texts.specs.Terms.{term_of, begins_address, number_or}
use Rattle.condition_texts.specs.Reading.{Context, says_at, is_at, is_word, word_says, opening_of, count_of, count_or, count_or_source, hart_opening, source_opening, quantifier_opening, quantifier_table, is_digit, verb_of, said_after, said_of, compared}
use Rattle.condition_texts.specs.Conditions.{Reader, condition_of, whole, chain, joined_to, item_of, in_parentheses, part, unit, after_opening, nodes_or_byte}
use Rattle.condition_texts.specs.Chains as chains
use Rattle.condition_texts.specs.Chains.{may_end, Plain, Compares, HasStatus, Reaches, Expected, Subject, Comparing, Number, Verb, Status, Address, Permissions, And, Step, Expects, Ends, atoms_from, step_of, expected_after, ended_by, subject, comparing, after_hart, has_parenthesis, plain_holds, chain_holds, HoldsAsChain}

-- ---- plain logic

pub choose : (b : Bool) (P : Type 0) → (b ≡ true → P) → (b ≡ false → P) → P
choose true P one other = one refl
choose false P one other = other refl

pub clash : (b : Bool) → b ≡ true → b ≡ false → ⊥
clash b is not_so = let c : true ≡ false = sym is ∙ not_so in cc

pub no_some : {A : Type 0} (x : A) → None ≡ Some x → ⊥
no_some x is = cc

abbrev okay : {A : Type 0} → A → Result A ℕ
okay x = Ok x

pub bound : {A B : Type 0} (r : Result A ℕ) (f : A → Result B ℕ) (y : B) → (r >>= f) ≡ Ok y → (x : A) × (r ≡ Ok x) × (f x ≡ Ok y)
bound (Ok x) f y is = (x, refl, is)
bound (Err e) f y is = absurd (cc)

pub given : {A : Type 0} (o : Option A) (n : ℕ) (x : A) → ok_or o n ≡ Ok x → o ≡ Some x
given (Some z) n x is = let same : z ≡ x = cc in ap Some same
given None n x is = absurd (cc)

-- ---- the words of a text without parentheses

abbrev glue : List ℕ → List (List ℕ) → List (List ℕ)
glue bytes [] = bytes ∷ []
glue bytes (x ∷ xs) = (bytes ++ x) ∷ xs

abbrev texts : List (ℕ × List ℕ) → List (List ℕ)
texts pairs = map (λ p. p.1) pairs

abbrev is_space : ℕ → Bool
is_space b = b == 0x20

glue_onto : (b : ℕ) (xs : List (List ℕ)) → glue [] (onto_first b xs) ≡ onto_first b xs
glue_onto b [] = refl
glue_onto b (x ∷ xs) = refl

glue_part : (t : Bool) (b : ℕ) (xs : List (List ℕ)) → glue [] (if t then [] ∷ xs else onto_first b xs) ≡ (if t then [] ∷ xs else onto_first b xs)
glue_part true b xs = refl
glue_part false b xs = glue_onto b xs

glue_none : (rest : List ℕ) → glue [] (slice_split is_space rest) ≡ slice_split is_space rest
glue_none [] = refl
glue_none (b ∷ rest) = glue_part (is_space b) b (slice_split is_space rest)

glue_more : (bytes : List ℕ) (b : ℕ) (xs : List (List ℕ)) → glue (bytes ++ b ∷ []) xs ≡ glue bytes (onto_first b xs)
glue_more bytes b [] = refl
glue_more bytes b (x ∷ xs) = ap (λ l. l ∷ xs) (append_assoc bytes (b ∷ []) x)

neither : (x y : Bool) → (x || y) ≡ false → (x ≡ false) × (y ≡ false)
neither true y is = absurd (cc)
neither false y is = (refl, is)

words_split : (text : List ℕ) (start : ℕ) (bytes : List ℕ) → has_parenthesis text ≡ false → texts (words_from start bytes true text) ≡ glue bytes (slice_split is_space text)
unfolding words_from has_parenthesis
words_split [] start bytes none = ap (λ (l : List ℕ). l ∷ []) (sym (append-nil bytes))
words_split (b ∷ rest) start bytes none =
    let both = neither (is_parenthesis b) (has_parenthesis rest) none in
    choose (is_space b) (texts (words_from start bytes true (b ∷ rest)) ≡ glue bytes (slice_split is_space (b ∷ rest)))
    (λ space.
    ap texts (cond-true (is_space b) (run_of start bytes true ++ words_from (start + length bytes + 1) [] true rest) _ space)
    ∙ ap (λ l. bytes ∷ l) (words_split rest (start + length bytes + 1) [] both.1 ∙ glue_none rest)
    ∙ ap (λ (l : List ℕ). l ∷ slice_split is_space rest) (sym (append-nil bytes))
    ∙ ap (glue bytes) (sym (cond-true (is_space b) ([] ∷ slice_split is_space rest) (onto_first b (slice_split is_space rest)) space)))
    (λ other.
    ap texts (cond-false (is_space b) _ _ other ∙ cond-false (is_parenthesis b) _ (words_from start (bytes ++ b ∷ []) true rest) both.0)
    ∙ words_split rest start (bytes ++ b ∷ []) both.1
    ∙ glue_more bytes b (slice_split is_space rest)
    ∙ ap (glue bytes) (sym (cond-false (is_space b) ([] ∷ slice_split is_space rest) (onto_first b (slice_split is_space rest)) other)))

chain_words : (text : List ℕ) → has_parenthesis text ≡ false → texts (condition_words text) ≡ words_of 0x20 text
unfolding condition_words
chain_words text none = words_split text 0 [] none ∙ glue_none text

-- ---- the words from a number on

abbrev left : List (ℕ × List ℕ) → ℕ → List (List ℕ)
left pairs i = texts (drop i pairs)

nil_cons : {A : Type 0} (x : A) (xs : List A) → [] ≡ x ∷ xs → ⊥
nil_cons x xs is = cc

cons_nil : {A : Type 0} (x : A) (xs : List A) → x ∷ xs ≡ [] → ⊥
cons_nil x xs is = cc

cons_same : {A : Type 0} (x y : A) (xs ys : List A) → x ∷ xs ≡ y ∷ ys → (x ≡ y) × (xs ≡ ys)
cons_same x y xs ys is = ((cc), (cc))

at_word : (ps : List (ℕ × List ℕ)) (i : ℕ) (w : List ℕ) (ws : List (List ℕ)) → left ps i ≡ w ∷ ws
    → (start : ℕ) × (slice_get ps i ≡ Some (start, w)) × (left ps (i + 1) ≡ ws) × (i < length ps)
at_word [] zero w ws is = absurd (nil_cons w ws is)
at_word [] (suc i) w ws is = absurd (nil_cons w ws is)
at_word (p ∷ ps) zero w ws is =
    let both = cons_same p.1 w (texts ps) ws is in
    (p.0, ap (λ (v : List ℕ). Some (p.0, v)) both.0, both.1, omega arith)
at_word (p ∷ ps) (suc i) w ws is =
    let more = at_word ps i w ws is in
    let next : suc i + 1 ≡ suc (i + 1) = omega arith in
    (more.0, more.1, ap (λ n. left (p ∷ ps) n) next ∙ more.2, omega (arith, more.3))

at_none : (ps : List (ℕ × List ℕ)) (i : ℕ) → left ps i ≡ [] → (slice_get ps i ≡ None) × (length ps ≤ i)
at_none [] zero is = (refl, omega arith)
at_none [] (suc i) is = (refl, omega arith)
at_none (p ∷ ps) zero is = absurd (cons_nil p.1 (texts ps) is)
at_none (p ∷ ps) (suc i) is = let more = at_none ps i is in (more.0, omega (arith, more.1))

past_end : (ps : List (ℕ × List ℕ)) (i : ℕ) → length ps ≤ i → left ps i ≡ []
past_end ps i end = ap texts (drop_all i ps end)

-- ---- what the reader says of a word

module _ (c : Context) (i start : ℕ) (w : List ℕ) (there : slice_get c.words i ≡ Some (start, w)) where
  says_ok : {X : Type 0} (f : List ℕ → Option X) (x : X) → f w ≡ Some x → says_at c f i ≡ Ok x
  unfolding says_at
  says_ok f x is = ap (λ (o : Option (ℕ × List ℕ)). ok_or (word_says f o) i) there ∙ ap (λ o. ok_or o i) is

  is_ok : (wanted : List ℕ) (b : Bool) → bytes_eq w wanted ≡ b → is_at c i wanted ≡ b
  unfolding is_at
  is_ok wanted b is = ap (is_word wanted) there ∙ is

  part_plain : (inside : Bool → Reader) (o : Opening) → bytes_eq w (codes "not") ≡ false → bytes_eq w (codes "(") ≡ false
      → opening_of c.image false w ≡ Some o → part c inside false i ≡ after_opening c inside false o (i + 1)
  unfolding part unit
  part_plain inside o no_not no_open opens =
      cond-false (is_at c i (codes "not")) _ _ (is_ok (codes "not") false no_not)
      ∙ cond-false (is_at c i (codes "(")) _ _ (is_ok (codes "(") false no_open)
      ∙ ap (λ (r : Result Opening ℕ). r >>= (λ (q : Opening). after_opening c inside false q (i + 1))) (says_ok (opening_of c.image false) o opens)

and_none : (x y : Bool) → y ≡ false → (x && y) ≡ false
and_none true y is = is
and_none false y is = refl

-- a word that begins a hart is no other word
digit_other : (w wanted : List ℕ) → is_digit w ≡ true → is_digit wanted ≡ false → bytes_eq w wanted ≡ false
digit_other w wanted is none =
    choose (bytes_eq w wanted) (bytes_eq w wanted ≡ false)
    (λ same. absurd (clash (is_digit w) is (ap is_digit ((bytes_eq-Decides w wanted).0 same) ∙ none))) (λ other. other)

-- nor is one that names a place
place_other : (image : ImageParts) (w wanted : List ℕ) (p : Place) → place_of image w ≡ Some p → place_of image wanted ≡ None → bytes_eq w wanted ≡ false
place_other image w wanted p is none =
    choose (bytes_eq w wanted) (bytes_eq w wanted ≡ false)
    (λ same. absurd (no_some p (sym none ∙ ap (place_of image) (sym ((bytes_eq-Decides w wanted).0 same)) ∙ is))) (λ other. other)

module _ (image : ImageParts) where
  unnamed_not : place_of image (codes "not") ≡ None
  unfolding place_of
  unnamed_not = refl

  unnamed_open : place_of image (codes "(") ≡ None
  unfolding place_of
  unnamed_open = refl

  unnamed_h : place_of image (codes "h") ≡ None
  unfolding place_of
  unnamed_h = refl

  unnamed_count : place_of image (codes "count") ≡ None
  unfolding place_of
  unnamed_count = refl

  unnamed_any : place_of image (codes "any") ≡ None
  unfolding place_of
  unnamed_any = refl

  unnamed_no : place_of image (codes "no") ≡ None
  unfolding place_of
  unnamed_no = refl

  unnamed_two : place_of image (codes "two") ≡ None
  unfolding place_of
  unnamed_two = refl

  unnamed_all : place_of image (codes "all") ≡ None
  unfolding place_of
  unnamed_all = refl

-- a place begins with a digit or with `m`, so that it is no `h.`
pub first_true : (x y : Bool) → (x && y) ≡ true → x ≡ true
first_true true y is = refl
first_true false y is = absurd (cc)

pub second_true : (x y : Bool) → (x && y) ≡ true → y ≡ true
second_true true y is = is
second_true false y is = absurd (cc)

each_head : (b : ℕ) (rest : List ℕ) → begins_each (b ∷ rest) ≡ true → b ≡ 0x68
each_head b rest is =
    let same : nat_eq 0x68 b ≡ true = first_true (nat_eq 0x68 b) _ is in grind (arith, nat_tests)

each_unnamed : (image : ImageParts) (rest : List ℕ) → place_of image (0x68 ∷ rest) ≡ None
unfolding place_of
each_unnamed image rest =
    let no_hart : begins_hart (0x68 ∷ rest) ≡ false =
    ap (λ t. t && (slice_index (0x68 ∷ rest) 1 == 0x2E)) (and_none (nat_le 2 (length (0x68 ∷ rest))) false refl) in
    let no_data : is_data (0x68 ∷ rest) ≡ false =
    ap (λ t. (t && (slice_index (0x68 ∷ rest) 4 == 0x5B)) && (slice_index (0x68 ∷ rest) (length (0x68 ∷ rest) - 1) == 0x5D))
    (and_none (nat_le 6 (length (0x68 ∷ rest))) false refl) in
    cond-false (begins_hart (0x68 ∷ rest)) _ _ no_hart ∙ cond-false (is_data (0x68 ∷ rest)) _ _ no_data

place_each : (image : ImageParts) (w : List ℕ) (p : Place) → place_of image w ≡ Some p → begins_each w ≡ false
place_each image [] p is = refl
place_each image (b ∷ rest) p is =
    choose (begins_each (b ∷ rest)) (begins_each (b ∷ rest) ≡ false)
    (λ so. absurd (no_some p (sym (ap (λ n. place_of image (n ∷ rest)) (each_head b rest so) ∙ each_unnamed image rest) ∙ is)))
    (λ other. other)

-- a number doesn't begin with `&`
amp_none : (rest : List ℕ) → number_in (0x26 ∷ rest) ≡ None
unfolding number_in number_of written_number numeral_in
amp_none rest =
    let no_hexadecimal : begins_hexadecimal (0x26 ∷ rest) ≡ false =
    ap (λ t. t && (slice_index (0x26 ∷ rest) 1 == 0x78)) (and_none (nat_le 2 (length (0x26 ∷ rest))) false refl) in
    let no_numeral : is_numeral 10 (0x26 ∷ rest) ≡ false = and_none (not (length (0x26 ∷ rest) == 0)) false refl in
    let none : written_number (0x26 ∷ rest) ≡ None = cond-false (begins_hexadecimal (0x26 ∷ rest)) _ _ no_hexadecimal ∙ cond-false (is_numeral 10 (0x26 ∷ rest)) _ _ no_numeral in
    ap (λ (o : Option ℕ). number_read (ok_or (option_map within_128_bits o) Operand)) none

number_address : (w : List ℕ) (n : ℕ) → number_in w ≡ Some n → begins_address w ≡ false
number_address [] n is = refl
number_address (b ∷ rest) n is =
    choose (begins_address (b ∷ rest)) (begins_address (b ∷ rest) ≡ false)
    (λ so.
    let same : (b == 0x26) ≡ true = second_true (nat_le 1 (length (b ∷ rest))) (b == 0x26) so in
    let amp : b ≡ 0x26 = grind (arith, nat_tests) in
    absurd (no_some n (sym (ap (λ m. number_in (m ∷ rest)) amp ∙ amp_none rest) ∙ is)))
    (λ other. other)

-- ---- the plain atoms as atoms of conditions

abbrev source_for : Place → Source
source_for (place.Value held read) = source.Value held read
source_for (place.Data addr width) = source.Data addr width

source_is : (p : Place) → source_at (Some p) ≡ Some (source_for p)
source_is (place.Value held read) = refl
source_is (place.Data addr width) = refl

abbrev atom_for : Plain → Atom
atom_for (Compares p comparison n) = atom.Compares (source_for p) comparison (term.Number n)
atom_for (HasStatus hart test) = atom.HasStatus (who.Numbered hart) test
atom_for (Reaches hart addr perms) = atom.Reaches (who.Numbered hart) addr perms

same_atom : (state : MachineState) (a : Plain) → atom_holds state 0 (atom_for a) ≡ plain_holds state a
unfolding atom_holds plain_holds source_number term_number value.number_of value.compares value.number_at
same_atom state (Compares (place.Value held read) comparison n) = refl
same_atom state (Compares (place.Data addr width) comparison n) = refl
same_atom state (HasStatus hart test) = refl
same_atom state (Reaches hart addr perms) = refl

abbrev all_joined : Formula → List Plain → Formula
all_joined f [] = f
all_joined f (a ∷ rest) = all_joined (join joint.And f (says (atom_for a))) rest

and_assoc : (x y z : Bool) → ((x && y) && z) ≡ (x && (y && z))
and_assoc true y z = refl
and_assoc false y z = refl

and_true : (x : Bool) → (x && true) ≡ x
and_true true = refl
and_true false = refl

joined_holds : (state : MachineState) (f : Formula) (rest : List Plain) → is_so state 0 (all_joined f rest) ≡ (is_so state 0 f && list_all (plain_holds state) rest)
unfolding is_so joined
joined_holds state f [] = sym (and_true (is_so state 0 f))
joined_holds state f (a ∷ rest) =
    joined_holds state (join joint.And f (says (atom_for a))) rest
    ∙ ap (λ x. (is_so state 0 f && x) && list_all (plain_holds state) rest) (same_atom state a)
    ∙ and_assoc (is_so state 0 f) (plain_holds state a) (list_all (plain_holds state) rest)

-- ---- what a chain's reader took

ok_same : {A : Type 0} (x y : A) → okay x ≡ okay y → x ≡ y
ok_same x y is = cc

some_same : {A : Type 0} (x y : A) → Some x ≡ Some y → x ≡ y
some_same x y is = cc

taken : (image : ImageParts) (e : Expected) (n : ℕ) (w : List ℕ) (ws : List (List ℕ)) (atoms : List Plain) → atoms_from image e n (w ∷ ws) ≡ Ok atoms
    → (step : Step) × (rest : List Plain) × (step_of image e w ≡ Some step) × (atoms_from image (expected_after step) (n + 1) ws ≡ Ok rest) × (ended_by step ++ rest ≡ atoms)
unfolding atoms_from
taken image e n w ws atoms is =
    let step = bound (ok_or (step_of image e w) n) _ atoms is in
    let rest = bound (atoms_from image (expected_after step.0) (n + 1) ws) _ atoms step.2 in
    (step.0, rest.0, given (step_of image e w) n step.0 step.1, rest.1, ok_same (ended_by step.0 ++ rest.0) atoms rest.2)

-- a word that goes on, or that ends an atom
went_on : (image : ImageParts) (e next : Expected) (n : ℕ) (w : List ℕ) (ws : List (List ℕ)) (atoms : List Plain) → atoms_from image e n (w ∷ ws) ≡ Ok atoms
    → step_of image e w ≡ Some (Expects next) → atoms_from image next (n + 1) ws ≡ Ok atoms
went_on image e next n w ws atoms is goes =
    let step = taken image e n w ws atoms is in
    let same : step.0 ≡ Expects next = some_same step.0 (Expects next) (sym step.2 ∙ goes) in
    let rest : step.1 ≡ atoms = ap (λ (s : Step). ended_by s ++ step.1) (sym same) ∙ step.4 in
    ap (λ (s : Step). atoms_from image (expected_after s) (n + 1) ws) (sym same) ∙ step.3 ∙ ap Ok rest

ended : (image : ImageParts) (e : Expected) (a : Plain) (n : ℕ) (w : List ℕ) (ws : List (List ℕ)) (atoms : List Plain) → atoms_from image e n (w ∷ ws) ≡ Ok atoms
    → step_of image e w ≡ Some (Ends a) → (rest : List Plain) × (atoms_from image And (n + 1) ws ≡ Ok rest) × (a ∷ rest ≡ atoms)
ended image e a n w ws atoms is goes =
    let step = taken image e n w ws atoms is in
    let same : step.0 ≡ Ends a = some_same step.0 (Ends a) (sym step.2 ∙ goes) in
    (step.1, ap (λ (s : Step). atoms_from image (expected_after s) (n + 1) ws) (sym same) ∙ step.3, ap (λ (s : Step). ended_by s ++ step.1) (sym same) ∙ step.4)

verb_some : (o : Option ℕ) (s : Step) → chains.verb o ≡ Some s → (h : ℕ) × (o ≡ Some h) × (Expects (Verb h) ≡ s)
verb_some (Some h) s is = (h, refl, some_same (Expects (Verb h)) s is)
verb_some None s is = absurd (no_some s is)

comparing_some : (o : Option Place) (s : Step) → comparing o ≡ Some s → (p : Place) × (o ≡ Some p) × (Expects (Comparing p) ≡ s)
comparing_some (Some p) s is = (p, refl, some_same (Expects (Comparing p)) s is)
comparing_some None s is = absurd (no_some s is)

number_some : (p : Place) (o : Option Comparison) (s : Step) → chains.number_after p o ≡ Some s → (k : Comparison) × (o ≡ Some k) × (Expects (Number p k) ≡ s)
number_some p (Some k) s is = (k, refl, some_same (Expects (Number p k)) s is)
number_some p None s is = absurd (no_some s is)

compared_some : (p : Place) (k : Comparison) (o : Option ℕ) (s : Step) → chains.compared p k o ≡ Some s → (n : ℕ) × (o ≡ Some n) × (Ends (Compares p k n) ≡ s)
compared_some p k (Some n) s is = (n, refl, some_same (Ends (Compares p k n)) s is)
compared_some p k None s is = absurd (no_some s is)

status_some : (h : ℕ) (o : Option StatusTest) (s : Step) → chains.in_status h o ≡ Some s → (t : StatusTest) × (o ≡ Some t) × (Ends (HasStatus h t) ≡ s)
status_some h (Some t) s is = (t, refl, some_same (Ends (HasStatus h t)) s is)
status_some h None s is = absurd (no_some s is)

address_some : (h : ℕ) (o : Option ℕ) (s : Step) → chains.permissions_after h o ≡ Some s → (a : ℕ) × (o ≡ Some a) × (Expects (Permissions h a) ≡ s)
address_some h (Some a) s is = (a, refl, some_same (Expects (Permissions h a)) s is)
address_some h None s is = absurd (no_some s is)

reaching_some : (h a : ℕ) (o : Option Perms) (s : Step) → chains.reaching h a o ≡ Some s → (p : Perms) × (o ≡ Some p) × (Ends (Reaches h a p) ≡ s)
reaching_some h a (Some p) s is = (p, refl, some_same (Ends (Reaches h a p)) s is)
reaching_some h a None s is = absurd (no_some s is)

-- ---- an atom, as both readers take it

place_first : (image : ImageParts) (w wanted : List ℕ) (p : Place) → place_of image w ≡ Some p → place_of image wanted ≡ None → bytes_eq wanted w ≡ false
place_first image w wanted p is none =
    choose (bytes_eq wanted w) (bytes_eq wanted w ≡ false)
    (λ same. absurd (no_some p (sym none ∙ ap (place_of image) ((bytes_eq-Decides wanted w).0 same) ∙ is))) (λ other. other)

no_quantifier : (image : ImageParts) (w : List ℕ) (p : Place) → place_of image w ≡ Some p → found_at quantifier_table w ≡ None
unfolding found_at
no_quantifier image w p is =
    cond-false (bytes_eq (codes "any") w) _ _ (place_first image w (codes "any") p is (unnamed_any image))
    ∙ cond-false (bytes_eq (codes "no") w) _ _ (place_first image w (codes "no") p is (unnamed_no image))
    ∙ cond-false (bytes_eq (codes "two") w) _ _ (place_first image w (codes "two") p is (unnamed_two image))
    ∙ cond-false (bytes_eq (codes "all") w) _ _ (place_first image w (codes "all") p is (unnamed_all image))

no_count : (image : ImageParts) (w : List ℕ) (p : Place) → place_of image w ≡ Some p → count_of w ≡ None
unfolding count_of
no_count image w p is =
    cond-false (bytes_eq w (codes "count")) _ _ (place_other image w (codes "count") p is (unnamed_count image))
    ∙ ap quantifier_opening (no_quantifier image w p is)

source_read : (image : ImageParts) (w : List ℕ) (p : Place) → place_of image w ≡ Some p → source_of image false w ≡ Some (source_for p)
unfolding source_of
source_read image w p is = cond-false (begins_each w) _ _ (place_each image w p is) ∙ ap source_at is ∙ source_is p

opening_hart : (image : ImageParts) (w : List ℕ) (h : ℕ) → is_digit w ≡ true → hart_numbered image (slice_index w 0 - 0x30) ≡ Some h
    → opening_of image false w ≡ Some (opening.Hart (who.Numbered h))
unfolding opening_of
opening_hart image w h digit is = cond-true (is_digit w) _ _ digit ∙ ap hart_opening is

opening_place : (image : ImageParts) (w : List ℕ) (p : Place) → is_digit w ≡ false → place_of image w ≡ Some p
    → opening_of image false w ≡ Some (opening.Source (source_for p))
unfolding opening_of count_or_source
opening_place image w p digit is =
    cond-false (is_digit w) _ _ digit
    ∙ cond-false (bytes_eq w (codes "h")) _ _ (place_other image w (codes "h") p is (unnamed_h image))
    ∙ ap (λ (o : Option Opening). count_or false o (source_opening (source_of image false w))) (no_count image w p is)
    ∙ ap source_opening (source_read image w p is)

term_read : (labels : LabelParts) (image : ImageParts) (w : List ℕ) (n : ℕ) → number_in w ≡ Some n → term_of labels image false w ≡ Some (term.Number n)
unfolding term_of
term_read labels image w n is =
    cond-false (begins_address w) _ _ (number_address w n is) ∙ ap (λ (o : Option ℕ). number_or o (source_of image false w)) is

verb_is : verb_of false (codes "is") ≡ Some verbs.Is
unfolding verb_of found_at
verb_is = refl

verb_reaches : verb_of false (codes "reaches") ≡ Some verbs.Reaches
unfolding verb_of found_at
verb_reaches = refl

same_word : (w wanted : List ℕ) → bytes_eq w wanted ≡ true → w ≡ wanted
same_word w wanted is = (bytes_eq-Decides w wanted).0 is

-- the reader's side, of each kind of atom
compared_read : (c : Context) (inside : Bool → Reader) (from : Source) (k : Comparison) (n i : ℕ) → says_at c comparison_of i ≡ Ok k
    → says_at c (term_of c.labels c.image false) (i + 1) ≡ Ok (term.Number n)
    → after_opening c inside false (opening.Source from) i ≡ Ok (says (atom.Compares from k (term.Number n)), i + 2)
unfolding after_opening compared
compared_read c inside from k n i one other = rw (one, other) refl

status_read : (c : Context) (inside : Bool → Reader) (h i : ℕ) (t : StatusTest) → says_at c (verb_of false) i ≡ Ok verbs.Is → says_at c status_of (i + 1) ≡ Ok t
    → after_opening c inside false (opening.Hart (who.Numbered h)) i ≡ Ok (says (atom.HasStatus (who.Numbered h) t), i + 1 + 1)
unfolding after_opening said_of said_after
status_read c inside h i t one other = rw (one, other) refl

reaches_read : (c : Context) (inside : Bool → Reader) (h i addr : ℕ) (perms : Perms) → says_at c (verb_of false) i ≡ Ok verbs.Reaches
    → says_at c address_in_word (i + 1) ≡ Ok addr → says_at c permissions_in (i + 1 + 1) ≡ Ok perms
    → after_opening c inside false (opening.Hart (who.Numbered h)) i ≡ Ok (says (atom.Reaches (who.Numbered h) addr perms), i + 1 + 2)
unfolding after_opening said_of said_after
reaches_read c inside h i addr perms one two three = rw (one, two, three) refl

-- an atom that begins at a word: what both readers make of it, and where it ends
record Read (c : Context) (inside : Bool → Reader) (i : ℕ) (atoms : List Plain) : Type 0 where
  first : Plain
  rest : List Plain
  next : ℕ
  words : List (List ℕ)
  all : first ∷ rest ≡ atoms
  part_is : part c inside false i ≡ Ok (says (atom_for first), next)
  left_is : left c.words next ≡ words
  rest_is : atoms_from c.image And next words ≡ Ok rest
  later : i < next
  room : next ≤ length c.words

no_more : (image : ImageParts) (e : Expected) (n : ℕ) (atoms : List Plain) → may_end e ≡ false → atoms_from image e n [] ≡ Ok atoms → ⊥
unfolding atoms_from
no_more image e n atoms goes is =
    let fails : Err n ≡ Ok atoms = sym (cond-false (may_end e) _ _ goes) ∙ is in cc

-- a place, what compares, and a number
place_at : (c : Context) (inside : Bool → Reader) (i start : ℕ) (w : List ℕ) (ws : List (List ℕ)) (atoms : List Plain) (p : Place)
    → slice_get c.words i ≡ Some (start, w) → left c.words (i + 1) ≡ ws → is_digit w ≡ false → place_of c.image w ≡ Some p
    → atoms_from c.image (Comparing p) (i + 1) ws ≡ Ok atoms → Read c inside i atoms
unfolding step_of
place_at c inside i start w [] atoms p there after digit names is = absurd (no_more c.image (Comparing p) (i + 1) atoms refl is)
place_at c inside i start w (w1 ∷ []) atoms p there after digit names is =
    let s = taken c.image (Comparing p) (i + 1) w1 [] atoms is in
    let k = number_some p (comparison_of w1) s.0 s.2 in
    absurd (no_more c.image (Number p k.0) (i + 1 + 1) atoms refl
    (went_on c.image (Comparing p) (Number p k.0) (i + 1) w1 [] atoms is (ap (chains.number_after p) k.1)))
place_at c inside i start w (w1 ∷ w2 ∷ ws) atoms p there after digit names is =
    let one = at_word c.words (i + 1) w1 (w2 ∷ ws) after in
    let two = at_word c.words (i + 1 + 1) w2 ws one.2 in
    let s = taken c.image (Comparing p) (i + 1) w1 (w2 ∷ ws) atoms is in
    let k = number_some p (comparison_of w1) s.0 s.2 in
    let goes = went_on c.image (Comparing p) (Number p k.0) (i + 1) w1 (w2 ∷ ws) atoms is (ap (chains.number_after p) k.1) in
    let t = taken c.image (Number p k.0) (i + 1 + 1) w2 ws atoms goes in
    let n = compared_some p k.0 (number_in w2) t.0 t.2 in
    let last = ended c.image (Number p k.0) (Compares p k.0 n.0) (i + 1 + 1) w2 ws atoms goes (ap (chains.compared p k.0) n.1) in
    let place_end : i + 1 + 1 + 1 ≡ i + 1 + 2 = omega arith in
    record {
      first = Compares p k.0 n.0;
      rest = last.0;
      next = i + 1 + 2;
      words = ws;
      all = last.2;
      part_is =
          part_plain c i start w there inside (opening.Source (source_for p))
          (place_other c.image w (codes "not") p names (unnamed_not c.image)) (place_other c.image w (codes "(") p names (unnamed_open c.image))
          (opening_place c.image w p digit names)
          ∙ compared_read c inside (source_for p) k.0 n.0 (i + 1) (says_ok c (i + 1) one.0 w1 one.1 comparison_of k.0 k.1)
          (says_ok c (i + 1 + 1) two.0 w2 two.1 (term_of c.labels c.image false) (term.Number n.0) (term_read c.labels c.image w2 n.0 n.1));
      left_is = ap (left c.words) (sym place_end) ∙ two.2;
      rest_is = ap (λ m. atoms_from c.image And m ws) (sym place_end) ∙ last.1;
      later = omega arith;
      room = omega (arith, two.3);
    }

-- a hart, `is` and a status
status_at : (c : Context) (inside : Bool → Reader) (i start : ℕ) (w w1 : List ℕ) (ws : List (List ℕ)) (atoms : List Plain) (h : ℕ)
    → slice_get c.words i ≡ Some (start, w) → left c.words (i + 1) ≡ w1 ∷ ws → is_digit w ≡ true → hart_numbered c.image (slice_index w 0 - 0x30) ≡ Some h
    → w1 ≡ codes "is" → atoms_from c.image (Status h) (i + 1 + 1) ws ≡ Ok atoms → Read c inside i atoms
unfolding step_of
status_at c inside i start w w1 [] atoms h there after digit numbered named is = absurd (no_more c.image (Status h) (i + 1 + 1) atoms refl is)
status_at c inside i start w w1 (w2 ∷ ws) atoms h there after digit numbered named is =
    let one = at_word c.words (i + 1) w1 (w2 ∷ ws) after in
    let two = at_word c.words (i + 1 + 1) w2 ws one.2 in
    let s = taken c.image (Status h) (i + 1 + 1) w2 ws atoms is in
    let t = status_some h (status_of w2) s.0 s.2 in
    let last = ended c.image (Status h) (HasStatus h t.0) (i + 1 + 1) w2 ws atoms is (ap (chains.in_status h) t.1) in
    record {
      first = HasStatus h t.0;
      rest = last.0;
      next = i + 1 + 1 + 1;
      words = ws;
      all = last.2;
      part_is =
          part_plain c i start w there inside (opening.Hart (who.Numbered h))
          (digit_other w (codes "not") digit refl) (digit_other w (codes "(") digit refl) (opening_hart c.image w h digit numbered)
          ∙ status_read c inside h (i + 1) t.0 (says_ok c (i + 1) one.0 w1 one.1 (verb_of false) verbs.Is (ap (verb_of false) named ∙ verb_is))
          (says_ok c (i + 1 + 1) two.0 w2 two.1 status_of t.0 t.1);
      left_is = two.2;
      rest_is = last.1;
      later = omega arith;
      room = omega (arith, two.3);
    }

-- a hart, `reaches`, an address and permissions
reaches_at : (c : Context) (inside : Bool → Reader) (i start : ℕ) (w w1 : List ℕ) (ws : List (List ℕ)) (atoms : List Plain) (h : ℕ)
    → slice_get c.words i ≡ Some (start, w) → left c.words (i + 1) ≡ w1 ∷ ws → is_digit w ≡ true → hart_numbered c.image (slice_index w 0 - 0x30) ≡ Some h
    → w1 ≡ codes "reaches" → atoms_from c.image (Address h) (i + 1 + 1) ws ≡ Ok atoms → Read c inside i atoms
unfolding step_of
reaches_at c inside i start w w1 [] atoms h there after digit numbered named is = absurd (no_more c.image (Address h) (i + 1 + 1) atoms refl is)
reaches_at c inside i start w w1 (w2 ∷ []) atoms h there after digit numbered named is =
    let s = taken c.image (Address h) (i + 1 + 1) w2 [] atoms is in
    let a = address_some h (address_in_word w2) s.0 s.2 in
    absurd (no_more c.image (Permissions h a.0) (i + 1 + 1 + 1) atoms refl
    (went_on c.image (Address h) (Permissions h a.0) (i + 1 + 1) w2 [] atoms is (ap (chains.permissions_after h) a.1)))
reaches_at c inside i start w w1 (w2 ∷ w3 ∷ ws) atoms h there after digit numbered named is =
    let one = at_word c.words (i + 1) w1 (w2 ∷ w3 ∷ ws) after in
    let two = at_word c.words (i + 1 + 1) w2 (w3 ∷ ws) one.2 in
    let three = at_word c.words (i + 1 + 1 + 1) w3 ws two.2 in
    let s = taken c.image (Address h) (i + 1 + 1) w2 (w3 ∷ ws) atoms is in
    let a = address_some h (address_in_word w2) s.0 s.2 in
    let goes = went_on c.image (Address h) (Permissions h a.0) (i + 1 + 1) w2 (w3 ∷ ws) atoms is (ap (chains.permissions_after h) a.1) in
    let t = taken c.image (Permissions h a.0) (i + 1 + 1 + 1) w3 ws atoms goes in
    let p = reaching_some h a.0 (permissions_in w3) t.0 t.2 in
    let last = ended c.image (Permissions h a.0) (Reaches h a.0 p.0) (i + 1 + 1 + 1) w3 ws atoms goes (ap (chains.reaching h a.0) p.1) in
    let place_end : i + 1 + 1 + 1 + 1 ≡ i + 1 + 1 + 2 = omega arith in
    record {
      first = Reaches h a.0 p.0;
      rest = last.0;
      next = i + 1 + 1 + 2;
      words = ws;
      all = last.2;
      part_is =
          part_plain c i start w there inside (opening.Hart (who.Numbered h))
          (digit_other w (codes "not") digit refl) (digit_other w (codes "(") digit refl) (opening_hart c.image w h digit numbered)
          ∙ reaches_read c inside h (i + 1) a.0 p.0 (says_ok c (i + 1) one.0 w1 one.1 (verb_of false) verbs.Reaches (ap (verb_of false) named ∙ verb_reaches))
          (says_ok c (i + 1 + 1) two.0 w2 two.1 address_in_word a.0 a.1) (says_ok c (i + 1 + 1 + 1) three.0 w3 three.1 permissions_in p.0 p.1);
      left_is = ap (left c.words) (sym place_end) ∙ three.2;
      rest_is = ap (λ m. atoms_from c.image And m ws) (sym place_end) ∙ last.1;
      later = omega arith;
      room = omega (arith, three.3);
    }

-- a hart, and what is said of it
verb_word : (c : Context) (inside : Bool → Reader) (i start : ℕ) (w : List ℕ) (ws : List (List ℕ)) (atoms : List Plain) (h : ℕ)
    → slice_get c.words i ≡ Some (start, w) → left c.words (i + 1) ≡ ws → is_digit w ≡ true → hart_numbered c.image (slice_index w 0 - 0x30) ≡ Some h
    → atoms_from c.image (Verb h) (i + 1) ws ≡ Ok atoms → Read c inside i atoms
unfolding step_of after_hart
verb_word c inside i start w [] atoms h there after digit numbered is = absurd (no_more c.image (Verb h) (i + 1) atoms refl is)
verb_word c inside i start w (w1 ∷ ws) atoms h there after digit numbered is =
    choose (bytes_eq w1 (codes "is")) (Read c inside i atoms)
    (λ so.
    status_at c inside i start w w1 ws atoms h there after digit numbered (same_word w1 (codes "is") so)
    (went_on c.image (Verb h) (Status h) (i + 1) w1 ws atoms is (cond-true (bytes_eq w1 (codes "is")) _ _ so)))
    (λ other.
    choose (bytes_eq w1 (codes "reaches")) (Read c inside i atoms)
    (λ so.
    reaches_at c inside i start w w1 ws atoms h there after digit numbered (same_word w1 (codes "reaches") so)
    (went_on c.image (Verb h) (Address h) (i + 1) w1 ws atoms is
    (cond-false (bytes_eq w1 (codes "is")) _ _ other ∙ cond-true (bytes_eq w1 (codes "reaches")) _ _ so)))
    (λ none.
    let s = taken c.image (Verb h) (i + 1) w1 ws atoms is in
    absurd (no_some s.0
    (sym (cond-false (bytes_eq w1 (codes "is")) _ _ other ∙ cond-false (bytes_eq w1 (codes "reaches")) _ _ none) ∙ s.2))))

atom_at : (c : Context) (inside : Bool → Reader) (i : ℕ) (words : List (List ℕ)) (atoms : List Plain) → left c.words i ≡ words
    → atoms_from c.image Subject i words ≡ Ok atoms → Read c inside i atoms
unfolding step_of subject
atom_at c inside i [] atoms here is = absurd (no_more c.image Subject i atoms refl is)
atom_at c inside i (w ∷ ws) atoms here is =
    let at = at_word c.words i w ws here in
    let s = taken c.image Subject i w ws atoms is in
    choose (is_digit w) (Read c inside i atoms)
    (λ digit.
    let h = verb_some (hart_numbered c.image (slice_index w 0 - 0x30)) s.0 (sym (cond-true (is_digit w) _ _ digit) ∙ s.2) in
    verb_word c inside i at.0 w ws atoms h.0 at.1 at.2 digit h.1
    (went_on c.image Subject (Verb h.0) i w ws atoms is (cond-true (is_digit w) _ _ digit ∙ ap chains.verb h.1)))
    (λ other.
    let p = comparing_some (place_of c.image w) s.0 (sym (cond-false (is_digit w) _ _ other) ∙ s.2) in
    place_at c inside i at.0 w ws atoms p.0 at.1 at.2 other p.1
    (went_on c.image Subject (Comparing p.0) i w ws atoms is (cond-false (is_digit w) _ _ other ∙ ap comparing p.1)))

-- ---- all atoms

nothing_at : (c : Context) (i : ℕ) (wanted : List ℕ) → slice_get c.words i ≡ None → is_at c i wanted ≡ false
unfolding is_at
nothing_at c i wanted none = ap (is_word wanted) none

ends_none : (image : ImageParts) (n : ℕ) (rest : List Plain) → atoms_from image And n [] ≡ Ok rest → rest ≡ []
unfolding atoms_from
ends_none image n rest is = sym (ok_same [] rest is)

ended_all : (c : Context) (f : Formula) (j : ℕ) (words : List (List ℕ)) (rest : List Plain) → j ≤ length c.words → length c.words ≤ j → left c.words j ≡ words
    → atoms_from c.image And j words ≡ Ok rest → okay {A = Formula × ℕ} (f, j) ≡ Ok (all_joined f rest, length c.words)
ended_all c f j words rest room past here is =
    let none : words ≡ [] = sym here ∙ past_end c.words j past in
    let rest_none = ends_none c.image j rest (ap (λ l. atoms_from c.image And j l) (sym none) ∙ is) in
    let end : j ≡ length c.words = omega (arith, room, past) in
    ap (λ (l : List Plain). Ok (all_joined f l, j)) (sym rest_none) ∙ ap (λ n. Ok (all_joined f rest, n)) end

more_atoms : (c : Context) (inside : Bool → Reader) (fuel : ℕ) (f : Formula) (j : ℕ) (words : List (List ℕ)) (rest : List Plain) → length c.words ≤ j + fuel
    → j ≤ length c.words → left c.words j ≡ words → atoms_from c.image And j words ≡ Ok rest
    → joined_to c joint.And (part c inside false) fuel f j ≡ Ok (all_joined f rest, length c.words)
unfolding joined_to step_of
more_atoms c inside zero f j words rest fuel room here is = ended_all c f j words rest room (omega (arith, fuel)) here is
more_atoms c inside (suc more) f j [] rest fuel room here is =
    let none = at_none c.words j here in
    cond-false (is_at c j (codes "and")) _ _ (nothing_at c j (codes "and") none.0) ∙ ended_all c f j [] rest room none.1 here is
more_atoms c inside (suc more) f j (w ∷ ws) rest fuel room here is =
    let at = at_word c.words j w ws here in
    let s = taken c.image And j w ws rest is in
    choose (bytes_eq w (codes "and")) (joined_to c joint.And (part c inside false) (suc more) f j ≡ Ok (all_joined f rest, length c.words))
    (λ so.
    let read = atom_at c inside (j + 1) ws rest at.2 (went_on c.image And Subject j w ws rest is (cond-true (bytes_eq w (codes "and")) _ _ so)) in
    cond-true (is_at c j (codes "and")) _ _ (is_ok c j at.0 w at.1 (codes "and") true so)
    ∙ ap (λ (r : Result (Formula × ℕ) ℕ). r >>= (λ (q : Formula × ℕ). joined_to c joint.And (part c inside false) more (join joint.And f q.0) q.1)) read.part_is
    ∙ more_atoms c inside more (join joint.And f (says (atom_for read.first))) read.next read.words read.rest
    (let past = read.later in omega (arith, fuel, past)) read.room read.left_is read.rest_is
    ∙ ap (λ (l : List Plain). Ok (all_joined f l, length c.words)) read.all)
    (λ other. absurd (no_some s.0 (sym (cond-false (bytes_eq w (codes "and")) _ _ other) ∙ s.2)))

chain_read : (c : Context) (inside : Bool → Reader) (atoms : List Plain) → atoms_from c.image Subject 0 (left c.words 0) ≡ Ok atoms
    → (first : Plain) × (rest : List Plain) × (first ∷ rest ≡ atoms)
    × (chain c joint.And (part c inside false) 0 ≡ Ok (all_joined (says (atom_for first)) rest, length c.words))
unfolding chain
chain_read c inside atoms is =
    let read = atom_at c inside 0 (left c.words 0) atoms refl is in (
      read.first,
      read.rest,
      read.all,
      ap (λ (r : Result (Formula × ℕ) ℕ). r >>= (λ (q : Formula × ℕ). joined_to c joint.And (part c inside false) (length c.words) q.0 q.1)) read.part_is
          ∙ more_atoms c inside (length c.words) (says (atom_for read.first)) read.next read.words read.rest (omega arith) read.room read.left_is read.rest_is,
    )

no_or : (c : Context) (item : Reader) (fuel : ℕ) (f : Formula) → joined_to c joint.Or item fuel f (length c.words) ≡ Ok (f, length c.words)
unfolding joined_to
no_or c item zero f = refl
no_or c item (suc more) f =
    let none = at_none c.words (length c.words) (past_end c.words (length c.words) (omega arith)) in
    cond-false (is_at c (length c.words) (codes "or")) _ _ (nothing_at c (length c.words) (codes "or") none.0)

whole_read : (c : Context) (atoms : List Plain) → atoms_from c.image Subject 0 (left c.words 0) ≡ Ok atoms
    → (first : Plain) × (rest : List Plain) × (first ∷ rest ≡ atoms) × (whole c ≡ Ok (all_joined (says (atom_for first)) rest))
unfolding whole chain item_of
whole_read c atoms is =
    let read = chain_read c (in_parentheses c MAX_PARENTHESES) atoms is in
    let f = all_joined (says (atom_for read.0)) read.1 in
    let all : chain c joint.Or (item_of c joint.Or (in_parentheses c MAX_PARENTHESES) false) 0 ≡ Ok (f, length c.words) =
    ap (λ (r : Result (Formula × ℕ) ℕ). r >>= (λ (q : Formula × ℕ). joined_to c joint.Or (item_of c joint.Or (in_parentheses c MAX_PARENTHESES) false) (length c.words) q.0 q.1)) read.3
    ∙ no_or c (item_of c joint.Or (in_parentheses c MAX_PARENTHESES) false) (length c.words) f in
    let same : (length c.words == length c.words) ≡ true = grind (arith, nat_tests) in (
      read.0,
      read.1,
      read.2,
      ap (λ (r : Result (Formula × ℕ) ℕ). r >>= (λ (q : Formula × ℕ). if q.1 == length c.words then Ok q.0 else Err q.1)) all
          ∙ cond-true (length c.words == length c.words) _ _ same,
    )

first_holds : (state : MachineState) (a : Plain) (rest : List Plain) → is_so state 0 (all_joined (says (atom_for a)) rest) ≡ chain_holds state (a ∷ rest)
unfolding chain_holds is_so
first_holds state a rest = joined_holds state (says (atom_for a)) rest ∙ ap (λ x. x && list_all (plain_holds state) rest) (same_atom state a)

pub as_chain : (labels : LabelParts) (image : ImageParts) (text : List ℕ) (atoms : List Plain) → length text ≤ MAX_BYTES → has_parenthesis text ≡ false
    → chains.chain_of image text ≡ Ok atoms → HoldsAsChain (condition_of labels image text) atoms
unfolding condition_of chains.chain_of holds
as_chain labels image text atoms short plain is =
    let c : Context = record { labels = labels; image = image; words = condition_words text } in
    let words : left c.words 0 ≡ words_of 0x20 text = chain_words text plain in
    let read = whole_read c atoms (ap (λ l. atoms_from image Subject 0 l) words ∙ is) in
    let f = all_joined (says (atom_for read.0)) read.1 in
    let room : nat_lt MAX_BYTES (length text) ≡ false = grind (arith, nat_tests) in
    let all : condition_of labels image text ≡ Ok (nodes_of f) = cond-false (nat_lt MAX_BYTES (length text)) _ _ room ∙ ap (nodes_or_byte text (condition_words text)) read.3 in
    subst (λ (r : Result (List Node) ℕ). HoldsAsChain r atoms) (sym all)
    (λ state. ap (is_so state 0) (given_back f (nodes_of f) refl) ∙ first_holds state read.0 read.1 ∙ ap (chain_holds state) read.2)
