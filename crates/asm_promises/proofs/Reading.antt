-- Files as they are read: no longer than files may be, with no more statements than bytes.
use Rattle.std.proofs.Common.{◌≡◌, ℕ, zero, suc, ◌+◌, ◌≤◌, ◌==◌, nat_lt, Bool, true, false, cond, List, [], ◌∷◌, ◌++◌, length, take, Result, Ok, All, refl, sym, ap, subst, append-nil, append_assoc, arith}
use Rattle.std.proofs.lemmas.Bool.Decides.{nat_tests}
use Rattle.std.proofs.lemmas.List.{length-append}
use Rattle.std.proofs.lemmas.List.Elements.{All-nil, All-cons, All-head, All-tail, All-push, All-weaker}
use Rattle.canonical.proofs.round_trip.Ranges.{test_false}
use Rattle.asm_tokens.specs.declared.fault.AsmFault.{AsmFault}
use Rattle.asm_tokens.specs.declared.fault.AsmFaultKind.TheVariants as faults
use Rattle.asm_tokens.specs.declared.lexemes.Lexeme.{Lexeme}
use Rattle.asm_tokens.specs.declared.lexemes.Lexeme.TheVariants.{Blank, Token, Bad}
use Rattle.asm_tokens.specs.declared.place.Place.{Place}
use Rattle.asm_tokens.specs.declared.token.TokenKind.TheVariants as kinds
use Rattle.asm_tokens.specs.Faults.{◌>>=◌}
use Rattle.asm_tokens.specs.Lexemes.{lexeme_of}
use Rattle.asm_tokens.specs.Places.{start, after_byte}
use Rattle.asm_tokens.specs.Tokens.{TokenParts, opens_after, then_rest, tokens_from, tokens_of}
use Rattle.asm_statements.specs.Statements.{StatementParts, statement_of, next_at, statements_up_to, statements_of}
use Rattle.asm_files.specs.declared.texts.TheConstants.{MAX_FILE}
use Rattle.asm_files.specs.Faults.{of_file, whole_file}
use Rattle.asm_files.specs.Steps.{each_from}
use Rattle.asm_files.specs.Sections.{numbered}
use Rattle.asm_files.specs.Programs.{FileParts, ProgramParts}
use Rattle.asm_files.specs.Files.{length_judged, length_step, lengths_judged, file_of, file_read, files_of, all_requests, all_names, made_of, program_from, program_of}
use Rattle.asm_listable.proofs.Starts.{then_ok}
use Rattle.asm_promises.proofs.Sound.{of_file_ok}

-- ---- steps

pub none_more : (n : ℕ) → 0 + n ≡ n
none_more n = omega arith

-- a step for each item keeps what each step keeps, by the items so far
pub each_listed : {X S E : Type 0} (P : List X → S → Type 0) (step : ℕ → X → S → Result S E)
    → ((done : List X) (x : X) (s t : S) → P done s → step (length done) x s ≡ Ok t → P (done ++ x ∷ []) t)
    → (done xs : List X) (s t : S) → P done s → each_from step (length done) xs s ≡ Ok t → P (done ++ xs) t
unfolding each_from
each_listed P step kept done [] s t h e =
    let is : s ≡ t = cc in
    subst (λ xs. P xs t) (sym (append-nil done)) (subst (P done) is h)
each_listed P step kept done (x ∷ xs) s t h e =
    let y = then_ok (step (length done) x s) (λ next. each_from step (length done + 1) xs next) t e in
    let count : length done + 1 ≡ length (done ++ x ∷ []) = sym (length-append done (x ∷ [])) in
    let rest : each_from step (length (done ++ x ∷ [])) xs y.0 ≡ Ok t = subst (λ n. each_from step n xs y.0 ≡ Ok t) count y.2 in
    let all = each_listed P step kept (done ++ x ∷ []) xs y.0 t (kept done x s y.0 h y.1) rest in
    subst (λ items. P items t) (append_assoc done (x ∷ []) xs) all

-- the same by their count, of items that are so
pub each_numbered : {X S E : Type 0} (R : X → Type 0) (P : ℕ → S → Type 0) (step : ℕ → X → S → Result S E)
    → ((n : ℕ) (x : X) (s t : S) → R x → P n s → step n x s ≡ Ok t → P (n + 1) t)
    → (n : ℕ) (xs : List X) (s t : S) → All R xs → P n s → each_from step n xs s ≡ Ok t → P (n + length xs) t
unfolding each_from
each_numbered R P step kept n [] s t r h e =
    let is : s ≡ t = cc in
    let none : n ≡ n + 0 = omega arith in
    subst (λ k. P k t) none (subst (P n) is h)
each_numbered R P step kept n (x ∷ xs) s t r h e =
    let y = then_ok (step n x s) (λ next. each_from step (n + 1) xs next) t e in
    let rest = each_numbered R P step kept (n + 1) xs y.0 t (All-tail R x xs r) (kept n x s y.0 (All-head R x xs r) h y.1) y.2 in
    let same : n + 1 + length xs ≡ n + suc (length xs) = omega arith in
    subst (λ k. P k t) same rest

-- ---- lengths

abbrev pub IsShortText : List ℕ → Type 0
IsShortText text = length text ≤ MAX_FILE

within : (n most : ℕ) → nat_lt most n ≡ false → n ≤ most
within n most e = grind (arith, nat_tests)

judged_short : (number : ℕ) (text : List ℕ) (u : Unit {0}) → length_judged number text ≡ Ok u → IsShortText text
unfolding length_judged
judged_short number text u e = within (length text) MAX_FILE (test_false (nat_lt MAX_FILE (length text)) (Ok tt) (whole_file number faults.Size) u e).0

texts_judged : (number : ℕ) (texts : List (List ℕ)) (u v : Unit {0}) → each_from length_step number texts u ≡ Ok v → All IsShortText texts
unfolding each_from
texts_judged number [] u v e = All-nil IsShortText
texts_judged number (text ∷ texts) u v e =
    let x = then_ok (length_judged number text) (λ next. each_from length_step (number + 1) texts next) v e in
    All-cons IsShortText text texts (judged_short number text x.0 x.1) (texts_judged (number + 1) texts x.0 v x.2)

pub texts_short : (texts : List (List ℕ)) (u : Unit {0}) → lengths_judged texts ≡ Ok u → All IsShortText texts
unfolding lengths_judged
texts_short texts u e = texts_judged 0 texts tt u e

-- ---- tokens and statements

rest_counted : (place : Place) (text : List ℕ) (lexeme : Lexeme) (rest : ℕ → Result (List TokenParts) AsmFault) (tokens : List TokenParts) (most : ℕ)
    → ((more : ℕ) (later : List TokenParts) → rest more ≡ Ok later → length later ≤ most) → then_rest place text lexeme rest ≡ Ok tokens → length tokens ≤ most + 1
rest_counted place text (Blank more) rest tokens most later e = let few = later more tokens e in omega arith
rest_counted place text (Token kind more) rest tokens most later e =
    let token : TokenParts = record { kind = kind; text = take (more + 1) text; place = place } in
    let x = then_ok (rest more) (λ others. Ok (token ∷ [] ++ others)) tokens e in
    let is : token ∷ x.0 ≡ tokens = (let h = x.2 in cc) in
    let few = later more x.0 x.1 in
    let long : length tokens ≡ suc (length x.0) = ap (λ (ts : List TokenParts). length ts) (sym is) in
    omega arith
rest_counted place text (Bad more) rest tokens most later e = absurd (cc)

from_counted : (skip : ℕ) (place : Place) (opens : Bool) (text : List ℕ) (tokens : List TokenParts) → tokens_from skip place opens text ≡ Ok tokens
    → length tokens ≤ length text + 1
unfolding tokens_from
from_counted skip place opens [] tokens e =
    let end : TokenParts = record { kind = kinds.End; text = []; place = place } in
    let is : end ∷ [] ≡ tokens = cc in
    let one : length tokens ≡ 1 = ap (λ (ts : List TokenParts). length ts) (sym is) in
    omega arith
from_counted (suc skip) place opens (b ∷ text) tokens e =
    let few = from_counted skip (after_byte place b) opens text tokens e in omega arith
from_counted zero place opens (b ∷ text) tokens e =
    let few = rest_counted place (b ∷ text) (lexeme_of opens (b ∷ text)) (λ more. tokens_from more (after_byte place b) (opens_after opens b) text) tokens (length text + 1)
    (λ more later h. from_counted more (after_byte place b) (opens_after opens b) text later h) e in
    omega arith

tokens_counted : (text : List ℕ) (tokens : List TokenParts) → tokens_of text ≡ Ok tokens → length tokens ≤ length text + 1
unfolding tokens_of
tokens_counted text tokens e = from_counted 0 start true text tokens e

-- no token is in a later line than there are bytes
abbrev pub IsInLine : ℕ → TokenParts → Type 0
IsInLine most token = token.place.line ≤ most

byte_by : (newline : Bool) (place : Place) → (cond {A = Place} newline (record { line = place.line + 1; column = 1 }) (record { line = place.line; column = place.column + 1 })).line ≤ place.line + 1
byte_by true place = omega arith
byte_by false place = omega arith

byte_line : (place : Place) (b : ℕ) → (after_byte place b).line ≤ place.line + 1
byte_line place b = byte_by (b == 0x0A) place

lines_more : (few most : ℕ) (tokens : List TokenParts) → few ≤ most → All (IsInLine few) tokens → All (IsInLine most) tokens
lines_more few most tokens h k = All-weaker (IsInLine few) (IsInLine most) (λ token l. omega arith) tokens k

rest_lines : (place : Place) (text : List ℕ) (lexeme : Lexeme) (rest : ℕ → Result (List TokenParts) AsmFault) (tokens : List TokenParts) (most : ℕ) → place.line ≤ most
    → ((more : ℕ) (later : List TokenParts) → rest more ≡ Ok later → All (IsInLine most) later) → then_rest place text lexeme rest ≡ Ok tokens → All (IsInLine most) tokens
rest_lines place text (Blank more) rest tokens most low later e = later more tokens e
rest_lines place text (Token kind more) rest tokens most low later e =
    let token : TokenParts = record { kind = kind; text = take (more + 1) text; place = place } in
    let x = then_ok (rest more) (λ others. Ok (token ∷ [] ++ others)) tokens e in
    let is : token ∷ x.0 ≡ tokens = (let h = x.2 in cc) in
    subst (All (IsInLine most)) is (All-cons (IsInLine most) token x.0 low (later more x.0 x.1))
rest_lines place text (Bad more) rest tokens most low later e = absurd (cc)

from_lines : (skip : ℕ) (place : Place) (opens : Bool) (text : List ℕ) (tokens : List TokenParts) → tokens_from skip place opens text ≡ Ok tokens
    → All (IsInLine (place.line + length text)) tokens
unfolding tokens_from
from_lines skip place opens [] tokens e =
    let end : TokenParts = record { kind = kinds.End; text = []; place = place } in
    let is : end ∷ [] ≡ tokens = cc in
    subst (All (IsInLine (place.line + 0))) is (All-cons (IsInLine (place.line + 0)) end [] (omega arith) (All-nil (IsInLine (place.line + 0))))
from_lines (suc skip) place opens (b ∷ text) tokens e =
    let next = byte_line place b in
    lines_more ((after_byte place b).line + length text) (place.line + suc (length text)) tokens (omega arith) (from_lines skip (after_byte place b) opens text tokens e)
from_lines zero place opens (b ∷ text) tokens e =
    let next = byte_line place b in
    rest_lines place (b ∷ text) (lexeme_of opens (b ∷ text)) (λ more. tokens_from more (after_byte place b) (opens_after opens b) text) tokens (place.line + suc (length text)) (omega arith)
    (λ more later h. lines_more ((after_byte place b).line + length text) (place.line + suc (length text)) later (omega arith)
    (from_lines more (after_byte place b) (opens_after opens b) text later h)) e

tokens_lines : (text : List ℕ) (tokens : List TokenParts) → tokens_of text ≡ Ok tokens → All (IsInLine (1 + length text)) tokens
unfolding tokens_of
tokens_lines text tokens e = from_lines 0 start true text tokens e

more_counted : (test : Bool) (s : StatementParts) (rest : List StatementParts) (count : ℕ) → length rest ≤ count → length (cond test (s ∷ rest) []) ≤ suc count
more_counted true s rest count h = omega arith
more_counted false s rest count h = omega arith

up_to_counted : (count : ℕ) (tokens : List TokenParts) (at : ℕ) → length (statements_up_to count tokens at) ≤ count
unfolding statements_up_to
up_to_counted zero tokens at = omega arith
up_to_counted (suc count) tokens at =
    more_counted (nat_lt at (length tokens)) (statement_of tokens at) (statements_up_to count tokens (next_at tokens at)) count (up_to_counted count tokens (next_at tokens at))

-- ---- files

-- a file's statements are those of its tokens, and no more than it may have bytes, and one
pub record IsFile (file : FileParts) : Type 0 where
  pub statements : file.statements ≡ statements_of file.tokens
  pub few : length file.statements ≤ MAX_FILE + 1
  pub lines : All (IsInLine (MAX_FILE + 1)) file.tokens

file_few : (text : List ℕ) (tokens : List TokenParts) → IsShortText text → tokens_of text ≡ Ok tokens → IsFile (file_of tokens)
unfolding statements_of
file_few text tokens short e =
    let counted = tokens_counted text tokens e in
    let most = up_to_counted (length tokens) tokens 0 in
    let lines = lines_more (1 + length text) (MAX_FILE + 1) tokens (omega arith) (tokens_lines text tokens e) in
    record { statements = refl; few = omega arith; lines = lines }

record AreFiles (count : ℕ) (files : List FileParts) : Type 0 where
  count_is : length files ≡ count
  all : All IsFile files

read_few : (number : ℕ) (text : List ℕ) (files after : List FileParts) → IsShortText text → AreFiles number files → file_read number text files ≡ Ok after
    → AreFiles (number + 1) after
unfolding file_read
read_few number text files after short h e =
    let x = then_ok (of_file number (tokens_of text)) (λ tokens. Ok (files ++ file_of tokens ∷ [])) after e in
    let is : files ++ file_of x.0 ∷ [] ≡ after = (let k = x.2 in cc) in
    let longer : length (files ++ file_of x.0 ∷ []) ≡ length files + 1 = length-append files (file_of x.0 ∷ []) in
    let count_is = h.count_is in
    let one : IsFile (file_of x.0) = file_few text x.0 short (of_file_ok number (tokens_of text) x.0 x.1) in
    subst (AreFiles (number + 1)) is (record { count_is = omega arith; all = All-push IsFile files (file_of x.0) h.all one })

files_few : (texts : List (List ℕ)) (files : List FileParts) → All IsShortText texts → files_of texts ≡ Ok files → AreFiles (length texts) files
unfolding files_of
files_few texts files short e =
    subst (λ (n : ℕ). AreFiles n files) (none_more (length texts)) (each_numbered IsShortText AreFiles file_read (λ n text s t r h k. read_few n text s t r h k) 0 texts [] files short (record { count_is = refl; all = All-nil IsFile }) e)

-- ---- the phases of reading

pub record Phases (texts : List (List ℕ)) (program : ProgramParts) : Type 0 where
  pub short : All IsShortText texts
  pub files_read : files_of texts ≡ Ok program.files
  pub count : length program.files ≡ length texts
  pub files : All IsFile program.files
  pub sections : (numbered (all_names program.files)).count ≡ program.sections
  pub made : made_of (numbered (all_names program.files)) program.files ≡ Ok program.made

pub phases_of : (texts : List (List ℕ)) (program : ProgramParts) → program_of texts ≡ Ok program → Phases texts program
unfolding program_of
phases_of texts program e =
    let x = then_ok (lengths_judged texts)
    (λ judged. files_of texts >>= λ files. all_requests files >>= λ requests. made_of (numbered (all_names files)) files >>= λ made. Ok (program_from files requests (numbered (all_names files)).count made)) program e in
    let y = then_ok (files_of texts)
    (λ files. all_requests files >>= λ requests. made_of (numbered (all_names files)) files >>= λ made. Ok (program_from files requests (numbered (all_names files)).count made)) program x.2 in
    let files : List FileParts = y.0 in
    let z = then_ok (all_requests files) (λ requests. made_of (numbered (all_names files)) files >>= λ made. Ok (program_from files requests (numbered (all_names files)).count made)) program y.2 in
    let w = then_ok (made_of (numbered (all_names files)) files) (λ made. Ok (program_from files z.0 (numbered (all_names files)).count made)) program z.2 in
    let is : program_from files z.0 (numbered (all_names files)).count w.0 ≡ program = (let k = w.2 in cc) in
    let short = texts_short texts x.0 x.1 in
    let few = files_few texts files short y.1 in
    subst (Phases texts) is (record { short = short; files_read = y.1; count = few.count_is; files = few.all; sections = refl; made = w.1 })
