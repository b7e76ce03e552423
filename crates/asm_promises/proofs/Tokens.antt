-- Numbers of tokens have 64 bits, and names of tokens are names as maps have them.
use Rattle.std.proofs.Common.{◌≡◌, ℕ, zero, suc, ◌+◌, ◌-◌, ◌^◌, ◌<◌, ◌==◌, ◌&&◌, nat_lt, nat_le, Bool, true, false, cond, List, [], ◌∷◌, ◌++◌, length, take, drop, Option, Some, None, Result, Ok, All, refl, sym, ap, ◌∙◌, subst, lit<, arith}
use Rattle.std.specs.Prelude.{◌||◌, slice_index, option_map, take_while, List}
use Rattle.std.specs.Char.{is_ascii_digit}
use Rattle.std.specs.Str.Parse.{digits_value}
use Rattle.std.proofs.lemmas.Bool.Decides.{nat_tests}
use Rattle.std.proofs.lemmas.List.Sums.{take_while-cons}
use Rattle.std.proofs.lemmas.List.Elements.{All-nil, All-cons, All-weaker}
use Rattle.asm_tokens.specs.declared.escapes.Escape.{Escape}
use Rattle.asm_tokens.specs.declared.fault.AsmFault.{AsmFault}
use Rattle.asm_tokens.specs.declared.place.Place.{Place}
use Rattle.asm_tokens.specs.declared.strings.StringEnd.{StringEnd}
use Rattle.asm_tokens.specs.declared.strings.StringEnd.TheVariants as ends
use Rattle.asm_tokens.specs.declared.token.Mark.{Mark}
use Rattle.asm_tokens.specs.declared.token.Mark.TheVariants as marks
use Rattle.asm_tokens.specs.declared.token.TokenKind.{TokenKind}
use Rattle.asm_tokens.specs.declared.token.TokenKind.TheVariants as kinds
use Rattle.asm_tokens.specs.declared.lexemes.Lexeme.{Lexeme}
use Rattle.asm_tokens.specs.declared.lexemes.Lexeme.TheVariants.{Blank, Token, Bad}
use Rattle.asm_tokens.specs.Bytes.{is_blank, is_name_start, is_name_byte, rest_of_line}
use Rattle.asm_map_reader.specs.Words.{is_symbol}
use Rattle.std.specs.List.{list_all}
use Rattle.asm_tokens.specs.Escapes.{named_escape, digits_in, escaped, octal_escape, last_two, hexadecimal_escape, escape_of}
use Rattle.asm_tokens.specs.Numbers.{written_number, within_64_bits, is_local, kind_by, number_kind}
use Rattle.asm_tokens.specs.Places.{start, after_byte}
use Rattle.asm_tokens.specs.Lexemes.{mark_of, begins, one_mark, mark_lexeme, comment_end, ended_comment, slash_lexeme, hash_lexeme, number_token, number_lexeme, closed_character, escaped_character, character_lexeme, string_by, string_lexeme, other_lexeme, lexeme_by, lexeme_of}
use Rattle.asm_tokens.specs.Strings.{string_end}
use Rattle.asm_tokens.specs.Tokens.{TokenParts, opens_after, then_rest, tokens_from, tokens_of}
use Rattle.asm_listable.proofs.Starts.{then_ok}

-- a number of a token, if it is kept, has 64 bits
abbrev pub IsLowKind : TokenKind → Type 0
IsLowKind (kinds.Number (Some n)) = n < 2 ^ 64
IsLowKind _ = Unit {0}

abbrev pub IsLowToken : TokenParts → Type 0
IsLowToken token = IsLowKind token.kind

-- a name's token is a name as maps have it
abbrev pub IsNamedKind : TokenKind → List ℕ → Type 0
IsNamedKind kinds.Name text = is_symbol text ≡ true
IsNamedKind _ text = Unit {0}

abbrev pub IsNamedToken : TokenParts → Type 0
IsNamedToken token = IsNamedKind token.kind token.text

-- what is so of tokens that are no names
abbrev IsOther : TokenKind → Type 0
IsOther kinds.Name = ⊥
IsOther (kinds.Number (Some n)) = n < 2 ^ 64
IsOther _ = Unit {0}

abbrev IsLowLexeme : Lexeme → Type 0
IsLowLexeme (Token kind more) = IsOther kind
IsLowLexeme (Blank more) = Unit {0}
IsLowLexeme (Bad more) = Unit {0}

record IsLow (lexeme : Lexeme) : Type 0 where
  low : IsLowLexeme lexeme

blank : (more : ℕ) → IsLow (Blank more)
blank more = record { low = tt }

bad : (more : ℕ) → IsLow (Bad more)
bad more = record { low = tt }

of_kind : (kind : TokenKind) (more : ℕ) → IsOther kind → IsLow (Token kind more)
of_kind kind more h = record { low = h }

either : (test : Bool) (a b : Lexeme) → IsLow a → IsLow b → IsLow (cond test a b)
either true a b p q = p
either false a b p q = q

one_mark_low : (o : Option Mark) → IsLow (one_mark o)
one_mark_low (Some mark) = of_kind (kinds.Mark mark) 0 tt
one_mark_low None = bad 0

mark_low : (b : ℕ) (after : List ℕ) → IsLow (mark_lexeme b after)
unfolding mark_lexeme
mark_low b after =
    either ((b == 0x3C) && begins b after) (Token (kinds.Mark marks.ShiftLeft) 1) (cond ((b == 0x3E) && begins b after) (Token (kinds.Mark marks.ShiftRight) 1) (one_mark (mark_of b)))
    (of_kind (kinds.Mark marks.ShiftLeft) 1 tt)
    (either ((b == 0x3E) && begins b after) (Token (kinds.Mark marks.ShiftRight) 1) (one_mark (mark_of b)) (of_kind (kinds.Mark marks.ShiftRight) 1 tt) (one_mark_low (mark_of b)))

comment_low : (o : Option ℕ) → IsLow (ended_comment o)
comment_low (Some end) = blank (end + 3)
comment_low None = bad 0

slash_low : (after : List ℕ) → IsLow (slash_lexeme after)
unfolding slash_lexeme
slash_low after =
    let line = length (rest_of_line after) in
    either (begins 0x2F after) (Blank line) (cond (begins 0x2A after) (ended_comment (comment_end (drop 1 after))) (Token (kinds.Mark marks.Slash) 0)) (blank line)
    (either (begins 0x2A after) (ended_comment (comment_end (drop 1 after))) (Token (kinds.Mark marks.Slash) 0) (comment_low (comment_end (drop 1 after)))
    (of_kind (kinds.Mark marks.Slash) 0 tt))

hash_low : (opens : Bool) (after : List ℕ) → IsLow (hash_lexeme opens after)
unfolding hash_lexeme
hash_low opens after =
    let line = length (rest_of_line after) in
    either (opens && begins 0x40 after) (Token kinds.Request line) (Blank line) (of_kind kinds.Request line tt) (blank line)

-- ---- numbers

within_by : (test : Bool) (n : ℕ) → nat_lt n (2 ^ 64) ≡ test → IsOther (kinds.Number (cond test (Some n) None))
within_by true n t = grind (arith, nat_tests)
within_by false n t = tt

kind_low : (o : Option ℕ) (local : Bool) (kind : TokenKind) → kind_by o local ≡ Some kind → IsOther kind
kind_low (Some n) local kind e =
    let is : kinds.Number (within_64_bits n) ≡ kind = cc in subst IsOther is (within_by (nat_lt n (2 ^ 64)) n refl)
kind_low None true kind e = let is : kinds.Local ≡ kind = cc in subst IsOther is tt
kind_low None false kind e = absurd (cc)

token_low : (o : Option TokenKind) (more : ℕ) → ((kind : TokenKind) → o ≡ Some kind → IsOther kind) → IsLow (number_token o more)
token_low (Some kind) more low = of_kind kind more (low kind refl)
token_low None more low = bad 0

number_low : (text : List ℕ) → IsLow (number_lexeme text)
unfolding number_lexeme number_kind
number_low text =
    let word = take_while is_name_byte text in
    token_low (number_kind word) (length word - 1) (λ kind e. kind_low (written_number word) (is_local word) kind e)

-- ---- characters

closed_low : (byte place : ℕ) (after : List ℕ) → byte < 2 ^ 64 → IsLow (closed_character byte place after)
closed_low byte place after low =
    either (slice_index after place == 0x27) (Token (kinds.Number (Some byte)) (place + 1)) (Bad 0) (of_kind (kinds.Number (Some byte)) (place + 1) low) (bad 0)

escaped_by : (test : Bool) (number length : ℕ) (escape : Escape) → nat_le number 255 ≡ test
    → cond test (Some (record { byte = number; length = length })) None ≡ Some escape → escape.byte < 2 ^ 64
escaped_by true number length escape t e =
    let one : Escape = record { byte = number; length = length } in
    let is : one ≡ escape = cc in
    let low : number < 2 ^ 64 = grind (arith, nat_tests) in
    subst (λ (x : Escape). x.byte < 2 ^ 64) is low
escaped_by false number length escape t e = absurd (cc)

digits_by : (none : Bool) (number length : ℕ) (escape : Escape) → cond none None (escaped number length) ≡ Some escape → escape.byte < 2 ^ 64
digits_by true number length escape e = absurd (cc)
digits_by false number length escape e = escaped_by (nat_le number 255) number length escape refl e

octal_low : (text : List ℕ) (escape : Escape) → octal_escape text ≡ Some escape → escape.byte < 2 ^ 64
unfolding octal_escape
octal_low text escape e =
    let digits = digits_in 8 (take 3 text) in
    digits_by (length digits == 0) (digits_value 8 digits) (length digits) escape e

hexadecimal_low : (text : List ℕ) (escape : Escape) → hexadecimal_escape text ≡ Some escape → escape.byte < 2 ^ 64
unfolding hexadecimal_escape
hexadecimal_low text escape e =
    let digits = digits_in 16 text in
    digits_by (length digits == 0) (digits_value 16 (last_two digits)) (length digits + 1) escape e

same_low : (b c : ℕ) → c < 2 ^ 64 → (b == c) ≡ true → b < 2 ^ 64
same_low b c low e = let is : b ≡ c = grind (arith, nat_tests) in omega arith

last_by : (one two three : Bool) (b n : ℕ) → (b == 0x5C) ≡ one → (b == 0x22) ≡ two → (b == 0x27) ≡ three
    → cond (one || two || three) (Some b) None ≡ Some n → n < 2 ^ 64
last_by true two three b n p q r e = let is : b ≡ n = cc in subst (λ (m : ℕ). m < 2 ^ 64) is (same_low b 0x5C (lit< tt) p)
last_by false true three b n p q r e = let is : b ≡ n = cc in subst (λ (m : ℕ). m < 2 ^ 64) is (same_low b 0x22 (lit< tt) q)
last_by false false true b n p q r e = let is : b ≡ n = cc in subst (λ (m : ℕ). m < 2 ^ 64) is (same_low b 0x27 (lit< tt) r)
last_by false false false b n p q r e = absurd (cc)

small : (a n : ℕ) (o : Option ℕ) → a < 2 ^ 64 → Some a ≡ o → o ≡ Some n → n < 2 ^ 64
small a n o low s e = let is : a ≡ n = cc in subst (λ (m : ℕ). m < 2 ^ 64) is low

named_by : (bell form line return tab : Bool) (b n : ℕ)
    → cond bell (Some 8) (cond form (Some 12) (cond line (Some 10) (cond return (Some 13) (cond tab (Some 9) (cond ((b == 0x5C) || (b == 0x22) || (b == 0x27)) (Some b) None))))) ≡ Some n
    → n < 2 ^ 64
named_by true form line return tab b n e = small 8 n (Some 8) (lit< tt) refl e
named_by false true line return tab b n e = small 12 n (Some 12) (lit< tt) refl e
named_by false false true return tab b n e = small 10 n (Some 10) (lit< tt) refl e
named_by false false false true tab b n e = small 13 n (Some 13) (lit< tt) refl e
named_by false false false false true b n e = small 9 n (Some 9) (lit< tt) refl e
named_by false false false false false b n e = last_by (b == 0x5C) (b == 0x22) (b == 0x27) b n refl refl refl e

named_low : (b n : ℕ) → named_escape b ≡ Some n → n < 2 ^ 64
unfolding named_escape
named_low b n e =
    named_by (b == 0x62) (b == 0x66) (b == 0x6E) (b == 0x72) (b == 0x74) b n e

mapped_low : (o : Option ℕ) (escape : Escape) → ((n : ℕ) → o ≡ Some n → n < 2 ^ 64) → option_map (λ byte. record { byte = byte; length = 1 }) o ≡ Some escape
    → escape.byte < 2 ^ 64
mapped_low (Some n) escape low e =
    let one : Escape = record { byte = n; length = 1 } in
    let is : one ≡ escape = cc in subst (λ (x : Escape). x.byte < 2 ^ 64) is (low n refl)
mapped_low None escape low e = absurd (cc)

escape_by : (hexadecimal octal : Bool) (b : ℕ) (text : List ℕ) (escape : Escape)
    → cond hexadecimal (hexadecimal_escape (drop 1 text)) (cond octal (octal_escape text) (option_map (λ byte. record { byte = byte; length = 1 }) (named_escape b))) ≡ Some escape
    → escape.byte < 2 ^ 64
escape_by true octal b text escape e = hexadecimal_low (drop 1 text) escape e
escape_by false true b text escape e = octal_low text escape e
escape_by false false b text escape e = mapped_low (named_escape b) escape (λ n h. named_low b n h) e

escape_low : (text : List ℕ) (escape : Escape) → escape_of text ≡ Some escape → escape.byte < 2 ^ 64
unfolding escape_of
escape_low text escape e =
    let b = slice_index text 0 in escape_by ((b == 0x78) || (b == 0x58)) (nat_le 0x30 b && nat_le b 0x37) b text escape e

escaped_low : (o : Option Escape) (after : List ℕ) → ((escape : Escape) → o ≡ Some escape → escape.byte < 2 ^ 64) → IsLow (escaped_character o after)
escaped_low (Some escape) after low = closed_low escape.byte (escape.length + 1) after (low escape refl)
escaped_low None after low = bad 1

plain_by : (first second : Bool) (b : ℕ) (after : List ℕ) → nat_le b 0x7E ≡ second → IsLow (cond (first && second) (closed_character b 1 after) (Bad 0))
plain_by true true b after s = closed_low b 1 after (grind (arith, nat_tests))
plain_by true false b after s = bad 0
plain_by false second b after s = bad 0

character_low : (after : List ℕ) → IsLow (character_lexeme after)
unfolding character_lexeme
character_low after =
    let b = slice_index after 0 in
    either (b == 0x5C) (escaped_character (escape_of (drop 1 after)) after) (cond (nat_le 0x20 b && nat_le b 0x7E) (closed_character b 1 after) (Bad 0))
    (escaped_low (escape_of (drop 1 after)) after (λ escape e. escape_low (drop 1 after) escape e))
    (plain_by (nat_le 0x20 b) (nat_le b 0x7E) b after refl)

string_by_low : (end : StringEnd) → IsLow (string_by end)
string_by_low (ends.Closed n) = of_kind kinds.String (n + 1) tt
string_by_low (ends.Bad n) = bad (n + 1)
string_by_low ends.Open = bad 0

string_low : (after : List ℕ) → IsLow (string_lexeme after)
unfolding string_lexeme
string_low after = string_by_low (string_end 0 after)

-- a name is as long as its bytes are that a name can have
abbrev IsReadLexeme : ℕ → List ℕ → Lexeme → Type 0
IsReadLexeme b after (Token kinds.Name more) = (is_name_start b ≡ true) × (more ≡ length (take_while is_name_byte after))
IsReadLexeme b after (Token kind more) = IsLowKind kind
IsReadLexeme b after (Blank more) = Unit {0}
IsReadLexeme b after (Bad more) = Unit {0}

record IsRead (b : ℕ) (after : List ℕ) (lexeme : Lexeme) : Type 0 where
  read : IsReadLexeme b after lexeme

kind_read : (b : ℕ) (after : List ℕ) (kind : TokenKind) (more : ℕ) → IsOther kind → IsRead b after (Token kind more)
kind_read b after kinds.Name more h = absurd h
kind_read b after (kinds.Number (Some n)) more h = record { read = h }
kind_read b after (kinds.Number None) more h = record { read = tt }
kind_read b after kind more h = record { read = tt }

other_read : (b : ℕ) (after : List ℕ) (lexeme : Lexeme) → IsLow lexeme → IsRead b after lexeme
other_read b after (Token kind more) h = kind_read b after kind more h.low
other_read b after (Blank more) h = record { read = tt }
other_read b after (Bad more) h = record { read = tt }

other_by : (blanks name : Bool) (b : ℕ) (after : List ℕ) → is_name_start b ≡ name
    → IsRead b after (cond blanks (Blank (length (take_while is_blank after))) (cond name (Token kinds.Name (length (take_while is_name_byte after))) (mark_lexeme b after)))
other_by true name b after n = record { read = tt }
other_by false true b after n = record { read = (n, refl) }
other_by false false b after n = other_read b after (mark_lexeme b after) (mark_low b after)

last_read : (b : ℕ) (after : List ℕ) → IsRead b after (other_lexeme b after)
unfolding other_lexeme
last_read b after = other_by (is_blank b) (is_name_start b) b after refl

lexeme_cases : (end hash slash quote double digit opens : Bool) (b : ℕ) (text after : List ℕ)
    → IsRead b after (cond end (Token kinds.End 0) (cond hash (hash_lexeme opens after) (cond slash (slash_lexeme after) (cond quote (character_lexeme after)
    (cond double (string_lexeme after) (cond digit (number_lexeme text) (other_lexeme b after)))))))
lexeme_cases true hash slash quote double digit opens b text after = record { read = tt }
lexeme_cases false true slash quote double digit opens b text after = other_read b after (hash_lexeme opens after) (hash_low opens after)
lexeme_cases false false true quote double digit opens b text after = other_read b after (slash_lexeme after) (slash_low after)
lexeme_cases false false false true double digit opens b text after = other_read b after (character_lexeme after) (character_low after)
lexeme_cases false false false false true digit opens b text after = other_read b after (string_lexeme after) (string_low after)
lexeme_cases false false false false false true opens b text after = other_read b after (number_lexeme text) (number_low text)
lexeme_cases false false false false false false opens b text after = last_read b after

lexeme_read : (opens : Bool) (b : ℕ) (after : List ℕ) → IsRead b after (lexeme_of opens (b ∷ after))
unfolding lexeme_by
lexeme_read opens b after =
    lexeme_cases ((b == 0x0A) || (b == 0x3B)) (b == 0x23) (b == 0x2F) (b == 0x27) (b == 0x22) (is_ascii_digit b) opens b (b ∷ after) after

-- ---- names

pass_by : (test : ℕ → Bool) (x : ℕ) (rest : List ℕ) (passes : Bool) → list_all test rest ≡ true → test x ≡ passes → list_all test (cond passes (x ∷ rest) []) ≡ true
pass_by test x rest true h t = rw t h
pass_by test x rest false h t = refl

all_pass : (test : ℕ → Bool) (xs : List ℕ) → list_all test (take_while test xs) ≡ true
all_pass test [] = refl
all_pass test (x ∷ xs) = ap (λ (ys : List ℕ). list_all test ys) (take_while-cons test x xs) ∙ pass_by test x (take_while test xs) (test x) (all_pass test xs) refl

take_by : (passes : Bool) (x : ℕ) (xs ys : List ℕ) → take (length ys) xs ≡ ys → take (length (cond passes (x ∷ ys) [])) (x ∷ xs) ≡ cond passes (x ∷ ys) []
take_by true x xs ys h = ap (λ (zs : List ℕ). x ∷ zs) h
take_by false x xs ys h = refl

take_passing : (test : ℕ → Bool) (xs : List ℕ) → take (length (take_while test xs)) xs ≡ take_while test xs
take_passing test [] = refl
take_passing test (x ∷ xs) =
    subst (λ (ys : List ℕ). take (length ys) (x ∷ xs) ≡ ys) (sym (take_while-cons test x xs)) (take_by (test x) x xs (take_while test xs) (take_passing test xs))

name_byte : (b : ℕ) → is_name_start b ≡ true → is_name_byte b ≡ true
unfolding is_name_byte
name_byte b h = rw h refl

name_text : (b : ℕ) (after : List ℕ) → is_name_start b ≡ true → is_symbol (b ∷ take_while is_name_byte after) ≡ true
name_text b after h =
    let some : nat_le 1 (suc (length (take_while is_name_byte after))) ≡ true = grind (arith, nat_tests) in
    rw (h, name_byte b h, all_pass is_name_byte after, some) refl

next_is : (n : ℕ) → n + 1 ≡ suc n
next_is n = omega arith

token_text : (b more : ℕ) (after : List ℕ) → is_name_start b ≡ true → more ≡ length (take_while is_name_byte after) → is_symbol (take (more + 1) (b ∷ after)) ≡ true
token_text b more after h count =
    let is : take (more + 1) (b ∷ after) ≡ b ∷ take_while is_name_byte after =
    ap (λ (n : ℕ). take n (b ∷ after)) (next_is more) ∙ ap (λ (ys : List ℕ). b ∷ ys) (ap (λ (n : ℕ). take n after) count ∙ take_passing is_name_byte after) in
    ap is_symbol is ∙ name_text b after h

-- ---- all tokens

record IsReadToken (token : TokenParts) : Type 0 where
  low : IsLowToken token
  named : IsNamedToken token

kind_token : (b : ℕ) (after : List ℕ) (place : Place) (kind : TokenKind) (more : ℕ) → IsReadLexeme b after (Token kind more)
    → IsReadToken (record { kind = kind; text = take (more + 1) (b ∷ after); place = place })
kind_token b after place kinds.Name more h = record { low = tt; named = token_text b more after h.0 h.1 }
kind_token b after place kind more h = record { low = h; named = tt }

rest_read : (b : ℕ) (after : List ℕ) (place : Place) (lexeme : Lexeme) (rest : ℕ → Result (List TokenParts) AsmFault) (tokens : List TokenParts) → IsRead b after lexeme
    → ((more : ℕ) (later : List TokenParts) → rest more ≡ Ok later → All IsReadToken later) → then_rest place (b ∷ after) lexeme rest ≡ Ok tokens → All IsReadToken tokens
rest_read b after place (Blank more) rest tokens read later e = later more tokens e
rest_read b after place (Token kind more) rest tokens read later e =
    let token : TokenParts = record { kind = kind; text = take (more + 1) (b ∷ after); place = place } in
    let x = then_ok (rest more) (λ others. Ok (token ∷ [] ++ others)) tokens e in
    let is : token ∷ x.0 ≡ tokens = (let h = x.2 in cc) in
    subst (All IsReadToken) is (All-cons IsReadToken token x.0 (kind_token b after place kind more read.read) (later more x.0 x.1))
rest_read b after place (Bad more) rest tokens read later e = absurd (cc)

from_read : (skip : ℕ) (place : Place) (opens : Bool) (text : List ℕ) (tokens : List TokenParts) → tokens_from skip place opens text ≡ Ok tokens → All IsReadToken tokens
unfolding tokens_from
from_read skip place opens [] tokens e =
    let end : TokenParts = record { kind = kinds.End; text = []; place = place } in
    let is : end ∷ [] ≡ tokens = cc in subst (All IsReadToken) is (All-cons IsReadToken end [] (record { low = tt; named = tt }) (All-nil IsReadToken))
from_read (suc skip) place opens (b ∷ text) tokens e = from_read skip (after_byte place b) opens text tokens e
from_read zero place opens (b ∷ text) tokens e =
    rest_read b text place (lexeme_of opens (b ∷ text)) (λ more. tokens_from more (after_byte place b) (opens_after opens b) text) tokens (lexeme_read opens b text)
    (λ more later h. from_read more (after_byte place b) (opens_after opens b) text later h) e

tokens_read : (text : List ℕ) (tokens : List TokenParts) → tokens_of text ≡ Ok tokens → All IsReadToken tokens
unfolding tokens_of
tokens_read text tokens e = from_read 0 start true text tokens e

pub tokens_low : (text : List ℕ) (tokens : List TokenParts) → tokens_of text ≡ Ok tokens → All IsLowToken tokens
tokens_low text tokens e = All-weaker IsReadToken IsLowToken (λ token h. h.low) tokens (tokens_read text tokens e)

pub tokens_named : (text : List ℕ) (tokens : List TokenParts) → tokens_of text ≡ Ok tokens → All IsNamedToken tokens
tokens_named text tokens e = All-weaker IsReadToken IsNamedToken (λ token h. h.named) tokens (tokens_read text tokens e)
