-- Short texts with a number in them: their lengths, their bytes, and that they end a buffer.
use Rattle.std.proofs.Common.{◌≡◌, ℕ, ◌<◌, ◌≤◌, ◌^◌, List, [], ◌∷◌, ◌++◌, codes, length, length-append, drop, append-nil, refl, arith}
use Rattle.std.proofs.Math.ListN.{drop_of_length-le}
use Rattle.std.specs.Fmt.{decimal}
use Rattle.std.specs.Str.{IsAscii}
use Rattle.std.proofs.lemmas.Fmt.{length-decimal-le, IsAscii-decimal}
use Rattle.std.proofs.lemmas.Str.{IsAscii-append}
use Rattle.std.proofs.lemmas.Str.Ascii.{IsAscii-nil, IsAscii-cons}
use Rattle.report_lines.proofs.DoneSteps.{byte_length}
use Rattle.explanations.specs.declared.pieces.Lead.{Lead}
use Rattle.explanations.specs.declared.pieces.Lead.TheVariants.{Space, Comma, Bracket}
use Rattle.explanations.specs.Pieces.{from_register_text, lead_text}

-- ---- lengths

pub line_length : (n : ℕ) → n < 2 ^ 32 → length (decimal n) ≤ 10
line_length n small = length-decimal-le 10 n (omega arith) (omega arith) (omega arith)

pub ruleset pieces = (byte_length, line_length)

pub register_length : (n : ℕ) → n < 256 → length (codes "c" ++ (decimal n ++ codes " ")) ≤ 5
register_length n small = omega (arith, length-append (decimal n) (32 ∷ []), byte_length n small)

pub start_length : (n : ℕ) → n < 2 ^ 32 → length (codes " | line " ++ (decimal n ++ codes ": ")) ≤ 20
start_length n small = omega (arith, length-append (decimal n) (58 ∷ 32 ∷ []), line_length n small)

pub from_length : (hart number : ℕ) → hart < 256 → number < 256 → length (from_register_text hart number) ≤ 14
from_length hart number small below =
    omega (arith, length-append (decimal hart) (58 ∷ 99 ∷ decimal number), byte_length hart small, byte_length number below)

-- ---- bytes

number_and : (n : ℕ) (after : List ℕ) → n < 2 ^ 64 → IsAscii after → IsAscii (decimal n ++ after)
number_and n after small rest = IsAscii-append (decimal n) after (IsAscii-decimal n small) rest

pub register_ascii : (n : ℕ) → n < 256 → IsAscii (codes "c" ++ (decimal n ++ codes " "))
register_ascii n small =
    IsAscii-cons 99 (decimal n ++ 32 ∷ []) (omega arith) (number_and n (32 ∷ []) (omega arith) (IsAscii-cons 32 [] (omega arith) IsAscii-nil))

pub start_ascii : (n : ℕ) → n < 2 ^ 32 → IsAscii (codes " | line " ++ (decimal n ++ codes ": "))
start_ascii n small =
    IsAscii-append (codes " | line ") (decimal n ++ codes ": ")
    (IsAscii-cons 32 (codes "| line ") (omega arith) (IsAscii-cons 124 (codes " line ") (omega arith)
    (IsAscii-cons 32 (codes "line ") (omega arith) (IsAscii-cons 108 (codes "ine ") (omega arith)
    (IsAscii-cons 105 (codes "ne ") (omega arith) (IsAscii-cons 110 (codes "e ") (omega arith)
    (IsAscii-cons 101 (codes " ") (omega arith) (IsAscii-cons 32 [] (omega arith) IsAscii-nil))))))))
    (number_and n (58 ∷ 32 ∷ []) (omega arith) (IsAscii-cons 58 (32 ∷ []) (omega arith) (IsAscii-cons 32 [] (omega arith) IsAscii-nil)))

pub from_ascii : (hart number : ℕ) → hart < 256 → number < 256 → IsAscii (from_register_text hart number)
from_ascii hart number small below =
    IsAscii-append (codes " from ") (decimal hart ++ 58 ∷ 99 ∷ decimal number)
    (IsAscii-cons 32 (codes "from ") (omega arith) (IsAscii-cons 102 (codes "rom ") (omega arith) (IsAscii-cons 114 (codes "om ") (omega arith)
    (IsAscii-cons 111 (codes "m ") (omega arith) (IsAscii-cons 109 (codes " ") (omega arith) (IsAscii-cons 32 [] (omega arith) IsAscii-nil))))))
    (number_and hart (58 ∷ 99 ∷ decimal number) (omega arith)
    (IsAscii-cons 58 (99 ∷ decimal number) (omega arith) (IsAscii-cons 99 (decimal number) (omega arith) (IsAscii-decimal number (omega arith)))))

lead_ascii : (lead : Lead) → IsAscii (lead_text lead)
lead_ascii Space = IsAscii-cons 32 (99 ∷ []) (omega arith) (IsAscii-cons 99 [] (omega arith) IsAscii-nil)
lead_ascii Comma =
    IsAscii-cons 44 (32 ∷ 99 ∷ []) (omega arith) (IsAscii-cons 32 (99 ∷ []) (omega arith) (IsAscii-cons 99 [] (omega arith) IsAscii-nil))
lead_ascii Bracket = IsAscii-cons 40 (99 ∷ []) (omega arith) (IsAscii-cons 99 [] (omega arith) IsAscii-nil)

pub operand_ascii : (lead : Lead) (n : ℕ) → n < 256 → IsAscii (lead_text lead ++ decimal n)
operand_ascii lead n small = IsAscii-append (lead_text lead) (decimal n) (lead_ascii lead) (IsAscii-decimal n (omega arith))

-- ---- a text before a number that ends a buffer

pub before_number : (lead : Lead) (n number at end : ℕ) (text old digits now : List ℕ) → lead_text lead ≡ text → number ≡ n → length old ≡ 40
    → drop at digits ≡ decimal number ++ drop 40 old → drop end now ≡ text ++ drop at digits → drop end now ≡ lead_text lead ++ decimal n
before_number lead n number at end text old digits now is same long written put =
    let within : length old ≤ 40 = omega (arith, long) in
    let none : drop 40 old ≡ [] = drop_of_length-le old within in
    rw (is, put, written, none, append-nil, same) refl

pub from_written : (hart number h n at middle first end : ℕ) (old b c d now : List ℕ) → h ≡ hart → n ≡ number → length old ≡ 40
    → drop at b ≡ decimal n ++ drop 40 old → drop middle c ≡ codes ":c" ++ drop at b → drop first d ≡ decimal h ++ drop middle c
    → drop end now ≡ codes " from " ++ drop first d → drop end now ≡ from_register_text hart number
from_written hart number h n at middle first end old b c d now same is long one two three four =
    let within : length old ≤ 40 = omega (arith, long) in
    let none : drop 40 old ≡ [] = drop_of_length-le old within in
    rw (four, three, two, one, none, append-nil, same, is) refl
