-- The text of a step that was done: its length, and its bytes.
use Rattle.std.proofs.Common.{ℕ, ◌<◌, ◌≤◌, [], ◌++◌, codes, length, length-append, arith}
use Rattle.std.specs.Fmt.{decimal}
use Rattle.std.specs.Str.{IsAscii}
use Rattle.std.proofs.lemmas.Fmt.{length-decimal-le, IsAscii-decimal}
use Rattle.std.proofs.lemmas.Str.{IsAscii-append}
use Rattle.std.proofs.lemmas.Str.Ascii.{IsAscii-nil, IsAscii-cons}
use Rattle.report_lines.specs.EventText.{done_text}
use Rattle.report_lines.specs.ValueText.{hex_text}
use Rattle.text_numbers.proofs.HexDigits.{digits_ascii, digits_length}

pub byte_length : (n : ℕ) → n < 256 → length (decimal n) ≤ 3
byte_length n small = length-decimal-le 3 n (omega arith) (omega arith) (omega arith)

pub number_length : (n : ℕ) → n < 1000000 → length (decimal n) ≤ 6
number_length n small = length-decimal-le 6 n (omega arith) (omega arith) (omega arith)

pub done_length : (number hart pc : ℕ) → number < 1000000 → hart < 256 → length (done_text number hart pc) ≤ 40
done_length number hart pc short small =
    omega (
      arith,
      length-append (decimal number) (codes " hart=" ++ (decimal hart ++ (codes " pc=" ++ (hex_text 16 pc ++ codes " done")))),
      number_length number short,
      length-append (decimal hart) (codes " pc=" ++ (hex_text 16 pc ++ codes " done")),
      length-append (hex_text 16 pc) (codes " done"),
      byte_length hart small,
      digits_length 16 pc,
    )

done_end : IsAscii (codes " done")
done_end =
    IsAscii-cons 32 (codes "done") (omega arith) (IsAscii-cons 100 (codes "one") (omega arith) (IsAscii-cons 111 (codes "ne") (omega arith)
    (IsAscii-cons 110 (codes "e") (omega arith) (IsAscii-cons 101 [] (omega arith) IsAscii-nil))))

pc_ascii : (pc : ℕ) → IsAscii (codes " pc=" ++ (hex_text 16 pc ++ codes " done"))
pc_ascii pc =
    let digits = IsAscii-append (hex_text 16 pc) (codes " done") (digits_ascii 16 pc) done_end in
    let text = hex_text 16 pc ++ codes " done" in
    IsAscii-cons 32 (codes "pc=" ++ text) (omega arith) (IsAscii-cons 112 (codes "c=" ++ text) (omega arith)
    (IsAscii-cons 99 (codes "=" ++ text) (omega arith) (IsAscii-cons 61 text (omega arith) digits)))

hart_ascii : (hart pc : ℕ) → hart < 256 → IsAscii (codes " hart=" ++ (decimal hart ++ (codes " pc=" ++ (hex_text 16 pc ++ codes " done"))))
hart_ascii hart pc small =
    let text = decimal hart ++ (codes " pc=" ++ (hex_text 16 pc ++ codes " done")) in
    let digits = IsAscii-append (decimal hart) (codes " pc=" ++ (hex_text 16 pc ++ codes " done")) (IsAscii-decimal hart (omega arith)) (pc_ascii pc) in
    IsAscii-cons 32 (codes "hart=" ++ text) (omega arith) (IsAscii-cons 104 (codes "art=" ++ text) (omega arith)
    (IsAscii-cons 97 (codes "rt=" ++ text) (omega arith) (IsAscii-cons 114 (codes "t=" ++ text) (omega arith)
    (IsAscii-cons 116 (codes "=" ++ text) (omega arith) (IsAscii-cons 61 text (omega arith) digits)))))

pub done_ascii : (number hart pc : ℕ) → number < 1000000 → hart < 256 → IsAscii (done_text number hart pc)
done_ascii number hart pc short small =
    IsAscii-append (decimal number) (codes " hart=" ++ (decimal hart ++ (codes " pc=" ++ (hex_text 16 pc ++ codes " done"))))
    (IsAscii-decimal number (omega arith)) (hart_ascii hart pc small)
