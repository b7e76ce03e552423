-- Each line of a map reads as what it was written from.
use Rattle.std.proofs.Common.{◌≡◌, ℕ, ◌<◌, true, false, List, [], ◌∷◌, ◌++◌, length, get_or, Option, Some, None, refl, sym, ap, ◌∙◌, append_assoc, subst, arith}
use Rattle.std.specs.Prelude.{codes, decimal, bytes_eq, option_map}
use Rattle.std.specs.Borrow.{Bor}
use Rattle.std.specs.Char.{digit_value}
use Rattle.std.specs.Str.{is_utf8}
use lib.ListN.{length-append, get_or-append}
use Rattle.asm_maps.specs.Maps.{entry_text, label_text, line_text, stack_text}
use Rattle.asm_maps.specs.declared.line.Label.{Label}
use Rattle.asm_maps.specs.declared.line.MapLine.{MapLine}
use Rattle.asm_maps.specs.declared.line.MapLine.TheVariants as lines
use Rattle.asm_maps.specs.declared.line.Stack.{Stack}
use Rattle.asm_tokens.specs.Bytes.{is_name_start, is_name_byte}
use Rattle.text_numbers.specs.Hexadecimal.{hex_text}
use Rattle.text_numbers.proofs.HexDigits.{digits_length}
use Rattle.asm_map_reader.specs.Lines as parts
use Rattle.asm_map_reader.specs.Lines.{code_line, data_line, entry_of, file_line, hart_line, label_of, label_parts, line_of, line_parts, name_parts, named_line, numbered_line, stack_of, stack_parts, statement_line, table_line, guard, exit}
use Rattle.text_parts.specs.Parts.{parted}
use Rattle.asm_map_reader.specs.Words.{text_of}
use Rattle.asm_map_laws.specs.Written.{IsEntry, IsLabel, IsName, IsStack, IsWord, IsWritable}
use Rattle.asm_map_laws.proofs.Bytes.{Lacks, lacks_both, lacks_plainly, other_head, other_length, parted_at}
use Rattle.asm_map_laws.proofs.Words.{address_lacks, address_reads, decimal_head, decimal_lacks, name_head, name_lacks, name_reads, plain_reads, some_digits, some_name}

-- a space, a colon and a plus are of no number and of no name
no_digit_space : digit_value 0x20 < 10 → ⊥
no_digit_space h = omega (arith, h)

no_digit_colon : digit_value 0x3A < 10 → ⊥
no_digit_colon h = omega (arith, h)

no_hex_space : digit_value 0x20 < 16 → ⊥
no_hex_space h = omega (arith, h)

no_name_space : is_name_byte 0x20 ≡ false
unfolding is_name_byte is_name_start
no_name_space = refl

no_name_plus : is_name_byte 0x2B ≡ false
unfolding is_name_byte is_name_start
no_name_plus = refl

no_start_dash : is_name_start 0x2D ≡ false
unfolding is_name_start
no_start_dash = refl

-- a line that begins with this word
word_is : (word rest : List ℕ) → Lacks 0x20 word → line_of (word ++ 0x20 ∷ rest) ≡ named_line word rest
unfolding line_of
word_is word rest lacks = rw (parted_at 0x20 word rest lacks) refl

number_parted : (n : ℕ) (rest : List ℕ) → IsWord n → parted 0x20 (decimal n ++ 0x20 ∷ rest) ≡ Some (decimal n, rest)
number_parted n rest low = parted_at 0x20 (decimal n) rest (decimal_lacks 0x20 n no_digit_space low)

-- ---- parts of lines

name_is_no_dash : (name : Bor (List ℕ)) → IsName name → (rest : List ℕ) → bytes_eq (name.now ++ rest) (codes "-") ≡ false
name_is_no_dash name is rest =
    other_head (name.now ++ rest) (codes "-") (λ same.
    let head : get_or (name.now ++ rest) 0 0 ≡ get_or name.now 0 0 = get_or-append name.now rest 0 0 (some_name name is) in
    let dash : is_name_start 0x2D ≡ true = ap is_name_start (sym (sym head ∙ same)) ∙ name_head name is in
    let both : false ≡ true = sym no_start_dash ∙ dash in
    absurd (cc))

label_reads : (label : Option Label) → IsLabel label → label_of (label_text label) ≡ Some (option_map label_parts label)
unfolding label_of
label_reads None is = refl
label_reads (Some label) is =
    rw (
      name_is_no_dash label.name is.0 (0x2B ∷ decimal label.offset),
      parted_at 0x2B label.name.now (decimal label.offset) (name_lacks label.name is.0 0x2B no_name_plus),
      name_reads label.name is.0,
      plain_reads label.offset is.1,
    ) refl

entry_reads : (entry : Option (Bor (List ℕ))) → IsEntry entry → entry_of (entry_text entry) ≡ Some (option_map name_parts entry)
unfolding entry_of
entry_reads None is = refl
entry_reads (Some name) is =
    let dash : bytes_eq name.now (codes "-") ≡ false = whole name is in
    rw (dash, name_reads name is) refl
  where
    whole : (name : Bor (List ℕ)) → IsName name → bytes_eq name.now (codes "-") ≡ false
    whole name is =
        other_head name.now (codes "-") (λ same.
        let dash : is_name_start 0x2D ≡ true = ap is_name_start (sym same) ∙ name_head name is in
        let both : false ≡ true = sym no_start_dash ∙ dash in
        absurd (cc))

entry_lacks : (entry : Option (Bor (List ℕ))) → IsEntry entry → Lacks 0x20 (entry_text entry)
entry_lacks None is = lacks_plainly 0x20 (codes "-") refl
entry_lacks (Some name) is = name_lacks name is 0x20 no_name_space

stack_reads : (stack : Option Stack) → IsStack stack → stack_of (codes "stack " ++ stack_text stack) ≡ Some (option_map stack_parts stack)
unfolding stack_of
stack_reads None is = refl
stack_reads (Some stack) is =
    let rest = hex_text 16 stack.base ++ 0x20 ∷ decimal stack.size in
    let long : bytes_eq (codes "stack" ++ 0x20 ∷ rest) (codes "stack -") ≡ false =
    other_length (codes "stack" ++ 0x20 ∷ rest) (codes "stack -") (λ same.
    omega (arith, same, length-append (hex_text 16 stack.base) (0x20 ∷ decimal stack.size), digits_length 16 stack.base)) in
    rw (
      long,
      parted_at 0x20 (codes "stack") rest (lacks_plainly 0x20 (codes "stack") refl),
      parted_at 0x20 (hex_text 16 stack.base) (decimal stack.size) (address_lacks 0x20 stack.base no_hex_space),
      address_reads stack.base is.0,
      plain_reads stack.size is.1,
    ) refl

-- ---- lines

number_is_no_dash : (n : ℕ) (rest text : List ℕ) → IsWord n → get_or text 0 0 ≡ 0x2D → bytes_eq (decimal n ++ rest) text ≡ false
number_is_no_dash n rest text low dash =
    other_head (decimal n ++ rest) text (λ same.
    let head : get_or (decimal n ++ rest) 0 0 ≡ get_or (decimal n) 0 0 = get_or-append (decimal n) rest 0 0 (some_digits n low) in
    let byte : get_or (decimal n) 0 0 ≡ 0x2D = sym head ∙ (same ∙ dash) in
    let digit : digit_value 0x2D < 10 = subst (λ (b : ℕ). digit_value b < 10) byte (decimal_head n low) in
    omega (arith, digit))

statement_reads : (number file line : ℕ) (label : Option Label) → IsWord file → IsWord line → IsLabel label
    → statement_line number (decimal file ++ (codes ":" ++ (decimal line ++ (codes " " ++ label_text label))))
    ≡ Some (parts.code number file line (option_map label_parts label))
unfolding statement_line
statement_reads number file line label first second is =
    let place = decimal file ++ 0x3A ∷ decimal line in
    let lacks : Lacks 0x20 place =
    lacks_both 0x20 (decimal file) (0x3A ∷ decimal line) (decimal_lacks 0x20 file no_digit_space first)
    (lacks_both 0x20 (0x3A ∷ []) (decimal line) (lacks_plainly 0x20 (0x3A ∷ []) refl) (decimal_lacks 0x20 line no_digit_space second)) in
    let regrouped : decimal file ++ 0x3A ∷ (decimal line ++ 0x20 ∷ label_text label) ≡ place ++ 0x20 ∷ label_text label =
    sym (append_assoc (decimal file) (0x3A ∷ decimal line) (0x20 ∷ label_text label)) in
    rw (
      regrouped,
      parted_at 0x20 place (label_text label) lacks,
      parted_at 0x3A (decimal file) (decimal line) (decimal_lacks 0x3A file no_digit_colon first),
      plain_reads file first,
      plain_reads line second,
      label_reads label is,
    ) refl

numbered_reads : (number file line : ℕ) (label : Option Label) → IsWord file → IsWord line → IsLabel label
    → numbered_line number (decimal file ++ (codes ":" ++ (decimal line ++ (codes " " ++ label_text label))))
    ≡ Some (parts.code number file line (option_map label_parts label))
numbered_reads number file line label first second is =
    let rest = codes ":" ++ (decimal line ++ (codes " " ++ label_text label)) in
    rw (number_is_no_dash file rest (codes "- guard") first refl, number_is_no_dash file rest (codes "- exit") first refl)
    (statement_reads number file line label first second is)

code_is : (number : ℕ) (rest : List ℕ) → IsWord number → code_line (decimal number ++ 0x20 ∷ rest) ≡ numbered_line number rest
unfolding code_line
code_is number rest low = rw (number_parted number rest low, plain_reads number low) refl

file_reads : (number : ℕ) (name : Bor (List ℕ)) → IsWord number → is_utf8 name.now ≡ true
    → file_line (decimal number ++ 0x20 ∷ name.now) ≡ Some (parts.file number name.now)
unfolding file_line text_of
file_reads number name low text = rw (number_parted number name.now low, plain_reads number low, text) refl

data_reads : (addr size : ℕ) (name : Bor (List ℕ)) → IsWord addr → IsWord size → IsName name
    → data_line (hex_text 16 addr ++ 0x20 ∷ (decimal size ++ 0x20 ∷ name.now)) ≡ Some (parts.symbol addr size name.now)
unfolding data_line
data_reads addr size name first second is =
    rw (
      parted_at 0x20 (hex_text 16 addr) (decimal size ++ 0x20 ∷ name.now) (address_lacks 0x20 addr no_hex_space),
      address_reads addr first,
      number_parted size name.now second,
      plain_reads size second,
      name_reads name is,
    ) refl

table_reads : (addr : ℕ) (name : Bor (List ℕ)) → IsWord addr → IsName name
    → table_line (hex_text 16 addr ++ 0x20 ∷ name.now) ≡ Some (parts.entry addr name.now)
unfolding table_line
table_reads addr name low is =
    rw (parted_at 0x20 (hex_text 16 addr) name.now (address_lacks 0x20 addr no_hex_space), address_reads addr low, name_reads name is) refl

hart_reads : (number : ℕ) (entry : Option (Bor (List ℕ))) (stack : Option Stack) → IsWord number → IsEntry entry → IsStack stack
    → hart_line (decimal number ++ 0x20 ∷ (entry_text entry ++ 0x20 ∷ (codes "stack " ++ stack_text stack)))
    ≡ Some (parts.hart number (option_map name_parts entry) (option_map stack_parts stack))
unfolding hart_line
hart_reads number entry stack low is has =
    rw (
      number_parted number (entry_text entry ++ 0x20 ∷ (codes "stack " ++ stack_text stack)) low,
      plain_reads number low,
      parted_at 0x20 (entry_text entry) (codes "stack " ++ stack_text stack) (entry_lacks entry is),
      entry_reads entry is,
      stack_reads stack has,
    ) refl

pub line_reads : (line : MapLine) → IsWritable line → line_of (line_text line) ≡ Some (line_parts line)
line_reads (lines.File number name) is =
    word_is (codes "file") (decimal number ++ 0x20 ∷ name.now) (lacks_plainly 0x20 (codes "file") refl) ∙ file_reads number name is.0 is.1.0
line_reads (lines.Code number file line label) is =
    word_is (codes "code") (decimal number ++ 0x20 ∷ (decimal file ++ (codes ":" ++ (decimal line ++ (codes " " ++ label_text label)))))
    (lacks_plainly 0x20 (codes "code") refl)
    ∙ (code_is number (decimal file ++ (codes ":" ++ (decimal line ++ (codes " " ++ label_text label)))) is.0
    ∙ numbered_reads number file line label is.1 is.2 is.3)
line_reads (lines.Guard number) is =
    word_is (codes "code") (decimal number ++ 0x20 ∷ codes "- guard") (lacks_plainly 0x20 (codes "code") refl) ∙ code_is number (codes "- guard") is
line_reads (lines.Exit number) is =
    word_is (codes "code") (decimal number ++ 0x20 ∷ codes "- exit") (lacks_plainly 0x20 (codes "code") refl) ∙ code_is number (codes "- exit") is
line_reads (lines.Data addr length name) is =
    word_is (codes "data") (hex_text 16 addr ++ 0x20 ∷ (decimal length ++ 0x20 ∷ name.now)) (lacks_plainly 0x20 (codes "data") refl)
    ∙ data_reads addr length name is.0 is.1 is.2
line_reads (lines.Table addr name) is =
    word_is (codes "table") (hex_text 16 addr ++ 0x20 ∷ name.now) (lacks_plainly 0x20 (codes "table") refl) ∙ table_reads addr name is.0 is.1
line_reads (lines.Hart number entry stack) is =
    word_is (codes "hart") (decimal number ++ 0x20 ∷ (entry_text entry ++ 0x20 ∷ (codes "stack " ++ stack_text stack))) (lacks_plainly 0x20 (codes "hart") refl)
    ∙ hart_reads number entry stack is.0 is.1 is.2
