-- A map reads as what its lines say.
use Rattle.std.proofs.Common.{◌≡◌, ℕ, ◌+◌, ◌<◌, ◌==◌, ◌&&◌, Bool, true, false, List, [], ◌∷◌, ◌++◌, length, map, Option, Some, None, Result, refl, ap, ◌∙◌, append_assoc, arith, if◌then◌else◌}
use Rattle.std.specs.Prelude.{codes, decimal, bytes_eq}
use Rattle.std.specs.Borrow.{Bor}
use Rattle.std.specs.Char.{digit_value}
use Rattle.std.specs.List.{All}
use Rattle.std.proofs.lemmas.List.Elements.{All-head, All-tail}
use Rattle.std.proofs.lemmas.List.Splits.{slice_split_at}
use Rattle.grammar.specs.Lines.{lines_of}
use Rattle.asm_maps.specs.Maps.{entry_text, label_text, line_text, lines_text, map_text, stack_text}
use Rattle.asm_maps.specs.declared.line.Label.{Label}
use Rattle.asm_maps.specs.declared.line.MapLine.{MapLine}
use Rattle.asm_maps.specs.declared.line.MapLine.TheVariants as lines
use Rattle.asm_maps.specs.declared.line.Stack.{Stack}
use Rattle.asm_tokens.specs.Bytes.{is_name_start, is_name_byte}
use Rattle.text_numbers.specs.Hexadecimal.{hex_text}
use Rattle.asm_map_reader.specs.declared.draft.Counts.{Counts}
use Rattle.asm_map_reader.specs.Lines as parts
use Rattle.asm_map_reader.specs.Lines.{LabelParts, LineParts, line_parts}
use Rattle.asm_map_reader.specs.Reading.{DraftParts, empty_draft, file_name, finished, has_code, lines_meaning, map_meaning, or_line, with_body, with_end, with_entry, with_file, with_hart, with_head, with_line, with_rest, with_source, with_statement, with_symbol, with_text}
use Rattle.asm_map_reader.specs.Sources.{SourceParts, statement}
use Rattle.asm_map_reader.specs.Words.{◌>>=◌}
use Rattle.asm_map_laws.specs.Written.{IsEntry, IsLabel, IsStack, IsWord, IsWritable, said_from, said_of}
use Rattle.asm_map_laws.proofs.Bytes.{Lacks, lacks_both, lacks_plainly}
use Rattle.asm_map_laws.proofs.Lines.{line_reads}
use Rattle.asm_map_laws.proofs.Words.{address_lacks, decimal_lacks, name_lacks}

-- ---- lines have no newline

no_digit : digit_value 0x0A < 10 → ⊥
no_digit h = omega (arith, h)

no_hex : digit_value 0x0A < 16 → ⊥
no_hex h = omega (arith, h)

no_name : is_name_byte 0x0A ≡ false
unfolding is_name_byte is_name_start
no_name = refl

number_lacks : (n : ℕ) → IsWord n → Lacks 0x0A (decimal n)
number_lacks n low = decimal_lacks 0x0A n no_digit low

label_lacks : (label : Option Label) → IsLabel label → Lacks 0x0A (label_text label)
label_lacks None is = lacks_plainly 0x0A (codes "-") refl
label_lacks (Some label) is =
    lacks_both 0x0A label.name.now (codes "+" ++ decimal label.offset) (name_lacks label.name is.0 0x0A no_name)
    (lacks_both 0x0A (codes "+") (decimal label.offset) (lacks_plainly 0x0A (codes "+") refl) (number_lacks label.offset is.1))

entry_lacks : (entry : Option (Bor (List ℕ))) → IsEntry entry → Lacks 0x0A (entry_text entry)
entry_lacks None is = lacks_plainly 0x0A (codes "-") refl
entry_lacks (Some name) is = name_lacks name is 0x0A no_name

stack_lacks : (stack : Option Stack) → IsStack stack → Lacks 0x0A (stack_text stack)
stack_lacks None is = lacks_plainly 0x0A (codes "-") refl
stack_lacks (Some stack) is =
    lacks_both 0x0A (hex_text 16 stack.base) (codes " " ++ decimal stack.size) (address_lacks 0x0A stack.base no_hex)
    (lacks_both 0x0A (codes " ") (decimal stack.size) (lacks_plainly 0x0A (codes " ") refl) (number_lacks stack.size is.1))

-- a plain text, a number, and more
numbered : (word : List ℕ) (n : ℕ) (rest : List ℕ) → Lacks 0x0A word → IsWord n → Lacks 0x0A rest → Lacks 0x0A (word ++ (decimal n ++ rest))
numbered word n rest plain low more = lacks_both 0x0A word (decimal n ++ rest) plain (lacks_both 0x0A (decimal n) rest (number_lacks n low) more)

line_lacks : (line : MapLine) → IsWritable line → Lacks 0x0A (line_text line)
line_lacks (lines.File number name) is =
    numbered (codes "file ") number (codes " " ++ name.now) (lacks_plainly 0x0A (codes "file ") refl) is.0
    (lacks_both 0x0A (codes " ") name.now (lacks_plainly 0x0A (codes " ") refl) is.1.1)
line_lacks (lines.Code number file line label) is =
    numbered (codes "code ") number (codes " " ++ (decimal file ++ (codes ":" ++ (decimal line ++ (codes " " ++ label_text label)))))
    (lacks_plainly 0x0A (codes "code ") refl) is.0
    (numbered (codes " ") file (codes ":" ++ (decimal line ++ (codes " " ++ label_text label))) (lacks_plainly 0x0A (codes " ") refl) is.1
    (numbered (codes ":") line (codes " " ++ label_text label) (lacks_plainly 0x0A (codes ":") refl) is.2
    (lacks_both 0x0A (codes " ") (label_text label) (lacks_plainly 0x0A (codes " ") refl) (label_lacks label is.3))))
line_lacks (lines.Guard number) is =
    numbered (codes "code ") number (codes " - guard") (lacks_plainly 0x0A (codes "code ") refl) is (lacks_plainly 0x0A (codes " - guard") refl)
line_lacks (lines.Exit number) is =
    numbered (codes "code ") number (codes " - exit") (lacks_plainly 0x0A (codes "code ") refl) is (lacks_plainly 0x0A (codes " - exit") refl)
line_lacks (lines.Data addr length name) is =
    lacks_both 0x0A (codes "data ") (hex_text 16 addr ++ (codes " " ++ (decimal length ++ (codes " " ++ name.now)))) (lacks_plainly 0x0A (codes "data ") refl)
    (lacks_both 0x0A (hex_text 16 addr) (codes " " ++ (decimal length ++ (codes " " ++ name.now))) (address_lacks 0x0A addr no_hex)
    (numbered (codes " ") length (codes " " ++ name.now) (lacks_plainly 0x0A (codes " ") refl) is.1
    (lacks_both 0x0A (codes " ") name.now (lacks_plainly 0x0A (codes " ") refl) (name_lacks name is.2 0x0A no_name))))
line_lacks (lines.Table addr name) is =
    lacks_both 0x0A (codes "table ") (hex_text 16 addr ++ (codes " " ++ name.now)) (lacks_plainly 0x0A (codes "table ") refl)
    (lacks_both 0x0A (hex_text 16 addr) (codes " " ++ name.now) (address_lacks 0x0A addr no_hex)
    (lacks_both 0x0A (codes " ") name.now (lacks_plainly 0x0A (codes " ") refl) (name_lacks name is.1 0x0A no_name)))
line_lacks (lines.Hart number entry stack) is =
    numbered (codes "hart ") number (codes " " ++ (entry_text entry ++ (codes " stack " ++ stack_text stack))) (lacks_plainly 0x0A (codes "hart ") refl) is.0
    (lacks_both 0x0A (codes " ") (entry_text entry ++ (codes " stack " ++ stack_text stack)) (lacks_plainly 0x0A (codes " ") refl)
    (lacks_both 0x0A (entry_text entry) (codes " stack " ++ stack_text stack) (entry_lacks entry is.1)
    (lacks_both 0x0A (codes " stack ") (stack_text stack) (lacks_plainly 0x0A (codes " stack ") refl) (stack_lacks stack is.2))))

-- ---- the lines of the text

line_first : (line rest : List ℕ) → Lacks 0x0A line → lines_of (line ++ (codes "\n" ++ rest)) ≡ line ∷ lines_of rest
line_first line rest lacks = slice_split_at (λ b. b == 0x0A) line 0x0A rest lacks refl

ended : lines_of (codes "end\n") ≡ codes "end" ∷ [] ∷ []
ended = line_first (codes "end") [] (lacks_plainly 0x0A (codes "end") refl)

texts_are : (ls : List MapLine) → All IsWritable ls → lines_of (lines_text ls ++ codes "end\n") ≡ map line_text ls ++ codes "end" ∷ [] ∷ []
unfolding lines_text
texts_are [] all = ended
texts_are (line ∷ ls) all =
    ap (λ (text : List ℕ). lines_of text) (append_assoc (line_text line) (codes "\n" ++ lines_text ls) (codes "end\n"))
    ∙ (line_first (line_text line) (lines_text ls ++ codes "end\n") (line_lacks line (All-head IsWritable line ls all))
    ∙ ap (λ (texts : List (List ℕ)). line_text line ∷ texts) (texts_are ls (All-tail IsWritable line ls all)))

map_lines : (ls : List MapLine) → All IsWritable ls → lines_of (map_text ls) ≡ codes "cheri-asm map 1" ∷ (map line_text ls ++ codes "end" ∷ [] ∷ [])
unfolding map_text
map_lines ls all =
    line_first (codes "cheri-asm map 1") (lines_text ls ++ codes "end\n") (lacks_plainly 0x0A (codes "cheri-asm map 1") refl)
    ∙ ap (λ (texts : List (List ℕ)). codes "cheri-asm map 1" ∷ texts) (texts_are ls all)

-- ---- no line but the last ends the map

-- what the first line makes
abbrev or_empty : Option DraftParts → DraftParts
or_empty (Some draft) = draft
or_empty None = empty_draft

started : DraftParts
started = or_empty (with_head empty_draft (codes "cheri-asm map 1"))

-- a draft in the middle of a map
abbrev InBody : Option DraftParts → Type 0
InBody (Some draft) = draft.stage ≡ started.stage
InBody None = Unit {0}

if_body : (test : Bool) (draft : DraftParts) → draft.stage ≡ started.stage → InBody (if test then Some draft else None)
if_body true draft body = body
if_body false draft body = tt

statement_body : (counts : Counts) (draft : DraftParts) (number line : ℕ) (label : Option LabelParts) (name : Option (List ℕ)) → draft.stage ≡ started.stage
    → InBody (name >>= (λ n. with_source counts draft number (statement n line label)))
unfolding with_source
statement_body counts draft number line label None body = tt
statement_body counts draft number line label (Some name) body = if_body _ _ body

stays : (counts : Counts) (draft : DraftParts) (line : LineParts) → draft.stage ≡ started.stage → InBody (with_line counts draft line)
unfolding with_line with_file with_statement with_source with_symbol with_entry with_hart
stays counts draft (parts.file number name) body = if_body _ _ body
stays counts draft (parts.code number place line label) body = statement_body counts draft number line label (file_name draft place) body
stays counts draft (parts.guard number) body = if_body _ _ body
stays counts draft (parts.exit number) body = if_body _ _ body
stays counts draft (parts.symbol addr size name) body = if_body _ _ body
stays counts draft (parts.entry addr name) body = if_body _ _ body
stays counts draft (parts.hart number name stack) body = if_body _ _ body

no_end : (line : MapLine) → bytes_eq (line_text line) (codes "end") ≡ false
no_end (lines.File number name) = refl
no_end (lines.Code number file line label) = refl
no_end (lines.Guard number) = refl
no_end (lines.Exit number) = refl
no_end (lines.Data addr length name) = refl
no_end (lines.Table addr name) = refl
no_end (lines.Hart number entry stack) = refl

-- ---- what is read

body_reads : (counts : Counts) (draft : DraftParts) (line : MapLine) → IsWritable line → draft.stage ≡ started.stage
    → with_text counts draft (line_text line) ≡ with_line counts draft (line_parts line)
unfolding with_text with_body with_head started
body_reads counts draft line is body = rw (body, no_end line, line_reads line is) refl

end_reads : (counts : Counts) (draft : DraftParts) (number : ℕ) → draft.stage ≡ started.stage
    → lines_meaning counts number draft (codes "end" ∷ [] ∷ []) ≡ said_from counts number draft []
unfolding lines_meaning with_text with_body with_end with_rest with_head finished said_from started
end_reads counts draft number body = by (has_code counts draft && (draft.harts == counts.harts)) refl
  where
    by : (t : Bool) → (has_code counts draft && (draft.harts == counts.harts)) ≡ t
        → lines_meaning counts number draft (codes "end" ∷ [] ∷ []) ≡ said_from counts number draft []
    by true e = rw (body, e) refl
    by false e = rw (body, e) refl

first_reads : (counts : Counts) (number : ℕ) (draft : DraftParts) (line : MapLine) (texts : List (List ℕ)) → IsWritable line → draft.stage ≡ started.stage
    → lines_meaning counts number draft (line_text line ∷ texts)
    ≡ or_line number (with_line counts draft (line_parts line)) (λ next. lines_meaning counts (number + 1) next texts)
unfolding lines_meaning
first_reads counts number draft line texts is body =
    ap (λ (made : Option DraftParts). or_line number made (λ next. lines_meaning counts (number + 1) next texts)) (body_reads counts draft line is body)

first_says : (counts : Counts) (number : ℕ) (draft : DraftParts) (line : LineParts) (ls : List LineParts)
    → or_line number (with_line counts draft line) (λ next. said_from counts (number + 1) next ls) ≡ said_from counts number draft (line ∷ ls)
unfolding said_from
first_says counts number draft line ls = refl

after_first : (number : ℕ) (next : Option DraftParts) (f g : DraftParts → Result (List SourceParts) ℕ) → InBody next
    → ((d : DraftParts) → d.stage ≡ started.stage → f d ≡ g d) → or_line number next f ≡ or_line number next g
after_first number None f g in_body same = refl
after_first number (Some d) f g in_body same = same d in_body

lines_read : (counts : Counts) (number : ℕ) (draft : DraftParts) (ls : List MapLine) → All IsWritable ls → draft.stage ≡ started.stage
    → lines_meaning counts number draft (map line_text ls ++ codes "end" ∷ [] ∷ []) ≡ said_from counts number draft (map line_parts ls)
lines_read counts number draft [] all body = end_reads counts draft number body
lines_read counts number draft (line ∷ ls) all body =
    first_reads counts number draft line (map line_text ls ++ codes "end" ∷ [] ∷ []) (All-head IsWritable line ls all) body
    ∙ (after_first number (with_line counts draft (line_parts line))
    (λ d. lines_meaning counts (number + 1) d (map line_text ls ++ codes "end" ∷ [] ∷ [])) (λ d. said_from counts (number + 1) d (map line_parts ls))
    (stays counts draft (line_parts line) body)
    (λ d in_body. lines_read counts (number + 1) d ls (All-tail IsWritable line ls all) in_body)
    ∙ first_says counts number draft (line_parts line) (map line_parts ls))

head_reads : (counts : Counts) (texts : List (List ℕ)) → lines_meaning counts 1 empty_draft (codes "cheri-asm map 1" ∷ texts)
    ≡ lines_meaning counts 2 started texts
unfolding lines_meaning with_text with_head started
head_reads counts texts = refl

head_says : (counts : Counts) (ls : List LineParts) → said_from counts 2 started ls ≡ said_of counts ls
unfolding with_head started
head_says counts ls = refl

pub map_reads : (counts : Counts) (ls : List MapLine) → All IsWritable ls → map_meaning counts (map_text ls) ≡ said_of counts (map line_parts ls)
unfolding map_meaning
map_reads counts ls all =
    ap (λ (texts : List (List ℕ)). lines_meaning counts 1 empty_draft texts) (map_lines ls all)
    ∙ (head_reads counts (map line_text ls ++ codes "end" ∷ [] ∷ [])
    ∙ (lines_read counts 2 started ls all refl ∙ head_says counts (map line_parts ls)))
