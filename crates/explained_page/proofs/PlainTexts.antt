-- Texts without a mark, and data whose text has none.
use Rattle.std.proofs.Common.{◌≡◌, Ordering, Less, Equal, Greater, ℕ, zero, suc, ◌+◌, ◌/◌, ◌%◌, ◌<◌, ◌==◌, Bool, true, false, ◌||◌, if◌then◌else◌, List, [], ◌∷◌, ◌++◌, map, codes, decimal, refl, arith, ℤ, pos, negsuc}
use Rattle.std.specs.Fmt.{digits, digits_onto, digit_glyph, signed_decimal}
use Rattle.std.specs.Char.{digit_char}
use Rattle.std.specs.List.{flat_map}
use Rattle.std.specs.Ordering.{nat_cmp, match_ordering}
use Rattle.std.specs.Cmp.Lexicographic.{slice_cmp}
use Rattle.std.proofs.lemmas.Bool.Decides.{nat_tests}
use Rattle.json.specs.Print.{escape, escape_byte, quoted}
use Rattle.serde_json.specs.Data.{Data, null, boolean, number, string, array, object, Items, no_items, item, Members, no_members, member, put}
use Rattle.serde_json.specs.View.{items_of}
use Rattle.serde_json.specs.Written.{compact_text, items_text, members_text, number_text, comma_if}
use Rattle.report_lines.specs.ValueText.{hex_text}
use Rattle.explained_page.specs.ScriptText.{has_mark, script_byte, script_text}

pub or_left : (a b : Bool) → (a || b) ≡ false → a ≡ false
or_left true b h = h
or_left false b h = refl

pub or_right : (a b : Bool) → (a || b) ≡ false → b ≡ false
or_right true b h = cc
or_right false b h = h

pub both : (a b : Bool) → a ≡ false → b ≡ false → (a || b) ≡ false
both a b first second = rw (first, second) refl

pub joined : (a b : List ℕ) → has_mark a ≡ false → has_mark b ≡ false → has_mark (a ++ b) ≡ false
joined [] b first second = second
joined (x ∷ a) b first second =
    both (x == 60) (has_mark (a ++ b)) (or_left (x == 60) (has_mark a) first) (joined a b (or_right (x == 60) (has_mark a) first) second)

pub either : (b : Bool) (x y : List ℕ) → has_mark x ≡ false → has_mark y ≡ false → has_mark (if b then x else y) ≡ false
either true x y first second = first
either false x y first second = second

-- ---- numbers

digit_plain : (d : ℕ) → d < 10 → (digit_glyph false d == 60) ≡ false
digit_plain d small = grind (arith, nat_tests)

digits_plain : (k n : ℕ) (text : List ℕ) → has_mark text ≡ false → has_mark (digits_onto k 10 false n text) ≡ false
digits_plain zero n text plain = plain
digits_plain (suc k) n text plain =
    let more : has_mark (digit_glyph false (n % 10) ∷ text) ≡ false =
    both (digit_glyph false (n % 10) == 60) (has_mark text) (digit_plain (n % 10) (omega arith)) plain in
    either (n / 10 == 0) (digit_glyph false (n % 10) ∷ text) (digits_onto k 10 false (n / 10) (digit_glyph false (n % 10) ∷ text)) more
    (digits_plain k (n / 10) (digit_glyph false (n % 10) ∷ text) more)

pub decimal_plain : (n : ℕ) → has_mark (decimal n) ≡ false
unfolding digits
decimal_plain n = digits_plain 64 n [] refl

pub signed_plain : (z : ℤ) → has_mark (signed_decimal z) ≡ false
signed_plain (pos n) = decimal_plain n
signed_plain (negsuc n) = decimal_plain (suc n)

hex_digit_plain : (d : ℕ) → d < 16 → (digit_char d == 60) ≡ false
hex_digit_plain d small = grind (arith, nat_tests)

pub hex_plain : (width n : ℕ) → has_mark (hex_text width n) ≡ false
unfolding hex_text
hex_plain zero n = refl
hex_plain (suc width) n =
    joined (hex_text width (n / 16)) (digit_char (n % 16) ∷ []) (hex_plain width (n / 16))
    (both (digit_char (n % 16) == 60) false (hex_digit_plain (n % 16) (omega arith)) refl)

-- ---- JSON strings

escape_byte_plain : (x : ℕ) → (x == 60) ≡ false → has_mark (escape_byte x) ≡ false
unfolding escape_byte
escape_byte_plain x other = grind (arith, nat_tests)

escape_plain : (s : List ℕ) → has_mark s ≡ false → has_mark (escape s) ≡ false
escape_plain [] plain = refl
escape_plain (x ∷ s) plain =
    joined (escape_byte x) (escape s) (escape_byte_plain x (or_left (x == 60) (has_mark s) plain))
    (escape_plain s (or_right (x == 60) (has_mark s) plain))

quoted_plain : (s : List ℕ) → has_mark s ≡ false → has_mark (quoted s) ≡ false
quoted_plain s plain = joined (escape s) (34 ∷ []) (escape_plain s plain) refl

-- ---- data

-- whether a string, a key or a number has a mark
abbrev mutual
  pub marked : Data → Bool
  marked null = false
  marked (boolean b) = false
  marked (number n) = has_mark (number_text n)
  marked (string s) = has_mark s
  marked (array ds) = items_marked ds
  marked (object ms) = members_marked ms

  pub items_marked : Items → Bool
  items_marked no_items = false
  items_marked (item d ds) = marked d || items_marked ds

  pub members_marked : Members → Bool
  members_marked no_members = false
  members_marked (member k d ms) = has_mark k || (marked d || members_marked ms)

comma_plain : (later : Bool) → has_mark (comma_if later) ≡ false
comma_plain true = refl
comma_plain false = refl

mutual
  pub text_plain : (d : Data) → marked d ≡ false → has_mark (compact_text d) ≡ false
  text_plain null plain = refl
  text_plain (boolean true) plain = refl
  text_plain (boolean false) plain = refl
  text_plain (number n) plain = plain
  text_plain (string s) plain = quoted_plain s plain
  text_plain (array ds) plain = items_plain false ds plain
  text_plain (object ms) plain = members_plain false ms plain

  items_plain : (later : Bool) (ds : Items) → items_marked ds ≡ false → has_mark (items_text later ds) ≡ false
  items_plain later no_items plain = refl
  items_plain later (item d ds) plain =
      joined (comma_if later) (compact_text d ++ items_text true ds) (comma_plain later)
      (joined (compact_text d) (items_text true ds) (text_plain d (or_left (marked d) (items_marked ds) plain))
      (items_plain true ds (or_right (marked d) (items_marked ds) plain)))

  members_plain : (later : Bool) (ms : Members) → members_marked ms ≡ false → has_mark (members_text later ms) ≡ false
  members_plain later no_members plain = refl
  members_plain later (member k d ms) plain =
      let others = or_right (has_mark k) (marked d || members_marked ms) plain in
      joined (comma_if later) (quoted k ++ 58 ∷ (compact_text d ++ members_text true ms)) (comma_plain later)
      (joined (quoted k) (58 ∷ (compact_text d ++ members_text true ms))
      (quoted_plain k (or_left (has_mark k) (marked d || members_marked ms) plain))
      (joined (compact_text d) (members_text true ms) (text_plain d (or_left (marked d) (members_marked ms) others))
      (members_plain true ms (or_right (marked d) (members_marked ms) others))))

put_at : (o : Ordering) (k l : List ℕ) (d e : Data) (rest later : Members) → has_mark k ≡ false → has_mark l ≡ false
    → marked d ≡ false → marked e ≡ false → members_marked rest ≡ false → members_marked later ≡ false
    → members_marked (match_ordering o (member k d (member l e rest)) (member l d rest) (member l e later)) ≡ false
put_at Less k l d e rest later key other none here others more = rw (key, other, none, here, others) refl
put_at Equal k l d e rest later key other none here others more = rw (other, none, others) refl
put_at Greater k l d e rest later key other none here others more = rw (other, here, more) refl

pub put_plain : (k : List ℕ) (d : Data) (members : Members) → has_mark k ≡ false → marked d ≡ false → members_marked members ≡ false
    → members_marked (put k d members) ≡ false
put_plain k d no_members key none others = rw (key, none) refl
put_plain k d (member l e rest) key none others =
    let other : has_mark l ≡ false = or_left (has_mark l) (marked e || members_marked rest) others in
    let parts : (marked e || members_marked rest) ≡ false = or_right (has_mark l) (marked e || members_marked rest) others in
    let here : marked e ≡ false = or_left (marked e) (members_marked rest) parts in
    let more : members_marked rest ≡ false = or_right (marked e) (members_marked rest) parts in
    put_at (slice_cmp nat_cmp k l) k l d e rest (put k d rest) key other none here more (put_plain k d rest key none more)

pub each_plain : {X : Type 0} (data_of : X → Data) (each : (x : X) → marked (data_of x) ≡ false) (items : List X)
    → items_marked (items_of (map data_of items)) ≡ false
each_plain data_of each [] = refl
each_plain data_of each (x ∷ rest) = both (marked (data_of x)) (items_marked (items_of (map data_of rest))) (each x) (each_plain data_of each rest)

-- ---- a text as a JSON text

script_byte_plain : (byte : ℕ) → has_mark (script_byte byte) ≡ false
script_byte_plain byte = by (byte == 60) refl
  where
    by : (b : Bool) → (byte == 60) ≡ b → has_mark (if b then codes "\\u003c" else escape_byte byte) ≡ false
    by true is = refl
    by false is = escape_byte_plain byte is

bytes_plain : (text : List ℕ) → has_mark (flat_map script_byte text) ≡ false
bytes_plain [] = refl
bytes_plain (byte ∷ text) = joined (script_byte byte) (flat_map script_byte text) (script_byte_plain byte) (bytes_plain text)

pub script_text_plain : (text : List ℕ) → has_mark (script_text text) ≡ false
unfolding script_text
script_text_plain text = joined (flat_map script_byte text) (34 ∷ []) (bytes_plain text) refl
