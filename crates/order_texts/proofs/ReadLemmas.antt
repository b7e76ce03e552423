-- The text of an order is read as its operations.
use Rattle.std.proofs.Common.{◌≡◌, ℕ, suc, ◌+◌, ◌-◌, ◌^◌, ◌<◌, ◌≤◌, Bool, true, false, cond, nat_lt, nat_le, List, [], ◌∷◌, ◌++◌, length, drop, get_or, refl, sym, ap, ◌∙◌, append_assoc, append-nil, decimal, Some, Result, Ok, length-append, arith}
use Rattle.std.specs.Prelude.{slice_index, ◌==◌, ◌&&◌, nat_eq}
use Rattle.std.specs.Char.{digit_value, is_digit}
use Rattle.std.specs.Fmt.{digits}
use Rattle.std.specs.List.{take_while, cons_option}
use Rattle.std.specs.Str.Parse.{AllDigits}
use Rattle.std.proofs.Math.Seq.{get_or-append_seam, drop-append_seam, drop-length}
use Rattle.std.proofs.lemmas.Bool.{lt-ltb, le-leb}
use Rattle.std.proofs.lemmas.Bool.Decides.{nat_tests}
use Rattle.std.proofs.lemmas.Fmt.{digits_is_IsNumeral, decimal_digit}
use Rattle.std.proofs.lemmas.List.Sums.{take_while-cons}
use Rattle.cap_model.specs.declared.encoding.TheConstants.{ADDRESS_SPACE}
use Rattle.cheri_model.specs.declared.operation.Op.{Op}
use Rattle.cheri_model.specs.declared.operation.Op.TheVariants as operation
use Rattle.cheri_model.specs.runs.Sweeps.{is_range}
use Rattle.orders.specs.declared.fault.OrderFault.{OrderFault}
use Rattle.orders.specs.Faults.{◌>>=◌}
use Rattle.text_numbers.specs.Numerals.{begins_hexadecimal}
use Rattle.orders.specs.Numbers.{digits_of, number_of, has_byte, digits_end, number_end}
use Rattle.orders.specs.Sweeps.{sweep_at}
use Rattle.orders.specs.Orders.{operations_from, header, is_version_2, is_hart_digit, token_at, from_place, within_limit, order_limit, order_of}
use Rattle.orders.proofs.OrderLemmas.{token_first, whole_text}
use Rattle.order_texts.specs.OrderTexts.{number_text, operation_text, operations_text, IsOperation, AreOperations, AreSteps}

-- ---- a number and the byte that closes it

digits_before : (ds rest : List ℕ) (closer : ℕ) → AllDigits 16 ds → is_digit closer 16 ≡ false
    → take_while (λ b. is_digit b 16) (ds ++ closer ∷ rest) ≡ ds
digits_before [] rest closer all unlike = rw (take_while-cons (λ b. is_digit b 16) closer rest, unlike) refl
digits_before (d ∷ ds) rest closer all unlike =
    let here : is_digit d 16 ≡ true = lt-ltb (digit_value d) 16 all.0 in
    rw (take_while-cons (λ b. is_digit b 16) d (ds ++ closer ∷ rest), here, digits_before ds rest closer all.1 unlike) refl

hexadecimal : (rest : List ℕ) → begins_hexadecimal (48 ∷ 120 ∷ rest) ≡ true
hexadecimal rest =
    let room : nat_le 2 (length (48 ∷ 120 ∷ rest)) ≡ true = le-leb 2 (suc (suc (length rest))) (omega arith) in
    rw room refl

byte_there : (before rest : List ℕ) (b place : ℕ) → place ≡ length before → has_byte b (before ++ b ∷ rest) place ≡ true
byte_there before rest b place is =
    let size = length-append before (b ∷ rest) in
    let room : nat_lt (length before) (length (before ++ b ∷ rest)) ≡ true = lt-ltb _ _ (omega arith) in
    let there : get_or (before ++ b ∷ rest) (length before) 0 ≡ b = get_or-append_seam before b rest 0 in
    let same : (b == b) ≡ true = grind (arith, nat_tests) in
    rw (is, room, there, same) refl

-- what is read of a text that has a number and the byte that closes it
record IsRead (n closer : ℕ) (text : List ℕ) (place end : ℕ) : Type 0 where
  ends : number_end closer text place ≡ Ok end
  number : number_of (drop place text) ≡ n

number_read : (before rest : List ℕ) (n closer place : ℕ) → n < 16 ^ 64 → is_digit closer 16 ≡ false → place ≡ length before
    → IsRead n closer (before ++ (number_text n ++ closer ∷ rest)) place (length (before ++ number_text n))
unfolding number_end number_of
number_read before rest n closer place small unlike is =
    let ds : List ℕ = digits 16 false n in
    let numeral = digits_is_IsNumeral 16 false (omega arith) (omega arith) n small in
    let text : List ℕ = before ++ (number_text n ++ closer ∷ rest) in
    let here : drop place text ≡ 48 ∷ 120 ∷ (ds ++ closer ∷ rest) = rw is (drop-append_seam before (number_text n ++ closer ∷ rest)) in
    let hex = hexadecimal (ds ++ closer ∷ rest) in
    let those : digits_of (drop place text) ≡ ds = rw (here, hex) (digits_before ds rest closer numeral.0.1 unlike) in
    let size = length-append before (number_text n) in
    let end : digits_end text place ≡ length (before ++ number_text n) = rw (those, here, hex) (omega arith) in
    let some : nat_lt 0 (length ds) ≡ true = lt-ltb 0 (length ds) numeral.0.0 in
    let grouped : text ≡ (before ++ number_text n) ++ closer ∷ rest = sym (append_assoc before (number_text n) (closer ∷ rest)) in
    let closed : has_byte closer text (length (before ++ number_text n)) ≡ true =
    rw grouped (byte_there (before ++ number_text n) rest closer (length (before ++ number_text n)) refl) in
    record {
      ends = rw (end, those, some, closed) refl;
      number = rw (those, here, hex) numeral.1;
    }

-- ---- tokens

-- where an operation was read, and where the next one begins
record IsToken (op : Op) (text : List ℕ) (place next : ℕ) : Type 0 where
  room : place < length text
  token : token_at text place (slice_index text place) ≡ Ok (Some op, next)
  ahead : place < next

first_byte : (before rest : List ℕ) (b : ℕ) → (length before < length (before ++ b ∷ rest)) × (slice_index (before ++ b ∷ rest) (length before) ≡ b)
first_byte before rest b =
    let size = length-append before (b ∷ rest) in
    (omega arith, get_or-append_seam before b rest 0)

step_read : (before rest : List ℕ) (hart : ℕ) → hart < 8
    → IsToken (operation.Step hart) (before ++ (decimal hart ++ rest)) (length before) (length (before ++ decimal hart))
unfolding token_at
step_read before rest hart small =
    let one = decimal_digit hart (omega arith) in
    let first = first_byte before rest (48 + hart) in
    let digit : is_hart_digit (48 + hart) ≡ true = grind (arith, nat_tests) in
    let back : 48 + hart - 48 ≡ hart = omega arith in
    let size = length-append before ((48 + hart) ∷ []) in
    let next : length before + 1 ≡ length (before ++ (48 + hart) ∷ []) = omega arith in
    rw one (record {
      room = first.0;
      token = rw (first.1, digit, back, next) refl;
      ahead = omega arith;
    })

-- the parts of a sweep, regrouped around its numbers
around_low : (before a low b high z rest : List ℕ)
    → before ++ ((a ++ (low ++ (b ++ (high ++ z)))) ++ rest) ≡ (before ++ a) ++ (low ++ (b ++ (high ++ (z ++ rest))))
around_low before a low b high z rest = simp append_assoc

around_high : (before a low b high z rest : List ℕ)
    → before ++ ((a ++ (low ++ (b ++ (high ++ z)))) ++ rest) ≡ (((before ++ a) ++ low) ++ b) ++ (high ++ (z ++ rest))
around_high before a low b high z rest = simp append_assoc

up_to_end : (before a low b high z : List ℕ)
    → ((((before ++ a) ++ low) ++ b) ++ high) ++ z ≡ before ++ (a ++ (low ++ (b ++ (high ++ z))))
up_to_end before a low b high z = simp append_assoc

sweep_read : (before rest : List ℕ) (lo hi : ℕ) → IsOperation (operation.Sweep lo hi)
    → is_version_2 (before ++ (operation_text (operation.Sweep lo hi) ++ rest)) ≡ true
    → IsToken (operation.Sweep lo hi) (before ++ (operation_text (operation.Sweep lo hi) ++ rest)) (length before)
    (length (before ++ operation_text (operation.Sweep lo hi)))
unfolding token_at sweep_at
sweep_read before rest lo hi lawful version =
    let text : List ℕ = before ++ (operation_text (operation.Sweep lo hi) ++ rest) in
    let first = first_byte before ((number_text lo ++ (44 ∷ (number_text hi ++ 93 ∷ []))) ++ rest) 91 in
    let opened : List ℕ = before ++ 91 ∷ [] in
    let middle : List ℕ = (opened ++ number_text lo) ++ 44 ∷ [] in
    let one : text ≡ opened ++ (number_text lo ++ 44 ∷ (number_text hi ++ 93 ∷ rest)) =
    around_low before (91 ∷ []) (number_text lo) (44 ∷ []) (number_text hi) (93 ∷ []) rest in
    let two : text ≡ middle ++ (number_text hi ++ 93 ∷ rest) =
    around_high before (91 ∷ []) (number_text lo) (44 ∷ []) (number_text hi) (93 ∷ []) rest in
    let closed : (middle ++ number_text hi) ++ 93 ∷ [] ≡ before ++ operation_text (operation.Sweep lo hi) =
    up_to_end before (91 ∷ []) (number_text lo) (44 ∷ []) (number_text hi) (93 ∷ []) in
    let size_opened : length opened ≡ length before + 1 = length-append before (91 ∷ []) in
    let size_low : length (opened ++ number_text lo) ≡ length opened + length (number_text lo) = length-append opened (number_text lo) in
    let size_middle : length middle ≡ length (opened ++ number_text lo) + 1 = length-append (opened ++ number_text lo) (44 ∷ []) in
    let size_high : length (middle ++ number_text hi) ≡ length middle + length (number_text hi) = length-append middle (number_text hi) in
    let size : length ((middle ++ number_text hi) ++ 93 ∷ []) ≡ length (middle ++ number_text hi) + 1 =
    length-append (middle ++ number_text hi) (93 ∷ []) in
    let low = number_read opened (number_text hi ++ 93 ∷ rest) lo 44 (length before + 1) (omega arith) refl (omega arith) in
    let high = number_read middle rest hi 93 (length (opened ++ number_text lo) + 1) (omega arith) refl (omega arith) in
    let comma : number_end 44 text (length before + 1) ≡ Ok (length (opened ++ number_text lo)) =
    ap (λ (t : List ℕ). number_end 44 t (length before + 1)) one ∙ low.ends in
    let bracket : number_end 93 text (length (opened ++ number_text lo) + 1) ≡ Ok (length (middle ++ number_text hi)) =
    ap (λ (t : List ℕ). number_end 93 t (length (opened ++ number_text lo) + 1)) two ∙ high.ends in
    let first_number : number_of (drop (length before + 1) text) ≡ lo =
    ap (λ (t : List ℕ). number_of (drop (length before + 1) t)) one ∙ low.number in
    let second_number : number_of (drop (length (opened ++ number_text lo) + 1) text) ≡ hi =
    ap (λ (t : List ℕ). number_of (drop (length (opened ++ number_text lo) + 1) t)) two ∙ high.number in
    let range : (is_range lo hi && nat_lt lo ADDRESS_SPACE) ≡ true = grind (arith, nat_tests) in
    let next : length (middle ++ number_text hi) + 1 ≡ length (before ++ operation_text (operation.Sweep lo hi)) =
    sym size ∙ ap (λ (l : List ℕ). length l) closed in
    let ahead : length before < length (middle ++ number_text hi) + 1 = omega arith in
    record {
      room = first.0;
      token = rw (first.1, version, comma, bracket, first_number, second_number, range, next) refl;
      ahead = rw next at ahead;
    }

-- ---- whole orders

-- an operation that can be read in a text of version 2, or of version 1
abbrev CanRead : Bool → Op → Type 0
CanRead version (operation.Step hart) = hart < 8
CanRead version (operation.Sweep lo hi) = IsOperation (operation.Sweep lo hi) × (version ≡ true)

abbrev AreRead : Bool → List Op → Type 0
AreRead version [] = Unit {0}
AreRead version (op ∷ ops) = CanRead version op × AreRead version ops

token_read : (op : Op) (before rest text : List ℕ) → text ≡ before ++ (operation_text op ++ rest) → CanRead (is_version_2 text) op
    → IsToken op text (length before) (length (before ++ operation_text op))
token_read (operation.Step hart) before rest text is can = rw is (step_read before rest hart can)
token_read (operation.Sweep lo hi) before rest text is can =
    rw is (sweep_read before rest lo hi can.0 (ap (λ (t : List ℕ). is_version_2 t) (sym is) ∙ can.1))

reads : (ops : List Op) (before text : List ℕ) → text ≡ before ++ operations_text ops → AreRead (is_version_2 text) ops
    → from_place text (length before) ≡ Ok ops
unfolding operations_text operations_from
reads [] before text is all = rw (is, append-nil, drop-length before) refl
reads (op ∷ ops) before text is all =
    let t = token_read op before (operations_text ops) text is all.0 in
    let rest = reads ops (before ++ operation_text op) text
    (is ∙ sym (append_assoc before (operation_text op) (operations_text ops))) all.1 in
    token_first text (length before) (Some op) (length (before ++ operation_text op)) t.room t.token t.ahead
    ∙ ap (λ (r : Result (List Op) OrderFault). r >>= (λ later. Ok (cons_option (Some op) later))) rest

are_read : (ops : List Op) → AreOperations ops → AreRead true ops
are_read [] all = tt
are_read (operation.Step hart ∷ ops) all = (all.0, are_read ops all.1)
are_read (operation.Sweep lo hi ∷ ops) all = ((all.0, refl), are_read ops all.1)

steps_are_read : (version : Bool) (ops : List Op) → AreSteps ops → AreRead version ops
steps_are_read version [] all = tt
steps_are_read version (operation.Step hart ∷ ops) all = (all.0, steps_are_read version ops all.1)
steps_are_read version (operation.Sweep lo hi ∷ ops) all = absurd all.0

limited : (ops : List Op) → length ops ≤ order_limit → within_limit ops ≡ Ok ops
limited ops few =
    let test : nat_lt order_limit (length ops) ≡ false = grind (arith, nat_tests) in
    rw test refl

pub sweeps_read : (ops : List Op) → AreOperations ops → length ops ≤ order_limit → order_of (header ++ operations_text ops) ≡ Ok ops
unfolding is_version_2
sweeps_read ops all few =
    let text : List ℕ = header ++ operations_text ops in
    let version : is_version_2 text ≡ true = refl in
    let can : AreRead (is_version_2 text) ops = are_read ops all in
    let whole : from_place text 8 ≡ Ok ops = reads ops header text refl can in
    whole_text text ∙ (ap (λ (r : Result (List Op) OrderFault). r >>= within_limit) whole ∙ limited ops few)

pub steps_read : (op : Op) (ops : List Op) → AreSteps (op ∷ ops) → length (op ∷ ops) ≤ order_limit
    → order_of (operations_text (op ∷ ops)) ≡ Ok (op ∷ ops)
unfolding is_version_2 operations_text
steps_read (operation.Sweep lo hi) ops all few = absurd all.0
steps_read (operation.Step hart) ops all few =
    let text : List ℕ = operations_text (operation.Step hart ∷ ops) in
    let one : text ≡ (48 + hart) ∷ operations_text ops = ap (λ (l : List ℕ). l ++ operations_text ops) (decimal_digit hart (let small = all.0 in omega arith)) in
    let other : nat_eq 111 (48 + hart) ≡ false = (let small = all.0 in grind (arith, nat_tests)) in
    let version : is_version_2 text ≡ false = rw (one, other) refl in
    let whole : from_place text 0 ≡ Ok (operation.Step hart ∷ ops) =
    reads (operation.Step hart ∷ ops) [] text refl (steps_are_read (is_version_2 text) (operation.Step hart ∷ ops) all) in
    whole_text text
    ∙ (ap (λ (b : Bool). from_place text (cond b 8 0) >>= within_limit) version
    ∙ (ap (λ (r : Result (List Op) OrderFault). r >>= within_limit) whole ∙ limited (operation.Step hart ∷ ops) few))
