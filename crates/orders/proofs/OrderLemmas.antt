-- An order token by token: how many operations there were, and those that are left.
use Rattle.std.proofs.Common.{◌≡◌, ℕ, zero, suc, ◌+◌, ◌-◌, ◌<◌, ◌≤◌, true, false, nat_lt, List, [], ◌∷◌, length, drop, slice_index, Option, Some, None, Result, Ok, Err, IsOk, inl, inr, refl, sym, ap, ◌∙◌, add-one, arith}
use Rattle.std.specs.List.{cons_option}
use Rattle.std.proofs.Math.Seq.{drop-cons}
use Rattle.std.proofs.Math.ListN.{drop_of_length-le}
use Rattle.std.proofs.lemmas.List.{drop-drop}
use Rattle.std.proofs.lemmas.Bool.{cases_lt}
use Rattle.std.proofs.lemmas.Bool.Decides.{nat_tests}
use Rattle.cheri_model.specs.declared.operation.Op.{Op}
use Rattle.orders.specs.declared.fault.OrderFault.{OrderFault}
use Rattle.orders.specs.Faults.{◌>>=◌, size_fault}
use Rattle.orders.specs.Orders.{order_limit, body_start, is_hart_digit, is_blank, token_at, as_token, operations_from, from_place, or_none, left_from, within_limit, order_of}

-- some operations counted, and those of a text after them
abbrev pub counted : ℕ → Result (List Op) OrderFault → Result ℕ OrderFault
counted count later = later >>= (λ operations. Ok (count + length operations))

abbrev pub count_of : Result (List Op) OrderFault → Result ℕ OrderFault
count_of whole = whole >>= (λ operations. Ok (length operations))

pub none_counted : (whole : Result (List Op) OrderFault) → counted 0 whole ≡ count_of whole
none_counted (Ok operations) = ap Ok (omega arith)
none_counted (Err fault) = refl

-- the bytes of a token that was read are passed over
pub passed : (text : List ℕ) (next more place : ℕ) (rest : List ℕ) → next ≡ place + more → operations_from text next place rest ≡ operations_from text next next (drop more rest)
unfolding operations_from
passed text next zero place rest e =
    let here : place ≡ next = omega arith in ap (λ p. operations_from text next p rest) here
passed text next (suc more) place [] e = refl
passed text next (suc more) place (b ∷ rest) e =
    let before : nat_lt place next ≡ true = grind (arith, nat_tests) in
    rw before (passed text next more (place + 1) rest (omega arith))

-- the byte at a place and those after it
from_here : (text : List ℕ) (place : ℕ) → place < length text → drop place text ≡ slice_index text place ∷ drop (place + 1) text
from_here text place room = rw add-one (drop-cons text place 0 room)

-- one token and those after it
pub token_first : (text : List ℕ) (place : ℕ) (operation : Option Op) (next : ℕ) → place < length text → token_at text place (slice_index text place) ≡ Ok (operation, next) → place < next
    → from_place text place ≡ (from_place text next >>= (λ later. Ok (cons_option operation later)))
unfolding operations_from
token_first text place operation next room token ahead =
    let here : nat_lt place place ≡ false = grind (arith, nat_tests) in
    let more = passed text next (next - (place + 1)) (place + 1) (drop (place + 1) text) (omega arith) in
    let rest = drop-drop (next - (place + 1)) (place + 1) text in
    let there : place + 1 + (next - (place + 1)) ≡ next = omega arith in
    rw (from_here text place room, here, token, more, rest, there) refl

-- a faulty token
pub token_faulty : (text : List ℕ) (place : ℕ) (fault : OrderFault) → place < length text → token_at text place (slice_index text place) ≡ Err fault → from_place text place ≡ Err fault
unfolding operations_from
token_faulty text place fault room token =
    let here : nat_lt place place ≡ false = grind (arith, nat_tests) in
    rw (from_here text place room, here, token) refl

-- a blank holds no operation
blank_token : (text : List ℕ) (place b : ℕ) → is_blank b ≡ true → token_at text place b ≡ Ok (None, place + 1)
unfolding token_at
blank_token text place b blank =
    let digit : is_hart_digit b ≡ false = grind (arith, nat_tests) in
    rw (digit, blank) refl

none_before : (whole : Result (List Op) OrderFault) → (whole >>= (λ later. Ok (cons_option None later))) ≡ whole
none_before (Ok later) = refl
none_before (Err fault) = refl

pub blank_passed : (text : List ℕ) (place : ℕ) → place < length text → is_blank (slice_index text place) ≡ true → from_place text (place + 1) ≡ from_place text place
blank_passed text place room blank =
    let token = blank_token text place (slice_index text place) blank in
    sym (token_first text place None (place + 1) room token (omega arith) ∙ none_before (from_place text (place + 1)))

-- an operation was read where there is a token
pub read_before : (read : Result (Op × ℕ) OrderFault) → IsOk (as_token read) → IsOk read
read_before (Ok operation) good = refl
read_before (Err fault) good = good

-- an operation is counted before those after it
pub operation_counted : (count : ℕ) (operation : Op) (later : Result (List Op) OrderFault) (whole : Result ℕ OrderFault)
    → counted count (later >>= (λ l. Ok (cons_option (Some operation) l))) ≡ whole
    → counted (count + 1) later ≡ whole
operation_counted count operation (Ok later) whole h = (let n : count + 1 + length later ≡ count + length (operation ∷ later) = omega arith in ap Ok n) ∙ h
operation_counted count operation (Err fault) whole h = h

-- no token is left at the end
pub end_counted : (text : List ℕ) (place count : ℕ) → length text ≤ place → counted count (from_place text place) ≡ Ok count
unfolding operations_from
end_counted text place count ended = rw (drop_of_length-le text ended) (ap Ok (omega arith))

pub none_left : (text : List ℕ) (place : ℕ) → length text ≤ place → left_from text place ≡ []
unfolding operations_from
none_left text place ended = rw (drop_of_length-le text ended) refl

-- all operations from the first token on are those of the whole text
pub whole_text : (text : List ℕ) → order_of text ≡ (from_place text (body_start text) >>= within_limit)
unfolding order_of
whole_text text = ap (λ operations. operations >>= within_limit) (passed text (body_start text) (body_start text) 0 text (omega arith))

-- what the count of a text's operations says of its meaning
pub counted_faulty : (whole : Result (List Op) OrderFault) (fault : OrderFault) → Err fault ≡ count_of whole → (whole >>= within_limit) ≡ Err fault
counted_faulty (Ok operations) fault h = cc
counted_faulty (Err other) fault h = cc

pub counted_long : (whole : Result (List Op) OrderFault) (count : ℕ) → Ok count ≡ count_of whole → order_limit < count → (whole >>= within_limit) ≡ Err size_fault
counted_long (Err fault) count h long = cc
counted_long (Ok operations) count h long =
    let same : count ≡ length operations = cc in
    let test : nat_lt order_limit (length operations) ≡ true = grind (arith, nat_tests) in
    rw test refl

pub counted_short : (whole : Result (List Op) OrderFault) (count : ℕ) → Ok count ≡ count_of whole → count ≤ order_limit → (whole >>= within_limit) ≡ Ok (or_none whole)
counted_short (Err fault) count h short = cc
counted_short (Ok operations) count h short =
    let same : count ≡ length operations = cc in
    let test : nat_lt order_limit (length operations) ≡ false = grind (arith, nat_tests) in
    rw test refl

pub counted_good : (whole : Result (List Op) OrderFault) (count : ℕ) → Ok count ≡ count_of whole → IsOk whole
counted_good (Ok operations) count h = refl
counted_good (Err fault) count h = cc

pub counted_left : (whole : Result (List Op) OrderFault) (count : ℕ) → Ok count ≡ count_of whole → count ≡ length (or_none whole)
counted_left (Ok operations) count h = cc
counted_left (Err fault) count h = cc

-- where operations are left, there is text
pub room_left : (text : List ℕ) (place : ℕ) → 0 < length (left_from text place) → place < length text
room_left text place some = elim (cases_lt place (length text)) [
  | inl room ↦ room
  | inr ended ↦ (let none = ap length (none_left text place ended) in omega (arith, some, none))
]

-- no fault is good
not_good : {A B : Type 0} (fault : OrderFault) (r : Result A OrderFault) → r ≡ Err fault → IsOk r → B
not_good fault (Ok x) e h = cc
not_good fault (Err other) e h = cc

good_where : (text : List ℕ) (place : ℕ) (token : Result (Option Op × ℕ) OrderFault) → place < length text → IsOk (from_place text place)
    → token_at text place (slice_index text place) ≡ token → IsOk token
good_where text place (Ok token) room good e = refl
good_where text place (Err fault) room good e = not_good fault (from_place text place) (token_faulty text place fault room e) good

-- a good text begins with a good token
pub token_good : (text : List ℕ) (place : ℕ) → place < length text → IsOk (from_place text place) → IsOk (token_at text place (slice_index text place))
token_good text place room good = good_where text place _ room good refl

-- after it the text is good, and its operations are the token's and those that are left
pub record IsPassed (text : List ℕ) (place : ℕ) (operation : Option Op) (next : ℕ) : Type 0 where
  pub good : IsOk (from_place text next)
  pub left : left_from text place ≡ cons_option operation (left_from text next)

left_where : (operation : Option Op) (whole rest : Result (List Op) OrderFault) → whole ≡ (rest >>= (λ later. Ok (cons_option operation later))) → IsOk whole
    → (IsOk rest) × (or_none whole ≡ cons_option operation (or_none rest))
left_where operation whole (Ok later) e h = (refl, ap or_none e)
left_where operation whole (Err fault) e h = not_good fault whole e h

pub token_passed : (text : List ℕ) (place : ℕ) (operation : Option Op) (next : ℕ) → place < length text → IsOk (from_place text place)
    → token_at text place (slice_index text place) ≡ Ok (operation, next) → place < next → IsPassed text place operation next
token_passed text place operation next room good token ahead =
    let p = left_where operation (from_place text place) (from_place text next) (token_first text place operation next room token ahead) good in
    record { good = p.0; left = p.1 }
