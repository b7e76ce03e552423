-- Numbers that expressions are worth have 64 bits.
use Rattle.std.proofs.Common.{◌≡◌, ℕ, ◌+◌, ◌-◌, ◌*◌, ◌/◌, ◌%◌, ◌^◌, ◌<◌, ◌≤◌, ◌==◌, nat_lt, Bool, true, false, cond, List, [], ◌∷◌, Option, Some, None, Result, Ok, Err, All, refl, subst, arith}
use Rattle.std.specs.Prelude.{bit_and, bit_or, bit_xor, option_map}
use Rattle.std.proofs.Math.Nat.{div-le_self, mod-le}
use Rattle.std.proofs.lemmas.Nat.{or_lt, xor_lt, and_le_l}
use Rattle.std.proofs.lemmas.List.Elements.{All-nil, All-cons, All-head, All-tail}
use Rattle.asm_values.specs.declared.operators.UnaryOp.{UnaryOp}
use Rattle.asm_values.specs.declared.operators.UnaryOp.TheVariants.{Negate, Keep, Invert}
use Rattle.asm_values.specs.declared.operators.BinaryOp.{BinaryOp}
use Rattle.asm_values.specs.declared.operators.BinaryOp.TheVariants as ops
use Rattle.asm_values.specs.declared.values.Location.{Location}
use Rattle.asm_values.specs.declared.values.Value.{Value}
use Rattle.asm_values.specs.declared.values.Value.TheVariants.{Number, At}
use Rattle.asm_values.specs.Numbers.{is_negative, negated, magnitude, with_sign, inverted, differ, quotient, remainder, sum, difference}
use Rattle.asm_values.specs.Values.{unary_value, binary_number, moved, moved_by, moved_on, distance, binary_value}
use Rattle.asm_expressions.specs.declared.node.Node.{Node}
use Rattle.asm_expressions.specs.declared.node.NodeKind.{NodeKind}
use Rattle.asm_expressions.specs.declared.node.NodeKind.TheVariants as kinds
use Rattle.asm_expressions.specs.declared.values.ValueFault.{ValueFault}
use Rattle.asm_expressions.specs.Values.{Meanings, apart_of, operator_value, name_value, on_top, with_unary, with_binary, worked_kind, worked, values_of, top_of, value_of}
use Rattle.asm_listable.proofs.Starts.{then_ok}
use Rattle.asm_promises.proofs.Nodes.{IsLowNode}

abbrev pub IsLowOf : Value → Type 0
IsLowOf (Number n) = n < 2 ^ 64
IsLowOf (At location) = Unit {0}

pub record IsLowValue (value : Value) : Type 0 where
  pub low : IsLowOf value

pub record IsLowIf (o : Option Value) : Type 0 where
  pub then : (value : Value) → o ≡ Some value → IsLowValue value

pub none_low : IsLowIf None
none_low = record { then = λ value e. absurd (cc) }

pub some_low : (value : Value) → IsLowValue value → IsLowIf (Some value)
some_low value h = record { then = λ other e. (let is : value ≡ other = cc in subst IsLowValue is h) }

number : (n : ℕ) → n < 2 ^ 64 → IsLowIf (Some (Number n))
number n low = some_low (Number n) (record { low = low })

place : (location : Location) → IsLowIf (Some (At location))
place location = some_low (At location) (record { low = tt })

-- ---- operators

unary_low : (op : UnaryOp) (value : Value) → IsLowValue value → IsLowIf (unary_value op value)
unary_low Negate (Number n) h = number (negated n) (omega arith)
unary_low Keep (Number n) h = number n h.low
unary_low Invert (Number n) h = number (inverted n) (omega arith)
unary_low Negate (At location) h = none_low
unary_low Keep (At location) h = place location
unary_low Invert (At location) h = none_low

record IsLowNumber (o : Option ℕ) : Type 0 where
  then : (n : ℕ) → o ≡ Some n → n < 2 ^ 64

there : (n : ℕ) → n < 2 ^ 64 → IsLowNumber (Some n)
there n low = record { then = λ m e. (let is : n ≡ m = cc in subst (λ (k : ℕ). k < 2 ^ 64) is low) }

nowhere : IsLowNumber None
nowhere = record { then = λ m e. absurd (cc) }

if_low : (test : Bool) (a b : ℕ) → a < 2 ^ 64 → b < 2 ^ 64 → cond test a b < 2 ^ 64
if_low true a b p q = p
if_low false a b p q = q

negated_low : (n : ℕ) → negated n < 2 ^ 64
negated_low n = omega arith

magnitude_low : (n : ℕ) → n < 2 ^ 64 → magnitude n < 2 ^ 64
magnitude_low n h = if_low (is_negative n) (negated n) n (negated_low n) h

sign_low : (negative : Bool) (n : ℕ) → n < 2 ^ 64 → with_sign negative n < 2 ^ 64
sign_low negative n h = if_low negative (negated n) n (negated_low n) h

below : (m n : ℕ) → m ≤ n → n < 2 ^ 64 → m < 2 ^ 64
below m n h low = omega arith

unless : (none : Bool) (n : ℕ) → n < 2 ^ 64 → IsLowNumber (cond none None (Some n))
unless true n low = nowhere
unless false n low = there n low

only : (test : Bool) (n : ℕ) → n < 2 ^ 64 → IsLowNumber (cond test (Some n) None)
only true n low = there n low
only false n low = nowhere

quotient_low : (a b : ℕ) → a < 2 ^ 64 → IsLowNumber (quotient a b)
unfolding quotient
quotient_low a b h =
    let value = magnitude a / magnitude b in
    let small : value < 2 ^ 64 = below value (magnitude a) (div-le_self (magnitude a) (magnitude b)) (magnitude_low a h) in
    unless (magnitude b == 0) (with_sign (differ (is_negative a) (is_negative b)) value) (sign_low (differ (is_negative a) (is_negative b)) value small)

remainder_low : (a b : ℕ) → a < 2 ^ 64 → IsLowNumber (remainder a b)
unfolding remainder
remainder_low a b h =
    let value = magnitude a % magnitude b in
    let small : value < 2 ^ 64 = below value (magnitude a) (mod-le (magnitude a) (magnitude b)) (magnitude_low a h) in
    unless (magnitude b == 0) (with_sign (is_negative a) value) (sign_low (is_negative a) value small)

left_low : (n : ℕ) → n % 2 ^ 64 < 2 ^ 64
left_low n = omega arith

inverted_low : (n : ℕ) → inverted n < 2 ^ 64
inverted_low n = omega arith

binary_low : (op : BinaryOp) (a b : ℕ) → a < 2 ^ 64 → b < 2 ^ 64 → IsLowNumber (binary_number op a b)
binary_low ops.Add a b p q = there (sum a b) (left_low (a + b))
binary_low ops.Subtract a b p q = there (difference a b) (left_low (a + (2 ^ 64 - b)))
binary_low ops.Or a b p q = there (bit_or a b) (or_lt 64 a b p q)
binary_low ops.And a b p q = there (bit_and a b) (below (bit_and a b) a (and_le_l a b) p)
binary_low ops.Xor a b p q = there (bit_xor a b) (xor_lt 64 a b p q)
binary_low ops.OrNot a b p q = there (bit_or a (inverted b)) (or_lt 64 a (inverted b) p (inverted_low b))
binary_low ops.Multiply a b p q = there ((a * b) % 2 ^ 64) (left_low (a * b))
binary_low ops.Divide a b p q = quotient_low a b p
binary_low ops.Remainder a b p q = remainder_low a b p
binary_low ops.ShiftLeft a b p q = only (nat_lt b 64) ((a * 2 ^ b) % 2 ^ 64) (left_low (a * 2 ^ b))
binary_low ops.ShiftRight a b p q = only (nat_lt b 64) (a / 2 ^ b) (below (a / 2 ^ b) a (div-le_self a (2 ^ b)) p)

mapped : (o : Option ℕ) (f : ℕ → ℕ) → ((n : ℕ) → o ≡ Some n → f n < 2 ^ 64) → IsLowIf (option_map (λ n. Number (f n)) o)
mapped (Some n) f h = number (f n) (h n refl)
mapped None f h = none_low

by_low : (op : BinaryOp) (location : Location) (n : ℕ) → IsLowIf (moved_by op location n)
by_low ops.Add location n = some_low (moved location (sum location.offset n)) (record { low = tt })
by_low ops.Subtract location n = some_low (moved location (difference location.offset n)) (record { low = tt })
by_low _ location n = none_low

on_low : (op : BinaryOp) (n : ℕ) (location : Location) → IsLowIf (moved_on op n location)
on_low ops.Add n location = some_low (moved location (sum n location.offset)) (record { low = tt })
on_low _ n location = none_low

apart_low : (test : Bool) (to from : Location) (apart : Option ℕ)
    → IsLowIf (cond test (Some (Number (difference to.offset from.offset))) (option_map (λ n. Number (sum n (difference to.offset from.offset))) apart))
apart_low true to from apart = number (difference to.offset from.offset) (left_low (to.offset + (2 ^ 64 - from.offset)))
apart_low false to from apart =
    mapped apart (λ n. sum n (difference to.offset from.offset)) (λ n e. left_low (n + difference to.offset from.offset))

distance_low : (op : BinaryOp) (to from : Location) (apart : Option ℕ) → IsLowIf (distance op to from apart)
distance_low ops.Subtract to from apart = apart_low (to.chunk == from.chunk) to from apart
distance_low _ to from apart = none_low

both_low : (op : BinaryOp) (a b : Value) (apart : Option ℕ) → IsLowValue a → IsLowValue b → IsLowIf (binary_value op a b apart)
unfolding binary_value
both_low op (Number a) (Number b) apart p q =
    let n = binary_low op a b p.low q.low in mapped (binary_number op a b) (λ m. m) (λ m e. n.then m e)
both_low op (At location) (Number n) apart p q = by_low op location n
both_low op (Number n) (At location) apart p q = on_low op n location
both_low op (At to) (At from) apart p q = distance_low op to from apart

-- ---- expressions

abbrev AreLowOf : {F : Type 0} → Result (List Value) (ValueFault F) → Type 0
AreLowOf (Ok stack) = All IsLowValue stack
AreLowOf (Err fault) = Unit {0}

record AreLow {F : Type 0} (r : Result (List Value) (ValueFault F)) : Type 0 where
  low : AreLowOf r

top_low : {F : Type 0} (at : ℕ) (o : Option Value) (rest : List Value) → IsLowIf o → All IsLowValue rest → AreLow {F = F} (on_top (operator_value at o) rest)
top_low at (Some value) rest h k = record { low = All-cons IsLowValue value rest (h.then value refl) k }
top_low at None rest h k = record { low = tt }

module _ {F : Type 0} (m : Meanings F) (named : (node : Node) (value : Value) → m.named node ≡ Ok value → IsLowValue value) where
  unary_worked : (op : UnaryOp) (at : ℕ) (stack : List Value) → All IsLowValue stack → AreLow {F = F} (with_unary op at stack)
  unfolding with_unary
  unary_worked op at [] h = record { low = tt }
  unary_worked op at (value ∷ rest) h =
      top_low at (unary_value op value) rest (unary_low op value (All-head IsLowValue value rest h)) (All-tail IsLowValue value rest h)

  binary_worked : (op : BinaryOp) (at : ℕ) (stack : List Value) → All IsLowValue stack → AreLow {F = F} (with_binary m.apart op at stack)
  unfolding with_binary
  binary_worked op at [] h = record { low = tt }
  binary_worked op at (second ∷ []) h = record { low = tt }
  binary_worked op at (second ∷ first ∷ rest) h =
      let more = All-tail IsLowValue second (first ∷ rest) h in
      top_low at (binary_value op first second (apart_of m.apart first second)) rest
      (both_low op first second (apart_of m.apart first second) (All-head IsLowValue first rest more) (All-head IsLowValue second (first ∷ rest) h))
      (All-tail IsLowValue first rest more)

  name_worked : (r : Result Value F) (stack : List Value) → ((value : Value) → r ≡ Ok value → IsLowValue value) → All IsLowValue stack
      → AreLow {F = F} (on_top (name_value r) stack)
  name_worked (Ok value) stack h k = record { low = All-cons IsLowValue value stack (h value refl) k }
  name_worked (Err fault) stack h k = record { low = tt }

  named_worked : (node : Node) (stack : List Value) → All IsLowValue stack → AreLow {F = F} (on_top (name_value (m.named node)) stack)
  named_worked node stack h = name_worked (m.named node) stack (λ value e. named node value e) h

  kind_worked : (kind : NodeKind) (at : ℕ) (node : Node) (stack : List Value) → IsLowNode (record { kind = kind; at = at }) → All IsLowValue stack
      → AreLow {F = F} (worked_kind m kind at node stack)
  kind_worked (kinds.Number n) at node stack low h = record { low = All-cons IsLowValue (Number n) stack (record { low = low.low }) h }
  kind_worked (kinds.Unary op) at node stack low h = unary_worked op at stack h
  kind_worked (kinds.Binary op) at node stack low h = binary_worked op at stack h
  kind_worked _ at node stack low h = named_worked node stack h

  node_worked : (node : Node) (stack : List Value) → IsLowNode node → All IsLowValue stack → AreLow {F = F} (worked m node stack)
  unfolding worked
  node_worked node stack low h = kind_worked node.kind node.at node stack (record { low = low.low }) h

  ok_low : (r : Result (List Value) (ValueFault F)) (stack : List Value) → AreLow r → r ≡ Ok stack → All IsLowValue stack
  ok_low (Ok one) stack h e = let is : one ≡ stack = cc in subst (All IsLowValue) is h.low
  ok_low (Err fault) stack h e = absurd (cc)

  nodes_worked : (nodes : List Node) (stack after : List Value) → All IsLowNode nodes → All IsLowValue stack → values_of m stack nodes ≡ Ok after
      → All IsLowValue after
  unfolding values_of
  nodes_worked [] stack after low h e = let is : stack ≡ after = cc in subst (All IsLowValue) is h
  nodes_worked (node ∷ nodes) stack after low h e =
      let x = then_ok (worked m node stack) (λ more. values_of m more nodes) after e in
      nodes_worked nodes x.0 after (All-tail IsLowNode node nodes low)
      (ok_low (worked m node stack) x.0 (node_worked node stack (All-head IsLowNode node nodes low) h) x.1) x.2

  first_low : (stack : List Value) (value : Value) → All IsLowValue stack → top_of {F = F} stack ≡ Ok value → IsLowValue value
  first_low (one ∷ rest) value h e = let is : one ≡ value = cc in subst IsLowValue is (All-head IsLowValue one rest h)
  first_low [] value h e = absurd (cc)

  pub value_low : (nodes : List Node) (value : Value) → All IsLowNode nodes → value_of m nodes ≡ Ok value → IsLowValue value
  unfolding value_of
  value_low nodes value low e =
      let x = then_ok (values_of m [] nodes) top_of value e in
      first_low x.0 value (nodes_worked nodes [] x.0 low (All-nil IsLowValue) x.1) x.2
