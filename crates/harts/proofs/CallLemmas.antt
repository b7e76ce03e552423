-- The calls of a hart's loop, one turn after another.
use Rattle.std.proofs.Common.{◌≡◌, ℕ, suc, ◌+◌, List, [], ◌∷◌, ◌++◌, refl, sym, ap, subst, ◌∙◌, arith}
use Rattle.std.proofs.lemmas.List.{append-nil}
use Rattle.harts.specs.declared.gates.Call.{Call}
use Rattle.harts.specs.declared.gates.Call.TheVariants.{Before, After}
use Rattle.harts.specs.declared.gates.Turn.{Turn}
use Rattle.harts.specs.declared.gates.Turn.TheVariants.{Go}
use Rattle.harts.specs.declared.workers.Why.{Why}
use Rattle.harts.specs.Calls.{with_turns, AreLast, AreCalls}

-- before the first turn
pub no_turns : (calls : List Call) (hart : ℕ) → calls ≡ with_turns calls hart 0
unfolding with_turns
no_turns calls hart = refl

-- after one turn more, in which the hart stepped
pub one_turn_more : (old now asked told : List Call) (hart turn : ℕ) → now ≡ with_turns old hart turn →
    asked ≡ now ++ Before hart turn Go ∷ [] → told ≡ asked ++ After hart turn ∷ [] → told ≡ with_turns old hart (turn + 1)
unfolding with_turns
one_turn_more old now asked told hart turn before ask tell =
    let next : suc turn ≡ turn + 1 = omega arith in
    subst (λ n. told ≡ with_turns old hart n) next
    (tell ∙ (ap (λ (calls : List Call). calls ++ After hart turn ∷ []) ask
    ∙ ap (λ (calls : List Call). (calls ++ Before hart turn Go ∷ []) ++ After hart turn ∷ []) before))

-- a loop that ended after its last step
pub ended_after : (old now : List Call) (hart steps : ℕ) (why : Why) → AreLast hart steps why [] →
    now ≡ with_turns old hart steps → AreCalls old now hart steps why
unfolding AreCalls
ended_after old now hart steps why last is = ([], last, is ∙ sym (append-nil (with_turns old hart steps)))

-- and one that ended before its next step
pub ended_before : (old now asked : List Call) (hart steps : ℕ) (answer : Turn) (why : Why) →
    AreLast hart steps why (Before hart steps answer ∷ []) → now ≡ with_turns old hart steps →
    asked ≡ now ++ Before hart steps answer ∷ [] → AreCalls old asked hart steps why
unfolding AreCalls
ended_before old now asked hart steps answer why last is ask = (
  Before hart steps answer ∷ [],
  last,
  ask ∙ ap (λ (calls : List Call). calls ++ Before hart steps answer ∷ []) is,
)
