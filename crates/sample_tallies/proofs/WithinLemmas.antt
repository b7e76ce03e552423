-- First runs that can be drawn stay so in sums.
use Rattle.std.proofs.Common.{◌≡◌, ◌≤◌, ℕ, min, Bool, true, List, [], ◌∷◌, refl, sym, subst, arith, inl, inr}
use Rattle.std.specs.Prelude.{All, Option, Some, None}
use Rattle.std.proofs.lemmas.Bool.{cases_Bool}
use Rattle.std.proofs.lemmas.List.Elements.{All-nil, All-cons, All-head, All-tail}
use Rattle.std.proofs.lemmas.Option.{same_Some}
use Rattle.cheri_model.specs.runs.Machine.{MachineState}
use Rattle.sample_draws.specs.declared.drawing.TheConstants.{MAX_RUN}
use Rattle.sample_tallies.specs.declared.seen.Seen.{Seen}
use Rattle.sample_tallies.specs.declared.seen.TrapPlace.{TrapPlace}
use Rattle.sample_tallies.specs.Tables.{Entry, both, either, with_entry, with_entries}
use Rattle.sample_tallies.specs.SameStates.{same_state, same_place}
use Rattle.sample_tallies.specs.Tallies.{TallyParts, add}
use Rattle.sample_tallies.specs.Claims.{with_trap, with_end}
use Rattle.sample_tallies.specs.Within.{is_drawable, IsWithin}
use Rattle.sample_tallies.proofs.TableLemmas.{grown, at_hit, at_miss}

least : (a b : ℕ) → a ≤ MAX_RUN → min a b ≤ MAX_RUN
least a b h = omega arith

-- what holds of each entry holds of each after one more
pub entry_all : {K : Type 0} (P : Entry K → Type 0) (same : K → K → Bool) (t : List (Entry K)) (m : Entry K)
    → ((e : Entry K) → same e.key m.key ≡ true → P e → P (grown e m)) → All P t → P m
    → All P (with_entry same t m)
unfolding with_entry
entry_all {K} P same [] m grows all one = All-cons P m [] one (All-nil P)
entry_all {K} P same (e ∷ es) m grows all one =
    let head = All-head P e es all in
    let tail = All-tail P e es all in
    elim (cases_Bool (same e.key m.key)) [
      | inl hit ↦ subst (All P) (sym (at_hit same e m es hit)) (All-cons P (grown e m) es (grows e hit head) tail)
      | inr miss ↦ subst (All P) (sym (at_miss same e m es miss))
          (All-cons P e (with_entry same es m) head (entry_all P same es m grows tail one))
    ]

entry_within : {K : Type 0} (same : K → K → Bool) (t : List (Entry K)) (m : Entry K)
    → All (λ (e : Entry K). is_drawable e.seen) t → is_drawable m.seen
    → All (λ (e : Entry K). is_drawable e.seen) (with_entry same t m)
entry_within {K} same t m all one =
    entry_all (λ (e : Entry K). is_drawable e.seen) same t m
    (λ e hit head. least e.seen.first m.seen.first head) all one

entries_within : {K : Type 0} (same : K → K → Bool) (t more : List (Entry K))
    → All (λ (e : Entry K). is_drawable e.seen) t → All (λ (e : Entry K). is_drawable e.seen) more
    → All (λ (e : Entry K). is_drawable e.seen) (with_entries same t more)
entries_within {K} same t [] all also = all
entries_within {K} same t (m ∷ more) all also =
    let P : Entry K → Type 0 = λ (e : Entry K). is_drawable e.seen in
    entries_within same (with_entry same t m) more (entry_within same t m all (All-head P m more also))
    (All-tail P m more also)

either_within : (a b : Option Seen) → ((seen : Seen) → a ≡ Some seen → is_drawable seen)
    → ((seen : Seen) → b ≡ Some seen → is_drawable seen) → (seen : Seen) → either a b ≡ Some seen → is_drawable seen
either_within None b one other seen is = other seen is
either_within (Some a) None one other seen is = one seen is
either_within (Some a) (Some b) one other seen is =
    subst is_drawable (same_Some (both a b) seen is) (least a.first b.first (one a refl))

pub trap_within : (t : TallyParts) (trap : Entry TrapPlace) → IsWithin t → is_drawable trap.seen
    → IsWithin (with_trap t trap)
trap_within t trap is one = record {
  cut = is.cut;
  hung = is.hung;
  traps = entry_within same_place t.traps trap is.traps one;
  ends = is.ends;
}

pub end_within : (t : TallyParts) (end : Entry MachineState) → IsWithin t → is_drawable end.seen
    → IsWithin (with_end t end)
end_within t end is one = record {
  cut = is.cut;
  hung = is.hung;
  traps = is.traps;
  ends = entry_within same_state t.ends end is.ends one;
}

pub sum_within : (a b : TallyParts) → IsWithin a → IsWithin b → IsWithin (add a b)
unfolding add
sum_within a b one other = record {
  cut = either_within a.cut b.cut one.cut other.cut;
  hung = either_within a.hung b.hung one.hung other.hung;
  traps = entries_within same_place a.traps b.traps one.traps other.traps;
  ends = entries_within same_state a.ends b.ends one.ends other.ends;
}
