-- A step that a condition hides keeps it: what is made of units that stay as they are wanted stays
-- as it is wanted.
use Rattle.std.proofs.Common.{◌≡◌, ◌≢◌, ℕ, zero, suc, ◌<◌, List, [], ◌∷◌, length, get_or, slice_get, slice_set, arith, ap, sym, ◌∙◌, refl, inl, inr, ◌⊎◌}
use Rattle.std.specs.Prelude.{Bool, true, false, not, ◌&&◌, ◌||◌, if◌then◌else◌, Option, Some, None}
use Rattle.std.proofs.lemmas.Bool.{cases_eq, and_parts}
use Rattle.std.proofs.lemmas.List.{get_or-set_same, get_or-set_other, length-set}
use Rattle.std.proofs.lemmas.Option.{none-some, same_Some}
use Rattle.cheri_model.specs.steps.Hart.{HartState}
use Rattle.cheri_model.specs.runs.Machine.{MachineState, hart_at, no_hart}
use Rattle.conditions.specs.declared.parts.Atom.{Atom}
use Rattle.conditions.specs.declared.parts.Atom.TheVariants as atom
use Rattle.conditions.specs.declared.parts.Comparison.{Comparison}
use Rattle.conditions.specs.declared.parts.Joint.{Joint}
use Rattle.conditions.specs.declared.parts.Joint.TheVariants.{And, Or}
use Rattle.conditions.specs.declared.parts.Node.{Node}
use Rattle.conditions.specs.declared.parts.Source.{Source}
use Rattle.conditions.specs.declared.parts.Subject.{Subject}
use Rattle.conditions.specs.declared.parts.Term.TheVariants as term
use Rattle.conditions.specs.declared.ways.Way.{Way}
use Rattle.conditions.specs.Formulas.{Formula, says, deny, enclosed, join, counted, formula_of}
use Rattle.conditions.specs.Holding.{joined, how_many, is_so, holds}
use Rattle.conditions.specs.Values.{number_of, source_number, term_number, atom_holds, compares}
use Rattle.conditions.specs.Hiding.{alone_source, is_of, alone_atom, alone, copies, so_of, neutral, is_joint, part_so, parts_so, Chain, single, chain, chain_of, unit_so, stays_so, left_way, opposite, moves, source_moves_of, source_moves, atom_keeps, count_needs, unit_or, keeps, hides}
use Rattle.conditions.proofs.HidingLemmas.{copy_of, both_of, of_is, is_of_same, memory_same, source_alone, same_hart, so_here}
use Rattle.conditions.proofs.MovingLemmas.{moves_not, compares_still, count_still, many_at_most, many_fewer}

-- ---- truth values

implying : (a b : Bool) → (not a || b) ≡ true → a ≡ true → b ≡ true
implying true b is so = is
implying false b is so = absurd (cc)

staying : (wanted before after : Bool) → stays_so wanted before after ≡ true → before ≡ wanted → after ≡ wanted
unfolding stays_so
staying true true after is so = is
staying true false after is so = absurd (cc)
staying false true after is so = absurd (cc)
staying false false true is so = absurd (cc)
staying false false false is so = refl

flipped : (a wanted : Bool) → not a ≡ wanted → a ≡ not wanted
flipped true true is = absurd (cc)
flipped true false is = refl
flipped false true is = refl
flipped false false is = absurd (cc)

flipped_back : (a wanted : Bool) → a ≡ not wanted → not a ≡ wanted
flipped_back true true is = absurd (cc)
flipped_back true false is = refl
flipped_back false true is = refl
flipped_back false false is = absurd (cc)

or_not : (wanted value : Bool) → (wanted ≡ value) ⊎ (wanted ≡ not value)
or_not true true = inl refl
or_not true false = inr refl
or_not false true = inr refl
or_not false false = inl refl

not_both : (a : Bool) → a ≡ not a → ⊥
not_both true is = absurd (cc)
not_both false is = absurd (cc)

-- where a joint doesn't change what is joined, both parts are as their whole is
neutral_parts : (joint : Joint) (x y : Bool) → joined joint x y ≡ neutral joint → (x ≡ neutral joint) × (y ≡ neutral joint)
unfolding joined
neutral_parts And true y is = (refl, is)
neutral_parts And false y is = absurd (cc)
neutral_parts Or true y is = absurd (cc)
neutral_parts Or false y is = (refl, is)

neutral_both : (joint : Joint) (x y : Bool) → x ≡ neutral joint → y ≡ neutral joint → joined joint x y ≡ neutral joint
unfolding joined
neutral_both And true y one other = other
neutral_both And false y one other = absurd (cc)
neutral_both Or true y one other = absurd (cc)
neutral_both Or false y one other = other

-- else one of them is
other_parts : (joint : Joint) (x y : Bool) → joined joint x y ≡ not (neutral joint) → (x ≡ not (neutral joint)) ⊎ (y ≡ not (neutral joint))
unfolding joined
other_parts And true y is = inr is
other_parts And false y is = inl refl
other_parts Or true y is = inl refl
other_parts Or false y is = inr is

other_first : (joint : Joint) (x y : Bool) → x ≡ not (neutral joint) → joined joint x y ≡ not (neutral joint)
unfolding joined
other_first And true y is = absurd (cc)
other_first And false y is = refl
other_first Or true y is = refl
other_first Or false y is = absurd (cc)

other_second : (joint : Joint) (x y : Bool) → y ≡ not (neutral joint) → joined joint x y ≡ not (neutral joint)
unfolding joined
other_second And true y is = is
other_second And false y is = refl
other_second Or true y is = refl
other_second Or false y is = is

same_joint : (j k : Joint) → is_joint j k ≡ true → k ≡ j
same_joint And And is = refl
same_joint And Or is = absurd (cc)
same_joint Or And is = absurd (cc)
same_joint Or Or is = refl

joint_itself : (j : Joint) → is_joint j j ≡ true
joint_itself And = refl
joint_itself Or = refl

or_true : (a : Bool) → (a ≡ true) ⊎ (a ≡ false)
or_true true = inl refl
or_true false = inr refl

joined_as : (s : MachineState) (b : ℕ) (joint k : Joint) (f g : Formula) → is_joint joint k ≡ true
    → is_so s b (join k f g) ≡ joined joint (is_so s b f) (is_so s b g)
unfolding is_so
joined_as s b joint k f g same = ap (λ (j : Joint). joined j (is_so s b f) (is_so s b g)) (same_joint joint k same)

-- ---- the parts of one hart

if_true : {A : Type 0} (test : Bool) (x y : A) → test ≡ true → (if test then x else y) ≡ x
if_true true x y is = refl
if_true false x y is = absurd (cc)

if_false : {A : Type 0} (test : Bool) (x y : A) → test ≡ false → (if test then x else y) ≡ y
if_false false x y is = refl
if_false true x y is = absurd (cc)

parts_joined : (joint k : Joint) (who : Subject) (hart : HartState) (f g : Formula) → is_joint joint k ≡ true
    → parts_so joint who hart (join k f g) ≡ joined joint (parts_so joint who hart f) (parts_so joint who hart g)
unfolding parts_so
parts_joined joint k who hart f g same = if_true (is_joint joint k) _ _ same

parts_single : (joint k : Joint) (who : Subject) (hart : HartState) (f g : Formula) → is_joint joint k ≡ false
    → parts_so joint who hart (join k f g) ≡ part_so joint who hart (join k f g)
unfolding parts_so
parts_single joint k who hart f g other = if_false (is_joint joint k) _ _ other

so_joined : (joint k : Joint) (who : Subject) (hart : HartState) (f g : Formula) → is_joint joint k ≡ true
    → joined joint (so_of who hart f) (so_of who hart g) ≡ so_of who hart (join k f g)
unfolding so_of
so_joined joint k who hart f g same = sym (joined_as (copies who hart) 0 joint k f g same)

-- a part of one hart alone is itself
part_alone : (joint : Joint) (who : Subject) (hart : HartState) (f : Formula) → alone f ≡ Some who → part_so joint who hart f ≡ so_of who hart f
part_alone joint who hart f is = if_true (is_of who (alone f)) _ _ (is_of_same who (alone f) is)

module _ (s : MachineState) (b : ℕ) (joint : Joint) (who : Subject) (hart : HartState) (here : hart_at s (number_of who b) ≡ hart) where
  so_part : (f : Formula) → alone f ≡ Some who → is_so s b f ≡ so_of who hart f
  so_part f is = so_here s b who hart f is here

  neutral_part : (f : Formula) → is_so s b f ≡ neutral joint → part_so joint who hart f ≡ neutral joint
  neutral_part f is = elim (or_true (is_of who (alone f))) [
    | inl of ↦ part_alone joint who hart f (of_is who (alone f) of) ∙ sym (so_part f (of_is who (alone f) of)) ∙ is
    | inr apart ↦ if_false (is_of who (alone f)) _ _ apart
  ]

  other_part : (f : Formula) → part_so joint who hart f ≡ not (neutral joint) → is_so s b f ≡ not (neutral joint)
  other_part f is = elim (or_true (is_of who (alone f))) [
    | inl of ↦ so_part f (of_is who (alone f) of) ∙ sym (part_alone joint who hart f (of_is who (alone f) of)) ∙ is
    | inr apart ↦ absurd (not_both (neutral joint) (sym (if_false (is_of who (alone f)) _ _ apart) ∙ is))
  ]

  all_join : (k : Joint) (f g : Formula) → is_so s b (join k f g) ≡ neutral joint
      → (is_so s b f ≡ neutral joint → parts_so joint who hart f ≡ neutral joint)
      → (is_so s b g ≡ neutral joint → parts_so joint who hart g ≡ neutral joint)
      → parts_so joint who hart (join k f g) ≡ neutral joint
  all_join k f g is first second = elim (or_true (is_joint joint k)) [
    | inl same ↦
        let whole : joined joint (is_so s b f) (is_so s b g) ≡ neutral joint = sym (joined_as s b joint k f g same) ∙ is in
        let both = neutral_parts joint (is_so s b f) (is_so s b g) whole in
        parts_joined joint k who hart f g same ∙ neutral_both joint _ _ (first both.0) (second both.1)
    | inr other ↦ parts_single joint k who hart f g other ∙ neutral_part (join k f g) is
  ]

  some_join : (k : Joint) (f g : Formula) → parts_so joint who hart (join k f g) ≡ not (neutral joint)
      → (parts_so joint who hart f ≡ not (neutral joint) → is_so s b f ≡ not (neutral joint))
      → (parts_so joint who hart g ≡ not (neutral joint) → is_so s b g ≡ not (neutral joint))
      → is_so s b (join k f g) ≡ not (neutral joint)
  some_join k f g is first second = elim (or_true (is_joint joint k)) [
    | inl same ↦ joined_as s b joint k f g same ∙
        (elim (other_parts joint (parts_so joint who hart f) (parts_so joint who hart g) (sym (parts_joined joint k who hart f g same) ∙ is)) [
          | inl one ↦ other_first joint _ _ (first one)
          | inr other ↦ other_second joint _ _ (second other)
        ])
    | inr other ↦ other_part (join k f g) (sym (parts_single joint k who hart f g other) ∙ is)
  ]

  -- where all parts are as their chain, so are those of one hart
  pub all_parts : (f : Formula) → is_so s b f ≡ neutral joint → parts_so joint who hart f ≡ neutral joint
  unfolding parts_so is_so
  all_parts (says a) is = neutral_part (says a) is
  all_parts (deny f) is = neutral_part (deny f) is
  all_parts (enclosed f) is = neutral_part (enclosed f) is
  all_parts (counted f c m) is = neutral_part (counted f c m) is
  all_parts (join k f g) is = all_join k f g is (all_parts f) (all_parts g)

  -- where those of one hart are not as a chain would be without parts, neither is the chain
  pub some_parts : (f : Formula) → parts_so joint who hart f ≡ not (neutral joint) → is_so s b f ≡ not (neutral joint)
  unfolding parts_so is_so
  some_parts (says a) is = other_part (says a) is
  some_parts (deny f) is = other_part (deny f) is
  some_parts (enclosed f) is = other_part (enclosed f) is
  some_parts (counted f c m) is = other_part (counted f c m) is
  some_parts (join k f g) is = some_join k f g is (some_parts f) (some_parts g)

-- all parts of a condition of one hart alone are of this hart
pub parts_alone : (joint : Joint) (who : Subject) (hart : HartState) (f : Formula) → alone f ≡ Some who → parts_so joint who hart f ≡ so_of who hart f
unfolding parts_so alone
parts_alone joint who hart (says a) is = part_alone joint who hart (says a) is
parts_alone joint who hart (deny f) is = part_alone joint who hart (deny f) is
parts_alone joint who hart (enclosed f) is = part_alone joint who hart (enclosed f) is
parts_alone joint who hart (counted f c m) is = part_alone joint who hart (counted f c m) is
parts_alone joint who hart (join k f g) is =
    let both = both_of (alone f) (alone g) who is in
    elim (or_true (is_joint joint k)) [
      | inl same ↦ parts_joined joint k who hart f g same
          ∙ ap (λ x. joined joint x (parts_so joint who hart g)) (parts_alone joint who hart f both.0)
          ∙ ap (λ y. joined joint (so_of who hart f) y) (parts_alone joint who hart g both.1)
          ∙ so_joined joint k who hart f g same
      | inr other ↦ parts_single joint k who hart f g other ∙ part_alone joint who hart (join k f g) is
    ]

-- ---- a step of one hart

module _ (s t : MachineState) (n : ℕ) (before after : HartState) (old : hart_at s n ≡ before) (new : hart_at t n ≡ after)
    (others : (k : ℕ) → k ≢ n → hart_at t k ≡ hart_at s k) (memory : t.memory ≡ s.memory) (count : length t.harts ≡ length s.harts) where
  is_old : (who : Subject) (b : ℕ) → number_of who b ≡ n → hart_at s (number_of who b) ≡ before
  is_old who b is = ap (hart_at s) is ∙ old

  is_new : (who : Subject) (b : ℕ) → number_of who b ≡ n → hart_at t (number_of who b) ≡ after
  is_new who b is = ap (hart_at t) is ∙ new

  -- of another hart nothing changes
  other_same : (who : Subject) (b : ℕ) (f : Formula) → alone f ≡ Some who → number_of who b ≢ n → is_so t b f ≡ is_so s b f
  other_same who b f is apart = same_hart t s b b who f is (others (number_of who b) apart)

  -- What a chain needs of a part: where each part is as wanted, that those of one hart that are so
  -- together are so each; else that one that is so makes the chain so.
  abbrev IsAll : Bool → Joint → Formula → ℕ → Formula → Type 0
  IsAll wanted joint whole b f =
      (wanted ≡ neutral joint) × ((who : Subject) → number_of who b ≡ n → parts_so joint who before whole ≡ wanted)
      × ((who : Subject) → parts_so joint who after whole ≡ wanted → parts_so joint who after f ≡ wanted)

  abbrev IsSome : Bool → Joint → Formula → ℕ → Formula → Type 0 → Type 0
  IsSome wanted joint whole b f G =
      (wanted ≡ not (neutral joint)) × ((who : Subject) → parts_so joint who before f ≡ wanted → parts_so joint who before whole ≡ wanted)
      × ((who : Subject) → number_of who b ≡ n → parts_so joint who after whole ≡ wanted → G)

  -- what is around a part, so that G follows where the part goes on to be as wanted
  abbrev Fits : Bool → Chain → ℕ → Formula → Type 0 → Type 0
  Fits wanted single b f G = is_so t b f ≡ wanted → G
  Fits wanted (chain joint whole) b f G = (is_so t b f ≡ wanted → G) × (IsAll wanted joint whole b f ⊎ IsSome wanted joint whole b f G)

  goes_on : (wanted : Bool) (around : Chain) (b : ℕ) (f : Formula) (G : Type 0) → Fits wanted around b f G → is_so t b f ≡ wanted → G
  goes_on wanted single b f G fits so = fits so
  goes_on wanted (chain joint whole) b f G fits so = fits.0 so

  unit_here : (wanted : Bool) (around : Chain) (b : ℕ) (f : Formula) (G : Type 0) (who : Subject) → alone f ≡ Some who → number_of who b ≡ n
      → Fits wanted around b f G → stays_so wanted (unit_so around who before f) (unit_so around who after f) ≡ true → is_so s b f ≡ wanted → G
  unit_here wanted single b f G who is at fits stays so =
      fits (so_here t b who after f is (is_new who b at)
      ∙ staying wanted (so_of who before f) (so_of who after f) stays (sym (so_here s b who before f is (is_old who b at)) ∙ so))
  unit_here wanted (chain joint whole) b f G who is at (plain, inl all) stays so =
      let now = staying wanted (parts_so joint who before whole) (parts_so joint who after whole) stays (all.1 who at) in
      plain (so_here t b who after f is (is_new who b at) ∙ sym (parts_alone joint who after f is) ∙ all.2 who now)
  unit_here wanted (chain joint whole) b f G who is at (plain, inr some) stays so =
      let first = parts_alone joint who before f is ∙ sym (so_here s b who before f is (is_old who b at)) ∙ so in
      some.2 who at (staying wanted (parts_so joint who before whole) (parts_so joint who after whole) stays (some.1 who first))

  -- what is of one hart alone
  by_unit : (o : Option Subject) (wanted : Bool) (around : Chain) (b : ℕ) (f : Formula) (G : Type 0) (more : Bool) → alone f ≡ o
      → unit_or o wanted around f before after more ≡ true → Fits wanted around b f G → is_so s b f ≡ wanted
      → (alone f ≡ None → more ≡ true → G) → G
  by_unit None wanted around b f G more is keeps fits so rest = rest is keeps
  by_unit (Some who) wanted around b f G more is keeps fits so rest = elim (cases_eq (number_of who b) n) [
    | inl at ↦ unit_here wanted around b f G who is at fits keeps so
    | inr apart ↦ goes_on wanted around b f G fits (other_same who b f is apart ∙ so)
  ]

  -- numbers that move
  source_still : (way : Way) (b : ℕ) (from : Source) (o : Option Subject) → alone_source from ≡ o → source_moves_of o way from before after ≡ true
      → moves way (source_number s b from) (source_number t b from) ≡ true
  source_still way b from None is moved =
      rw (memory_same t s b b from is memory) (moves_not way (source_number s b from))
  source_still way b from (Some who) is moved = elim (cases_eq (number_of who b) n) [
    | inl at ↦
        let one = source_alone (copies who before) s 0 b who from is (copy_of who before ∙ sym (is_old who b at)) in
        let other = source_alone (copies who after) t 0 b who from is (copy_of who after ∙ sym (is_new who b at)) in
        rw (one, other) at moved
    | inr apart ↦
        rw (source_alone t s b b who from is (others (number_of who b) apart)) (moves_not way (source_number s b from))
  ]

  source_stays : (way : Way) (b : ℕ) (from : Source) → source_moves way from before after ≡ true
      → moves way (source_number s b from) (source_number t b from) ≡ true
  unfolding source_moves
  source_stays way b from moved = source_still way b from (alone_source from) refl moved

  atom_still : (wanted : Bool) (b : ℕ) (a : Atom) → alone_atom a ≡ None → atom_keeps wanted a before after ≡ true → atom_holds s b a ≡ wanted
      → atom_holds t b a ≡ wanted
  unfolding alone_atom atom_keeps atom_holds term_number
  atom_still wanted b (atom.Compares from compared (term.Number number)) none keeps so =
      let both = and_parts (source_moves (left_way wanted compared) from before after) true keeps in
      compares_still wanted compared (source_number s b from) number (source_number t b from) number
      (source_stays (left_way wanted compared) b from both.0) (moves_not (opposite (left_way wanted compared)) number) so
  atom_still wanted b (atom.Compares from compared (term.Source other)) none keeps so =
      let both = and_parts (source_moves (left_way wanted compared) from before after) (source_moves (opposite (left_way wanted compared)) other before after) keeps in
      compares_still wanted compared (source_number s b from) (source_number s b other) (source_number t b from) (source_number t b other)
      (source_stays (left_way wanted compared) b from both.0) (source_stays (opposite (left_way wanted compared)) b other both.1) so
  atom_still wanted b (atom.HasStatus who test) none keeps so = absurd (none-some who (sym none))
  atom_still wanted b (atom.Reaches who addr perms) none keeps so = absurd (none-some who (sym none))
  atom_still wanted b (atom.IsAt who addr) none keeps so = absurd (none-some who (sym none))
  atom_still wanted b (atom.IsIn who first second) none keeps so = absurd (none-some who (sym none))

  atom_alone : (wanted : Bool) (b : ℕ) (a : Atom) → alone (says a) ≡ None → atom_keeps wanted a before after ≡ true → is_so s b (says a) ≡ wanted
      → is_so t b (says a) ≡ wanted
  unfolding alone is_so
  atom_alone wanted b a none keeps so = atom_still wanted b a none keeps so

  abbrev Kept : Formula → Type 1
  Kept f = (wanted : Bool) (around : Chain) (b : ℕ) (G : Type 0) → keeps wanted around f before after ≡ true → Fits wanted around b f G
      → is_so s b f ≡ wanted → G

  -- two parts that are joined, in a chain of this joint
  all_two : (wanted : Bool) (k : Joint) (whole : Formula) (b : ℕ) (f g : Formula) (G : Type 0) → Kept f → Kept g
      → (keeps wanted (chain k whole) f before after && keeps wanted (chain k whole) g before after) ≡ true
      → (is_so t b (join k f g) ≡ wanted → G) → IsAll wanted k whole b (join k f g) → is_so s b (join k f g) ≡ wanted → G
  unfolding is_so
  all_two wanted k whole b f g G one other keeps plain all so =
      let both = and_parts _ _ keeps in
      let were = neutral_parts k (is_so s b f) (is_so s b g) (so ∙ all.0) in
      let parts : (who : Subject) → parts_so k who after whole ≡ wanted → (parts_so k who after f ≡ neutral k) × (parts_so k who after g ≡ neutral k) = λ who now. neutral_parts k (parts_so k who after f) (parts_so k who after g)
      (sym (parts_joined k k who after f g (joint_itself k)) ∙ all.2 who now ∙ all.0) in
      let first : is_so t b f ≡ wanted = one wanted (chain k whole) b (is_so t b f ≡ wanted) both.0
      ((λ is. is), inl (all.0, all.1, λ who now. (parts who now).0 ∙ sym all.0)) (were.0 ∙ sym all.0) in
      let second : is_so t b g ≡ wanted = other wanted (chain k whole) b (is_so t b g ≡ wanted) both.1
      ((λ is. is), inl (all.0, all.1, λ who now. (parts who now).1 ∙ sym all.0)) (were.1 ∙ sym all.0) in
      plain (neutral_both k (is_so t b f) (is_so t b g) (first ∙ all.0) (second ∙ all.0) ∙ sym all.0)

  some_two : (wanted : Bool) (k : Joint) (whole : Formula) (b : ℕ) (f g : Formula) (G : Type 0) → Kept f → Kept g
      → (keeps wanted (chain k whole) f before after && keeps wanted (chain k whole) g before after) ≡ true
      → (is_so t b (join k f g) ≡ wanted → G) → IsSome wanted k whole b (join k f g) G → is_so s b (join k f g) ≡ wanted → G
  unfolding is_so
  some_two wanted k whole b f g G one other keeps plain some so =
      let both = and_parts _ _ keeps in
      elim (other_parts k (is_so s b f) (is_so s b g) (so ∙ some.0)) [
        | inl is ↦ one wanted (chain k whole) b G both.0 (
          (λ now. plain (other_first k (is_so t b f) (is_so t b g) (now ∙ some.0) ∙ sym some.0)),
          inr (
            some.0,
            (λ who here. some.1 who (parts_joined k k who before f g (joint_itself k)
                ∙ other_first k (parts_so k who before f) (parts_so k who before g) (here ∙ some.0) ∙ sym some.0)),
            some.2,
          ),
        )
            (is ∙ sym some.0)
        | inr is ↦ other wanted (chain k whole) b G both.1 (
          (λ now. plain (other_second k (is_so t b f) (is_so t b g) (now ∙ some.0) ∙ sym some.0)),
          inr (
            some.0,
            (λ who here. some.1 who (parts_joined k k who before f g (joint_itself k)
                ∙ other_second k (parts_so k who before f) (parts_so k who before g) (here ∙ some.0) ∙ sym some.0)),
            some.2,
          ),
        )
            (is ∙ sym some.0)
      ]

  -- a chain of its own
  own_two : (wanted : Bool) (k : Joint) (b : ℕ) (f g : Formula) (G : Type 0) → Kept f → Kept g
      → (keeps wanted (chain k (join k f g)) f before after && keeps wanted (chain k (join k f g)) g before after) ≡ true
      → (is_so t b (join k f g) ≡ wanted → G) → is_so s b (join k f g) ≡ wanted → G
  own_two wanted k b f g G one other keeps plain so = elim (or_not wanted (neutral k)) [
    | inl is ↦ all_two wanted k (join k f g) b f g G one other keeps plain
        (is, (λ who at. all_parts s b k who before (is_old who b at) (join k f g) (so ∙ is) ∙ sym is), (λ who now. now)) so
    | inr is ↦ some_two wanted k (join k f g) b f g G one other keeps plain
        (is, (λ who here. here), (λ who at now. plain (some_parts t b k who after (is_new who b at) (join k f g) (now ∙ is) ∙ sym is))) so
  ]

  two_kept : (wanted : Bool) (around : Chain) (k : Joint) (b : ℕ) (f g : Formula) (G : Type 0) → Kept f → Kept g
      → (keeps wanted (chain_of around k (join k f g)) f before after && keeps wanted (chain_of around k (join k f g)) g before after) ≡ true
      → Fits wanted around b (join k f g) G → is_so s b (join k f g) ≡ wanted → G
  two_kept wanted single k b f g G one other keeps fits so = own_two wanted k b f g G one other keeps fits so
  two_kept wanted (chain And whole) And b f g G one other keeps (plain, inl all) so = all_two wanted And whole b f g G one other keeps plain all so
  two_kept wanted (chain And whole) And b f g G one other keeps (plain, inr some) so = some_two wanted And whole b f g G one other keeps plain some so
  two_kept wanted (chain And whole) Or b f g G one other keeps fits so = own_two wanted Or b f g G one other keeps fits.0 so
  two_kept wanted (chain Or whole) And b f g G one other keeps fits so = own_two wanted And b f g G one other keeps fits.0 so
  two_kept wanted (chain Or whole) Or b f g G one other keeps (plain, inl all) so = all_two wanted Or whole b f g G one other keeps plain all so
  two_kept wanted (chain Or whole) Or b f g G one other keeps (plain, inr some) so = some_two wanted Or whole b f g G one other keeps plain some so

  -- a count
  count_kept : (wanted : Bool) (b : ℕ) (f : Formula) (c : Comparison) (m : ℕ) → Kept f
      → ((not (count_needs wanted c m true) || keeps true single f before after) && (not (count_needs wanted c m false) || keeps false single f before after)) ≡ true
      → is_so s b (counted f c m) ≡ wanted → is_so t b (counted f c m) ≡ wanted
  unfolding is_so
  count_kept wanted b f c m kept keeps so =
      let both = and_parts _ _ keeps in
      let p : ℕ → Bool = λ k. is_so s k f in
      let q : ℕ → Bool = λ k. is_so t k f in
      let same : how_many q (length t.harts) ≡ how_many q (length s.harts) = ap (how_many q) count in
      ap (λ x. compares c x m) same
      ∙ count_still wanted c m (how_many p (length s.harts)) (how_many q (length s.harts))
      (λ needed. many_at_most p q (length s.harts) (λ k is. kept true single k (is_so t k f ≡ true) (implying _ _ both.0 needed) (λ now. now) is))
      (λ needed. many_fewer p q (length s.harts) (λ k is. kept false single k (is_so t k f ≡ false) (implying _ _ both.1 needed) (λ now. now) is))
      so

  kept_all : (f : Formula) → Kept f
  unfolding keeps is_so
  kept_all (says a) = λ wanted around b G keeps fits so.
      by_unit (alone (says a)) wanted around b (says a) G _ refl keeps fits so
      (λ none more. goes_on wanted around b (says a) G fits (atom_alone wanted b a none more so))
  kept_all (deny f) = λ wanted around b G keeps fits so.
      by_unit (alone (deny f)) wanted around b (deny f) G _ refl keeps fits so
      (λ none more. goes_on wanted around b (deny f) G fits
      (flipped_back (is_so t b f) wanted (kept_all f (not wanted) single b (is_so t b f ≡ not wanted) more (λ now. now) (flipped (is_so s b f) wanted so))))
  kept_all (enclosed f) = λ wanted around b G keeps fits so.
      by_unit (alone (enclosed f)) wanted around b (enclosed f) G _ refl keeps fits so
      (λ none more. goes_on wanted around b (enclosed f) G fits (kept_all f wanted single b (is_so t b f ≡ wanted) more (λ now. now) so))
  kept_all (join k f g) = λ wanted around b G keeps fits so.
      by_unit (alone (join k f g)) wanted around b (join k f g) G _ refl keeps fits so
      (λ none more. two_kept wanted around k b f g G (kept_all f) (kept_all g) more fits so)
  kept_all (counted f c m) = λ wanted around b G keeps fits so.
      goes_on wanted around b (counted f c m) G fits (count_kept wanted b f c m (kept_all f) keeps so)

-- ---- a state in which the condition holds

there_is : (hs : List HartState) (k : ℕ) (h d : HartState) → slice_get hs k ≡ Some h → (k < length hs) × (get_or hs k d ≡ h)
there_is [] k h d is = absurd (none-some h is)
there_is (g ∷ hs) zero h d is = (omega arith, same_Some g h is)
there_is (g ∷ hs) (suc k) h d is = let later = there_is hs k h d is in (omega (arith, later.0), later.1)

module _ (state : MachineState) (number : ℕ) (before after : HartState) where
  there : MachineState
  there = record state { harts = slice_set state.harts number after }

  old_here : slice_get state.harts number ≡ Some before → hart_at state number ≡ before
  unfolding hart_at
  old_here is = (there_is state.harts number before no_hart is).1

  new_here : slice_get state.harts number ≡ Some before → hart_at there number ≡ after
  unfolding hart_at there
  new_here is = get_or-set_same state.harts number after no_hart (there_is state.harts number before no_hart is).0

  new_other : (other : ℕ) → other ≢ number → hart_at there other ≡ hart_at state other
  unfolding hart_at there
  new_other other apart = get_or-set_other state.harts number other after no_hart apart

  same_count : length there.harts ≡ length state.harts
  unfolding there
  same_count = length-set state.harts number after

pub hidden_keeps : (nodes : List Node) (before after : HartState) (state : MachineState) (number : ℕ) →
    hides nodes before after ≡ true → slice_get state.harts number ≡ Some before → holds state nodes ≡ true →
    holds (record state { harts = slice_set state.harts number after }) nodes ≡ true
unfolding hides holds there
hidden_keeps nodes before after state number hidden here so =
    kept_all state (there state number before after) number before after (old_here state number before after here)
    (new_here state number before after here) (new_other state number before after) refl (same_count state number before after)
    (formula_of nodes) true single 0 (is_so (there state number before after) 0 (formula_of nodes) ≡ true) hidden (λ now. now) so
