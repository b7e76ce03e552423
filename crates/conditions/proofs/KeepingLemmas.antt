-- What is worked out of a condition's nodes, part by part, is what the definitions say of it.
use Rattle.std.proofs.Common.{◌≡◌, ℕ, List, refl, sym, ap, ◌∙◌}
use Rattle.std.specs.Borrow.{Bor}
use Rattle.std.specs.Prelude.{Bool, true, false, not, ◌&&◌, ◌||◌, Option, Some, None}
use Rattle.std.proofs.lemmas.Bool.{cond-true, cond-false}
use Rattle.cheri_model.specs.steps.Hart.{HartState}
use Rattle.conditions.specs.declared.formulas.Parts.TheVariants as parts
use Rattle.conditions.specs.declared.parts.Atom.{Atom}
use Rattle.conditions.specs.declared.parts.Comparison.{Comparison}
use Rattle.conditions.specs.declared.parts.Joint.{Joint}
use Rattle.conditions.specs.declared.entries.Entry.{Entry}
use Rattle.conditions.specs.declared.parts.Subject.{Subject}
use Rattle.conditions.specs.Formulas.{Formula, says, deny, enclosed, join, counted}
use Rattle.conditions.specs.Entries.{entries_of}
use Rattle.conditions.specs.Holding.{joined, decides}
use Rattle.conditions.specs.Parts.{IsParted, IsJoined}
use Rattle.conditions.specs.Units.{unit_keeps}
use Rattle.conditions.specs.Hiding.{alone, is_joint, part_so, parts_so, Chain, single, chain, chain_of, unit_so, stays_so, atom_keeps, count_needs, unit_or, keeps}
use Rattle.conditions.proofs.PartLemmas.{is_said, is_denied, is_enclosed, is_joined, is_counted}
use Rattle.conditions.proofs.HoldingLemmas.{first_decides, other_decides}

and_false : (x : Bool) → (x && false) ≡ false
and_false true = refl
and_false false = refl

and_true : (x : Bool) → (x && true) ≡ x
and_true true = refl
and_true false = refl

-- ---- the parts of one hart

pub two_of : (formula : Formula) (joint : Joint) (p q : Bor (List Entry)) → IsJoined formula (Some (joint, p, q))
    → (one : Formula) × (other : Formula) × (formula ≡ join joint one other) × (p.now ≡ entries_of one) × (q.now ≡ entries_of other)
unfolding IsJoined
two_of (join j f g) joint p q is = (f, g, ap (λ (k : Joint). join k f g) (sym is.0), is.1, is.2)
two_of (says a) joint p q is = absurd is
two_of (deny f) joint p q is = absurd is
two_of (enclosed f) joint p q is = absurd is
two_of (counted f c n) joint p q is = absurd is

part_itself : (joint : Joint) (who : Subject) (hart : HartState) (f : Formula) → IsJoined f None → part_so joint who hart f ≡ parts_so joint who hart f
unfolding IsJoined parts_so
part_itself joint who hart (join j f g) is = absurd is
part_itself joint who hart (says a) is = refl
part_itself joint who hart (deny f) is = refl
part_itself joint who hart (enclosed f) is = refl
part_itself joint who hart (counted f c n) is = refl

module _ (joint : Joint) (who : Subject) (hart : HartState) (formula : Formula) where
  pub parts_none : (answer : Bool) → IsJoined formula None → answer ≡ part_so joint who hart formula → answer ≡ parts_so joint who hart formula
  parts_none answer is so = so ∙ part_itself joint who hart formula is

  pub parts_other : (k : Joint) (p q : Bor (List Entry)) (answer : Bool) → IsJoined formula (Some (k, p, q)) → is_joint joint k ≡ false
      → answer ≡ part_so joint who hart formula → answer ≡ parts_so joint who hart formula
  unfolding parts_so
  parts_other k p q answer is other so =
      let of = two_of formula k p q is in
      so ∙ ap (part_so joint who hart) of.2 ∙ sym (cond-false (is_joint joint k) _ _ other) ∙ ap (parts_so joint who hart) (sym of.2)

  pub parts_decided : (k : Joint) (p q : Bor (List Entry)) (answer : Bool) → IsJoined formula (Some (k, p, q)) → is_joint joint k ≡ true
      → ((f : Formula) → q.now ≡ entries_of f → answer ≡ parts_so joint who hart f) → decides joint answer ≡ true → answer ≡ parts_so joint who hart formula
  unfolding parts_so
  parts_decided k p q answer is same so decided =
      let of = two_of formula k p q is in
      first_decides joint (parts_so joint who hart of.0) answer decided
      ∙ ap (λ b. joined joint (parts_so joint who hart of.0) b) (so of.1 of.4)
      ∙ sym (cond-true (is_joint joint k) _ _ same) ∙ ap (parts_so joint who hart) (sym of.2)

  pub parts_both : (k : Joint) (p q : Bor (List Entry)) (first answer : Bool) → IsJoined formula (Some (k, p, q)) → is_joint joint k ≡ true
      → ((f : Formula) → q.now ≡ entries_of f → answer ≡ parts_so joint who hart f) → decides joint answer ≡ false
      → ((f : Formula) → p.now ≡ entries_of f → first ≡ parts_so joint who hart f) → first ≡ parts_so joint who hart formula
  unfolding parts_so
  parts_both k p q first answer is same so undecided first_so =
      let of = two_of formula k p q is in
      first_so of.0 of.3
      ∙ other_decides joint (parts_so joint who hart of.0) answer undecided
      ∙ ap (λ b. joined joint (parts_so joint who hart of.0) b) (so of.1 of.4)
      ∙ sym (cond-true (is_joint joint k) _ _ same) ∙ ap (parts_so joint who hart) (sym of.2)

-- ---- units

module _ (wanted : Bool) (c : Chain) (formula : Formula) (before after : HartState) where
  unit_said : (who : Subject) (more : Bool) → alone formula ≡ Some who
      → unit_or (alone formula) wanted c formula before after more ≡ stays_so wanted (unit_so c who before formula) (unit_so c who after formula)
  unit_said who more is = ap (λ (o : Option Subject). unit_or o wanted c formula before after more) is

  unit_not : (more : Bool) → alone formula ≡ None → unit_or (alone formula) wanted c formula before after more ≡ more
  unit_not more is = ap (λ (o : Option Subject). unit_or o wanted c formula before after more) is

-- what is of one hart alone
pub keeps_unit : (wanted : Bool) (c : Chain) (formula : Formula) (before after : HartState) (who : Subject) (one other answer : Bool)
    → Some who ≡ alone formula → one ≡ unit_so c who before formula → other ≡ unit_so c who after formula
    → answer ≡ stays_so wanted one other → answer ≡ keeps wanted c formula before after
unfolding keeps alone
keeps_unit wanted c (says a) before after who one other answer is one_is other_is so =
    so ∙ rw (one_is, other_is) refl ∙ sym (unit_said wanted c (says a) before after who _ (sym is))
keeps_unit wanted c (deny f) before after who one other answer is one_is other_is so =
    so ∙ rw (one_is, other_is) refl ∙ sym (unit_said wanted c (deny f) before after who _ (sym is))
keeps_unit wanted c (enclosed f) before after who one other answer is one_is other_is so =
    so ∙ rw (one_is, other_is) refl ∙ sym (unit_said wanted c (enclosed f) before after who _ (sym is))
keeps_unit wanted c (join j f g) before after who one other answer is one_is other_is so =
    so ∙ rw (one_is, other_is) refl ∙ sym (unit_said wanted c (join j f g) before after who _ (sym is))
keeps_unit wanted c (counted f d n) before after who one other answer is one_is other_is so = absurd (cc)

module _ (wanted : Bool) (formula : Formula) (before after : HartState) (answer : Bool) (none : None ≡ alone formula) where
  here : (f : Formula) → formula ≡ f → alone f ≡ None
  here f is = ap alone (sym is) ∙ sym none

  pub keeps_said : (a : Bor Atom) → IsParted formula (Some (parts.Says a)) → answer ≡ atom_keeps wanted a.now before after → answer ≡ keeps wanted single formula before after
  unfolding keeps
  keeps_said a is so =
      let of = is_said formula a is in
      so ∙ sym (unit_not wanted single (says a.now) before after _ (here (says a.now) of)) ∙ ap (λ (f : Formula). keeps wanted single f before after) (sym of)

  pub keeps_denied : (p : Bor (List Entry)) → IsParted formula (Some (parts.Not p))
      → ((f : Formula) → p.now ≡ entries_of f → answer ≡ keeps (not wanted) single f before after)
      → answer ≡ keeps wanted single formula before after
  unfolding keeps
  keeps_denied p is so =
      let of = is_denied formula p is in
      so of.0 of.2 ∙ sym (unit_not wanted single (deny of.0) before after _ (here (deny of.0) of.1)) ∙ ap (λ (f : Formula). keeps wanted single f before after) (sym of.1)

  pub keeps_enclosed : (p : Bor (List Entry)) → IsParted formula (Some (parts.Enclosed p))
      → ((f : Formula) → p.now ≡ entries_of f → answer ≡ keeps wanted single f before after)
      → answer ≡ keeps wanted single formula before after
  unfolding keeps
  keeps_enclosed p is so =
      let of = is_enclosed formula p is in
      so of.0 of.2 ∙ sym (unit_not wanted single (enclosed of.0) before after _ (here (enclosed of.0) of.1)) ∙ ap (λ (f : Formula). keeps wanted single f before after) (sym of.1)

  -- two parts that are joined are in their own chain
  two_kept : (joint : Joint) (one other : Formula) → formula ≡ join joint one other
      → (keeps wanted (chain joint formula) one before after && keeps wanted (chain joint formula) other before after) ≡ keeps wanted single formula before after
  unfolding keeps
  two_kept joint one other of =
      ap (λ (f : Formula). keeps wanted (chain joint f) one before after && keeps wanted (chain joint f) other before after) of
      ∙ sym (unit_not wanted single (join joint one other) before after _ (here (join joint one other) of)) ∙ ap (λ (f : Formula). keeps wanted single f before after) (sym of)

  pub keeps_not_second : (joint : Joint) (p q : Bor (List Entry)) (second : Bool) → IsParted formula (Some (parts.Joined joint p q))
      → ((f : Formula) → q.now ≡ entries_of f → second ≡ keeps wanted (chain joint formula) f before after)
      → second ≡ false → answer ≡ false → answer ≡ keeps wanted single formula before after
  keeps_not_second joint p q second is other denied so =
      let of = is_joined formula joint p q is in
      so ∙ sym (and_false (keeps wanted (chain joint formula) of.0 before after))
      ∙ ap (λ b. keeps wanted (chain joint formula) of.0 before after && b) (sym denied ∙ other of.1 of.4) ∙ two_kept joint of.0 of.1 of.2

  pub keeps_first : (joint : Joint) (p q : Bor (List Entry)) (second : Bool) → IsParted formula (Some (parts.Joined joint p q))
      → ((f : Formula) → q.now ≡ entries_of f → second ≡ keeps wanted (chain joint formula) f before after) → second ≡ true
      → ((f : Formula) → p.now ≡ entries_of f → answer ≡ keeps wanted (chain joint formula) f before after)
      → answer ≡ keeps wanted single formula before after
  keeps_first joint p q second is other holds one =
      let of = is_joined formula joint p q is in
      one of.0 of.3 ∙ sym (and_true (keeps wanted (chain joint formula) of.0 before after))
      ∙ ap (λ b. keeps wanted (chain joint formula) of.0 before after && b) (sym holds ∙ other of.1 of.4) ∙ two_kept joint of.0 of.1 of.2

pub keeps_counted : (wanted : Bool) (formula : Formula) (before after : HartState) (answer : Bool) (p : Bor (List Entry)) (d : Comparison) (n : ℕ)
    (up down one other : Bool) → IsParted formula (Some (parts.Counted p d n)) → up ≡ count_needs wanted d n true → down ≡ count_needs wanted d n false
    → ((f : Formula) → p.now ≡ entries_of f → one ≡ keeps true single f before after)
    → ((f : Formula) → p.now ≡ entries_of f → other ≡ keeps false single f before after)
    → answer ≡ ((not up || one) && (not down || other)) → answer ≡ keeps wanted single formula before after
unfolding keeps
keeps_counted wanted formula before after answer p d n up down one other is up_is down_is one_is other_is so =
    let of = is_counted formula p d n is in
    so ∙ rw (up_is, down_is, one_is of.0 of.2, other_is of.0 of.2) refl ∙ ap (λ (f : Formula). keeps wanted single f before after) (sym of.1)

-- ---- a part that is joined with others

module _ (wanted : Bool) (joint : Joint) (whole formula : Formula) (before after : HartState) (answer : Bool) where
  pub chain_unit : (who : Subject) → Some who ≡ alone formula → answer ≡ unit_keeps wanted joint whole before after who
      → answer ≡ keeps wanted (chain joint whole) formula before after
  unfolding unit_keeps
  chain_unit who is so = keeps_unit wanted (chain joint whole) formula before after who _ _ answer is refl refl so

  alone_chain : (f : Formula) → formula ≡ f → None ≡ alone formula → alone f ≡ None
  alone_chain f is none = ap alone (sym is) ∙ sym none

  -- a part that is joined in no such way is looked at by itself
  other_chain : (f : Formula) → alone f ≡ None → ((k : Joint) (g h : Formula) → f ≡ join k g h → is_joint joint k ≡ false)
      → keeps wanted single f before after ≡ keeps wanted (chain joint whole) f before after
  unfolding keeps
  other_chain (says a) none other = unit_not wanted single (says a) before after _ none ∙ sym (unit_not wanted (chain joint whole) (says a) before after _ none)
  other_chain (deny f) none other = unit_not wanted single (deny f) before after _ none ∙ sym (unit_not wanted (chain joint whole) (deny f) before after _ none)
  other_chain (enclosed f) none other = unit_not wanted single (enclosed f) before after _ none ∙ sym (unit_not wanted (chain joint whole) (enclosed f) before after _ none)
  other_chain (join k g h) none other =
      let own : chain k (join k g h) ≡ chain_of (chain joint whole) k (join k g h) = sym (cond-false (is_joint joint k) _ _ (other k g h refl)) in
      unit_not wanted single (join k g h) before after _ none
      ∙ ap (λ (c : Chain). keeps wanted c g before after && keeps wanted c h before after) own
      ∙ sym (unit_not wanted (chain joint whole) (join k g h) before after _ none)
  other_chain (counted f c n) none other = refl

  no_join : (f : Formula) → IsJoined f None → (k : Joint) (g h : Formula) → f ≡ join k g h → is_joint joint k ≡ false
  unfolding IsJoined
  no_join (join j f' g') is k g h same = absurd is
  no_join (says a) is k g h same = absurd (cc)
  no_join (deny f) is k g h same = absurd (cc)
  no_join (enclosed f) is k g h same = absurd (cc)
  no_join (counted f c n) is k g h same = absurd (cc)

  pub chain_single : IsJoined formula None → None ≡ alone formula → answer ≡ keeps wanted single formula before after
      → answer ≡ keeps wanted (chain joint whole) formula before after
  chain_single is none so = so ∙ other_chain formula (sym none) (no_join formula is)

  same_joint : (j k : Joint) (f g f' g' : Formula) → join j f g ≡ join k f' g' → j ≡ k
  same_joint j k f g f' g' is = cc

  pub chain_other : (k : Joint) (p q : Bor (List Entry)) → IsJoined formula (Some (k, p, q)) → is_joint joint k ≡ false → None ≡ alone formula
      → answer ≡ keeps wanted single formula before after → answer ≡ keeps wanted (chain joint whole) formula before after
  chain_other k p q is apart none so =
      let of = two_of formula k p q is in
      so ∙ other_chain formula (sym none)
      (λ l g h same. ap (λ (m : Joint). is_joint joint m) (sym (same_joint k l of.0 of.1 g h (sym of.2 ∙ same))) ∙ apart)

  -- parts that are joined in the same way are in the same chain
  chain_two : (k : Joint) (one other : Formula) → formula ≡ join k one other → is_joint joint k ≡ true → None ≡ alone formula
      → (keeps wanted (chain joint whole) one before after && keeps wanted (chain joint whole) other before after) ≡ keeps wanted (chain joint whole) formula before after
  unfolding keeps
  chain_two k one other of same none =
      let same_chain : chain joint whole ≡ chain_of (chain joint whole) k (join k one other) = sym (cond-true (is_joint joint k) _ _ same) in
      ap (λ (c : Chain). keeps wanted c one before after && keeps wanted c other before after) same_chain
      ∙ sym (unit_not wanted (chain joint whole) (join k one other) before after _ (alone_chain (join k one other) of none))
      ∙ ap (λ (f : Formula). keeps wanted (chain joint whole) f before after) (sym of)

  pub chain_not_second : (k : Joint) (p q : Bor (List Entry)) (second : Bool) → IsJoined formula (Some (k, p, q)) → is_joint joint k ≡ true → None ≡ alone formula
      → ((f : Formula) → q.now ≡ entries_of f → second ≡ keeps wanted (chain joint whole) f before after)
      → second ≡ false → answer ≡ false → answer ≡ keeps wanted (chain joint whole) formula before after
  chain_not_second k p q second is same none other denied so =
      let of = two_of formula k p q is in
      so ∙ sym (and_false (keeps wanted (chain joint whole) of.0 before after))
      ∙ ap (λ b. keeps wanted (chain joint whole) of.0 before after && b) (sym denied ∙ other of.1 of.4) ∙ chain_two k of.0 of.1 of.2 same none

  pub chain_first : (k : Joint) (p q : Bor (List Entry)) (second : Bool) → IsJoined formula (Some (k, p, q)) → is_joint joint k ≡ true → None ≡ alone formula
      → ((f : Formula) → q.now ≡ entries_of f → second ≡ keeps wanted (chain joint whole) f before after) → second ≡ true
      → ((f : Formula) → p.now ≡ entries_of f → answer ≡ keeps wanted (chain joint whole) f before after)
      → answer ≡ keeps wanted (chain joint whole) formula before after
  chain_first k p q second is same none other holds one =
      let of = two_of formula k p q is in
      one of.0 of.3 ∙ sym (and_true (keeps wanted (chain joint whole) of.0 before after))
      ∙ ap (λ b. keeps wanted (chain joint whole) of.0 before after && b) (sym holds ∙ other of.1 of.4) ∙ chain_two k of.0 of.1 of.2 same none
