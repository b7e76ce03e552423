-- The harts that were looked at, after one more.
use Rattle.std.proofs.Common.{◌≡◌, ◌||◌, Bool, true, false, refl, sym, ap, ◌∙◌}
use Rattle.std.proofs.lemmas.Bool.Decides.{nat_tests}
use Rattle.std.proofs.Common.{arith}
use Rattle.cheri_model.specs.steps.Hart.{HartState}
use Rattle.conditions.specs.declared.hiding.Around.{Around}
use Rattle.conditions.specs.declared.parts.Joint.{Joint}
use Rattle.conditions.specs.declared.parts.Subject.{Subject}
use Rattle.conditions.specs.declared.parts.Subject.TheVariants.{Numbered, Each}
use Rattle.conditions.specs.declared.seen.Seen.{Seen}
use Rattle.conditions.specs.Formulas.{Formula}
use Rattle.conditions.specs.Hiding.{is_same, parts_so, stays_so}
use Rattle.conditions.specs.Units.{has_seen, unit_keeps, AllKeep}

same_subject : (one other : Subject) → is_same one other ≡ true → one ≡ other
same_subject (Numbered n) (Numbered m) is = let same : n ≡ m = grind (arith, nat_tests) in ap Numbered same
same_subject (Numbered n) Each is = absurd (cc)
same_subject Each (Numbered m) is = absurd (cc)
same_subject Each Each is = refl

either : (x y : Bool) (P : Type 0) → (x || y) ≡ true → (x ≡ true → P) → (y ≡ true → P) → P
either true y P is one other = one refl
either false y P is one other = other is

pub unit_of : (wanted : Bool) (joint : Joint) (whole : Formula) (before after : HartState) (who : Subject) (one two answer : Bool)
    → one ≡ parts_so joint who before whole → two ≡ parts_so joint who after whole → answer ≡ stays_so wanted one two
    → answer ≡ unit_keeps wanted joint whole before after who
unfolding unit_keeps
unit_of wanted joint whole before after who one two answer one_is two_is so = so ∙ rw (one_is, two_is) refl

module _ (around : Around) (whole : Formula) (before after : HartState) where
  pub keep_none : (seen : Seen) → ((who : Subject) → has_seen seen who ≡ false) → AllKeep around whole before after seen
  keep_none seen none = λ who is. let clash : true ≡ false = sym is ∙ none who in absurd (cc)

  pub keep_more : (old new : Seen) (who : Subject) → AllKeep around whole before after old
      → unit_keeps around.wanted around.joint whole before after who ≡ true
      → ((other : Subject) → has_seen new other ≡ true → (is_same who other || has_seen old other) ≡ true)
      → AllKeep around whole before after new
  keep_more old new who all kept added = λ other is.
      either (is_same who other) (has_seen old other) _ (added other is)
      (λ same. ap (unit_keeps around.wanted around.joint whole before after) (sym (same_subject who other same)) ∙ kept)
      (λ seen. all other seen)
