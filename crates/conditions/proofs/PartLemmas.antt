-- What a condition is by its parts.
use Rattle.std.proofs.Common.{◌≡◌, ℕ, List, refl, sym, ap}
use Rattle.std.specs.Borrow.{Bor}
use Rattle.std.specs.Prelude.{Some, None}
use Rattle.conditions.specs.declared.parts.Atom.{Atom}
use Rattle.conditions.specs.declared.parts.Comparison.{Comparison}
use Rattle.conditions.specs.declared.parts.Joint.{Joint}
use Rattle.conditions.specs.declared.entries.Entry.{Entry}
use Rattle.conditions.specs.declared.formulas.Parts.TheVariants as parts
use Rattle.conditions.specs.Formulas.{Formula, says, deny, enclosed, join, counted}
use Rattle.conditions.specs.Entries.{entries_of}
use Rattle.conditions.specs.Parts.{IsParted}

pub is_said : (formula : Formula) (a : Bor Atom) → IsParted formula (Some (parts.Says a)) → formula ≡ says a.now
unfolding IsParted
is_said (says a') a is = ap says (sym is)
is_said (deny f) a is = absurd is
is_said (enclosed f) a is = absurd is
is_said (join j f g) a is = absurd is
is_said (counted f c n) a is = absurd is

pub is_denied : (formula : Formula) (p : Bor (List Entry)) → IsParted formula (Some (parts.Not p)) → (part : Formula) × (formula ≡ deny part) × (p.now ≡ entries_of part)
unfolding IsParted
is_denied (says a') p is = absurd is
is_denied (deny f) p is = (f, refl, is)
is_denied (enclosed f) p is = absurd is
is_denied (join j f g) p is = absurd is
is_denied (counted f c n) p is = absurd is

pub is_enclosed : (formula : Formula) (p : Bor (List Entry)) → IsParted formula (Some (parts.Enclosed p)) → (part : Formula) × (formula ≡ enclosed part) × (p.now ≡ entries_of part)
unfolding IsParted
is_enclosed (says a') p is = absurd is
is_enclosed (deny f) p is = absurd is
is_enclosed (enclosed f) p is = (f, refl, is)
is_enclosed (join j f g) p is = absurd is
is_enclosed (counted f c n) p is = absurd is

pub is_joined : (formula : Formula) (k : Joint) (p : Bor (List Entry)) (q : Bor (List Entry)) → IsParted formula (Some (parts.Joined k p q)) → (one : Formula) × (other : Formula) × (formula ≡ join k one other) × (p.now ≡ entries_of one) × (q.now ≡ entries_of other)
unfolding IsParted
is_joined (says a') k p q is = absurd is
is_joined (deny f) k p q is = absurd is
is_joined (enclosed f) k p q is = absurd is
is_joined (join j f g) k p q is = (f, g, ap (λ (l : Joint). join l f g) (sym is.0), is.1, is.2)
is_joined (counted f c n) k p q is = absurd is

pub is_counted : (formula : Formula) (p : Bor (List Entry)) (d : Comparison) (m : ℕ) → IsParted formula (Some (parts.Counted p d m)) → (part : Formula) × (formula ≡ counted part d m) × (p.now ≡ entries_of part)
unfolding IsParted
is_counted (says a') p d m is = absurd is
is_counted (deny f) p d m is = absurd is
is_counted (enclosed f) p d m is = absurd is
is_counted (join j f g) p d m is = absurd is
is_counted (counted f c n) p d m is = (f, rw (is.1, is.2) refl, is.0)

pub is_none : (formula : Formula) → IsParted formula None → ⊥
unfolding IsParted
is_none (says a') is = is
is_none (deny f) is = is
is_none (enclosed f) is = is
is_none (join j f g) is = is
is_none (counted f c n) is = is
