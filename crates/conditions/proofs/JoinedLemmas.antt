-- Whether a condition is joined of two parts, by its parts.
use Rattle.std.proofs.Common.{ℕ, List}
use Rattle.std.specs.Borrow.{Bor}
use Rattle.std.specs.Prelude.{Some, None}
use Rattle.conditions.specs.declared.parts.Atom.{Atom}
use Rattle.conditions.specs.declared.parts.Comparison.{Comparison}
use Rattle.conditions.specs.declared.parts.Joint.{Joint}
use Rattle.conditions.specs.declared.entries.Entry.{Entry}
use Rattle.conditions.specs.declared.formulas.Parts.TheVariants as parts
use Rattle.conditions.specs.Formulas.{Formula, says, deny, enclosed, join, counted}
use Rattle.conditions.specs.Parts.{IsParted, IsJoined}

pub two_parts : (formula : Formula) (k : Joint) (p q : Bor (List Entry)) → IsParted formula (Some (parts.Joined k p q)) → IsJoined formula (Some (k, p, q))
unfolding IsParted IsJoined
two_parts (says a') k p q is = absurd is
two_parts (deny f) k p q is = absurd is
two_parts (enclosed f) k p q is = absurd is
two_parts (join j f g) k p q is = is
two_parts (counted f c n) k p q is = absurd is

pub said_one : (formula : Formula) (a : Bor Atom) → IsParted formula (Some (parts.Says a)) → IsJoined formula (None)
unfolding IsParted IsJoined
said_one (says a') a is = tt
said_one (deny f) a is = absurd is
said_one (enclosed f) a is = absurd is
said_one (join j f g) a is = absurd is
said_one (counted f c n) a is = absurd is

pub denied_one : (formula : Formula) (p : Bor (List Entry)) → IsParted formula (Some (parts.Not p)) → IsJoined formula (None)
unfolding IsParted IsJoined
denied_one (says a') p is = absurd is
denied_one (deny f) p is = tt
denied_one (enclosed f) p is = absurd is
denied_one (join j f g) p is = absurd is
denied_one (counted f c n) p is = absurd is

pub enclosed_one : (formula : Formula) (p : Bor (List Entry)) → IsParted formula (Some (parts.Enclosed p)) → IsJoined formula (None)
unfolding IsParted IsJoined
enclosed_one (says a') p is = absurd is
enclosed_one (deny f) p is = absurd is
enclosed_one (enclosed f) p is = tt
enclosed_one (join j f g) p is = absurd is
enclosed_one (counted f c n) p is = absurd is

pub counted_one : (formula : Formula) (p : Bor (List Entry)) (d : Comparison) (m : ℕ) → IsParted formula (Some (parts.Counted p d m)) → IsJoined formula (None)
unfolding IsParted IsJoined
counted_one (says a') p d m is = absurd is
counted_one (deny f) p d m is = absurd is
counted_one (enclosed f) p d m is = absurd is
counted_one (join j f g) p d m is = absurd is
counted_one (counted f c n) p d m is = tt

pub none_one : (formula : Formula) → IsParted formula (None) → IsJoined formula (None)
unfolding IsParted IsJoined
none_one (says a') is = absurd is
none_one (deny f) is = absurd is
none_one (enclosed f) is = absurd is
none_one (join j f g) is = absurd is
none_one (counted f c n) is = absurd is
