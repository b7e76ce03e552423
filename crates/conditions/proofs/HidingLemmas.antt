-- Harts that are all the same, and what a condition of one hart alone says of each state with it.
use Rattle.std.proofs.Common.{◌≡◌, ℕ, zero, suc, ◌+◌, ◌<◌, ◌==◌, [], ◌∷◌, replicate, length, arith, ap, sym, ◌∙◌, refl, subst}
use Rattle.std.specs.Prelude.{Bool, true, false, not, if◌then◌else◌, Option, Some, None}
use Rattle.std.proofs.lemmas.Bool.Decides.{nat_tests}
use Rattle.std.proofs.lemmas.Grind.{common_steps}
use Rattle.std.proofs.lemmas.Option.{none-some, same_Some}
use Rattle.cap_model.specs.values.CapValue.{raw}
use Rattle.cheri_model.specs.steps.Hart.{HartState, register}
use Rattle.cheri_model.specs.steps.Memory.{granule_at, load_capability, load_data, bytes_of}
use Rattle.cheri_model.specs.runs.Machine.{MachineState, hart_at}
use Rattle.conditions.specs.declared.parts.Atom.{Atom}
use Rattle.conditions.specs.declared.parts.Atom.TheVariants as atom
use Rattle.conditions.specs.declared.parts.Holder.TheVariants as holder
use Rattle.conditions.specs.declared.parts.Source.{Source}
use Rattle.conditions.specs.declared.parts.Source.TheVariants as source
use Rattle.conditions.specs.declared.parts.Subject.{Subject}
use Rattle.conditions.specs.declared.parts.Subject.TheVariants.{Numbered, Each}
use Rattle.conditions.specs.declared.parts.Term.TheVariants as term
use Rattle.conditions.specs.Formulas.{Formula, says, deny, enclosed, join, counted}
use Rattle.conditions.specs.Holding.{joined, is_so}
use Rattle.conditions.specs.Values.{field_value, own_value, value_in, number_at, number_of, source_number, term_number, atom_holds, compares, has_status, reaches, is_between}
use Rattle.cap_model.specs.results.Addresses.{address_of}
use Rattle.conditions.specs.Hiding.{alone_source, is_same, is_of, alone_both, alone_atom, alone, all_alike, copies, so_of}

-- each granule of a memory of one that is null is null
pub null_granule : (k : ℕ) → granule_at (raw 0 ∷ []) k ≡ raw 0
unfolding granule_at
null_granule zero = refl
null_granule (suc k) = refl

pub copy_at : (count : ℕ) (hart : HartState) (number : ℕ) → number < length (replicate count hart) →
    hart_at (all_alike count hart) number ≡ hart
unfolding hart_at
copy_at count hart number below = grind (arith, common_steps)

copied : (number : ℕ) (hart : HartState) → hart_at (all_alike (number + 1) hart) number ≡ hart
unfolding hart_at
copied number hart = grind (arith, common_steps)

pub copy_of : (who : Subject) (hart : HartState) → hart_at (copies who hart) (number_of who 0) ≡ hart
unfolding number_of
copy_of (Numbered number) hart = copied number hart
copy_of Each hart = copied 0 hart

-- ---- one hart alone

same_subject : (who other : Subject) → is_same who other ≡ true → who ≡ other
same_subject (Numbered a) (Numbered b) is = let same : a ≡ b = grind (arith, nat_tests) in ap Numbered same
same_subject (Numbered a) Each is = absurd (cc)
same_subject Each (Numbered b) is = absurd (cc)
same_subject Each Each is = refl

pub of_is : (who : Subject) (o : Option Subject) → is_of who o ≡ true → o ≡ Some who
of_is who (Some other) is = ap Some (sym (same_subject who other is))
of_is who None is = absurd (cc)

pub is_of_same : (who : Subject) (o : Option Subject) → o ≡ Some who → is_of who o ≡ true
is_of_same (Numbered a) (Some (Numbered b)) is = let same : b ≡ a = cc in grind (arith, nat_tests)
is_of_same (Numbered a) (Some Each) is = absurd (cc)
is_of_same Each (Some (Numbered b)) is = absurd (cc)
is_of_same Each (Some Each) is = refl
is_of_same who None is = absurd (none-some who is)

both_if : (who w : Subject) (test : Bool) → (if test then Some w else None) ≡ Some who → (test ≡ true) × (w ≡ who)
both_if who w true is = (refl, same_Some w who is)
both_if who w false is = absurd (none-some who is)

pub both_of : (o p : Option Subject) (who : Subject) → alone_both o p ≡ Some who → (o ≡ Some who) × (p ≡ Some who)
unfolding alone_both
both_of None p who is = absurd (none-some who is)
both_of (Some w) p who is =
    let so = both_if who w (is_of w p) is in (ap Some so.1, of_is w p so.0 ∙ ap Some so.1)

source_same : (s t : MachineState) (b c : ℕ) (who : Subject) (from : Source) → alone_source from ≡ Some who
    → hart_at s (number_of who b) ≡ hart_at t (number_of who c) → source_number s b from ≡ source_number t c from
unfolding alone_source source_number number_at value_in number_of
source_same s t b c who (source.Value (holder.Register hart reg) read) is same =
    let named : Numbered hart ≡ who = same_Some (Numbered hart) who is in
    let here : hart_at s hart ≡ hart_at t hart = subst (λ (w : Subject). hart_at s (number_of w b) ≡ hart_at t (number_of w c)) (sym named) same in
    ap (λ (x : HartState). field_value read (register x reg)) here
source_same s t b c who (source.Value (holder.Pcc hart) read) is same =
    let named : Numbered hart ≡ who = same_Some (Numbered hart) who is in
    let here : hart_at s hart ≡ hart_at t hart = subst (λ (w : Subject). hart_at s (number_of w b) ≡ hart_at t (number_of w c)) (sym named) same in
    ap (λ (x : HartState). field_value read x.pcc) here
source_same s t b c who (source.Value (holder.Granule addr) read) is same = absurd (none-some who is)
source_same s t b c who (source.Data addr width) is same = absurd (none-some who is)
source_same s t b c who (source.Each held read) is same =
    let named : Each ≡ who = same_Some Each who is in
    let here : hart_at s b ≡ hart_at t c = subst (λ (w : Subject). hart_at s (number_of w b) ≡ hart_at t (number_of w c)) (sym named) same in
    ap (λ (x : HartState). field_value read (own_value held x)) here

-- memory alone is the same wherever memory is
pub memory_same : (s t : MachineState) (b c : ℕ) (from : Source) → alone_source from ≡ None → s.memory ≡ t.memory
    → source_number s b from ≡ source_number t c from
unfolding alone_source source_number number_at value_in
memory_same s t b c (source.Value (holder.Register hart reg) read) is same = absurd (none-some (Numbered hart) (sym is))
memory_same s t b c (source.Value (holder.Pcc hart) read) is same = absurd (none-some (Numbered hart) (sym is))
memory_same s t b c (source.Value (holder.Granule addr) read) is same = ap (λ m. field_value read (load_capability m addr)) same
memory_same s t b c (source.Data addr width) is same = ap (λ m. load_data m addr (bytes_of width)) same
memory_same s t b c (source.Each held read) is same = absurd (none-some Each (sym is))

pub source_alone : (s t : MachineState) (b c : ℕ) (who : Subject) (from : Source) → alone_source from ≡ Some who
    → hart_at s (number_of who b) ≡ hart_at t (number_of who c) → source_number s b from ≡ source_number t c from
source_alone = source_same

named_same : (s t : MachineState) (b c : ℕ) (w who : Subject) → w ≡ who → hart_at s (number_of who b) ≡ hart_at t (number_of who c)
    → hart_at s (number_of w b) ≡ hart_at t (number_of w c)
named_same s t b c w who named same = subst (λ (x : Subject). hart_at s (number_of x b) ≡ hart_at t (number_of x c)) (sym named) same

atom_same : (s t : MachineState) (b c : ℕ) (who : Subject) (a : Atom) → alone_atom a ≡ Some who
    → hart_at s (number_of who b) ≡ hart_at t (number_of who c) → atom_holds s b a ≡ atom_holds t c a
unfolding alone_atom atom_holds term_number
atom_same s t b c who (atom.Compares from compared (term.Number number)) is same =
    ap (λ x. compares compared x number) (source_same s t b c who from is same)
atom_same s t b c who (atom.Compares from compared (term.Source other)) is same =
    let both = both_of (alone_source from) (alone_source other) who is in
    ap (λ x. compares compared x (source_number s b other)) (source_same s t b c who from both.0 same)
    ∙ ap (λ y. compares compared (source_number t c from) y) (source_same s t b c who other both.1 same)
atom_same s t b c who (atom.HasStatus w test) is same =
    ap (λ (x : HartState). has_status test x.status) (named_same s t b c w who (same_Some w who is) same)
atom_same s t b c who (atom.Reaches w addr perms) is same =
    ap (λ (x : HartState). reaches addr perms x) (named_same s t b c w who (same_Some w who is) same)
atom_same s t b c who (atom.IsAt w addr) is same =
    ap (λ (x : HartState). address_of x.pcc == addr) (named_same s t b c w who (same_Some w who is) same)
atom_same s t b c who (atom.IsIn w first second) is same =
    ap (λ (x : HartState). is_between first second (address_of x.pcc)) (named_same s t b c w who (same_Some w who is) same)

-- a condition of one hart alone says the same of all states with this hart
pub same_hart : (s t : MachineState) (b c : ℕ) (who : Subject) (f : Formula) → alone f ≡ Some who
    → hart_at s (number_of who b) ≡ hart_at t (number_of who c) → is_so s b f ≡ is_so t c f
unfolding alone is_so
same_hart s t b c who (says a) is same = atom_same s t b c who a is same
same_hart s t b c who (deny f) is same = ap not (same_hart s t b c who f is same)
same_hart s t b c who (enclosed f) is same = same_hart s t b c who f is same
same_hart s t b c who (join j f g) is same =
    let both = both_of (alone f) (alone g) who is in
    ap (λ x. joined j x (is_so s b g)) (same_hart s t b c who f both.0 same)
    ∙ ap (λ y. joined j (is_so t c f) y) (same_hart s t b c who g both.1 same)
same_hart s t b c who (counted f d m) is same = absurd (none-some who is)

pub so_here : (s : MachineState) (b : ℕ) (who : Subject) (hart : HartState) (f : Formula) → alone f ≡ Some who
    → hart_at s (number_of who b) ≡ hart → is_so s b f ≡ so_of who hart f
unfolding so_of
so_here s b who hart f is here = same_hart s (copies who hart) b 0 who f is (here ∙ sym (copy_of who hart))
