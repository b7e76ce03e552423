-- How the parts on the stack go with the parts of the condition that wait for their node.
use Rattle.std.proofs.Common.{◌≡◌, ◌+◌, ◌-◌, ◌<◌, ◌≤◌, ℕ, length, get_or, List, [], ◌∷◌, ◌++◌, take}
use Rattle.std.proofs.Common.{refl, sym, ap, subst, ◌∙◌, arith}
use Rattle.std.specs.Prelude.{Bool, true, false, ◌==◌, ◌||◌, reverse}
use Rattle.std.proofs.lemmas.List.{take_all, take_more, reverse-append}
use Rattle.conditions.specs.declared.parts.Atom.{Atom}
use Rattle.conditions.specs.declared.parts.Comparison.{Comparison}
use Rattle.conditions.specs.declared.parts.Joint.{Joint}
use Rattle.conditions.specs.declared.parts.Node.{Node}
use Rattle.conditions.specs.declared.parts.Node.TheVariants as node
use Rattle.conditions.specs.Formulas.{Formula, says, join, counted, grow, grown, last_part, formula_of}
use Rattle.hart_symmetry.specs.Named.{subject_names, atom_names, formula_names, condition_names}
use Rattle.named_harts.specs.declared.named.Part.{Part}
use Rattle.named_harts.specs.NamedHarts.{has, IsSetOf, Tells, AreSetsOf}
use Rattle.named_harts.proofs.SetLemmas.{both_are}

-- ---- a part by itself

pub says_tells : (a : Atom) (part : Part) → IsSetOf (atom_names false a) part.outside →
    IsSetOf (atom_names true a) part.within → Tells part (says a)
unfolding Tells formula_names
says_tells a part outside within = (outside, within)

pub join_tells : (one other both : Part) (joint : Joint) (f g : Formula) →
    IsSetOf (λ hart. has one.outside hart || has other.outside hart) both.outside →
    IsSetOf (λ hart. has one.within hart || has other.within hart) both.within →
    Tells one f → Tells other g → Tells both (join joint f g)
unfolding Tells formula_names
join_tells one other both joint f g outside within left right = (
  both_are one.outside other.outside both.outside (formula_names false f) (formula_names false g) left.0 right.0
      outside,
  both_are one.within other.within both.within (formula_names true f) (formula_names true g) left.1 right.1
      within,
)

pub counted_tells : (one all : Part) (f : Formula) (comparison : Comparison) (number : ℕ) →
    all.outside ≡ one.within → all.within ≡ one.within → Tells one f → Tells all (counted f comparison number)
unfolding Tells formula_names
counted_tells one all f comparison number outside within tells =
    (rw outside tells.1, rw within tells.1)

-- ---- one node more

reverse_push : {X : Type 0} (xs : List X) (x : X) → reverse (xs ++ x ∷ []) ≡ x ∷ reverse xs
reverse_push xs x = reverse-append xs (x ∷ [])

-- the stack with one part more
abbrev pub pushed : List Part → Part → List Part
pushed parts part = parts ++ part ∷ []

pub said_are : (a : Atom) (formulas : List Formula) (parts : List Part) (part : Part) → Tells part (says a) →
    AreSetsOf formulas (reverse parts) → AreSetsOf (grow (node.Says a) formulas) (reverse (pushed parts part))
unfolding AreSetsOf grow
said_are a formulas parts part tells are = rw (reverse_push parts part) (tells, are)

pub not_are : (formulas : List Formula) (parts : List Part) → AreSetsOf formulas parts →
    AreSetsOf (grow node.Not formulas) parts
unfolding AreSetsOf grow Tells formula_names
not_are [] parts are = are
not_are (f ∷ formulas) [] are = are
not_are (f ∷ formulas) (part ∷ parts) are = are

pub enclosed_are : (formulas : List Formula) (parts : List Part) → AreSetsOf formulas parts →
    AreSetsOf (grow node.Enclosed formulas) parts
unfolding AreSetsOf grow Tells formula_names
enclosed_are [] parts are = are
enclosed_are (f ∷ formulas) [] are = are
enclosed_are (f ∷ formulas) (part ∷ parts) are = are

join_none : (joint : Joint) (second : ℕ) (formulas : List Formula) → AreSetsOf formulas [] →
    AreSetsOf (grow (node.Joined joint second) formulas) []
unfolding AreSetsOf grow
join_none joint second [] are = are
join_none joint second (f ∷ formulas) are = absurd are

join_one : (joint : Joint) (second : ℕ) (formulas : List Formula) (part : Part) → AreSetsOf formulas (part ∷ []) →
    AreSetsOf (grow (node.Joined joint second) formulas) (part ∷ [])
unfolding AreSetsOf grow
join_one joint second [] part are = absurd are
join_one joint second (f ∷ []) part are = are
join_one joint second (f ∷ g ∷ formulas) part are = absurd are.1

join_two : (joint : Joint) (second : ℕ) (formulas : List Formula) (one other both : Part) (parts : List Part) →
    ((f g : Formula) → Tells one f → Tells other g → Tells both (join joint f g)) →
    AreSetsOf formulas (other ∷ one ∷ parts) → AreSetsOf (grow (node.Joined joint second) formulas) (both ∷ parts)
unfolding AreSetsOf grow
join_two joint second [] one other both parts tells are = absurd are
join_two joint second (g ∷ []) one other both parts tells are = absurd are.1
join_two joint second (g ∷ f ∷ formulas) one other both parts tells are = (tells f g are.1.0 are.0, are.1.1)

count_none : (comparison : Comparison) (number : ℕ) (formulas : List Formula) → AreSetsOf formulas [] →
    AreSetsOf (grow (node.Counted comparison number) formulas) []
unfolding AreSetsOf grow
count_none comparison number [] are = are
count_none comparison number (f ∷ formulas) are = absurd are

count_one : (comparison : Comparison) (number : ℕ) (formulas : List Formula) (one all : Part) (parts : List Part) →
    ((f : Formula) → Tells one f → Tells all (counted f comparison number)) →
    AreSetsOf formulas (one ∷ parts) → AreSetsOf (grow (node.Counted comparison number) formulas) (all ∷ parts)
unfolding AreSetsOf grow
count_one comparison number [] one all parts tells are = absurd are
count_one comparison number (f ∷ formulas) one all parts tells are = (tells f are.0, are.1)

-- the same of stacks whose last part was taken, and another put there

pub joined_none : (joint : Joint) (second : ℕ) (formulas : List Formula) (before after : List Part) →
    before ≡ [] → after ≡ [] → AreSetsOf formulas (reverse before) →
    AreSetsOf (grow (node.Joined joint second) formulas) (reverse after)
joined_none joint second formulas before after was is are =
    rw is (join_none joint second formulas (rw was at are))

pub joined_one : (joint : Joint) (second : ℕ) (formulas : List Formula) (before after : List Part) (part : Part) →
    before ≡ part ∷ [] → after ≡ part ∷ [] → AreSetsOf formulas (reverse before) →
    AreSetsOf (grow (node.Joined joint second) formulas) (reverse after)
joined_one joint second formulas before after part was is are =
    rw is (join_one joint second formulas part (rw was at are))

pub joined_two : (joint : Joint) (second : ℕ) (formulas : List Formula) (before after rest : List Part)
    (one other both : Part) → ((f g : Formula) → Tells one f → Tells other g → Tells both (join joint f g)) →
    before ≡ pushed (pushed rest one) other → after ≡ pushed rest both → AreSetsOf formulas (reverse before) →
    AreSetsOf (grow (node.Joined joint second) formulas) (reverse after)
joined_two joint second formulas before after rest one other both tells was is are =
    rw (is, reverse_push rest both)
    (join_two joint second formulas one other both (reverse rest) tells
    (rw (was, reverse_push (pushed rest one) other, reverse_push rest one) at are))

pub counted_none : (comparison : Comparison) (number : ℕ) (formulas : List Formula) (before after : List Part) →
    before ≡ [] → after ≡ [] → AreSetsOf formulas (reverse before) →
    AreSetsOf (grow (node.Counted comparison number) formulas) (reverse after)
counted_none comparison number formulas before after was is are =
    rw is (count_none comparison number formulas (rw was at are))

pub counted_one : (comparison : Comparison) (number : ℕ) (formulas : List Formula) (before after rest : List Part)
    (one all : Part) → ((f : Formula) → Tells one f → Tells all (counted f comparison number)) →
    before ≡ pushed rest one → after ≡ pushed rest all → AreSetsOf formulas (reverse before) →
    AreSetsOf (grow (node.Counted comparison number) formulas) (reverse after)
counted_one comparison number formulas before after rest one all tells was is are =
    rw (is, reverse_push rest all)
    (count_one comparison number formulas one all (reverse rest) tells (rw (was, reverse_push rest one) at are))

-- ---- the nodes so far

grown_next : (formulas : List Formula) (nodes : List Node) (n : Node) →
    grown formulas (nodes ++ n ∷ []) ≡ grow n (grown formulas nodes)
unfolding grown
grown_next formulas [] n = refl
grown_next formulas (m ∷ nodes) n = grown_next (grow m formulas) nodes n

pub none_are : AreSetsOf (grown [] []) (reverse [])
unfolding AreSetsOf grown
none_are = tt

pub next_are : (nodes : List Node) (number : ℕ) (default n : Node) (parts : List Part) → number < length nodes →
    n ≡ get_or nodes number default → AreSetsOf (grow n (grown [] (take number nodes))) parts →
    AreSetsOf (grown [] (take (number + 1) nodes)) parts
next_are nodes number default n parts inside is are =
    let before = take number nodes in
    rw (take_more nodes number default inside, grown_next [] before (get_or nodes number default), ← is) are

-- ---- the last part

last_none : (formulas : List Formula) (set : List Bool) → IsSetOf (λ hart. hart == 0) set →
    AreSetsOf formulas [] → IsSetOf (formula_names false (last_part formulas)) set
unfolding AreSetsOf formula_names atom_names subject_names
last_none [] set is are = is
last_none (f ∷ formulas) set is are = absurd are

last_some : (formulas : List Formula) (part : Part) (parts : List Part) → AreSetsOf formulas (part ∷ parts) →
    IsSetOf (formula_names false (last_part formulas)) part.outside
unfolding AreSetsOf Tells
last_some [] part parts are = absurd are
last_some (f ∷ formulas) part parts are = are.0.0

no_parts : (parts : List Part) → length parts ≤ 0 → parts ≡ []
no_parts [] past = refl
no_parts (part ∷ parts) past = absurd (omega arith)

pub named_none : (formulas : List Formula) (parts : List Part) (set : List Bool) → IsSetOf (λ hart. hart == 0) set →
    length parts ≤ 0 → AreSetsOf formulas (reverse parts) → IsSetOf (formula_names false (last_part formulas)) set
named_none formulas parts set is past are = last_none formulas set is (rw (no_parts parts past) at are)

-- the last part comes after all others
last_apart : (parts : List Part) (part : Part) → 0 < length parts → part ≡ get_or parts (length parts - 1) part →
    parts ≡ pushed (take (length parts - 1) parts) part
last_apart parts part some is =
    let before : length parts - 1 < length parts = omega arith in
    let all : length parts ≤ length parts - 1 + 1 = omega arith in
    sym (take_all (length parts - 1 + 1) parts all) ∙ take_more parts (length parts - 1) part before
    ∙ ap (pushed (take (length parts - 1) parts)) (sym is)

pub named_some : (formulas : List Formula) (parts : List Part) (part : Part) → 0 < length parts →
    part ≡ get_or parts (length parts - 1) part → AreSetsOf formulas (reverse parts) →
    IsSetOf (formula_names false (last_part formulas)) part.outside
named_some formulas parts part some is are =
    let rest = take (length parts - 1) parts in
    last_some formulas part (reverse rest)
    (subst (AreSetsOf formulas) (ap reverse (last_apart parts part some is) ∙ reverse_push rest part) are)

pub all_are : (nodes : List Node) (number : ℕ) (set : List Bool) → length nodes ≤ number →
    IsSetOf (formula_names false (last_part (grown [] (take number nodes)))) set → IsSetOf (condition_names nodes) set
unfolding condition_names formula_of
all_are nodes number set past is = rw (take_all number nodes past) at is
