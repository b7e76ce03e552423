-- A condition's parts, by its last entry.
use Rattle.std.proofs.Common.{◌≡◌, ℕ, ◌+◌, ◌-◌, ◌<◌, List, [], ◌∷◌, ◌++◌, length, get_or, take, drop, refl, sym, ap, ◌∙◌, append_assoc, arith}
use Rattle.std.specs.Prelude.{Option, Some, None}
use Rattle.std.proofs.lemmas.List.{same_from_push, length-append, take_all, take_more}
use Rattle.std.specs.Borrow.{Bor}
use Rattle.conditions.specs.declared.entries.Entry.{Entry}
use Rattle.conditions.specs.declared.formulas.Parts.{Parts}
use Rattle.conditions.specs.declared.formulas.Parts.TheVariants as parts
use Rattle.conditions.specs.declared.parts.Atom.{Atom}
use Rattle.conditions.specs.declared.parts.Comparison.{Comparison}
use Rattle.conditions.specs.declared.parts.Joint.{Joint}
use Rattle.conditions.specs.declared.parts.Node.{Node}
use Rattle.conditions.specs.declared.parts.Node.TheVariants as node
use Rattle.conditions.specs.Formulas.{Formula, says, deny, enclosed, join, counted, nodes_of}
use Rattle.conditions.specs.Hiding.{alone}
use Rattle.conditions.specs.Entries.{entry, entries_of}
use Rattle.conditions.specs.Parts.{IsParted, AreTwo}

-- a condition has as many entries as nodes
pub as_many : (f : Formula) → length (entries_of f) ≡ length (nodes_of f)
unfolding nodes_of entries_of
as_many (says a) = refl
as_many (deny f) = omega (arith, as_many f, length-append (nodes_of f) (node.Not ∷ []), length-append (entries_of f) (entry node.Not (alone (deny f)) ∷ []))
as_many (enclosed f) = omega (arith, as_many f, length-append (nodes_of f) (node.Enclosed ∷ []), length-append (entries_of f) (entry node.Enclosed (alone (enclosed f)) ∷ []))
as_many (join j f g) =
    let last = node.Joined j (length (nodes_of g)) in
    let end = entry last (alone (join j f g)) in
    omega (
      arith,
      as_many f,
      as_many g,
      length-append (nodes_of f) (nodes_of g ++ last ∷ []),
      length-append (nodes_of g) (last ∷ []),
      length-append (entries_of f) (entries_of g ++ end ∷ []),
      length-append (entries_of g) (end ∷ []),
    )
as_many (counted f c n) = omega (arith, as_many f, length-append (nodes_of f) (node.Counted c n ∷ []), length-append (entries_of f) (entry (node.Counted c n) (alone (counted f c n)) ∷ []))

-- nodes up to the last one, and this one
pub ended : (nodes : List Entry) (last d : Entry) → 0 < length nodes → get_or nodes (length nodes - 1) d ≡ last
    → nodes ≡ take (length nodes - 1) nodes ++ last ∷ []
ended nodes last d some is =
    let room : length nodes - 1 < length nodes = omega (arith, some) in
    let all : length nodes - 1 + 1 ≡ length nodes = omega (arith, some) in
    sym (take_all (length nodes) nodes (omega arith)) ∙ ap (λ n. take n nodes) (sym all) ∙ take_more nodes (length nodes - 1) d room
    ∙ ap (λ l. take (length nodes - 1) nodes ++ l ∷ []) is

filled : (f : Formula) → 0 < length (entries_of f)
unfolding entries_of
filled (says a) = omega arith
filled (deny f) = omega (arith, length-append (entries_of f) (entry node.Not (alone (deny f)) ∷ []))
filled (enclosed f) = omega (arith, length-append (entries_of f) (entry node.Enclosed (alone (enclosed f)) ∷ []))
filled (join j f g) =
    let end = entry (node.Joined j (length (nodes_of g))) (alone (join j f g)) in
    omega (arith, length-append (entries_of f) (entries_of g ++ end ∷ []), length-append (entries_of g) (end ∷ []))
filled (counted f c n) = omega (arith, length-append (entries_of f) (entry (node.Counted c n) (alone (counted f c n)) ∷ []))

pub none_parted : (formula : Formula) (nodes : List Entry) → length nodes < 1 → nodes ≡ entries_of formula → IsParted formula None
none_parted formula nodes few is = absurd (omega (arith, few, filled formula, ap length is))

pub last_of : Formula → Node
last_of (says a) = node.Says a
last_of (deny f) = node.Not
last_of (enclosed f) = node.Enclosed
last_of (join j f g) = node.Joined j (length (nodes_of g))
last_of (counted f c n) = node.Counted c n

pub before_last : Formula → List Entry
before_last (says a) = []
before_last (deny f) = entries_of f
before_last (enclosed f) = entries_of f
before_last (join j f g) = entries_of f ++ entries_of g
before_last (counted f c n) = entries_of f

pub split_last : (f : Formula) → entries_of f ≡ before_last f ++ entry (last_of f) (alone f) ∷ []
unfolding entries_of before_last last_of
split_last (says a) = refl
split_last (deny f) = refl
split_last (enclosed f) = refl
split_last (join j f g) = sym (append_assoc (entries_of f) (entries_of g) (entry (node.Joined j (length (nodes_of g))) (alone (join j f g)) ∷ []))
split_last (counted f c n) = refl

ends : (f : Formula) (nodes before : List Entry) (last : Entry) → nodes ≡ before ++ last ∷ [] → nodes ≡ entries_of f
    → (before ≡ before_last f) × (last.node ≡ last_of f)
ends f nodes before last is of =
    let both = same_from_push before (before_last f) last (entry (last_of f) (alone f)) (sym is ∙ of ∙ split_last f) in
    (both.0, ap (λ (e : Entry). e.node) both.1)

pub parted_says : (formula : Formula) (nodes before : List Entry) (last : Entry) (a : Atom) (b : Bor Atom) → last.node ≡ node.Says a → nodes ≡ before ++ last ∷ [] → nodes ≡ entries_of formula → b.now ≡ a
    → IsParted formula (Some (parts.Says b))
unfolding IsParted last_of before_last
parted_says (says a') nodes before last a b named is of here =
    let both = ends (says a') nodes before last is of in let same : node.Says a ≡ node.Says a' = sym named ∙ both.1 in let atom : a ≡ a' = cc in here ∙ atom
parted_says (deny f) nodes before last a b named is of here =
    let clash : node.Says a ≡ node.Not = sym named ∙ (ends (deny f) nodes before last is of).1 in absurd (cc)
parted_says (enclosed f) nodes before last a b named is of here =
    let clash : node.Says a ≡ node.Enclosed = sym named ∙ (ends (enclosed f) nodes before last is of).1 in absurd (cc)
parted_says (join j f g) nodes before last a b named is of here =
    let clash : node.Says a ≡ node.Joined j (length (nodes_of g)) = sym named ∙ (ends (join j f g) nodes before last is of).1 in absurd (cc)
parted_says (counted f c n) nodes before last a b named is of here =
    let clash : node.Says a ≡ node.Counted c n = sym named ∙ (ends (counted f c n) nodes before last is of).1 in absurd (cc)

pub parted_not : (formula : Formula) (nodes before : List Entry) (last : Entry) (part : Bor (List Entry)) → last.node ≡ node.Not → nodes ≡ before ++ last ∷ [] → nodes ≡ entries_of formula → part.now ≡ before
    → IsParted formula (Some (parts.Not part))
unfolding IsParted last_of before_last
parted_not (says a') nodes before last part named is of here =
    let clash : node.Not ≡ node.Says a' = sym named ∙ (ends (says a') nodes before last is of).1 in absurd (cc)
parted_not (deny f) nodes before last part named is of here =
    let both = ends (deny f) nodes before last is of in here ∙ both.0
parted_not (enclosed f) nodes before last part named is of here =
    let clash : node.Not ≡ node.Enclosed = sym named ∙ (ends (enclosed f) nodes before last is of).1 in absurd (cc)
parted_not (join j f g) nodes before last part named is of here =
    let clash : node.Not ≡ node.Joined j (length (nodes_of g)) = sym named ∙ (ends (join j f g) nodes before last is of).1 in absurd (cc)
parted_not (counted f c n) nodes before last part named is of here =
    let clash : node.Not ≡ node.Counted c n = sym named ∙ (ends (counted f c n) nodes before last is of).1 in absurd (cc)

pub parted_enclosed : (formula : Formula) (nodes before : List Entry) (last : Entry) (part : Bor (List Entry)) → last.node ≡ node.Enclosed → nodes ≡ before ++ last ∷ [] → nodes ≡ entries_of formula → part.now ≡ before
    → IsParted formula (Some (parts.Enclosed part))
unfolding IsParted last_of before_last
parted_enclosed (says a') nodes before last part named is of here =
    let clash : node.Enclosed ≡ node.Says a' = sym named ∙ (ends (says a') nodes before last is of).1 in absurd (cc)
parted_enclosed (deny f) nodes before last part named is of here =
    let clash : node.Enclosed ≡ node.Not = sym named ∙ (ends (deny f) nodes before last is of).1 in absurd (cc)
parted_enclosed (enclosed f) nodes before last part named is of here =
    let both = ends (enclosed f) nodes before last is of in here ∙ both.0
parted_enclosed (join j f g) nodes before last part named is of here =
    let clash : node.Enclosed ≡ node.Joined j (length (nodes_of g)) = sym named ∙ (ends (join j f g) nodes before last is of).1 in absurd (cc)
parted_enclosed (counted f c n) nodes before last part named is of here =
    let clash : node.Enclosed ≡ node.Counted c n = sym named ∙ (ends (counted f c n) nodes before last is of).1 in absurd (cc)

pub parted_counted : (formula : Formula) (nodes before : List Entry) (last : Entry) (part : Bor (List Entry)) (comparison : Comparison) (number : ℕ) → last.node ≡ node.Counted comparison number → nodes ≡ before ++ last ∷ [] → nodes ≡ entries_of formula → part.now ≡ before
    → IsParted formula (Some (parts.Counted part comparison number))
unfolding IsParted last_of before_last
parted_counted (says a') nodes before last part comparison number named is of here =
    let clash : node.Counted comparison number ≡ node.Says a' = sym named ∙ (ends (says a') nodes before last is of).1 in absurd (cc)
parted_counted (deny f) nodes before last part comparison number named is of here =
    let clash : node.Counted comparison number ≡ node.Not = sym named ∙ (ends (deny f) nodes before last is of).1 in absurd (cc)
parted_counted (enclosed f) nodes before last part comparison number named is of here =
    let clash : node.Counted comparison number ≡ node.Enclosed = sym named ∙ (ends (enclosed f) nodes before last is of).1 in absurd (cc)
parted_counted (join j f g) nodes before last part comparison number named is of here =
    let clash : node.Counted comparison number ≡ node.Joined j (length (nodes_of g)) = sym named ∙ (ends (join j f g) nodes before last is of).1 in absurd (cc)
parted_counted (counted f c n) nodes before last part comparison number named is of here =
    let both = ends (counted f c n) nodes before last is of in let same : node.Counted comparison number ≡ node.Counted c n = sym named ∙ both.1 in (here ∙ both.0, (cc), (cc))

take_front : (xs ys : List Entry) → take (length xs) (xs ++ ys) ≡ xs
take_front [] ys = refl
take_front (x ∷ xs) ys = ap (λ l. x ∷ l) (take_front xs ys)

drop_front : (xs ys : List Entry) → drop (length xs) (xs ++ ys) ≡ ys
drop_front [] ys = refl
drop_front (x ∷ xs) ys = drop_front xs ys

pub cut : (xs ys : List Entry) → (take (length (xs ++ ys) - length ys) (xs ++ ys) ≡ xs) × (drop (length (xs ++ ys) - length ys) (xs ++ ys) ≡ ys)
cut xs ys =
    let place : length (xs ++ ys) - length ys ≡ length xs = omega (arith, length-append xs ys) in
    (rw place (take_front xs ys), rw place (drop_front xs ys))

two_joined : (f g : Formula) (j joint : Joint) (before : List Entry) (second : ℕ) (result : Option Parts) → before ≡ entries_of f ++ entries_of g
    → joint ≡ j → second ≡ length (entries_of g) → AreTwo before joint second result → IsParted (join j f g) result
unfolding IsParted AreTwo
two_joined f g j joint before second None is same long two =
    absurd (omega (arith, two, long, ap length is, length-append (entries_of f) (entries_of g)))
two_joined f g j joint before second (Some (parts.Joined j' one other)) is same long two =
    let pieces = cut (entries_of f) (entries_of g) in
    (two.1 ∙ same, two.2 ∙ rw (is, long) pieces.0, two.3 ∙ rw (is, long) pieces.1)
two_joined f g j joint before second (Some (parts.Says a)) is same long two = absurd two
two_joined f g j joint before second (Some (parts.Not part)) is same long two = absurd two
two_joined f g j joint before second (Some (parts.Enclosed part)) is same long two = absurd two
two_joined f g j joint before second (Some (parts.Counted part c n)) is same long two = absurd two

pub parted_joined : (formula : Formula) (nodes before : List Entry) (last : Entry) (joint : Joint) (second : ℕ) (result : Option Parts)
    → last.node ≡ node.Joined joint second → nodes ≡ before ++ last ∷ [] → nodes ≡ entries_of formula → AreTwo before joint second result
    → IsParted formula result
unfolding last_of before_last
parted_joined (says a') nodes before last joint second result named is of two =
    let clash : node.Joined joint second ≡ node.Says a' = sym named ∙ (ends (says a') nodes before last is of).1 in absurd (cc)
parted_joined (deny f) nodes before last joint second result named is of two =
    let clash : node.Joined joint second ≡ node.Not = sym named ∙ (ends (deny f) nodes before last is of).1 in absurd (cc)
parted_joined (enclosed f) nodes before last joint second result named is of two =
    let clash : node.Joined joint second ≡ node.Enclosed = sym named ∙ (ends (enclosed f) nodes before last is of).1 in absurd (cc)
parted_joined (join j f g) nodes before last joint second result named is of two =
    let both = ends (join j f g) nodes before last is of in
    let same : node.Joined joint second ≡ node.Joined j (length (nodes_of g)) = sym named ∙ both.1 in
    let many : second ≡ length (nodes_of g) = cc in
    two_joined f g j joint before second result both.0 (cc) (many ∙ sym (as_many g)) two
parted_joined (counted f c n) nodes before last joint second result named is of two =
    let clash : node.Joined joint second ≡ node.Counted c n = sym named ∙ (ends (counted f c n) nodes before last is of).1 in absurd (cc)
