-- What runs say of properties.
use Rattle.std.proofs.Common.{◌≡◌, ◌≤◌, ◌<◌, ◌+◌, ℕ, min, zero, suc, Bool, true, ◌==◌, List, [], ◌∷◌, ◌++◌, All, length, map, take, drop, get_or, refl, sym, ap, ◌∙◌, subst, arith, inl, inr}
use Rattle.std.specs.Prelude.{Option, Some, None, fold, replicate, slice_set, IsSome, is_some}
use Rattle.std.proofs.lemmas.Bool.{cases_lt}
use Rattle.std.proofs.lemmas.Bool.Decides.{nat_tests}
use Rattle.std.proofs.lemmas.Option.{same_Some}
use Rattle.std.proofs.lemmas.List.{map-append, length-map, take_more}
use Rattle.std.proofs.lemmas.List.Sums.{fold-append}
use Rattle.std.proofs.lemmas.List.Elements.{All-nil, All-cons, All-head, All-tail}
use Rattle.cheri_model.specs.declared.operation.Op.{Op}
use Rattle.cheri_model.specs.runs.Image.{ImageParts}
use Rattle.cheri_model.specs.runs.Machine.{opening_state}
use Rattle.cheri_model.specs.runs.Replay.{is_legal}
use Rattle.explore_properties.specs.Properties.{PropertyParts}
use Rattle.sample_draws.specs.declared.drawing.TheConstants.{MAX_RUN}
use Rattle.sample_draws.specs.Drawings.{DrawingParts, is_drawing}
use Rattle.sample_draws.specs.Orders.{first_moment, drawn_run, drawn_order}
use Rattle.sample_draws.proofs.DrawingLemmas.{drawing_within}
use Rattle.sample_draws.proofs.OrderLemmas.{run_legal}
use Rattle.sample_tallies.specs.declared.seen.Seen.{Seen}
use Rattle.sample_tallies.specs.Tables.{seen_once, both, either}
use Rattle.sample_tallies.specs.Tallies.{numbers_from}
use Rattle.sample_tallies.proofs.TableLemmas.{either_none, either_assoc}
use Rattle.sample_checks.specs.Deciding.{decided_after, up_to, deciding_part}
use Rattle.sample_checks.specs.Checks.{seen_if, decided_once, decided_by, decided_of, decided_in, none_each, either_each, is_drawn}
use Rattle.sample_checks.specs.declared.told.PropertySeen.{PropertySeen}
use Rattle.sample_checks.specs.Told.{told_of, tell_all, told_in, property_of}
use Rattle.sample_checks.proofs.WithinLemmas.{either_drawable}

-- ---- lists of runs

-- what is added to something, and to nothing at first
decided_added : (ss : List (Option Seen)) (a : Option Seen) → fold either a ss ≡ either a (fold either None ss)
decided_added [] a = sym (either_none a)
decided_added (s ∷ ss) a =
    decided_added ss (either a s) ∙ either_assoc a s (fold either None ss)
    ∙ ap (either a) (sym (decided_added ss s))

pub of_more : (image : ImageParts) (drawing : DrawingParts) (numbers more : List ℕ) (property : PropertyParts)
    → decided_of image drawing (numbers ++ more) property
    ≡ either (decided_of image drawing numbers property) (decided_of image drawing more property)
unfolding decided_of
of_more image drawing numbers more property =
    let f = decided_once image drawing property in
    ap (fold either None) (map-append f numbers more)
    ∙ fold-append either None (map f numbers) (map f more)
    ∙ decided_added (map f more) (fold either None (map f numbers))

-- two functions of each property
pub each_of : {P : Type 0} (f g : P → Option Seen) (ps : List P)
    → either_each (map f ps) (map g ps) ≡ map (λ p. either (f p) (g p)) ps
unfolding either_each
each_of {P} f g [] = refl
each_of {P} f g (p ∷ ps) = ap (λ (xs : List (Option Seen)). either (f p) (g p) ∷ xs) (each_of f g ps)

pub same_map : {P : Type 0} (f g : P → Option Seen) → ((p : P) → f p ≡ g p) → (ps : List P) → map f ps ≡ map g ps
same_map {P} f g same [] = refl
same_map {P} f g same (p ∷ ps) = λ i. same p i ∷ same_map f g same ps i

pub in_more : (image : ImageParts) (drawing : DrawingParts) (properties : List PropertyParts) (numbers more : List ℕ)
    → decided_in image drawing properties (numbers ++ more)
    ≡ either_each (decided_in image drawing properties numbers) (decided_in image drawing properties more)
unfolding decided_in
in_more image drawing properties numbers more =
    same_map (decided_of image drawing (numbers ++ more))
    (λ p. either (decided_of image drawing numbers p) (decided_of image drawing more p))
    (of_more image drawing numbers more) properties
    ∙ sym (each_of (decided_of image drawing numbers) (decided_of image drawing more) properties)

-- one run
of_one : (image : ImageParts) (drawing : DrawingParts) (run : ℕ) (property : PropertyParts)
    → decided_of image drawing (run ∷ []) property ≡ decided_once image drawing property run
unfolding decided_of
of_one image drawing run property = refl

pub in_one : (image : ImageParts) (drawing : DrawingParts) (properties : List PropertyParts) (run : ℕ)
    → decided_in image drawing properties (run ∷ []) ≡ decided_by image drawing properties run
unfolding decided_in decided_by
in_one image drawing properties run =
    same_map (decided_of image drawing (run ∷ [])) (λ p. decided_once image drawing p run)
    (of_one image drawing run) properties

-- one number more
pub in_next : (image : ImageParts) (drawing : DrawingParts) (properties : List PropertyParts) (first count : ℕ)
    → decided_in image drawing properties (numbers_from first (count + 1))
    ≡ either_each (decided_in image drawing properties (numbers_from first count))
    (decided_by image drawing properties (first + count))
unfolding numbers_from
in_next image drawing properties first count =
    let next : count + 1 ≡ suc count = omega arith in
    ap (λ (n : ℕ). decided_in image drawing properties (numbers_from first n)) next
    ∙ in_more image drawing properties (numbers_from first count) ((first + count) ∷ [])
    ∙ ap (either_each (decided_in image drawing properties (numbers_from first count)))
    (in_one image drawing properties (first + count))

-- of no run
none_of : (image : ImageParts) (drawing : DrawingParts) (properties : List PropertyParts)
    → replicate (length properties) None ≡ map (decided_of image drawing []) properties
unfolding decided_of
none_of image drawing [] = refl
none_of image drawing (p ∷ ps) = ap (λ (xs : List (Option Seen)). None ∷ xs) (none_of image drawing ps)

pub none_in : (image : ImageParts) (drawing : DrawingParts) (properties : List PropertyParts) (first : ℕ)
    → none_each (length properties) ≡ decided_in image drawing properties (numbers_from first 0)
unfolding decided_in numbers_from
none_in image drawing properties first = none_of image drawing properties

pub in_none : (image : ImageParts) (drawing : DrawingParts) (properties : List PropertyParts) (numbers : List ℕ)
    → length properties ≡ 0 → none_each (length properties) ≡ decided_in image drawing properties numbers
unfolding decided_in
in_none image drawing [] numbers none = refl
in_none image drawing (p ∷ ps) numbers none = absurd (omega arith)

pub in_long : (image : ImageParts) (drawing : DrawingParts) (properties : List PropertyParts) (numbers : List ℕ)
    → length (decided_in image drawing properties numbers) ≡ length properties
unfolding decided_in
in_long image drawing properties numbers = length-map properties (decided_of image drawing numbers)

-- ---- first runs

once_drawn : (after : Option ℕ) (run : ℕ) → run ≤ MAX_RUN → is_drawn (seen_if after run)
once_drawn None run within seen is = absurd (cc)
once_drawn (Some n) run within seen is =
    subst (λ (s : Seen). s.first ≤ MAX_RUN) (same_Some (seen_once run) seen is) within

once_within : (image : ImageParts) (drawing : DrawingParts) (property : PropertyParts) (run : ℕ) → run ≤ MAX_RUN
    → is_drawn (decided_once image drawing property run)
unfolding decided_once
once_within image drawing property run within =
    once_drawn (decided_after image property.claim (drawn_order image drawing run)) run within

many_within : (image : ImageParts) (drawing : DrawingParts) (property : PropertyParts) (numbers : List ℕ)
    (a : Option Seen) → is_drawn a → All (λ n. n ≤ MAX_RUN) numbers
    → is_drawn (fold either a (map (decided_once image drawing property) numbers))
many_within image drawing property [] a is all = is
many_within image drawing property (n ∷ ns) a is all =
    many_within image drawing property ns (either a (decided_once image drawing property n))
    (either_drawable a (decided_once image drawing property n) is
    (once_within image drawing property n (All-head (λ (n : ℕ). n ≤ MAX_RUN) n ns all)))
    (All-tail (λ (n : ℕ). n ≤ MAX_RUN) n ns all)

of_within : (image : ImageParts) (drawing : DrawingParts) (numbers : List ℕ) (property : PropertyParts)
    → All (λ n. n ≤ MAX_RUN) numbers → is_drawn (decided_of image drawing numbers property)
unfolding decided_of
of_within image drawing numbers property all =
    many_within image drawing property numbers None (λ s is. absurd (cc)) all

pub in_within : (image : ImageParts) (drawing : DrawingParts) (properties : List PropertyParts) (numbers : List ℕ)
    → All (λ n. n ≤ MAX_RUN) numbers → All is_drawn (decided_in image drawing properties numbers)
unfolding decided_in
in_within image drawing [] numbers all = All-nil is_drawn
in_within image drawing (p ∷ ps) numbers all =
    All-cons is_drawn (decided_of image drawing numbers p) (map (decided_of image drawing numbers) ps)
    (of_within image drawing numbers p all) (in_within image drawing ps numbers all)

pub none_within : (count : ℕ) → All is_drawn (none_each count)
none_within zero = All-nil is_drawn
none_within (suc count) =
    All-cons is_drawn None (replicate count None) (λ s is. absurd (cc)) (none_within count)

pub each_within : (a b : List (Option Seen)) → All is_drawn a → All is_drawn b → All is_drawn (either_each a b)
unfolding either_each
each_within [] b one other = All-nil is_drawn
each_within (x ∷ a) [] one other = All-nil is_drawn
each_within (x ∷ a) (y ∷ b) one other =
    All-cons is_drawn (either x y) (either_each a b)
    (either_drawable x y (All-head is_drawn x a one) (All-head is_drawn y b other))
    (each_within a b (All-tail is_drawn x a one) (All-tail is_drawn y b other))

-- ---- one place after another

-- the first places with what is added, and the others as they were
abbrev pub seen_so_far : {P : Type 0} → (P → Option Seen) → List P → List (Option Seen) → ℕ → List (Option Seen)
seen_so_far f ps old k = either_each (take k old) (map f (take k ps)) ++ drop k old

seen_next : {P : Type 0} (f : P → Option Seen) (ps : List P) (old : List (Option Seen)) (k : ℕ) (p : P)
    (was : Option Seen) → length old ≡ length ps → k < length ps → p ≡ get_or ps k p
    → was ≡ get_or (seen_so_far f ps old k) k was
    → slice_set (seen_so_far f ps old k) k (either was (f p)) ≡ seen_so_far f ps old (suc k)
unfolding either_each
seen_next {P} f [] old k p was same inside at before = absurd (omega arith)
seen_next {P} f (q ∷ ps) [] k p was same inside at before = absurd (omega arith)
seen_next {P} f (q ∷ ps) (o ∷ os) zero p was same inside at before =
    ap (λ (x : Option Seen). either x (f p) ∷ os) before ∙ ap (λ (x : P). either o (f x) ∷ os) at
seen_next {P} f (q ∷ ps) (o ∷ os) (suc k) p was same inside at before =
    ap (λ (xs : List (Option Seen)). either o (f q) ∷ xs)
    (seen_next f ps os k p was (omega arith) (omega arith) at before)

pub seen_more : {P : Type 0} (f : P → Option Seen) (ps : List P) (old : List (Option Seen)) (k : ℕ) (p : P)
    (was : Option Seen) → length old ≡ length ps → k < length ps → p ≡ get_or ps k p
    → was ≡ get_or (seen_so_far f ps old k) k was
    → slice_set (seen_so_far f ps old k) k (either was (f p)) ≡ seen_so_far f ps old (k + 1)
seen_more {P} f ps old k p was same inside at before =
    let next : suc k ≡ k + 1 = omega arith in
    seen_next f ps old k p was same inside at before ∙ ap (seen_so_far f ps old) next

pub seen_none : {P : Type 0} (f : P → Option Seen) (ps : List P) (old : List (Option Seen))
    → old ≡ seen_so_far f ps old 0
unfolding either_each
seen_none {P} f ps old = refl

pub seen_all : {P : Type 0} (f : P → Option Seen) (ps : List P) (old : List (Option Seen)) (k : ℕ) → length old ≡ length ps
    → k ≡ length ps → seen_so_far f ps old k ≡ either_each old (map f ps)
unfolding either_each
seen_all {P} f [] [] k same all = ap (λ (n : ℕ). seen_so_far f [] [] n) all
seen_all {P} f [] (o ∷ os) k same all = absurd (omega arith)
seen_all {P} f (p ∷ ps) [] k same all = absurd (omega arith)
seen_all {P} f (p ∷ ps) (o ∷ os) zero same all = absurd (omega arith)
seen_all {P} f (p ∷ ps) (o ∷ os) (suc k) same all =
    ap (λ (xs : List (Option Seen)). either o (f p) ∷ xs) (seen_all f ps os k (omega arith) (omega arith))

pub seen_long : {P : Type 0} (f : P → Option Seen) (ps : List P) (old : List (Option Seen)) (k : ℕ) → length old ≡ length ps
    → length (seen_so_far f ps old k) ≡ length ps
unfolding either_each
seen_long {P} f [] [] zero same = refl
seen_long {P} f [] [] (suc k) same = refl
seen_long {P} f [] (o ∷ os) k same = absurd (omega arith)
seen_long {P} f (p ∷ ps) [] k same = absurd (omega arith)
seen_long {P} f (p ∷ ps) (o ∷ os) zero same = same
seen_long {P} f (p ∷ ps) (o ∷ os) (suc k) same =
    let rest = seen_long f ps os k (omega arith) in omega arith

-- ---- the first run

-- what is so of each first run
abbrev pub of_first : (ℕ → Type 0) → Option Seen → Type 0
of_first D decided = (seen : Seen) → decided ≡ Some seen → D seen.first

least_is : (D : ℕ → Type 0) (a b : ℕ) → D a → D b → D (min a b)
least_is D a b one other = elim (cases_lt a b) [
  | inl less ↦ subst D (omega arith) one
  | inr not_less ↦ subst D (omega arith) other
]

both_first : (D : ℕ → Type 0) (a b : Seen) → D a.first → D b.first → of_first D (Some (both a b))
both_first D a b one other seen is =
    subst (λ (s : Seen). D s.first) (same_Some (both a b) seen is) (least_is D a.first b.first one other)

either_first : (D : ℕ → Type 0) (a b : Option Seen) → of_first D a → of_first D b → of_first D (either a b)
either_first D None b one other = other
either_first D (Some a) None one other = one
either_first D (Some a) (Some b) one other = both_first D a b (one a refl) (other b refl)

-- the run has a state that decides the property
abbrev pub Decides : ImageParts → DrawingParts → PropertyParts → ℕ → Type 0
Decides image drawing property run = IsSome (deciding_part image property.claim (drawn_order image drawing run))

once_by : (image : ImageParts) (drawing : DrawingParts) (property : PropertyParts) (run : ℕ) (after : Option ℕ)
    → decided_after image property.claim (drawn_order image drawing run) ≡ after
    → of_first (Decides image drawing property) (seen_if after run)
unfolding deciding_part
once_by image drawing property run None is seen made = absurd (cc)
once_by image drawing property run (Some n) is seen made =
    let first : run ≡ seen.first = ap (λ (s : Seen). s.first) (same_Some (seen_once run) seen made) in
    subst (Decides image drawing property) first
    (ap (λ (o : Option ℕ). is_some (up_to o (drawn_order image drawing run))) is)

once_decides : (image : ImageParts) (drawing : DrawingParts) (property : PropertyParts) (run : ℕ)
    → of_first (Decides image drawing property) (decided_once image drawing property run)
unfolding decided_once
once_decides image drawing property run =
    once_by image drawing property run (decided_after image property.claim (drawn_order image drawing run)) refl

many_decide : (image : ImageParts) (drawing : DrawingParts) (property : PropertyParts) (numbers : List ℕ)
    (a : Option Seen) → of_first (Decides image drawing property) a
    → of_first (Decides image drawing property) (fold either a (map (decided_once image drawing property) numbers))
many_decide image drawing property [] a is = is
many_decide image drawing property (n ∷ ns) a is =
    many_decide image drawing property ns (either a (decided_once image drawing property n))
    (either_first (Decides image drawing property) a (decided_once image drawing property n) is
    (once_decides image drawing property n))

pub first_decides : (image : ImageParts) (drawing : DrawingParts) (property : PropertyParts) (numbers : List ℕ)
    (seen : Seen) → decided_of image drawing numbers property ≡ Some seen
    → Decides image drawing property seen.first
unfolding decided_of
first_decides image drawing property numbers =
    many_decide image drawing property numbers None (λ s is. absurd (cc))

-- ---- a run more

-- what an order says of a property, and of each
abbrev pub says : ImageParts → List Op → ℕ → PropertyParts → Option Seen
says image order run property = seen_if (decided_after image property.claim order) run

abbrev pub said_by : ImageParts → List Op → ℕ → List PropertyParts → List (Option Seen)
said_by image order run properties = map (says image order run) properties

said_is : (image : ImageParts) (drawing : DrawingParts) (properties : List PropertyParts) (run : ℕ)
    → said_by image (drawn_order image drawing run) run properties ≡ decided_by image drawing properties run
unfolding decided_by decided_once
said_is image drawing properties run = refl

pub decided_more : (image seen machine : ImageParts) (drawing : DrawingParts) (properties : List PropertyParts)
    (first done run : ℕ) (order : List Op) (before after : List (Option Seen)) → seen ≡ image → machine ≡ image
    → run ≡ first + done → order ≡ drawn_order seen drawing run
    → before ≡ decided_in image drawing properties (numbers_from first done)
    → after ≡ either_each before (said_by machine order run properties)
    → after ≡ decided_in image drawing properties (numbers_from first (done + 1))
decided_more image seen machine drawing properties first done run order before after seen_is machine_is run_is order_is was is =
    let so_far = decided_in image drawing properties (numbers_from first done) in
    let drawn : order ≡ drawn_order image drawing run =
    order_is ∙ ap (λ (i : ImageParts). drawn_order i drawing run) seen_is in
    is ∙ ap (λ (d : List (Option Seen)). either_each d (said_by machine order run properties)) was
    ∙ ap (λ (i : ImageParts). either_each so_far (said_by i order run properties)) machine_is
    ∙ ap (λ (o : List Op). either_each so_far (said_by image o run properties)) drawn
    ∙ ap (either_each so_far) (said_is image drawing properties run)
    ∙ ap (λ (n : ℕ). either_each so_far (decided_by image drawing properties n)) run_is
    ∙ sym (in_next image drawing properties first done)

-- the order of a run can be replayed
pub drawn_legal : (image machine : ImageParts) (drawing : DrawingParts) (run : ℕ) (order : List Op)
    → is_drawing drawing ≡ true → machine ≡ image → order ≡ drawn_order image drawing run
    → is_legal machine (opening_state machine) order ≡ true
unfolding drawn_run
drawn_legal image machine drawing run order is same drawn =
    let ranges = (drawing_within drawing is).ranges in
    let legal : is_legal image (opening_state image) (drawn_order image drawing run) ≡ true =
    run_legal image drawing drawing.length (first_moment image drawing run) ranges in
    subst (λ (i : ImageParts). is_legal i (opening_state i) order ≡ true) (sym same)
    (subst (λ (o : List Op). is_legal image (opening_state image) o ≡ true) (sym drawn) legal)

-- ---- what is told of properties

tell_next : (image : ImageParts) (drawing : DrawingParts) (ps : List PropertyParts) (ds : List (Option Seen)) (k : ℕ)
    (p : PropertyParts) (d : Option Seen) → k < length ps → k < length ds → p ≡ get_or ps k p → d ≡ get_or ds k d
    → tell_all image drawing (take k ps) (take k ds) ++ told_of image drawing p d ∷ []
    ≡ tell_all image drawing (take (suc k) ps) (take (suc k) ds)
unfolding tell_all
tell_next image drawing [] ds k p d here there at seen = absurd (omega arith)
tell_next image drawing (q ∷ ps) [] k p d here there at seen = absurd (omega arith)
tell_next image drawing (q ∷ ps) (e ∷ ds) zero p d here there at seen =
    ap (λ (x : PropertyParts). told_of image drawing x d ∷ []) at
    ∙ ap (λ (x : Option Seen). told_of image drawing q x ∷ []) seen
tell_next image drawing (q ∷ ps) (e ∷ ds) (suc k) p d here there at seen =
    ap (λ (xs : List (Option (Seen × List Op))). told_of image drawing q e ∷ xs)
    (tell_next image drawing ps ds k p d (omega arith) (omega arith) at seen)

pub tell_more : (image : ImageParts) (drawing : DrawingParts) (ps : List PropertyParts) (ds : List (Option Seen)) (k : ℕ)
    (p : PropertyParts) (d : Option Seen) → k < length ps → k < length ds → p ≡ get_or ps k p → d ≡ get_or ds k d
    → tell_all image drawing (take k ps) (take k ds) ++ told_of image drawing p d ∷ []
    ≡ tell_all image drawing (take (k + 1) ps) (take (k + 1) ds)
tell_more image drawing ps ds k p d here there at seen =
    let next : suc k ≡ k + 1 = omega arith in
    tell_next image drawing ps ds k p d here there at seen
    ∙ ap (λ (n : ℕ). tell_all image drawing (take n ps) (take n ds)) next

none_by : (n : ℕ) → (n == 0) ≡ true → n ≡ 0
none_by n is = grind (arith, nat_tests)

pub none_of_them : {A : Type 0} (xs : List A) (b : Bool) → b ≡ (length xs == 0) → b ≡ true → length xs ≡ 0
none_of_them {A} xs b is none = none_by (length xs) (sym is ∙ none)

pub tell_none : (image : ImageParts) (drawing : DrawingParts) (ps : List PropertyParts) (ds : List (Option Seen))
    → [] ≡ tell_all image drawing (take 0 ps) (take 0 ds)
unfolding tell_all
tell_none image drawing ps ds = refl

-- a property more
pub shown_more : (all more : List PropertySeen) (one : PropertySeen) (ps : List PropertyParts) (k : ℕ) (p : PropertyParts)
    → more ≡ all ++ one ∷ [] → property_of one ≡ p → k < length ps → p ≡ get_or ps k p
    → map property_of all ≡ take k ps → map property_of more ≡ take (k + 1) ps
shown_more all more one ps k p is same inside at before =
    ap (map property_of) is ∙ map-append property_of all (one ∷ [])
    ∙ ap (λ (xs : List PropertyParts). xs ++ property_of one ∷ []) before
    ∙ ap (λ (x : PropertyParts). take k ps ++ x ∷ []) (same ∙ at)
    ∙ sym (take_more ps k p inside)

pub told_more : (all more : List PropertySeen) (one : PropertySeen) (t : Option (Seen × List Op))
    (before after : List (Option (Seen × List Op))) → more ≡ all ++ one ∷ [] → told_in one ≡ t
    → map told_in all ≡ before → before ++ t ∷ [] ≡ after → map told_in more ≡ after
told_more all more one t before after is same was next =
    ap (map told_in) is ∙ map-append told_in all (one ∷ [])
    ∙ ap (λ (xs : List (Option (Seen × List Op))). xs ++ told_in one ∷ []) was
    ∙ ap (λ (x : Option (Seen × List Op)). before ++ x ∷ []) same
    ∙ next
