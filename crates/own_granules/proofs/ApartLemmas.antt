-- Where an actor's steps don't change what another does quietly, the two come in any order.
use Rattle.std.proofs.Common.{◌≡◌, ◌≢◌, ℕ, zero, suc, ◌<◌, ◌≤◌, arith, ap, sym, ◌∙◌, refl, inl, inr, ◌⊎◌, subst}
use Rattle.std.specs.Prelude.{Option, Some, None, option_map, Bool, true, false, ◌&&◌}
use Rattle.std.proofs.lemmas.Bool.{cases_Bool, cases_eq}
use Rattle.std.proofs.lemmas.Option.{none-some}
use Rattle.own_granules.specs.Rests.{come, rest_one, rest_first, steps_to_rest}
use Rattle.own_granules.proofs.WayLemmas.{option_cases, come_on, come_none, come_stop, stopped_at, steps_on, steps_stop, way_own, rest_none, rest_some, rest_still, rest_own, Moves}

-- which actors may step (ok) and what they do quietly isn't changed by steps of others that may
pub record AreApart {S : Type 0} (step : S → ℕ → S) (quiet ok : S → ℕ → Bool) (fits : S → Bool) : Type 0 where
  pub quiet_may : (s : S) (l : ℕ) → quiet s l ≡ true → ok s l ≡ true
  pub keeps : (s : S) (l : ℕ) → fits s ≡ true → ok s l ≡ true → fits (step s l) ≡ true
  pub same_may : (s : S) (l m : ℕ) → fits s ≡ true → l ≢ m → ok s m ≡ true → ok (step s m) l ≡ ok s l
  pub same_quiet : (s : S) (l m : ℕ) → fits s ≡ true → l ≢ m → ok s m ≡ true → quiet (step s m) l ≡ quiet s l
  pub commutes : (s : S) (l m : ℕ) → fits s ≡ true → l ≢ m → ok s m ≡ true → quiet s l ≡ true →
      step (step s m) l ≡ step (step s l) m

-- whether a way came to an end
abbrev pub comes : {S : Type 0} → Option S → Bool
comes None = false
comes (Some s) = true

pub comes_some : {S : Type 0} (o : Option S) → comes o ≡ true → (s : S) × (o ≡ Some s)
comes_some None is = absurd (cc)
comes_some (Some s) is = (s, refl)

pub comes_mapped : {S : Type 0} (f : S → S) (o : Option S) → comes (option_map f o) ≡ comes o
comes_mapped f None = refl
comes_mapped f (Some s) = refl

module _ {S : Type 0} (step : S → ℕ → S) (quiet ok : S → ℕ → Bool) (fits : S → Bool)
    (apart : AreApart step quiet ok fits) (most : ℕ) where
  abbrev way : ℕ → ℕ → S → Option S
  way l k s = come step quiet l k s

  abbrev pub one : ℕ → S → S
  one l s = rest_one step quiet most l s

  abbrev pub first : ℕ → S → S
  first i s = rest_first step quiet most i s

  abbrev pub steps : ℕ → ℕ → S → ℕ
  steps l k s = steps_to_rest step quiet l k s

  -- an actor's way is the same after another's step
  pub same_way : (k : ℕ) (s : S) (l m : ℕ) → fits s ≡ true → l ≢ m → ok s m ≡ true →
      way l k (step s m) ≡ option_map (λ (x : S). step x m) (way l k s)
  same_way zero s l m fit other may = elim (cases_Bool (quiet s l)) [
    | inl holds ↦
        come_none step quiet l (step s m) (apart.same_quiet s l m fit other may ∙ holds)
        ∙ sym (ap (option_map (λ (x : S). step x m)) (come_none step quiet l s holds))
    | inr fails ↦
        come_stop step quiet l 0 (step s m) (apart.same_quiet s l m fit other may ∙ fails)
        ∙ sym (ap (option_map (λ (x : S). step x m)) (come_stop step quiet l 0 s fails))
  ]
  same_way (suc k) s l m fit other may = elim (cases_Bool (quiet s l)) [
    | inl holds ↦
        let own = apart.quiet_may s l holds in
        let still = apart.same_may s m l fit (λ same. other (sym same)) own ∙ may in
        come_on step quiet l k (step s m) (apart.same_quiet s l m fit other may ∙ holds)
        ∙ (ap (way l k) (apart.commutes s l m fit other may holds)
        ∙ (same_way k (step s l) l m (apart.keeps s l fit own) other still
        ∙ sym (ap (option_map (λ (x : S). step x m)) (come_on step quiet l k s holds))))
    | inr fails ↦
        come_stop step quiet l (suc k) (step s m) (apart.same_quiet s l m fit other may ∙ fails)
        ∙ sym (ap (option_map (λ (x : S). step x m)) (come_stop step quiet l (suc k) s fails))
  ]

  pub same_steps : (k : ℕ) (s : S) (l m : ℕ) → fits s ≡ true → l ≢ m → ok s m ≡ true →
      steps l k (step s m) ≡ steps l k s
  unfolding steps_to_rest
  same_steps zero s l m fit other may = refl
  same_steps (suc k) s l m fit other may = elim (cases_Bool (quiet s l)) [
    | inl holds ↦
        let own = apart.quiet_may s l holds in
        let still = apart.same_may s m l fit (λ same. other (sym same)) own ∙ may in
        steps_on step quiet l k (step s m) (apart.same_quiet s l m fit other may ∙ holds)
        ∙ (ap (λ (x : S). suc (steps l k x)) (apart.commutes s l m fit other may holds)
        ∙ (ap (λ (n : ℕ). suc n) (same_steps k (step s l) l m (apart.keeps s l fit own) other still)
        ∙ sym (steps_on step quiet l k s holds)))
    | inr fails ↦
        steps_stop step quiet l (suc k) (step s m) (apart.same_quiet s l m fit other may ∙ fails)
        ∙ sym (steps_stop step quiet l (suc k) s fails)
  ]

  -- so an actor comes to its rest before another's step or after it
  pub same_rest : (s : S) (l m : ℕ) → fits s ≡ true → l ≢ m → ok s m ≡ true → one l (step s m) ≡ step (one l s) m
  same_rest s l m fit other may =
      let moved = same_way most s l m fit other may in
      elim (option_cases (way l most s)) [
        | inl none ↦
            rest_none step quiet l most (step s m) (moved ∙ ap (option_map (λ (x : S). step x m)) none)
            ∙ sym (ap (λ (x : S). step x m) (rest_none step quiet l most s none))
        | inr some ↦
            rest_some step quiet l most (step s m) (step some.0 m)
            (moved ∙ ap (option_map (λ (x : S). step x m)) some.1)
            ∙ sym (ap (λ (x : S). step x m) (rest_some step quiet l most s some.0 some.1))
      ]

  -- what an actor's quiet steps leave as it is
  abbrev pub Leaves : {A : Type 0} → (S → A) → ℕ → Type 0
  Leaves f l = (s : S) → fits s ≡ true → quiet s l ≡ true → f (step s l) ≡ f s

  left : {A : Type 0} (f : S → A) (l : ℕ) → Leaves f l → (k : ℕ) (s g : S) → fits s ≡ true → way l k s ≡ Some g →
      (fits g ≡ true) × (f g ≡ f s)
  left {A} f l leaves zero s g fit is = elim (cases_Bool (quiet s l)) [
    | inl holds ↦ absurd (none-some g (sym (come_none step quiet l s holds) ∙ is))
    | inr fails ↦
        let same = stopped_at step quiet l 0 s g fails is in
        (subst (λ (x : S). fits x ≡ true) same fit, sym (ap f same))
  ]
  left {A} f l leaves (suc k) s g fit is = elim (cases_Bool (quiet s l)) [
    | inl holds ↦
        let rest = left f l leaves k (step s l) g (apart.keeps s l fit (apart.quiet_may s l holds))
        (sym (come_on step quiet l k s holds) ∙ is) in
        (rest.0, rest.1 ∙ leaves s fit holds)
    | inr fails ↦
        let same = stopped_at step quiet l (suc k) s g fails is in
        (subst (λ (x : S). fits x ≡ true) same fit, sym (ap f same))
  ]

  pub left_one : {A : Type 0} (f : S → A) (l : ℕ) → Leaves f l → (s : S) → fits s ≡ true →
      (fits (one l s) ≡ true) × (f (one l s) ≡ f s)
  left_one {A} f l leaves s fit = elim (option_cases (way l most s)) [
    | inl none ↦
        let same = sym (rest_none step quiet l most s none) in
        (subst (λ (x : S). fits x ≡ true) same fit, sym (ap f same))
    | inr some ↦
        let same = sym (rest_some step quiet l most s some.0 some.1) in
        let end = left f l leaves most s some.0 fit some.1 in
        (subst (λ (x : S). fits x ≡ true) same end.0, sym (ap f same) ∙ end.1)
  ]

  pub left_first : {A : Type 0} (f : S → A) (i : ℕ) → ((l : ℕ) → l < i → Leaves f l) → (s : S) → fits s ≡ true →
      (fits (first i s) ≡ true) × (f (first i s) ≡ f s)
  unfolding rest_first
  left_first {A} f zero leaves s fit = (fit, refl)
  left_first {A} f (suc i) leaves s fit =
      let before = left_first f i (λ l low. leaves l (omega (arith, low))) s fit in
      let last = left_one f i (leaves i (omega arith)) (first i s) before.0 in
      (last.0, last.1 ∙ before.1)

  pub fits_one : (s : S) (l : ℕ) → fits s ≡ true → fits (one l s) ≡ true
  fits_one s l fit = (left_one (λ (x : S). zero) l (λ x fits quiets. refl) s fit).0

  pub fits_first : (s : S) (i : ℕ) → fits s ≡ true → fits (first i s) ≡ true
  fits_first s i fit = (left_first (λ (x : S). zero) i (λ l low x fits quiets. refl) s fit).0

  pub leaves_may : (l m : ℕ) → l ≢ m → Leaves (λ (s : S). ok s l) m
  leaves_may l m other s fit holds = apart.same_may s l m fit other (apart.quiet_may s m holds)

  pub leaves_quiet : (l m : ℕ) → l ≢ m → Leaves (λ (s : S). quiet s l) m
  leaves_quiet l m other s fit holds = apart.same_quiet s l m fit other (apart.quiet_may s m holds)

  pub leaves_comes : (l m : ℕ) → l ≢ m → Leaves (λ (s : S). comes (way l most s)) m
  leaves_comes l m other s fit holds =
      ap comes (same_way most s l m fit other (apart.quiet_may s m holds))
      ∙ comes_mapped (λ (x : S). step x m) (way l most s)

  -- an actor with others before it at their rest
  unlike : (l m : ℕ) → m < l → l ≢ m
  unlike l m low same = absurd (omega (arith, low, same))

  pub may_before : (l i : ℕ) (s : S) → i ≤ l → fits s ≡ true → ok (first i s) l ≡ ok s l
  may_before l i s low fit =
      (left_first (λ (x : S). ok x l) i (λ m below. leaves_may l m (unlike l m (omega (arith, low, below)))) s fit).1

  quiet_before : (l : ℕ) (s : S) → fits s ≡ true → quiet (first l s) l ≡ quiet s l
  quiet_before l s fit = (left_first (λ (x : S). quiet x l) l (λ m below. leaves_quiet l m (unlike l m below)) s fit).1

  comes_before : (l : ℕ) (s : S) → fits s ≡ true → comes (way l most (first l s)) ≡ comes (way l most s)
  comes_before l s fit =
      (left_first (λ (x : S). comes (way l most x)) l (λ m below. leaves_comes l m (unlike l m below)) s fit).1

  pub moves_before : (l : ℕ) (s g : S) → fits s ≡ true → Moves step quiet l most s g →
      (x : S) × Moves step quiet l most (first l s) x
  moves_before l s g fit moves =
      let end = comes_some (way l most (first l s)) (comes_before l s fit ∙ ap comes moves.1) in
      (end.0, (quiet_before l s fit ∙ moves.0, end.1))

  -- whether an actor isn't at its rest
  abbrev pub moves : S → ℕ → Bool
  moves s l = quiet s l && comes (way l most s)

  -- an actor that rests does with others before it at their rest
  pub rests_before : (l : ℕ) (s : S) → fits s ≡ true → (quiet s l ≡ false) ⊎ (way l most s ≡ None) →
      one l (first l s) ≡ first l s
  rests_before l s fit rests = elim rests [
    | inl fails ↦ rest_still step quiet l most (first l s) (quiet_before l s fit ∙ fails)
    | inr none ↦ elim (option_cases (way l most (first l s))) [
      | inl also ↦ rest_none step quiet l most (first l s) also
      | inr some ↦
          let clash : true ≡ false = sym (ap comes some.1) ∙ (comes_before l s fit ∙ ap comes none) in
          absurd (cc)
    ]
  ]

  -- the first actors come to their rest before the step of a later one or after it
  pub before : (i l : ℕ) (s : S) → i ≤ l → fits s ≡ true → ok s l ≡ true → first i (step s l) ≡ step (first i s) l
  unfolding rest_first
  before zero l s low fit may = refl
  before (suc i) l s low fit may =
      let below : i < l = omega (arith, low) in
      ap (one i) (before i l s (omega (arith, low)) fit may)
      ∙ same_rest (first i s) i l (fits_first s i fit) (λ same. absurd (omega (arith, below, same)))
      (may_before l i s (omega (arith, low)) fit ∙ may)

  -- a quiet step of one that comes to its rest is taken on the way there
  pub stays : (i l : ℕ) (s g : S) → l < i → fits s ≡ true → Moves step quiet l most s g →
      first i (step s l) ≡ first i s
  unfolding rest_first
  stays zero l s g low fit moves = absurd (omega (arith, low))
  stays (suc i) l s g low fit moves = elim (cases_eq i l) [
    | inl same ↦
        let own = apart.quiet_may s l moves.0 in
        let there = moves_before l s g fit moves in
        let at : first (suc l) (step s l) ≡ first (suc l) s =
        ap (one l) (before l l s (omega arith) fit own)
        ∙ rest_own step quiet l most (first l s) there.0 there.1 in
        subst (λ (n : ℕ). first (suc n) (step s l) ≡ first (suc n) s) (sym same) at
    | inr other ↦ ap (one i) (stays i l s g (omega (arith, low, other)) fit moves)
  ]

  -- so is its whole way
  absorbed_way : (n k l : ℕ) (s g : S) → l < n → fits s ≡ true → way l k s ≡ Some g → way l most s ≡ Some g →
      first n g ≡ first n s
  absorbed_way n zero l s g low fit is all = elim (cases_Bool (quiet s l)) [
    | inl holds ↦ absurd (none-some g (sym (come_none step quiet l s holds) ∙ is))
    | inr fails ↦ sym (ap (first n) (stopped_at step quiet l 0 s g fails is))
  ]
  absorbed_way n (suc k) l s g low fit is all = elim (cases_Bool (quiet s l)) [
    | inl holds ↦
        absorbed_way n k l (step s l) g low (apart.keeps s l fit (apart.quiet_may s l holds))
        (sym (come_on step quiet l k s holds) ∙ is) (way_own step quiet l most s g holds all)
        ∙ stays n l s g low fit (holds, all)
    | inr fails ↦ sym (ap (first n) (stopped_at step quiet l (suc k) s g fails is))
  ]

  pub absorbed : (n l : ℕ) (s : S) → l < n → fits s ≡ true → first n (one l s) ≡ first n s
  absorbed n l s low fit = elim (option_cases (way l most s)) [
    | inl none ↦ ap (first n) (rest_none step quiet l most s none)
    | inr some ↦
        ap (first n) (rest_some step quiet l most s some.0 some.1)
        ∙ absorbed_way n most l s some.0 low fit some.1 some.1
  ]

  -- what others leave as it is stays where all go to their rest, if the actor rests
  pub kept_rested : {A : Type 0} (f : S → A) (i l : ℕ) → ((m : ℕ) → l ≢ m → Leaves f m) → (s : S) → fits s ≡ true →
      one l (first l s) ≡ first l s → f (first i s) ≡ f s
  unfolding rest_first
  kept_rested {A} f zero l leaves s fit rests = refl
  kept_rested {A} f (suc i) l leaves s fit rests = elim (cases_eq i l) [
    | inl same ↦
        let at : f (first (suc l) s) ≡ f s =
        ap f rests ∙ (left_first f l (λ m below. leaves m (unlike l m below)) s fit).1 in
        subst (λ (n : ℕ). f (first (suc n) s) ≡ f s) (sym same) at
    | inr other ↦
        (left_one f i (leaves i (λ same. other (sym same))) (first i s) (fits_first s i fit)).1
        ∙ kept_rested f i l leaves s fit rests
  ]

  pub may_rested : (i l : ℕ) (s : S) → fits s ≡ true → one l (first l s) ≡ first l s → ok (first i s) l ≡ ok s l
  may_rested i l s fit rests = kept_rested (λ (x : S). ok x l) i l (leaves_may l) s fit rests

  pub rests_on : (n i l : ℕ) (s : S) → i ≤ n → fits s ≡ true → ok s l ≡ true → one l (first l s) ≡ first l s →
      first n (step (first i s) l) ≡ first n (step s l)
  unfolding rest_first
  rests_on n zero l s low fit may rests = refl
  rests_on n (suc i) l s low fit may rests =
      let rest = rests_on n i l s (omega (arith, low)) fit may rests in
      elim (cases_eq i l) [
        | inl same ↦
            let at : first (suc i) s ≡ first i s =
            subst (λ (k : ℕ). first (suc k) s ≡ first k s) (sym same) rests in
            ap (λ (x : S). first n (step x l)) at ∙ rest
        | inr other ↦
            let there = may_rested i l s fit rests ∙ may in
            let fit_there = fits_first s i fit in
            sym (ap (first n) (same_rest (first i s) i l fit_there other there))
            ∙ (absorbed n i (step (first i s) l) (omega (arith, low)) (apart.keeps (first i s) l fit_there there)
            ∙ rest)
      ]
