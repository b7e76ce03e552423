-- Tables of steps, while more harts, values and steps get numbers.
use Rattle.std.proofs.Common.{◌≡◌, ℕ, ◌+◌, List, [], ◌∷◌, ◌++◌, length, arith, ap, sym, ◌∙◌, refl, subst, inl, inr, ◌⊎◌}
use Rattle.std.specs.Prelude.{Some, slice_get, Result, Ok, Err, IfOk, OnErr, Bool, true, false, nat_lt, if◌then◌else◌, ◌-◌, take}
use Rattle.std.proofs.lemmas.Bool.Decides.{nat_tests}
use Rattle.std.proofs.lemmas.List.{length-append, take_at}
use Rattle.cheri_model.specs.declared.instr.Instr.{Instr}
use Rattle.cheri_model.specs.steps.Hart.{HartState}
use Rattle.state_store.specs.Numbered.{IsThereOrLast}
use Rattle.state_store.specs.Stores.{Stored, hart_at, Keeps}
use Rattle.state_store.proofs.StoreLemmas.{hart_at_kept}
use Rattle.states.specs.declared.locals.LocalStep.{LocalStep}
use Rattle.states.specs.declared.steps.KnownStep.{KnownStep}
use Rattle.states.specs.Locals.{local_step, local_value, site_of, IsLocalStep, IsTabled}
use Rattle.states.proofs.KnownLemmas.{item_cases}

pub local_kept : (program : List Instr) (rests : HartState → HartState) (a b : Stored) → Keeps a b → (h v : ℕ) (after : LocalStep) →
    IsLocalStep program rests a h v after → IsLocalStep program rests b h v after
local_kept program rests a b keeps h v after was = record {
  before = was.before;
  granule = was.granule;
  hart_is = hart_at_kept a b keeps h was.before was.hart_is;
  value_is = keeps.values v was.granule was.value_is;
  hart_after = subst (λ (n : ℕ). hart_at b after.hart ≡ Some (rests (local_step program n was.before was.granule).hart))
      (sym keeps.granules)
      (hart_at_kept a b keeps after.hart (rests (local_step program a.granules was.before was.granule).hart) was.hart_after);
  value_after = subst (λ (n : ℕ). slice_get b.values after.value ≡ Some (local_value program n was.before was.granule))
      (sym keeps.granules)
      (keeps.values after.value (local_value program a.granules was.before was.granule) was.value_after);
}

site_kept : (program : List Instr) (rests : HartState → HartState) (a b : Stored) → Keeps a b → (id site : ℕ) →
    ((hart : HartState) × (hart_at a id ≡ Some hart) × (site ≡ site_of program a.granules hart) × (rests hart ≡ hart)) →
    (hart : HartState) × (hart_at b id ≡ Some hart) × (site ≡ site_of program b.granules hart) × (rests hart ≡ hart)
site_kept program rests a b keeps id site was = (
  was.0,
  hart_at_kept a b keeps id was.0 was.1,
  was.2 ∙ ap (λ (n : ℕ). site_of program n was.0) (sym keeps.granules),
  was.3,
)

-- no hart is new
pub tabled_same : (program : List Instr) (rests : HartState → HartState) (a b : Stored) (sites : List ℕ) (steps : List KnownStep) →
    Keeps a b → length b.harts ≡ length a.harts → IsTabled program rests a sites steps →
    IsTabled program rests b sites steps
tabled_same program rests a b sites steps keeps same was = record {
  even = was.even ∙ sym same;
  sites_are = λ id site at. site_kept program rests a b keeps id site (was.sites_are id site at);
  steps_are = λ step known. local_kept program rests a b keeps step.hart step.value step.after (was.steps_are step known);
}

-- a hart is new, and its site is the last
pub tabled_more : (program : List Instr) (rests : HartState → HartState) (a b : Stored) (sites : List ℕ) (steps : List KnownStep)
    (hart : HartState) → Keeps a b → length b.harts ≡ length a.harts + 1 → hart_at b (length a.harts) ≡ Some hart →
    rests hart ≡ hart →
    IsTabled program rests a sites steps →
    IsTabled program rests b (sites ++ site_of program a.granules hart ∷ []) steps
tabled_more program rests a b sites steps hart keeps one there stays was =
    let site = site_of program a.granules hart in
    let count : length (sites ++ site ∷ []) ≡ length sites + 1 = length-append sites (site ∷ []) in
    let even = was.even in
    record {
      even = omega arith;
      sites_are = λ id x at. elim (item_cases sites site id x at) [
        | inl before ↦ site_kept program rests a b keeps id x (was.sites_are id x before)
        | inr last ↦ (
          hart,
          ap (hart_at b) (last.0 ∙ even) ∙ there,
          sym last.1 ∙ ap (λ (n : ℕ). site_of program n hart) (sym keeps.granules),
          stays,
        )
      ];
      steps_are = λ step known. local_kept program rests a b keeps step.hart step.value step.after (was.steps_are step known);
    }

-- a step is known
pub tabled_step : (program : List Instr) (rests : HartState → HartState) (store : Stored) (sites : List ℕ) (steps steps' : List KnownStep)
    (step : KnownStep) → IsTabled program rests store sites steps →
    IsLocalStep program rests store step.hart step.value step.after →
    (steps' ≡ steps) ⊎ (steps' ≡ steps ++ step ∷ []) → IsTabled program rests store sites steps'
tabled_step program rests store sites steps steps' step was is kept = elim kept [
  | inl same ↦ subst (λ (ss : List KnownStep). IsTabled program rests store sites ss) (sym same) was
  | inr more ↦ subst (λ (ss : List KnownStep). IsTabled program rests store sites ss) (sym more) (record {
    even = was.even;
    sites_are = was.sites_are;
    steps_are = λ other known. elim (item_cases steps step known.0 other known.1) [
      | inl before ↦ was.steps_are other (known.0, before)
      | inr last ↦ subst (λ (x : KnownStep). IsLocalStep program rests store x.hart x.value x.after) last.1 is
    ];
  })
]

take_last : {A : Type 0} (xs : List A) (x : A) → take (length (xs ++ x ∷ []) - 1) (xs ++ x ∷ []) ≡ xs
take_last {A} xs x =
    let count : length (xs ++ x ∷ []) ≡ length xs + 1 = length-append xs (x ∷ []) in
    let less : length (xs ++ x ∷ []) - 1 ≡ length xs = omega arith in
    ap (λ (n : ℕ). take n (xs ++ x ∷ [])) less ∙ take_at xs (x ∷ []) (length xs) refl

-- a hart got a number: where it is new, its site is kept
pub tabled_numbered : {E : Type 0} (program : List Instr) (rests : HartState → HartState) (a b : Stored) (sites : List ℕ) (steps : List KnownStep)
    (hart : HartState) (result : Result ℕ E) (site : ℕ) (grown : Bool) → Keeps a b →
    site ≡ site_of program a.granules hart → rests hart ≡ hart → grown ≡ nat_lt (length a.harts) (length b.harts) →
    IfOk result (λ id. hart_at b id ≡ Some hart) → IfOk result (λ id. IsThereOrLast a.harts b.harts id) →
    OnErr result (b.harts ≡ a.harts) → IsTabled program rests a sites steps →
    IsTabled program rests b
    (if grown then sites ++ site ∷ [] else take (length (sites ++ site ∷ []) - 1) (sites ++ site ∷ [])) steps
tabled_numbered {E} program rests a b sites steps hart (Err fault) site grown keeps same rested is there added refused was =
    let count : length b.harts ≡ length a.harts = ap length refused in
    let no : grown ≡ false = grind (arith, nat_tests) in
    subst (λ (g : Bool). IsTabled program rests b
    (if g then sites ++ site ∷ [] else take (length (sites ++ site ∷ []) - 1) (sites ++ site ∷ [])) steps) (sym no)
    (subst (λ (ss : List ℕ). IsTabled program rests b ss steps) (sym (take_last sites site))
    (tabled_same program rests a b sites steps keeps count was))
tabled_numbered {E} program rests a b sites steps hart (Ok id) site grown keeps same rested is there added refused was = elim added [
  | inl stays ↦
      let count : length b.harts ≡ length a.harts = ap length stays in
      let no : grown ≡ false = grind (arith, nat_tests) in
      subst (λ (g : Bool). IsTabled program rests b
      (if g then sites ++ site ∷ [] else take (length (sites ++ site ∷ []) - 1) (sites ++ site ∷ [])) steps) (sym no)
      (subst (λ (ss : List ℕ). IsTabled program rests b ss steps) (sym (take_last sites site))
      (tabled_same program rests a b sites steps keeps count was))
  | inr new ↦
      let count = new.0 in
      let yes : grown ≡ true = grind (arith, nat_tests) in
      subst (λ (g : Bool). IsTabled program rests b
      (if g then sites ++ site ∷ [] else take (length (sites ++ site ∷ []) - 1) (sites ++ site ∷ [])) steps) (sym yes)
      (subst (λ (x : ℕ). IsTabled program rests b (sites ++ x ∷ []) steps) (sym same)
      (tabled_more program rests a b sites steps hart keeps new.0 (ap (hart_at b) (sym new.1) ∙ there) rested was))
]
