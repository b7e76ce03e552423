-- The states in which harts are at their rest, by quiet steps that respect owners, stand for all.
use Rattle.std.proofs.Common.{◌≡◌, ℕ, zero, suc, ◌<◌, ◌≤◌, List, [], ◌∷◌, length, get_or, arith, sym, ◌∙◌, refl, inl, inr, ◌⊎◌, subst}
use Rattle.std.specs.Prelude.{Option, Some, None, Bool, true, false, ◌&&◌, ◌%◌, ◌==◌, nat_le, slice_get}
use Rattle.std.proofs.lemmas.Bool.{cases_lt, cases_Bool, and_parts, and_from, both_ways}
use Rattle.std.proofs.lemmas.Bool.Decides.{nat_tests}
use Rattle.std.proofs.lemmas.Option.{none-some, same_Some}
use Rattle.cheri_model.specs.declared.operation.Op.{Op}
use Rattle.cheri_model.specs.declared.operation.Op.TheVariants as operation
use Rattle.cheri_model.specs.runs.Image.{ImageParts}
use Rattle.cheri_model.specs.runs.ImageRules.{is_image, are_sizes, is_between}
use Rattle.cheri_model.specs.runs.Machine.{MachineState, opening_state, hart_at, no_hart, may_take, state_after_one, state_after_step, swept_state}
use Rattle.cheri_model.specs.steps.Checks.{fetch_table, first_failing}
use Rattle.cheri_model.specs.steps.Hart.{HartState}
use Rattle.explore_turns.specs.QuietSteps.{asks_memory}
use Rattle.graph_merging.specs.Merging.{IsMerging}
use Rattle.schedules.proofs.WalkLemmas.{next_some, some_next, label_of_step, step_label, allowed_of}
use Rattle.schedules.specs.declared.ranges.SweepRange.{SweepRange}
use Rattle.schedules.specs.Schedules.{next, operation_of_label}
use Rattle.states.proofs.OpeningLemmas.{opening_granules, opening_harts}
use Rattle.own_granules.specs.Rests.{together, passing_next}
use Rattle.own_granules.specs.Granules.{are_kept, is_quiet, leaves_kept, respects, respects_in}
use Rattle.own_granules.specs.Turns.{respecting_next, is_state_of, respecting_rest}
use Rattle.own_granules.proofs.ApartLemmas.{rests_before, kept_rested}
use Rattle.own_granules.proofs.LoneLemmas.{ArePlain}
use Rattle.own_granules.proofs.MachineLemmas.{fits_is, is_fit, apart, passes_kept, runs_kept}
use Rattle.own_granules.proofs.RestMerging.{IsNext, IsSweeping, merging, to_go}
use Rattle.own_granules.proofs.SweepLemmas.{are_whole, is_swept, whole}
use Rattle.own_granules.proofs.SweptLemmas.{go_few}

pub opening_fits : (image : ImageParts) (sweeps : List SweepRange) (shared : ℕ → Bool) → is_image image ≡ true →
    are_kept sweeps shared 0 (opening_state image).memory ≡ true →
    is_state_of image sweeps shared (opening_state image) ≡ true
unfolding is_image
opening_fits image sweeps shared is kept =
    let sizes = (and_parts (are_sizes (length image.program) image.ram (length image.harts)) _ is).0 in
    let short : Bool = is_between 1 16384 (length image.program) in
    let first = and_parts (short && is_between 16 1048576 image.ram && (image.ram % 16 == 0)) _ sizes in
    let second = and_parts (short && is_between 16 1048576 image.ram) _ first.0 in
    let third = and_parts short (is_between 16 1048576 image.ram) second.0 in
    let large = (and_parts (nat_le 16 image.ram) (nat_le image.ram 1048576) third.1).0 in
    let low : 16 ≤ image.ram = grind (arith, nat_tests, large) in
    let size = opening_granules image is in
    is_fit image sweeps shared (opening_state image) (record {
      harts = opening_harts image;
      memory = omega (arith, size);
      some = omega (arith, low);
      kept = kept;
    })

-- past the harts there is one that asks for nothing
past_hart : (hs : List HartState) (l : ℕ) → length hs ≤ l → get_or hs l no_hart ≡ no_hart
past_hart [] l past = refl
past_hart (h ∷ hs) zero past = absurd (omega arith)
past_hart (h ∷ hs) (suc l) past = let rest : length hs ≤ l = omega arith in past_hart hs l rest

idle : (image : ImageParts) → asks_memory image.program no_hart ≡ false
unfolding asks_memory first_failing fetch_table
idle image = refl

module _ (image : ImageParts) (sweeps : List SweepRange) (shared : ℕ → Bool) (owner : ℕ → Option ℕ)
    (hides : HartState → HartState → Bool) (most : ℕ) where
  abbrev n : ℕ
  n = length image.harts

  abbrev step : MachineState → ℕ → MachineState
  step s l = state_after_step image s l

  abbrev runs : MachineState → ℕ → Bool
  runs s l = may_take s (operation.Step l)

  abbrev passes : MachineState → ℕ → Bool
  passes s l = respects_in image sweeps shared owner s l

  abbrev plain : MachineState → ℕ → Bool
  plain s l = is_quiet image sweeps shared hides s l

  abbrev quiet : MachineState → ℕ → Bool
  quiet s l = together plain passes s l

  abbrev ok : MachineState → ℕ → Bool
  ok s l = together runs passes s l

  abbrev fits : MachineState → Bool
  fits s = is_state_of image sweeps shared s

  abbrev wide : MachineState → ℕ → Option MachineState
  wide s l = next image sweeps s l

  abbrev narrow : MachineState → ℕ → Option MachineState
  narrow s l = respecting_next image sweeps shared owner s l

  abbrev wholes : MachineState → ℕ → Bool
  wholes s l = whole image sweeps shared owner hides s l

  -- what is past the harts passes
  past_passes : (s : MachineState) (l : ℕ) → fits s ≡ true → n ≤ l → passes s l ≡ true
  unfolding hart_at respects leaves_kept
  past_passes s l fit high =
      let size = (fits_is image sweeps shared s fit).harts in
      let none : get_or s.harts l no_hart ≡ no_hart = past_hart s.harts l (omega (arith, high, size)) in
      rw (none, idle image) refl

  step_next : (s : MachineState) (l : ℕ) → l < n → runs s l ≡ true → wide s l ≡ Some (step s l)
  unfolding state_after_one
  step_next s l low may = some_next image sweeps s l (operation.Step l) (label_of_step image sweeps l low) may

  -- what is so of a sweep's edge
  record IsSweepOf (s t : MachineState) (l : ℕ) : Type 0 where
    pub place : ℕ
    pub range : SweepRange
    pub there : slice_get sweeps place ≡ Some range
    pub leads : swept_state range.lo range.hi s ≡ t
    pub goes : (x : MachineState) → wide x l ≡ Some (swept_state range.lo range.hi x)

  sweep_of_label : (s t : MachineState) (l : ℕ) (op : Op) → n ≤ l → operation_of_label image sweeps l ≡ Some op →
      may_take s op ≡ true → state_after_one image s op ≡ t → IsSweepOf s t l
  unfolding state_after_one may_take
  sweep_of_label s t l (operation.Step hart) high is may leads =
      let below = (step_label image sweeps l hart is).1 in
      absurd (omega (arith, below, high))
  sweep_of_label s t l (operation.Sweep lo hi) high is may leads =
      let allowed = allowed_of image sweeps l (operation.Sweep lo hi) is in
      record {
        place = allowed.0;
        range = record { lo = lo; hi = hi };
        there = allowed.1;
        leads = leads;
        goes = λ x. some_next image sweeps x l (operation.Sweep lo hi) is may;
      }

  -- an edge of the machine is the step of a hart that may be taken, or a sweep
  edge_of : (s t : MachineState) (l : ℕ) → wide s l ≡ Some t →
      ((l < n) × (runs s l ≡ true) × (step s l ≡ t)) ⊎ ((n ≤ l) × IsSweepOf s t l)
  unfolding state_after_one
  edge_of s t l goes =
      let edge = next_some image sweeps s t l goes in
      elim (cases_lt l n) [
        | inl low ↦
            let same : operation.Step l ≡ edge.0 =
            same_Some (operation.Step l) edge.0 (sym (label_of_step image sweeps l low) ∙ edge.1) in
            inl (
              low,
              subst (λ (op : Op). may_take s op ≡ true) (sym same) edge.2,
              subst (λ (op : Op). state_after_one image s op ≡ t) (sym same) edge.3,
            )
        | inr high ↦ inr (high, sweep_of_label s t l edge.0 high edge.1 edge.2 edge.3)
      ]

  narrow_edge : (s t : MachineState) (l : ℕ) → narrow s l ≡ Some t → (passes s l ≡ true) × (wide s l ≡ Some t)
  unfolding passing_next
  narrow_edge s t l goes = elim (cases_Bool (passes s l)) [
    | inl holds ↦ (holds, rw holds at goes)
    | inr fails ↦ let none : narrow s l ≡ None = rw fails in absurd (none-some t (sym none ∙ goes))
  ]

  edge_narrow : (s : MachineState) (l : ℕ) → passes s l ≡ true → narrow s l ≡ wide s l
  unfolding passing_next
  edge_narrow s l holds = rw holds

  -- a sweep's edge, in both graphs
  sweeping : (s t : MachineState) (l : ℕ) → n ≤ l → IsSweepOf s t l → IsSweeping wide step quiet wholes fits n s t l
  sweeping s t l high is = record {
    sweep = λ x. swept_state is.range.lo is.range.hi x;
    swept = is_swept image sweeps shared owner hides is.place is.range is.there;
    high = high;
    leads = is.leads;
    goes = λ x fit. is.goes x;
  }

  narrow_sweeping : (s t : MachineState) (l : ℕ) → n ≤ l → IsSweepOf s t l →
      IsSweeping narrow step quiet wholes fits n s t l
  narrow_sweeping s t l high is = record {
    sweep = λ x. swept_state is.range.lo is.range.hi x;
    swept = is_swept image sweeps shared owner hides is.place is.range is.there;
    high = high;
    leads = is.leads;
    goes = λ x fit. edge_narrow x l (past_passes x l fit high) ∙ is.goes x;
  }

  wide_nexts : IsNext wide step quiet runs wholes fits n
  wide_nexts = record {
    edge = λ s t l fit goes. elim (edge_of s t l goes) [
      | inl edge ↦ inl edge
      | inr edge ↦ inr (sweeping s t l edge.0 edge.1)
    ];
    has = λ s l fit low may. step_next s l low may;
  }

  pub narrow_nexts : IsNext narrow step quiet ok wholes fits n
  narrow_nexts = record {
    edge = λ s t l fit goes.
        let narrowed = narrow_edge s t l goes in
        elim (edge_of s t l narrowed.1) [
          | inl edge ↦ inl (edge.0, and_from (runs s l) (passes s l) edge.1 narrowed.0, edge.2)
          | inr edge ↦ inr (narrow_sweeping s t l edge.0 edge.1)
        ];
    has = λ s l fit low may.
        let parts = and_parts (runs s l) (passes s l) may in
        edge_narrow s l parts.1 ∙ step_next s l low parts.0;
  }

  -- how many quiet steps a hart has to go
  abbrev pub own_steps : MachineState → ℕ → ℕ
  own_steps s l = to_go step quiet ok wholes fits (apart image sweeps shared owner hides)
      (are_whole image sweeps shared owner hides) narrow n narrow_nexts most s l

  pub own_merging : IsMerging (respecting_next image sweeps shared owner) n fits
      (respecting_rest image sweeps shared owner hides most) own_steps
  own_merging = merging step quiet ok wholes fits (apart image sweeps shared owner hides)
      (are_whole image sweeps shared owner hides) narrow n narrow_nexts most

  pub own_most : (s : MachineState) (m : ℕ) → own_steps s m ≤ suc most
  own_most s m = go_few step quiet ok wholes fits (apart image sweeps shared owner hides)
      (are_whole image sweeps shared owner hides) n most s m

  -- a step that doesn't respect owners doesn't where all are at their rest, either
  pub blocked : (s t : MachineState) (l : ℕ) → fits s ≡ true → wide s l ≡ Some t → passes s l ≡ false →
      (u : MachineState) × (wide (respecting_rest image sweeps shared owner hides most s) l ≡ Some u)
      × (passes (respecting_rest image sweeps shared owner hides most s) l ≡ false)
  blocked s t l fit goes fails = elim (edge_of s t l goes) [
    | inr edge ↦ absurd (both_ways (passes s l) fails (past_passes s l fit edge.0))
    | inl edge ↦
        let all = apart image sweeps shared owner hides in
        let there = respecting_rest image sweeps shared owner hides most s in
        let loud : quiet s l ≡ false = elim (cases_Bool (quiet s l)) [
          | inl holds ↦ absurd (both_ways (passes s l) fails (and_parts (plain s l) (passes s l) holds).1)
          | inr not ↦ not
        ] in
        let stands = rests_before step quiet ok fits all most l s fit (inl loud) in
        let may : runs there l ≡ runs s l =
        kept_rested step quiet ok fits all most (λ (x : MachineState). runs x l) n l
        (λ m other x fit_x moves. runs_kept image sweeps shared owner hides x l m other) s fit stands in
        let pass : passes there l ≡ passes s l =
        kept_rested step quiet ok fits all most (λ (x : MachineState). passes x l) n l
        (λ m other x fit_x moves.
        passes_kept image sweeps shared owner hides x l m fit_x other (all.quiet_may x m moves)) s fit stands in
        (step there l, step_next there l edge.0 (may ∙ edge.1), pass ∙ fails)
  ]

  plain_runs : (s : MachineState) (l : ℕ) → plain s l ≡ true → runs s l ≡ true
  unfolding is_quiet
  plain_runs s l holds = (and_parts (runs s l) _ holds).0

  pub quiet_edge : (s : MachineState) (l : ℕ) → l < n → plain s l ≡ true → wide s l ≡ Some (step s l)
  quiet_edge s l low holds = step_next s l low (plain_runs s l holds)

  pub all_plain : ArePlain wide step plain passes runs wholes fits n most
  all_plain = record {
    apart = apart image sweeps shared owner hides;
    nexts = wide_nexts;
    plain_may = plain_runs;
    same_may = λ s l m other. runs_kept image sweeps shared owner hides s l m other;
    same_passes = λ s l m fit other may. passes_kept image sweeps shared owner hides s l m fit other may;
  }
