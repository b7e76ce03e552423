-- States whose harts stand in another order.
use Rattle.std.proofs.Common.{◌≡◌, ◌≢◌, ℕ, ◌<◌, ◌≤◌, length, map, set, get_or, List, refl, sym, ap, ◌∙◌, subst, inl}
use Rattle.std.proofs.Common.{inr, arith, length-set}
use Rattle.std.specs.Prelude.{Bool}
use Rattle.std.proofs.lemmas.Bool.{cases_eq, cases_lt}
use Rattle.std.proofs.lemmas.List.{length-map, get_or-map, get_or_past, get_or-set_same, get_or-set_other}
use Rattle.cap_model.specs.values.CapValue.{CapValue}
use Rattle.cheri_model.specs.runs.Machine.{MachineState, hart_at, no_hart}
use Rattle.cheri_model.specs.steps.Hart.{HartState}
use Rattle.hart_symmetry.specs.Renaming.{IsRenamed, IsRenaming}

module _ (stays : ℕ → Bool) where
  pub renamed_itself : (s : MachineState) → IsRenamed stays (λ i. i) s s
  renamed_itself s = record {
    to = λ i. i;
    there = λ i. refl;
    back = λ i. refl;
    staying = λ i stay. refl;
    beyond = λ i past. refl;
    count = refl;
    harts = λ i. refl;
    memory = refl;
  }

  pub renamed_other : (p : ℕ → ℕ) (s t : MachineState) (r : IsRenamed stays p s t) → IsRenamed stays r.to t s
  renamed_other p s t r = record {
    to = p;
    there = r.back;
    back = r.there;
    staying = λ i stay. ap r.to (sym (r.staying i stay)) ∙ r.there i;
    beyond = λ i past. ap r.to (sym (r.beyond i (subst (λ (k : ℕ). k ≤ i) r.count past))) ∙ r.there i;
    count = sym r.count;
    harts = λ i. sym (r.harts (r.to i) ∙ ap (hart_at s) (r.back i));
    memory = sym r.memory;
  }

  pub renamed_third : (p q : ℕ → ℕ) (s t u : MachineState) → IsRenamed stays p s t → IsRenamed stays q t u →
      IsRenamed stays (λ i. p (q i)) s u
  renamed_third p q s t u one two = record {
    to = λ i. two.to (one.to i);
    there = λ i. ap two.to (one.there (q i)) ∙ two.there i;
    back = λ i. ap p (two.back (one.to i)) ∙ one.back i;
    staying = λ i stay. ap p (two.staying i stay) ∙ one.staying i stay;
    beyond = λ i past. ap p (two.beyond i (subst (λ (k : ℕ). k ≤ i) (sym one.count) past)) ∙ one.beyond i past;
    count = two.count ∙ one.count;
    harts = λ i. two.harts i ∙ one.harts (q i);
    memory = two.memory ∙ one.memory;
  }

  -- the same order, said otherwise
  pub renamed_alike : (p q : ℕ → ℕ) (s t : MachineState) → ((i : ℕ) → q i ≡ p i) → IsRenamed stays p s t →
      IsRenamed stays q s t
  renamed_alike p q s t same r = record {
    to = r.to;
    there = λ i. ap r.to (same i) ∙ r.there i;
    back = λ i. same (r.to i) ∙ r.back i;
    staying = λ i stay. same i ∙ r.staying i stay;
    beyond = λ i past. same i ∙ r.beyond i past;
    count = r.count;
    harts = λ i. r.harts i ∙ ap (hart_at s) (sym (same i));
    memory = r.memory;
  }

  pub renaming_itself : (s : MachineState) → IsRenaming stays s s
  renaming_itself s = (λ i. i, renamed_itself s)

  pub renaming_other : (s t : MachineState) → IsRenaming stays s t → IsRenaming stays t s
  renaming_other s t r = (r.1.to, renamed_other r.0 s t r.1)

  pub renaming_third : (s t u : MachineState) → IsRenaming stays s t → IsRenaming stays t u → IsRenaming stays s u
  renaming_third s t u one two = (λ i. one.0 (two.0 i), renamed_third one.0 two.0 s t u one.1 two.1)

  abbrev made : List HartState → List CapValue → MachineState
  made harts memory = record { harts = harts; memory = memory }

  -- a function of harts that leaves the one past the end as it is
  mapped_at : (f : HartState → HartState) → f no_hart ≡ no_hart → (hs : List HartState) (i : ℕ) →
      get_or (map f hs) i no_hart ≡ f (get_or hs i no_hart)
  mapped_at f same hs i = elim (cases_lt i (length hs)) [
    | inl inside ↦ get_or-map f hs i no_hart no_hart inside
    | inr outside ↦
        get_or_past (map f hs) i no_hart (rw (length-map hs f) outside)
        ∙ sym (ap f (get_or_past hs i no_hart outside) ∙ same)
  ]

  pub renamed_mapped : (f : HartState → HartState) → f no_hart ≡ no_hart → (p : ℕ → ℕ) (s t : MachineState)
      (m n : List CapValue) → n ≡ m → IsRenamed stays p s t →
      IsRenamed stays p (made (map f s.harts) m) (made (map f t.harts) n)
  unfolding hart_at
  renamed_mapped f same p s t m n memory r = record {
    to = r.to;
    there = r.there;
    back = r.back;
    staying = r.staying;
    beyond = λ i past. r.beyond i (subst (λ (k : ℕ). k ≤ i) (length-map s.harts f) past);
    count = length-map t.harts f ∙ (r.count ∙ sym (length-map s.harts f));
    harts = λ i. mapped_at f same t.harts i ∙ (ap f (r.harts i) ∙ sym (mapped_at f same s.harts (p i)));
    memory = memory;
  }

  pub renaming_mapped : (f : HartState → HartState) → f no_hart ≡ no_hart → (s t : MachineState) → IsRenaming stays s t →
      IsRenaming stays (made (map f s.harts) s.memory) (made (map f t.harts) t.memory)
  renaming_mapped f same s t r = (r.0, renamed_mapped f same r.0 s t s.memory t.memory r.1.memory r.1)

  module _ (p : ℕ → ℕ) (s t : MachineState) (r : IsRenamed stays p s t) where
    -- a hart that is there is there under its other number
    pub inside_too : (l : ℕ) → l < length t.harts → p l < length s.harts
    inside_too l low = elim (cases_lt (p l) (length s.harts)) [
      | inl inside ↦ inside
      | inr outside ↦
          let still : p l ≡ l = sym (r.there (p l)) ∙ (ap r.to (r.beyond (p l) outside) ∙ r.there l) in
          let count = r.count in
          absurd (omega arith)
    ]

    -- where hart l of the second state is another, and so is the one of the first that it is
    set_at : (l : ℕ) (h : HartState) → l < length t.harts → (i : ℕ) →
        get_or (set t.harts l h) i no_hart ≡ get_or (set s.harts (p l) h) (p i) no_hart
    unfolding hart_at
    set_at l h low i = elim (cases_eq i l) [
      | inl same ↦
          ap (λ (k : ℕ). get_or (set t.harts l h) k no_hart) same
          ∙ (get_or-set_same t.harts l h no_hart low
          ∙ sym (ap (λ (k : ℕ). get_or (set s.harts (p l) h) (p k) no_hart) same
          ∙ get_or-set_same s.harts (p l) h no_hart (inside_too l low)))
      | inr other ↦
          let others : p i ≢ p l = λ same. other (sym (r.there i) ∙ (ap r.to same ∙ r.there l)) in
          get_or-set_other t.harts l i h no_hart other
          ∙ (r.harts i ∙ sym (get_or-set_other s.harts (p l) (p i) h no_hart others))
    ]

    pub renamed_set : (l : ℕ) (h : HartState) (m : List CapValue) → l < length t.harts →
        IsRenamed stays p (made (set s.harts (p l) h) m) (made (set t.harts l h) m)
    unfolding hart_at
    renamed_set l h m low = record {
      to = r.to;
      there = r.there;
      back = r.back;
      staying = r.staying;
      beyond = λ i past. r.beyond i (subst (λ (k : ℕ). k ≤ i) (length-set s.harts (p l) h) past);
      count = length-set t.harts l h ∙ (r.count ∙ sym (length-set s.harts (p l) h));
      harts = λ i. set_at l h low i;
      memory = refl;
    }
