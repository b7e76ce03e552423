use Rattle.std.proofs.Common.{◌≡◌, ◌<◌, ◌++◌, [], ◌∷◌, All, length, true, false, get_or, refl, sym, ap, ◌∙◌, subst, arith, rules}
use Rattle.std.proofs.lemmas.List.{length_push}
use Rattle.std.proofs.lemmas.List.Elements.{All-push}
use Rattle.std.specs.Prelude.{ℕ, List}
use Rattle.cheri_model.specs.declared.image.TheConstants.{MAX_HARTS}
use Rattle.cheri_model.specs.steps.Hart.{HartState}
use Rattle.cheri_model.specs.runs.Machine.{is_running}
use Rattle.sample_steps.proofs.ListLemmas.{one_runs, one_stopped, none_left}
use Rattle.sample_steps.proofs.listing.list_running.Goals as goal
use Rattle.sample_steps.proofs.listing.list_running.Goals.{then-runs, else-runs}

within_push : (found more : List ℕ) (i : ℕ) → All (λ hart. hart < MAX_HARTS) found → i < MAX_HARTS
    → more ≡ found ++ (i ∷ []) → All (λ hart. hart < MAX_HARTS) more
within_push found more i all below is =
    let P : List ℕ → Type 0 = λ s. All (λ hart. hart < MAX_HARTS) s in
    subst P (sym is) (All-push (λ hart. hart < MAX_HARTS) found i all below)

pub loop-number-preserved : goal.loop-number-preserved
loop-number-preserved c =
    let harts = c.args.harts.now in
    let i = c.loop-number.number in
    let d = c.index-harts-number.result in
    let at : is_running (get_or harts i d).status ≡ c.runs.result =
    ap (λ (h : HartState). is_running h.status) (sym c.index-harts-number.is) ∙ sym c.runs.ensures in
    elim c.if-runs.branch [
      | then-runs w ↦
          let runs : c.runs.result ≡ true = search rules in
          let is : c.if-runs.running.items ≡ c.loop-number.running.items ++ (i ∷ []) = rw w.running-is w.push.ensures.items in
          record {
            listed = one_runs harts i d c.loop-number.running.items c.if-runs.running.items _ (omega arith) (at ∙ runs) is c.loop-number.invariant.listed;
            few = omega (arith, ap length is, length_push c.loop-number.running.items i);
            within = within_push c.loop-number.running.items c.if-runs.running.items i c.loop-number.invariant.within (omega arith) is;
          }
      | else-runs w ↦
          let stopped : c.runs.result ≡ false = search rules in
          let is : c.if-runs.running.items ≡ c.loop-number.running.items = rw w.running-is refl in
          record {
            listed = one_stopped harts i d c.loop-number.running.items c.if-runs.running.items _ (omega arith) (at ∙ stopped) is c.loop-number.invariant.listed;
            few = omega (arith, ap length is);
            within = rw is c.loop-number.invariant.within;
          }
    ]

pub returns-clause-listed : goal.returns-clause-listed
returns-clause-listed c =
    none_left c.args.harts.now c.loop-number.number c.loop-number.running.items _ (omega arith) c.loop-number.invariant.listed
