-- The reports of a race count the steps of the trace that it left.
use Rattle.std.proofs.Common.{◌≡◌, ℕ, List, [], ◌∷◌, map, refl, sym, ap, subst, ◌∙◌}
use Rattle.std.specs.Prelude.{All}
use Rattle.std.specs.List.{range_with_len}
use Rattle.std.proofs.lemmas.List.Elements.{All-nil, All-cons, All-head, All-tail, All-map}
use Rattle.cheri_model.specs.declared.operation.Event.{Event}
use Rattle.cheri_model.specs.runs.Replay.{step_count}
use Rattle.shared_machine.specs.Shares.{ShareParts, share_at, shares_of}
use Rattle.harts.specs.declared.workers.HartReport.{HartReport}
use Rattle.harts.specs.Reports.{AreReports, KeepsTurns}

-- the shares of a machine that has not stepped have counted nothing
pub nothing_counted : (harts : ℕ) → All (λ (s : ShareParts). s.amount ≡ 0) (shares_of [] harts)
unfolding shares_of step_count
nothing_counted harts = All-map (λ (s : ShareParts). s.amount ≡ 0) (share_at []) (range_with_len 0 harts) (λ k d inside. refl)

harts_of_list : (trace : List Event) (numbers : List ℕ) → map (λ (s : ShareParts). s.hart) (map (share_at trace) numbers) ≡ numbers
harts_of_list trace [] = refl
harts_of_list trace (n ∷ numbers) = ap (λ (ns : List ℕ). n ∷ ns) (harts_of_list trace numbers)

-- shares are in hart order
pub harts_in_order : (trace : List Event) (harts : ℕ) → map (λ (s : ShareParts). s.hart) (shares_of trace harts) ≡ range_with_len 0 harts
unfolding shares_of
harts_in_order trace harts = harts_of_list trace (range_with_len 0 harts)

-- a share that has counted just the steps of a report
abbrev pub share_of : HartReport → ShareParts
share_of report = record { hart = report.hart; amount = report.steps }

-- what workers hand back, of whatever type: a report and a share that has counted just its steps
module _ {W : Type 0} (report : W → HartReport) (share : W → ShareParts) where
  abbrev pub IsWork : W → Type 0
  IsWork w = share w ≡ record { hart = (report w).hart; amount = (report w).steps }

  hart_by_report : (ws : List W) → map (λ (r : HartReport). r.hart) (map report ws) ≡ map (λ w. (report w).hart) ws
  hart_by_report [] = refl
  hart_by_report (w ∷ ws) = ap (λ (ns : List ℕ). (report w).hart ∷ ns) (hart_by_report ws)

  pub harts_of_work : (reports : List HartReport) (ws : List W) → reports ≡ map report ws →
      map (λ (r : HartReport). r.hart) reports ≡ map (λ w. (report w).hart) ws
  harts_of_work reports ws made = ap (map (λ (r : HartReport). r.hart)) made ∙ hart_by_report ws

  shares_by_report : (ws : List W) → All IsWork ws → map share ws ≡ map share_of (map report ws)
  shares_by_report [] work = refl
  shares_by_report (w ∷ ws) work =
      ap (λ (s : ShareParts). s ∷ map share ws) (All-head IsWork w ws work)
      ∙ ap (λ (ss : List ShareParts). share_of (report w) ∷ ss) (shares_by_report ws (All-tail IsWork w ws work))

  pub shares_of_work : (reports : List HartReport) (back : List ShareParts) (ws : List W) → reports ≡ map report ws → back ≡ map share ws →
      All IsWork ws → back ≡ map share_of reports
  shares_of_work reports back ws made shares work = shares ∙ (shares_by_report ws work ∙ sym (ap (map share_of) made))

  pub turns_of_work : (turns : ℕ) (reports : List HartReport) (ws : List W) → reports ≡ map report ws →
      All (λ w. KeepsTurns turns (report w)) ws → All (KeepsTurns turns) reports
  turns_of_work turns reports ws made work = rw made (All-map (KeepsTurns turns) report ws work)

  exact : (trace : List Event) (ws : List W) → All IsWork ws →
      All (λ (s : ShareParts). s.amount ≡ step_count trace s.hart) (map share ws) →
      All (λ (r : HartReport). r.steps ≡ step_count trace r.hart) (map report ws)
  exact trace [] work counted = All-nil (λ (r : HartReport). r.steps ≡ step_count trace r.hart)
  exact trace (w ∷ ws) work counted =
      let here = All-head (λ (s : ShareParts). s.amount ≡ step_count trace s.hart) (share w) (map share ws) counted in
      let rest = All-tail (λ (s : ShareParts). s.amount ≡ step_count trace s.hart) (share w) (map share ws) counted in
      All-cons (λ (r : HartReport). r.steps ≡ step_count trace r.hart) (report w) (map report ws)
      (subst (λ (s : ShareParts). s.amount ≡ step_count trace s.hart) (All-head IsWork w ws work) here)
      (exact trace ws (All-tail IsWork w ws work) rest)

  pub reports_made : (turns : ℕ) (trace : List Event) (harts : ℕ) (opened back : List ShareParts) (reports : List HartReport) (ws : List W) →
      opened ≡ shares_of [] harts → map (λ w. (report w).hart) ws ≡ map (λ (s : ShareParts). s.hart) opened → All IsWork ws →
      reports ≡ map report ws → back ≡ map share ws → All (λ (s : ShareParts). s.amount ≡ step_count trace s.hart) back →
      All (KeepsTurns turns) reports → AreReports turns trace harts reports
  reports_made turns trace harts opened back reports ws start order work made shares counted turned = record {
    in_order = ap (map (λ (r : HartReport). r.hart)) made ∙ hart_by_report ws ∙ order
        ∙ ap (map (λ (s : ShareParts). s.hart)) start ∙ harts_in_order [] harts;
    exact = rw made (exact trace ws work (rw shares at counted));
    within_turns = turned;
  }

same_reports : (reports : List HartReport) → reports ≡ map (λ (r : HartReport). r) reports
same_reports [] = refl
same_reports (r ∷ reports) = ap (λ (rs : List HartReport). r ∷ rs) (same_reports reports)

-- reports whose shares have counted just their steps
pub reports_raced : (turns : ℕ) (trace : List Event) (harts : ℕ) (opened back : List ShareParts) (reports : List HartReport) →
    opened ≡ shares_of [] harts → map (λ (r : HartReport). r.hart) reports ≡ map (λ (s : ShareParts). s.hart) opened →
    back ≡ map share_of reports → All (λ (s : ShareParts). s.amount ≡ step_count trace s.hart) back →
    All (KeepsTurns turns) reports → AreReports turns trace harts reports
reports_raced turns trace harts opened back reports start order shares counted turned =
    reports_made {W = HartReport} (λ (r : HartReport). r) share_of turns trace harts opened back reports reports start order
    (λ k d inside. refl) (same_reports reports) shares counted turned
