-- What a machine takes of an order, and what sweeps are allowed.
use Rattle.std.proofs.Common.{◌≡◌, ℕ, List, [], ◌∷◌, ◌++◌, None, sym, subst}
use Rattle.cheri_model.specs.declared.operation.Op.{Op}
use Rattle.cheri_model.specs.runs.Image.{ImageParts}
use Rattle.cheri_model.specs.runs.Replay.{operations_of}
use Rattle.cores.specs.Cores.{CoreParts, IsCore}
use Rattle.cores.specs.Runs.{Run, run_of, TakesAll}
use Rattle.cores.proofs.RunLemmas.{take_all}
use Rattle.schedules.specs.Schedules.{AreAllowed, IsAllowed}
use Rattle.schedules.specs.declared.ranges.SweepRange.{SweepRange}
use Rattle.found_texts.specs.Find.{IsRun}

-- a run that isn't stopped took the whole order
pub run_whole : (image : ImageParts) (order : List Op) (limit : ℕ) (core : CoreParts) → (core, None) ≡ run_of image order limit →
    IsCore core → IsRun image order core.state
run_whole image order limit core is good =
    let taken : TakesAll image order limit (core, None) = subst (λ (r : Run). TakesAll image order limit r) (sym is) (take_all image order limit) in
    let all : operations_of core.trace ≡ order = taken.taken in
    let same : core.image ≡ image = taken.image_is in
    subst (λ (i : ImageParts). IsRun i order core.state) same
    (subst (λ (ops : List Op). IsRun core.image ops core.state) all (good.replay.legal, sym good.replay.state))

-- operations that are allowed, and one more
pub allowed_more : (sweeps : List SweepRange) (before : List Op) (op : Op) → AreAllowed sweeps before → IsAllowed sweeps op →
    AreAllowed sweeps (before ++ op ∷ [])
allowed_more sweeps [] op are is = (is, tt)
allowed_more sweeps (first ∷ before) op are is = (are.0, allowed_more sweeps before op are.1 is)
