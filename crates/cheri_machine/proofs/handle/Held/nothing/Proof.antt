-- `nothing` makes a null pointer, which owns nothing.
use Rattle.std.proofs.Common.{[], ◌∷◌, refl, lit<, w64}
use Rattle.std.proofs.raw_atomic.Walks.{proved}
use base.Logic.{id⊢}
use mir.Val.{Val, vint}
use contract.Running.{tables}
use types.Kit.{‵, raw, ◌$◌, ◌∵◌, !, qed, done, drop, use1, join, suffices}
use types.Run.{enter, lit, no_more, and_then, returns}
use types.ByLocal.{alloc_all, pass_all, free_all, look_at, sets}
use types.Part.{agg}
use denote.RawPtr.{null_ptr}
use denote.Steps.{nothing}
use denote.Triple.Entry.{on_entry}
use denote.Triple.Walked.{walk_of, says, ends_at}
use Rattle.std.specs.Prelude.{None}
use Rattle.cheri_machine.proofs.HeldSteps.{AsHeld, only_field, held_in}
use Rattle.cheri_machine.specs.Handle.Heaps.{held_owns}
use Rattle.cheri_machine.specs.contracts.handle.Held.nothing as f
use Rattle.cheri_machine.specs.contracts.handle.Held.nothing.Key.{name as #self}
use Rattle.cheri_machine.proofs.handle.Held.nothing.Statement.{statement}
use Rattle.cheri_machine.proofs.handle.Held.nothing.Code as code

pub nothing_spec : {M : Type 1} → statement M
nothing_spec 𝓤 𝓛 𝓜 𝓡 wired =
    let c = f.clauses 𝓛 𝓜.mem 𝓡.returns in let W = walk_of 𝓛 f.ended tt c in let 𝓣 = tables 𝓤 𝓛.H 𝓜 𝓡 𝓡.env in
    proved 𝓛 f.ended tt c 𝓜 𝓡 tt #self code.function (code.unfolded 𝓤 𝓛.H 𝓜 𝓡 wired) (λ κs. tt) (λ κs. tt) (λ κs qs bounds a g are.
    let y : W.Ghost = ((κs, qs, bounds, a, tt), g) in let v : Val = only_field (vint w64 0) in
    let made : AsHeld.Denot = record { at = null_ptr; machine = None } in
    qed 𝓛 (raw (on_entry 𝓛 f.signature κs qs a tt) ∷ raw ((c κs a).requires g) ∷ []) ∵ drop ! $ drop ! $
    enter ! _ _ _ _ _ $ alloc_all ! (λ l. pass_all ! refl tt $
    sets ! (agg ! (and_then ! (lit ! tt) (no_more !))) refl (tt, (record { fits = lit< tt }, tt)) $
    returns ! (look_at ! 0 refl) $ free_all ! refl $
    nothing ! $ use1 𝓛 (‵ (held_owns null_ptr None)) (id⊢ 𝓤 _) $ held_in ! null_ptr None $
    suffices ! _ (ends_at 𝓛 f.ended tt c y v made tt tt) $ says ! refl $
    nothing ! $ join ! $ nothing ! $ join ! $ done !))
