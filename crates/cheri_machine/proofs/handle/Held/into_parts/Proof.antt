-- `into_parts` has the pointer and what it owns.
use Rattle.std.proofs.Common.{◌≡◌, List, [], ◌∷◌, ◌++◌, refl, sym, subst, true}
use mir.Raw.{raw as bare}
use mir.Val.{Val, vptr}
use base.Logic.{SProp, ent, id⊢, fst∗, never}
use base.Fml.{ftrue, fsep}
use prog.Wp.{WpFn}
use contract.Monad.{fact}
use contract.Running.{tables}
use types.Logic.{sem}
use types.Kit.{‵, raw, ◌⊛◌, ◌$◌, ◌∵◌, !, qed, done, drop, keep, move, use1, split, join, fsplit, fjoin, rewrite, suffices}
use types.Part.{whole, sub, agg}
use types.Run.{stop, fld, no_more, and_then, of_opd, returns, enter}
use types.ByLocal.{alloc_all, pass_all, free_all, look_at, get, get_in, sets}
use denote.Exit.{yes}
use denote.Memory.{lone}
use denote.RawPtr.{Ptr, block_ptr, null_ptr, ptr_val, in_a_block}
use denote.Signature.{plain}
use denote.Steps.{heard, nothing}
use denote.Triple.Walked.{says, Stays, stay_dropped, walk_of, ends_at, Goes-dropped}
use Rattle.std.specs.Prelude.{Option}
use Rattle.std.specs.Box.Ownership.{box_owns}
use Rattle.std.proofs.alloc.Calls.{token, handle_tells}
use Rattle.std.proofs.raw_atomic.Walks.{proved_at}
use Rattle.std.proofs.BoxSteps.Form.{D, R, word, box_typed}
use Rattle.std.proofs.BoxSteps.Steps.{box_in}
use Rattle.std.specs.contracts.alloc.Global as Heap
use Rattle.cheri_machine.specs.Handle.{is_held}
use Rattle.cheri_machine.specs.Handle.Heaps.{held_owns}
use Rattle.cheri_machine.specs.contracts.machine.Machine as Machine
use Rattle.cheri_machine.proofs.HeldSteps.{E, AsParts, AsHeld, only_field, held_out, there}
use Rattle.cheri_machine.specs.contracts.handle.Held.into_parts as f
use Rattle.cheri_machine.specs.contracts.handle.Held.into_parts.Key.{name as #self}
use Rattle.cheri_machine.proofs.handle.Held.into_parts.Statement.{statement}
use Rattle.cheri_machine.proofs.handle.Held.into_parts.Code as code

abbrev stayed : Stays f.ended.signature.params f.ended.kept
stayed = (stay_dropped (plain (λ _. AsHeld)) yes, (stay_dropped (plain (λ _. Heap.the_row)) yes, tt))

pub into_parts_spec : {M : Type 1} → statement M
into_parts_spec 𝓤 𝓛 𝓜 𝓡 wired =
    let c = f.clauses 𝓛 𝓜.mem 𝓡.returns in let 𝓣 = tables 𝓤 𝓛.H 𝓜 𝓡 𝓡.env in
    proved_at 𝓛 f.ended stayed c 𝓜 𝓡 (Goes-dropped 𝓛 0 (plain (λ _. AsHeld)) yes (λ κs x w. refl), (Goes-dropped 𝓛 0 (plain (λ _. Heap.the_row)) yes (λ κs x w. refl), tt)) #self code.function (code.unfolded 𝓤 𝓛.H 𝓜 𝓡 wired) (λ z are.
    let Post : Val → SProp 𝓤 = (walk_of 𝓛 f.ended stayed c).post z in
    let Run : List Val → SProp 𝓤 = λ ws. WpFn 𝓤 𝓛.H 𝓣.C 𝓣.Λ code.function ws Post in
    let h = z.0.3.0 in let a = z.0.3.1.0 in
    qed 𝓛 ((‵ ftrue ⊛ ‵ (fsep (AsHeld.own_val h z.0.4.0) (fsep (Heap.the_row.own_val a z.0.4.1.0) ftrue))) ∷ raw (fact 𝓤 (is_held h.machine ≡ true)) ∷ []) ∵ split ! $ drop ! $ fsplit ! $
    held_out ! h z.0.4.0 (λ wh. move ! (1 ∷ []) $ fsplit ! $ handle_tells E.al ! a z.0.4.1.0 (λ hv ea fa.
    -- [the handle; true; what is held; that something is]
    move ! (3 ∷ []) $ heard ! (is_held h.machine ≡ true) (λ is.
    let x = (there h.machine is).value in let same = (there h.machine is).is in
    move ! (2 ∷ []) $ rewrite ! 0 (λ (held : Option Machine.the_row.Denot). ‵ (held_owns h.at held)) same refl $
    in_a_block ! h.at (λ p. box_owns (token E.al a) (R E) p x) (fst∗ 𝓤 (never 𝓤) (sem 𝓛 (token E.al a (bare (lone Machine.the_row.mir)) null_ptr))) (λ b o e.
    let v : D E = record { ptr = block_ptr b o; alloc = a; value = x } in let w : Val = word E hv b o in
    let made : AsParts.Denot = record { ptr = block_ptr b o; alloc = a; value = x } in
    let p : Val = only_field (vptr b o) in
    let wp : z.0.4.0 ≡ p ∷ [] = subst (λ (q : Ptr). z.0.4.0 ≡ only_field (ptr_val q) ∷ []) e wh in
    fsplit ! $ box_in E ! v b o x refl refl $ use1 𝓛 (‵ (AsParts.own_val made (w ∷ []))) (id⊢ 𝓤 _) $ keep ! (0 ∷ []) $
    suffices ! (Run (p ∷ hv ∷ [])) (subst (λ (us : List Val). ent 𝓤 (Run (p ∷ hv ∷ [])) (Run us)) (sym (λ i. wp i ++ (ea i ++ []))) (id⊢ 𝓤 (Run (p ∷ hv ∷ [])))) $
    enter ! 𝓣.C 𝓣.Λ code.function (p ∷ hv ∷ []) Post $ alloc_all ! (λ l. pass_all ! refl ((tt, (tt, tt)), (fa, tt)) $
    sets ! (of_opd ! (get_in ! (fld ! refl (stop !)) (sub ! 0 refl (whole !)))) refl (tt, tt) $
    sets ! (of_opd ! (get ! refl)) refl (tt, tt) $
    sets ! (agg ! (and_then ! (get ! refl) (and_then ! (get ! refl) (no_more !)))) refl (box_typed E hv b o fa) $
    returns ! (look_at ! 0 refl) $ free_all ! refl $
    suffices ! _ (ends_at 𝓛 f.ended stayed c z w made (tt, (tt, tt)) (tt, (tt, tt))) $ says ! (sym same) $
    nothing ! $ nothing ! $ fjoin ! $ nothing ! $ fjoin ! $ join ! $ nothing ! $ join ! $ done !))))))
