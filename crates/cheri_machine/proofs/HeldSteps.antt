-- The machine value of a `Held`, and the box that its parts are. Assumes `Logic`.
use Rattle.std.proofs.Common.{◌≡◌, List, [], ◌∷◌, ◌++◌, refl, subst, true}
use seplogic.Ra.Ura.{Ura}
use mir.Syntax.{impl, tnil, dnil}
use mir.Val.{Val, vstruct, vcons, vnil, of_list}
use types.Logic.{Logic}
use types.Kit.{Item, Goal, Seq, Step, step, ‵, ◌$◌, drop, fsplit, fjoin, fpick, fpack, feq_i, feq_l}
use denote.RattleType.{RattleType, Valss}
use denote.RawPtr.{RawPtr, Ptr, ptr_val}
use denote.Steps.{nothing}
use denote.Struct.Struct.{within}
use denote.Struct.Owning.{shape}
use Rattle.std.proofs.lemmas.Bool.{false≢true}
use Rattle.std.specs.Prelude.{Option, Some, None}
use Rattle.std.proofs.BoxSteps.Form.{Bx}
use Rattle.std.specs.contracts.alloc.Global as Heap
use Rattle.std.specs.contracts.impls.GlobalAllocator.TheImpl.{ghosts, dict}
use Rattle.std.proofs.alloc.Global.TheLaws as heap
use Rattle.cheri_machine.specs.Handle.{is_held}
use Rattle.cheri_machine.specs.Handle.Heaps.{held_owns}
use Rattle.cheri_machine.specs.contracts.machine.Machine as Machine
use Rattle.cheri_machine.proofs.machine.Machine.TheLaws as machine_laws
use Rattle.cheri_machine.specs.contracts.parts.Parts as Parts
use Rattle.cheri_machine.specs.contracts.handle.Held as Held

abbrev pub E : Bx
E = record { row = Machine.the_row; laws = machine_laws.the_row_laws; al = record { row = Heap.the_row; laws = heap.the_row_laws; g = ghosts; d = dict; drops = impl [] tnil dnil } }

abbrev pub AsParts : RattleType
AsParts = Parts.the_row Machine.the_row Heap.the_row ghosts

abbrev pub AsHeld : RattleType
AsHeld = Held.the_row

abbrev pub only_field : Val → Val
only_field v = vstruct (vcons v vnil)

-- what is held, where something is
pub record IsThere {A : Type 0} (held : Option A) : Type 0 where
  pub value : A
  pub is : held ≡ Some value

pub there : {A : Type 0} (held : Option A) → is_held held ≡ true → IsThere held
there (Some x) h = record { value = x; is = refl }
there None h = absurd (false≢true h)

module _ {M : Type 1} {𝓤 : Ura M} {𝓛 : Logic 𝓤} {K : Type 0} {Γ : List (Item 𝓤)} {G : Goal 𝓤 𝓛.H} where
  pub held_out : K → (d : AsHeld.Denot) (vs : List Val)
      → (vs ≡ only_field (ptr_val d.at) ∷ [] → Seq K 𝓛 (‵ (held_owns d.at d.machine) ∷ Γ) G)
      → Seq K 𝓛 (‵ (AsHeld.own_val d vs) ∷ Γ) G
  held_out t d vs k =
      fsplit t $ fpick t (λ vss. fsplit t $ feq_l t (λ ev. fsplit t $ feq_l t (λ ep. drop t $
      k (subst (λ (ps : List Val). vs ≡ vstruct (of_list (ps ++ [])) ∷ []) ep ev))))

  pub held_in : K → (p : Ptr) (x : Option Machine.the_row.Denot)
      → Step K 𝓛 (‵ (AsHeld.own_val (record { at = p; machine = x }) (only_field (ptr_val p) ∷ [])) ∷ Γ) G (‵ (held_owns p x) ∷ Γ) G
  held_in t p x = step (λ s. let v : Val = only_field (ptr_val p) in
      nothing t $ feq_i t (List Val) (ptr_val p ∷ []) (ptr_val p ∷ []) refl $ fjoin t $ feq_i t (List Val) (v ∷ []) (v ∷ []) refl $ fjoin t $
      fpack t (Valss (RawPtr ∷ [])) (within (shape Held.the_type) (p, tt) (v ∷ [])) (ptr_val p ∷ [], tt) $ fjoin t $ s)
