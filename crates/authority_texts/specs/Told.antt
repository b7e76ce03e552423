-- Rights with the orders that lead to them.
use Rattle.std.specs.Prelude.{◌≡◌, ℕ, ◌<◌, List, [], ◌∷◌, Some, Vec}
use Rattle.std.specs.Global.{Global}
use Rattle.cheri_model.specs.runs.Machine.{MachineState}
use Rattle.authorities.specs.declared.rights.Authority.{Authority}
use Rattle.authority_texts.specs.declared.told.Told.{Told}
use Rattle.states.specs.Kept.{KeptParts, at, IsWitnessOrder}

-- the order is the witness of the first state in which just these rights are held
pub record IsTold (kept : KeptParts) (authority : Authority) (told : Told) : Type 0 where
  pub rights : told.rights ≡ authority.rights
  pub order : (s : MachineState) → at kept authority.first ≡ Some s →
      IsWitnessOrder kept.image kept.sweeps kept.sight s told.order.items

abbrev pub AreTold : KeptParts → List Authority → List Told → Type 0
AreTold kept [] [] = Unit {0}
AreTold kept [] (t ∷ ts) = ⊥
AreTold kept (a ∷ xs) [] = ⊥
AreTold kept (a ∷ xs) (t ∷ ts) = IsTold kept a t × AreTold kept xs ts

-- of several lists
abbrev pub AreAllTold : KeptParts → List (Vec Authority Global) → List (Vec Told Global) → Type 0
AreAllTold kept [] [] = Unit {0}
AreAllTold kept [] (t ∷ ts) = ⊥
AreAllTold kept (a ∷ xs) [] = ⊥
AreAllTold kept (a ∷ xs) (t ∷ ts) = AreTold kept a.items t.items × AreAllTold kept xs ts

-- the states in which rights are first held are kept
abbrev pub AreKnown : ℕ → List Authority → Type 0
AreKnown states [] = Unit {0}
AreKnown states (a ∷ xs) = (a.first < states) × AreKnown states xs

abbrev pub AreAllKnown : ℕ → List (Vec Authority Global) → Type 0
AreAllKnown states [] = Unit {0}
AreAllKnown states (a ∷ xs) = AreKnown states a.items × AreAllKnown states xs
