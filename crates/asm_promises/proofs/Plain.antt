-- Without a capability that is written out, every value of an image is plain.
use Rattle.std.proofs.Common.{◌≡◌, inl, inr, ℕ, List, length, Ok, All}
use Rattle.std.proofs.lemmas.List.Elements.{All-weaker}
use Rattle.cap_model.specs.values.CapValue.{CapValue}
use Rattle.cheri_model.specs.declared.image.HartImage.{HartImage}
use Rattle.asm_places.specs.Places.{kind_of}
use Rattle.asm_places.specs.Capabilities.{ObjectsParts, kept_kind, length_of}
use Rattle.asm_listable.proofs.Plain.{pcc_plain, sentry_plain, data_plain, table_plain, stack_plain}
use Rattle.asm_pictures.specs.Asked.{HartsParts}
use Rattle.asm_image.specs.Whole.{AssembledParts, assembly_meaning}
use Rattle.asm_promises.specs.Given.{objects_in, IsPcc, IsHeld, IsHeldInRegister, IsGivenHart, NoneIsWritten, IsPlainValue, IsPlainHart}
use Rattle.asm_promises.proofs.Given.{granules_given, harts_are_given}

held_plain : (o : ObjectsParts) (v : CapValue) → IsHeld o v → IsPlainValue o v
held_plain o v h =
    elim h [
      | inl integer ↦ inl integer
      | inr more ↦ elim more [
        | inl sentry ↦ inr (inl (inr sentry, sentry_plain o.reach sentry.0 v sentry.1))
        | inr bytes ↦ inr (inr (data_plain (kept_kind (kind_of o.places bytes.place.0)) bytes.base (length_of o bytes.symbol) bytes.address v bytes.is))
      ]
    ]

pcc_is_plain : (o : ObjectsParts) (v : CapValue) → IsPcc o v → IsPlainValue o v
pcc_is_plain o v h = inr (inl (inl h, pcc_plain o.reach h.0 v h.1))

module _ (harts : HartsParts) (a : AssembledParts) (none : NoneIsWritten harts a) where
  register_plain : (v : CapValue) → IsHeldInRegister harts a v → IsPlainValue (objects_in a) v
  register_plain v h =
      elim h [
        | inl held ↦ held_plain (objects_in a) v held
        | inr more ↦ elim more [
          | inl tabled ↦ inr (inr (table_plain (length a.linked.table.symbols) v tabled))
          | inr rest ↦ elim rest [
            | inl stack ↦ inr (inr (stack_plain stack.1.0.base stack.1.0.size v stack.1.1.2))
            | inr writes ↦ absurd (none writes.0 writes.1.1.1.1.0 writes.1.0 writes.1.1.0 writes.1.1.1.0 writes.1.1.1.1.1 writes.1.1.1.1.2)
          ]
        ]
      ]

  hart_plain : (hart : HartImage) → IsGivenHart harts a hart → IsPlainHart (objects_in a) hart
  hart_plain hart h = (
    pcc_is_plain (objects_in a) hart.pcc h.0,
    All-weaker (IsHeldInRegister harts a) (IsPlainValue (objects_in a)) (λ v p. register_plain v p) hart.regs h.1,
  )

pub granules_plain : (texts : List (List ℕ)) (harts : HartsParts) (a : AssembledParts) → assembly_meaning texts harts ≡ Ok a
    → All (λ g. IsPlainValue (objects_in a) g.1) a.image.granules
granules_plain texts harts a e =
    All-weaker (λ g. IsHeld (objects_in a) g.1) (λ g. IsPlainValue (objects_in a) g.1) (λ g p. held_plain (objects_in a) g.1 p) a.image.granules
    (granules_given texts harts a e)

pub harts_plain : (texts : List (List ℕ)) (harts : HartsParts) (a : AssembledParts) → assembly_meaning texts harts ≡ Ok a
    → NoneIsWritten harts a → All (IsPlainHart (objects_in a)) a.image.harts
harts_plain texts harts a e none =
    All-weaker (IsGivenHart harts a) (IsPlainHart (objects_in a)) (λ hart p. hart_plain harts a none hart p) a.image.harts
    (harts_are_given texts harts a e)
