-- What memory holds: integers, sentries, and symbols' capabilities.
use Rattle.std.proofs.Common.{◌≡◌, inl, inr, ℕ, ◌+◌, ◌/◌, ◌==◌, Bool, true, false, cond, List, [], ◌∷◌, length, take, Option, Some, None, Result, Ok, Err, All, refl, sym, ap, subst}
use Rattle.std.proofs.lemmas.List.Elements.{All-nil, All-cons, All-head, All-tail, All-set, All-replicate, All-take}
use Rattle.cap_model.specs.values.Capability.{unsealed_type, sentry_type}
use Rattle.cap_model.specs.values.CapValue.{CapValue, raw}
use Rattle.cap_ops.specs.declared.making.MakeFault.{MakeFault}
use Rattle.cap_ops.specs.Making.{made}
use Rattle.cheri_model.specs.declared.code.TheConstants.{CODE_BASE}
use Rattle.cheri_model.specs.declared.memory.TheConstants.{MAX_RAM_BYTES, GRANULE_BYTES}
use Rattle.cheri_model.specs.steps.Memory.{ram_base, granule_number, store_data, cleared_memory}
use Rattle.cheri_model.specs.runs.ImageRules.{is_listed}
use Rattle.listings.specs.Meaning.{listed_from}
use Rattle.asm_tokens.specs.declared.fault.AsmFaultKind.{AsmFaultKind}
use Rattle.asm_values.specs.declared.values.Location.{Location}
use Rattle.asm_values.specs.declared.values.Value.{Value}
use Rattle.asm_values.specs.declared.values.Value.TheVariants.{Number, At}
use Rattle.asm_capabilities.specs.declared.data.DataKind.{DataKind}
use Rattle.asm_capabilities.specs.Capabilities.{reach_length, reach_permissions, pcc_at, sentry_at, kind_permissions, data_at}
use Rattle.asm_layout.specs.declared.chunk.ChunkKind.{ChunkKind}
use Rattle.asm_layout.specs.declared.chunk.ChunkKind.TheVariants as kinds
use Rattle.asm_layout.specs.Placement.{rank}
use Rattle.asm_places.specs.Places.{kind_of, address_in, address_of}
use Rattle.asm_places.specs.Capabilities as objects
use Rattle.asm_places.specs.Capabilities.{ObjectsParts, kept_kind, length_of, place_of, data_from, data_in, data_of, symbol_data, capability_at, capability_of}
use Rattle.asm_late.specs.Late.{LateParts, objects_of}
use Rattle.asm_memory.specs.Memory.{listed_below}
use Rattle.asm_data.specs.Data.{zero_or_section, raw_zero, capability_for}
use Rattle.asm_data.specs.Contents.{ContentsParts, contents_of}
use Rattle.asm_listable.proofs.Plain.{made_is}
use Rattle.asm_promises.specs.Given.{HasBounds, IsPcc, IsSentry, IsOfSymbol, IsHeld}
use Rattle.asm_promises.proofs.Memory.{Keeps, contents_kept}

-- what is made has just these bounds
pub made_bounds : (base len addr perms otype : ℕ) (v : CapValue) → made base len addr perms otype ≡ Ok v → HasBounds base len v
made_bounds base len addr perms otype v e = subst (HasBounds base len) (made_is base len addr perms otype v e) (refl, refl)

pub sentry_is : (o : ObjectsParts) (addr : ℕ) (v : CapValue) → sentry_at o.reach addr ≡ Ok v → IsSentry o v
unfolding sentry_at
sentry_is o addr v e = (addr, e, made_bounds CODE_BASE (reach_length o.reach) addr (reach_permissions o.reach) sentry_type v e)

pub pcc_is : (o : ObjectsParts) (addr : ℕ) (v : CapValue) → pcc_at o.reach addr ≡ Ok v → IsPcc o v
unfolding pcc_at
pcc_is o addr v e = (addr, e, made_bounds CODE_BASE (reach_length o.reach) addr (reach_permissions o.reach) unsealed_type v e)

data_bounds : (kind : DataKind) (base length addr : ℕ) (v : CapValue) → data_at kind base length addr ≡ Ok v → HasBounds base length v
unfolding data_at
data_bounds kind base length addr v e = made_bounds base length addr (kind_permissions kind) unsealed_type v e

-- ---- places

made_ok : (r : Result CapValue MakeFault) (v : CapValue) → objects.made_or r ≡ Ok v → r ≡ Ok v
made_ok (Ok w) v e = let is : w ≡ v = cc in ap (λ x. Ok x) is
made_ok (Err refusal) v e = absurd (cc)

from_held : (o : ObjectsParts) (symbol addr : ℕ) (place : ℕ × ℕ) (base : Option ℕ) (v : CapValue) → place_of o symbol ≡ Some place
    → address_in o.places place.0 place.1 ≡ base → data_from o symbol place.0 addr base ≡ Ok v → IsOfSymbol o v
from_held o symbol addr place (Some base) v stands begins e =
    let is = made_ok (data_at (kept_kind (kind_of o.places place.0)) base (length_of o symbol) addr) v e in
    record {
      symbol = symbol;
      place = place;
      base = base;
      address = addr;
      stands = stands;
      begins = begins;
      is = is;
      bounds = data_bounds (kept_kind (kind_of o.places place.0)) base (length_of o symbol) addr v is;
    }
from_held o symbol addr place None v stands begins e = absurd (cc)

in_held : (o : ObjectsParts) (symbol addr : ℕ) (place : Option (ℕ × ℕ)) (v : CapValue) → place_of o symbol ≡ place
    → data_in o symbol addr place ≡ Ok v → IsOfSymbol o v
in_held o symbol addr (Some place) v stands e = from_held o symbol addr place (address_in o.places place.0 place.1) v stands refl e
in_held o symbol addr None v stands e = absurd (cc)

symbol_held : (o : ObjectsParts) (addr : ℕ) (symbol : Option ℕ) (v : CapValue) → symbol_data o addr symbol ≡ Ok v → IsOfSymbol o v
unfolding data_of
symbol_held o addr (Some symbol) v e = in_held o symbol addr (place_of o symbol) v refl e
symbol_held o addr None v e = absurd (cc)

code_or_data : (is_code : Bool) (o : ObjectsParts) (addr : ℕ) (symbol : Option ℕ) (v : CapValue)
    → cond is_code (objects.made_or (sentry_at o.reach addr)) (symbol_data o addr symbol) ≡ Ok v → IsHeld o v
code_or_data true o addr symbol v e = inr (inl (sentry_is o addr v (made_ok (sentry_at o.reach addr) v e)))
code_or_data false o addr symbol v e = inr (inr (symbol_held o addr symbol v e))

at_held : (o : ObjectsParts) (location : Location) (addr : Result ℕ AsmFaultKind) (v : CapValue) → capability_at o location addr ≡ Ok v → IsHeld o v
at_held o location (Ok addr) v e = code_or_data (rank (kind_of o.places location.chunk) == rank kinds.Code) o addr location.symbol v e
at_held o location (Err fault) v e = absurd (cc)

pub value_held : (o : ObjectsParts) (value : Value) (v : CapValue) → capability_of o value ≡ Ok v → IsHeld o v
unfolding capability_of
value_held o (Number n) v e = let is : raw n ≡ v = cc in inl (n, sym is)
value_held o (At location) v e = at_held o location (address_of o.places (At location)) v e

zero_held : (o : ObjectsParts) (r : Result ℕ AsmFaultKind) (v : CapValue) → raw_zero r ≡ Ok v → IsHeld o v
zero_held o (Ok n) v e = let is : raw n ≡ v = cc in inl (n, sym is)
zero_held o (Err kind) v e = absurd (cc)

zeros_or : (zeros : Bool) (o : ObjectsParts) (value : Value) (v : CapValue) → cond zeros (raw_zero (zero_or_section value)) (capability_of o value) ≡ Ok v → IsHeld o v
zeros_or true o value v e = zero_held o (zero_or_section value) v e
zeros_or false o value v e = value_held o value v e

put_held : (o : ObjectsParts) (kind : ChunkKind) (value : Value) (v : CapValue) → capability_for o kind value ≡ Ok v → IsHeld o v
unfolding capability_for
put_held o kind value v e = zeros_or (rank kind == rank kinds.Zeros) o value v e

byte_held : (o : ObjectsParts) (memory : List CapValue) (addr byte : ℕ) → All (IsHeld o) memory → All (IsHeld o) (store_data memory addr 1 byte)
unfolding store_data
byte_held o memory addr byte h = All-set (IsHeld o) memory (granule_number addr) _ (inl (_, refl)) h

keeps : (late : LateParts) → Keeps late (IsHeld (objects_of late)) (λ value. Unit {0})
keeps late =
    record {
      null = inl (0, refl);
      byte = λ memory addr byte h. byte_held (objects_of late) memory addr byte h;
      operand = λ file number item dot value e. tt;
      symbol = λ symbol value e. tt;
      made = λ kind value v q e. put_held (objects_of late) kind value v e;
      entry = λ value v q e. value_held (objects_of late) value v e;
    }

memory_held : (late : LateParts) (contents : ContentsParts) → contents_of late ≡ Ok contents → All (IsHeld (objects_of late)) contents.memory
memory_held late contents e =
    (contents_kept late (IsHeld (objects_of late)) (λ value. Unit {0}) (keeps late) (length (cleared_memory MAX_RAM_BYTES)) contents
    (record { values = All-replicate (IsHeld (objects_of late)) (MAX_RAM_BYTES / GRANULE_BYTES) (raw 0) (inl (0, refl)); counted = refl }) e).values

-- what is listed of values of one kind
listed_by : (P : CapValue → Type 0) (there : Bool) (addr : ℕ) (v : CapValue) (rest : List (ℕ × CapValue)) → P v → All (λ g. P g.1) rest
    → All (λ g. P g.1) (cond there ((addr, v) ∷ rest) rest)
listed_by P true addr v rest p h = All-cons (λ g. P g.1) (addr, v) rest p h
listed_by P false addr v rest p h = h

listed_all : (P : CapValue → Type 0) (addr : ℕ) (memory : List CapValue) → All P memory → All (λ g. P g.1) (listed_from addr memory)
unfolding listed_from
listed_all P addr [] h = All-nil (λ g. P g.1)
listed_all P addr (v ∷ memory) h =
    listed_by P (is_listed v) addr v (listed_from (addr + GRANULE_BYTES) memory) (All-head P v memory h)
    (listed_all P (addr + GRANULE_BYTES) memory (All-tail P v memory h))

pub granules_held : (late : LateParts) (contents : ContentsParts) (ram : ℕ) → contents_of late ≡ Ok contents
    → All (λ g. IsHeld (objects_of late) g.1) (listed_below ram contents.memory)
unfolding listed_below
granules_held late contents ram e =
    listed_all (IsHeld (objects_of late)) ram_base (take (ram / GRANULE_BYTES) contents.memory)
    (All-take (IsHeld (objects_of late)) (ram / GRANULE_BYTES) contents.memory (memory_held late contents e))
