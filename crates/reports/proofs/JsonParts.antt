-- The JSON report in parts, as a sink takes them.
use Rattle.std.proofs.Common.{◌≡◌, ℕ, ◌+◌, ◌<◌, ◌≤◌, Bool, ◌||◌, List, [], ◌∷◌, ◌++◌, Option, length, drop, get_or, refl, ◌*◌, ◌&&◌, nat_le, leb-true, arith, append_assoc, append-nil, drop-cons, add-one, Result, Ok, Err, OnOk}
use Rattle.std.proofs.Math.ListN.{drop_of_length-le}
use Rattle.std.proofs.lemmas.Bool.{and_parts}
use Rattle.std.specs.Io.KnownBytes.{Appends}
use Rattle.cap_model.specs.values.CapValue.{CapValue}
use Rattle.cheri_model.specs.runs.ImageRules.{is_listed}
use Rattle.cheri_model.specs.declared.memory.TheConstants.{GRANULE_BYTES, MAX_RAM_BYTES}
use Rattle.cheri_model.specs.steps.Memory.{IsMemory}
use Rattle.reports.specs.JsonText.{granule_member, granule_members}
use Rattle.sinks.specs.Sinks.{TakesAllBut, TakesPrefix}
use Rattle.sinks.proofs.SinkLemmas.{takes_none, takes_then, stops_then, stops_on, begins_on, takes_to_end}

-- one granule more
granule_step : (memory : List CapValue) (number : ℕ) (d v : CapValue) (later more : Bool) (kept written : List ℕ)
    → number < length memory → v ≡ get_or memory number d → written ≡ kept ++ granule_member later number v
    → more ≡ (later || is_listed v)
    → written ++ granule_members more (number + 1) (drop (number + 1) memory) ≡ kept ++ granule_members later number (drop number memory)
unfolding granule_members
granule_step memory number d v later more kept written room here is now =
    let next : drop number memory ≡ get_or memory number d ∷ drop (number + 1) memory = rw add-one (drop-cons memory number d room) in
    rw (next, is, now, here, append_assoc) refl

pub granule_takes : (memory : List CapValue) (number : ℕ) (d v : CapValue) (later more : Bool)
    (before now after : Option (List ℕ)) (kept written still all : List ℕ)
    → number < length memory → v ≡ get_or memory number d → written ≡ kept ++ granule_member later number v
    → more ≡ (later || is_listed v)
    → TakesAllBut before now (kept ++ granule_members later number (drop number memory)) all → TakesAllBut now after still written
    → TakesAllBut before after (still ++ granule_members more (number + 1) (drop (number + 1) memory)) all
granule_takes memory number d v later more before now after kept written still all room here is this so_far put =
    takes_then before now after written _ _ still all (granule_step memory number d v later more kept written room here is this) so_far put

-- the same where the put failed
pub granule_stops : (memory : List CapValue) (number : ℕ) (d v : CapValue) (later : Bool)
    (before now after : Option (List ℕ)) (kept written all : List ℕ)
    → number < length memory → v ≡ get_or memory number d → written ≡ kept ++ granule_member later number v
    → TakesAllBut before now (kept ++ granule_members later number (drop number memory)) all → TakesPrefix now after written
    → TakesPrefix before after all
granule_stops memory number d v later before now after kept written all room here is so_far stop =
    stops_then before now after written _ _ all (granule_step memory number d v later _ kept written room here is refl) so_far stop

-- no granule is left
pub granules_end : (memory : List CapValue) (number : ℕ) (later : Bool) (before now : Option (List ℕ)) (kept all : List ℕ)
    → length memory ≤ number → TakesAllBut before now (kept ++ granule_members later number (drop number memory)) all
    → TakesAllBut before now kept all
unfolding granule_members
granules_end memory number later before now kept all ended so_far =
    let none : drop number memory ≡ [] = drop_of_length-le memory ended in
    rw append-nil at (rw none at so_far)

-- the end follows
pub parts_begin : (before now : Option (List ℕ)) (out shown last whole : List ℕ)
    → whole ≡ shown ++ last → out ≡ [] → TakesPrefix before now (out ++ shown) → TakesPrefix before now whole
parts_begin before now out shown last whole is none begun = rw is (begins_on before now shown last (rw none at begun))

pub parts_stop : (before now after : Option (List ℕ)) (out kept put shown last whole : List ℕ)
    → whole ≡ shown ++ last → out ≡ [] → TakesAllBut before now kept (out ++ shown) → put ≡ kept ++ last
    → TakesPrefix now after put → TakesPrefix before after whole
parts_stop before now after out kept put shown last whole is none so_far written stop =
    rw is (stops_on before now after kept shown last (rw none at so_far) (rw written at stop))

pub parts_end : (before now after : Option (List ℕ)) (out kept put shown last whole : List ℕ)
    → whole ≡ shown ++ last → out ≡ [] → TakesAllBut before now kept (out ++ shown) → put ≡ kept ++ last
    → Appends now after put → Appends before after whole
parts_end before now after out kept put shown last whole is none so_far written last_put =
    rw is (takes_to_end before now after kept shown last (rw none at so_far) (rw written at last_put))

-- a part begins with what was appended before it
same_part : (kept head out text part : List ℕ) → kept ≡ out ++ head → part ≡ head ++ text → kept ++ text ≡ out ++ part
same_part kept head out text part is parts = rw (is, parts, append_assoc) refl

pub part_taken : {E : Type 0} (result : Result (Unit {0}) E) (before now : Option (List ℕ)) (left kept head out text part : List ℕ)
    → kept ≡ out ++ head → part ≡ head ++ text → OnOk result (TakesAllBut before now left (kept ++ text))
    → OnOk result (TakesAllBut before now left (out ++ part))
part_taken result before now left kept head out text part is parts so_far = rw (same_part kept head out text part is parts) at so_far

pub part_begun : (before now : Option (List ℕ)) (kept head out text part : List ℕ)
    → kept ≡ out ++ head → part ≡ head ++ text → TakesPrefix before now (kept ++ text) → TakesPrefix before now (out ++ part)
part_begun before now kept head out text part is parts so_far = rw (same_part kept head out text part is parts) at so_far

pub head_begun : (at : Option (List ℕ)) (text : List ℕ) → TakesPrefix at at text
head_begun at text = (text, takes_none at text)

-- a memory has at most so many granules that their addresses have 16 digits
pub memory_fits : (memory : List CapValue) → IsMemory memory → length memory ≤ 65536
memory_fits memory is =
    let all = and_parts (nat_le GRANULE_BYTES (GRANULE_BYTES * length memory) && nat_le (GRANULE_BYTES * length memory) MAX_RAM_BYTES) _ is.size in
    let most = leb-true _ _ (and_parts (nat_le GRANULE_BYTES (GRANULE_BYTES * length memory)) _ all.0).1 in
    omega arith
