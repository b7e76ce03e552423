-- A text in three parts: a head, a body that is put in pieces, and an end.
use Rattle.std.proofs.Common.{◌≡◌, ℕ, List, ◌++◌, Option, append_assoc}
use Rattle.std.specs.Io.KnownBytes.{Appends}
use Rattle.sinks.specs.Sinks.{TakesAllBut, TakesPrefix}
use Rattle.sinks.proofs.SinkLemmas.{stops_on, begins_on, takes_to_end}

-- a prefix of it was put up to its end
pub parts_begin : (whole head body last out : List ℕ) (before now : Option (List ℕ)) → whole ≡ head ++ (body ++ last) → out ≡ head
    → TakesPrefix before now (out ++ body) → TakesPrefix before now whole
parts_begin whole head body last out before now is same begun =
    rw (is, ← append_assoc, ← same) (begins_on before now (out ++ body) last begun)

-- the same, where the end was put too, and failed
pub parts_stop : (whole head body last out kept put : List ℕ) (before now after : Option (List ℕ))
    → whole ≡ head ++ (body ++ last) → out ≡ head → TakesAllBut before now kept (out ++ body)
    → put ≡ kept ++ last → TakesPrefix now after put → TakesPrefix before after whole
parts_stop whole head body last out kept put before now after is same so_far written stop =
    rw (is, ← append_assoc, ← same) (stops_on before now after kept (out ++ body) last so_far (rw written at stop))

-- the same, where it was taken
pub parts_end : (whole head body last out kept put : List ℕ) (before now after : Option (List ℕ))
    → whole ≡ head ++ (body ++ last) → out ≡ head → TakesAllBut before now kept (out ++ body)
    → put ≡ kept ++ last → Appends now after put → Appends before after whole
parts_end whole head body last out kept put before now after is same so_far written taken =
    rw (is, ← append_assoc, ← same) (takes_to_end before now after kept (out ++ body) last so_far (rw written at taken))
