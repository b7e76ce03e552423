-- The part of a row.
use Rattle.std.proofs.Common.{◌≡◌, ℕ, ◌+◌, ◌*◌, ◌%◌, ◌^◌, ◌<◌, ◌≤◌, List, length, drop, refl}
use Rattle.std.specs.Prelude.{slice_index}
use Rattle.std.proofs.lemmas.List.{at_drop_more, drop_all}
use Rattle.graph_nodes.specs.Homes.{hash_from}
use Rattle.graph_nodes.specs.declared.homes.TheConstants.{FACTOR}

pub hash_more : (hash : ℕ) (row : List ℕ) (i : ℕ) → i < length row →
    hash_from hash (drop i row)
    ≡ hash_from ((hash + slice_index row i) % 2 ^ 32 * FACTOR % 2 ^ 32) (drop (i + 1) row)
unfolding hash_from
hash_more hash row i below = at_drop_more (hash_from hash) row i 0 below

pub hash_end : (hash : ℕ) (row : List ℕ) (i : ℕ) → length row ≤ i → hash_from hash (drop i row) ≡ hash
unfolding hash_from
hash_end hash row i past = rw (drop_all i row past) refl
