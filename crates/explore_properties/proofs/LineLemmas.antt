-- How many bytes a line has without the spaces and tabs at its end, one byte more at a time.
use Rattle.std.proofs.Common.{◌≡◌, ℕ, suc, zero, ◌+◌, ◌<◌, ◌≤◌, List, [], ◌∷◌, length, drop, arith, refl, sym, ◌∙◌, add-one, drop-cons}
use Rattle.std.specs.Prelude.{Bool, true, false, if◌then◌else◌, slice_index_or}
use Rattle.std.proofs.Math.ListN.{drop_of_length-le}
use Rattle.explore_properties.specs.Lines.{is_blank, text_length, with_byte}

-- up to a place it is so long, and from there on so much is to come
abbrev pub with_rest : ℕ → ℕ → ℕ → ℕ
with_rest place end zero = end
with_rest place end (suc rest) = place + suc rest

step : (blank : Bool) (place end rest : ℕ) →
    with_rest place end (with_byte blank rest) ≡ with_rest (place + 1) (if blank then end else place + 1) rest
step true place end zero = refl
step true place end (suc rest) = omega arith
step false place end zero = refl
step false place end (suc rest) = omega arith

pub byte_more : (line : List ℕ) (place d end whole : ℕ) → place < length line → with_rest place end (text_length (drop place line)) ≡ whole →
    with_rest (place + 1) (if is_blank (slice_index_or line place d) then end else place + 1) (text_length (drop (place + 1) line)) ≡ whole
unfolding text_length
byte_more line place d end whole within so =
    let next : drop place line ≡ slice_index_or line place d ∷ drop (place + 1) line = rw add-one (drop-cons line place d within) in
    sym (step (is_blank (slice_index_or line place d)) place end (text_length (drop (place + 1) line))) ∙ (rw next at so)

pub no_byte : (line : List ℕ) (place end whole : ℕ) → length line ≤ place → with_rest place end (text_length (drop place line)) ≡ whole →
    end ≡ whole
unfolding text_length
no_byte line place end whole past so = rw (drop_of_length-le line past) at so
