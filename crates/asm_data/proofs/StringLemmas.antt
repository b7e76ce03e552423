-- Strings one after another.
use Rattle.std.proofs.Common.{◌≡◌, ℕ, ◌+◌, ◌<◌, List, [], ◌∷◌, ◌++◌, length, get_or, take, sym, ap, ◌∙◌}
use Rattle.std.specs.List.{flat_map}
use Rattle.std.proofs.lemmas.Grind.{flat_map-append}
use Rattle.std.proofs.lemmas.List.{append-nil, take_more}

pub strings_next : {X A : Type 0} (f : X → List A) (bytes after : List A) (xs : List X) (i : ℕ) (d x : X) → i < length xs → x ≡ get_or xs i d
    → after ≡ bytes ++ f x → bytes ≡ flat_map f (take i xs) → after ≡ flat_map f (take (i + 1) xs)
strings_next f bytes after xs i d x inside here put so_far =
    let split : flat_map f (take (i + 1) xs) ≡ flat_map f (take i xs) ++ flat_map f (x ∷ []) =
    rw (take_more xs i d inside, here) (flat_map-append f (take i xs) (get_or xs i d ∷ [])) in
    let alone : flat_map f (x ∷ []) ≡ f x = append-nil (f x) in
    put ∙ ap (λ b. b ++ f x) so_far ∙ sym (split ∙ ap (λ t. flat_map f (take i xs) ++ t) alone)
