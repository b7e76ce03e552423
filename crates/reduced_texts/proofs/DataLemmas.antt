-- What is said has no float.
use Rattle.std.proofs.Common.{◌≡◌, ℕ, false, List, [], ◌∷◌, map, refl}
use Rattle.serde_json.specs.Data.{string}
use Rattle.serde_json.specs.View.{items_of}
use Rattle.serde_json.specs.Written.{has_float, items_have_float}
use Rattle.reductions.specs.declared.reduction.LeftOut.{LeftOut}
use Rattle.reduced_texts.specs.ReducedTexts.{left_out_words, reduced_data}

texts_no_float : (words : List (List ℕ)) → items_have_float (items_of (map string words)) ≡ false
texts_no_float [] = refl
texts_no_float (word ∷ words) = texts_no_float words

pub reduced_no_float : (left_out : LeftOut) → has_float (reduced_data left_out) ≡ false
unfolding reduced_data
reduced_no_float left_out = texts_no_float (left_out_words left_out)
