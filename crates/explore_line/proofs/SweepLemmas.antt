-- The sweeps that arguments write, one by one.
use Rattle.std.proofs.Common.{◌≡◌, ◌∙◌, ◌<◌, ◌≤◌, nat_le, ℕ, suc, Bool, true, false, cond, arith, List, [], ◌∷◌, ◌++◌, map, length, drop, Option, Some, None, refl, sym, ap, append-nil, append_assoc, drop-cons, drop_of_length-le}
use Rattle.std.proofs.lemmas.List.{length-map}
use Rattle.std.proofs.lemmas.Bool.Decides.{nat_tests}
use Rattle.std.specs.Borrow.{Bor}
use Rattle.std.specs.List.{slice_index_or}
use Rattle.std.specs.Prelude.{option_map}
use Rattle.clap.specs.Words.{Text}
use Rattle.explore_line.specs.Sweeps.{few_sweeps_of, sweeps_of}
use Rattle.explore_sweeps.specs.Sweeps.{sweep_of}
use Rattle.explore_sweeps.specs.declared.Sweep.{Sweep}
use Rattle.explore_sweeps.specs.declared.TheConstants.{MAX_SWEEPS}

abbrev texts : List (Bor Text) → List Text
texts args = map (λ arg. arg.now) args

-- the sweeps so far, and those of the arguments from a place on, are those of all arguments
unfoldable pub HasSoFar : List (Bor Text) → ℕ → List Sweep → Type 0
HasSoFar args place sweeps = sweeps_of (texts args) ≡ option_map (λ rest. sweeps ++ rest) (sweeps_of (texts (drop place args)))

same : (found : Option (List Sweep)) → found ≡ option_map (λ rest. [] ++ rest) found
same None = refl
same (Some rest) = refl

pub none_so_far : (args : List (Bor Text)) → HasSoFar args 0 []
unfolding HasSoFar
none_so_far args = same (sweeps_of (texts args))

rest_of : (args : List Text) (arg : Text) (sweep : Sweep) → sweep_of arg ≡ Some sweep →
    sweeps_of (arg ∷ args) ≡ option_map (λ rest. sweep ∷ rest) (sweeps_of args)
unfolding sweeps_of
rest_of args arg sweep is = rw is refl

no_rest : (args : List Text) (arg : Text) → sweep_of arg ≡ None → sweeps_of (arg ∷ args) ≡ None
unfolding sweeps_of
no_rest args arg is = rw is refl

moved : (kept : List Sweep) (sweep : Sweep) (found : Option (List Sweep)) →
    option_map (λ rest. kept ++ rest) (option_map (λ rest. sweep ∷ rest) found) ≡ option_map (λ rest. (kept ++ sweep ∷ []) ++ rest) found
moved kept sweep None = refl
moved kept sweep (Some rest) = ap Some (sym (append_assoc kept (sweep ∷ []) rest))

-- at most eight
abbrev no_sweeps : Option (List Sweep)
no_sweeps = None

few_none : (args : List Text) → sweeps_of args ≡ None → few_sweeps_of args ≡ None
few_none args none = rw none (by (nat_le (length args) MAX_SWEEPS))
  where
    by : (few : Bool) → cond few no_sweeps no_sweeps ≡ no_sweeps
    by true = refl
    by false = refl

few_is : (args : List (Bor Text)) → length args ≤ MAX_SWEEPS → few_sweeps_of (texts args) ≡ sweeps_of (texts args)
few_is args few =
    let same : length (texts args) ≡ length args = length-map args (λ (arg : Bor Text). arg.now) in
    let small : nat_le (length (texts args)) MAX_SWEEPS ≡ true = grind (arith, nat_tests) in
    rw small refl

-- one more argument
at_place : (args : List (Bor Text)) (place : ℕ) (other : Bor Text) → place < length args →
    texts (drop place args) ≡ (slice_index_or args place other).now ∷ texts (drop (suc place) args)
at_place args place other lt = ap texts (drop-cons args place other lt)

pub one_more : (args : List (Bor Text)) (place : ℕ) (other : Bor Text) (found : Option Sweep) (sweep : Sweep) (kept : List Sweep) →
    place < length args → found ≡ sweep_of (slice_index_or args place other).now → found ≡ Some sweep → HasSoFar args place kept →
    HasSoFar args (suc place) (kept ++ sweep ∷ [])
unfolding HasSoFar
one_more args place other found sweep kept lt is some so =
    let writes = sym is ∙ some in
    so ∙ ap (option_map (λ rest. kept ++ rest)) (ap sweeps_of (at_place args place other lt)
    ∙ rest_of (texts (drop (suc place) args)) (slice_index_or args place other).now sweep writes)
    ∙ moved kept sweep (sweeps_of (texts (drop (suc place) args)))

-- an argument that writes none
pub not_one : (args : List (Bor Text)) (place : ℕ) (other : Bor Text) (found : Option Sweep) (kept : List Sweep) → place < length args →
    found ≡ sweep_of (slice_index_or args place other).now → found ≡ None → HasSoFar args place kept → few_sweeps_of (texts args) ≡ None
unfolding HasSoFar
not_one args place other found kept lt is not so =
    let none = sym is ∙ not in
    few_none (texts args) (so ∙ ap (option_map (λ rest. kept ++ rest)) (ap sweeps_of (at_place args place other lt)
    ∙ no_rest (texts (drop (suc place) args)) (slice_index_or args place other).now none))

-- all arguments
none_left : sweeps_of [] ≡ Some []
unfolding sweeps_of
none_left = refl

pub all_done : (args : List (Bor Text)) (place : ℕ) (kept : List Sweep) → length args ≤ MAX_SWEEPS → length args ≤ place →
    HasSoFar args place kept → few_sweeps_of (texts args) ≡ Some kept
unfolding HasSoFar
all_done args place kept few past so =
    few_is args few ∙ so ∙ ap (λ (rest : List (Bor Text)). option_map (λ more. kept ++ more) (sweeps_of (texts rest))) (drop_of_length-le args past)
    ∙ ap (option_map (λ rest. kept ++ rest)) none_left ∙ ap Some (append-nil kept)
