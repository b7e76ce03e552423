-- The first state of an order that decides a claim.
use Rattle.std.proofs.Common.{◌≡◌, ◌≤◌, ◌<◌, ◌+◌, ℕ, Bool, true, false, List, [], ◌∷◌, length, take, drop, get_or, refl, sym, ap, ◌∙◌, subst, arith}
use Rattle.std.specs.Prelude.{Option, Some, None}
use Rattle.std.specs.Bool.{then_some}
use Rattle.std.proofs.lemmas.Bool.{and_parts}
use Rattle.std.proofs.lemmas.List.{drop_more, drop_all}
use Rattle.cheri_model.specs.declared.operation.Op.{Op}
use Rattle.cheri_model.specs.runs.Image.{ImageParts}
use Rattle.cheri_model.specs.runs.Machine.{MachineState, opening_state, may_take, state_after_one}
use Rattle.cheri_model.specs.runs.Replay.{is_legal}
use Rattle.explore_properties.specs.declared.claims.Claim.{Claim}
use Rattle.sample_checks.specs.Deciding.{decides, states_along, one_later, first_place, decided_after, up_to, deciding_part}

-- so much later
abbrev pub later_by : ℕ → Option ℕ → Option ℕ
later_by count None = None
later_by count (Some place) = Some (place + count)

-- from a state on
abbrev pub deciding_at : ImageParts → Claim → MachineState → List Op → Option ℕ
deciding_at image claim state order = first_place (decides claim) (states_along image state order)

pub at_once : (image : ImageParts) (claim : Claim) (state : MachineState) (order : List Op) → decides claim state ≡ true
    → deciding_at image claim state order ≡ Some 0
unfolding first_place states_along
at_once image claim state [] is = rw is refl
at_once image claim state (op ∷ order) is = rw is refl

pub at_never : (image : ImageParts) (claim : Claim) (state : MachineState) → decides claim state ≡ false
    → deciding_at image claim state [] ≡ None
unfolding first_place states_along
at_never image claim state is = rw is refl

pub at_later : (image : ImageParts) (claim : Claim) (state : MachineState) (op : Op) (order : List Op)
    → decides claim state ≡ false
    → deciding_at image claim state (op ∷ order)
    ≡ one_later (deciding_at image claim (state_after_one image state op) order)
unfolding first_place states_along
at_later image claim state op order is = rw is refl

later_more : (count : ℕ) (place : Option ℕ) → later_by count (one_later place) ≡ later_by (count + 1) place
later_more count None = refl
later_more count (Some place) = ap (λ (n : ℕ). Some n) (omega arith)

later_none : (place : Option ℕ) → place ≡ later_by 0 place
later_none None = refl
later_none (Some place) = ap (λ (n : ℕ). Some n) (omega arith)

-- so many operations were taken, and no state before decides
pub record GoesOn (image : ImageParts) (claim : Claim) (order : List Op) (count : ℕ) (state : MachineState)
    : Type 0 where
  pub legal : is_legal image state (drop count order) ≡ true
  pub value : decided_after image claim order ≡ later_by count (deciding_at image claim state (drop count order))

pub begins : (image : ImageParts) (claim : Claim) (order : List Op) (state : MachineState)
    → is_legal image (opening_state image) order ≡ true → state ≡ opening_state image
    → GoesOn image claim order 0 state
unfolding decided_after
begins image claim order state legal is =
    subst (GoesOn image claim order 0) (sym is)
    (record { legal = legal; value = later_none (deciding_at image claim (opening_state image) order) })

split : (order : List Op) (count : ℕ) (op : Op) → count < length order → op ≡ get_or order count op
    → drop count order ≡ op ∷ drop (count + 1) order
split order count op inside at =
    drop_more order count op inside ∙ ap (λ (o : Op). o ∷ drop (count + 1) order) (sym at)

legal_parts : (image : ImageParts) (state : MachineState) (op : Op) (rest : List Op)
    → is_legal image state (op ∷ rest) ≡ true
    → (may_take state op ≡ true) × (is_legal image (state_after_one image state op) rest ≡ true)
unfolding is_legal
legal_parts image state op rest legal =
    and_parts (may_take state op) (is_legal image (state_after_one image state op) rest) legal

pub may_next : (image : ImageParts) (claim : Claim) (order : List Op) (count : ℕ) (state : MachineState) (op : Op)
    → GoesOn image claim order count state → count < length order → op ≡ get_or order count op
    → may_take state op ≡ true
may_next image claim order count state op goes inside at =
    let cut = split order count op inside at in
    (legal_parts image state op (drop (count + 1) order)
    (subst (λ (o : List Op). is_legal image state o ≡ true) cut goes.legal)).0

pub goes_on : (image seen : ImageParts) (claim : Claim) (order : List Op) (count : ℕ) (state next : MachineState) (op : Op)
    → GoesOn image claim order count state → count < length order → op ≡ get_or order count op
    → decides claim state ≡ false → seen ≡ image → next ≡ state_after_one seen state op
    → GoesOn image claim order (count + 1) next
goes_on image seen claim order count state next op goes inside at not_yet same is =
    let rest = drop (count + 1) order in
    let cut = split order count op inside at in
    let after = state_after_one image state op in
    let is_after : next ≡ after = is ∙ ap (λ (i : ImageParts). state_after_one i state op) same in
    subst (GoesOn image claim order (count + 1)) (sym is_after)
    (record {
      legal = (legal_parts image state op rest
          (subst (λ (o : List Op). is_legal image state o ≡ true) cut goes.legal)).1;
      value = goes.value
          ∙ ap (λ (o : List Op). later_by count (deciding_at image claim state o)) cut
          ∙ ap (later_by count) (at_later image claim state op rest not_yet)
          ∙ later_more count (deciding_at image claim after rest);
    })

pub found : (image : ImageParts) (claim : Claim) (order : List Op) (count : ℕ) (state : MachineState)
    → GoesOn image claim order count state → decides claim state ≡ true
    → Some count ≡ decided_after image claim order
found image claim order count state goes is =
    let here : count ≡ 0 + count = omega arith in
    ap (λ (n : ℕ). Some n) here
    ∙ sym (goes.value ∙ ap (later_by count) (at_once image claim state (drop count order) is))

pub not_found : (image : ImageParts) (claim : Claim) (order : List Op) (count : ℕ) (state : MachineState)
    → GoesOn image claim order count state → length order ≤ count → decides claim state ≡ false
    → None ≡ decided_after image claim order
not_found image claim order count state goes all is =
    sym (goes.value
    ∙ ap (λ (o : List Op). later_by count (deciding_at image claim state o)) (drop_all count order all)
    ∙ ap (later_by count) (at_never image claim state is))

-- what is said of the last state
pub said : (b : Bool) (count : ℕ) (result after : Option ℕ) → result ≡ then_some b count
    → (b ≡ true → Some count ≡ after) → (b ≡ false → None ≡ after) → result ≡ after
said true count result after is here never = is ∙ here refl
said false count result after is here never = is ∙ never refl

-- the part of an order that decides, by what was found
pub part_none : (image machine : ImageParts) (claim seen : Claim) (drawn order : List Op) (after : Option ℕ)
    → machine ≡ image → seen ≡ claim → order ≡ drawn → after ≡ decided_after machine seen order → after ≡ None
    → deciding_part image claim drawn ≡ None
unfolding deciding_part
part_none image machine claim seen drawn order after same claims orders is none =
    ap (λ (o : Option ℕ). up_to o drawn)
    (sym (is ∙ ap (λ (i : ImageParts). decided_after i seen order) same
    ∙ ap (λ (k : Claim). decided_after image k order) claims
    ∙ ap (decided_after image claim) orders) ∙ none)

pub part_some : (image machine : ImageParts) (claim seen : Claim) (drawn order cut : List Op) (after : Option ℕ)
    (count : ℕ) → machine ≡ image → seen ≡ claim → order ≡ drawn → after ≡ decided_after machine seen order
    → after ≡ Some count → cut ≡ take count order → deciding_part image claim drawn ≡ Some cut
unfolding deciding_part
part_some image machine claim seen drawn order cut after count same claims orders is some part =
    ap (λ (o : Option ℕ). up_to o drawn)
    (sym (is ∙ ap (λ (i : ImageParts). decided_after i seen order) same
    ∙ ap (λ (k : Claim). decided_after image k order) claims
    ∙ ap (decided_after image claim) orders) ∙ some)
    ∙ ap (λ (o : List Op). Some o) (sym (part ∙ ap (take count) orders))
