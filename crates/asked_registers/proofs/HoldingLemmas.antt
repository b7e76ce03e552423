-- What harts forget makes no difference to a condition that doesn't ask for it.
use Rattle.std.proofs.Common.{◌≡◌, ℕ, zero, suc, ◌+◌, ◌≤◌, length, get_or, List, [], ◌∷◌, refl, ap, ◌∙◌, arith}
use Rattle.std.specs.Prelude.{Bool, true, not, ◌||◌, ◌==◌, nat_lt, if◌then◌else◌, All}
use Rattle.std.proofs.lemmas.Bool.{or_left, or_right, eq-eqb}
use Rattle.std.proofs.lemmas.Bool.Decides.{nat_tests}
use Rattle.std.proofs.lemmas.List.Folds.{list_any_at}
use Rattle.cap_model.specs.declared.perms.Perms.{Perms}
use Rattle.cap_model.specs.values.CapValue.{CapValue}
use Rattle.cap_model.specs.results.Addresses.{address_of}
use Rattle.cheri_model.specs.declared.instr.Instr.{Instr}
use Rattle.cheri_model.specs.runs.Machine.{MachineState, hart_at}
use Rattle.cheri_model.specs.steps.Hart.{register}
use Rattle.cheri_model.specs.steps.Memory.{bytes_of, load_data}
use Rattle.conditions.specs.declared.parts.Atom.{Atom}
use Rattle.conditions.specs.declared.parts.Atom.TheVariants as atom
use Rattle.conditions.specs.declared.parts.Holder.{Holder}
use Rattle.conditions.specs.declared.parts.Holder.TheVariants as holder
use Rattle.conditions.specs.declared.parts.Node.{Node}
use Rattle.conditions.specs.declared.parts.Node.TheVariants as node
use Rattle.conditions.specs.declared.parts.Own.{Own}
use Rattle.conditions.specs.declared.parts.Own.TheVariants as own
use Rattle.conditions.specs.declared.parts.Place.TheVariants as place
use Rattle.conditions.specs.declared.parts.Shown.{Shown}
use Rattle.conditions.specs.declared.parts.Shown.TheVariants as shown
use Rattle.conditions.specs.declared.parts.Source.{Source}
use Rattle.conditions.specs.declared.parts.Source.TheVariants as source
use Rattle.conditions.specs.declared.parts.Term.{Term}
use Rattle.conditions.specs.declared.parts.Term.TheVariants as term
use Rattle.conditions.specs.Formulas.{Formula, says, deny, enclosed, join, counted, grow, grown, last_part, formula_of}
use Rattle.conditions.specs.Holding.{joined, how_many, is_so, holds}
use Rattle.conditions.specs.Values.{field_value, value_in, number_at, compares, has_status, grants, registers_grant, reaches, number_of, own_value, source_number, term_number, is_between, atom_holds}
use Rattle.live_registers.specs.RegisterSets.{has}
use Rattle.live_registers.specs.LiveSets.{LiveSets, IsRight}
use Rattle.forgotten_runs.specs.ForgottenRuns.{forgotten_state}
use Rattle.forgotten_runs.proofs.OperationLemmas.{count_kept, pcc_kept, status_kept, register_kept}
use Rattle.asked_registers.specs.Asked.{holder_asks, own_asks, source_asks, term_asks, atom_asks, node_asks, condition_asks, item_asks, items_ask, HasAsked, ShowsSame}

-- what one half asks for is asked for
pub left_asked : (set : List Bool) (one other : ℕ → Bool) → HasAsked set (λ reg. one reg || other reg) → HasAsked set one
left_asked set one other asked reg asks = asked reg (or_left (one reg) (other reg) asks)

pub right_asked : (set : List Bool) (one other : ℕ → Bool) → HasAsked set (λ reg. one reg || other reg) → HasAsked set other
right_asked set one other asked reg asks = asked reg (or_right (one reg) (other reg) asks)

-- of as many numbers what holds of the same
how_many_same : (p q : ℕ → Bool) → ((n : ℕ) → p n ≡ q n) → (count : ℕ) → how_many p count ≡ how_many q count
unfolding how_many
how_many_same p q same zero = refl
how_many_same p q same (suc n) =
    ap (λ (k : ℕ). k + (if p n then 1 else 0)) (how_many_same p q same n)
    ∙ ap (λ (b : Bool). how_many q n + (if b then 1 else 0)) (same n)

-- ---- the trees of conditions

-- each atom of a condition asks for what a set has
unfoldable pub IsAskedIn : List Bool → Formula → Type 0
IsAskedIn set (says a) = HasAsked set (atom_asks a)
IsAskedIn set (deny f) = IsAskedIn set f
IsAskedIn set (enclosed f) = IsAskedIn set f
IsAskedIn set (join joint f g) = IsAskedIn set f × IsAskedIn set g
IsAskedIn set (counted f comparison number) = IsAskedIn set f

AreAskedIn : List Bool → List Formula → Type 0
AreAskedIn set [] = Unit {0}
AreAskedIn set (f ∷ fs) = IsAskedIn set f × AreAskedIn set fs

grow_asked : (set : List Bool) (n : Node) (fs : List Formula) → HasAsked set (node_asks n) → AreAskedIn set fs →
    AreAskedIn set (grow n fs)
unfolding grow node_asks AreAskedIn IsAskedIn
grow_asked set (node.Says a) fs asked are = (asked, are)
grow_asked set node.Not [] asked are = are
grow_asked set node.Not (f ∷ fs) asked are = are
grow_asked set node.Enclosed [] asked are = are
grow_asked set node.Enclosed (f ∷ fs) asked are = are
grow_asked set (node.Joined joint second) [] asked are = are
grow_asked set (node.Joined joint second) (g ∷ []) asked are = are
grow_asked set (node.Joined joint second) (g ∷ f ∷ fs) asked are = ((are.1.0, are.0), are.1.1)
grow_asked set (node.Counted comparison number) [] asked are = are
grow_asked set (node.Counted comparison number) (f ∷ fs) asked are = are

grown_asked : (set : List Bool) (fs : List Formula) (nodes : List Node) → HasAsked set (condition_asks nodes) →
    AreAskedIn set fs → AreAskedIn set (grown fs nodes)
unfolding grown condition_asks AreAskedIn
grown_asked set fs [] asked are = are
grown_asked set fs (n ∷ nodes) asked are =
    grown_asked set (grow n fs) nodes (right_asked set (node_asks n) (condition_asks nodes) asked)
    (grow_asked set n fs (left_asked set (node_asks n) (condition_asks nodes) asked) are)

last_asked : (set : List Bool) (fs : List Formula) → AreAskedIn set fs → IsAskedIn set (last_part fs)
unfolding atom_asks IsAskedIn AreAskedIn
last_asked set [] are = λ reg asks. absurd (cc)
last_asked set (f ∷ fs) are = are.0

pub formula_asked : (set : List Bool) (nodes : List Node) → HasAsked set (condition_asks nodes) → IsAskedIn set (formula_of nodes)
unfolding formula_of AreAskedIn
formula_asked set nodes asked = last_asked set (grown [] nodes) (grown_asked set [] nodes asked tt)

-- ---- what is so in a state

module _ (program : List Instr) (live : LiveSets) (right : IsRight program live) (s : MachineState) where
  abbrev lost : MachineState
  lost = forgotten_state live s

  named_same : (hart named : ℕ) → HasAsked live.asked (λ reg. reg == named) →
      register (hart_at lost hart) named ≡ register (hart_at s hart) named
  named_same hart named asked = register_kept live program s hart named right (asked named (eq-eqb named named refl))

  value_same : (held : Holder) → HasAsked live.asked (holder_asks held) → value_in held lost ≡ value_in held s
  unfolding value_in holder_asks forgotten_state
  value_same (holder.Register hart named) asked = named_same hart named asked
  value_same (holder.Pcc hart) asked = pcc_kept live s hart
  value_same (holder.Granule addr) asked = refl

  own_same : (held : Own) (hart : ℕ) → HasAsked live.asked (own_asks held) →
      own_value held (hart_at lost hart) ≡ own_value held (hart_at s hart)
  unfolding own_value own_asks
  own_same (own.Register named) hart asked = named_same hart named asked
  own_same own.Pcc hart asked = pcc_kept live s hart

  data_same : (addr : ℕ) (bytes : ℕ) → load_data lost.memory addr bytes ≡ load_data s.memory addr bytes
  unfolding forgotten_state
  data_same addr bytes = refl

  pub source_same : (each : ℕ) (from : Source) → HasAsked live.asked (source_asks from) →
      source_number lost each from ≡ source_number s each from
  unfolding source_number number_at source_asks
  source_same each (source.Value held read) asked = ap (field_value read) (value_same held asked)
  source_same each (source.Data addr width) asked = data_same addr (bytes_of width)
  source_same each (source.Each held read) asked = ap (field_value read) (own_same held each asked)

  term_same : (each : ℕ) (with : Term) → HasAsked live.asked (term_asks with) →
      term_number lost each with ≡ term_number s each with
  unfolding term_number term_asks
  term_same each (term.Number number) asked = refl
  term_same each (term.Source from) asked = source_same each from asked

  grant_same : (addr : ℕ) (perms : Perms) (hart number count : ℕ) → HasAsked live.asked (λ reg. nat_lt reg 32) →
      number + count ≤ 32 →
      registers_grant addr perms (hart_at lost hart) number count ≡ registers_grant addr perms (hart_at s hart) number count
  unfolding registers_grant
  grant_same addr perms hart number zero asked low = refl
  grant_same addr perms hart number (suc count) asked low =
      let held : has live.asked number ≡ true = asked number (grind (arith, nat_tests)) in
      let later = registers_grant addr perms (hart_at lost hart) (number + 1) count in
      ap (λ (v : CapValue). grants addr perms v || later) (register_kept live program s hart number right held)
      ∙ ap (λ (b : Bool). grants addr perms (register (hart_at s hart) number) || b)
      (grant_same addr perms hart (number + 1) count asked (omega arith))

  reaches_same : (addr : ℕ) (perms : Perms) (hart : ℕ) → HasAsked live.asked (λ reg. nat_lt reg 32) →
      reaches addr perms (hart_at lost hart) ≡ reaches addr perms (hart_at s hart)
  unfolding reaches
  reaches_same addr perms hart asked =
      ap (λ (v : CapValue). grants addr perms v || registers_grant addr perms (hart_at lost hart) 1 31) (pcc_kept live s hart)
      ∙ ap (λ (b : Bool). grants addr perms (hart_at s hart).pcc || b) (grant_same addr perms hart 1 31 asked (omega arith))

  atom_same : (each : ℕ) (a : Atom) → HasAsked live.asked (atom_asks a) → atom_holds lost each a ≡ atom_holds s each a
  unfolding atom_holds atom_asks
  atom_same each (atom.Compares from comparison with) asked =
      ap (λ (x : ℕ). compares comparison x (term_number lost each with))
      (source_same each from (left_asked live.asked (source_asks from) (term_asks with) asked))
      ∙ ap (λ (y : ℕ). compares comparison (source_number s each from) y)
      (term_same each with (right_asked live.asked (source_asks from) (term_asks with) asked))
  atom_same each (atom.HasStatus who wanted) asked = ap (has_status wanted) (status_kept live s (number_of who each))
  atom_same each (atom.Reaches who addr perms) asked = reaches_same addr perms (number_of who each) asked
  atom_same each (atom.IsAt who addr) asked =
      ap (λ (pcc : CapValue). address_of pcc == addr) (pcc_kept live s (number_of who each))
  atom_same each (atom.IsIn who first second) asked =
      ap (λ (pcc : CapValue). is_between first second (address_of pcc)) (pcc_kept live s (number_of who each))

  pub so_same : (f : Formula) (each : ℕ) → IsAskedIn live.asked f → is_so lost each f ≡ is_so s each f
  unfolding is_so IsAskedIn
  so_same (says a) each asked = atom_same each a asked
  so_same (deny f) each asked = ap not (so_same f each asked)
  so_same (enclosed f) each asked = so_same f each asked
  so_same (join joint f g) each asked =
      ap (λ (x : Bool). joined joint x (is_so lost each g)) (so_same f each asked.0)
      ∙ ap (λ (y : Bool). joined joint (is_so s each f) y) (so_same g each asked.1)
  so_same (counted f comparison number) each asked =
      ap (λ (k : ℕ). compares comparison k number)
      (how_many_same (λ hart. is_so lost hart f) (λ hart. is_so s hart f) (λ hart. so_same f hart asked) (length lost.harts)
      ∙ ap (how_many (λ hart. is_so s hart f)) (count_kept live s))

  pub holds_same : (nodes : List Node) → HasAsked live.asked (condition_asks nodes) → holds lost nodes ≡ holds s nodes
  unfolding holds
  holds_same nodes asked = so_same (formula_of nodes) 0 (formula_asked live.asked nodes asked)

  shows_same : (item : Shown) → HasAsked live.asked (item_asks item) → ShowsSame lost s item
  unfolding ShowsSame item_asks number_at
  shows_same (shown.Number (place.Value held read)) asked = ap (field_value read) (value_same held asked)
  shows_same (shown.Number (place.Data addr width)) asked = data_same addr (bytes_of width)
  shows_same (shown.Status hart) asked = status_kept live s hart

  pub all_same : (items : List Shown) → HasAsked live.asked (items_ask items) → All (ShowsSame lost s) items
  unfolding items_ask
  all_same items asked number default inside =
      let item = get_or items number default in
      shows_same item (λ reg asks. asked reg (list_any_at (λ other. item_asks other reg) items number default inside asks))
