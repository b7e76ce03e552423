-- What harts forget makes no difference to what a condition sees of a step, where it doesn't ask for
-- it.
use Rattle.std.proofs.Common.{◌≡◌, ℕ, zero, suc, List, [], ◌∷◌, map, refl, ap, ◌∙◌}
use Rattle.std.specs.Prelude.{Bool, true, false, not, ◌&&◌, ◌||◌, if◌then◌else◌, replicate, Option, Some, None}
use Rattle.cheri_model.specs.declared.instr.Instr.{Instr}
use Rattle.cheri_model.specs.runs.Machine.{MachineState}
use Rattle.cheri_model.specs.steps.Hart.{HartState}
use Rattle.conditions.specs.declared.parts.Atom.{Atom}
use Rattle.conditions.specs.declared.parts.Atom.TheVariants as atom
use Rattle.conditions.specs.declared.parts.Joint.{Joint}
use Rattle.conditions.specs.declared.parts.Node.{Node}
use Rattle.conditions.specs.declared.parts.Source.{Source}
use Rattle.conditions.specs.declared.parts.Subject.{Subject}
use Rattle.conditions.specs.declared.parts.Subject.TheVariants.{Numbered, Each}
use Rattle.conditions.specs.declared.parts.Term.{Term}
use Rattle.conditions.specs.declared.parts.Term.TheVariants as term
use Rattle.conditions.specs.Formulas.{Formula, says, deny, enclosed, join, counted, formula_of}
use Rattle.conditions.specs.Hiding.{alone, alone_source, is_of, neutral, is_joint, copies, all_alike, so_of, part_so, parts_so, Chain, single, chain, chain_of, unit_so, unit_or, stays_so, moves, left_way, opposite, source_moves, source_moves_of, term_moves, atom_keeps, count_needs, keeps, hides}
use Rattle.conditions.specs.Holding.{joined, is_so}
use Rattle.conditions.specs.Values.{source_number}
use Rattle.live_registers.specs.LiveSets.{LiveSets, IsRight, forgotten_hart}
use Rattle.forgotten_runs.specs.ForgottenRuns.{forgotten_state}
use Rattle.asked_registers.specs.Asked.{HasAsked, source_asks, term_asks, atom_asks, condition_asks}
use Rattle.asked_registers.proofs.HoldingLemmas.{IsAskedIn, left_asked, right_asked, source_same, so_same, formula_asked}

map_alike : (f : HartState → HartState) (n : ℕ) (h : HartState) → replicate n (f h) ≡ map f (replicate n h)
map_alike f zero h = refl
map_alike f (suc n) h = ap (λ (hs : List HartState). f h ∷ hs) (map_alike f n h)

-- what is so of both harts of a step
both : {A B C : Type 0} (f : A → B → C) (x x' : A) (y y' : B) → x ≡ x' → y ≡ y' → f x y ≡ f x' y'
both {A} {B} {C} f x x' y y' one other = ap (λ (a : A). f a y) one ∙ ap (f x') other

-- the parts that a part is joined with ask for what a set has
IsAskedBy : List Bool → Chain → Type 0
IsAskedBy set single = Unit {0}
IsAskedBy set (chain joint whole) = IsAskedIn set whole

chain_asked : (set : List Bool) (around : Chain) (joint : Joint) (f : Formula) → IsAskedBy set around → IsAskedIn set f →
    IsAskedBy set (chain_of around joint f)
unfolding IsAskedBy
chain_asked set single joint f around asked = asked
chain_asked set (chain j whole) joint f around asked =
    elim (is_joint j joint)
    as (λ (b : Bool). IsAskedBy set (if b then chain j whole else chain joint f)) [
      | true ↦ around
      | false ↦ asked
    ]

module _ (program : List Instr) (live : LiveSets) (right : IsRight program live) where
  abbrev forget : HartState → HartState
  forget h = forgotten_hart live h

  copies_forget : (who : Subject) (h : HartState) → copies who (forget h) ≡ forgotten_state live (copies who h)
  unfolding forgotten_state
  copies_forget (Numbered number) h =
      ap (λ (hs : List HartState). record (copies (Numbered number) h) { harts = hs }) (map_alike (forgotten_hart live) _ h)
  copies_forget Each h =
      ap (λ (hs : List HartState). record (copies Each h) { harts = hs }) (map_alike (forgotten_hart live) 1 h)

  so_of_same : (who : Subject) (h : HartState) (f : Formula) → IsAskedIn live.asked f → so_of who (forget h) f ≡ so_of who h f
  unfolding so_of
  so_of_same who h f asked =
      ap (λ (s : MachineState). is_so s 0 f) (copies_forget who h) ∙ so_same program live right (copies who h) f 0 asked

  part_same : (joint : Joint) (who : Subject) (h : HartState) (f : Formula) → IsAskedIn live.asked f →
      part_so joint who (forget h) f ≡ part_so joint who h f
  part_same joint who h f asked =
      ap (λ (b : Bool). if is_of who (alone f) then b else neutral joint) (so_of_same who h f asked)

  parts_same : (joint : Joint) (who : Subject) (h : HartState) (f : Formula) → IsAskedIn live.asked f →
      parts_so joint who (forget h) f ≡ parts_so joint who h f
  unfolding parts_so IsAskedIn
  parts_same joint who h (says a) asked = part_same joint who h (says a) asked
  parts_same joint who h (deny f) asked = part_same joint who h (deny f) asked
  parts_same joint who h (enclosed f) asked = part_same joint who h (enclosed f) asked
  parts_same joint who h (join j f g) asked =
      both (λ (x y : Bool). if is_joint joint j then x else y) _ _ _ _
      (both (joined joint) _ _ _ _ (parts_same joint who h f asked.0) (parts_same joint who h g asked.1))
      (part_same joint who h (join j f g) asked)
  parts_same joint who h (counted f c n) asked = part_same joint who h (counted f c n) asked

  unit_same : (around : Chain) (who : Subject) (h : HartState) (f : Formula) → IsAskedBy live.asked around →
      IsAskedIn live.asked f → unit_so around who (forget h) f ≡ unit_so around who h f
  unfolding IsAskedBy
  unit_same single who h f around asked = so_of_same who h f asked
  unit_same (chain joint whole) who h f around asked = parts_same joint who h whole around

  number_same : (who : Subject) (h : HartState) (from : Source) → HasAsked live.asked (source_asks from) →
      source_number (copies who (forget h)) 0 from ≡ source_number (copies who h) 0 from
  number_same who h from asked =
      ap (λ (s : MachineState). source_number s 0 from) (copies_forget who h)
      ∙ source_same program live right (copies who h) 0 from asked

  module _ (before after : HartState) where
    moves_of_same : (o : Option Subject) (way : _) (from : Source) → HasAsked live.asked (source_asks from) →
        source_moves_of o way from (forget before) (forget after) ≡ source_moves_of o way from before after
    moves_of_same (Some who) way from asked =
        both (moves way) _ _ _ _ (number_same who before from asked) (number_same who after from asked)
    moves_of_same None way from asked = refl

    source_moves_same : (way : _) (from : Source) → HasAsked live.asked (source_asks from) →
        source_moves way from (forget before) (forget after) ≡ source_moves way from before after
    unfolding source_moves
    source_moves_same way from asked = moves_of_same (alone_source from) way from asked

    term_moves_same : (way : _) (with : Term) → HasAsked live.asked (term_asks with) →
        term_moves way with (forget before) (forget after) ≡ term_moves way with before after
    unfolding term_asks
    term_moves_same way (term.Number number) asked = refl
    term_moves_same way (term.Source from) asked = source_moves_same way from asked

    atom_keeps_same : (wanted : Bool) (a : Atom) → HasAsked live.asked (atom_asks a) →
        atom_keeps wanted a (forget before) (forget after) ≡ atom_keeps wanted a before after
    unfolding atom_keeps atom_asks
    atom_keeps_same wanted (atom.Compares from compared with) asked =
        both (λ (x y : Bool). x && y) _ _ _ _
        (source_moves_same (left_way wanted compared) from (left_asked live.asked (source_asks from) (term_asks with) asked))
        (term_moves_same (opposite (left_way wanted compared)) with
        (right_asked live.asked (source_asks from) (term_asks with) asked))
    atom_keeps_same wanted (atom.HasStatus who test) asked = refl
    atom_keeps_same wanted (atom.Reaches who addr perms) asked = refl
    atom_keeps_same wanted (atom.IsAt who addr) asked = refl
    atom_keeps_same wanted (atom.IsIn who first second) asked = refl

    unit_or_same : (o : Option Subject) (wanted : Bool) (around : Chain) (f : Formula) (more less : Bool) →
        IsAskedBy live.asked around → IsAskedIn live.asked f → more ≡ less →
        unit_or o wanted around f (forget before) (forget after) more ≡ unit_or o wanted around f before after less
    unit_or_same (Some who) wanted around f more less chained asked same =
        both (stays_so wanted) _ _ _ _ (unit_same around who before f chained asked) (unit_same around who after f chained asked)
    unit_or_same None wanted around f more less chained asked same = same

    keeps_same : (wanted : Bool) (around : Chain) (f : Formula) → IsAskedBy live.asked around → IsAskedIn live.asked f →
        keeps wanted around f (forget before) (forget after) ≡ keeps wanted around f before after
    unfolding keeps IsAskedIn IsAskedBy
    keeps_same wanted around (says a) chained asked =
        unit_or_same (alone (says a)) wanted around (says a) _ _ chained asked (atom_keeps_same wanted a asked)
    keeps_same wanted around (deny f) chained asked =
        unit_or_same (alone (deny f)) wanted around (deny f) _ _ chained asked (keeps_same (not wanted) single f tt asked)
    keeps_same wanted around (enclosed f) chained asked =
        unit_or_same (alone (enclosed f)) wanted around (enclosed f) _ _ chained asked (keeps_same wanted single f tt asked)
    keeps_same wanted around (join j f g) chained asked =
        let all = chain_asked live.asked around j (join j f g) chained asked in
        unit_or_same (alone (join j f g)) wanted around (join j f g) _ _ chained asked
        (both (λ (x y : Bool). x && y) _ _ _ _
        (keeps_same wanted (chain_of around j (join j f g)) f all asked.0)
        (keeps_same wanted (chain_of around j (join j f g)) g all asked.1))
    keeps_same wanted around (counted f c n) chained asked =
        both (λ (x y : Bool). (not (count_needs wanted c n true) || x) && (not (count_needs wanted c n false) || y)) _ _ _ _
        (keeps_same true single f tt asked) (keeps_same false single f tt asked)

    pub hides_same : (nodes : List Node) → HasAsked live.asked (condition_asks nodes) →
        hides nodes (forget before) (forget after) ≡ hides nodes before after
    unfolding hides IsAskedBy
    hides_same nodes asked = keeps_same true single (formula_of nodes) tt (formula_asked live.asked nodes asked)
