-- The first line of a table that holds, with its numbers.
use Rattle.std.specs.Prelude.{◌≡◌, Bool, true, false, List, [], ◌∷◌, Option, Some, None, is_none}
use Rattle.std.proofs.Common.{refl, sym, ◌∙◌, ap}
use Rattle.std.specs.Option.{option_map}
use Rattle.std.proofs.lemmas.List.Elements.{All-nil, All-cons}
use Rattle.cap_model.specs.declared.reason.Reason.{Reason}
use Rattle.cap_model.specs.values.CapValue.{IsLawfulValue, tag_of}
use Rattle.cap_model.specs.results.CapInstructions.{CapInstruction, capability_result}
use Rattle.cap_model.specs.results.Reasons.{first_reason, no_reason, reasons}
use Rattle.cap_model.proofs.Results.ReasonTables.{tag_kept}
use Rattle.facts.specs.declared.operands.Operands.{Operands}
use Rattle.facts.specs.declared.why.Why.{Why}
use Rattle.facts.specs.Losses.{first_why, why_of, why_lost}
use Rattle.facts.specs.ClearsLaw.{IsFirst, IsReason}

why_line : (op : CapInstruction) (o : Operands) (b : Bool) (reason : Reason) (rest : List (Bool × Reason)) →
    first_why op o rest ≡ option_map (why_of op o) (first_reason rest) →
    first_why op o ((b, reason) ∷ rest) ≡ option_map (why_of op o) (first_reason ((b, reason) ∷ rest))
unfolding first_why first_reason
why_line op o true reason rest later = refl
why_line op o false reason rest later = later

-- it is the first reason of the table, with its numbers
pub first_why_is : (op : CapInstruction) (o : Operands) (table : List (Bool × Reason)) →
    first_why op o table ≡ option_map (why_of op o) (first_reason table)
unfolding first_why first_reason
first_why_is op o [] = refl
first_why_is op o (line ∷ rest) = why_line op o line.0 line.1 rest (first_why_is op o rest)

none_mapped : {A B : Type 0} → (f : A → B) (o : Option A) → is_none (option_map f o) ≡ is_none o
none_mapped f None = refl
none_mapped f (Some x) = refl

pub kept_without_why : (op : CapInstruction) (o : Operands) → IsLawfulValue o.v → tag_of (capability_result op o.v o.w) ≡ is_none (why_lost op o)
unfolding why_lost no_reason
kept_without_why op o lawful =
    tag_kept op o.v o.w lawful
    ∙ sym (none_mapped (why_of op o) (first_reason (reasons op o.v o.w)))
    ∙ ap (λ why. is_none why) (sym (first_why_is op o (reasons op o.v o.w)))

-- the reason that a table tells is that of its first line that holds
first_line : (b : Bool) (line : Reason) (rest : List (Bool × Reason)) (reason : Reason) → (first_reason rest ≡ Some reason → IsFirst rest reason) →
    first_reason ((b, line) ∷ rest) ≡ Some reason → IsFirst ((b, line) ∷ rest) reason
unfolding first_reason
first_line true line rest reason later is = let same : line ≡ reason = cc in record {
  before = [];
  after = rest;
  lines = ap (λ r. (true, r) ∷ rest) same;
  none_before = All-nil (λ l. l.0 ≡ false);
}
first_line false line rest reason later is = let first = later is in record {
  before = (false, line) ∷ first.before;
  after = first.after;
  lines = ap (λ table. (false, line) ∷ table) first.lines;
  none_before = All-cons (λ l. l.0 ≡ false) (false, line) first.before refl first.none_before;
}

first_holds : (table : List (Bool × Reason)) (reason : Reason) → first_reason table ≡ Some reason → IsFirst table reason
unfolding first_reason
first_holds [] reason is = absurd (cc)
first_holds (line ∷ rest) reason is = first_line line.0 line.1 rest reason (first_holds rest reason) is

mapped_reason : (op : CapInstruction) (o : Operands) (why : Why) (first : Option Reason) → first_reason (reasons op o.v o.w) ≡ first →
    option_map (why_of op o) first ≡ Some why → IsReason op o why
mapped_reason op o why None is given = absurd (cc)
mapped_reason op o why (Some reason) is given = record {
  reason = reason;
  first = first_holds (reasons op o.v o.w) reason is;
  said = cc;
}

pub reason_so : (op : CapInstruction) (o : Operands) (why : Why) → why_lost op o ≡ Some why → IsReason op o why
unfolding why_lost
reason_so op o why given =
    mapped_reason op o why (first_reason (reasons op o.v o.w)) refl (sym (first_why_is op o (reasons op o.v o.w)) ∙ given)
