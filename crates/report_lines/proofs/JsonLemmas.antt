-- Values, events and images in JSON: one value more in an object, and that none has a float.
use Rattle.std.proofs.Common.{◌≡◌, Ordering, Less, Equal, Greater, ℕ, List, Bool, true, false, ◌||◌, if◌then◌else◌, refl}
use Rattle.std.specs.Ordering.{nat_cmp, match_ordering}
use Rattle.std.specs.Cmp.Lexicographic.{slice_cmp}
use Rattle.serde_json.specs.Data.{Data, string, Members, no_members, member, put}
use Rattle.serde_json.specs.Written.{has_float, members_have_float}
use Rattle.cheri_model.specs.declared.operation.Event.{Event}
use Rattle.cheri_model.specs.declared.operation.Event.TheVariants as event
use Rattle.cheri_model.specs.declared.trace.Outcome.{Outcome}
use Rattle.cheri_model.specs.declared.trace.Outcome.TheVariants as outcome
use Rattle.cap_model.specs.values.CapValue.{CapValue, tag_of}
use Rattle.cheri_model.specs.runs.Image.{ImageParts}
use Rattle.cheri_model.specs.runs.ImageRules.{is_listed}
use Rattle.report_lines.specs.EventData.{event_members, event_data, step_members, image_data}
use Rattle.report_lines.specs.ValueData.{count, value_members, value_data, put_listed}
use Rattle.report_lines.specs.ValueText.{hex_text}

-- a value was put under its name
pub listed_put : (name key : List ℕ) (held : CapValue) (value : Data) (listed : Bool) (before after : Members)
    → listed ≡ is_listed held → listed ≡ true → key ≡ name → value ≡ value_data held
    → after ≡ put key value before → after ≡ put_listed name held before
listed_put name key held value listed before after tested is_so same shown put_now =
    rw (put_now, same, shown, ← tested, is_so) refl

-- ---- no float

put_at : (o : Ordering) (k l : List ℕ) (d e : Data) (rest later : Members)
    → has_float d ≡ false → has_float e ≡ false → members_have_float rest ≡ false → members_have_float later ≡ false
    → members_have_float (match_ordering o (member k d (member l e rest)) (member l d rest) (member l e later)) ≡ false
put_at Less k l d e rest later none here others more = rw (none, here, others)
put_at Equal k l d e rest later none here others more = rw (none, others)
put_at Greater k l d e rest later none here others more = rw (here, more)

or_left : (a b : Bool) → (a || b) ≡ false → a ≡ false
or_left true b h = h
or_left false b h = refl

or_right : (a b : Bool) → (a || b) ≡ false → b ≡ false
or_right true b h = cc
or_right false b h = h

pub put_no_float : (k : List ℕ) (d : Data) (members : Members)
    → has_float d ≡ false → members_have_float members ≡ false → members_have_float (put k d members) ≡ false
put_no_float k d no_members none others = rw none
put_no_float k d (member l e rest) none others =
    let here : has_float e ≡ false = or_left (has_float e) (members_have_float rest) others in
    let more : members_have_float rest ≡ false = or_right (has_float e) (members_have_float rest) others in
    put_at (slice_cmp nat_cmp k l) k l d e rest (put k d rest) none here more (put_no_float k d rest none more)

cond_keeps : {X : Type 0} (P : X → Type 0) (b : Bool) (x y : X) → P x → P y → P (if b then x else y)
cond_keeps P true x y first second = first
cond_keeps P false x y first second = second

pub value_no_float : (v : CapValue) → has_float (value_data v) ≡ false
unfolding value_members
value_no_float v = cond_keeps (λ ms. members_have_float ms ≡ false) (tag_of v) _ _ refl refl

pub listed_no_float : (name : List ℕ) (v : CapValue) (members : Members)
    → members_have_float members ≡ false → members_have_float (put_listed name v members) ≡ false
listed_no_float name v members others =
    cond_keeps (λ ms. members_have_float ms ≡ false) (is_listed v) _ _
    (put_no_float name (value_data v) members (value_no_float v) others) others

step_no_float : (hart : ℕ) (pc : List ℕ) (o : Outcome)
    → members_have_float (step_members (count hart) (string pc) o) ≡ false
step_no_float hart pc outcome.Done = refl
step_no_float hart pc outcome.Halt = refl
step_no_float hart pc (outcome.Trap trap) = refl

pub event_no_float : (e : Event) → has_float (event_data e) ≡ false
unfolding event_members
event_no_float (event.Step entry) = step_no_float entry.hart (hex_text 16 entry.pc) entry.outcome
event_no_float (event.Sweep cleared lo hi) = refl

pub image_no_float : (image : ImageParts) → has_float (image_data image) ≡ false
unfolding image_data
image_no_float image = refl

pub ruleset floatless = (event_no_float, value_no_float, image_no_float)
