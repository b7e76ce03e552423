-- Each reason is said by one call.
use Rattle.std.proofs.Common.{◌≡◌, ℕ, List, ◌++◌, Result, Ok, Err, string_bytes, codes}
use Rattle.std.specs.Prelude.{OnOk, is_ok, if◌then◌else◌}
use Rattle.explanations.specs.Reasons.{why_text}
use Rattle.explanations.proofs.reasons.write_why.Goals as goal

-- what a call that is done appended
appended : {T E : Type 0} (result : Result T E) (new whole old : List ℕ) → new ≡ (if is_ok result then whole else old) → OnOk result (new ≡ whole)
appended (Ok x) new whole old is = is
appended (Err e) new whole old is = tt

pub returns-in-Sealed : goal.returns-in-Sealed
unfolding why_text
returns-in-Sealed c = rw c.in-Sealed.is c.write_sealed.ensures

pub returns-in-OutsideRegion : goal.returns-in-OutsideRegion
unfolding why_text
returns-in-OutsideRegion c = rw c.in-OutsideRegion.is c.write_outside_region.ensures

pub returns-in-BaseBelow : goal.returns-in-BaseBelow
unfolding why_text
returns-in-BaseBelow c = rw c.in-BaseBelow.is c.write_base_below.ensures

pub returns-in-Lacks : goal.returns-in-Lacks
unfolding why_text
returns-in-Lacks c = rw c.in-Lacks.is c.write_lacks.ensures

pub returns-in-TypeOutside : goal.returns-in-TypeOutside
unfolding why_text
returns-in-TypeOutside c = rw c.in-TypeOutside.is c.write_type_outside.ensures

pub returns-in-TypeAbove : goal.returns-in-TypeAbove
unfolding why_text
returns-in-TypeAbove c = rw c.in-TypeAbove.is c.write_type_above.ensures

pub returns-in-TypeDiffers : goal.returns-in-TypeDiffers
unfolding why_text
returns-in-TypeDiffers c = rw c.in-TypeDiffers.is c.write_type_differs.ensures

pub returns-in-MorePermissions : goal.returns-in-MorePermissions
unfolding why_text
returns-in-MorePermissions c = rw c.in-MorePermissions.is c.write_more.ensures

pub returns-in-NotAligned : goal.returns-in-NotAligned
unfolding why_text
returns-in-NotAligned c = rw c.in-NotAligned.is c.write_address.ensures

pub returns-in-EndAbove : goal.returns-in-EndAbove
unfolding why_text
returns-in-EndAbove c = rw c.in-EndAbove.is c.write_above.ensures

pub returns-in-TopAbove : goal.returns-in-TopAbove
unfolding why_text
returns-in-TopAbove c = rw c.in-TopAbove.is c.write_above-in-TopAbove.ensures

pub returns-in-Rounds : goal.returns-in-Rounds
unfolding why_text
returns-in-Rounds c = rw c.in-Rounds.is c.write_bounds.ensures

pub returns-in-BaseAboveTop : goal.returns-in-BaseAboveTop
unfolding why_text
returns-in-BaseAboveTop c = rw c.in-BaseAboveTop.is c.write_bounds-in-BaseAboveTop.ensures

pub returns-in-Untagged : goal.returns-in-Untagged
unfolding why_text
returns-in-Untagged c = rw c.in-Untagged.is c.write_of.ensures

pub returns-in-NotSealed : goal.returns-in-NotSealed
unfolding why_text
returns-in-NotSealed c = rw c.in-NotSealed.is c.write_of-in-NotSealed.ensures

pub returns-in-Sentry : goal.returns-in-Sentry
unfolding why_text
returns-in-Sentry c = rw c.in-Sentry.is c.write_of-in-Sentry.ensures

pub returns-in-ReservedBits : goal.returns-in-ReservedBits
unfolding why_text
returns-in-ReservedBits c = rw c.in-ReservedBits.is c.write_of-in-ReservedBits.ensures

pub returns-in-AskedFor : goal.returns-in-AskedFor
unfolding why_text
returns-in-AskedFor c =
    rw c.in-AskedFor.is
    (appended c.push_str.result (string_bytes c.push_str.new.self) (string_bytes c.args.out.now ++ codes "asked for")
    (string_bytes c.args.out.now) c.push_str.ensures.bytes)

pub returns-in-UpperReplaced : goal.returns-in-UpperReplaced
unfolding why_text
returns-in-UpperReplaced c =
    rw c.in-UpperReplaced.is
    (appended c.push_str-in-UpperReplaced.result (string_bytes c.push_str-in-UpperReplaced.new.self) (string_bytes c.args.out.now ++ codes "upper half replaced")
    (string_bytes c.args.out.now) c.push_str-in-UpperReplaced.ensures.bytes)

pub returns-in-DataStored : goal.returns-in-DataStored
unfolding why_text
returns-in-DataStored c =
    rw c.in-DataStored.is
    (appended c.push_str-in-DataStored.result (string_bytes c.push_str-in-DataStored.new.self) (string_bytes c.args.out.now ++ codes "data over a capability")
    (string_bytes c.args.out.now) c.push_str-in-DataStored.ensures.bytes)
