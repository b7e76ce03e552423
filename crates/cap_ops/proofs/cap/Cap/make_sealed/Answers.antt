use Rattle.std.proofs.Common.{◌≡◌, ◌+◌, ◌^◌, ◌≤◌, true, arith, ap, sym, ◌∙◌, Ok}
use Rattle.std.proofs.lemmas.Bool.{false≢true}
use Rattle.cap_model.specs.words.PermissionNames.{known_permissions}
use Rattle.cap_model.specs.results.Addresses.{is_exact}
use Rattle.cap_model.proofs.Results.PermissionSets.{dropped_bits_leave_set}
use Rattle.cap_ops.proofs.Makings.{makeable, made_window, made_result, made-past_end, made-inexact, made-unrepresentable, made-ok}
use Rattle.cap_ops.proofs.cap.Cap.make_sealed.Goals as goal

pub returns-then-len-from : goal.returns-then-len-from
returns-then-len-from c =
    let from = c.from.ensures in
    sym (made-past_end c.args.base c.args.len c.args.addr c.args.perms.0 c.args.otype (omega arith))

pub returns-then-not-exact : goal.returns-then-not-exact
returns-then-not-exact c =
    let from = c.from.ensures in
    sym (made-inexact c.args.base c.args.len c.args.addr c.args.perms.0 c.args.otype (omega arith)
    (sym c.with_rounded_fields-upper.ensures.exact ∙ c.if-not-exact.true))

pub returns-then-not-representable : goal.returns-then-not-representable
returns-then-not-representable c =
    let from = c.from.ensures in
    let ends : c.args.base + c.args.len ≤ 2 ^ 64 = omega arith in
    let exact : is_exact c.args.base c.args.len ≡ true = sym c.with_rounded_fields-upper.ensures.exact ∙ c.if-not-exact.false in
    let fits = makeable c.args.base c.args.len (known_permissions c.args.perms.0) c.args.otype (dropped_bits_leave_set c.args.perms.0) c.requires (omega arith) ends exact in
    let upper = rw (c.with_otype-unbounded.ensures, c.with_perms.ensures, c.known_bits.ensures.value, c.number.ensures.value) at c.with_rounded_fields-upper.ensures.fields in
    let window = made_window _ _ _ _ fits _ c.args.addr upper in
    sym (made-unrepresentable c.args.base c.args.len c.args.addr c.args.perms.0 c.args.otype ends exact
    (λ inside. false≢true (sym c.if-not-representable.true ∙ c.representable.ensures.same.1 (window.1 inside))))

pub from_halves-requires : goal.from_halves-requires
from_halves-requires c =
    let from = c.from.ensures in
    let ends : c.args.base + c.args.len ≤ 2 ^ 64 = omega arith in
    let exact : is_exact c.args.base c.args.len ≡ true = sym c.with_rounded_fields-upper.ensures.exact ∙ c.if-not-exact.false in
    let fits = makeable c.args.base c.args.len (known_permissions c.args.perms.0) c.args.otype (dropped_bits_leave_set c.args.perms.0) c.requires (omega arith) ends exact in
    let upper = rw (c.with_otype-unbounded.ensures, c.with_perms.ensures, c.known_bits.ensures.value, c.number.ensures.value) at c.with_rounded_fields-upper.ensures.fields in
    let window = made_window _ _ _ _ fits _ c.args.addr upper in
    (made_result _ _ _ _ fits _ c.args.addr upper (omega arith) (window.0 (c.representable.ensures.same.0 c.if-not-representable.false))).tagged

pub returns : goal.returns
returns c =
    let from = c.from.ensures in
    let ends : c.args.base + c.args.len ≤ 2 ^ 64 = omega arith in
    let exact : is_exact c.args.base c.args.len ≡ true = sym c.with_rounded_fields-upper.ensures.exact ∙ c.if-not-exact.false in
    let fits = makeable c.args.base c.args.len (known_permissions c.args.perms.0) c.args.otype (dropped_bits_leave_set c.args.perms.0) c.requires (omega arith) ends exact in
    let upper = rw (c.with_otype-unbounded.ensures, c.with_perms.ensures, c.known_bits.ensures.value, c.number.ensures.value) at c.with_rounded_fields-upper.ensures.fields in
    let window = made_window _ _ _ _ fits _ c.args.addr upper in
    let inside = window.0 (c.representable.ensures.same.0 c.if-not-representable.false) in
    ap Ok (c.from_halves.ensures ∙ (made_result _ _ _ _ fits _ c.args.addr upper (omega arith) inside).same)
    ∙ sym (made-ok c.args.base c.args.len c.args.addr c.args.perms.0 c.args.otype ends exact inside)
