use Rattle.std.proofs.Common.{append_assoc, string_bytes, refl, ap, sym, ◌++◌, ◌∙◌}
use Rattle.explanations.proofs.ValueTexts.{from_text}
use Rattle.explanations.proofs.named_json.write_origin_member.Goals as goal

pub returns : goal.returns
returns c =
    let e = simp (
      c.in_ok-push_str-3.ensures.bytes,
      c.in_ok-write_origin.ensures,
      c.in_ok-push_str-2.ensures.bytes,
      c.in_ok-push_str.ensures.bytes,
    ) at c.in_ok-push_str-4.ensures.bytes in
    let grouped = simp append_assoc at e in
    grouped ∙ ap (λ t. string_bytes c.args.out.now ++ t) (sym (from_text c.args.before.now c.args.after.now _ c.args.place refl))
