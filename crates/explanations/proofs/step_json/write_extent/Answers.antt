use Rattle.std.proofs.Common.{append_assoc, string_bytes, refl, ap, sym, ◌++◌, ◌∙◌}
use Rattle.explanations.proofs.ValueTexts.{at_text}
use Rattle.explanations.proofs.step_json.write_extent.Goals as goal

pub returns : goal.returns
returns c =
    let e = simp (
      c.in_ok-push_str-4.ensures.bytes,
      c.format-2.ensures.text,
      c.in_ok-push_str-3.ensures.bytes,
      c.in_ok-push_str-2.ensures.bytes,
      c.format.ensures.text,
      c.in_ok-push_str.ensures.bytes,
    ) at c.in_ok-push_str-5.ensures.bytes in
    let grouped = simp append_assoc at e in
    grouped ∙ ap (λ t. string_bytes c.args.out.now ++ t) (sym (at_text _ c.args.extent.now refl))
