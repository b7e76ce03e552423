use Rattle.std.proofs.Common.{append_assoc, string_bytes, refl, ap, sym, ◌++◌, ◌∙◌}
use Rattle.explanations.proofs.ValueTexts.{cleared_text}
use Rattle.explanations.proofs.step_json.write_lost.Goals as goal

pub returns : goal.returns
returns c =
    let e = simp (
      c.in_ok-write_why.ensures,
      c.in_ok-push_str-2.ensures.bytes,
      c.in_ok-write_spot.ensures,
      c.in_ok-push_str.ensures.bytes,
    ) at c.in_ok-push_str-3.ensures.bytes in
    let grouped = simp append_assoc at e in
    grouped ∙ ap (λ t. string_bytes c.args.out.now ++ t) (sym (cleared_text _ c.args.cleared.now refl))
