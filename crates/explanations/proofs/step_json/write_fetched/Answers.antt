use Rattle.std.proofs.Common.{append_assoc, string_bytes, refl, ap, sym, ◌++◌, ◌∙◌}
use Rattle.explanations.proofs.ValueTexts.{instruction_text}
use Rattle.explanations.proofs.step_json.write_fetched.Goals as goal

pub returns : goal.returns
returns c =
    let e = simp (
      c.in_ok-write_form.ensures,
      c.form.ensures,
      c.in_ok-push_str.ensures.bytes,
    ) at c.in_ok-push_str-2.ensures.bytes in
    let grouped = simp append_assoc at e in
    grouped ∙ ap (λ t. string_bytes c.args.out.now ++ t) (sym (instruction_text _ c.args.fetched.now refl))
