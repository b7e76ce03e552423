use Rattle.std.proofs.Common.{◌∙◌, ap}
use Rattle.std.proofs.lemmas.Result.{IfOk-weaker}
use Rattle.std.specs.Prelude.{Bool, string_bytes}
use Rattle.sample_texts.specs.SampleParts.{shown_items}
use Rattle.sample_slices.specs.Slices.{SliceParts, asked, looked_at}
use Rattle.sample_slices.proofs.TextLemmas.{is_text}
use Rattle.sample_slices.proofs.slice.Slice.text_with.Goals as goal

pub returns : goal.returns
returns c =
    let listing = c.args.listing.now in
    let slice = c.args.self.now in
    IfOk-weaker c.sample_text.result _ _
    (λ text is. is_text listing.image c.image-image.result.now (asked (looked_at listing.properties slice.is_checked))
    c.properties-properties.result.now slice c.drawing-drawing.result.now c.decided-decided.result.now (shown_items c.args.items)
    c.numbers.result.now c.tally.result.now.sum c.in_ok-told.told.items c.as_slice.result.now c.args.format (string_bytes text)
    c.image-image.ensures
    (c.properties-properties.ensures ∙ ap (λ (b : Bool). asked (looked_at listing.properties b)) c.is_checked.ensures)
    c.drawing-drawing.ensures (c.decided-decided.ensures.decided ∙ ap (λ (s : SliceParts). s.decided) c.self.view_is)
    c.requires.items c.numbers.ensures (c.tally.ensures.sum ∙ ap (λ (s : SliceParts). s.sum) c.self.view_is) c.as_slice.ensures.value
    c.in_ok-told.ensures.properties c.in_ok-told.ensures.told is) c.sample_text.ensures
