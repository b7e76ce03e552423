use Rattle.sample_slices.proofs.claimed.checked_in.Goals as goal

pub returns-clause-checked : goal.returns-clause-checked
returns-clause-checked c =
    rw (
      c.in_ok-again.ensures,
      c.image.ensures,
      c.drawing.ensures,
      c.looked_at-properties.ensures,
      c.is_checked.ensures,
      c.is_shown.ensures,
    ) at c.checked_by.ensures.checked
