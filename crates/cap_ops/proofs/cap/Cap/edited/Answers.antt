use Rattle.std.proofs.Common.{ap, sym, ◌∙◌}
use Rattle.cap_model.specs.values.CapValue.{value_at, IsTaggedWord}
use Rattle.cap_model.specs.results.EditedWords.{word_of_halves}
use Rattle.cap_ops.proofs.Unpacking.{edited_base, edited_top, own_addr}
use Rattle.cap_ops.proofs.cap.Cap.edited.Goals as goal

pub from_decoded-requires-clause-tagged : goal.from_decoded-requires-clause-tagged
from_decoded-requires-clause-tagged c = rw (own_addr _ _ _ _ _ _ _ _ _ _ c.self.invariant c.self.view_is) at c.requires.tagged

pub from_decoded-requires-clause-base : goal.from_decoded-requires-clause-base
from_decoded-requires-clause-base c = edited_base _ _ _ _ _ _ _ _ _ _ c.self.invariant c.self.view_is c.args.upper c.requires.bounds

pub from_decoded-requires-clause-top : goal.from_decoded-requires-clause-top
from_decoded-requires-clause-top c = edited_top _ _ _ _ _ _ _ _ _ _ c.self.invariant c.self.view_is c.args.upper c.requires.bounds

pub returns : goal.returns
returns c =
    c.from_decoded.ensures
    ∙ ap (λ a. value_at c.args.tag (word_of_halves c.args.upper a)) (sym (own_addr _ _ _ _ _ _ _ _ _ _ c.self.invariant c.self.view_is))
