use Rattle.std.proofs.Common.{◌∙◌, ◌||◌, ap₂, refl}
use Rattle.std.proofs.lemmas.Result.{IfOk-weaker}
use Rattle.clap.specs.Words.{with_rule}
use Rattle.explore_line.proofs.commands.with_drawing_options.Goals as goal

pub returns-clause-app : goal.returns-clause-app
returns-clause-app c =
    let orders_added = c.in_ok-with_orders.ensures.shape c.required_option.ensures.local ∙ ap₂ with_rule refl c.required_option.ensures.rule in
    let seed_added = c.in_ok-with_seed.ensures.shape c.single_option.ensures.local ∙ ap₂ with_rule orders_added c.single_option.ensures.rule in
    let from_added = c.in_ok-with_from.ensures.shape c.single_option-2.ensures.local ∙ ap₂ with_rule seed_added c.single_option-2.ensures.rule in
    let length_added = c.in_ok-with_length.ensures.shape c.single_option-3.ensures.local ∙ ap₂ with_rule from_added c.single_option-3.ensures.rule in
    IfOk-weaker c.arg-5.result _ _
    (λ more added. added.shape c.single_option-4.ensures.local ∙ ap₂ with_rule length_added c.single_option-4.ensures.rule)
    c.arg-5.ensures

pub returns-clause-local : goal.returns-clause-local
returns-clause-local c = λ none.
    let orders_local = c.in_ok-with_orders.ensures.globals ∙ ap₂ (λ a b. a || b) none c.required_option.ensures.local in
    let seed_local = c.in_ok-with_seed.ensures.globals ∙ ap₂ (λ a b. a || b) orders_local c.single_option.ensures.local in
    let from_local = c.in_ok-with_from.ensures.globals ∙ ap₂ (λ a b. a || b) seed_local c.single_option-2.ensures.local in
    let length_local = c.in_ok-with_length.ensures.globals ∙ ap₂ (λ a b. a || b) from_local c.single_option-3.ensures.local in
    IfOk-weaker c.arg-5.result _ _
    (λ more added. added.globals ∙ ap₂ (λ a b. a || b) length_local c.single_option-4.ensures.local)
    c.arg-5.ensures
