use Rattle.std.proofs.Common.{◌∙◌, ap₂}
use Rattle.std.proofs.lemmas.Result.{IfOk-weaker}
use Rattle.clap.specs.Words.{with_rule}
use Rattle.explain_line.proofs.requests.explain_command.Goals as goal

pub returns : goal.returns
returns c =
    let listing_added = c.in_ok-with_listing.ensures.shape c.required.ensures.local
    ∙ ap₂ with_rule c.new.ensures.app c.required.ensures.rule in
    let order_added = c.in_ok-with_order.ensures.shape c.required_option.ensures.local
    ∙ ap₂ with_rule listing_added c.required_option.ensures.rule in
    let from_added = c.in_ok-with_from.ensures.shape c.single_option.ensures.local
    ∙ ap₂ with_rule order_added c.single_option.ensures.rule in
    let to_added = c.in_ok-with_to.ensures.shape c.single_option-2.ensures.local
    ∙ ap₂ with_rule from_added c.single_option-2.ensures.rule in
    let only_added = c.in_ok-with_only.ensures.shape c.single_option-3.ensures.local
    ∙ ap₂ with_rule to_added c.single_option-3.ensures.rule in
    let json_added = c.in_ok-with_json.ensures.shape c.flag.ensures.local
    ∙ ap₂ with_rule only_added c.flag.ensures.rule in
    let html_added = c.in_ok-with_html.ensures.shape c.flag-2.ensures.local
    ∙ ap₂ with_rule json_added c.flag-2.ensures.rule in
    IfOk-weaker c.arg-8.result _ _
    (λ command added. added.shape c.single_option-4.ensures.local ∙ ap₂ with_rule html_added c.single_option-4.ensures.rule)
    c.arg-8.ensures
