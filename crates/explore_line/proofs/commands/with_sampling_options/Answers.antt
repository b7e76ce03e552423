use Rattle.std.proofs.Common.{◌∙◌, ◌||◌, ap₂, refl}
use Rattle.std.proofs.lemmas.Result.{IfOk-weaker}
use Rattle.clap.specs.Words.{with_rule}
use Rattle.explore_line.proofs.commands.with_sampling_options.Goals as goal

pub returns-clause-app : goal.returns-clause-app
returns-clause-app c =
    let show_added = c.in_ok-with_show.ensures.shape c.single_option.ensures.local ∙ ap₂ with_rule refl c.single_option.ensures.rule in
    let sweeps_added = c.in_ok-with_sweeps.ensures.shape c.repeated_option.ensures.local ∙ ap₂ with_rule show_added c.repeated_option.ensures.rule in
    let check_added = c.in_ok-with_check.ensures.shape c.flag.ensures.local ∙ ap₂ with_rule sweeps_added c.flag.ensures.rule in
    let jobs_added = c.in_ok-with_jobs.ensures.shape c.single_option-2.ensures.local ∙ ap₂ with_rule check_added c.single_option-2.ensures.rule in
    IfOk-weaker c.arg-5.result _ _
    (λ more added. added.shape c.flag-2.ensures.local ∙ ap₂ with_rule jobs_added c.flag-2.ensures.rule)
    c.arg-5.ensures

pub returns-clause-local : goal.returns-clause-local
returns-clause-local c = λ none.
    let show_local = c.in_ok-with_show.ensures.globals ∙ ap₂ (λ a b. a || b) none c.single_option.ensures.local in
    let sweeps_local = c.in_ok-with_sweeps.ensures.globals ∙ ap₂ (λ a b. a || b) show_local c.repeated_option.ensures.local in
    let check_local = c.in_ok-with_check.ensures.globals ∙ ap₂ (λ a b. a || b) sweeps_local c.flag.ensures.local in
    let jobs_local = c.in_ok-with_jobs.ensures.globals ∙ ap₂ (λ a b. a || b) check_local c.single_option-2.ensures.local in
    IfOk-weaker c.arg-5.result _ _
    (λ more added. added.globals ∙ ap₂ (λ a b. a || b) jobs_local c.flag-2.ensures.local)
    c.arg-5.ensures
