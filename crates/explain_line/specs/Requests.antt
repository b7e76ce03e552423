-- What the arguments of a command line of `cheri_explain` ask for.
use Rattle.std.specs.Prelude.{ℕ, nat_le, Bool, ◌||◌, List, Option, Some, None, is_some, option_map}
use Rattle.std.specs.Prelude.{codes, if◌then◌else◌}
use Rattle.std.specs.Borrow.{Bor}
use Rattle.std.specs.Str.{bytes_eq}
use Rattle.clap.specs.Words.{App, Row, Text, fault_of, first_of, matches_of, new_app, with_rule}
use Rattle.command_line.specs.Arguments.{flag, required_option, required_word, single_option}
use Rattle.command_line.specs.Found.{◌>>=◌, is_given, unless_faulty}
use Rattle.command_line.specs.Numbers.{number_or}
use Rattle.explain_line.specs.declared.requests.TheConstants.{LAST_EVENT}
use Rattle.explain_line.specs.declared.requests.Filter.{Filter}
use Rattle.explain_line.specs.declared.requests.Filter.TheVariants as filters
use Rattle.explain_line.specs.declared.requests.ExplainFormat.{ExplainFormat}
use Rattle.explain_line.specs.declared.requests.ExplainFormat.TheVariants as forms
use Rattle.explain_line.specs.declared.requests.ExplainRequest.{ExplainRequest}

-- `cheri_explain LISTING --order FILE [--from I] [--to J] [--only WORDS] [--json] [--html]
-- [--map MAP]`
abbrev pub explain_program : App
explain_program =
    with_rule (with_rule (with_rule (with_rule (with_rule (with_rule (with_rule (with_rule
    (new_app (codes "cheri_explain"))
    (required_word (codes "listing")))
    (required_option (codes "order")))
    (single_option (codes "from")))
    (single_option (codes "to")))
    (single_option (codes "only")))
    (flag (codes "json")))
    (flag (codes "html")))
    (single_option (codes "map"))

-- a request by the texts of its arguments
pub record ExplainAsked : Type 0 where
  pub listing : Text
  pub order : Text
  pub map : Option Text
  pub first : ℕ
  pub last : ℕ
  pub form : ExplainFormat

abbrev pub name_of : Bor Text → Text
name_of name = name.now

abbrev pub explain_asked_by : ExplainRequest → ExplainAsked
explain_asked_by request = record {
  listing = request.listing.now;
  order = request.order.now;
  map = option_map name_of request.map;
  first = request.first;
  last = request.last;
  form = request.form;
}

-- the number of an event that an option gives
abbrev pub event_or : ℕ → Option Text → Option ℕ
event_or otherwise = number_or otherwise 0 LAST_EVENT

-- the events that `--only` shows
unfoldable pub filter_named : Text → Option Filter
filter_named words =
    if bytes_eq words (codes "traps") then Some filters.Traps
    else if bytes_eq words (codes "clears") then Some filters.Clears
    else if bytes_eq words (codes "traps,clears") || bytes_eq words (codes "clears,traps")
    then Some filters.TrapsOrClears
    else None

abbrev pub filter_of : Option Text → Option Filter
filter_of None = Some filters.All
filter_of (Some words) = filter_named words

-- the form of an explanation, by `--html`, `--json`, `--only` and `--map`: a page has none of the
-- other three
abbrev pub explain_form : Bool → Bool → Option Text → Option Text → Option ExplainFormat
explain_form html json only map =
    if html then (if json || is_some only || is_some map then None else Some forms.Page)
    else option_map (λ filter. if json then forms.Json filter else forms.Text filter)
    (filter_of only)

-- what is asked for with these arguments
unfoldable pub explain_asked_of : List Row → Option ExplainAsked
explain_asked_of rows = do
  listing ← first_of (codes "listing") rows
  order ← first_of (codes "order") rows
  first ← event_or 0 (first_of (codes "from") rows)
  last ← event_or LAST_EVENT (first_of (codes "to") rows)
  form ← explain_form (is_given (first_of (codes "html") rows))
      (is_given (first_of (codes "json") rows)) (first_of (codes "only") rows)
      (first_of (codes "map") rows)
  if nat_le first last
      then Some
      (record {
        listing = listing;
        order = order;
        map = first_of (codes "map") rows;
        first = first;
        last = last;
        form = form;
      })
      else None

-- what the arguments of a command line ask for, the first of which is the program's name
unfoldable pub explain_asked : List Text → Option ExplainAsked
explain_asked args =
    unless_faulty (fault_of explain_program args)
    (explain_asked_of (matches_of explain_program args))
