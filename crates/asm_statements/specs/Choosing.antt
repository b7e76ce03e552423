-- Which of the forms of an instruction is meant: by the count of the operands, and then by what the
-- last one is.
use Rattle.std.specs.Prelude.{ℕ, ◌+◌, ◌≤◌, ◌==◌, Bool, true, false, ◌&&◌, ◌||◌, not}
use Rattle.std.specs.Prelude.{if◌then◌else◌, List, [], ◌∷◌, drop, Option, Some, None}
use Rattle.std.specs.Option.{is_some}
use Rattle.asm_names.specs.Registers.{register_named}
use Rattle.asm_tokens.specs.declared.token.Mark.TheVariants as marks
use Rattle.asm_tokens.specs.declared.token.TokenKind.{TokenKind}
use Rattle.asm_tokens.specs.declared.token.TokenKind.TheVariants as kinds
use Rattle.asm_tokens.specs.Tokens.{TokenParts}
use Rattle.asm_statements.specs.declared.choosing.Ending.{Ending}
use Rattle.asm_statements.specs.declared.choosing.Ending.TheVariants as ending
use Rattle.asm_statements.specs.declared.choosing.Survey.{Survey}
use Rattle.asm_statements.specs.declared.forms.Form.{Form}
use Rattle.asm_statements.specs.declared.forms.Form.TheVariants.{None as no_operands}
use Rattle.asm_statements.specs.declared.forms.Wanted.{Wanted}
use Rattle.asm_statements.specs.declared.forms.Wanted.TheVariants as wanted
use Rattle.asm_statements.specs.Forms.{count_of, last_of}
use Rattle.asm_statements.specs.Marks.{is_register, end_kind}

-- nothing was seen before a token
abbrev pub empty_survey : ℕ → Survey
empty_survey at =
    record {
      at = at;
      opened = 0;
      closed = 0;
      commas = 0;
      last = at;
      memory = false;
      opens = false;
    }

-- no number is above that of the token
pub record Counts (s : Survey) : Type 0 where
  pub opened : s.opened ≤ s.at
  pub closed : s.closed ≤ s.at
  pub commas : s.commas ≤ s.at
  pub last : s.last ≤ s.at

-- a comma outside brackets begins another operand
unfoldable pub after_comma : Survey → Survey
after_comma s = let outside = s.opened == s.closed in
    record {
      at = s.at + 1;
      opened = s.opened;
      closed = s.closed;
      commas = if outside then s.commas + 1 else s.commas;
      last = if outside then s.at + 1 else s.last;
      memory = not outside && s.memory;
      opens = false;
    }

unfoldable pub after_open : Survey → Survey
after_open s =
    record {
      at = s.at + 1;
      opened = s.opened + 1;
      closed = s.closed;
      commas = s.commas;
      last = s.last;
      memory = s.memory;
      opens = true;
    }

unfoldable pub after_close : Survey → Survey
after_close s =
    record {
      at = s.at + 1;
      opened = s.opened;
      closed = s.closed + 1;
      commas = s.commas;
      last = s.last;
      memory = s.memory;
      opens = false;
    }

unfoldable pub after_other : Bool → Survey → Survey
after_other register s =
    record {
      at = s.at + 1;
      opened = s.opened;
      closed = s.closed;
      commas = s.commas;
      last = s.last;
      memory = s.memory || (s.opens && register);
      opens = false;
    }

unfoldable pub after_token : TokenKind → List ℕ → Survey → Survey
after_token (kinds.Mark marks.Comma) text s = after_comma s
after_token (kinds.Mark marks.Open) text s = after_open s
after_token (kinds.Mark marks.Close) text s = after_close s
after_token kinds.Name text s = after_other (is_some (register_named text)) s
after_token _ text s = after_other false s

-- what is seen up to the statement's end
unfoldable pub seen_from : Survey → List TokenParts → Survey
seen_from s [] = s
seen_from s (token ∷ tokens) =
    if end_kind token.kind then s else seen_from (after_token token.kind token.text s) tokens

unfoldable pub survey_of : List TokenParts → ℕ → Survey
survey_of tokens at = seen_from (empty_survey at) (drop at tokens)

unfoldable pub operand_count : ℕ → Survey → ℕ
operand_count first s = if s.at == first then 0 else s.commas + 1

-- a register's name alone is a register; what has a register's name right behind a bracket is
-- memory; all else is an expression
unfoldable pub ending_of : List TokenParts → Survey → Ending
ending_of tokens s =
    if (s.last + 1 == s.at) && is_register tokens s.last then ending.Register
    else if s.memory then ending.Memory
    else ending.Expression

unfoldable pub ends_so : Ending → Wanted → Bool
ends_so ending.Register wanted.Integer = true
ends_so ending.Register wanted.Capability = true
ends_so ending.Memory wanted.Memory = true
ends_so ending.Expression wanted.Immediate = true
ends_so ending.Expression wanted.Symbol = true
ends_so ending.Expression wanted.Target = true
ends_so _ _ = false

abbrev pub last_ends_so : Option Ending → Option Wanted → Bool
last_ends_so (Some ending) (Some last) = ends_so ending last
last_ends_so (Some ending) None = false
last_ends_so None last = true

-- so many operands, the last of which ends so, if that is asked for
unfoldable pub fits : ℕ → Option Ending → Form → Bool
fits count ending form = (count_of form == count) && last_ends_so ending (last_of form)

unfoldable pub first_fit : ℕ → Option Ending → List Form → Option Form
first_fit count ending [] = None
first_fit count ending (form ∷ forms) =
    if fits count ending form then Some form else first_fit count ending forms

abbrev pub first_form : List Form → Form
first_form [] = no_operands
first_form (form ∷ forms) = form

-- the first form that fits; where no last operand ends so, the first with so many; where none has
-- so many, the first
abbrev pub or_else : Option Form → Form → Form
or_else (Some form) other = form
or_else None other = other

unfoldable pub form_of : ℕ → Ending → List Form → Form
form_of count ending forms =
    or_else (first_fit count (Some ending) forms)
    (or_else (first_fit count None forms) (first_form forms))

unfoldable pub meant_form : List TokenParts → List Form → ℕ → Form
meant_form tokens forms at = let s = survey_of tokens at in
    form_of (operand_count at s) (ending_of tokens s) forms
