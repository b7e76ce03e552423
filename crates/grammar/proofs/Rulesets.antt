-- Short names for `using(..)`.
use Rattle.grammar.proofs.TokenLemmas.{length_of_texts, token_at_text, token_at_none}
use Rattle.grammar.proofs.LineLemmas.{each_plain, after_blanks_some, after_blanks_none, before_end_some, before_end_none}
use Rattle.grammar.proofs.LawfulTypes.{unsealed_lawful, sentry_lawful, sealable_lawful}
use Rattle.grammar.proofs.OperandLemmas.{without_bracket, at_bracket}
use Rattle.grammar.proofs.PermissionTexts.{no_name_beyond_text}
use Rattle.grammar.proofs.PlainTexts.{each_line_plain}

pub ruleset count = (length_of_texts)

pub ruleset token = (token_at_text, token_at_none, after_blanks_some, after_blanks_none, before_end_some, before_end_none)

pub ruleset plain = (each_plain, each_line_plain)

pub ruleset bracket = (without_bracket, at_bracket)

pub ruleset no_name = (no_name_beyond_text)

pub ruleset lawful = (unsealed_lawful, sentry_lawful, sealable_lawful)
