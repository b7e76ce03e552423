use Rattle.sinks.proofs.SinkLemmas.{takes_none}
use Rattle.explained_page.proofs.pages.put_listing.Goals as goal

pub returns-in_err-extend_from_slice-clause-prefix : goal.returns-in_err-extend_from_slice-clause-prefix
returns-in_err-extend_from_slice-clause-prefix g c = (_, takes_none _ _)

pub returns-in_err-write_script_text-clause-prefix : goal.returns-in_err-write_script_text-clause-prefix
returns-in_err-write_script_text-clause-prefix g c = (_, takes_none _ _)
