use Rattle.renew_laws.proofs.Spans.{page_by_word, span-is_named}
use Rattle.renew_laws.proofs.appending.entries_lead.Goals as goal

pub returns-clause-kept : goal.returns-clause-kept
returns-clause-kept c = page_by_word

pub returns-clause-named : goal.returns-clause-named
returns-clause-named c = span-is_named
