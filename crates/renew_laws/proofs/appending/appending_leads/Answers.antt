use Rattle.renew_laws.proofs.Appended.{appended-leads, appended-is_written, appended-serves, one-page_appends, many-pages_append}
use Rattle.renew_laws.proofs.appending.appending_leads.Goals as goal

pub returns-clause-leads : goal.returns-clause-leads
returns-clause-leads c = appended-leads

pub returns-clause-serves : goal.returns-clause-serves
returns-clause-serves c = appended-serves

pub returns-clause-written : goal.returns-clause-written
returns-clause-written c = appended-is_written

pub returns-clause-one : goal.returns-clause-one
returns-clause-one c = one-page_appends

pub returns-clause-many : goal.returns-clause-many
returns-clause-many c = many-pages_append
