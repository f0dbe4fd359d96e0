use Rattle.copy_model.proofs.Staging.{image-tables, starts-copy, copies-next, keeps-next, done-under, done-there}
use Rattle.copy_model.proofs.keeping.copies_keep_names.Goals as goal

pub returns-clause-tables : goal.returns-clause-tables
returns-clause-tables c = image-tables

pub returns-clause-starts : goal.returns-clause-starts
returns-clause-starts c = starts-copy

pub returns-clause-copies : goal.returns-clause-copies
returns-clause-copies c = copies-next

pub returns-clause-keeps : goal.returns-clause-keeps
returns-clause-keeps c = keeps-next

pub returns-clause-under : goal.returns-clause-under
returns-clause-under c = done-under

pub returns-clause-there : goal.returns-clause-there
returns-clause-there c = done-there
