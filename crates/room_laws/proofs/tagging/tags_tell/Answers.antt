use Rattle.room_laws.proofs.Tagged.{tags_are_once, tags_are_kept, tags_are_named}
use Rattle.room_laws.proofs.tagging.tags_tell.Goals as goal

pub returns-clause-once : goal.returns-clause-once
returns-clause-once c = tags_are_once

pub returns-clause-kept : goal.returns-clause-kept
returns-clause-kept c = tags_are_kept

pub returns-clause-named : goal.returns-clause-named
returns-clause-named c = tags_are_named
