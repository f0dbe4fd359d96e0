use Rattle.std.proofs.Common.{refl, arith}
use Rattle.plain_image.proofs.Headed.{noted}
use Rattle.plain_image.proofs.headers.note_header.Goals as goal

pub returns-in-Some-clause-each : goal.returns-in-Some-clause-each
returns-in-Some-clause-each c = λ id low. rw (c.in-Some.ensures.id id) (noted c.args.heads.now.items _ c.in-Some.id c.args.p (omega (arith, c.in-Some.ensures.below, c.requires.len)) refl id)

pub returns-in-None-clause-each : goal.returns-in-None-clause-each
returns-in-None-clause-each c = λ id low. rw (c.in-None.ensures.id id) refl
