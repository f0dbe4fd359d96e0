use Rattle.std.proofs.Common.{refl, sym, ◌∙◌, arith}
use Rattle.std.specs.Prelude.{None}
use Rattle.flash_view.proofs.Looking.{looks_then}
use Rattle.block_gc.proofs.BatchFinds.{name_idle, name_stays, copy_there, name_on}
use Rattle.block_gc.proofs.batch.name_turn.Goals as goal

pub returns-in_default-clause-told : goal.returns-in_default-clause-told
returns-in_default-clause-told g c = λ tells was plain most first run cs has turn named.
    let a = c.args in
    let seen = c.in_ok-span.ensures in
    name_stays _ plain _ a.page cs (name_idle _ was _ a.block most a.batch first run cs has a.page turn (rw c.in_default.is at (seen.told tells))) (rw seen.work named)

pub returns-in_default-2-clause-told : goal.returns-in_default-2-clause-told
returns-in_default-2-clause-told g c = λ tells was plain most first run cs has turn named.
    let a = c.args in
    let first_look = c.in_ok-span.ensures in
    let seen = c.in_ok-to.ensures in
    let none = rw (first_look.looks.same.geometry, first_look.looks.reads.bytes, c.in_default-2.is) at (seen.told (first_look.looks.reads.told tells)) in
    absurd (copy_there _ was _ a.block most a.batch first run cs has a.page turn c.in-Some.span (rw c.in-Some.is at (first_look.told tells)) c.requires.id none)

pub returns-clause-told : goal.returns-clause-told
returns-clause-told g c = λ tells was plain most first run cs has turn named.
    let a = c.args in
    let first_look = c.in_ok-span.ensures in
    let seen = c.in_ok-to.ensures in
    let both = looks_then first_look.looks seen.looks in
    let found = rw (first_look.looks.same.geometry, first_look.looks.reads.bytes, c.in-Some-2.is) at (seen.told (first_look.looks.reads.told tells)) in
    let one = rw (both.same.geometry, seen.work, first_look.work) at c.name_page.ensures.named in
    name_on _ was _ a.block most a.batch first run cs has a.page turn c.in-Some.span (rw c.in-Some.is at (first_look.told tells)) c.requires.id plain _ _ c.in-Some-2.to found.1 named one
