use Rattle.std.proofs.Common.{Bool, true, false}
use Rattle.std.specs.Bool.{OnTrue}
use Rattle.flash_view.proofs.Looking.{looks_then}
use Rattle.vol_check.proofs.Dead.{dead_by, page_magic, untaken_is_not_dead}
use Rattle.vol_check.proofs.entries.is_dead_entry.Goals as goal

on_true : (b : Bool) {P : Type 0} → P → OnTrue b P
on_true true h = h
on_true false h = tt

pub returns-in_ok-is_alive_by-clause-looks : goal.returns-in_ok-is_alive_by-clause-looks
returns-in_ok-is_alive_by-clause-looks g c = looks_then (looks_then c.in_ok-entry.ensures.looks c.in_ok-is_taken.ensures.looks) c.in_ok-is_alive_by.ensures.looks

pub returns-else-branch-clause-looks : goal.returns-else-branch-clause-looks
returns-else-branch-clause-looks g c = looks_then c.in_ok-entry.ensures.looks c.in_ok-is_taken.ensures.looks

pub returns-else-branch-clause-told : goal.returns-else-branch-clause-told
returns-else-branch-clause-told g c = λ tells may.
    let read = c.in_ok-entry.ensures in
    let place = rw c.if-not-is_entry_page.false at c.is_entry_page.ensures.entry in
    let magic = page_magic c.args.own _ _ _ may place in
    let told = rw (read.looks.same.geometry, read.looks.reads.bytes) at (c.in_ok-is_taken.ensures.told (read.looks.reads.told tells)) in
    untaken_is_not_dead _ _ _ _ place magic (told may.owned magic (read.told tells)) c.if-branch.false

pub returns-in_ok-is_alive_by-clause-told : goal.returns-in_ok-is_alive_by-clause-told
returns-in_ok-is_alive_by-clause-told g c = λ tells may.
    let read = c.in_ok-entry.ensures in
    let taken = c.in_ok-is_taken.ensures in
    let looks = looks_then read.looks taken.looks in
    let named = read.told tells in
    let place = rw c.if-not-is_entry_page.false at c.is_entry_page.ensures.entry in
    let magic = page_magic c.args.own _ _ _ may place in
    let told = rw (read.looks.same.geometry, read.looks.reads.bytes) at (taken.told (read.looks.reads.told tells)) in
    let alive = rw (looks.same.geometry, looks.reads.bytes) at (c.in_ok-is_alive_by.ensures.told (looks.reads.told tells)) in
    dead_by _ _ _ _ _ place magic (told may.owned magic named) c.if-branch.true (λ has. alive has named)
