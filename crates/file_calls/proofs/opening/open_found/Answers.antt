use Rattle.std.proofs.Common.{[], ◌≡◌, true, false, refl, ◌∙◌, ap, Ok, Err, bit_and}
use Rattle.std.proofs.lemmas.Bool.{lt-ltb}
use Rattle.nor_core.proofs.Cuts.{reads_none}
use Rattle.flash_view.proofs.Looking.{looks_then, same_then}
use Rattle.table_model.specs.declared.error.FsErr.{FsErr}
use Rattle.table_model.specs.Descriptors.{makes, empties}
use Rattle.table_model.specs.Reply.{Tells as Number}
use Rattle.table_model.specs.Ask.{Opens}
use Rattle.image_model.specs.Tables.{table_of}
use Rattle.file_calls.specs.Replies.{is_change, reads_file}
use Rattle.fd_table.specs.Slots.{descriptors}
use Rattle.file_calls.proofs.Numbered.{opens_fine}
use Rattle.file_calls.proofs.Going.{err_is, goes_refused, goes_moved, goes_done, goes_broken, rose_later, looked_back, or_first, or_last}
use Rattle.file_calls.proofs.Descriptors.{goes_unread}
use Rattle.file_calls.proofs.Restates.{the_file}
use Rattle.file_calls.proofs.Cutting.{TellsRoom, ends_true, fails_true, goes_cornered}
use Rattle.file_calls.proofs.Openings.{is_set, is_clear, opens_there}
use Rattle.file_calls.proofs.Emptying.{takes_never, opened_missing, opens_empty, empties_refuses, emptied_step}
use Rattle.file_calls.proofs.Standing.{stands_done, stands_cornered, stands_broken}
use Rattle.file_calls.proofs.opening.open_found.Goals as goal

pub returns-then-flags-eq0-clause-goes : goal.returns-then-flags-eq0-clause-goes
returns-then-flags-eq0-clause-goes g c =
    let name = c.args.name.now in
    let keeps : empties c.args.flags ≡ false = is_clear (bit_and c.args.flags 2) c.if-flags-eq0.true in
    rw c.from.ensures (λ into. goes_moved (Opens name c.args.flags) (Number c.args.fd) c.args.v.now.wrote c.requires.fresh (reads_none c.args.v.now.nor.now) refl (opens_fine c.args.v.now.geometry (descriptors c.args.slots.now) name c.requires.named c.args.flags c.requires.slot) refl (lt-ltb c.args.fd 65536 c.ranges.fd.fits) (λ bytes e. absurd (cc)) (λ k. absurd (let no : false ≡ true = k in cc))
    (λ s here. rw c.open_at.ensures (opens_there name c.args.flags c.requires.named c.args.fd c.requires.slot c.args.id s here (c.requires.found here.tells here.tidy) (λ f at. takes_never c.args.flags f keeps))))

pub returns-in_err-size-clause-goes : goal.returns-in_err-size-clause-goes
returns-in_err-size-clause-goes g c =
    let name = c.args.name.now in
    let empty : empties c.args.flags ≡ true = is_set (bit_and c.args.flags 2) c.if-flags-eq0.false in
    let change : is_change (Opens name c.args.flags) ≡ true = or_last (makes c.args.flags) (empties c.args.flags) empty in
    let failed = c.in_err-size.ensures in
    rw (err_is c.from_residual.result c.from_residual.ensures.1) (λ into. goes_unread (Opens name c.args.flags) c.in_err-size.field-0.0 c.record_of.new.v.wrote (failed.looks.wrote ∙ c.requires.fresh) failed.looks.reads refl (opens_fine c.args.v.now.geometry (descriptors c.args.slots.now) name c.requires.named c.args.flags c.requires.slot) refl (or_first (is_change (Opens name c.args.flags)) (reads_file (Opens name c.args.flags)) change) failed.missed (λ e. failed.cause (ap (λ (w : FsErr). Err w) e))
    (λ s here no_fault. opened_missing name c.args.flags c.requires.named c.args.fd c.requires.slot c.args.id c.requires.found s here (failed.told here.tells here.tidy no_fault)))

pub returns-then-size-eq0-clause-goes : goal.returns-then-size-eq0-clause-goes
returns-then-size-eq0-clause-goes g c =
    let name = c.args.name.now in
    let looked = c.in_ok-size.ensures in
    rw c.from-then-size-eq0.ensures (λ into. goes_moved (Opens name c.args.flags) (Number c.args.fd) c.record_of.new.v.wrote (looked.looks.wrote ∙ c.requires.fresh) looked.looks.reads refl (opens_fine c.args.v.now.geometry (descriptors c.args.slots.now) name c.requires.named c.args.flags c.requires.slot) refl (lt-ltb c.args.fd 65536 c.ranges.fd.fits) (λ bytes e. absurd (cc)) (λ k. absurd (let no : false ≡ true = k in cc))
    (λ s here. rw c.open_at-then-size-eq0.ensures (opens_empty name c.args.flags c.requires.named c.args.fd c.requires.slot c.args.id c.requires.found c.in_ok-size.field-0 looked.told c.if-size-eq0.true s here)))

pub returns-in_err-have_room-clause-goes : goal.returns-in_err-have_room-clause-goes
returns-in_err-have_room-clause-goes g c =
    let name = c.args.name.now in
    let empty : empties c.args.flags ≡ true = is_set (bit_and c.args.flags 2) c.if-flags-eq0.false in
    let found = c.in_ok-size.ensures in
    let stat = c.in_ok-size.field-0 in
    let failed = c.in_err-have_room.ensures in
    let looks = looks_then found.looks failed.looks in
    rw (err_is c.from_residual-in_err-have_room.result c.from_residual-in_err-have_room.ensures.1) (λ into. goes_refused (Opens name c.args.flags) c.in_err-have_room.field-0.0 c.have_room.new.v.wrote (looks.wrote ∙ c.requires.fresh) looks.reads refl (opens_fine c.args.v.now.geometry (descriptors c.args.slots.now) name c.requires.named c.args.flags c.requires.slot) (failed.among name [] c.args.flags 0 0).1 (λ e. rose_later _ _ _ found.looks.same.faults (failed.cause e))
    (λ s here no_fault. empties_refuses name c.args.flags c.requires.named c.args.fd c.requires.slot c.args.id c.requires.found stat found.told empty c.if-size-eq0.false
    (looked_back (TellsRoom stat.size 0 (Err c.in_err-have_room.field-0.0)) found.looks failed.told) s here no_fault))

pub returns-clause-goes : goal.returns-clause-goes
returns-clause-goes g c =
    let name = c.args.name.now in
    let empty : empties c.args.flags ≡ true = is_set (bit_and c.args.flags 2) c.if-flags-eq0.false in
    let change : is_change (Opens name c.args.flags) ≡ true = or_last (makes c.args.flags) (empties c.args.flags) empty in
    let found = c.in_ok-size.ensures in
    let stat = c.in_ok-size.field-0 in
    let looked = c.in_ok-have_room.ensures in
    let does = emptied_step name c.args.flags c.requires.named c.args.fd c.requires.slot c.args.id c.requires.found stat found.told empty c.if-size-eq0.false (looked_back (TellsRoom stat.size 0 (Ok tt)) found.looks looked.told) in
    rw c.from-2.ensures (λ into. goes_done (Opens name c.args.flags) (Number c.args.fd) refl change (opens_fine c.args.v.now.geometry (descriptors c.args.slots.now) name c.requires.named c.args.flags c.requires.slot) does (looks_then found.looks looked.looks) c.requires.fresh c.open_at-2.new.slots
    (rw c.pull_file_back.ensures at c.open_at-2.ensures) refl (lt-ltb c.args.fd 65536 c.ranges.fd.fits) (λ bytes e. absurd (cc)) (λ k. absurd (let no : false ≡ true = k in cc))
    (ends_true (rw c.if-not-branch.false at (c.in_ok-cut_file.ensures (the_file c.args.id (table_of c.args.v.now.geometry (g.N.NorState.bytes c.args.v.now.nor.now)))))))

pub returns-then-not-branch-clause-goes : goal.returns-then-not-branch-clause-goes
returns-then-not-branch-clause-goes g c =
    let name = c.args.name.now in
    let empty : empties c.args.flags ≡ true = is_set (bit_and c.args.flags 2) c.if-flags-eq0.false in
    let change : is_change (Opens name c.args.flags) ≡ true = or_last (makes c.args.flags) (empties c.args.flags) empty in
    let found = c.in_ok-size.ensures in
    let stat = c.in_ok-size.field-0 in
    let looked = c.in_ok-have_room.ensures in
    let does = emptied_step name c.args.flags c.requires.named c.args.fd c.requires.slot c.args.id c.requires.found stat found.told empty c.if-size-eq0.false (looked_back (TellsRoom stat.size 0 (Ok tt)) found.looks looked.told) in
    λ into. goes_cornered (Opens name c.args.flags) (Number c.args.fd) refl change empty (opens_fine c.args.v.now.geometry (descriptors c.args.slots.now) name c.requires.named c.args.flags c.requires.slot) does (looks_then found.looks looked.looks) c.requires.fresh refl
    (rw c.if-not-branch.true at (c.in_ok-cut_file.ensures (the_file c.args.id (table_of c.args.v.now.geometry (g.N.NorState.bytes c.args.v.now.nor.now)))))

pub returns-in_err-cut_file-clause-goes : goal.returns-in_err-cut_file-clause-goes
returns-in_err-cut_file-clause-goes g c =
    let name = c.args.name.now in
    let empty : empties c.args.flags ≡ true = is_set (bit_and c.args.flags 2) c.if-flags-eq0.false in
    let change : is_change (Opens name c.args.flags) ≡ true = or_last (makes c.args.flags) (empties c.args.flags) empty in
    let found = c.in_ok-size.ensures in
    let stat = c.in_ok-size.field-0 in
    let looked = c.in_ok-have_room.ensures in
    let does = emptied_step name c.args.flags c.requires.named c.args.fd c.requires.slot c.args.id c.requires.found stat found.told empty c.if-size-eq0.false (looked_back (TellsRoom stat.size 0 (Ok tt)) found.looks looked.told) in
    rw (err_is c.from_residual-in_err-cut_file.result c.from_residual-in_err-cut_file.ensures.1) (λ into. goes_broken (Opens name c.args.flags) (Number c.args.fd) refl change (opens_fine c.args.v.now.geometry (descriptors c.args.slots.now) name c.requires.named c.args.flags c.requires.slot) does (looks_then found.looks looked.looks) c.requires.fresh c.in_err-cut_file.field-0.0 refl
    (fails_true (c.in_err-cut_file.ensures (the_file c.args.id (table_of c.args.v.now.geometry (g.N.NorState.bytes c.args.v.now.nor.now))))))

pub returns-clause-same : goal.returns-clause-same
returns-clause-same g c = same_then (looks_then c.in_ok-size.ensures.looks c.in_ok-have_room.ensures.looks).same (c.in_ok-cut_file.ensures (the_file 0 [])).steps.framed.same

pub returns-then-not-branch-clause-same : goal.returns-then-not-branch-clause-same
returns-then-not-branch-clause-same g c = same_then (looks_then c.in_ok-size.ensures.looks c.in_ok-have_room.ensures.looks).same (c.in_ok-cut_file.ensures (the_file 0 [])).steps.framed.same

pub returns-in_err-cut_file-clause-same : goal.returns-in_err-cut_file-clause-same
returns-in_err-cut_file-clause-same g c = same_then (looks_then c.in_ok-size.ensures.looks c.in_ok-have_room.ensures.looks).same (c.in_err-cut_file.ensures (the_file 0 [])).steps.framed.same

pub returns-clause-counted : goal.returns-clause-counted
returns-clause-counted g c =
    let name = c.args.name.now in
    let empty : empties c.args.flags ≡ true = is_set (bit_and c.args.flags 2) c.if-flags-eq0.false in
    let found = c.in_ok-size.ensures in
    let stat = c.in_ok-size.field-0 in
    let looked = c.in_ok-have_room.ensures in
    let does = emptied_step name c.args.flags c.requires.named c.args.fd c.requires.slot c.args.id c.requires.found stat found.told empty c.if-size-eq0.false (looked_back (TellsRoom stat.size 0 (Ok tt)) found.looks looked.told) in
    let file = the_file c.args.id (table_of c.args.v.now.geometry (g.N.NorState.bytes c.args.v.now.nor.now)) in
    λ into. stands_done does (looks_then found.looks looked.looks) _ (ends_true (rw c.if-not-branch.false at (c.in_ok-cut_file.ensures file))).steps

pub returns-then-not-branch-clause-counted : goal.returns-then-not-branch-clause-counted
returns-then-not-branch-clause-counted g c =
    let name = c.args.name.now in
    let empty : empties c.args.flags ≡ true = is_set (bit_and c.args.flags 2) c.if-flags-eq0.false in
    let found = c.in_ok-size.ensures in
    let stat = c.in_ok-size.field-0 in
    let looked = c.in_ok-have_room.ensures in
    let does = emptied_step name c.args.flags c.requires.named c.args.fd c.requires.slot c.args.id c.requires.found stat found.told empty c.if-size-eq0.false (looked_back (TellsRoom stat.size 0 (Ok tt)) found.looks looked.told) in
    let file = the_file c.args.id (table_of c.args.v.now.geometry (g.N.NorState.bytes c.args.v.now.nor.now)) in
    λ into. stands_cornered does (looks_then found.looks looked.looks) _ (rw c.if-not-branch.true at (c.in_ok-cut_file.ensures file).steps)

pub returns-in_err-cut_file-clause-counted : goal.returns-in_err-cut_file-clause-counted
returns-in_err-cut_file-clause-counted g c =
    let name = c.args.name.now in
    let empty : empties c.args.flags ≡ true = is_set (bit_and c.args.flags 2) c.if-flags-eq0.false in
    let found = c.in_ok-size.ensures in
    let stat = c.in_ok-size.field-0 in
    let looked = c.in_ok-have_room.ensures in
    let does = emptied_step name c.args.flags c.requires.named c.args.fd c.requires.slot c.args.id c.requires.found stat found.told empty c.if-size-eq0.false (looked_back (TellsRoom stat.size 0 (Ok tt)) found.looks looked.told) in
    let file = the_file c.args.id (table_of c.args.v.now.geometry (g.N.NorState.bytes c.args.v.now.nor.now)) in
    rw (err_is c.from_residual-in_err-cut_file.result c.from_residual-in_err-cut_file.ensures.1) (λ into. stands_broken does (looks_then found.looks looked.looks) c.in_err-cut_file.field-0.0 (fails_true (c.in_err-cut_file.ensures file)).steps)
