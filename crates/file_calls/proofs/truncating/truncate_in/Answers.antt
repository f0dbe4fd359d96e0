use Rattle.std.proofs.Common.{[], ◌≡◌, ◌<◌, true, false, refl, sym, ◌∙◌, ap, arith, Ok, Err}
use Rattle.nor_core.proofs.Cuts.{reads_none}
use Rattle.flash_view.proofs.Looking.{looks_then, same_then}
use Rattle.table_model.specs.declared.error.FsErr.{FsErr}
use Rattle.table_model.specs.declared.error.FsErr.TheVariants.{NotWritable, SeekBounds}
use Rattle.table_model.specs.Reply.{Fine}
use Rattle.table_model.specs.Ask.{Truncates}
use Rattle.image_model.specs.Tables.{table_of}
use Rattle.fd_table.specs.Slots.{opened}
use Rattle.file_calls.specs.Slots.{write_fault}
use Rattle.file_calls.proofs.Numbered.{write_fine, write_barred}
use Rattle.file_calls.proofs.Going.{err_is, goes_barred, goes_refused, goes_shown, goes_done, goes_broken, rose_later, looked_back}
use Rattle.file_calls.proofs.Descriptors.{goes_closed, goes_unread, never_missing}
use Rattle.file_calls.proofs.Restates.{the_file}
use Rattle.file_calls.proofs.Cutting.{TellsRoom, ends_true, fails_true, goes_cornered, truncate_closed, cut_unwritable, cut_beyond, cut_at_end, truncate_refuses, truncated_step}
use Rattle.file_calls.proofs.Standing.{stands_done, stands_cornered, stands_broken}
use Rattle.file_calls.proofs.truncating.truncate_in.Goals as goal

pub returns-in_err-slot-clause-goes : goal.returns-in_err-slot-clause-goes
returns-in_err-slot-clause-goes g c =
    let bad = c.in_err-slot.ensures in
    rw (err_is c.from_residual.result c.from_residual.ensures.1, bad.error) (λ into. goes_closed (Truncates c.args.fd c.args.size) c.args.fd c.args.v.now.wrote c.requires.fresh refl refl (ap write_fault bad.closed) bad.closed (λ s none. truncate_closed c.args.v.now.geometry _ s c.args.fd c.args.size none))

pub returns-then-not-may_write-clause-goes : goal.returns-then-not-may_write-clause-goes
returns-then-not-may_write-clause-goes g c =
    λ into. goes_barred (Truncates c.args.fd c.args.size) NotWritable c.args.v.now.wrote c.requires.fresh (reads_none c.args.v.now.nor.now) refl refl refl
    (write_barred (opened c.in_ok-slot.slot) c.in_ok-slot.ensures.found (sym c.may_write.ensures ∙ c.if-not-may_write.true))
    (λ s here. cut_unwritable c.args.fd c.in_ok-slot.slot c.in_ok-slot.ensures.found c.args.size (sym c.may_write.ensures ∙ c.if-not-may_write.true) s here)

pub returns-in_err-old-clause-goes : goal.returns-in_err-old-clause-goes
returns-in_err-old-clause-goes g c =
    let failed = c.in_err-old.ensures in
    rw (err_is c.from_residual-in_err-old.result c.from_residual-in_err-old.ensures.1) (λ into. goes_unread (Truncates c.args.fd c.args.size) c.in_err-old.field-0.0 c.record_of.new.v.wrote (failed.looks.wrote ∙ c.requires.fresh) failed.looks.reads refl (write_fine (opened c.in_ok-slot.slot) c.in_ok-slot.ensures.found (sym c.may_write.ensures ∙ c.if-not-may_write.false)) refl refl failed.missed (λ e. failed.cause (ap (λ (w : FsErr). Err w) e))
    (λ s here no_fault. never_missing c.args.fd c.in_ok-slot.slot c.in_ok-slot.ensures.found s here (failed.told here.tells here.tidy no_fault)))

pub returns-then-size-old-clause-goes : goal.returns-then-size-old-clause-goes
returns-then-size-old-clause-goes g c =
    let looked = c.in_ok-old.ensures in
    λ into. goes_refused {T = Unit {0}} (Truncates c.args.fd c.args.size) SeekBounds c.record_of.new.v.wrote (looked.looks.wrote ∙ c.requires.fresh) looked.looks.reads refl (write_fine (opened c.in_ok-slot.slot) c.in_ok-slot.ensures.found (sym c.may_write.ensures ∙ c.if-not-may_write.false)) refl (λ e. absurd (cc))
    (λ s here no_fault. cut_beyond c.args.fd c.in_ok-slot.slot c.in_ok-slot.ensures.found c.args.size (sym c.may_write.ensures ∙ c.if-not-may_write.false) c.in_ok-old.field-0 looked.told c.if-size-old.true s here)

pub returns-then-size-old-2-clause-goes : goal.returns-then-size-old-2-clause-goes
returns-then-size-old-2-clause-goes g c =
    let looked = c.in_ok-old.ensures in
    λ into. goes_shown (Truncates c.args.fd c.args.size) Fine c.record_of.new.v.wrote (looked.looks.wrote ∙ c.requires.fresh) looked.looks.reads refl (write_fine (opened c.in_ok-slot.slot) c.in_ok-slot.ensures.found (sym c.may_write.ensures ∙ c.if-not-may_write.false)) refl refl (λ bytes e. absurd (cc))
    (λ s here. cut_at_end c.args.fd c.in_ok-slot.slot c.in_ok-slot.ensures.found c.args.size (sym c.may_write.ensures ∙ c.if-not-may_write.false) c.in_ok-old.field-0 looked.told c.if-size-old-2.true s here)

pub returns-in_err-have_room-clause-goes : goal.returns-in_err-have_room-clause-goes
returns-in_err-have_room-clause-goes g c =
    let found = c.in_ok-old.ensures in
    let stat = c.in_ok-old.field-0 in
    let failed = c.in_err-have_room.ensures in
    let looks = looks_then found.looks failed.looks in
    let less : c.args.size < stat.size = omega (arith, c.if-size-old.false, c.if-size-old-2.false) in
    rw (err_is c.from_residual-in_err-have_room.result c.from_residual-in_err-have_room.ensures.1) (λ into. goes_refused (Truncates c.args.fd c.args.size) c.in_err-have_room.field-0.0 c.have_room.new.v.wrote (looks.wrote ∙ c.requires.fresh) looks.reads refl (write_fine (opened c.in_ok-slot.slot) c.in_ok-slot.ensures.found (sym c.may_write.ensures ∙ c.if-not-may_write.false)) (failed.among [] [] 0 c.args.fd c.args.size).2 (λ e. rose_later _ _ _ found.looks.same.faults (failed.cause e))
    (λ s here no_fault. truncate_refuses c.args.fd c.in_ok-slot.slot c.in_ok-slot.ensures.found c.args.size (sym c.may_write.ensures ∙ c.if-not-may_write.false) stat found.told less
    (looked_back (TellsRoom stat.size c.args.size (Err c.in_err-have_room.field-0.0)) found.looks (rw c.from.ensures at failed.told)) s here no_fault))

pub returns-clause-goes : goal.returns-clause-goes
returns-clause-goes g c =
    let found = c.in_ok-old.ensures in
    let stat = c.in_ok-old.field-0 in
    let looked = c.in_ok-have_room.ensures in
    let less : c.args.size < stat.size = omega (arith, c.if-size-old.false, c.if-size-old-2.false) in
    let does = truncated_step c.args.fd c.in_ok-slot.slot c.in_ok-slot.ensures.found c.args.size (sym c.may_write.ensures ∙ c.if-not-may_write.false) stat found.told less (looked_back (TellsRoom stat.size c.args.size (Ok tt)) found.looks (rw c.from.ensures at looked.told)) in
    λ into. goes_done (Truncates c.args.fd c.args.size) Fine refl refl (write_fine (opened c.in_ok-slot.slot) c.in_ok-slot.ensures.found (sym c.may_write.ensures ∙ c.if-not-may_write.false)) does (looks_then found.looks looked.looks) c.requires.fresh c.pull_file_back.new.slots c.pull_file_back.ensures refl refl (λ bytes e. absurd (cc)) (λ k. absurd (let no : false ≡ true = k in cc))
    (ends_true (rw c.if-not-branch.false at (c.in_ok-cut_file.ensures (the_file c.in_ok-slot.slot.id (table_of c.args.v.now.geometry (g.N.NorState.bytes c.args.v.now.nor.now))))))

pub returns-then-not-branch-clause-goes : goal.returns-then-not-branch-clause-goes
returns-then-not-branch-clause-goes g c =
    let found = c.in_ok-old.ensures in
    let stat = c.in_ok-old.field-0 in
    let looked = c.in_ok-have_room.ensures in
    let less : c.args.size < stat.size = omega (arith, c.if-size-old.false, c.if-size-old-2.false) in
    let does = truncated_step c.args.fd c.in_ok-slot.slot c.in_ok-slot.ensures.found c.args.size (sym c.may_write.ensures ∙ c.if-not-may_write.false) stat found.told less (looked_back (TellsRoom stat.size c.args.size (Ok tt)) found.looks (rw c.from.ensures at looked.told)) in
    λ into. goes_cornered (Truncates c.args.fd c.args.size) Fine refl refl refl (write_fine (opened c.in_ok-slot.slot) c.in_ok-slot.ensures.found (sym c.may_write.ensures ∙ c.if-not-may_write.false)) does (looks_then found.looks looked.looks) c.requires.fresh refl
    (rw c.if-not-branch.true at (c.in_ok-cut_file.ensures (the_file c.in_ok-slot.slot.id (table_of c.args.v.now.geometry (g.N.NorState.bytes c.args.v.now.nor.now)))))

pub returns-in_err-cut_file-clause-goes : goal.returns-in_err-cut_file-clause-goes
returns-in_err-cut_file-clause-goes g c =
    let found = c.in_ok-old.ensures in
    let stat = c.in_ok-old.field-0 in
    let looked = c.in_ok-have_room.ensures in
    let less : c.args.size < stat.size = omega (arith, c.if-size-old.false, c.if-size-old-2.false) in
    let does = truncated_step c.args.fd c.in_ok-slot.slot c.in_ok-slot.ensures.found c.args.size (sym c.may_write.ensures ∙ c.if-not-may_write.false) stat found.told less (looked_back (TellsRoom stat.size c.args.size (Ok tt)) found.looks (rw c.from.ensures at looked.told)) in
    rw (err_is c.from_residual-in_err-cut_file.result c.from_residual-in_err-cut_file.ensures.1) (λ into. goes_broken (Truncates c.args.fd c.args.size) Fine refl refl (write_fine (opened c.in_ok-slot.slot) c.in_ok-slot.ensures.found (sym c.may_write.ensures ∙ c.if-not-may_write.false)) does (looks_then found.looks looked.looks) c.requires.fresh c.in_err-cut_file.field-0.0 refl
    (fails_true (c.in_err-cut_file.ensures (the_file c.in_ok-slot.slot.id (table_of c.args.v.now.geometry (g.N.NorState.bytes c.args.v.now.nor.now))))))

pub returns-clause-same : goal.returns-clause-same
returns-clause-same g c = same_then (looks_then c.in_ok-old.ensures.looks c.in_ok-have_room.ensures.looks).same (c.in_ok-cut_file.ensures (the_file 0 [])).steps.framed.same

pub returns-then-not-branch-clause-same : goal.returns-then-not-branch-clause-same
returns-then-not-branch-clause-same g c = same_then (looks_then c.in_ok-old.ensures.looks c.in_ok-have_room.ensures.looks).same (c.in_ok-cut_file.ensures (the_file 0 [])).steps.framed.same

pub returns-in_err-cut_file-clause-same : goal.returns-in_err-cut_file-clause-same
returns-in_err-cut_file-clause-same g c = same_then (looks_then c.in_ok-old.ensures.looks c.in_ok-have_room.ensures.looks).same (c.in_err-cut_file.ensures (the_file 0 [])).steps.framed.same

pub returns-clause-counted : goal.returns-clause-counted
returns-clause-counted g c =
    let found = c.in_ok-old.ensures in
    let stat = c.in_ok-old.field-0 in
    let looked = c.in_ok-have_room.ensures in
    let less : c.args.size < stat.size = omega (arith, c.if-size-old.false, c.if-size-old-2.false) in
    let does = truncated_step c.args.fd c.in_ok-slot.slot c.in_ok-slot.ensures.found c.args.size (sym c.may_write.ensures ∙ c.if-not-may_write.false) stat found.told less (looked_back (TellsRoom stat.size c.args.size (Ok tt)) found.looks (rw c.from.ensures at looked.told)) in
    let file = the_file c.in_ok-slot.slot.id (table_of c.args.v.now.geometry (g.N.NorState.bytes c.args.v.now.nor.now)) in
    λ into. stands_done does (looks_then found.looks looked.looks) _ (ends_true (rw c.if-not-branch.false at (c.in_ok-cut_file.ensures file))).steps

pub returns-then-not-branch-clause-counted : goal.returns-then-not-branch-clause-counted
returns-then-not-branch-clause-counted g c =
    let found = c.in_ok-old.ensures in
    let stat = c.in_ok-old.field-0 in
    let looked = c.in_ok-have_room.ensures in
    let less : c.args.size < stat.size = omega (arith, c.if-size-old.false, c.if-size-old-2.false) in
    let does = truncated_step c.args.fd c.in_ok-slot.slot c.in_ok-slot.ensures.found c.args.size (sym c.may_write.ensures ∙ c.if-not-may_write.false) stat found.told less (looked_back (TellsRoom stat.size c.args.size (Ok tt)) found.looks (rw c.from.ensures at looked.told)) in
    let file = the_file c.in_ok-slot.slot.id (table_of c.args.v.now.geometry (g.N.NorState.bytes c.args.v.now.nor.now)) in
    λ into. stands_cornered does (looks_then found.looks looked.looks) _ (rw c.if-not-branch.true at (c.in_ok-cut_file.ensures file).steps)

pub returns-in_err-cut_file-clause-counted : goal.returns-in_err-cut_file-clause-counted
returns-in_err-cut_file-clause-counted g c =
    let found = c.in_ok-old.ensures in
    let stat = c.in_ok-old.field-0 in
    let looked = c.in_ok-have_room.ensures in
    let less : c.args.size < stat.size = omega (arith, c.if-size-old.false, c.if-size-old-2.false) in
    let does = truncated_step c.args.fd c.in_ok-slot.slot c.in_ok-slot.ensures.found c.args.size (sym c.may_write.ensures ∙ c.if-not-may_write.false) stat found.told less (looked_back (TellsRoom stat.size c.args.size (Ok tt)) found.looks (rw c.from.ensures at looked.told)) in
    let file = the_file c.in_ok-slot.slot.id (table_of c.args.v.now.geometry (g.N.NorState.bytes c.args.v.now.nor.now)) in
    rw (err_is c.from_residual-in_err-cut_file.result c.from_residual-in_err-cut_file.ensures.1) (λ into. stands_broken does (looks_then found.looks looked.looks) c.in_err-cut_file.field-0.0 (fails_true (c.in_err-cut_file.ensures file)).steps)
