use Rattle.std.proofs.Common.{rules, [], ◌≡◌, not, ◌&&◌, nat_le, ◌+◌, ◌<◌, ℕ, length, true, false, refl, sym, ◌∙◌, ap, arith, Ok, Err, Option}
use Rattle.std.proofs.lemmas.Result.{err_from_is_err_and}
use Rattle.std.proofs.lemmas.Bool.{eq-eqb}
use Rattle.nor_core.proofs.Cuts.{reads_none}
use Rattle.table_model.specs.declared.error.FsErr.{FsErr}
use Rattle.table_model.specs.declared.error.FsErr.TheVariants.{NotWritable}
use Rattle.table_model.specs.Table.{Open}
use Rattle.table_model.specs.Descriptors.{put_at, is_direct}
use Rattle.table_model.specs.Window.{page_end}
use Rattle.table_model.specs.Reply.{Tells as Number, Refuses}
use Rattle.table_model.specs.Ask.{Writes}
use Rattle.fd_table.specs.Slots.{descriptors, opened}
use Rattle.file_calls.specs.Slots.{write_fault}
use Rattle.file_calls.proofs.Numbered.{write_fine, write_barred}
use Rattle.flash_view.proofs.Looking.{looks_then, same_then}
use Rattle.image_model.specs.Tables.{table_of}
use Rattle.file_calls.proofs.Going.{goes_barred, goes_refused, goes_shown, goes_written, goes_unwritten, rose_later, looked_back}
use Rattle.volume.proofs.Acting.{acts_settled, acts_refused}
use Rattle.file_calls.proofs.Descriptors.{goes_closed, goes_unread, never_missing, held_at}
use Rattle.file_calls.proofs.Restates.{the_file}
use Rattle.file_calls.proofs.Cutting.{TellsRoom, is_old}
use Rattle.file_calls.proofs.WriteLoop.{sized_after}
use Rattle.file_calls.proofs.Standing.{stands_done, stands_stopped}
use Rattle.volume.proofs.WriteCalls.{write_closed, write_unwritable, write_empty, empty_ends, write_refuses, meets_write, write_step, write_turns, direct_ends, acts_waiting, ends_whole, turned_whole, moved_by, waits_at}
use Rattle.volume.proofs.write.write_in.Goals as goal

pub returns-in_err-slot-clause-acts : goal.returns-in_err-slot-clause-acts
returns-in_err-slot-clause-acts g c =
    let p = err_from_is_err_and c.from_residual.result c.from_residual.ensures.1 in
    let bad = c.in_err-slot.ensures in
    let ask = Writes c.args.fd c.args.bytes.now in
    rw (p.1, p.2) (λ into. acts_refused c.requires.none ask (Refuses c.in_err-slot.field-0.0) c.args.v.now.wrote refl refl
    (rw bad.error (goes_closed ask c.args.fd c.args.v.now.wrote c.requires.fresh refl refl (ap write_fault bad.closed) bad.closed (λ s none. write_closed c.args.v.now.geometry _ s c.args.fd c.args.bytes.now none))))

pub returns-then-not-may_write-clause-acts : goal.returns-then-not-may_write-clause-acts
returns-then-not-may_write-clause-acts g c =
    let ask = Writes c.args.fd c.args.bytes.now in
    λ into. acts_refused c.requires.none ask (Refuses NotWritable) c.args.v.now.wrote refl refl
    (goes_barred ask NotWritable c.args.v.now.wrote c.requires.fresh (reads_none c.args.v.now.nor.now) refl refl refl
    (write_barred (opened c.in_ok-slot.slot) c.in_ok-slot.ensures.found (sym c.may_write.ensures ∙ c.if-not-may_write.true))
    (λ s here. write_unwritable c.args.fd c.in_ok-slot.slot c.in_ok-slot.ensures.found c.args.bytes.now (sym c.may_write.ensures ∙ c.if-not-may_write.true) s here))

pub returns-then-is_empty-clause-acts : goal.returns-then-is_empty-clause-acts
returns-then-is_empty-clause-acts g c =
    let ask = Writes c.args.fd c.args.bytes.now in
    let may = sym c.may_write.ensures ∙ c.if-not-may_write.false in
    let none : length c.args.bytes.now ≡ 0 = search rules in
    λ into. acts_settled c.requires.none ask (Number 0) c.args.v.now.wrote (λ s here is. empty_ends c.args.fd c.in_ok-slot.slot c.in_ok-slot.ensures.found c.args.bytes.now may none s here)
    (goes_shown ask (Number 0) c.args.v.now.wrote c.requires.fresh (reads_none c.args.v.now.nor.now) refl (write_fine (opened c.in_ok-slot.slot) c.in_ok-slot.ensures.found (sym c.may_write.ensures ∙ c.if-not-may_write.false)) refl (rw none refl) (λ bytes e. absurd (cc))
    (λ s here. write_empty c.args.fd c.in_ok-slot.slot c.in_ok-slot.ensures.found c.args.bytes.now may none s here))

pub returns-in_err-size-clause-acts : goal.returns-in_err-size-clause-acts
returns-in_err-size-clause-acts g c =
    let p = err_from_is_err_and c.from_residual-in_err-size.result c.from_residual-in_err-size.ensures.1 in
    let failed = c.in_err-size.ensures in
    let ask = Writes c.args.fd c.args.bytes.now in
    rw (p.1, p.2) (λ into. acts_refused c.requires.none ask (Refuses c.in_err-size.field-0.0) c.record_of.new.v.wrote refl refl
    (goes_unread ask c.in_err-size.field-0.0 c.record_of.new.v.wrote (failed.looks.wrote ∙ c.requires.fresh) failed.looks.reads refl (write_fine (opened c.in_ok-slot.slot) c.in_ok-slot.ensures.found (sym c.may_write.ensures ∙ c.if-not-may_write.false)) refl refl failed.missed (λ e. failed.cause (ap (λ (w : FsErr). Err w) e))
    (λ s here no_fault. never_missing c.args.fd c.in_ok-slot.slot c.in_ok-slot.ensures.found s here (failed.told here.tells here.tidy no_fault))))

pub returns-in_err-have_room-clause-acts : goal.returns-in_err-have_room-clause-acts
returns-in_err-have_room-clause-acts g c =
    let p = err_from_is_err_and c.from_residual-in_err-have_room.result c.from_residual-in_err-have_room.ensures.1 in
    let found = c.in_ok-size.ensures in
    let stat = c.in_ok-size.field-0 in
    let failed = c.in_err-have_room.ensures in
    let looks = looks_then found.looks failed.looks in
    let ask = Writes c.args.fd c.args.bytes.now in
    let may = sym c.may_write.ensures ∙ c.if-not-may_write.false in
    let file = the_file c.in_ok-slot.slot.id (table_of c.args.v.now.geometry (g.N.NorState.bytes c.args.v.now.nor.now)) in
    let some : 0 < length c.args.bytes.now = search rules in
    rw (p.1, p.2) (λ into. acts_refused c.requires.none ask (Refuses c.in_err-have_room.field-0.0) c.have_room.new.v.wrote refl refl
    (goes_refused ask c.in_err-have_room.field-0.0 c.have_room.new.v.wrote (looks.wrote ∙ c.requires.fresh) looks.reads refl (write_fine (opened c.in_ok-slot.slot) c.in_ok-slot.ensures.found (sym c.may_write.ensures ∙ c.if-not-may_write.false)) (meets_write c.in_err-have_room.field-0.0 c.args.fd c.args.bytes.now failed.among) (λ e. rose_later _ _ _ found.looks.same.faults (failed.cause e))
    (λ s here no_fault. write_refuses c.args.fd c.in_ok-slot.slot c.in_ok-slot.ensures.found c.args.bytes.now may stat.size file (is_old c.args.fd c.in_ok-slot.slot c.in_ok-slot.ensures.found 0 may stat found.told) c.place_of-at.result c.place_of-at.ensures some c.max.result (omega (arith, c.max.ensures, c.from.ensures, c.from-2.ensures))
    (looked_back (TellsRoom stat.size c.max.result (Err c.in_err-have_room.field-0.0)) found.looks failed.told) s here no_fault)))

pub returns-then-may_wait-clause-acts : goal.returns-then-may_wait-clause-acts
returns-then-may_wait-clause-acts g c =
    let found = c.in_ok-size.ensures in
    let stat = c.in_ok-size.field-0 in
    let looked = c.in_ok-have_room.ensures in
    let looks = looks_then found.looks looked.looks in
    let slot = c.in_ok-slot.slot in
    let may = sym c.may_write.ensures ∙ c.if-not-may_write.false in
    let file = the_file c.in_ok-slot.slot.id (table_of c.args.v.now.geometry (g.N.NorState.bytes c.args.v.now.nor.now)) in
    let some : 0 < length c.args.bytes.now = search rules in
    let put = c.put.ensures ∙ ap (λ (o : Option Open). put_at (descriptors c.args.slots.now) c.args.fd o) (held_at slot (c.from.result + length c.args.bytes.now) c.in_ok-slot.ensures.used)
    ∙ ap (λ (n : ℕ). moved_by c.args.slots.now c.args.fd slot (n + length c.args.bytes.now)) c.from.ensures in
    let waits : (not (is_direct slot.flags) && nat_le (c.from.result + length c.args.bytes.now) (page_end c.have_room.new.v.geometry c.place_of-at.result)) ≡ true = sym c.may_wait.ensures ∙ c.if-may_wait.true in
    λ into. acts_waiting c.args.fd slot c.in_ok-slot.ensures.found c.args.bytes.now may stat.size file (is_old c.args.fd c.in_ok-slot.slot c.in_ok-slot.ensures.found 0 may stat found.told) c.place_of-at.result c.place_of-at.ensures some c.max.result (omega (arith, c.max.ensures, c.from.ensures, c.from-2.ensures))
    (looked_back (TellsRoom stat.size c.max.result (Ok tt)) found.looks looked.told) (waits_at c.args.v.now.geometry slot c.args.bytes.now c.from.ensures (rw looks.same.geometry at waits)) looks.reads c.have_room.new.v.wrote (looks.wrote ∙ c.requires.fresh) c.put.new.slots put c.begin.ensures.run

pub returns-in_err-write_sized-clause-same : goal.returns-in_err-write_sized-clause-same
returns-in_err-write_sized-clause-same g c = same_then (looks_then c.in_ok-size.ensures.looks c.in_ok-have_room.ensures.looks).same (c.in_err-write_sized.ensures (the_file 0 []) (sized_after c.in_ok-slot.slot.id c.place_of-at.result c.args.bytes.now c.in_ok-size.field-0 (the_file 0 []) (looks_then c.in_ok-size.ensures.looks c.in_ok-have_room.ensures.looks) c.in_ok-size.ensures.told)).steps.framed.same

pub returns-clause-same : goal.returns-clause-same
returns-clause-same g c = same_then (looks_then c.in_ok-size.ensures.looks c.in_ok-have_room.ensures.looks).same (c.in_ok-write_sized.ensures (the_file 0 []) (sized_after c.in_ok-slot.slot.id c.place_of-at.result c.args.bytes.now c.in_ok-size.field-0 (the_file 0 []) (looks_then c.in_ok-size.ensures.looks c.in_ok-have_room.ensures.looks) c.in_ok-size.ensures.told)).steps.framed.same

pub returns-in_err-write_sized-clause-acts : goal.returns-in_err-write_sized-clause-acts
returns-in_err-write_sized-clause-acts g c =
    let p = err_from_is_err_and c.from_residual-in_err-write_sized.result c.from_residual-in_err-write_sized.ensures.1 in
    let found = c.in_ok-size.ensures in
    let stat = c.in_ok-size.field-0 in
    let looked = c.in_ok-have_room.ensures in
    let slot = c.in_ok-slot.slot in
    let ask = Writes c.args.fd c.args.bytes.now in
    let may = sym c.may_write.ensures ∙ c.if-not-may_write.false in
    let file = the_file c.in_ok-slot.slot.id (table_of c.args.v.now.geometry (g.N.NorState.bytes c.args.v.now.nor.now)) in
    let some : 0 < length c.args.bytes.now = search rules in
    let does = write_step c.args.fd slot c.in_ok-slot.ensures.found c.args.bytes.now may stat.size file (is_old c.args.fd c.in_ok-slot.slot c.in_ok-slot.ensures.found 0 may stat found.told) c.place_of-at.result c.place_of-at.ensures some c.max.result (omega (arith, c.max.ensures, c.from.ensures, c.from-2.ensures)) (looked_back (TellsRoom stat.size c.max.result (Ok tt)) found.looks looked.told) in
    let turns = write_turns c.args.fd slot c.in_ok-slot.ensures.found c.args.bytes.now may stat.size file (is_old c.args.fd c.in_ok-slot.slot c.in_ok-slot.ensures.found 0 may stat found.told) c.place_of-at.result c.place_of-at.ensures some c.max.result (omega (arith, c.max.ensures, c.from.ensures, c.from-2.ensures)) (looked_back (TellsRoom stat.size c.max.result (Ok tt)) found.looks looked.told) (looks_then found.looks looked.looks).same.geometry in
    rw (p.1, p.2) (λ into. acts_refused c.requires.none ask (Refuses c.in_err-write_sized.field-0.0) c.write_sized.new.v.wrote refl refl
    (goes_unwritten ask (Number (length c.args.bytes.now)) refl refl (write_fine (opened c.in_ok-slot.slot) c.in_ok-slot.ensures.found (sym c.may_write.ensures ∙ c.if-not-may_write.false)) does (looks_then found.looks looked.looks) c.requires.fresh refl c.in_err-write_sized.field-0.0 refl refl turns
    (c.in_err-write_sized.ensures file (sized_after slot.id c.place_of-at.result c.args.bytes.now stat file (looks_then found.looks looked.looks) found.told))))

pub returns-clause-acts : goal.returns-clause-acts
returns-clause-acts g c =
    let found = c.in_ok-size.ensures in
    let stat = c.in_ok-size.field-0 in
    let looked = c.in_ok-have_room.ensures in
    let slot = c.in_ok-slot.slot in
    let bytes = c.args.bytes.now in
    let ask = Writes c.args.fd bytes in
    let may = sym c.may_write.ensures ∙ c.if-not-may_write.false in
    let file = the_file c.in_ok-slot.slot.id (table_of c.args.v.now.geometry (g.N.NorState.bytes c.args.v.now.nor.now)) in
    let some : 0 < length bytes = search rules in
    let room = looked_back (TellsRoom stat.size c.max.result (Ok tt)) found.looks looked.told in
    let does = write_step c.args.fd slot c.in_ok-slot.ensures.found bytes may stat.size file (is_old c.args.fd c.in_ok-slot.slot c.in_ok-slot.ensures.found 0 may stat found.told) c.place_of-at.result c.place_of-at.ensures some c.max.result (omega (arith, c.max.ensures, c.from.ensures, c.from-2.ensures)) room in
    let turns = write_turns c.args.fd slot c.in_ok-slot.ensures.found bytes may stat.size file (is_old c.args.fd c.in_ok-slot.slot c.in_ok-slot.ensures.found 0 may stat found.told) c.place_of-at.result c.place_of-at.ensures some c.max.result (omega (arith, c.max.ensures, c.from.ensures, c.from-2.ensures)) room (looks_then found.looks looked.looks).same.geometry in
    let put = c.put-2.ensures ∙ ap (λ (o : Option Open). put_at (descriptors c.args.slots.now) c.args.fd o) (held_at slot (c.from.result + length bytes) c.in_ok-slot.ensures.used)
    ∙ ap (λ (n : ℕ). moved_by c.args.slots.now c.args.fd slot (n + length bytes)) c.from.ensures in
    let apart : (not (is_direct slot.flags) && nat_le (c.from.result + length bytes) (page_end c.have_room.new.v.geometry c.place_of-at.result)) ≡ false = sym c.may_wait.ensures ∙ c.if-may_wait.false in
    λ into. acts_settled c.requires.none ask (Number (length bytes)) c.write_sized.new.v.wrote
    (λ s here is. direct_ends c.args.fd slot c.in_ok-slot.ensures.found bytes may stat.size file (is_old c.args.fd c.in_ok-slot.slot c.in_ok-slot.ensures.found 0 may stat found.told) c.place_of-at.result c.place_of-at.ensures some c.max.result (omega (arith, c.max.ensures, c.from.ensures, c.from-2.ensures)) room (waits_at c.args.v.now.geometry slot bytes c.from.ensures (rw (looks_then found.looks looked.looks).same.geometry at apart)) s here)
    (goes_written ask (Number (length bytes)) refl refl (write_fine (opened c.in_ok-slot.slot) c.in_ok-slot.ensures.found (sym c.may_write.ensures ∙ c.if-not-may_write.false)) does (looks_then found.looks looked.looks) c.requires.fresh refl c.put-2.new.slots put refl (eq-eqb (length bytes) (length bytes) refl) (λ given e. absurd (cc)) (λ k. absurd (let no : false ≡ true = k in cc)) turns
    (turned_whole (c.in_ok-write_sized.ensures file (sized_after slot.id c.place_of-at.result bytes stat file (looks_then found.looks looked.looks) found.told))))

pub returns-in_err-write_sized-clause-counted : goal.returns-in_err-write_sized-clause-counted
returns-in_err-write_sized-clause-counted g c =
    let p = err_from_is_err_and c.from_residual-in_err-write_sized.result c.from_residual-in_err-write_sized.ensures.1 in
    let found = c.in_ok-size.ensures in
    let stat = c.in_ok-size.field-0 in
    let looked = c.in_ok-have_room.ensures in
    let slot = c.in_ok-slot.slot in
    let bytes = c.args.bytes.now in
    let may = sym c.may_write.ensures ∙ c.if-not-may_write.false in
    let file = the_file c.in_ok-slot.slot.id (table_of c.args.v.now.geometry (g.N.NorState.bytes c.args.v.now.nor.now)) in
    let some : 0 < length bytes = search rules in
    let looks = looks_then found.looks looked.looks in
    let does = write_step c.args.fd slot c.in_ok-slot.ensures.found bytes may stat.size file (is_old c.args.fd c.in_ok-slot.slot c.in_ok-slot.ensures.found 0 may stat found.told) c.place_of-at.result c.place_of-at.ensures some c.max.result (omega (arith, c.max.ensures, c.from.ensures, c.from-2.ensures)) (looked_back (TellsRoom stat.size c.max.result (Ok tt)) found.looks looked.told) in
    let sized = sized_after slot.id c.place_of-at.result bytes stat file looks found.told in
    rw (p.1, p.2) (λ into. stands_stopped does looks c.in_err-write_sized.field-0.0 (c.in_err-write_sized.ensures file sized).steps)

pub returns-clause-counted : goal.returns-clause-counted
returns-clause-counted g c =
    let found = c.in_ok-size.ensures in
    let stat = c.in_ok-size.field-0 in
    let looked = c.in_ok-have_room.ensures in
    let slot = c.in_ok-slot.slot in
    let bytes = c.args.bytes.now in
    let may = sym c.may_write.ensures ∙ c.if-not-may_write.false in
    let file = the_file c.in_ok-slot.slot.id (table_of c.args.v.now.geometry (g.N.NorState.bytes c.args.v.now.nor.now)) in
    let some : 0 < length bytes = search rules in
    let looks = looks_then found.looks looked.looks in
    let does = write_step c.args.fd slot c.in_ok-slot.ensures.found bytes may stat.size file (is_old c.args.fd c.in_ok-slot.slot c.in_ok-slot.ensures.found 0 may stat found.told) c.place_of-at.result c.place_of-at.ensures some c.max.result (omega (arith, c.max.ensures, c.from.ensures, c.from-2.ensures)) (looked_back (TellsRoom stat.size c.max.result (Ok tt)) found.looks looked.told) in
    let sized = sized_after slot.id c.place_of-at.result bytes stat file looks found.told in
    λ into. stands_done does looks (Number (length bytes)) (ends_whole (c.in_ok-write_sized.ensures file sized).steps)
