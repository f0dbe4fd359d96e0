use Rattle.std.proofs.Common.{◌≡◌, ◌≤◌, ◌+◌, ℕ, List, length, true, false, refl, sym, ◌∙◌, ap, arith, subst, take, drop}
use Rattle.std.proofs.lemmas.List.{length-take, length-take-le, take-append-le}
use Rattle.table_model.specs.declared.error.FsErr.TheVariants.{NotReadable}
use Rattle.nor_core.proofs.Cuts.{reads_none}
use Rattle.image_model.specs.Places.{IsImage}
use Rattle.table_model.specs.Descriptors.{may_read}
use Rattle.table_model.specs.Reply.{Gives}
use Rattle.table_model.specs.Ask.{Reads}
use Rattle.std.specs.Prelude.{Option}
use Rattle.table_model.specs.Table.{Open}
use Rattle.table_model.specs.Descriptors.{put_at}
use Rattle.fd_table.specs.Slots.{descriptors, opened}
use Rattle.file_calls.specs.Slots.{read_fault}
use Rattle.file_calls.proofs.Numbered.{read_fine, read_barred}
use Rattle.file_calls.proofs.Going.{err_is, goes_barred, goes_moved}
use Rattle.file_read.proofs.Going.{fault}
use Rattle.file_calls.proofs.Descriptors.{read_closed, goes_closed, file_at, whole_file, read_refused, read_gives, held_at, unread_by}
use Rattle.file_calls.proofs.reading.read_in.Goals as goal

pub returns-in_err-slot-clause-goes : goal.returns-in_err-slot-clause-goes
returns-in_err-slot-clause-goes g c =
    let bad = c.in_err-slot.ensures in
    rw (err_is c.from_residual.result c.from_residual.ensures.1, bad.error) (goes_closed (Reads c.args.fd c.args.count) c.args.fd c.args.v.now.wrote c.requires.fresh refl refl (ap read_fault bad.closed) bad.closed (λ s none. read_closed c.args.v.now.geometry _ s c.args.fd c.args.count none))

pub returns-then-not-may_read-clause-goes : goal.returns-then-not-may_read-clause-goes
returns-then-not-may_read-clause-goes g c =
    let never : may_read c.in_ok-slot.slot.flags ≡ false = sym c.may_read.ensures ∙ c.if-not-may_read.true in
    goes_barred (Reads c.args.fd c.args.count) NotReadable c.args.v.now.wrote c.requires.fresh (reads_none c.args.v.now.nor.now) refl refl refl (read_barred (opened c.in_ok-slot.slot) c.in_ok-slot.ensures.found never)
    (λ s here. read_refused c.args.fd c.in_ok-slot.slot c.in_ok-slot.ensures.found c.args.count never s here)

pub returns-clause-goes : goal.returns-clause-goes
returns-clause-goes g c =
    let read = c.in_ok-read.ensures in
    let may : may_read c.in_ok-slot.slot.flags ≡ true = sym c.may_read.ensures ∙ c.if-not-may_read.false in
    let room = c.requires.room in
    let lent : length (take c.args.count c.args.into.now) ≡ c.args.count = length-take-le c.args.count c.args.into.now room in
    let kept : length c.read_file.new.into ≡ c.args.count = c.read_file.auto.into ∙ lent in
    let few : c.in_ok-read.read ≤ c.args.count = rw lent at read.within.0 in
    let put = c.put.ensures ∙ ap (λ (o : Option Open). put_at (descriptors c.args.slots.now) c.args.fd o) (held_at c.in_ok-slot.slot (c.in_ok-slot.slot.offset + c.in_ok-read.read) c.in_ok-slot.ensures.used) in
    rw (take-append-le c.in_ok-read.read c.read_file.new.into (drop c.args.count c.args.into.now) (omega (arith, kept, few)))
    (goes_moved (Reads c.args.fd c.args.count) (Gives (take c.in_ok-read.read c.read_file.new.into)) c.read_file.new.v.wrote (read.looks.wrote ∙ c.requires.fresh) read.looks.reads refl (read_fine (opened c.in_ok-slot.slot) c.in_ok-slot.ensures.found may) refl refl
    (λ bytes e. let same : take c.in_ok-read.read c.read_file.new.into ≡ bytes = cc in record { fd = c.args.fd; count = c.args.count; reads = refl; few = subst (λ (l : List ℕ). length l ≤ c.args.count) same (omega (arith, few, kept, length-take c.in_ok-read.read c.read_file.new.into)) })
    (λ k. absurd (let no : false ≡ true = k in cc))
    (λ s here.
    let size = g.met.N.Nor.sized c.args.v.now.nor.now here.tells in
    let whole : IsImage c.args.v.now.geometry (g.N.NorState.bytes c.args.v.now.nor.now) = record { len = omega (arith, size, c.args.v.now.volume) } in
    rw put (read_gives c.args.fd c.in_ok-slot.slot c.in_ok-slot.ensures.found c.args.count c.in_ok-read.read (take c.in_ok-read.read c.read_file.new.into) may
    (λ f file. let is = read.told here.tells here.tidy f file in (rw lent at is.bytes, rw lent at is.count)) (λ t at. whole) s here)))

pub returns-in_err-read-clause-goes : goal.returns-in_err-read-clause-goes
returns-in_err-read-clause-goes g c =
    let failed = c.in_err-read.ensures in
    let may : may_read c.in_ok-slot.slot.flags ≡ true = sym c.may_read.ensures ∙ c.if-not-may_read.false in
    rw (err_is c.from_residual-in_err-read.result c.from_residual-in_err-read.ensures.1) (unread_by {T = ℕ} c.in_ok-slot.slot.id (Reads c.args.fd c.args.count) c.in_err-read.field-0.0 c.read_file.new.v.wrote (failed.looks.wrote ∙ c.requires.fresh) failed.looks.reads refl (read_fine (opened c.in_ok-slot.slot) c.in_ok-slot.ensures.found may) refl refl failed.missing failed.cause
    (λ s here.
    let w = file_at c.args.fd c.in_ok-slot.slot c.in_ok-slot.ensures.found s here in
    let size = g.met.N.Nor.sized c.args.v.now.nor.now here.tells in
    let whole : IsImage c.args.v.now.geometry (g.N.NorState.bytes c.args.v.now.nor.now) = record { len = omega (arith, size, c.args.v.now.volume) } in
    fault {T = ℕ} {U = ℕ} c.in_err-read.field-0.0 _ (λ x. Unit {0}) (failed.told here.tells here.tidy w.file (whole_file c.args.v.now.geometry (g.N.NorState.bytes c.args.v.now.nor.now) c.in_ok-slot.slot.id w.file whole here.tidy w.listed))))
