use Rattle.std.proofs.Common.{◌≡◌, ◌∙◌, sym, ap, refl, true, false, length, Bool}
use Rattle.std.specs.Prelude.{List, Err, Ok, Some}
use Rattle.nor_core.proofs.Cuts.{reads_none}
use Rattle.table_model.specs.declared.error.FsErr.TheVariants.{DeviceFault, Damaged}
use Rattle.table_model.specs.Window.{Moment, settled_at}
use Rattle.fd_table.specs.declared.slot.FdSlot.{FdSlot}
use Rattle.fd_table.specs.Slots.{descriptors}
use Rattle.volume.specs.Holds.{Holds}
use Rattle.volume.specs.declared.map_calls.MapErr.TheVariants.{Call, MapBusy}
use Rattle.volume.specs.Mapping.{is_attached}
use Rattle.volume.specs.MapReads.{id_at, attach_refusal}
use Rattle.volume.proofs.Staying.{same_none}
use Rattle.volume.proofs.MapCalls.{stopped_attach, refused_attach, filled_attach, slots_in, open_in, same_call, descriptor_no_fault, descriptor_no_page}
use Rattle.volume.proofs.volume.Volume.attach_map.Goals as goal

pub returns-in-Err : goal.returns-in-Err
returns-in-Err g c = stopped_attach (id_at c.args.fd) c.args.first (length c.args.numbers.now) c.in-Err.why c.settled.result (record { why = Call c.in-Err.why; numbers = c.args.numbers }) refl refl c.in-Err.is c.settled.ensures.closed c.settled.ensures.settles (λ m takes here. rw c.in-Err.is at (c.settled.ensures.map m takes here))

pub returns-then-is_attached : goal.returns-then-is_attached
returns-then-is_attached g c =
    let mid = c.settled.new.self in
    let on : is_attached mid ≡ true = sym c.is_attached.ensures ∙ c.if-is_attached.true in
    refused_attach (reads_none mid.nor.now) (same_none mid) refl refl c.in-Ok.had c.settled.result c.in-Ok.is c.settled.ensures.closed c.settled.ensures.settles c.settled.ensures.still refl refl (λ m takes here. rw c.in-Ok.is at (c.settled.ensures.map m takes here))
    (id_at c.args.fd) c.args.first (length c.args.numbers.now) (record { why = MapBusy; numbers = c.args.numbers }) refl refl (λ e. cc) (λ d e. cc) refl (λ m here. ap (λ (b : Bool). attach_refusal b (id_at c.args.fd m.state)) (sym on))

pub returns-in-Err-id_of : goal.returns-in-Err-id_of
returns-in-Err-id_of g c =
    let mid = c.settled.new.self in
    let off : is_attached mid ≡ false = sym c.is_attached.ensures ∙ c.if-is_attached.false in
    let why = rw c.in-Err-id_of.is at c.id_of.ensures.error in
    refused_attach (reads_none mid.nor.now) (same_none mid) refl refl c.in-Ok.had c.settled.result c.in-Ok.is c.settled.ensures.closed c.settled.ensures.settles c.settled.ensures.still refl refl (λ m takes here. rw c.in-Ok.is at (c.settled.ensures.map m takes here))
    (id_at c.args.fd) c.args.first (length c.args.numbers.now) (record { why = Call c.in-Err-id_of.why; numbers = c.args.numbers }) refl (rw why refl) (λ e. descriptor_no_fault (sym why ∙ same_call (Some (Call c.in-Err-id_of.why)) c.in-Err-id_of.why DeviceFault refl e)) (λ d e. descriptor_no_page d (sym why ∙ same_call (Some (Call c.in-Err-id_of.why)) c.in-Err-id_of.why (Damaged d) refl e)) refl
    (λ m here.
    let told : id_at c.args.fd m.state ≡ Err c.in-Err-id_of.why = c.id_of.ensures.told m.state (slots_in mid m here) ∙ c.in-Err-id_of.is in
    rw (off, told) refl)

pub returns-in-Ok-id_of : goal.returns-in-Ok-id_of
returns-in-Ok-id_of g c =
    let mid = c.settled.new.self in
    let done = c.attach_settled.ensures in
    let new = c.attach_settled.new.self in
    let off : is_attached mid ≡ false = sym c.is_attached.ensures ∙ c.if-is_attached.false in
    let told : (m : Moment) → Holds new (settled_at m.state) → id_at c.args.fd m.state ≡ Ok c.in-Ok-id_of.id = λ m here. c.id_of.ensures.told m.state (slots_in new m here ∙ ap (λ (l : List FdSlot). descriptors l) done.slots) ∙ c.in-Ok-id_of.is in
    filled_attach done.looks done.same done.slots (rw (done.held, done.window) refl) c.in-Ok.had c.settled.result c.in-Ok.is c.settled.ensures.closed c.settled.ensures.settles c.settled.ensures.still
    (id_at c.args.fd) c.in-Ok-id_of.id c.args.first (length c.args.numbers.now) c.attach_settled.result (λ m takes here. rw c.in-Ok.is at (c.settled.ensures.map m takes here)) off done.stage done.done done.back done.none done.why
    (λ m here used is. told m here) (λ m here none. absurd (open_in new m c.args.fd c.in-Ok-id_of.id here (told m here) none))
