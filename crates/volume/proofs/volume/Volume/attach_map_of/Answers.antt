use Rattle.std.proofs.Common.{◌≡◌, ◌∙◌, sym, ap, refl, true, false, length, Bool}
use Rattle.nor_core.proofs.Cuts.{reads_none}
use Rattle.volume.specs.declared.map_calls.MapErr.TheVariants.{Call, MapBusy}
use Rattle.volume.specs.Mapping.{is_attached}
use Rattle.volume.specs.MapReads.{id_in, attach_refusal}
use Rattle.volume.proofs.Staying.{same_none}
use Rattle.volume.proofs.MapCalls.{stopped_attach, refused_attach, filled_attach, missing_in, listed_in}
use Rattle.volume.proofs.volume.Volume.attach_map_of.Goals as goal

pub returns-in-Err : goal.returns-in-Err
returns-in-Err g c = stopped_attach (id_in c.args.id) c.args.first (length c.args.numbers.now) c.in-Err.why c.settled.result (record { why = Call c.in-Err.why; numbers = c.args.numbers }) refl refl c.in-Err.is c.settled.ensures.closed c.settled.ensures.settles (λ m takes here. rw c.in-Err.is at (c.settled.ensures.map m takes here))

pub returns-then-is_attached : goal.returns-then-is_attached
returns-then-is_attached g c =
    let mid = c.settled.new.self in
    let on : is_attached mid ≡ true = sym c.is_attached.ensures ∙ c.if-is_attached.true in
    refused_attach (reads_none mid.nor.now) (same_none mid) refl refl c.in-Ok.had c.settled.result c.in-Ok.is c.settled.ensures.closed c.settled.ensures.settles c.settled.ensures.still refl refl (λ m takes here. rw c.in-Ok.is at (c.settled.ensures.map m takes here))
    (id_in c.args.id) c.args.first (length c.args.numbers.now) (record { why = MapBusy; numbers = c.args.numbers }) refl refl (λ e. cc) (λ d e. cc) refl (λ m here. ap (λ (b : Bool). attach_refusal b (id_in c.args.id m.state)) (sym on))

pub returns-else-is_attached : goal.returns-else-is_attached
returns-else-is_attached g c =
    let mid = c.settled.new.self in
    let done = c.attach_settled.ensures in
    let new = c.attach_settled.new.self in
    let off : is_attached mid ≡ false = sym c.is_attached.ensures ∙ c.if-is_attached.false in
    filled_attach done.looks done.same done.slots (rw (done.held, done.window) refl) c.in-Ok.had c.settled.result c.in-Ok.is c.settled.ensures.closed c.settled.ensures.settles c.settled.ensures.still
    (id_in c.args.id) c.args.id c.args.first (length c.args.numbers.now) c.attach_settled.result (λ m takes here. rw c.in-Ok.is at (c.settled.ensures.map m takes here)) off done.stage done.done done.back done.none done.why
    (λ m here used is. listed_in new m c.args.id here used is) (λ m here none. missing_in new m c.args.id here none)
