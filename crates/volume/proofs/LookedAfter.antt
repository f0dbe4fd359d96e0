-- Calls after which the device is only read.
use Rattle.std.proofs.Common.{◌≡◌, ℕ, List, Bool, sym, ◌∙◌, ap, subst, arith}
use Rattle.std.specs.Prelude.{Option, Result, Ok, None, MatchResult}
use Rattle.geometry.specs.declared.geometry.Geometry.{Geometry}
use Rattle.nor_core.specs.declared.state.NorState.{Ghosts as NorOf}
use Rattle.nor_core.specs.Device.{OnlyReads}
use Rattle.nor_core.proofs.Cuts.{read_after, reads_then}
use Rattle.table_model.specs.declared.error.FsErr.{FsErr}
use Rattle.table_model.specs.declared.error.FsErr.TheVariants.{DeviceFault}
use Rattle.table_model.specs.Table.{File, State}
use Rattle.table_model.specs.Reply.{Answer}
use Rattle.table_model.specs.Ask.{Ask}
use Rattle.table_model.specs.Window.{Moment}
use Rattle.image_model.specs.Tables.{table_of}
use Rattle.image_model.specs.Tidy.{IsTidy, HasReserve}
use Rattle.image_model.specs.Collect.{chosen_block}
use Rattle.write_window.specs.Runs.{Run}
use Rattle.fd_table.specs.declared.slot.FdSlot.{FdSlot}
use Rattle.fd_table.specs.Slots.{descriptors}
use Rattle.call_model.specs.Memory.{Memory, IsAt}
use Rattle.call_model.specs.Calls.{Stands}
use Rattle.block_gc.specs.RoomMade.{IsReady}
use Rattle.file_calls.specs.States.{IsImageOf}
use Rattle.file_calls.specs.Goes.{Does, IsCollected}
use Rattle.file_calls.proofs.CleansBy.{cleans_read}
use Rattle.file_calls.proofs.TurnsBy.{turns_read}
use Rattle.file_calls.specs.Writings.{WriteDone, WritesOn}
use Rattle.image_model.specs.Sound.{IsSound}
use Rattle.table_model.specs.Window.{settled_at}
use Rattle.volume.specs.declared.volume.Volume.{Volume}
use Rattle.volume.specs.Holds.{memory}
use Rattle.volume.specs.Same.{IsSameVolume}
use Rattle.volume.specs.Settles.{Settles}
use Rattle.volume.proofs.Staying.{same_then}
use Rattle.volume.specs.Acts.{Acts}

module _ {D : Type 0} {nor : NorOf D} {g : Geometry} {mid new : D} (reads : OnlyReads nor mid new) where
  pub stands_on : {memory : Memory} {m : Moment} → Stands nor g mid memory m → Stands nor g new memory m
  stands_on {memory} {m} was = record { tells = reads.told was.tells; image = subst (λ (l : List ℕ). IsAt g l memory m) (sym reads.bytes) was.image }

  image_on : {slots : List FdSlot} {s : State} → IsImageOf nor g mid slots s → IsImageOf nor g new slots s
  image_on was = record { tells = reads.told was.tells; tidy = subst (λ (l : List ℕ). IsTidy g l) (sym reads.bytes) was.tidy; table = was.table ∙ ap (λ (l : List ℕ). table_of g l) (sym reads.bytes); slots = was.slots; opened = was.opened }

  module _ {old : D} {ask : Ask} {slots last : List FdSlot} {wrote : Bool} {reply : Answer} where
    does_on : Does nor g ask old mid slots last wrote reply → Does nor g ask old new slots last wrote reply
    does_on did = record {
      cuts = read_after did.cuts reads;
      upkeep = read_after did.upkeep reads;
      collects = λ s here is. subst (λ (n : ℕ). IsCollected g reply (nor.bytes old) (nor.bytes new) (nor.device_writes old) n) (sym reads.writes) (subst (λ (l : List ℕ). IsCollected g reply (nor.bytes old) l (nor.device_writes old) (nor.device_writes mid)) (sym reads.bytes) (did.collects s here is));
      cornered = λ s here corner tight.
          let w = did.cornered s here corner tight in
          record {
            holds = image_on w.holds;
            reserve = subst (λ (l : List ℕ). HasReserve g l) (sym reads.bytes) w.reserve;
            none = subst (λ (l : List ℕ). chosen_block g l ≡ None) (sym reads.bytes) w.none;
            short = subst (λ (l : List ℕ). IsReady g l 1 0 → ⊥) (sym reads.bytes) w.short;
          };
      begun = did.begun;
      untouched = λ idle. reads_then (did.untouched idle) reads;
      still = did.still;
      keeps = did.keeps;
      cause = λ e. let rose = did.cause e in omega (arith, rose, reads.faults);
      differs = did.differs;
      undamaged = did.undamaged;
      among = did.among;
      brief = did.brief;
      numbered = did.numbered;
      looks = did.looks;
      cleans = λ s here write other. cleans_read (did.cleans s here write other) reads;
      turns = λ s here write. turns_read (did.turns s here write) reads;
    }

    -- a call after which the device is only read
    pub acts_on : {run : Option Run} → Acts nor g ask old mid slots last run wrote reply → Acts nor g ask old new slots last run wrote reply
    acts_on acts = record {
      does = does_on acts.does;
      answers = λ s here no_fault whole.
          let a = acts.answers s here no_fault whole in
          record {
            reply_is = a.reply_is;
            stands = stands_on a.stands;
            reserve = λ two. subst (λ (l : List ℕ). HasReserve g l) (sym reads.bytes) (a.reserve two);
            reads = λ refusal. reads_then (a.reads refusal) reads;
          };
      empty = acts.empty;
      waits = acts.waits;
    }

  -- so of a write
  pub writes_read : {old : D} {id at : ℕ} {bytes : List ℕ} {f : File} {wrote stood stands : Bool} {result : Result (Unit {0}) FsErr} → WritesOn nor g id at bytes f old mid wrote stood stands result → WritesOn nor g id at bytes f old new wrote stood stands result
  writes_read {old} {id} {at} {bytes} {f} {wrote} {stood} {stands} {result} did = record {
    untouched = λ idle. reads_then (did.untouched idle) reads;
    cause = λ e. let rose = did.cause e in omega (arith, rose, reads.faults);
    means = did.means;
    cuts = read_after did.cuts reads;
    upkeep = read_after did.upkeep reads;
    counted = did.counted;
    ends = λ tells can. subst (λ (l : List ℕ). MatchResult result (λ ok. WriteDone g id at bytes f (nor.bytes old) l) (λ why. why ≡ DeviceFault)) (sym reads.bytes) (did.ends tells can);
    turns = λ tells can. turns_read (did.turns tells can) reads;
  }

-- what waited was put onto the chip, and then the device was only read
pub settles_read : {N : Type 0} {nor : NorOf N} {old mid new : Volume N nor} (had : Bool) → Settles old mid (Ok had) → OnlyReads nor mid.nor.now new.nor.now → IsSameVolume mid new → new.slots.now ≡ mid.slots.now → (memory new).run ≡ (memory mid).run → new.stage ≡ mid.stage → new.counted ≡ mid.counted →
    ((memory old).run ≡ None → new ≡ mid) → Settles old new (Ok had)
settles_read {N} {nor} {old} {mid} {new} had was reads same slots run stage counted idle = record {
  same = same_then was.same same;
  slots = slots ∙ was.slots;
  cuts = read_after was.cuts reads;
  upkeep = read_after was.upkeep reads;
  counted = λ m here before. counted ∙ was.counted m here before;
  done = (stage ∙ was.done.0, run ∙ was.done.1, was.done.2);
  stops = tt;
  idle = λ none. let w = was.idle none in (w.0, idle none ∙ w.1);
  stands = λ m here.
      let w = was.stands m here in
      let g : mid.geometry ≡ new.geometry = sym same.geometry in
      let of_slots : List FdSlot → Memory = λ l. record { slots = descriptors l; run = (memory mid).run } in
      let of_run : Option Run → Memory = λ o. record { slots = descriptors new.slots.now; run = o } in
      let memories : memory mid ≡ memory new = ap of_slots (sym slots) ∙ ap of_run (sym run) in (
        subst (λ (k : Geometry). Stands nor k new.nor.now (memory new) (settled_at m.state)) g (subst (λ (x : Memory). Stands nor mid.geometry new.nor.now x (settled_at m.state)) memories (stands_on reads w.0)),
        record { sound = λ magics. subst (λ (l : List ℕ). IsSound old.geometry l (nor.bytes old.nor.now)) (sym reads.bytes) (w.1.sound magics); reserve = λ reserve. subst (λ (l : List ℕ). HasReserve old.geometry l) (sym reads.bytes) (w.1.reserve reserve) },
      );
  turns = λ m r f here run is. turns_read (was.turns m r f here run is) reads;
}
