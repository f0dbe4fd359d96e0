-- A call that goes on after a look, as one from before it.
use Rattle.std.proofs.Common.{◌≡◌, List, Bool, sym, ◌∙◌, subst}
use Rattle.std.specs.Prelude.{Some, None}
use Rattle.geometry.specs.declared.geometry.Geometry.{Geometry}
use Rattle.nor_core.specs.declared.state.NorState.{Ghosts as NorOf}
use Rattle.nor_core.specs.Device.{OnlyReads}
use Rattle.nor_core.proofs.Cuts.{wider, after_reads, reads_then}
use Rattle.table_model.specs.Table.{State}
use Rattle.table_model.specs.Reply.{Answer}
use Rattle.table_model.specs.Ask.{Ask}
use Rattle.flash_view.specs.declared.view.View.{View}
use Rattle.flash_view.specs.Same.{OnlyLooks}
use Rattle.fd_table.specs.declared.slot.FdSlot.{FdSlot}
use Rattle.fd_table.specs.Slots.{descriptors}
use Rattle.file_calls.specs.Slots.{slots_fault}
use Rattle.file_calls.specs.Goes.{Reaches, Does, Goes}
use Rattle.file_calls.proofs.CleansBy.{cleans_after}
use Rattle.file_calls.proofs.TurnsBy.{turns_after}
use Rattle.file_calls.proofs.Going.{reads_stay, rose_later}

module _ {D : Type 0} {nor : NorOf D} {g : Geometry} {old mid : D} (reads : OnlyReads nor old mid) where
  reached : {new : D} {after : List FdSlot} {s : State} {ask : Ask} {reply : Answer} → Reaches nor g mid new after s ask reply → Reaches nor g old new after s ask reply
  reached r = record {
    reply_is = rw reads.bytes at r.reply_is;
    holds = rw reads.bytes at r.holds;
    reserve = rw reads.bytes at r.reserve;
    reads = λ refusal. reads_then reads (r.reads refusal);
  }

  does_from : {new : D} {slots after : List FdSlot} {ask : Ask} {reply : Answer} {wrote : Bool} → Does nor g ask mid new slots after wrote reply → Does nor g ask old new slots after wrote reply
  does_from call = record {
    cuts = wider (after_reads reads call.cuts) (λ tells image cut s here. cut s (reads_stay s reads here));
    upkeep = wider (after_reads reads call.upkeep) (λ tells image kept s here. kept s (reads_stay s reads here));
    collects = λ s here is. rw (reads.bytes, reads.writes) at (call.collects s (reads_stay s reads here) is);
    cornered = λ s here corner tight. call.cornered s (reads_stay s reads here) (rw (sym reads.bytes) at corner) tight;
    begun = λ s here w. rw reads.bytes at (call.begun s (reads_stay s reads here) w);
    untouched = λ none. reads_then reads (call.untouched none);
    still = call.still;
    keeps = call.keeps;
    cause = λ e. rose_later _ _ _ reads.faults (call.cause e);
    differs = call.differs;
    undamaged = λ s here d e. call.undamaged s (reads_stay s reads here) d e;
    among = call.among;
    brief = call.brief;
    numbered = call.numbered;
    looks = call.looks;
    cleans = λ s here write other. cleans_after reads (call.cleans s (reads_stay s reads here) write other);
    turns = λ s here write. rw reads.bytes at (turns_after reads (call.turns s (reads_stay s reads here) write));
  }

  goes_from : {new : D} {slots after : List FdSlot} {ask : Ask} {reply : Answer} {wrote : Bool} → slots_fault g (descriptors slots) ask ≡ None → Goes nor g ask mid new slots after wrote reply → Goes nor g ask old new slots after wrote reply
  goes_from fine call = record {
    does = does_from call.does;
    answers = λ s here no_fault whole. reached (call.answers s (reads_stay s reads here) no_fault (rw (sym reads.bytes) at whole));
    quiet = λ why e. absurd (let no : None ≡ Some why = sym fine ∙ e in cc);
  }

-- what it does since the look it does since before it, where its arguments and the descriptors are accepted
pub goes_since : {N : Type 0} {nor : NorOf N} {old mid : View N nor} {new : N} {slots after : List FdSlot} {ask : Ask} {reply : Answer} {wrote : Bool} → OnlyLooks old mid → slots_fault old.geometry (descriptors slots) ask ≡ None → Goes nor mid.geometry ask mid.nor.now new slots after wrote reply → Goes nor old.geometry ask old.nor.now new slots after wrote reply
goes_since {nor = nor} {mid = mid} {new = new} {slots = slots} {after = after} {ask = ask} {reply = reply} {wrote = wrote} looks fine call = goes_from looks.reads fine (subst (λ (g : Geometry). Goes nor g ask mid.nor.now new slots after wrote reply) looks.same.geometry call)
