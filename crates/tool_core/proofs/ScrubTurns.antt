-- Scrub steps on a volume, one after the other.
use Rattle.std.proofs.Common.{◌≡◌, ℕ, ◌+◌, ◌≤◌, ◌⊎◌, List, [], Bool, true, false, refl, sym, ◌∙◌, ap, subst, arith, ⊎_elim, None, Some, Result, Ok, Err}
use Rattle.geometry.specs.declared.geometry.Geometry.{Geometry}
use Rattle.nor_core.specs.declared.state.NorState.{Ghosts as NorOf}
use Rattle.nor_core.specs.Device.{OnlyReads, Changes}
use Rattle.nor_core.proofs.Cuts.{wider, go_on, unchanged, read_after}
use Rattle.table_model.specs.declared.error.FsErr.{FsErr}
use Rattle.table_model.specs.declared.error.FsErr.TheVariants.{DeviceFault}
use Rattle.table_model.specs.Table.{File}
use Rattle.table_model.specs.Window.{Moment, settled_at, from_settled, IsAmong}
use Rattle.image_model.specs.Tables.{table_of}
use Rattle.image_model.specs.Tidy.{IsTidy, HasReserve, free_blocks}
use Rattle.call_model.specs.Memory.{Memory, IsAt}
use Rattle.call_model.specs.Calls.{Stands}
use Rattle.call_model.proofs.Safety.{holds_safe, holds_itself, safe_as}
use Rattle.fd_table.specs.Slots.{descriptors}
use Rattle.wear_scrub.specs.declared.scrubs.Scrub.{Scrub}
use Rattle.wear_scrub.specs.Scrubs.{ScrubDone}
use Rattle.volume.specs.declared.volume.Volume.{Volume}
use Rattle.volume.specs.Stages.{takes_calls}
use Rattle.volume.specs.Holds.{memory, Holds}
use Rattle.volume.specs.Unchanged.{Unchanged}
use Rattle.volume.specs.Scrubs.{Scrubs}
use Rattle.file_calls.specs.declared.space.Space.{Space}
use Rattle.file_calls.specs.Spaces.{IsSpace}
use Rattle.tool_parts.specs.declared.ending.Ending.{Ending}
use Rattle.tool_parts.specs.declared.ending.Ending.TheVariants.{BoardFault}
use Rattle.tool_core.specs.declared.scrubbing.Steps.{Steps}
use Rattle.tool_core.specs.declared.scrubbing.Tally.{Tally}
use Rattle.tool_core.specs.Filling.{unsettled_as}
use Rattle.tool_parts.specs.Begins.{first_moment, closed_memory}
use Rattle.tool_core.specs.Scrubbing.{has_moved, StepsMade, IsStepDone, AreSteps, IsTally, KeepsFiles, Makes}
use Rattle.script_run.proofs.Beginning.{first_at}
use Rattle.tool_core.proofs.ScrubSteps.{made_none, made_more, scrubbed_all, scrubbed_rest}

-- a table among one alone is that
pub one_among : (g : Geometry) (slots : ℕ) (image : List ℕ) (t : List File) → IsAmong t (from_settled (first_moment g slots image) []) → t ≡ table_of g image
unfolding settled_at IsAmong
one_among g slots image t among = ⊎_elim (λ is. is) (λ none. absurd none) among

-- where all is settled the table is that of the image that it came from
settled_first : (g : Geometry) (slots : ℕ) (image : List ℕ) → (settled_at (first_moment g slots image).state).settled ≡ table_of g image
unfolding settled_at
settled_first g slots image = refl

-- an image stands at its own first moment
pub stands_first : {D : Type 0} {nor : NorOf D} (g : Geometry) (slots : ℕ) (d : D) (w : Memory) → w ≡ closed_memory slots → nor.tells d → IsTidy g (nor.bytes d) → Stands nor g d w (first_moment g slots (nor.bytes d))
stands_first {D} {nor} g slots d w closed tells tidy = record { tells = tells; image = first_at g slots (nor.bytes d) (nor.bytes d) w closed tidy refl }

module _ {N : Type 0} {nor : NorOf N} where
  pub closed_still : (old new : Volume N nor) (slots : ℕ) → memory old ≡ closed_memory slots → new.slots.now ≡ old.slots.now → (memory new).run ≡ None → memory new ≡ closed_memory slots
  closed_still old new slots closed same none =
      let s : descriptors new.slots.now ≡ (closed_memory slots).slots = ap descriptors same ∙ ap (λ (w : Memory). w.slots) closed in
      λ i. record { slots = s i; run = none i }

  -- a cut in a step keeps the files
  turn_changes : {limit : ℕ} {old new : Volume N nor} {result : Result Scrub FsErr} (slots : ℕ) → memory old ≡ closed_memory slots → Scrubs limit old new result → Changes nor old.nor.now new.nor.now (KeepsFiles old.geometry)
  turn_changes {limit} {old} {new} slots closed s = wider s.cuts (λ tells image here tidy reserve.
      let g = old.geometry in
      let was = nor.bytes old.nor.now in
      let left = here (first_moment g slots was) (first_at g slots was was (memory old) closed tidy refl) in
      (left.0, one_among g slots was (table_of g image) left.1))

  -- what a step leaves
  step_done : {limit : ℕ} {old new : Volume N nor} (slots : ℕ) (scrub : Scrub) → memory old ≡ closed_memory slots → takes_calls old ≡ true → Scrubs limit old new (Ok scrub) → nor.tells old.nor.now → IsTidy old.geometry (nor.bytes old.nor.now) →
      IsStepDone old.geometry limit (nor.bytes old.nor.now) (nor.bytes new.nor.now) scrub
  step_done {limit} {old} {new} slots scrub closed takes s tells tidy =
      let g = old.geometry in
      let was = nor.bytes old.nor.now in
      let now = nor.bytes new.nor.now in
      let m = first_moment g slots was in
      let made = s.done m takes (stands_first g slots old.nor.now (memory old) closed tells tidy) in
      let at : IsAt g now (memory new) (settled_at m.state) = subst (λ (k : Geometry). IsAt k now (memory new) (settled_at m.state)) s.same.geometry made.0.image in
      let from = made.2 in
      record {
        tidy = at.tidy;
        table = at.table ∙ settled_first g slots was;
        holds = made.1;
        step = record { before = from.count; after = nor.device_writes new.nor.now; done = subst (λ (l : List ℕ). ScrubDone g limit from.count (nor.device_writes new.nor.now) l now scrub) (from.first (ap (λ (w : Memory). w.run) closed)).0 from.step };
      }

  -- a step
  pub turn_ok : {limit : ℕ} {old new : Volume N nor} {result : Result Scrub FsErr} (slots : ℕ) (scrub : Scrub) → result ≡ Ok scrub → takes_calls old ≡ true → Scrubs limit old new result → memory old ≡ closed_memory slots → Makes nor old.geometry slots old.nor.now new.nor.now (memory new) (Ok scrub) (IsStepDone old.geometry limit)
  turn_ok {limit} {old} {new} slots scrub done takes scrubs closed =
      let s : Scrubs limit old new (Ok scrub) = subst (λ (r : Result Scrub FsErr). Scrubs limit old new r) done scrubs in
      record {
        memory = closed_still old new slots closed s.slots (s.empty takes);
        changes = turn_changes slots closed s;
        done = λ tells tidy reserve. step_done slots scrub closed takes s tells tidy;
      }

  -- one that failed
  pub turn_err : {limit : ℕ} {old new : Volume N nor} {result : Result Scrub FsErr} (slots : ℕ) (why : FsErr) → result ≡ Err why → takes_calls old ≡ true → Scrubs limit old new result → memory old ≡ closed_memory slots → Makes {T = Scrub} nor old.geometry slots old.nor.now new.nor.now (memory new) (Err (unsettled_as why)) (IsStepDone old.geometry limit)
  turn_err {limit} {old} {new} slots why failed takes scrubs closed =
      let s : Scrubs limit old new (Err why) = subst (λ (r : Result Scrub FsErr). Scrubs limit old new r) failed scrubs in
      record {
        memory = tt;
        changes = turn_changes slots closed s;
        done = λ tells tidy reserve. ap unsettled_as (s.done (first_moment old.geometry slots (nor.bytes old.nor.now)) takes (stands_first old.geometry slots old.nor.now (memory old) closed tells tidy));
      }

module _ {D : Type 0} {nor : NorOf D} {g : Geometry} {slots limit : ℕ} where
  -- none yet
  pub makes_none : (d : D) (w : Memory) → w ≡ closed_memory slots → Makes nor g slots d d w (Ok 0) (λ was image n. StepsMade g limit n was image)
  makes_none d w closed = record {
    memory = closed;
    changes = unchanged d (KeepsFiles g) (λ tells tidy reserve. (safe_as g (nor.bytes d) (nor.bytes d) (holds_itself g (nor.bytes d)) tidy, refl));
    done = λ tells tidy reserve. made_none g limit (nor.bytes d) tidy;
  }

  makes_changes : {old mid new : D} {w : Memory} {n : ℕ} → Makes nor g slots old mid w (Ok n) (λ was image n. StepsMade g limit n was image) → Changes nor mid new (KeepsFiles g) → Changes nor old new (KeepsFiles g)
  makes_changes {old} {mid} {new} first second = go_on first.changes second (λ tells image before after tidy reserve.
      let made = first.done tells tidy reserve in
      let left = after made.tidy (made.holds.reserve reserve) in
      (holds_safe g (nor.bytes old) (nor.bytes mid) image made.holds made.tidy left.0, left.1 ∙ made.table))

  -- a step more
  pub makes_more : {old mid new : D} {w now : Memory} (n : ℕ) (scrub : Scrub) (h : Geometry) → true ≡ has_moved scrub → h ≡ g → Makes nor g slots old mid w (Ok n) (λ was image n. StepsMade g limit n was image) → (w ≡ closed_memory slots → Makes nor h slots mid new now (Ok scrub) (IsStepDone h limit)) →
      Makes nor g slots old new now (Ok (n + 1)) (λ was image n. StepsMade g limit n was image)
  makes_more {old} {mid} {new} {w} {now} n scrub h is same first turn =
      let next : Makes nor g slots mid new now (Ok scrub) (IsStepDone g limit) = subst (λ (k : Geometry). Makes nor k slots mid new now (Ok scrub) (IsStepDone k limit)) same (turn first.memory) in
      record {
        memory = next.memory;
        changes = makes_changes first next.changes;
        done = λ tells tidy reserve.
            let made = first.done tells tidy reserve in
            made_more g limit n (nor.bytes old) (nor.bytes mid) (nor.bytes new) scrub is made (next.done (first.changes.cuts.told tells) made.tidy (made.holds.reserve reserve));
      }

  -- one that moved none ends them
  pub makes_rest : {old mid new : D} {w now : Memory} (n : ℕ) (scrub : Scrub) (h : Geometry) → false ≡ has_moved scrub → h ≡ g → n ≤ g.blocks → Makes nor g slots old mid w (Ok n) (λ was image n. StepsMade g limit n was image) → (w ≡ closed_memory slots → Makes nor h slots mid new now (Ok scrub) (IsStepDone h limit)) →
      Makes nor g slots old new now (Ok (record { moved = n; last = Some scrub })) (AreSteps g limit)
  makes_rest {old} {mid} {new} {w} {now} n scrub h is same few first turn =
      let next : Makes nor g slots mid new now (Ok scrub) (IsStepDone g limit) = subst (λ (k : Geometry). Makes nor k slots mid new now (Ok scrub) (IsStepDone k limit)) same (turn first.memory) in
      record {
        memory = next.memory;
        changes = makes_changes first next.changes;
        done = λ tells tidy reserve.
            let made = first.done tells tidy reserve in
            scrubbed_rest g limit n (nor.bytes old) (nor.bytes mid) (nor.bytes new) scrub is few reserve made (next.done (first.changes.cuts.told tells) made.tidy (made.holds.reserve reserve));
      }

  -- one that failed too
  pub makes_fails : {old mid new : D} {w now : Memory} (n : ℕ) (ending : Ending) (h : Geometry) → h ≡ g → Makes nor g slots old mid w (Ok n) (λ was image n. StepsMade g limit n was image) → (w ≡ closed_memory slots → Makes {T = Scrub} nor h slots mid new now (Err ending) (IsStepDone h limit)) →
      Makes {T = Steps} nor g slots old new now (Err ending) (AreSteps g limit)
  makes_fails {old} {mid} {new} {w} {now} n ending h same first turn =
      let next : Makes {T = Scrub} nor g slots mid new now (Err ending) (IsStepDone g limit) = subst (λ (k : Geometry). Makes {T = Scrub} nor k slots mid new now (Err ending) (IsStepDone k limit)) same (turn first.memory) in
      record {
        memory = tt;
        changes = makes_changes first next.changes;
        done = λ tells tidy reserve.
            let made = first.done tells tidy reserve in
            next.done (first.changes.cuts.told tells) made.tidy (made.holds.reserve reserve);
      }

  -- as many as there are blocks end them
  pub makes_all : {old new : D} {now : Memory} (n : ℕ) → n ≡ g.blocks → Makes nor g slots old new now (Ok n) (λ was image n. StepsMade g limit n was image) → Makes nor g slots old new now (Ok (record { moved = n; last = None })) (AreSteps g limit)
  makes_all {old} {new} n all made = record {
    memory = made.memory;
    changes = made.changes;
    done = λ tells tidy reserve. scrubbed_all g limit n (nor.bytes old) (nor.bytes new) all reserve (made.done tells tidy reserve);
  }

  -- ---- the free blocks are counted

  -- a failed step
  pub makes_uncounted : {old new : D} {now : Memory} (ending : Ending) → Makes {T = Steps} nor g slots old new now (Err ending) (AreSteps g limit) → Makes {T = Tally} nor g slots old new now (Err ending) (IsTally g limit)
  makes_uncounted ending made = record { memory = tt; changes = made.changes; done = made.done }

  -- a count that failed
  pub makes_no_count : {old mid new : D} {w now : Memory} {steps : Steps} (ending : Ending) → Makes nor g slots old mid w (Ok steps) (AreSteps g limit) → OnlyReads nor mid new → ending ≡ BoardFault → Makes {T = Tally} nor g slots old new now (Err ending) (IsTally g limit)
  makes_no_count ending made reads fault = record { memory = tt; changes = read_after made.changes reads; done = λ tells tidy reserve. fault }

  -- a count
  pub makes_tally : {old mid new : D} {w now : Memory} (steps : Steps) (free : ℕ) → Makes nor g slots old mid w (Ok steps) (AreSteps g limit) → OnlyReads nor mid new → (w ≡ closed_memory slots → now ≡ closed_memory slots) → (w ≡ closed_memory slots → nor.tells mid → IsTidy g (nor.bytes mid) → free ≡ free_blocks g (nor.bytes mid)) →
      Makes nor g slots old new now (Ok (record { moved = steps.moved; last = steps.last; free = free })) (IsTally g limit)
  makes_tally {old} {mid} {new} steps free made reads still counted = record {
    memory = still made.memory;
    changes = read_after made.changes reads;
    done = λ tells tidy reserve.
        let done = made.done tells tidy reserve in
        subst (λ (l : List ℕ). IsTally g limit (nor.bytes old) l (record { moved = steps.moved; last = steps.last; free = free })) (sym reads.bytes) (record { scrubbed = done; free = counted made.memory (made.changes.cuts.told tells) done.tidy });
  }

module _ {N : Type 0} {nor : NorOf N} where
  -- a volume that was only read remembers what it did
  pub still_closed : (mid new : Volume N nor) (slots : ℕ) → Unchanged mid new → memory mid ≡ closed_memory slots → memory new ≡ closed_memory slots
  still_closed mid new slots same closed = closed_still mid new slots closed same.slots (same.run ∙ ap (λ (w : Memory). w.run) closed)

  -- how many blocks are free in it
  pub free_told : (v : Volume N nor) (slots : ℕ) (space : Space) (g : Geometry) → v.geometry ≡ g → takes_calls v ≡ true → ((m : Moment) → takes_calls v ≡ true → Holds v m → IsSpace v.geometry (nor.bytes v.nor.now) space) → memory v ≡ closed_memory slots → nor.tells v.nor.now → IsTidy g (nor.bytes v.nor.now) →
      space.free_blocks ≡ free_blocks g (nor.bytes v.nor.now)
  free_told v slots space g same takes told closed tells tidy =
      let here : IsTidy v.geometry (nor.bytes v.nor.now) = subst (λ (k : Geometry). IsTidy k (nor.bytes v.nor.now)) (sym same) tidy in
      let space_is = told _ takes (stands_first v.geometry slots v.nor.now (memory v) closed tells here) in
      space_is.blocks ∙ ap (λ (k : Geometry). free_blocks k (nor.bytes v.nor.now)) same
