-- A volume that is to be worked on: why a command stops before, and what it begins with.
use Rattle.std.proofs.Common.{◌≡◌, ℕ, ◌<◌, ◌≤◌, ◌⊎◌, List, sym, ◌∙◌, ap, arith, inl, inr, ⊎_elim, replicate, Option, None}
use Rattle.std.specs.Prelude.{min, map, take, length}
use Rattle.std.proofs.lemmas.List.{length-map, length-take, length-replicate}
use Rattle.geometry.specs.declared.geometry.Geometry.{Geometry}
use Rattle.nor_core.specs.declared.state.NorState.{Ghosts as NorOf}
use Rattle.nor_core.specs.Device.{OnlyReads}
use Rattle.table_model.specs.Table.{Open}
use Rattle.image_model.specs.Tidy.{IsTidy, HasReserve}
use Rattle.image_model.specs.Collect.{chosen_block}
use Rattle.vol_check.specs.declared.report.Report.{Report}
use Rattle.fd_table.specs.declared.slot.FdSlot.{FdSlot}
use Rattle.fd_table.specs.Slots.{descriptors, held}
use Rattle.volume.specs.declared.volume.Volume.{Volume}
use Rattle.volume.specs.Holds.{memory}
use Rattle.call_model.specs.Memory.{Memory}
use Rattle.tool_parts.specs.declared.ending.Ending.{Ending}
use Rattle.tool_parts.specs.declared.ending.Ending.TheVariants.{Tight}
use Rattle.tool_parts.specs.Mounting.{Reported, StopsCheck}
use Rattle.tool_parts.specs.Begins.{Begun, CheckLeaves, IsTight, StopsRun, closed_memory}
use Rattle.tool_parts.specs.Refusals.{check_refusal, begin_refusal}
use Rattle.tool_parts.proofs.Refusals.{tight_some, tight_none}

-- images that don't end a run before its first call
pub begins_on : (g : Geometry) (first image : List ℕ) → check_refusal g first ≡ None → HasReserve g image → begin_refusal g first image ≡ None
begins_on g first image takes reserve = rw takes (tight_none g image reserve)

module _ {D : Type 0} (nor : NorOf D) (g : Geometry) where
  -- a volume that wasn't checked isn't run on
  pub unchecked_stops : {old new : D} (ending : Ending) → StopsCheck nor g old new ending → StopsRun nor g old new ending
  unchecked_stops ending stops = ⊎_elim (λ fault. inl fault) (λ refused. inr (inl refused)) stops

  -- nor is one with too few free blocks
  pub tight_stops : {old new : D} (report : Report) → Reported g (nor.bytes old) (nor.bytes new) report → report.free_blocks < 2 → StopsRun nor g old new (Tight report.free_blocks)
  tight_stops {old} {new} report reported less = inr (inr (record {
    takes = reported.takes;
    tight = tight_some g (nor.bytes new) report.free_blocks reported.done.free less;
    stuck = ⊎_elim (λ (reserve : HasReserve g (nor.bytes new)). absurd (omega (arith, reserve, reported.done.free, less))) (λ (none : chosen_block g (nor.bytes new) ≡ None). none) reported.done.stopped;
    recovers_not = λ back. let enough = reported.mends back in omega (arith, enough, reported.done.free, less);
  }))

-- one that has enough is begun
pub reported_begun : {g : Geometry} {was now : List ℕ} (report : Report) → Reported g was now report → 2 ≤ report.free_blocks → Begun g was now
reported_begun report reported enough = record { takes = reported.takes; tidy = reported.done.tidy; reserve = omega (arith, reported.done.free, enough) }

-- what a check leaves that came to its report
pub check_leaves : {D : Type 0} {nor : NorOf D} {g : Geometry} {old new : D} (report : Report) → Reported g (nor.bytes old) (nor.bytes new) report → 2 ≤ report.free_blocks → (IsTidy g (nor.bytes old) → HasReserve g (nor.bytes old) → OnlyReads nor old new) → CheckLeaves g (nor.bytes old) (nor.bytes new)
check_leaves report reported enough idle = record {
  takes = reported.takes;
  tidy = reported.done.tidy;
  reserve = omega (arith, reported.done.free, enough);
  sweeps = reported.done.sweeps;
  idle = λ tidy reserve. (idle tidy reserve).bytes;
}

-- what a volume remembers that was checked, before the first call
slots_count : (lent : List FdSlot) (n : ℕ) → descriptors lent ≡ replicate n None → min 65535 (length lent) ≡ n
unfolding descriptors
slots_count lent n closed =
    let same : length (map held (take 65535 lent)) ≡ length (replicate {A = Option Open} n None) = ap length closed in
    sym (length-map (take 65535 lent) held ∙ length-take 65535 lent) ∙ same ∙ length-replicate n None

pub memory_begun : {N : Type 0} {nor : NorOf N} (old new : Volume N nor) (slots : ℕ) → memory new ≡ closed_memory (min 65535 (length old.slots.now)) → memory old ≡ closed_memory slots → memory new ≡ closed_memory slots
memory_begun old new slots now was = now ∙ ap closed_memory (slots_count old.slots.now slots (ap (λ (w : Memory). w.slots) was))
