-- An empty volume is mounted and checked, and takes calls.
use Rattle.std.proofs.Common.{◌≡◌, ℕ, ◌+◌, ◌<◌, ◌≤◌, List, [], refl, sym, ◌∙◌, ap, subst, arith, ⊎_elim, Bool, true, false, cond, Some, None}
use Rattle.std.specs.Prelude.{min, replicate, nat_lt}
use Rattle.std.proofs.lemmas.Bool.{le-leb, lt-ltb, cases_lt}
use Rattle.geometry.proofs.Bounds.{entry_left}
use Rattle.geometry.specs.declared.geometry.Geometry.{Geometry}
use Rattle.geometry.specs.declared.error.GeoErr.TheVariants.{TooManyUsable, TooFewToWrite}
use Rattle.geometry.specs.Numbers.{usable, entries, write_refusal}
use Rattle.nor_core.specs.declared.state.NorState.{Ghosts as NorOf}
use Rattle.nor_core.specs.Device.{Changes}
use Rattle.table_model.specs.Table.{File}
use Rattle.table_model.specs.Room.{has_room, index_count, data_count}
use Rattle.table_model.specs.Window.{settled_at}
use Rattle.image_model.specs.Tables.{table_of}
use Rattle.image_model.specs.Tidy.{IsTidy}
use Rattle.room_laws.proofs.Totals.{ceil-le}
use Rattle.trim_laws.proofs.Empty.{empty_trims}
use Rattle.call_model.specs.Memory.{Memory}
use Rattle.run_model.specs.Ran.{RunStands}
use Rattle.vol_check.specs.declared.report.Report.{Report}
use Rattle.volume.specs.declared.volume.Volume.{Volume}
use Rattle.volume.specs.Holds.{memory}
use Rattle.volume.specs.Stages.{takes_calls}
use Rattle.volume_run.specs.Ready.{IsReady}
use Rattle.volume_soak.specs.Turns.{empty}
use Rattle.tool_parts.specs.declared.ending.Ending.{Ending}
use Rattle.tool_parts.specs.declared.ending.Ending.TheVariants.{BoardFault}
use Rattle.tool_parts.specs.Begins.{Begun, first_moment, closed_memory}
use Rattle.tool_parts.specs.Mounting.{Checks, Reported, StopsCheck}
use Rattle.tool_core.specs.Filling.{HoldsFiles}
use Rattle.script_run.proofs.Beginning.{begun_stands, first_room}
use Rattle.tool_parts.proofs.Refusals.{tidy_taken, not_both}

-- ---- an empty table has room in a volume that may be written

none_refused : (b c : Bool) → cond b (Some TooManyUsable) (cond c (Some TooFewToWrite) None) ≡ None → c ≡ false
none_refused true c is = let bad : Some TooManyUsable ≡ None = is in cc
none_refused false true is = let bad : Some TooFewToWrite ≡ None = is in cc
none_refused false false is = refl

four_blocks : (g : Geometry) → write_refusal g ≡ None → 4 ≤ g.blocks
four_blocks g writable =
    let enough : nat_lt g.blocks 4 ≡ false = none_refused (nat_lt 32766 (usable g)) (nat_lt g.blocks 4) writable in
    ⊎_elim (λ (less : g.blocks < 4). let bad : true ≡ false = sym (lt-ltb g.blocks 4 less) ∙ enough in absurd (cc)) (λ (most : 4 ≤ g.blocks). most) (cases_lt g.blocks 4)

no_index : (g : Geometry) → index_count g [] ≡ 0
unfolding index_count
no_index g = refl

no_data : (g : Geometry) → data_count g [] ≡ 0
unfolding data_count
no_data g = refl

pub empty_room : (g : Geometry) → write_refusal g ≡ None → has_room g [] ≡ true
unfolding has_room
empty_room g writable =
    let enough = four_blocks g writable in
    let some : 0 < entries g = omega (arith, entry_left g) in
    let index = ceil-le (index_count g [] + 1) (entries g) 1 some (omega (arith, no_index g, some)) in
    let pages = ceil-le (data_count g [] + 1) (entries g) 1 some (omega (arith, no_data g, some)) in
    le-leb _ _ (omega (arith, index, pages, enough))

-- ---- a volume without files, once it is checked

module _ {D : Type 0} {nor : NorOf D} {g : Geometry} where
  -- mounting and the check end only where the board failed
  pub tidy_stops : {old new : D} (ending : Ending) → IsTidy g (nor.bytes old) → StopsCheck nor g old new ending → ending ≡ BoardFault
  tidy_stops {old} ending tidy stops = ⊎_elim (λ fault. fault.fault) (λ refused. absurd (not_both (tidy_taken g (nor.bytes old) tidy) refused.refusal)) stops

  -- the image of a checked one
  tidy_begun : {old mid : D} (report : Report) → HoldsFiles g (nor.bytes old) [] → Changes nor old mid (Checks g) → nor.tells old → Reported g (nor.bytes old) (nor.bytes mid) report → Begun g (nor.bytes old) (nor.bytes mid)
  tidy_begun report files changes tells reported = record { takes = reported.takes; tidy = reported.done.tidy; reserve = (changes.now tells).reserve files.reserve }

  -- it stands at the state without files
  pub empty_stands : {old mid : D} {w : Memory} (slots : ℕ) (report : Report) → w ≡ closed_memory (min 65535 slots) → HoldsFiles g (nor.bytes old) [] → Changes nor old mid (Checks g) → nor.tells old → Reported g (nor.bytes old) (nor.bytes mid) report →
      RunStands nor g mid w (first_moment g (min 65535 slots) (nor.bytes old))
  empty_stands {old} {mid} slots report closed files changes tells reported =
      let begun = tidy_begun report files changes tells reported in
      record {
        stands = begun_stands (min 65535 slots) closed changes tells begun;
        reserve = begun.reserve;
      }

-- the state of the first moment of a volume without files
empty_state : (g : Geometry) (slots : ℕ) (image : List ℕ) → table_of g image ≡ [] → (first_moment g (min 65535 slots) image).state ≡ empty slots
unfolding settled_at
empty_state g slots image none = ap (λ (files : List File). record { table = files; slots = replicate (min 65535 slots) None }) none

-- and its image has none
empty_table : {D : Type 0} {nor : NorOf D} {g : Geometry} {old mid : D} {w : Memory} (slots : ℕ) (report : Report) → w ≡ closed_memory (min 65535 slots) → HoldsFiles g (nor.bytes old) [] → Changes nor old mid (Checks g) → nor.tells old → Reported g (nor.bytes old) (nor.bytes mid) report → table_of g (nor.bytes mid) ≡ []
unfolding settled_at
empty_table {w = w} slots report closed files changes tells reported = (empty_stands {w = w} slots report closed files changes tells reported).stands.image.table ∙ files.table

-- a checked volume without files takes calls there
pub empty_ready : {N : Type 0} {nor : NorOf N} (old new : Volume N nor) (g : Geometry) (slots : ℕ) (report : Report) → new.geometry ≡ g → takes_calls new ≡ true → write_refusal g ≡ None → memory new ≡ closed_memory (min 65535 slots) → HoldsFiles g (nor.bytes old.nor.now) [] →
    Changes nor old.nor.now new.nor.now (Checks g) → nor.tells old.nor.now → Reported g (nor.bytes old.nor.now) (nor.bytes new.nor.now) report → IsReady g new (empty slots)
empty_ready {N} {nor} old new g slots report same takes writable closed files changes tells reported = record {
  geometry = same;
  takes = takes;
  moment = first_moment g (min 65535 slots) (nor.bytes old.nor.now);
  stands = empty_stands slots report closed files changes tells reported;
  room = first_room g (min 65535 slots) (nor.bytes old.nor.now) (subst (λ (l : List File). has_room g l ≡ true) (sym files.table) (empty_room g writable));
  state_is = empty_state g slots (nor.bytes old.nor.now) files.table;
  trim = empty_trims g (nor.bytes new.nor.now) (reported.done.tidy) (empty_table slots report closed files changes tells reported);
}
