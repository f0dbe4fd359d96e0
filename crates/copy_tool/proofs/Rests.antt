-- A target that was checked is at rest.
use Rattle.std.proofs.Common.{◌≡◌, ℕ, zero, suc, ◌-◌, ◌==◌, true, false, ◌≤◌, List, slice_index_or, length, refl, sym, ◌∙◌, ap, subst, arith, replicate, Option, Some, None}
use Rattle.std.specs.Prelude.{min, map, take}
use Rattle.std.proofs.lemmas.List.{length-map, length-take, length-replicate}
use Rattle.std.proofs.lemmas.Bool.{ne_eqb}
use Rattle.geometry.specs.declared.geometry.Geometry.{Geometry}
use Rattle.nor_core.specs.declared.state.NorState.{Ghosts as NorOf}
use Rattle.nor_core.specs.Device.{Changes}
use Rattle.table_model.specs.Table.{File, Open, State}
use Rattle.table_model.specs.Descriptors.{open_at}
use Rattle.table_model.specs.Window.{settled_at}
use Rattle.image_model.specs.Tables.{table_of}
use Rattle.image_model.specs.Tidy.{IsTidy, HasReserve}
use Rattle.fd_table.specs.declared.slot.FdSlot.{FdSlot}
use Rattle.fd_table.specs.Slots.{descriptors, held}
use Rattle.call_model.specs.Memory.{Memory, OpensFiles, IsAt}
use Rattle.call_model.specs.Closed.{with_files}
use Rattle.volume.specs.declared.volume.Volume.{Volume}
use Rattle.volume.specs.Holds.{memory}
use Rattle.volume.specs.Stages.{takes_calls}
use Rattle.volume_run.specs.Resting.{IsAtRest}
use Rattle.tool_parts.specs.Begins.{Begun, closed_memory}
use Rattle.tool_parts.specs.Mounting.{Checks}

-- closed descriptors are on no file
closed_at : (n i : ℕ) → slice_index_or {A = Option Open} (replicate n None) i None ≡ None
closed_at zero i = refl
closed_at (suc n) zero = refl
closed_at (suc n) (suc i) = closed_at n i

none_open : (slots n fd : ℕ) → fd ≡ n → open_at (replicate slots None) fd ≡ None
unfolding open_at
none_open slots zero fd e = rw e refl
none_open slots (suc n) fd e = let some : (suc n == 0) ≡ false = ne_eqb (suc n) 0 (λ (k : suc n ≡ 0). omega (arith, k)) in rw (e, some) (closed_at slots (suc n - 1))

opens_none : (slots : ℕ) (files : List File) → OpensFiles (with_files slots files)
opens_none slots files fd d at = absurd (let no : None ≡ Some d = sym (none_open (min 65535 slots) fd fd refl) ∙ at in cc)

-- a tidy image with these files
rests_at : (g : Geometry) (slots : ℕ) (files : List File) (image : List ℕ) (w : Memory) → w ≡ closed_memory (min 65535 slots) → IsTidy g image → table_of g image ≡ files → IsAt g image w (settled_at (with_files slots files))
unfolding settled_at
rests_at g slots files image w memory tidy table = subst (λ (v : Memory). IsAt g image v (settled_at (with_files slots files))) (sym memory) (record {
  tidy = tidy;
  table = table;
  slots = refl;
  run = refl;
  opened = opens_none slots files;
})

-- where all is settled the settled table is that of the state
settled_table : (s : State) → (settled_at s).settled ≡ s.table
unfolding settled_at
settled_table s = refl

module _ {N : Type 0} {nor : NorOf N} where
  -- the image of a volume at rest
  pub rest_table : {g : Geometry} {v : Volume N nor} (slots : ℕ) {files : List File} → IsAtRest g v (with_files slots files) → table_of g (nor.bytes v.nor.now) ≡ files
  rest_table {g} {v} slots {files} rest = rest.stands.stands.image.table ∙ settled_table (with_files slots files)

  pub rest_tidy : {g : Geometry} {v : Volume N nor} (slots : ℕ) {files : List File} → IsAtRest g v (with_files slots files) → IsTidy g (nor.bytes v.nor.now)
  rest_tidy slots rest = rest.stands.stands.image.tidy

  pub rest_reserve : {g : Geometry} {v : Volume N nor} (slots : ℕ) {files : List File} → IsAtRest g v (with_files slots files) → HasReserve g (nor.bytes v.nor.now)
  rest_reserve slots rest = rest.stands.reserve

  -- a volume that was mounted and checked
  pub begun_rests : (g : Geometry) (old mid : Volume N nor) → mid.geometry ≡ g → takes_calls mid ≡ true → memory mid ≡ closed_memory (min 65535 (length old.slots.now)) → Changes nor old.nor.now mid.nor.now (Checks g) → nor.tells old.nor.now → Begun g (nor.bytes old.nor.now) (nor.bytes mid.nor.now) → IsAtRest g mid (with_files (length old.slots.now) (table_of g (nor.bytes old.nor.now)))
  begun_rests g old mid same takes closed changes tells begun = record {
    geometry = same;
    takes = takes;
    stands = record {
      stands = record {
        tells = changes.cuts.told tells;
        image = rests_at g (length old.slots.now) (table_of g (nor.bytes old.nor.now)) (nor.bytes mid.nor.now) (memory mid) closed begun.tidy (changes.now tells).table;
      };
      reserve = begun.reserve;
    };
    none = ap (λ (w : Memory). w.run) closed;
  }

-- descriptors of which some were lent
pub some_slots : (slots : List FdSlot) (lent : ℕ) → 1 ≤ lent → descriptors slots ≡ replicate (min 65535 lent) None → 1 ≤ length slots
unfolding descriptors
some_slots slots lent some closed =
    let same : length (map held (take 65535 slots)) ≡ length (replicate {A = Option Open} (min 65535 lent) None) = ap length closed in
    let count : min 65535 (length slots) ≡ min 65535 lent = sym (length-map (take 65535 slots) held ∙ length-take 65535 slots) ∙ same ∙ length-replicate (min 65535 lent) None in
    omega (arith, count, some)
