-- What mounting and checking a volume leave, and why they stop.
use Rattle.std.proofs.Common.{◌≡◌, ℕ, ◌≤◌, ◌+◌, ◌⊎◌, List, false, refl, sym, ◌∙◌, ap, subst, arith, inl, inr, None}
use Rattle.geometry.specs.declared.geometry.Geometry.{Geometry}
use Rattle.nor_core.specs.declared.state.NorState.{Ghosts as NorOf}
use Rattle.nor_core.specs.Device.{OnlyReads, Changes}
use Rattle.nor_core.proofs.Cuts.{wider, unchanged, read_after, after_reads, reads_then}
use Rattle.image_model.specs.Kinds.{spoiled_blocks}
use Rattle.image_model.specs.Shared.{shared_blocks, fits_over, FitsWith}
use Rattle.image_model.specs.Tidy.{IsTidy, HasReserve}
use Rattle.room_laws.specs.Recovery.{Recovers}
use Rattle.image_laws.proofs.Unshared.{fits-less}
use Rattle.call_model.specs.Safe.{ComesBack, IsSafe, HoldsImage}
use Rattle.vol_mount.specs.declared.lent.MountErr.{MountErr}
use Rattle.vol_mount.specs.declared.lent.MountErr.TheVariants.{NotAFs as MountNotAFs, DeviceFault as MountFault}
use Rattle.vol_mount.specs.Mounts.{CountsSpoiled}
use Rattle.vol_check.specs.declared.report.CheckErr.{CheckErr}
use Rattle.vol_check.specs.declared.report.CheckErr.TheVariants.{NotMounted as CheckOut, Wrong as CheckWrong, Mixed as CheckMixed, DeviceFault as CheckFault, Damaged as CheckDamaged}
use Rattle.vol_check.specs.declared.report.Report.{Report}
use Rattle.vol_check.specs.Checks.{IsWritable, IsRefusal, CountsMixed}
use Rattle.volume.specs.Checking.{CheckCut, CheckDone, IsUndamaged}
use Rattle.tool_parts.specs.Mounting.{Checks, Reported, StopsCheck, mount_ends, check_ends}
use Rattle.tool_parts.specs.Refusals.{check_refusal}
use Rattle.tool_parts.proofs.Refusals.{check_two, check_over, check_takes, over_of, reserve_back}

-- what the check leaves holds
pub holds_check : {g : Geometry} {was image : List ℕ} → Checks g was image → HoldsImage g was image
holds_check here = record { sound = here.sound; reserve = here.reserve }

-- and a cut in it leaves what is safe
pub safe_check : {g : Geometry} {was image : List ℕ} → Checks g was image → IsSafe g was image
safe_check {g} {was} {image} here = record { sound = here.sound; mends = λ reserve. reserve_back g image (here.reserve reserve); fits = here.fits }

-- any image may stay
checks_itself : {g : Geometry} (image : List ℕ) → Checks g image image
checks_itself {g} image = record {
  sound = λ magics. record { magics = magics; mixed = λ block h. h; damaged = λ id h. h };
  table = refl;
  reserve = λ reserve. reserve;
  fits = λ spare fits. fits-less g image (spare + 1) spare (omega arith) fits;
}

-- a volume that wasn't mounted
pub mount_stops : {D : Type 0} {nor : NorOf D} (g : Geometry) (why : MountErr) {old new : D} → OnlyReads nor old new → CountsSpoiled g (nor.bytes old) why → StopsCheck nor g old new (mount_ends why)
mount_stops {D} {nor} g (MountNotAFs spoiled) {old} reads cause = inr (record { refusal = check_two g (nor.bytes old) spoiled cause.0 cause.1; reads = reads })
mount_stops g MountFault reads cause = inl (record { fault = refl; looks = λ why is. reads })

module _ {D : Type 0} {nor : NorOf D} {g : Geometry} where
  -- mounting and the check take the first image
  check_taken : {old mid : D} (h : Geometry) → h ≡ g → OnlyReads nor old mid → spoiled_blocks g (nor.bytes old) ≤ 1 → FitsWith h (nor.bytes mid) 0 → check_refusal g (nor.bytes old) ≡ None
  check_taken {old} {mid} h same reads few fits =
      check_takes g (nor.bytes old) few (subst (λ (k : Geometry). FitsWith k (nor.bytes old) 0) same (subst (λ (l : List ℕ). FitsWith h l 0) reads.bytes fits))

  -- a volume that was mounted and checked
  pub was_reported : {old mid new : D} (report : Report) (h : Geometry) → h ≡ g → OnlyReads nor old mid → spoiled_blocks g (nor.bytes old) ≤ 1 → FitsWith h (nor.bytes mid) 0 → CheckDone h (nor.bytes mid) (nor.bytes new) report →
      (Recovers h (nor.bytes mid) → (shared_blocks h (nor.bytes mid) ≡ 0) ⊎ HasReserve h (nor.bytes mid) → 2 ≤ report.free_blocks) → Reported g (nor.bytes old) (nor.bytes new) report
  was_reported {old} {mid} {new} report h same reads few fits done mends =
      let here : CheckDone g (nor.bytes old) (nor.bytes new) report = subst (λ (k : Geometry). CheckDone k (nor.bytes old) (nor.bytes new) report) same (subst (λ (l : List ℕ). CheckDone h l (nor.bytes new) report) reads.bytes done) in
      record {
        takes = check_taken h same reads few fits;
        done = here;
        mends = λ back.
            let there : ComesBack h (nor.bytes mid) = subst (λ (l : List ℕ). ComesBack h l) (sym reads.bytes) (subst (λ (k : Geometry). ComesBack k (nor.bytes old)) (sym same) back) in
            let enough = mends there.recovers there.parts in
            omega (arith, enough, here.free);
      }

  -- a volume that was mounted, and not checked
  pub check_stops : (why : CheckErr) {old mid new : D} (h : Geometry) → h ≡ g → IsWritable why → OnlyReads nor old mid → spoiled_blocks g (nor.bytes old) ≤ 1 → (IsRefusal why → OnlyReads nor mid new) →
      (fits_over h (nor.bytes mid) ≡ false → OnlyReads nor mid new) → CountsMixed h (nor.bytes mid) why → IsUndamaged why → StopsCheck nor g old new (check_ends why)
  check_stops (CheckMixed blocks) {old} {mid} {new} h same writable reads few refused spared counts whole =
      let here : blocks ≡ shared_blocks g (nor.bytes old) = counts.0 ∙ ap (λ (k : Geometry). shared_blocks k (nor.bytes mid)) same ∙ ap (shared_blocks g) reads.bytes in
      let over : fits_over g (nor.bytes old) ≡ false = sym (ap (fits_over g) reads.bytes) ∙ sym (ap (λ (k : Geometry). fits_over k (nor.bytes mid)) same) ∙ counts.1 in
      inr (record { refusal = check_over g (nor.bytes old) blocks few here over; reads = reads_then reads (refused (tt {0})) })
  check_stops CheckFault {old} {mid} h same writable reads few refused spared counts whole = inl (record {
    fault = refl;
    looks = λ why is.
        let over : fits_over h (nor.bytes mid) ≡ false = ap (λ (k : Geometry). fits_over k (nor.bytes mid)) same ∙ ap (fits_over g) reads.bytes ∙ over_of g (nor.bytes old) why few is in
        reads_then reads (spared over);
  })
  check_stops CheckOut h same writable reads few refused spared counts whole = absurd writable
  check_stops (CheckWrong why) h same writable reads few refused spared counts whole = absurd writable
  check_stops (CheckDamaged differ) h same writable reads few refused spared counts whole = absurd whole

  -- a check after mounting that only reads
  pub check_idle : {old mid new : D} (h : Geometry) → h ≡ g → OnlyReads nor old mid → (nor.tells mid → IsTidy h (nor.bytes mid) → HasReserve h (nor.bytes mid) → OnlyReads nor mid new) → nor.tells old → IsTidy g (nor.bytes old) → HasReserve g (nor.bytes old) → OnlyReads nor old new
  check_idle {old} {mid} {new} h same reads idle tells tidy reserve =
      let here : IsTidy h (nor.bytes mid) = subst (λ (l : List ℕ). IsTidy h l) (sym reads.bytes) (subst (λ (k : Geometry). IsTidy k (nor.bytes old)) (sym same) tidy) in
      let two : HasReserve h (nor.bytes mid) = subst (λ (l : List ℕ). HasReserve h l) (sym reads.bytes) (subst (λ (k : Geometry). HasReserve k (nor.bytes old)) (sym same) reserve) in
      reads_then reads (idle (reads.told tells) here two)

  -- mounting changes nothing
  pub mount_changes : {old mid : D} → OnlyReads nor old mid → Changes nor old mid (Checks g)
  mount_changes {old} {mid} reads = read_after (unchanged old (Checks g) (λ tells. checks_itself (nor.bytes old))) reads

  -- what the check leaves after that
  pub check_changes : {old mid new : D} (h : Geometry) → h ≡ g → OnlyReads nor old mid → Changes nor mid new (CheckCut h) → Changes nor old new (Checks g)
  check_changes {old} {mid} {new} h same reads changes = after_reads reads (wider (subst (λ (k : Geometry). Changes nor mid new (CheckCut k)) same changes) (λ tells image here. record { sound = λ magics. here.keeps.sound; table = here.keeps.table; reserve = here.reserve; fits = here.fits }))
