-- The whole check, by what is told before its stages, what they leave, and the parting and the cleaning after them.
use Rattle.std.proofs.Common.{◌≡◌, ℕ, ◌+◌, ◌<◌, ◌≤◌, inl, List, Bool, true, false, refl, sym, ◌∙◌, ap, subst, arith, ⊎_elim}
use Rattle.std.specs.Prelude.{◌⊎◌, Option, Some, None, Result, Ok, Err, IfErr, IfSome, IsErrOf, OnOk, IfOk}
use Rattle.geometry.specs.declared.geometry.Geometry.{Geometry}
use Rattle.geometry.specs.declared.error.GeoErr.{GeoErr}
use Rattle.geometry.specs.Numbers.{usable, write_refusal}
use Rattle.nor_core.specs.declared.state.NorState.{Ghosts as NorOf}
use Rattle.nor_core.specs.Device.{Changes, OnlyReads}
use Rattle.nor_core.specs.Count.{Rose}
use Rattle.nor_core.proofs.Cuts.{wider, go_on, unchanged, after_reads, read_after, reads_then}
use Rattle.image_model.specs.Places.{IsImage}
use Rattle.image_model.specs.Tidy.{IsTidy, HasReserve, free_blocks}
use Rattle.image_model.specs.Sound.{HasMagics, Keeps}
use Rattle.image_model.specs.Shared.{shared_blocks, fits_over, FitsWith}
use Rattle.image_laws.proofs.Sounding.{sound-on}
use Rattle.image_laws.proofs.Unshared.{tidy-unshared, sound-unshared, neat-unshared, fits-less, fits-tested}
use Rattle.image_laws.proofs.Uses.{shared-blocks, fits-same}
use Rattle.room_laws.specs.Mends.{CanMend}
use Rattle.room_laws.specs.Recovery.{Recovers}
use Rattle.room_laws.proofs.Staying.{stripped_is_staged}
use Rattle.block_gc.specs.Partings.{Parted}
use Rattle.block_gc.proofs.Cleanings.{swept_none, none_of_none, none_lower}
use Rattle.flash_view.specs.declared.view.View.{View}
use Rattle.flash_view.specs.Same.{IsSameView, OnlyLooks}
use Rattle.trim_laws.specs.Wear.{Worn}
use Rattle.flash_view.specs.Steps.{Stepped}
use Rattle.vol_check.specs.declared.report.CheckErr.{CheckErr}
use Rattle.vol_check.specs.declared.report.CheckErr.TheVariants.{Wrong, DeviceFault}
use Rattle.vol_check.specs.declared.report.Report.{Report}
use Rattle.vol_check.specs.Checks.{IsWritable, IsRefusal, IsOfStages, CountsMixed, Checked}
use Rattle.vol_check.specs.Works.{StageCut}
use Rattle.volume.specs.Checking.{
  CheckCut,
  CheckDone,
  ChecksVolume,
  IsRefused,
  TellsShared,
  IsFitting,
  Judges,
  check_stopped,
  Cleared,
  IsJudged,
  PartedOr,
  PartedCleared,
  finishing,
}
use Rattle.file_calls.proofs.Going.{tidy_sound}
use Rattle.volume.proofs.Clearing.{
  stages_apart,
  stages_undamaged,
  stages_mixed,
  undamaged_apart,
  same_err,
  stop_writable,
  stop_mixed,
  stop_goes_on,
  stop_apart,
  fault_undamaged,
  none_wrong,
  no_refusal,
}

-- ---- images

-- an image that stays is a cut of itself
cut_none : (g : Geometry) (image : List ℕ) → HasMagics g image → CheckCut g image image
cut_none g image magics = record {
  keeps = record { sound = record { magics = magics; mixed = λ block h. h; damaged = λ id h. h }; table = refl };
  reserve = λ reserve. reserve;
  fits = λ spare fits. fits-less g image (spare + 1) spare (omega arith) fits;
}

-- a cut in the stages
stage_cut : (g : Geometry) (was image : List ℕ) → HasMagics g was → StageCut g was image → CheckCut g was image
stage_cut g was image magics cut = record {
  keeps = cut.keeps.keeps;
  reserve = λ reserve. let more = cut.keeps.free in omega (arith, reserve, more);
  fits = λ spare fits. fits-less g image (spare + 1) spare (omega arith) (fits-same g was image cut.uses magics cut.keeps.keeps.sound.magics (spare + 1) fits);
}

-- a cut behind them
later_cut : (g : Geometry) (was mid image : List ℕ) → HasMagics g was → StageCut g was mid → CheckCut g mid image → CheckCut g was image
later_cut g was mid image magics before cut = record {
  keeps = record { sound = sound-on g was mid image before.keeps.keeps.sound cut.keeps.sound; table = cut.keeps.table ∙ before.keeps.keeps.table };
  reserve = λ reserve. let more = before.keeps.free in cut.reserve (omega (arith, reserve, more));
  fits = λ spare fits. cut.fits spare (fits-same g was mid before.uses magics before.keeps.keeps.sound.magics (spare + 1) fits);
}

-- whether blocks are shared is told alike of images with as many shared blocks
same_shared : (g : Geometry) (was now : List ℕ) (shares : Bool) → shared_blocks g now ≡ shared_blocks g was → TellsShared g was shares →
    TellsShared g now shares
same_shared g was now true same some = omega (arith, same, some)
same_shared g was now false same none = same ∙ none

-- what the stages leave is judged as the image before them
pub judged_on : (g : Geometry) (was mid : List ℕ) (shares : Bool) (report : Report) → HasMagics g was → HasMagics g mid → IsFitting g was shares →
    Checked g was mid report → IsJudged g shares report.free_blocks mid
judged_on g was mid shares report before after fitting checked = record {
  neat = checked.neat;
  fitting = (fits-same g was mid checked.uses before after 0 fitting.0, same_shared g was mid shares (shared-blocks g was mid checked.uses) fitting.1);
  free = checked.free;
}

-- ---- the parting

-- where no block is shared the image is tidy
judged_tidy : (g : Geometry) (image : List ℕ) (free : ℕ) → IsJudged g false free image → IsTidy g image
judged_tidy g image free judged = neat-unshared g image judged.neat judged.fitting.1

-- and nothing is parted
pub divides_none : (g : Geometry) (image : List ℕ) (shares : Bool) (free : ℕ) → shares ≡ false → IsJudged g shares free image →
    CheckCut g image image × PartedOr g image image free
divides_none g image true free told judged = absurd (cc)
divides_none g image false free told judged =
    let tidy = judged_tidy g image free judged in
    let same : Parted g image image = record { tidy = tidy; table = refl; reserve = λ reserve. reserve; counts = λ block low. refl } in
    (cut_none g image (tidy_sound g image image tidy).magics, record { parting = same; alone = λ none. refl; free = judged.free })

-- the parted image is a cut
parted_cut : (g : Geometry) (was now : List ℕ) → Parted g was now → CheckCut g was now
parted_cut g was now p = record {
  keeps = record { sound = tidy_sound g now was p.tidy; table = p.table };
  reserve = p.reserve;
  fits = λ spare fits. inl (tidy-unshared g now p.tidy);
}

-- so is one in the count of the free blocks after it
pub divided_cut : (g : Geometry) (was mid image : List ℕ) → Parted g was mid → image ≡ mid → CheckCut g was image
divided_cut g was mid image p same = subst (λ (c : List ℕ). CheckCut g was c) (sym same) (parted_cut g was mid p)

-- which ends it
pub divided_counted : (g : Geometry) (was mid now : List ℕ) (shares : Bool) (free before : ℕ) → shares ≡ true → IsJudged g shares before was → Parted g was mid →
    (now ≡ mid) × (free ≡ free_blocks g mid) → PartedOr g was now free
divided_counted g was mid now false free before told judged p w = absurd (cc)
divided_counted g was mid now true free before told judged p w =
    let some = judged.fitting.1 in
    subst (λ (c : List ℕ). PartedOr g was c free) (sym w.0) (record { parting = p; alone = λ none. absurd (omega (arith, some, none)); free = w.1 })

-- ---- the cleaning after it

-- none, where two blocks are free,
pub finished_at_once : (g : Geometry) (was now : List ℕ) (free : ℕ) → 2 ≤ free → PartedOr g was now free → PartedCleared g was now free
finished_at_once g was now free enough p =
    let reserve : HasReserve g now = let counted = p.free in omega (arith, enough, counted) in
    record {
      parted = now;
      parting = p.parting;
      alone = p.alone;
      cleared = record {
        tidy = p.parting.tidy;
        table = refl;
        swept = swept_none g now;
        lower = none_lower g now;
        needed = none_of_none (HasReserve g) g now;
        stopped = inl reserve;
        mended = λ can. reserve;
      };
      quiet = λ reserve. refl;
      free = p.free;
    }

-- or blocks are cleaned, where fewer are
module _ (g : Geometry) (was mid : List ℕ) (before : ℕ) (few : before < 2) (p : PartedOr g was mid before) where
  none_before : HasReserve g mid → ⊥
  none_before reserve = let counted = p.free in absurd (omega (arith, reserve, counted, few))

  pub finishing_cut : (image : List ℕ) → Keeps g mid image → CheckCut g was image
  finishing_cut image cut = record {
    keeps = record { sound = sound-on g was mid image (tidy_sound g mid was p.parting.tidy) cut.sound; table = cut.table ∙ p.parting.table };
    reserve = λ reserve. absurd (none_before (p.parting.reserve reserve));
    fits = λ spare fits. inl (sound-unshared g mid image p.parting.tidy cut.sound);
  }

  pub finished_by : (now : List ℕ) (free : ℕ) → Cleared g mid now × (free ≡ free_blocks g now) → PartedCleared g was now free
  finished_by now free w = record {
    parted = mid;
    parting = p.parting;
    alone = p.alone;
    cleared = w.0;
    quiet = λ reserve. absurd (none_before reserve);
    free = w.1;
  }

-- ---- all of it

module _ (g : Geometry) (was mid now : List ℕ) (report : Report) (free : ℕ) (checked : Checked g was mid report) (p : PartedCleared g mid now free) where
  reserve_kept : HasReserve g was → HasReserve g now
  reserve_kept reserve =
      let more = checked.free_least in
      let there : HasReserve g p.parted = p.parting.reserve (omega (arith, reserve, more)) in
      subst (λ (c : List ℕ). HasReserve g c) (sym (p.quiet there)) there

  done_after : Worn g mid now → CheckDone g was now (record report { free_blocks = free })
  done_after worn = record {
    tidy = p.cleared.tidy;
    table = p.cleared.table ∙ p.parting.table ∙ checked.table;
    erased = checked.erased;
    killed = checked.killed;
    damaged = checked.damaged;
    free = p.free;
    kept = reserve_kept;
    stopped = p.cleared.stopped;
    sweeps = record {
      staged = mid;
      stages = checked.stripped;
      counts = checked.counts;
      parted = p.parted;
      parting = p.parting;
      alone = λ none. p.alone (shared-blocks g was mid checked.uses ∙ none);
      swept = p.cleared.swept;
      lower = p.cleared.lower;
      needed = p.cleared.needed;
      quiet = λ reserve. p.quiet (p.parting.reserve reserve);
      worn = worn;
    };
  }

  -- an image without shared blocks that recovers can be mended after the stages
  reserve_mended : IsImage g mid → Recovers g was → shared_blocks g was ≡ 0 → HasReserve g now
  reserve_mended is recovers none =
      let left : shared_blocks g mid ≡ 0 = shared-blocks g was mid checked.uses ∙ none in
      let tidy = neat-unshared g mid checked.neat left in
      let can : CanMend g mid = recovers.mends mid is (stripped_is_staged g was mid checked.stripped tidy) in
      p.cleared.mended (subst (λ (c : List ℕ). CanMend g c) (sym (p.alone left)) can)

  mends_after : IsImage g mid → Recovers g was → (shared_blocks g was ≡ 0) ⊎ HasReserve g was → 2 ≤ free
  mends_after is recovers parts =
      let two : HasReserve g now = ⊎_elim (reserve_mended is recovers) reserve_kept parts in
      let counted = p.free in omega (arith, two, counted)

-- ---- over a device

-- a look before a check
pub checks_after : {N : Type 0} {nor : NorOf N} {old seen : View N nor} {new : N} {r : Result Report CheckErr} → OnlyLooks old seen →
    ChecksVolume nor seen.geometry seen.nor.now new r → ChecksVolume nor old.geometry old.nor.now new r
checks_after {N} {nor} {old} {seen} {new} {r} looks after =
    let reads = looks.reads in
    let c : ChecksVolume nor old.geometry seen.nor.now new r = subst (λ (k : Geometry). ChecksVolume nor k seen.nor.now new r) looks.same.geometry after in
    let g = old.geometry in
    let back : (P : List ℕ → Type 0) → P (nor.bytes seen.nor.now) → P (nor.bytes old.nor.now) = λ P h. subst P reads.bytes h in
    record {
      wrong = c.wrong;
      writable = c.writable;
      few = c.few;
      cause = λ is. let rose = c.cause is in let more = reads.faults in omega arith;
      changes = after_reads reads c.changes;
      fits = λ tells. back (λ l. OnOk r (FitsWith g l 0)) (c.fits (reads.told tells));
      mixed = λ tells. back (λ l. IfErr r (CountsMixed g l)) (c.mixed (reads.told tells));
      refused = on_refusal r c.refused (λ later. reads_then reads later);
      spared = λ tells. back (λ l. IsRefused g l → OnlyReads nor old.nor.now new) (λ refused. reads_then reads (c.spared (reads.told tells) refused));
      done = λ tells. back (λ l. IfOk r (λ report. CheckDone g l (nor.bytes new) report)) (c.done (reads.told tells));
      mends = λ tells. back (λ l. Recovers g l → (shared_blocks g l ≡ 0) ⊎ HasReserve g l → IfOk r (λ report. 2 ≤ report.free_blocks)) (c.mends (reads.told tells));
      idle = λ tells. back (λ l. IsTidy g l → HasReserve g l → OnlyReads nor old.nor.now new) (λ tidy two. reads_then reads (c.idle (reads.told tells) tidy two));
      apart = c.apart;
      undamaged = λ tells. c.undamaged (reads.told tells);
    }
  where
    on_refusal : (r : Result Report CheckErr) {P Q : Type 0} → IfErr r (λ why. IsRefusal why → P) → (P → Q) → IfErr r (λ why. IsRefusal why → Q)
    on_refusal (Ok x) h go = tt
    on_refusal (Err why) h go = λ refusal. go (h refusal)

module _ {N : Type 0} {nor : NorOf N} {old seen : View N nor} where
  -- it was refused before anything was written, or the device failed then
  pub judge_fails : {why : CheckErr} → (nor.tells old.nor.now → HasMagics old.geometry (nor.bytes old.nor.now)) → Judges old seen (Err why) →
      ChecksVolume nor old.geometry old.nor.now seen.nor.now (Err why)
  judge_fails {why} magics judges =
      let reads = judges.looks.reads in
      record {
        wrong = as_report (write_refusal old.geometry) why judges.wrong;
        writable = judges.writable;
        few = tt;
        cause = λ is. judges.cause (as_bool why is);
        changes = read_after (unchanged old.nor.now (CheckCut old.geometry) (λ tells. cut_none old.geometry (nor.bytes old.nor.now) (magics tells))) reads;
        fits = λ tells. tt;
        mixed = judges.mixed;
        refused = λ refusal. reads;
        spared = λ tells refused. reads;
        done = λ tells. tt;
        mends = λ tells recovers parts. tt;
        idle = λ tells tidy reserve. reads;
        apart = undamaged_apart why judges.among;
        undamaged = λ tells. judges.among;
      }
    where
      as_report : (o : Option GeoErr) (w : CheckErr) → IfSome o (λ e. ◌≡◌ {A = Result Bool CheckErr} (Err w) (Err (Wrong e))) →
          IfSome o (λ e. ◌≡◌ {A = Result Report CheckErr} (Err w) (Err (Wrong e)))
      as_report None w h = tt
      as_report (Some e) w h = let same : w ≡ Wrong e = cc in ap (λ (x : CheckErr). Err x) same

      as_bool : (w : CheckErr) → IsErrOf {T = Report} (Err w) DeviceFault → IsErrOf {T = Bool} (Err w) DeviceFault
      as_bool w is = ap (λ (x : CheckErr). Err x) (same_err w DeviceFault is)

  -- it was not, and that holds of the view after it
  module _ {shares : Bool} (magics : nor.tells old.nor.now → HasMagics old.geometry (nor.bytes old.nor.now)) (judges : Judges old seen (Ok shares)) where
    pub fine_on : write_refusal seen.geometry ≡ None
    fine_on = ap write_refusal judges.looks.same.geometry ∙ none_wrong (write_refusal old.geometry) shares judges.wrong

    pub magics_on : nor.tells seen.nor.now → HasMagics seen.geometry (nor.bytes seen.nor.now)
    magics_on tells = rw (judges.looks.same.geometry, judges.looks.reads.bytes) (magics (judges.looks.reads.told_before tells))

    pub fitting_on : nor.tells seen.nor.now → IsFitting seen.geometry (nor.bytes seen.nor.now) shares
    fitting_on tells = rw (judges.looks.same.geometry, judges.looks.reads.bytes) (judges.fits (judges.looks.reads.told_before tells))

-- where the volume may be written and fits over, no image of it is refused
never_refused : {P : Type 0} (g : Geometry) (image : List ℕ) (shares : Bool) → write_refusal g ≡ None → IsFitting g image shares → IsRefused g image → P
never_refused g image shares fine fitting refused = ⊎_elim
    (λ (wrong : write_refusal g ≡ None → ⊥). absurd (wrong fine))
    (λ (over : fits_over g image ≡ false). let yes = (fits-tested g image).1 fitting.0 in let no : true ≡ false = sym yes ∙ over in absurd (cc))
    refused

module _ {N : Type 0} {nor : NorOf N} (old mid : View N nor) (shares : Bool) (fine : write_refusal old.geometry ≡ None)
    (magics : nor.tells old.nor.now → HasMagics old.geometry (nor.bytes old.nor.now))
    (fitting : nor.tells old.nor.now → IsFitting old.geometry (nor.bytes old.nor.now) shares) where
  -- the stages failed
  pub stages_fail : {why : CheckErr} → IsOfStages why → (write_refusal old.geometry ≡ None → IsWritable why) →
      (IsErrOf {T = Report} (Err why) DeviceFault → Rose (nor.faults old.nor.now) (nor.faults mid.nor.now)) →
      Changes nor old.nor.now mid.nor.now (StageCut old.geometry) → (IsRefusal why → OnlyReads nor old.nor.now mid.nor.now) →
      (nor.tells old.nor.now → IsTidy old.geometry (nor.bytes old.nor.now) → OnlyReads nor old.nor.now mid.nor.now) →
      ChecksVolume nor old.geometry old.nor.now mid.nor.now (Err why)
  stages_fail {why} among writable cause changes refused idle = record {
    wrong = no_refusal (write_refusal old.geometry) _ fine;
    writable = writable;
    few = tt;
    cause = cause;
    changes = wider changes (λ tells image cut. stage_cut old.geometry (nor.bytes old.nor.now) image (magics tells) cut);
    fits = λ tells. tt;
    mixed = λ tells. stages_mixed old.geometry (nor.bytes old.nor.now) why among;
    refused = refused;
    spared = λ tells refused. never_refused old.geometry (nor.bytes old.nor.now) shares fine (fitting tells) refused;
    done = λ tells. tt;
    mends = λ tells recovers parts. tt;
    idle = λ tells tidy reserve. idle tells tidy;
    apart = stages_apart why among;
    undamaged = λ tells. stages_undamaged why among;
  }

  module _ (report : Report) (same : IsSameView old mid)
      (checked : nor.tells old.nor.now → Checked old.geometry (nor.bytes old.nor.now) (nor.bytes mid.nor.now) report)
      (changes : Changes nor old.nor.now mid.nor.now (StageCut old.geometry))
      (idle : nor.tells old.nor.now → IsTidy old.geometry (nor.bytes old.nor.now) → OnlyReads nor old.nor.now mid.nor.now) where
    judged_at : nor.tells old.nor.now → IsJudged old.geometry shares report.free_blocks (nor.bytes mid.nor.now)
    judged_at tells =
        let later = (changes.now tells).keeps.keeps.sound.magics in
        judged_on old.geometry (nor.bytes old.nor.now) (nor.bytes mid.nor.now) shares report (magics tells) later (fitting tells) (checked tells)

    judged : nor.tells old.nor.now → IsJudged mid.geometry shares report.free_blocks (nor.bytes mid.nor.now)
    judged tells = subst (λ (k : Geometry). IsJudged k shares report.free_blocks (nor.bytes mid.nor.now)) (sym same.geometry) (judged_at tells)

    finishing_cuts : {new : View N nor} {r : Result ℕ CheckErr} → Stepped check_stopped mid new r (finishing shares report.free_blocks) →
        Changes nor old.nor.now new.nor.now (CheckCut old.geometry)
    finishing_cuts {new} step =
        let g = old.geometry in
        let cuts : Changes nor mid.nor.now new.nor.now (λ was image. IsJudged g shares report.free_blocks was → CheckCut g was image) =
        subst (λ (k : Geometry). Changes nor mid.nor.now new.nor.now (λ was image. IsJudged k shares report.free_blocks was → CheckCut k was image))
        same.geometry
        step.cuts in
        go_on (wider changes (λ tells image cut. stage_cut g (nor.bytes old.nor.now) image (magics tells) cut)) cuts
        (λ tells image was cut. later_cut g (nor.bytes old.nor.now) (nor.bytes mid.nor.now) image (magics tells) (changes.now tells) (cut (judged_at tells)))

    -- a tidy image with two free blocks is only read
    reads_on : {d : N} → (shares ≡ false → 2 ≤ report.free_blocks → OnlyReads nor mid.nor.now d) → nor.tells old.nor.now →
        IsTidy old.geometry (nor.bytes old.nor.now) → HasReserve old.geometry (nor.bytes old.nor.now) → OnlyReads nor old.nor.now d
    reads_on quiet tells tidy reserve =
        let none = tidy-unshared old.geometry (nor.bytes old.nor.now) tidy in
        let free = (checked tells).free in
        let more = (checked tells).free_least in
        reads_then (idle tells tidy) (quiet (alone shares none (fitting tells).1) (omega (arith, free, more, reserve)))
      where
        alone : (b : Bool) → shared_blocks old.geometry (nor.bytes old.nor.now) ≡ 0 → TellsShared old.geometry (nor.bytes old.nor.now) b → b ≡ false
        alone true none some = absurd (omega (arith, none, some))
        alone false none some = refl

    -- the parting or the cleaning failed
    pub finishing_fails : {new : View N nor} {why : CheckErr} → (shares ≡ false → 2 ≤ report.free_blocks → OnlyReads nor mid.nor.now new.nor.now) →
        Stepped check_stopped mid new (Err why) (finishing shares report.free_blocks) → ChecksVolume nor old.geometry old.nor.now new.nor.now (Err why)
    finishing_fails {new} {why} quiet step = record {
      wrong = no_refusal (write_refusal old.geometry) _ fine;
      writable = λ none. stop_writable why step.means;
      few = tt;
      cause = λ is. let rose = step.cause (ap (λ (w : CheckErr). Err w) (same_err why DeviceFault is)) in let more = same.faults in omega arith;
      changes = finishing_cuts step;
      fits = λ tells. tt;
      mixed = λ tells. stop_mixed old.geometry (nor.bytes old.nor.now) why step.means;
      refused = λ refusal. absurd (stop_goes_on why step.means refusal);
      spared = λ tells refused. never_refused old.geometry (nor.bytes old.nor.now) shares fine (fitting tells) refused;
      done = λ tells. tt;
      mends = λ tells recovers parts. tt;
      idle = reads_on quiet;
      apart = stop_apart why step.means;
      undamaged = λ tells. fault_undamaged why (step.ends (changes.cuts.told tells) (judged tells));
    }

    -- all was done
    pub finishes_on : {new : View N nor} {free : ℕ} → (nor.tells mid.nor.now → IsImage old.geometry (nor.bytes mid.nor.now)) → usable old.geometry ≤ 32766 →
        (shares ≡ false → 2 ≤ report.free_blocks → OnlyReads nor mid.nor.now new.nor.now) →
        Stepped check_stopped mid new (Ok free) (finishing shares report.free_blocks) →
        ChecksVolume nor old.geometry old.nor.now new.nor.now (Ok (record report { free_blocks = free }))
    finishes_on {new} {free} is small quiet step =
        let g = old.geometry in
        let was = nor.bytes old.nor.now in
        let left = nor.bytes mid.nor.now in
        let now = nor.bytes new.nor.now in
        let ends : nor.tells old.nor.now → PartedCleared g left now free =
        λ tells. subst (λ (k : Geometry). PartedCleared k left now free) same.geometry (step.ends (changes.cuts.told tells) (judged tells)) in
        let worn : nor.tells old.nor.now → Worn g left now =
        λ tells. subst (λ (k : Geometry). Worn k left now) same.geometry (step.worn (changes.cuts.told tells) (judged tells)) in
        record {
          wrong = no_refusal (write_refusal old.geometry) _ fine;
          writable = λ none. tt;
          few = small;
          cause = λ is. absurd (cc);
          changes = finishing_cuts step;
          fits = λ tells. (fitting tells).0;
          mixed = λ tells. tt;
          refused = tt;
          spared = λ tells refused. never_refused old.geometry (nor.bytes old.nor.now) shares fine (fitting tells) refused;
          done = λ tells. done_after g was left now report free (checked tells) (ends tells) (worn tells);
          mends = λ tells. mends_after g was left now report free (checked tells) (ends tells) (is (changes.cuts.told tells));
          idle = reads_on quiet;
          apart = tt;
          undamaged = λ tells. tt;
        }

-- ---- the blocks are counted after a check

module _ {D : Type 0} {nor : NorOf D} {g : Geometry} {old mid new : D} {report : Report} (checks : ChecksVolume nor g old mid (Ok report))
    (reads : OnlyReads nor mid new) where
  -- and the device failed in that
  pub count_fails : Rose (nor.faults old) (nor.faults new) → ChecksVolume nor g old new (Err DeviceFault)
  count_fails rose = record {
    wrong = no_refusal (write_refusal g) _ (none_wrong (write_refusal g) report checks.wrong);
    writable = λ fine. tt;
    few = tt;
    cause = λ is. rose;
    changes = read_after checks.changes reads;
    fits = λ tells. tt;
    mixed = λ tells. tt;
    refused = λ refusal. absurd refusal;
    spared = λ tells refused. reads_then (checks.spared tells refused) reads;
    done = λ tells. tt;
    mends = λ tells recovers parts. tt;
    idle = λ tells tidy reserve. reads_then (checks.idle tells tidy reserve) reads;
    apart = tt;
    undamaged = λ tells. tt;
  }

  pub count_keeps : ChecksVolume nor g old new (Ok report)
  count_keeps = record {
    wrong = checks.wrong;
    writable = checks.writable;
    few = checks.few;
    cause = λ is. absurd (cc);
    changes = read_after checks.changes reads;
    fits = checks.fits;
    mixed = checks.mixed;
    refused = tt;
    spared = λ tells refused. reads_then (checks.spared tells refused) reads;
    done = λ tells. subst (λ (l : List ℕ). CheckDone g (nor.bytes old) l report) (sym reads.bytes) (checks.done tells);
    mends = checks.mends;
    idle = λ tells tidy reserve. reads_then (checks.idle tells tidy reserve) reads;
    apart = checks.apart;
    undamaged = checks.undamaged;
  }
