-- How a soak ends, before its closing line and with it.
use Rattle.std.proofs.Common.{◌≡◌, ℕ, ◌*◌, List, [], length, refl, sym, ◌∙◌, ap, subst, arith, ⊎_elim}
use Rattle.geometry.specs.declared.geometry.Geometry.{Geometry}
use Rattle.nor_core.specs.declared.state.NorState.{Ghosts as NorOf}
use Rattle.nor_core.specs.Count.{Rose}
use Rattle.nor_core.specs.Device.{Changes}
use Rattle.nor_core.specs.Flash.{SameOutside}
use Rattle.flash_view.specs.Same.{StaysBehind}
use Rattle.flash_view.proofs.Behind.{behind_then, behind_changes}
use Rattle.vol_mount.specs.Formatted.{IsFormatted}
use Rattle.volume.specs.declared.volume.Volume.{Volume}
use Rattle.volume_soak.specs.declared.soaking.Summary.{Summary}
use Rattle.volume_soak.specs.Doing.{IsSummary}
use Rattle.volume_soak.specs.Turns.{empty, soaked, summary_text, soak_text}
use Rattle.tool_parts.specs.declared.ending.Ending.{Ending}
use Rattle.tool_parts.specs.declared.ending.Ending.TheVariants.{Done, BoardFault}
use Rattle.tool_parts.specs.Endings.{OnlyCloses}
use Rattle.tool_parts.specs.Closing.{status_of}
use Rattle.tool_core.specs.Filling.{HoldsFiles, WasFormatted, SpeaksOf}
use Rattle.tool_core.specs.Soaking.{SoaksTo, DoesSoak, soaked_files}
use Rattle.tool_core.proofs.FillEnds.{holds_none, was_formatted, speaks_none, speaks_after}
use Rattle.tool_parts.proofs.Speaking.{concludes, by_result}
use Rattle.tool_parts.proofs.Reading.{behind_closed}

module _ {D : Type 0} {nor : NorOf D} {g : Geometry} where
  -- the summary of a volume that had no files is that of the flat table's turns
  pub speaks_soaked : {N : Type 0} {on : NorOf N} {after : Volume N on} {old new : D} (slots seed turns : ℕ) (summary : Summary) {ending : Ending} → IsSummary g after (soaked g (empty slots) seed turns) summary →
      SpeaksOf nor g old new (summary_text turns summary.ok summary.files summary.bytes) (soaked_files g slots seed turns) ending → SoaksTo nor g slots seed turns old new ending
  speaks_soaked {N} {on} {after} {old} {new} slots seed turns summary {ending} told speaks =
      let same : summary_text turns summary.ok summary.files summary.bytes ≡ soak_text g slots seed turns =
      ap (λ (n : ℕ). summary_text turns n summary.files summary.bytes) told.ok_is
      ∙ ap (λ (n : ℕ). summary_text turns (soaked g (empty slots) seed turns).ok n summary.bytes) told.files_are
      ∙ ap (λ (n : ℕ). summary_text turns (soaked g (empty slots) seed turns).ok (length (soaked_files g slots seed turns)) n) told.bytes_are in
      subst (λ (l : List ℕ). SpeaksOf nor g old new l (soaked_files g slots seed turns) ending) same speaks

  -- ---- with the closing line

  soak_closed : {old mid new : D} (slots seed turns : ℕ) (result : Ending) (status : ℕ) → (nor.tells old → SoaksTo nor g slots seed turns old mid result) → (nor.tells old → status ≡ 0 → WasFormatted nor g old new) → StaysBehind nor g old mid → (result ≡ BoardFault → Rose (nor.faults old) (nor.faults mid)) →
      OnlyCloses nor mid new result status → DoesSoak nor g slots seed turns old new status
  soak_closed {old} {mid} {new} slots seed turns result status soaks formats behind cause closes = record {
    told = λ tells. concludes (soak_text g slots seed turns) Done result status (behind.cuts.told tells) behind.cuts.faults cause (soaks tells).speaks closes;
    files = λ tells done.
        let is : result ≡ Done = by_result (soaks tells).speaks closes (λ failed. omega (arith, done, failed)) in
        subst (λ (l : List ℕ). HoldsFiles g l (soaked_files g slots seed turns)) (sym closes.says.bytes) ((soaks tells).left is);
    formats = formats;
    behind = behind_closed behind closes;
  }

  -- a volume that could not be formatted
  pub soak_unformatted : {old mid new : D} (slots seed turns : ℕ) (result : Ending) (status : ℕ) → Changes nor old mid (SameOutside 0 (g.blocks * g.block)) → result ≡ BoardFault → Rose (nor.faults old) (nor.faults mid) → OnlyCloses nor mid new result status → DoesSoak nor g slots seed turns old new status
  soak_unformatted slots seed turns result status changes fault rose closes = soak_closed slots seed turns result status (λ tells. speaks_none result changes.said fault)
      (λ tells done. absurd (⊎_elim (λ said. omega (arith, done, said, ap status_of fault)) (λ failed. omega (arith, done, failed.0)) closes.ends))
      (behind_changes g changes) (λ is. rose) closes

  -- one that was
  pub soak_formatted : {old mid last new : D} (slots seed turns : ℕ) (result : Ending) (status : ℕ) → Changes nor old mid (SameOutside 0 (g.blocks * g.block)) → (nor.tells old → IsFormatted g (nor.bytes old) (nor.bytes mid)) → (nor.tells mid → HoldsFiles g (nor.bytes mid) [] → SoaksTo nor g slots seed turns mid last result) →
      StaysBehind nor g mid last → (result ≡ BoardFault → Rose (nor.faults mid) (nor.faults last)) → OnlyCloses nor last new result status → DoesSoak nor g slots seed turns old new status
  soak_formatted slots seed turns result status changes formatted soaks behind cause closes = soak_closed slots seed turns result status
      (λ tells. speaks_after changes.said (soaks (changes.cuts.told tells) (holds_none g _ _ (formatted tells))))
      (λ tells done. was_formatted (formatted tells) behind closes)
      (behind_then g (behind_changes g changes) behind)
      (λ is. let rose = cause is in omega (arith, rose, changes.cuts.faults))
      closes
