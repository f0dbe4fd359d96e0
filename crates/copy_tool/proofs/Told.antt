-- What a copy leaves and says with its closing line.
use Rattle.std.proofs.Common.{◌≡◌, ◌≢◌, ℕ, List, [], sym, ◌∙◌, subst, arith, inl, inr, ⊎_elim, append-nil}
use Rattle.geometry.specs.declared.geometry.Geometry.{Geometry}
use Rattle.nor_core.specs.declared.state.NorState.{Ghosts as NorOf}
use Rattle.nor_core.specs.Count.{Rose}
use Rattle.nor_core.specs.Device.{Leaves}
use Rattle.nor_core.proofs.Cuts.{andthen, widened}
use Rattle.flash_view.specs.Same.{StaysBehind}
use Rattle.tool_parts.specs.declared.ending.Ending.{Ending}
use Rattle.tool_parts.specs.declared.ending.Ending.TheVariants.{BoardFault, SourceChipFault}
use Rattle.tool_parts.specs.Closing.{status_of}
use Rattle.tool_parts.specs.Endings.{OnlyCloses, Concludes}
use Rattle.tool_parts.specs.Reads.{ReadsOnce}
use Rattle.tool_parts.proofs.Reading.{reads_said, behind_closed}
use Rattle.tool_parts.proofs.Speaking.{concludes, none_closed}
use Rattle.copy_tool.specs.Endings.{copy_text, copy_ending}
use Rattle.copy_tool.specs.Does.{LeavesBy, CopyLeaves, CopyCut, DoesCopy}
use Rattle.copy_tool.specs.Steps.{CopiesTo}

-- a status that isn't 7 is that of the ending
fine_status : {D : Type 0} {nor : NorOf D} {mid new : D} (result : Ending) (status n : ℕ) → OnlyCloses nor mid new result status → n ≢ 7 → status ≡ n → status_of result ≡ n
fine_status result status n closes other is = ⊎_elim (λ told. sym told ∙ is) (λ fault. absurd (other (sym is ∙ fault.0))) closes.ends

closed_left : {D : Type 0} {nor : NorOf D} {gf g : Geometry} {mid new : D} {source was : List ℕ} (result : Ending) (status : ℕ) → LeavesBy gf g source was (nor.bytes mid) (status_of result) → OnlyCloses nor mid new result status → LeavesBy gf g source was (nor.bytes new) status
closed_left {D} {nor} {gf} {g} {mid} {new} {source} {was} result status left closes =
    let here : LeavesBy gf g source was (nor.bytes new) (status_of result) = subst (λ (l : List ℕ). LeavesBy gf g source was l (status_of result)) (sym closes.says.bytes) left in
    record {
      done = λ one. here.done (⊎_elim (λ e. inl (fine_status result status 0 closes (λ x. omega (arith, x)) e)) (λ e. inr (fine_status result status 12 closes (λ x. omega (arith, x)) e)) one);
      full = λ e. here.full (fine_status result status 6 closes (λ x. omega (arith, x)) e);
      named = λ e. here.named (fine_status result status 13 closes (λ x. omega (arith, x)) e);
      tight = λ e. here.tight (fine_status result status 14 closes (λ x. omega (arith, x)) e);
    }

module _ {S D : Type 0} {from : NorOf S} {nor : NorOf D} {gf g : Geometry} {source : S} {old mid new : D} where
  cut_as : {image : List ℕ} {count : ℕ} → nor.bytes new ≡ nor.bytes mid → CopyCut from nor gf g source old mid image count → CopyCut from nor gf g source old new image count
  cut_as same c = record { leaves = c.leaves; least = c.least; once_said = λ more. c.once_said more ∙ sym same }

  -- a cut in the copy or in its closing line
  closed_cuts : (result : Ending) (status : ℕ) → CopiesTo from nor gf g source old mid result → OnlyCloses nor mid new result status → Leaves nor old new (λ image count. nor.tells old → CopyCut from nor gf g source old new image count)
  closed_cuts result status copies closes = andthen
      (widened copies.cuts (λ image count here tells. cut_as closes.says.bytes (here tells)))
      (widened closes.cuts (λ image count here tells.
      let is : image ≡ nor.bytes mid = here.all_bytes (copies.cuts.told tells) in
      record {
        leaves = subst (λ (l : List ℕ). CopyLeaves from gf g source (nor.bytes old) l) (sym is) (copies.left tells);
        least = omega (arith, here.least, copies.longer);
        once_said = λ more. is ∙ sym closes.says.bytes;
      }))

  -- a whole copy
  pub copy_does : {after : S} (source_cache cache : ℕ) (result : Ending) (status : ℕ) → CopiesTo from nor gf g source old mid result → (result ≡ BoardFault → Rose (nor.faults old) (nor.faults mid)) → (result ≡ SourceChipFault → Rose (from.faults source) (from.faults after)) → StaysBehind nor g old mid → ReadsOnce from gf source_cache source after → ReadsOnce nor g cache old mid → OnlyCloses nor mid new result status →
      DoesCopy from nor gf g source_cache cache source after old new status
  copy_does source_cache cache result status copies cause source_cause behind source_reads reads closes = record {
    told = λ source_tells tells. ⊎_elim
        (λ speaks. inl (subst (λ (l : List ℕ). Concludes nor old new (copy_text gf g (from.bytes source) (nor.bytes old) l) (copy_ending gf g (from.bytes source) (nor.bytes old) l) status) (sym closes.says.bytes)
        (concludes (copy_text gf g (from.bytes source) (nor.bytes old) (nor.bytes mid)) (copy_ending gf g (from.bytes source) (nor.bytes old) (nor.bytes mid)) result status (copies.cuts.told tells) copies.cuts.faults cause speaks closes)))
        (λ unread. inr (record {
          concludes = concludes [] SourceChipFault result status (copies.cuts.told tells) copies.cuts.faults cause (inr (unread.0, unread.1 ∙ sym (append-nil (nor.said old)))) closes;
          cause = source_cause unread.0;
        }))
        (copies.speaks source_tells tells);
    leaves = λ source_tells tells. closed_left result status (copies.leaves source_tells tells) closes;
    left = λ tells. subst (λ (l : List ℕ). CopyLeaves from gf g source (nor.bytes old) l) (sym closes.says.bytes) (copies.left tells);
    cuts = closed_cuts result status copies closes;
    idle = λ source_tells tells all. none_closed (copies.idle source_tells tells all) closes;
    kept = λ tells ending is. none_closed (copies.kept tells ending is) closes;
    unmounted = λ source_tells ending is. none_closed (copies.unmounted source_tells ending is) closes;
    behind = behind_closed behind closes;
    source_reads = source_reads;
    reads = reads_said cache reads closes.says closes.cuts.faults;
  }
