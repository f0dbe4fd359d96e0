-- A folder that stays as it is.
use Rattle.std.proofs.Common.{◌∙◌, refl, arith}
use Rattle.folder_core.specs.declared.state.FolderState.{Ghosts as FolderOf}
use Rattle.folder_core.specs.Puts.{Kept}

module _ {D : Type 0} {folder : FolderOf D} where
  pub kept_none : (d : D) → Kept folder d d
  kept_none d = record { told = λ tells. tells; told_before = λ tells. tells; entries = refl; files = refl; faults = omega arith }

  pub kept_then : {old mid new : D} → Kept folder old mid → Kept folder mid new → Kept folder old new
  kept_then first second = record {
    told = λ tells. second.told (first.told tells);
    told_before = λ tells. first.told_before (second.told_before tells);
    entries = second.entries ∙ first.entries;
    files = second.files ∙ first.files;
    faults = omega (arith, first.faults, second.faults);
  }
