use Rattle.std.proofs.Common.{sym, subst}
use Rattle.tool_parts.specs.declared.ending.Ending.{Ending}
use Rattle.tool_core.specs.Extracting.{Extracts}
use Rattle.tool_core.proofs.ExtractEnds.{not_mounted, extract_says, extract_done, extract_stopped, extract_broken}
use Rattle.flash_view.proofs.Looking.{same_then}
use Rattle.tool_core.proofs.Among.{mount_in_extract, said_in_extract}
use Rattle.tool_core.proofs.extracting.extract_view.Goals as goal

pub returns-in-Err-clause-extracts : goal.returns-in-Err-clause-extracts
returns-in-Err-clause-extracts g c =
    let v = c.args.v.now in
    subst (λ (e : Ending). Extracts g.B.NorState g.F.FolderState v.geometry v.nor.now c.mount.new.v.nor.now c.args.folder.now c.args.folder.now e) (sym c.mount_ending.ensures.ends) (not_mounted v.geometry c.in-Err.why c.args.folder.now c.mount.ensures.looks.reads c.in-Err.ensures.spoiled)

pub returns-in-Ok-clause-extracts : goal.returns-in-Ok-clause-extracts
returns-in-Ok-clause-extracts g c =
    let looks = c.mount.ensures.looks in
    let few = c.in_default.ensures.told in
    record {
      says = extract_says c.mount.new.v.geometry looks.same.geometry looks.reads few c.extract.ensures.says;
      ends = λ tells.
          let told = c.in-Ok.ensures.told (looks.reads.told tells) in
          extract_done c.mount.new.v.geometry c.in-Ok.damaged c.end_of_list.result looks.same.geometry looks.reads (few tells) told.0 told.1 c.end_of_list.ensures.ending;
    }

pub returns-in-Err-BoardFault-clause-extracts : goal.returns-in-Err-BoardFault-clause-extracts
returns-in-Err-BoardFault-clause-extracts g c =
    let looks = c.mount.ensures.looks in
    let few = c.in_default.ensures.told in
    record {
      says = extract_says c.mount.new.v.geometry looks.same.geometry looks.reads few c.extract.ensures.says;
      ends = λ tells.
          let told = c.in-Err-BoardFault.ensures.told (looks.reads.told tells) in
          extract_stopped c.mount.new.v.geometry looks.same.geometry looks.reads (few tells) (rw c.in-Err-BoardFault.field-0-is at told);
    }

pub returns-in-Err-FolderFault-clause-extracts : goal.returns-in-Err-FolderFault-clause-extracts
returns-in-Err-FolderFault-clause-extracts g c =
    let looks = c.mount.ensures.looks in
    let few = c.in_default.ensures.told in
    record {
      says = extract_says c.mount.new.v.geometry looks.same.geometry looks.reads few c.extract.ensures.says;
      ends = λ tells.
          let told = c.in-Err-FolderFault.ensures.told (looks.reads.told tells) in
          extract_broken c.mount.new.v.geometry looks.same.geometry looks.reads (few tells) (rw c.in-Err-FolderFault.field-0-is at told);
    }

pub returns-in-Err-Damaged-clause-extracts : goal.returns-in-Err-Damaged-clause-extracts
returns-in-Err-Damaged-clause-extracts g c =
    let looks = c.mount.ensures.looks in
    let few = c.in_default.ensures.told in
    record {
      says = extract_says c.mount.new.v.geometry looks.same.geometry looks.reads few c.extract.ensures.says;
      ends = λ tells.
          let told = c.in-Err-Damaged.ensures.told (looks.reads.told tells) in
          absurd (rw c.in-Err-Damaged.field-0-is at told);
    }

pub returns-in-Ok-clause-same : goal.returns-in-Ok-clause-same
returns-in-Ok-clause-same g c = same_then c.mount.ensures.looks.same c.extract.ensures.same

pub returns-in-Err-FolderFault-clause-same : goal.returns-in-Err-FolderFault-clause-same
returns-in-Err-FolderFault-clause-same g c = same_then c.mount.ensures.looks.same c.extract.ensures.same

pub returns-in-Err-Damaged-clause-same : goal.returns-in-Err-Damaged-clause-same
returns-in-Err-Damaged-clause-same g c = same_then c.mount.ensures.looks.same c.extract.ensures.same

pub returns-in-Err-BoardFault-clause-same : goal.returns-in-Err-BoardFault-clause-same
returns-in-Err-BoardFault-clause-same g c = same_then c.mount.ensures.looks.same c.extract.ensures.same

pub returns-in-Err-clause-among : goal.returns-in-Err-clause-among
returns-in-Err-clause-among g c = rw c.mount_ending.ensures.ends (mount_in_extract c.in-Err.why)

pub returns-in-Ok-clause-among : goal.returns-in-Ok-clause-among
returns-in-Ok-clause-among g c = rw c.end_of_list.ensures.ending (said_in_extract c.in-Ok.damaged)

pub returns-in-Err-Damaged-clause-among : goal.returns-in-Err-Damaged-clause-among
returns-in-Err-Damaged-clause-among g c = let apart = rw c.in-Err-Damaged.field-0-is at c.in-Err-Damaged.ensures.apart in apart
