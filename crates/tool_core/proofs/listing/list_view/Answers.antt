use Rattle.std.proofs.Common.{sym, subst}
use Rattle.tool_parts.specs.declared.ending.Ending.{Ending}
use Rattle.tool_core.specs.Listing.{ListsTo}
use Rattle.tool_core.proofs.ListEnds.{not_mounted, list_done, list_broken}
use Rattle.flash_view.proofs.Looking.{same_then}
use Rattle.tool_core.proofs.Among.{mount_in_list, said_in_list}
use Rattle.tool_core.proofs.listing.list_view.Goals as goal

pub returns-in-Err-clause-lists : goal.returns-in-Err-clause-lists
returns-in-Err-clause-lists g c =
    let v = c.args.v.now in
    subst (λ (e : Ending). ListsTo g.B.NorState v.geometry v.nor.now c.mount.new.v.nor.now e) (sym c.mount_ending.ensures.ends) (not_mounted v.geometry c.in-Err.why c.mount.ensures.looks.reads c.in-Err.ensures.spoiled)

pub returns-in-Ok-clause-lists : goal.returns-in-Ok-clause-lists
returns-in-Ok-clause-lists g c =
    list_done c.mount.new.v.geometry c.in-Ok.damaged c.end_of_list.result c.mount.ensures.looks.same.geometry c.mount.ensures.looks.reads c.in_default.ensures.told c.list.ensures.says c.in-Ok.ensures.whole c.in-Ok.ensures.count c.end_of_list.ensures.ending

pub returns-in-Err-BoardFault-clause-lists : goal.returns-in-Err-BoardFault-clause-lists
returns-in-Err-BoardFault-clause-lists g c =
    list_broken c.mount.new.v.geometry c.mount.ensures.looks.same.geometry c.mount.ensures.looks.reads c.in_default.ensures.told c.list.ensures.says (λ tells. let front = c.list.ensures.front tells in rw c.in-Err-BoardFault.is at front)

pub returns-in-Ok-clause-same : goal.returns-in-Ok-clause-same
returns-in-Ok-clause-same g c = same_then c.mount.ensures.looks.same c.list.ensures.same

pub returns-in-Err-BoardFault-clause-same : goal.returns-in-Err-BoardFault-clause-same
returns-in-Err-BoardFault-clause-same g c = same_then c.mount.ensures.looks.same c.list.ensures.same

pub returns-in-Err-clause-among : goal.returns-in-Err-clause-among
returns-in-Err-clause-among g c = rw c.mount_ending.ensures.ends (mount_in_list c.in-Err.why)

pub returns-in-Ok-clause-among : goal.returns-in-Ok-clause-among
returns-in-Ok-clause-among g c = rw c.end_of_list.ensures.ending (said_in_list c.in-Ok.damaged)
