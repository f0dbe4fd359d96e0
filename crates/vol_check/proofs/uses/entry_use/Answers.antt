use Rattle.std.proofs.Common.{sym, ◌∙◌}
use Rattle.vol_check.proofs.Owning.{own_erased}
use Rattle.vol_check.proofs.UseSums.{free_is_use}
use Rattle.vol_check.proofs.uses.entry_use.Goals as goal

pub returns-then-entry-clause-told : goal.returns-then-entry-clause-told
returns-then-entry-clause-told g c = λ tells owns magic marked.
    let seen = c.in_ok-entry.ensures in
    let ones = sym (seen.told tells) ∙ c.if-entry.true in
    let told = rw (seen.looks.same.geometry, seen.looks.reads.bytes) at (c.in_ok-is_blank.ensures.told (seen.looks.reads.told tells)) in
    let blank = told (own_erased c.args.own _ _ _ owns c.requires magic ones) in
    rw c.blank_use.ensures (free_is_use c.args.v.now.geometry (g.N.NorState.bytes c.args.v.now.nor.now) c.args.page c.in_ok-is_blank.field-0 ones blank)
