use Rattle.std.proofs.Common.{sym, ◌∙◌}
use Rattle.vol_check.proofs.Owning.{own_erased, ones_taken}
use Rattle.vol_check.proofs.entries.is_taken.Goals as goal

pub returns-in_ok-is_blank-in-65535-clause-told : goal.returns-in_ok-is_blank-in-65535-clause-told
returns-in_ok-is_blank-in-65535-clause-told g c = λ tells owns magic named.
    let ones = sym named ∙ c.in-65535.is in
    ones_taken _ _ _ _ ones (c.in_ok-is_blank-in-65535.ensures.told tells (own_erased c.args.own _ _ _ owns c.requires magic ones))
