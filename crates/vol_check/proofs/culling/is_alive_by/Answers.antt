use Rattle.std.proofs.Common.{◌∙◌}
use Rattle.vol_check.proofs.Dead.{byte_told, alive_told}
use Rattle.vol_check.proofs.culling.is_alive_by.Goals as goal

pub returns-clause-byte : goal.returns-clause-byte
returns-clause-byte g c = λ tells. byte_told _ _ _ _ (c.in_ok-head.ensures.told tells) c.is_named.ensures.byte

pub returns-clause-told : goal.returns-clause-told
returns-clause-told g c = λ tells magic named. c.is_named.ensures.is ∙ alive_told _ _ _ _ _ c.requires magic named (c.in_ok-head.ensures.told tells)
