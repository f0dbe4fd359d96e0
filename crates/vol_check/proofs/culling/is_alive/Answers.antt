use Rattle.std.proofs.Common.{sym}
use Rattle.vol_check.proofs.culling.is_alive.Goals as goal

pub returns-clause-byte : goal.returns-clause-byte
returns-clause-byte g c = λ tells.
    let looks = c.in_ok-entry.ensures.looks in
    rw (looks.same.geometry, looks.reads.bytes) at (c.is_alive_by.ensures.byte (looks.reads.told tells))

pub returns-clause-told : goal.returns-clause-told
returns-clause-told g c = λ tells magic.
    let looks = c.in_ok-entry.ensures.looks in
    (rw (looks.same.geometry, looks.reads.bytes) at (c.is_alive_by.ensures.told (looks.reads.told tells))) magic (c.in_ok-entry.ensures.told tells)
