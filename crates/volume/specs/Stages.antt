-- Whether a volume takes calls.
use Rattle.std.specs.Prelude.{Bool}
use Rattle.volume.specs.Opening.{is_open, is_failed}
use Rattle.volume.specs.declared.volume.Volume.{Volume}

-- the volume was checked, and no call has failed after it had asked for a program or an erase
abbrev pub takes_calls : {N : Type 0} {nor : _} → Volume N nor → Bool
takes_calls v = is_open v.stage

-- a call has failed after it had asked for a program or an erase
abbrev pub has_failed : {N : Type 0} {nor : _} → Volume N nor → Bool
has_failed v = is_failed v.stage
