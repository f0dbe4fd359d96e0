-- The stages of a volume.
use Rattle.std.specs.Prelude.{Bool, true, false, ◌&&◌, if◌then◌else◌}
use Rattle.table_model.specs.Reply.{Answer}
use Rattle.volume.specs.Replies.{breaks}
use Rattle.volume.specs.declared.stage.Stage.{Stage}
use Rattle.volume.specs.declared.stage.Stage.TheVariants.{Mounted, Checked, Failed}

-- a stage in which calls are taken
abbrev pub is_open : Stage → Bool
is_open Checked = true
is_open _ = false

-- a stage in which a volume may be checked
abbrev pub is_mounted : Stage → Bool
is_mounted Mounted = true
is_mounted _ = false

-- a stage to which a failed call led
abbrev pub is_failed : Stage → Bool
is_failed Failed = true
is_failed _ = false

-- where a call leads that a checked volume took: to Failed, where it broke and had asked for a program or an erase
abbrev pub stage_after : Bool → Answer → Stage
stage_after wrote reply = if wrote && breaks reply then Failed else Checked
