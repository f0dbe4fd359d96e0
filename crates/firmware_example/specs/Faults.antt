-- Which troubles tell that the device failed.
use Rattle.std.specs.Prelude.{Bool, true, false}
use Rattle.vol_mount.specs.declared.lent.MountErr.TheVariants.{DeviceFault as MountFault}
use Rattle.vol_mount.specs.declared.lent.FormatErr.TheVariants.{DeviceFault as FormatFault}
use Rattle.vol_check.specs.declared.report.CheckErr.TheVariants.{DeviceFault as CheckFault}
use Rattle.table_model.specs.declared.error.FsErr.TheVariants.{DeviceFault as CallFault}
use Rattle.firmware_example.specs.declared.trouble.Trouble.{Trouble}
use Rattle.firmware_example.specs.declared.trouble.Trouble.TheVariants.{Format, Mount, Check, Call}

-- the device failed
abbrev pub tells_fault : Trouble → Bool
tells_fault (Format FormatFault) = true
tells_fault (Mount MountFault) = true
tells_fault (Check CheckFault) = true
tells_fault (Call CallFault) = true
tells_fault _ = false
