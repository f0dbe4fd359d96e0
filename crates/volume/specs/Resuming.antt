-- What it does to a device that a volume is taken as checked.
use Rattle.std.specs.Prelude.{◌≡◌, ◌≤◌, Result, Err, None, OnOk, IfErr, IfSome, IsErrOf}
use Rattle.geometry.specs.declared.geometry.Geometry.{Geometry}
use Rattle.geometry.specs.Numbers.{usable, write_refusal}
use Rattle.nor_core.specs.declared.state.NorState.{Ghosts as NorOf}
use Rattle.nor_core.specs.Count.{Rose}
use Rattle.nor_core.specs.Device.{OnlyReads}
use Rattle.image_model.specs.Tidy.{IsTidy}
use Rattle.vol_check.specs.declared.report.CheckErr.{CheckErr}
use Rattle.vol_check.specs.declared.report.CheckErr.TheVariants.{Wrong, DeviceFault}

-- The device was only read, and the image is tidy. A volume that may not be written is `Wrong`; else the device failed, or it is done.
pub record Resumes {D : Type 0} (nor : NorOf D) (g : Geometry) (old new : D) (result : Result (Unit {0}) CheckErr) : Type 0 where
  pub wrong : IfSome (write_refusal g) (λ why. result ≡ Err (Wrong why))
  pub failed : write_refusal g ≡ None → IfErr result (λ why. why ≡ DeviceFault)
  pub cause : IsErrOf result DeviceFault → Rose (nor.faults old) (nor.faults new)
  pub reads : OnlyReads nor old new
  pub tidy : nor.tells old → IsTidy g (nor.bytes new)
  pub few : OnOk result (usable g ≤ 32766)
