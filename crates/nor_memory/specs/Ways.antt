-- How the next calls of a device in memory go, by the failures and the cut that were asked for.
use Rattle.std.specs.Prelude.{ℕ, ◌≡◌, ◌≢◌, ◌+◌, ◌-◌, ◌⊎◌, ◌==◌, if◌then◌else◌, OnOk, OnErr, Result}
use Rattle.nor_core.specs.declared.device.Failed.{Failed}
use Rattle.nor_memory.specs.declared.plan.CallKind.{CallKind}
use Rattle.nor_memory.specs.declared.plan.CallKind.TheVariants.{Read, Program, Erase, Say}
use Rattle.nor_memory.specs.declared.plan.Power.{Power}
use Rattle.nor_memory.specs.declared.plan.Power.TheVariants.{On, CutAfter, Off}
use Rattle.nor_memory.specs.declared.plan.Way.{Way}
use Rattle.nor_memory.specs.declared.plan.Way.TheVariants.{Whole, Fails, Cut, Unpowered}
use Rattle.nor_memory.specs.declared.plan.Plan.{Plan}

-- nothing is to fail
abbrev pub no_plan : Plan
no_plan = record { read = 0; program = 0; erase = 0; say = 0; power = On }

-- a call fails where it is the first from now on that is to fail
abbrev pub asked_way : ℕ → Way
asked_way failing = if failing == 1 then Fails else Whole

-- how a read goes
abbrev pub read_way : Power → ℕ → Way
read_way On failing = asked_way failing
read_way (CutAfter passed pick) failing = asked_way failing
read_way Off failing = Unpowered

-- how a program, an erase or a say goes: it is cut where none is to pass before it
abbrev pub write_way : Power → ℕ → Way
write_way On failing = asked_way failing
write_way (CutAfter passed pick) failing = if passed == 0 then Cut pick else asked_way failing
write_way Off failing = Unpowered

-- how the next call of a kind goes
abbrev pub way_of : CallKind → Plan → Way
way_of Read plan = read_way plan.power plan.read
way_of Program plan = write_way plan.power plan.program
way_of Erase plan = write_way plan.power plan.erase
way_of Say plan = write_way plan.power plan.say

-- the power after a program, an erase or a say
abbrev pub power_after : Power → Power
power_after On = On
power_after (CutAfter passed pick) = if passed == 0 then Off else CutAfter (passed - 1) pick
power_after Off = Off

-- what is still to fail after a call of a kind
abbrev pub plan_after : CallKind → Plan → Plan
plan_after Read plan = record plan { read = plan.read - 1 }
plan_after Program plan = record plan { program = plan.program - 1; power = power_after plan.power }
plan_after Erase plan = record plan { erase = plan.erase - 1; power = power_after plan.power }
plan_after Say plan = record plan { say = plan.say - 1; power = power_after plan.power }

-- the nth call of a kind from now on is to fail, or none of it where `nth` is 0
abbrev pub plan_failing : CallKind → ℕ → Plan → Plan
plan_failing Read nth plan = record plan { read = nth }
plan_failing Program nth plan = record plan { program = nth }
plan_failing Erase nth plan = record plan { erase = nth }
plan_failing Say nth plan = record plan { say = nth }

-- the power after a cut was asked for: what is off stays off
abbrev pub power_cut : ℕ → ℕ → Power → Power
power_cut passed pick On = CutAfter passed pick
power_cut passed pick (CutAfter before other) = CutAfter passed pick
power_cut passed pick Off = Off

-- the power is to go off inside a program, an erase or a say, once so many have passed
abbrev pub plan_cut : ℕ → ℕ → Plan → Plan
plan_cut passed pick plan = record plan { power = power_cut passed pick plan.power }

-- a call that changes the device is Ok only where it goes whole and is noted; it fails only where it doesn't go whole or found no memory to be noted in;
-- with the power off it isn't noted
pub record Answered (way : Way) (before after : ℕ) (result : Result (Unit {0}) Failed) : Type 0 where
  pub whole : OnOk result (way ≡ Whole)
  pub noted : OnOk result (after ≡ before + 1)
  pub fails : OnErr result ((way ≢ Whole) ⊎ (after ≡ before))
  pub off : way ≡ Unpowered → after ≡ before
