-- Which numbers, devices and lent memory are refused: numbers first, then the device, then the lent memory.
use Rattle.std.specs.Prelude.{ℕ, ◌+◌, ◌*◌, ◌/◌, not, ◌==◌, ◌||◌, nat_lt, Option, Some, None, if◌then◌else◌}
use Rattle.geometry.specs.declared.error.GeoErr.{GeoErr}
use Rattle.geometry.specs.declared.error.GeoErr.TheVariants.{TooManyUsable, TooFewToWrite, WrongChip}
use Rattle.geometry.specs.Rules.{pages_in, entries_in}
use Rattle.geometry.specs.Numbers.{refusal}
use Rattle.vol_mount.specs.declared.lent.Part.{Part}
use Rattle.vol_mount.specs.declared.lent.Part.TheVariants.{Work, Slots, Cache, Check, Window, Line}
use Rattle.tool_parts.specs.declared.words.Numbers.{Numbers}
use Rattle.tool_parts.specs.declared.buffers.Lengths.{Lengths}
use Rattle.tool_parts.specs.declared.ending.Ending.{Ending}
use Rattle.tool_parts.specs.declared.ending.Ending.TheVariants.{Geometry, ShortBuffer}

-- why a device of that unit and size doesn't fit these numbers; an erase unit is a block
abbrev pub chip_refusal : ℕ → ℕ → ℕ → ℕ → Option GeoErr
chip_refusal block blocks unit size = if not (unit == block) || nat_lt size (blocks * block) then Some WrongChip else None

-- why these numbers may not be written, or a device of that unit and size doesn't fit them
abbrev pub device_refusal : ℕ → ℕ → ℕ → ℕ → ℕ → Option GeoErr
device_refusal page block blocks unit size =
    if nat_lt 32766 (blocks * entries_in page block) then Some TooManyUsable
    else if nat_lt blocks 4 then Some TooFewToWrite
    else chip_refusal block blocks unit size

-- the first of two reasons, if there is one
abbrev pub first_of : Option GeoErr → Option GeoErr → Option GeoErr
first_of (Some why) later = Some why
first_of None later = later

-- why the numbers or the device are refused for a volume that is only read
abbrev pub read_refusal : Numbers → ℕ → ℕ → Option GeoErr
read_refusal n unit size = first_of (refusal n.page n.block n.blocks n.block n.meta) (chip_refusal n.block n.blocks unit size)

-- why the numbers or the device are refused for a volume that is written
abbrev pub write_refusal_of : Numbers → ℕ → ℕ → Option GeoErr
write_refusal_of n unit size = first_of (refusal n.page n.block n.blocks n.block n.meta) (device_refusal n.page n.block n.blocks unit size)

-- bytes of work that are needed
abbrev pub work_need_in : ℕ → ℕ → ℕ → ℕ
work_need_in page block blocks = 4 * page + 4 * pages_in page block + 16 * blocks + blocks * entries_in page block / 8 + 1

-- a part of the lent memory that is too short, before others that may be
abbrev pub shorter : Part → ℕ → ℕ → Option Ending → Option Ending
shorter part need given later = if nat_lt given need then Some (ShortBuffer part need given) else later

-- the first part that is too short
abbrev pub length_refusal : ℕ → ℕ → ℕ → Lengths → Option Ending
length_refusal page block blocks lent =
    shorter Work (work_need_in page block blocks) lent.work
    (shorter Slots 1 lent.slots
    (shorter Cache (page + 8) lent.cache
    (shorter Check (blocks * pages_in page block + 8192) lent.check
    (shorter Window page lent.window
    (shorter Line 12288 lent.line None)))))

-- numbers or a device that are refused, before what may be refused later
abbrev pub refused_as : Option GeoErr → Option Ending → Option Ending
refused_as (Some why) later = Some (Geometry why)
refused_as None later = later
