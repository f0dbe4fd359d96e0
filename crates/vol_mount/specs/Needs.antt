-- Which devices fit a volume, and which lent memory is too short.
use Rattle.std.specs.Prelude.{ℕ, ◌*◌, Bool, not, nat_lt, ◌==◌, ◌||◌, Option, Some, None, if◌then◌else◌}
use Rattle.geometry.specs.declared.geometry.Geometry.{Geometry}
use Rattle.geometry.specs.Numbers.{work_need, cache_need, check_need}
use Rattle.vol_mount.specs.declared.lent.Part.TheVariants.{Work, Slots, Cache, Check, Window}
use Rattle.vol_mount.specs.declared.lent.AcceptErr.{AcceptErr}
use Rattle.vol_mount.specs.declared.lent.AcceptErr.TheVariants.{ShortBuffer}

-- a device of that unit and size doesn't fit: it has another erase unit, or is smaller than the volume
abbrev pub is_wrong_chip : Geometry → ℕ → ℕ → Bool
is_wrong_chip g unit size = not (unit == g.phys) || nat_lt size (g.blocks * g.block)

-- memory for a check that is too short, by its length
abbrev pub short_check : Geometry → ℕ → Option AcceptErr
short_check g check = if nat_lt check (check_need g) then Some (ShortBuffer Check (check_need g) check) else None

-- the first part of a volume's memory that is too short, by the lengths of work, slots, cache and window
abbrev pub short_buffer : Geometry → ℕ → ℕ → ℕ → ℕ → Option AcceptErr
short_buffer g work slots cache window =
    if nat_lt work (work_need g) then Some (ShortBuffer Work (work_need g) work)
    else if nat_lt slots 1 then Some (ShortBuffer Slots 1 slots)
    else if nat_lt cache (cache_need g) then Some (ShortBuffer Cache (cache_need g) cache)
    else if nat_lt window g.page then Some (ShortBuffer Window g.page window)
    else None

-- the first part of a reader's memory that is too short, by the lengths of work, cache and check
abbrev pub short_reader : Geometry → ℕ → ℕ → ℕ → Option AcceptErr
short_reader g work cache check =
    if nat_lt work (work_need g) then Some (ShortBuffer Work (work_need g) work)
    else if nat_lt cache (cache_need g) then Some (ShortBuffer Cache (cache_need g) cache)
    else short_check g check
