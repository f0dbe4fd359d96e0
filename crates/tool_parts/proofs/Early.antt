-- What is refused before the device is read is refused for its numbers, device or memory.
use Rattle.std.proofs.Common.{ℕ, ◌≡◌, ◌≢◌, ◌+◌, ◌*◌, true, false, arith}
use Rattle.std.specs.Prelude.{Option, Some, None, nat_lt, if◌then◌else◌}
use Rattle.geometry.specs.declared.error.GeoErr.{GeoErr}
use Rattle.geometry.specs.Rules.{pages_in}
use Rattle.vol_mount.specs.declared.lent.Part.{Part}
use Rattle.vol_mount.specs.declared.lent.Part.TheVariants.{Work, Slots, Cache, Check, Window, Line}
use Rattle.tool_parts.specs.declared.buffers.Lengths.{Lengths}
use Rattle.tool_parts.specs.declared.ending.Ending.{Ending}
use Rattle.tool_parts.specs.declared.ending.Ending.TheVariants.{Usage, Geometry, ShortBuffer}
use Rattle.tool_parts.specs.Closing.{status_of}
use Rattle.tool_parts.specs.Accepting.{length_refusal, work_need_in, shorter, refused_as}
use Rattle.tool_parts.specs.Early.{IsEarly, IsEarlyIf}

shorter_early : (part : Part) (need given : ℕ) (later : Option Ending) → IsEarlyIf later → IsEarlyIf (shorter part need given later)
shorter_early part need given later early = elim (nat_lt given need) as (λ b. IsEarlyIf (if b then Some (ShortBuffer part need given) else later)) [ true ↦ tt {0} | false ↦ early ]

pub length_early : (page block blocks : ℕ) (lent : Lengths) → IsEarlyIf (length_refusal page block blocks lent)
length_early page block blocks lent =
    let line : Option Ending = shorter Line 12288 lent.line None in
    let window : Option Ending = shorter Window page lent.window line in
    let check : Option Ending = shorter Check (blocks * pages_in page block + 8192) lent.check window in
    let cache : Option Ending = shorter Cache (page + 8) lent.cache check in
    let slots : Option Ending = shorter Slots 1 lent.slots cache in
    shorter_early Work (work_need_in page block blocks) lent.work slots
    (shorter_early Slots 1 lent.slots cache
    (shorter_early Cache (page + 8) lent.cache check
    (shorter_early Check (blocks * pages_in page block + 8192) lent.check window
    (shorter_early Window page lent.window line
    (shorter_early Line 12288 lent.line None (tt {0}))))))

pub refused_early : (why : Option GeoErr) (later : Option Ending) → IsEarlyIf later → IsEarlyIf (refused_as why later)
refused_early None later early = early
refused_early (Some why) later early = tt {0}

-- its status is no script fault
pub early_status : (ending : Ending) → IsEarly ending → status_of ending ≢ 8
early_status Usage early = λ (is : 1 ≡ 8). absurd (omega arith)
early_status (Geometry why) early = λ (is : 2 ≡ 8). absurd (omega arith)
early_status (ShortBuffer part need given) early = λ (is : 10 ≡ 8). absurd (omega arith)
early_status _ early = absurd early

-- nor a fault of the board
pub early_board : (ending : Ending) → IsEarly ending → status_of ending ≢ 7
early_board Usage early = λ (is : 1 ≡ 7). absurd (omega arith)
early_board (Geometry why) early = λ (is : 2 ≡ 7). absurd (omega arith)
early_board (ShortBuffer part need given) early = λ (is : 10 ≡ 7). absurd (omega arith)
early_board _ early = absurd early

-- nor one of a folder
pub early_folder : (ending : Ending) → IsEarly ending → status_of ending ≢ 9
early_folder Usage early = λ (is : 1 ≡ 9). absurd (omega arith)
early_folder (Geometry why) early = λ (is : 2 ≡ 9). absurd (omega arith)
early_folder (ShortBuffer part need given) early = λ (is : 10 ≡ 9). absurd (omega arith)
early_folder _ early = absurd early
