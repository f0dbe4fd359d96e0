-- Endings of a target that isn't worked on, and of a copy.
use Rattle.std.proofs.Common.{◌≡◌, ℕ, ◌≢◌, Bool, true, false, if◌then◌else◌, ap, refl, arith, Result, Ok, Err}
use Rattle.std.specs.Prelude.{nat_lt}
use Rattle.table_model.specs.declared.error.Differ.{Differ as Differs}
use Rattle.copy_model.specs.declared.err.CopyErr.{CopyErr}
use Rattle.copy_model.specs.declared.err.CopyErr.TheVariants.{Damaged as CopyDamaged, BadName as CopyBadName, Full as CopyFull, FromFault, ToFault, Refused}
use Rattle.vol_mount.specs.declared.lent.MountErr.{MountErr}
use Rattle.vol_mount.specs.declared.lent.MountErr.TheVariants.{NotAFs as MountNotAFs, DeviceFault as MountFault}
use Rattle.tool_parts.specs.declared.ending.Ending.{Ending}
use Rattle.tool_parts.specs.declared.ending.Ending.TheVariants.{Done, NotAFs, Mixed, BoardFault, Damaged, Tight, SourceChipFault, Differ}
use Rattle.tool_parts.specs.Among.{MayEndBegin}
use Rattle.tool_parts.specs.Closing.{status_of}
use Rattle.tool_parts.specs.Refusals.{said_ending}
use Rattle.copy_tool.specs.Among.{MayEndCopy}
use Rattle.copy_tool.specs.Endings.{copy_ends}
use Rattle.copy_tool.specs.Steps.{IsOfTarget, source_ends}

-- an ending with a status that none of these is
of_status : (ending : Ending) → status_of ending ≢ 0 → status_of ending ≢ 1 → status_of ending ≢ 2 → status_of ending ≢ 6 → status_of ending ≢ 10 → status_of ending ≢ 12 → status_of ending ≢ 13 → status_of ending ≢ 18 → IsOfTarget ending
of_status ending a b c d e f g h = record { later = record { no_usage = b; no_geometry = c; no_short = e }; undone = a; no_full = d; no_damage = f; no_names = g; no_source = h }

-- a target that isn't worked on is told neither as a copy that was begun nor as the source
pub of_target : (ending : Ending) → MayEndBegin ending → IsOfTarget ending
of_target (NotAFs spoiled) may = of_status _ (λ e. omega (arith, e)) (λ e. omega (arith, e)) (λ e. omega (arith, e)) (λ e. omega (arith, e)) (λ e. omega (arith, e)) (λ e. omega (arith, e)) (λ e. omega (arith, e)) (λ e. omega (arith, e))
of_target (Mixed blocks) may = of_status _ (λ e. omega (arith, e)) (λ e. omega (arith, e)) (λ e. omega (arith, e)) (λ e. omega (arith, e)) (λ e. omega (arith, e)) (λ e. omega (arith, e)) (λ e. omega (arith, e)) (λ e. omega (arith, e))
of_target BoardFault may = of_status _ (λ e. omega (arith, e)) (λ e. omega (arith, e)) (λ e. omega (arith, e)) (λ e. omega (arith, e)) (λ e. omega (arith, e)) (λ e. omega (arith, e)) (λ e. omega (arith, e)) (λ e. omega (arith, e))
of_target (Tight free) may = of_status _ (λ e. omega (arith, e)) (λ e. omega (arith, e)) (λ e. omega (arith, e)) (λ e. omega (arith, e)) (λ e. omega (arith, e)) (λ e. omega (arith, e)) (λ e. omega (arith, e)) (λ e. omega (arith, e))
of_target (Differ differ) may = of_status _ (λ e. omega (arith, e)) (λ e. omega (arith, e)) (λ e. omega (arith, e)) (λ e. omega (arith, e)) (λ e. omega (arith, e)) (λ e. omega (arith, e)) (λ e. omega (arith, e)) (λ e. omega (arith, e))
of_target _ may = absurd may

status_by : {T : Type 0} → Result T Ending → ℕ
status_by (Ok x) = 0
status_by (Err ending) = status_of ending

-- nor is a fault of the source told then
pub not_source : {T R : Type 0} (ending : Ending) → MayEndBegin ending → ◌≡◌ {A = Result T Ending} (Err ending) (Err SourceChipFault) → R
unfolding status_by
not_source {T} ending may is = absurd ((of_target ending may).no_source (ap (λ (r : Result T Ending). status_by r) is))

-- ---- the endings of a copy

pub begin_in_copy : (ending : Ending) → MayEndBegin ending → MayEndCopy ending
begin_in_copy (NotAFs spoiled) may = may
begin_in_copy (Mixed blocks) may = may
begin_in_copy BoardFault may = may
begin_in_copy (Tight free) may = may
begin_in_copy (Differ differ) may = may
begin_in_copy _ may = absurd may

-- that of a source that isn't mounted
pub source_among : (why : MountErr) → MayEndCopy (source_ends why)
source_among (MountNotAFs spoiled) = tt {0}
source_among MountFault = tt {0}

-- that of a copy that isn't done
pub copy_among : (why : CopyErr) → ((d : Differs) → why ≡ CopyDamaged d → d.wanted ≢ d.found) → MayEndCopy (copy_ends why)
copy_among (CopyBadName at) apart = tt {0}
copy_among (CopyFull index pages) apart = tt {0}
copy_among FromFault apart = tt {0}
copy_among ToFault apart = tt {0}
copy_among (CopyDamaged d) apart = apart d refl
copy_among Refused apart = tt {0}

said_by : (b : Bool) (damaged : ℕ) → MayEndCopy (if b then Damaged damaged else Done)
said_by true damaged = tt {0}
said_by false damaged = tt {0}

-- that of one that is
pub said_among : (damaged : ℕ) → MayEndCopy (said_ending damaged)
said_among damaged = said_by (nat_lt 0 damaged) damaged
