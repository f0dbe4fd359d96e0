-- What a read refuses.
use Rattle.std.specs.Prelude.{◌≡◌, ◌≢◌, ℕ, ◌%◌, Result, Ok, Err}
use Rattle.table_model.specs.declared.error.Differ.{Differ}
use Rattle.flash_view.specs.declared.kinds.StepErr.{StepErr}
use Rattle.flash_view.specs.declared.kinds.StepErr.TheVariants.{DeviceFault, Damaged}

-- no page was found where one of the id was wanted
pub record IsNoPage (id : ℕ) (differ : Differ) : Type 0 where
  pub page : differ.page ≡ 0xFFFF
  pub no_id : differ.found.id ≡ 0xFFFF
  pub no_span : differ.found.span ≡ 0xFFFF
  pub wanted : differ.wanted.id % 0x8000 ≡ id % 0x8000
  pub apart : differ.wanted ≢ differ.found

-- a refusal other than a fault says so
abbrev pub IsMissing : ℕ → StepErr → Type 0
IsMissing id DeviceFault = Unit {0}
IsMissing id (Damaged differ) = IsNoPage id differ

-- P holds of what was answered, or the device failed
abbrev pub HoldsOrFault : {T : Type 0} → Result T StepErr → (T → Type 0) → Type 0
HoldsOrFault (Ok x) P = P x
HoldsOrFault (Err DeviceFault) P = Unit {0}
HoldsOrFault (Err (Damaged differ)) P = ⊥
