-- What a step makes of a read that goes on.
use Rattle.std.proofs.Common.{◌≡◌, refl}
use Rattle.std.specs.Prelude.{Result, Ok, Err, IsErr, IsErrAnd, IfOk, IfErr}
use Rattle.flash_view.specs.declared.kinds.StepErr.{StepErr}
use Rattle.flash_view.specs.declared.kinds.StepErr.TheVariants.{DeviceFault, Damaged}
use Rattle.file_read.specs.Missing.{HoldsOrFault}

-- an error that is passed on
pub fault : {T U : Type 0} (e : StepErr) (P : T → Type 0) (Q : U → Type 0) → HoldsOrFault (Err e) P → HoldsOrFault (Err e) Q
fault DeviceFault P Q h = tt
fault (Damaged differ) P Q h = h

-- what follows of what holds
pub holds_more : {T : Type 0} (r : Result T StepErr) (P Q : T → Type 0) → ((x : T) → P x → Q x) → HoldsOrFault r P → HoldsOrFault r Q
holds_more (Ok x) P Q more h = more x h
holds_more (Err DeviceFault) P Q more h = tt
holds_more (Err (Damaged differ)) P Q more h = h

-- an error that `?` passes on
pub passed : {T U : Type 0} (e : StepErr) (r : Result U StepErr) (P : T → Type 0) (Q : U → Type 0) → IsErr r → IsErrAnd r (λ x. x ≡ e) → HoldsOrFault (Err e) P → HoldsOrFault r Q
passed e (Ok x) P Q err same h = absurd (cc)
passed e (Err x) P Q err same h = rw same (fault e P Q h)
