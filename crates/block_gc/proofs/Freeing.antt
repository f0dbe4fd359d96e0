-- Blocks are cleaned until so many are free.
use Rattle.std.proofs.Common.{ℕ, Bool, Result, Ok, Err, refl, ◌≡◌, ◌≤◌, true}
use Rattle.room_laws.specs.Mends.{CanMend}
use Rattle.std.specs.Prelude.{IfOk}
use Rattle.nor_core.specs.declared.state.NorState.{Ghosts as NorOf}
use Rattle.flash_view.specs.declared.view.View.{View}
use Rattle.flash_view.specs.declared.kinds.StepErr.{StepErr}
use Rattle.flash_view.specs.Steps.{Stepped, stopped}
use Rattle.flash_view.proofs.Stepped.{passes, ends_as}
use Rattle.image_model.specs.Places.{IsImage}
use Rattle.block_gc.specs.declared.room.Goal.TheVariants.{Free}
use Rattle.block_gc.specs.RoomMade.{collecting, freeing}
use Rattle.block_gc.proofs.Cleanings.{freed_up, freed_mended}

-- a collection to that goal is one
pub freed_step : {N : Type 0} {nor : NorOf N} (old new : View N nor) (blocks : ℕ) {x y : ℕ} (r : Result Bool StepErr) → (nor.tells old.nor.now → IsImage old.geometry (nor.bytes old.nor.now)) →
    Stepped stopped old new r (collecting (Free blocks) x y) → Stepped stopped old new r (freeing blocks x y)
freed_step old new blocks (Ok met) is s = ends_as s (λ tells t. record { needs = t; cut = λ d cut. cut }) (λ tells t done. freed_up _ _ _ _ _ (is tells) t done)
freed_step old new blocks (Err why) is s = passes s refl (λ tells t. record { needs = t; cut = λ d cut. cut })

-- it frees two of an image that mends
pub freed_mends : {N : Type 0} {nor : NorOf N} (old new : View N nor) (blocks : ℕ) {x y : ℕ} (r : Result Bool StepErr) → Stepped stopped old new r (collecting (Free blocks) x y) →
    nor.tells old.nor.now → CanMend old.geometry (nor.bytes old.nor.now) → blocks ≤ 2 → IfOk r (λ met. met ≡ true)
freed_mends old new blocks (Ok met) s tells can few = freed_mended _ _ met _ _ can few (s.ends tells can.tidy)
freed_mends old new blocks (Err why) s tells can few = tt
