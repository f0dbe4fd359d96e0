-- Turns after turns.
use Rattle.std.proofs.Common.{◌≡◌, ℕ, ◌+◌, ◌≤◌, refl, sym, ◌∙◌, subst, add-one, arith, Bool, true, false}
use Rattle.std.specs.Prelude.{if◌then◌else◌}
use Rattle.std.specs.Int.{from_bool}
use Rattle.geometry.specs.declared.geometry.Geometry.{Geometry}
use Rattle.nor_core.specs.declared.state.NorState.{Ghosts as NorOf}
use Rattle.nor_core.specs.Draws.{drawn}
use Rattle.table_model.specs.Table.{State}
use Rattle.volume.specs.declared.volume.Volume.{Volume}
use Rattle.volume_run.specs.declared.asking.Stop.{Stop}
use Rattle.volume_run.specs.Stops.{StopsFrom}
use Rattle.volume_soak.specs.Turns.{counted, turn, soaked}
use Rattle.volume_soak.specs.Doing.{DidFrom, HasSoakedFrom, HasCountedFrom, IsSummaryFrom}
use Rattle.volume_soak.specs.declared.soaking.Summary.{Summary}

-- a truth counted as a number
pub byte_is : (b : Bool) → from_bool b ≡ (if b then 1 else 0)
byte_is true = refl
byte_is false = refl

pub byte_most : (b : Bool) → from_bool b ≤ 1
byte_most true = omega arith
byte_most false = omega arith

-- no turn
none_soaked : (g : Geometry) (s : State) (seed : ℕ) → soaked g s seed 0 ≡ record { state = s; ok = 0 }
unfolding soaked
none_soaked g s seed = refl

-- one turn more
more_soaked : (g : Geometry) (s : State) (seed k : ℕ) → soaked g s seed (k + 1) ≡ counted (soaked g s seed k) (turn g (soaked g s seed k).state (drawn seed k))
unfolding soaked
more_soaked g s seed k = subst (λ (n : ℕ). soaked g s seed n ≡ counted (soaked g s seed k) (turn g (soaked g s seed k).state (drawn seed k))) (sym (add-one k)) refl

module _ {N : Type 0} {nor : NorOf N} where
  pub soaks_none : (v : Volume N nor) (seed : ℕ) → HasSoakedFrom v seed 0 v 0
  soaks_none v seed = λ g s ready. rw (none_soaked g s seed) (record { ready = ready; ok_is = refl })

  -- a turn after others, which was done or not
  pub soaks_more : {old mid new : Volume N nor} (seed k before after : ℕ) (ok : Bool) → after ≡ before + (if ok then 1 else 0) → HasSoakedFrom old seed k mid before → DidFrom mid (λ g s. turn g s (drawn seed k)) new ok → HasSoakedFrom old seed (k + 1) new after
  soaks_more seed k before after ok is soaks did = λ g s ready.
      let was = soaks g s ready in
      let now = did g _ was.ready in
      rw (more_soaked g s seed k) (record { ready = now.ready; ok_is = is ∙ rw (now.ok_is, was.ok_is) refl })

  -- stopped in a turn after others
  pub stops_soaked : {old mid : Volume N nor} (seed k ok : ℕ) (why : Stop) → HasSoakedFrom old seed k mid ok → StopsFrom mid why → StopsFrom old why
  stops_soaked seed k ok why soaks stops = λ g s ready. stops g _ (soaks g s ready).ready

  -- the summary of turns
  pub sums_up : {old mid new : Volume N nor} (seed turns ok files bytes : ℕ) (summary : Summary) → summary.ok ≡ ok → summary.files ≡ files → summary.bytes ≡ bytes → HasSoakedFrom old seed turns mid ok → HasCountedFrom mid new files bytes → IsSummaryFrom old seed turns new summary
  sums_up seed turns ok files bytes summary ok_is files_is bytes_is soaks counts = λ g s ready.
      let was = soaks g s ready in
      let now = counts g _ was.ready in
      record { ready = now.ready; ok_is = ok_is ∙ was.ok_is; files_are = files_is ∙ now.files_are; bytes_are = bytes_is ∙ now.bytes_are }
