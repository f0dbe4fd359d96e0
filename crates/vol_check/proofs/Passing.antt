-- What the check's kills of live pages keep, one after the other.
use Rattle.std.proofs.Common.{◌≡◌, ℕ, ◌+◌, ◌≤◌, ◌⊎◌, List, Bool, true, false, None, cond, refl, sym, ◌∙◌, arith, subst, ⊎_elim, inl, inr}
use Rattle.std.proofs.lemmas.Bool.{cases_eq}
use Rattle.std.specs.Int.{from_bool}
use Rattle.geometry.specs.declared.geometry.Geometry.{Geometry}
use Rattle.image_model.specs.Live.{live_at}
use Rattle.image_model.specs.Places.{entry_of}
use Rattle.image_model.specs.Tidy.{is_free_entry}
use Rattle.image_model.specs.Sound.{HasMagics}
use Rattle.image_laws.specs.TidySteps.{Agree}
use Rattle.image_laws.proofs.Sounding.{keeps-itself, keeps-on}
use Rattle.image_laws.proofs.UsesStay.{uses-itself, uses-on}
use Rattle.room_laws.specs.Staged.{OnlyKills}
use Rattle.vol_check.specs.Stage.{Kills}
use Rattle.vol_check.specs.Culls.{Culls, Passes}
use Rattle.vol_check.specs.Works.{StageCut}
use Rattle.vol_check.proofs.Owning.{own_killed}

-- ---- at each cut

pub stage_none : (g : Geometry) (a : List ℕ) → HasMagics g a → StageCut g a a
stage_none g a h = record { keeps = record { keeps = keeps-itself g a h; free = omega arith }; uses = uses-itself g a }

pub stage_on : (g : Geometry) (a b c : List ℕ) → StageCut g a b → StageCut g b c → StageCut g a c
stage_on g a b c x y = record {
  keeps = record { keeps = keeps-on g a b c x.keeps.keeps y.keeps.keeps; free = omega (arith, x.keeps.free, y.keeps.free) };
  uses = uses-on g a b c x.uses y.uses;
}

-- ---- kills alone

pub kills_none : (g : Geometry) (a : List ℕ) → Kills g a a
kills_none g a = record { pages = record { magic = λ block. refl; live = λ p. inl refl; free = λ p page. refl }; counts = λ block low. refl; own = λ own. own }

pages_then : (g : Geometry) (a b c : List ℕ) → OnlyKills g a b → OnlyKills g b c → OnlyKills g a c
pages_then g a b c x y = record {
  magic = λ block. y.magic block ∙ x.magic block;
  live = λ p. ⊎_elim
      (λ (same : live_at g c p ≡ live_at g b p). ⊎_elim (λ (old : live_at g b p ≡ live_at g a p). inl (same ∙ old)) (λ (gone : live_at g b p ≡ None). inr (same ∙ gone)) (x.live p))
      (λ (gone : live_at g c p ≡ None). inr gone)
      (y.live p);
  free = λ p page. y.free p page ∙ x.free p page;
}

pub kills_then : (g : Geometry) (a b c : List ℕ) → Kills g a b → Kills g b c → Kills g a c
kills_then g a b c x y = record { pages = pages_then g a b c x.pages y.pages; counts = λ block low. y.counts block low ∙ x.counts block low; own = λ own. y.own (x.own own) }

-- an entry that was in use is zero, and the rest is as it was
pub kills_one : (g : Geometry) (a c : List ℕ) (p : ℕ) → Agree g a c p → is_free_entry g a p ≡ false → entry_of g c p ≡ 0 →
    ((q : ℕ) → (live_at g c q ≡ live_at g a q) ⊎ (live_at g c q ≡ None)) → Kills g a c
kills_one g a c p agree used zero live = record {
  pages = record {
    magic = agree.magic;
    live = live;
    free = λ q page. ⊎_elim
        (λ (here : q ≡ p). rw here (let now : is_free_entry g c p ≡ false = rw zero refl in now ∙ sym used))
        (λ (there : q ≡ p → ⊥). rw (agree.entry q page there, agree.page q page there) refl)
        (cases_eq q p);
  };
  counts = agree.counts;
  own = own_killed g a c p agree zero;
}

-- ---- turn by turn

-- a page that isn't killed
pub culls_nothing : (g : Geometry) (a : List ℕ) (p : ℕ) → Culls g p false a a
culls_nothing g a p = record { count = omega arith; gone = λ e. absurd (cc); others = λ q other. refl; clean = λ clean. clean; kills = kills_none g a }

pub passes_none : (g : Geometry) (a : List ℕ) → Passes g 0 a a
passes_none g a = record { count = omega arith; clean = λ c. c; kills = kills_none g a }

pub passes_then : (g : Geometry) (a b c : List ℕ) (n m : ℕ) → Passes g n a b → Passes g m b c → Passes g (n + m) a c
passes_then g a b c n m x y = record { count = omega (arith, x.count, y.count); clean = λ h. y.clean (x.clean h); kills = kills_then g a b c x.kills y.kills }

-- a turn alone
passes_turn : (g : Geometry) (a b : List ℕ) (p : ℕ) (killed : Bool) → Culls g p killed a b → Passes g (cond killed 1 0) a b
passes_turn g a b p killed t = record { count = t.count; clean = t.clean; kills = t.kills }

-- one turn more
pub passes_next : (g : Geometry) (first a b : List ℕ) (p n m : ℕ) (killed : Bool) → Passes g n first a → Culls g p killed a b → m ≡ n + cond killed 1 0 → Passes g m first b
passes_next g first a b p n m killed s t e = subst (λ (k : ℕ). Passes g k first b) (sym e) (passes_then g first a b n (cond killed 1 0) s (passes_turn g a b p killed t))

-- one more, or none
pub from_bool_is : (killed : Bool) → (from_bool killed ≡ cond killed 1 0) × (from_bool killed ≤ 1)
from_bool_is true = (refl, omega arith)
from_bool_is false = (refl, omega arith)
