-- A kill of a live page that isn't wanted, as a turn of the check.
use Rattle.std.proofs.Common.{◌≡◌, ◌≢◌, ℕ, ◌+◌, ◌*◌, ◌<◌, ◌≤◌, List, slice_index, true, false, ◌==◌, ap, refl, sym, ◌∙◌, ⊎_elim, inl, inr}
use Rattle.std.specs.Prelude.{None, is_some}
use Rattle.std.proofs.lemmas.Bool.{cases_eq, cases_Bool, ne_eqb}
use Rattle.std.proofs.lemmas.Option.{cond_some}
use Rattle.geometry.specs.declared.geometry.Geometry.{Geometry}
use Rattle.image_model.specs.Headers.{is_finished, obj_id}
use Rattle.image_model.specs.Live.{Live, live_at, is_live}
use Rattle.image_model.specs.Places.{page_of, block_of, has_magic, entry_of, is_entry_page, IsImage}
use Rattle.image_model.specs.Tables.{Found, has_of, table_of, damaged_of, records}
use Rattle.image_model.specs.Tidy.{is_free_entry, is_wanted, free_blocks}
use Rattle.image_model.specs.Killed.{is_used, is_killable}
use Rattle.image_model.specs.Sound.{HasMagics, Keeps}
use Rattle.image_laws.specs.Changes.{Loses}
use Rattle.image_laws.specs.LiveSteps.{KillLeaves, KillDone}
use Rattle.image_laws.specs.TidySteps.{Agree}
use Rattle.image_laws.proofs.DeadEntries.{and_false}
use Rattle.image_laws.proofs.Frames.{LivePage, live_parts}
use Rattle.image_laws.proofs.FreeBlocks.{free_blocks-fall, used-is_not_free}
use Rattle.image_laws.proofs.Sounding.{magics-same, mixed-from, loses-back, keeps-by_live}
use Rattle.image_laws.proofs.StillFree.{live-used}
use Rattle.image_laws.proofs.TidySteps.{wanted-same}
use Rattle.image_laws.proofs.Unwanted.{kill-counts}
use Rattle.image_laws.proofs.UsesStay.{uses-agree}
use Rattle.flash_view.specs.Steps.{Finishes}
use Rattle.page_put.specs.LivePages.{killing}
use Rattle.image_model.specs.Shared.{SameUses}
use Rattle.vol_check.specs.Culls.{Spares, MayCull, Culls}
use Rattle.vol_check.specs.Works.{StageCut, step_of, culling}
use Rattle.vol_check.proofs.Passing.{kills_one}

-- each id has what it had
pub spares_by : (g : Geometry) (a b : List ℕ) (p : ℕ) → has_of g (live_at g b) ≡ has_of g (live_at g a) → ((q : ℕ) → q ≢ p → is_wanted g b q ≡ is_wanted g a q) → Spares g p a b
unfolding table_of damaged_of
spares_by g a b p has wanted = record { table = ap (λ (x : Found). records x 0x7FFF) has; damaged = λ id k. rw has at k; wanted = wanted }

-- an entry in use stays so where its entry and page do
used-same : (g : Geometry) (a b : List ℕ) (p : ℕ) → Agree g a b p → (q : ℕ) → q ≢ p → is_used g b q ≡ is_used g a q
unfolding is_used
used-same g a b p agree q there =
    ⊎_elim
    (λ (yes : is_entry_page g q ≡ true). rw (agree.magic (block_of g q), agree.entry q yes there, agree.page q yes there) refl)
    (λ (none : is_entry_page g q ≡ false). rw none refl)
    (cases_Bool (is_entry_page g q))

zero_unused : (g : Geometry) (b : List ℕ) (p : ℕ) → entry_of g b p ≡ 0 → is_used g b p ≡ false
unfolding is_used
zero_unused g b p e = rw e (and_false _ _)

-- a page that isn't live isn't wanted
dead_unwanted : (g : Geometry) (b : List ℕ) (p : ℕ) → live_at g b p ≡ None → is_wanted g b p ≡ false
unfolding is_wanted
dead_unwanted g b p e = rw e refl

-- the id of a finished page isn't 0
finished_id : (page : List ℕ) → is_finished page ≡ true → obj_id page ≢ 0
unfolding is_finished
finished_id page h e = let no : is_finished page ≡ false = rw e refl in absurd (cc)

-- an entry that is neither deleted nor free is in use
pub used_by : (g : Geometry) (a : List ℕ) (p : ℕ) → is_entry_page g p ≡ true → has_magic g a (block_of g p) ≡ true → (entry_of g a p == 0) ≡ false → is_free_entry g a p ≡ false → is_used g a p ≡ true
unfolding is_used
used_by g a p page magic entry free = rw (page, magic, entry, free) refl

module _ (g : Geometry) (a : List ℕ) (p : ℕ) (is : IsImage g a) (h : HasMagics g a) (may : MayCull g a p) where
  parts : LivePage g a p may.page
  parts = live_parts g a p may.page may.live

  -- the block of the page isn't free
  free : (c : List ℕ) → Agree g a c p → free_blocks g a ≤ free_blocks g c
  free c agree = (free_blocks-fall g a c p agree).1 (used-is_not_free g a p parts.entry_page (live-used g a p may.page may.live))

  keeps : (c : List ℕ) → Agree g a c p → Loses p (live_at g a) (live_at g c) → Keeps g a c
  keeps c agree loses =
      let s = may.spares c loses in
      record {
        sound = record { magics = magics-same g a c h agree.magic; mixed = λ d m. mixed-from g (live_at g a) (live_at g c) d (loses-back p (live_at g a) (live_at g c) loses) m; damaged = s.damaged };
        table = s.table;
      }

  -- another page than p is wanted
  apart : (q : ℕ) → is_wanted g a q ≡ true → q ≢ p
  apart q wanted here = let no : is_wanted g a q ≡ false = rw here may.unwanted in let bad : true ≡ false = sym wanted ∙ no in absurd (cc)

  wanted_too : (c : List ℕ) → KillLeaves g p a c → (q : ℕ) → is_wanted g c q ≡ is_wanted g a q
  wanted_too c k q = ⊎_elim
      (λ (same : live_at g c ≡ live_at g a). wanted-same g a c (λ r. ap (λ (l : Live). l r) same) q)
      (λ (loses : Loses p (live_at g a) (live_at g c)). ⊎_elim
      (λ (here : q ≡ p). rw here (dead_unwanted g c p loses.after ∙ sym may.unwanted))
      (λ (there : q ≡ p → ⊥). (may.spares c loses).wanted q there)
      (cases_eq q p))
      k.live

  wanted_live : (c : List ℕ) → KillLeaves g p a c → (q : ℕ) → is_wanted g a q ≡ true → live_at g c q ≡ live_at g a q
  wanted_live c k q wanted = ⊎_elim (λ (same : live_at g c ≡ live_at g a). ap (λ (l : Live). l q) same) (λ (loses : Loses p (live_at g a) (live_at g c)). loses.others q (apart q wanted)) k.live

  uses : (c : List ℕ) → KillLeaves g p a c → SameUses g a c
  uses c k = uses-agree g a c p k.agree (live-used g a p may.page may.live) k.used (wanted_too c k) (wanted_live c k)

  cut : (c : List ℕ) → KillLeaves g p a c → StageCut g a c
  cut c k = record {
    keeps = record {
      keeps = ⊎_elim (λ (same : live_at g c ≡ live_at g a). keeps-by_live g a c h k.agree.magic (λ q. ap (λ (l : Live). l q) same)) (λ (loses : Loses p (live_at g a) (live_at g c)). keeps c k.agree loses) k.live;
      free = free c k.agree;
    };
    uses = uses c k;
  }

  killable : is_killable g a p ≡ true
  killable =
      let entry : (entry_of g a p == 0) ≡ false = ne_eqb (entry_of g a p) 0 (λ e. finished_id may.page parts.finished (sym parts.entry ∙ e)) in
      let used : is_used g a p ≡ true = used_by g a p parts.entry_page parts.magic entry (live-used g a p may.page may.live) in
      rw (used, may.unwanted) refl

  done : (c : List ℕ) → KillDone g p a c → Culls g p true a c
  done c k = record {
    count = kill-counts g a c p is k.agree killable k.zero (may.spares c k.loses).wanted;
    gone = λ e. k.loses.after;
    others = k.loses.others;
    clean = λ was q. ⊎_elim
        (λ (here : q ≡ p). rw here (rw (zero_unused g c p k.zero) refl))
        (λ (there : q ≡ p → ⊥). rw (used-same g a c p k.agree q there, k.loses.others q there) (was q))
        (cases_eq q p);
    kills = kills_one g a c p k.agree (live-used g a p may.page may.live) k.zero
        (λ q. ⊎_elim
        (λ (here : q ≡ p). rw here (inr k.loses.after))
        (λ (there : q ≡ p → ⊥). inl (k.loses.others q there))
        (cases_eq q p));
  }

-- the kill of a page is its turn
pub culls : (g : Geometry) (a : List ℕ) (p : ℕ) → IsImage g a → HasMagics g a → MayCull g a p → slice_index a (p * g.page + 4) < 256 → Finishes g a a (killing p) (step_of (culling p))
culls g a p is h may byte = record { needs = record { live = ap is_some may.live; byte = byte }; cut = cut g a p is h may; done = λ c ok k. done g a p is h may c k }

-- a page that may be killed is live in a block with its magic
pub alive : (g : Geometry) (a : List ℕ) (p : ℕ) → MayCull g a p → (has_magic g a (block_of g p) ≡ true) × (is_live g a p ≡ true)
unfolding live_at
alive g a p may = ((live_parts g a p may.page may.live).magic, (cond_some (is_live g a p) (page_of g a p) may.page may.live).0)
