-- Kills of spare pages.
use Rattle.std.proofs.Common.{◌≡◌, ◌≢◌, ℕ, ◌+◌, ◌*◌, ◌%◌, ◌≤◌, List, [], ◌∷◌, slice_index, Bool, true, false, not, ◌==◌, ◌&&◌, Some, ap, refl, sym, ◌∙◌, ◌⊎◌, inl, inr, arith, ⊎_elim}
use Rattle.std.proofs.lemmas.Bool.{and_parts, ne_eqb, eq-eqb, eqb-true, false≢true}
use Rattle.geometry.specs.declared.geometry.Geometry.{Geometry}
use Rattle.nor_core.specs.Flash.{HalfProgrammed}
use Rattle.image_model.specs.Live.{live_at, own}
use Rattle.image_model.specs.Headers.{obj_id, is_finished}
use Rattle.image_model.specs.Places.{page_of, is_entry_page, entry_of, IsImage, entry_at}
use Rattle.image_model.specs.Tables.{has_of}
use Rattle.image_model.specs.Tidy.{is_wanted, is_free_entry, free_blocks}
use Rattle.image_laws.specs.Programs.{IsIdle, ClearsBit}
use Rattle.image_model.specs.Sound.{HasMagics, Keeps}
use Rattle.image_laws.specs.TidySteps.{IsNeatBut, IsTidyBut, Agree}
use Rattle.image_laws.specs.LiveSteps.{Kills, KillCut, KillDone}
use Rattle.image_laws.specs.Spares.{Spares, SpareKills, SparesEnd, TidyHasMagics, is_in_table}
use Rattle.image_laws.proofs.Frames.{live_parts}
use Rattle.image_laws.proofs.Finish.{is_finished-zero}
use Rattle.image_laws.proofs.Tally.{is_finished-ones}
use Rattle.image_laws.proofs.Kill.{has_of-loses}
use Rattle.image_laws.proofs.Wanted.{unwanted-idle}
use Rattle.image_laws.proofs.Unwanted.{unwanted-leaves}
use Rattle.image_laws.proofs.Sounding.{killing-sound, keeps-on, loses-back}
use Rattle.image_laws.proofs.DeadEntries.{dead_entry-keeps}
use Rattle.image_laws.proofs.Finished.{torn_from}
use Rattle.image_laws.proofs.FreeBlocks.{free_blocks-fall, used-is_not_free}
use Rattle.image_laws.proofs.TidySteps.{Entry, tidy-is_tidy, killing-tidy, killed-tidies, wanted-same}
use Rattle.image_laws.proofs.StillFree.{live-used}
use Rattle.image_laws.proofs.LiveStep.{kill-changes, dead}

-- a live page is spare or wanted
pub wanted-or_spare : (g : Geometry) (a : List ℕ) (spare : ℕ → Bool) → IsNeatBut g a spare → (p : ℕ) (x : List ℕ) → live_at g a p ≡ Some x → (spare p ≡ true) ⊎ (is_wanted g a p ≡ true)
wanted-or_spare g a spare t p x e =
    let w = live_parts g a p x e in
    ⊎_elim
    (λ (s : spare p ≡ true). inl s)
    (λ (old : Entry g a p). ⊎_elim
    (λ (zero : entry_of g a p ≡ 0).
    let none : obj_id x % 0x8000 ≡ 0 = ap (λ (k : ℕ). k % 0x8000) (sym w.entry ∙ zero) in
    absurd (false≢true (sym (is_finished-zero x none) ∙ w.finished)))
    (λ (more : (is_free_entry g a p ≡ true) ⊎ (is_wanted g a p ≡ true)). ⊎_elim
    (λ (free : is_free_entry g a p ≡ true).
    let ones : entry_of g a p ≡ 0xFFFF = eqb-true _ 0xFFFF (and_parts _ _ free).0 in
    absurd (false≢true (sym (is_finished-ones x (sym w.entry ∙ ones)) ∙ w.finished)))
    (λ (wanted : is_wanted g a p ≡ true). inr wanted)
    more)
    old)
    (t.entries p w.entry_page)

-- a live page that its id does not need is killed, where it is spare
module _ (g : Geometry) (a b d : List ℕ) (r kill : ℕ) (x : List ℕ) (spare : ℕ → Bool) (is : IsImage g a) (m : HasMagics g a) (t : IsTidyBut g a spare) (sp : spare r ≡ true) (live : live_at g a r ≡ Some x)
    (idle : IsIdle g (own (live_at g a) (obj_id x % 0x8000)) r) (clears : ClearsBit 7 (slice_index a (r * g.page + 4)) kill) (kills : Kills g r kill a b d) where
  inside : is_entry_page g r ≡ true
  inside = (live_parts g a r x live).entry_page

  pub torn1 : HalfProgrammed (r * g.page + 4) (kill ∷ []) a b
  torn1 = torn_from _ _ _ _ kills.delete

  imageb : IsImage g b
  imageb = record { len = omega (arith, torn1.outside.size, is.len) }

  keeps1 : (c : List ℕ) → HalfProgrammed (r * g.page + 4) (kill ∷ []) a c → Keeps g a c
  keeps1 c h = killing-sound g a c r kill x is m live clears idle h

  is_dead : is_finished (page_of g b r) ≡ false
  is_dead = dead g a b d r kill x is live clears kills

  pub keeps2 : (c : List ℕ) → HalfProgrammed (entry_at g r) (0 ∷ 0 ∷ []) b c → ((q : ℕ) → live_at g c q ≡ live_at g b q) × Keeps g a c
  keeps2 c h =
      let k = keeps1 b torn1 in
      let w = dead_entry-keeps g b c r (0 ∷ 0 ∷ []) imageb k.sound.magics inside is_dead refl h in (w.0, keeps-on g a b c k w.1)

  pub leaves : KillDone g r a d
  leaves = (kill-changes g a b d r kill x is live clears kills).1

  free : (c : List ℕ) → Agree g a c r → free_blocks g a ≤ free_blocks g c
  free c h = (free_blocks-fall g a c r h).1 (used-is_not_free g a r inside (live-used g a r x live))

  tidy_b : IsTidyBut g b spare
  tidy_b = killing-tidy g a b r kill x spare is t sp live clears idle torn1

  pub tidy_d : IsTidyBut g d (λ q. spare q && not (q == r))
  tidy_d = (killed-tidies g b d r spare (λ (q : ℕ). spare q && not (q == r)) (record { others = λ q there yes. rw yes (rw (ne_eqb q r there) refl) }) imageb tidy_b sp inside is_dead).1 kills.clear

  pub has_same : has_of g (live_at g d) ≡ has_of g (live_at g a)
  has_same = has_of-loses r x (live_at g a) (live_at g d) live leaves.loses g idle

  pub cuts : (c : List ℕ) → KillCut g r kill a b c → Keeps g a c × (free_blocks g a ≤ free_blocks g c)
  cuts c h = (
    ⊎_elim (λ (y : HalfProgrammed (r * g.page + 4) (kill ∷ []) a c). keeps1 c y) (λ (y : HalfProgrammed (entry_at g r) (0 ∷ 0 ∷ []) b c). (keeps2 c y).1) h,
    free c ((kill-changes g a b d r kill x is live clears kills).0 c h).agree,
  )

  pub done : Keeps g a d
  done = (keeps2 d (torn_from _ _ _ _ kills.clear)).1

-- what is spare but for r, where it was
pub spare_but : (x : Bool) (q r : ℕ) → (x && not (q == r)) ≡ true → (x ≡ true) × (q ≢ r)
spare_but x q r e =
    let w : (x ≡ true) × (not (q == r) ≡ true) = and_parts x (not (q == r)) e in
    (w.0, λ k. let yes : (q == r) ≡ true = eq-eqb q r k in let bad : false ≡ true = rw yes at w.1 in absurd (cc))

module _ (g : Geometry) (a b d : List ℕ) (r kill : ℕ) (x : List ℕ) (spare : ℕ → Bool) (is : IsImage g a) (m : HasMagics g a) (s : Spares g spare a) (sp : spare r ≡ true) (live : live_at g a r ≡ Some x)
    (clears : ClearsBit 7 (slice_index a (r * g.page + 4)) kill) (kills : Kills g r kill a b d) where
  idle : IsIdle g (own (live_at g a) (obj_id x % 0x8000)) r
  idle = let w = s.unwanted r x sp live in unwanted-idle g a r x live w.0 w.1

  still : (q : ℕ) (y : List ℕ) → (spare q && not (q == r)) ≡ true → live_at g d q ≡ Some y → (is_wanted g d q ≡ false) × (is_in_table g d (obj_id y % 0x8000) ≡ true)
  still q y e at =
      let w = spare_but (spare q) q r e in
      let was : live_at g a q ≡ Some y = loses-back r (live_at g a) (live_at g d) (leaves g a b d r kill x spare is m s.tidy sp live idle clears kills).loses q y at in
      let v = s.unwanted q y w.0 was in
      let u = s.unwanted r x sp live in
      let k = keeps2 g a b d r kill x spare is m s.tidy sp live idle clears kills d (torn_from _ _ _ _ kills.clear) in (
        wanted-same g b d k.0 q ∙ unwanted-leaves g a b r kill x is live u.0 u.1 clears (torn1 g a b d r kill x spare is m s.tidy sp live idle clears kills) q w.1 ∙ v.0,
        rw (has_same g a b d r kill x spare is m s.tidy sp live idle clears kills) v.1,
      )

pub spare-kills : (g : Geometry) → SpareKills g
spare-kills g a b d r kill x spare is m s sp live clears kills =
    let rest = idle g a b d r kill x spare is m s sp live clears kills in (
      cuts g a b d r kill x spare is m s.tidy sp live rest clears kills,
      (leaves g a b d r kill x spare is m s.tidy sp live rest clears kills).image,
      done g a b d r kill x spare is m s.tidy sp live rest clears kills,
      record { tidy = tidy_d g a b d r kill x spare is m s.tidy sp live rest clears kills; unwanted = still g a b d r kill x spare is m s sp live clears kills },
    )

pub spares-end : (g : Geometry) → SparesEnd g
spares-end g a spare none s = (tidy-is_tidy g a spare).1 none s.tidy

pub tidy-has_magics : (g : Geometry) → TidyHasMagics g
tidy-has_magics g a spare t = record { one = λ b c low low' no no'. let yes = t.magic b low in absurd (cc) }
