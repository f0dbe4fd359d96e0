-- Pages that are not needed are killed.
use Rattle.std.proofs.Common.{◌≡◌, ℕ, ◌%◌, ◌≤◌, List, Bool, true, false, not, ◌==◌, ◌&&◌, Some, None, ap, refl, sym, ◌∙◌, ⊎_elim, inl, inr}
use Rattle.std.proofs.lemmas.Bool.{cases_Bool, ne_eqb}
use Rattle.std.proofs.lemmas.Option.{none-some}
use Rattle.geometry.specs.declared.geometry.Geometry.{Geometry}
use Rattle.image_model.specs.Headers.{obj_id}
use Rattle.image_model.specs.Live.{Live, live_at, own}
use Rattle.image_model.specs.Files.{index_page}
use Rattle.image_model.specs.Places.{entry_of}
use Rattle.image_model.specs.Sound.{HasMagics, Keeps}
use Rattle.image_model.specs.Tables.{Found, has_of, records, damages, table_of, damaged_of}
use Rattle.image_model.specs.Tidy.{is_wanted, is_wanted_as, serves, free_blocks}
use Rattle.image_laws.specs.Changes.{Loses}
use Rattle.image_laws.specs.LiveSteps.{KillLeaves, KillDone}
use Rattle.image_laws.specs.Programs.{IsIdle}
use Rattle.image_laws.specs.Remove.{Orphans}
use Rattle.image_laws.specs.Spares.{Spares, is_in_table}
use Rattle.image_laws.specs.TidySteps.{Agree, IsTidyBut}
use Rattle.image_laws.proofs.Headless.{headless-is_idle}
use Rattle.image_laws.proofs.Kill.{own-loses, index-loses, has_of-loses}
use Rattle.image_laws.proofs.RemoveTidy.{orphans-end}
use Rattle.image_laws.proofs.Sounding.{sound-by, keeps-by_live, mixed-from, loses-back}
use Rattle.image_laws.proofs.SpareKill.{spare_but, spares-end, tidy-has_magics}
use Rattle.image_laws.proofs.TidySteps.{entries-but}
use Rattle.image_laws.proofs.Unwanted.{wanted-as_before}
use Rattle.image_laws.proofs.Wanted.{unwanted-idle}
use Rattle.image_laws.proofs.Wants.{wanted_from, wanted-loses}
use Rattle.renew_laws.proofs.ReserveKept.{kill-reserve}
use Rattle.renew_laws.specs.Idles.{IdleKills, IdlesEnd}

-- ---- a spare page that its id does not need

module _ (g : Geometry) (a : List ℕ) (r : ℕ) (x : List ℕ) (spare : ℕ → Bool) (t : IsTidyBut g a spare) (live : live_at g a r ≡ Some x) (idle : IsIdle g (own (live_at g a) (obj_id x % 0x8000)) r) where
  magics : HasMagics g a
  magics = tidy-has_magics g a spare t

  free : (c : List ℕ) → Agree g a c r → free_blocks g a ≤ free_blocks g c
  free c h = kill-reserve g a c r x live h

  module _ (c : List ℕ) (agree : Agree g a c r) (loses : Loses r (live_at g a) (live_at g c)) where
    has : has_of g (live_at g c) ≡ has_of g (live_at g a)
    has = has_of-loses r x (live_at g a) (live_at g c) live loses g idle

    undamaged : damaged_of g c ≡ damaged_of g a
    unfolding damaged_of
    undamaged = ap (λ (l : Found). damages l 0x7FFF) has

    back : (q : ℕ) (y : List ℕ) → live_at g c q ≡ Some y → live_at g a q ≡ Some y
    back = loses-back r (live_at g a) (live_at g c) loses

    keeps : Keeps g a c
    unfolding table_of
    keeps = record { sound = sound-by g a c magics agree.magic (λ d m. mixed-from g (live_at g a) (live_at g c) d back m) undamaged; table = ap (λ (l : Found). records l 0x7FFF) has }

    tidy : entry_of g c r ≡ 0 → IsTidyBut g c (λ q. spare q && not (q == r))
    unfolding is_wanted
    tidy zero = record {
      magic = λ d low. agree.magic d ∙ t.magic d low;
      entries = entries-but g a c r spare (λ (q : ℕ). spare q && not (q == r)) agree t (λ q there yes. rw yes (rw (ne_eqb q r there) refl))
          (λ q there w. wanted-loses g r x (live_at g a) (live_at g c) live loses idle q there w) (inr (inl zero));
      undamaged = undamaged ∙ t.undamaged;
      unmixed = λ q s y z e f at. t.unmixed q s y z (back q y e) (back s z f) at;
    }

  cut : (c : List ℕ) → KillLeaves g r a c → Keeps g a c × (free_blocks g a ≤ free_blocks g c)
  cut c h = (
    ⊎_elim (λ (same : live_at g c ≡ live_at g a). keeps-by_live g a c magics h.agree.magic (λ q. ap (λ (l : Live). l q) same)) (λ (loses : Loses r (live_at g a) (live_at g c)). keeps c h.agree loses) h.live,
    free c h.agree,
  )

-- ---- of an id without a header page

orphan : (g : Geometry) (a : List ℕ) (r : ℕ) (x : List ℕ) (spare : ℕ → Bool) → Orphans g spare a → spare r ≡ true → live_at g a r ≡ Some x → IsIdle g (own (live_at g a) (obj_id x % 0x8000)) r
orphan g a r x spare o sp live = headless-is_idle g (own (live_at g a) (obj_id x % 0x8000)) r (o.headless r x sp live)

-- an id without a header page has none with a page less
still_headless : (g : Geometry) (old new : Live) (r : ℕ) (x : List ℕ) → old r ≡ Some x → Loses r old new → (j : ℕ) → index_page g (own old j) 0 ≡ None → index_page g (own new j) 0 ≡ None
still_headless g old new r x e change j none = index-loses g r (own old j) (own new j) (own-loses r x old new e change j) 0 (λ k. none-some r (sym none ∙ k)) ∙ none

orphans-on : (g : Geometry) (a d : List ℕ) (r : ℕ) (x : List ℕ) (spare : ℕ → Bool) → Orphans g spare a → spare r ≡ true → live_at g a r ≡ Some x → KillDone g r a d → Orphans g (λ q. spare q && not (q == r)) d
orphans-on g a d r x spare o sp live h =
    let idle = orphan g a r x spare o sp live in
    record {
      tidy = tidy g a r x spare o.tidy live idle d h.agree h.loses h.zero;
      headless = λ q y e at.
          let w = spare_but (spare q) q r e in
          still_headless g (live_at g a) (live_at g d) r x live h.loses (obj_id y % 0x8000) (o.headless q y w.0 (loses-back r (live_at g a) (live_at g d) h.loses q y at));
    }

-- ---- of a file of the table

spare_idle : (g : Geometry) (a : List ℕ) (r : ℕ) (x : List ℕ) (spare : ℕ → Bool) → Spares g spare a → spare r ≡ true → live_at g a r ≡ Some x → IsIdle g (own (live_at g a) (obj_id x % 0x8000)) r
spare_idle g a r x spare s sp live = let w = s.unwanted r x sp live in unwanted-idle g a r x live w.0 w.1

-- a page that is not wanted, of an id in the table, does not serve it
unserved : (g : Geometry) (a : List ℕ) (r : ℕ) (x : List ℕ) → live_at g a r ≡ Some x → is_wanted g a r ≡ false → is_in_table g a (obj_id x % 0x8000) ≡ true →
    (h : ℕ) (hd : List ℕ) → index_page g (own (live_at g a) (obj_id x % 0x8000)) 0 ≡ Some h → own (live_at g a) (obj_id x % 0x8000) h ≡ Some hd → serves g (own (live_at g a) (obj_id x % 0x8000)) hd r ≡ false
unfolding is_wanted
unserved g a r x live unwanted in_table h hd e k =
    ⊎_elim
    (λ (yes : serves g (own (live_at g a) (obj_id x % 0x8000)) hd r ≡ true).
    let wanted : is_wanted_as g (live_at g a) (live_at g a r) r ≡ true = wanted_from g (live_at g a) r (record { page = x; h = h; head = hd; is = live; in_table = in_table; at = e; header = k; served = yes }) in
    let bad : true ≡ false = sym wanted ∙ unwanted in absurd (cc))
    (λ (none : serves g (own (live_at g a) (obj_id x % 0x8000)) hd r ≡ false). none)
    (cases_Bool (serves g (own (live_at g a) (obj_id x % 0x8000)) hd r))

spares-on : (g : Geometry) (a d : List ℕ) (r : ℕ) (x : List ℕ) (spare : ℕ → Bool) → Spares g spare a → spare r ≡ true → live_at g a r ≡ Some x → KillDone g r a d → Spares g (λ q. spare q && not (q == r)) d
unfolding is_wanted
spares-on g a d r x spare s sp live h =
    let idle = spare_idle g a r x spare s sp live in
    let u = s.unwanted r x sp live in
    record {
      tidy = tidy g a r x spare s.tidy live idle d h.agree h.loses h.zero;
      unwanted = λ q y e at.
          let w = spare_but (spare q) q r e in
          let v = s.unwanted q y w.0 (loses-back r (live_at g a) (live_at g d) h.loses q y at) in (
            wanted-as_before g r x (live_at g a) (live_at g d) live h.loses idle (unserved g a r x live u.0 u.1) q w.1 ∙ v.0,
            rw (has g a r x spare s.tidy live idle d h.agree h.loses) v.1,
          );
    }

pub idle-kills : (g : Geometry) → IdleKills g
idle-kills g a r x spare idles sp live =
    ⊎_elim
    (λ (o : Orphans g spare a).
    let idle = orphan g a r x spare o sp live in (
      cut g a r x spare o.tidy live idle,
      λ d h. (keeps g a r x spare o.tidy live idle d h.agree h.loses, free g a r x spare o.tidy live idle d h.agree, inl (orphans-on g a d r x spare o sp live h)),
    ))
    (λ (s : Spares g spare a).
    let idle = spare_idle g a r x spare s sp live in (
      cut g a r x spare s.tidy live idle,
      λ d h. (keeps g a r x spare s.tidy live idle d h.agree h.loses, free g a r x spare s.tidy live idle d h.agree, inr (spares-on g a d r x spare s sp live h)),
    ))
    idles

pub idles-end : (g : Geometry) → IdlesEnd g
idles-end g a spare none idles = ⊎_elim (λ (o : Orphans g spare a). orphans-end g a spare none o) (λ (s : Spares g spare a). spares-end g a spare none s) idles
