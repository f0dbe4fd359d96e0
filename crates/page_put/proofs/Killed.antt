-- A kill as a step over the live pages.
use Rattle.std.proofs.Common.{◌≡◌, ℕ, ◌+◌, ◌*◌, ◌≤◌, List, [], ◌∷◌, slice_index, true, false, Option, Some, None, ap, refl, sym, ◌∙◌, arith, ⊎_elim, inl, inr, subst}
use Rattle.std.specs.Prelude.{bit_and, is_some}
use Rattle.std.specs.Int.{bit_at}
use Rattle.geometry.specs.declared.geometry.Geometry.{Geometry}
use Rattle.nor_core.specs.Flash.{HalfProgrammed}
use Rattle.image_model.specs.Within.{sizes}
use Rattle.image_model.specs.Places.{page_of, IsImage, entry_at}
use Rattle.image_model.specs.Headers.{is_finished}
use Rattle.image_model.specs.Live.{live_at}
use Rattle.image_laws.specs.Kills.{Deletes}
use Rattle.image_laws.specs.Programs.{ClearsBit}
use Rattle.image_laws.specs.LiveSteps.{Kills, KillCut, KillDone}
use Rattle.image_laws.proofs.Bits.{bit_cases}
use Rattle.image_laws.proofs.DeadEntries.{deletes_by, unused_flags-live, deleted_done}
use Rattle.image_laws.proofs.Finished.{finished-programmed, torn_from}
use Rattle.image_laws.proofs.Frames.{LivePage, live_parts, live-entry_changed}
use Rattle.image_laws.proofs.Kill.{deleted_from_flag}
use Rattle.image_laws.proofs.LiveStep.{kill-changes}
use Rattle.image_laws.proofs.Placing.{page_byte}
use Rattle.image_laws.proofs.TidySteps.{agree_page, agree_entry, agree-on, wide_flags, zeroed}
use Rattle.trim_laws.specs.Wear.{Worn}
use Rattle.trim_laws.proofs.Trims.{same_trims, kill_trims}
use Rattle.trim_laws.proofs.Wears.{programs_keep, upkeep_same, worn_same}
use Rattle.flash_view.specs.Steps.{Finishes, making, any_image}
use Rattle.page_put.specs.Kills.{deleted, killed, HalfKilled}
use Rattle.page_put.specs.LivePages.{IsKillable, killing, IsDead, Stays, Cleared, clearing}
use Rattle.page_put.proofs.Clearing.{left_half, left_done, clears_deleted}

-- ---- a kill, as the laws name its programs

-- the flags that a kill leaves
abbrev pub flags_left : Geometry → List ℕ → ℕ → ℕ
flags_left g a p = bit_and (slice_index a (p * g.page + 4)) 0x7F

pub kill_cut : (g : Geometry) (a c : List ℕ) (p : ℕ) → HalfKilled g p a c → KillCut g p (flags_left g a p) a (deleted g p a) c
kill_cut g a c p h =
    ⊎_elim
    (λ (flags : HalfProgrammed (p * g.page + 4) (0x7F ∷ []) a c). inl (left_half (p * g.page + 4) 0x7F a c flags))
    (λ (entry : HalfProgrammed (entry_at g p) (0 ∷ 0 ∷ []) (deleted g p a) c). inr entry)
    h

pub kill_done : (g : Geometry) (a : List ℕ) (p : ℕ) → Kills g p (flags_left g a p) a (deleted g p a) (killed g p a)
kill_done g a p = record {
  delete = left_done (p * g.page + 4) 0x7F a;
  clear = finished-programmed (entry_at g p) (0 ∷ 0 ∷ []) (deleted g p a);
}

-- ---- of a live page

some_page : (o : Option (List ℕ)) → is_some o ≡ true → (x : List ℕ) × (o ≡ Some x)
some_page None e = absurd (cc)
some_page (Some x) e = (x, refl)

-- DELET is set in a live page
pub set_in : (g : Geometry) (a : List ℕ) (p : ℕ) (x : List ℕ) → live_at g a p ≡ Some x → bit_at (slice_index a (p * g.page + 4)) 7 ≡ 1
set_in g a p x live =
    let size : 128 ≤ g.page = (sizes g).page in
    let parts : LivePage g a p x = live_parts g a p x live in
    let flag : slice_index (page_of g a p) 4 ≡ slice_index a (p * g.page + 4) = page_byte g a p 4 (omega arith) in
    let lives : is_finished (page_of g a p) ≡ true = ap is_finished parts.bytes ∙ parts.finished in
    ⊎_elim
    (λ (set : bit_at (slice_index a (p * g.page + 4)) 7 ≡ 1). set)
    (λ (clear : bit_at (slice_index a (p * g.page + 4)) 7 ≡ 0). let no : is_finished (page_of g a p) ≡ false = deleted_from_flag (page_of g a p) (rw flag clear) in absurd (cc))
    (bit_cases (slice_index a (p * g.page + 4)) 7)

pub kills : (g : Geometry) (a : List ℕ) (p : ℕ) → IsImage g a → IsKillable g a p → Finishes g a a (making any_image (λ h. HalfKilled h p) (λ h. killed h p)) (killing p)
kills g a p is can =
    let page = some_page (live_at g a p) can.live in
    let clears : ClearsBit 7 (slice_index a (p * g.page + 4)) (flags_left g a p) = clears_deleted (slice_index a (p * g.page + 4)) can.byte (set_in g a p page.0 page.1) in
    let law = kill-changes g a (deleted g p a) (killed g p a) p (flags_left g a p) page.0 is page.1 clears (kill_done g a p) in
    record {
      needs = (
        tt,
        (λ c h. let left = law.0 c (kill_cut g a c p h) in upkeep_same g a c (kill_trims g a c p (inl left)) (programs_keep g a c p left.agree)),
        λ c e. subst (λ (l : List ℕ). Worn g a l) (sym e) (worn_same g a _ (programs_keep g a _ p law.1.agree)),
      );
      cut = λ c h. law.0 c (kill_cut g a c p h);
      done = λ c ok e. subst (λ (l : List ℕ). KillDone g p a l) (sym e) law.1;
    }

-- ---- of a page that isn't live

module _ (g : Geometry) (a : List ℕ) (p : ℕ) (is : IsImage g a) (can : IsDead g a p) where
  deletes : Deletes (slice_index a (p * g.page + 4)) (flags_left g a p)
  deletes = deletes_by (slice_index a (p * g.page + 4)) can.byte

  flags_stay : (c : List ℕ) → HalfProgrammed (p * g.page + 4) (flags_left g a p ∷ []) a c → Stays g p a c
  flags_stay c h = record {
    image = record { len = omega (arith, h.outside.size, is.len) };
    agree = agree_page g a c p (sizes g) can.inside (wide_flags g a c p (flags_left g a p) is h);
    live = unused_flags-live g a c p (flags_left g a p) is can.inside can.dead deletes h;
  }

  first : Stays g p a (deleted g p a)
  first = flags_stay (deleted g p a) (torn_from _ _ _ _ (kill_done g a p).delete)

  entry_stays : (c : List ℕ) → HalfProgrammed (entry_at g p) (0 ∷ 0 ∷ []) (deleted g p a) c → Stays g p a c
  entry_stays c h = record {
    image = let before = first.image.len in record { len = omega (arith, h.outside.size, before) };
    agree = agree-on g a (deleted g p a) c p first.agree (agree_entry g (deleted g p a) c p (sizes g) can.inside h.outside);
    live = λ q. live-entry_changed g (sizes g) (deleted g p a) c p can.inside h.outside (deleted_done g a (deleted g p a) p (flags_left g a p) is deletes (kill_done g a p).delete) q ∙ first.live q;
  }

  cleared : Cleared g p a (killed g p a)
  cleared = record { stays = entry_stays (killed g p a) (torn_from _ _ _ _ (kill_done g a p).clear); zero = zeroed g (deleted g p a) (killed g p a) p (kill_done g a p).clear }

  stays : (c : List ℕ) → HalfKilled g p a c → Stays g p a c
  stays c h = ⊎_elim
      (λ (x : HalfProgrammed (p * g.page + 4) (flags_left g a p ∷ []) a c). flags_stay c x)
      (λ (y : HalfProgrammed (entry_at g p) (0 ∷ 0 ∷ []) (deleted g p a) c). entry_stays c y)
      (kill_cut g a c p h)

  pub clears_dead : Finishes g a a (making any_image (λ h. HalfKilled h p) (λ h. killed h p)) (clearing p)
  clears_dead = record {
    needs = (
      tt,
      (λ c h. let left = stays c h in upkeep_same g a c (same_trims g a c left.live) (programs_keep g a c p left.agree)),
      λ c e. subst (λ (l : List ℕ). Worn g a l) (sym e) (worn_same g a _ (programs_keep g a _ p cleared.stays.agree)),
    );
    cut = stays;
    done = λ c ok e. subst (λ (l : List ℕ). Cleared g p a l) (sym e) cleared;
  }
