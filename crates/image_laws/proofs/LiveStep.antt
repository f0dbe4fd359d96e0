-- A put and a kill as changes of the live pages.
use Rattle.std.proofs.Common.{◌≡◌, ℕ, ◌+◌, ◌*◌, ◌≤◌, ◌⊎◌, List, [], ◌∷◌, length, take, drop, set, slice_index, true, false, Some, ap, refl, sym, ◌∙◌, arith, ⊎_elim, subst, inl, inr, add-zero}
use Rattle.std.proofs.Math.Path.{fun_ext}
use Rattle.std.specs.Prelude.{bit_and}
use Rattle.geometry.specs.declared.geometry.Geometry.{Geometry}
use Rattle.nor_core.specs.Flash.{HalfProgrammed}
use Rattle.image_laws.specs.Flash.{Programmed}
use Rattle.image_model.specs.Within.{sizes}
use Rattle.image_model.specs.Live.{live_at}
use Rattle.image_model.specs.Tidy.{is_free_entry}
use Rattle.image_model.specs.Headers.{is_finished}
use Rattle.image_model.specs.Places.{page_of, entry_of, IsImage, entry_at}
use Rattle.image_laws.specs.Changes.{Gains, Loses}
use Rattle.image_laws.specs.Programs.{ClearsBit}
use Rattle.image_laws.specs.NewFile.{IsFreePage}
use Rattle.image_laws.specs.TidySteps.{Agree}
use Rattle.image_laws.specs.Put.{IsReadyPage}
use Rattle.image_laws.specs.LiveSteps.{Finished, PutCut, Kills, KillCut, PutLeaves, PutDone, KillLeaves, KillDone, PutChanges, KillChanges}
use Rattle.image_laws.proofs.Bits.{one_bit_image}
use Rattle.image_laws.proofs.Frames.{live_parts, live-entry_changed, page-same_entry}
use Rattle.image_laws.proofs.Placing.{page_byte}
use Rattle.image_laws.proofs.Publish.{finishing-gains}
use Rattle.image_laws.proofs.Kill.{killing-loses, deleted_from_flag}
use Rattle.image_laws.proofs.Finished.{torn_from}
use Rattle.image_laws.proofs.TidySteps.{agree_page, agree_entry, agree-on, wide_flags, zeroed}
use Rattle.image_laws.proofs.PutAgain.{cleared-and}
use Rattle.image_laws.proofs.StillFree.{live-used, not_free, deleted_no_ones, put_free, kill_free}
use Rattle.image_laws.proofs.PutStep as put

-- the flags byte, done
pub done_byte : (k at asked : ℕ) (a b : List ℕ) → ClearsBit k (slice_index a at) asked → Programmed at (asked ∷ []) a b → slice_index b at ≡ asked
done_byte k at asked a b clears h =
    let byte : slice_index b (at + 0) ≡ bit_and (slice_index a (at + 0)) asked = h.bytes 0 (omega arith) in
    let now : slice_index b at ≡ bit_and (slice_index a at) asked = rw add-zero at byte in
    now ∙ cleared-and k (slice_index a at) asked clears

agree-itself : (g : Geometry) (a : List ℕ) (p : ℕ) → Agree g a a p
agree-itself g a p = record { magic = λ c. refl; entry = λ q e there. refl; page = λ q e there. refl; counts = λ d low. refl }

module _ (g : Geometry) (a0 a1 a2 a3 a4 : List ℕ) (p : ℕ) (page : List ℕ) (fin : ℕ) (is : IsImage g a0) (free : IsFreePage g a0 p) (ready : IsReadyPage g page fin) (all : Finished g p page fin a0 a1 a2 a3 a4) where
  image3 : IsImage g a3
  image3 = put.image3 g a0 p page fin is free ready a1 all.placed.one a2 all.placed.two a3 all.placed.three

  agree4 : (c : List ℕ) → HalfProgrammed (p * g.page + 4) (fin ∷ []) a3 c → Agree g a0 c p
  agree4 c h = agree-on g a0 a3 c p (put.agree3 g a0 p page fin is free ready a1 all.placed.one a2 all.placed.two a3 all.placed.three a3 (torn_from _ _ _ _ all.placed.three))
      (agree_page g a3 c p (sizes g) free.entry_page (wide_flags g a3 c p fin image3 h))

  gains4 : (c : List ℕ) → HalfProgrammed (p * g.page + 4) (fin ∷ []) a3 c → slice_index c (p * g.page + 4) ≡ fin → Gains p (set page 4 fin) (live_at g a0) (live_at g c)
  gains4 c h done =
      let gains : Gains p (set (page_of g a3 p) 4 fin) (live_at g a3) (live_at g c) =
      finishing-gains g a3 c p fin image3 (put.placed3 g a0 p page fin is free ready a1 all.placed.one a2 all.placed.two a3 all.placed.three) h done in
      subst (λ (x : List ℕ). Gains p (set x 4 fin) (live_at g a0) (live_at g c)) (put.page3 g a0 p page fin is free ready a1 all.placed.one a2 all.placed.two a3 all.placed.three)
      (subst (λ (l : ℕ → Rattle.std.proofs.Common.Option (List ℕ)). Gains p (set (page_of g a3 p) 4 fin) l (live_at g c)) (put.live3 g a0 p page fin is free ready a1 all.placed.one a2 all.placed.two a3 all.placed.three) gains)

  sized : (x y at : _) (asked : List ℕ) → IsImage g x → HalfProgrammed at asked x y → IsImage g y
  sized x y at asked i h = record { len = omega (arith, h.outside.size, i.len) }

  put_done : PutDone g p (set page 4 fin) a0 a4
  put_done =
      let torn = torn_from _ _ _ _ all.finish in
      let placed = put.placed3 g a0 p page fin is free ready a1 all.placed.one a2 all.placed.two a3 all.placed.three in
      record {
        image = sized a3 a4 (p * g.page + 4) (fin ∷ []) image3 torn;
        agree = agree4 a4 torn;
        gains = gains4 a4 torn (done_byte 1 (p * g.page + 4) fin a3 a4 placed.clears all.finish);
        free = put_free g a0 a1 a2 a3 a4 p page fin free.entry_page ready.len all (agree4 a4 torn);
      }

  put_cut : (c : List ℕ) → PutCut g p page fin a0 a1 a2 a3 c → PutLeaves g p (set page 4 fin) a0 c
  put_cut c h =
      ⊎_elim
      (λ (w : HalfProgrammed (entry_at g p) (take 2 page) a0 c ⊎ (HalfProgrammed (p * g.page) (take 5 page) a1 c ⊎ HalfProgrammed (p * g.page + 5) (drop 5 page) a2 c)). ⊎_elim
      (λ (x : HalfProgrammed (entry_at g p) (take 2 page) a0 c). record {
        image = sized a0 c (entry_at g p) (take 2 page) is x;
        agree = put.agree1 g a0 p page fin is free ready a1 all.placed.one a2 all.placed.two a3 all.placed.three c x;
        live = inl (put.live1 g a0 p page fin is free ready a1 all.placed.one a2 all.placed.two a3 all.placed.three c x);
      })
      (λ (y : HalfProgrammed (p * g.page) (take 5 page) a1 c ⊎ HalfProgrammed (p * g.page + 5) (drop 5 page) a2 c). ⊎_elim
      (λ (x : HalfProgrammed (p * g.page) (take 5 page) a1 c). record {
        image = sized a1 c (p * g.page) (take 5 page) (put.image1 g a0 p page fin is free ready a1 all.placed.one) x;
        agree = put.agree2 g a0 p page fin is free ready a1 all.placed.one a2 all.placed.two a3 all.placed.three c x;
        live = inl (put.live2 g a0 p page fin is free ready a1 all.placed.one a2 all.placed.two a3 all.placed.three c x);
      })
      (λ (x : HalfProgrammed (p * g.page + 5) (drop 5 page) a2 c). record {
        image = sized a2 c (p * g.page + 5) (drop 5 page) (put.image2 g a0 p page fin is free ready a1 all.placed.one a2 all.placed.two) x;
        agree = put.agree3 g a0 p page fin is free ready a1 all.placed.one a2 all.placed.two a3 all.placed.three c x;
        live = inl (put.live_3 g a0 p page fin is free ready a1 all.placed.one a2 all.placed.two a3 all.placed.three c x);
      })
      y)
      w)
      (λ (x : HalfProgrammed (p * g.page + 4) (fin ∷ []) a3 c). record {
        image = sized a3 c (p * g.page + 4) (fin ∷ []) image3 x;
        agree = agree4 c x;
        live = ⊎_elim
            (λ (same : c ≡ a3). inl (ap (live_at g) same ∙ put.live3 g a0 p page fin is free ready a1 all.placed.one a2 all.placed.two a3 all.placed.three))
            (λ (done : slice_index c (p * g.page + 4) ≡ fin). inr (gains4 c x done))
            (one_bit_image 1 (p * g.page + 4) fin a3 c (put.placed3 g a0 p page fin is free ready a1 all.placed.one a2 all.placed.two a3 all.placed.three).clears x);
      })
      h

pub put-changes : (g : Geometry) → PutChanges g
put-changes g a0 a1 a2 a3 a4 p page fin is free ready all = (put_cut g a0 a1 a2 a3 a4 p page fin is free ready all, put_done g a0 a1 a2 a3 a4 p page fin is free ready all)

module _ (g : Geometry) (a b d : List ℕ) (o kill : ℕ) (page : List ℕ) (is : IsImage g a) (live : live_at g a o ≡ Some page) (clears : ClearsBit 7 (slice_index a (o * g.page + 4)) kill) (all : Kills g o kill a b d) where
  torn1 : HalfProgrammed (o * g.page + 4) (kill ∷ []) a b
  torn1 = torn_from _ _ _ _ all.delete

  inside : Rattle.image_model.specs.Places.is_entry_page g o ≡ true
  inside = (live_parts g a o page live).entry_page

  done : slice_index b (o * g.page + 4) ≡ kill
  done = done_byte 7 (o * g.page + 4) kill a b clears all.delete

  image1 : (c : List ℕ) → HalfProgrammed (o * g.page + 4) (kill ∷ []) a c → IsImage g c
  image1 c h = record { len = omega (arith, h.outside.size, is.len) }

  agree1 : (c : List ℕ) → HalfProgrammed (o * g.page + 4) (kill ∷ []) a c → Agree g a c o
  agree1 c h = agree_page g a c o (sizes g) inside (wide_flags g a c o kill is h)

  loses : Loses o (live_at g a) (live_at g b)
  loses = killing-loses g a b o kill is inside clears.cleared torn1 done

  pub dead : is_finished (page_of g b o) ≡ false
  dead = let big : 128 ≤ g.page = (sizes g).page in
      let byte : slice_index (page_of g b o) 4 ≡ slice_index b (o * g.page + 4) = page_byte g b o 4 (omega arith) in
      deleted_from_flag _ (rw byte (rw done clears.cleared))

  live2 : (c : List ℕ) → HalfProgrammed (entry_at g o) (0 ∷ 0 ∷ []) b c → live_at g c ≡ live_at g b
  live2 c h = fun_ext (live-entry_changed g (sizes g) b c o inside h.outside dead)

  agree2 : (c : List ℕ) → HalfProgrammed (entry_at g o) (0 ∷ 0 ∷ []) b c → Agree g a c o
  agree2 c h = agree-on g a b c o (agree1 b torn1) (agree_entry g b c o (sizes g) inside h.outside)

  -- the program of the entry leaves the flags
  flag2 : (c : List ℕ) → HalfProgrammed (entry_at g o) (0 ∷ 0 ∷ []) b c → slice_index c (o * g.page + 4) ≡ kill
  flag2 c h =
      let big : 128 ≤ g.page = (sizes g).page in
      let same : page_of g c o ≡ page_of g b o = page-same_entry g (sizes g) b c o inside h.outside o inside in
      sym (page_byte g c o 4 (omega arith)) ∙ ap (λ (l : List ℕ). slice_index l 4) same ∙ page_byte g b o 4 (omega arith) ∙ done

  loses2 : (c : List ℕ) → HalfProgrammed (entry_at g o) (0 ∷ 0 ∷ []) b c → Loses o (live_at g a) (live_at g c)
  loses2 c h = rw (live2 c h) loses

  image2 : (c : List ℕ) → HalfProgrammed (entry_at g o) (0 ∷ 0 ∷ []) b c → IsImage g c
  image2 c h = record { len = omega (arith, h.outside.size, (image1 b torn1).len) }

  -- once its flags are those of a deleted page, it isn't erased
  cleared_used : (c : List ℕ) → IsImage g c → slice_index c (o * g.page + 4) ≡ kill → is_free_entry g c o ≡ false
  cleared_used c is byte =
      let big : 128 ≤ g.page = (sizes g).page in
      let there : slice_index (page_of g c o) 4 ≡ kill = page_byte g c o 4 (omega arith) ∙ byte in
      not_free g c o 4 is inside (omega arith) (λ ones. deleted_no_ones kill clears.cleared (sym there ∙ ones))

  kill_done : KillDone g o a d
  kill_done = let torn = torn_from _ _ _ _ all.clear in record { image = image2 d torn; agree = agree2 d torn; loses = loses2 d torn; zero = zeroed g b d o all.clear; free = kill_free g a b d o kill inside all (agree2 d torn) }

  kill_cut : (c : List ℕ) → KillCut g o kill a b c → KillLeaves g o a c
  kill_cut c h =
      ⊎_elim
      (λ (x : HalfProgrammed (o * g.page + 4) (kill ∷ []) a c). record {
        image = image1 c x;
        agree = agree1 c x;
        live = ⊎_elim
            (λ (same : c ≡ a). inl (ap (live_at g) same))
            (λ (there : slice_index c (o * g.page + 4) ≡ kill). inr (killing-loses g a c o kill is inside clears.cleared x there))
            (one_bit_image 7 (o * g.page + 4) kill a c clears x);
        used = ⊎_elim
            (λ (same : c ≡ a). rw same (live-used g a o page live))
            (λ (there : slice_index c (o * g.page + 4) ≡ kill). cleared_used c (image1 c x) there)
            (one_bit_image 7 (o * g.page + 4) kill a c clears x);
      })
      (λ (x : HalfProgrammed (entry_at g o) (0 ∷ 0 ∷ []) b c). record { image = image2 c x; agree = agree2 c x; live = inr (loses2 c x); used = cleared_used c (image2 c x) (flag2 c x) })
      h

pub kill-changes : (g : Geometry) → KillChanges g
kill-changes g a b d o kill page is live clears all = (kill_cut g a b d o kill page is live clears all, kill_done g a b d o kill page is live clears all)
