-- What a remove leaves, and the kills of the pages of a removed file.
use Rattle.std.proofs.Common.{◌≡◌, ◌≢◌, ℕ, ◌+◌, ◌*◌, ◌%◌, ◌≤◌, ◌⊎◌, List, [], ◌∷◌, slice_index, Bool, true, false, not, ◌==◌, ◌&&◌, Some, None, ap, refl, sym, ◌∙◌, arith, ⊎_elim, inl, inr}
use Rattle.std.proofs.Math.Path.{fun_ext}
use Rattle.std.specs.Prelude.{is_some}
use Rattle.std.proofs.lemmas.Bool.{cases_Bool, ne_eqb, false≢true}
use Rattle.std.proofs.lemmas.Option.{none-some, same_Some}
use Rattle.geometry.specs.declared.geometry.Geometry.{Geometry}
use Rattle.nor_core.specs.Flash.{HalfProgrammed}
use Rattle.image_model.specs.Within.{sizes}
use Rattle.image_model.specs.Live.{Live, live_at, own}
use Rattle.image_model.specs.Places.{entry_of, is_entry_page, IsImage, entry_at}
use Rattle.image_model.specs.Headers.{obj_id}
use Rattle.image_model.specs.Files.{index_page}
use Rattle.image_model.specs.Tables.{damaged_of}
use Rattle.image_model.specs.Tidy.{IsTidy, is_free_entry, is_wanted, free_blocks}
use Rattle.image_model.specs.Sound.{HasMagics, IsSound, Keeps}
use Rattle.image_laws.specs.Changes.{Loses}
use Rattle.image_laws.specs.Programs.{IsIdle}
use Rattle.image_laws.specs.Kills.{Deletes}
use Rattle.image_laws.specs.TidySteps.{IsTidyBut, Agree}
use Rattle.image_laws.specs.LiveSteps.{Kills, KillCut, KillDone}
use Rattle.image_laws.specs.Remove.{Removes, RemovingIsSound, Orphans, Removed, RemovingLeaves, OrphanKills, DeadKills, OrphansEnd}
use Rattle.image_laws.proofs.Bits.{one_bit_image}
use Rattle.image_laws.proofs.Frames.{LivePage, live_parts, entry-same_page}
use Rattle.image_laws.proofs.Finish.{own-parts}
use Rattle.image_laws.proofs.Finished.{torn_from}
use Rattle.image_laws.proofs.FreeBlocks.{free_blocks-fall, used-is_not_free}
use Rattle.image_laws.proofs.Sounding.{sound-by, mixed-from, loses-back, keeps-on}
use Rattle.image_laws.proofs.TidySteps.{Entry, entry-same, agree_page, agree_entry, agree-on, wide_flags, tidy_live, tidy-is_tidy, killed-tidies}
use Rattle.image_laws.proofs.Kill.{own-loses, index-loses}
use Rattle.image_laws.proofs.Headless.{headless-is_idle}
use Rattle.image_laws.proofs.Wants.{wanted_parts, wanted_from}
use Rattle.image_laws.proofs.DeadEntries.{unused_flags-keep, dead_entry-keeps, deleted_done}
use Rattle.image_laws.proofs.Append.{page_there}
use Rattle.image_laws.proofs.StillFree.{live-used}
use Rattle.image_laws.proofs.LiveStep.{done_byte}
use Rattle.image_laws.proofs.Tally.{is_finished-ones}
use Rattle.image_laws.proofs.Append.{own-some}
use Rattle.image_laws.proofs.Remove.{removing-loses, headless_now, others_left, table_drops, count_left, undamaged_left}
use Rattle.image_laws.proofs.SpareKill.{leaves, tidy_d, cuts, done, spare_but}

-- ---- the program that takes the header page away

module _ (g : Geometry) (a b : List ℕ) (p flags id k : ℕ) (head : List ℕ) (start : Removes g a p flags id k head) (torn : HalfProgrammed (p * g.page + 4) (flags ∷ []) a b) where
  here : (live_at g a p ≡ Some head) × (obj_id head % 0x8000 ≡ id)
  here = own-parts (live_at g a) id p head start.one.is

  parts : LivePage g a p head
  parts = live_parts g a p head here.0

  agree : Agree g a b p
  agree = agree_page g a b p (sizes g) parts.entry_page (wide_flags g a b p flags start.image torn)

  loses : slice_index b (p * g.page + 4) ≡ flags → Loses p (live_at g a) (live_at g b)
  loses set = removing-loses g a b p flags k head start.image here.0 start.one.is_head.index start.one.is_head.first start.bit start.clears.cleared torn set

  undamaged : damaged_of g b ≡ []
  undamaged =
      ⊎_elim
      (λ (same : b ≡ a). ap (damaged_of g) same ∙ start.one.undamaged)
      (λ (set : slice_index b (p * g.page + 4) ≡ flags). undamaged_left g a b p id head start.one (loses set))
      (one_bit_image k (p * g.page + 4) flags a b start.clears torn)

  back : (q : ℕ) (x : List ℕ) → live_at g b q ≡ Some x → live_at g a q ≡ Some x
  back q x e =
      ⊎_elim
      (λ (same : b ≡ a). ap (λ (i : List ℕ). live_at g i q) (sym same) ∙ e)
      (λ (set : slice_index b (p * g.page + 4) ≡ flags). loses-back p (live_at g a) (live_at g b) (loses set) q x e)
      (one_bit_image k (p * g.page + 4) flags a b start.clears torn)

  sound : HasMagics g a → IsSound g b a × (damaged_of g b ≡ []) × (free_blocks g a ≤ free_blocks g b)
  sound m = (
    sound-by g a b m agree.magic (λ c i. mixed-from g (live_at g a) (live_at g b) c back i) (undamaged ∙ sym start.one.undamaged),
    undamaged,
    (free_blocks-fall g a b p agree).1 (used-is_not_free g a p parts.entry_page (live-used g a p head here.0)),
  )

  -- done
  module _ (set : slice_index b (p * g.page + 4) ≡ flags) (t : IsTidy g a) where
    wanted : (q : ℕ) → is_some (own (live_at g a) id q) ≡ false → is_wanted g a q ≡ true → is_wanted g b q ≡ true
    unfolding is_wanted
    wanted q out e =
        let w = wanted_parts g (live_at g a) q e in
        let differ : obj_id w.page % 0x8000 ≢ id = λ same. let mine = own-some (live_at g a) id q w.page w.is same in false≢true (sym out ∙ ap is_some mine) in
        let there : q ≢ p = λ same.
        let mine : w.page ≡ head = same_Some w.page head (sym w.is ∙ ap (live_at g a) same ∙ here.0) in differ (ap (λ (y : List ℕ). obj_id y % 0x8000) mine ∙ here.1) in
        let pages = others_left g a b p id head start.one (loses set) (obj_id w.page % 0x8000) differ in
        wanted_from g (live_at g b) q (record {
          page = w.page;
          h = w.h;
          head = w.head;
          is = (loses set).others q there ∙ w.is;
          in_table = rw (count_left g a b p id head start.one (loses set) (obj_id w.page % 0x8000) differ) w.in_table;
          at = rw pages w.at;
          header = rw pages w.header;
          served = rw pages w.served;
        })

    entries : (q : ℕ) → is_entry_page g q ≡ true → (is_some (own (live_at g a) id q) ≡ true) ⊎ Entry g b q
    entries q e =
        ⊎_elim
        (λ (mine : is_some (own (live_at g a) id q) ≡ true). inl mine)
        (λ (out : is_some (own (live_at g a) id q) ≡ false).
        let there : q ≢ p = λ same. let own_p : own (live_at g a) id q ≡ Some head = ap (own (live_at g a) id) same ∙ start.one.is in false≢true (sym out ∙ ap is_some own_p) in
        inr (entry-same g a b q (agree.entry q e there) (agree.page q e there) (wanted q out) (t.entries q e)))
        (cases_Bool (is_some (own (live_at g a) id q)))

    used : is_free_entry g b p ≡ false
    used =
        let entry : entry_of g b p ≡ obj_id head = entry-same_page g (sizes g) a b p parts.entry_page (wide_flags g a b p flags start.image torn) p ∙ parts.entry in
        let other : entry_of g b p ≢ 0xFFFF = λ ones. false≢true (sym (is_finished-ones head (sym entry ∙ ones)) ∙ parts.finished) in
        rw (ne_eqb (entry_of g b p) 0xFFFF other) refl

    removed : Removed g p id a b
    removed = record {
      image = record { len = omega (arith, torn.outside.size, start.image.len) };
      orphans = record {
        tidy = record {
          magic = λ c low. agree.magic c ∙ t.magic c low;
          entries = entries;
          undamaged = undamaged;
          unmixed = λ q r x y e f at. t.unmixed q r x y (back q x e) (back r y f) at;
        };
        headless = λ r x mine e.
            let z = page_there (own (live_at g a) id r) mine in
            let w = own-parts (live_at g a) id r z.0 z.1 in
            let same : z.0 ≡ x = same_Some z.0 x (sym w.0 ∙ back r x e) in
            let key : obj_id x % 0x8000 ≡ id = ap (λ (y : List ℕ). obj_id y % 0x8000) (sym same) ∙ w.1 in
            rw key (headless_now g a b p id head start.one (loses set));
      };
      table = table_drops g a b p id head start.one (loses set);
      dead = (loses set).after;
      others = back;
      used = used;
    }

pub removing-is_sound : (g : Geometry) → RemovingIsSound g
removing-is_sound g a b p flags id k head start m torn = sound g a b p flags id k head start torn m

pub removing-leaves : (g : Geometry) → RemovingLeaves g
removing-leaves g a b p flags id k head start t program =
    removed g a b p flags id k head start (torn_from _ _ _ _ program) (done_byte k (p * g.page + 4) flags a b start.clears program) t

-- ---- the kills of its pages

-- an id without a header page has none with a page less
still_headless : (g : Geometry) (live new : Live) (r : ℕ) (x : List ℕ) → live r ≡ Some x → Loses r live new → (j : ℕ) → index_page g (own live j) 0 ≡ None → index_page g (own new j) 0 ≡ None
still_headless g live new r x e change j none =
    index-loses g r (own live j) (own new j) (own-loses r x live new e change j) 0 (λ k. none-some r (sym none ∙ k)) ∙ none

pub orphan-kills : (g : Geometry) → OrphanKills g
orphan-kills g a b d r kill x spare is m o sp live clears kills =
    let idle : IsIdle g (own (live_at g a) (obj_id x % 0x8000)) r = headless-is_idle g (own (live_at g a) (obj_id x % 0x8000)) r (o.headless r x sp live) in
    let gone : KillDone g r a d = leaves g a b d r kill x spare is m o.tidy sp live idle clears kills in (
      cuts g a b d r kill x spare is m o.tidy sp live idle clears kills,
      gone.image,
      done g a b d r kill x spare is m o.tidy sp live idle clears kills,
      record {
        tidy = tidy_d g a b d r kill x spare is m o.tidy sp live idle clears kills;
        headless = λ q y e at.
            let w = spare_but (spare q) q r e in
            let was : live_at g a q ≡ Some y = loses-back r (live_at g a) (live_at g d) gone.loses q y at in
            still_headless g (live_at g a) (live_at g d) r x live gone.loses (obj_id y % 0x8000) (o.headless q y w.0 was);
      },
    )

module _ (g : Geometry) (a b d : List ℕ) (r kill : ℕ) (spare : ℕ → Bool) (is : IsImage g a) (m : HasMagics g a) (o : Orphans g spare a) (sp : spare r ≡ true) (inside : is_entry_page g r ≡ true)
    (dead : live_at g a r ≡ None) (used : is_free_entry g a r ≡ false) (deletes : Deletes (slice_index a (r * g.page + 4)) kill) (kills : Kills g r kill a b d) where
  flags : HalfProgrammed (r * g.page + 4) (kill ∷ []) a b
  flags = torn_from _ _ _ _ kills.delete

  image_b : IsImage g b
  image_b = record { len = omega (arith, flags.outside.size, is.len) }

  agree_flags : (c : List ℕ) → HalfProgrammed (r * g.page + 4) (kill ∷ []) a c → Agree g a c r
  agree_flags c h = agree_page g a c r (sizes g) inside (wide_flags g a c r kill is h)

  agree_cleared : (c : List ℕ) → HalfProgrammed (entry_at g r) (0 ∷ 0 ∷ []) b c → Agree g a c r
  agree_cleared c h = agree-on g a b c r (agree_flags b flags) (agree_entry g b c r (sizes g) inside h.outside)

  first : (c : List ℕ) → HalfProgrammed (r * g.page + 4) (kill ∷ []) a c → ((q : ℕ) → live_at g c q ≡ live_at g a q) × Keeps g a c
  first c h = unused_flags-keep g a c r kill is m inside dead deletes h

  second : (c : List ℕ) → HalfProgrammed (entry_at g r) (0 ∷ 0 ∷ []) b c → ((q : ℕ) → live_at g c q ≡ live_at g a q) × Keeps g a c
  second c h =
      let one = first b flags in
      let two = dead_entry-keeps g b c r (0 ∷ 0 ∷ []) image_b one.1.sound.magics inside (deleted_done g a b r kill is deletes kills.delete) refl h in
      (λ q. two.0 q ∙ one.0 q, keeps-on g a b c one.1 two.1)

  free : (c : List ℕ) → Agree g a c r → free_blocks g a ≤ free_blocks g c
  free c h = (free_blocks-fall g a c r h).1 (used-is_not_free g a r inside used)

  cut : (c : List ℕ) → KillCut g r kill a b c → Keeps g a c × (free_blocks g a ≤ free_blocks g c)
  cut c h =
      ⊎_elim
      (λ (x : HalfProgrammed (r * g.page + 4) (kill ∷ []) a c). ((first c x).1, free c (agree_flags c x)))
      (λ (x : HalfProgrammed (entry_at g r) (0 ∷ 0 ∷ []) b c). ((second c x).1, free c (agree_cleared c x)))
      h

  cleared : HalfProgrammed (entry_at g r) (0 ∷ 0 ∷ []) b d
  cleared = torn_from _ _ _ _ kills.clear

  tidy_now : IsTidyBut g d (λ q. spare q && not (q == r))
  tidy_now =
      let tidy_b : IsTidyBut g b spare = tidy_live g a b r spare spare (agree_flags b flags) o.tidy (λ q there s. s) (first b flags).0 (inl sp) in
      (killed-tidies g b d r spare (λ (q : ℕ). spare q && not (q == r)) (record { others = λ q there s. rw s (rw (ne_eqb q r there) refl) }) image_b tidy_b sp inside (deleted_done g a b r kill is deletes kills.delete)).1 kills.clear

  headless_still : (q : ℕ) (y : List ℕ) → (spare q && not (q == r)) ≡ true → live_at g d q ≡ Some y → index_page g (own (live_at g d) (obj_id y % 0x8000)) 0 ≡ None
  headless_still q y e at =
      let w = spare_but (spare q) q r e in
      let same = (second d cleared).0 in
      let live : live_at g d ≡ live_at g a = fun_ext same in
      rw live (o.headless q y w.0 (sym (same q) ∙ at))

pub dead-kills : (g : Geometry) → DeadKills g
dead-kills g a b d r kill spare is m o sp inside dead used deletes kills =
    let last = cleared g a b d r kill spare is m o sp inside dead used deletes kills in
    let image = image_b g a b d r kill spare is m o sp inside dead used deletes kills in (
      cut g a b d r kill spare is m o sp inside dead used deletes kills,
      record { len = omega (arith, last.outside.size, image.len) },
      (second g a b d r kill spare is m o sp inside dead used deletes kills d last).1,
      record { tidy = tidy_now g a b d r kill spare is m o sp inside dead used deletes kills; headless = headless_still g a b d r kill spare is m o sp inside dead used deletes kills },
    )

pub orphans-end : (g : Geometry) → OrphansEnd g
orphans-end g a spare none o = (tidy-is_tidy g a spare).1 none o.tidy
