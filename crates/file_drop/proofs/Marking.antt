-- The header page of a file is marked, and then killed.
use Rattle.std.proofs.Common.{◌≡◌, ◌≢◌, ℕ, ◌+◌, ◌-◌, ◌*◌, ◌<◌, ◌≤◌, List, [], ◌∷◌, slice_index, true, false, Option, Some, None, ap, refl, sym, ◌∙◌, arith, ⊎_elim, inl, inr, subst}
use Rattle.std.specs.Prelude.{bit_and, is_some}
use Rattle.std.proofs.Math.Path.{fun_ext}
use Rattle.std.specs.Int.{bit_at}
use Rattle.geometry.specs.declared.geometry.Geometry.{Geometry}
use Rattle.nor_core.specs.Flash.{HalfProgrammed, programmed}
use Rattle.nor_core.proofs.Programs.{half_programmed}
use Rattle.geometry.specs.Numbers.{page_count}
use Rattle.image_model.specs.Within.{sizes, page_number}
use Rattle.image_model.specs.Places.{page_of, IsImage}
use Rattle.image_model.specs.Headers.{is_finished, names_index, span_of}
use Rattle.image_model.specs.Live.{live_at, own}
use Rattle.image_model.specs.Files.{is_index}
use Rattle.image_model.specs.Tables.{damaged_of}
use Rattle.image_model.specs.Tidy.{free_blocks}
use Rattle.image_model.specs.Sound.{HasMagics, IsSound}
use Rattle.image_laws.specs.Changes.{Loses}
use Rattle.image_laws.specs.Flash.{Programmed}
use Rattle.image_laws.specs.Programs.{ClearsBit, HasOneHead}
use Rattle.image_laws.specs.Remove.{Removes, Removed}
use Rattle.image_laws.proofs.Append.{own-live, own-some}
use Rattle.image_laws.proofs.Bits.{bit_cases}
use Rattle.image_laws.proofs.Finish.{own-parts}
use Rattle.image_laws.proofs.Finished.{torn_from}
use Rattle.image_laws.proofs.Frames.{LivePage, live_parts}
use Rattle.image_laws.proofs.Judge.{index_passes}
use Rattle.image_laws.proofs.LiveStep.{done_byte}
use Rattle.image_laws.proofs.Placing.{page_byte}
use Rattle.image_laws.proofs.Remove.{removing-loses, removing-drops}
use Rattle.image_laws.proofs.RemoveTidy.{removing-is_sound, removing-leaves}
use Rattle.image_laws.proofs.Sounding.{sound-on}
use Rattle.image_laws.proofs.SpareKill.{tidy-has_magics}
use Rattle.image_laws.proofs.TidySteps.{tidy-is_tidy}
use Rattle.header_laws.proofs.Telling.{one-head}
use Rattle.trim_laws.specs.Wear.{SameWear, Worn}
use Rattle.trim_laws.proofs.Trims.{flags_trim}
use Rattle.trim_laws.proofs.Wears.{inside_keeps, upkeep_same, wear_then, worn_same}
use Rattle.flash_view.specs.Steps.{Begins, Finishes, making}
use Rattle.page_put.specs.LivePages.{clearing, Stays, Cleared}
use Rattle.page_put.specs.Recount.{IsUsedPage}
use Rattle.page_put.proofs.UsedPages.{live_used}
use Rattle.page_put.proofs.Clearing.{left_half, left_done, clears_mark, below_byte}
use Rattle.file_drop.specs.Drops.{none_kept, is_left, DropCut}
use Rattle.file_drop.specs.Removals.{CanDrop, RemoveCut, HeaderDropped, dropping_header}
use Rattle.file_drop.specs.Programs.{past_in, pages_of}
use Rattle.file_drop.proofs.Killing.{some_page, own_none, all_left, dead_keeps, dead_orphans}
use Rattle.file_drop.proofs.Programs.{rest_met, one_fewer}
use Rattle.file_drop.proofs.Seeing.{first_is_left}

some_index : (o : Option (List ℕ)) → is_index o 0 ≡ true → (x : List ℕ) × (o ≡ Some x)
some_index None e = absurd (cc)
some_index (Some x) e = (x, refl)

-- a header page in which IXDELE is cleared isn't finished
removed : (page : List ℕ) → names_index page ≡ true → span_of page ≡ 0 → bit_at (slice_index page 4) 6 ≡ 0 → is_finished page ≡ false
unfolding is_finished
removed page index first h = grind (arith, index, first, h)

module _ (g : Geometry) (a : List ℕ) (id p : ℕ) (is : IsImage g a) (can : CanDrop g a id p) where
  abbrev at : ℕ
  at = p * g.page + 4

  page : (x : List ℕ) × (own (live_at g a) id p ≡ Some x)
  page = some_index (own (live_at g a) id p) (index_passes g (own (live_at g a) id) 0 p can.first)

  live : live_at g a p ≡ Some page.0
  live = (own-parts (live_at g a) id p page.0 page.1).0

  one : HasOneHead g a id p page.0
  one = one-head g a is can.can.tidy id p page.0 can.first live

  parts : LivePage g a p page.0
  parts = live_parts g a p page.0 live

  -- IXDELE is set
  set : bit_at (slice_index a at) 6 ≡ 1
  set =
      let size : 128 ≤ g.page = (sizes g).page in
      let flag : slice_index (page_of g a p) 4 ≡ slice_index a at = page_byte g a p 4 (omega arith) in
      let mine : slice_index page.0 4 ≡ slice_index a at = ap (λ (x : List ℕ). slice_index x 4) (sym parts.bytes) ∙ flag in
      ⊎_elim
      (λ (set : bit_at (slice_index a at) 6 ≡ 1). set)
      (λ (clear : bit_at (slice_index a at) 6 ≡ 0).
      let no : is_finished page.0 ≡ false = removed page.0 one.is_head.index one.is_head.first (ap (λ (x : ℕ). bit_at x 6) mine ∙ clear) in
      let bad : true ≡ false = sym parts.finished ∙ no in absurd (cc))
      (bit_cases (slice_index a at) 6)

  -- ---- the mark

  abbrev flags : ℕ
  flags = bit_and (slice_index a at) 0xBF

  abbrev marked : List ℕ
  marked = programmed a at (0xBF ∷ [])

  clears : ClearsBit 6 (slice_index a at) flags
  clears = clears_mark (slice_index a at) can.byte set

  start : Removes g a p flags id 6 page.0
  start = record { image = is; bit = inl refl; clears = clears; one = one }

  magics : HasMagics g a
  magics = tidy-has_magics g a (λ q. false) ((tidy-is_tidy g a (λ q. false)).0 can.can.tidy)

  sound : (c : List ℕ) → HalfProgrammed at (flags ∷ []) a c → IsSound g c a × (damaged_of g c ≡ []) × (free_blocks g a ≤ free_blocks g c)
  sound c half = removing-is_sound g a c p flags id 6 page.0 start magics half

  -- all erase counts stay
  marked_wear : (c : List ℕ) → HalfProgrammed (p * g.page + 4) (0xBF ∷ []) a c → SameWear g a c
  marked_wear c h = inside_keeps g a c p (p * g.page + 4) 1 parts.entry_page (omega arith) (omega (arith, (sizes g).page)) h.outside

  mark_cut : (c : List ℕ) → HalfProgrammed at (0xBF ∷ []) a c → RemoveCut g a id c
  mark_cut c h =
      let half = left_half at 0xBF a c h in
      let left = sound c half in
      record { sound = left.0; table = removing-drops g a c p flags id 6 page.0 is (inl refl) clears one half; free = left.2; wear = marked_wear c h }

  program : Programmed at (flags ∷ []) a marked
  program = left_done at 0xBF a

  half : HalfProgrammed at (flags ∷ []) a marked
  half = torn_from at (flags ∷ []) a marked program

  byte : slice_index marked at ≡ flags
  byte = done_byte 6 at flags a marked clears program

  loses : Loses p (live_at g a) (live_at g marked)
  loses = removing-loses g a marked p flags 6 page.0 is live one.is_head.index one.is_head.first (inl refl) clears.cleared half byte

  left : Removed g p id a marked
  left = removing-leaves g a marked p flags id 6 page.0 start can.can.tidy program

  wear_now : SameWear g a marked
  wear_now = marked_wear marked (half_programmed a at (0xBF ∷ []))

  pub marks : Begins g a (making (λ h l. IsUsedPage h l p) (λ h. HalfProgrammed (p * h.page + 4) (0xBF ∷ [])) (λ h b. programmed b (p * h.page + 4) (0xBF ∷ []))) (dropping_header id p)
  marks = record {
    needs = (
      live_used g a p page.0 live,
      (λ c h. upkeep_same g a c (flags_trim g a c p page.0 (0xBF ∷ []) is live refl h) (marked_wear c h)),
      λ c now. subst (λ (l : List ℕ). Worn g a l) (sym now) (worn_same g a marked wear_now),
    );
    cut = mark_cut;
  }

  -- ---- the kill

  small : slice_index marked at < 256
  small = rw byte (below_byte (slice_index a at) 0xBF can.byte)

  magics_now : HasMagics g marked
  magics_now = tidy-has_magics g marked (λ r. is_some (own (live_at g a) id r)) left.orphans.tidy

  kept : (c : List ℕ) → Stays g p marked c → DropCut g marked c
  kept c h = dead_keeps g marked c p magics_now parts.entry_page left.used h

  cut : (c : List ℕ) → Stays g p marked c → RemoveCut g a id c
  cut c h =
      let before = sound marked half in
      let after = kept c h in
      record {
        sound = sound-on g a marked c before.0 after.all.keeps.sound;
        table = inr (after.all.keeps.table ∙ left.table);
        free = omega (arith, before.2, after.all.free);
        wear = wear_then g a marked c wear_now after.wear;
      }

  leaves : (q : ℕ) → q ≢ p → is_some (own (live_at g a) id q) ≡ true → is_left g marked id none_kept q ≡ true
  leaves q there mine = all_left g marked id q ∙ ap is_some (own-live (live_at g a) (live_at g marked) id q (loses.others q there)) ∙ mine

  back : (q : ℕ) → is_left g marked id none_kept q ≡ true → is_some (own (live_at g a) id q) ≡ true
  back q mine =
      let w = some_page (own (live_at g marked) id q) (sym (all_left g marked id q) ∙ mine) in
      let z = own-parts (live_at g marked) id q w.0 w.1 in
      ap is_some (own-some (live_at g a) id q w.0 (left.others q w.0 z.0) z.1)

  -- the id has a page at least
  pub one_page : 1 ≤ pages_of g a id
  unfolding past_in
  one_page =
      let all : page_count g - 0 ≡ page_count g = omega arith in
      let met = rest_met (λ q. is_left g a id none_kept q) 0 p (page_count g) (omega arith) (page_number g p parts.entry_page) (first_is_left g a id p can.first) in
      let count = rw all at met in
      omega (arith, count)

  -- the header page is gone, and no other page has come
  one_page_fewer : (c : List ℕ) → Stays g p marked c → pages_of g c id + 1 ≤ pages_of g a id
  unfolding past_in
  one_page_fewer c h =
      let same : live_at g c ≡ live_at g marked = fun_ext h.live in
      let gone : is_left g c id none_kept p ≡ false = rw (own_none (live_at g c) id p (h.live p ∙ left.dead)) refl in
      one_fewer (λ q. is_left g a id none_kept q) (λ q. is_left g c id none_kept q) p (page_count g) (page_number g p parts.entry_page) (first_is_left g a id p can.first) gone
      (λ q yes. all_left g a id q ∙ back q (rw same at yes))

  done : (c : List ℕ) → Cleared g p marked c → HeaderDropped g a id c
  done c h =
      let before = sound marked half in
      let after = kept c h.stays in
      record {
        sound = sound-on g a marked c before.0 after.all.keeps.sound;
        table = after.all.keeps.table ∙ left.table;
        free = omega (arith, before.2, after.all.free);
        wear = wear_then g a marked c wear_now after.wear;
        left = dead_orphans g marked c id p (λ r. is_some (own (live_at g a) id r)) left.orphans leaves back h;
        fewer = one_page_fewer c h.stays;
      }

  pub clears_header : (b : List ℕ) → b ≡ marked → Finishes g a b (clearing p) (dropping_header id p)
  clears_header b e =
      subst (λ (l : List ℕ). Finishes g a l (clearing p) (dropping_header id p)) (sym e)
      (record { needs = record { inside = parts.entry_page; dead = left.dead; byte = small }; cut = cut; done = λ c ok h. done c h })
