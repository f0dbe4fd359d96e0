-- Placing a page.
use Rattle.std.proofs.Common.{◌≡◌, ℕ, ◌+◌, ◌-◌, ◌*◌, ◌<◌, ◌≤◌, ◌⊎◌, List, length, take, drop, slice_index, ap, refl, sym, ◌∙◌, arith, ⊎_elim, subst, add-zero, length-drop, length-take-le, get_or-take, get_or-drop}
use Rattle.std.proofs.Math.Path.{fun_ext}
use Rattle.std.specs.Prelude.{bit_and}
use Rattle.std.specs.Int.{bit_at}
use Rattle.std.proofs.lemmas.Bool.{cases_lt}
use Rattle.std.proofs.lemmas.List.{ext_get_or}
use Rattle.geometry.specs.declared.geometry.Geometry.{Geometry}
use Rattle.image_model.specs.Within.{sizes}
use Rattle.geometry.specs.Numbers.{page_count}
use Rattle.nor_core.specs.Flash.{SameOutside, HalfProgrammed}
use Rattle.image_laws.specs.Flash.{Programmed}
use Rattle.image_model.specs.Live.{live_at}
use Rattle.image_model.specs.Places.{entry_of, slot_of, page_of, block_of, IsImage, entry_at}
use Rattle.image_model.specs.Headers.{obj_id}
use Rattle.image_model.specs.Tables.{table_of, damaged_of}
use Rattle.image_laws.specs.Programs.{IsUnfinished, IsPlaced, ClearsBit}
use Rattle.image_laws.specs.NewFile.{IsFreePage}
use Rattle.image_model.specs.Sound.{HasMagics, Keeps}
use Rattle.image_laws.specs.TidySteps.{Agree}
use Rattle.image_laws.specs.Put.{IsReadyPage, PlacingIsSound}
use Rattle.image_model.specs.Within.{page_length, page_number}
use Rattle.image_laws.proofs.Placing.{page_byte, flag_from, wider, placing_entry-keeps, placing_page-keeps, live-placing_entry, live-placing_page}
use Rattle.image_laws.proofs.Frames.{page-same_entry, magic-same_page, entry-same_page, magic-same_entry}
use Rattle.image_laws.proofs.Finished.{torn_from}
use Rattle.image_laws.proofs.Bits.{and_comm_255}
use Rattle.image_laws.proofs.Sounding.{placing_entry-sound, placing_page-sound, keeps-on}
use Rattle.image_laws.proofs.TidySteps.{agree_page, agree_entry, agree-on}

-- ---- the images after each program

module _ (g : Geometry) (a0 : List ℕ) (p : ℕ) (head : List ℕ) (flags : ℕ) (is : IsImage g a0) (free : IsFreePage g a0 p) (ready : IsReadyPage g head flags) where
  pub big : 128 ≤ g.page
  big = (sizes g).page

  pub len2 : length (take 2 head) ≡ 2
  len2 = length-take-le 2 head (omega (arith, ready.len, big))

  pub len5 : length (take 5 head) ≡ 5
  len5 = length-take-le 5 head (omega (arith, ready.len, big))

  pub rest : length (drop 5 head) ≡ g.page - 5
  rest = length-drop 5 head ∙ ap (λ (k : ℕ). k - 5) ready.len

  pub unfinished0 : IsUnfinished g a0 p
  unfinished0 = record { entry_page = free.entry_page; final = flag_from (page_of g a0 p) 1 (rw (page_byte g a0 p 4 (omega (arith, big))) (rw (free.erased 4 (omega (arith, big))) refl)) }

  -- no program of the header clears FINAL
  pub final_stays : (i : ℕ) → i < length (take 5 head) → p * g.page + i ≡ p * g.page + 4 → bit_at (slice_index (take 5 head) i) 1 ≡ 1
  final_stays i small at =
      let four : i ≡ 4 = omega arith in
      let near : 4 < 5 = omega arith in
      rw four (rw (get_or-take 5 head 4 0 near) ready.clears.set)

  pub final_behind : (i : ℕ) → i < length (drop 5 head) → p * g.page + 5 + i ≡ p * g.page + 4 → bit_at (slice_index (drop 5 head) i) 1 ≡ 1
  final_behind i small at = absurd (omega arith)

  pub kept1 : (c : List ℕ) → HalfProgrammed (entry_at g p) (take 2 head) a0 c → (table_of g c ≡ table_of g a0) × (damaged_of g c ≡ damaged_of g a0) × IsUnfinished g c p
  kept1 c h = placing_entry-keeps g a0 c p (take 2 head) is unfinished0 len2 h

  pub number : p < page_count g
  number = page_number g p free.entry_page

  module _ (a1 : List ℕ) (one : Programmed (entry_at g p) (take 2 head) a0 a1) where
    pub image1 : IsImage g a1
    image1 = record { len = omega (arith, one.outside.size, is.len) }

    pub unfinished1 : IsUnfinished g a1 p
    unfinished1 = (kept1 a1 (torn_from _ _ _ _ one)).2

    -- the page is the header page that was asked
    erased1 : (i : ℕ) → i < g.page → slice_index a1 (p * g.page + i) ≡ 255
    erased1 i small =
        sym (page_byte g a1 p i small)
        ∙ ap (λ (x : List ℕ). slice_index x i) (page-same_entry g (sizes g) a0 a1 p free.entry_page (rw len2 at one.outside) p free.entry_page)
        ∙ page_byte g a0 p i small ∙ free.erased i small

    entry1 : entry_of g a1 p ≡ obj_id head
    unfolding entry_of slot_of
    entry1 =
        let lo : slice_index a1 (entry_at g p + 0) ≡ bit_and (slice_index a0 (entry_at g p + 0)) (slice_index (take 2 head) 0) = one.bytes 0 (omega (arith, len2)) in
        let hi : slice_index a1 (entry_at g p + 1) ≡ bit_and (slice_index a0 (entry_at g p + 1)) (slice_index (take 2 head) 1) = one.bytes 1 (omega (arith, len2)) in
        let h0 : slice_index (take 2 head) 0 ≡ slice_index head 0 = let n : 0 < 2 = omega arith in get_or-take 2 head 0 0 n in
        let h1 : slice_index (take 2 head) 1 ≡ slice_index head 1 = let n : 1 < 2 = omega arith in get_or-take 2 head 1 0 n in
        let b0 : slice_index a1 (entry_at g p + 0) ≡ slice_index head 0 = lo ∙ rw (free.entry 0 (omega arith), h0) (and_comm_255 (slice_index head 0) (ready.bytes 0 (omega (arith, big)))) in
        let b1 : slice_index a1 (entry_at g p + 1) ≡ slice_index head 1 = hi ∙ rw (free.entry 1 (omega arith), h1) (and_comm_255 (slice_index head 1) (ready.bytes 1 (omega (arith, big)))) in
        let b0' : slice_index a1 (entry_at g p) ≡ slice_index head 0 = rw add-zero at b0 in
        cc

    pub kept2 : (c : List ℕ) → HalfProgrammed (p * g.page) (take 5 head) a1 c → (table_of g c ≡ table_of g a1) × (damaged_of g c ≡ damaged_of g a1) × IsUnfinished g c p
    kept2 c h = placing_page-keeps g a1 c p (p * g.page) (take 5 head) image1 unfinished1 (omega arith) (omega (arith, len5, big)) final_stays h

    module _ (a2 : List ℕ) (two : Programmed (p * g.page) (take 5 head) a1 a2) where
      pub image2 : IsImage g a2
      image2 = record { len = omega (arith, two.outside.size, image1.len) }

      pub unfinished2 : IsUnfinished g a2 p
      unfinished2 = (kept2 a2 (torn_from _ _ _ _ two)).2

      pub page_wide2 : SameOutside (p * g.page) g.page a1 a2
      page_wide2 = wider (p * g.page) (length (take 5 head)) (p * g.page) g.page a1 a2 (omega arith) (omega (arith, len5, big)) two.outside

      pub kept3 : (c : List ℕ) → HalfProgrammed (p * g.page + 5) (drop 5 head) a2 c → (table_of g c ≡ table_of g a2) × (damaged_of g c ≡ damaged_of g a2) × IsUnfinished g c p
      kept3 c h = placing_page-keeps g a2 c p (p * g.page + 5) (drop 5 head) image2 unfinished2 (omega arith) (omega (arith, rest, big)) final_behind h

      module _ (a3 : List ℕ) (three : Programmed (p * g.page + 5) (drop 5 head) a2 a3) where
        pub image3 : IsImage g a3
        image3 = record { len = omega (arith, three.outside.size, image2.len) }

        -- the live pages have stayed
        pub live3 : live_at g a3 ≡ live_at g a0
        live3 =
            fun_ext (λ (q : ℕ).
            live-placing_page g (sizes g) a2 a3 p free.entry_page unfinished2.final (p * g.page + 5) (drop 5 head) (omega arith) (omega (arith, rest, big)) (torn_from _ _ _ _ three) final_behind q
            ∙ live-placing_page g (sizes g) a1 a2 p free.entry_page unfinished1.final (p * g.page) (take 5 head) (omega arith) (omega (arith, len5, big)) (torn_from _ _ _ _ two) final_stays q
            ∙ live-placing_entry g (sizes g) a0 a1 p free.entry_page unfinished0.final (take 2 head) len2 (torn_from _ _ _ _ one) q)

        pub byte3 : (i : ℕ) → i < g.page → slice_index a3 (p * g.page + i) ≡ slice_index head i
        byte3 i small =
            ⊎_elim
            (λ (low : i < 5).
            let asked : slice_index (take 5 head) i ≡ slice_index head i = get_or-take 5 head i 0 low in
            let now : slice_index a2 (p * g.page + i) ≡ bit_and (slice_index a1 (p * g.page + i)) (slice_index (take 5 head) i) = two.bytes i (omega (arith, len5)) in
            three.outside.before (p * g.page + i) (omega arith) ∙ now ∙ rw (erased1 i small, asked) (and_comm_255 (slice_index head i) (ready.bytes i small)))
            (λ (high : 5 ≤ i).
            let at : p * g.page + 5 + (i - 5) ≡ p * g.page + i = omega arith in
            let place : 5 + (i - 5) ≡ i = omega arith in
            let asked : slice_index (drop 5 head) (i - 5) ≡ slice_index head i = get_or-drop 5 head (i - 5) 0 ∙ ap (λ (k : ℕ). slice_index head k) place in
            let now : slice_index a3 (p * g.page + 5 + (i - 5)) ≡ bit_and (slice_index a2 (p * g.page + 5 + (i - 5))) (slice_index (drop 5 head) (i - 5)) = three.bytes (i - 5) (omega (arith, rest)) in
            let blank : slice_index a2 (p * g.page + i) ≡ 255 = two.outside.after (p * g.page + i) (omega (arith, len5)) ∙ erased1 i small in
            (rw at at now) ∙ rw (blank, asked) (and_comm_255 (slice_index head i) (ready.bytes i small)))
            (cases_lt i 5)

        pub page3 : page_of g a3 p ≡ head
        page3 = ext_get_or 0 _ _ (page_length g a3 p image3 free.entry_page ∙ sym ready.len) (λ i small. let inside : i < g.page = omega (arith, page_length g a3 p image3 free.entry_page) in page_byte g a3 p i inside ∙ byte3 i inside)

        pub page_wide3 : SameOutside (p * g.page) g.page a2 a3
        page_wide3 = wider (p * g.page + 5) (length (drop 5 head)) (p * g.page) g.page a2 a3 (omega arith) (omega (arith, rest, big)) three.outside

        pub placed3 : IsPlaced g a3 p flags
        placed3 = record {
          entry_page = free.entry_page;
          magic = magic-same_page g (sizes g) a2 a3 p free.entry_page page_wide3 (block_of g p) ∙ magic-same_page g (sizes g) a1 a2 p free.entry_page page_wide2 (block_of g p)
              ∙ magic-same_entry g (sizes g) a0 a1 p free.entry_page (rw len2 at one.outside) (block_of g p) ∙ free.magic;
          entry = entry-same_page g (sizes g) a2 a3 p free.entry_page page_wide3 p ∙ entry-same_page g (sizes g) a1 a2 p free.entry_page page_wide2 p ∙ entry1 ∙ ap obj_id (sym page3);
          clears = subst (λ (x : ℕ). ClearsBit 1 x flags) (sym (byte3 4 (omega (arith, big)))) ready.clears;
          finished = rw page3 ready.finished;
        }

        pub agree1 : (c : List ℕ) → HalfProgrammed (entry_at g p) (take 2 head) a0 c → Agree g a0 c p
        agree1 c h = agree_entry g a0 c p (sizes g) free.entry_page (rw len2 at h.outside)

        pub agree2 : (c : List ℕ) → HalfProgrammed (p * g.page) (take 5 head) a1 c → Agree g a0 c p
        agree2 c h = agree-on g a0 a1 c p (agree1 a1 (torn_from _ _ _ _ one)) (agree_page g a1 c p (sizes g) free.entry_page (wider (p * g.page) (length (take 5 head)) (p * g.page) g.page a1 c (omega arith) (omega (arith, len5, big)) h.outside))

        pub agree3 : (c : List ℕ) → HalfProgrammed (p * g.page + 5) (drop 5 head) a2 c → Agree g a0 c p
        agree3 c h = agree-on g a0 a2 c p (agree2 a2 (torn_from _ _ _ _ two)) (agree_page g a2 c p (sizes g) free.entry_page (wider (p * g.page + 5) (length (drop 5 head)) (p * g.page) g.page a2 c (omega arith) (omega (arith, rest, big)) h.outside))

        pub keep1 : HasMagics g a0 → (c : List ℕ) → HalfProgrammed (entry_at g p) (take 2 head) a0 c → Keeps g a0 c
        keep1 m c h = placing_entry-sound g a0 c p (take 2 head) is m unfinished0 len2 h

        pub keep2 : HasMagics g a0 → (c : List ℕ) → HalfProgrammed (p * g.page) (take 5 head) a1 c → Keeps g a0 c
        keep2 m c h =
            let k = keep1 m a1 (torn_from _ _ _ _ one) in
            keeps-on g a0 a1 c k (placing_page-sound g a1 c p (p * g.page) (take 5 head) image1 k.sound.magics unfinished1 (omega arith) (omega (arith, len5, big)) final_stays h)

        pub keep3 : HasMagics g a0 → (c : List ℕ) → HalfProgrammed (p * g.page + 5) (drop 5 head) a2 c → Keeps g a0 c
        keep3 m c h =
            let k = keep2 m a2 (torn_from _ _ _ _ two) in
            keeps-on g a0 a2 c k (placing_page-sound g a2 c p (p * g.page + 5) (drop 5 head) image2 k.sound.magics unfinished2 (omega arith) (omega (arith, rest, big)) final_behind h)

        -- the live pages at each cut of the first three programs
        pub live1 : (c : List ℕ) → HalfProgrammed (entry_at g p) (take 2 head) a0 c → live_at g c ≡ live_at g a0
        live1 c h = fun_ext (live-placing_entry g (sizes g) a0 c p free.entry_page unfinished0.final (take 2 head) len2 h)

        pub live2 : (c : List ℕ) → HalfProgrammed (p * g.page) (take 5 head) a1 c → live_at g c ≡ live_at g a0
        live2 c h = fun_ext (live-placing_page g (sizes g) a1 c p free.entry_page unfinished1.final (p * g.page) (take 5 head) (omega arith) (omega (arith, len5, big)) h final_stays) ∙ live1 a1 (torn_from _ _ _ _ one)

        pub live_3 : (c : List ℕ) → HalfProgrammed (p * g.page + 5) (drop 5 head) a2 c → live_at g c ≡ live_at g a0
        live_3 c h = fun_ext (live-placing_page g (sizes g) a2 c p free.entry_page unfinished2.final (p * g.page + 5) (drop 5 head) (omega arith) (omega (arith, rest, big)) h final_behind) ∙ live2 a2 (torn_from _ _ _ _ two)

pub placing-is_sound : (g : Geometry) → PlacingIsSound g
placing-is_sound g a0 a1 a2 a3 p page flags is m free ready all = (
  λ c h. ⊎_elim
      (λ (x : HalfProgrammed (entry_at g p) (take 2 page) a0 c).
      (keep1 g a0 p page flags is free ready a1 all.one a2 all.two a3 all.three m c x, agree1 g a0 p page flags is free ready a1 all.one a2 all.two a3 all.three c x))
      (λ (y : HalfProgrammed (p * g.page) (take 5 page) a1 c ⊎ HalfProgrammed (p * g.page + 5) (drop 5 page) a2 c). ⊎_elim
      (λ (x : HalfProgrammed (p * g.page) (take 5 page) a1 c).
      (keep2 g a0 p page flags is free ready a1 all.one a2 all.two a3 all.three m c x, agree2 g a0 p page flags is free ready a1 all.one a2 all.two a3 all.three c x))
      (λ (x : HalfProgrammed (p * g.page + 5) (drop 5 page) a2 c).
      (keep3 g a0 p page flags is free ready a1 all.one a2 all.two a3 all.three m c x, agree3 g a0 p page flags is free ready a1 all.one a2 all.two a3 all.three c x))
      y)
      h,
  record {
    image = image3 g a0 p page flags is free ready a1 all.one a2 all.two a3 all.three;
    live = live3 g a0 p page flags is free ready a1 all.one a2 all.two a3 all.three;
    bytes = page3 g a0 p page flags is free ready a1 all.one a2 all.two a3 all.three;
    placed = placed3 g a0 p page flags is free ready a1 all.one a2 all.two a3 all.three;
    agree = agree3 g a0 p page flags is free ready a1 all.one a2 all.two a3 all.three a3 (torn_from _ _ _ _ all.three);
    keeps = keep3 g a0 p page flags is free ready a1 all.one a2 all.two a3 all.three m a3 (torn_from _ _ _ _ all.three);
  },
)
