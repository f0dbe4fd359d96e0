-- The data page of an append is put and named in a further index page.
use Rattle.std.proofs.Common.{◌≡◌, ◌≢◌, ℕ, zero, suc, ◌+◌, ◌-◌, ◌*◌, ◌/◌, ◌%◌, ◌<◌, ◌≤◌, List, length, drop, get_or, Bool, true, false, ◌==◌, ◌||◌, Some, ap, refl, sym, ◌∙◌, arith, subst, ⊎_elim, inr}
use Rattle.std.specs.Int.{to_le_bytes, w16}
use Rattle.std.specs.Prelude.{Option, is_some, slice_index, slice_range, option_and_then}
use Rattle.std.proofs.lemmas.Bool.{cases_eq, eqb-true, eq-eqb, le-ltb}
use Rattle.std.proofs.lemmas.List.{get_or-take, get_or-drop}
use Rattle.std.proofs.lemmas.Option.{none-some, same_Some}
use Rattle.geometry.specs.declared.geometry.Geometry.{Geometry}
use Rattle.geometry.specs.Numbers.{body, head_slots, span_slots}
use Rattle.nor_core.specs.Flash.{HalfProgrammed, SameOutside, programmed, word_at}
use Rattle.nor_core.proofs.Programs.{half_programmed}
use Rattle.table_model.specs.Table.{File, put_file}
use Rattle.table_model.specs.Files.{written}
use Rattle.table_model.specs.Room.{data_pages}
use Rattle.image_model.specs.Headers.{names_index, span_of, size_of}
use Rattle.image_model.specs.Live.{live_at, own}
use Rattle.image_model.specs.Files.{is_index, index_page, further, data_of, data_page, entry_number, slot_at, index_span}
use Rattle.image_model.specs.Places.{page_of, IsImage}
use Rattle.image_model.specs.Collect.{are_had}
use Rattle.image_model.specs.Tables.{table_of}
use Rattle.image_model.specs.Sound.{Keeps}
use Rattle.image_model.specs.Tidy.{serves, free_blocks}
use Rattle.image_model.specs.Within.{sizes}
use Rattle.image_laws.specs.Flash.{Programmed}
use Rattle.image_laws.specs.Reindex.{slot_word}
use Rattle.image_laws.proofs.Append.{own-live}
use Rattle.image_laws.proofs.Finish.{own-parts}
use Rattle.image_laws.proofs.Finished.{finished-programmed}
use Rattle.image_laws.proofs.Frames.{live_parts}
use Rattle.image_laws.proofs.Judge.{index_passes}
use Rattle.image_laws.proofs.Placing.{page_byte, wider}
use Rattle.image_laws.proofs.Sounding.{keeps-on}
use Rattle.trim_laws.specs.Trim.{Trims}
use Rattle.trim_laws.specs.Wear.{SameWear, Worn}
use Rattle.trim_laws.proofs.Trims.{inside_trims}
use Rattle.trim_laws.proofs.Wears.{wear_then, inside_keeps, upkeep_same, worn_same}
use Rattle.trim_laws.proofs.Pages.{further_not_head}
use Rattle.flash_view.specs.declared.kinds.Kind.TheVariants.{Data}
use Rattle.flash_view.specs.Steps.{Begins, Finishes, making}
use Rattle.page_put.specs.Recount.{IsUsedPage}
use Rattle.page_put.proofs.UsedPages.{live_used}
use Rattle.free_search.proofs.HadBy.{in_place_had}
use Rattle.renew_laws.specs.Primed.{Primed, ChangesInPlace}
use Rattle.renew_laws.specs.Tails.{HasFreeEntries}
use Rattle.renew_laws.proofs.EntryInPlace.{slot-fits}
use Rattle.renew_laws.proofs.Holding.{name-holds}
use Rattle.renew_laws.proofs.PrimeInPlace.{prime-name}
use Rattle.renew_laws.proofs.PrimePlaces.{primed-places}
use Rattle.renew_laws.proofs.Serves.{serves_data}
use Rattle.renew_laws.proofs.Spans.{span-is_named}
use Rattle.page_renew.specs.declared.edits.Edit.TheVariants.{Grow}
use Rattle.page_renew.specs.PageSteps.{StepCut}
use Rattle.page_renew.specs.Renewals.{renewing_from}
use Rattle.page_renew.proofs.Homes.{index_some}
use Rattle.page_renew.proofs.SlotNames.{slots_rise}
use Rattle.file_write.specs.Appends.{CanAppendAt, CanName, IsSlotPage, naming_at, naming_data, appending_at}
use Rattle.file_write.specs.Beside.{AddedPage, adding, is_data}
use Rattle.file_write.proofs.AppendEnds.{primed_clear, IsReadyIn, kept, ends_in}
use Rattle.file_write.proofs.AfterData.{data_begins, primed, its_page, still_clear, still_free, still_had, reserve, wear}
use Rattle.file_write.proofs.LastPage.{one_each, page_fits}
use Rattle.file_write.proofs.Sizes.{page_few, whole_pages, next_page}

-- the two bytes of a word
le_word : (n : ℕ) → n < 65536 → word_at (to_le_bytes w16 n) 0 ≡ n
le_word n small = omega (arith, small)

le_small : (n : ℕ) → n < 65536 → (k : ℕ) → k < 2 → slice_index (to_le_bytes w16 n) k < 256
le_small n small zero within = omega arith
le_small n small (suc zero) within = omega (arith, small)
le_small n small (suc (suc k)) within = absurd (omega (arith, within))

le_two : (n : ℕ) → length (to_le_bytes w16 n) ≡ 2
le_two n = refl

module _ (g : Geometry) (a : List ℕ) (id h size w span p end : ℕ) (bytes : List ℕ) (f : File) (is : IsImage g a) (can : CanName g a id h size w bytes f) (span_is : span ≡ size / body g) (whole : size % body g ≡ 0) (far : head_slots g ≤ span) (end_is : end ≡ size + length bytes) where
  abbrev at : CanAppendAt g a id h size bytes f
  at = can.at

  abbrev asked : List ℕ
  asked = to_le_bytes w16 p

  told : size_of at.head ≡ size
  told = sym at.told

  at_t : span ≡ size_of at.head / body g
  at_t = span_is ∙ ap (λ (n : ℕ). n / body g) at.told

  none : size_of at.head % body g ≡ 0
  none = subst (λ (n : ℕ). n % body g ≡ 0) at.told whole

  count : data_pages g (size_of at.head) ≡ span
  count = whole_pages g (size_of at.head) none ∙ sym at_t

  first : index_page g (own (live_at g a) id) (index_span g span) ≡ Some w
  first = subst (λ (t : ℕ). index_page g (own (live_at g a) id) (index_span g t) ≡ Some w) (sym span_is) can.slot.at

  further_is : index_span g span ≡ further g span
  further_is = rw (le-ltb span (head_slots g) far) refl

  there : (x : List ℕ) × (own (live_at g a) id w ≡ Some x) × (names_index x ≡ true) × (span_of x ≡ index_span g span)
  there =
      let passes = index_passes g (own (live_at g a) id) (index_span g span) w first in
      let x = index_some (own (live_at g a) id w) (index_span g span) passes in
      (x.0, x.1, x.2, x.3)

  x_page : page_of g a w ≡ there.0
  x_page = (live_parts g a w there.0 (own-parts (live_at g a) id w there.0 there.1).0).bytes

  -- its entries from this one on are free
  free_a : (t k : ℕ) → span ≤ t → further g t ≡ further g span → slot_at g t ≤ k → k < g.page → slice_index there.0 k ≡ 0xFF
  free_a t k past same low below =
      (at.can.ready h at.head at.prime.at at.prime.header).entries w t k there.0 there.1 there.2 (there.3 ∙ further_is ∙ sym same) (omega (arith, far, past)) (omega (arith, count, past)) low below

  ones : (slice_index there.0 (slot_at g span) ≡ 0xFF) × (slice_index there.0 (slot_at g span + 1) ≡ 0xFF)
  ones =
      let inside = slot-fits g span (sizes g).page in
      (free_a span (slot_at g span) (omega arith) refl (omega arith) (omega (arith, inside)), free_a span (slot_at g span + 1) (omega arith) refl (omega arith) (omega (arith, inside)))

  -- the data page is put first
  pub name_starts : Begins g a (adding Data (is_data id span bytes)) (naming_data id h size w span p bytes f)
  name_starts = let b = data_begins g a id h size span bytes f at in record { needs = b.needs; cut = b.cut }

  module _ (b : List ℕ) (q : AddedPage g Data (is_data id span bytes g) a b p) where
    abbrev one : ℕ → Bool
    one r = false || (r == p)

    word : p < 65536
    word = page_few g p q.found.page

    prime : Primed g id h at.head f one a b
    prime = primed g a id h size span bytes f at b p q

    apart : w ≢ p
    apart e = none-some there.0 (sym q.put.gains.before ∙ ap (live_at g a) (sym e) ∙ (own-parts (live_at g a) id w there.0 there.1).0)

    x_still : own (live_at g b) id w ≡ Some there.0
    x_still = own-live (live_at g a) (live_at g b) id w (q.put.gains.others w apart) ∙ there.1

    -- it is the index page of its span still
    first_b : index_page g (own (live_at g b) id) (index_span g span) ≡ Some w
    first_b =
        let passes = ap (λ (o : Option (List ℕ)). is_index o (index_span g span)) (x_still ∙ sym there.1) ∙ index_passes g (own (live_at g a) id) (index_span g span) w first in
        ⊎_elim
        (λ (spare : (false || (w == p)) ≡ true). absurd (apart (eqb-true w p spare)))
        (λ v. v.0)
        ((primed-places g a b id h at.head f one prime).1 w (index_span g span) passes)

    -- all erase counts stay
    named_wear : (c : List ℕ) → HalfProgrammed (w * g.page + slot_at g span) asked b c → SameWear g b c
    named_wear c torn =
        let inside = slot-fits g span (sizes g).page in
        inside_keeps g b c w (w * g.page + slot_at g span) (length asked) (live_parts g b w there.0 (own-parts (live_at g b) id w there.0 x_still).0).entry_page (omega arith) (omega (arith, inside, le_two p)) torn.outside

    module _ (c : List ℕ) (torn : HalfProgrammed (w * g.page + slot_at g span) asked b c) where
      law : Keeps g b c × (free_blocks g b ≤ free_blocks g c) × Primed g id h at.head f one a c × ChangesInPlace g id w b c
      law = prime-name g a b c id h w span at.head there.0 asked f one prime x_still there.2 (omega (arith, count)) far (sym there.3) (le_two p) torn

      name_cut : StepCut g (put_file (written (length f.bytes) bytes f) (table_of g a)) a c
      name_cut = kept g a id h size bytes f at c (keeps-on g a b c prime.keeps law.0) (λ two. let before = reserve g a id h size span bytes f at b p q two in let more = law.1 in omega (arith, before, more))
          (wear_then g a b c (wear g a id h size span bytes f at b p q) (named_wear c torn))

      had : are_had g c 1 0 ≡ true
      had =
          let live = (own-parts (live_at g b) id w there.0 x_still).0 in
          let now = (own-parts (live_at g c) id w (page_of g c w) law.3.now).0 in
          let passes = index_passes g (own (live_at g c) id) (index_span g span) w (law.3.places (index_span g span) ∙ first_b) in
          let y = index_some (own (live_at g c) id w) (index_span g span) passes in
          let same : y.0 ≡ page_of g c w = same_Some y.0 (page_of g c w) (sym y.1 ∙ law.3.now) in
          let wide : SameOutside (w * g.page) g.page b c = wider (w * g.page + slot_at g span) 2 (w * g.page) g.page b c (omega arith) (let inside = slot-fits g span (sizes g).page in omega (arith, inside)) torn.outside in
          in_place_had g b c w there.0 (page_of g c w) 1 0 (still_clear g a id h size span bytes f at b p q) (primed_clear g a c id h at.head f one law.2) wide live now (subst (λ (z : List ℕ). names_index z ≡ true) same y.2 ∙ sym there.2)
          (still_had g a id h size span bytes f at b p q 1 (one_each g a id h size bytes f at))

    -- and the header page then tells the new size
    module _ (c : List ℕ) (done : c ≡ programmed b (w * g.page + slot_at g span) asked) where
      torn : HalfProgrammed (w * g.page + slot_at g span) asked b c
      torn = subst (λ (n : List ℕ). HalfProgrammed (w * g.page + slot_at g span) asked b n) (sym done) (half_programmed b (w * g.page + slot_at g span) asked)

      all : Programmed (w * g.page + slot_at g span) asked b c
      all = subst (λ (n : List ℕ). Programmed (w * g.page + slot_at g span) asked b n) (sym done) (finished-programmed (w * g.page + slot_at g span) asked b)

      later : data_pages g end ≡ span + 1
      later =
          let fits = page_fits g a id h size bytes f at (inr (subst (λ (n : ℕ). head_slots g ≤ n) span_is far)) in
          ap (λ (n : ℕ). data_pages g n) (end_is ∙ ap (λ (n : ℕ). n + length bytes) at.told) ∙ next_page g (size_of at.head) (length bytes) none at.can.some (omega (arith, fits, whole)) ∙ ap (λ (n : ℕ). n + 1) (sym at_t)

      slot : slot_word g (page_of g c w) span ≡ p
      slot = name-holds g b c w span there.0 asked prime.image (own-parts (live_at g b) id w there.0 x_still).0 ones.0 ones.1 (le_two p) (le_small p word) all ∙ le_word p word

      its_c : own (live_at g c) id p ≡ Some q.page
      its_c = (law c torn).3.others p (λ e. apart (sym e)) ∙ its_page g a id h size span bytes f at b p q

      named : (y : List ℕ) → (entry_number g (own (live_at g c) id) y span ≡ Some p) × (data_page g (own (live_at g c) id) y span ≡ Some q.page)
      named y = span-is_named g (own (live_at g c) id) y span p q.page
          (inr (far, w, page_of g c w, ap (λ (j : ℕ). index_page g (own (live_at g c) id) j) (sym further_is) ∙ (law c torn).3.places (index_span g span) ∙ first_b, (law c torn).3.now, slot)) its_c q.is.kind q.is.at

      -- the entries behind it are free still
      free : HasFreeEntries g (own (live_at g c) id) (data_pages g (size_of at.head + length bytes))
      free r t k x is_x kind at_x high past low below =
          let now : span + 1 ≤ t = let n = subst (λ (m : ℕ). data_pages g m ≤ t) (sym (end_is ∙ ap (λ (m : ℕ). m + length bytes) at.told)) past in omega (arith, n, later) in
          ⊎_elim
          (λ (here : r ≡ w).
          let page : page_of g c w ≡ x = same_Some (page_of g c w) x (sym (law c torn).3.now ∙ ap (own (live_at g c) id) (sym here) ∙ is_x) in
          let passes = index_passes g (own (live_at g c) id) (index_span g span) w ((law c torn).3.places (index_span g span) ∙ first_b) in
          let y = index_some (own (live_at g c) id w) (index_span g span) passes in
          let same : y.0 ≡ x = same_Some y.0 x (sym y.1 ∙ (law c torn).3.now ∙ ap (λ (l : List ℕ). Some l) page) in
          let spans : further g t ≡ further g span = sym at_x ∙ ap span_of (sym same) ∙ y.3 ∙ further_is in
          let step = slots_rise g span t far (omega (arith, now)) (sym spans) in
          let b_page : page_of g b w ≡ there.0 = (live_parts g b w there.0 (own-parts (live_at g b) id w there.0 x_still).0).bytes in
          ap (λ (l : List ℕ). slice_index l k) (sym page) ∙ page_byte g c w k below ∙ torn.outside.after (w * g.page + k) (omega (arith, step, low, now, le_two p)) ∙ sym (page_byte g b w k below)
          ∙ ap (λ (l : List ℕ). slice_index l k) b_page ∙ free_a t k (omega (arith, now)) spans low below)
          (λ (other : r ≡ w → ⊥).
          still_free g a id h size span bytes f at b p q r t k x (sym ((law c torn).3.others r other) ∙ is_x) kind at_x high (omega (arith, now, count)) low below)
          (cases_eq r w)

      ready : IsReadyIn g a id h size bytes f at c (Grow end)
      ready = record {
        beside = one;
        z = q.page;
        prime = (law c torn).2;
        grows = record {
          adds = tt;
          takes = tt;
          size = omega (arith, end_is, at.told);
          some = at.can.some;
          fits = subst (λ (n : ℕ). n % body g + length bytes ≤ body g) at.told (page_fits g a id h size bytes f at (inr (subst (λ (n : ℕ). head_slots g ≤ n) span_is far)));
          holds = (let start : 5 ≡ 5 + size_of at.head % body g = omega (arith, none) in subst (λ (n : ℕ). slice_range q.page n (n + length bytes) ≡ bytes) start q.is.holds);
          page = λ y edited. subst (λ (t : ℕ). data_page g (own (live_at g c) id) y t ≡ Some q.page) at_t (named y).1;
        };
        erased = λ k low below. q.is.erased k (omega (arith, low)) below;
        free = free;
        serve = λ y edited r e.
            let here : r ≡ p = eqb-true r p e in
            let size_y : size_of y ≡ end = edited.size in
            let below : span < data_pages g (size_of y) = rw size_y (omega (arith, later)) in
            let some : is_some (data_of (own (live_at g c) id p) span) ≡ true = rw its_c (rw (q.is.kind, eq-eqb (span_of q.page) span q.is.at) refl) in
            subst (λ (k : ℕ). serves g (own (live_at g c) id) y k ≡ true) (sym here) (serves_data g (own (live_at g c) id) y p span below (named y).0 some);
        had = had c torn;
        reserve = λ two. (name_cut c torn).reserve two;
        wear = (name_cut c torn).wear;
      }

      name_ends : Finishes g a c (renewing_from id h (Grow end) (written (length f.bytes) bytes f)) (naming_at id h size w bytes f)
      name_ends = let e = ends_in g a id h size bytes f at c (Grow end) ready in record { needs = e.needs; cut = e.cut; done = e.done }

    -- its index page is no header page
    named_trims : (c : List ℕ) → HalfProgrammed (w * g.page + slot_at g span) asked b c → Trims g b c
    named_trims c torn =
        let inside = slot-fits g span (sizes g).page in
        let behind : slot_at g span ≡ 8 + 2 * ((span - head_slots g) % span_slots g) = rw (le-ltb span (head_slots g) far) refl in
        let more : span_of there.0 ≡ 0 → ⊥ = λ zero. omega (arith, zero, there.3, further_is) in
        inside_trims g b c w (w * g.page + slot_at g span) there.0 asked prime.image (own-parts (live_at g b) id w there.0 x_still).0 (further_not_head there.0 more) (omega (arith, behind)) (omega (arith, inside, le_two p)) torn

    -- the entry is programmed behind it
    pub name_goes : Finishes g a b (making (λ k l. IsUsedPage k l w) (λ k. HalfProgrammed (w * k.page + slot_at k span) asked) (λ k was. programmed was (w * k.page + slot_at k span) asked)) (naming_data id h size w span p bytes f)
    name_goes = record {
      needs = (
        live_used g b w there.0 (own-parts (live_at g b) id w there.0 x_still).0,
        (λ c torn. upkeep_same g b c (named_trims c torn) (named_wear c torn)),
        λ c now. subst (λ (l : List ℕ). Worn g b l) (sym now) (worn_same g b _ (named_wear _ (half_programmed b (w * g.page + slot_at g span) asked))),
      );
      cut = λ c torn. name_cut c torn;
      done = λ c ok now. (b, q, now);
    }

  -- both begin the append
  pub name_begins : Begins g a (naming_data id h size w span p bytes f) (naming_at id h size w bytes f)
  name_begins = record { needs = can; cut = λ c cut. cut }

  pub named_ends : (c : List ℕ) → (b : List ℕ) × AddedPage g Data (is_data id span bytes g) a b p × (c ≡ programmed b (w * g.page + slot_at g span) asked) → Finishes g a c (renewing_from id h (Grow end) (written (length f.bytes) bytes f)) (naming_at id h size w bytes f)
  named_ends c (b, q, done) = name_ends b q c done

-- ---- the entry is found

-- bytes that were read
pub slot_told : (g : Geometry) (image : List ℕ) (id t w at : ℕ) (read : List ℕ) → index_page g (own (live_at g image) id) (index_span g t) ≡ Some w → at ≡ slot_at g t → read ≡ slice_range (page_of g image w) at (at + 2) → ((k : ℕ) → slice_index read k < 256) → IsSlotPage g image id t w
slot_told g image id t w at read first place is small = record {
  at = first;
  small = λ k within.
      let size : at + 2 - at ≡ 2 = omega arith in
      let byte : slice_index read k ≡ slice_index (page_of g image w) (at + k) =
      ap (λ (l : List ℕ). get_or l k 0) is ∙ get_or-take (at + 2 - at) (drop at (page_of g image w)) k 0 (omega (arith, within, size)) ∙ get_or-drop at (page_of g image w) k 0 in
      subst (λ (n : ℕ). slice_index (page_of g image w) (n + k) < 256) place (subst (λ (n : ℕ). n < 256) byte (small k));
}

-- a further index page that is wanted is there
pub name_at : (g : Geometry) (a : List ℕ) (id h size span w : ℕ) (bytes : List ℕ) (f : File) → span ≡ size / body g → CanAppendAt g a id h size bytes f → IsSlotPage g a id span w → Finishes g a a (naming_at id h size w bytes f) (appending_at id h size bytes f)
name_at g a id h size span w bytes f span_is can slot = record { needs = record { at = can; slot = subst (λ (t : ℕ). IsSlotPage g a id t w) span_is slot }; cut = λ c cut. cut; done = λ c ok done. done }
