-- The data page of an append is put, and the further index page that names it.
use Rattle.std.proofs.Common.{◌≡◌, ◌≢◌, ℕ, ◌+◌, ◌-◌, ◌/◌, ◌%◌, ◌<◌, ◌≤◌, ◌⊎◌, List, length, slice_index, Bool, true, false, ◌==◌, ◌||◌, Option, Some, None, ap, refl, sym, ◌∙◌, arith, subst, ⊎_elim, inr}
use Rattle.std.specs.Prelude.{is_some, nat_le, slice_range}
use Rattle.std.proofs.lemmas.Bool.{cases_eq, eqb-true, eq-eqb, le-ltb, le-leb, or_cases}
use Rattle.std.proofs.lemmas.Option.{none-some, same_Some}
use Rattle.geometry.specs.declared.geometry.Geometry.{Geometry}
use Rattle.geometry.specs.Numbers.{body, head_slots, span_slots}
use Rattle.table_model.specs.Table.{File, put_file}
use Rattle.table_model.specs.Files.{written}
use Rattle.table_model.specs.Room.{data_pages, index_pages}
use Rattle.image_model.specs.Headers.{names_index, span_of, size_of}
use Rattle.image_model.specs.Live.{live_at, own}
use Rattle.image_model.specs.Files.{index_page, further, data_of, data_page, entry_number, index_span}
use Rattle.image_model.specs.Places.{is_entry_page}
use Rattle.image_model.specs.Collect.{are_had}
use Rattle.image_model.specs.Tables.{table_of}
use Rattle.image_model.specs.Tidy.{serves, HasReserve}
use Rattle.image_laws.proofs.Append.{own-live, own-some}
use Rattle.image_laws.proofs.Finish.{own-parts}
use Rattle.image_laws.proofs.Judge.{index_passes}
use Rattle.image_laws.proofs.Sounding.{keeps-on}
use Rattle.trim_laws.specs.Wear.{SameWear}
use Rattle.trim_laws.proofs.Wears.{wear_then, programs_keep}
use Rattle.flash_view.specs.declared.kinds.Kind.TheVariants.{Index, Data}
use Rattle.flash_view.specs.Steps.{Begins, Finishes}
use Rattle.free_search.specs.Had.{IsClear}
use Rattle.free_search.proofs.HadBy.{put_had, less_had}
use Rattle.renew_laws.specs.Primed.{Primed}
use Rattle.renew_laws.specs.Tails.{HasFreeEntries}
use Rattle.renew_laws.proofs.PrimeBeside.{prime-index}
use Rattle.renew_laws.proofs.PrimePlaces.{primed-places}
use Rattle.renew_laws.proofs.ReserveKept.{put-reserve}
use Rattle.renew_laws.proofs.Serves.{serves_data, serves_index}
use Rattle.renew_laws.proofs.Spans.{span-is_named}
use Rattle.page_renew.specs.declared.edits.Edit.TheVariants.{Grow}
use Rattle.page_renew.specs.Edits.{IsEdited}
use Rattle.page_renew.specs.PageSteps.{StepCut}
use Rattle.page_renew.specs.Renewals.{renewing_from}
use Rattle.page_renew.proofs.Homes.{index_some, of_kind}
use Rattle.page_renew.proofs.SlotNames.{slots_rise}
use Rattle.file_write.specs.Appends.{CanAppendAt, index_needed, indexing_data, appending_at}
use Rattle.file_write.specs.Beside.{HasPage, AddsPage, AddedPage, adding, is_data, is_further}
use Rattle.file_write.proofs.AppendEnds.{primed_clear, IsReadyIn, kept, ends_in}
use Rattle.file_write.proofs.AfterData.{data_begins, primed, its_page, still_clear, still_free, still_had, reserve, wear}
use Rattle.file_write.proofs.LastPage.{one_each, page_fits}
use Rattle.file_write.proofs.Sizes.{whole_pages, next_page, some_pages, span_behind, span_within}

module _ (g : Geometry) (a : List ℕ) (id h size span s p end : ℕ) (bytes : List ℕ) (f : File) (can : CanAppendAt g a id h size bytes f) (span_is : span ≡ size / body g) (whole : size % body g ≡ 0) (far : head_slots g ≤ span)
    (first : (span - head_slots g) % span_slots g ≡ 0) (s_is : s ≡ index_span g span) (end_is : end ≡ size + length bytes) where
  at_t : span ≡ size_of can.head / body g
  at_t = span_is ∙ ap (λ (n : ℕ). n / body g) can.told

  none : size_of can.head % body g ≡ 0
  none = subst (λ (n : ℕ). n % body g ≡ 0) can.told whole

  count : data_pages g (size_of can.head) ≡ span
  count = whole_pages g (size_of can.head) none ∙ sym at_t

  s_further : s ≡ further g span
  s_further = s_is ∙ rw (le-ltb span (head_slots g) far) refl

  -- two index pages are had
  two_each : are_had g a 2 1 ≡ true
  two_each =
      let long : length f.bytes ≡ size = can.long ∙ sym can.told in
      let one : (length f.bytes % body g == 0) ≡ true = eq-eqb _ 0 (ap (λ (n : ℕ). n % body g) long ∙ whole) in
      let place : length f.bytes / body g ≡ span = ap (λ (n : ℕ). n / body g) long ∙ sym span_is in
      let two : nat_le (head_slots g) (length f.bytes / body g) ≡ true = rw place (le-leb (head_slots g) span far) in
      let three : ((length f.bytes / body g - head_slots g) % span_slots g == 0) ≡ true = rw place (eq-eqb _ 0 first) in
      let needed : index_needed g (length f.bytes) ≡ 2 = rw (one, two, three) refl in
      less_had g a 2 (data_pages g (length bytes)) 2 1 (omega arith) (some_pages g (length bytes) can.can.some) (subst (λ (n : ℕ). are_had g a n (data_pages g (length bytes)) ≡ true) needed can.can.had)

  -- the data page is put first
  pub index_starts : Begins g a (adding Data (is_data id span bytes)) (indexing_data id h size span s p bytes f)
  index_starts = let b = data_begins g a id h size span bytes f can in record { needs = b.needs; cut = b.cut }

  module _ (b : List ℕ) (q : AddedPage g Data (is_data id span bytes g) a b p) where
    abbrev one : ℕ → Bool
    one r = false || (r == p)

    prime : Primed g id h can.head f one a b
    prime = primed g a id h size span bytes f can b p q

    its_b : own (live_at g b) id p ≡ Some q.page
    its_b = its_page g a id h size span bytes f can b p q

    clear_b : IsClear g b
    clear_b = still_clear g a id h size span bytes f can b p q

    reserve_b : HasReserve g a → HasReserve g b
    reserve_b = reserve g a id h size span bytes f can b p q

    wear_b : SameWear g a b
    wear_b = wear g a id h size span bytes f can b p q

    behind : index_pages g (size_of can.head) ≤ s
    behind =
        let far' : head_slots g ≤ data_pages g (size_of can.head) = rw count far in
        let first' : (data_pages g (size_of can.head) - head_slots g) % span_slots g ≡ 0 = rw count first in
        let law : index_pages g (size_of can.head) ≤ further g (data_pages g (size_of can.head)) = span_behind g (size_of can.head) far' first' in
        let same : further g (data_pages g (size_of can.head)) ≡ s = ap (λ (n : ℕ). further g n) count ∙ sym s_further in
        omega (arith, law, same)

    has_index : HasPage g Index b
    has_index = record { clear = clear_b; had = still_had g a id h size span bytes f can b p q 1 (one_each g a id h size bytes f can) }

    index_cut : (c : List ℕ) → (c ≡ b) ⊎ AddsPage g Index (is_further id s span p g) b c → StepCut g (put_file (written (length f.bytes) bytes f) (table_of g a)) a c
    index_cut c left = ⊎_elim
        (λ (same : c ≡ b). subst (λ (x : List ℕ). StepCut g (put_file (written (length f.bytes) bytes f) (table_of g a)) a x) (sym same) (kept g a id h size bytes f can b prime.keeps reserve_b wear_b))
        (λ (w : AddsPage g Index (is_further id s span p g) b c). kept g a id h size bytes f can c
        (keeps-on g a b c prime.keeps ((prime-index g a b id h w.p can.head w.page f one prime (of_kind g b w.p w.page w.found.kind_is w.is.kind) w.is.kind w.is.of (let same = w.is.at in omega (arith, behind, same))).0 c w.leaves))
        (λ two. put-reserve g b c w.p w.found.keeps w.leaves.agree (reserve_b two)) (wear_then g a b c wear_b (programs_keep g b c w.p w.leaves.agree)))
        left

    -- then the index page
    pub index_goes : Finishes g a b (adding Index (is_further id s span p)) (indexing_data id h size span s p bytes f)
    index_goes = record { needs = has_index; cut = index_cut; done = λ c r w. (b, q, w) }

    -- no index page of that span was there
    none_there : index_page g (own (live_at g b) id) s ≡ None
    none_there = by (index_page g (own (live_at g b) id) s) refl
      where
        by : (o : Option ℕ) → index_page g (own (live_at g b) id) s ≡ o → index_page g (own (live_at g b) id) s ≡ None
        by None e = e
        by (Some r) e =
            let passes = index_passes g (own (live_at g b) id) s r e in
            ⊎_elim
            (λ (spare : (false || (r == p)) ≡ true).
            let x = index_some (own (live_at g b) id r) s passes in
            let same : x.0 ≡ q.page = same_Some x.0 q.page (sym x.1 ∙ ap (own (live_at g b) id) (eqb-true r p spare) ∙ its_b) in
            let kind : names_index q.page ≡ true = subst (λ (z : List ℕ). names_index z ≡ true) same x.2 in
            let bad : true ≡ false = sym kind ∙ q.is.kind in absurd (cc))
            (λ v. absurd (omega (arith, behind, v.1)))
            ((primed-places g a b id h can.head f one prime).1 r s passes)

    module _ (c : List ℕ) (r : ℕ) (w : AddedPage g Index (is_further id s span p g) b c r) where
      abbrev two : ℕ → Bool
      two x = (false || (x == p)) || (x == r)

      law : Primed g id h can.head f two a c × (is_entry_page g r ≡ true → index_page g (own (live_at g b) id) (span_of w.page) ≡ None → index_page g (own (live_at g c) id) (span_of w.page) ≡ Some r)
      law = (prime-index g a b id h r can.head w.page f one prime (of_kind g b r w.page w.found.kind_is w.is.kind) w.is.kind w.is.of (let same = w.is.at in omega (arith, behind, same))).1 c w.put

      its_c : own (live_at g c) id p ≡ Some q.page
      its_c =
          let apart : p ≢ r = λ e. none-some q.page (sym w.put.gains.before ∙ ap (live_at g b) (sym e) ∙ (own-parts (live_at g b) id p q.page its_b).0) in
          own-live (live_at g b) (live_at g c) id p (w.put.gains.others p apart) ∙ its_b

      index_c : own (live_at g c) id r ≡ Some w.page
      index_c = own-some (live_at g c) id r w.page w.put.gains.after w.is.of

      found : index_page g (own (live_at g c) id) s ≡ Some r
      found = subst (λ (j : ℕ). index_page g (own (live_at g c) id) j ≡ Some r) w.is.at (law.1 w.found.page (subst (λ (j : ℕ). index_page g (own (live_at g b) id) j ≡ None) (sym w.is.at) none_there))

      later : data_pages g end ≡ span + 1
      later =
          let fits = page_fits g a id h size bytes f can (inr (subst (λ (n : ℕ). head_slots g ≤ n) span_is far)) in
          ap (λ (n : ℕ). data_pages g n) (end_is ∙ ap (λ (n : ℕ). n + length bytes) can.told) ∙ next_page g (size_of can.head) (length bytes) none can.can.some (omega (arith, fits, whole)) ∙ ap (λ (n : ℕ). n + 1) (sym at_t)

      named : (y : List ℕ) → (entry_number g (own (live_at g c) id) y span ≡ Some p) × (data_page g (own (live_at g c) id) y span ≡ Some q.page)
      named y = span-is_named g (own (live_at g c) id) y span p q.page (inr (far, r, w.page, ap (λ (j : ℕ). index_page g (own (live_at g c) id) j) (sym s_further) ∙ found, index_c, w.is.slot)) its_c q.is.kind q.is.at

      within : s < index_pages g end
      within =
          let far' : head_slots g ≤ data_pages g (size_of can.head) = rw count far in
          let first' : (data_pages g (size_of can.head) - head_slots g) % span_slots g ≡ 0 = rw count first in
          let more : data_pages g end ≡ data_pages g (size_of can.head) + 1 = rw count later in
          let all : further g (data_pages g (size_of can.head)) < index_pages g end = span_within g (size_of can.head) end more far' first' in
          let same : further g (data_pages g (size_of can.head)) ≡ s = ap (λ (n : ℕ). further g n) count ∙ sym s_further in
          omega (arith, all, same)

      serving : (y : List ℕ) → IsEdited g can.head (Grow end) y → (x : ℕ) → two x ≡ true → serves g (own (live_at g c) id) y x ≡ true
      serving y edited x e =
          let size_y : size_of y ≡ end = edited.size in
          ⊎_elim
          (λ (here : (false || (x == p)) ≡ true).
          let below : span < data_pages g (size_of y) = rw size_y (omega (arith, later)) in
          let some : is_some (data_of (own (live_at g c) id p) span) ≡ true = rw its_c (rw (q.is.kind, eq-eqb (span_of q.page) span q.is.at) refl) in
          subst (λ (k : ℕ). serves g (own (live_at g c) id) y k ≡ true) (sym (eqb-true x p here)) (serves_data g (own (live_at g c) id) y p span below (named y).0 some))
          (λ (here : (x == r) ≡ true).
          let below : s < index_pages g (size_of y) = rw size_y within in
          subst (λ (k : ℕ). serves g (own (live_at g c) id) y k ≡ true) (sym (eqb-true x r here)) (serves_index g (own (live_at g c) id) y r s below found))
          (or_cases _ _ e)

      -- the entries behind it are free
      free : HasFreeEntries g (own (live_at g c) id) (data_pages g (size_of can.head + length bytes))
      free x t k page is_x kind at_x high past low below =
          let now : span + 1 ≤ t = let n = subst (λ (m : ℕ). data_pages g m ≤ t) (sym (end_is ∙ ap (λ (m : ℕ). m + length bytes) can.told)) past in omega (arith, n, later) in
          ⊎_elim
          (λ (here : x ≡ r).
          let same : w.page ≡ page = same_Some w.page page (sym index_c ∙ ap (own (live_at g c) id) (sym here) ∙ is_x) in
          let spans : further g span ≡ further g t = sym s_further ∙ sym w.is.at ∙ ap span_of same ∙ at_x in
          let step = slots_rise g span t far (omega (arith, now)) spans in
          ap (λ (l : List ℕ). slice_index l k) (sym same) ∙ w.is.erased k (omega (arith, step, low, now)) below)
          (λ (other : x ≡ r → ⊥).
          still_free g a id h size span bytes f can b p q x t k page (sym (own-live (live_at g b) (live_at g c) id x (w.put.gains.others x other)) ∙ is_x) kind at_x high (omega (arith, now, count)) low below)
          (cases_eq x r)

      ready : IsReadyIn g a id h size bytes f can c (Grow end)
      ready = record {
        beside = two;
        z = q.page;
        prime = law.0;
        grows = record {
          adds = tt;
          takes = tt;
          size = omega (arith, end_is, can.told);
          some = can.can.some;
          fits = subst (λ (n : ℕ). n % body g + length bytes ≤ body g) can.told (page_fits g a id h size bytes f can (inr (subst (λ (n : ℕ). head_slots g ≤ n) span_is far)));
          holds = (let start : 5 ≡ 5 + size_of can.head % body g = omega (arith, none) in subst (λ (n : ℕ). slice_range q.page n (n + length bytes) ≡ bytes) start q.is.holds);
          page = λ y edited. subst (λ (t : ℕ). data_page g (own (live_at g c) id) y t ≡ Some q.page) at_t (named y).1;
        };
        erased = λ k low below. q.is.erased k (omega (arith, low)) below;
        free = free;
        serve = serving;
        had = (put_had g b c r w.page 1 0 clear_b (primed_clear g a c id h can.head f two law.0) w.put).0 w.found w.is.kind (still_had g a id h size span bytes f can b p q 2 two_each);
        reserve = λ before. put-reserve g b c r w.found.keeps w.put.agree (reserve_b before);
        wear = wear_then g a b c wear_b (programs_keep g b c r w.put.agree);
      }

      index_ends : Finishes g a c (renewing_from id h (Grow end) (written (length f.bytes) bytes f)) (appending_at id h size bytes f)
      index_ends = ends_in g a id h size bytes f can c (Grow end) ready

  -- both begin the append
  pub index_begins : Begins g a (indexing_data id h size span s p bytes f) (appending_at id h size bytes f)
  index_begins = record { needs = can; cut = λ c cut. cut }

  pub indexed_ends : (c : List ℕ) (r : ℕ) → (b : List ℕ) × AddedPage g Data (is_data id span bytes g) a b p × AddedPage g Index (is_further id s span p g) b c r → Finishes g a c (renewing_from id h (Grow end) (written (length f.bytes) bytes f)) (appending_at id h size bytes f)
  indexed_ends c r (b, q, w) = index_ends b q c r w

-- it has a span of its own
pub further_some : (g : Geometry) (t : ℕ) → head_slots g ≤ t → 0 < index_span g t
further_some g t high = rw (le-ltb t (head_slots g) high) (omega arith)
