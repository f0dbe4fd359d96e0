-- Killing pages.
use Rattle.std.proofs.Common.{◌≡◌, ◌≢◌, ℕ, ◌+◌, ◌*◌, ◌%◌, ◌<◌, ◌≤◌, List, [], ◌∷◌, slice_index, true, false, Option, Some, None, Result, Ok, ap, refl, sym, ◌∙◌, arith, ⊎_elim, inl, inr, subst}
use Rattle.std.proofs.Math.Path.{fun_ext}
use Rattle.std.specs.Prelude.{option_and_then}
use Rattle.std.specs.Option.{option_map}
use Rattle.std.specs.List.{range_with_len}
use Rattle.std.specs.Int.{bit_at}
use Rattle.std.proofs.lemmas.Bool.{cases_lt, cases_eq, ne_eqb, lt-ltb, le-ltb}
use Rattle.geometry.specs.declared.geometry.Geometry.{Geometry}
use Rattle.image_model.specs.Within.{sizes}
use Rattle.table_model.specs.Room.{data_pages}
use Rattle.geometry.specs.Numbers.{page_count, head_slots}
use Rattle.nor_core.specs.Flash.{SameOutside, HalfProgrammed}
use Rattle.image_model.specs.Within.{Sizes}
use Rattle.image_model.specs.Live.{live_at, Live, own}
use Rattle.image_model.specs.Headers.{is_finished, obj_id, size_of}
use Rattle.image_model.specs.Places.{page_of, is_entry_page, IsImage}
use Rattle.image_model.specs.declared.damage.Damage.{Damage}
use Rattle.table_model.specs.Table.{File}
use Rattle.image_model.specs.Tables.{Found, has_of, records, table_of, damaged_of, damages}
use Rattle.image_model.specs.Files.{is_index, index_page, further, entry_number, data_of, data_page, judged, found}
use Rattle.image_laws.specs.Changes.{Loses}
use Rattle.image_laws.specs.Programs.{IsIdle, KillingKeeps, EntryKeeps, KillingRetires}
use Rattle.image_laws.proofs.Bits.{one_bit_image}
use Rattle.image_model.specs.Within.{page_number}
use Rattle.image_laws.proofs.Placing.{page_byte, wider}
use Rattle.image_laws.proofs.Frames.{live_at-unfinished, live-page_other, live-entry_changed, live_parts, table_of-same, damaged_of-same}
use Rattle.image_laws.proofs.Tables.{find_without}
use Rattle.image_laws.proofs.Judge.{judged-same, judged-keyed, retired, IsHeadAtMost}
use Rattle.image_laws.proofs.Finish.{records-changed, own-parts}

pub deleted_from_flag : (page : List ℕ) → bit_at (slice_index page 4) 7 ≡ 0 → is_finished page ≡ false
unfolding is_finished
deleted_from_flag page h = grind arith

pub killing-loses : (g : Geometry) (a b : List ℕ) (p flags : ℕ) → IsImage g a → is_entry_page g p ≡ true → bit_at flags 7 ≡ 0 → HalfProgrammed (p * g.page + 4) (flags ∷ []) a b → slice_index b (p * g.page + 4) ≡ flags →
    Loses p (live_at g a) (live_at g b)
killing-loses g a b p flags is entry_page clear h done =
    let geo : Sizes g = (sizes g) in
    let big : 128 ≤ g.page = geo.page in
    let same : SameOutside (p * g.page) g.page a b = wider (p * g.page + 4) 1 (p * g.page) g.page a b (omega arith) (omega arith) h.outside in
    let byte : slice_index (page_of g b p) 4 ≡ slice_index b (p * g.page + 4) = page_byte g b p 4 (omega arith) in
    record {
      after = live_at-unfinished g b p (deleted_from_flag _ (rw byte (rw done clear)));
      others = λ q there. live-page_other g geo a b p entry_page same q there;
    }

module _ (p : ℕ) (page : List ℕ) (old new : Live) (was : old p ≡ Some page) (change : Loses p old new) where
  pub own-loses_other : (j : ℕ) → (obj_id page % 0x8000 ≡ j → ⊥) → own new j ≡ own old j
  unfolding own
  own-loses_other j differ =
      fun_ext (λ (q : ℕ). ⊎_elim
      (λ (here : q ≡ p). rw here (rw (was, change.after) (rw (ne_eqb _ j differ) refl)))
      (λ (there : q ≡ p → ⊥). rw (change.others q there) refl)
      (cases_eq q p))

  pub own-loses : (j : ℕ) → Loses p (own old j) (own new j)
  unfolding own
  own-loses j = record { after = rw change.after refl; others = λ q there. rw (change.others q there) refl }

-- ---- a page that its id does not need

module _ (g : Geometry) (p : ℕ) (pages now : Live) (change : Loses p pages now) where
  pub index-loses : (span : ℕ) → index_page g pages span ≢ Some p → index_page g now span ≡ index_page g pages span
  unfolding index_page
  index-loses span differ =
      find_without (λ (q : ℕ). is_index (pages q) span) (λ (q : ℕ). is_index (now q) span) p (range_with_len 0 (page_count g))
      (λ q there. rw (change.others q there) refl) (rw change.after refl) differ

  pub bytes-loses : (o : Option ℕ) → o ≢ Some p → option_and_then now o ≡ option_and_then pages o
  bytes-loses None differ = refl
  bytes-loses (Some q) differ = change.others q (λ e. differ (ap (λ (x : ℕ). Some x) e))

  data-loses : (span : ℕ) (o : Option ℕ) → o ≢ Some p → option_and_then (λ q. data_of (now q) span) o ≡ option_and_then (λ q. data_of (pages q) span) o
  data-loses span None differ = refl
  data-loses span (Some q) differ = rw (change.others q (λ e. differ (ap (λ (x : ℕ). Some x) e))) refl

  pub entry-loses : (head : List ℕ) (span : ℕ) → (head_slots g ≤ span → index_page g pages (further g span) ≢ Some p) → entry_number g now head span ≡ entry_number g pages head span
  unfolding entry_number
  entry-loses head span differ =
      ⊎_elim
      (λ (low : span < head_slots g). rw (lt-ltb span (head_slots g) low) refl)
      (λ (high : head_slots g ≤ span). rw (le-ltb span (head_slots g) high)
      (rw (index-loses (further g span) (differ high)) (rw (bytes-loses (index_page g pages (further g span)) (differ high)) refl)))
      (cases_lt span (head_slots g))

  data_page-loses : (head : List ℕ) (span : ℕ) → (head_slots g ≤ span → index_page g pages (further g span) ≢ Some p) → entry_number g pages head span ≢ Some p → data_page g now head span ≡ data_page g pages head span
  unfolding data_page
  data_page-loses head span index other = rw (entry-loses head span index) (data-loses span (entry_number g pages head span) other)

  judged-loses : (id : ℕ) (head : List ℕ) → ((span : ℕ) → span < data_pages g (size_of head) → (head_slots g ≤ span → index_page g pages (further g span) ≢ Some p) × (entry_number g pages head span ≢ Some p)) →
      judged g now id head ≡ judged g pages id head
  judged-loses id head idle = judged-same g pages now id head (λ span below. let w = idle span below in data_page-loses head span w.0 w.1)

  head_at : (id h : ℕ) (o : Option (List ℕ)) → ((head : List ℕ) → o ≡ Some head → judged g now id head ≡ judged g pages id head) →
      option_map {U = ℕ × Result File Damage} (λ head. (h, judged g now id head)) o ≡ option_map (λ head. (h, judged g pages id head)) o
  head_at id h None same = refl
  head_at id h (Some head) same = rw (same head refl) refl

  pub found_at : (id : ℕ) (o : Option ℕ) → o ≢ Some p → ((h : ℕ) (head : List ℕ) → o ≡ Some h → pages h ≡ Some head → judged g now id head ≡ judged g pages id head) →
      option_and_then {U = ℕ × Result File Damage} (λ h. option_map (λ head. (h, judged g now id head)) (now h)) o ≡
      option_and_then {U = ℕ × Result File Damage} (λ h. option_map (λ head. (h, judged g pages id head)) (pages h)) o
  found_at id None differ same = refl
  found_at id (Some h) differ same = rw (change.others h (λ e. differ (ap (λ (x : ℕ). Some x) e))) (head_at id h (pages h) (λ head b. same h head refl b))

  pub found-loses : IsIdle g pages p → (id : ℕ) → found g now id ≡ found g pages id
  unfolding found
  found-loses idle id =
      rw (index-loses 0 idle.no_header)
      (found_at id (index_page g pages 0) idle.no_header (λ h head e b. judged-loses id head (idle.no_page h head e b)))

module _ (p : ℕ) (page : List ℕ) (old new : Live) (was : old p ≡ Some page) (change : Loses p old new) where
  pub has_of-loses : (g : Geometry) → IsIdle g (own old (obj_id page % 0x8000)) p → has_of g new ≡ has_of g old
  unfolding has_of
  has_of-loses g idle =
      fun_ext (λ (j : ℕ). ⊎_elim
      (λ (here : obj_id page % 0x8000 ≡ j). found-loses g p (own old j) (own new j) (own-loses p page old new was change j) (subst (λ (k : ℕ). IsIdle g (own old k) p) here idle) j)
      (λ (there : obj_id page % 0x8000 ≡ j → ⊥). ap (λ (pages : Live). found g pages j) (own-loses_other p page old new was change j there))
      (cases_eq (obj_id page % 0x8000) j))

pub killing-keeps : (g : Geometry) → KillingKeeps g
unfolding table_of damaged_of
killing-keeps g a b p flags page is live clears idle h =
    ⊎_elim
    (λ (same : b ≡ a). (ap (λ (x : List ℕ). table_of g x) same, ap (λ (x : List ℕ). damaged_of g x) same))
    (λ (done : slice_index b (p * g.page + 4) ≡ flags).
    let change = killing-loses g a b p flags is (live_parts g a p page live).entry_page clears.cleared h done in
    let has = has_of-loses p page (live_at g a) (live_at g b) live change g idle in
    (ap (λ (x : Found). records x 0x7FFF) has, ap (λ (x : Found). damages x 0x7FFF) has))
    (one_bit_image 7 (p * g.page + 4) flags a b clears h)

pub entry-keeps : (g : Geometry) → EntryKeeps g
entry-keeps g a b p asked is entry_page unfinished two h =
    let live = live-entry_changed g (sizes g) a b p entry_page (rw two at h.outside) unfinished in
    (table_of-same g b a live, damaged_of-same g b a live)

-- ---- the old one of two header pages

pub killing-retires : (g : Geometry) → KillingRetires g
unfolding table_of damaged_of has_of
killing-retires g a b p q flags id old head f is clears two leads h =
    ⊎_elim
    (λ (same : b ≡ a). inl (ap (λ (x : List ℕ). table_of g x) same))
    (λ (done : slice_index b (p * g.page + 4) ≡ flags).
    let was = own-parts (live_at g a) id p old two.was in
    let here = own-parts (live_at g a) id q head two.is in
    let change = killing-loses g a b p flags is (live_parts g a p old was.0).entry_page clears.cleared h done in
    let mine = own-loses p old (live_at g a) (live_at g b) was.0 change id in
    let now : has_of g (live_at g b) id ≡ Some (q, Ok f) =
    retired g p (own (live_at g a) id) (own (live_at g b) id) (subst IsHeadAtMost (sym two.was) (two.old_head.index, two.old_head.first)) mine.after mine.others
    id q head (page_number g q (live_parts g a q head here.0).entry_page) two.differ two.is leads.is_head.index leads.is_head.first two.only
    ∙ ap (λ (r : Result File Damage). Some (q, r)) leads.file in
    inr (records-changed g a (live_at g b) id q f leads.low leads.high leads.undamaged leads.unused
    (judged-keyed g (own (live_at g a) id) id head f leads.file) now
    (λ j there. ap (λ (pages : Live). found g pages j) (own-loses_other p old (live_at g a) (live_at g b) was.0 change j (λ e. there (sym e ∙ was.1))))))
    (one_bit_image 7 (p * g.page + 4) flags a b clears h)
