-- The index page that names a data page of a tidy image.
use Rattle.std.proofs.Common.{◌≡◌, ◌≢◌, ℕ, ◌%◌, ◌<◌, ◌≤◌, ◌⊎◌, List, Bool, true, false, Option, Some, None, ap, refl, sym, ◌∙◌, arith, ⊎_elim}
use Rattle.std.specs.Prelude.{option_and_then}
use Rattle.std.specs.Option.{option_map}
use Rattle.std.proofs.lemmas.Option.{none-some}
use Rattle.geometry.specs.declared.geometry.Geometry.{Geometry}
use Rattle.table_model.specs.Room.{data_pages}
use Rattle.page_layout.specs.Layout.{header_at}
use Rattle.page_layout.specs.declared.header.PageHeader.{PageHeader}
use Rattle.image_model.specs.Headers.{obj_id, span_of, names_index, size_of}
use Rattle.image_model.specs.Live.{Live, live_at, own}
use Rattle.image_model.specs.Places.{page_of, is_entry_page, IsImage}
use Rattle.image_model.specs.Files.{index_page, entry_number, index_span}
use Rattle.image_model.specs.Tidy.{IsTidy}
use Rattle.image_model.specs.Kinds.{is_data_page}
use Rattle.image_laws.specs.Reindex.{slot_word}
use Rattle.image_laws.proofs.Finish.{own-parts, is_finished-zero}
use Rattle.image_laws.proofs.Frames.{LivePage, live_parts}
use Rattle.image_laws.proofs.Judge.{index_passes}
use Rattle.image_laws.proofs.Reindexed.{entry-slot}
use Rattle.image_laws.proofs.Tally.{is_finished-ones, served}
use Rattle.image_laws.proofs.TidySteps.{neat_of}
use Rattle.block_gc.specs.Batches.{IsNamedBy}
use Rattle.page_renew.proofs.IndexCopies.{high_id}
use Rattle.block_gc.proofs.BatchCopies.{some_data}
use Rattle.page_renew.proofs.Homes.{serves_data, own_of, index_some, Home}
use Rattle.block_gc.proofs.Replacing.{home_of}

live_data : (o : Option (List ℕ)) → is_data_page o ≡ true → (x : List ℕ) × (o ≡ Some x)
live_data None h = absurd (cc)
live_data (Some x) h = (x, refl)

no_entry : (o : Option ℕ) (pages : Live) (f : List ℕ → ℕ) (e : Option ℕ) (n : ℕ) → e ≡ option_map f (option_and_then pages o) → o ≡ None → e ≡ Some n → ⊥
no_entry o pages f e n is none some = let bad : None ≡ Some n = sym (is ∙ ap (λ (x : Option ℕ). option_map f (option_and_then pages x)) none) ∙ some in none-some n bad

module _ (g : Geometry) (image : List ℕ) (page : ℕ) (is : IsImage g image) (tidy : IsTidy g image) (is_data : is_data_page (live_at g image page) ≡ true) (head : PageHeader) (is_head : head ≡ header_at (page_of g image page))
    (id : ℕ) (is_id : id ≡ head.id % 0x8000) (span : ℕ) (is_span : span ≡ index_span g head.span) where
  there : (x : List ℕ) × (live_at g image page ≡ Some x)
  there = live_data (live_at g image page) is_data

  abbrev old : List ℕ
  old = there.0

  parts : LivePage g image page there.0
  parts = live_parts g image page there.0 there.1

  kind : names_index there.0 ≡ false
  kind = some_data (live_at g image page) there.0 there.1 is_data

  head_is : head ≡ header_at there.0
  head_is = is_head ∙ ap header_at parts.bytes

  id_of : id ≡ obj_id there.0 % 0x8000
  id_of = is_id ∙ ap (λ (h : PageHeader). h.id % 0x8000) head_is

  span_of_it : head.span ≡ span_of there.0
  span_of_it = ap (λ (h : PageHeader). h.span) head_is

  home : Home g image (obj_id there.0 % 0x8000)
  home = home_of g image is (neat_of tidy) page there.0 there.1

  mine : own (live_at g image) (obj_id there.0 % 0x8000) page ≡ Some there.0
  mine = own_of (live_at g image) page there.0 there.1

  named : (span_of there.0 < data_pages g (size_of home.head)) × (entry_number g (own (live_at g image) (obj_id there.0 % 0x8000)) home.head (span_of there.0) ≡ Some page)
  named = serves_data g (own (live_at g image) (obj_id there.0 % 0x8000)) home.head there.0 page mine kind (served g image is (neat_of tidy) (obj_id there.0 % 0x8000) home.h home.head home.at home.header page there.0 mine)

  span_at : span ≡ index_span g (span_of there.0)
  span_at = is_span ∙ ap (index_span g) span_of_it

  -- there is one
  pub one_found : None ≡ index_page g (own (live_at g image) id) span → ⊥
  one_found none =
      let gone : index_page g (own (live_at g image) (obj_id there.0 % 0x8000)) (index_span g (span_of there.0)) ≡ None =
      sym (none ∙ ap (λ (n : ℕ). index_page g (own (live_at g image) n) span) id_of ∙ ap (index_page g (own (live_at g image) (obj_id there.0 % 0x8000))) span_at) in
      no_entry _ (own (live_at g image) (obj_id there.0 % 0x8000)) (λ (l : List ℕ). slot_word g l (span_of there.0)) _ page
      (entry-slot g (own (live_at g image) (obj_id there.0 % 0x8000)) home.h home.head (span_of there.0) home.at home.header) gone named.1

  module _ (index : ℕ) (found : Some index ≡ index_page g (own (live_at g image) id) span) (owner : PageHeader) (is_owner : owner ≡ header_at (page_of g image index)) (its : ℕ) (is_its : its ≡ owner.id % 0x8000) where
    page_is : (x : List ℕ) × (own (live_at g image) id index ≡ Some x) × (names_index x ≡ true) × (span_of x ≡ span)
    page_is = index_some (own (live_at g image) id index) span (index_passes g (own (live_at g image) id) span index (sym found))

    whole : (live_at g image index ≡ Some page_is.0) × (obj_id page_is.0 % 0x8000 ≡ id)
    whole = own-parts (live_at g image) id index page_is.0 page_is.1

    its_page : LivePage g image index page_is.0
    its_page = live_parts g image index page_is.0 whole.0

    owner_id : owner.id ≡ obj_id page_is.0
    owner_id = ap (λ (h : PageHeader). h.id) (is_owner ∙ ap header_at its_page.bytes)

    its_id : its ≡ id
    its_id = is_its ∙ ap (λ (n : ℕ). n % 0x8000) owner_id ∙ whole.1

    -- its id is that of a file
    pub in_range : owner.id < 65536 → (its ≡ 0) ⊎ (0x7FFE < its) → ⊥
    in_range small out =
        let some : obj_id page_is.0 % 0x8000 ≢ 0 = λ z. let bad : false ≡ true = sym (is_finished-zero page_is.0 z) ∙ its_page.finished in absurd (cc) in
        let not_free : obj_id page_is.0 ≢ 0xFFFF = λ z. let bad : false ≡ true = sym (is_finished-ones page_is.0 z) ∙ its_page.finished in absurd (cc) in
        let high : 0x8000 ≤ obj_id page_is.0 = high_id page_is.0 page_is.2 in
        let e = owner_id in
        let same : its ≡ obj_id page_is.0 % 0x8000 = is_its ∙ ap (λ (n : ℕ). n % 0x8000) owner_id in
        ⊎_elim (λ (zero : its ≡ 0). some (sym same ∙ zero)) (λ (more : 0x7FFE < its). absurd (omega (arith, small, high, e, same, more, not_free))) out

    is_inside : is_entry_page g index ≡ true
    is_inside = its_page.entry_page

    pub inside_or : (b : Bool) → b ≡ is_entry_page g index → b ≡ false → ⊥
    inside_or b same out = let there = is_inside in cc

    pub found_for : IsNamedBy g image page index (record { id = its; span = head.span })
    found_for = record {
      of = record {
        bytes = there.0;
        is_live = there.1;
        id = its_id ∙ id_of ∙ low;
        span = span_of_it;
      };
      first = ap (λ (n : ℕ). index_page g (own (live_at g image) n) (index_span g head.span)) its_id ∙ ap (index_page g (own (live_at g image) id)) (sym is_span) ∙ sym found;
    }
      where
        low : obj_id there.0 % 0x8000 ≡ obj_id there.0
        low = let no = kind in let less : obj_id there.0 < 0x8000 = grind arith in omega arith
