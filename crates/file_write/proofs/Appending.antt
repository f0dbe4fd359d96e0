-- An append, from what is found of its file.
use Rattle.std.proofs.Common.{◌≡◌, ◌≢◌, ℕ, ◌+◌, ◌-◌, ◌/◌, ◌%◌, ◌<◌, ◌≤◌, List, length, true, false, Some, None, ap, refl, sym, ◌∙◌, arith, subst}
use Rattle.std.proofs.lemmas.Bool.{le-ltb}
use Rattle.std.proofs.lemmas.Option.{none-some, same_Some}
use Rattle.geometry.proofs.Bounds.{few_usable}
use Rattle.geometry.specs.declared.geometry.Geometry.{Geometry}
use Rattle.geometry.specs.Numbers.{body, head_slots, span_slots}
use Rattle.table_model.specs.Table.{File, put_file}
use Rattle.table_model.specs.Files.{written}
use Rattle.table_model.specs.Room.{data_pages, index_pages}
use Rattle.image_model.specs.Headers.{size_of}
use Rattle.image_model.specs.Live.{live_at, own}
use Rattle.image_model.specs.Files.{index_page, further, index_span}
use Rattle.image_model.specs.Places.{page_of, IsImage}
use Rattle.image_model.specs.Tables.{table_of}
use Rattle.image_laws.proofs.Finish.{own-parts}
use Rattle.image_laws.proofs.Frames.{live_parts}
use Rattle.image_laws.proofs.SpareKill.{tidy-has_magics}
use Rattle.image_laws.proofs.TidySteps.{tidy-is_tidy}
use Rattle.flash_view.specs.Steps.{Finishes}
use Rattle.header_laws.specs.Heads.{HasHead}
use Rattle.header_laws.proofs.Telling.{files-have_heads}
use Rattle.renew_laws.specs.Primed.{Primed}
use Rattle.renew_laws.proofs.PrimeBeside.{prime-starts}
use Rattle.renew_laws.proofs.PrimePlaces.{primed-places}
use Rattle.page_renew.specs.PageSteps.{StepCut}
use Rattle.page_renew.proofs.HeaderRenewed.{stays}
use Rattle.file_write.specs.Appends.{CanAppend, CanAppendAt, appending_at, appending}
use Rattle.file_write.proofs.Sizes.{whole_pages, next_pages, some_pages, span_has}

-- what stands is what a cut may leave
pub append_stays : (g : Geometry) (a : List ℕ) (id : ℕ) (bytes : List ℕ) (f : File) → CanAppend g a id bytes f → StepCut g (put_file (written (length f.bytes) bytes f) (table_of g a)) a a
append_stays g a id bytes f can = stays g a (put_file (written (length f.bytes) bytes f) (table_of g a)) (tidy-has_magics g a (λ (r : ℕ). false) ((tidy-is_tidy g a (λ (r : ℕ). false)).0 can.tidy))

module _ (g : Geometry) (a : List ℕ) (id : ℕ) (bytes : List ℕ) (f : File) (is : IsImage g a) (can : CanAppend g a id bytes f) where
  start : (h : ℕ) × (head : List ℕ) × Primed g id h head f (λ r. false) a a
  start = prime-starts g a id f is can.tidy can.there

  -- the file has a header page,
  pub home_there : index_page g (own (live_at g a) id) 0 ≡ None → ⊥
  home_there none = none-some start.0 (sym none ∙ start.2.at)

  -- and this is the one
  module _ (header size : ℕ) (at : index_page g (own (live_at g a) id) 0 ≡ Some header) (told : size ≡ size_of (page_of g a header)) where
    same : start.0 ≡ header
    same = same_Some start.0 header (sym start.2.at ∙ at)

    prime : Primed g id header start.1 f (λ r. false) a a
    prime = subst (λ (h : ℕ). Primed g id h start.1 f (λ r. false) a a) same start.2

    page_is : page_of g a header ≡ start.1
    page_is = (live_parts g a header start.1 (own-parts (live_at g a) id header start.1 prime.header).0).bytes

    heads : HasHead g a id f
    heads = files-have_heads g a is can.tidy id f can.there

    long : length f.bytes ≡ size_of start.1
    long =
        let place : heads.p ≡ header = same_Some heads.p header (sym heads.at ∙ at) in
        let page : heads.page ≡ start.1 = same_Some heads.page start.1 (sym heads.live ∙ ap (live_at g a) place ∙ (own-parts (live_at g a) id header start.1 prime.header).0) in
        heads.tells.size ∙ ap size_of page

    pub append_at : Finishes g a a (appending_at id header size bytes f) (appending id bytes f)
    append_at = record {
      needs = record { can = can; head = start.1; prime = prime; told = told ∙ ap size_of page_is; long = long };
      cut = λ c cut. cut;
      done = λ c ok done. done;
    }

module _ (g : Geometry) (a : List ℕ) (id h size : ℕ) (bytes : List ℕ) (f : File) (can : CanAppendAt g a id h size bytes f) (whole : size % body g ≡ 0) where
  -- the span of the new data page is a word
  pub span_few : size / body g ≤ 0xFFFF
  span_few =
      let all = next_pages g size (length bytes) whole in
      let one = some_pages g (length bytes) can.can.some in
      let same : data_pages g (length f.bytes + length bytes) ≡ data_pages g (size + length bytes) = ap (λ (n : ℕ). data_pages g (n + length bytes)) (can.long ∙ sym can.told) in
      let few = few_usable g in
      let most = can.can.few in
      omega (arith, all, one, same, few, most)

  -- its further index page is there where it isn't the first of that
  pub slot_there : (span : ℕ) → span ≡ size / body g → head_slots g ≤ span → (span - head_slots g) % span_slots g ≢ 0 → index_page g (own (live_at g a) id) (index_span g span) ≡ None → ⊥
  slot_there span span_is far other none =
      let count : data_pages g (size_of can.head) ≡ span = whole_pages g (size_of can.head) (subst (λ (n : ℕ). n % body g ≡ 0) can.told whole) ∙ ap (λ (n : ℕ). n / body g) (sym can.told) ∙ sym span_is in
      let below : further g (data_pages g (size_of can.head)) < index_pages g (size_of can.head) = span_has g (size_of can.head) (rw count far) (rw count (omega (arith, other))) in
      let same : further g (data_pages g (size_of can.head)) ≡ index_span g span = ap (λ (n : ℕ). further g n) count ∙ sym (rw (le-ltb span (head_slots g) far) refl) in
      let there = (primed-places g a a id h can.head f (λ r. false) can.prime).0 (index_span g span) (subst (λ (j : ℕ). j < index_pages g (size_of can.head)) same below) in
      let bad : false ≡ true = rw none at there in
      absurd (cc)
