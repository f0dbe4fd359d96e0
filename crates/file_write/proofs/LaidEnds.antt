-- Once the data pages of an append are put, the header page that names them tells its bytes.
use Rattle.std.proofs.Common.{◌≡◌, ◌≢◌, ℕ, ◌+◌, ◌-◌, ◌*◌, ◌/◌, ◌%◌, ◌<◌, ◌≤◌, ◌⊎◌, List, length, take, drop, min, slice_index, Bool, true, false, Some, Ok, ap, refl, sym, ◌∙◌, arith, subst, ⊎_elim, inl, inr, Bor}
use Rattle.std.specs.Prelude.{is_some, slice_range, nat_lt, if◌then◌else◌}
use Rattle.std.proofs.Math.Nat.{div-add-mod, mul-add-div, mul-le-mul_left}
use Rattle.std.proofs.lemmas.Bool.{cases_lt, cases_eq, eq-eqb, lt-ltb}
use Rattle.std.proofs.lemmas.List.{length-take, length-drop}
use Rattle.std.proofs.lemmas.Option.{same_Some}
use Rattle.geometry.specs.declared.geometry.Geometry.{Geometry}
use Rattle.geometry.specs.Numbers.{body, head_slots}
use Rattle.table_model.specs.Table.{File, put_file}
use Rattle.table_model.specs.Files.{written}
use Rattle.table_model.specs.Room.{data_pages}
use Rattle.image_model.specs.Within.{sizes}
use Rattle.image_model.specs.Headers.{span_of, size_of}
use Rattle.image_model.specs.Live.{live_at, own}
use Rattle.image_model.specs.Files.{data_of, data_page, entry_number}
use Rattle.image_model.specs.Collect.{are_had}
use Rattle.image_model.specs.Tidy.{serves}
use Rattle.image_laws.specs.Reindex.{slot_word}
use Rattle.flash_view.specs.Steps.{Finishes}
use Rattle.renew_laws.specs.Append.{page_part}
use Rattle.renew_laws.specs.Tails.{HasFreeEntries, HasCleanBytes}
use Rattle.renew_laws.proofs.Appended.{ceil-low}
use Rattle.renew_laws.proofs.Serves.{serves_data}
use Rattle.renew_laws.proofs.Spans.{span-is_named}
use Rattle.page_renew.specs.declared.edits.Edit.TheVariants.{GrowBy}
use Rattle.page_renew.specs.Edits.{IsEdited}
use Rattle.page_renew.specs.Renewals.{renewing_from}
use Rattle.page_renew.proofs.EditsLead.{names-next, grows-in_many}
use Rattle.file_write.specs.Appends.{CanAppendAt, pages_most, append_room, appending_at}
use Rattle.file_write.specs.Batches.{IsPart, IsLaid}
use Rattle.file_write.proofs.AppendEnds.{IsReady, ends}
use Rattle.file_write.proofs.LastPage.{room_is}
use Rattle.file_write.proofs.Sizes.{whole_pages, next_pages}

-- each part of some bytes has a page
pub part_below : (g : Geometry) (n i : ℕ) → i * body g < n → i < data_pages g n
part_below g n i low =
    let all : n ≤ body g * data_pages g n = ceil-low n (body g) (omega (arith, (sizes g).page)) in
    ⊎_elim
    (λ (less : i < data_pages g n). less)
    (λ (more : data_pages g n ≤ i).
    let step : body g * data_pages g n ≤ body g * i = mul-le-mul_left (body g) more in
    let turned : body g * i ≡ i * body g = omega arith in
    absurd (omega (arith, all, step, turned, low)))
    (cases_lt i (data_pages g n))

-- the last part of bytes that don't end with a page
pub last_part : (g : Geometry) (bytes : List ℕ) → length bytes % body g ≢ 0 → (length bytes / body g < data_pages g (length bytes)) × (length (page_part g bytes (length bytes / body g)) ≡ length bytes % body g)
last_part g bytes some =
    let whole : body g * (length bytes / body g) + length bytes % body g ≡ length bytes = div-add-mod (length bytes) (body g) in
    let low : length bytes % body g < body g = (let big = (sizes g).page in omega (arith, big)) in
    let turned : body g * (length bytes / body g) ≡ length bytes / body g * body g = omega arith in
    let cut : length (page_part g bytes (length bytes / body g)) ≡ min (body g) (length (drop (length bytes / body g * body g) bytes)) = length-take (body g) (drop (length bytes / body g * body g) bytes) in
    let rest : length (drop (length bytes / body g * body g) bytes) ≡ length bytes - length bytes / body g * body g = length-drop (length bytes / body g * body g) bytes in
    (part_below g (length bytes) (length bytes / body g) (omega (arith, whole, turned, some)), omega (arith, cut, rest, whole, turned, low))

module _ (g : Geometry) (a b : List ℕ) (id h size : ℕ) (bytes : List ℕ) (f : File) (n : ℕ) (pages : Bor (List ℕ)) (laid : IsLaid g a id h size bytes f n pages.now b) (all : n ≡ data_pages g (length bytes)) (count_is : length pages.now ≡ n)
    (whole : size % body g ≡ 0) (near : size / body g + n ≤ head_slots g) (end : ℕ) (end_is : end ≡ size + length bytes) where
  abbrev can : CanAppendAt g a id h size bytes f
  can = laid.can

  none : size_of can.head % body g ≡ 0
  none = subst (λ (k : ℕ). k % body g ≡ 0) can.told whole

  count : data_pages g (size_of can.head) ≡ size_of can.head / body g
  count = whole_pages g (size_of can.head) none

  span_is : size / body g ≡ size_of can.head / body g
  span_is = ap (λ (k : ℕ). k / body g) can.told

  grown : end ≡ size_of can.head + length bytes
  grown = end_is ∙ ap (λ (k : ℕ). k + length bytes) can.told

  later : data_pages g end ≡ size_of can.head / body g + n
  later = ap (λ (k : ℕ). data_pages g k) grown ∙ next_pages g (size_of can.head) (length bytes) none ∙ ap (λ (k : ℕ). size_of can.head / body g + k) (sym all)

  -- the edited header page names each of them
  named : (y : List ℕ) → IsEdited g can.head (GrowBy end pages) y → (i : ℕ) → i < n → (part : IsPart g id size bytes b i (slice_index pages.now i)) →
      (entry_number g (own (live_at g b) id) y (size_of can.head / body g + i) ≡ Some (slice_index pages.now i)) × (data_page g (own (live_at g b) id) y (size_of can.head / body g + i) ≡ Some part.page)
  named y edited i low part =
      let below : data_pages g (size_of can.head) + i < head_slots g = omega (arith, count, span_is, near, low) in
      let slot : slot_word g y (data_pages g (size_of can.head) + i) ≡ slice_index pages.now i = names-next g can.head y (GrowBy end pages) pages.now refl edited i (omega (arith, low, count_is)) below in
      let slot_here : slot_word g y (size_of can.head / body g + i) ≡ slice_index pages.now i = subst (λ (k : ℕ). slot_word g y (k + i) ≡ slice_index pages.now i) count slot in
      span-is_named g (own (live_at g b) id) y (size_of can.head / body g + i) (slice_index pages.now i) part.page (inl (omega (arith, below, count), slot_here)) part.there part.is.kind (part.is.at ∙ ap (λ (k : ℕ). k + i) span_is)

  -- behind the last byte stands 0xFF
  last : (y : List ℕ) → IsEdited g can.head (GrowBy end pages) y → HasCleanBytes g (own (live_at g b) id) y
  last y edited z more there k low high =
      let size_y : size_of y ≡ size_of can.head + length bytes = edited.size ∙ grown in
      let front : body g * (size_of can.head / body g) + size_of can.head % body g ≡ size_of can.head = div-add-mod (size_of can.head) (body g) in
      let long : size_of y ≡ body g * (size_of can.head / body g) + length bytes = omega (arith, size_y, front, none) in
      let at : size_of y / body g ≡ size_of can.head / body g + length bytes / body g = ap (λ (m : ℕ). m / body g) long ∙ mul-add-div (let big = (sizes g).page in omega (arith, big)) (size_of can.head / body g) (length bytes) in
      let again : body g * (size_of y / body g) + size_of y % body g ≡ size_of y = div-add-mod (size_of y) (body g) in
      let parts : body g * (length bytes / body g) + length bytes % body g ≡ length bytes = div-add-mod (length bytes) (body g) in
      let product : body g * (size_of y / body g) ≡ body g * (size_of can.head / body g + length bytes / body g) = ap (λ (m : ℕ). body g * m) at in
      let sum : body g * (size_of can.head / body g + length bytes / body g) ≡ body g * (size_of can.head / body g) + body g * (length bytes / body g) = omega arith in
      let rest : size_of y % body g ≡ length bytes % body g = omega (arith, long, again, parts, product, sum) in
      let some : length bytes % body g ≢ 0 = λ e. more (rest ∙ e) in
      let l = last_part g bytes some in
      let below : length bytes / body g < n = omega (arith, l.0, all) in
      let part = laid.parts (length bytes / body g) below in
      let page = (named y edited (length bytes / body g) below part).1 in
      let same : part.page ≡ z = same_Some part.page z (sym page ∙ ap (data_page g (own (live_at g b) id) y) (sym at) ∙ there) in
      subst (λ (x : List ℕ). slice_index x k ≡ 0xFF) same (part.is.erased k (omega (arith, low, rest, l.1)) high)

  ready : IsReady g a id h size bytes f can b (GrowBy end pages)
  ready = record {
    beside = laid.beside;
    prime = laid.prime;
    grows = grows-in_many g a b id h can.head bytes f laid.beside (GrowBy end pages) laid.prime (record {
      adds = tt;
      takes = omega (arith, later, count, count_is);
      size = grown;
      some = can.can.some;
      whole = none;
      pages_are = λ y edited i low.
          let below : i < n = (let b = part_below g (length bytes) i low in omega (arith, b, all)) in
          let part = laid.parts i below in
          (part.page, (named y edited i below part).1, part.is.holds);
    });
    serve = λ y edited r e.
        let o = laid.only r e in
        let part = laid.parts o.0 o.1 in
        let size_y : size_of y ≡ end = edited.size in
        let below : size_of can.head / body g + o.0 < data_pages g (size_of y) = rw size_y (let less = o.1 in omega (arith, later, less)) in
        let some : is_some (data_of (own (live_at g b) id (slice_index pages.now o.0)) (size_of can.head / body g + o.0)) ≡ true =
        rw part.there (rw (part.is.kind, eq-eqb (span_of part.page) (size_of can.head / body g + o.0) (part.is.at ∙ ap (λ (k : ℕ). k + o.0) span_is)) refl) in
        subst (λ (q : ℕ). serves g (own (live_at g b) id) y q ≡ true) (sym o.2) (serves_data g (own (live_at g b) id) y (slice_index pages.now o.0) (size_of can.head / body g + o.0) below (named y edited o.0 o.1 part).0 some);
    last = last;
    free = λ r t k x there kind at high past.
        (laid.ready h can.head laid.prime.at laid.prime.header).entries r t k x there kind at high
        (let now = subst (λ (m : ℕ). data_pages g m ≤ t) (sym grown) past in omega (arith, now, later, count));
    had = let zero_left : data_pages g (length bytes) - n ≡ 0 = omega (arith, all) in subst (λ (k : ℕ). are_had g b 1 k ≡ true) zero_left laid.had;
    reserve = laid.reserve;
    wear = laid.wear;
  }

  pub laid_ends : Finishes g a b (renewing_from id h (GrowBy end pages) (written (length f.bytes) bytes f)) (appending_at id h size bytes f)
  laid_ends = ends g a id h size bytes f can b (GrowBy end pages) ready
