-- The copy of an index page in the bytes for work.
use Rattle.std.proofs.Common.{◌≡◌, ℕ, ◌+◌, ◌-◌, ◌*◌, ◌/◌, ◌%◌, ◌<◌, ◌≤◌, List, ◌∷◌, ◌++◌, length, take, drop, set, slice_index, get_or, true, Some, None, ap, refl, sym, ◌∙◌, arith, subst}
use Rattle.std.proofs.Math.Nat.{div-eq_of_lt}
use Rattle.std.proofs.lemmas.List.{drop-take, drop_more, take_at, get_or-take, get_or_append_left}
use Rattle.geometry.specs.declared.geometry.Geometry.{Geometry}
use Rattle.table_model.specs.declared.error.Tag.{Tag}
use Rattle.table_model.specs.Room.{data_pages}
use Rattle.flash_view.specs.declared.kinds.Kind.TheVariants.{Index}
use Rattle.page_layout.specs.Layout.{header_at}
use Rattle.page_layout.specs.declared.header.PageHeader.{PageHeader}
use Rattle.image_model.specs.Within.{sizes, page_length}
use Rattle.image_model.specs.Headers.{obj_id, span_of, names_index, size_of}
use Rattle.image_model.specs.Live.{live_at, own}
use Rattle.image_model.specs.Places.{page_of, IsImage}
use Rattle.image_model.specs.Files.{index_page}
use Rattle.image_model.specs.Kinds.{is_index_page}
use Rattle.image_laws.proofs.Finish.{own-parts}
use Rattle.image_laws.proofs.Frames.{LivePage, live_parts}
use Rattle.image_laws.proofs.Judge.{index_passes}
use Rattle.image_laws.proofs.Placing.{page_byte}
use Rattle.page_put.specs.Placing.{placed_page}
use Rattle.page_renew.specs.Copies.{count_of, kept_of, IsCopy}
use Rattle.page_renew.specs.Built.{IsBuilt}
use Rattle.page_renew.proofs.Homes.{some_index, index_some}

-- ---- how many data pages a file has

pub count_none : (g : Geometry) (image : List ℕ) (id : ℕ) → None ≡ index_page g (own (live_at g image) id) 0 → 0 ≡ count_of g image id
unfolding count_of
count_none g image id none =
    let big : 128 ≤ g.page = (sizes g).page in
    let zero : data_pages g 0 ≡ 0 = div-eq_of_lt (omega (arith, big)) in
    rw (← none) (sym zero)

pub count_some : (g : Geometry) (image : List ℕ) (id h size : ℕ) → Some h ≡ index_page g (own (live_at g image) id) 0 → size ≡ size_of (page_of g image h) → data_pages g size ≡ count_of g image id
unfolding count_of
count_some g image id h size at is =
    let passes = index_passes g (own (live_at g image) id) 0 h (sym at) in
    let x = index_some (own (live_at g image) id h) 0 passes in
    let w = own-parts (live_at g image) id h x.0 x.1 in
    let parts : LivePage g image h x.0 = live_parts g image h x.0 w.0 in
    let there : own (live_at g image) id h ≡ Some (page_of g image h) = x.1 ∙ ap (λ (l : List ℕ). Some l) (sym parts.bytes) in
    rw (← at) (rw there (ap (data_pages g) is))

-- ---- the page that is placed

pub high_id : (x : List ℕ) → names_index x ≡ true → 0x8000 ≤ obj_id x
high_id x h = grind arith

-- the bytes that are placed of an index page that stands in the bytes for work
pub placed_index : (n : ℕ) (tag : Tag) (work y old : List ℕ) → 128 ≤ n → length y ≡ n → y ≡ take n work → names_index old ≡ true → tag.id ≡ obj_id old % 0x8000 → tag.span ≡ span_of old →
    ((k : ℕ) → k < 4 → get_or y k 0 ≡ get_or old k 0) → ((k : ℕ) → k < 4 → get_or work k 0 < 256) →
    ((tag.id + 0x8000) % 256 ∷ (tag.id + 0x8000) / 256 ∷ tag.span % 256 ∷ tag.span / 256 ∷ 0xFA ∷ take (n - 5) (drop 5 work)) ≡ set y 4 0xFA
placed_index n tag work y old big len is_y index id span head small =
    let low : (k : ℕ) → k < 4 → get_or y k 0 ≡ get_or work k 0 = λ k below. rw is_y (get_or-take n work k 0 (omega arith)) in
    let e0 : get_or y 0 0 ≡ get_or old 0 0 = head 0 (omega arith) in
    let e1 : get_or y 1 0 ≡ get_or old 1 0 = head 1 (omega arith) in
    let e2 : get_or y 2 0 ≡ get_or old 2 0 = head 2 (omega arith) in
    let e3 : get_or y 3 0 ≡ get_or old 3 0 = head 3 (omega arith) in
    let y0 : get_or y 0 0 < 256 = rw (low 0 (omega arith)) (small 0 (omega arith)) in
    let y1 : get_or y 1 0 < 256 = rw (low 1 (omega arith)) (small 1 (omega arith)) in
    let y2 : get_or y 2 0 < 256 = rw (low 2 (omega arith)) (small 2 (omega arith)) in
    let y3 : get_or y 3 0 < 256 = rw (low 3 (omega arith)) (small 3 (omega arith)) in
    let high : 0x8000 ≤ obj_id old = high_id old index in
    let f0 : (tag.id + 0x8000) % 256 ≡ get_or y 0 0 = omega (arith, id, high, e0, e1, y0, y1) in
    let f1 : (tag.id + 0x8000) / 256 ≡ get_or y 1 0 = omega (arith, id, high, e0, e1, y0, y1) in
    let f2 : tag.span % 256 ≡ get_or y 2 0 = omega (arith, span, e2, e3, y2, y3) in
    let f3 : tag.span / 256 ≡ get_or y 3 0 = omega (arith, span, e2, e3, y2, y3) in
    let d0 : y ≡ get_or y 0 0 ∷ drop 1 y = drop_more y 0 0 (omega arith) in
    let d1 : drop 1 y ≡ get_or y 1 0 ∷ drop 2 y = drop_more y 1 0 (omega arith) in
    let d2 : drop 2 y ≡ get_or y 2 0 ∷ drop 3 y = drop_more y 2 0 (omega arith) in
    let d3 : drop 3 y ≡ get_or y 3 0 ∷ drop 4 y = drop_more y 3 0 (omega arith) in
    let d4 : drop 4 y ≡ get_or y 4 0 ∷ drop 5 y = drop_more y 4 0 (omega arith) in
    let rest : take (n - 5) (drop 5 work) ≡ drop 5 y = rw is_y (sym (drop-take 5 (n - 5) work) ∙ ap (λ (m : ℕ). drop 5 (take m work)) (omega arith)) in
    let whole : y ≡ get_or y 0 0 ∷ get_or y 1 0 ∷ get_or y 2 0 ∷ get_or y 3 0 ∷ get_or y 4 0 ∷ drop 5 y = cc in
    rw (f0, f1, f2, f3, rest) (sym (ap (λ (l : List ℕ). set l 4 0xFA) whole))

pub built_page : (g : Geometry) (image : List ℕ) (o : ℕ) (tag : Tag) (work : List ℕ) → IsImage g image → IsBuilt g image o tag work → placed_page g Index tag work ≡ set (take g.page work) 4 0xFA
built_page g image o tag work is built =
    let big : 128 ≤ g.page = (sizes g).page in
    let parts : LivePage g image o built.old = live_parts g image o built.old built.live in
    let len : length built.old ≡ g.page = ap length (sym parts.bytes) ∙ page_length g image o is parts.entry_page in
    placed_index g.page tag work (take g.page work) built.old big (built.copied.size ∙ len) refl built.index built.id built.span
    (λ k below. built.copied.head k (omega arith)) (λ k below. built.small k (omega arith))

-- ---- from the calls that build it

pub built_by : (g : Geometry) (image : List ℕ) (o : ℕ) (head : PageHeader) (id count kept n : ℕ) (loaded page rest : List ℕ) → IsImage g image → is_index_page (live_at g image o) ≡ true → head ≡ header_at (page_of g image o) → id ≡ head.id % 0x8000 → count ≡ count_of g image id →
    kept ≡ kept_of g head.span count → take g.page loaded ≡ page_of g image o → n ≡ g.page → IsCopy g head.span kept (take n loaded) page → ((k : ℕ) → get_or (take n loaded) k 0 < 256) → ((k : ℕ) → get_or page k 0 < 256) →
    IsBuilt g image o (record { id = id; span = head.span }) (page ++ rest)
built_by g image o head id count kept n loaded page rest is index is_head is_id is_count is_kept is_loaded whole copy small small_now =
    let big : 128 ≤ g.page = (sizes g).page in
    let w = some_index (live_at g image o) index in
    let parts : LivePage g image o w.0 = live_parts g image o w.0 w.1 in
    let same : take n loaded ≡ page_of g image o = ap (λ (m : ℕ). take m loaded) whole ∙ is_loaded in
    let old : take n loaded ≡ w.0 = same ∙ parts.bytes in
    let len : length page ≡ g.page = copy.size ∙ ap length same ∙ page_length g image o is parts.entry_page in
    let head_is : head ≡ header_at w.0 = is_head ∙ ap header_at parts.bytes in
    let span : head.span ≡ span_of w.0 = ap (λ (h : PageHeader). h.span) head_is in
    let id_is : id ≡ obj_id w.0 % 0x8000 = is_id ∙ ap (λ (h : PageHeader). h.id % 0x8000) head_is in
    let counted : count ≡ count_of g image (obj_id w.0 % 0x8000) = is_count ∙ ap (count_of g image) id_is in
    let cut : take g.page (page ++ rest) ≡ page = take_at page rest g.page len in
    let kept_is : kept ≡ kept_of g (span_of w.0) (count_of g image (obj_id w.0 % 0x8000)) = is_kept ∙ ap (λ (n : ℕ). kept_of g n count) span ∙ ap (kept_of g (span_of w.0)) counted in
    record {
      old = w.0;
      live = w.1;
      index = w.2;
      copied = rw cut (copy_as g span kept_is old copy);
      id = id_is;
      span = span;
      small = λ k below. rw (get_or_append_left page rest 0 k (omega (arith, below, len))) (small_now k);
      flags = let here : slice_index (page_of g image o) 4 ≡ slice_index image (o * g.page + 4) = page_byte g image o 4 (omega arith) in
          rw (← here, ← same) (small 4);
    }
  where
    copy_as : (g : Geometry) {s t m n : ℕ} {x y z : List ℕ} → s ≡ t → m ≡ n → x ≡ y → IsCopy g s m x z → IsCopy g t n y z
    copy_as g {s} {t} {m} {n} {x} {y} {z} one two three copy =
        subst (λ (l : List ℕ). IsCopy g t n l z) three (subst (λ (k : ℕ). IsCopy g t k x z) two (subst (λ (k : ℕ). IsCopy g k m x z) one copy))
