-- Removing a file.
use Rattle.std.proofs.Common.{◌≡◌, ℕ, ◌+◌, ◌*◌, ◌<◌, ◌≤◌, ◌≢◌, ◌%◌, ◌⊎◌, List, [], ◌∷◌, slice_index, true, false, Some, None, Ok, ap, refl, sym, ◌∙◌, arith, ⊎_elim, inl, inr}
use Rattle.std.specs.Int.{bit_at}
use Rattle.std.specs.List.{range_with_len}
use Rattle.std.proofs.lemmas.Bool.{cases_eq, false_from_ne_true}
use Rattle.geometry.specs.declared.geometry.Geometry.{Geometry}
use Rattle.image_model.specs.Within.{sizes}
use Rattle.geometry.specs.Numbers.{page_count}
use Rattle.nor_core.specs.Flash.{SameOutside, HalfProgrammed}
use Rattle.image_model.specs.Within.{Sizes}
use Rattle.image_model.specs.Live.{live_at, Live, own}
use Rattle.image_model.specs.Headers.{is_finished, obj_id, names_index, span_of}
use Rattle.image_model.specs.Places.{page_of, IsImage}
use Rattle.image_model.specs.Files.{is_index, index_page, found}
use Rattle.image_model.specs.Tables.{Found, has_of, counted, damage, damages, table_of, damaged_of}
use Rattle.image_laws.specs.Changes.{Loses}
use Rattle.table_model.specs.Table.{File, drop_file}
use Rattle.image_laws.specs.Programs.{RemovingDrops, HasOneHead}
use Rattle.image_laws.proofs.Bits.{one_bit_image}
use Rattle.image_laws.proofs.Placing.{page_byte, wider}
use Rattle.image_laws.proofs.Frames.{LivePage, live_parts, live_at-unfinished, live-page_other}
use Rattle.image_laws.proofs.Tables.{find_none}
use Rattle.image_laws.proofs.Records.{IsKeyed, records-drop, counts-left, counted-left, filter_map-nil, names-apart}
use Rattle.image_laws.proofs.Undamaged.{filter_map-none, damage-quiet}
use Rattle.image_laws.proofs.Judge.{found_none}
use Rattle.image_laws.proofs.Finish.{own-parts, has_of-keyed, has_of-within, heads-apart}
use Rattle.image_laws.proofs.Kill.{own-loses, own-loses_other}

deleted : (page : List ℕ) → bit_at (slice_index page 4) 7 ≡ 0 → is_finished page ≡ false
unfolding is_finished
deleted page h = grind arith

removed : (page : List ℕ) → names_index page ≡ true → span_of page ≡ 0 → bit_at (slice_index page 4) 6 ≡ 0 → is_finished page ≡ false
unfolding is_finished
removed page index first h = grind (arith, index, first, h)

pub removing-loses : (g : Geometry) (a b : List ℕ) (p flags k : ℕ) (head : List ℕ) → IsImage g a → live_at g a p ≡ Some head → names_index head ≡ true → span_of head ≡ 0 → (k ≡ 6) ⊎ (k ≡ 7) → bit_at flags k ≡ 0 →
    HalfProgrammed (p * g.page + 4) (flags ∷ []) a b → slice_index b (p * g.page + 4) ≡ flags → Loses p (live_at g a) (live_at g b)
removing-loses g a b p flags k head is live index first kind clear h done =
    let geo : Sizes g = (sizes g) in
    let big : 128 ≤ g.page = geo.page in
    let parts : LivePage g a p head = live_parts g a p head live in
    let same : SameOutside (p * g.page) g.page a b = wider (p * g.page + 4) 1 (p * g.page) g.page a b (omega arith) (omega arith) h.outside in
    let byte : slice_index (page_of g b p) 4 ≡ flags = page_byte g b p 4 (omega arith) ∙ done in
    let field : (i : ℕ) → i < 4 → slice_index (page_of g b p) i ≡ slice_index head i =
    λ i small. page_byte g b p i (omega arith) ∙ h.outside.before (p * g.page + i) (omega arith) ∙ sym (page_byte g a p i (omega arith)) ∙ ap (λ (x : List ℕ). slice_index x i) parts.bytes in
    let b0 = field 0 (omega arith) in let b1 = field 1 (omega arith) in let b2 = field 2 (omega arith) in let b3 = field 3 (omega arith) in
    let id : obj_id (page_of g b p) ≡ obj_id head = cc in
    let span : span_of (page_of g b p) ≡ span_of head = cc in
    let index' : names_index (page_of g b p) ≡ true = rw id index in
    record {
      after = live_at-unfinished g b p (⊎_elim
          (λ (six : k ≡ 6). removed (page_of g b p) index' (span ∙ first) (rw byte (rw six at clear)))
          (λ (seven : k ≡ 7). deleted (page_of g b p) (rw byte (rw seven at clear)))
          kind);
      others = λ q there. live-page_other g geo a b p parts.entry_page same q there;
    }

gone : (g : Geometry) (pages now : Live) (p : ℕ) → Loses p pages now → ((r : ℕ) → is_index (pages r) 0 ≡ true → r ≡ p) → index_page g now 0 ≡ None
unfolding index_page
gone g pages now p change only =
    find_none (λ (r : ℕ). is_index (now r) 0) (range_with_len 0 (page_count g)) (λ r. false_from_ne_true _ (λ yes.
    ⊎_elim
    (λ (here : r ≡ p). let no : is_index (now r) 0 ≡ false = rw here (rw change.after refl) in cc)
    (λ (there : r ≡ p → ⊥). let yes' : is_index (pages r) 0 ≡ true = rw (change.others r there) at yes in there (only r yes'))
    (cases_eq r p)))

other-same : (g : Geometry) (old new : Live) (j : ℕ) → own new j ≡ own old j → has_of g new j ≡ has_of g old j
unfolding has_of
other-same g old new j e = ap (λ (pages : Live). found g pages j) e

-- where a file is gone nothing is damaged
module _ (has now : Found) (m : ℕ) (keyed : IsKeyed has) (k : ℕ) (new : now k ≡ None) (same : (j : ℕ) → j ≢ k → now j ≡ has j)
    (was_apart : (j q r : ℕ) (h e : File) → j ≢ k → has j ≡ Some (q, Ok h) → has k ≡ Some (r, Ok e) → e.name ≢ h.name) (none : damages has m ≡ []) where
  damages-drop : damages now m ≡ []
  unfolding damages
  damages-drop =
      filter_map-none (λ (j : ℕ). damage now m j (now j)) 1 m
      (λ j low high. ⊎_elim
      (λ (here : j ≡ k). let e : now j ≡ None = rw here new in rw e refl)
      (λ (there : j ≡ k → ⊥).
      rw (same j there) (damage-quiet has now m j (has j) (λ q h e. counts-left has now m keyed k new same was_apart j q h there e)
      (filter_map-nil (λ (i : ℕ). damage has m i (has i)) 1 m none j low high)))
      (cases_eq j k))

-- ---- the one header page of an id is gone

module _ (g : Geometry) (a b : List ℕ) (p id : ℕ) (head : List ℕ) (one : HasOneHead g a id p head) (change : Loses p (live_at g a) (live_at g b)) where
  here : (live_at g a p ≡ Some head) × (obj_id head % 0x8000 ≡ id)
  here = own-parts (live_at g a) id p head one.is

  pub headless_now : index_page g (own (live_at g b) id) 0 ≡ None
  headless_now = gone g (own (live_at g a) id) (own (live_at g b) id) p (own-loses p head (live_at g a) (live_at g b) here.0 change id) one.only

  has_gone : has_of g (live_at g b) id ≡ None
  unfolding has_of
  has_gone = found_none g (own (live_at g b) id) id headless_now

  pub others_left : (j : ℕ) → j ≢ id → own (live_at g b) j ≡ own (live_at g a) j
  others_left j there = own-loses_other p head (live_at g a) (live_at g b) here.0 change j (λ e. there (sym e ∙ here.1))

  has_left : (j : ℕ) → j ≢ id → has_of g (live_at g b) j ≡ has_of g (live_at g a) j
  has_left j there = other-same g (live_at g a) (live_at g b) j (others_left j there)

  apart : (j q r : ℕ) (x y : File) → j ≢ id → has_of g (live_at g a) j ≡ Some (q, Ok x) → has_of g (live_at g a) id ≡ Some (r, Ok y) → y.name ≢ x.name
  unfolding damaged_of
  apart j q r x y other e w =
      let c = has_of-within g a j q (Ok x) e in
      names-apart (has_of g (live_at g a)) 0x7FFF one.undamaged id j r q y x one.low one.high c.0 c.1 w e
      (λ z. heads-apart g (live_at g a) id j r q (Ok y) (Ok x) w e (λ v. other (sym v)) z)

  pub table_drops : table_of g b ≡ drop_file id (table_of g a)
  unfolding table_of
  table_drops = records-drop (has_of g (live_at g a)) (has_of g (live_at g b)) 0x7FFF (has_of-keyed g (live_at g a)) id has_gone has_left apart

  pub count_left : (j : ℕ) → j ≢ id → counted (has_of g (live_at g b)) 0x7FFF (has_of g (live_at g b) j) ≡ counted (has_of g (live_at g a)) 0x7FFF (has_of g (live_at g a) j)
  count_left = counted-left (has_of g (live_at g a)) (has_of g (live_at g b)) 0x7FFF (has_of-keyed g (live_at g a)) id has_gone has_left apart

  pub undamaged_left : damaged_of g b ≡ []
  unfolding damaged_of
  undamaged_left = damages-drop (has_of g (live_at g a)) (has_of g (live_at g b)) 0x7FFF (has_of-keyed g (live_at g a)) id has_gone has_left apart one.undamaged

pub removing-drops : (g : Geometry) → RemovingDrops g
removing-drops g a b p flags id k head is kind clears one h =
    ⊎_elim
    (λ (same : b ≡ a). inl (ap (λ (x : List ℕ). table_of g x) same))
    (λ (done : slice_index b (p * g.page + 4) ≡ flags).
    let live = own-parts (live_at g a) id p head one.is in
    inr (table_drops g a b p id head one (removing-loses g a b p flags k head is live.0 one.is_head.index one.is_head.first kind clears.cleared h done)))
    (one_bit_image k (p * g.page + 4) flags a b clears h)
