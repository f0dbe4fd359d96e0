-- Bytes past the end of a file.
use Rattle.std.proofs.Common.{◌≡◌, ◌≢◌, ℕ, zero, suc, ◌+◌, ◌-◌, ◌*◌, ◌%◌, ◌<◌, ◌≤◌, ◌⊎◌, List, ◌++◌, length, take, slice_index, slice_range, Bool, true, false, not, ◌==◌, ◌&&◌, ◌||◌, Option, Some, None, Result, ap, refl, sym, ◌∙◌, arith, ⊎_elim, inl, inr, subst, min, length-take, length-drop, get_or-take, get_or-drop}
use Rattle.std.proofs.Math.Path.{fun_ext}
use Rattle.std.specs.Prelude.{find, option_and_then, is_none, is_some}
use Rattle.std.specs.List.{range_with_len, flat_map, list_any}
use Rattle.std.proofs.lemmas.Bool.{cases_lt, cases_eq, cases_Bool, ne_eqb, eq-eqb, eqb-true, and_parts}
use Rattle.std.proofs.lemmas.List.{ext_get_or, take-append-le, take_all}
use Rattle.std.proofs.Math.Seq.{take-append-add}
use Rattle.std.proofs.lemmas.Option.{none-some, same_Some, cond_some, option_and_then_some}
use Rattle.geometry.specs.declared.geometry.Geometry.{Geometry}
use Rattle.image_model.specs.Within.{sizes}
use Rattle.image_model.specs.declared.damage.Damage.{Damage}
use Rattle.table_model.specs.Room.{data_pages, index_pages}
use Rattle.geometry.specs.Numbers.{page_count, body}
use Rattle.nor_core.specs.Flash.{SameOutside}
use Rattle.image_model.specs.Within.{Sizes, page_length}
use Rattle.image_model.specs.Live.{live_at, Live, own}
use Rattle.image_model.specs.Headers.{is_finished, obj_id, span_of, names_index, size_of, name_of}
use Rattle.image_model.specs.Places.{page_of, block_of, IsImage}
use Rattle.table_model.specs.Table.{File}
use Rattle.image_model.specs.Tables.{Found, has_of, records, table_of, damaged_of, damages}
use Rattle.image_model.specs.Files.{is_index, index_page, further, entry_number, data_of, data_page, span_bytes, first_missing, judged, judged_by, found}
use Rattle.image_model.specs.Tidy.{is_number, serves}
use Rattle.image_laws.specs.Programs.{AppendingKeeps}
use Rattle.image_laws.proofs.Placing.{page_byte, wider}
use Rattle.image_laws.proofs.Frames.{LivePage, live_parts, live_from, live-page_other, magic-same_page, entry-same_page}
use Rattle.image_laws.proofs.Finish.{own-parts}
use Rattle.image_laws.proofs.Judge.{judged_by-same, index_passes, found_from}

-- ---- lists of pieces of one length, cut

pub take-pieces : (xs ys us vs : List ℕ) (n : ℕ) → length xs ≡ length ys → take n xs ≡ take n ys → take (n - length xs) us ≡ take (n - length xs) vs → take n (xs ++ us) ≡ take n (ys ++ vs)
take-pieces xs ys us vs n len first rest =
    ⊎_elim
    (λ (low : n < length xs). rw (take-append-le n xs us (omega arith), take-append-le n ys vs (omega (arith, len))) first)
    (λ (high : length xs ≤ n).
    let e : n ≡ length xs + (n - length xs) = omega arith in
    let e' : n ≡ length ys + (n - length xs) = omega (arith, len) in
    let same : xs ≡ ys = sym (take_all n xs high) ∙ first ∙ take_all n ys (omega (arith, len)) in
    let left : take n (xs ++ us) ≡ xs ++ take (n - length xs) us = ap (λ (k : ℕ). take k (xs ++ us)) e ∙ take-append-add xs us (n - length xs) in
    let right : take n (ys ++ vs) ≡ ys ++ take (n - length xs) vs = ap (λ (k : ℕ). take k (ys ++ vs)) e' ∙ take-append-add ys vs (n - length xs) in
    left ∙ ap (λ (zs : List ℕ). zs ++ take (n - length xs) us) same ∙ ap (λ (zs : List ℕ). ys ++ zs) rest ∙ sym right)
    (cases_lt n (length xs))

-- the pieces agree up to the cut
record Agrees (f now : ℕ → List ℕ) (size m a q : ℕ) : Type 0 where
  len : length (f q) ≡ m
  len_now : length (now q) ≡ m
  same : take (size - (q - a) * m) (now q) ≡ take (size - (q - a) * m) (f q)

flat_map-cut : (f now : ℕ → List ℕ) (m size a n : ℕ) → ((q : ℕ) → a ≤ q → q < a + n → Agrees f now size m a q) →
    take size (flat_map now (range_with_len a n)) ≡ take size (flat_map f (range_with_len a n))
flat_map-cut f now m size a zero h = refl
flat_map-cut f now m size a (suc n) h =
    let w = h a (omega arith) (omega arith) in
    let len : length (now a) ≡ length (f a) = w.len_now ∙ sym w.len in
    let none : size - (a - a) * m ≡ size = let zero : a - a ≡ 0 = omega arith in rw (zero) (omega arith) in
    take-pieces (now a) (f a) _ _ size len (rw none at w.same)
    (rw w.len_now (flat_map-cut f now m (size - m) (a + 1) n
    (λ q low high.
    let v = h q (omega arith) (omega arith) in
    let k : q - a ≡ (q - (a + 1)) + 1 = omega arith in
    let e : size - (q - a) * m ≡ size - m - (q - (a + 1)) * m = rw k (omega arith) in
    record { len = v.len; len_now = v.len_now; same = rw e at v.same })))

-- ---- one page has other bytes past the cut

-- a live data page of the same span and length, which agrees on its first n bytes
record Alters (g : Geometry) (n : ℕ) (x y : List ℕ) : Type 0 where
  data_x : names_index x ≡ false
  data_y : names_index y ≡ false
  span : span_of y ≡ span_of x
  len_x : length x ≡ g.page
  len_y : length y ≡ g.page
  same : (i : ℕ) → i < n → slice_index y i ≡ slice_index x i

pub find-all : (test : ℕ → Bool) (a n : ℕ) → find test (range_with_len a n) ≡ None → (q : ℕ) → a ≤ q → q < a + n → test q ≡ false
find-all test a zero h q low high = absurd (omega arith)
find-all test a (suc n) h q low high =
    ⊎_elim
    (λ (yes : test a ≡ true). absurd (none-some a (sym (rw yes at h))))
    (λ (no : test a ≡ false). ⊎_elim
    (λ (here : a ≡ q). rw here at no)
    (λ (there : a ≡ q → ⊥). find-all test (a + 1) n (rw no at h) q (omega (arith, there)) (omega arith))
    (cases_eq a q))
    (cases_Bool (test a))

pub some_page : (o : Option (List ℕ)) → is_none o ≡ false → (z : List ℕ) × (o ≡ Some z)
some_page None h = cc
some_page (Some z) h = (z, refl)

pub page_there : (o : Option (List ℕ)) → is_some o ≡ true → (x : List ℕ) × (o ≡ Some x)
page_there None h = cc
page_there (Some x) h = (x, refl)

data_of-is : (o : Option (List ℕ)) (span : ℕ) (z : List ℕ) → data_of o span ≡ Some z → o ≡ Some z
data_of-is None span z h = absurd (none-some z h)
data_of-is (Some w) span z h = ap (λ (v : List ℕ). Some v) (cond_some (not (names_index w) && (span_of w == span)) w z h).1

pub data_page_is : (g : Geometry) (pages : Live) (head : List ℕ) (span : ℕ) (z : List ℕ) → data_page g pages head span ≡ Some z → (q : ℕ) × (pages q ≡ Some z)
unfolding data_page
data_page_is g pages head span z h = option_and_then_some _ (entry_number g pages head span) z h (λ q e k. (q, data_of-is (pages q) span z k))

missing_same : (g : Geometry) (pages now : Live) (id : ℕ) (head : List ℕ) (n : Option (List ℕ)) (span : ℕ) → judged_by g now id head n (Some span) ≡ judged_by g pages id head n (Some span)
missing_same g pages now id head None span = refl
missing_same g pages now id head (Some name) span = refl

-- the bytes of a data page
pub body_length : (g : Geometry) (z : List ℕ) → length z ≡ g.page → length (slice_range z 5 g.page) ≡ body g
body_length g z len = simp (length-take, length-drop) (omega (arith, len))

body-same : (g : Geometry) (x y : List ℕ) (n : ℕ) → length x ≡ g.page → length y ≡ g.page → ((i : ℕ) → i < 5 + n → slice_index y i ≡ slice_index x i) →
    take n (slice_range y 5 g.page) ≡ take n (slice_range x 5 g.page)
body-same g x y n len_x len_y same =
    let a : length (take n (slice_range x 5 g.page)) ≡ min n (body g) = length-take n (slice_range x 5 g.page) ∙ ap (λ (k : ℕ). min n k) (body_length g x len_x) in
    let b : length (take n (slice_range y 5 g.page)) ≡ min n (body g) = length-take n (slice_range y 5 g.page) ∙ ap (λ (k : ℕ). min n k) (body_length g y len_y) in
    ext_get_or 0 _ _ (b ∙ sym a)
    (λ i small.
    let low : i < n = omega (arith, b) in
    let low' : i < g.page - 5 = omega (arith, b) in
    rw (get_or-take, get_or-take, get_or-take, get_or-take, get_or-drop, get_or-drop) (same (5 + i) (omega arith)))

module _ (g : Geometry) (geo : Sizes g) (p : ℕ) (x y : List ℕ) (pages now : Live)
    (was : pages p ≡ Some x) (is : now p ≡ Some y) (others : (q : ℕ) → q ≢ p → now q ≡ pages q)
    (lengths : (q : ℕ) (z : List ℕ) → pages q ≡ Some z → length z ≡ g.page) (head : List ℕ)
    (alters : Alters g (5 + (size_of head - span_of x * body g)) x y) where
  index-alters : (span : ℕ) → index_page g now span ≡ index_page g pages span
  unfolding index_page
  index-alters span =
      ap (λ (test : ℕ → Bool). find test (range_with_len 0 (page_count g)))
      (fun_ext (λ (q : ℕ). ⊎_elim
      (λ (here : q ≡ p). rw here (rw (was, is) (rw (alters.data_x, alters.data_y) refl)))
      (λ (there : q ≡ p → ⊥). rw (others q there) refl)
      (cases_eq q p)))

  index-not : (span : ℕ) → index_page g pages span ≢ Some p
  index-not span e = let yes = index_passes g pages span p e in let no : is_index (pages p) span ≡ false = rw was (rw alters.data_x refl) in cc

  bytes-alters : (o : Option ℕ) → o ≢ Some p → option_and_then now o ≡ option_and_then pages o
  bytes-alters None differ = refl
  bytes-alters (Some q) differ = others q (λ e. differ (ap (λ (k : ℕ). Some k) e))

  entry-alters : (span : ℕ) → entry_number g now head span ≡ entry_number g pages head span
  unfolding entry_number
  entry-alters span = rw (index-alters (further g span)) (rw (bytes-alters (index_page g pages (further g span)) (index-not (further g span))) refl)

  -- what a span has is the same, or x before and y now
  abbrev IsAltered : ℕ → Option (List ℕ) → Option (List ℕ) → Type 0
  IsAltered span o o' = (o' ≡ o) ⊎ ((o ≡ Some x) × (o' ≡ Some y) × (span_of x ≡ span))

  data-altered : (span q : ℕ) → IsAltered span (data_of (pages q) span) (data_of (now q) span)
  data-altered span q =
      ⊎_elim
      (λ (here : q ≡ p).
      let old : pages q ≡ Some x = ap pages here ∙ was in
      let new : now q ≡ Some y = ap now here ∙ is in
      ⊎_elim
      (λ (yes : (span_of x == span) ≡ true). inr (rw old (rw (alters.data_x, yes) refl), rw new (rw (alters.data_y, alters.span, yes) refl), eqb-true _ span yes))
      (λ (no : (span_of x == span) ≡ false). inl (rw (old, new) (rw (alters.data_x, alters.data_y, alters.span, no) refl)))
      (cases_Bool (span_of x == span)))
      (λ (there : q ≡ p → ⊥). inl (rw (others q there) refl))
      (cases_eq q p)

  data_page-altered : (span : ℕ) → IsAltered span (data_page g pages head span) (data_page g now head span)
  unfolding data_page
  data_page-altered span =
      let go : (o : Option ℕ) → IsAltered span (option_and_then (λ q. data_of (pages q) span) o) (option_and_then (λ q. data_of (now q) span) o) =
      λ o. elim o as (λ (o : Option ℕ). IsAltered span (option_and_then (λ q. data_of (pages q) span) o) (option_and_then (λ q. data_of (now q) span) o))
      [ None ↦ inl refl | Some q ↦ data-altered span q ] in
      rw (entry-alters span) (go (entry_number g pages head span))

  missing-altered : first_missing g now head ≡ first_missing g pages head
  missing-altered =
      ap (λ (test : ℕ → Bool). find test (range_with_len 0 (data_pages g (size_of head))))
      (fun_ext (λ (span : ℕ). ⊎_elim
      (λ (same : data_page g now head span ≡ data_page g pages head span). ap is_none same)
      (λ (w : (data_page g pages head span ≡ Some x) × (data_page g now head span ≡ Some y) × (span_of x ≡ span)). rw (w.0, w.1) refl)
      (data_page-altered span)))

  cut : (span : ℕ) → span ≡ span_of x → (i : ℕ) → i < 5 + (size_of head - (span - 0) * body g) → i < 5 + (size_of head - span_of x * body g)
  cut span e i small =
      let none : span - 0 ≡ span_of x = omega (arith, e) in
      let same : (span - 0) * body g ≡ span_of x * body g = ap (λ (k : ℕ). k * body g) none in
      omega arith

  -- the bytes of a span that has its page
  agrees_at : (span : ℕ) (z : List ℕ) → data_page g pages head span ≡ Some z → Agrees (span_bytes g pages head) (span_bytes g now head) (size_of head) (body g) 0 span
  agrees_at span z e =
      let from_page = data_page_is g pages head span z e in
      let len : length z ≡ g.page = lengths from_page.0 z from_page.1 in
      let old : span_bytes g pages head span ≡ slice_range z 5 g.page = rw e refl in
      ⊎_elim
      (λ (same : data_page g now head span ≡ data_page g pages head span).
      let new : span_bytes g now head span ≡ slice_range z 5 g.page = rw (same, e) refl in
      record { len = rw old (body_length g z len); len_now = rw new (body_length g z len); same = rw (old, new) refl })
      (λ (w : (data_page g pages head span ≡ Some x) × (data_page g now head span ≡ Some y) × (span_of x ≡ span)).
      let mine : z ≡ x = same_Some z x (sym e ∙ w.0) in
      let new : span_bytes g now head span ≡ slice_range y 5 g.page = rw w.1 refl in
      record {
        len = rw old (body_length g z len);
        len_now = rw new (body_length g y alters.len_y);
        same = rw (old, new, mine) (body-same g x y (size_of head - (span - 0) * body g) alters.len_x alters.len_y (λ i small. alters.same i (cut span (sym w.2) i small)));
      })
      (data_page-altered span)

  agrees : (span : ℕ) → is_none (data_page g pages head span) ≡ false → Agrees (span_bytes g pages head) (span_bytes g now head) (size_of head) (body g) 0 span
  agrees span there = let z = some_page (data_page g pages head span) there in agrees_at span z.0 z.1

  named_at : (id : ℕ) (m : Option ℕ) → first_missing g pages head ≡ m → judged_by g now id head (name_of head) m ≡ judged_by g pages id head (name_of head) m
  named_at id (Some span) e = missing_same g pages now id head (name_of head) span
  named_at id None e =
      judged_by-same g pages now id head (name_of head) None
      (flat_map-cut (span_bytes g pages head) (span_bytes g now head) (body g) (size_of head) 0 (data_pages g (size_of head))
      (λ q low high. agrees q (find-all (λ (span : ℕ). is_none (data_page g pages head span)) 0 (data_pages g (size_of head)) e q low high)))

  judged-alters : (id : ℕ) → judged g now id head ≡ judged g pages id head
  unfolding judged
  judged-alters id = rw missing-altered (named_at id (first_missing g pages head) refl)

  some-altered : (span q : ℕ) → is_some (data_of (now q) span) ≡ is_some (data_of (pages q) span)
  some-altered span q =
      ⊎_elim
      (λ (same : data_of (now q) span ≡ data_of (pages q) span). ap is_some same)
      (λ (w : (data_of (pages q) span ≡ Some x) × (data_of (now q) span ≡ Some y) × (span_of x ≡ span)). rw (w.0, w.1) refl)
      (data-altered span q)

  serves-alters : (r : ℕ) → serves g now head r ≡ serves g pages head r
  unfolding serves
  serves-alters r =
      let first : (λ (j : ℕ). is_number (index_page g now j) r) ≡ (λ (j : ℕ). is_number (index_page g pages j) r) = fun_ext (λ (j : ℕ). ap (λ (o : Option ℕ). is_number o r) (index-alters j)) in
      let second : (λ (t : ℕ). is_number (entry_number g now head t) r && is_some (data_of (now r) t)) ≡ (λ (t : ℕ). is_number (entry_number g pages head t) r && is_some (data_of (pages r) t)) =
      fun_ext (λ (t : ℕ). rw (entry-alters t, some-altered t r) refl) in
      ap (λ (test : ℕ → Bool). list_any test (range_with_len 0 (index_pages g (size_of head))) || list_any (λ (t : ℕ). is_number (entry_number g now head t) r && is_some (data_of (now r) t)) (range_with_len 0 (data_pages g (size_of head)))) first
      ∙ ap (λ (test : ℕ → Bool). list_any (λ (j : ℕ). is_number (index_page g pages j) r) (range_with_len 0 (index_pages g (size_of head))) || list_any test (range_with_len 0 (data_pages g (size_of head)))) second

  head_stays : (h : ℕ) → pages h ≡ Some head → names_index head ≡ true → now h ≡ Some head
  head_stays h e index = others h (λ k. let e' : pages p ≡ Some head = ap pages (sym k) ∙ e in let same : x ≡ head = same_Some x head (sym was ∙ e') in let no = alters.data_x in let yes : names_index x ≡ true = rw same index in cc) ∙ e

  found-alters : (id h : ℕ) → index_page g pages 0 ≡ Some h → pages h ≡ Some head → found g now id ≡ found g pages id
  found-alters id h e b =
      let index : is_index (pages h) 0 ≡ true = index_passes g pages 0 h e in
      let named : names_index head ≡ true = (and_parts _ _ (rw b at index)).0 in
      found_from g now id h head (index-alters 0 ∙ e) (head_stays h b named)
      ∙ ap (λ (r : Result File Damage). Some (h, r)) (judged-alters id)
      ∙ sym (found_from g pages id h head e b)

-- ---- the image

pub finished-same : (x y : List ℕ) → ((i : ℕ) → i < 5 → slice_index y i ≡ slice_index x i) → is_finished y ≡ is_finished x
unfolding is_finished
finished-same x y same =
    let b0 = same 0 (omega arith) in let b1 = same 1 (omega arith) in let b2 = same 2 (omega arith) in let b3 = same 3 (omega arith) in let b4 = same 4 (omega arith) in
    rw (b0, b1, b2, b3, b4) refl

pub id-same : (x y : List ℕ) → ((i : ℕ) → i < 5 → slice_index y i ≡ slice_index x i) → obj_id y ≡ obj_id x
id-same x y same = let b0 = same 0 (omega arith) in let b1 = same 1 (omega arith) in cc

pub span-same : (x y : List ℕ) → ((i : ℕ) → i < 5 → slice_index y i ≡ slice_index x i) → span_of y ≡ span_of x
span-same x y same = let b2 = same 2 (omega arith) in let b3 = same 3 (omega arith) in cc

pub own-some : (live : Live) (id q : ℕ) (x : List ℕ) → live q ≡ Some x → obj_id x % 0x8000 ≡ id → own live id q ≡ Some x
unfolding own
own-some live id q x e of = rw e (rw (eq-eqb _ id of) refl)

pub own-other : (live : Live) (id q : ℕ) (x : List ℕ) → live q ≡ Some x → obj_id x % 0x8000 ≢ id → own live id q ≡ None
unfolding own
own-other live id q x e of = rw e (rw (ne_eqb _ id of) refl)

pub own-live : (live new : Live) (id q : ℕ) → new q ≡ live q → own new id q ≡ own live id q
unfolding own
own-live live new id q e = rw e refl

pub index-same : (x y : List ℕ) → ((i : ℕ) → i < 5 → slice_index y i ≡ slice_index x i) → names_index y ≡ names_index x
index-same x y same = rw (id-same x y same) refl

page_size : (g : Geometry) (a : List ℕ) (q : ℕ) (z : List ℕ) → IsImage g a → live_at g a q ≡ Some z → length z ≡ g.page
page_size g a q z is e = let parts = live_parts g a q z e in ap length (sym parts.bytes) ∙ page_length g a q is parts.entry_page

-- a byte of the page in front of the change
kept_byte : (g : Geometry) (a b : List ℕ) (p at n : ℕ) (x : List ℕ) (m : ℕ) → p * g.page + m ≤ at → at + n ≤ p * g.page + g.page → SameOutside at n a b → page_of g a p ≡ x → length x ≡ g.page →
    (i : ℕ) → i < m → slice_index (page_of g b p) i ≡ slice_index x i
kept_byte g a b p at n x m low high same bytes len i small =
    let inside : i < g.page = omega arith in
    page_byte g b p i inside ∙ same.before (p * g.page + i) (omega arith) ∙ sym (page_byte g a p i inside) ∙ ap (λ (z : List ℕ). slice_index z i) bytes

module _ (g : Geometry) (a b : List ℕ) (p h at : ℕ) (asked x head : List ℕ) (is : IsImage g a) (live : live_at g a p ≡ Some x) (no_index : names_index x ≡ false)
    (first : index_page g (own (live_at g a) (obj_id x % 0x8000)) 0 ≡ Some h) (header : own (live_at g a) (obj_id x % 0x8000) h ≡ Some head)
    (low : p * g.page + 5 + (size_of head - span_of x * body g) ≤ at) (high : at + length asked ≤ p * g.page + g.page) (same : SameOutside at (length asked) a b) where
  parts : LivePage g a p x
  parts = live_parts g a p x live

  pub append_wide : SameOutside (p * g.page) g.page a b
  append_wide = wider at (length asked) (p * g.page) g.page a b (omega arith) high same

  len_x : length x ≡ g.page
  len_x = page_size g a p x is live

  len_y : length (page_of g b p) ≡ g.page
  len_y = page_length g b p (record { len = omega (arith, append_wide.size, is.len) }) parts.entry_page

  kept : (i : ℕ) → i < 5 + (size_of head - span_of x * body g) → slice_index (page_of g b p) i ≡ slice_index x i
  kept i small = kept_byte g a b p at (length asked) x (5 + (size_of head - span_of x * body g)) (omega arith) high same parts.bytes len_x i small

  front : (i : ℕ) → i < 5 → slice_index (page_of g b p) i ≡ slice_index x i
  front i small = kept i (omega arith)

  pub append_kind : names_index (page_of g b p) ≡ names_index x
  append_kind = index-same x (page_of g b p) front

  now : live_at g b p ≡ Some (page_of g b p)
  now = live_from g b p (page_of g b p) (record {
    entry_page = parts.entry_page;
    magic = magic-same_page g (sizes g) a b p parts.entry_page append_wide (block_of g p) ∙ parts.magic;
    entry = entry-same_page g (sizes g) a b p parts.entry_page append_wide p ∙ parts.entry ∙ sym (id-same x (page_of g b p) front);
    finished = finished-same x (page_of g b p) front ∙ parts.finished;
    bytes = refl;
  })

  of : obj_id (page_of g b p) % 0x8000 ≡ obj_id x % 0x8000
  of = ap (λ (k : ℕ). k % 0x8000) (id-same x (page_of g b p) front)

  pub append_now : own (live_at g b) (obj_id x % 0x8000) p ≡ Some (page_of g b p)
  append_now = own-some (live_at g b) (obj_id x % 0x8000) p (page_of g b p) now of

  was : own (live_at g a) (obj_id x % 0x8000) p ≡ Some x
  was = own-some (live_at g a) (obj_id x % 0x8000) p x live refl

  others : (q : ℕ) → q ≢ p → own (live_at g b) (obj_id x % 0x8000) q ≡ own (live_at g a) (obj_id x % 0x8000) q
  others q differ = own-live (live_at g a) (live_at g b) (obj_id x % 0x8000) q (live-page_other g (sizes g) a b p parts.entry_page append_wide q differ)

  lengths : (q : ℕ) (z : List ℕ) → own (live_at g a) (obj_id x % 0x8000) q ≡ Some z → length z ≡ g.page
  lengths q z e = page_size g a q z is (own-parts (live_at g a) (obj_id x % 0x8000) q z e).0

  alters : Alters g (5 + (size_of head - span_of x * body g)) x (page_of g b p)
  alters = record { data_x = no_index; data_y = append_kind ∙ no_index; span = span-same x (page_of g b p) front; len_x = len_x; len_y = len_y; same = kept }

  mine : found g (own (live_at g b) (obj_id x % 0x8000)) (obj_id x % 0x8000) ≡ found g (own (live_at g a) (obj_id x % 0x8000)) (obj_id x % 0x8000)
  mine = found-alters g (sizes g) p x (page_of g b p) (own (live_at g a) (obj_id x % 0x8000)) (own (live_at g b) (obj_id x % 0x8000)) was append_now others lengths head alters (obj_id x % 0x8000) h first header

  pub append_first : index_page g (own (live_at g b) (obj_id x % 0x8000)) 0 ≡ Some h
  append_first = index-alters g (sizes g) p x (page_of g b p) (own (live_at g a) (obj_id x % 0x8000)) (own (live_at g b) (obj_id x % 0x8000)) was append_now others lengths head alters 0 ∙ first

  pub append_header : own (live_at g b) (obj_id x % 0x8000) h ≡ Some head
  append_header =
      let index : is_index (own (live_at g a) (obj_id x % 0x8000) h) 0 ≡ true = index_passes g (own (live_at g a) (obj_id x % 0x8000)) 0 h first in
      head_stays g (sizes g) p x (page_of g b p) (own (live_at g a) (obj_id x % 0x8000)) (own (live_at g b) (obj_id x % 0x8000)) was append_now others lengths head alters h header (and_parts _ _ (rw header at index)).0

  pub append_serves : (r : ℕ) → serves g (own (live_at g b) (obj_id x % 0x8000)) head r ≡ serves g (own (live_at g a) (obj_id x % 0x8000)) head r
  append_serves = serves-alters g (sizes g) p x (page_of g b p) (own (live_at g a) (obj_id x % 0x8000)) (own (live_at g b) (obj_id x % 0x8000)) was append_now others lengths head alters

  pub append_has : has_of g (live_at g b) ≡ has_of g (live_at g a)
  unfolding has_of
  append_has =
      fun_ext (λ (j : ℕ). ⊎_elim
      (λ (e : obj_id x % 0x8000 ≡ j). subst (λ (k : ℕ). found g (own (live_at g b) k) k ≡ found g (own (live_at g a) k) k) e mine)
      (λ (differ : obj_id x % 0x8000 ≡ j → ⊥). ap (λ (pages : Live). found g pages j)
      (fun_ext (λ (q : ℕ). ⊎_elim
      (λ (k : q ≡ p). rw k (own-other (live_at g b) j p (page_of g b p) now (λ e. differ (sym of ∙ e)) ∙ sym (own-other (live_at g a) j p x live differ)))
      (λ (k : q ≡ p → ⊥). own-live (live_at g a) (live_at g b) j q (live-page_other g (sizes g) a b p parts.entry_page append_wide q k))
      (cases_eq q p))))
      (cases_eq (obj_id x % 0x8000) j))

pub appending-keeps : (g : Geometry) → AppendingKeeps g
unfolding table_of damaged_of
appending-keeps g a b p h at asked x head is live no_index first header low high torn =
    let has = append_has g a b p h at asked x head is live no_index first header low high torn.outside in
    (ap (λ (f : Found). records f 0x7FFF) has, ap (λ (f : Found). damages f 0x7FFF) has)
