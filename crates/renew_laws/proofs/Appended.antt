-- What a header page with more bytes leads to.
use Rattle.std.proofs.Common.{◌≡◌, ℕ, zero, suc, min, ◌+◌, ◌-◌, ◌*◌, ◌/◌, ◌%◌, ◌<◌, ◌≤◌, ◌⊎◌, List, ◌++◌, length, take, drop, slice_index, slice_range, true, false, Some, None, Ok, ap, refl, sym, ◌∙◌, arith, ⊎_elim, inl, inr, append_assoc, append-nil}
use Rattle.std.specs.Prelude.{is_some, is_none}
use Rattle.std.specs.List.{range_with_len, flat_map}
use Rattle.std.proofs.Math.Nat.{div-add-mod, mul-le-mul_left, mul_comm}
use Rattle.std.proofs.Math.Seq.{take-append-add, take-add}
use Rattle.std.proofs.lemmas.List.{take-take, take_all, drop_all, drop-take, drop-drop, take-append-le, take-append-drop, length-take, length-take-le, length-drop}
use Rattle.std.proofs.lemmas.Bool.{cases_lt, cases_eq, lt-ltb, le-ltb}
use Rattle.geometry.specs.declared.geometry.Geometry.{Geometry}
use Rattle.geometry.specs.Numbers.{head_slots, span_slots, ceil, body}
use Rattle.table_model.specs.Table.{File}
use Rattle.table_model.specs.Room.{data_pages, index_pages}
use Rattle.image_model.specs.Within.{sizes}
use Rattle.image_model.specs.Headers.{size_of, name_of}
use Rattle.image_model.specs.Live.{Live}
use Rattle.image_model.specs.Files.{index_page, entry_number, data_of, data_page, judged, span_bytes, bytes_of, first_missing}
use Rattle.image_model.specs.Tidy.{serves}
use Rattle.image_laws.proofs.Serving.{ceil-mono}
use Rattle.renew_laws.specs.Append.{Appends, AppendsIn, AppendsOver, OnePageAppends, ManyPagesAppend, bytes_from, page_part, AppendedLeads, AppendedIsWritten, AppendedServes}
use Rattle.image_laws.proofs.Wanted.{header-below}
use Rattle.renew_laws.proofs.Spans.{entry_by_word, page_by_word, span_there}
use Rattle.renew_laws.proofs.Serves.{serves_parts, serves_index, serves_data}
use Rattle.image_laws.proofs.Append.{some_page, data_page_is, body_length}
use Rattle.image_laws.proofs.Matching.{length-pieces}
use Rattle.image_laws.proofs.Reindexed.{judged-parts, pieces-same, find_none-in}

-- ---- numbers of pages

-- s pages and r bytes of one more
pub pages_of : (s r B : ℕ) → 0 < r → r ≤ B → ceil (B * s + r) B ≡ s + 1
pages_of s r B some fits =
    let whole : B * ((B * s + r + B - 1) / B) + (B * s + r + B - 1) % B ≡ B * s + r + B - 1 = div-add-mod (B * s + r + B - 1) B in
    let low : (B * s + r + B - 1) % B < B = omega arith in
    let more : B * (s + 2) ≡ B * s + B + B = omega arith in
    ⊎_elim
    (λ (x : (B * s + r + B - 1) / B < s + 1). let step : B * ((B * s + r + B - 1) / B) ≤ B * s = mul-le-mul_left B (omega arith) in absurd (omega (arith, whole, low, step)))
    (λ (x : s + 1 ≤ (B * s + r + B - 1) / B). ⊎_elim
    (λ (y : (B * s + r + B - 1) / B < s + 2). omega arith)
    (λ (y : s + 2 ≤ (B * s + r + B - 1) / B). let step : B * (s + 2) ≤ B * ((B * s + r + B - 1) / B) = mul-le-mul_left B y in absurd (omega (arith, whole, step, more)))
    (cases_lt ((B * s + r + B - 1) / B) (s + 2)))
    (cases_lt ((B * s + r + B - 1) / B) (s + 1))

-- s whole pages
pages_whole : (s B : ℕ) → 0 < B → ceil (B * s + 0) B ≡ s
pages_whole s B pos =
    let whole : B * ((B * s + 0 + B - 1) / B) + (B * s + 0 + B - 1) % B ≡ B * s + 0 + B - 1 = div-add-mod (B * s + 0 + B - 1) B in
    let low : (B * s + 0 + B - 1) % B < B = omega arith in
    let more : B * (s + 1) ≡ B * s + B = omega arith in
    ⊎_elim
    (λ (x : (B * s + 0 + B - 1) / B < s). let step : B * ((B * s + 0 + B - 1) / B + 1) ≤ B * s = mul-le-mul_left B (omega arith) in
    let e : B * ((B * s + 0 + B - 1) / B + 1) ≡ B * ((B * s + 0 + B - 1) / B) + B = omega arith in absurd (omega (arith, whole, low, step, e)))
    (λ (x : s ≤ (B * s + 0 + B - 1) / B). ⊎_elim
    (λ (y : (B * s + 0 + B - 1) / B < s + 1). omega arith)
    (λ (y : s + 1 ≤ (B * s + 0 + B - 1) / B). let step : B * (s + 1) ≤ B * ((B * s + 0 + B - 1) / B) = mul-le-mul_left B y in absurd (omega (arith, whole, step, more)))
    (cases_lt ((B * s + 0 + B - 1) / B) (s + 1)))
    (cases_lt ((B * s + 0 + B - 1) / B) s)

-- ---- pieces of one length

-- pieces of a range, in two parts
pub split-pieces : (f : ℕ → List ℕ) (a m n k : ℕ) → k ≡ m + n → flat_map f (range_with_len a k) ≡ flat_map f (range_with_len a m) ++ flat_map f (range_with_len (a + m) n)
split-pieces f a zero n k e =
    ap (λ (j : ℕ). flat_map f (range_with_len a j)) (let same : k ≡ n = omega (arith, e) in same)
    ∙ ap (λ (j : ℕ). flat_map f (range_with_len j n)) (let place : a ≡ a + 0 = omega arith in place)
split-pieces f a (suc m) n k e =
    let next : k ≡ suc (m + n) = omega (arith, e) in
    let place : a + 1 + m ≡ a + suc m = omega arith in
    ap (λ (j : ℕ). flat_map f (range_with_len a j)) next
    ∙ ap (λ (ys : List ℕ). f a ++ ys) (split-pieces f (a + 1) m n (m + n) refl ∙ ap (λ (j : ℕ). flat_map f (range_with_len (a + 1) m) ++ flat_map f (range_with_len j n)) place)
    ∙ sym (append_assoc (f a) (flat_map f (range_with_len (a + 1) m)) (flat_map f (range_with_len (a + suc m) n)))

-- a quotient that is rounded up holds the number,
pub ceil-low : (m B : ℕ) → 0 < B → m ≤ B * ceil m B
ceil-low m B pos =
    let whole : B * ((m + B - 1) / B) + (m + B - 1) % B ≡ m + B - 1 = div-add-mod (m + B - 1) B in
    let low : (m + B - 1) % B < B = omega arith in
    omega (arith, whole, low)

-- and one less doesn't.
pub ceil-high : (m B i : ℕ) → 0 < B → i < ceil m B → B * i < m
ceil-high m B i pos less =
    let whole : B * ((m + B - 1) / B) + (m + B - 1) % B ≡ m + B - 1 = div-add-mod (m + B - 1) B in
    let step : B * (i + 1) ≤ B * ((m + B - 1) / B) = mul-le-mul_left B (omega (arith, less)) in
    let more : B * (i + 1) ≡ B * i + B = omega arith in
    omega (arith, whole, step, more)

-- k bytes of a page behind the first r of its body
inner-bytes : (z : List ℕ) (page r k : ℕ) → 5 + r + k ≤ page → take k (drop r (slice_range z 5 page)) ≡ slice_range z (5 + r) (5 + r + k)
inner-bytes z page r k fits =
    let whole : page - 5 ≡ r + (page - 5 - r) = omega arith in
    let size : 5 + r + k - (5 + r) ≡ k = omega arith in
    ap (λ (n : ℕ). take k (drop r (take n (drop 5 z)))) whole
    ∙ ap (λ (xs : List ℕ). take k xs) (drop-take r (page - 5 - r) (drop 5 z))
    ∙ take-take k (page - 5 - r) (drop r (drop 5 z)) (omega arith)
    ∙ ap (λ (xs : List ℕ). take k xs) (drop-drop r 5 z)
    ∙ ap (λ (n : ℕ). take n (drop (5 + r) z)) (sym size)

module _ (g : Geometry) (pages : Live) (head head' bytes : List ℕ) (add : Appends g pages head head' bytes) where
  big : 128 ≤ g.page
  big = (sizes g).page

  whole : body g * (size_of head / body g) + size_of head % body g ≡ size_of head
  whole = div-add-mod (size_of head) (body g)

  abbrev behind : ℕ
  behind = data_pages g (size_of head') - size_of head / body g

  new_size : size_of head' ≡ body g * (size_of head / body g) + (size_of head % body g + length bytes)
  new_size = omega (arith, add.size, whole)

  old_pages : ((size_of head % body g ≡ 0) × (data_pages g (size_of head) ≡ size_of head / body g)) ⊎ (data_pages g (size_of head) ≡ size_of head / body g + 1)
  old_pages =
      ⊎_elim
      (λ (none : size_of head % body g ≡ 0).
      let size : size_of head ≡ body g * (size_of head / body g) + 0 = omega (arith, whole, none) in
      inl (none, ap (λ (n : ℕ). ceil n (body g)) size ∙ pages_whole (size_of head / body g) (body g) (omega (arith, big))))
      (λ (some : size_of head % body g ≡ 0 → ⊥).
      let less : size_of head % body g < body g = omega (arith, big) in
      inr (ap (λ (n : ℕ). ceil n (body g)) (sym whole) ∙ pages_of (size_of head / body g) (size_of head % body g) (body g) (omega (arith, some)) (omega (arith, less))))
      (cases_eq (size_of head % body g) 0)

  entry_same : (t : ℕ) → t < data_pages g (size_of head) → entry_number g pages head' t ≡ entry_number g pages head t
  entry_same t below = entry_by_word g pages head head' t (add.words t below)

  data_same : (t : ℕ) → t < data_pages g (size_of head) → data_page g pages head' t ≡ data_page g pages head t
  data_same t below = page_by_word g pages head head' t (add.words t below)

  -- the page that the entry of a new span names is there
  named_there : (t r : ℕ) (z : List ℕ) → data_page g pages head' t ≡ Some z → entry_number g pages head' t ≡ Some r → is_some (data_of (pages r) t) ≡ true
  unfolding data_page
  named_there t r z page e = let is : data_of (pages r) t ≡ Some z = rw e at page in rw is refl

  new_named : (t r : ℕ) → size_of head / body g ≤ t → t < data_pages g (size_of head') → entry_number g pages head' t ≡ Some r → is_some (data_of (pages r) t) ≡ true
  new_named t r low below e = let w = some_page (data_page g pages head' t) (add.there t low below) in named_there t r w.0 w.1 e

  grows : data_pages g (size_of head) ≤ data_pages g (size_of head')
  grows = ceil-mono (size_of head) (size_of head') (body g) (omega (arith, big)) (omega (arith, add.size))

  -- so many pages in front of the new ones
  front_few : size_of head / body g ≤ data_pages g (size_of head')
  front_few = ⊎_elim
      (λ (w : (size_of head % body g ≡ 0) × (data_pages g (size_of head) ≡ size_of head / body g)). omega (arith, w.1, grows))
      (λ (w : data_pages g (size_of head) ≡ size_of head / body g + 1). omega (arith, w, grows))
      old_pages

  new_pages : data_pages g (size_of head') ≡ size_of head / body g + behind
  new_pages = omega (arith, front_few)

  index_grows : index_pages g (size_of head) ≤ index_pages g (size_of head')
  index_grows =
      ⊎_elim
      (λ (more : head_slots g < data_pages g (size_of head)).
      let pos : 0 < span_slots g = omega (arith, big) in
      let more' : head_slots g < data_pages g (size_of head') = omega (arith, grows) in
      let step : ceil (data_pages g (size_of head) - head_slots g) (span_slots g) ≤ ceil (data_pages g (size_of head') - head_slots g) (span_slots g) =
      ceil-mono (data_pages g (size_of head) - head_slots g) (data_pages g (size_of head') - head_slots g) (span_slots g) pos (omega (arith, grows)) in
      rw (lt-ltb (head_slots g) (data_pages g (size_of head)) more, lt-ltb (head_slots g) (data_pages g (size_of head')) more') (omega (arith, step)))
      (λ (few : data_pages g (size_of head) ≤ head_slots g).
      let some = header-below g (size_of head') in
      rw (le-ltb (head_slots g) (data_pages g (size_of head)) few) (omega (arith, some)))
      (cases_lt (head_slots g) (data_pages g (size_of head)))

  serves_on : (r : ℕ) → serves g pages head r ≡ true → serves g pages head' r ≡ true
  serves_on r e =
      ⊎_elim
      (λ (w : (j : ℕ) × (j < index_pages g (size_of head)) × (index_page g pages j ≡ Some r)). serves_index g pages head' r w.0 (omega (arith, w.1, index_grows)) w.2)
      (λ (w : (t : ℕ) × (t < data_pages g (size_of head)) × (entry_number g pages head t ≡ Some r) × (is_some (data_of (pages r) t) ≡ true)).
      serves_data g pages head' r w.0 (omega (arith, w.1, grows)) (entry_same w.0 w.1 ∙ w.2) w.3)
      (serves_parts g pages head r e)

  module _ (id : ℕ) (name : List ℕ) (f0 : File) (lengths : (q : ℕ) (x : List ℕ) → pages q ≡ Some x → length x ≡ g.page) (file : judged g pages id head ≡ Ok f0) (named : name_of head' ≡ Some name) where
    below_last : (t : ℕ) → t < size_of head / body g → t < data_pages g (size_of head)
    below_last t low = ⊎_elim
        (λ (w : (size_of head % body g ≡ 0) × (data_pages g (size_of head) ≡ size_of head / body g)). omega (arith, w.1, low))
        (λ (w : data_pages g (size_of head) ≡ size_of head / body g + 1). omega (arith, w, low))
        old_pages

    present_now : (t : ℕ) → t < data_pages g (size_of head') → is_none (data_page g pages head' t) ≡ false
    present_now t low =
        ⊎_elim
        (λ (x : t < size_of head / body g). let below = below_last t x in rw (data_same t below) (span_there g pages id head f0 file t below))
        (λ (x : size_of head / body g ≤ t). add.there t x low)
        (cases_lt t (size_of head / body g))

    none_missing : first_missing g pages head' ≡ None
    none_missing = find_none-in (λ (t : ℕ). is_none (data_page g pages head' t)) 0 (data_pages g (size_of head')) (λ q low high. present_now q (omega (arith, high)))

    piece : (t : ℕ) → t < data_pages g (size_of head') → length (span_bytes g pages head' t) ≡ body g
    piece t below =
        let w = some_page (data_page g pages head' t) (present_now t below) in
        let q = data_page_is g pages head' t w.0 w.1 in
        rw w.1 (body_length g w.0 (lengths q.0 w.0 q.1))

    abbrev front : List ℕ
    front = flat_map (span_bytes g pages head') (range_with_len 0 (size_of head / body g))

    abbrev rest : List ℕ
    rest = bytes_from g pages head' (size_of head / body g) behind

    -- the bytes of the pages in front of the new ones
    front_length : length front ≡ body g * (size_of head / body g)
    front_length = length-pieces (span_bytes g pages head') (body g) 0 (size_of head / body g) (λ t low below. piece t (omega (arith, below, front_few))) ∙ mul_comm (size_of head / body g) (body g)

    -- the first bytes of the whole
    cut_at : (n r : ℕ) (more : List ℕ) → n ≡ body g * (size_of head / body g) + r → take n (front ++ more) ≡ front ++ take r more
    cut_at n r more e =
        let size : n ≡ length front + r = omega (arith, e, front_length) in
        ap (λ (k : ℕ). take k (front ++ more)) size ∙ take-append-add front more r

    same_pieces : (n : ℕ) → n ≤ data_pages g (size_of head) → flat_map (span_bytes g pages head) (range_with_len 0 n) ≡ flat_map (span_bytes g pages head') (range_with_len 0 n)
    same_pieces n few = sym (pieces-same (span_bytes g pages head) (span_bytes g pages head') 0 n (λ q low high. rw (data_same q (omega (arith, high, few))) refl))

    -- the last old page and those behind it begin with the same bytes
    same_first : (r : ℕ) → data_pages g (size_of head) ≡ size_of head / body g + 1 → r ≤ body g →
        take r (bytes_from g pages head' (size_of head / body g) 1) ≡ take r rest
    same_first r last few =
        let count : behind ≡ 1 + (behind - 1) = omega (arith, last, grows, front_few) in
        let one : length (bytes_from g pages head' (size_of head / body g) 1) ≡ 1 * body g =
        length-pieces (span_bytes g pages head') (body g) (size_of head / body g) 1 (λ t low below. piece t (omega (arith, below, last, grows))) in
        sym (take-append-le r (bytes_from g pages head' (size_of head / body g) 1) (bytes_from g pages head' (size_of head / body g + 1) (behind - 1)) (omega (arith, few, one)))
        ∙ ap (λ (xs : List ℕ). take r xs) (sym (split-pieces (span_bytes g pages head') (size_of head / body g) 1 (behind - 1) behind count))

    old_bytes : f0.bytes ≡ front ++ take (size_of head % body g) rest
    old_bytes =
        let w = judged-parts g pages id head f0 file in
        let from : 0 + size_of head / body g ≡ size_of head / body g = omega arith in
        let is : bytes_of g pages head ≡ f0.bytes = ap (λ (f : File). f.bytes) w.2 in
        sym is ∙ ap (λ (xs : List ℕ). take (size_of head) xs) (same_pieces (data_pages g (size_of head)) (omega arith)) ∙
        ⊎_elim
        (λ (v : (size_of head % body g ≡ 0) × (data_pages g (size_of head) ≡ size_of head / body g)).
        ap (λ (n : ℕ). take (size_of head) (flat_map (span_bytes g pages head') (range_with_len 0 n))) v.1
        ∙ take_all (size_of head) front (omega (arith, front_length, whole, v.0))
        ∙ sym (append-nil front)
        ∙ ap (λ (n : ℕ). front ++ take n rest) (sym v.0))
        (λ (v : data_pages g (size_of head) ≡ size_of head / body g + 1).
        ap (λ (n : ℕ). take (size_of head) (flat_map (span_bytes g pages head') (range_with_len 0 n))) v
        ∙ ap (λ (xs : List ℕ). take (size_of head) xs) (split-pieces (span_bytes g pages head') 0 (size_of head / body g) 1 (size_of head / body g + 1) refl ∙ ap (λ (n : ℕ). front ++ bytes_from g pages head' n 1) from)
        ∙ cut_at (size_of head) (size_of head % body g) (bytes_from g pages head' (size_of head / body g) 1) (sym whole)
        ∙ ap (λ (xs : List ℕ). front ++ xs) (same_first (size_of head % body g) v (let less : size_of head % body g < body g = omega (arith, big) in omega (arith, less))))
        old_pages

    new_bytes : bytes_of g pages head' ≡ f0.bytes ++ bytes
    new_bytes =
        let from : 0 + size_of head / body g ≡ size_of head / body g = omega arith in
        ap (λ (n : ℕ). take (size_of head') (flat_map (span_bytes g pages head') (range_with_len 0 n))) new_pages
        ∙ ap (λ (xs : List ℕ). take (size_of head') xs) (split-pieces (span_bytes g pages head') 0 (size_of head / body g) behind (size_of head / body g + behind) refl ∙ ap (λ (n : ℕ). front ++ bytes_from g pages head' n behind) from)
        ∙ cut_at (size_of head') (size_of head % body g + length bytes) rest new_size
        ∙ ap (λ (xs : List ℕ). front ++ xs) (take-add (size_of head % body g) (length bytes) rest ∙ ap (λ (xs : List ℕ). take (size_of head % body g) rest ++ xs) add.holds)
        ∙ sym (append_assoc front (take (size_of head % body g) rest) bytes)
        ∙ ap (λ (xs : List ℕ). xs ++ bytes) (sym old_bytes)

    leads_to : judged g pages id head' ≡ Ok (record { id = id; name = name; kind = slice_index head' 12; meta = slice_range head' 45 (45 + g.meta); bytes = f0.bytes ++ bytes })
    unfolding judged
    leads_to = rw (named, none_missing) (rw new_bytes refl)

-- ---- in one data page

module _ (g : Geometry) (pages : Live) (head head' bytes z : List ℕ) (add : AppendsIn g pages head head' bytes z) where
  one_count : data_pages g (size_of head') ≡ size_of head / body g + 1
  one_count =
      let whole : body g * (size_of head / body g) + size_of head % body g ≡ size_of head = div-add-mod (size_of head) (body g) in
      let is : size_of head' ≡ body g * (size_of head / body g) + (size_of head % body g + length bytes) = omega (arith, add.size, whole) in
      ap (λ (n : ℕ). ceil n (body g)) is ∙ pages_of (size_of head / body g) (size_of head % body g + length bytes) (body g) (omega (arith, add.some)) add.fits

  one_bytes : bytes_from g pages head' (size_of head / body g) (data_pages g (size_of head') - size_of head / body g) ≡ slice_range z 5 g.page
  one_bytes =
      let one : data_pages g (size_of head') - size_of head / body g ≡ 1 = omega (arith, one_count) in
      ap (λ (n : ℕ). bytes_from g pages head' (size_of head / body g) n) one ∙ append-nil (span_bytes g pages head' (size_of head / body g)) ∙ (rw add.page refl)

  pub one_appends : Appends g pages head head' bytes
  one_appends = record {
    some = add.some;
    size = add.size;
    words = add.words;
    there = λ t low below. let e : t ≡ size_of head / body g = omega (arith, low, below, one_count) in rw e (rw add.page refl);
    holds = ap (λ (xs : List ℕ). take (length bytes) (drop (size_of head % body g) xs)) one_bytes ∙ inner-bytes z g.page (size_of head % body g) (length bytes) (omega (arith, add.fits, (sizes g).page)) ∙ add.holds;
  }

pub one-page_appends : (g : Geometry) → OnePageAppends g
one-page_appends g pages head head' bytes z lengths add = one_appends g pages head head' bytes z add

-- ---- in data pages of their own

-- pieces of one length, each of which begins with its part of some bytes, begin with these bytes
pub spread : (f : ℕ → List ℕ) (B : ℕ) (k s : ℕ) (bytes : List ℕ) → length bytes ≤ k * B → ((i : ℕ) → i < k → length (f (s + i)) ≡ B) →
    ((i : ℕ) → i < k → take (length (take B (drop (i * B) bytes))) (f (s + i)) ≡ take B (drop (i * B) bytes)) → take (length bytes) (flat_map f (range_with_len s k)) ≡ bytes
spread f B zero s bytes few each part =
    let none : length bytes ≡ 0 = omega (arith, few) in
    ap (λ (n : ℕ). take n (flat_map f (range_with_len s 0))) none ∙ sym (ap (λ (n : ℕ). take n bytes) none) ∙ take_all (length bytes) bytes (omega arith)
spread f B (suc k) s bytes few each part =
    let here : f (s + 0) ≡ f s = ap f (let same : s + 0 ≡ s = omega arith in same) in
    let size : length (f s) ≡ B = sym (ap (λ (xs : List ℕ). length xs) here) ∙ each 0 (omega arith) in
    let start : drop (0 * B) bytes ≡ bytes = ap (λ (n : ℕ). drop n bytes) (let none : 0 * B ≡ 0 = omega arith in none) in
    let whole : take (length (take B (drop (0 * B) bytes))) (f (s + 0)) ≡ take B (drop (0 * B) bytes) = part 0 (omega arith) in
    let first : take (length (take B bytes)) (f s) ≡ take B bytes = rw (start, here) at whole in
    ⊎_elim
    (λ (less : length bytes ≤ B).
    let all : take B bytes ≡ bytes = take_all B bytes less in
    take-append-le (length bytes) (f s) (flat_map f (range_with_len (s + 1) k)) (omega (arith, less, size))
    ∙ ap (λ (xs : List ℕ). take (length xs) (f s)) (sym all) ∙ first ∙ all)
    (λ (more : B < length bytes).
    let full : length (take B bytes) ≡ B = length-take-le B bytes (omega (arith, more)) in
    let front : f s ≡ take B bytes = sym (take_all B (f s) (omega (arith, size))) ∙ ap (λ (n : ℕ). take n (f s)) (sym full) ∙ first in
    let rest : length (drop B bytes) ≡ length bytes - B = length-drop B bytes in
    let count : length bytes ≡ length (f s) + length (drop B bytes) = omega (arith, size, rest, more) in
    let below : length (drop B bytes) ≤ k * B = (let wide : suc k * B ≡ k * B + B = omega arith in omega (arith, rest, few, wide)) in
    let next : take (length (drop B bytes)) (flat_map f (range_with_len (s + 1) k)) ≡ drop B bytes =
    spread f B k (s + 1) (drop B bytes) below
    (λ i low. let place : s + 1 + i ≡ s + (i + 1) = omega arith in ap (λ (n : ℕ). length (f n)) place ∙ each (i + 1) (omega (arith, low)))
    (λ i low. let place : s + 1 + i ≡ s + (i + 1) = omega arith in
    let at : drop (i * B) (drop B bytes) ≡ drop ((i + 1) * B) bytes = drop-drop (i * B) B bytes ∙ ap (λ (n : ℕ). drop n bytes) (let sum : B + i * B ≡ (i + 1) * B = omega arith in sum) in
    rw (at, place) (part (i + 1) (omega (arith, low)))) in
    ap (λ (n : ℕ). take n (f s ++ flat_map f (range_with_len (s + 1) k))) count
    ∙ take-append-add (f s) (flat_map f (range_with_len (s + 1) k)) (length (drop B bytes))
    ∙ ap (λ (xs : List ℕ). f s ++ xs) next ∙ ap (λ (xs : List ℕ). xs ++ drop B bytes) front ∙ take-append-drop B bytes)
    (⊎_elim (λ (x : length bytes < suc B). inl (omega (arith, x))) (λ (x : suc B ≤ length bytes). inr (omega (arith, x))) (cases_lt (length bytes) (suc B)))

module _ (g : Geometry) (pages : Live) (head head' bytes : List ℕ) (lengths : (q : ℕ) (x : List ℕ) → pages q ≡ Some x → length x ≡ g.page) (add : AppendsOver g pages head head' bytes) where
  wide : 0 < body g
  wide = omega (arith, (sizes g).page)

  at_end : body g * (size_of head / body g) ≡ size_of head
  at_end = let whole : body g * (size_of head / body g) + size_of head % body g ≡ size_of head = div-add-mod (size_of head) (body g) in omega (arith, whole, add.whole)

  -- the new spans are those of the bytes
  span_of_part : (i : ℕ) → size_of head / body g + i < data_pages g (size_of head') → i * body g < length bytes
  span_of_part i below =
      let low : body g * (size_of head / body g + i) < size_of head' = ceil-high (size_of head') (body g) (size_of head / body g + i) wide below in
      let parts : body g * (size_of head / body g + i) ≡ body g * (size_of head / body g) + i * body g = omega arith in
      omega (arith, low, parts, at_end, add.size)

  count_behind : length bytes ≤ (data_pages g (size_of head') - size_of head / body g) * body g
  count_behind =
      let low : size_of head' ≤ body g * data_pages g (size_of head') = ceil-low (size_of head') (body g) wide in
      ⊎_elim
      (λ (some : size_of head / body g ≤ data_pages g (size_of head')).
      let parts : data_pages g (size_of head') ≡ size_of head / body g + (data_pages g (size_of head') - size_of head / body g) = omega (arith, some) in
      let split : body g * data_pages g (size_of head') ≡ body g * (size_of head / body g + (data_pages g (size_of head') - size_of head / body g)) = ap (λ (n : ℕ). body g * n) parts in
      let sum : body g * (size_of head / body g + (data_pages g (size_of head') - size_of head / body g)) ≡ body g * (size_of head / body g) + (data_pages g (size_of head') - size_of head / body g) * body g = omega arith in
      omega (arith, low, split, sum, at_end, add.size))
      (λ (none : data_pages g (size_of head') < size_of head / body g).
      let less : body g * data_pages g (size_of head') ≤ body g * (size_of head / body g) = mul-le-mul_left (body g) (omega (arith, none)) in
      absurd (omega (arith, low, less, at_end, add.size, add.some)))
      (⊎_elim (λ (x : size_of head / body g < suc (data_pages g (size_of head'))). inl (omega (arith, x))) (λ (x : suc (data_pages g (size_of head')) ≤ size_of head / body g). inr (omega (arith, x))) (cases_lt (size_of head / body g) (suc (data_pages g (size_of head')))))

  part_piece : (i : ℕ) → i < data_pages g (size_of head') - size_of head / body g → (z : List ℕ) × (data_page g pages head' (size_of head / body g + i) ≡ Some z) × (slice_range z 5 (5 + length (page_part g bytes i)) ≡ page_part g bytes i)
  part_piece i low = add.pages_are i (span_of_part i (omega (arith, low)))

  part_bytes : (i : ℕ) → i < data_pages g (size_of head') - size_of head / body g → take (length (page_part g bytes i)) (span_bytes g pages head' (size_of head / body g + i)) ≡ page_part g bytes i
  part_bytes i low =
      let w = part_piece i low in
      let few : length (page_part g bytes i) ≤ body g = (let is : length (take (body g) (drop (i * body g) bytes)) ≡ min (body g) (length (drop (i * body g) bytes)) = length-take (body g) (drop (i * body g) bytes) in omega (arith, is)) in
      rw w.1 (inner-bytes w.0 g.page 0 (length (page_part g bytes i)) (omega (arith, few, (sizes g).page)) ∙ w.2)

  pub over_appends : Appends g pages head head' bytes
  over_appends = record {
    some = add.some;
    size = add.size;
    words = add.words;
    there = λ t low below.
        let place : size_of head / body g + (t - size_of head / body g) ≡ t = omega (arith, low) in
        let w = add.pages_are (t - size_of head / body g) (span_of_part (t - size_of head / body g) (omega (arith, place, below))) in
        let page = w.1 in
        let here : data_page g pages head' t ≡ Some w.0 = sym (ap (λ (n : ℕ). data_page g pages head' n) place) ∙ page in
        rw here refl;
    holds = ap (λ (n : ℕ). take (length bytes) (drop n (bytes_from g pages head' (size_of head / body g) (data_pages g (size_of head') - size_of head / body g)))) add.whole
        ∙ spread (span_bytes g pages head') (body g) (data_pages g (size_of head') - size_of head / body g) (size_of head / body g) bytes count_behind
        (λ i low. let w = part_piece i low in let q = data_page_is g pages head' (size_of head / body g + i) w.0 w.1 in rw w.1 (body_length g w.0 (lengths q.0 w.0 q.1)))
        part_bytes;
  }

pub many-pages_append : (g : Geometry) → ManyPagesAppend g
many-pages_append g pages head head' bytes lengths add = over_appends g pages head head' bytes lengths add

-- ---- the file

pub appended-leads : (g : Geometry) → AppendedLeads g
appended-leads g pages id head head' name bytes f0 lengths file add named = leads_to g pages head head' bytes add id name f0 lengths file named

-- bytes written at the end
written-end : (f : File) (bytes : List ℕ) → take (length f.bytes) f.bytes ++ bytes ++ drop (length f.bytes + length bytes) f.bytes ≡ f.bytes ++ bytes
written-end f bytes =
    let first = take_all (length f.bytes) f.bytes (omega arith) in
    let none = drop_all (length f.bytes + length bytes) f.bytes (omega arith) in
    rw (first, none) (append-nil (f.bytes ++ bytes))

pub appended-is_written : (g : Geometry) → AppendedIsWritten g
appended-is_written g pages id head head' bytes f0 lengths file add named kind meta =
    let w = judged-parts g pages id head f0 file in
    appended-leads g pages id head head' w.0 bytes f0 lengths file add (named ∙ w.1)
    ∙ ap (λ (x : ℕ). Ok (record { id = id; name = w.0; kind = x; meta = slice_range head' 45 (45 + g.meta); bytes = f0.bytes ++ bytes })) kind
    ∙ ap (λ (xs : List ℕ). Ok (record { id = id; name = w.0; kind = slice_index head 12; meta = xs; bytes = f0.bytes ++ bytes })) meta
    ∙ ap (λ (x : File). Ok (record { id = x.id; name = x.name; kind = x.kind; meta = x.meta; bytes = f0.bytes ++ bytes })) w.2
    ∙ ap (λ (xs : List ℕ). Ok (record { id = f0.id; name = f0.name; kind = f0.kind; meta = f0.meta; bytes = xs })) (sym (written-end f0 bytes))

pub appended-serves : (g : Geometry) → AppendedServes g
appended-serves g pages head head' bytes add r = (
  serves_on g pages head head' bytes add r,
  λ t low below e. serves_data g pages head' r t below e (new_named g pages head head' bytes add t r low below e),
  λ j below e. serves_index g pages head' r j below e,
)
