-- Bytes of a file in pieces are overwritten inside one piece.
use Rattle.std.proofs.Common.{◌≡◌, ◌≢◌, ℕ, zero, suc, ◌+◌, ◌-◌, ◌*◌, ◌/◌, ◌%◌, ◌<◌, ◌≤◌, ◌⊎◌, List, [], ◌++◌, length, take, drop, slice_index, slice_range, get_or, Some, ap, refl, sym, ◌∙◌, arith, ⊎_elim, inl, inr, length-take, append-nil, length-drop, length-append}
use Rattle.std.specs.Prelude.{unwrap_or}
use Rattle.std.specs.List.{range_with_len, flat_map}
use Rattle.std.proofs.Math.Nat.{div-add-mod, mul-le-mul_right, mul_comm}
use Rattle.std.proofs.lemmas.Bool.{cases_eq, cases_lt}
use Rattle.std.proofs.lemmas.List.{take-append-drop, ext_get_or, get_or-take, get_or-drop, get_or_append_left, get_or-append_right}
use Rattle.geometry.specs.declared.geometry.Geometry.{Geometry}
use Rattle.geometry.specs.Numbers.{body}
use Rattle.table_model.specs.Table.{File}
use Rattle.table_model.specs.Room.{data_pages}
use Rattle.image_model.specs.Within.{sizes}
use Rattle.image_model.specs.Headers.{size_of}
use Rattle.image_model.specs.Files.{data_page, span_bytes, bytes_of}
use Rattle.image_laws.specs.Reindex.{now_data, now_bytes}
use Rattle.image_laws.proofs.Append.{data_page_is, body_length}
use Rattle.renew_laws.proofs.Spans.{span_page}
use Rattle.image_laws.proofs.Matching.{length-pieces}
use Rattle.image_laws.proofs.Reindexed.{judged-parts}
use Rattle.image_laws.proofs.Serving.{ceil-enough}
use Rattle.renew_laws.specs.Overwrite.{PatchedIsWritten, NothingWritten}

-- ---- lists

-- byte k of piece q
piece_at : (f : ℕ → List ℕ) (w a n q k : ℕ) → ((j : ℕ) → a ≤ j → j < a + n → length (f j) ≡ w) → q < n → k < w → get_or (flat_map f (range_with_len a n)) (q * w + k) 0 ≡ get_or (f (a + q)) k 0
piece_at f w a zero q k each below small = absurd (omega arith)
piece_at f w a (suc n) zero k each below small =
    let len : length (f a) ≡ w = each a (omega arith) (omega arith) in
    let at : 0 * w + k ≡ k = omega arith in
    ap (λ (i : ℕ). get_or (f a ++ flat_map f (range_with_len (a + 1) n)) i 0) at
    ∙ get_or_append_left (f a) (flat_map f (range_with_len (a + 1) n)) 0 k (omega (arith, len, small))
    ∙ ap (λ (j : ℕ). get_or (f j) k 0) (let e : a ≡ a + 0 = omega arith in e)
piece_at f w a (suc n) (suc q) k each below small =
    let len : length (f a) ≡ w = each a (omega arith) (omega arith) in
    let product : suc q * w ≡ q * w + w = omega arith in
    let at : suc q * w + k - w ≡ q * w + k = omega (arith, product) in
    get_or-append_right (f a) (flat_map f (range_with_len (a + 1) n)) w (suc q * w + k) 0 len (omega (arith, product))
    ∙ ap (λ (i : ℕ). get_or (flat_map f (range_with_len (a + 1) n)) i 0) at
    ∙ piece_at f w (a + 1) n q k (λ j low high. each j (omega (arith, low)) (omega (arith, high))) (omega (arith, below)) small
    ∙ ap (λ (j : ℕ). get_or (f j) k 0) (let e : a + 1 + q ≡ a + suc q = omega arith in e)

-- a byte of a list with other bytes written at a place
module _ (old bytes : List ℕ) (at : ℕ) (fits : at + length bytes ≤ length old) where
  front : length (take at old) ≡ at
  front = simp (length-take) (omega (arith, fits))

  middle : length (take at old ++ bytes) ≡ at + length bytes
  middle = simp (length-append) (omega (arith, front))

  length_written : length (take at old ++ bytes ++ drop (at + length bytes) old) ≡ length old
  length_written = simp (length-append, length-drop) (omega (arith, front, fits))

  byte_before : (i : ℕ) → i < at → get_or (take at old ++ bytes ++ drop (at + length bytes) old) i 0 ≡ get_or old i 0
  byte_before i low =
      get_or_append_left (take at old ++ bytes) (drop (at + length bytes) old) 0 i (omega (arith, middle, low))
      ∙ get_or_append_left (take at old) bytes 0 i (omega (arith, front, low))
      ∙ get_or-take at old i 0 low

  byte_inside : (i : ℕ) → at ≤ i → i < at + length bytes → get_or (take at old ++ bytes ++ drop (at + length bytes) old) i 0 ≡ get_or bytes (i - at) 0
  byte_inside i low high =
      get_or_append_left (take at old ++ bytes) (drop (at + length bytes) old) 0 i (omega (arith, middle, high))
      ∙ get_or-append_right (take at old) bytes at i 0 front low

  byte_after : (i : ℕ) → at + length bytes ≤ i → get_or (take at old ++ bytes ++ drop (at + length bytes) old) i 0 ≡ get_or old i 0
  byte_after i high =
      get_or-append_right (take at old ++ bytes) (drop (at + length bytes) old) (at + length bytes) i 0 middle high
      ∙ get_or-drop (at + length bytes) old (i - (at + length bytes)) 0
      ∙ ap (λ (j : ℕ). get_or old j 0) (let e : at + length bytes + (i - (at + length bytes)) ≡ i = omega (arith, high) in e)

module _ (w s n size from : ℕ) (old now : ℕ → List ℕ) (bytes : List ℕ) (pos : 0 < w) (enough : size ≤ n * w) (old_len : (j : ℕ) → 0 ≤ j → j < 0 + n → length (old j) ≡ w) (now_len : (j : ℕ) → 0 ≤ j → j < 0 + n → length (now j) ≡ w)
    (inner : from + length bytes ≤ w) (below : s * w + from + length bytes ≤ size) (others : (t : ℕ) → t < n → t ≢ s → now t ≡ old t) (inside : (k : ℕ) → k < length bytes → slice_index (now s) (from + k) ≡ slice_index bytes k)
    (outside : (k : ℕ) → k < w → s * w + k < size → (k < from) ⊎ (from + length bytes ≤ k) → slice_index (now s) k ≡ slice_index (old s) k) where
  abbrev whole : (ℕ → List ℕ) → List ℕ
  whole f = take size (flat_map f (range_with_len 0 n))

  abbrev at : ℕ
  at = s * w + from

  whole_length : (f : ℕ → List ℕ) → ((j : ℕ) → 0 ≤ j → j < 0 + n → length (f j) ≡ w) → length (whole f) ≡ size
  whole_length f each = let all : length (flat_map f (range_with_len 0 n)) ≡ n * w = length-pieces f w 0 n each in simp (length-take) (omega (arith, all, enough))

  -- byte i is byte i % w of piece i / w
  piece : (i : ℕ) → i < size → (t : ℕ) × (k : ℕ) × (t * w + k ≡ i) × (k < w) × (t < n)
  piece i small =
      let parts : w * (i / w) + i % w ≡ i = div-add-mod i w in
      let product : w * (i / w) ≡ (i / w) * w = mul_comm w (i / w) in
      let less : i % w < w = omega (arith, pos) in (
        i / w,
        i % w,
        omega (arith, parts, product),
        less,
        ⊎_elim
            (λ (x : i / w < n). x)
            (λ (x : n ≤ i / w). let step : n * w ≤ (i / w) * w = mul-le-mul_right w x in absurd (omega (arith, parts, product, step, enough, small)))
            (cases_lt (i / w) n),
      )

  byte_of : (f : ℕ → List ℕ) → ((j : ℕ) → 0 ≤ j → j < 0 + n → length (f j) ≡ w) → (t k : ℕ) → t < n → k < w → t * w + k < size → get_or (whole f) (t * w + k) 0 ≡ get_or (f t) k 0
  byte_of f each t k low small high = get_or-take size (flat_map f (range_with_len 0 n)) (t * w + k) 0 high ∙ piece_at f w 0 n t k each low small ∙ ap (λ (j : ℕ). get_or (f j) k 0) (let e : 0 + t ≡ t = omega arith in e)

  fits : at + length bytes ≤ length (whole old)
  fits = omega (arith, whole_length old old_len, below)

  same_at : (t k : ℕ) → t < n → k < w → t * w + k < size → get_or (whole now) (t * w + k) 0 ≡ get_or (take at (whole old) ++ bytes ++ drop (at + length bytes) (whole old)) (t * w + k) 0
  same_at t k low small high =
      byte_of now now_len t k low small high
      ∙ ⊎_elim
      (λ (here : t ≡ s).
      let place : t * w ≡ s * w = ap (λ (x : ℕ). x * w) here in
      ap (λ (x : ℕ). get_or (now x) k 0) here
      ∙ ⊎_elim
      (λ (x : k < from).
      outside k small (omega (arith, place, high)) (inl x) ∙ ap (λ (x : ℕ). get_or (old x) k 0) (sym here) ∙ sym (byte_of old old_len t k low small high)
      ∙ sym (byte_before (whole old) bytes at fits (t * w + k) (omega (arith, place, x))))
      (λ (x : from ≤ k). ⊎_elim
      (λ (y : k < from + length bytes).
      let step : from + (k - from) ≡ k = omega (arith, x) in
      let index : t * w + k - at ≡ k - from = omega (arith, place, x) in
      ap (λ (j : ℕ). get_or (now s) j 0) (sym step) ∙ inside (k - from) (omega (arith, x, y)) ∙ ap (λ (j : ℕ). get_or bytes j 0) (sym index)
      ∙ sym (byte_inside (whole old) bytes at fits (t * w + k) (omega (arith, place, x)) (omega (arith, place, y))))
      (λ (y : from + length bytes ≤ k).
      outside k small (omega (arith, place, high)) (inr y) ∙ ap (λ (x : ℕ). get_or (old x) k 0) (sym here) ∙ sym (byte_of old old_len t k low small high)
      ∙ sym (byte_after (whole old) bytes at fits (t * w + k) (omega (arith, place, y))))
      (cases_lt k (from + length bytes)))
      (cases_lt k from))
      (λ (there : t ≡ s → ⊥).
      ap (λ (xs : List ℕ). get_or xs k 0) (others t low there) ∙ sym (byte_of old old_len t k low small high)
      ∙ ⊎_elim
      (λ (x : t < s).
      let step : (t + 1) * w ≤ s * w = mul-le-mul_right w (omega (arith, x)) in
      let product : (t + 1) * w ≡ t * w + w = omega arith in
      sym (byte_before (whole old) bytes at fits (t * w + k) (omega (arith, step, product, small))))
      (λ (x : s ≤ t).
      let step : (s + 1) * w ≤ t * w = mul-le-mul_right w (omega (arith, x, there)) in
      let product : (s + 1) * w ≡ s * w + w = omega arith in
      sym (byte_after (whole old) bytes at fits (t * w + k) (omega (arith, step, product, inner))))
      (cases_lt t s))
      (cases_eq t s)

  spliced : whole now ≡ take at (whole old) ++ bytes ++ drop (at + length bytes) (whole old)
  spliced = ext_get_or 0 (whole now) (take at (whole old) ++ bytes ++ drop (at + length bytes) (whole old)) (whole_length now now_len ∙ sym (length_written (whole old) bytes at fits ∙ whole_length old old_len))
      (λ i small. let p = piece i (omega (arith, small, whole_length now now_len)) in
      let same = same_at p.0 p.1 p.4 p.3 (omega (arith, p.2, small, whole_length now now_len)) in
      ap (λ (j : ℕ). get_or (whole now) j 0) (sym p.2) ∙ same ∙ ap (λ (j : ℕ). get_or (take at (whole old) ++ bytes ++ drop (at + length bytes) (whole old)) j 0) p.2)

-- ---- a file

-- a byte of the body of a page
pub body_at : (page : List ℕ) (size k : ℕ) → k < size - 5 → slice_index (slice_range page 5 size) k ≡ slice_index page (5 + k)
body_at page size k small = get_or-take (size - 5) (drop 5 page) k 0 small ∙ get_or-drop 5 page k 0

pub patched-is_written : (g : Geometry) → PatchedIsWritten g
unfolding now_bytes
patched-is_written g pages id s head new z y bytes f file lengths below was now len others from used inner fits needed patch =
    let big : 128 ≤ g.page = (sizes g).page in
    let w = judged-parts g pages id head f file in
    let whole : bytes_of g pages head ≡ f.bytes = ap (λ (x : File). x.bytes) w.2 in
    let present : (t : ℕ) → t < data_pages g (size_of head) → (x : List ℕ) × (data_page g pages head t ≡ Some x) × (length x ≡ g.page) =
    λ t low.
    let x = span_page g pages id head f file t low in
    let q = data_page_is g pages head t x.0 x.1 in (x.0, x.1, lengths q.0 x.0 q.1) in
    let old_len : (t : ℕ) → 0 ≤ t → t < 0 + data_pages g (size_of head) → length (span_bytes g pages head t) ≡ body g =
    λ t low high. let x = present t (omega (arith, high)) in rw x.1 (body_length g x.0 x.2) in
    let now_len : (t : ℕ) → 0 ≤ t → t < 0 + data_pages g (size_of head) → length (slice_range (unwrap_or (now_data g pages head new t) []) 5 g.page) ≡ body g =
    λ t low high. ⊎_elim
    (λ (here : t ≡ s). rw here (rw now (body_length g y len)))
    (λ (there : t ≡ s → ⊥). rw (others t (omega (arith, high)) there) (old_len t low high))
    (cases_eq t s) in
    let here : length z ≡ g.page = let q = data_page_is g pages head s z was in lengths q.0 z q.1 in
    spliced (body g) s (data_pages g (size_of head)) (size_of head) from (span_bytes g pages head) (λ (t : ℕ). slice_range (unwrap_or (now_data g pages head new t) []) 5 g.page) bytes (omega (arith, big))
    (ceil-enough (size_of head) (body g) (omega (arith, big))) old_len now_len inner fits (λ t low there. rw (others t low there) refl)
    (λ k small. rw now (body_at y g.page (from + k) (omega (arith, inner, small, big)) ∙ ap (λ (i : ℕ). slice_index y i) (let e : 5 + (from + k) ≡ 5 + from + k = omega arith in e) ∙ patch.inside k small))
    (λ k small high out. rw (now, was)
    (body_at y g.page k small
    ∙ ⊎_elim (λ (x : k < from). patch.before k x (needed k small high)) (λ (x : from + length bytes ≤ k). patch.after k x (needed k small high)) out
    ∙ sym (body_at z g.page k small)))
    ∙ ap (λ (xs : List ℕ). take (s * body g + from) xs ++ bytes ++ drop (s * body g + from + length bytes) xs) whole

pub nothing-written : NothingWritten
nothing-written at f =
    let same : take at f.bytes ++ [] ++ drop (at + 0) f.bytes ≡ f.bytes =
    ap (λ (xs : List ℕ). xs ++ drop (at + 0) f.bytes) (append-nil (take at f.bytes)) ∙ ap (λ (i : ℕ). take at f.bytes ++ drop i f.bytes) (let e : at + 0 ≡ at = omega arith in e) ∙ take-append-drop at f.bytes in
    ap (λ (bs : List ℕ). record { id = f.id; name = f.name; kind = f.kind; meta = f.meta; bytes = bs }) same
