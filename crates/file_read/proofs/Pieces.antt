-- The bytes of a whole file by its data pages.
use Rattle.std.proofs.Common.{◌≡◌, ℕ, ◌+◌, ◌-◌, ◌*◌, ◌/◌, ◌%◌, ◌<◌, ◌≤◌, Bool, true, false, List, [], ◌++◌, length, take, drop, slice_range, refl, sym, subst, ◌∙◌, ap, arith, ⊎_elim, length-take, length-drop, length-append}
use Rattle.std.specs.Prelude.{Option, Some, None, Ok, is_none, unwrap_or, min}
use Rattle.std.specs.List.{range_with_len, flat_map}
use Rattle.std.proofs.Math.Nat.{div-add-mod, mul_comm, le-div_iff_mul-le}
use Rattle.std.proofs.lemmas.List.{length-take-le, take-append-le, append_assoc, take_all, drop_all, take_at, drop_at}
use Rattle.geometry.specs.declared.geometry.Geometry.{Geometry}
use Rattle.geometry.specs.Numbers.{body, ceil}
use Rattle.table_model.specs.Table.{File}
use Rattle.table_model.specs.Files.{bytes_at}
use Rattle.table_model.specs.Room.{data_pages}
use Rattle.std.proofs.lemmas.Bool.{cases_Bool, cases_lt}
use Rattle.std.proofs.lemmas.Option.{none-some, same_Some}
use Rattle.image_model.specs.Places.{page_of, IsImage, is_entry_page}
use Rattle.image_model.specs.Within.{page_length, sizes}
use Rattle.image_model.specs.Headers.{size_of}
use Rattle.image_model.specs.Live.{live_at, own, is_live}
use Rattle.image_model.specs.Files.{index_page, data_page, span_bytes, bytes_of, judged, found, index_span}
use Rattle.image_laws.proofs.Judge.{found_parts}
use Rattle.image_laws.proofs.Append.{find-all, some_page, data_page_is, body_length}
use Rattle.image_laws.proofs.Matching.{length-pieces}
use Rattle.image_laws.proofs.Reindexed.{judged-parts}
use Rattle.image_laws.proofs.Serving.{ceil-enough}
use Rattle.image_laws.proofs.Wanted.{judged-whole}
use Rattle.file_read.specs.Whole.{IsFileOf, IsFileAt, IsRead, Reading}
use Rattle.file_read.specs.Spans.{named_page}
use Rattle.file_read.proofs.Names.{own_page, named_is, index_there}
use Rattle.file_read.proofs.Bytes.{in_piece, before_cut, in_body, read_more}

-- a byte below a size lies in one of its pages
span_of_byte : (at size B : ℕ) → 0 < B → at < size → at / B < ceil size B
span_of_byte at size B some below =
    let whole : B * (at / B) + at % B ≡ at = div-add-mod at B in
    let turned : (at / B + 1) * B ≡ B * (at / B) + B = omega (arith, mul_comm (at / B) B) in
    let fits : (at / B + 1) * B ≤ size + B - 1 = omega (arith, whole, turned) in
    omega (arith, (le-div_iff_mul-le some).1 fits)

-- what a whole file's pages are
pub record Parts (g : Geometry) (image : List ℕ) (id : ℕ) (f : File) : Type 0 where
  pub header : ℕ
  pub head : List ℕ
  pub first : index_page g (own (live_at g image) id) 0 ≡ Some header
  pub is : own (live_at g image) id header ≡ Some head
  pub bytes : bytes_of g (own (live_at g image) id) head ≡ f.bytes
  pub there : (span : ℕ) → span < data_pages g (size_of head) → is_none (data_page g (own (live_at g image) id) head span) ≡ false

pub parts : (g : Geometry) (image : List ℕ) (id : ℕ) (f : File) → IsFileOf g image id f → Parts g image id f
parts g image id f file =
    let w = found_parts g (own (live_at g image) id) id file.page (Ok f) file.is in
    let fields = judged-parts g (own (live_at g image) id) id w.0 f w.3 in
    let none = judged-whole g (own (live_at g image) id) id w.0 f w.3 in
    record {
      header = file.page;
      head = w.0;
      first = w.1;
      is = w.2;
      bytes = ap (λ (x : File). x.bytes) fields.2;
      there = λ span below. find-all (λ (s : ℕ). is_none (data_page g (own (live_at g image) id) w.0 s)) 0 (data_pages g (size_of w.0)) none span (omega arith) (omega arith);
    }

-- it lies behind the lookup pages
pub own_entry : (g : Geometry) (image : List ℕ) (id p : ℕ) (x : List ℕ) → own (live_at g image) id p ≡ Some x → is_entry_page g p ≡ true
unfolding own live_at is_live
own_entry g image id p x e =
    ⊎_elim
    (λ (yes : is_entry_page g p ≡ true). yes)
    (λ (no : is_entry_page g p ≡ false). absurd (none-some x (rw no at e)))
    (cases_Bool (is_entry_page g p))

-- a live page of an id is a whole page
pub own_length : (g : Geometry) (image : List ℕ) (id p : ℕ) (x : List ℕ) → IsImage g image → own (live_at g image) id p ≡ Some x → length x ≡ g.page
own_length g image id p x whole e = ap length (sym (own_page g image id p x e)) ∙ page_length g image p whole (own_entry g image id p x e)

module _ (g : Geometry) (image : List ℕ) (id : ℕ) (f : File) (whole : IsImage g image) (file : Parts g image id f) where
  -- the data page of a span
  pub data_there : (span : ℕ) → span < data_pages g (size_of file.head) → (z : List ℕ) × (data_page g (own (live_at g image) id) file.head span ≡ Some z) × (length z ≡ g.page)
  data_there span below =
      let z = some_page (data_page g (own (live_at g image) id) file.head span) (file.there span below) in
      let at = data_page_is g (own (live_at g image) id) file.head span z.0 z.1 in
      (z.0, z.1, own_length g image id at.0 z.0 whole at.1)

  long : (span : ℕ) → 0 ≤ span → span < 0 + data_pages g (size_of file.head) → length (span_bytes g (own (live_at g image) id) file.head span) ≡ body g
  long span low below = let z = data_there span (omega arith) in rw z.1 (body_length g z.0 z.2)

  some_body : 0 < body g
  some_body = omega (arith, (sizes g).page)

  enough : size_of file.head ≤ data_pages g (size_of file.head) * body g
  enough = ceil-enough (size_of file.head) (body g) some_body

  -- as many bytes as the size says
  pub size_is : length f.bytes ≡ size_of file.head
  size_is =
      let all = length-pieces (span_bytes g (own (live_at g image) id) file.head) (body g) 0 (data_pages g (size_of file.head)) long in
      ap length (sym file.bytes) ∙ length-take-le (size_of file.head) (flat_map (span_bytes g (own (live_at g image) id) file.head) (range_with_len 0 (data_pages g (size_of file.head)))) (omega (arith, all, enough))

  -- a byte below the size lies in one of its spans
  pub span_below : (at : ℕ) → at < size_of file.head → at / body g < data_pages g (size_of file.head)
  span_below at below = span_of_byte at (size_of file.head) (body g) some_body below

  -- bytes of a span are those of its data page
  pub piece_is : (at len : ℕ) (z : List ℕ) → at + len ≤ length f.bytes → 0 < len → at % body g + len ≤ body g → data_page g (own (live_at g image) id) file.head (at / body g) ≡ Some z →
      slice_range z (5 + at % body g) (5 + at % body g + len) ≡ bytes_at len at f
  piece_is at len z inside some fits is =
      let size : length f.bytes ≡ size_of file.head = size_is in
      let below : at / body g < data_pages g (size_of file.head) = span_below at (omega (arith, size)) in
      let whole_at : at ≡ at / body g * body g + at % body g = omega (arith, div-add-mod at (body g), mul_comm (at / body g) (body g)) in
      let all : List ℕ = flat_map (span_bytes g (own (live_at g image) id) file.head) (range_with_len 0 (data_pages g (size_of file.head))) in
      let piece : take len (drop (at / body g * body g + at % body g) all) ≡ take len (drop (at % body g) (span_bytes g (own (live_at g image) id) file.head (0 + at / body g))) =
      in_piece (span_bytes g (own (live_at g image) id) file.head) (body g) 0 (data_pages g (size_of file.head)) (at / body g) (at % body g) len long below fits in
      let first : 0 + at / body g ≡ at / body g = omega arith in
      let of_page : span_bytes g (own (live_at g image) id) file.head (at / body g) ≡ slice_range z 5 g.page = rw is refl in
      sym
      (ap (λ (xs : List ℕ). take len (drop at xs)) (sym file.bytes)
      ∙ before_cut all (size_of file.head) at len (omega (arith, inside, size))
      ∙ ap (λ (k : ℕ). take len (drop k all)) whole_at
      ∙ piece
      ∙ ap (λ (s : ℕ). take len (drop (at % body g) (span_bytes g (own (live_at g image) id) file.head s))) first
      ∙ ap (λ (xs : List ℕ). take len (drop (at % body g) xs)) of_page
      ∙ in_body z g.page (at % body g) len (omega (arith, fits, (sizes g).page)))

-- ---- the next bytes of a read

-- the data page of the next byte that is read
pub record Next (g : Geometry) (image : List ℕ) (id : ℕ) (f : File) (index at done : ℕ) : Type 0 where
  pub page : List ℕ
  pub named : named_page g image id index ((at + done) / body g) ≡ Some page
  pub bytes : (len : ℕ) → at + done + len ≤ length f.bytes → 0 < len → (at + done) % body g + len ≤ body g →
      slice_range page (5 + (at + done) % body g) (5 + (at + done) % body g + len) ≡ bytes_at len (at + done) f

pub next : (g : Geometry) (image : List ℕ) (id : ℕ) (f : File) (index at done : ℕ) → IsImage g image → IsFileOf g image id f → at + done < length f.bytes →
    index_page g (own (live_at g image) id) (index_span g ((at + done) / body g)) ≡ Some index → Next g image id f index at done
next g image id f index at done whole file inside named =
    let p = parts g image id f file in
    let size : length f.bytes ≡ size_of p.head = size_is g image id f whole p in
    let below : (at + done) / body g < data_pages g (size_of p.head) = span_below g image id f whole p (at + done) (omega (arith, size)) in
    let z = data_there g image id f whole p ((at + done) / body g) below in
    record {
      page = z.0;
      named = named_is g image id ((at + done) / body g) index p.header p.head p.first p.is named ∙ z.1;
      bytes = λ len fits some in_page. piece_is g image id f whole p (at + done) len z.0 fits some in_page z.1;
    }

-- the index page of the next byte that is read
pub index_next : (g : Geometry) (image : List ℕ) (id : ℕ) (f : File) (at done : ℕ) → IsImage g image → IsFileOf g image id f → at + done < length f.bytes →
    (q : ℕ) × (index_page g (own (live_at g image) id) (index_span g ((at + done) / body g)) ≡ Some q)
index_next g image id f at done whole file inside =
    let p = parts g image id f file in
    let size : length f.bytes ≡ size_of p.head = size_is g image id f whole p in
    let below : (at + done) / body g < data_pages g (size_of p.head) = span_below g image id f whole p (at + done) (omega (arith, size)) in
    let z = data_there g image id f whole p ((at + done) / body g) below in
    index_there g (own (live_at g image) id) p.head ((at + done) / body g) p.header z.0 p.first z.1

-- with these bytes it goes on
pub reads_on : (g : Geometry) (image : List ℕ) (id : ℕ) (f : File) (at done len : ℕ) (into part new : List ℕ) → Reading g image id f at done into → done ≤ length into →
    part ≡ bytes_at len (at + done) f → length new ≡ length into → take (done + len) new ≡ take (done + len) (take done into ++ part) → Reading g image id f at (done + len) new
reads_on g image id f at done len into part new was low is size read = record {
  file = was.file;
  inside = omega (arith, size, was.inside);
  read = read ∙ read_more into part f.bytes at done len was.read (length-take-le done into low) is;
}

-- at first nothing is read
pub reads_none : (g : Geometry) (image : List ℕ) (id : ℕ) (f : File) (at : ℕ) (into : List ℕ) → IsFileOf g image id f → at + length into ≤ length f.bytes → Reading g image id f at 0 into
reads_none g image id f at into file inside = record { file = file; inside = inside; read = refl }

-- a part of a data page is written behind what was read
pub reads_part : (g : Geometry) (image : List ℕ) (id : ℕ) (f : File) (index at done len count : ℕ) (into part tail : List ℕ) → Reading g image id f at done into → (n : Next g image id f index at done) →
    0 < len → done + len ≤ length into → (at + done) % body g + len ≤ body g → count ≡ len → part ≡ slice_range n.page (5 + (at + done) % body g) (5 + (at + done) % body g + count) → length part ≡ count →
    length tail ≡ length into - (done + len) → Reading g image id f at (done + len) (take done into ++ (part ++ tail))
reads_part g image id f index at done len count into part tail was n some fits in_page same is size rest =
    let front : length (take done into) ≡ done = length-take-le done into (omega (arith, fits)) in
    let bytes : part ≡ bytes_at len (at + done) f = is ∙ ap (λ (k : ℕ). slice_range n.page (5 + (at + done) % body g) (5 + (at + done) % body g + k)) same ∙ n.bytes len (omega (arith, fits, was.inside)) some in_page in
    let whole : length (take done into ++ (part ++ tail)) ≡ length into = simp length-append (omega (arith, front, size, same, rest, fits)) in
    let both : length (take done into ++ part) ≡ done + len = simp length-append (omega (arith, front, size, same)) in
    let cut : take (done + len) (take done into ++ (part ++ tail)) ≡ take (done + len) (take done into ++ part) =
    ap (λ (xs : List ℕ). take (done + len) xs) (sym (append_assoc (take done into) part tail)) ∙ take-append-le (done + len) (take done into ++ part) tail (omega (arith, both)) in
    reads_on g image id f at done len into part (take done into ++ (part ++ tail)) was (omega (arith, fits)) bytes whole cut

-- ---- the whole read

-- the size that the header page tells
pub size_told : (g : Geometry) (image : List ℕ) (id : ℕ) (f : File) (header size : ℕ) → IsImage g image → IsFileOf g image id f → index_page g (own (live_at g image) id) 0 ≡ Some header →
    size ≡ size_of (page_of g image header) → size ≡ length f.bytes
size_told g image id f header size whole file first told =
    let p = parts g image id f file in
    let same : p.header ≡ header = same_Some p.header header (sym p.first ∙ first) in
    let head : page_of g image header ≡ p.head = ap (page_of g image) (sym same) ∙ own_page g image id p.header p.head p.is in
    told ∙ ap size_of head ∙ sym (size_is g image id f whole p)

-- as many of the asked bytes as there are
front_of : (bytes : List ℕ) (count n : ℕ) → count ≡ min n (length bytes) → take count bytes ≡ take n bytes
front_of bytes count n is =
    ⊎_elim
    (λ (low : n < length bytes). ap (λ (k : ℕ). take k bytes) (let same : count ≡ n = omega (arith, is, low) in same))
    (λ (high : length bytes ≤ n). take_all count bytes (omega (arith, is, high)) ∙ sym (take_all n bytes high))
    (cases_lt n (length bytes))

pub read_front : (f : File) (at count n : ℕ) (into part tail : List ℕ) → at < length f.bytes → n ≡ length into → count ≡ min n (length f.bytes - at) → part ≡ bytes_at count at f → length part ≡ count → tail ≡ drop count into →
    IsRead f at into (part ++ tail) count
read_front f at count n into part tail inside all is bytes size rest =
    let left : length (drop at f.bytes) ≡ length f.bytes - at = length-drop at f.bytes in
    let few : count ≡ min (length into) (length (drop at f.bytes)) = omega (arith, is, left, all) in
    record {
      count = few ∙ sym (length-take (length into) (drop at f.bytes));
      bytes = take_at part tail count size ∙ bytes ∙ front_of (drop at f.bytes) count (length into) few;
      rest = drop_at part tail count size ∙ rest;
    }

-- none at the end of the file and past it
pub read_none : (f : File) (at : ℕ) (into : List ℕ) → length f.bytes ≤ at → IsRead f at into into 0
read_none f at into past =
    let none : drop at f.bytes ≡ [] = drop_all at f.bytes past in
    let front : bytes_at (length into) at f ≡ [] = ap (λ (xs : List ℕ). take (length into) xs) none ∙ take_all (length into) [] (omega arith) in
    record { count = sym (ap length front); bytes = sym front; rest = refl }

-- ---- the header page is known

pub file_at : (g : Geometry) (image : List ℕ) (id header : ℕ) (f : File) → IsFileAt g image id header f → IsFileOf g image id f
file_at g image id header f file = record { page = header; is = file.is }

pub first_at : (g : Geometry) (image : List ℕ) (id header : ℕ) (f : File) → IsFileAt g image id header f → index_page g (own (live_at g image) id) 0 ≡ Some header
first_at g image id header f file = (found_parts g (own (live_at g image) id) id header (Ok f) file.is).1

pub at_first : (g : Geometry) (image : List ℕ) (id header : ℕ) (f : File) → IsFileOf g image id f → index_page g (own (live_at g image) id) 0 ≡ Some header → IsFileAt g image id header f
at_first g image id header f file first =
    let w = found_parts g (own (live_at g image) id) id file.page (Ok f) file.is in
    let same : file.page ≡ header = same_Some file.page header (sym w.1 ∙ first) in
    record { is = rw same at file.is }
