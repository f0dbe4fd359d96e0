-- The data pages that a map tells.
use Rattle.std.proofs.Common.{◌≡◌, ℕ, ◌+◌, ◌-◌, ◌/◌, ◌%◌, ◌<◌, ◌≤◌, Bool, true, false, if◌then◌else◌, List, length, take, slice_range, refl, sym, subst, ◌∙◌, ap, arith, [], ◌∷◌, ◌++◌, length-append, length-take, length-drop}
use Rattle.std.specs.Prelude.{Option, Some, None, min, unwrap_or, option_and_then}
use Rattle.std.proofs.lemmas.Option.{none-some, same_Some}
use Rattle.std.proofs.lemmas.List.{length-take-le, take-append-le, append_assoc}
use Rattle.geometry.specs.declared.geometry.Geometry.{Geometry}
use Rattle.geometry.specs.Numbers.{body, page_count}
use Rattle.table_model.specs.Table.{File}
use Rattle.table_model.specs.Files.{bytes_at}
use Rattle.table_model.specs.Room.{data_pages}
use Rattle.image_model.specs.Places.{page_of, IsImage}
use Rattle.image_model.specs.Within.{page_number}
use Rattle.image_model.specs.Headers.{size_of}
use Rattle.image_model.specs.Live.{Live, live_at, own}
use Rattle.image_model.specs.Files.{entry_number, data_of, data_page}
use Rattle.file_read.specs.Whole.{IsFileOf, IsRead, Reading}
use Rattle.file_read.proofs.Names.{own_page}
use Rattle.file_read.proofs.Bytes.{read_more}
use Rattle.file_read.proofs.Pieces.{parts, size_is, own_entry, span_below, data_there, piece_is}
use Rattle.ix_map.specs.declared.map.IxMap.{IxMap}
use Rattle.ix_map.proofs.Heads.{by_head}
use Rattle.ix_map.specs.Maps.{spans_in, number_at, filled, IsMapOf}

of_span : (x z : List ℕ) (mine : Bool) → (if mine then Some x else None) ≡ Some z → x ≡ z
of_span x z true e = same_Some x z e
of_span x z false e = absurd (none-some z e)

data_is : (o : Option (List ℕ)) (span : ℕ) (z : List ℕ) → data_of o span ≡ Some z → o ≡ Some z
data_is None span z e = absurd (none-some z e)
data_is (Some x) span z e = ap (λ (y : List ℕ). Some y) (of_span x z _ e)

-- the number of a data page that is there
entry_of_page : (pages : Live) (span : ℕ) (z : List ℕ) (o : Option ℕ) → option_and_then (λ p. data_of (pages p) span) o ≡ Some z → (q : ℕ) × (o ≡ Some q) × (pages q ≡ Some z)
entry_of_page pages span z None e = absurd (none-some z e)
entry_of_page pages span z (Some q) e = (q, refl, data_is (pages q) span z e)

entry_is : (g : Geometry) (pages : Live) (head : List ℕ) (span : ℕ) (z : List ℕ) → data_page g pages head span ≡ Some z → (q : ℕ) × (entry_number g pages head span ≡ Some q) × (pages q ≡ Some z)
unfolding data_page
entry_is g pages head span z e = entry_of_page pages span z (entry_number g pages head span) e

-- the data page of a place of a file, by the file's map
pub record PageAt (g : Geometry) (image : List ℕ) (m : IxMap) (numbers : List ℕ) (f : File) (place : ℕ) : Type 0 where
  pub below : number_at numbers (place / body g - m.first) < page_count g
  pub bytes : (len : ℕ) → place + len ≤ length f.bytes → 0 < len → place % body g + len ≤ body g →
      slice_range (page_of g image (number_at numbers (place / body g - m.first))) (5 + place % body g) (5 + place % body g + len) ≡ bytes_at len place f

pub page_at : (g : Geometry) (image : List ℕ) (m : IxMap) (numbers : List ℕ) (f : File) (place : ℕ) → IsImage g image → IsMapOf g image m numbers → IsFileOf g image m.id f → place < length f.bytes → m.first ≤ place / body g →
    place / body g < m.first + spans_in m.first numbers → PageAt g image m numbers f place
page_at g image m numbers f place whole map file inside low high =
    let pages = own (live_at g image) m.id in
    let b = by_head g image m numbers map in
    let p = parts g image m.id f file in
    let same : b.page ≡ p.header = same_Some b.page p.header (sym b.header.first ∙ p.first) in
    let heads : b.head ≡ p.head = same_Some b.head p.head (sym b.header.is ∙ ap pages same ∙ p.is) in
    let size : length f.bytes ≡ size_of p.head = size_is g image m.id f whole p in
    let there : place / body g < data_pages g (size_of p.head) = span_below g image m.id f whole p place (omega (arith, size, inside)) in
    let z = data_there g image m.id f whole p (place / body g) there in
    let q = entry_is g pages p.head (place / body g) z.0 z.1 in
    let sized : m.size ≡ size_of p.head = b.by.size ∙ ap size_of heads in
    let many : data_pages g m.size ≡ data_pages g (size_of p.head) = ap (data_pages g) sized in
    let small : place / body g - m.first < filled g m.first m.size numbers = omega (arith, many, there, low, high) in
    let span : m.first + (place / body g - m.first) ≡ place / body g = omega (arith, low) in
    let number : number_at numbers (place / body g - m.first) ≡ q.0 =
    b.by.told (place / body g - m.first) small ∙ ap (λ (s : ℕ). unwrap_or (entry_number g pages b.head s) 0xFFFF) span ∙ ap (λ (h : List ℕ). unwrap_or (entry_number g pages h (place / body g)) 0xFFFF) heads ∙ ap (λ (o : Option ℕ). unwrap_or o 0xFFFF) q.1 in
    let bytes : page_of g image q.0 ≡ z.0 = own_page g image m.id q.0 z.0 q.2 in
    record {
      below = subst (λ (n : ℕ). n < page_count g) (sym number) (page_number g q.0 (own_entry g image m.id q.0 z.0 q.2));
      bytes = λ len fits some in_page. rw (number, bytes) (piece_is g image m.id f whole p place len z.0 fits some in_page z.1);
    }

-- bytes of the data page of the next place are read behind those that were read
pub piece_read : (g : Geometry) (image : List ℕ) (m : IxMap) (numbers : List ℕ) (f : File) (at done len : ℕ) (into part tail : List ℕ) → Reading g image m.id f at done into → PageAt g image m numbers f (at + done) → 0 < len → done + len ≤ length into → (at + done) % body g + len ≤ body g →
    part ≡ slice_range (page_of g image (number_at numbers ((at + done) / body g - m.first))) (5 + (at + done) % body g) (5 + (at + done) % body g + len) → length part ≡ len → length tail ≡ length into - (done + len) → Reading g image m.id f at (done + len) (take done into ++ (part ++ tail))
piece_read g image m numbers f at done len into part tail was page some fits in_page is size rest =
    let front : length (take done into) ≡ done = length-take-le done into (omega (arith, fits)) in
    let bytes : part ≡ bytes_at len (at + done) f = is ∙ page.bytes len (omega (arith, fits, was.inside)) some in_page in
    let whole : length (take done into ++ (part ++ tail)) ≡ length into = simp length-append (omega (arith, front, size, rest, fits)) in
    let both : length (take done into ++ part) ≡ done + len = simp length-append (omega (arith, front, size)) in
    let cut : take (done + len) (take done into ++ (part ++ tail)) ≡ take (done + len) (take done into ++ part) =
    ap (λ (xs : List ℕ). take (done + len) xs) (sym (append_assoc (take done into) part tail)) ∙ take-append-le (done + len) (take done into ++ part) tail (omega (arith, both)) in
    record { file = was.file; inside = omega (arith, whole, was.inside); read = cut ∙ read_more into part f.bytes at done len was.read front bytes }

-- a map tells the size of its file
pub size_mapped : (g : Geometry) (image : List ℕ) (m : IxMap) (numbers : List ℕ) (f : File) → IsImage g image → IsMapOf g image m numbers → IsFileOf g image m.id f → m.size ≡ length f.bytes
size_mapped g image m numbers f whole map file =
    let pages = own (live_at g image) m.id in
    let b = by_head g image m numbers map in
    let p = parts g image m.id f file in
    let same : b.page ≡ p.header = same_Some b.page p.header (sym b.header.first ∙ p.first) in
    let heads : b.head ≡ p.head = same_Some b.head p.head (sym b.header.is ∙ ap pages same ∙ p.is) in
    b.by.size ∙ ap size_of heads ∙ sym (size_is g image m.id f whole p)

-- where no byte is given none is read
none_of : (xs : List ℕ) → length xs ≡ 0 → xs ≡ []
none_of [] e = refl
none_of (x ∷ xs) e = absurd (omega (arith, e))

pub read_zero : (f : File) (at : ℕ) (into : List ℕ) → min (length f.bytes - at) (length into) ≡ 0 → IsRead f at into into 0
read_zero f at into none =
    let long : length (bytes_at (length into) at f) ≡ 0 = simp (length-take, length-drop) (omega (arith, none)) in
    record { count = sym long; bytes = sym (none_of (bytes_at (length into) at f) long); rest = refl }
