-- What a renewed page leads to.
use Rattle.std.proofs.Common.{◌≡◌, ℕ, zero, suc, ◌+◌, ◌<◌, ◌≤◌, List, [], take, slice_index, slice_range, Bool, true, false, not, ◌&&◌, ◌||◌, Some, None, Ok, ap, refl, ◌∙◌, arith}
use Rattle.std.specs.Prelude.{is_some, is_none, unwrap_or}
use Rattle.std.specs.List.{range_with_len, list_any}
use Rattle.std.proofs.lemmas.Bool.{and_parts}
use Rattle.geometry.specs.declared.geometry.Geometry.{Geometry}
use Rattle.table_model.specs.Room.{data_pages, index_pages}
use Rattle.image_model.specs.Live.{Live}
use Rattle.table_model.specs.Table.{File}
use Rattle.image_model.specs.Files.{index_page, entry_number, data_of, data_page, judged, span_bytes, bytes_of, first_missing}
use Rattle.image_model.specs.Headers.{size_of, name_of}
use Rattle.image_model.specs.Tidy.{is_number, serves}
use Rattle.image_laws.specs.Reindex.{now_data, now_bytes}
use Rattle.image_laws.specs.Spares.{leftover}
use Rattle.renew_laws.specs.Leads.{CopiesSame, SameSpans, RenamedLeads}
use Rattle.image_laws.proofs.Judge.{find-range}
use Rattle.image_laws.proofs.Wanted.{judged-whole}
use Rattle.image_laws.proofs.Reindexed.{judged-parts, pieces-same}
use Rattle.image_laws.proofs.Append.{page_there}
use Rattle.renew_laws.proofs.Spans.{entry_by_word, page_by_word}

file-bytes : (g : Geometry) (pages : Live) (id : ℕ) (head : List ℕ) (f0 : File) → judged g pages id head ≡ Ok f0 → bytes_of g pages head ≡ f0.bytes
file-bytes g pages id head f0 file = let w = judged-parts g pages id head f0 file in ap (λ (f : File). f.bytes) w.2

pub copies-same : (g : Geometry) → CopiesSame g
unfolding now_bytes
copies-same g pages id head new f0 file same =
    ap (λ (bs : List ℕ). take (size_of head) bs)
    (pieces-same (span_bytes g pages head) (λ (t : ℕ). slice_range (unwrap_or (now_data g pages head new t) []) 5 g.page) 0 (data_pages g (size_of head)) (λ q low high. same q (omega arith)))
    ∙ file-bytes g pages id head f0 file

-- some number of a range passes where it did
pub any-range : (f now : ℕ → Bool) (a n : ℕ) → ((q : ℕ) → a ≤ q → q < a + n → now q ≡ f q) → list_any now (range_with_len a n) ≡ list_any f (range_with_len a n)
any-range f now a zero same = refl
any-range f now a (suc n) same = rw (same a (omega arith) (omega arith)) (ap (λ (b : Bool). f a || b) (any-range f now (a + 1) n (λ q low high. same q (omega arith) (omega arith))))

module _ (g : Geometry) (pages : Live) (head head' : List ℕ) (spans : SameSpans g head head') where
  entry_same : (t : ℕ) → t < data_pages g (size_of head) → entry_number g pages head' t ≡ entry_number g pages head t
  entry_same t below = entry_by_word g pages head head' t (spans.words t below)

  data_same : (t : ℕ) → t < data_pages g (size_of head) → data_page g pages head' t ≡ data_page g pages head t
  data_same t below = page_by_word g pages head head' t (spans.words t below)

  pub serves-renamed : (r : ℕ) → serves g pages head' r ≡ serves g pages head r
  unfolding serves
  serves-renamed r =
      let a : list_any (λ (j : ℕ). is_number (index_page g pages j) r) (range_with_len 0 (index_pages g (size_of head'))) ≡ list_any (λ (j : ℕ). is_number (index_page g pages j) r) (range_with_len 0 (index_pages g (size_of head))) =
      ap (λ (n : ℕ). list_any (λ (j : ℕ). is_number (index_page g pages j) r) (range_with_len 0 (index_pages g n))) spans.size in
      let b : list_any (λ (t : ℕ). is_number (entry_number g pages head' t) r && is_some (data_of (pages r) t)) (range_with_len 0 (data_pages g (size_of head'))) ≡
      list_any (λ (t : ℕ). is_number (entry_number g pages head t) r && is_some (data_of (pages r) t)) (range_with_len 0 (data_pages g (size_of head))) =
      ap (λ (n : ℕ). list_any (λ (t : ℕ). is_number (entry_number g pages head' t) r && is_some (data_of (pages r) t)) (range_with_len 0 (data_pages g n))) spans.size
      ∙ any-range (λ (t : ℕ). is_number (entry_number g pages head t) r && is_some (data_of (pages r) t)) (λ (t : ℕ). is_number (entry_number g pages head' t) r && is_some (data_of (pages r) t)) 0 (data_pages g (size_of head))
      (λ q low high. rw (entry_same q (omega arith)) refl) in
      rw (a, b) refl

  module _ (id : ℕ) (name : List ℕ) (f0 : File) (file : judged g pages id head ≡ Ok f0) (named : name_of head' ≡ Some name) where
    none_missing : first_missing g pages head' ≡ None
    none_missing = rw spans.size (find-range (λ (t : ℕ). is_none (data_page g pages head t)) (λ (t : ℕ). is_none (data_page g pages head' t)) 0 (data_pages g (size_of head)) (λ q low high. rw (data_same q (omega arith)) refl)
        ∙ judged-whole g pages id head f0 file)

    bytes_same : bytes_of g pages head' ≡ f0.bytes
    bytes_same = (rw spans.size (ap (λ (bs : List ℕ). take (size_of head) bs) (pieces-same (span_bytes g pages head) (span_bytes g pages head') 0 (data_pages g (size_of head)) (λ q low high. rw (data_same q (omega arith)) refl))))
        ∙ file-bytes g pages id head f0 file

    leads_to : judged g pages id head' ≡ Ok (record { id = id; name = name; kind = slice_index head' 12; meta = slice_range head' 45 (45 + g.meta); bytes = f0.bytes })
    unfolding judged
    leads_to = rw (named, none_missing) (rw bytes_same refl)

pub renamed-leads : (g : Geometry) → RenamedLeads g
renamed-leads g pages id head head' name f0 file spans named = (leads_to g pages head head' spans id name f0 file named, serves-renamed g pages head head' spans)

-- where all pages of the id serve it, none is left over
pub no_leftover : (g : Geometry) (pages : Live) (head : List ℕ) (r : ℕ) → ((x : List ℕ) → pages r ≡ Some x → serves g pages head r ≡ true) → leftover g pages head r ≡ true → ⊥
unfolding leftover
no_leftover g pages head r all e =
    let v : (is_some (pages r) ≡ true) × (not (serves g pages head r) ≡ true) = and_parts (is_some (pages r)) _ e in
    let x = page_there (pages r) v.0 in
    let s = all x.0 x.1 in
    let bad : false ≡ true = rw s at v.1 in absurd (cc)
