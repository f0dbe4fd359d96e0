-- What a truncated header page leads to.
use Rattle.std.proofs.Common.{◌≡◌, ℕ, zero, suc, ◌+◌, ◌-◌, ◌*◌, ◌<◌, ◌≤◌, List, length, take, slice_index, slice_range, false, Some, None, Ok, ap, refl, sym, ◌∙◌, arith}
use Rattle.std.specs.Prelude.{is_none}
use Rattle.std.specs.List.{range_with_len, flat_map}
use Rattle.geometry.specs.declared.geometry.Geometry.{Geometry}
use Rattle.geometry.specs.Numbers.{head_slots, body}
use Rattle.table_model.specs.Room.{data_pages}
use Rattle.image_model.specs.Headers.{size_of, name_of}
use Rattle.nor_core.specs.Flash.{word_at}
use Rattle.image_model.specs.Live.{Live}
use Rattle.table_model.specs.Table.{File}
use Rattle.image_model.specs.Files.{data_page, judged, span_bytes, bytes_of, first_missing}
use Rattle.renew_laws.specs.Truncate.{TruncatedLeads}
use Rattle.renew_laws.proofs.Spans.{page_by_word, span_there}
use Rattle.std.proofs.lemmas.List.{take-take}
use Rattle.image_laws.proofs.Append.{take-pieces, some_page, data_page_is, body_length}
use Rattle.image_laws.proofs.Serving.{ceil-enough, ceil-mono}
use Rattle.image_laws.proofs.Reindexed.{judged-parts, pieces-same, find_none-in}

takes-prefix : (f : ℕ → List ℕ) (w m a k n : ℕ) → k ≤ n → m ≤ k * w → ((q : ℕ) → a ≤ q → q < a + k → length (f q) ≡ w) → take m (flat_map f (range_with_len a n)) ≡ take m (flat_map f (range_with_len a k))
takes-prefix f w m a zero n h small each = let none : m ≡ 0 = omega arith in rw none refl
takes-prefix f w m a (suc k) zero h small each = absurd (omega arith)
takes-prefix f w m a (suc k) (suc n) h small each =
    take-pieces (f a) (f a) (flat_map f (range_with_len (a + 1) n)) (flat_map f (range_with_len (a + 1) k)) m refl refl
    (rw (each a (omega arith) (omega arith)) (takes-prefix f w (m - w) (a + 1) k n (omega arith) (omega arith) (λ q low high. each q (omega arith) (omega arith))))

module _ (g : Geometry) (pages : Live) (id : ℕ) (head head' name : List ℕ) (f0 : File) (big : 128 ≤ g.page) (lengths : (q : ℕ) (z : List ℕ) → pages q ≡ Some z → length z ≡ g.page)
    (file : judged g pages id head ≡ Ok f0) (less : size_of head' ≤ size_of head)
    (words : (t : ℕ) → t < data_pages g (size_of head') → t < head_slots g → word_at head' (45 + g.meta + 2 * t) ≡ word_at head (45 + g.meta + 2 * t)) (named : name_of head' ≡ Some name) where
  fewer : data_pages g (size_of head') ≤ data_pages g (size_of head)
  fewer = ceil-mono (size_of head') (size_of head) (body g) (omega arith) less

  data_same : (t : ℕ) → t < data_pages g (size_of head') → data_page g pages head' t ≡ data_page g pages head t
  data_same t below = page_by_word g pages head head' t (words t below)

  present : (t : ℕ) → t < data_pages g (size_of head') → is_none (data_page g pages head t) ≡ false
  present t below = span_there g pages id head f0 file t (omega (arith, below, fewer))

  none_missing : first_missing g pages head' ≡ None
  none_missing = find_none-in (λ (t : ℕ). is_none (data_page g pages head' t)) 0 (data_pages g (size_of head')) (λ q low high. rw (data_same q (omega arith)) (present q (omega arith)))

  piece : (t : ℕ) → 0 ≤ t → t < 0 + data_pages g (size_of head') → length (span_bytes g pages head t) ≡ body g
  piece t low below =
      let z = some_page (data_page g pages head t) (present t (omega arith)) in
      let q = data_page_is g pages head t z.0 z.1 in
      rw z.1 (body_length g z.0 (lengths q.0 z.0 q.1))

  bytes_same : bytes_of g pages head' ≡ take (size_of head') f0.bytes
  bytes_same =
      let w = judged-parts g pages id head f0 file in
      let whole : bytes_of g pages head ≡ f0.bytes = ap (λ (f : File). f.bytes) w.2 in
      let enough : size_of head' ≤ data_pages g (size_of head') * body g = ceil-enough (size_of head') (g.page - 5) (omega arith) in
      ap (λ (bs : List ℕ). take (size_of head') bs) (pieces-same (span_bytes g pages head) (span_bytes g pages head') 0 (data_pages g (size_of head')) (λ q low high. rw (data_same q (omega arith)) refl))
      ∙ sym (takes-prefix (span_bytes g pages head) (body g) (size_of head') 0 (data_pages g (size_of head')) (data_pages g (size_of head)) fewer enough piece)
      ∙ sym (take-take (size_of head') (size_of head) (flat_map (span_bytes g pages head) (range_with_len 0 (data_pages g (size_of head)))) less)
      ∙ ap (λ (bs : List ℕ). take (size_of head') bs) whole

  leads_to : judged g pages id head' ≡ Ok (record { id = id; name = name; kind = slice_index head' 12; meta = slice_range head' 45 (45 + g.meta); bytes = take (size_of head') f0.bytes })
  unfolding judged
  leads_to = rw (named, none_missing) (rw bytes_same refl)

pub truncated-leads : (g : Geometry) → TruncatedLeads g
truncated-leads g pages id head head' name f0 big lengths file less words named = leads_to g pages id head head' name f0 big lengths file less words named
