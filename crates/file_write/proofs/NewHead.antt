-- The header page of a new file, once it is finished.
use Rattle.std.proofs.Common.{◌≡◌, ℕ, ◌+◌, ◌-◌, ◌*◌, ◌/◌, ◌%◌, ◌<◌, ◌≤◌, List, [], ◌∷◌, ◌++◌, length, replicate, slice_index, slice_range, true, Some, Ok, zero, suc, refl, ap, ◌∙◌, arith}
use Rattle.std.specs.List.{All}
use Rattle.std.proofs.Math.Nat.{div-eq_of_lt}
use Rattle.std.proofs.lemmas.Grind.{common_steps}
use Rattle.std.proofs.lemmas.Bool.{le-ltb}
use Rattle.std.proofs.lemmas.List.Elements.{All-append, All-cons, All-replicate, All-get_or}
use Rattle.geometry.specs.declared.geometry.Geometry.{Geometry}
use Rattle.table_model.specs.Room.{data_pages}
use Rattle.table_model.specs.Files.{new_file}
use Rattle.page_layout.specs.Layout.{new_header_page, padded, IsNewHeader}
use Rattle.image_model.specs.Headers.{obj_id, span_of, names_index, name_of}
use Rattle.nor_core.specs.Flash.{word_at}
use Rattle.image_model.specs.Live.{Live}
use Rattle.image_model.specs.Files.{judged}
use Rattle.image_model.specs.Within.{sizes}
use Rattle.image_laws.proofs.Frames.{word_at-same}
use Rattle.trim_laws.specs.Trim.{IsTrimmed}

-- its bytes: those of the new header page with FINAL cleared
abbrev pub finished_head : ℕ → ℕ → List ℕ → List ℕ
finished_head size id name = id % 256 ∷ (id / 256 + 128) ∷ 0 ∷ 0 ∷ 0xF8 ∷ (replicate 7 0xFF ++ (1 ∷ (padded name ++ replicate (size - 45) 0xFF)))

-- its length and its bytes before that
pub length-new_header : (size id : ℕ) (name : List ℕ) → 45 ≤ size → length name ≤ 31 → length (new_header_page size id name) ≡ size
length-new_header size id name least few = grind (arith, common_steps)

small_bytes : (size id : ℕ) (name : List ℕ) → id ≤ 0x7FFE → All (λ b. b < 256) name → All (λ b. b < 256) (new_header_page size id name)
small_bytes size id name small bytes =
    let low : id % 256 < 256 = omega arith in
    let high : id / 256 + 128 < 256 = omega arith in
    let zero : 0 < 256 = omega arith in
    let one : 1 < 256 = omega arith in
    let flags : 0xFA < 256 = omega arith in
    let ones : 0xFF < 256 = omega arith in
    let is_byte = λ (b : ℕ). b < 256 in
    let name_field : All (λ b. b < 256) (padded name) = All-append is_byte name _ bytes (All-replicate is_byte _ 0 zero) in
    let rest : All (λ b. b < 256) (padded name ++ replicate (size - 45) 0xFF) = All-append is_byte _ _ name_field (All-replicate is_byte _ 0xFF ones) in
    let back : List ℕ = replicate 7 0xFF ++ (1 ∷ (padded name ++ replicate (size - 45) 0xFF)) in
    let behind : All (λ b. b < 256) back = All-append is_byte (replicate 7 0xFF) (1 ∷ (padded name ++ replicate (size - 45) 0xFF)) (All-replicate is_byte 7 0xFF ones) (All-cons is_byte 1 (padded name ++ replicate (size - 45) 0xFF) one rest) in
    All-cons is_byte (id % 256) ((id / 256 + 128) ∷ 0 ∷ 0 ∷ 0xFA ∷ back) low
    (All-cons is_byte (id / 256 + 128) (0 ∷ 0 ∷ 0xFA ∷ back) high
    (All-cons is_byte 0 (0 ∷ 0xFA ∷ back) zero (All-cons is_byte 0 (0xFA ∷ back) zero (All-cons is_byte 0xFA back flags behind))))

pub byte-new_header : (size id : ℕ) (name : List ℕ) → id ≤ 0x7FFE → 45 ≤ size → length name ≤ 31 → All (λ b. b < 256) name → (i : ℕ) → i < size → slice_index (new_header_page size id name) i < 256
byte-new_header size id name small least few bytes i within =
    All-get_or (λ (b : ℕ). b < 256) (new_header_page size id name) i 0 (rw (length-new_header size id name least few) within) (small_bytes size id name small bytes)

-- ---- what it holds

module _ (g : Geometry) (id : ℕ) (name : List ℕ) (small : id ≤ 0x7FFE) where
  id_is : obj_id (finished_head g.page id name) ≡ id + 0x8000
  id_is = omega arith

  -- it is the header page of that id
  pub index : names_index (finished_head g.page id name) ≡ true
  index = rw (id_is, le-ltb (id + 0x8000) 0x8000 (omega arith)) refl

  pub of : obj_id (finished_head g.page id name) % 0x8000 ≡ id
  of = rw id_is (omega arith)

  pub first : span_of (finished_head g.page id name) ≡ 0
  first = refl

  -- it leads to the new file, whatever other pages the id has
  pub leads : IsNewHeader g id name (new_header_page g.page id name) → (pages : Live) → judged g pages id (finished_head g.page id name) ≡ Ok (new_file g id name)
  unfolding judged
  leads fields pages =
      let named : name_of (finished_head g.page id name) ≡ Some name = fields.named in
      let meta : slice_range (finished_head g.page id name) 45 (45 + g.meta) ≡ replicate g.meta 0xFF = fields.meta in
      let none : data_pages g 0 ≡ 0 = div-eq_of_lt (omega (arith, (sizes g).page)) in
      rw (named, none) (ap (λ (m : List ℕ). Ok (record { id = id; name = name; kind = 1; meta = m; bytes = [] })) meta)

  -- it names no page
  pub head_trims : IsNewHeader g id name (new_header_page g.page id name) → IsTrimmed g (finished_head g.page id name)
  head_trims fields = record {
    free = λ t from below.
        let words : word_at (new_header_page g.page id name) (45 + g.meta + 2 * t) ≡ 0xFFFF = fields.slots t below in
        same_word (45 + g.meta + 2 * t) (omega arith) ∙ words;
  }
    where
      byte : (k : ℕ) → 5 ≤ k → slice_index (finished_head g.page id name) k ≡ slice_index (new_header_page g.page id name) k
      byte zero low = absurd (omega (arith, low))
      byte (suc zero) low = absurd (omega (arith, low))
      byte (suc (suc zero)) low = absurd (omega (arith, low))
      byte (suc (suc (suc zero))) low = absurd (omega (arith, low))
      byte (suc (suc (suc (suc zero)))) low = absurd (omega (arith, low))
      byte (suc (suc (suc (suc (suc k))))) low = refl

      same_word : (k : ℕ) → 5 ≤ k → word_at (finished_head g.page id name) k ≡ word_at (new_header_page g.page id name) k
      same_word k low = word_at-same (new_header_page g.page id name) (finished_head g.page id name) k (byte k low) (byte (k + 1) (omega (arith, low)))
