-- The header page of a new file, from what its parts hold.
use Rattle.std.proofs.Common.{ℕ, ◌≡◌, ◌+◌, ◌*◌, ◌/◌, ◌%◌, ◌<◌, ◌-◌, ◌≤◌, List, ◌∷◌, ◌++◌, All, ◌≢◌, length, drop, replicate, get_or, slice_range, arith, refl, sym, ◌∙◌, ap, lit<, lit≤, length-take, length-drop}
use Rattle.std.proofs.lemmas.List.{drop_more, get_or-replicate, length-replicate, take_all, ext_get_or, get_or-take, get_or-drop}
use Rattle.std.proofs.lemmas.List.Folds.{drop_split}
use Rattle.std.proofs.lemmas.Grind.{common_steps}
use Rattle.geometry.specs.declared.geometry.Geometry.{Geometry}
use Rattle.page_layout.specs.Layout.{type_of, name_field, padded, new_header_page, IsNewHeader}
use Rattle.nor_core.specs.Flash.{SameOutside}
use Rattle.image_model.specs.Headers.{obj_id, span_of}
use Rattle.page_layout.proofs.Parts.{padded_name}

-- what the parts of a new header page hold
pub record Parts (size id : ℕ) (name page : List ℕ) : Type 0 where
  pub len : length page ≡ size
  pub bytes : (k : ℕ) → get_or page k 0 < 256
  pub obj_id : obj_id page ≡ id + 0x8000
  pub span : span_of page ≡ 0
  pub flags : get_or page 4 0 ≡ 0xFA
  pub kind : type_of page ≡ 1
  pub field : name_field page ≡ padded name
  pub unsized : (k : ℕ) → 5 ≤ k → k < 12 → get_or page k 0 ≡ 0xFF
  pub erased : (k : ℕ) → 45 ≤ k → k < size → get_or page k 0 ≡ 0xFF

-- the parts after the writes, one after the other: erased, header, type, name
pub parts_written : (n size id : ℕ) (name a b c d : List ℕ) → a ≡ replicate n 0xFF → n ≡ size → 45 ≤ size
    → obj_id b ≡ id + 0x8000 → span_of b ≡ 0 → get_or b 4 0 ≡ 0xFA → SameOutside 0 5 a b
    → type_of c ≡ 1 → SameOutside 12 1 b c
    → name_field d ≡ padded name → SameOutside 13 32 c d → ((k : ℕ) → get_or d k 0 < 256)
    → Parts size id name d
parts_written n size id name a b c d all same fits idb spanb flagsb ab kindc bc field cd bytes =
    let early : (k : ℕ) → k < 12 → get_or d k 0 ≡ get_or b k 0 = λ k below. cd.before k (omega arith) ∙ bc.before k below in
    let len : length d ≡ size = cd.size ∙ bc.size ∙ ab.size ∙ ap length all ∙ length-replicate n 0xFF ∙ same in
    let blank : (k : ℕ) → 5 ≤ k → k < size → get_or b k 0 ≡ 0xFF = λ k from below. ab.after k from ∙ (rw all (get_or-replicate n k 0xFF 0 (omega arith))) in
    record {
      len = len;
      bytes = bytes;
      obj_id = rw (early 0 (lit< tt), early 1 (lit< tt)) idb;
      span = rw (early 2 (lit< tt), early 3 (lit< tt)) spanb;
      flags = early 4 (lit< tt) ∙ flagsb;
      kind = cd.before 12 (lit< tt) ∙ kindc;
      field = field;
      unsized = λ k from below. early k below ∙ blank k from (omega arith);
      erased = λ k from below. cd.after k from ∙ bc.after k (omega arith) ∙ blank k (omega arith) below;
    }

-- a range of one byte alone
blank_range : (page : List ℕ) (from to byte : ℕ) → to ≤ length page → ((k : ℕ) → from ≤ k → k < to → get_or page k 0 ≡ byte) → slice_range page from to ≡ replicate (to - from) byte
blank_range page from to byte fits each = ext_get_or 0 _ _ (grind (arith, common_steps))
    (λ i below. let small : i < to - from = omega (arith, below, length-take (to - from) (drop from page), length-drop from page) in get_or-take (to - from) (drop from page) i 0 small ∙ get_or-drop from page i 0 ∙ each (from + i) (omega arith) (omega arith) ∙ sym (get_or-replicate (to - from) i byte 0 small))

-- the same to the end
blank_end : (page : List ℕ) (from size byte : ℕ) → length page ≡ size → from ≤ size → ((k : ℕ) → from ≤ k → k < size → get_or page k 0 ≡ byte) → drop from page ≡ replicate (size - from) byte
blank_end page from size byte len fits each =
    sym (take_all (size - from) (drop from page) (omega (arith, length-drop from page, len))) ∙ blank_range page from size byte (omega arith) each

pub bytes_of_parts : (size id : ℕ) (name page : List ℕ) → 45 ≤ size → Parts size id name page → page ≡ new_header_page size id name
bytes_of_parts size id name page fits parts =
    let len : length page ≡ size = parts.len in
    let low : get_or page 0 0 < 256 = parts.bytes 0 in
    let high : get_or page 1 0 < 256 = parts.bytes 1 in
    let e0 : get_or page 0 0 ≡ id % 256 = omega (arith, low, high, parts.obj_id) in
    let e1 : get_or page 1 0 ≡ id / 256 + 128 = omega (arith, low, high, parts.obj_id) in
    let e2 : get_or page 2 0 ≡ 0 = omega (arith, parts.span) in
    let e3 : get_or page 3 0 ≡ 0 = omega (arith, parts.span) in
    let d0 : page ≡ get_or page 0 0 ∷ drop 1 page = drop_more page 0 0 (omega arith) in
    let d1 : drop 1 page ≡ get_or page 1 0 ∷ drop 2 page = drop_more page 1 0 (omega arith) in
    let d2 : drop 2 page ≡ get_or page 2 0 ∷ drop 3 page = drop_more page 2 0 (omega arith) in
    let d3 : drop 3 page ≡ get_or page 3 0 ∷ drop 4 page = drop_more page 3 0 (omega arith) in
    let d4 : drop 4 page ≡ get_or page 4 0 ∷ drop 5 page = drop_more page 4 0 (omega arith) in
    let d5 : drop 5 page ≡ slice_range page 5 12 ++ drop 12 page = drop_split page 5 12 (lit≤ tt) in
    let d12 : drop 12 page ≡ get_or page 12 0 ∷ drop 13 page = drop_more page 12 0 (omega arith) in
    let d13 : drop 13 page ≡ slice_range page 13 45 ++ drop 45 page = drop_split page 13 45 (lit≤ tt) in
    let f5 : slice_range page 5 12 ≡ replicate 7 0xFF = blank_range page 5 12 0xFF (omega arith) parts.unsized in
    let f45 : drop 45 page ≡ replicate (size - 45) 0xFF = blank_end page 45 size 0xFF len (omega arith) parts.erased in
    let e4 : get_or page 4 0 ≡ 0xFA = parts.flags in
    let e12 : get_or page 12 0 ≡ 1 = parts.kind in
    let f13 : slice_range page 13 45 ≡ padded name = parts.field in
    cc

pub fields_of_parts : (g : Geometry) (id : ℕ) (name page : List ℕ) → 128 ≤ g.page → g.meta ≤ 64 → 0 < length name → length name ≤ 31 → All (λ b. b ≢ 0) name → Parts g.page id name page → IsNewHeader g id name page
fields_of_parts g id name page least most some few whole parts = record {
  obj_id = parts.obj_id;
  span = parts.span;
  flags = parts.flags;
  size_field = rw (parts.unsized 8 (lit≤ tt) (lit< tt), parts.unsized 9 (lit≤ tt) (lit< tt), parts.unsized 10 (lit≤ tt) (lit< tt), parts.unsized 11 (lit≤ tt) (lit< tt)) refl;
  kind = parts.kind;
  named = padded_name page name parts.field some few whole;
  meta = blank_range page 45 (45 + g.meta) 0xFF (omega (arith, parts.len)) (λ k from below. parts.erased k from (omega arith)) ∙ ap (λ (n : ℕ). replicate n 0xFF) (omega arith);
  slots = λ slot below. rw (parts.erased (45 + g.meta + 2 * slot) (omega arith) (omega arith), parts.erased (45 + g.meta + 2 * slot + 1) (omega arith) (omega arith)) refl;
}
