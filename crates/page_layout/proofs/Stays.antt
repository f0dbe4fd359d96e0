-- A field that has none of the written bytes stays.
use Rattle.std.proofs.Common.{ℕ, ◌≡◌, ◌+◌, ◌<◌, ◌-◌, ◌≤◌, ⊎_elim, List, drop, get_or, slice_range, arith, refl, sym, ◌∙◌, lit<, lit≤, length-take, length-drop}
use Rattle.std.proofs.lemmas.List.{get_or-take, get_or-drop, ext_get_or}
use Rattle.page_layout.specs.Layout.{IsApart, header_at, size_field, type_of, name_field}
use Rattle.nor_core.specs.Flash.{word_at, SameOutside}
use Rattle.image_model.specs.Headers.{name_of}

-- a byte that is apart
byte_stays : (at count i n k : ℕ) (old new : List ℕ) → SameOutside at count old new → IsApart at count i n → i ≤ k → k < i + n → get_or new k 0 ≡ get_or old k 0
byte_stays at count i n k old new same apart from below = ⊎_elim
    (λ (before : at + count ≤ i). same.after k (omega arith))
    (λ (after : i + n ≤ at). same.before k (omega arith))
    apart

pub word_stays : (at count i : ℕ) (old new : List ℕ) → SameOutside at count old new → IsApart at count i 2 → word_at new i ≡ word_at old i
word_stays at count i old new same apart =
    rw (byte_stays at count i 2 i old new same apart (omega arith) (omega arith), byte_stays at count i 2 (i + 1) old new same apart (omega arith) (omega arith)) refl

pub range_stays : (at count i n : ℕ) (old new : List ℕ) → SameOutside at count old new → IsApart at count i n → slice_range new i (i + n) ≡ slice_range old i (i + n)
range_stays at count i n old new same apart = ext_get_or 0 _ _
    (omega (arith, same.size, length-take (i + n - i) (drop i new), length-take (i + n - i) (drop i old), length-drop i new, length-drop i old))
    (λ k below. let small : k < i + n - i = omega (arith, below, length-take (i + n - i) (drop i new)) in
    get_or-take (i + n - i) (drop i new) k 0 small ∙ get_or-drop i new k 0 ∙ byte_stays at count i n (i + k) old new same apart (omega arith) (omega arith)
    ∙ sym (get_or-drop i old k 0) ∙ sym (get_or-take (i + n - i) (drop i old) k 0 small))

pub header_stays : (at count : ℕ) (old new : List ℕ) → SameOutside at count old new → 5 ≤ at → header_at new ≡ header_at old
header_stays at count old new same from =
    rw (same.before 0 (omega arith), same.before 1 (omega arith), same.before 2 (omega arith), same.before 3 (omega arith), same.before 4 (omega arith)) refl

pub size_stays : (at count : ℕ) (old new : List ℕ) → SameOutside at count old new → IsApart at count 8 4 → size_field new ≡ size_field old
size_stays at count old new same apart =
    let b8 : get_or new 8 0 ≡ get_or old 8 0 = byte_stays at count 8 4 8 old new same apart (lit≤ tt) (lit< tt) in
    let b9 : get_or new 9 0 ≡ get_or old 9 0 = byte_stays at count 8 4 9 old new same apart (lit≤ tt) (lit< tt) in
    let b10 : get_or new 10 0 ≡ get_or old 10 0 = byte_stays at count 8 4 10 old new same apart (lit≤ tt) (lit< tt) in
    let b11 : get_or new 11 0 ≡ get_or old 11 0 = byte_stays at count 8 4 11 old new same apart (lit≤ tt) (lit< tt) in
    rw (b8, b9, b10, b11) refl

pub kind_stays : (at count : ℕ) (old new : List ℕ) → SameOutside at count old new → IsApart at count 12 1 → type_of new ≡ type_of old
kind_stays at count old new same apart = byte_stays at count 12 1 12 old new same apart (lit≤ tt) (lit< tt)

pub name_stays : (at count : ℕ) (old new : List ℕ) → SameOutside at count old new → IsApart at count 13 32 → name_of new ≡ name_of old
name_stays at count old new same apart = let field : name_field new ≡ name_field old = range_stays at count 13 32 old new same apart in rw field refl
