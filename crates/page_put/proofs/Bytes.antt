-- The bytes of a page that is placed, as the programs ask for them.
use Rattle.std.proofs.Common.{◌≡◌, ℕ, ◌/◌, ◌%◌, ◌<◌, List, [], ◌∷◌, length, drop, get_or, ap, arith}
use Rattle.std.proofs.lemmas.List.{drop_more, drop_all}
use Rattle.page_layout.specs.declared.header.PageHeader.{PageHeader}
use Rattle.page_layout.specs.Layout.{header_at, bits_of}
use Rattle.image_model.specs.Headers.{obj_id, span_of}

-- a header by its bytes
pub bytes_of_header : (bytes : List ℕ) (head : PageHeader) → length bytes ≡ 5 → ((k : ℕ) → get_or bytes k 0 < 256) → header_at bytes ≡ head →
    bytes ≡ head.id % 256 ∷ head.id / 256 ∷ head.span % 256 ∷ head.span / 256 ∷ bits_of head.flags ∷ []
bytes_of_header bytes head five small is =
    let id : obj_id bytes ≡ head.id = ap (λ (h : PageHeader). h.id) is in
    let span : span_of bytes ≡ head.span = ap (λ (h : PageHeader). h.span) is in
    let e4 : get_or bytes 4 0 ≡ bits_of head.flags = ap (λ (h : PageHeader). bits_of h.flags) is in
    let b0 : get_or bytes 0 0 < 256 = small 0 in
    let b1 : get_or bytes 1 0 < 256 = small 1 in
    let b2 : get_or bytes 2 0 < 256 = small 2 in
    let b3 : get_or bytes 3 0 < 256 = small 3 in
    let e0 : get_or bytes 0 0 ≡ head.id % 256 = omega (arith, id, b0, b1) in
    let e1 : get_or bytes 1 0 ≡ head.id / 256 = omega (arith, id, b0, b1) in
    let e2 : get_or bytes 2 0 ≡ head.span % 256 = omega (arith, span, b2, b3) in
    let e3 : get_or bytes 3 0 ≡ head.span / 256 = omega (arith, span, b2, b3) in
    let d0 : bytes ≡ get_or bytes 0 0 ∷ drop 1 bytes = drop_more bytes 0 0 (omega arith) in
    let d1 : drop 1 bytes ≡ get_or bytes 1 0 ∷ drop 2 bytes = drop_more bytes 1 0 (omega arith) in
    let d2 : drop 2 bytes ≡ get_or bytes 2 0 ∷ drop 3 bytes = drop_more bytes 2 0 (omega arith) in
    let d3 : drop 3 bytes ≡ get_or bytes 3 0 ∷ drop 4 bytes = drop_more bytes 3 0 (omega arith) in
    let d4 : drop 4 bytes ≡ get_or bytes 4 0 ∷ drop 5 bytes = drop_more bytes 4 0 (omega arith) in
    let d5 : drop 5 bytes ≡ [] = drop_all 5 bytes (omega arith) in
    cc
