-- Where a part of a write ends.
use Rattle.std.proofs.Common.{◌≡◌, ℕ, ◌+◌, ◌-◌, ◌*◌, ◌/◌, ◌%◌, ◌<◌, ◌≤◌, inl, inr, ⊎_elim, refl, ◌∙◌, ap, arith}
use Rattle.std.proofs.Math.Nat.{div-add-mod, mul-mod_right, mul-le-mul_right}
use Rattle.std.proofs.lemmas.Bool.{cases_lt, cases_eq, eq-eqb, ne_eqb, lt-ltb, le-ltb}
use Rattle.geometry.specs.declared.geometry.Geometry.{Geometry}
use Rattle.geometry.specs.Numbers.{body, head_slots}
use Rattle.image_model.specs.Within.{sizes}
use Rattle.file_write.specs.Appends.{pages_most, append_room}
use Rattle.call_model.specs.Parts.{IsPartEnd}

-- behind any place the next end of a page is one
pub page_ends : (page from : ℕ) → 0 < page → (from + (page - from % page)) % page ≡ 0
page_ends page from some =
    let e : page * (from / page) + from % page ≡ from = div-add-mod from page in
    let within : from % page < page = omega (arith, some) in
    let next : from + (page - from % page) ≡ page * (from / page + 1) = omega (arith, e, within) in
    ap (λ (n : ℕ). n % page) next ∙ mul-mod_right page (from / page + 1)

-- and so is the end of as many bytes as one page step adds
pub room_ends : (g : Geometry) (from : ℕ) → (0 < append_room g from) × ((from + append_room g from) % body g ≡ 0)
room_ends g from =
    let big = (sizes g).page in
    ⊎_elim
    (λ (none : from % body g ≡ 0).
    let is : append_room g from ≡ pages_most g (from / body g) * body g = rw (eq-eqb (from % body g) 0 none) refl in
    let some : 1 ≤ pages_most g (from / body g) = ⊎_elim
    (λ (near : from / body g < head_slots g). rw (lt-ltb (from / body g) (head_slots g) near) (omega (arith, near)))
    (λ (far : head_slots g ≤ from / body g). rw (le-ltb (from / body g) (head_slots g) far) (omega arith))
    (cases_lt (from / body g) (head_slots g)) in
    let wide : 1 * body g ≤ pages_most g (from / body g) * body g = mul-le-mul_right (body g) some in
    let whole : body g * (from / body g) + from % body g ≡ from = div-add-mod from (body g) in
    let sum : body g * (from / body g + pages_most g (from / body g)) ≡ body g * (from / body g) + pages_most g (from / body g) * body g = omega arith in
    let next : from + append_room g from ≡ body g * (from / body g + pages_most g (from / body g)) = omega (arith, is, whole, none, sum) in
    (omega (arith, is, wide, big), ap (λ (n : ℕ). n % body g) next ∙ mul-mod_right (body g) (from / body g + pages_most g (from / body g))))
    (λ (used : from % body g ≡ 0 → ⊥).
    let is : append_room g from ≡ body g - from % body g = rw (ne_eqb (from % body g) 0 used) refl in
    let less : from % body g < body g = omega (arith, big) in
    (omega (arith, is, less), ap (λ (n : ℕ). (from + n) % body g) is ∙ page_ends (body g) from (omega (arith, big))))
    (cases_eq (from % body g) 0)

pub ends_page : (page size from end at len to left : ℕ) → 0 < left → (from + left) % page ≡ 0 → at ≤ from → end ≡ at + len → to ≡ from + left → from + left < end → IsPartEnd page size at len to
ends_page page size from end at len to left some ends low is to_is within = record {
  from = omega (arith, low, some, to_is);
  to = omega (arith, is, to_is, within);
  ends = inl (ap (λ (n : ℕ). n % page) to_is ∙ ends);
}

pub ends_own : (page size from end at len to : ℕ) → at ≤ from → from < end → end ≡ at + len → to ≡ end → IsPartEnd page size at len to
ends_own page size from end at len to low less is to_is = record { from = omega (arith, low, less, to_is); to = omega (arith, is, to_is); ends = inr (inr (to_is ∙ is)) }
