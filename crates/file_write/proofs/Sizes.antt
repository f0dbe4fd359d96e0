-- Sizes and page counts of a file that bytes are added to.
use Rattle.std.proofs.Common.{◌≡◌, ℕ, ◌+◌, ◌-◌, ◌*◌, ◌/◌, ◌%◌, ◌<◌, ◌≤◌, min, true, refl, sym, ◌∙◌, ap, arith, ⊎_elim, subst}
use Rattle.std.proofs.Math.Nat.{div-add-mod, mul-add-div, mul-le-mul_right}
use Rattle.std.proofs.lemmas.Bool.{cases_lt, lt-ltb, le-ltb}
use Rattle.geometry.proofs.Bounds.{few_pages, few_usable}
use Rattle.geometry.specs.declared.geometry.Geometry.{Geometry}
use Rattle.geometry.specs.Numbers.{body, head_slots, span_slots, usable, ceil}
use Rattle.table_model.specs.Room.{data_pages, index_pages}
use Rattle.image_model.specs.Places.{is_entry_page}
use Rattle.image_model.specs.Files.{further}
use Rattle.image_model.specs.Within.{sizes, page_number}
use Rattle.renew_laws.proofs.Appended.{pages_of, ceil-low, ceil-high}
use Rattle.room_laws.proofs.Totals.{ceil-is}
use Rattle.file_write.specs.Appends.{pages_most}

-- the number of a page is a word
pub page_few : (g : Geometry) (p : ℕ) → is_entry_page g p ≡ true → p < 65536
page_few g p page = omega (arith, page_number g p page, few_pages g)

-- so many data pages hold the bytes
bytes_fit : (m b : ℕ) → 0 < b → m ≤ ceil m b * b
bytes_fit m b pos =
    let whole : b * ((m + b - 1) / b) + (m + b - 1) % b ≡ m + b - 1 = div-add-mod (m + b - 1) b in
    let low : (m + b - 1) % b < b = omega (arith, pos) in
    omega (arith, whole, low)

-- a size with no more data pages than the volume has
pub size_few : (g : Geometry) (m : ℕ) → data_pages g m ≤ usable g → m < 0xFFFFFFFF
size_few g m few =
    let fit = bytes_fit m (body g) (omega (arith, (sizes g).page)) in
    let all : data_pages g m * body g ≤ 65535 * body g = mul-le-mul_right (body g) (omega (arith, few, few_usable g)) in
    omega (arith, fit, all, g.valid.page_most)

-- the span in which a file ends is one of its data pages
pub last_below : (g : Geometry) (m : ℕ) → 0 < m % body g → data_pages g m ≡ m / body g + 1
last_below g m used =
    let whole : body g * (m / body g) + m % body g ≡ m = div-add-mod m (body g) in
    let low : m % body g < body g = omega (arith, (sizes g).page) in
    ap (λ (n : ℕ). ceil n (body g)) (sym whole) ∙ pages_of (m / body g) (m % body g) (body g) used (omega (arith, low))

-- a file that ends with a data page has as many as fit
pub whole_pages : (g : Geometry) (m : ℕ) → m % body g ≡ 0 → data_pages g m ≡ m / body g
whole_pages g m none =
    let whole : body g * (m / body g) + m % body g ≡ m = div-add-mod m (body g) in
    let product : m / body g * body g ≡ body g * (m / body g) = omega arith in
    ceil-is m (body g) (m / body g) 0 (omega (arith, whole, product, none)) (omega (arith, (sizes g).page))

-- with some bytes more, that end in its next data page, it has one more
pub next_page : (g : Geometry) (m n : ℕ) → m % body g ≡ 0 → 0 < n → n ≤ body g → data_pages g (m + n) ≡ m / body g + 1
next_page g m n none some fits =
    let whole : body g * (m / body g) + m % body g ≡ m = div-add-mod m (body g) in
    let long : m + n ≡ body g * (m / body g) + n = omega (arith, whole, none) in
    ap (λ (k : ℕ). ceil k (body g)) long ∙ pages_of (m / body g) n (body g) some fits

-- with as many more as take n it has n more
pub next_pages : (g : Geometry) (m n : ℕ) → m % body g ≡ 0 → data_pages g (m + n) ≡ m / body g + data_pages g n
next_pages g m n none =
    let whole : body g * (m / body g) + m % body g ≡ m = div-add-mod m (body g) in
    let long : m + n + body g - 1 ≡ body g * (m / body g) + (n + body g - 1) = omega (arith, whole, none, (sizes g).page) in
    ap (λ (k : ℕ). k / body g) long ∙ mul-add-div (let big = (sizes g).page in omega (arith, big)) (m / body g) (n + body g - 1)

-- so many pages hold them
pub pages_few : (g : Geometry) (n m : ℕ) → n ≤ m * body g → data_pages g n ≤ m
pages_few g n m fits =
    ⊎_elim
    (λ (more : m < data_pages g n).
    let high : body g * m < n = ceil-high n (body g) m (omega (arith, (sizes g).page)) more in
    let turned : body g * m ≡ m * body g = omega arith in
    absurd (omega (arith, high, turned, fits)))
    (λ (few : data_pages g n ≤ m). few)
    (cases_lt m (data_pages g n))

-- those that are put together are named by the header page
pub near_few : (g : Geometry) (t n : ℕ) → t < head_slots g → n ≤ pages_most g t * body g → (data_pages g n ≤ 16) × (t + data_pages g n ≤ head_slots g)
near_few g t n near fits =
    let most : pages_most g t ≡ min (head_slots g - t) 16 = rw (lt-ltb t (head_slots g) near) refl in
    let few = pages_few g n (pages_most g t) fits in
    (omega (arith, few, most), omega (arith, few, most, near))

-- and one that isn't is put alone
pub far_fits : (g : Geometry) (t n : ℕ) → head_slots g ≤ t → n ≤ pages_most g t * body g → n ≤ body g
far_fits g t n far fits =
    let one : n ≤ 1 * body g = rw (le-ltb t (head_slots g) far) at fits in
    omega (arith, one)

-- some bytes take one
pub some_pages : (g : Geometry) (n : ℕ) → 0 < n → 1 ≤ data_pages g n
some_pages g n some =
    let low : n ≤ body g * data_pages g n = ceil-low n (body g) (omega (arith, (sizes g).page)) in
    ⊎_elim
    (λ (none : data_pages g n < 1).
    let zero_of : data_pages g n ≡ 0 = omega (arith, none) in
    let product : body g * data_pages g n ≡ 0 = ap (λ (k : ℕ). body g * k) zero_of ∙ (let nothing : body g * 0 ≡ 0 = omega arith in nothing) in
    absurd (omega (arith, low, product, some)))
    (λ (one : 1 ≤ data_pages g n). one)
    (cases_lt (data_pages g n) 1)

-- ---- further index pages

-- as many groups of s as m pages fill
groups : (m s : ℕ) → 0 < s → m % s ≡ 0 → ceil m s ≡ m / s
groups m s pos none =
    let whole : s * (m / s) + m % s ≡ m = div-add-mod m s in
    let product : m / s * s ≡ s * (m / s) = omega arith in
    ceil-is m s (m / s) 0 (omega (arith, whole, product, none)) pos

-- and one page more begins another
more_groups : (m s : ℕ) → 0 < s → m % s ≡ 0 → ceil (m + 1) s ≡ m / s + 1
more_groups m s pos none =
    let whole : s * (m / s) + m % s ≡ m = div-add-mod m s in
    let long : m + 1 ≡ s * (m / s) + 1 = omega (arith, whole, none) in
    ap (λ (k : ℕ). ceil k s) long ∙ pages_of (m / s) 1 s (omega arith) (omega (arith, pos))

-- The span of a further index page whose first data page is the next one is behind those of the file,
pub span_behind : (g : Geometry) (m : ℕ) → head_slots g ≤ data_pages g m → (data_pages g m - head_slots g) % span_slots g ≡ 0 → index_pages g m ≤ further g (data_pages g m)
span_behind g m far none =
    let big : 128 ≤ g.page = (sizes g).page in
    let all = groups (data_pages g m - head_slots g) (span_slots g) (omega (arith, big)) none in
    ⊎_elim
    (λ (more : head_slots g < data_pages g m). let count : index_pages g m ≡ 1 + ceil (data_pages g m - head_slots g) (span_slots g) = rw (lt-ltb (head_slots g) (data_pages g m) more) refl in omega (arith, count, all))
    (λ (few : data_pages g m ≤ head_slots g). let count : index_pages g m ≡ 1 = rw (le-ltb (head_slots g) (data_pages g m) few) refl in omega (arith, count))
    (cases_lt (head_slots g) (data_pages g m))

-- and is one of theirs once it has that.
pub span_within : (g : Geometry) (m n : ℕ) → data_pages g n ≡ data_pages g m + 1 → head_slots g ≤ data_pages g m → (data_pages g m - head_slots g) % span_slots g ≡ 0 → further g (data_pages g m) < index_pages g n
span_within g m n later far none =
    let big : 128 ≤ g.page = (sizes g).page in
    let all = more_groups (data_pages g m - head_slots g) (span_slots g) (omega (arith, big)) none in
    let long : data_pages g n - head_slots g ≡ data_pages g m - head_slots g + 1 = omega (arith, later, far) in
    let count : index_pages g n ≡ 1 + ceil (data_pages g n - head_slots g) (span_slots g) = rw (lt-ltb (head_slots g) (data_pages g n) (omega (arith, later, far))) refl in
    let same : ceil (data_pages g n - head_slots g) (span_slots g) ≡ ceil (data_pages g m - head_slots g + 1) (span_slots g) = ap (λ (k : ℕ). ceil k (span_slots g)) long in
    omega (arith, count, same, all)

-- The further index page of the next data page is there where it has others already.
pub span_has : (g : Geometry) (m : ℕ) → head_slots g ≤ data_pages g m → 0 < (data_pages g m - head_slots g) % span_slots g → further g (data_pages g m) < index_pages g m
span_has g m far some =
    let big : 128 ≤ g.page = (sizes g).page in
    let whole : span_slots g * ((data_pages g m - head_slots g) / span_slots g) + (data_pages g m - head_slots g) % span_slots g ≡ data_pages g m - head_slots g = div-add-mod (data_pages g m - head_slots g) (span_slots g) in
    let low : (data_pages g m - head_slots g) % span_slots g < span_slots g = omega (arith, big) in
    let all : ceil (data_pages g m - head_slots g) (span_slots g) ≡ (data_pages g m - head_slots g) / span_slots g + 1 =
    ap (λ (k : ℕ). ceil k (span_slots g)) (sym whole) ∙ pages_of ((data_pages g m - head_slots g) / span_slots g) ((data_pages g m - head_slots g) % span_slots g) (span_slots g) some (omega (arith, low)) in
    ⊎_elim
    (λ (more : head_slots g < data_pages g m). let count : index_pages g m ≡ 1 + ceil (data_pages g m - head_slots g) (span_slots g) = rw (lt-ltb (head_slots g) (data_pages g m) more) refl in omega (arith, count, all))
    (λ (few : data_pages g m ≤ head_slots g). let zero_left : data_pages g m - head_slots g ≡ 0 = omega (arith, few) in let some' : 0 < 0 % span_slots g = subst (λ (k : ℕ). 0 < k % span_slots g) zero_left some in let rest : 0 % span_slots g ≡ 0 = omega (arith, big) in absurd (omega (arith, some', rest)))
    (cases_lt (head_slots g) (data_pages g m))
