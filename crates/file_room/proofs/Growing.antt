-- A longer file takes no fewer pages, so it has no more room.
use Rattle.std.proofs.Common.{◌≡◌, ℕ, ◌+◌, ◌-◌, ◌*◌, ◌<◌, ◌≤◌, true, false, refl, arith, ⊎_elim}
use Rattle.std.specs.Prelude.{nat_lt}
use Rattle.std.proofs.Math.Nat.{mul-le-mul_right}
use Rattle.std.proofs.lemmas.Nat.{le-div}
use Rattle.std.proofs.lemmas.Bool.{cases_Bool, leb-true, le-leb, lt-leb, lt-ltb, ltb-true, both_ways}
use Rattle.geometry.specs.declared.geometry.Geometry.{Geometry}
use Rattle.geometry.specs.Numbers.{ceil, body, head_slots, span_slots, entries, usable}
use Rattle.geometry.proofs.Bounds.{entry_left}
use Rattle.table_model.specs.Room.{index_pages, data_pages}
use Rattle.image_laws.proofs.Serving.{ceil-mono}
use Rattle.file_room.specs.Fitting.{has_room_for}

some_body : (g : Geometry) → 0 < body g
some_body g = omega (arith, g.valid.page_least)

some_slots : (g : Geometry) → 0 < span_slots g
some_slots g = let least = g.valid.page_least in omega (arith, least)

data-grows : (g : Geometry) (m n : ℕ) → m ≤ n → data_pages g m ≤ data_pages g n
data-grows g m n less = ceil-mono m n (body g) (some_body g) less

some_index : (g : Geometry) (n : ℕ) → 1 ≤ index_pages g n
some_index g n = ⊎_elim
    (λ (more : nat_lt (head_slots g) (data_pages g n) ≡ true). rw more (omega arith))
    (λ (one : nat_lt (head_slots g) (data_pages g n) ≡ false). rw one (omega arith))
    (cases_Bool (nat_lt (head_slots g) (data_pages g n)))

index-grows : (g : Geometry) (m n : ℕ) → m ≤ n → index_pages g m ≤ index_pages g n
index-grows g m n less = ⊎_elim
    (λ (more : nat_lt (head_slots g) (data_pages g m) ≡ true).
    let pages = data-grows g m n less in
    let too : nat_lt (head_slots g) (data_pages g n) ≡ true = lt-ltb (head_slots g) (data_pages g n) (let low = ltb-true (head_slots g) (data_pages g m) more in omega (arith, pages, low)) in
    let further = ceil-mono (data_pages g m - head_slots g) (data_pages g n - head_slots g) (span_slots g) (some_slots g) (omega (arith, pages)) in
    rw (more, too) (omega (arith, further)))
    (λ (one : nat_lt (head_slots g) (data_pages g m) ≡ false). rw one (some_index g n))
    (cases_Bool (nat_lt (head_slots g) (data_pages g m)))

-- where a file has room, a shorter one has it
pub shorter-fits : (g : Geometry) (index pages m n : ℕ) → m ≤ n → has_room_for g index pages n ≡ true → has_room_for g index pages m ≡ true
shorter-fits g index pages m n less room =
    let i = ceil-mono (index + index_pages g m + 1) (index + index_pages g n + 1) (entries g) (entry_left g) (omega (arith, index-grows g m n less)) in
    let d = ceil-mono (pages + data_pages g m + 1) (pages + data_pages g n + 1) (entries g) (entry_left g) (omega (arith, data-grows g m n less)) in
    le-leb _ g.blocks (omega (arith, i, d, leb-true _ g.blocks room))

-- where a file has none, a longer one has none
pub longer-fails : (g : Geometry) (index pages m n : ℕ) → m ≤ n → has_room_for g index pages m ≡ false → has_room_for g index pages n ≡ false
longer-fails g index pages m n less none = ⊎_elim
    (λ (room : has_room_for g index pages n ≡ true). absurd (both_ways _ none (shorter-fits g index pages m n less room)))
    (λ (full : has_room_for g index pages n ≡ false). full)
    (cases_Bool (has_room_for g index pages n))

suc-le : (a : ℕ) → 0 < a → 1 ≤ a
suc-le a some = omega (arith, some)

some_product : (a b c : ℕ) → 0 < a → 0 < b → 0 < c → 0 < a * b * c
some_product a b c x y z =
    let e = mul-le-mul_right b (suc-le a x) in
    let f = mul-le-mul_right c (suc-le (a * b) (omega (arith, e, y))) in
    omega (arith, f, z)

-- so many bytes are some
pub some_whole : (g : Geometry) → 0 < usable g * body g
some_whole g = some_product g.blocks (entries g) (body g) (omega (arith, g.valid.some_blocks)) (omega (arith, entry_left g)) (some_body g)

-- so many wholes are counted
wholes : (a b : ℕ) → 0 < b → a ≤ ceil (a * b) b
wholes a b some = le-div a (a * b + b - 1) b some (omega (arith, some))

blocks_filled : (a b e n : ℕ) → 0 < e → a * e ≤ b → n ≡ ceil (b + 1) e → a ≤ n
blocks_filled a b e n some less is = rw is (le-div a (b + 1 + e - 1) e some (omega (arith, some, less)))

-- a file of the bytes of all entry pages has none
pub whole-fails : (g : Geometry) (index pages : ℕ) → has_room_for g index pages (usable g * body g) ≡ false
whole-fails g index pages =
    let all = wholes (usable g) (body g) (some_body g) in
    let blocks = blocks_filled g.blocks (pages + data_pages g (usable g * body g)) (entries g) _ (entry_left g) (omega (arith, all)) refl in
    lt-leb _ g.blocks (omega (arith, blocks))
