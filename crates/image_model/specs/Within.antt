-- Pages and slots lie within the image.
use Rattle.std.specs.Prelude.{◌≡◌, ℕ, ◌+◌, ◌-◌, ◌*◌, ◌/◌, ◌%◌, ◌^◌, ◌<◌, ◌≤◌, List, length, true}
use Rattle.std.proofs.Common.{ap, refl, sym, arith, length-take, length-drop, ⊎_elim}
use Rattle.std.proofs.Math.Nat.{mul-le-mul_right, div-add-mod}
use Rattle.std.proofs.lemmas.Bool.{cases_lt, lt-ltb, le-ltb}
use Rattle.geometry.proofs.Bounds.{some_entries, magic_fits, block_pages, page_inside}
use Rattle.geometry.specs.declared.geometry.Geometry.{Geometry}
use Rattle.geometry.specs.Numbers.{page_count, per_block, lookups, slots, entries}
use Rattle.image_model.specs.Places.{page_of, is_entry_page, block_of, place_of, IsImage, entry_at}

-- what the sizes of a volume meet
pub record Sizes (g : Geometry) : Type 0 where
  pub page : 128 ≤ g.page
  pub block : g.block ≡ per_block g * g.page
  pub lookups_fit : lookups g < per_block g
  pub slots_fit : entries g + 2 ≤ slots g
  pub meta : g.meta ≤ 64
  pub small : g.block < 2 ^ 31
  pub total : g.blocks * g.block < 2 ^ 31

pub sizes : (g : Geometry) → Sizes g
unfolding per_block lookups entries
sizes g =
    let few : g.blocks * g.block ≤ 65535 * g.page = g.valid.few_bytes in
    let one : 1 * g.block ≤ g.blocks * g.block = mul-le-mul_right g.block (omega (arith, g.valid.some_blocks)) in
    record {
      page = g.valid.page_least;
      block = sym (block_pages g);
      lookups_fit = omega (arith, some_entries g);
      slots_fit = magic_fits g;
      meta = g.valid.meta_most;
      small = omega (arith, few, one, g.valid.page_most);
      total = omega (arith, few, g.valid.page_most);
    }

-- the block of a page of the volume
page_block : (P p n : ℕ) → 0 < P → p < n * P → p / P < n
page_block P p n pos h =
    let whole : P * (p / P) + p % P ≡ p = div-add-mod p P in
    ⊎_elim
    (λ (low : p / P < n). low)
    (λ (high : n ≤ p / P). let step : n * P ≤ (p / P) * P = mul-le-mul_right P high in absurd (omega arith))
    (cases_lt (p / P) n)

pub page_number : (g : Geometry) (p : ℕ) → is_entry_page g p ≡ true → p < page_count g
unfolding is_entry_page
page_number g p h = grind arith

-- it lies behind the lookup pages
pub behind : (g : Geometry) (p : ℕ) → is_entry_page g p ≡ true → lookups g ≤ place_of g p
unfolding is_entry_page
behind g p h = grind arith

pub page_fits : (g : Geometry) (image : List ℕ) (p : ℕ) → IsImage g image → p < page_count g → p * g.page + g.page ≤ length image
page_fits g image p is h = omega (arith, page_inside g p h, is.len)

-- a whole page of the image
pub page_length : (g : Geometry) (image : List ℕ) (p : ℕ) → IsImage g image → is_entry_page g p ≡ true → length (page_of g image p) ≡ g.page
unfolding page_of
page_length g image p is h =
    let fits : p * g.page + g.page ≤ length image = page_fits g image p is (page_number g p h) in
    simp (length-take, length-drop) (omega arith)

pub slot_fits : (g : Geometry) (image : List ℕ) (b s : ℕ) → IsImage g image → b < g.blocks → s < slots g → b * g.block + 2 * s + 1 < length image
slot_fits g image b s is low small =
    let geo : Sizes g = sizes g in
    let fewer : lookups g ≤ per_block g = omega (arith, geo.lookups_fit) in
    let rows : lookups g * g.page ≤ per_block g * g.page = mul-le-mul_right g.page fewer in
    let next : b + 1 ≤ g.blocks = omega arith in
    let step : (b + 1) * g.block ≤ g.blocks * g.block = mul-le-mul_right g.block next in
    omega (arith, is.len, geo.block)

-- the block and the place of an entry page, by its number in the block
block_entry : (P L c i : ℕ) → L + i < P → ((c * P + L + i) / P ≡ c) × ((c * P + L + i) % P ≡ L + i)
block_entry P L c i small =
    let whole : P * ((c * P + L + i) / P) + (c * P + L + i) % P ≡ c * P + L + i = div-add-mod (c * P + L + i) P in
    let less : (c * P + L + i) % P < P = omega arith in
    let at : (c * P + L + i) / P ≡ c =
    ⊎_elim
    (λ (low : (c * P + L + i) / P < c). let step : ((c * P + L + i) / P + 1) * P ≤ c * P = mul-le-mul_right P (omega arith) in absurd (omega arith))
    (λ (high : c ≤ (c * P + L + i) / P). ⊎_elim
    (λ (more : c < (c * P + L + i) / P). let step : (c + 1) * P ≤ ((c * P + L + i) / P) * P = mul-le-mul_right P (omega arith) in absurd (omega arith))
    (λ (same : (c * P + L + i) / P ≤ c). omega arith)
    (cases_lt c ((c * P + L + i) / P)))
    (cases_lt ((c * P + L + i) / P) c) in
    (at, let e : P * ((c * P + L + i) / P) ≡ P * c = ap (λ (x : ℕ). P * x) at in omega arith)

-- the entries of a block lie there
pub entry_in : (g : Geometry) (c q : ℕ) → c < g.blocks → c * per_block g + lookups g ≤ q → q < c * per_block g + lookups g + entries g →
    (block_of g q ≡ c) × (is_entry_page g q ≡ true)
unfolding entries is_entry_page page_count
entry_in g c q low from to =
    let fits : lookups g < per_block g = (sizes g).lookups_fit in
    let i : c * per_block g + lookups g + (q - (c * per_block g + lookups g)) ≡ q = omega arith in
    let small : lookups g + (q - (c * per_block g + lookups g)) < per_block g = omega arith in
    let w = block_entry (per_block g) (lookups g) c (q - (c * per_block g + lookups g)) small in
    let block : q / per_block g ≡ c = rw i at w.0 in
    let place : q % per_block g ≡ lookups g + (q - (c * per_block g + lookups g)) = rw i at w.1 in
    let next : (c + 1) * per_block g ≤ g.blocks * per_block g = mul-le-mul_right (per_block g) (omega arith) in
    let inside : q < g.blocks * per_block g = omega arith in
    (block, rw (lt-ltb q (g.blocks * per_block g) inside, le-ltb (q % per_block g) (lookups g) (omega arith)) refl)

-- so an entry page of block c has a number of the volume, and lies behind the lookup pages
pub entry_number_in : (g : Geometry) (c q : ℕ) → c < g.blocks → c * per_block g + lookups g ≤ q → q < c * per_block g + lookups g + entries g →
    (q < page_count g) × (lookups g ≤ place_of g q)
unfolding is_entry_page
entry_number_in g c q low from to =
    let w = (entry_in g c q low from to).1 in
    (page_number g q w, behind g q w)

-- each entry page of a block is one of them
pub entry_of_block : (g : Geometry) (p : ℕ) → is_entry_page g p ≡ true →
    (block_of g p * per_block g + lookups g ≤ p) × (p < block_of g p * per_block g + lookups g + entries g)
unfolding entries
entry_of_block g p page =
    let whole : per_block g * (p / per_block g) + p % per_block g ≡ p = div-add-mod p (per_block g) in
    let at : lookups g ≤ place_of g p = behind g p page in
    let fits : lookups g < per_block g = (sizes g).lookups_fit in
    let less : p % per_block g < per_block g = omega arith in
    (omega arith, omega arith)

pub block_number : (g : Geometry) (p : ℕ) → p < page_count g → block_of g p < g.blocks
unfolding page_count
block_number g p h = page_block (per_block g) p g.blocks (omega (arith, (sizes g).lookups_fit)) h

pub entry_slot : (g : Geometry) (p : ℕ) → place_of g p - lookups g < slots g
unfolding entries
entry_slot g p = let small : entries g + 2 ≤ slots g = (sizes g).slots_fit in let fits : lookups g < per_block g = (sizes g).lookups_fit in omega arith

pub entry_fits : (g : Geometry) (p : ℕ) → is_entry_page g p ≡ true → entry_at g p + 2 ≤ g.blocks * g.block
entry_fits g p page =
    let geo : Sizes g = sizes g in
    let low : block_of g p < g.blocks = block_number g p (page_number g p page) in
    let small : place_of g p - lookups g < slots g = entry_slot g p in
    let fewer : lookups g ≤ per_block g = omega (arith, geo.lookups_fit) in
    let rows : lookups g * g.page ≤ per_block g * g.page = mul-le-mul_right g.page fewer in
    let next : block_of g p + 1 ≤ g.blocks = omega arith in
    let step : (block_of g p + 1) * g.block ≤ g.blocks * g.block = mul-le-mul_right g.block next in
    omega (arith, geo.block)
