-- The room that a table has for a part of a write, where it has room once all is written.
use Rattle.std.proofs.Common.{◌≡◌, ℕ, ◌+◌, ◌-◌, ◌*◌, ◌/◌, ◌%◌, ◌==◌, ◌&&◌, ◌<◌, ◌≤◌, List, [], length, Bool, true, false, ⊎_elim, refl, sym, ◌∙◌, arith}
use Rattle.std.specs.Prelude.{Some, nat_lt, nat_le, if◌then◌else◌}
use Rattle.std.proofs.lemmas.Bool.{cases_Bool, cases_lt, leb-true, le-leb, lt-ltb, ltb-true, eqb-true, and_parts}
use Rattle.std.proofs.lemmas.Nat.{le-div}
use Rattle.std.proofs.Math.Nat.{div-add-mod, mul-le-mul_right}
use Rattle.geometry.specs.declared.geometry.Geometry.{Geometry}
use Rattle.geometry.specs.Numbers.{ceil, body, head_slots, span_slots, usable, entries, per_block, lookups}
use Rattle.table_model.specs.Table.{File, file_of, put_file}
use Rattle.table_model.specs.Room.{index_pages, data_pages, index_count, data_count, has_room}
use Rattle.image_model.specs.Tables.{table_of, damaged_of}
use Rattle.image_laws.proofs.Serving.{ceil-mono, ceil-enough}
use Rattle.room_laws.specs.Stopping.{HasRoomFor}
use Rattle.room_laws.proofs.Tallies.{entries_pos}
use Rattle.room_laws.proofs.Totals.{ceil-le}
use Rattle.file_write.specs.Appends.{index_needed}
use Rattle.file_calls.proofs.Resizing.{resized_index, resized_data, sum_has, no_room}

-- ---- the pages of a file that grows

pub some_body : (g : Geometry) → 0 < body g
some_body g = let least = g.valid.page_least in omega (arith, least)

some_slots : (g : Geometry) → 0 < span_slots g
some_slots g = let least = g.valid.page_least in omega (arith, least)

data_mono : (g : Geometry) (m n : ℕ) → m ≤ n → data_pages g m ≤ data_pages g n
data_mono g m n le = ceil-mono m n (body g) (some_body g) le

some_index : (g : Geometry) (n : ℕ) → 1 ≤ index_pages g n
some_index g n = ⊎_elim
    (λ (more : nat_lt (head_slots g) (data_pages g n) ≡ true). rw more (omega arith))
    (λ (one : nat_lt (head_slots g) (data_pages g n) ≡ false). rw one (omega arith))
    (cases_Bool (nat_lt (head_slots g) (data_pages g n)))

index_mono : (g : Geometry) (m n : ℕ) → m ≤ n → index_pages g m ≤ index_pages g n
index_mono g m n le = ⊎_elim
    (λ (more : nat_lt (head_slots g) (data_pages g m) ≡ true).
    let pages = data_mono g m n le in
    let too : nat_lt (head_slots g) (data_pages g n) ≡ true = lt-ltb (head_slots g) (data_pages g n) (let low = ltb-true (head_slots g) (data_pages g m) more in omega (arith, pages, low)) in
    let further = ceil-mono (data_pages g m - head_slots g) (data_pages g n - head_slots g) (span_slots g) (some_slots g) (omega (arith, pages)) in
    rw (more, too) (omega (arith, further)))
    (λ (one : nat_lt (head_slots g) (data_pages g m) ≡ false). rw one (some_index g n))
    (cases_Bool (nat_lt (head_slots g) (data_pages g m)))

-- It gets a further index page where an append needs two index pages.
module _ (g : Geometry) (m n : ℕ) (less : m < n) (whole : m % body g ≡ 0) (high : head_slots g ≤ m / body g) (full : (m / body g - head_slots g) % span_slots g ≡ 0) where
  exact : body g * (m / body g) ≡ m
  exact = let e : body g * (m / body g) + m % body g ≡ m = div-add-mod m (body g) in omega (arith, e, whole)

  pages_before : data_pages g m ≤ m / body g
  pages_before = ceil-le m (body g) (m / body g) (some_body g) (let e = exact in omega (arith, e))

  pages_after : m / body g + 1 ≤ data_pages g n
  pages_after = le-div (m / body g + 1) (n + body g - 1) (body g) (some_body g) (let e = exact in let some = some_body g in omega (arith, e, some, less))

  exact_slots : span_slots g * ((m / body g - head_slots g) / span_slots g) ≡ m / body g - head_slots g
  exact_slots = let e : span_slots g * ((m / body g - head_slots g) / span_slots g) + (m / body g - head_slots g) % span_slots g ≡ m / body g - head_slots g = div-add-mod (m / body g - head_slots g) (span_slots g) in omega (arith, e, full)

  index_before : index_pages g m ≤ 1 + (m / body g - head_slots g) / span_slots g
  index_before = ⊎_elim
      (λ (more : nat_lt (head_slots g) (data_pages g m) ≡ true).
      let further = ceil-le (data_pages g m - head_slots g) (span_slots g) ((m / body g - head_slots g) / span_slots g) (some_slots g) (let e = exact_slots in let most = pages_before in omega (arith, e, most)) in
      rw more (omega (arith, further)))
      (λ (one : nat_lt (head_slots g) (data_pages g m) ≡ false). rw one (omega arith))
      (cases_Bool (nat_lt (head_slots g) (data_pages g m)))

  index_after : 2 + (m / body g - head_slots g) / span_slots g ≤ index_pages g n
  index_after =
      let least = pages_after in
      let more : nat_lt (head_slots g) (data_pages g n) ≡ true = lt-ltb (head_slots g) (data_pages g n) (omega (arith, high, least)) in
      let further = le-div ((m / body g - head_slots g) / span_slots g + 1) (data_pages g n - head_slots g + span_slots g - 1) (span_slots g) (some_slots g) (let e = exact_slots in let some = some_slots g in omega (arith, e, some, least, high)) in
      rw more (omega (arith, further))

  two_more : 2 + index_pages g m ≤ index_pages g n + 1
  two_more = let before = index_before in let after = index_after in omega (arith, before, after)

needed_by : (g : Geometry) (m n : ℕ) → m < n → (two : Bool) → ((m % body g == 0) && nat_le (head_slots g) (m / body g) && ((m / body g - head_slots g) % span_slots g == 0)) ≡ two → (if two then 2 else 1) + index_pages g m ≤ index_pages g n + 1
needed_by g m n less false e = let mono = index_mono g m n (omega (arith, less)) in omega (arith, mono)
needed_by g m n less true e =
    let w = and_parts ((m % body g == 0) && nat_le (head_slots g) (m / body g)) ((m / body g - head_slots g) % span_slots g == 0) e in
    let u = and_parts (m % body g == 0) (nat_le (head_slots g) (m / body g)) w.0 in
    two_more g m n less (eqb-true (m % body g) 0 u.0) (leb-true (head_slots g) (m / body g) u.1) (eqb-true ((m / body g - head_slots g) % span_slots g) 0 w.1)

-- the index pages that an append needs are those by which the file grows, and one
needed_grows : (g : Geometry) (m n : ℕ) → m < n → index_needed g m + index_pages g m ≤ index_pages g n + 1
needed_grows g m n less = needed_by g m n less ((m % body g == 0) && nat_le (head_slots g) (m / body g) && ((m / body g - head_slots g) % span_slots g == 0)) refl

-- ---- the room of a table

with_room : (g : Geometry) (files : List File) → has_room g files ≡ true → ceil (index_count g files + 1) (entries g) + ceil (data_count g files + 1) (entries g) + 2 ≤ g.blocks
unfolding has_room entries per_block lookups
with_room g files e = leb-true _ g.blocks e

has_room_by : (g : Geometry) (files : List File) → ceil (index_count g files + 1) (entries g) + ceil (data_count g files + 1) (entries g) + 2 ≤ g.blocks → has_room g files ≡ true
unfolding has_room entries per_block lookups
has_room_by g files w = le-leb _ g.blocks w

module _ (g : Geometry) (a : List ℕ) (id : ℕ) (f new : File) (undamaged : damaged_of g a ≡ []) (there : file_of id (table_of g a) ≡ Some f) (same : new.id ≡ f.id) (room : has_room g (put_file new (table_of g a)) ≡ true) where
  -- where a table has room for a file it has room for a smaller one in its place
  pub less_room : (part : File) → part.id ≡ f.id → length part.bytes ≤ length new.bytes → has_room g (put_file part (table_of g a)) ≡ true
  less_room part also le =
      let w = with_room g (put_file new (table_of g a)) room in
      let i = index_mono g (length part.bytes) (length new.bytes) le in
      let d = data_mono g (length part.bytes) (length new.bytes) le in
      let i_new = resized_index g a id f new undamaged there same in
      let i_part = resized_index g a id f part undamaged there also in
      let d_new = resized_data g a id f new undamaged there same in
      let d_part = resized_data g a id f part undamaged there also in
      let index = ceil-mono (index_count g (put_file part (table_of g a)) + 1) (index_count g (put_file new (table_of g a)) + 1) (entries g) (entries_pos g) (omega (arith, i, i_new, i_part)) in
      let pages = ceil-mono (data_count g (put_file part (table_of g a)) + 1) (data_count g (put_file new (table_of g a)) + 1) (entries g) (entries_pos g) (omega (arith, d, d_new, d_part)) in
      has_room_by g (put_file part (table_of g a)) (omega (arith, w, index, pages))

  -- there is room for a page of each kind beside a file that is not to shrink
  pub room_beside : length f.bytes ≤ length new.bytes → HasRoomFor g a 1 1
  room_beside le =
      let w = with_room g (put_file new (table_of g a)) room in
      let i = index_mono g (length f.bytes) (length new.bytes) le in
      let d = data_mono g (length f.bytes) (length new.bytes) le in
      let i_new = resized_index g a id f new undamaged there same in
      let d_new = resized_data g a id f new undamaged there same in
      let index = ceil-mono (index_count g (table_of g a) + 1) (index_count g (put_file new (table_of g a)) + 1) (entries g) (entries_pos g) (omega (arith, i, i_new)) in
      let pages = ceil-mono (data_count g (table_of g a) + 1) (data_count g (put_file new (table_of g a)) + 1) (entries g) (entries_pos g) (omega (arith, d, d_new)) in
      omega (arith, w, index, pages)

  -- and for the pages of an append to one that is to grow
  pub room_behind : length f.bytes < length new.bytes → (n : ℕ) → data_pages g (length f.bytes) + n ≤ data_pages g (length new.bytes) + 1 → HasRoomFor g a (index_needed g (length f.bytes)) n
  room_behind less n few =
      let w = with_room g (put_file new (table_of g a)) room in
      let i = needed_grows g (length f.bytes) (length new.bytes) less in
      let i_new = resized_index g a id f new undamaged there same in
      let d_new = resized_data g a id f new undamaged there same in
      let index = ceil-mono (index_count g (table_of g a) + index_needed g (length f.bytes)) (index_count g (put_file new (table_of g a)) + 1) (entries g) (entries_pos g) (omega (arith, i, i_new)) in
      let pages = ceil-mono (data_count g (table_of g a) + n) (data_count g (put_file new (table_of g a)) + 1) (entries g) (entries_pos g) (omega (arith, few, d_new)) in
      omega (arith, w, index, pages)

-- A file for which a table has room has no more data pages than the volume,
pub few_pages : (g : Geometry) (files : List File) (new : File) → has_room g (put_file new files) ≡ true → data_pages g (length new.bytes) ≤ usable g
unfolding data_count entries per_block lookups
few_pages g files new room =
    let w = with_room g (put_file new files) room in
    let has = sum_has (λ (x : File). data_pages g (length x.bytes)) new files in
    let enough = ceil-enough (data_count g (put_file new files) + 1) (entries g) (entries_pos g) in
    let blocks = mul-le-mul_right (entries g) (let fits : ceil (data_count g (put_file new files) + 1) (entries g) ≤ g.blocks = omega (arith, w) in fits) in
    omega (arith, has, enough, blocks)

-- and so few bytes that a number of 32 bits tells them.
pub few_bytes : (g : Geometry) (files : List File) (new : File) → has_room g (put_file new files) ≡ true → length new.bytes < 0xFFFFFFFF
few_bytes g files new room = ⊎_elim (λ (few : length new.bytes < 0xFFFFFFFF). few) (λ (many : 0xFFFFFFFF ≤ length new.bytes). let bad : true ≡ false = sym room ∙ no_room g files new many in absurd (cc)) (cases_lt (length new.bytes) 0xFFFFFFFF)
