-- The pages of a table in which a file gets another size.
use Rattle.std.proofs.Common.{◌≡◌, ℕ, ◌+◌, ◌-◌, ◌^◌, ◌==◌, ◌<◌, ◌≤◌, List, [], ◌∷◌, length, true, false, ⊎_elim, refl, sym, ◌∙◌, ap, arith, Ok, ◌++◌, take, drop, length-append, length-take, length-drop}
use Rattle.std.specs.Prelude.{Some, nat_lt, nat_le}
use Rattle.std.specs.List.{sum_by}
use Rattle.std.proofs.lemmas.Bool.{cases_Bool, cases_lt, lt-leb}
use Rattle.std.proofs.lemmas.List.Sums.{sum_by-cons}
use Rattle.std.proofs.lemmas.Nat.{le-div}
use Rattle.std.proofs.Math.Nat.{div-le_of_le-mul, mul-le-mul_left, mul-le-mul_right}
use Rattle.geometry.proofs.Bounds.{few_pages, few_entries, entry_left}
use Rattle.geometry.specs.declared.geometry.Geometry.{Geometry}
use Rattle.geometry.specs.Numbers.{ceil, body, head_slots, span_slots, entries, page_count}
use Rattle.table_model.specs.Table.{File, file_of, put_file}
use Rattle.table_model.specs.Files.{written}
use Rattle.table_model.specs.Room.{index_pages, data_pages, index_count, data_count, has_room}
use Rattle.image_model.specs.Live.{live_at}
use Rattle.image_model.specs.Tables.{table_of, damaged_of, has_of}
use Rattle.image_model.specs.Tidy.{IsTidy}
use Rattle.image_laws.proofs.Records.{counted-some}
use Rattle.image_laws.proofs.Serving.{ceil-enough}
use Rattle.room_laws.proofs.Totals.{ceil-le}
use Rattle.renew_laws.proofs.RecopyLeaves.{put-same}
use Rattle.header_laws.proofs.HeadPages.{file_of-at}
use Rattle.file_calls.specs.Refusals.{IsResized}

-- ---- sums over a table

-- a file put in the place of another of its id
pub sum_put : (h : File → ℕ) (f e : File) (xs : List File) → f.id ≡ e.id → sum_by h (put_file f xs) + h e ≡ sum_by h (put_file e xs) + h f
sum_put h f e [] same = let a = sum_by-cons h f [] in let b = sum_by-cons h e [] in omega (arith, a, b)
sum_put h f e (x ∷ xs) same = ⊎_elim
    (λ (less : nat_lt e.id x.id ≡ true).
    let too : nat_lt f.id x.id ≡ true = ap (λ (n : ℕ). nat_lt n x.id) same ∙ less in
    rw (less, too) (let a = sum_by-cons h f (x ∷ xs) in let b = sum_by-cons h e (x ∷ xs) in omega (arith, a, b)))
    (λ (more : nat_lt e.id x.id ≡ false).
    let too : nat_lt f.id x.id ≡ false = ap (λ (n : ℕ). nat_lt n x.id) same ∙ more in
    rw (more, too) (⊎_elim
    (λ (here : (e.id == x.id) ≡ true).
    let there : (f.id == x.id) ≡ true = ap (λ (n : ℕ). n == x.id) same ∙ here in
    rw (here, there) (let a = sum_by-cons h f xs in let b = sum_by-cons h e xs in omega (arith, a, b)))
    (λ (other : (e.id == x.id) ≡ false).
    let there : (f.id == x.id) ≡ false = ap (λ (n : ℕ). n == x.id) same ∙ other in
    rw (other, there) (let a = sum_by-cons h x (put_file f xs) in let b = sum_by-cons h x (put_file e xs) in let rest = sum_put h f e xs same in omega (arith, a, b, rest)))
    (cases_Bool (e.id == x.id))))
    (cases_Bool (nat_lt e.id x.id))

-- a file that was put is counted
pub sum_has : (h : File → ℕ) (f : File) (xs : List File) → h f ≤ sum_by h (put_file f xs)
sum_has h f [] = let a = sum_by-cons h f [] in omega (arith, a)
sum_has h f (x ∷ xs) = ⊎_elim
    (λ (less : nat_lt f.id x.id ≡ true). rw less (let a = sum_by-cons h f (x ∷ xs) in omega (arith, a)))
    (λ (more : nat_lt f.id x.id ≡ false). rw more (⊎_elim
    (λ (here : (f.id == x.id) ≡ true). rw here (let a = sum_by-cons h f xs in omega (arith, a)))
    (λ (other : (f.id == x.id) ≡ false). rw other (let a = sum_by-cons h x (put_file f xs) in let rest = sum_has h f xs in omega (arith, a, rest)))
    (cases_Bool (f.id == x.id))))
    (cases_Bool (nat_lt f.id x.id))

-- a file of the table is what the image has under its id
pub has_at : (g : Geometry) (a : List ℕ) (id : ℕ) (f : File) → file_of id (table_of g a) ≡ Some f → (p : ℕ) × (has_of g (live_at g a) id ≡ Some (p, Ok f))
has_at g a id f at = counted-some (has_of g (live_at g a)) 0x7FFF (has_of g (live_at g a) id) f (sym (file_of-at g a id) ∙ at)

-- put in its own place it changes nothing
pub put_again : (g : Geometry) (a : List ℕ) (id : ℕ) (f : File) → damaged_of g a ≡ [] → file_of id (table_of g a) ≡ Some f → put_file f (table_of g a) ≡ table_of g a
put_again g a id f undamaged at = let h = has_at g a id f at in put-same g a id h.0 f undamaged h.1

-- another file in the place of one of its id changes a sum by its own part
resized_sum : (h : File → ℕ) (g : Geometry) (a : List ℕ) (id : ℕ) (f new : File) → damaged_of g a ≡ [] → file_of id (table_of g a) ≡ Some f → new.id ≡ f.id → sum_by h (put_file new (table_of g a)) + h f ≡ sum_by h (table_of g a) + h new
resized_sum h g a id f new undamaged at same = sum_put h new f (table_of g a) same ∙ ap (λ (t : List File). sum_by h t + h new) (put_again g a id f undamaged at)

-- the size of a file that is written
pub written_size : (at : ℕ) (bytes : List ℕ) (f : File) → at ≤ length f.bytes → length (written at bytes f).bytes ≡ at + length bytes + (length f.bytes - (at + length bytes))
written_size at bytes f inside =
    let a = length-append (take at f.bytes ++ bytes) (drop (at + length bytes) f.bytes) in
    let b = length-append (take at f.bytes) bytes in
    let c = length-take at f.bytes in
    let e = length-drop (at + length bytes) f.bytes in
    omega (arith, a, b, c, e, inside)

-- ---- the pages of the table

module _ (g : Geometry) (a : List ℕ) (id : ℕ) (f new : File) (undamaged : damaged_of g a ≡ []) (at : file_of id (table_of g a) ≡ Some f) (same : new.id ≡ f.id) where
  -- another file in the place of one of its id changes the pages of each kind by its own
  pub resized_index : index_count g (put_file new (table_of g a)) + index_pages g (length f.bytes) ≡ index_count g (table_of g a) + index_pages g (length new.bytes)
  unfolding index_count
  resized_index = resized_sum (λ (x : File). index_pages g (length x.bytes)) g a id f new undamaged at same

  pub resized_data : data_count g (put_file new (table_of g a)) + data_pages g (length f.bytes) ≡ data_count g (table_of g a) + data_pages g (length new.bytes)
  unfolding data_count
  resized_data = resized_sum (λ (x : File). data_pages g (length x.bytes)) g a id f new undamaged at same

-- the pages of a table whose file gets another size, counted by those that are live
pub resized_room : (g : Geometry) (a : List ℕ) (from to : ℕ) (f new : File) → IsTidy g a → IsResized (table_of g a) from to f new → (index pages : ℕ) → index ≡ index_count g (table_of g a) → pages ≡ data_count g (table_of g a) →
    nat_le (ceil (index + index_pages g to - index_pages g from + 1) (entries g) + ceil (pages + data_pages g to - data_pages g from + 1) (entries g) + 2) g.blocks ≡ has_room g (put_file new (table_of g a))
unfolding has_room
resized_room g a from to f new tidy is index pages i d =
    let index_after : index_count g (put_file new (table_of g a)) + index_pages g from ≡ index_count g (table_of g a) + index_pages g to = rw (is.was, is.now) at (resized_index g a f.id f new tidy.undamaged is.there is.same) in
    let data_after : data_count g (put_file new (table_of g a)) + data_pages g from ≡ data_count g (table_of g a) + data_pages g to = rw (is.was, is.now) at (resized_data g a f.id f new tidy.undamaged is.there is.same) in
    let index_is : index + index_pages g to - index_pages g from ≡ index_count g (put_file new (table_of g a)) = omega (arith, i, index_after) in
    let data_is : pages + data_pages g to - data_pages g from ≡ data_count g (put_file new (table_of g a)) = omega (arith, d, data_after) in
    rw (index_is, data_is) refl

-- ---- bounds

-- a file whose size is a number of 32 bits has so few pages
pub few_data : (g : Geometry) (size : ℕ) → size < 2 ^ 32 → data_pages g size < 2 ^ 26
few_data g size small = let least = g.valid.page_least in omega (arith, div-le_of_le-mul (body g) {m = size + body g - 1} {n = 2 ^ 26 - 1} (omega (arith, least, small)))

pub few_index : (g : Geometry) (size : ℕ) → size < 2 ^ 32 → index_pages g size < 2 ^ 27
few_index g size small =
    let few = few_data g size small in
    let least = g.valid.page_least in
    let most : ceil (data_pages g size - head_slots g) (span_slots g) ≤ data_pages g size - head_slots g =
    ceil-le (data_pages g size - head_slots g) (span_slots g) (data_pages g size - head_slots g) (omega (arith, least))
    (let some : 1 ≤ span_slots g = omega (arith, least) in omega (arith, mul-le-mul_left (data_pages g size - head_slots g) some)) in
    ⊎_elim
    (λ (more : nat_lt (head_slots g) (data_pages g size) ≡ true). rw more (omega (arith, few, most)))
    (λ (one : nat_lt (head_slots g) (data_pages g size) ≡ false). rw one (omega arith))
    (cases_Bool (nat_lt (head_slots g) (data_pages g size)))

-- a file of so many bytes as no size tells has more data pages than all blocks have
many_data : (g : Geometry) (size : ℕ) → 0xFFFFFFFF ≤ size → 65536 ≤ data_pages g size
many_data g size large = let most = g.valid.page_most in let least = g.valid.page_least in le-div 65536 (size + body g - 1) (body g) (omega (arith, least)) (omega (arith, most, large))

-- so many pages take more blocks than there are
all_blocks : (g : Geometry) (pages : ℕ) → 65535 < pages → g.blocks < ceil pages (entries g)
unfolding page_count
all_blocks g pages many = ⊎_elim
    (λ (more : g.blocks < ceil pages (entries g)). more)
    (λ (fits : ceil pages (entries g) ≤ g.blocks).
    let few = few_pages g in
    let within = few_entries g in
    let enough = ceil-enough pages (entries g) (entry_left g) in
    let a = mul-le-mul_right (entries g) fits in
    let b = mul-le-mul_left g.blocks within in
    absurd (omega (arith, few, many, enough, a, b)))
    (cases_lt g.blocks (ceil pages (entries g)))

-- so a table with such a file has no room
pub no_room : (g : Geometry) (files : List File) (new : File) → 0xFFFFFFFF ≤ length new.bytes → has_room g (put_file new files) ≡ false
unfolding has_room data_count
no_room g files new large =
    let own = many_data g (length new.bytes) large in
    let has = sum_has (λ (x : File). data_pages g (length x.bytes)) new files in
    let all = all_blocks g (data_count g (put_file new files) + 1) (omega (arith, own, has)) in
    lt-leb (ceil (index_count g (put_file new files) + 1) (entries g) + ceil (data_count g (put_file new files) + 1) (entries g) + 2) g.blocks (omega (arith, all))
