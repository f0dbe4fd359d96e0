-- The least unused id of a table, and the room of a create.
use Rattle.std.proofs.Common.{◌≡◌, ℕ, zero, suc, ◌+◌, ◌*◌, ◌<◌, ◌≤◌, List, [], ◌∷◌, length, Bool, true, false, not, ◌==◌, ◌||◌, Option, Some, None, ap, refl, sym, ◌∙◌, arith, ⊎_elim}
use Rattle.std.specs.Prelude.{find, filter, nat_le, unwrap_or}
use Rattle.std.specs.List.{range_with_len, list_any}
use Rattle.std.proofs.Math.Nat.{mul-le-mul_right}
use Rattle.std.proofs.Math.Path.{fun_ext}
use Rattle.std.proofs.lemmas.List.Sums.{sum_by-cons}
use Rattle.std.proofs.lemmas.Bool.{cases_Bool, cases_lt, cases_eq, eq-eqb, ne_eqb, leb-true, not-true, not-false}
use Rattle.std.proofs.lemmas.Option.{none-some, same_Some}
use Rattle.geometry.proofs.Bounds.{entry_left}
use Rattle.geometry.specs.declared.geometry.Geometry.{Geometry}
use Rattle.geometry.specs.Numbers.{ceil, entries, usable}
use Rattle.table_model.specs.Table.{File, has_id, least_id}
use Rattle.table_model.specs.Room.{index_pages, index_count, data_count, has_room}
use Rattle.table_model.specs.Files.{created}
use Rattle.image_model.specs.Tables.{table_of}
use Rattle.image_laws.proofs.Matching.{filter-none_in, count_one}
use Rattle.image_laws.proofs.Wanted.{header-below}
use Rattle.image_laws.proofs.Serving.{ceil-enough}
use Rattle.header_laws.specs.Room.{IsLeast, LeastIsUnused, CreateRoom, LeastIsFirst}
use Rattle.header_laws.proofs.HeadPages.{has-ids}
use Rattle.header_laws.proofs.AddsUp.{new-adds}

-- ---- among more numbers than files one is unused

or-count : (s t : ℕ → Bool) (xs : List ℕ) → length (filter (λ i. s i || t i) xs) ≤ length (filter s xs) + length (filter t xs)
or-count s t [] = omega arith
or-count s t (x ∷ xs) =
    let rest = or-count s t xs in
    ⊎_elim
    (λ (a : s x ≡ true). ⊎_elim
    (λ (b : t x ≡ true). rw (a, b) (omega (arith, rest)))
    (λ (b : t x ≡ false). rw (a, b) (omega (arith, rest)))
    (cases_Bool (t x)))
    (λ (a : s x ≡ false). ⊎_elim
    (λ (b : t x ≡ true). rw (a, b) (omega (arith, rest)))
    (λ (b : t x ≡ false). rw (a, b) rest)
    (cases_Bool (t x)))
    (cases_Bool (s x))

-- a number is at most once in a range
once : (k a n : ℕ) → length (filter (λ i. k == i) (range_with_len a n)) ≤ 1
once k a n =
    let none : ((i : ℕ) → a ≤ i → i < a + n → k ≡ i → ⊥) → length (filter (λ (i : ℕ). k == i) (range_with_len a n)) ≤ 1 =
    λ out. let z = filter-none_in (λ (i : ℕ). k == i) a n (λ i low high. ne_eqb k i (out i low high)) in omega (arith, z) in
    ⊎_elim
    (λ (below : k < a). none (λ i low high e. omega (arith, e)))
    (λ (low : a ≤ k). ⊎_elim
    (λ (high : k < a + n). let z = count_one (λ (i : ℕ). k == i) k a n low high (eq-eqb k k refl) (λ j there. ne_eqb k j (λ e. there (sym e))) in omega (arith, z))
    (λ (above : a + n ≤ k). none (λ i low high e. omega (arith, e)))
    (cases_lt k (a + n)))
    (cases_lt k a)

used-count : (files : List File) (a n : ℕ) → length (filter (λ i. has_id i files) (range_with_len a n)) ≤ length files
unfolding has_id
used-count [] a n = let z = filter-none_in (λ (i : ℕ). false) a n (λ i low high. refl) in omega (arith, z)
used-count (f ∷ files) a n =
    let both = or-count (λ (i : ℕ). f.id == i) (λ (i : ℕ). list_any (λ (x : File). x.id == i) files) (range_with_len a n) in
    let rest = used-count files a n in
    omega (arith, both, once f.id a n, rest)

all-pass : (t : ℕ → Bool) (a n : ℕ) → find (λ i. not (t i)) (range_with_len a n) ≡ None → length (filter t (range_with_len a n)) ≡ n
all-pass t a zero e = refl
all-pass t a (suc n) e =
    ⊎_elim
    (λ (some : t a ≡ true). let rest = all-pass t (a + 1) n (rw some at e) in rw some (omega (arith, rest)))
    (λ (none : t a ≡ false). absurd (none-some a (sym (rw none at e))))
    (cases_Bool (t a))

-- ---- the first number that passes

-- it passes, it lies in the range, and none before it passes
first-parts : (t : ℕ → Bool) (a n k : ℕ) → find t (range_with_len a n) ≡ Some k → (t k ≡ true) × (a ≤ k) × (k < a + n) × ((i : ℕ) → a ≤ i → i < k → t i ≡ false)
first-parts t a zero k e = absurd (none-some k e)
first-parts t a (suc n) k e =
    ⊎_elim
    (λ (here : t a ≡ true). let at : a ≡ k = same_Some a k (rw here at e) in (rw at at here, omega arith, omega arith, λ i low less. absurd (omega arith)))
    (λ (later : t a ≡ false).
    let w = first-parts t (a + 1) n k (rw later at e) in (
      w.0,
      omega (arith, w.1),
      omega (arith, w.2),
      λ i low less. ⊎_elim
          (λ (x : a ≡ i). rw x at later)
          (λ (x : a ≡ i → ⊥). w.3 i (omega (arith, x)) less)
          (cases_eq a i),
    ))
    (cases_Bool (t a))

first-from : (t : ℕ → Bool) (a n k : ℕ) → a ≤ k → k < a + n → t k ≡ true → ((i : ℕ) → a ≤ i → i < k → t i ≡ false) → find t (range_with_len a n) ≡ Some k
first-from t a zero k low high here before = absurd (omega arith)
first-from t a (suc n) k low high here before =
    ⊎_elim
    (λ (x : a ≡ k). let now : t a ≡ true = rw x here in rw now (ap (λ (y : ℕ). Some y) x))
    (λ (x : a ≡ k → ⊥). rw (before a (omega arith) (omega (arith, x))) (first-from t (a + 1) n k (omega (arith, x)) (omega arith) here (λ i low' less. before i (omega arith) less)))
    (cases_eq a k)

pub least-unused : LeastIsUnused
unfolding least_id
least-unused files =
    let test : ℕ → Bool = λ id. not (has_id id files) in
    let P : Option ℕ → Type 0 = λ o. find test (range_with_len 1 (length files + 1)) ≡ o → IsLeast files (unwrap_or o 0) in
    let go : (o : Option ℕ) → P o = λ o. elim o as P [
      | None ↦ λ e. let all = all-pass (λ (id : ℕ). has_id id files) 1 (length files + 1) e in absurd (omega (arith, all, used-count files 1 (length files + 1)))
      | Some k ↦ λ e.
          let w = first-parts test 1 (length files + 1) k e in
          record { low = w.1; high = omega (arith, w.2); unused = not-true (has_id k files) w.0; least = λ other low less. not-false (has_id other files) (w.3 other low less) }
    ] in go (find test (range_with_len 1 (length files + 1))) refl

-- ---- the room of a create

pub create-room : (g : Geometry) → CreateRoom g
unfolding has_room
create-room g name files =
    let w = new-adds g (least_id files) name files (least-unused files).unused in
    let index : index_count g (created g name files) + 1 ≡ index_count g files + 2 = omega (arith, w.index_are) in
    let pages : data_count g (created g name files) + 1 ≡ data_count g files + 1 = omega (arith, w.data_are) in
    rw (index, pages) refl

-- each file has an index page
few_files : (g : Geometry) (files : List File) → length files ≤ index_count g files
unfolding index_count
few_files g [] = omega arith
few_files g (f ∷ files) =
    let a = sum_by-cons (λ (x : File). index_pages g (length x.bytes)) f files in
    let some = header-below g (length f.bytes) in
    let rest = few_files g files in
    omega (arith, a, some, rest)

-- so many pages in blocks, and two blocks more
room-bound : (i d e blocks : ℕ) → 0 < e → ceil (i + 2) e + d + 2 ≤ blocks → i + 2 ≤ blocks * e
room-bound i d e blocks pos h =
    let enough : i + 2 ≤ ceil (i + 2) e * e = ceil-enough (i + 2) e pos in
    let step : ceil (i + 2) e * e ≤ blocks * e = mul-le-mul_right e (omega arith) in
    omega arith

pub least-first : (g : Geometry) → LeastIsFirst g
least-first g a name undamaged room =
    let files = table_of g a in
    let least = least-unused (table_of g a) in
    let fits : nat_le (ceil (index_count g (table_of g a) + 2) (entries g) + ceil (data_count g (table_of g a) + 1) (entries g) + 2) g.blocks ≡ true = sym (create-room g name (table_of g a)) ∙ room in
    let bound = room-bound (index_count g (table_of g a)) (ceil (data_count g (table_of g a) + 1) (entries g)) (entries g) g.blocks (omega (arith, entry_left g)) (leb-true _ g.blocks fits) in
    let few = few_files g (table_of g a) in
    let high : least_id (table_of g a) ≤ usable g = omega (arith, least.high, few, bound) in (
      ap (λ (t : ℕ → Bool). find t (range_with_len 1 (usable g))) (fun_ext (λ (id : ℕ). ap not (has-ids g a undamaged id)))
          ∙ first-from (λ (id : ℕ). not (has_id id (table_of g a))) 1 (usable g) (least_id (table_of g a)) least.low (omega (arith, high))
          (ap not least.unused) (λ i low less. ap not (least.least i low less)),
      high,
    )
