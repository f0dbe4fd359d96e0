-- A free page stays free where programs change another page and its entry.
use Rattle.std.proofs.Common.{◌≡◌, ◌≢◌, ℕ, ◌+◌, ◌-◌, ◌*◌, ◌/◌, ◌<◌, ◌≤◌, ◌⊎◌, List, length, take, drop, slice_index, true, false, ◌==◌, Some, ap, refl, sym, ◌∙◌, arith, ⊎_elim, inl, inr, subst, length-drop, length-take}
use Rattle.std.proofs.Math.Nat.{mul-le-mul_right}
use Rattle.std.specs.Int.{bit_at}
use Rattle.std.proofs.lemmas.Bool.{cases_lt, cases_eq, and_parts, ne_eqb, false≢true, false_from_ne_true}
use Rattle.std.proofs.lemmas.List.Folds.{list_all_at}
use Rattle.geometry.specs.declared.geometry.Geometry.{Geometry}
use Rattle.nor_core.specs.Flash.{SameOutside}
use Rattle.image_model.specs.Within.{Sizes, sizes, behind, entry_slot, page_length}
use Rattle.geometry.specs.Numbers.{per_block, lookups}
use Rattle.image_model.specs.Headers.{is_finished}
use Rattle.image_model.specs.Live.{live_at}
use Rattle.image_model.specs.Places.{block_of, place_of, is_entry_page, entry_at, entry_of, page_of, IsImage}
use Rattle.image_model.specs.Tidy.{is_erased, is_free_entry}
use Rattle.image_laws.specs.NewFile.{IsFreePage}
use Rattle.image_laws.specs.TidySteps.{Agree}
use Rattle.image_laws.specs.LiveSteps.{Finished, Kills}
use Rattle.image_laws.proofs.Places.{lookups_apart, blocks_disjoint, same_page}
use Rattle.image_laws.proofs.Placing.{page_byte}
use Rattle.image_laws.proofs.Frames.{live_parts}
use Rattle.image_laws.proofs.Tally.{is_finished-ones}

-- a live page is not free
pub live-used : (g : Geometry) (a : List ℕ) (o : ℕ) (x : List ℕ) → live_at g a o ≡ Some x → is_free_entry g a o ≡ false
live-used g a o x live =
    let w = live_parts g a o x live in
    let other : entry_of g a o ≢ 0xFFFF = λ e. let no : is_finished x ≡ false = is_finished-ones x (sym w.entry ∙ e) in let yes = w.finished in absurd (cc) in
    rw (ne_eqb (entry_of g a o) 0xFFFF other) refl

-- nor is one with a byte that isn't 0xFF
pub not_free : (g : Geometry) (a : List ℕ) (o i : ℕ) → IsImage g a → is_entry_page g o ≡ true → i < g.page → slice_index (page_of g a o) i ≢ 255 → is_free_entry g a o ≡ false
not_free g a o i is inside small differ =
    let size = page_length g a o is inside in
    let len : i < length (page_of g a o) = omega (arith, size, small) in
    false_from_ne_true _ (λ free. absurd (false≢true (sym (list_all_at (λ b. b == 0xFF) (page_of g a o) i 0 len (ne_eqb _ 0xFF differ)) ∙ (and_parts (entry_of g a o == 0xFFFF) (is_erased (page_of g a o)) free).1)))

-- a byte with a cleared bit isn't 0xFF
pub deleted_no_ones : (byte : ℕ) → bit_at byte 7 ≡ 0 → byte ≢ 255
deleted_no_ones byte clear ones = let one : bit_at 255 7 ≡ 1 = refl in let zero : bit_at 255 7 ≡ 0 = subst (λ (x : ℕ). bit_at x 7 ≡ 0) ones clear in absurd (omega (arith, one, zero))

outside_byte : (at n k : ℕ) (a b : List ℕ) → SameOutside at n a b → (k < at) ⊎ (at + n ≤ k) → slice_index b k ≡ slice_index a k
outside_byte at n k a b same place = ⊎_elim (λ (low : k < at). same.before k low) (λ (high : at + n ≤ k). same.after k high) place

-- an entry lies in no entry page
entry_apart : (g : Geometry) (q p i : ℕ) → is_entry_page g p ≡ true → i < 2 → (entry_at g q + i < p * g.page) ⊎ (p * g.page + g.page ≤ entry_at g q + i)
entry_apart g q p i page small =
    let geo : Sizes g = sizes g in
    let slot : place_of g q - lookups g < lookups g * g.page / 2 = entry_slot g q in
    let fits : lookups g < per_block g = geo.lookups_fit in
    let from : lookups g ≤ place_of g p = behind g p page in
    let same : block_of g q * g.block ≡ block_of g q * (per_block g * g.page) = ap (λ (x : ℕ). block_of g q * x) geo.block in
    ⊎_elim
    (λ (h : block_of g q * (per_block g * g.page) + (2 * (place_of g q - lookups g) + i) < p * g.page). inl (omega (arith, h, same)))
    (λ (h : p * g.page + g.page ≤ block_of g q * (per_block g * g.page) + (2 * (place_of g q - lookups g) + i)). inr (omega (arith, h, same)))
    (lookups_apart (per_block g) (lookups g) g.page (block_of g q) p (2 * (place_of g q - lookups g) + i) (omega (arith, fits)) (omega (arith, fits)) from (omega (arith, slot, small)))

-- an entry begins in the block of its page
entry_low : (g : Geometry) (r k : ℕ) → k < 2 → 2 * (place_of g r - lookups g) + k < g.block
entry_low g r k few =
    let geo : Sizes g = sizes g in
    let slot : place_of g r - lookups g < lookups g * g.page / 2 = entry_slot g r in
    let fits : lookups g < per_block g = geo.lookups_fit in
    let rows : lookups g * g.page ≤ per_block g * g.page = mul-le-mul_right g.page (omega (arith, fits)) in
    let whole : g.block ≡ per_block g * g.page = geo.block in
    omega (arith, slot, rows, whole, few)

-- the entries of two pages have no byte in common
entries_apart : (g : Geometry) (q p i : ℕ) → is_entry_page g q ≡ true → is_entry_page g p ≡ true → q ≢ p → i < 2 → (entry_at g q + i < entry_at g p) ⊎ (entry_at g p + 2 ≤ entry_at g q + i)
entries_apart g q p i one other differ small =
    let first : lookups g ≤ place_of g q = behind g q one in
    let next : lookups g ≤ place_of g p = behind g p other in
    ⊎_elim
    (λ (same : block_of g q ≡ block_of g p).
    let start : block_of g q * g.block ≡ block_of g p * g.block = ap (λ (x : ℕ). x * g.block) same in
    ⊎_elim
    (λ (less : place_of g q < place_of g p). inl (omega (arith, start, first, next, less, small)))
    (λ (more : place_of g p ≤ place_of g q). ⊎_elim
    (λ (equal : place_of g q ≡ place_of g p). absurd (differ (same_page (per_block g) q p same equal)))
    (λ (apart : place_of g q ≡ place_of g p → ⊥). let high : place_of g p < place_of g q = omega (arith, more, apart) in inr (omega (arith, start, first, next, high)))
    (cases_eq (place_of g q) (place_of g p)))
    (cases_lt (place_of g q) (place_of g p)))
    (λ (there : block_of g q ≡ block_of g p → ⊥). ⊎_elim
    (λ (less : block_of g q < block_of g p). inl (let low = blocks_disjoint g.block (block_of g q) (block_of g p) (2 * (place_of g q - lookups g) + i) (2 * (place_of g p - lookups g)) less (entry_low g q i small) in omega (arith, low)))
    (λ (more : block_of g p ≤ block_of g q). inr (let low = blocks_disjoint g.block (block_of g p) (block_of g q) (2 * (place_of g p - lookups g) + 1) (2 * (place_of g q - lookups g) + i) (omega (arith, more, there)) (entry_low g p 1 (omega arith)) in omega (arith, low)))
    (cases_lt (block_of g q) (block_of g p)))
    (cases_eq (block_of g q) (block_of g p))

-- the bytes outside a page and its entry stay
abbrev OthersStay : Geometry → ℕ → List ℕ → List ℕ → Type 0
OthersStay g p a b = (k : ℕ) → (k < entry_at g p) ⊎ (entry_at g p + 2 ≤ k) → (k < p * g.page) ⊎ (p * g.page + g.page ≤ k) → slice_index b k ≡ slice_index a k

still_free : (g : Geometry) (a b : List ℕ) (p : ℕ) → is_entry_page g p ≡ true → Agree g a b p → OthersStay g p a b → (q : ℕ) → q ≢ p → IsFreePage g a q → IsFreePage g b q
still_free g a b p inside agree stay q other free = record {
  entry_page = free.entry_page;
  magic = agree.magic (block_of g q) ∙ free.magic;
  entry = λ i small. stay (entry_at g q + i) (entries_apart g q p i free.entry_page inside other small) (entry_apart g q p i inside small) ∙ free.entry i small;
  erased = λ i small. sym (page_byte g b q i small) ∙ ap (λ (l : List ℕ). slice_index l i) (agree.page q free.entry_page other) ∙ page_byte g a q i small ∙ free.erased i small;
}

-- the four programs of a put
pub put_free : (g : Geometry) (a0 a1 a2 a3 a4 : List ℕ) (p : ℕ) (page : List ℕ) (fin : ℕ) → is_entry_page g p ≡ true → length page ≡ g.page → Finished g p page fin a0 a1 a2 a3 a4 → Agree g a0 a4 p →
    (q : ℕ) → q ≢ p → IsFreePage g a0 q → IsFreePage g a4 q
put_free g a0 a1 a2 a3 a4 p page fin inside len all agree = still_free g a0 a4 p inside agree kept_byte
  where
    kept_byte : OthersStay g p a0 a4
    kept_byte k entry there =
        let big : 128 ≤ g.page = (sizes g).page in
        let two : length (take 2 page) ≡ 2 = omega (arith, big, length-take 2 page, len) in
        let five : length (take 5 page) ≡ 5 = omega (arith, big, length-take 5 page, len) in
        let rest : length (drop 5 page) ≡ g.page - 5 = omega (arith, big, length-drop 5 page, len) in
        let one = all.placed.one.outside in
        let next = all.placed.two.outside in
        let third = all.placed.three.outside in
        let last = all.finish.outside in
        let e1 : slice_index a1 k ≡ slice_index a0 k = outside_byte (entry_at g p) (length (take 2 page)) k a0 a1 one (⊎_elim (λ (x : k < entry_at g p). inl x) (λ (x : entry_at g p + 2 ≤ k). inr (omega (arith, x, two))) entry) in
        let e2 : slice_index a2 k ≡ slice_index a1 k = outside_byte (p * g.page) (length (take 5 page)) k a1 a2 next (⊎_elim (λ (x : k < p * g.page). inl x) (λ (x : p * g.page + g.page ≤ k). inr (omega (arith, x, five, big))) there) in
        let e3 : slice_index a3 k ≡ slice_index a2 k = outside_byte (p * g.page + 5) (length (drop 5 page)) k a2 a3 third (⊎_elim (λ (x : k < p * g.page). inl (omega (arith, x))) (λ (x : p * g.page + g.page ≤ k). inr (omega (arith, x, rest, big))) there) in
        let e4 : slice_index a4 k ≡ slice_index a3 k = outside_byte (p * g.page + 4) 1 k a3 a4 last (⊎_elim (λ (x : k < p * g.page). inl (omega (arith, x))) (λ (x : p * g.page + g.page ≤ k). inr (omega (arith, x, big))) there) in
        e4 ∙ e3 ∙ e2 ∙ e1

-- the two of a kill
pub kill_free : (g : Geometry) (a b d : List ℕ) (o kill : ℕ) → is_entry_page g o ≡ true → Kills g o kill a b d → Agree g a d o → (q : ℕ) → q ≢ o → IsFreePage g a q → IsFreePage g d q
kill_free g a b d o kill inside all agree = still_free g a d o inside agree kept_byte
  where
    kept_byte : OthersStay g o a d
    kept_byte k entry there =
        let big : 128 ≤ g.page = (sizes g).page in
        let e1 : slice_index b k ≡ slice_index a k = outside_byte (o * g.page + 4) 1 k a b all.delete.outside (⊎_elim (λ (x : k < o * g.page). inl (omega (arith, x))) (λ (x : o * g.page + g.page ≤ k). inr (omega (arith, x, big))) there) in
        let e2 : slice_index d k ≡ slice_index b k = outside_byte (entry_at g o) 2 k b d all.clear.outside entry in
        e2 ∙ e1
