-- A page of a kind is had exactly where one is found that leaves two blocks free.
use Rattle.std.proofs.Common.{◌≡◌, ◌≢◌, ℕ, zero, suc, ◌+◌, ◌-◌, ◌*◌, ◌<◌, ◌≤◌, ⊎_elim, List, [], ◌∷◌, Bool, true, false, length, refl, sym, ◌∙◌, ap, arith, if◌then◌else◌, nat_le}
use Rattle.std.specs.Prelude.{filter, Option, Some, None, is_some, sum_by}
use Rattle.std.specs.List.{range_with_len}
use Rattle.std.proofs.Math.Nat.{div-eq_of_lt, div_self}
use Rattle.std.proofs.lemmas.List.Sums.{sum_by-cons}
use Rattle.std.proofs.lemmas.Bool.{le-leb, cases_eq}
use Rattle.geometry.specs.declared.geometry.Geometry.{Geometry}
use Rattle.geometry.specs.Numbers.{ceil, per_block, lookups, entries}
use Rattle.image_model.specs.Places.{has_magic, block_of, is_entry_page}
use Rattle.image_model.specs.Tidy.{is_free_entry, is_free_block, free_blocks}
use Rattle.image_model.specs.Kinds.{is_data_block}
use Rattle.image_model.specs.Collect.{free_in, takes_index, takes_data, free_where, are_had}
use Rattle.image_model.specs.Within.{page_number, block_number, entry_of_block}
use Rattle.image_laws.proofs.FreeBlocks.{filter-same}
use Rattle.flash_view.specs.declared.kinds.Kind.{Kind}
use Rattle.flash_view.specs.declared.kinds.Kind.TheVariants.{Index, Data}
use Rattle.free_search.specs.Free.{IsFreeFor, FreePage, takes_kind}
use Rattle.free_search.proofs.FreePages.{some_entries}

-- ---- sums over the blocks

pub sum_none : (f : ℕ → ℕ) (a n : ℕ) → ((q : ℕ) → a ≤ q → q < a + n → f q ≡ 0) → sum_by f (range_with_len a n) ≡ 0
sum_none f a zero none = refl
sum_none f a (suc n) none =
    let first = none a (omega arith) (omega arith) in
    let rest = sum_none f (a + 1) n (λ q low high. none q (omega arith) (omega arith)) in
    let whole = sum_by-cons f a (range_with_len (a + 1) n) in
    omega (arith, first, rest, whole)

sum_some : (f : ℕ → ℕ) (a n q : ℕ) → a ≤ q → q < a + n → f q ≤ sum_by f (range_with_len a n)
sum_some f a zero q low high = absurd (omega arith)
sum_some f a (suc n) q low high =
    let whole = sum_by-cons f a (range_with_len (a + 1) n) in
    ⊎_elim
    (λ (here : a ≡ q). let same : f a ≡ f q = ap f here in omega (arith, whole, same))
    (λ (there : a ≡ q → ⊥). let rest = sum_some f (a + 1) n q (omega (arith, there)) (omega arith) in omega (arith, whole, rest))
    (cases_eq a q)

pub filter_some : (t : ℕ → Bool) (a n q : ℕ) → a ≤ q → q < a + n → t q ≡ true → 0 < length (filter t (range_with_len a n))
filter_some t a zero q low high passes = absurd (omega arith)
filter_some t a (suc n) q low high passes =
    ⊎_elim
    (λ (here : a ≡ q). rw (here, passes) (omega arith))
    (λ (there : a ≡ q → ⊥). let rest = filter_some t (a + 1) n q (omega (arith, there)) (omega arith) passes in either (t a) refl rest)
    (cases_eq a q)
  where
    either : (b : Bool) → t a ≡ b → 0 < length (filter t (range_with_len (a + 1) n)) → 0 < length (filter t (range_with_len a (suc n)))
    either true e rest = rw e (omega arith)
    either false e rest = rw e rest

none_in : (xs : List ℕ) → length (filter (λ (p : ℕ). false) xs) ≡ 0
none_in [] = refl
none_in (x ∷ xs) = none_in xs

-- ---- rounding up

ceil_none : (e : ℕ) → 0 < e → ceil 0 e ≡ 0
ceil_none e some = div-eq_of_lt (omega arith)

ceil_one : (e : ℕ) → 0 < e → ceil 1 e ≡ 1
ceil_one e some = let whole : 1 + e - 1 ≡ e = omega arith in rw whole (div_self some)

-- ---- the rule

-- the blocks that one page more needs, by the free entries for its kind
needed : (free e : ℕ) → 0 < e → (free ≡ 0 → ceil (1 - free) e ≡ 1) × (0 < free → ceil (1 - free) e ≡ 0)
needed free e some = (
  (λ none. rw none (ceil_one e some)),
  (λ more. let zero_left : 1 - free ≡ 0 = omega arith in rw zero_left (ceil_none e some)),
)

none_left : (pages e : ℕ) → 0 < e → ceil (0 - pages) e ≡ 0
none_left pages e some = let zero_left : 0 - pages ≡ 0 = omega arith in rw zero_left (ceil_none e some)

no_entries : (g : Geometry) (image : List ℕ) (kind : Kind) → ((block : ℕ) → block < g.blocks → takes_kind g image kind block ≡ true → free_in g image block ≡ 0) → free_where g image (takes_kind g image kind) ≡ 0
unfolding free_where
no_entries g image kind none = sum_none (λ block. if takes_kind g image kind block then free_in g image block else 0) 0 g.blocks (λ q low high. either q (omega arith) (takes_kind g image kind q) refl)
  where
    either : (q : ℕ) → q < g.blocks → (b : Bool) → takes_kind g image kind q ≡ b → (if b then free_in g image q else 0) ≡ 0
    either q high true e = none q high e
    either q high false e = refl

pub no_blocks : (g : Geometry) (image : List ℕ) → ((block : ℕ) → block < g.blocks → is_free_block g image block ≡ false) → free_blocks g image ≡ 0
unfolding free_blocks
no_blocks g image none = filter-same (λ b. false) (λ b. is_free_block g image b) 0 g.blocks (λ q low high. none q (omega arith)) ∙ none_in (range_with_len 0 g.blocks)

some_entry : (g : Geometry) (image : List ℕ) (p : ℕ) → is_entry_page g p ≡ true → is_free_entry g image p ≡ true → 0 < free_in g image (block_of g p)
unfolding free_in
some_entry g image p page free =
    let at = entry_of_block g p page in
    filter_some (λ q. is_free_entry g image q) (block_of g p * per_block g + lookups g) (entries g) p at.0 at.1 free

pub takes : (g : Geometry) (image : List ℕ) (block : ℕ) → has_magic g image block ≡ true → is_free_block g image block ≡ false → is_data_block g image block ≡ false → takes_index g image block ≡ true
unfolding takes_index
takes g image block magic used index = rw (magic, used, index) refl

-- of a block in use
entries_had : (g : Geometry) (image : List ℕ) (kind : Kind) (p : ℕ) → IsFreeFor g image kind 2 None p → is_free_block g image (block_of g p) ≡ false → 0 < free_where g image (takes_kind g image kind)
unfolding free_where
entries_had g image kind p is used =
    let some = some_entry g image p is.page is.free in
    let below = block_number g p (page_number g p is.page) in
    let most = sum_some (λ block. if takes_kind g image kind block then free_in g image block else 0) 0 g.blocks (block_of g p) (omega arith) (omega (arith, below)) in
    let here : (if takes_kind g image kind (block_of g p) then free_in g image (block_of g p) else 0) ≡ free_in g image (block_of g p) = rw (is.opened used) refl in
    omega (arith, some, most, here)

-- a page is found exactly where the free blocks above two hold one page of the kind
kind_had : (g : Geometry) (image : List ℕ) (kind : Kind) (found : Option ℕ) → FreePage g image kind 2 None found → is_some found ≡ nat_le (ceil (1 - free_where g image (takes_kind g image kind)) (entries g)) (free_blocks g image - 2)
kind_had g image kind None none =
    let one = (needed (free_where g image (takes_kind g image kind)) (entries g) (some_entries g)).0 (no_entries g image kind (λ block below takes. none.full block below (λ is. absurd (cc)) takes)) in
    let few : free_blocks g image ≤ 2 = ⊎_elim (λ (kept : free_blocks g image ≤ 2). kept)
    (λ (never : (block : ℕ) → block < g.blocks → Some block ≢ None → is_free_block g image block ≡ false). let zero_blocks = no_blocks g image (λ block below. never block below (λ is. absurd (cc))) in omega (arith, zero_blocks)) none.kept in
    let left : free_blocks g image - 2 ≡ 0 = omega (arith, few) in
    rw (one, left) refl
kind_had g image kind (Some p) is =
    ⊎_elim
    (λ (used : is_free_block g image (block_of g p) ≡ false). let none = (needed (free_where g image (takes_kind g image kind)) (entries g) (some_entries g)).1 (entries_had g image kind p is used) in rw none (sym (le-leb 0 (free_blocks g image - 2) (omega arith))))
    (λ (more : 2 < free_blocks g image). either more (free_where g image (takes_kind g image kind)))
    is.keeps
  where
    either : 2 < free_blocks g image → (free : ℕ) → true ≡ nat_le (ceil (1 - free) (entries g)) (free_blocks g image - 2)
    either more zero = let one = (needed 0 (entries g) (some_entries g)).0 refl in rw one (sym (le-leb 1 (free_blocks g image - 2) (omega (arith, more))))
    either more (suc n) = let none = (needed (suc n) (entries g) (some_entries g)).1 (omega arith) in rw none (sym (le-leb 0 (free_blocks g image - 2) (omega arith)))

-- so it is for each kind
pub page_had : (g : Geometry) (image : List ℕ) (found : Option ℕ) → FreePage g image Index 2 None found → is_some found ≡ are_had g image 1 0
unfolding are_had
page_had g image found is =
    let pages = none_left (free_where g image (takes_data g image)) (entries g) (some_entries g) in
    let same : ceil (1 - free_where g image (takes_index g image)) (entries g) + 0 ≡ ceil (1 - free_where g image (takes_index g image)) (entries g) = omega arith in
    rw (pages, same) (kind_had g image Index found is)

pub data_page_had : (g : Geometry) (image : List ℕ) (found : Option ℕ) → FreePage g image Data 2 None found → is_some found ≡ are_had g image 0 1
unfolding are_had
data_page_had g image found is =
    let index = none_left (free_where g image (takes_index g image)) (entries g) (some_entries g) in
    let same : 0 + ceil (1 - free_where g image (takes_data g image)) (entries g) ≡ ceil (1 - free_where g image (takes_data g image)) (entries g) = omega arith in
    rw (index, same) (kind_had g image Data found is)
