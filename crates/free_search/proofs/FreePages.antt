-- Free pages of an image whose lookup pages tell them, by the counts of blocks.
use Rattle.std.proofs.Common.{◌≡◌, ℕ, ◌+◌, ◌*◌, ◌<◌, ◌≤◌, ⊎_elim, List, [], ◌∷◌, Bool, true, false, not, ◌==◌, ◌&&◌, length, refl, sym, ◌∙◌, arith, nat_lt}
use Rattle.std.specs.Prelude.{filter, Option, Some, None, is_some}
use Rattle.std.specs.List.{range_with_len, list_any, list_all}
use Rattle.std.proofs.lemmas.Bool.{eqb-true, ne_eqb, lt-ltb, ltb-true, ltb-false, and_parts, cases_Bool, cases_eq, false_from_ne_true}
use Rattle.std.proofs.lemmas.List.FromFn.{length-range_with_len}
use Rattle.geometry.specs.declared.geometry.Geometry.{Geometry}
use Rattle.geometry.specs.Numbers.{per_block, lookups, entries}
use Rattle.image_model.specs.Places.{entry_of, has_magic, is_entry_page}
use Rattle.image_model.specs.Live.{live_at}
use Rattle.image_model.specs.Tidy.{is_free_entry, is_free_block, TellsFree}
use Rattle.image_model.specs.Kinds.{is_index_page, is_data_page, is_index_block, is_data_block}
use Rattle.image_model.specs.Collect.{count_in, index_in, data_in, free_in, takes_index, takes_data}
use Rattle.image_model.specs.Within.{entry_in, sizes}
use Rattle.image_laws.proofs.FreeBlocks.{all-at, filter-same}
use Rattle.image_laws.proofs.Matching.{filter-none_in}
use Rattle.flash_view.specs.declared.kinds.Kind.{Kind}
use Rattle.flash_view.specs.declared.kinds.Kind.TheVariants.{Index, Data}
use Rattle.flash_view.specs.declared.counts.BlockCounts.{BlockCounts}
use Rattle.free_search.specs.Counts.{the_takes}
use Rattle.flash_view.specs.Counts.{AreCounts}
use Rattle.free_search.specs.Free.{is_open_for, takes_kind, holds_other}
use Rattle.flash_view.specs.Walk.{NextSlot}
use Rattle.flash_view.proofs.Heads.{and_false}
use Rattle.flash_view.proofs.Sorts.{free_is_dead}
use Rattle.free_search.proofs.Slots.{none_unused}

-- ---- tests over lists, and how many pass them

module _ (t : ℕ → Bool) where
  pub some_tells : (xs : List ℕ) → nat_lt 0 (length (filter t xs)) ≡ list_any t xs
  some_tells [] = refl
  some_tells (x ∷ xs) = ⊎_elim (λ (yes : t x ≡ true). rw yes (lt-ltb 0 _ (omega arith))) (λ (no : t x ≡ false). rw no (some_tells xs)) (cases_Bool (t x))

  pub none_passes : (xs : List ℕ) → length (filter t xs) ≡ 0 → list_any t xs ≡ false
  none_passes xs none = sym (some_tells xs) ∙ rw none refl

  pub not_any : (xs : List ℕ) → list_any t xs ≡ false → length (filter t xs) ≡ 0
  not_any xs none = let few = ltb-false 0 _ (some_tells xs ∙ none) in omega (arith, few)

  pub some_pass : (xs : List ℕ) → list_any t xs ≡ true → 0 < length (filter t xs)
  some_pass xs some = ltb-true 0 _ (some_tells xs ∙ some)

  all_step : (x : ℕ) (xs : List ℕ) (b : Bool) → t x ≡ b → (list_all t xs ≡ true → length (filter t xs) ≡ length xs) → list_all t (x ∷ xs) ≡ true → length (filter t (x ∷ xs)) ≡ length xs + 1
  all_step x xs true e rest h = let more = rest (rw e at h) in rw e (omega (arith, more))
  all_step x xs false e rest h = absurd (let no : false ≡ true = rw e at h in cc)

  pub all_pass : (xs : List ℕ) → list_all t xs ≡ true → length (filter t xs) ≡ length xs
  all_pass [] h = refl
  all_pass (x ∷ xs) h = all_step x xs (t x) refl (all_pass xs) h ∙ omega arith

  few_step : (x : ℕ) (xs : List ℕ) (b : Bool) → t x ≡ b → length (filter t xs) ≤ length xs → length (filter t (x ∷ xs)) ≤ length xs + 1
  few_step x xs true e rest = rw e (omega (arith, rest))
  few_step x xs false e rest = rw e (omega (arith, rest))

  pub few_pass : (xs : List ℕ) → length (filter t xs) ≤ length xs
  few_pass [] = omega arith
  few_pass (x ∷ xs) = let step = few_step x xs (t x) refl (few_pass xs) in omega (arith, step)

  fails_step : (x : ℕ) (xs : List ℕ) (b : Bool) → t x ≡ b → (list_all t xs ≡ false → length (filter t xs) < length xs) → list_all t (x ∷ xs) ≡ false → length (filter t (x ∷ xs)) < length xs + 1
  fails_step x xs true e rest h = let more = rest (rw e at h) in rw e (omega (arith, more))
  fails_step x xs false e rest h = let few = few_pass xs in rw e (omega (arith, few))

  pub one_fails : (xs : List ℕ) → list_all t xs ≡ false → length (filter t xs) < length xs
  one_fails [] h = absurd (cc)
  one_fails (x ∷ xs) h = let step = fails_step x xs (t x) refl (one_fails xs) h in omega (arith, step)

-- ---- entries of such an image

free_or : (g : Geometry) (image : List ℕ) (p : ℕ) → TellsFree g image → is_entry_page g p ≡ true → (ones : Bool) → (entry_of g image p == 0xFFFF) ≡ ones → ones ≡ is_free_entry g image p
free_or g image p tells page true e = sym (tells.free p page (eqb-true _ 0xFFFF e))
free_or g image p tells page false e = rw e refl

-- so these are counted alike
pub free_counted : (g : Geometry) (image : List ℕ) (block : ℕ) → TellsFree g image → block < g.blocks → count_in g block (λ p. entry_of g image p == 0xFFFF) ≡ free_in g image block
unfolding free_in
free_counted g image block tells below =
    filter-same (λ p. is_free_entry g image p) (λ p. entry_of g image p == 0xFFFF) (block * per_block g + lookups g) (entries g)
    (λ q low high. free_or g image q tells (entry_in g block q below low high).1 (entry_of g image q == 0xFFFF) refl)

-- ---- blocks by their counts

pub no_data : (g : Geometry) (image : List ℕ) (block : ℕ) → data_in g image block ≡ 0 → is_data_block g image block ≡ false
unfolding data_in is_data_block
no_data g image block none = none_passes (λ p. is_data_page (live_at g image p)) _ none

pub no_index : (g : Geometry) (image : List ℕ) (block : ℕ) → index_in g image block ≡ 0 → is_index_block g image block ≡ false
unfolding index_in is_index_block
no_index g image block none = none_passes (λ p. is_index_page (live_at g image p)) _ none

pub data_none : (g : Geometry) (image : List ℕ) (block : ℕ) → is_data_block g image block ≡ false → data_in g image block ≡ 0
unfolding data_in is_data_block
data_none g image block none = not_any (λ p. is_data_page (live_at g image p)) _ none

pub index_none : (g : Geometry) (image : List ℕ) (block : ℕ) → is_index_block g image block ≡ false → index_in g image block ≡ 0
unfolding index_in is_index_block
index_none g image block none = not_any (λ p. is_index_page (live_at g image p)) _ none

pub data_some : (g : Geometry) (image : List ℕ) (block : ℕ) → is_data_block g image block ≡ true → 0 < data_in g image block
unfolding data_in is_data_block
data_some g image block some = some_pass (λ p. is_data_page (live_at g image p)) _ some

-- a free block has as many free entries as it has entries, and any other with its magic has fewer
free_all : (g : Geometry) (image : List ℕ) (block : ℕ) (magic all : Bool) → has_magic g image block ≡ magic → list_all (λ p. is_free_entry g image p) (range_with_len (block * per_block g + lookups g) (entries g)) ≡ all →
    (magic && all) ≡ true → free_in g image block ≡ entries g
unfolding free_in
free_all g image block true true m a h = all_pass (λ p. is_free_entry g image p) (range_with_len (block * per_block g + lookups g) (entries g)) a ∙ length-range_with_len (block * per_block g + lookups g) (entries g)
free_all g image block true false m a h = absurd (cc)
free_all g image block false all m a h = absurd (cc)

pub free_whole : (g : Geometry) (image : List ℕ) (block : ℕ) → is_free_block g image block ≡ true → free_in g image block ≡ entries g
unfolding is_free_block
free_whole g image block h = free_all g image block (has_magic g image block) (list_all (λ p. is_free_entry g image p) (range_with_len (block * per_block g + lookups g) (entries g))) refl refl h

pub used_less : (g : Geometry) (image : List ℕ) (block : ℕ) → has_magic g image block ≡ true → is_free_block g image block ≡ false → free_in g image block < entries g
unfolding is_free_block free_in
used_less g image block magic used =
    let fails : list_all (λ p. is_free_entry g image p) (range_with_len (block * per_block g + lookups g) (entries g)) ≡ false = rw magic at used in
    let less = one_fails (λ p. is_free_entry g image p) (range_with_len (block * per_block g + lookups g) (entries g)) fails in
    let all = length-range_with_len (block * per_block g + lookups g) (entries g) in
    omega (arith, less, all)

pub not_free : (g : Geometry) (image : List ℕ) (block : ℕ) → free_in g image block < entries g → is_free_block g image block ≡ false
not_free g image block less = false_from_ne_true (is_free_block g image block) (λ free. let whole = free_whole g image block free in absurd (omega (arith, whole, less)))

-- a free block has no live page
dead_in : (t : Option (List ℕ) → Bool) → t None ≡ false → (g : Geometry) (image : List ℕ) (block : ℕ) → is_free_block g image block ≡ true → length (filter (λ p. t (live_at g image p)) (range_with_len (block * per_block g + lookups g) (entries g))) ≡ 0
unfolding is_free_block
dead_in t fails g image block free =
    filter-same (λ p. false) (λ p. t (live_at g image p)) (block * per_block g + lookups g) (entries g)
    (λ q low high. let w = and_parts (entry_of g image q == 0xFFFF) _ (all-at (λ p. is_free_entry g image p) (block * per_block g + lookups g) (entries g) (and_parts (has_magic g image block) _ free).1 q low high) in
    rw (free_is_dead g image q (eqb-true _ 0xFFFF w.0)) fails)
    ∙ none_in (range_with_len (block * per_block g + lookups g) (entries g))
  where
    none_in : (xs : List ℕ) → length (filter (λ (p : ℕ). false) xs) ≡ 0
    none_in [] = refl
    none_in (x ∷ xs) = none_in xs

pub dead_data : (g : Geometry) (image : List ℕ) (block : ℕ) → is_free_block g image block ≡ true → data_in g image block ≡ 0
unfolding data_in
dead_data g image block free = dead_in is_data_page refl g image block free

dead_index : (g : Geometry) (image : List ℕ) (block : ℕ) → is_free_block g image block ≡ true → index_in g image block ≡ 0
unfolding index_in
dead_index g image block free = dead_in is_index_page refl g image block free

not_of : (b : Bool) → not b ≡ true → b ≡ false
not_of true h = absurd (cc)
not_of false h = refl

pub index_parts : (g : Geometry) (image : List ℕ) (block : ℕ) → takes_index g image block ≡ true → (is_free_block g image block ≡ false) × (is_data_block g image block ≡ false)
unfolding takes_index
index_parts g image block h =
    let w = and_parts (has_magic g image block && not (is_free_block g image block)) _ h in
    (not_of _ (and_parts (has_magic g image block) _ w.0).1, not_of _ w.1)

pub data_parts : (g : Geometry) (image : List ℕ) (block : ℕ) → takes_data g image block ≡ true → (is_data_block g image block ≡ true) × (is_index_block g image block ≡ false)
unfolding takes_data
data_parts g image block h = let w = and_parts (is_data_block g image block) _ h in (w.0, not_of _ w.1)

-- ---- whether a block is open for a kind, by its counts

pub zero_tells : (n : ℕ) → (n == 0) ≡ not (nat_lt 0 n)
zero_tells n = ⊎_elim (λ (none : n ≡ 0). rw none refl) (λ (some : n ≡ 0 → ⊥). rw (ne_eqb n 0 some, lt-ltb 0 n (omega (arith, some))) refl) (cases_eq n 0)

pub data_tells : (g : Geometry) (image : List ℕ) (block : ℕ) → nat_lt 0 (data_in g image block) ≡ is_data_block g image block
unfolding data_in is_data_block
data_tells g image block = some_tells (λ p. is_data_page (live_at g image p)) (range_with_len (block * per_block g + lookups g) (entries g))

pub index_tells : (g : Geometry) (image : List ℕ) (block : ℕ) → nat_lt 0 (index_in g image block) ≡ is_index_block g image block
unfolding index_in is_index_block
index_tells g image block = some_tells (λ p. is_index_page (live_at g image p)) (range_with_len (block * per_block g + lookups g) (entries g))

used_tells : (g : Geometry) (image : List ℕ) (block : ℕ) → has_magic g image block ≡ true → nat_lt (free_in g image block) (entries g) ≡ not (is_free_block g image block)
used_tells g image block magic =
    ⊎_elim
    (λ (free : is_free_block g image block ≡ true). rw (free, free_whole g image block free) (false_from_ne_true (nat_lt (entries g) (entries g)) (λ less. let no = ltb-true _ _ less in absurd (omega (arith, no)))))
    (λ (used : is_free_block g image block ≡ false). rw used (lt-ltb _ _ (used_less g image block magic used)))
    (cases_Bool (is_free_block g image block))

pub opens : (g : Geometry) (image : List ℕ) (block : ℕ) (kind : Kind) (c : BlockCounts) → TellsFree g image → block < g.blocks → has_magic g image block ≡ true → AreCounts g image block c → the_takes c kind (entries g) ≡ is_open_for g image kind block
unfolding takes_index takes_data
opens g image block Index c tells below magic counts =
    rw (counts.pages, counts.free, free_counted g image block tells below, zero_tells (data_in g image block), data_tells g image block, used_tells g image block magic, magic)
    (reordered (is_data_block g image block) (nat_lt 0 (free_in g image block)) (is_free_block g image block))
  where
    reordered : (x y z : Bool) → (not x && y && not z) ≡ (not z && not x && y)
    reordered true y true = refl
    reordered true y false = refl
    reordered false true true = refl
    reordered false true false = refl
    reordered false false true = refl
    reordered false false false = refl
opens g image block Data c tells below magic counts =
    rw (counts.pages, counts.index, counts.free, free_counted g image block tells below, zero_tells (index_in g image block), data_tells g image block, index_tells g image block) refl

-- without its magic it takes none: such an image has no such block
pub shut : (g : Geometry) (image : List ℕ) (block : ℕ) (kind : Kind) → TellsFree g image → block < g.blocks → has_magic g image block ≡ false → false ≡ is_open_for g image kind block
shut g image block kind tells below none = absurd (let all : has_magic g image block ≡ true = tells.magic block below in cc)

-- a block without a free entry takes none either
full : (g : Geometry) (image : List ℕ) (block : ℕ) → NextSlot g image block 0 0xFFFF 0xFFFF None → free_in g image block ≡ 0
unfolding free_in
full g image block none = filter-none_in (λ p. is_free_entry g image p) (block * per_block g + lookups g) (entries g) (none_unused g image block (entries g) (omega arith) none)

pub shut_full : (g : Geometry) (image : List ℕ) (block : ℕ) (kind : Kind) (found : Option (ℕ × ℕ)) (none : Bool) → NextSlot g image block 0 0xFFFF 0xFFFF found → is_some found ≡ not none → none ≡ true → false ≡ is_open_for g image kind block
shut_full g image block kind None none next is has = rw (full g image block next) (sym (and_false (takes_kind g image kind block)))
shut_full g image block kind (Some f) none next is has = absurd (let no : true ≡ false = rw has at is in cc)

-- ---- a block that takes a kind, and a free block

pub used_of : (g : Geometry) (image : List ℕ) (kind : Kind) (block : ℕ) → takes_kind g image kind block ≡ true → is_free_block g image block ≡ false
used_of g image Index block takes = (index_parts g image block takes).0
used_of g image Data block takes = false_from_ne_true (is_free_block g image block) (λ free. let none = dead_data g image block free in let some = data_some g image block (data_parts g image block takes).0 in absurd (omega (arith, none, some)))

pub not_other : (g : Geometry) (image : List ℕ) (kind : Kind) (block : ℕ) → takes_kind g image kind block ≡ true → holds_other g image kind block ≡ false
not_other g image Index block takes = (index_parts g image block takes).1
not_other g image Data block takes = (data_parts g image block takes).1

pub no_other : (g : Geometry) (image : List ℕ) (kind : Kind) (block : ℕ) → is_free_block g image block ≡ true → holds_other g image kind block ≡ false
no_other g image Index block free = no_data g image block (dead_data g image block free)
no_other g image Data block free = no_index g image block (dead_index g image block free)

pub some_entries : (g : Geometry) → 0 < entries g
unfolding entries
some_entries g = let fits = (sizes g).lookups_fit in omega (arith, fits)
