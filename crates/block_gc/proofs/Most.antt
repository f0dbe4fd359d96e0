-- Each cleaning lowers a number that is no greater than the entries of the volume let it be, and takes no more than a block holds.
use Rattle.std.proofs.Common.{◌≡◌, ℕ, zero, suc, ◌+◌, ◌-◌, ◌*◌, ◌/◌, ◌<◌, ◌≤◌, List, [], ◌∷◌, length, Bool, true, false, not, cond, ◌==◌, ◌&&◌, Option, Some, None, refl, sym, ◌∙◌, ap, arith, ⊎_elim}
use Rattle.std.specs.Prelude.{filter, sum_by, is_some}
use Rattle.std.specs.List.{range_with_len}
use Rattle.std.proofs.Math.Nat.{mul-le-mul_left, mul-le-mul_right}
use Rattle.std.proofs.lemmas.Bool.{cases_Bool, cases_lt, eq-eqb, ne_eqb}
use Rattle.std.proofs.lemmas.List.Sums.{sum_by-cons}
use Rattle.geometry.specs.declared.geometry.Geometry.{Geometry}
use Rattle.geometry.specs.Numbers.{ceil, per_block, lookups, entries}
use Rattle.table_model.specs.Room.{index_count, data_count}
use Rattle.image_model.specs.Places.{IsImage}
use Rattle.image_model.specs.Tables.{table_of}
use Rattle.image_model.specs.Tidy.{IsTidy, is_free_block}
use Rattle.image_model.specs.Kinds.{is_data_block}
use Rattle.image_model.specs.Live.{live_at}
use Rattle.image_model.specs.Collect.{count_in, deleted_in, data_in, deleted_outside, is_worth, chosen_block}
use Rattle.room_laws.specs.Counts.{Counts, for_index, for_data}
use Rattle.room_laws.specs.Volume.{blocks_of, free_of, deleted_of, index_total, pages_total, free_beside, Worth}
use Rattle.room_laws.specs.Cleaning.{Cleaned}
use Rattle.room_laws.specs.CleanedImages.{HasCleaned}
use Rattle.room_laws.specs.Counting.{block_counts, counts_of, deleted_where}
use Rattle.room_laws.proofs.Totals.{Seen, is_unused, is_index, is_data, sums, block-at, ceil-le}
use Rattle.room_laws.proofs.Numbers.{no-rise, falls, full}
use Rattle.room_laws.proofs.Bounding.{no-more}
use Rattle.room_laws.proofs.Measures.{beside-le}
use Rattle.image_laws.proofs.Tally.{tidy-counts}
use Rattle.room_laws.proofs.Ranges.{sum_but}
use Rattle.room_laws.proofs.Blocks.{told, free_told}
use Rattle.room_laws.proofs.Tallies.{tidy_counts_tell, tidy_is_volume}
use Rattle.room_laws.proofs.Judged.{worth_is_tested}
use Rattle.block_gc.specs.Programs.{live_in, batches_in, begins_batch, longest_at, block_cost, cost_if, cost_of}
use Rattle.block_gc.specs.Most.{most_of, most_cleanings, least_left, one_cost}

-- ---- over counts

-- a data block was cleaned: a deleted entry less in the data blocks, or one of them less; and at most `d` more deleted entries were moved there
-- beside the live pages of the block
data_less : (e d p nb na db da ib ia mb ma : ℕ) → db + nb + d + 1 ≤ da + na → ib ≤ ia + p + d → p ≤ e → mb ≤ ma + 1 →
    (e + 2) * (db + nb) + ib + mb < (e + 2) * (da + na) + ia + ma
data_less e d p nb na db da ib ia mb ma falls index few more =
    let m : (e + 2) * (db + nb + d + 1) ≤ (e + 2) * (da + na) = mul-le-mul_left (e + 2) falls in
    let w : 1 * d ≤ (e + 2) * d = mul-le-mul_right d (omega arith) in
    omega (arith, m, w, index, few, more)

-- another block was
index_less : (e nb na db da ib ia mb ma : ℕ) → db + nb ≤ da + na → ib + mb < ia + ma → (e + 2) * (db + nb) + ib + mb < (e + 2) * (da + na) + ia + ma
index_less e nb na db da ib ia mb ma same less = let m : (e + 2) * (db + nb) ≤ (e + 2) * (da + na) = mul-le-mul_left (e + 2) same in omega (arith, m, less)

by_kind : (e : ℕ) (a b : List Counts) (c : Counts) → Cleaned e a c b → Worth a c → Seen e c →
    deleted_of for_index b + deleted_of for_data b + c.deleted ≤ deleted_of for_index a + deleted_of for_data a + c.pages → most_of e b < most_of e a
unfolding most_of
by_kind e a b c k worth (is_unused j i d x) others = absurd (rw j at worth)
by_kind e a b c k worth (is_index j d x w) others =
    let s = sums e a k.before.blocks in
    let t = sums e b k.after.blocks in
    let n = no-more e a b c k in
    let dd : deleted_of for_data b ≤ deleted_of for_data a = omega (arith, k.for_data_kept.deleted) in
    let di : deleted_of for_index b + c.deleted ≤ deleted_of for_index a = rw j at (k.for_index_kept j).deleted in
    let ti : blocks_of for_index a < blocks_of for_index b + 1 → free_of for_index b < e = rw j at (k.for_index_kept j).taken in
    let same : blocks_of for_index b ≤ blocks_of for_index a = no-rise e (index_total a) (free_of for_index a) (deleted_of for_index a) (blocks_of for_index a) (free_of for_index b) (deleted_of for_index b) (blocks_of for_index b)
    s.index (omega (arith, t.index, k.index)) (omega (arith, di)) (λ h. ti (omega (arith, h))) in
    let less : deleted_of for_index b + blocks_of for_index b < deleted_of for_index a + blocks_of for_index a = ⊎_elim
    (λ (some : 0 < c.deleted). omega (arith, di, same, some))
    (λ (none : c.deleted ≤ 0).
    let m = falls e (index_total a) (free_of for_index a) (deleted_of for_index a) (blocks_of for_index a) (free_of for_index b) (deleted_of for_index b) (blocks_of for_index b)
    s.index (omega (arith, t.index, k.index)) (omega (arith, di)) (omega (arith, beside-le a, full c.index c.free c.deleted (free_beside a) e w x (rw j at worth) none)) ti in
    omega (arith, di, m))
    (cases_lt 0 c.deleted) in
    index_less e (blocks_of for_data b) (blocks_of for_data a) (deleted_of for_data b) (deleted_of for_data a) (deleted_of for_index b) (deleted_of for_index a) (blocks_of for_index b) (blocks_of for_index a)
    (omega (arith, dd, n)) less
by_kind e a b c k worth (is_data j i x w) others =
    let s = sums e a k.before.blocks in
    let t = sums e b k.after.blocks in
    let n = no-more e a b c k in
    let dd : deleted_of for_data b + c.deleted ≤ deleted_of for_data a = rw j at k.for_data_kept.deleted in
    let td : blocks_of for_data a < blocks_of for_data b + 1 → free_of for_data b < e = rw j at k.for_data_kept.taken in
    let d = deleted_of for_data a - (deleted_of for_data b + c.deleted) in
    let less : deleted_of for_data b + blocks_of for_data b + d + 1 ≤ deleted_of for_data a + blocks_of for_data a = ⊎_elim
    (λ (some : 0 < c.deleted). omega (arith, dd, n, some))
    (λ (none : c.deleted ≤ 0).
    let m = falls e (pages_total a) (free_of for_data a) (deleted_of for_data a) (blocks_of for_data a) (free_of for_data b) (deleted_of for_data b) (blocks_of for_data b)
    s.pages (omega (arith, t.pages, k.pages)) (omega (arith, dd)) (full c.pages c.free c.deleted (free_of for_data a) e w (omega arith) (rw j at worth) none) td in
    omega (arith, dd, m))
    (cases_lt 0 c.deleted) in
    data_less e d c.pages (blocks_of for_data b) (blocks_of for_data a) (deleted_of for_data b) (deleted_of for_data a) (deleted_of for_index b) (deleted_of for_index a) (blocks_of for_index b) (blocks_of for_index a)
    less (omega (arith, others, dd)) (omega (arith, w)) k.index_few

-- ---- over images

-- two sums that add up, number by number
sums_add : (f h k : ℕ → ℕ) (a n : ℕ) → ((q : ℕ) → f q + h q ≡ k q) → sum_by f (range_with_len a n) + sum_by h (range_with_len a n) ≡ sum_by k (range_with_len a n)
sums_add f h k a zero each = refl
sums_add f h k a (suc n) each =
    let x = sum_by-cons f a (range_with_len (a + 1) n) in
    let y = sum_by-cons h a (range_with_len (a + 1) n) in
    let z = sum_by-cons k a (range_with_len (a + 1) n) in
    omega (arith, x, y, z, each a, sums_add f h k (a + 1) n each)

-- the deleted entries of both kinds of blocks are those of a block and of all others
all_deleted : (g : Geometry) (image : List ℕ) (block : ℕ) → IsTidy g image → block < g.blocks →
    deleted_of for_index (counts_of g image) + deleted_of for_data (counts_of g image) ≡ deleted_outside g image block + deleted_in g image block
unfolding deleted_outside deleted_where
all_deleted g image block t low =
    let tell = tidy_counts_tell g image t in
    let both = sums_add (λ b. cond (not (is_data_block g image b)) (deleted_in g image b) 0) (λ b. cond (is_data_block g image b) (deleted_in g image b) 0) (λ b. deleted_in g image b) 0 g.blocks
    (λ b. either (is_data_block g image b) (deleted_in g image b)) in
    let but = sum_but (λ b. cond (b == block) 0 (deleted_in g image b)) (λ b. deleted_in g image b) block 0 g.blocks (omega arith) (omega (arith, low)) (rw (eq-eqb block block refl) refl)
    (λ q from to other. rw (ne_eqb q block other) refl) in
    omega (arith, tell.index_deleted, tell.data_deleted, both, but)
  where
    either : (held : Bool) (n : ℕ) → cond (not held) n 0 + cond held n 0 ≡ n
    either true n = omega arith
    either false n = omega arith

pub cleaned_is_less : (g : Geometry) (was now : List ℕ) (block : ℕ) → HasCleaned g was block now → is_worth g was block ≡ true → most_cleanings g now < most_cleanings g was
unfolding most_cleanings block_counts
cleaned_is_less g was now block c worth =
    let before = all_deleted g was block c.before c.within in
    let after = all_deleted g now block c.after c.within in
    let none = (free_told g now block (told g now c.after block c.within) c.free).1 in
    let more = c.deleted in
    by_kind (entries g) (counts_of g was) (counts_of g now) (block_counts g was block) c.cleaned ((worth_is_tested g was block c.before c.within).0 worth)
    (block-at (entries g) (counts_of g was) (block_counts g was block) c.cleaned.before c.cleaned.victim)
    (omega (arith, before, after, none, more))

-- an image has as many blocks of each kind as its table needs
pub left_at_least : (g : Geometry) (image : List ℕ) → IsImage g image → IsTidy g image → least_left g (table_of g image) ≤ most_cleanings g image
unfolding most_cleanings most_of
left_at_least g image is t =
    let v = tidy_is_volume g image t in
    let s = sums (entries g) (counts_of g image) v.blocks in
    let tell = tidy_counts_tell g image t in
    let counts = tidy-counts g image is t in
    let for_pages : ceil (data_count g (table_of g image)) (entries g) ≤ blocks_of for_data (counts_of g image) = ceil-le (data_count g (table_of g image)) (entries g) (blocks_of for_data (counts_of g image)) v.entries (omega (arith, s.pages, tell.pages, counts.1)) in
    let index : ceil (index_count g (table_of g image)) (entries g) ≤ blocks_of for_index (counts_of g image) = ceil-le (index_count g (table_of g image)) (entries g) (blocks_of for_index (counts_of g image)) v.entries (omega (arith, s.index, tell.index, counts.0)) in
    let m : (entries g + 2) * ceil (data_count g (table_of g image)) (entries g) ≤ (entries g + 2) * (deleted_of for_data (counts_of g image) + blocks_of for_data (counts_of g image)) = mul-le-mul_left (entries g + 2) (omega (arith, for_pages)) in
    omega (arith, m, index)

-- ---- what one takes

count_most : (test : ℕ → Bool) (a n : ℕ) → length (filter test (range_with_len a n)) ≤ n
count_most test a zero = omega arith
count_most test a (suc n) =
    let rest = count_most test (a + 1) n in
    ⊎_elim
    (λ (holds : test a ≡ true). rw holds (omega (arith, rest)))
    (λ (fails : test a ≡ false). rw fails (omega (arith, rest)))
    (cases_Bool (test a))

block_most : (g : Geometry) (image : List ℕ) (block : ℕ) → block_cost g image block ≤ one_cost g
unfolding live_in batches_in
block_most g image block =
    let live = count_most (λ p. is_some (live_at g image p)) (block * per_block g + lookups g) (entries g) in
    let batches = count_most (λ p. begins_batch g image block (longest_at g image block) p (live_at g image p)) (block * per_block g + lookups g) (entries g) in
    omega (arith, live, batches)

if_most : (g : Geometry) (image : List ℕ) (chosen : Option ℕ) → cost_if g image chosen ≤ one_cost g
if_most g image None = omega arith
if_most g image (Some block) = block_most g image block

pub cost_most : (g : Geometry) (images : List (List ℕ)) → cost_of g images ≤ length images * one_cost g
unfolding cost_of
cost_most g [] = omega arith
cost_most g (image ∷ images) =
    let one = if_most g image (chosen_block g image) in
    let rest = cost_most g images in
    omega (arith, one, rest)
