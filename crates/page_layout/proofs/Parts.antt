-- A part of a list that is written over.
use Rattle.std.proofs.Common.{ℕ, ◌≡◌, ◌≢◌, ◌==◌, Some, true, false, nat_lt, position, replicate, All, slice_range, ◌+◌, ◌<◌, ◌≤◌, List, ◌++◌, length, take, drop, get_or, arith, rules, refl, ap}
use Rattle.std.proofs.lemmas.List.{places, drop-replicate, get_or_append_left, take_at}
use Rattle.std.specs.List.{position_or_len}
use Rattle.std.proofs.lemmas.Slice.{between-put_mid}
use Rattle.std.proofs.lemmas.List.Sums.{position_or_len_is}
use Rattle.std.proofs.lemmas.List.Elements.{All-get_or}
use Rattle.std.proofs.lemmas.Grind.{common_steps}
use borrow.Rule.Slice.PartMut.{put_mid}
use Rattle.page_layout.specs.Layout.{padded, name_field}
use Rattle.nor_core.specs.Flash.{SameOutside}
use Rattle.image_model.specs.Headers.{name_of}

-- a part of n bytes is written over by as many: all else stays
pub part_written : (a n k : ℕ) (xs ys : List ℕ) → a + n ≤ length xs → k ≡ n → length ys ≡ n → SameOutside a n xs (put_mid a k xs ys)
part_written a n k xs ys fits same len = record {
  size = grind (arith, common_steps);
  before = λ j below. search (rules, places);
  after = λ j above. grind (arith, places);
}

-- the part that is written over is what was written
pub part_is : (a n k : ℕ) (xs ys : List ℕ) → a + n ≤ length xs → k ≡ n → length ys ≡ n → slice_range (put_mid a k xs ys) a (a + n) ≡ ys
part_is a n k xs ys fits same len = between-put_mid a k xs ys (a + n) (omega arith) (omega arith)

-- bytes over the first of 32 zeros
pub zeros_written : (n : ℕ) (zeros name new : List ℕ) → zeros ≡ replicate n 0 → n ≡ 32 → new ≡ name → new ++ drop (length name) zeros ≡ padded name
zeros_written n zeros name new all of same = rw (all, of, same) (ap (λ (rest : List ℕ). name ++ rest) (drop-replicate (length name) 32 0))

-- the bytes of a padded name before its end are not zero, and then a zero follows
name_ends : (name : List ℕ) → length name ≤ 31 → All (λ b. b ≢ 0) name → position_or_len (λ b. b == 0) (padded name) ≡ length name
name_ends name few some = position_or_len_is (λ b. b == 0) (padded name) (length name) 0
    (grind (arith, common_steps))
    (λ k below. let e : get_or (padded name) k 0 ≡ get_or name k 0 = get_or_append_left name _ 0 k below in let ne : get_or name k 0 ≢ 0 = All-get_or (λ b. b ≢ 0) name k 0 below some in rw e (grind (arith, common_steps)))
    (λ below. let e : get_or (padded name) (length name) 0 ≡ 0 = grind (arith, places) in rw e refl)

-- a field that holds a padded name has that name
pub padded_name : (page name : List ℕ) → name_field page ≡ padded name → 0 < length name → length name ≤ 31 → All (λ b. b ≢ 0) name → name_of page ≡ Some name
padded_name page name field some few whole =
    let ends : position_or_len (λ b. b == 0) (padded name) ≡ length name = name_ends name few whole in
    let len : length (padded name) ≡ 32 = grind (arith, common_steps) in
    let here : position (λ b. b == 0) (padded name) ≡ Some (length name) = (let below : nat_lt (length name) 32 ≡ true = grind (arith, common_steps) in rw (ends, len, below) refl) in
    let cut : take (length name) (padded name) ≡ name = take_at name _ (length name) refl in
    let here_is : (length name == 0) ≡ false = grind (arith, common_steps) in
    rw (field, here, here_is, cut) refl
