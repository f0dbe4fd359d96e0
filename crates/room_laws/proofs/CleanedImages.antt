-- Images in which a block was cleaned.
use Rattle.std.proofs.Common.{◌≡◌, ℕ, zero, suc, ◌+◌, ◌*◌, ◌<◌, List, ◌∷◌, Bool, true, false, not, cond, ◌==◌, ◌&&◌, refl, sym, ◌∙◌, ap, subst, arith, ⊎_elim}
use Rattle.std.specs.Prelude.{Contains, sum_by}
use Rattle.std.specs.List.{range_with_len}
use Rattle.std.proofs.lemmas.Bool.{cases_eq}
use Rattle.std.proofs.lemmas.List.Sums.{sum_by-cons}
use Rattle.geometry.specs.declared.geometry.Geometry.{Geometry}
use Rattle.nor_core.specs.Flash.{SameOutside}
use Rattle.geometry.specs.Numbers.{entries}
use Rattle.image_model.specs.Places.{IsImage}
use Rattle.image_model.specs.Tables.{table_of}
use Rattle.image_model.specs.Tidy.{IsTidy, is_free_block}
use Rattle.image_model.specs.Kinds.{is_data_block}
use Rattle.image_model.specs.Collect.{deleted_in, deleted_outside}
use Rattle.room_laws.specs.Counts.{Counts, for_index, for_data}
use Rattle.room_laws.specs.Volume.{deleted_of}
use Rattle.room_laws.specs.Cleaning.{Cleaned}
use Rattle.room_laws.specs.Mending.{DataStay}
use Rattle.room_laws.specs.Leaving.{WholeCleaning, fresh}
use Rattle.room_laws.specs.Counting.{block_counts, counts_of, deleted_where}
use Rattle.room_laws.specs.Stopping.{gc_measure}
use Rattle.room_laws.specs.Sorts.{sort_at, others_by}
use Rattle.room_laws.specs.Recovery.{IsBetween, IsEmptied}
use Rattle.room_laws.specs.CleanedImages.{HasCleaned, EmptiedHasCleaned, HasCleanedCanClean, HasCleanedIsLower, HasCleanedMends, HasCleanedIsSwept}
use Rattle.room_laws.proofs.Bounding.{bound_kept}
use Rattle.room_laws.proofs.Measures.{cleaning_lowers}
use Rattle.room_laws.proofs.Mend.{mending_kept}
use Rattle.room_laws.proofs.Tallies.{tidy_counts_tell, tidy_is_volume, pages_counted}
use Rattle.room_laws.proofs.Judged.{worth_is_tested}
use Rattle.room_laws.proofs.Stops.{bound_to, bound_from, block_of_counts}
use Rattle.room_laws.proofs.Besides.{others_of, front, others_tell}
use Rattle.room_laws.proofs.ImageMends.{other_has}
use Rattle.room_laws.proofs.Leaves.{cleaned_rearranged}
use Rattle.room_laws.proofs.Staying.{tidy_is_staged}
use Rattle.room_laws.proofs.Recovering.{own_by, others_are}
use Rattle.room_laws.proofs.FreshMends.{fresh_counts, others_fresh, cleaned_by}

-- two sums that add up, number by number
sums_add : (f h k : ℕ → ℕ) (a n : ℕ) → ((q : ℕ) → f q + h q ≡ k q) → sum_by f (range_with_len a n) + sum_by h (range_with_len a n) ≡ sum_by k (range_with_len a n)
sums_add f h k a zero each = refl
sums_add f h k a (suc n) each =
    let x = sum_by-cons f a (range_with_len (a + 1) n) in
    let y = sum_by-cons h a (range_with_len (a + 1) n) in
    let z = sum_by-cons k a (range_with_len (a + 1) n) in
    omega (arith, x, y, z, each a, sums_add f h k (a + 1) n each)

either_kind : (here held : Bool) (n : ℕ) → cond (not here && not held) n 0 + cond (not here && held) n 0 ≡ cond here 0 n
either_kind true held n = refl
either_kind false true n = omega arith
either_kind false false n = omega arith

-- the deleted entries of all blocks but one
outside_by : (g : Geometry) (image : List ℕ) (block : ℕ) → IsTidy g image → block < g.blocks → deleted_of for_index (others_of g image block) + deleted_of for_data (others_of g image block) ≡ deleted_outside g image block
unfolding deleted_outside deleted_where
outside_by g image block t low =
    let o = others_tell g image block t low in
    let all = sums_add (λ b. cond (not (b == block) && not (is_data_block g image b)) (deleted_in g image b) 0) (λ b. cond (not (b == block) && is_data_block g image b) (deleted_in g image b) 0)
    (λ b. cond (b == block) 0 (deleted_in g image b)) 0 g.blocks (λ b. either_kind (b == block) (is_data_block g image b) (deleted_in g image b)) in
    omega (arith, o.index_deleted, o.data_deleted, all)

module _ (g : Geometry) (first was now : List ℕ) (block : ℕ) (low : block < g.blocks) (is : IsImage g first) (t : IsTidy g first) (between : IsBetween g first block was) (emptied : IsEmptied g (sort_at g was) block)
    (is' : IsImage g now) (t' : IsTidy g now) (table : table_of g now ≡ table_of g was) (outside : SameOutside (block * g.block) g.block was now) (free : is_free_block g now block ≡ true) where
  others_now : others_of g now block ≡ others_by g (sort_at g was) block
  others_now = others_are g block low now t' ∙ others_fresh g was now block low between.image_is between.tidy table outside now is' (tidy_is_staged g now t') free

  -- by the counts of both images, with the block in front
  whole : WholeCleaning (entries g) (block_counts g first block) (others_of g first block) (others_of g now block)
  whole =
      let w = cleaned_by g first was block low is t between emptied in
      rw (own_by g block low first t, others_are g block low first t, others_now) w

  fresh_is : block_counts g now block ≡ fresh (entries g)
  fresh_is = fresh_counts g now block t' low free

  cleaned_front : Cleaned (entries g) (block_counts g first block ∷ others_of g first block) (block_counts g first block) (block_counts g now block ∷ others_of g now block)
  cleaned_front = subst (λ (d : Counts). Cleaned (entries g) (block_counts g first block ∷ others_of g first block) (block_counts g first block) (d ∷ others_of g now block)) (sym fresh_is) whole.cleaned

  stay_front : DataStay (block_counts g first block ∷ others_of g first block) (block_counts g first block) (block_counts g now block ∷ others_of g now block)
  stay_front = subst (λ (d : Counts). DataStay (block_counts g first block ∷ others_of g first block) (block_counts g first block) (d ∷ others_of g now block)) (sym fresh_is) whole.stay

  -- a block stands in front or among the others
  to_front_in : (d : Counts) → Contains (counts_of g first) d → Contains (block_counts g first block ∷ others_of g first block) d
  to_front_in d has =
      let b = block_of_counts g first d has in
      ⊎_elim
      (λ (here : b.0 ≡ block). (0, omega arith, sym (ap (block_counts g first) here) ∙ b.2))
      (λ (away : b.0 ≡ block → ⊥). let o = other_has g first block b.0 b.1 away in subst (Contains (block_counts g first block ∷ others_of g first block)) b.2 (suc o.0, omega (arith, o.1), o.2))
      (cases_eq b.0 block)

  stay_all : DataStay (counts_of g first) (block_counts g first block) (counts_of g now)
  stay_all d has kind away = let r = stay_front d (to_front_in d has) kind away in (r.0, (front g now block low).blocks r.0 r.1, r.2, r.3)

  has_cleaned : HasCleaned g first block now
  has_cleaned = record {
    within = low;
    before = t;
    image_is = is';
    after = t';
    table = table ∙ between.table;
    free = free;
    cleaned = cleaned_rearranged (entries g) (block_counts g first block ∷ others_of g first block) (counts_of g first) (block_counts g now block ∷ others_of g now block) (counts_of g now) (block_counts g first block)
        (tidy_is_volume g first t) (tidy_is_volume g now t') (front g first block low) (front g now block low) cleaned_front;
    stay = stay_all;
    deleted =
        let a = outside_by g first block t low in
        let b = outside_by g now block t' low in
        omega (arith, a, b, whole.deleted, pages_counted g first block);
  }

pub emptied_has_cleaned : (g : Geometry) → EmptiedHasCleaned g
emptied_has_cleaned g first was now block low is t between emptied is' t' table outside free = has_cleaned g first was now block low is t between emptied is' t' table outside free

pub has_cleaned_can_clean : (g : Geometry) → HasCleanedCanClean g
has_cleaned_can_clean g was now block can c = record {
  image_is = c.image_is;
  tidy = c.after;
  some = omega (arith, c.cleaned.free, (tidy_counts_tell g now c.after).unused_blocks);
  bound = bound_from g now c.after c.image_is (bound_kept (entries g) (counts_of g was) (counts_of g now) (block_counts g was block) c.cleaned (bound_to g was can.tidy can.image_is can.bound));
}

pub has_cleaned_is_lower : (g : Geometry) → HasCleanedIsLower g
unfolding gc_measure
has_cleaned_is_lower g was now block c worth = cleaning_lowers (entries g) (counts_of g was) (counts_of g now) (block_counts g was block) c.cleaned ((worth_is_tested g was block c.before c.within).0 worth)

pub has_cleaned_mends : (g : Geometry) → HasCleanedMends g
has_cleaned_mends g was now block m c = record { image_is = c.image_is; tidy = c.after; mending = mending_kept (entries g) (counts_of g was) (counts_of g now) (block_counts g was block) m.mending c.cleaned c.stay }

pub has_cleaned_is_swept : (g : Geometry) → HasCleanedIsSwept g
has_cleaned_is_swept g was now block chosen c = record { block = block; chosen = chosen; tidy_before = c.before; tidy_after = c.after; table = c.table; free = c.free; deleted = c.deleted }
