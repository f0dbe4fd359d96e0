-- The uses of entries, and those of a block, entry after entry.
use Rattle.std.proofs.Common.{◌≡◌, ◌≢◌, ℕ, ◌+◌, ◌*◌, ◌<◌, ◌≤◌, List, Bool, true, false, ◌&&◌, Option, Some, None, refl, sym, ◌∙◌, arith, ⊎_elim}
use Rattle.std.specs.Prelude.{is_some, if◌then◌else◌}
use Rattle.std.specs.List.{range_with_len}
use Rattle.std.proofs.Math.Bool.{and-false}
use Rattle.std.proofs.lemmas.Bool.{cases_Bool, lt-ltb, le-ltb, ne_eqb}
use Rattle.std.proofs.lemmas.List.Sums.{length-filter}
use Rattle.geometry.specs.declared.geometry.Geometry.{Geometry}
use Rattle.geometry.specs.Numbers.{per_block, lookups, entries}
use Rattle.image_model.specs.Headers.{names_index}
use Rattle.image_model.specs.Places.{entry_of, page_of}
use Rattle.image_model.specs.Live.{live_at}
use Rattle.image_model.specs.Tidy.{is_wanted, is_erased, is_free_entry}
use Rattle.image_model.specs.Collect.{free_in}
use Rattle.image_model.specs.Shared.{is_wanted_index, is_wanted_data, wanted_index_in, wanted_data_in}
use Rattle.flash_view.specs.declared.counts.Sort.{Sort}
use Rattle.flash_view.specs.Counts.{sort_of_page}
use Rattle.flash_view.proofs.Sorts.{free_is_dead}
use Rattle.vol_check.specs.declared.uses.Uses.{Uses}
use Rattle.vol_check.specs.Needed.{TellsWanted}
use Rattle.vol_check.specs.Used.{no_use, blank_use, sort_use, both_uses, FewUses, IsUse, AreUses}
use Rattle.vol_check.proofs.RangeSums.{SumsTo, sum_start, sum_on, sum_end}

-- ---- the use of an entry

module _ (g : Geometry) (image : List ℕ) (p : ℕ) where
  -- an entry of 0xFFFF is of no live page
  pub free_is_use : (blank : Bool) → entry_of g image p ≡ 0xFFFF → blank ≡ is_erased (page_of g image p) → IsUse g image p (blank_use blank)
  free_is_use blank ones is =
      let dead = free_is_dead g image p ones in
      record { index = rw dead refl; pages = rw dead refl; free = rw (ones, is) refl }

  used_entry : entry_of g image p ≢ 0xFFFF → is_free_entry g image p ≡ false
  used_entry used = rw (ne_eqb (entry_of g image p) 0xFFFF used) refl

  pub unmarked_is_use : (mark : ℕ) → entry_of g image p ≢ 0xFFFF → TellsWanted g image p mark → mark < 3 → IsUse g image p no_use
  unmarked_is_use mark used tells few =
      let no : is_wanted g image p ≡ false = tells ∙ rw (lt-ltb mark 3 few) (and-false (is_some (live_at g image p))) in
      record { index = rw (no, and-false) refl; pages = rw (no, and-false) refl; free = rw (used_entry used) refl }

  pub sorted_is_use : (mark : ℕ) (sort : Sort) → entry_of g image p ≢ 0xFFFF → TellsWanted g image p mark → 3 ≤ mark → sort ≡ sort_of_page (live_at g image p) → IsUse g image p (sort_use sort)
  sorted_is_use mark sort used tells more is = by (live_at g image p) refl
    where
      wanted : is_wanted g image p ≡ is_some (live_at g image p)
      wanted = tells ∙ rw (le-ltb mark 3 more) (and-true' (is_some (live_at g image p)))
        where
          and-true' : (b : Bool) → (b && true) ≡ b
          and-true' true = refl
          and-true' false = refl

      by : (o : Option (List ℕ)) → live_at g image p ≡ o → IsUse g image p (sort_use sort)
      by None e = record { index = rw (is, e) refl; pages = rw (is, e) refl; free = rw (is, e, used_entry used) refl }
      by (Some page) e = ⊎_elim
          (λ (yes : names_index page ≡ true). record { index = rw (is, wanted, e, yes) refl; pages = rw (is, wanted, e, yes) refl; free = rw (is, e, yes, used_entry used) refl })
          (λ (no : names_index page ≡ false). record { index = rw (is, wanted, e, no) refl; pages = rw (is, wanted, e, no) refl; free = rw (is, e, no, used_entry used) refl })
          (cases_Bool (names_index page))

-- ---- entry after entry

-- the uses of the first i entries of a block, and of those to come
pub record UsesTo (g : Geometry) (image : List ℕ) (block i : ℕ) (u : Uses) : Type 0 where
  pub index : SumsTo (λ p. if is_wanted_index g image p then 1 else 0) (block * per_block g + lookups g) (entries g) i u.index (wanted_index_in g image block)
  pub pages : SumsTo (λ p. if is_wanted_data g image p then 1 else 0) (block * per_block g + lookups g) (entries g) i u.pages (wanted_data_in g image block)
  pub free : SumsTo (λ p. if is_free_entry g image p then 1 else 0) (block * per_block g + lookups g) (entries g) i u.free (free_in g image block)

pub uses_start : (g : Geometry) (image : List ℕ) (block : ℕ) → UsesTo g image block 0 no_use
unfolding wanted_index_in wanted_data_in free_in
uses_start g image block = record {
  index = sum_start (λ p. if is_wanted_index g image p then 1 else 0) (block * per_block g + lookups g) (entries g) _ (sym (length-filter (λ p. is_wanted_index g image p) (range_with_len (block * per_block g + lookups g) (entries g))));
  pages = sum_start (λ p. if is_wanted_data g image p then 1 else 0) (block * per_block g + lookups g) (entries g) _ (sym (length-filter (λ p. is_wanted_data g image p) (range_with_len (block * per_block g + lookups g) (entries g))));
  free = sum_start (λ p. if is_free_entry g image p then 1 else 0) (block * per_block g + lookups g) (entries g) _ (sym (length-filter (λ p. is_free_entry g image p) (range_with_len (block * per_block g + lookups g) (entries g))));
}

pub uses_on : (g : Geometry) (image : List ℕ) (block i p : ℕ) (u own : Uses) → i < entries g → p ≡ block * per_block g + lookups g + i → UsesTo g image block i u → IsUse g image p own → UsesTo g image block (i + 1) (both_uses u own)
uses_on g image block i p u own low place was is = record {
  index = sum_on (λ p. if is_wanted_index g image p then 1 else 0) _ _ i u.index own.index _ p low was.index (sym place) is.index;
  pages = sum_on (λ p. if is_wanted_data g image p then 1 else 0) _ _ i u.pages own.pages _ p low was.pages (sym place) is.pages;
  free = sum_on (λ p. if is_free_entry g image p then 1 else 0) _ _ i u.free own.free _ p low was.free (sym place) is.free;
}

pub uses_end : (g : Geometry) (image : List ℕ) (block i : ℕ) (u : Uses) → entries g ≤ i → UsesTo g image block i u → AreUses g image block u
uses_end g image block i u past was = record {
  index = sum_end (λ p. if is_wanted_index g image p then 1 else 0) _ _ i u.index _ past was.index;
  pages = sum_end (λ p. if is_wanted_data g image p then 1 else 0) _ _ i u.pages _ past was.pages;
  free = sum_end (λ p. if is_free_entry g image p then 1 else 0) _ _ i u.free _ past was.free;
}

-- ---- how many they are at most

pub few_on : (i : ℕ) (u own : Uses) → FewUses i u → FewUses 1 own → FewUses (i + 1) (both_uses u own)
few_on i u own was is = record { index = omega (arith, was.index, is.index); pages = omega (arith, was.pages, is.pages); free = omega (arith, was.free, is.free) }

pub few_below : (i most : ℕ) (u : Uses) → i ≤ most → FewUses i u → FewUses most u
few_below i most u few was = record { index = omega (arith, was.index, few); pages = omega (arith, was.pages, few); free = omega (arith, was.free, few) }
