-- The table of counts over a program behind the header of a page: the page counts as before.
use Rattle.std.proofs.Common.{◌≡◌, ◌≢◌, ℕ, ◌+◌, ◌*◌, ◌<◌, ◌≤◌, List, length, true, false, refl, sym, ◌∙◌, arith, subst, slice_index}
use Rattle.std.specs.Prelude.{Bool, Some, None, if◌then◌else◌}
use Rattle.geometry.specs.declared.geometry.Geometry.{Geometry}
use Rattle.nor_core.specs.declared.state.NorState.{Ghosts as NorOf}
use Rattle.nor_core.specs.Flash.{SameOutside, HalfProgrammed}
use Rattle.nor_core.specs.Device.{Changes}
use Rattle.image_model.specs.Headers.{obj_id}
use Rattle.image_model.specs.Live.{live_at, is_live}
use Rattle.image_model.specs.Places.{is_entry_page, block_of, entry_of, page_of, has_magic}
use Rattle.image_model.specs.Within.{page_number, block_number}
use Rattle.image_laws.proofs.Append.{finished-same}
use Rattle.image_laws.proofs.Frames.{word_at-same}
use Rattle.image_laws.proofs.Placing.{page_byte}
use Rattle.flash_view.specs.declared.view.View.{View}
use Rattle.flash_view.specs.Same.{IsSameView, OnlyLooks}
use Rattle.flash_view.specs.Places.{IsEntryPage}
use Rattle.flash_view.specs.Counts.{sort_at, sort_of_page}
use Rattle.flash_view.specs.Table.{IsTable, HasTable}
use Rattle.flash_view.proofs.Heads.{entry_page_told}
use Rattle.flash_view.proofs.Sorts.{used_sort, deleted_sort}
use Rattle.flash_view.specs.declared.counts.Sort.TheVariants.{Deleted}
use Rattle.page_put.specs.Recount.{IsUsedAs}
use Rattle.page_put.proofs.Recounted.{table_moves, one_again}
use Rattle.page_put.proofs.Changing.{page_changes, entry_stays}

module _ (g : Geometry) (p : ℕ) (a b : List ℕ) (entry : entry_of g b p ≡ entry_of g a p) (magic : has_magic g b (block_of g p) ≡ has_magic g a (block_of g p))
    (head : (i : ℕ) → i < 5 → slice_index (page_of g b p) i ≡ slice_index (page_of g a p) i) where
  same_id : obj_id (page_of g b p) ≡ obj_id (page_of g a p)
  same_id = word_at-same (page_of g a p) (page_of g b p) 0 (head 0 (omega arith)) (head 1 (omega arith))

  same_live : is_live g b p ≡ is_live g a p
  unfolding is_live
  same_live = rw (entry, magic, same_id, finished-same (page_of g a p) (page_of g b p) head) refl

  same_sort : sort_of_page (live_at g b p) ≡ sort_of_page (live_at g a p)
  unfolding live_at
  same_sort = rw same_live (by (is_live g a p))
    where
      by : (live : Bool) → sort_of_page (if live then Some (page_of g b p) else None) ≡ sort_of_page (if live then Some (page_of g a p) else None)
      by true = rw same_id refl
      by false = refl

  -- a page counts as before where its header, its entry and its block's magic stay
  pub sort_stays : sort_at g b p ≡ sort_at g a p
  unfolding sort_at
  sort_stays = rw (entry, same_sort) refl

-- a page whose entry is zero is deleted
pub dead_as : (g : Geometry) (image : List ℕ) (p : ℕ) → entry_of g image p ≡ 0 → IsUsedAs g image p Deleted
dead_as g image p none =
    let used : entry_of g image p ≢ 0xFFFF = λ ones. absurd (omega (arith, none, ones)) in
    record { word = omega (arith, none); used = used; sort_is = used_sort g image p (entry_of g image p) Deleted used refl (deleted_sort g image p (entry_of g image p) none refl) }

-- the table is that of the image once bytes behind the header of a page were programmed, whose entry isn't free
pub table_fills : (g : Geometry) (p at n : ℕ) (a b rows : List ℕ) → is_entry_page g p ≡ true → 5 ≤ at → at + n ≤ g.page → SameOutside (p * g.page + at) n a b → entry_of g a p ≢ 0xFFFF → IsTable g a rows → IsTable g b rows
table_fills g p at n a b rows page behind fits same used table =
    let only = page_changes g p page (p * g.page + at) n a b (omega arith) (omega (arith, fits)) same in
    let entry : entry_of g b p ≡ entry_of g a p = entry_stays g p page (p * g.page + at) n a b (omega arith) (omega (arith, fits)) same in
    let low : block_of g p < g.blocks = block_number g p (page_number g p page) in
    let head : (i : ℕ) → i < 5 → slice_index (page_of g b p) i ≡ slice_index (page_of g a p) i = λ i small.
    page_byte g b p i (omega (arith, small, g.valid.page_least)) ∙ same.before (p * g.page + i) (omega (arith, small, behind)) ∙ sym (page_byte g a p i (omega (arith, small, g.valid.page_least))) in
    let is : sort_at g a p ≡ sort_at g b p = sym (sort_stays g p a b entry (only.agree.magic (block_of g p)) head) in
    let own = one_again g a p (sort_at g a p) rows page table refl in
    table_moves g p page (sort_at g a p) (sort_at g a p) rows b (record { was = a; table = table; sort = refl; only = only }) is
    (subst (λ (k : ℕ). k < 0x10000) (sym entry) ((table.counts (block_of g p) low).words p page refl)) (subst (λ (k : ℕ). k ≢ 0xFFFF) (sym entry) used) rows (sym own) (λ c out. refl) (λ summed. summed)

-- what is known of a view before and after such a program
pub fills_stand : {N : Type 0} {nor : NorOf N} {old mid new : View N nor} (p at : ℕ) (from : List ℕ) → OnlyLooks old mid → IsSameView mid new → new.rows.now ≡ mid.rows.now → Changes nor mid.nor.now new.nor.now (HalfProgrammed (p * mid.geometry.page + at) from) →
    5 ≤ at → at + length from ≤ mid.geometry.page → old.counted ≡ true → IsEntryPage old.geometry p → (nor.tells old.nor.now → entry_of old.geometry (nor.bytes old.nor.now) p ≢ 0xFFFF) → HasTable nor new.geometry new.nor.now new.rows.now
fills_stand {nor = nor} {old = old} {mid = mid} {new = new} p at from looks same rows changes behind fits stood entry used =
    let was = old.table stood in
    rw (same.geometry ∙ looks.same.geometry, rows ∙ looks.rows) (record {
      room = was.room;
      told = λ tells.
          let before = changes.cuts.told_before tells in
          let back = looks.reads.told_before before in
          table_fills old.geometry p at (length from) (nor.bytes old.nor.now) (nor.bytes new.nor.now) old.rows.now (entry_page_told old.geometry p entry) behind (rw looks.same.geometry at fits)
          (rw (looks.same.geometry, looks.reads.bytes) at ((changes.now before).outside)) (used back) (was.told back);
    })
