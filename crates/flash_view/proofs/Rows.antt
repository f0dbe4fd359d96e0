-- The rows of a table, and what leaves it standing.
use Rattle.std.proofs.Common.{◌≡◌, ◌≢◌, ℕ, ◌+◌, ◌*◌, ◌<◌, ◌≤◌, ◌⊎◌, List, true, refl, sym, subst, arith, ⊎_elim, inl, inr}
use Rattle.std.specs.Prelude.{slice_index}
use Rattle.std.proofs.lemmas.Bool.{cases_lt}
use Rattle.geometry.specs.declared.geometry.Geometry.{Geometry}
use Rattle.nor_core.specs.Flash.{SameOutside, word_at}
use Rattle.nor_core.specs.Device.{OnlyReads, Leaves, Says}
use Rattle.nor_core.specs.declared.state.NorState.{Ghosts as NorOf}
use Rattle.image_model.specs.Places.{has_magic}
use Rattle.flash_view.specs.declared.counts.BlockCounts.{BlockCounts}
use Rattle.flash_view.specs.Table.{row_of, IsTable, HasTable}

-- the counts of a row by its words
pub row_is : (rows : List ℕ) (block : ℕ) (c : BlockCounts) → word_at rows (16 * block) ≡ c.index_live → word_at rows (16 * block + 2) ≡ c.data_live → word_at rows (16 * block + 4) ≡ c.deleted →
    word_at rows (16 * block + 6) ≡ c.free → word_at rows (16 * block + 8) ≡ c.erases → row_of rows block ≡ c
row_is rows block c i d x f e = rw (i, d, x, f, e) refl

-- a word outside what changed
pub word_stays : (at n k : ℕ) (a b : List ℕ) → SameOutside at n a b → (k + 2 ≤ at) ⊎ (at + n ≤ k) → word_at b k ≡ word_at a k
word_stays at n k a b same out =
    let one : slice_index b k ≡ slice_index a k = ⊎_elim (λ (low : k + 2 ≤ at). same.before k (omega (arith, low))) (λ (high : at + n ≤ k). same.after k high) out in
    let two : slice_index b (k + 1) ≡ slice_index a (k + 1) = ⊎_elim (λ (low : k + 2 ≤ at). same.before (k + 1) (omega (arith, low))) (λ (high : at + n ≤ k). same.after (k + 1) (omega (arith, high))) out in
    rw (one, two) refl

-- the rows of all other blocks stay
pub rows_beside : (a b : List ℕ) (at block c : ℕ) → at ≡ 16 * block → SameOutside at 10 a b → c ≢ block → row_of b c ≡ row_of a c
rows_beside a b at block c is same other =
    let stays = λ (k : ℕ) (low : 16 * c ≤ k) (high : k + 2 ≤ 16 * c + 16). word_stays at 10 k a b same
    (⊎_elim {C = (k + 2 ≤ at) ⊎ (at + 10 ≤ k)} (λ (less : c < block). inl (omega (arith, is, less, high))) (λ (more : block ≤ c). inr (omega (arith, is, more, low, other))) (cases_lt c block)) in
    row_is b c (row_of a c) (stays (16 * c) (omega arith) (omega arith)) (stays (16 * c + 2) (omega arith) (omega arith)) (stays (16 * c + 4) (omega arith) (omega arith))
    (stays (16 * c + 6) (omega arith) (omega arith)) (stays (16 * c + 8) (omega arith) (omega arith))

module _ {N : Type 0} {nor : NorOf N} where
  -- a table goes on standing while the device is only read
  pub table_stays : (g : Geometry) (old new : N) (rows : List ℕ) → OnlyReads nor old new → HasTable nor g old rows → HasTable nor g new rows
  table_stays g old new rows reads was = record { room = was.room; told = λ tells. subst (λ (image : List ℕ). IsTable g image rows) (sym reads.bytes) (was.told (reads.told_before tells)) }

  -- nor does it fall where it says a piece
  pub table_said : (g : Geometry) (old new : N) (rows piece : List ℕ) (P : List ℕ → ℕ → Type 0) → Says nor old new piece → Leaves nor old new P → HasTable nor g old rows → HasTable nor g new rows
  table_said g old new rows piece P says leaves was = record { room = was.room; told = λ tells. subst (λ (image : List ℕ). IsTable g image rows) (sym says.bytes) (was.told (leaves.told_before tells)) }

  -- each block has its magic where it stands
  pub table_magic : (g : Geometry) (device : N) (rows : List ℕ) (block : ℕ) → HasTable nor g device rows → nor.tells device → block < g.blocks → true ≡ has_magic g (nor.bytes device) block
  table_magic g device rows block table tells low = sym ((table.told tells).clear.magic block low)
