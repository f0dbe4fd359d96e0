-- What a row tells of its block, where the table of counts stands.
use Rattle.std.proofs.Common.{◌≡◌, ◌≢◌, ℕ, ◌+◌, ◌<◌, List, Bool, true, false, ◌==◌, nat_le, if◌then◌else◌, refl, sym, subst, arith, ⊎_elim}
use Rattle.std.specs.Prelude.{Option, Some, None, IfSome}
use Rattle.std.proofs.lemmas.Bool.{cases_eq}
use Rattle.geometry.specs.declared.geometry.Geometry.{Geometry}
use Rattle.geometry.specs.Numbers.{entries}
use Rattle.nor_core.specs.declared.state.NorState.{Ghosts as NorOf}
use Rattle.image_model.specs.Places.{has_magic}
use Rattle.image_model.specs.Tidy.{is_free_block}
use Rattle.room_laws.proofs.Recounts.{free_by_count}
use Rattle.flash_view.specs.declared.kinds.Kind.{Kind}
use Rattle.flash_view.specs.declared.counts.BlockCounts.{BlockCounts}
use Rattle.flash_view.specs.Counts.{AreCounts}
use Rattle.flash_view.specs.Table.{row_of, HasTable, IsTable}
use Rattle.free_search.specs.Counts.{the_takes}
use Rattle.free_search.specs.declared.pages.Worn.{Worn}
use Rattle.free_search.specs.Free.{is_open_for, less_worn_of, worn_with, worn_by_row}
use Rattle.free_search.proofs.FreePages.{opens}

module _ {N : Type 0} {nor : NorOf N} (g : Geometry) (device : N) (rows : List ℕ) (block : ℕ) (c : BlockCounts) (low : block < g.blocks) (is : c ≡ row_of rows block) (table : HasTable nor g device rows) (tells : nor.tells device) where
  -- it has the counts of the block
  pub row_counts : AreCounts g (nor.bytes device) block c
  row_counts = subst (λ (k : BlockCounts). AreCounts g (nor.bytes device) block k) (sym is) ((table.told tells).counts block low)

  pub row_magic : has_magic g (nor.bytes device) block ≡ true
  row_magic = (table.told tells).clear.magic block low

  -- the block is free where as many of its entries are as it has
  pub row_free : (c.free == entries g) ≡ is_free_block g (nor.bytes device) block
  row_free = let free = row_counts.free in rw free (sym (free_by_count g (nor.bytes device) block low (table.told tells).clear))

  -- whether it takes a page of a kind
  pub row_open : (kind : Kind) → the_takes c kind (entries g) ≡ is_open_for g (nor.bytes device) kind block
  row_open kind = opens g (nor.bytes device) block kind c (table.told tells).clear low row_magic row_counts

-- so does the less worn of two blocks by a row
pub row_worn : (g : Geometry) (image rows : List ℕ) (least : Option Worn) (block : ℕ) → block < g.blocks → IsTable g image rows → worn_by_row rows (entries g) least block ≡ worn_with g image least block
row_worn g image rows least block low table =
    let counts = table.counts block low in
    let free : ((row_of rows block).free == entries g) ≡ is_free_block g image block = rw counts.free (sym (free_by_count g image block low table.clear)) in
    rw (free, counts.erases) refl

-- of two blocks below a number the less worn one is below it
less_below : (end : ℕ) (least : Option Worn) (other : Worn) → IfSome least (λ worn. worn.block < end) → other.block < end → IfSome (less_worn_of least other) (λ worn. worn.block < end)
less_below end None other was low = low
less_below end (Some worn) other was low = turn (nat_le worn.erases other.erases)
  where
    turn : (keep : Bool) → IfSome (if keep then Some worn else Some other) (λ worn. worn.block < end)
    turn true = was
    turn false = low

pub row_below : (rows : List ℕ) (entries end : ℕ) (least : Option Worn) (block : ℕ) → block < end → IfSome least (λ worn. worn.block < end) → IfSome (worn_by_row rows entries least block) (λ worn. worn.block < end)
row_below rows entries end least block low was = turn ((row_of rows block).free == entries)
  where
    turn : (free : Bool) → IfSome (if free then less_worn_of least (record { block = block; erases = (row_of rows block).erases }) else least) (λ worn. worn.block < end)
    turn true = less_below end least (record { block = block; erases = (row_of rows block).erases }) was low
    turn false = was

-- the rows of the blocks below one more are right once its row is put
pub rows_on : (g : Geometry) (image was now : List ℕ) (block : ℕ) (c : BlockCounts) → AreCounts g image block c → row_of now block ≡ c → ((k : ℕ) → k ≢ block → row_of now k ≡ row_of was k) →
    ((k : ℕ) → k < block → AreCounts g image k (row_of was k)) → (k : ℕ) → k < block + 1 → AreCounts g image k (row_of now k)
rows_on g image was now block c counts is others below k small =
    ⊎_elim
    (λ (here : k ≡ block). subst (λ (m : ℕ). AreCounts g image m (row_of now m)) (sym here) (subst (λ (d : BlockCounts). AreCounts g image block d) (sym is) counts))
    (λ (there : k ≡ block → ⊥). subst (λ (d : BlockCounts). AreCounts g image k d) (sym (others k there)) (below k (omega (arith, small, there))))
    (cases_eq k block)
