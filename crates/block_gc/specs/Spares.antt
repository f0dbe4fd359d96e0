-- Whether a block may be cleaned that isn't worth it.
use Rattle.std.specs.Prelude.{◌≡◌, ℕ, ◌≤◌, ◌⊎◌, List, Bool, true, false, nat_lt, nat_le, ◌==◌, ◌&&◌, ◌||◌}
use Rattle.geometry.specs.declared.geometry.Geometry.{Geometry}
use Rattle.image_model.specs.Tidy.{free_blocks}
use Rattle.image_model.specs.Kinds.{is_data_block}
use Rattle.room_laws.specs.Recovery.{HasSpareEntries}
use Rattle.flash_view.specs.declared.counts.BlockCounts.{BlockCounts}
use Rattle.block_gc.specs.declared.totals.Room.{Room}

-- Three blocks are free, or two and the block holds no live data page, or an entry of each kind is to spare.
abbrev pub MayMove : Geometry → List ℕ → (block : ℕ) → Type 0
MayMove g image block = (3 ≤ free_blocks g image) ⊎ ((2 ≤ free_blocks g image) × (is_data_block g image block ≡ true → HasSpareEntries g image block))

-- whether that is so
abbrev pub IfMay : Geometry → List ℕ → (block : ℕ) → Bool → Type 0
IfMay g image block true = MayMove g image block
IfMay g image block false = MayMove g image block → ⊥

-- the same by the counts of the block and the room of all
abbrev pub may_by : BlockCounts → Room → Bool
may_by c all = nat_le 3 all.blocks || (nat_le 2 all.blocks && ((c.data_live == 0)
    || ((nat_lt 0 c.deleted || nat_lt 0 all.pages) && (nat_lt 0 c.deleted || nat_lt 0 c.free || nat_lt 0 all.index))))
