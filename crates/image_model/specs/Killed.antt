-- The entries that a check kills.
use Rattle.std.specs.Prelude.{ℕ, List, length, Bool, not, ◌==◌, ◌&&◌, is_none, filter}
use Rattle.std.specs.List.{range_with_len}
use Rattle.geometry.specs.declared.geometry.Geometry.{Geometry}
use Rattle.geometry.specs.Numbers.{page_count}
use Rattle.image_model.specs.Places.{has_magic, entry_of, block_of, is_entry_page}
use Rattle.image_model.specs.Live.{live_at}
use Rattle.image_model.specs.Tidy.{is_free_entry, is_wanted}

-- an entry in use: in a block with its magic, and neither deleted nor free
unfoldable pub is_used : Geometry → List ℕ → ℕ → Bool
is_used g image p = is_entry_page g p && has_magic g image (block_of g p) && not (entry_of g image p == 0) && not (is_free_entry g image p)

-- an entry in use whose page isn't wanted
abbrev pub is_killable : Geometry → List ℕ → ℕ → Bool
is_killable g image p = is_used g image p && not (is_wanted g image p)

-- how many entries a check kills
unfoldable pub killed_of : Geometry → List ℕ → ℕ
killed_of g image = length (filter (λ p. is_killable g image p) (range_with_len 0 (page_count g)))

-- an entry in use whose page isn't live
abbrev pub is_dead_entry : Geometry → List ℕ → ℕ → Bool
is_dead_entry g image p = is_used g image p && is_none (live_at g image p)

-- how many of these there are
unfoldable pub dead_entries : Geometry → List ℕ → ℕ
dead_entries g image = length (filter (λ p. is_dead_entry g image p) (range_with_len 0 (page_count g)))
