-- What the check's kills leave.
use Rattle.std.specs.Prelude.{◌≡◌, ℕ, ◌+◌, List, Bool, false, not, ◌==◌, ◌&&◌}
use Rattle.geometry.specs.declared.geometry.Geometry.{Geometry}
use Rattle.image_model.specs.Places.{entry_of}
use Rattle.image_model.specs.Live.{live_at}
use Rattle.image_model.specs.Tidy.{is_free_entry}
use Rattle.image_model.specs.Killed.{killed_of, is_dead_entry, dead_entries}
use Rattle.image_model.specs.Shared.{SameCounts}
use Rattle.image_laws.specs.Kills.{Turned}
use Rattle.room_laws.specs.Staged.{OnlyKills}
use Rattle.vol_check.specs.Owned.{IsOwn}

-- Pages were killed and nothing else, the erase counts stay, and where each entry of 0xFFFF lay over an erased page each one does.
pub record Kills (g : Geometry) (was now : List ℕ) : Type 0 where
  pub pages : OnlyKills g was now
  pub counts : SameCounts g was now
  pub own : IsOwn g was → IsOwn g now

-- an entry that is neither deleted nor free
abbrev pub is_taken_entry : Geometry → List ℕ → ℕ → Bool
is_taken_entry g image p = not (entry_of g image p == 0) && not (is_free_entry g image p)

-- after a turn: the entry of page p is clean, and killed where it wasn't
pub record CleansEntry (g : Geometry) (p : ℕ) (killed : Bool) (was now : List ℕ) : Type 0 where
  pub turned : Turned g p killed was now
  pub kills : Kills g was now

-- no entry in use is that of a page that isn't live
abbrev pub IsClean : Geometry → List ℕ → Type 0
IsClean g image = (p : ℕ) → is_dead_entry g image p ≡ false

-- after all turns: no entry is dead, so many were killed, and the live pages are the same
pub record CleansEntries (g : Geometry) (killed : ℕ) (was now : List ℕ) : Type 0 where
  pub clean : IsClean g now
  pub count : killed ≡ dead_entries g was
  pub killed_more : killed + killed_of g now ≡ killed_of g was
  pub live : (p : ℕ) → live_at g now p ≡ live_at g was p
  pub kills : Kills g was now
