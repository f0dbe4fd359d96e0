-- Marks of names, by which a file that has a name alone is found to be so.
use Rattle.std.specs.Prelude.{◌≡◌, ℕ, ◌+◌, ◌*◌, ◌%◌, ◌<◌, ◌≤◌, ◌==◌, List, length, get_or, Option, Some, None, Result, Ok, Err, if◌then◌else◌, ◌⊎◌}
use Rattle.std.specs.List.{fold}
use Rattle.table_model.specs.Table.{File}
use Rattle.image_model.specs.declared.damage.Damage.{Damage}
use Rattle.image_model.specs.Tables.{Found}

-- the mark of a name
unfoldable pub name_mark : List ℕ → ℕ
name_mark name = fold (λ h b. (31 * h + b) % 0x4000) 0 name

-- the name of a whole file
abbrev pub whole_name : Option (ℕ × Result File Damage) → Option (List ℕ)
whole_name None = None
whole_name (Some (q, Err e)) = None
whole_name (Some (q, Ok f)) = Some f.name

-- what stands at a mark when an id was noted there: the id where none stood there, and else that there are several
abbrev pub mark_after : (id was : ℕ) → ℕ
mark_after id was = if was == 0 then id else 0xFFFF

-- at the mark of each name of a whole file of the ids from 1 to below m stands that id, or that there are several
pub record AreMarked (has : Found) (m : ℕ) (marks : List ℕ) : Type 0 where
  pub len : length marks ≡ 0x4000
  pub each : (j : ℕ) (name : List ℕ) → 1 ≤ j → j < m → whole_name (has j) ≡ Some name →
      (get_or marks (name_mark name) 0 ≡ j) ⊎ (get_or marks (name_mark name) 0 ≡ 0xFFFF)
