-- Ids that have header pages, noted as bits behind the marks of pages.
use Rattle.std.specs.Prelude.{◌≡◌, ◌≢◌, ℕ, ◌+◌, ◌*◌, ◌%◌, ◌<◌, ◌==◌, List, drop, Bool, true, Option, Some, None, slice_index, if◌then◌else◌}
use Rattle.std.specs.List.{fold}
use Rattle.page_layout.specs.Ids.{bit_of}

-- the bit of an id is set behind the first `start` bytes
unfoldable pub is_noted : List ℕ → ℕ → ℕ → Bool
is_noted marks start id = bit_of (drop start marks) id == 1

-- the id, where it is there and not noted
abbrev pub unnoted : List ℕ → ℕ → Option ℕ → Option ℕ
unnoted marks start None = None
unnoted marks start (Some id) = if is_noted marks start id then None else Some id

-- an id is noted beside what was, and the first `start` bytes stay
pub record Notes (start : ℕ) (found : Option ℕ) (old new : List ℕ) : Type 0 where
  pub noted : (id : ℕ) → found ≡ Some id → is_noted new start id ≡ true
  pub others : (k : ℕ) → k < 0x8000 → found ≢ Some k → is_noted new start k ≡ is_noted old start k
  pub more : (k : ℕ) → is_noted old start k ≡ true → is_noted new start k ≡ true
  pub pages : (p : ℕ) → p < start → slice_index new p ≡ slice_index old p

-- the number that a name is noted with, behind those of ids
unfoldable pub name_number : List ℕ → ℕ
name_number name = 0x8000 + fold (λ h b. (101 * h + b) % 0x8000) 0 name

-- nothing but names is noted beside what was
pub record NotesNames (start : ℕ) (old new : List ℕ) : Type 0 where
  pub pages : (p : ℕ) → p < start → slice_index new p ≡ slice_index old p
  pub ids : (k : ℕ) → k < 0x8000 → is_noted new start k ≡ is_noted old start k
  pub more : (k : ℕ) → is_noted old start k ≡ true → is_noted new start k ≡ true
