-- Puts and kills leave a volume its reserve.
use Rattle.std.specs.Prelude.{◌≡◌, ℕ, ◌<◌, ◌≤◌, ◌⊎◌, List, false, Some}
use Rattle.geometry.specs.declared.geometry.Geometry.{Geometry}
use Rattle.image_model.specs.Live.{live_at}
use Rattle.image_model.specs.Places.{block_of}
use Rattle.image_model.specs.Tidy.{HasReserve, is_free_block, free_blocks}
use Rattle.image_laws.specs.TidySteps.{Agree}
use Rattle.renew_laws.specs.Replace.{ReplaceCut, Replaced}

-- The block of page p is in use, or one of more than two free ones.
abbrev pub CanTake : Geometry → List ℕ → ℕ → Type 0
CanTake g a p = (is_free_block g a (block_of g p) ≡ false) ⊎ (2 < free_blocks g a)

-- A put of such a page keeps the reserve, at each cut and done,
abbrev pub PutReserve : Geometry → Type 0
PutReserve g = (a c : List ℕ) (p : ℕ) → CanTake g a p → Agree g a c p → HasReserve g a → HasReserve g c

-- a kill of a live page takes no free block,
abbrev pub KillReserve : Geometry → Type 0
KillReserve g = (a c : List ℕ) (o : ℕ) (x : List ℕ) → live_at g a o ≡ Some x → Agree g a c o → free_blocks g a ≤ free_blocks g c

-- and where the one takes the place of the other the reserve is kept too.
abbrev pub ReplaceReserve : Geometry → Type 0
ReplaceReserve g = (a c : List ℕ) (p o : ℕ) (page old : List ℕ) → CanTake g a p → live_at g a o ≡ Some old → HasReserve g a →
    ReplaceCut g p o page a c ⊎ Replaced g p o page a c → HasReserve g c
