-- Pages that find places while free blocks are left alone.
use Rattle.std.specs.Prelude.{◌≡◌, ℕ, ◌+◌, ◌-◌, ◌<◌, ◌≤◌, List, length, slice_index_or, slice_set}
use Rattle.room_laws.specs.Counts.{Counts, unused, for_index, for_data, kind_of}
use Rattle.room_laws.specs.Volume.{IsVolume, blocks_of, free_of, need}
use Rattle.room_laws.specs.Steps.{placed, killed, CanPut}

-- So many index pages and data pages find places, and `keep` free blocks are left alone.
abbrev pub HadWith : ℕ → List Counts → (keep index pages : ℕ) → Type 0
HadWith e v keep index pages = need e index (free_of for_index v) + need e pages (free_of for_data v) ≤ blocks_of unused v - keep

-- Where no block for index pages has a free entry, an index page finds a free block beside those that are left alone.
abbrev pub HadFindsIndex : Type 0
HadFindsIndex = (e : ℕ) (v : List Counts) (keep index pages : ℕ) → 0 < e → HadWith e v keep index pages → 0 < index → free_of for_index v ≡ 0 →
    keep < blocks_of unused v

-- So does a data page where no data block has a free entry.
abbrev pub HadFindsData : Type 0
HadFindsData = (e : ℕ) (v : List Counts) (keep index pages : ℕ) → 0 < e → HadWith e v keep index pages → 0 < pages → free_of for_data v ≡ 0 →
    keep < blocks_of unused v

-- Once an index page was put by the rule, places are left for all others.
abbrev pub HadPutsIndex : Type 0
HadPutsIndex = (e : ℕ) (v : List Counts) (keep index pages i : ℕ) (c : Counts) → IsVolume e v → CanPut v for_index i c →
    HadWith e v keep (index + 1) pages → HadWith e (slice_set v i (placed for_index c)) keep index pages

-- The same for a data page.
abbrev pub HadPutsData : Type 0
HadPutsData = (e : ℕ) (v : List Counts) (keep index pages i : ℕ) (c : Counts) → IsVolume e v → CanPut v for_data i c →
    HadWith e v keep index (pages + 1) → HadWith e (slice_set v i (placed for_data c)) keep index pages

-- A killed index page takes no place.
abbrev pub HadKills : Type 0
HadKills = (e : ℕ) (v : List Counts) (keep index pages i : ℕ) (c : Counts) → IsVolume e v → i < length v → slice_index_or v i c ≡ c →
    kind_of c ≡ for_index → 0 < c.index →
    HadWith e v keep index pages → HadWith e (slice_set v i (killed c)) keep index pages

-- Fewer pages find places too.
abbrev pub HadLess : Type 0
HadLess = (e : ℕ) (v : List Counts) (keep index pages index' pages' : ℕ) → 0 < e → index' ≤ index → pages' ≤ pages → HadWith e v keep index pages →
    HadWith e v keep index' pages'
