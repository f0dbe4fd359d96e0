-- What a file may hold, with what each volume reads.
use Rattle.std.specs.Prelude.{ℕ, ◌≡◌, ◌<◌, List, length, drop, slice_index_or}
use Rattle.geometry.specs.declared.geometry.Geometry.{Geometry}
use Rattle.doubled_ids.specs.Doubled.{doubled_of}
use Rattle.image_model.specs.Kinds.{spoiled_blocks}
use Rattle.meta_guess.specs.Guesses.{IsMeta}
use Rattle.volume_detect.specs.Places.{byte_of, IsFoundAt}
use Rattle.volume_rank.specs.declared.found.Found.{Found}
use Rattle.volume_rank.specs.Ranges.{IsRange}

-- A candidate of the file at its place, with the number of meta bytes that reads most of the bytes from there on, what it reads, how many of its
-- blocks lack their magic, and how many ids are doubled there.
pub record IsFound (file : List ℕ) (f : Found) : Type 0 where
  pub candidate : Geometry
  pub found : IsFoundAt file f.place candidate
  pub volume : IsMeta candidate f.volume.meta f.volume
  pub range : IsRange candidate (drop (byte_of f.place) file) (record { first = f.volume.meta; last = f.last_meta; counts = f.counts })
  pub spoiled : f.spoiled ≡ spoiled_blocks f.volume (drop (byte_of f.place) file)
  pub doubled : f.doubled ≡ length (doubled_of f.volume (drop (byte_of f.place) file))

-- The first `n` of a list are the candidates at the places before `end`, in order of places. (Where nothing stands in the list it reads as `d`.)
pub record IsCollected (file : List ℕ) (list : List Found) (n end : ℕ) : Type 0 where
  pub each : (d : Found) (k : ℕ) → k < n → IsFound file (slice_index_or list k d)
  pub low : (d : Found) (k : ℕ) → k < n → (slice_index_or list k d).place < end
  pub order : (d : Found) (j k : ℕ) → j < k → k < n → (slice_index_or list j d).place < (slice_index_or list k d).place
  pub all : (d : Found) (p : ℕ) (g : Geometry) → p < end → IsFoundAt file p g → (k : ℕ) × (k < n) × ((slice_index_or list k d).place ≡ p)

-- All of them, at whatever place.
pub record AreAll (file : List ℕ) (list : List Found) (n : ℕ) : Type 0 where
  pub each : (d : Found) (k : ℕ) → k < n → IsFound file (slice_index_or list k d)
  pub order : (d : Found) (j k : ℕ) → j < k → k < n → (slice_index_or list j d).place < (slice_index_or list k d).place
  pub all : (d : Found) (p : ℕ) (g : Geometry) → IsFoundAt file p g → (k : ℕ) × (k < n) × ((slice_index_or list k d).place ≡ p)

-- There are more: the whole list has candidates of lower places than one.
pub record AreMore (file : List ℕ) (list : List Found) : Type 0 where
  pub each : (d : Found) (k : ℕ) → k < length list → IsFound file (slice_index_or list k d)
  pub order : (d : Found) (j k : ℕ) → j < k → k < length list → (slice_index_or list j d).place < (slice_index_or list k d).place
  pub place : ℕ
  pub candidate : Geometry
  pub found : IsFoundAt file place candidate
  pub low : (d : Found) (k : ℕ) → k < length list → (slice_index_or list k d).place < place
