-- There are no more candidates than places.
use Rattle.std.proofs.Common.{◌≡◌, ℕ, zero, suc, ◌<◌, ◌≤◌, List, length, slice_index_or, arith, refl}
use Rattle.volume_detect.specs.Places.{place_count}
use Rattle.volume_detect.proofs.Found.{place_inside}
use Rattle.volume_rank.specs.declared.found.Found.{Found}
use Rattle.volume_rank.specs.Finds.{AreMore}
use Rattle.detect_tool.proofs.Ranking.{some_of}

module _ (file : List ℕ) (list : List Found) (more : AreMore file list) where
  -- the places ascend
  least : (d : Found) (k : ℕ) → k < length list → k ≤ (slice_index_or list k d).place
  least d zero low = omega arith
  least d (suc k) low = omega (arith, least d k (omega (arith, low)), more.order d k (suc k) (omega arith) low)

  all_below : (d : Found) (n : ℕ) → n ≡ length list → n ≤ more.place
  all_below d zero all = omega arith
  all_below d (suc k) all = let low : k < length list = omega (arith, all) in omega (arith, least d k low, more.low d k low)

  pub not_more : place_count file ≤ length list → ⊥
  not_more room =
      let inside : more.place < place_count file = place_inside file more.place more.candidate more.found in
      let some : 0 < length list = omega (arith, inside, room) in
      omega (arith, all_below (some_of list some) (length list) refl, inside, room)
