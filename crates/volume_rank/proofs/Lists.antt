-- Candidates that are got into a list one after the other.
use Rattle.std.proofs.Common.{◌≡◌, ℕ, ◌+◌, ◌<◌, ◌≤◌, List, length, slice_index_or, slice_set, Some, None, sym, ap, ◌∙◌, subst, arith, ⊎_elim}
use Rattle.std.proofs.lemmas.List.{get_or-set_same, get_or-set_other}
use Rattle.std.proofs.lemmas.Bool.{cases_lt}
use Rattle.geometry.specs.declared.geometry.Geometry.{Geometry}
use Rattle.volume_detect.specs.Places.{NextFound}
use Rattle.volume_rank.specs.declared.found.Found.{Found}
use Rattle.volume_rank.specs.Finds.{IsFound, IsCollected, AreAll, AreMore}

module _ (file : List ℕ) where
  -- none yet
  pub none_collected : (list : List Found) → IsCollected file list 0 0
  none_collected list = record {
    each = λ d k low. absurd (omega (arith, low));
    low = λ d k low. absurd (omega (arith, low));
    order = λ d j k less low. absurd (omega (arith, low));
    all = λ d p g low found. absurd (omega (arith, low));
  }

  module _ (list : List Found) (f : Found) (n end place : ℕ) (g : Geometry) (room : n < length list) (was : IsCollected file list n end) (next : NextFound file end (Some (place, g))) (is : IsFound file f) (at : f.place ≡ place) where
    before : (d : Found) (k : ℕ) → k < n → slice_index_or (slice_set list n f) k d ≡ slice_index_or list k d
    before d k low = get_or-set_other list n k f d (λ e. absurd (omega (arith, low, e)))

    here : (d : Found) (k : ℕ) → n ≤ k → k < n + 1 → slice_index_or (slice_set list n f) k d ≡ f
    here d k low high = let e : k ≡ n = omega (arith, low, high) in ap (λ (i : ℕ). slice_index_or (slice_set list n f) i d) e ∙ get_or-set_same list n f d room

    -- one more
    pub one_collected : IsCollected file (slice_set list n f) (n + 1) (place + 1)
    one_collected = record {
      each = λ d k low. ⊎_elim
          (λ (below : k < n). subst (λ (x : Found). IsFound file x) (sym (before d k below)) (was.each d k below))
          (λ (above : n ≤ k). subst (λ (x : Found). IsFound file x) (sym (here d k above low)) is)
          (cases_lt k n);
      low = λ d k low. ⊎_elim
          (λ (below : k < n). let e = ap (λ (x : Found). x.place) (before d k below) in omega (arith, e, was.low d k below, next.0))
          (λ (above : n ≤ k). let e = ap (λ (x : Found). x.place) (here d k above low) in omega (arith, e, at))
          (cases_lt k n);
      order = λ d j k less low. ⊎_elim
          (λ (below : k < n).
          let e = ap (λ (x : Found). x.place) (before d k below) in
          let e' = ap (λ (x : Found). x.place) (before d j (omega (arith, less, below))) in
          omega (arith, e, e', was.order d j k less below))
          (λ (above : n ≤ k).
          let e = ap (λ (x : Found). x.place) (here d k above low) in
          let small : j < n = omega (arith, less, low) in
          let e' = ap (λ (x : Found). x.place) (before d j small) in
          omega (arith, e, e', at, was.low d j small, next.0))
          (cases_lt k n);
      all = λ d p h low found. ⊎_elim
          (λ (below : p < end).
          let w = was.all d p h below found in
          (w.0, omega (arith, w.1), ap (λ (x : Found). x.place) (before d w.0 w.1) ∙ w.2))
          (λ (above : end ≤ p). ⊎_elim
          (λ (between : p < place). absurd (next.2 p h above between found))
          (λ (last : place ≤ p). (n, omega arith, ap (λ (x : Found). x.place) (here d n (omega arith) (omega arith)) ∙ at ∙ (let e : place ≡ p = omega (arith, last, low) in e)))
          (cases_lt p place))
          (cases_lt p end);
    }

  -- there is no further one
  pub all_collected : (list : List Found) (n end : ℕ) → IsCollected file list n end → NextFound file end None → AreAll file list n
  all_collected list n end was none = record {
    each = was.each;
    order = was.order;
    all = λ d p g found. ⊎_elim (λ (below : p < end). was.all d p g below found) (λ (above : end ≤ p). absurd (none p g above found)) (cases_lt p end);
  }

  -- there is one, and no room
  pub more_collected : (list : List Found) (n end place : ℕ) (g : Geometry) → n ≡ length list → IsCollected file list n end → NextFound file end (Some (place, g)) → AreMore file list
  more_collected list n end place g full was next = record {
    each = λ d k low. was.each d k (omega (arith, low, full));
    order = λ d j k less low. was.order d j k less (omega (arith, low, full));
    place = place;
    candidate = g;
    found = next.1.0;
    low = λ d k low. omega (arith, was.low d k (omega (arith, low, full)), next.0);
  }
