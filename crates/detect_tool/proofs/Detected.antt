-- What the command leaves and says.
use Rattle.std.proofs.Common.{◌≡◌, ℕ, ◌<◌, ◌≤◌, List, [], ◌∷◌, ◌++◌, length, take, slice_index_or, AllPairs, Any, Result, Ok, Err, inl, inr, refl, sym, ap, ◌∙◌, subst, arith, append-nil}
use Rattle.std.proofs.lemmas.List.{get_or-take, get_or_default, length-take-le, nil_from_length}
use Rattle.std.proofs.lemmas.List.Sorted.{length_permutation, All-permutation, Contains-permutation}
use Rattle.geometry.specs.declared.geometry.Geometry.{Geometry}
use Rattle.nor_core.specs.declared.device.Failed.{Failed}
use Rattle.nor_core.specs.declared.state.NorState.{Ghosts as NorOf}
use Rattle.nor_core.specs.Count.{Rose}
use Rattle.nor_core.specs.Device.{OnlyReads}
use Rattle.image_tool.proofs.Speaking.{says_after, front_after}
use Rattle.volume_detect.specs.Places.{IsFoundAt}
use Rattle.volume_rank.specs.declared.found.Found.{Found}
use Rattle.volume_rank.specs.Finds.{IsFound, AreAll}
use Rattle.detect_tool.specs.Lines.{found_lines, detect_text, detect_status}
use Rattle.detect_tool.specs.Ranked.{AreRanked, IsRanking}
use Rattle.detect_tool.specs.Detecting.{SaysAll, DetectsAll}

module _ (file : List ℕ) (found : List Found) (n : ℕ) (room : n ≤ length found) (are : AreAll file found n) where
  all_of : length (take n found) ≡ n
  all_of = length-take-le n found room

  pub places_rise : AllPairs (λ f g. f.place < g.place) (take n found)
  places_rise i j d less low =
      let high : j < n = omega (arith, low, all_of) in
      let e = ap (λ (x : Found). x.place) (get_or-take n found i d (omega (arith, less, high))) in
      let e' = ap (λ (x : Found). x.place) (get_or-take n found j d high) in
      omega (arith, e, e', are.order d i j less high)

  module _ (list : List Found) (r : IsRanking (take n found) list) where
    has : (p : ℕ) (g : Geometry) → IsFoundAt file p g → Any (λ f. f.place ≡ p) list
    has p g is =
        let d : Found = record { place = p; volume = g; last_meta = 0; counts = record { whole = 0; damaged = 0 }; spoiled = 0; doubled = 0 } in
        let w = are.all d p g is in
        let x = slice_index_or found w.0 d in
        let low : w.0 < length (take n found) = omega (arith, w.1, all_of) in
        let at : slice_index_or (take n found) w.0 x ≡ x = get_or-take n found w.0 x w.1 ∙ get_or_default found w.0 x d (omega (arith, w.1, room)) in
        let c = Contains-permutation (take n found) list x r.same (w.0, low, at) in
        (c.0, x, c.1, c.2, w.2)

    -- these are the candidates of the file
    pub are_ranked : AreRanked file list
    are_ranked = record {
      each = All-permutation (IsFound file) (take n found) list r.same (λ k d low.
          let high : k < n = omega (arith, low, all_of) in
          subst (λ (x : Found). IsFound file x) (sym (get_or-take n found k d high)) (are.each d k high));
      order = r.order;
      all = has;
    }

-- what is said where there is a candidate, and where there is none
text_some : (list : List Found) → 0 < length list → detect_text list ≡ found_lines list
text_some [] some = absurd (omega (arith, some))
text_some (f ∷ list) some = refl

pub status_as : (list : List Found) (status n : ℕ) → length list ≡ n → (0 < n → status ≡ 0) → (n ≡ 0 → status ≡ 3) → status ≡ detect_status list
status_as [] status n is some none = none (sym is)
status_as (f ∷ list) status n is some none = some (omega (arith, is))

module _ {D : Type 0} {nor : NorOf D} {old new : D} (found list : List Found) (r : IsRanking found list) (result : Result (Unit {0}) Failed) where
  pub says_lines : 0 < length found → SaysAll nor old new (found_lines list) result → SaysAll nor old new (detect_text list) result
  says_lines some says = subst (λ (l : List ℕ). SaysAll nor old new l result) (sym (text_some list (omega (arith, some, length_permutation found list r.same)))) says

  pub says_none_found : length found ≡ 0 → SaysAll nor old new (detect_text []) result → SaysAll nor old new (detect_text list) result
  says_none_found none says =
      let empty : list ≡ [] = nil_from_length list (omega (arith, none, length_permutation found list r.same)) in
      subst (λ (l : List Found). SaysAll nor old new (detect_text l) result) (sym empty) says

module _ {D : Type 0} {nor : NorOf D} {old mid new : D} (list : List Found) (status : ℕ) (reads : OnlyReads nor old mid) (ranked : nor.tells old → AreRanked (nor.bytes old) list) where
  -- all was said
  pub detects_all : (done : Unit {0}) → status ≡ detect_status list → SaysAll nor mid new (detect_text list) (Ok done) → DetectsAll nor old new status
  detects_all done is says = record {
    list = list;
    ranked = ranked;
    ends = inl is;
    says = says_after reads says.says;
    told = λ tells.
        let all : nor.said new ≡ nor.said old ++ detect_text list = says.whole (reads.told tells) ∙ ap (λ (l : List ℕ). l ++ detect_text list) reads.said in
        record {
          ends = inl is;
          whole = λ fine. all;
          front = record { part = detect_text list; rest = []; said = all; whole_is = sym (append-nil (detect_text list)) };
        };
  }

  -- the board failed in it
  pub detects_front : (why : Failed) → status ≡ 7 → Rose (nor.faults mid) (nor.faults new) → SaysAll nor mid new (detect_text list) (Err why) → DetectsAll nor old new status
  detects_front why failed rose says =
      let risen : Rose (nor.faults old) (nor.faults new) = omega (arith, rose, reads.faults) in
      record {
        list = list;
        ranked = ranked;
        ends = inr (failed, risen);
        says = says_after reads says.says;
        told = λ tells. record { ends = inr (failed, risen); whole = λ fine. absurd (fine failed); front = front_after reads (says.front (reads.told tells)) };
      }
