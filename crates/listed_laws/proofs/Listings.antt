-- A tidy volume with which a file begins stands in the list of its candidates.
use Rattle.std.proofs.Common.{◌≡◌, ℕ, List, Any, ap, refl, sym, ◌∙◌, subst}
use Rattle.std.proofs.lemmas.List.Elements.{All-contains}
use Rattle.geometry.specs.declared.geometry.Geometry.{Geometry}
use Rattle.meta_guess.specs.Guesses.{SameBut}
use Rattle.volume_detect.specs.Places.{IsFoundAt, IsFoundFirst, byte_of}
use Rattle.volume_rank.specs.declared.found.Found.{Found}
use Rattle.volume_rank.specs.Finds.{IsFound}
use Rattle.detect_tool.specs.Fronts.{IsFoundFor}
use Rattle.detect_tool.proofs.Fronts.{tidy_found, tidy_told, same_as}
use Rattle.detect_tool.proofs.Metas.{own_meta}
use Rattle.listed_laws.specs.Listed.{OnePlaceOneLength, IsListed, IsListedWhole}
use Rattle.listed_laws.proofs.Lengths.{one_length}

pub one_place_one_length : (file : List ℕ) (place : ℕ) (g h : Geometry) → OnePlaceOneLength file place g h
one_place_one_length file place g h found found' = one_length file place g h found found'

-- two candidates at one place have the same numbers
same_there : (file : List ℕ) (place : ℕ) (g h : Geometry) → IsFoundAt file place g → IsFoundAt file place h → SameBut g h
same_there file place g h is is' = record {
  page_is = is'.numbers.page ∙ sym is.numbers.page;
  block_is = is'.numbers.block ∙ sym is.numbers.block;
  blocks_is = one_length file place g h is is';
  phys_is = is'.numbers.phys ∙ sym is.numbers.phys;
  meta_is = refl;
  magic_is = is'.numbers.magic ∙ sym is.numbers.magic;
}

-- the same numbers, the other way round
turned : (g h : Geometry) → SameBut g h → SameBut h g
turned g h is = record {
  page_is = sym is.page_is;
  block_is = sym is.block_is;
  blocks_is = sym is.blocks_is;
  phys_is = sym is.phys_is;
  meta_is = refl;
  magic_is = sym is.magic_is;
}

-- what is found at the place of a volume at byte 0 is found for it
found_for : (file : List ℕ) (g : Geometry) (f : Found) (first : IsFoundFirst file g) → IsFound file f → f.place ≡ first.place.0 → IsFoundFor file g f
found_for file g f first found at =
    let place : ℕ = first.place.0 in
    let a : Geometry = found.candidate in
    let c : Geometry = first.candidate in
    let there : IsFoundAt file place a = subst (λ (p : ℕ). IsFoundAt file p a) at found.found in
    let own : SameBut c g =
    record {
      page_is = sym first.page;
      block_is = sym first.block;
      blocks_is = sym first.blocks;
      phys_is = sym first.phys;
      meta_is = refl;
      magic_is = sym first.magic;
    } in
    let through : SameBut f.volume c = same_as f.volume a c (turned a f.volume found.volume.same) (same_there file place a c there first.place.3) in
    record { found = found; first = ap byte_of at ∙ first.place.2; same = same_as f.volume c g through own }

pub listed : (file : List ℕ) (g : Geometry) (list : List Found) → IsListed file g list
listed file g list tidy begins ranked =
    let first : IsFoundFirst file g = tidy_found file g tidy begins in
    let w : Any (λ f. f.place ≡ first.place.0) list = ranked.all first.place.0 first.candidate first.place.3 in
    let found : IsFound file w.1 = All-contains (IsFound file) list w.1 ranked.each (w.0, w.2, w.3) in
    (w.0, w.1, w.2, w.3, found_for file g w.1 first found w.4)

pub listed_whole : (file : List ℕ) (g : Geometry) (list : List Found) → IsListedWhole file g list
listed_whole file g list tells begins ranked =
    let w : Any (IsFoundFor file g) list = listed file g list tells.tidy begins ranked in
    (w.0, w.1, w.2, w.3, record { found = w.4; files = tidy_told file g w.1 tells.tidy w.4; meta = own_meta file g w.1 tells w.4 })
