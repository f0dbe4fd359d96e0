use Rattle.std.proofs.Common.{◌≡◌, ℕ, ◌<◌, ◌≤◌, subst, arith, ⊎_elim}
use Rattle.volume_detect.specs.Places.{IsFoundAt}
use Rattle.std.proofs.lemmas.Bool.{cases_lt}
use Rattle.volume_detect.proofs.Found.{place_inside}
use Rattle.volume_detect.proofs.finding.next_candidate.Goals as goal

pub loop-place-init : goal.loop-place-init
loop-place-init c = record { end = c.place_count-place-end.ensures; from = omega arith; none = λ file has p h low high found. omega (arith, low, high) }

pub loop-place-preserved : goal.loop-place-preserved
loop-place-preserved c =
    let was = c.loop-place.invariant in
    record {
      end = was.end;
      from = omega (arith, was.from);
      none = λ file has p h low high found. ⊎_elim
          (λ (below : p < c.loop-place.place). was.none file has p h low below found)
          (λ (above : c.loop-place.place ≤ p). let same : p ≡ c.loop-place.place = omega (arith, high) in c.in-None.ensures file has h (subst (λ (x : ℕ). IsFoundAt file x h) same found))
          (cases_lt p c.loop-place.place);
    }

pub returns-in-Some : goal.returns-in-Some
returns-in-Some c = λ file has. (c.loop-place.invariant.from, c.in-Some.ensures file has, c.loop-place.invariant.none file has)

pub returns : goal.returns
returns c = λ file has p h low found.
    let inside = place_inside file p h found in
    c.loop-place.invariant.none file has p h low (omega (arith, inside, has.size, c.loop-place.invariant.end, c.loop-place-test.false)) found
