use Rattle.std.proofs.Common.{ℕ, List, length, take, inr, refl, subst}
use Rattle.std.proofs.lemmas.List.Sorted.{length_permutation}
use Rattle.detect_tool.specs.Ranked.{AreRanked}
use Rattle.detect_tool.proofs.Ranking.{ranking_of}
use Rattle.detect_tool.proofs.Detected.{places_rise, are_ranked, status_as, detects_all, detects_front}
use Rattle.detect_tool.proofs.tool.detect_on.Goals as goal

pub returns-in-Ok-clause-detects : goal.returns-in-Ok-clause-detects
returns-in-Ok-clause-detects g c =
    let chip = c.read_chip.new.into in
    let found = c.find_all-count.new.found in
    let n = c.find_all-count.result in
    let room = c.find_all-count.ensures.few in
    let are = c.find_all-count.ensures.all in
    let w = ranking_of (take n found) (places_rise chip found n room are) in
    inr (detects_all w.0 c.status_of.result c.read_chip.ensures.reads
    (λ tells. subst (λ (l : List ℕ). AreRanked l w.0) (c.in_default.ensures.told tells) (are_ranked chip found n room are w.0 w.1))
    c.in-Ok.field-0
    (status_as w.0 c.status_of.result (length (take n found)) (length_permutation (take n found) w.0 w.1.same) c.status_of.ensures.some c.status_of.ensures.none)
    (c.in-Ok.ensures.says w.0 w.1))

pub returns-in-Err-say_list-clause-detects : goal.returns-in-Err-say_list-clause-detects
returns-in-Err-say_list-clause-detects g c =
    let chip = c.read_chip.new.into in
    let found = c.find_all-count.new.found in
    let n = c.find_all-count.result in
    let room = c.find_all-count.ensures.few in
    let are = c.find_all-count.ensures.all in
    let w = ranking_of (take n found) (places_rise chip found n room are) in
    inr (detects_front w.0 7 c.read_chip.ensures.reads
    (λ tells. subst (λ (l : List ℕ). AreRanked l w.0) (c.in_default.ensures.told tells) (are_ranked chip found n room are w.0 w.1))
    _
    refl
    c.in-Err-say_list.ensures.cause
    (c.in-Err-say_list.ensures.says w.0 w.1))
