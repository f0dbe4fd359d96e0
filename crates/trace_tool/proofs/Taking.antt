-- How a script is taken piece by piece.
use Rattle.std.proofs.Common.{◌≡◌, ℕ, ◌+◌, ◌<◌, ◌≤◌, List, [], ◌++◌, length, take, sym, ◌∙◌, ap, arith, refl, length-append}
use Rattle.std.proofs.lemmas.List.{length-take-le}
use Rattle.nor_core.specs.declared.source.Source.{Ghosts as SourceOf}
use Rattle.trace_tool.specs.Copies.{IsScriptOf, IsLongScript}

-- the first bytes of a text are those of a script
pub record IsTaken {X : Type 0} (source : SourceOf X) (old now : X) (text : List ℕ) (end : ℕ) : Type 0 where
  pub within : end ≤ length text
  pub faults : source.faults old ≤ source.faults now
  pub told : source.tells old → source.tells now
  pub took : source.tells old → source.left old ≡ take end text ++ source.left now

module _ {X : Type 0} {source : SourceOf X} where
  -- nothing yet
  pub taken_none : (d : X) (text : List ℕ) → IsTaken source d d text 0
  taken_none d text = record { within = omega arith; faults = omega arith; told = λ tells. tells; took = λ tells. sym (ap (λ (l : List ℕ). l ++ source.left d) (take-none text)) }
    where
      take-none : (l : List ℕ) → take 0 l ≡ []
      take-none l = refl

  -- one piece more
  pub taken_more : {old mid new : X} (text later : List ℕ) (end n : ℕ) → IsTaken source old mid text end → end + n ≤ length later → source.faults mid ≤ source.faults new → (source.tells mid → source.tells new)
      → (source.tells mid → take end text ++ source.left mid ≡ take (end + n) later ++ source.left new) → IsTaken source old new later (end + n)
  taken_more {old} {mid} {new} text later end n was within faults told took = record {
    within = within;
    faults = omega (arith, was.faults, faults);
    told = λ tells. told (was.told tells);
    took = λ tells. was.took tells ∙ took (was.told tells);
  }

  -- a script that ended in the bytes is whole
  pub script_whole : {d : X} (text : List ℕ) (end : ℕ) → end ≤ length text → end ≤ 16384 → (source.tells d → source.left d ≡ take end text) → IsScriptOf source d (take end text)
  script_whole text end within few whole = record {
    short = omega (arith, few, length-take-le end text within);
    told = λ tells. sym (whole tells);
  }

-- one of which more was taken is long
pub script_long : {X : Type 0} (source : SourceOf X) (old new : X) (text : List ℕ) (end : ℕ) → end ≤ length text → 16384 < end → (source.tells old → source.left old ≡ take end text ++ source.left new) → IsLongScript source old
script_long source old new text end within more took = λ tells. omega (arith, more, length-take-le end text within, ap length (took tells) ∙ length-append (take end text) (source.left new))

-- the bytes that are kept of a script that ended
pub script_kept : {X : Type 0} (source : SourceOf X) (d : X) (text kept : List ℕ) (end : ℕ) → length text ≡ 16385 → end ≤ 16384 → kept ≡ take end text → (source.tells d → end < length text → source.left d ≡ take end text) → IsScriptOf source d kept
script_kept source d text kept end size few kept_is whole = record {
  short = omega (arith, few, ap length kept_is, length-take-le end text (omega (arith, size, few)));
  told = λ tells. kept_is ∙ sym (whole tells (omega (arith, size, few)));
}
