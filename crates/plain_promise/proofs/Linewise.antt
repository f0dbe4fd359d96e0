-- The lines of a script from a place in it on.
use Rattle.std.proofs.Common.{◌≡◌, ℕ, suc, ◌+◌, ◌-◌, ◌<◌, ◌≤◌, List, [], ◌∷◌, ◌++◌, length, get_or, take, drop, sym, ◌∙◌, ap, arith, take-append-drop, drop-cons}
use Rattle.std.proofs.lemmas.List.{drop-drop, take_all, drop_all}
use Rattle.std.proofs.lemmas.Grind.{common_steps}
use Rattle.call_script.specs.Lines.{NoBreak, lines}
use Rattle.call_script.proofs.Breaks.{line_first, line_last}
use Rattle.plain_promise.specs.Walks.{IsLine}

module _ (script : List ℕ) (at stop : ℕ) (from : at ≤ stop) (within : stop ≤ length script)
    (none : (k : ℕ) → at ≤ k → k < stop → get_or script k 0 ≡ 10 → ⊥) where
  abbrev text : List ℕ
  text = take (stop - at) (drop at script)

  there : (k : ℕ) → k < stop - at → get_or text k 0 ≡ get_or script (at + k) 0
  there k below = grind (arith, common_steps)

  long : length text ≡ stop - at
  long = grind (arith, common_steps)

  no_break : NoBreak text
  no_break = record { none = λ k below is. none (at + k) (omega arith) (omega (arith, below, long, from)) (sym (there k (omega (arith, below, long))) ∙ is) }

  behind_is : drop (stop - at) (drop at script) ≡ drop stop script
  behind_is = let same : at + (stop - at) ≡ stop = omega (arith, from) in drop-drop (stop - at) at script ∙ ap (λ (n : ℕ). drop n script) same

  -- a line that byte 10 ends
  pub line_ended : stop < length script → get_or script stop 0 ≡ 10 → IsLine script at text (stop + 1)
  line_ended less ten =
      let next : stop + 1 ≡ suc stop = omega arith in
      let rest : drop stop script ≡ 10 ∷ drop (stop + 1) script = drop-cons script stop 0 less ∙ ap (λ (b : ℕ). b ∷ drop (suc stop) script) ten ∙ ap (λ (n : ℕ). 10 ∷ drop n script) (sym next) in
      record {
        lines_are = ap lines (sym (take-append-drop (stop - at) (drop at script)) ∙ ap (λ (l : List ℕ). text ++ l) (behind_is ∙ rest)) ∙ line_first text (drop (stop + 1) script) no_break;
        on = omega (arith, from);
        within = omega (arith, less);
      }

  -- the last one
  pub line_unended : at < length script → stop ≡ length script → IsLine script at text stop
  unfolding lines
  line_unended some is =
      let none_left : drop stop script ≡ [] = drop_all stop script (omega (arith, is)) in
      let whole : drop at script ≡ text = sym (take_all (stop - at) (drop at script) (grind (arith, common_steps))) in
      record {
        lines_are = ap lines whole ∙ line_last text (omega (arith, long, some, is)) no_break ∙ ap (λ (l : List ℕ). text ∷ lines l) (sym none_left);
        on = omega (arith, some, is);
        within = within;
      }

-- no line is left at the end
pub lines_none : (script : List ℕ) (at : ℕ) → length script ≤ at → lines (drop at script) ≡ []
unfolding lines
lines_none script at past = ap lines (drop_all at script past)
