-- What a check leaves and says with its closing line.
use Rattle.std.proofs.Common.{◌≡◌, ℕ, List, [], ◌∷◌, ◌++◌, length, take, refl, sym, ◌∙◌, ap, subst, arith, inl, inr, ⊎_elim, append-nil, length-append, Option, Some}
use Rattle.std.specs.Prelude.{unwrap_or}
use Rattle.geometry.specs.declared.geometry.Geometry.{Geometry}
use Rattle.nor_core.specs.declared.state.NorState.{Ghosts as NorOf}
use Rattle.nor_core.specs.Count.{Rose}
use Rattle.nor_core.specs.Device.{Leaves}
use Rattle.nor_core.proofs.Cuts.{andthen, widened}
use Rattle.flash_view.specs.Same.{StaysBehind}
use Rattle.image_model.specs.Tables.{damaged_of}
use Rattle.image_model.specs.Tidy.{free_blocks}
use Rattle.tool_parts.specs.declared.ending.Ending.{Ending}
use Rattle.tool_parts.specs.declared.ending.Ending.TheVariants.{BoardFault}
use Rattle.tool_parts.specs.Closing.{status_of, closing_line_of}
use Rattle.tool_parts.specs.Mounting.{Checks}
use Rattle.tool_parts.specs.Endings.{OnlyCloses, Concludes}
use Rattle.tool_parts.specs.Reads.{ReadsOnce}
use Rattle.tool_parts.specs.Refusals.{check_refusal, report_ending, check_ending, unless_refused}
use Rattle.tool_core.specs.Checking.{check_text, reported_text, IsOrdered, IsOrderedOnceSaid, ChecksTo, CheckCut, DoesCheck}
use Rattle.tool_parts.proofs.Mounted.{safe_check, holds_check}
use Rattle.tool_core.proofs.CheckEnds.{other_first, same_after}
use Rattle.tool_parts.proofs.Reading.{reads_said, behind_closed}
use Rattle.tool_parts.proofs.Refusals.{option_cases, refusal_line, check_not_tight}
use Rattle.tool_parts.proofs.Speaking.{concludes, within, none_closed, mended_closed}

-- a closing line is no line of a report
not_closing : (n : ℕ) (said closing first tail : List ℕ) (x y : ℕ) (xs ys : List ℕ) → closing ≡ x ∷ xs → first ++ tail ≡ y ∷ ys → (x ≡ y → ⊥) → said ++ take n closing ≡ said ++ (first ++ tail) → ⊥
not_closing n said closing first tail x y xs ys is other apart e =
    other_first n x y xs ys apart (sym (ap (take n) is) ∙ same_after said (take n closing) (first ++ tail) e ∙ other)

module _ {D : Type 0} {nor : NorOf D} where
  -- where no report was said, none was said whole
  not_reported : (g : Geometry) {mid : D} (old new : D) (result : Ending) {status : ℕ} (ending : Ending) (tail : List ℕ) → check_refusal g (nor.bytes old) ≡ Some ending → result ≡ ending → nor.said mid ≡ nor.said old ++ [] → OnlyCloses nor mid new result status →
      nor.said new ≡ nor.said old ++ (check_text g (nor.bytes old) (nor.bytes new) ++ tail) → ⊥
  not_reported g {mid} old new result ending tail refused is said closes e =
      let line = refusal_line g (nor.bytes old) ending refused in
      let closing = closing_line_of result in
      let n = closes.says.said.0 in
      let before : nor.said mid ≡ nor.said old = said ∙ append-nil (nor.said old) in
      not_closing n (nor.said old) closing (check_text g (nor.bytes old) (nor.bytes new)) tail 33 101 line.0 _ (ap closing_line_of is ∙ line.1) refl (λ same. omega (arith, same))
      (sym (ap (λ (l : List ℕ). l ++ take n closing) before) ∙ sym closes.says.said.1 ∙ e)

module _ {D : Type 0} {nor : NorOf D} {g : Geometry} where
  -- a report that was said whole tells of an image in order
  ordered_said : {old mid new : D} (result : Ending) (status : ℕ) → ChecksTo nor g old mid result → OnlyCloses nor mid new result status → nor.tells old → IsOrderedOnceSaid nor g old new
  ordered_said {old} {mid} {new} result status checks closes tells = λ tail e. ⊎_elim
      (λ broken.
      let still : mid ≡ new = sym (closes.silent (ap closing_line_of broken.0)) in
      let kept : ChecksTo nor g old new result = subst (λ (d : D). ChecksTo nor g old d result) still checks in
      kept.ordered tells tail e)
      (λ said. ⊎_elim
      (λ takes.
      let text : reported_text g (nor.bytes old) (nor.bytes mid) ≡ check_text g (nor.bytes old) (nor.bytes mid) ++ [] = ap (λ (o : Option Ending). unless_refused o (check_text g (nor.bytes old) (nor.bytes mid))) takes ∙ sym (append-nil (check_text g (nor.bytes old) (nor.bytes mid))) in
      subst (λ (l : List ℕ). IsOrdered g l) (sym closes.says.bytes) (checks.ordered tells [] (said.1 ∙ ap (λ (l : List ℕ). nor.said old ++ l) text)))
      (λ refused.
      let ending = refused.0 in
      let is : result ≡ ending = said.0 ∙ ap (λ (o : Option Ending). unwrap_or o (report_ending (length (damaged_of g (nor.bytes old))) (free_blocks g (nor.bytes mid)))) refused.1 in
      let none : nor.said mid ≡ nor.said old ++ [] = said.1 ∙ ap (λ (o : Option Ending). nor.said old ++ unless_refused o (check_text g (nor.bytes old) (nor.bytes mid))) refused.1 in
      absurd (not_reported g old new result ending tail refused.1 is none closes e))
      (option_cases (check_refusal g (nor.bytes old))))
      (checks.speaks tells)

  -- a cut in it
  check_cuts : {old mid new : D} (result : Ending) (status : ℕ) → ChecksTo nor g old mid result → OnlyCloses nor mid new result status → Leaves nor old new (λ image count. nor.tells old → CheckCut nor g old mid image count)
  check_cuts {old} {mid} {new} result status checks closes =
      let text = reported_text g (nor.bytes old) (nor.bytes mid) in
      let ending = check_ending g (nor.bytes old) (nor.bytes mid) in
      andthen
      (widened checks.cuts (λ image count here tells.
      let i = here tells in
      let both = length-append text (closing_line_of ending) in
      record { table = i.leaves.table; safe = safe_check i.leaves; least = i.least; most = omega (arith, i.most, both); once_said = i.once_said }))
      (widened closes.cuts (λ image count here tells.
      let is : image ≡ nor.bytes mid = here.all_bytes (checks.cuts.told tells) in
      let left : Checks g (nor.bytes old) image = subst (λ (l : List ℕ). Checks g (nor.bytes old) l) (sym is) (checks.leaves tells) in
      let bounds = within text ending result count (checks.speaks tells) here.least here.most in
      record { table = left.table; safe = safe_check left; least = bounds.0; most = bounds.1; once_said = λ more. is }))

  -- the images that a cut is told by
  cut_as : {old mid new : D} {image : List ℕ} {count : ℕ} → nor.bytes new ≡ nor.bytes mid → CheckCut nor g old mid image count → CheckCut nor g old new image count
  cut_as {old} {mid} {new} {image} {count} same c =
      let longest : List ℕ → ℕ = λ (l : List ℕ). length (reported_text g (nor.bytes old) l ++ closing_line_of (check_ending g (nor.bytes old) l)) in
      record { table = c.table; safe = c.safe; least = c.least; most = omega (arith, c.most, ap longest same); once_said = λ more. c.once_said more ∙ sym same }

  -- a whole check
  pub check_does : {old mid new : D} (cache : ℕ) (result : Ending) (status : ℕ) → ChecksTo nor g old mid result → (result ≡ BoardFault → Rose (nor.faults old) (nor.faults mid)) → StaysBehind nor g old mid → ReadsOnce nor g cache old mid → OnlyCloses nor mid new result status → DoesCheck nor g cache old new status
  check_does {old} {mid} {new} cache result status checks cause behind reads closes =
      let left : nor.tells old → Checks g (nor.bytes old) (nor.bytes new) = λ tells. subst (λ (l : List ℕ). Checks g (nor.bytes old) l) (sym closes.says.bytes) (checks.leaves tells) in
      record {
        told = λ tells. subst (λ (l : List ℕ). Concludes nor old new (reported_text g (nor.bytes old) l) (check_ending g (nor.bytes old) l) status) (sym closes.says.bytes)
            (concludes (reported_text g (nor.bytes old) (nor.bytes mid)) (check_ending g (nor.bytes old) (nor.bytes mid)) result status (checks.cuts.told tells) checks.cuts.faults cause (checks.speaks tells) closes);
        table = λ tells. (left tells).table;
        holds = λ tells. holds_check (left tells);
        ordered = ordered_said result status checks closes;
        mends = λ tells may. mended_closed g result (⊎_elim
            (λ broken. inl broken)
            (λ reserve. inr (
              reserve,
              λ tight. ⊎_elim
                  (λ broken. omega (arith, tight, ap status_of broken.0))
                  (λ said. check_not_tight g (nor.bytes old) (nor.bytes mid) may.takes reserve (sym (ap status_of said.0) ∙ tight))
                  (checks.speaks tells),
            ))
            (checks.mends tells may)) closes;
        kept = λ tells ending refused. none_closed (checks.kept tells ending refused) closes;
        idle = λ tells tidy reserve. none_closed (checks.idle tells tidy reserve) closes;
        cuts = widened (check_cuts result status checks closes) (λ image count here tells. cut_as closes.says.bytes (here tells));
        behind = behind_closed behind closes;
        reads = reads_said cache reads closes.says closes.cuts.faults;
      }
