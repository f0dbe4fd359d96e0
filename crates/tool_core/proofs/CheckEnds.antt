-- How a check ends, before its closing line and with it.
use Rattle.std.proofs.Common.{◌≡◌, ℕ, ◌≤◌, List, [], ◌∷◌, ◌++◌, length, take, drop, refl, sym, ◌∙◌, ap, subst, arith, inl, inr, ⊎_elim, append-nil, length-append, Bool, Option}
use Rattle.std.specs.Prelude.{zero, suc, unwrap_or}
use Rattle.std.proofs.lemmas.List.{take-append-drop}
use Rattle.geometry.specs.declared.geometry.Geometry.{Geometry}
use Rattle.nor_core.specs.declared.state.NorState.{Ghosts as NorOf}
use Rattle.nor_core.specs.Device.{Leaves, InSay, OnlyReads, Says, Changes}
use Rattle.nor_core.proofs.Cuts.{andthen, widened}
use Rattle.image_model.specs.Tables.{damaged_of}
use Rattle.image_model.specs.Tidy.{IsTidy, HasReserve, free_blocks}
use Rattle.vol_check.specs.declared.report.Report.{Report}
use Rattle.volume.specs.Checking.{CheckDone}
use Rattle.tool_parts.specs.declared.ending.Ending.{Ending}
use Rattle.tool_parts.specs.declared.ending.Ending.TheVariants.{BoardFault}
use Rattle.tool_parts.specs.Mounting.{Checks, Reported, StopsCheck}
use Rattle.tool_core.specs.Checking.{report_text, check_text, reported_text, ReportCut, IsOrderedOnceSaid, ChecksTo}
use Rattle.tool_parts.specs.Endings.{Speaks}
use Rattle.tool_parts.specs.Refusals.{report_ending, check_ending}
use Rattle.tool_parts.proofs.Refusals.{not_both}
use Rattle.tool_parts.proofs.Speaking.{writes_none, none_said}

-- a front of one text is no text with another first byte
pub other_first : (n x y : ℕ) (xs ys : List ℕ) → (x ≡ y → ⊥) → take n (x ∷ xs) ≡ y ∷ ys → ⊥
other_first zero x y xs ys apart e = absurd (omega (arith, ap length e))
other_first (suc n) x y xs ys apart e = apart cc

-- bytes that were said once are said once
pub same_after : (said xs ys : List ℕ) → said ++ xs ≡ said ++ ys → xs ≡ ys
same_after [] xs ys e = e
same_after (b ∷ said) xs ys e = same_after said xs ys cc

same_line : (e e' : Bool) (k k' d d' f f' : ℕ) → e ≡ e' → k ≡ k' → d ≡ d' → f ≡ f' → report_text e k d f ≡ report_text e' k' d' f'
same_line e e' k k' d d' f f' erased killed damaged free =
    ap (λ (x : Bool). report_text x k d f) erased ∙ ap (λ (x : ℕ). report_text e' x d f) killed ∙ ap (λ (x : ℕ). report_text e' k' x f) damaged ∙ ap (λ (x : ℕ). report_text e' k' d' x) free

nothing_else : (said first tail : List ℕ) → 1 ≤ length first → said ≡ said ++ (first ++ tail) → ⊥
nothing_else said first tail some e =
    let l = ap length e ∙ length-append said (first ++ tail) in
    let m = length-append first tail in
    omega (arith, l, m, some)

-- the line of a report is that of the images
line_of : (g : Geometry) (was now : List ℕ) (report : Report) → CheckDone g was now report → report_text report.erased report.killed report.damaged report.free_blocks ≡ check_text g was now
line_of g was now report done = same_line _ _ _ _ _ _ _ _ done.erased done.killed done.damaged done.free

-- the line of a report
report_text_is : (g : Geometry) (was now : List ℕ) (report : Report) {piece : List ℕ} → piece ≡ report_text report.erased report.killed report.damaged report.free_blocks → Reported g was now report → piece ≡ reported_text g was now
report_text_is g was now report piece_is reported = rw reported.takes (piece_is ∙ line_of g was now report reported.done)

-- a tidy image with two free blocks is only read
abbrev pub IsIdle : {D : Type 0} (nor : NorOf D) (g : Geometry) (old new : D) → Type 0
IsIdle nor g old new = nor.tells old → IsTidy g (nor.bytes old) → HasReserve g (nor.bytes old) → OnlyReads nor old new

module _ {D : Type 0} {nor : NorOf D} {g : Geometry} where
  -- a change before which and in which nothing was said
  unsaid : {old new : D} → Changes nor old new (Checks g) → Leaves nor old new (λ image count. nor.tells old → ReportCut nor g old new image count)
  unsaid {old} {new} changes = widened changes.cuts (λ image count here tells. record {
    leaves = here.1 tells;
    least = omega (arith, here.0);
    most = omega (arith, here.0);
    once_said = λ more. absurd (omega (arith, here.0, more));
  })

  pub said_none : {old new : D} → Changes nor old new (Checks g) → nor.said new ≡ nor.said old ++ []
  said_none {old} {new} changes = changes.said ∙ sym (append-nil (nor.said old))

  unsaid_order : {old new : D} → Changes nor old new (Checks g) → IsOrderedOnceSaid nor g old new
  unsaid_order {old} {new} changes = λ tail e. absurd (nothing_else (nor.said old) (check_text g (nor.bytes old) (nor.bytes new)) tail (omega arith) (sym changes.said ∙ e))

  -- a check that said no report: the board failed, or the image wasn't taken
  pub check_stopped : {old new : D} (ending : Ending) → Changes nor old new (Checks g) → IsIdle nor g old new → (nor.tells old → StopsCheck nor g old new ending) → ChecksTo nor g old new ending
  check_stopped {old} {new} ending changes idle stops = record {
    cuts = unsaid changes;
    speaks = λ tells. ⊎_elim
        (λ fault. inl (fault.fault, record { part = []; rest = reported_text g (nor.bytes old) (nor.bytes new); said = said_none changes; whole_is = refl }))
        (λ refused. rw refused.refusal (inr (refl, said_none changes)))
        (stops tells);
    kept = λ tells why is. ⊎_elim (λ fault. writes_none (fault.looks why is)) (λ refused. writes_none refused.reads) (stops tells);
    idle = λ tells tidy reserve. writes_none (idle tells tidy reserve);
    leaves = changes.now;
    ordered = λ tells. unsaid_order changes;
    mends = λ tells may. ⊎_elim (λ fault. inl fault.fault) (λ refused. absurd (not_both may.takes refused.refusal)) (stops tells);
  }

  -- a cut in a check that said the line of its report, or a front of it
  report_cuts : {old mid new : D} {piece : List ℕ} → Changes nor old mid (Checks g) → Says nor mid new piece → Leaves nor mid new (InSay nor mid piece) → (nor.tells old → piece ≡ reported_text g (nor.bytes old) (nor.bytes new)) →
      Leaves nor old new (λ image count. nor.tells old → ReportCut nor g old new image count)
  report_cuts {old} {mid} {new} {piece} changes says leaves text = andthen
      (widened changes.cuts (λ image count here tells. record {
        leaves = here.1 tells;
        least = omega (arith, here.0);
        most = omega (arith, here.0);
        once_said = λ more. absurd (omega (arith, here.0, more));
      }))
      (widened leaves (λ image count here tells.
      let is : image ≡ nor.bytes mid = here.all_bytes (changes.cuts.told tells) in
      let before = ap length changes.said in
      record {
        leaves = subst (λ (l : List ℕ). Checks g (nor.bytes old) l) (sym is) (changes.now tells);
        least = omega (arith, here.least, before);
        most = omega (arith, here.most, before, ap length (text tells));
        once_said = λ more. is ∙ sym says.bytes;
      }))

  reported_said : {old mid new : D} {piece : List ℕ} (report : Report) → Says nor mid new piece → Reported g (nor.bytes old) (nor.bytes mid) report → Reported g (nor.bytes old) (nor.bytes new) report
  reported_said {old} {mid} {new} report says done = subst (λ (l : List ℕ). Reported g (nor.bytes old) l report) (sym says.bytes) done

  -- a check that came to its report
  with_report : {old mid new : D} {piece : List ℕ} (result : Ending) (report : Report) → piece ≡ report_text report.erased report.killed report.damaged report.free_blocks → Changes nor old mid (Checks g) → IsIdle nor g old mid →
      (nor.tells old → Reported g (nor.bytes old) (nor.bytes mid) report) → Says nor mid new piece → Leaves nor mid new (InSay nor mid piece) →
      (nor.tells old → Speaks nor old new (reported_text g (nor.bytes old) (nor.bytes new)) (check_ending g (nor.bytes old) (nor.bytes new)) result) → ChecksTo nor g old new result
  with_report {old} {mid} {new} {piece} result report piece_is changes idle done says leaves speaks = record {
    cuts = report_cuts changes says leaves (λ tells. report_text_is g (nor.bytes old) (nor.bytes new) report piece_is (reported_said report says (done tells)));
    speaks = speaks;
    kept = λ tells why is. absurd (not_both (done tells).takes is);
    idle = λ tells tidy reserve. none_said (idle tells tidy reserve) says leaves;
    leaves = λ tells. subst (λ (l : List ℕ). Checks g (nor.bytes old) l) (sym says.bytes) (changes.now tells);
    ordered = λ tells tail e. let w = (reported_said report says (done tells)).done in record { tidy = w.tidy; stopped = w.stopped };
    mends = λ tells may. inr ((reported_said report says (done tells)).mends may.comes_back);
  }

  -- a check that said its report
  pub check_reported : {old mid new : D} {piece : List ℕ} (result : Ending) (report : Report) → piece ≡ report_text report.erased report.killed report.damaged report.free_blocks → result ≡ report_ending report.damaged report.free_blocks → Changes nor old mid (Checks g) → IsIdle nor g old mid →
      (nor.tells old → Reported g (nor.bytes old) (nor.bytes mid) report) → Says nor mid new piece → Leaves nor mid new (InSay nor mid piece) → (nor.tells mid → nor.said new ≡ nor.said mid ++ piece) → ChecksTo nor g old new result
  check_reported {old} {mid} {new} {piece} result report piece_is is changes idle done says leaves whole =
      with_report result report piece_is changes idle done says leaves (λ tells.
      let now = reported_said report says (done tells) in
      let text = report_text_is g (nor.bytes old) (nor.bytes new) report piece_is now in
      inr (
        is ∙ ap (λ (n : ℕ). report_ending n report.free_blocks) now.done.damaged ∙ ap (report_ending (length (damaged_of g (nor.bytes old)))) now.done.free ∙ sym (ap (λ (o : Option Ending). unwrap_or o (report_ending (length (damaged_of g (nor.bytes old))) (free_blocks g (nor.bytes new)))) now.takes),
        whole (changes.cuts.told tells) ∙ ap (λ (l : List ℕ). l ++ piece) changes.said ∙ ap (λ (l : List ℕ). nor.said old ++ l) text,
      ))

  -- the board failed as it said it
  pub check_broken : {old mid new : D} {piece : List ℕ} (report : Report) → piece ≡ report_text report.erased report.killed report.damaged report.free_blocks → Changes nor old mid (Checks g) → IsIdle nor g old mid →
      (nor.tells old → Reported g (nor.bytes old) (nor.bytes mid) report) → Says nor mid new piece → Leaves nor mid new (InSay nor mid piece) → ChecksTo nor g old new BoardFault
  check_broken {old} {mid} {new} {piece} report piece_is changes idle done says leaves =
      let n = says.said.0 in
      with_report BoardFault report piece_is changes idle done says leaves (λ tells.
      let text = report_text_is g (nor.bytes old) (nor.bytes new) report piece_is (reported_said report says (done tells)) in
      inl (
        refl,
        record {
          part = take n piece;
          rest = drop n piece;
          said = says.said.1 ∙ ap (λ (l : List ℕ). l ++ take n piece) changes.said;
          whole_is = sym text ∙ sym (take-append-drop n piece);
        },
      ))
