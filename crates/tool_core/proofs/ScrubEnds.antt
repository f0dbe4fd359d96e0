-- How a scrub ends before its closing line.
use Rattle.std.proofs.Common.{◌≡◌, ℕ, ◌+◌, ◌<◌, ◌≤◌, ◌⊎◌, List, [], ◌++◌, length, take, drop, refl, sym, ◌∙◌, ap, subst, arith, inl, inr, ⊎_elim, append-nil, Option, Some, None, Result, Ok, Err}
use Rattle.std.specs.Prelude.{unwrap_or}
use Rattle.std.proofs.lemmas.List.{take-append-drop}
use Rattle.geometry.specs.declared.geometry.Geometry.{Geometry}
use Rattle.nor_core.specs.declared.state.NorState.{Ghosts as NorOf}
use Rattle.nor_core.specs.Device.{Leaves, InSay, OnlyReads, Says, Changes}
use Rattle.nor_core.proofs.Cuts.{andthen, widened, wider, go_on}
use Rattle.image_model.specs.Tables.{table_of}
use Rattle.image_model.specs.Tidy.{IsTidy, HasReserve, free_blocks}
use Rattle.call_model.specs.Memory.{Memory}
use Rattle.call_model.specs.Safe.{IsSafe, HoldsImage}
use Rattle.call_model.proofs.Safety.{holds_safe, holds_then, safe_as}
use Rattle.vol_check.specs.declared.report.Report.{Report}
use Rattle.tool_parts.specs.declared.ending.Ending.{Ending}
use Rattle.tool_parts.specs.declared.ending.Ending.TheVariants.{Done, BoardFault}
use Rattle.tool_core.specs.declared.scrubbing.Tally.{Tally}
use Rattle.tool_parts.specs.Begins.{StopsRun, CheckLeaves}
use Rattle.tool_parts.specs.Closing.{status_of}
use Rattle.tool_parts.specs.Endings.{Speaks}
use Rattle.tool_parts.specs.Mounting.{Checks, Reported, IsMendable, LeavesFiles}
use Rattle.tool_parts.specs.Refusals.{check_refusal, begin_refusal, unless_refused}
use Rattle.tool_core.specs.Scrubbing.{scrub_text, moved_text, scrub_ending, IsTally, KeepsFiles, Makes, ScrubCut, StopsScrub, SaysScrub, ScrubEnds, Scrubbed, ScrubsTo}
use Rattle.tool_parts.proofs.Begun.{begins_on}
use Rattle.script_run.proofs.Beginning.{early_why}
use Rattle.tool_parts.proofs.Mounted.{safe_check, holds_check}
use Rattle.tool_parts.proofs.Refusals.{not_both, begin_undone}
use Rattle.tool_parts.proofs.Speaking.{writes_none}

-- how the steps went
pub makes_ok : {D T : Type 0} {nor : NorOf D} {g : Geometry} {slots : ℕ} {old new : D} {now : Memory} {result : Result T Ending} {x : T} {Is : List ℕ → List ℕ → T → Type 0} → result ≡ Ok x → Makes nor g slots old new now result Is → Makes nor g slots old new now (Ok x) Is
makes_ok {D} {T} {nor} {g} {slots} {old} {new} {now} {result} {x} {Is} is made = subst (λ (r : Result T Ending). Makes nor g slots old new now r Is) is made

pub makes_err : {D T : Type 0} {nor : NorOf D} {g : Geometry} {slots : ℕ} {old new : D} {now : Memory} {result : Result T Ending} {ending : Ending} {Is : List ℕ → List ℕ → T → Type 0} → result ≡ Err ending → Makes nor g slots old new now result Is → Makes nor g slots old new now (Err ending) Is
makes_err {D} {T} {nor} {g} {slots} {old} {new} {now} {result} {ending} {Is} is made = subst (λ (r : Result T Ending). Makes nor g slots old new now r Is) is made

-- ---- on a checked volume

module _ {D : Type 0} {nor : NorOf D} {g : Geometry} {slots limit : ℕ} where
  -- the board failed in the steps
  pub ends_stopped : {old new : D} {now : Memory} (ending : Ending) → Makes {T = Tally} nor g slots old new now (Err ending) (IsTally g limit) → ScrubEnds nor g limit old new ending
  ends_stopped ending made = inl (record { changes = made.changes; fault = made.done })

  says_tally : {old mid new : D} {w : Memory} {piece : List ℕ} (tally : Tally) (result : Ending) → Makes nor g slots old mid w (Ok tally) (IsTally g limit) → piece ≡ scrub_text tally.moved tally.free tally.last → Says nor mid new piece → Leaves nor mid new (InSay nor mid piece) →
      ((result ≡ BoardFault) ⊎ ((result ≡ Done) × (nor.tells mid → nor.said new ≡ nor.said mid ++ piece))) → SaysScrub nor g limit old new result
  says_tally {old} {mid} {new} tally result made is says cuts ends = record {
    moved = tally.moved;
    last = tally.last;
    free = tally.free;
    mid = mid;
    changes = made.changes;
    made = λ tells tidy reserve. let done = made.done tells tidy reserve in (done.scrubbed, done.free);
    says = subst (λ (l : List ℕ). Says nor mid new l) is says;
    cuts = subst (λ (l : List ℕ). Leaves nor mid new (InSay nor mid l)) is cuts;
    ends = subst (λ (l : List ℕ). (result ≡ BoardFault) ⊎ ((result ≡ Done) × (nor.tells mid → nor.said new ≡ nor.said mid ++ l))) is ends;
  }

  -- the line was said
  pub ends_said : {old mid new : D} {w : Memory} {piece : List ℕ} (tally : Tally) → Makes nor g slots old mid w (Ok tally) (IsTally g limit) → piece ≡ scrub_text tally.moved tally.free tally.last → Says nor mid new piece → Leaves nor mid new (InSay nor mid piece) → (nor.tells mid → nor.said new ≡ nor.said mid ++ piece) →
      ScrubEnds nor g limit old new Done
  ends_said tally made is says cuts whole = inr (says_tally tally Done made is says cuts (inr (refl, whole)))

  -- the board failed as it was said
  pub ends_broken : {old mid new : D} {w : Memory} {piece : List ℕ} (tally : Tally) → Makes nor g slots old mid w (Ok tally) (IsTally g limit) → piece ≡ scrub_text tally.moved tally.free tally.last → Says nor mid new piece → Leaves nor mid new (InSay nor mid piece) → ScrubEnds nor g limit old new BoardFault
  ends_broken tally made is says cuts = inr (says_tally tally BoardFault made is says cuts (inl refl))

-- ---- with the check before the steps

module _ {D : Type 0} {nor : NorOf D} where
  -- nothing was said
  pub said_nothing : {old new : D} {R : List ℕ → List ℕ → Type 0} → Changes nor old new R → nor.said new ≡ nor.said old ++ []
  said_nothing {old} changes = changes.said ∙ sym (append-nil (nor.said old))

  pub none_said_of : {old new : D} {R : List ℕ → List ℕ → Type 0} (text : List ℕ) (ending result : Ending) → Changes nor old new R → result ≡ BoardFault → Speaks nor old new text ending result
  none_said_of text ending result changes fault = inl (fault, record { part = []; rest = text; said = said_nothing changes; whole_is = refl })

module _ {D : Type 0} {nor : NorOf D} {g : Geometry} where
  pub check_files : {old new : D} → Changes nor old new (Checks g) → Changes nor old new (LeavesFiles g)
  check_files changes = wider changes (λ tells image here. (safe_check here, here.table))

  -- a change of a tidy image that the check left
  pub after_check : {old mid new : D} {R : List ℕ → List ℕ → Type 0} → Changes nor old mid (Checks g) → (nor.tells old → IsTidy g (nor.bytes mid)) → Changes nor mid new R → (nor.tells old → (image : List ℕ) → R (nor.bytes mid) image → LeavesFiles g (nor.bytes mid) image) → Changes nor old new (LeavesFiles g)
  after_check {old} {mid} {new} first tidy second keeps = go_on (check_files first) second (λ tells image before after.
      let files = keeps tells image after in
      (holds_safe g (nor.bytes old) (nor.bytes mid) image (holds_check (first.now tells)) (tidy tells) files.0, files.1 ∙ before.1))

  -- steps of a scrub behind the check
  after_steps : {old mid new : D} → Changes nor old mid (Checks g) → (nor.tells old → CheckLeaves g (nor.bytes old) (nor.bytes mid)) → Changes nor mid new (KeepsFiles g) → Changes nor old new (LeavesFiles g)
  after_steps first leaves second = after_check first (λ tells. (leaves tells).tidy) second (λ tells image after. let left = leaves tells in after left.tidy left.reserve)

  -- a cut where nothing was said yet
  pub silent_cuts : {old new : D} (last : D) (text : List ℕ) → Changes nor old new (LeavesFiles g) → Leaves nor old new (λ image count. nor.tells old → ScrubCut nor g old last text image count)
  silent_cuts last text changes = widened changes.cuts (λ image count here tells. let files = here.1 tells in record {
    table = files.1;
    safe = files.0;
    least = omega (arith, here.0);
    most = omega (arith, here.0);
    once_said = λ more. absurd (omega (arith, here.0, more));
  })

  -- a volume whose images end the scrub
  speaks_refused : {old new : D} (ending : Ending) → Changes nor old new (Checks g) → begin_refusal g (nor.bytes old) (nor.bytes new) ≡ Some ending → Speaks nor old new (moved_text g (nor.bytes old) (nor.bytes new) 0 None) (scrub_ending g (nor.bytes old) (nor.bytes new)) ending
  speaks_refused ending changes is = rw is (inr (refl, said_nothing changes))

  -- a volume that wasn't checked, or has too few free blocks
  pub scrubs_stopped : {limit : ℕ} {old new : D} (ending : Ending) → Changes nor old new (Checks g) → (nor.tells old → StopsRun nor g old new ending) → ScrubsTo nor g limit old new ending
  scrubs_stopped {limit} {old} {new} ending changes stops = record {
    moved = 0;
    last = None;
    cuts = silent_cuts new (moved_text g (nor.bytes old) (nor.bytes new) 0 None) (check_files changes);
    speaks = λ tells. ⊎_elim
        (λ fault. none_said_of (moved_text g (nor.bytes old) (nor.bytes new) 0 None) (scrub_ending g (nor.bytes old) (nor.bytes new)) ending changes fault.fault)
        (λ ends. speaks_refused ending changes (early_why ends).refusal)
        (stops tells);
    done = λ tells is. absurd (⊎_elim
        (λ fault. let bad : Done ≡ BoardFault = sym is ∙ fault.fault in cc)
        (λ ends. begin_undone g (nor.bytes old) (nor.bytes new) ending (early_why ends).refusal (ap status_of is))
        (stops tells));
    table = λ tells. (changes.now tells).table;
    safe = λ tells. safe_check (changes.now tells);
    holds = λ tells. inr (holds_check (changes.now tells));
    mends = λ tells may. ⊎_elim (λ fault. inl fault.fault) (λ ends. absurd ((early_why ends).mends_not may)) (stops tells);
    kept = λ tells why is. ⊎_elim
        (λ fault. writes_none (fault.looks why is))
        (λ ends. ⊎_elim (λ refused. writes_none refused.reads) (λ tight. absurd (not_both tight.takes is)) ends)
        (stops tells);
  }

  -- the board failed in the steps
  steps_stopped : {limit : ℕ} {old mid new : D} (result : Ending) → Changes nor old mid (Checks g) → (nor.tells old → CheckLeaves g (nor.bytes old) (nor.bytes mid)) → StopsScrub nor g mid new result → ScrubsTo nor g limit old new result
  steps_stopped {limit} {old} {mid} {new} result changes leaves stops =
      let whole = after_steps changes leaves stops.changes in
      let fault : nor.tells old → result ≡ BoardFault = λ tells. let left = leaves tells in stops.fault (changes.cuts.told tells) left.tidy left.reserve in
      record {
        moved = 0;
        last = None;
        cuts = silent_cuts new (moved_text g (nor.bytes old) (nor.bytes new) 0 None) whole;
        speaks = λ tells. none_said_of (moved_text g (nor.bytes old) (nor.bytes new) 0 None) (scrub_ending g (nor.bytes old) (nor.bytes new)) result whole (fault tells);
        done = λ tells is. absurd (let bad : Done ≡ BoardFault = sym is ∙ fault tells in cc);
        table = λ tells. (whole.now tells).1;
        safe = λ tells. (whole.now tells).0;
        holds = λ tells. inl (fault tells);
        mends = λ tells may. inl (fault tells);
        kept = λ tells why is. absurd (not_both (leaves tells).takes is);
      }

  -- the line was said, or a front of it
  line_said : {limit : ℕ} {old mid new : D} (result : Ending) → Changes nor old mid (Checks g) → (nor.tells old → CheckLeaves g (nor.bytes old) (nor.bytes mid)) → SaysScrub nor g limit mid new result → ScrubsTo nor g limit old new result
  line_said {limit} {old} {mid} {new} result changes leaves s =
      let was = nor.bytes old in
      let now = nor.bytes new in
      let piece = scrub_text s.moved s.free s.last in
      let whole = after_steps changes leaves s.changes in
      let made = λ (tells : nor.tells old). let left = leaves tells in s.made (changes.cuts.told tells) left.tidy left.reserve in
      let reserve : nor.tells old → HasReserve g now = λ tells. subst (λ (l : List ℕ). HasReserve g l) (sym s.says.bytes) (made tells).0.reserve in
      let takes : nor.tells old → begin_refusal g was now ≡ None = λ tells. begins_on g was now (leaves tells).takes (reserve tells) in
      let text : nor.tells old → piece ≡ moved_text g was now s.moved s.last = λ tells.
      ap (λ (n : ℕ). scrub_text s.moved n s.last) ((made tells).1 ∙ ap (free_blocks g) (sym s.says.bytes)) ∙ sym (ap (λ (o : Option Ending). unless_refused o (scrub_text s.moved (free_blocks g now) s.last)) (takes tells)) in
      let ending : nor.tells old → scrub_ending g was now ≡ Done = λ tells. ap (λ (o : Option Ending). unwrap_or o Done) (takes tells) in
      record {
        moved = s.moved;
        last = s.last;
        cuts = andthen (silent_cuts new (moved_text g was now s.moved s.last) whole) (widened s.cuts (λ image count here tells.
            let is : image ≡ nor.bytes s.mid = here.all_bytes (whole.cuts.told tells) in
            let files : LeavesFiles g was image = subst (λ (l : List ℕ). LeavesFiles g was l) (sym is) (whole.now tells) in
            let before = ap length whole.said in
            record {
              table = files.1;
              safe = files.0;
              least = omega (arith, here.least, before);
              most = omega (arith, here.most, before, ap length (text tells));
              once_said = λ more. is ∙ sym s.says.bytes;
            }));
        speaks = λ tells. ⊎_elim
            (λ fault.
            let n = s.says.said.0 in
            inl (
              fault,
              record {
                part = take n piece;
                rest = drop n piece;
                said = s.says.said.1 ∙ ap (λ (l : List ℕ). l ++ take n piece) whole.said;
                whole_is = sym (text tells) ∙ sym (take-append-drop n piece);
              },
            ))
            (λ said. inr (said.0 ∙ sym (ending tells), said.1 (whole.cuts.told tells) ∙ ap (λ (l : List ℕ). l ++ piece) whole.said ∙ ap (λ (l : List ℕ). nor.said old ++ l) (text tells)))
            s.ends;
        done = λ tells is. record { checked = nor.bytes mid; check = leaves tells; scrubbed = subst (λ (l : List ℕ). Scrubbed g limit (nor.bytes mid) l s.moved s.last) (sym s.says.bytes) (made tells).0 };
        table = λ tells. ap (table_of g) s.says.bytes ∙ (whole.now tells).1;
        safe = λ tells. subst (λ (l : List ℕ). IsSafe g was l) (sym s.says.bytes) (whole.now tells).0;
        holds = λ tells. inr (subst (λ (l : List ℕ). HoldsImage g was l) (sym s.says.bytes) (holds_then g was (nor.bytes mid) (nor.bytes s.mid) (holds_check (changes.now tells)) (made tells).0.holds));
        mends = λ tells may. ⊎_elim (λ fault. inl fault) (λ said. inr (reserve tells, λ tight. omega (arith, tight, ap status_of said.0))) s.ends;
        kept = λ tells why is. absurd (not_both (leaves tells).takes is);
      }

  -- the steps on a checked volume
  pub scrubs_checked : {limit : ℕ} {old mid new : D} (result : Ending) (h : Geometry) → h ≡ g → Changes nor old mid (Checks g) → (nor.tells old → CheckLeaves g (nor.bytes old) (nor.bytes mid)) → ScrubEnds nor h limit mid new result → ScrubsTo nor g limit old new result
  scrubs_checked {limit} {old} {mid} {new} result h same changes leaves ends =
      ⊎_elim (λ stops. steps_stopped result changes leaves stops) (λ says. line_said result changes leaves says) (subst (λ (k : Geometry). ScrubEnds nor k limit mid new result) same ends)
