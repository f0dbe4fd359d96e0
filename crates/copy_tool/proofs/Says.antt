-- How a copy ends before its closing line.
use Rattle.std.proofs.Common.{◌≡◌, ◌≢◌, ℕ, ◌-◌, ◌⊎◌, List, [], ◌++◌, length, length-append, take, drop, refl, sym, ◌∙◌, ap, subst, arith, inl, inr, ⊎_elim, append-nil, Bool, true, false, cond, Option, Some, None, Err}
use Rattle.std.specs.Prelude.{nat_lt, unwrap_or}
use Rattle.std.proofs.lemmas.List.{take-append-drop}
use Rattle.geometry.specs.declared.geometry.Geometry.{Geometry}
use Rattle.nor_core.specs.declared.state.NorState.{Ghosts as NorOf}
use Rattle.nor_core.specs.Device.{Leaves, InSay, OnlyReads, Says, Changes}
use Rattle.nor_core.proofs.Cuts.{andthen, widened, wider, reads_none, started}
use Rattle.image_model.specs.Kinds.{spoiled_blocks}
use Rattle.image_model.specs.Tables.{table_of, damaged_of}
use Rattle.copy_model.specs.Copying.{kept_count}
use Rattle.copy_model.specs.declared.err.Copied.{Copied}
use Rattle.vol_copy.specs.Ends.{alike_of}
use Rattle.tool_parts.specs.declared.ending.Ending.{Ending}
use Rattle.tool_parts.specs.declared.ending.Ending.TheVariants.{Done, NotAFs, Damaged, BoardFault, SourceChipFault}
use Rattle.tool_parts.specs.Closing.{status_of}
use Rattle.tool_parts.specs.Endings.{Speaks}
use Rattle.tool_parts.specs.Mounting.{Checks}
use Rattle.tool_parts.specs.Refusals.{mount_refusal, check_refusal, or_ending, said_ending, unless_refused}
use Rattle.tool_parts.proofs.Mounted.{mount_changes}
use Rattle.tool_parts.proofs.Refusals.{not_both}
use Rattle.tool_parts.proofs.Speaking.{writes_none, none_said}
use Rattle.copy_tool.specs.Endings.{copied_text, summary_of, target_stop, stop_of, copy_ending, copy_text}
use Rattle.copy_tool.specs.Does.{HasCopies, LeavesBy, CopyLeaves, CopyCut, HasAll}
use Rattle.copy_tool.specs.Steps.{IsSurveyed, StopsSurvey, IsDone, IsStopped, CopiesAs, CopiesTo}
use Rattle.copy_tool.proofs.Copies.{checks_leave}

-- ---- endings and statuses

pick_mount : (b : Bool) (n : ℕ) (ending : Ending) → cond b (Some (NotAFs n)) None ≡ Some ending → ending ≡ NotAFs n
pick_mount true n ending is = cc
pick_mount false n ending is = cc

-- a source that isn't mounted
mount_status : (gf : Geometry) (source : List ℕ) (ending : Ending) → mount_refusal gf source ≡ Some ending → status_of ending ≡ 3
unfolding mount_refusal
mount_status gf source ending is = ap status_of (pick_mount (nat_lt 1 (spoiled_blocks gf source)) (spoiled_blocks gf source) ending is)

pick_said : (b : Bool) (n : ℕ) → (status_of (cond b (Damaged n) Done) ≡ 0) ⊎ (status_of (cond b (Damaged n) Done) ≡ 12)
pick_said true n = inr refl
pick_said false n = inl refl

-- a copy that is done
said_status : (damaged : ℕ) → (status_of (said_ending damaged) ≡ 0) ⊎ (status_of (said_ending damaged) ≡ 12)
said_status damaged = pick_said (nat_lt 0 damaged) damaged

same_text : (a b c d : ℕ) → a ≡ c → b ≡ d → copied_text a b ≡ copied_text c d
same_text a b c d one two = ap (λ (n : ℕ). copied_text n b) one ∙ ap (copied_text c) two

module _ {gf g : Geometry} {source was now : List ℕ} where
  -- a status that tells nothing of what is left
  left_by_none : (status : ℕ) → status ≢ 0 → status ≢ 12 → status ≢ 6 → status ≢ 13 → status ≢ 14 → LeavesBy gf g source was now status
  left_by_none status done damaged full named tight = record {
    done = λ one. absurd (⊎_elim (λ e. done e) (λ e. damaged e) one);
    full = λ e. absurd (full e);
    named = λ e. absurd (named e);
    tight = λ e. absurd (tight e);
  }

  -- that of a fault
  fault_left : (ending : Ending) → (ending ≡ BoardFault) ⊎ (ending ≡ SourceChipFault) → LeavesBy gf g source was now (status_of ending)
  fault_left ending which = ⊎_elim
      (λ is. left_by_none (status_of ending) (λ e. omega (arith, e, ap status_of is)) (λ e. omega (arith, e, ap status_of is)) (λ e. omega (arith, e, ap status_of is)) (λ e. omega (arith, e, ap status_of is)) (λ e. omega (arith, e, ap status_of is)))
      (λ is. left_by_none (status_of ending) (λ e. omega (arith, e, ap status_of is)) (λ e. omega (arith, e, ap status_of is)) (λ e. omega (arith, e, ap status_of is)) (λ e. omega (arith, e, ap status_of is)) (λ e. omega (arith, e, ap status_of is)))
      which

  mount_left : (ending : Ending) → mount_refusal gf source ≡ Some ending → LeavesBy gf g source was now (status_of ending)
  mount_left ending is =
      let three = mount_status gf source ending is in
      left_by_none (status_of ending) (λ e. omega (arith, e, three)) (λ e. omega (arith, e, three)) (λ e. omega (arith, e, three)) (λ e. omega (arith, e, three)) (λ e. omega (arith, e, three))

  stopped_left : (ending : Ending) → IsStopped gf g source was now ending → LeavesBy gf g source was now (status_of ending)
  stopped_left ending stopped = record { done = λ one. absurd (⊎_elim (λ e. stopped.undone.0 e) (λ e. stopped.undone.1 e) one); full = stopped.full; named = stopped.named; tight = stopped.tight }

  done_left : (damaged : ℕ) → HasCopies gf g source was now → LeavesBy gf g source was now (status_of (said_ending damaged))
  done_left damaged copies = record {
    done = λ one. copies;
    full = λ e. absurd (⊎_elim (λ a. omega (arith, e, a)) (λ a. omega (arith, e, a)) (said_status damaged));
    named = λ e. absurd (⊎_elim (λ a. omega (arith, e, a)) (λ a. omega (arith, e, a)) (said_status damaged));
    tight = λ e. absurd (⊎_elim (λ a. omega (arith, e, a)) (λ a. omega (arith, e, a)) (said_status damaged));
  }

  -- why a copy stops whose source is mounted
  stops_mounted : (ending : Ending) → mount_refusal gf source ≡ None → IsStopped gf g source was now ending → stop_of gf g source was now ≡ Some ending
  stops_mounted ending mounts stopped = ap (λ (o : Option Ending). or_ending o (target_stop gf g source was now)) mounts ∙ stopped.stop

  -- nothing stops one that is done
  stops_none : (c : Copied) → mount_refusal gf source ≡ None → IsDone gf g source was now c → stop_of gf g source was now ≡ None
  stops_none c mounts done = rw (mounts, done.begun, done.stop) refl

  -- its line
  done_text : (c : Copied) → mount_refusal gf source ≡ None → IsDone gf g source was now c → copied_text c.copied c.kept ≡ copy_text gf g source was now
  done_text c mounts done =
      let kept = kept_count (alike_of gf g) (table_of gf source) (table_of g was) in
      let more : c.copied ≡ length (table_of gf source) - kept = omega (arith, done.all, done.kept) in
      same_text c.copied c.kept (length (table_of gf source) - kept) kept more done.kept ∙ sym (ap (λ (o : Option Ending). unless_refused o (summary_of (alike_of gf g) (table_of gf source) (table_of g was))) (stops_none c mounts done))

  -- its ending
  done_ending : (c : Copied) (damaged : ℕ) → IsSurveyed gf source damaged → IsDone gf g source was now c → said_ending damaged ≡ copy_ending gf g source was now
  done_ending c damaged surveyed done = ap said_ending surveyed.count ∙ sym (ap (λ (o : Option Ending). unwrap_or o (said_ending (length (damaged_of gf source)))) (stops_none c surveyed.mounts done))

-- ---- the source after its survey, and the target after a line

leaves_as : {S : Type 0} {from : NorOf S} {gf g : Geometry} {old mid : S} (h : Geometry) {was image : List ℕ} → h ≡ gf → OnlyReads from old mid → CopyLeaves from h g mid was image → CopyLeaves from gf g old was image
leaves_as {S} {from} {gf} {g} {old} {mid} h {was} {image} same reads here =
    let there : CopyLeaves from gf g mid was image = subst (λ (k : Geometry). CopyLeaves from k g mid was image) same here in
    record { safe = here.safe; names = λ tells. rw reads.bytes at (there.names (reads.told tells)) }

done_as : {D : Type 0} {nor : NorOf D} {gf g : Geometry} {mid new : D} {piece source was : List ℕ} (c : Copied) → Says nor mid new piece → IsDone gf g source was (nor.bytes mid) c → IsDone gf g source was (nor.bytes new) c
done_as {D} {nor} {gf} {g} {mid} {new} {piece} {source} {was} c says done = subst (λ (l : List ℕ). IsDone gf g source was l c) (sym says.bytes) done

module _ {S D : Type 0} {from : NorOf S} {nor : NorOf D} {gf g : Geometry} where
  pub changes_as : {source mid : S} {old new : D} (h : Geometry) → h ≡ gf → OnlyReads from source mid → Changes nor old new (CopyLeaves from h g mid) → Changes nor old new (CopyLeaves from gf g source)
  changes_as h same reads changes = wider changes (λ tells image here. leaves_as h same reads here)

  -- ---- a source that isn't surveyed

  pub unsurveyed : {source : S} (d : D) (ending : Ending) → (from.tells source → StopsSurvey gf (from.bytes source) ending) → CopiesTo from nor gf g source d d ending
  unsurveyed {source} d ending stops = record {
    cuts = started d _;
    speaks = λ source_tells tells. ⊎_elim
        (λ fault. inr (fault, refl))
        (λ refused. rw refused (inl (inr (refl, sym (append-nil (nor.said d))))))
        (stops source_tells);
    leaves = λ source_tells tells. ⊎_elim (λ fault. fault_left ending (inr fault)) (λ refused. mount_left ending refused) (stops source_tells);
    left = λ tells. let changes : Changes nor d d (Checks g) = mount_changes (reads_none d) in checks_leave (changes.now tells);
    longer = omega arith;
    idle = λ source_tells tells all. writes_none (reads_none d);
    kept = λ tells ending is. writes_none (reads_none d);
    unmounted = λ source_tells ending is. writes_none (reads_none d);
  }

  -- ---- a copy that says nothing

  silent_cuts : {source : S} {old mid : D} (new : D) → Changes nor old mid (CopyLeaves from gf g source) → Leaves nor old mid (λ image count. nor.tells old → CopyCut from nor gf g source old new image count)
  silent_cuts new changes = widened changes.cuts (λ image count here tells. record { leaves = here.1 tells; least = omega (arith, here.0); once_said = λ more. absurd (omega (arith, here.0, more)) })

  pub stopped_copy : {source : S} {old new : D} (damaged : ℕ) (ending : Ending) → (from.tells source → IsSurveyed gf (from.bytes source) damaged) → Changes nor old new (CopyLeaves from gf g source) → (from.tells source → nor.tells old → CopiesAs gf g (from.bytes source) (nor.bytes old) (nor.bytes new) (Err ending)) →
      (from.tells source → nor.tells old → HasAll gf g (from.bytes source) (nor.bytes old) → OnlyReads nor old new) → (nor.tells old → (why : Ending) → check_refusal g (nor.bytes old) ≡ Some why → OnlyReads nor old new) → CopiesTo from nor gf g source old new ending
  stopped_copy {source} {old} {new} damaged ending surveyed changes copies idle kept = record {
    cuts = silent_cuts new changes;
    speaks = λ source_tells tells. ⊎_elim
        (λ fault. inl (inl (fault, record { part = []; rest = copy_text gf g (from.bytes source) (nor.bytes old) (nor.bytes new); said = changes.said ∙ sym (append-nil (nor.said old)); whole_is = refl })))
        (λ others. ⊎_elim
        (λ fault. inr (fault, changes.said))
        (λ stopped.
        let stop = stops_mounted ending (surveyed source_tells).mounts stopped in
        inl (inr (
          sym (ap (λ (o : Option Ending). unwrap_or o (said_ending (length (damaged_of gf (from.bytes source))))) stop),
          changes.said ∙ sym (append-nil (nor.said old)) ∙ ap (λ (l : List ℕ). nor.said old ++ l) (sym (ap (λ (o : Option Ending). unless_refused o (summary_of (alike_of gf g) (table_of gf (from.bytes source)) (table_of g (nor.bytes old)))) stop)),
        )))
        others)
        (copies source_tells tells);
    leaves = λ source_tells tells. ⊎_elim (λ fault. fault_left ending (inl fault)) (λ others. ⊎_elim (λ fault. fault_left ending (inr fault)) (λ stopped. stopped_left ending stopped) others) (copies source_tells tells);
    left = changes.now;
    longer = omega (arith, ap length changes.said);
    idle = λ source_tells tells all. writes_none (idle source_tells tells all);
    kept = λ tells why is. writes_none (kept tells why is);
    unmounted = λ source_tells why is. absurd (not_both (surveyed source_tells).mounts is);
  }

  -- ---- a copy that says its line

  with_line : {source : S} {old mid new : D} {piece : List ℕ} (damaged : ℕ) (c : Copied) (result : Ending) → (from.tells source → IsSurveyed gf (from.bytes source) damaged) → Changes nor old mid (CopyLeaves from gf g source) → (from.tells source → nor.tells old → IsDone gf g (from.bytes source) (nor.bytes old) (nor.bytes mid) c) →
      (from.tells source → nor.tells old → HasAll gf g (from.bytes source) (nor.bytes old) → OnlyReads nor old mid) →
      (nor.tells old → (why : Ending) → check_refusal g (nor.bytes old) ≡ Some why → OnlyReads nor old mid) → Says nor mid new piece → Leaves nor mid new (InSay nor mid piece) →
      (from.tells source → nor.tells old → Speaks nor old new (copy_text gf g (from.bytes source) (nor.bytes old) (nor.bytes new)) (copy_ending gf g (from.bytes source) (nor.bytes old) (nor.bytes new)) result) → (result ≡ BoardFault) ⊎ (result ≡ said_ending damaged) → CopiesTo from nor gf g source old new result
  with_line {source} {old} {mid} {new} {piece} damaged c result surveyed changes done idle kept says leaves speaks which = record {
    cuts = andthen (silent_cuts new changes) (widened leaves (λ image count here tells.
        let is : image ≡ nor.bytes mid = here.all_bytes (changes.cuts.told tells) in
        record {
          leaves = subst (λ (l : List ℕ). CopyLeaves from gf g source (nor.bytes old) l) (sym is) (changes.now tells);
          least = omega (arith, here.least, ap length changes.said);
          once_said = λ more. is ∙ sym says.bytes;
        }));
    speaks = λ source_tells tells. inl (speaks source_tells tells);
    leaves = λ source_tells tells. ⊎_elim
        (λ fault. fault_left result (inl fault))
        (λ said. subst (λ (e : Ending). LeavesBy gf g (from.bytes source) (nor.bytes old) (nor.bytes new) (status_of e)) (sym said) (done_left damaged (done_as c says (done source_tells tells)).copies))
        which;
    left = λ tells. subst (λ (l : List ℕ). CopyLeaves from gf g source (nor.bytes old) l) (sym says.bytes) (changes.now tells);
    longer = omega (arith, ap length changes.said, ap length says.said.1, length-append (nor.said mid) (take says.said.0 piece));
    idle = λ source_tells tells all. none_said (idle source_tells tells all) says leaves;
    kept = λ tells why is. none_said (kept tells why is) says leaves;
    unmounted = λ source_tells why is. absurd (not_both (surveyed source_tells).mounts is);
  }

  pub copy_said : {source : S} {old mid new : D} {piece : List ℕ} (damaged : ℕ) (c : Copied) (result : Ending) → piece ≡ copied_text c.copied c.kept → result ≡ said_ending damaged → (from.tells source → IsSurveyed gf (from.bytes source) damaged) → Changes nor old mid (CopyLeaves from gf g source) → (from.tells source → nor.tells old → IsDone gf g (from.bytes source) (nor.bytes old) (nor.bytes mid) c) →
      (from.tells source → nor.tells old → HasAll gf g (from.bytes source) (nor.bytes old) → OnlyReads nor old mid) →
      (nor.tells old → (why : Ending) → check_refusal g (nor.bytes old) ≡ Some why → OnlyReads nor old mid) → Says nor mid new piece → Leaves nor mid new (InSay nor mid piece) → (nor.tells mid → nor.said new ≡ nor.said mid ++ piece) → CopiesTo from nor gf g source old new result
  copy_said {source} {old} {mid} {new} {piece} damaged c result piece_is is surveyed changes done idle kept says leaves whole =
      with_line damaged c result surveyed changes done idle kept says leaves (λ source_tells tells.
      let now = done_as c says (done source_tells tells) in
      inr (
        is ∙ done_ending c damaged (surveyed source_tells) now,
        whole (changes.cuts.told tells) ∙ ap (λ (l : List ℕ). l ++ piece) changes.said ∙ ap (λ (l : List ℕ). nor.said old ++ l) (piece_is ∙ done_text c (surveyed source_tells).mounts now),
      )) (inr is)

  -- the board failed as it said it
  pub copy_broken : {source : S} {old mid new : D} {piece : List ℕ} (damaged : ℕ) (c : Copied) → piece ≡ copied_text c.copied c.kept → (from.tells source → IsSurveyed gf (from.bytes source) damaged) → Changes nor old mid (CopyLeaves from gf g source) → (from.tells source → nor.tells old → IsDone gf g (from.bytes source) (nor.bytes old) (nor.bytes mid) c) →
      (from.tells source → nor.tells old → HasAll gf g (from.bytes source) (nor.bytes old) → OnlyReads nor old mid) →
      (nor.tells old → (why : Ending) → check_refusal g (nor.bytes old) ≡ Some why → OnlyReads nor old mid) → Says nor mid new piece → Leaves nor mid new (InSay nor mid piece) → CopiesTo from nor gf g source old new BoardFault
  copy_broken {source} {old} {mid} {new} {piece} damaged c piece_is surveyed changes done idle kept says leaves =
      let n = says.said.0 in
      with_line damaged c BoardFault surveyed changes done idle kept says leaves (λ source_tells tells.
      let now = done_as c says (done source_tells tells) in
      let text = piece_is ∙ done_text c (surveyed source_tells).mounts now in
      inl (
        refl,
        record {
          part = take n piece;
          rest = drop n piece;
          said = says.said.1 ∙ ap (λ (l : List ℕ). l ++ take n piece) changes.said;
          whole_is = sym text ∙ sym (take-append-drop n piece);
        },
      )) (inl refl)
