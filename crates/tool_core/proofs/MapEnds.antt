-- How a map ends before its closing line.
use Rattle.std.proofs.Common.{◌≡◌, ◌≢◌, ℕ, ◌+◌, ◌≤◌, ◌⊎◌, List, [], ◌++◌, length, refl, sym, ◌∙◌, ap, subst, arith, inl, inr, ⊎_elim, append-nil, true, false, Option, Some, None, Result, Ok, Err}
use Rattle.std.specs.Prelude.{unwrap_or, OnOk, OnErr}
use Rattle.geometry.specs.declared.geometry.Geometry.{Geometry}
use Rattle.nor_core.specs.declared.device.Failed.{Failed}
use Rattle.nor_core.specs.declared.state.NorState.{Ghosts as NorOf}
use Rattle.nor_core.specs.Device.{Leaves, InSay, OnlyReads, Changes}
use Rattle.nor_core.proofs.Cuts.{andthen, widened, wider, started, reads_none}
use Rattle.table_model.specs.Table.{File, file_of, has_id}
use Rattle.image_model.specs.Tables.{table_of}
use Rattle.image_model.specs.Tidy.{IsTidy, HasReserve}
use Rattle.image_tool.specs.Saying.{OnlySays, SaysFront}
use Rattle.image_tool.proofs.Speaking.{says_none}
use Rattle.call_model.specs.Safe.{IsSafe, HoldsImage}
use Rattle.call_model.proofs.Safety.{holds_then, holds_itself}
use Rattle.vol_check.specs.declared.report.Report.{Report}
use Rattle.volume.specs.declared.volume.Volume.{Volume}
use Rattle.volume.specs.Holds.{memory}
use Rattle.volume.specs.Mapping.{is_attached, GivesUpMap, KeepsMap}
use Rattle.volume.proofs.MapCalls.{right_in}
use Rattle.image_model.specs.Places.{IsImage}
use Rattle.tool_parts.specs.declared.ending.Ending.{Ending}
use Rattle.tool_parts.specs.declared.ending.Ending.TheVariants.{Done, BoardFault, NoSuchId, NotAFs, Mixed}
use Rattle.tool_parts.specs.Closing.{status_of}
use Rattle.tool_parts.specs.Endings.{Speaks}
use Rattle.tool_core.specs.Mapping.{span_lines, spans_told, map_text, file_ending, map_ending, StopsCollecting, IsAtRest, Rests, Steps, has_file, HasMap, MayHaveMap, IsMissing, IsFound, AttachesTo, CollectsTo, MapsAgain, TellsPages, SaysSpans, MapEnds, IsChecked, MapsTo}
use Rattle.tool_parts.specs.Mounting.{Checks, Reported, StopsCheck, IsMendable, LeavesFiles}
use Rattle.tool_parts.specs.Begins.{first_moment, closed_memory}
use Rattle.tool_parts.specs.Refusals.{check_refusal, unless_refused}
use Rattle.tool_core.specs.Scrubbing.{ScrubCut}
use Rattle.script_run.proofs.Beginning.{first_table}
use Rattle.tool_core.proofs.MapPages.{tells_pages, file_there, file_missing}
use Rattle.tool_core.proofs.MapSteps.{holds_first, steps_then}
use Rattle.tool_parts.proofs.Mounted.{safe_check, holds_check}
use Rattle.tool_parts.proofs.Refusals.{not_both, refusal_is}
use Rattle.tool_core.proofs.ScrubEnds.{said_nothing, none_said_of, check_files, after_check, silent_cuts}
use Rattle.tool_parts.proofs.Speaking.{writes_none}

-- a file that isn't there has no lines
no_lines : (g : Geometry) (image files : List ℕ) (id : ℕ) → has_id id (table_of g files) ≡ false → span_lines g image id (spans_told g (file_of id (table_of g files))) ≡ []
unfolding span_lines
no_lines g image files id none = ap (λ (o : Option File). span_lines g image id (spans_told g o)) (file_missing id (table_of g files) none)

-- how a map ends on a checked volume isn't for want of free blocks
not_tight : (id : ℕ) (file : Option File) → status_of (file_ending id file) ≡ 14 → ⊥
not_tight id None is = omega (arith, is)
not_tight id (Some f) is = omega (arith, is)

-- ---- on a checked volume

module _ {N : Type 0} {nor : NorOf N} where
  -- the files at a cut, where the image was tidy
  files_at : (slots : ℕ) (old new : Volume N nor) → memory old ≡ closed_memory slots → (nor.tells old.nor.now → IsTidy old.geometry (nor.bytes old.nor.now)) → Changes nor old.nor.now new.nor.now (λ was image. memory old ≡ closed_memory slots → IsTidy old.geometry was → LeavesFiles old.geometry was image) →
      Changes nor old.nor.now new.nor.now (LeavesFiles old.geometry)
  files_at slots old new closed tidy changes = wider changes (λ tells image here. here closed (tidy tells))

  pub at_rest : (slots : ℕ) (old : Volume N nor) → memory old ≡ closed_memory slots → (nor.tells old.nor.now → IsTidy old.geometry (nor.bytes old.nor.now)) → nor.tells old.nor.now → IsAtRest slots old
  at_rest slots old closed tidy tells = record { tells = tells; tidy = tidy tells; memory = closed }

  -- nothing was said: the board failed, or there is no such id
  pub ends_stopped : {old new : Volume N nor} (slots id : ℕ) (ending : Ending) {Is : Type 0} {Why : Ending → Type 0} → memory old ≡ closed_memory slots → (nor.tells old.nor.now → IsTidy old.geometry (nor.bytes old.nor.now)) → Steps slots old new (Err ending) Is Why →
      (IsAtRest slots old → Why ending → (ending ≡ BoardFault) ⊎ IsMissing id old new ending) → MapEnds nor old.geometry id old.nor.now new.nor.now ending
  ends_stopped {old} {new} slots id ending closed tidy steps means =
      let g = old.geometry in
      let was = nor.bytes old.nor.now in
      let now = nor.bytes new.nor.now in
      let file = file_of id (table_of g was) in
      let text = span_lines g now id (spans_told g file) in
      let why = λ (tells : nor.tells old.nor.now). let rest = at_rest slots old closed tidy tells in means rest (steps.done rest) in
      record {
        mid = new.nor.now;
        changes = files_at slots old new closed tidy steps.changes;
        says = says_none text (reads_none new.nor.now);
        speaks = λ tells. ⊎_elim
            (λ fault. inl (fault, record { part = []; rest = text; said = sym (append-nil (nor.said new.nor.now)); whole_is = refl }))
            (λ missing. inr (
              missing.ending_is ∙ sym (ap (file_ending id) (file_missing id (table_of g was) missing.none)),
              sym (append-nil (nor.said new.nor.now)) ∙ ap (λ (l : List ℕ). nor.said new.nor.now ++ l) (sym (no_lines g now was id missing.none)),
            ))
            (why tells);
        done = λ tells is. absurd (⊎_elim
            (λ fault. let bad : Done ≡ BoardFault = sym is ∙ fault in cc)
            (λ missing. let bad : Done ≡ NoSuchId id = sym is ∙ missing.ending_is in cc)
            (why tells));
        missing = λ tells is. ⊎_elim
            (λ fault. absurd (omega (arith, is, ap status_of fault)))
            (λ missing. missing.bytes)
            (why tells);
        holds = λ tells. ⊎_elim
            (λ fault. inl fault)
            (λ missing. inr (subst (λ (l : List ℕ). HoldsImage g was l) (sym missing.bytes) (holds_itself g was)))
            (why tells);
      }

  -- what is known before the lines are said
  pub record IsMapped (slots id : ℕ) (old mid : Volume N nor) : Type 0 where
    pub rests : Rests slots old mid
    pub map : HasMap id 8192 mid
    pub there : has_file old id ≡ true
    pub stops : StopsCollecting old.geometry (nor.bytes old.nor.now) (nor.bytes mid.nor.now)

  -- the table has the id, and the map is that of its file or was lost
  pub had_map : {v0 v1 v2 : Volume N nor} (slots id : ℕ) → v1.geometry ≡ v0.geometry → v2.geometry ≡ v1.geometry → AttachesTo slots id 8192 v0 v1 (Ok tt) → CollectsTo slots v1 v2 (Ok tt) → IsAtRest slots v0 → (has_file v2 id ≡ true) × MayHaveMap id 8192 v2
  had_map {v0} {v1} {v2} slots id same next attaches collects rest =
      let a = attaches.done rest in
      let c = collects.done a.0.rest in
      let found = a.1 in
      let kept = c.1.1 in
      let room = kept.room ∙ found.map.room in (
        ap (λ (k : Geometry). has_id id (table_of k (nor.bytes v2.nor.now))) (next ∙ same)
            ∙ ap (has_id id) (subst (λ (k : Geometry). table_of k (nor.bytes v2.nor.now) ≡ table_of k (nor.bytes v1.nor.now)) same c.0.table ∙ a.0.table) ∙ found.there,
        record { some = omega arith; room = room; map = λ used. let s = kept.same used in record { used = used; of = s.1 ∙ found.map.of; first = s.2 ∙ found.map.first; room = room } },
      )

  -- all steps before that
  pub steps_mapped : {v0 v1 v2 v3 : Volume N nor} (slots id : ℕ) → v1.geometry ≡ v0.geometry → v2.geometry ≡ v1.geometry → AttachesTo slots id 8192 v0 v1 (Ok tt) → CollectsTo slots v1 v2 (Ok tt) → MapsAgain slots id v2 v3 (Ok tt) →
      Changes nor v0.nor.now v3.nor.now (λ was image. memory v0 ≡ closed_memory slots → IsTidy v0.geometry was → LeavesFiles v0.geometry was image) × (IsAtRest slots v0 → IsMapped slots id v0 v3)
  steps_mapped {v0} {v1} {v2} {v3} slots id same next attaches collects again =
      let g = v0.geometry in
      let was = nor.bytes v0.nor.now in
      let two = steps_then next collects again in
      let all = steps_then same attaches two in (
        all.changes,
        λ rest.
            let a = attaches.done rest in
            let c = collects.done a.0.rest in
            let r = again.done c.0.rest in
            let found = a.1 in
            let had = had_map slots id same next attaches collects rest in
            let last = r.1 8192 had.0 had.1 in
            record {
              rests = (all.done rest).0;
              map = last.0;
              there = found.there;
              stops = subst (λ (l : List ℕ). StopsCollecting g was l) (sym last.1) (subst (λ (l : List ℕ). StopsCollecting g l (nor.bytes v2.nor.now)) found.bytes (subst (λ (k : Geometry). StopsCollecting k (nor.bytes v1.nor.now) (nor.bytes v2.nor.now)) same c.1.0));
            },
      )

  -- the map tells the pages of the file
  pub tells_file : {old mid : Volume N nor} (slots id : ℕ) → mid.geometry ≡ old.geometry → (nor.tells mid.nor.now → IsImage mid.geometry (nor.bytes mid.nor.now)) → IsMapped slots id old mid → TellsPages id (spans_told old.geometry (file_of id (table_of old.geometry (nor.bytes old.nor.now)))) mid
  tells_file {old} {mid} slots id same image mapped =
      let was = nor.bytes old.nor.now in
      let now = nor.bytes mid.nor.now in
      let f = file_there id (table_of old.geometry was) mapped.there in
      let m = first_moment mid.geometry slots now in
      let table : table_of mid.geometry now ≡ table_of old.geometry was = ap (λ (k : Geometry). table_of k now) same ∙ mapped.rests.table in
      let here : file_of mid.map.id m.settled ≡ Some f.0 =
      ap (λ (i : ℕ). file_of i m.settled) mapped.map.of ∙ ap (file_of id) (first_table mid.geometry slots now) ∙ ap (file_of id) table ∙ f.1 in
      let right = right_in mid m f.0 image (holds_first mid mapped.rests.rest) mapped.map.used here in
      subst (λ (n : ℕ). TellsPages id n mid) (ap (λ (k : Geometry). spans_told k (Some f.0)) same ∙ ap (spans_told old.geometry) (sym f.1)) (tells_pages f.0 mapped.map right)

  -- the lines were said, or a front of them
  ends_said : {old mid : Volume N nor} {last : N} (slots id : ℕ) (result : Result (Unit {0}) Failed) (ending : Ending) → memory old ≡ closed_memory slots → (nor.tells old.nor.now → IsTidy old.geometry (nor.bytes old.nor.now)) → mid.geometry ≡ old.geometry →
      Changes nor old.nor.now mid.nor.now (λ was image. memory old ≡ closed_memory slots → IsTidy old.geometry was → LeavesFiles old.geometry was image) × (IsAtRest slots old → IsMapped slots id old mid) →
      SaysSpans nor mid.geometry id (spans_told old.geometry (file_of id (table_of old.geometry (nor.bytes old.nor.now)))) mid.nor.now last result →
      ((ending ≡ BoardFault) × (nor.tells mid.nor.now → SaysFront nor mid.nor.now last (span_lines mid.geometry (nor.bytes mid.nor.now) id (spans_told old.geometry (file_of id (table_of old.geometry (nor.bytes old.nor.now)))))))
      ⊎ ((ending ≡ Done) × (nor.tells mid.nor.now → nor.said last ≡ nor.said mid.nor.now ++ span_lines mid.geometry (nor.bytes mid.nor.now) id (spans_told old.geometry (file_of id (table_of old.geometry (nor.bytes old.nor.now)))))) →
      MapEnds nor old.geometry id old.nor.now last ending
  ends_said {old} {mid} {last} slots id result ending closed tidy same steps says ends =
      let g = old.geometry in
      let was = nor.bytes old.nor.now in
      let count = spans_told g (file_of id (table_of g was)) in
      let text : span_lines mid.geometry (nor.bytes mid.nor.now) id count ≡ span_lines g (nor.bytes mid.nor.now) id count = ap (λ (k : Geometry). span_lines k (nor.bytes mid.nor.now) id count) same in
      let mapped = λ (tells : nor.tells old.nor.now). steps.1 (at_rest slots old closed tidy tells) in
      let files : Changes nor old.nor.now mid.nor.now (LeavesFiles g) = files_at slots old mid closed tidy steps.0 in
      record {
        mid = mid.nor.now;
        changes = files;
        says = subst (λ (l : List ℕ). OnlySays nor mid.nor.now last l) text says.says;
        speaks = λ tells. ⊎_elim
            (λ broken. inl (broken.0, subst (λ (l : List ℕ). SaysFront nor mid.nor.now last l) text (broken.1 (files.cuts.told tells))))
            (λ said.
            let f = file_there id (table_of g was) (mapped tells).there in
            inr (said.0 ∙ sym (ap (file_ending id) f.1), said.1 (files.cuts.told tells) ∙ ap (λ (l : List ℕ). nor.said mid.nor.now ++ l) text))
            ends;
        done = λ tells is. (mapped tells).stops;
        missing = λ tells is. absurd (⊎_elim (λ broken. omega (arith, is, ap status_of broken.0)) (λ said. omega (arith, is, ap status_of said.0)) ends);
        holds = λ tells. inr (mapped tells).rests.holds;
      }

  -- how saying them went
  says_as : {g : Geometry} {id count : ℕ} {first last : N} {result other : Result (Unit {0}) Failed} → result ≡ other → SaysSpans nor g id count first last result → SaysSpans nor g id count first last other
  says_as {g} {id} {count} {first} {last} is says = subst (λ (r : Result (Unit {0}) Failed). SaysSpans nor g id count first last r) is says

  pub ends_whole : {old mid : Volume N nor} {last : N} {result : Result (Unit {0}) Failed} (slots id : ℕ) (done : Unit {0}) → result ≡ Ok done → memory old ≡ closed_memory slots → (nor.tells old.nor.now → IsTidy old.geometry (nor.bytes old.nor.now)) → mid.geometry ≡ old.geometry →
      Changes nor old.nor.now mid.nor.now (λ was image. memory old ≡ closed_memory slots → IsTidy old.geometry was → LeavesFiles old.geometry was image) × (IsAtRest slots old → IsMapped slots id old mid) →
      SaysSpans nor mid.geometry id (spans_told old.geometry (file_of id (table_of old.geometry (nor.bytes old.nor.now)))) mid.nor.now last result → MapEnds nor old.geometry id old.nor.now last Done
  ends_whole slots id done is closed tidy same steps says = let s = says_as is says in ends_said slots id (Ok done) Done closed tidy same steps s (inr (refl, s.whole))

  pub ends_front : {old mid : Volume N nor} {last : N} {result : Result (Unit {0}) Failed} (slots id : ℕ) (why : Failed) → result ≡ Err why → memory old ≡ closed_memory slots → (nor.tells old.nor.now → IsTidy old.geometry (nor.bytes old.nor.now)) → mid.geometry ≡ old.geometry →
      Changes nor old.nor.now mid.nor.now (λ was image. memory old ≡ closed_memory slots → IsTidy old.geometry was → LeavesFiles old.geometry was image) × (IsAtRest slots old → IsMapped slots id old mid) →
      SaysSpans nor mid.geometry id (spans_told old.geometry (file_of id (table_of old.geometry (nor.bytes old.nor.now)))) mid.nor.now last result → MapEnds nor old.geometry id old.nor.now last BoardFault
  ends_front slots id why is closed tidy same steps says = let s = says_as is says in ends_said slots id (Err why) BoardFault closed tidy same steps s (inl (refl, s.front))

-- ---- with the check before that

module _ {D : Type 0} {nor : NorOf D} {g : Geometry} where
  -- the first image isn't taken, or the board failed
  pub maps_stopped : {id : ℕ} {old new : D} (ending : Ending) → Changes nor old new (Checks g) → (nor.tells old → StopsCheck nor g old new ending) → MapsTo nor g id old new ending
  maps_stopped {id} {old} {new} ending changes stops =
      let was = nor.bytes old in
      let now = nor.bytes new in
      let text = map_text g was now id in
      let apart : nor.tells old → (n : ℕ) → (n ≡ 0) ⊎ (n ≡ 17) → status_of ending ≡ n → ⊥ = λ tells n which is. ⊎_elim
      (λ fault. ⊎_elim (λ a. omega (arith, a, is, ap status_of fault.fault)) (λ b. omega (arith, b, is, ap status_of fault.fault)) which)
      (λ refused. ⊎_elim
      (λ two. ⊎_elim (λ a. omega (arith, a, is, ap status_of two)) (λ b. omega (arith, b, is, ap status_of two)) which)
      (λ mixed. ⊎_elim (λ a. omega (arith, a, is, ap status_of mixed)) (λ b. omega (arith, b, is, ap status_of mixed)) which)
      (refusal_is g was ending refused.refusal))
      (stops tells) in
      record {
        cuts = silent_cuts new text (check_files changes);
        speaks = λ tells. ⊎_elim
            (λ fault. none_said_of text (map_ending g was id) ending changes fault.fault)
            (λ refused. rw refused.refusal (inr (refl, said_nothing changes)))
            (stops tells);
        done = λ tells is. absurd (apart tells 0 (inl refl) (ap status_of is));
        missing = λ tells is. absurd (apart tells 17 (inr refl) is);
        table = λ tells. (changes.now tells).table;
        safe = λ tells. safe_check (changes.now tells);
        holds = λ tells. inr (holds_check (changes.now tells));
        mends = λ tells may. ⊎_elim (λ fault. inl fault.fault) (λ refused. absurd (not_both may.takes refused.refusal)) (stops tells);
        kept = λ tells why is. ⊎_elim (λ fault. writes_none (fault.looks why is)) (λ refused. writes_none refused.reads) (stops tells);
      }

  pub maps_checked : {id : ℕ} {old mid new : D} (report : Report) (result : Ending) (h : Geometry) → h ≡ g → Changes nor old mid (Checks g) → (nor.tells old → Reported g (nor.bytes old) (nor.bytes mid) report) → (nor.tells old → IsTidy g (nor.bytes old) → HasReserve g (nor.bytes old) → OnlyReads nor old mid) →
      MapEnds nor h id mid new result → MapsTo nor g id old new result
  maps_checked {id} {old} {mid} {new} report result h same changes reported idle ended =
      let was = nor.bytes old in
      let now = nor.bytes new in
      let e : MapEnds nor g id mid new result = subst (λ (k : Geometry). MapEnds nor k id mid new result) same ended in
      let last = nor.bytes e.mid in
      let tells_mid : nor.tells old → nor.tells mid = λ tells. changes.cuts.told tells in
      let whole : Changes nor old e.mid (LeavesFiles g) = after_check changes (λ tells. (reported tells).done.tidy) e.changes (λ tells image here. here) in
      let files : nor.tells old → file_of id (table_of g (nor.bytes mid)) ≡ file_of id (table_of g was) = λ tells. ap (file_of id) (changes.now tells).table in
      let text : nor.tells old → span_lines g last id (spans_told g (file_of id (table_of g (nor.bytes mid)))) ≡ map_text g was now id = λ tells.
      ap (λ (o : Option File). span_lines g last id (spans_told g o)) (files tells) ∙ ap (λ (l : List ℕ). span_lines g l id (spans_told g (file_of id (table_of g was)))) (sym e.says.bytes)
      ∙ sym (ap (λ (o : Option Ending). unless_refused o (span_lines g now id (spans_told g (file_of id (table_of g was))))) (reported tells).takes) in
      let ending : nor.tells old → file_ending id (file_of id (table_of g (nor.bytes mid))) ≡ map_ending g was id = λ tells.
      ap (file_ending id) (files tells) ∙ sym (ap (λ (o : Option Ending). unwrap_or o (file_ending id (file_of id (table_of g was)))) (reported tells).takes) in
      let follows : nor.tells old → (result ≡ BoardFault) ⊎ HoldsImage g was now = λ tells. ⊎_elim
      (λ fault. inl fault)
      (λ holds. inr (subst (λ (l : List ℕ). HoldsImage g was l) (sym e.says.bytes) (holds_then g was (nor.bytes mid) last (holds_check (changes.now tells)) holds)))
      (e.holds (tells_mid tells)) in
      record {
        cuts = andthen (silent_cuts new (map_text g was now id) whole) (widened e.says.cuts (λ image count here tells.
            let i = here (whole.cuts.told tells) in
            let is : image ≡ last = i.all_bytes (whole.cuts.told tells) in
            let left : LeavesFiles g was image = subst (λ (l : List ℕ). LeavesFiles g was l) (sym is) (whole.now tells) in
            let before = ap length whole.said in
            record {
              table = left.1;
              safe = left.0;
              least = omega (arith, i.least, before);
              most = omega (arith, i.most, before, ap length (text tells));
              once_said = λ more. is ∙ sym e.says.bytes;
            }));
        speaks = λ tells. ⊎_elim
            (λ broken.
            let f = broken.1 in
            inl (broken.0, record { part = f.part; rest = f.rest; said = f.said ∙ ap (λ (l : List ℕ). l ++ f.part) whole.said; whole_is = sym (text tells) ∙ f.whole_is }))
            (λ said. inr (said.0 ∙ ending tells, said.1 ∙ ap (λ (l : List ℕ). l ++ span_lines g last id (spans_told g (file_of id (table_of g (nor.bytes mid))))) whole.said ∙ ap (λ (l : List ℕ). nor.said old ++ l) (text tells)))
            (e.speaks (tells_mid tells));
        done = λ tells is. record {
          checked = nor.bytes mid;
          check = record { report = report; is = reported tells };
          idle = λ tidy reserve. (idle tells tidy reserve).bytes;
          stops = subst (λ (l : List ℕ). StopsCollecting g (nor.bytes mid) l) (sym e.says.bytes) (e.done (tells_mid tells) is);
        };
        missing = λ tells is. record { report = report; is = subst (λ (l : List ℕ). Reported g was l report) (sym (e.says.bytes ∙ e.missing (tells_mid tells) is)) (reported tells) };
        table = λ tells. ap (table_of g) e.says.bytes ∙ (whole.now tells).1;
        safe = λ tells. subst (λ (l : List ℕ). IsSafe g was l) (sym e.says.bytes) (whole.now tells).0;
        holds = follows;
        mends = λ tells may. ⊎_elim
            (λ broken. inl broken.0)
            (λ said. ⊎_elim
            (λ fault. inl fault)
            (λ holds. inr (
              subst (λ (l : List ℕ). HasReserve g l) (sym e.says.bytes) (holds.reserve ((reported tells).mends may.comes_back)),
              λ tight. not_tight id (file_of id (table_of g (nor.bytes mid))) (sym (ap status_of said.0) ∙ tight),
            ))
            (e.holds (tells_mid tells)))
            (e.speaks (tells_mid tells));
        kept = λ tells why is. absurd (not_both (reported tells).takes is);
      }
