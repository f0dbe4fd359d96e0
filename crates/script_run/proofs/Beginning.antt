-- From the first image over the check to the end of a run.
use Rattle.std.proofs.Common.{◌≡◌, ℕ, zero, suc, ◌-◌, ◌==◌, true, false, ◌<◌, ◌≤◌, ◌⊎◌, List, [], slice_index_or, ◌++◌, refl, sym, ◌∙◌, ap, subst, arith, inl, inr, ⊎_elim, append-nil, replicate, Option, Some, None}
use Rattle.geometry.specs.declared.geometry.Geometry.{Geometry}
use Rattle.nor_core.specs.declared.state.NorState.{Ghosts as NorOf}
use Rattle.nor_core.specs.Device.{Leaves, Changes}
use Rattle.nor_core.proofs.Cuts.{andthen, widened}
use Rattle.std.proofs.lemmas.Bool.{ne_eqb}
use Rattle.table_model.specs.Table.{Open, State}
use Rattle.table_model.specs.Room.{has_room}
use Rattle.table_model.specs.Descriptors.{open_at}
use Rattle.call_model.specs.Memory.{OpensFiles, Memory, IsAt}
use Rattle.table_model.specs.Ask.{Ask}
use Rattle.table_model.specs.Window.{Moment, settled_at}
use Rattle.call_script.specs.Lines.{calls}
use Rattle.image_model.specs.Tables.{table_of}
use Rattle.image_model.specs.Tidy.{IsTidy, HasReserve}
use Rattle.image_model.specs.Collect.{chosen_block}
use Rattle.vol_check.specs.declared.report.Report.{Report}
use Rattle.std.specs.Prelude.{min, map, take, length}
use Rattle.std.proofs.lemmas.List.{length-map, length-take, length-replicate}
use Rattle.fd_table.specs.declared.slot.FdSlot.{FdSlot}
use Rattle.fd_table.specs.Slots.{descriptors, held}
use Rattle.volume.specs.declared.volume.Volume.{Volume}
use Rattle.volume.specs.Holds.{memory}
use Rattle.call_model.specs.Calls.{Stands}
use Rattle.call_model.specs.Safe.{HoldsImage}
use Rattle.call_model.proofs.Safety.{holds_safe, holds_then, safe_as}
use Rattle.run_model.specs.Runs.{RunCall, plain, asks_of, after_all, replies}
use Rattle.run_model.specs.Ran.{RunStands, CutIn, SaidPart}
use Rattle.run_model.proofs.Runs.{replies-append, asks-append, fair-append, plain-asks, plain-fair, is_settled, cut_none}
use Rattle.run_model.proofs.Chain.{no_replies, none_fair, wider_cut, cut_behind}
use Rattle.tool_parts.specs.declared.ending.Ending.{Ending}
use Rattle.tool_parts.specs.declared.ending.Ending.TheVariants.{BoardFault, Tight}
use Rattle.tool_parts.specs.Reads.{ReadsOnce}
use Rattle.tool_parts.specs.Mounting.{Checks, Reported, IsRefused, StopsCheck}
use Rattle.tool_parts.specs.Begins.{Begun, IsTight, StopsRun, first_moment, closed_memory}
use Rattle.tool_parts.specs.Refusals.{check_refusal, begin_refusal}
use Rattle.script_run.specs.Settling.{SettlesTo, Settling}
use Rattle.script_run.specs.Outcomes.{Went, WhyEnds, RunEnds, RunCut, ImagesEnd, Broke, RunsTo, Refused, EndsByImages}
use Rattle.tool_parts.proofs.Begun.{begins_on}
use Rattle.tool_parts.proofs.Mounted.{safe_check, holds_check}
use Rattle.tool_parts.proofs.Refusals.{not_both, no_tight, tight_some, tight_none, safe_mends}
use Rattle.script_run.proofs.Settling.{settles_of}
use Rattle.tool_parts.proofs.Speaking.{writes_none}

-- at first nothing waits, and the settled table is that of the image
first_still : (g : Geometry) (slots : ℕ) (image : List ℕ) → first_moment g slots image ≡ settled_at (first_moment g slots image).state
unfolding settled_at
first_still g slots image = refl

pub first_table : (g : Geometry) (slots : ℕ) (image : List ℕ) → (first_moment g slots image).settled ≡ table_of g image
unfolding settled_at
first_table g slots image = refl

first_settled : (g : Geometry) (slots : ℕ) (image : List ℕ) → (after_all g (first_moment g slots image) []).settled ≡ table_of g image
unfolding settled_at after_all
first_settled g slots image = refl

first_state : (g : Geometry) (slots : ℕ) (image : List ℕ) → (after_all g (first_moment g slots image) []).state.table ≡ table_of g image
unfolding settled_at after_all
first_state g slots image = refl

pub first_room : (g : Geometry) (slots : ℕ) (image : List ℕ) → has_room g (table_of g image) ≡ true → has_room g (first_moment g slots image).state.table ≡ true
unfolding settled_at
first_room g slots image room = room

first_slots : (g : Geometry) (slots : ℕ) (image : List ℕ) → (first_moment g slots image).state.slots ≡ replicate slots None
unfolding settled_at
first_slots g slots image = refl

-- where all is settled, the settled table is that of the state
settled_table : (s : State) → (settled_at s).settled ≡ s.table
unfolding settled_at
settled_table s = refl

-- closed descriptors are on no file
closed_at : (n i : ℕ) → slice_index_or {A = Option Open} (replicate n None) i None ≡ None
closed_at zero i = refl
closed_at (suc n) zero = refl
closed_at (suc n) (suc i) = closed_at n i

none_open : (slots n fd : ℕ) → fd ≡ n → open_at (replicate slots None) fd ≡ None
unfolding open_at
none_open slots zero fd e = rw e refl
none_open slots (suc n) fd e = let some : (suc n == 0) ≡ false = ne_eqb (suc n) 0 (λ (k : suc n ≡ 0). omega (arith, k)) in rw (e, some) (closed_at slots (suc n - 1))

opens_none : (s : State) (slots : ℕ) → s.slots ≡ replicate slots None → OpensFiles s
opens_none s slots same fd d at = absurd (let no : None ≡ Some d = sym (ap (λ (l : List (Option Open)). open_at l fd) same ∙ none_open slots fd fd refl) ∙ at in cc)

-- a tidy image with the first one's table is that of the first moment
pub first_at : (g : Geometry) (slots : ℕ) (was image : List ℕ) (w : Memory) → w ≡ closed_memory slots → IsTidy g image → table_of g image ≡ table_of g was → IsAt g image w (first_moment g slots was)
unfolding settled_at
first_at g slots was image w memory tidy same = subst (λ (v : Memory). IsAt g image v (first_moment g slots was)) (sym memory) (record {
  tidy = tidy;
  table = same ∙ sym (first_table g slots was);
  slots = sym (first_slots g slots was);
  run = first_still g slots was;
  opened = opens_none (first_moment g slots was).state slots (first_slots g slots was);
})

module _ {D : Type 0} {nor : NorOf D} {g : Geometry} where
  -- a cut in the check
  check_cut : {old mid : D} (slots : ℕ) (calls : List RunCall) → Changes nor old mid (Checks g) → nor.tells old → Leaves nor old mid (RunCut nor g old (first_moment g slots (nor.bytes old)) calls)
  check_cut {old} {mid} slots calls changes tells = widened changes.cuts (λ image count here.
      let now = here.1 tells in
      record {
        cut = record {
          part = [];
          count_is = here.0 ∙ omega arith;
          safe = safe_check now;
          cut = cut_none g (first_moment g slots (nor.bytes old)) calls image (is_settled (first_moment g slots (nor.bytes old)) (table_of g image) [] (now.table ∙ sym (first_table g slots (nor.bytes old))));
        };
        mends = inr (refl, now.table);
      })

  -- the volume stands at its first moment once it is checked
  pub begun_stands : {old mid : D} {w : Memory} (slots : ℕ) → w ≡ closed_memory slots → Changes nor old mid (Checks g) → nor.tells old → Begun g (nor.bytes old) (nor.bytes mid) → Stands nor g mid w (first_moment g slots (nor.bytes old))
  begun_stands {old} {mid} {w} slots memory changes tells begun = record {
    tells = changes.cuts.told tells;
    image = first_at g slots (nor.bytes old) (nor.bytes mid) w memory begun.tidy (changes.now tells).table;
  }

  -- it stands there in a run
  begun_run : {old mid : D} {w : Memory} (slots : ℕ) → w ≡ closed_memory slots → Changes nor old mid (Checks g) → nor.tells old → Begun g (nor.bytes old) (nor.bytes mid) → RunStands nor g mid w (first_moment g slots (nor.bytes old))
  begun_run slots memory changes tells begun = record { stands = begun_stands slots memory changes tells begun; reserve = begun.reserve }

  -- what is said after the check is said after nothing
  said_behind : {old mid : D} (new : D) (piece : List ℕ) → Changes nor old mid (Checks g) → nor.said new ≡ nor.said mid ++ piece → nor.said new ≡ nor.said old ++ piece
  said_behind new piece changes said = said ∙ ap (λ (l : List ℕ). l ++ piece) changes.said

  -- a cut in the calls after the check is one in these calls
  behind_check : {old mid : D} (m : Moment) (calls : List RunCall) (image : List ℕ) (count : ℕ) → Changes nor old mid (Checks g) → nor.tells old → Begun g (nor.bytes old) (nor.bytes mid) → CutIn nor g mid m calls image count → CutIn nor g old m calls image count
  behind_check {old} {mid} m calls image count changes tells begun c = record {
    part = c.part;
    count_is = omega (arith, c.count_is, ap length changes.said);
    safe = holds_safe g (nor.bytes old) (nor.bytes mid) image (holds_check (changes.now tells)) begun.tidy c.safe;
    cut = c.cut;
  }

  -- a cut in the check or in the calls after it
  whole_cut : {old mid new : D} (slots : ℕ) (calls : List RunCall) → Changes nor old mid (Checks g) → nor.tells old → Begun g (nor.bytes old) (nor.bytes mid) → Leaves nor mid new (CutIn nor g mid (first_moment g slots (nor.bytes old)) calls) → Leaves nor old new (RunCut nor g old (first_moment g slots (nor.bytes old)) calls)
  whole_cut {old} {mid} {new} slots calls changes tells begun leaves =
      andthen (check_cut slots calls changes tells) (widened leaves (λ image count c. record {
        cut = behind_check (first_moment g slots (nor.bytes old)) calls image count changes tells begun c;
        mends = inl (safe_mends g (nor.bytes mid) image begun.tidy begun.reserve c.safe);
      }))

  -- a cut while the bytes that wait are put onto the chip, after some calls and before others
  settle_cut : {old mid new : D} {w now : Memory} {m : Moment} {ending result : Ending} (calls later : List RunCall) → nor.said mid ≡ nor.said old ++ replies g m calls → HoldsImage g (nor.bytes old) (nor.bytes mid) → RunStands nor g mid w (after_all g m calls) → SettlesTo nor g mid new w now ending result → Leaves nor mid new (RunCut nor g old m (calls ++ later))
  settle_cut {old} {mid} {new} {w} {now} {m} calls later said holds stands settles = widened (settles.changes (after_all g m calls)).cuts (λ image count here.
      let safe = here.1 stands.stands.tells stands.stands.image in
      record {
        cut = cut_behind calls said holds stands.stands.image.tidy (record { part = []; count_is = here.0 ∙ omega arith; safe = safe.0; cut = cut_none g (after_all g m calls) later image safe.1 });
        mends = inl (safe_mends g (nor.bytes mid) image stands.stands.image.tidy stands.reserve safe.0);
      })

  -- the board failed in a call
  begun_breaks : {old mid ran new : D} (slots : ℕ) (script left : List ℕ) (result : Ending) → Changes nor old mid (Checks g) → nor.tells old → Begun g (nor.bytes old) (nor.bytes mid) →
      SaidPart nor g mid ran (first_moment g slots (nor.bytes old)) (calls script) → (result ≡ BoardFault) × (new ≡ ran) → RunsTo nor g old new (first_moment g slots (nor.bytes old)) script left result
  begun_breaks {old} {mid} {ran} {new} slots script left result changes tells begun said stays =
      let m = first_moment g slots (nor.bytes old) in
      let cuts : Leaves nor old ran (RunCut nor g old m said.calls) = whole_cut slots said.calls changes tells begun said.cuts in
      let broke : Broke nor g old ran m (calls script) = record {
        said = record {
          calls = said.calls;
          asks_are = said.asks_are;
          fair = said.fair;
          part = said.part;
          rest = said.rest;
          said = said_behind ran said.part changes said.said;
          whole_is = said.whole_is;
          cuts = widened cuts (λ image count c. c.cut);
        };
        cuts = cuts;
      } in
      inl (stays.0, subst (λ (d : D). Broke nor g old d m (calls script)) (sym stays.1) broke)

  -- it came to its end, and the bytes that wait are put onto the chip
  begun_settles : {old mid ran new : D} {between after now : Memory} (slots : ℕ) (script left : List ℕ) (ending result : Ending) → Changes nor old mid (Checks g) → nor.tells old → Begun g (nor.bytes old) (nor.bytes mid) →
      Went nor g mid ran between after (first_moment g slots (nor.bytes old)) script left ending → SettlesTo nor g ran new after now ending result → RunsTo nor g old new (first_moment g slots (nor.bytes old)) script left result
  begun_settles {old} {mid} {ran} {new} {between} {after} {now} slots script left ending result changes tells begun went settles =
      let m = first_moment g slots (nor.bytes old) in
      let r = went.reached in
      let said : nor.said ran ≡ nor.said old ++ replies g m r.calls = said_behind ran (replies g m r.calls) changes r.said in
      let holds : HoldsImage g (nor.bytes old) (nor.bytes ran) = holds_then g (nor.bytes old) (nor.bytes mid) (nor.bytes ran) (holds_check (changes.now tells)) r.holds in
      let last = settles.changes (after_all g m r.calls) in
      let asks_are : calls script ≡ asks_of r.calls ++ went.later = went.asks_are ∙ ap (λ (l : List Ask). l ++ went.later) r.asks_are in
      ⊎_elim
      (λ fine. subst (λ (e : Ending). RunsTo nor g old new m script left e) (sym fine.0) (inr (record {
        front = r.calls;
        later = went.later;
        asks_are = asks_are;
        fair = r.fair;
        said = last.said ∙ said;
        tells = fine.1.stands.tells;
        among = (last.now r.stands.stands.tells r.stands.stands.image).1;
        table = fine.1.stands.image.table ∙ settled_table (after_all g m r.calls).state;
        tidy = λ taken. fine.1.stands.image.tidy;
        stuck = λ n is. absurd (subst (λ (e : Ending). WhyEnds script left went.front went.later e) is went.why);
        why = inr (begins_on g (nor.bytes old) (nor.bytes new) begun.takes (fine.1.holds.reserve r.stands.reserve), subst (λ (l : List Ask). WhyEnds script left l went.later ending) r.asks_are went.why);
        untouched = λ none. fine.1.stands.image.table ∙ settled_table (after_all g m r.calls).state ∙ ap (λ (l : List RunCall). (after_all g m l).state.table) none ∙ first_state g slots (nor.bytes old);
        holds = holds_then g (nor.bytes old) (nor.bytes ran) (nor.bytes new) holds fine.1.holds;
        safe = safe_as g (nor.bytes old) (nor.bytes new) (holds_then g (nor.bytes old) (nor.bytes ran) (nor.bytes new) holds fine.1.holds) fine.1.stands.image.tidy;
        cuts = andthen (whole_cut slots r.calls changes tells begun r.cuts) (subst (λ (l : List RunCall). Leaves nor ran new (RunCut nor g old m l)) (append-nil r.calls) (settle_cut r.calls [] said holds r.stands settles));
      })))
      (λ fault.
      let cuts : Leaves nor old new (RunCut nor g old m (r.calls ++ plain went.later)) = andthen (whole_cut slots (r.calls ++ plain went.later) changes tells begun (wider_cut (plain went.later) r.cuts)) (settle_cut r.calls (plain went.later) said holds r.stands settles) in
      inl (
        fault,
        record {
          said = record {
            calls = r.calls ++ plain went.later;
            asks_are = asks_are ∙ ap (λ (l : List Ask). asks_of r.calls ++ l) (sym (plain-asks went.later)) ∙ sym (asks-append r.calls (plain went.later));
            fair = fair-append g m r.calls (plain went.later) r.fair (plain-fair g (after_all g m r.calls) went.later);
            part = replies g m r.calls;
            rest = replies g (after_all g m r.calls) (plain went.later);
            said = last.said ∙ said;
            whole_is = replies-append g m r.calls (plain went.later);
            cuts = widened cuts (λ image count c. c.cut);
          };
          cuts = cuts;
        },
      ))
      (settles.stands (after_all g m r.calls) r.stands.stands)

  -- a run that was begun
  pub begun_ends : {old mid ran new : D} {between after : Memory} (now : Memory) (slots : ℕ) (script left : List ℕ) (ending result : Ending) → between ≡ closed_memory slots → Changes nor old mid (Checks g) → nor.tells old → Begun g (nor.bytes old) (nor.bytes mid) →
      (h k : Geometry) → h ≡ g → k ≡ g → ((m : Moment) → RunStands nor h mid between m → RunEnds nor h mid ran between after m script left ending) → Settling nor k ran new after now ending result → RunsTo nor g old new (first_moment g slots (nor.bytes old)) script left result
  begun_ends {old} {mid} {ran} {new} {between} {after} now slots script left ending result memory changes tells begun h k same alike ends settles =
      let m = first_moment g slots (nor.bytes old) in
      let next : (j : Moment) → RunStands nor g mid between j → RunEnds nor g mid ran between after j script left ending = subst (λ (i : Geometry). (j : Moment) → RunStands nor i mid between j → RunEnds nor i mid ran between after j script left ending) same ends in
      let here : Settling nor g ran new after now ending result = subst (λ (i : Geometry). Settling nor i ran new after now ending result) alike settles in
      ⊎_elim
      (λ broken. begun_breaks slots script left result changes tells begun broken.1 (subst (λ (e : Ending). Settling nor g ran new after now e result) broken.0 here))
      (λ went. begun_settles slots script left ending result changes tells begun went (settles_of nor g ending result ran new after now script left went.front went.later went.why here))
      (next m (begun_run slots memory changes tells begun))

  early_came : {old mid : D} (slots : ℕ) (script left : List ℕ) (ending : Ending) → Changes nor old mid (Checks g) → nor.tells old → table_of g (nor.bytes mid) ≡ table_of g (nor.bytes old) → ImagesEnd g (nor.bytes old) (nor.bytes mid) ending → ((n : ℕ) → ending ≡ Tight n → chosen_block g (nor.bytes mid) ≡ None) → RunsTo nor g old mid (first_moment g slots (nor.bytes old)) script left ending
  early_came {old} {mid} slots script left ending changes tells same refused stuck = inr (record {
    front = [];
    later = calls script;
    asks_are = refl;
    fair = none_fair g (first_moment g slots (nor.bytes old));
    said = changes.said ∙ sym (ap (λ (l : List ℕ). nor.said old ++ l) (no_replies g (first_moment g slots (nor.bytes old))) ∙ append-nil (nor.said old));
    tells = changes.cuts.told tells;
    among = is_settled (after_all g (first_moment g slots (nor.bytes old)) []) (table_of g (nor.bytes mid)) [] (same ∙ sym (first_settled g slots (nor.bytes old)));
    table = same ∙ sym (first_state g slots (nor.bytes old));
    tidy = λ taken. absurd (let no : None ≡ Some ending = sym taken ∙ refused.refusal in cc);
    stuck = stuck;
    why = inl (refl, refused);
    untouched = λ none. same;
    holds = holds_check (changes.now tells);
    safe = safe_check (changes.now tells);
    cuts = check_cut slots [] changes tells;
  })

  -- why a run ends before its first line
  pub early_why : {old mid : D} {ending : Ending} → IsRefused nor g old mid ending ⊎ IsTight g (nor.bytes old) (nor.bytes mid) ending → ImagesEnd g (nor.bytes old) (nor.bytes mid) ending
  early_why ends = record {
    refusal = ⊎_elim (λ refused. rw refused.refusal refl) (λ tight. rw tight.takes tight.tight) ends;
    mends_not = λ may. ⊎_elim (λ refused. not_both may.takes refused.refusal) (λ tight. tight.recovers_not may.comes_back) ends;
  }

  -- a run that ends before its first line
  pub early_ends : {old mid : D} (slots : ℕ) (script left : List ℕ) (ending : Ending) → Changes nor old mid (Checks g) → nor.tells old → StopsRun nor g old mid ending → RunsTo nor g old mid (first_moment g slots (nor.bytes old)) script left ending
  early_ends {old} {mid} slots script left ending changes tells stops = ⊎_elim
      (λ fault.
      let m = first_moment g slots (nor.bytes old) in
      let cuts : Leaves nor old mid (RunCut nor g old m (plain (calls script))) = check_cut slots (plain (calls script)) changes tells in
      inl (
        fault.fault,
        record {
          said = record {
            calls = plain (calls script);
            asks_are = sym (plain-asks (calls script));
            fair = plain-fair g m (calls script);
            part = [];
            rest = replies g m (plain (calls script));
            said = changes.said ∙ sym (append-nil (nor.said old));
            whole_is = refl;
            cuts = widened cuts (λ image count c. c.cut);
          };
          cuts = cuts;
        },
      ))
      (λ ends. early_came slots script left ending changes tells (changes.now tells).table (early_why ends) (λ n is. ⊎_elim (λ refused. absurd (no_tight g (nor.bytes old) ending n refused.refusal is)) (λ tight. tight.stuck) ends))
      stops

  -- one whose image isn't taken
  pub early_refused : {old mid : D} (ending result : Ending) → Changes nor old mid (Checks g) → nor.tells old → check_refusal g (nor.bytes old) ≡ Some ending → StopsRun nor g old mid result → Refused nor g old mid ending result
  early_refused {old} {mid} ending result changes tells is stops = ⊎_elim
      (λ fault. record {
        tells = changes.cuts.told tells;
        speaks = inl (fault.fault, record { part = []; rest = []; said = changes.said ∙ sym (append-nil (nor.said old)); whole_is = refl });
        kept = writes_none (fault.looks ending is);
      })
      (λ ends. ⊎_elim
      (λ refused.
      let both : Some result ≡ Some ending = sym refused.refusal ∙ is in
      let same : result ≡ ending = cc in
      record { tells = changes.cuts.told tells; speaks = inr (same, changes.said ∙ sym (append-nil (nor.said old))); kept = writes_none refused.reads })
      (λ tight. absurd (not_both tight.takes is))
      ends)
      stops

module _ {D : Type 0} (nor : NorOf D) (g : Geometry) where
  -- the same device by another name
  pub runs_as : {old mid new : D} {m : Moment} {script left : List ℕ} {ending : Ending} → mid ≡ new → RunsTo nor g old mid m script left ending → RunsTo nor g old new m script left ending
  runs_as {old} {mid} {new} {m} {script} {left} {ending} same runs = subst (λ (d : D). RunsTo nor g old d m script left ending) same runs

  pub images_as : (was : List ℕ) {cache : ℕ} {old mid new : D} {ending : Ending} → ReadsOnce nor g cache old new → mid ≡ new → EndsByImages g was (nor.bytes mid) ending → EndsByImages g was (nor.bytes new) ending
  images_as was {cache} {old} {mid} {new} {ending} reads same ends = subst (λ (d : D). EndsByImages g was (nor.bytes d) ending) same ends
