-- One call of a volume as a step of a run.
use Rattle.std.proofs.Common.{◌≡◌, ◌≤◌, ℕ, ◌⊎◌, List, [], length, Bool, refl, sym, ◌∙◌, ap, subst, arith, inl, inr, ⊎_elim, true, false, None, Some, Err, Ok}
use Rattle.std.proofs.lemmas.Bool.{cases_Bool, false_from_ne_true}
use Rattle.geometry.specs.declared.geometry.Geometry.{Geometry}
use Rattle.nor_core.specs.declared.state.NorState.{Ghosts as NorOf}
use Rattle.nor_core.specs.Device.{Changes}
use Rattle.nor_core.proofs.Cuts.{wider}
use Rattle.table_model.specs.declared.error.FsErr.TheVariants.{DeviceFault, Damaged, Tight}
use Rattle.table_model.specs.declared.error.Differ.{Differ}
use Rattle.table_model.specs.declared.reply.Reply.{Reply}
use Rattle.table_model.specs.declared.reply.Reply.TheVariants.{Bytes}
use Rattle.table_model.specs.Table.{File, State}
use Rattle.table_model.specs.Room.{has_room}
use Rattle.table_model.specs.Outcome.{Outcome, refused}
use Rattle.table_model.specs.Ask.{Ask, Reads, Fills, Collects}
use Rattle.table_model.specs.Reply.{Answer, Gives, Refuses, answered}
use Rattle.table_model.specs.Window.{Moment, settled_at, from_settled, IsAmong}
use Rattle.call_script.specs.Lines.{Asks, IsCounted}
use Rattle.call_script.specs.Pieces.{IsShort}
use Rattle.table_model.specs.Steps.{is_refusal, steps, cuts_file}
use Rattle.table_model.specs.Flat.{answer}
use Rattle.image_model.specs.Places.{IsImage}
use Rattle.image_model.specs.Tables.{table_of}
use Rattle.image_model.specs.Tidy.{HasReserve, has_spare}
use Rattle.image_model.specs.Collect.{are_had}
use Rattle.call_model.specs.Memory.{Memory}
use Rattle.call_model.specs.Calls.{Stands, Answers}
use Rattle.call_model.proofs.After.{settled-among}
use Rattle.run_model.specs.Runs.{IsCorner, LacksPage, has_index_room}
use Rattle.run_model.specs.Ran.{RunStands, RunPublishes, IsTold}
use Rattle.run_model.proofs.Runs.{among_settled}
use Rattle.run_model.proofs.Corner.{tight_or_still, tight_after}
use Rattle.run_model.proofs.IndexRoom.{lacks_room}
use Rattle.run_model.proofs.OneCall.{spared, run_publishes, run_answers, told_as}
use Rattle.volume.specs.declared.volume.Volume.{Volume}
use Rattle.volume.specs.Holds.{memory, Holds}
use Rattle.volume.specs.Opening.{is_open}
use Rattle.volume.specs.Stages.{takes_calls}
use Rattle.file_calls.specs.declared.told.Told.{Told}
use Rattle.file_calls.specs.Replies.{shown_by, HasRoomFor}
use Rattle.volume.specs.Replies.{breaks}
use Rattle.file_calls.specs.Goes.{IsCornerOn, StopsShort}
use Rattle.volume.specs.Calls.{Calls, StaysTight}
use Rattle.tool_parts.specs.declared.ending.Ending.TheVariants.{BoardFault, Differ as EndsDiffer}
use Rattle.script_run.specs.Runs.{Ran, StandsNow}
use Rattle.script_run.specs.Turns.{DoesCall}

-- a reply whose bytes are few is short
pub is_short : (reply : Reply) → ((bytes : List ℕ) → answered reply ≡ Gives bytes → length bytes ≤ 1024) → IsShort reply
is_short (Bytes bytes) brief = brief bytes.now refl
is_short _ brief = tt {0}

-- a line reads no more than that
read_count : (ask : Ask) (fd count : ℕ) → IsCounted (Asks ask) → ask ≡ Reads fd count → count ≤ 1024
read_count ask fd count counted is = subst (λ (a : Ask). IsCounted (Asks a)) is counted

-- the bytes that are lent are enough for what a line reads, and for those of its fill
pub room_for : (ask : Ask) (n : ℕ) → IsCounted (Asks ask) → 4096 ≤ n → HasRoomFor ask n
room_for (Reads fd count) n counted many = omega (arith, counted, many)
room_for (Fills fd count byte) n counted many = omega (arith, counted, many)
room_for _ n counted many = tt {0}

-- an answer that tells no fault breaks nothing
unbroken : (a : Answer) → ¬ (a ≡ Refuses DeviceFault) → ((d : Differ) → ¬ (a ≡ Refuses (Damaged d))) → breaks a ≡ true → ⊥
unbroken (Refuses DeviceFault) fault damage broken = fault refl
unbroken (Refuses (Damaged d)) fault damage broken = damage d refl
unbroken (Refuses _) fault damage broken = let no : false ≡ true = broken in cc
unbroken _ fault damage broken = let no : false ≡ true = broken in cc

-- an answer is that there is too little room, or it isn't
tight_cases : (a : Answer) → (a ≡ Refuses Tight) ⊎ (a ≡ Refuses Tight → ⊥)
tight_cases (Refuses Tight) = inl refl
tight_cases (Refuses _) = inr (λ tight. cc)
tight_cases _ = inr (λ tight. cc)

-- a file is to be cut on a volume whose table has no room, or not so
corner_cases : (g : Geometry) (image : List ℕ) (s : State) (ask : Ask) → HasReserve g image → IsCornerOn g image s ask ⊎ (IsCornerOn g image s ask → ⊥)
corner_cases g image s ask reserve = ⊎_elim
    (λ (cuts : cuts_file ask ≡ true). ⊎_elim
    (λ (room : has_room g s.table ≡ true). inr (λ corner. let no : false ≡ true = sym corner.full ∙ room in cc))
    (λ (full : has_room g s.table ≡ false). ⊎_elim
    (λ (refused : is_refusal (answer g (has_spare g image) s ask).answer ≡ true). inr (λ corner. let no : true ≡ false = sym refused ∙ corner.done in cc))
    (λ (done : is_refusal (answer g (has_spare g image) s ask).answer ≡ false). inl (record { cuts = cuts; reserve = reserve; full = full; done = done }))
    (cases_Bool (is_refusal (answer g (has_spare g image) s ask).answer)))
    (cases_Bool (has_room g s.table)))
    (λ (whole : cuts_file ask ≡ false). inr (λ corner. let no : false ≡ true = sym whole ∙ corner.cuts in cc))
    (cases_Bool (cuts_file ask))

-- in the corner of a volume the flat table does the call with two free blocks
corner_done : (g : Geometry) (image : List ℕ) (s : State) (ask : Ask) → IsCornerOn g image s ask → is_refusal (answer g true s ask).answer ≡ false
corner_done g image s ask corner = subst (λ (b : Bool). is_refusal (answer g b s ask).answer ≡ false) (spared g image corner.reserve) corner.done

-- a call in it isn't for garbage collection, so it publishes its table
publishes_in : {P : Type 0} (ask : Ask) → cuts_file ask ≡ true → (ask ≡ Collects) ⊎ P → P
publishes_in ask cuts publishes = ⊎_elim (λ collects. absurd (let no : true ≡ false = sym cuts ∙ ap cuts_file collects in cc)) (λ among. among) publishes

-- one that publishes nothing has no such table
still_whole : (g : Geometry) (s : State) (ask : Ask) → steps g true s ask ≡ [] → IsAmong (answer g true s ask).next.table (steps g true s ask) → ⊥
unfolding IsAmong
still_whole g s ask still among = subst (λ (l : List (List File)). IsAmong (answer g true s ask).next.table l) still among

settled_table : (s : State) → (settled_at s).settled ≡ s.table
unfolding settled_at
settled_table s = refl

module _ {N : Type 0} {nor : NorOf N} where
  -- the same geometry by another name
  stands_by : {g h : Geometry} {d : N} {now : Memory} {m : Moment} → h ≡ g → Stands nor h d now m → Stands nor g d now m
  stands_by {g} {h} {d} {now} {m} same stands = subst (λ (k : Geometry). Stands nor k d now m) same stands

  -- what a cut in it leaves
  changes_of : {old new : Volume N nor} {ask : Ask} {reply : Answer} → Calls ask old new reply → (m : Moment) → Changes nor old.nor.now new.nor.now (RunPublishes old.geometry (memory old) m ask)
  changes_of {old} {new} {ask} calls m = run_publishes (memory old) m ask (wider calls.cuts (λ tells image here. here m))

  -- bytes that a line reads are few
  pub brief_of : {old new : Volume N nor} (ask : Ask) (reply : Answer) → IsCounted (Asks ask) → Calls ask old new reply → (bytes : List ℕ) → reply ≡ Gives bytes → length bytes ≤ 1024
  brief_of ask reply counted calls bytes is = let given = calls.brief bytes is in omega (arith, given.few, read_count ask given.fd given.count counted given.reads)

  -- garbage collection isn't stopped where two blocks are free, but in a corner
  not_short : {old new : Volume N nor} {ask : Ask} {reply : Answer} (m : Moment) → takes_calls old ≡ true → Calls ask old new reply → Holds old m → HasReserve old.geometry (nor.bytes old.nor.now) → (IsCornerOn old.geometry (nor.bytes old.nor.now) m.state ask → ⊥) → StopsShort old.geometry (nor.bytes old.nor.now) m.state ask reply → ⊥
  not_short m takes calls holds reserve none short = ⊎_elim
      (λ collects. calls.unstuck m takes holds reserve collects short.tight)
      (λ corner. none corner)
      short.why

  -- answered as the flat table is, a volume stands at the next moment
  stands_next : {g : Geometry} {old new : N} {now : Memory} {m : Moment} {ask : Ask} {reply : Answer} → Answers nor g old new now m ask reply → HasReserve g (nor.bytes old) → StandsNow nor g new now
  stands_next done reserve = record { moment = _; stands = done.stands; reserve = done.holds.reserve reserve }

  -- where two blocks are free it goes on standing, in a corner too
  answer_works : {old new : Volume N nor} {ask : Ask} {reply : Answer} → takes_calls old ≡ true → Calls ask old new reply → ¬ (reply ≡ Refuses DeviceFault) → StandsNow nor old.geometry old.nor.now (memory old) → StandsNow nor old.geometry new.nor.now (memory new)
  answer_works {old} {new} {ask} {reply} takes calls fault here =
      let m = here.moment in
      let answers : (StopsShort old.geometry (nor.bytes old.nor.now) m.state ask reply → ⊥) → StandsNow nor old.geometry new.nor.now (memory new) = λ whole. stands_next (calls.answers m takes here.stands fault whole) here.reserve in
      ⊎_elim
      (λ tight. ⊎_elim
      (λ corner. let stays = calls.cornered m takes here.stands corner tight in record { moment = settled_at m.state; stands = stands_by calls.same.geometry stays.stands; reserve = stays.reserve })
      (λ none. answers (not_short m takes calls here.stands here.reserve none))
      (corner_cases old.geometry (nor.bytes old.nor.now) m.state ask here.reserve))
      (λ loose. answers (λ short. loose short.tight))
      (tight_cases reply)

  -- answered as the flat table is, with two free blocks
  told_plainly : {old new : Volume N nor} {ask : Ask} {reply : Answer} (m : Moment) → takes_calls old ≡ true → Calls ask old new reply → ¬ (reply ≡ Refuses DeviceFault) → RunStands nor old.geometry old.nor.now (memory old) m → (StopsShort old.geometry (nor.bytes old.nor.now) m.state ask reply → ⊥) → IsTold nor old.geometry old.nor.now new.nor.now (memory new) m ask reply
  told_plainly m takes calls fault stands whole = told_as ((changes_of calls m).now stands.stands.tells stands.stands.image stands.reserve).1 (run_answers stands (calls.answers m takes stands.stands fault whole))

  -- an image on which collection stopped has no page for an index page
  lacks_page : {old new : Volume N nor} {m : Moment} → StaysTight old new m → LacksPage old.geometry (nor.bytes new.nor.now)
  lacks_page {old} {new} stays = record {
    stuck = stays.none;
    none_had = false_from_ne_true (are_had old.geometry (nor.bytes new.nor.now) 1 0) (λ had. stays.short (record { had = had; reserve = stays.reserve }));
  }

  -- so its table has no room for one
  tight_corner : {old new : Volume N nor} {ask : Ask} {reply : Answer} (m : Moment) → ((d : N) → nor.tells d → length (nor.bytes d) ≡ nor.size d) → Calls ask old new reply → IsCornerOn old.geometry (nor.bytes old.nor.now) m.state ask → StaysTight old new m → IsCorner old.geometry m.state ask
  tight_corner {old} {new} {ask} m sized calls corner stays =
      let g = old.geometry in
      let image = nor.bytes new.nor.now in
      let here : Stands nor g new.nor.now (memory new) (settled_at m.state) = stands_by calls.same.geometry stays.stands in
      let whole : IsImage g image = subst (λ (k : Geometry). IsImage k image) calls.same.geometry (record { len = omega (arith, sized new.nor.now here.tells, new.fits) }) in
      record {
        cuts = corner.cuts;
        full = ap (has_index_room g) (sym (here.image.table ∙ settled_table m.state)) ∙ lacks_room g image whole here.image.tidy stays.reserve (lacks_page stays);
        done = corner_done g (nor.bytes old.nor.now) m.state ask corner;
      }

  -- in the corner, Tight for want of a page
  told_tight : {old new : Volume N nor} {ask : Ask} {reply : Answer} (m : Moment) → ((d : N) → nor.tells d → length (nor.bytes d) ≡ nor.size d) → takes_calls old ≡ true → Calls ask old new reply → RunStands nor old.geometry old.nor.now (memory old) m → IsCornerOn old.geometry (nor.bytes old.nor.now) m.state ask → reply ≡ Refuses Tight → answer old.geometry false m.state ask ≡ refused Tight m.state → IsTold nor old.geometry old.nor.now new.nor.now (memory new) m ask reply
  told_tight {old} {new} {ask} {reply} m sized takes calls stands corner tight is =
      let g = old.geometry in
      let stays = calls.cornered m takes stands.stands corner tight in
      let here : Stands nor g new.nor.now (memory new) (settled_at m.state) = stands_by calls.same.geometry stays.stands in
      let run : IsCorner g m.state ask = tight_corner m sized calls corner stays in
      let now = (changes_of calls m).now stands.stands.tells stands.stands.image stands.reserve in
      record {
        spare = false;
        fair = λ e. run;
        lacks = λ e. lacks_page stays;
        reply_is = tight ∙ sym (ap (λ (o : Outcome). o.answer) is);
        among = among_settled m (table_of g (nor.bytes new.nor.now)) (steps g false m.state ask) (subst (λ (l : List File). IsAmong l (from_settled m [])) (sym (here.image.table ∙ settled_table m.state)) (settled-among g (nor.bytes old.nor.now) (memory old) m stands.stands.image));
        stands = subst (λ (j : Moment). RunStands nor g new.nor.now (memory new) j) (sym (tight_after g m ask run.cuts is)) (record { stands = here; reserve = stays.reserve });
        holds = record { sound = now.0.sound; reserve = λ reserve. stays.reserve };
      }

  -- a call of a run was told: as by the flat table, but that one in the corner may be without a page
  told_by : {old new : Volume N nor} {ask : Ask} {reply : Answer} (m : Moment) → ((d : N) → nor.tells d → length (nor.bytes d) ≡ nor.size d) → takes_calls old ≡ true → Calls ask old new reply → ¬ (reply ≡ Refuses DeviceFault) → RunStands nor old.geometry old.nor.now (memory old) m → IsTold nor old.geometry old.nor.now new.nor.now (memory new) m ask reply
  told_by {old} {new} {ask} {reply} m sized takes calls fault stands =
      let g = old.geometry in
      let plainly = told_plainly m takes calls fault stands in
      ⊎_elim
      (λ tight. ⊎_elim
      (λ corner. ⊎_elim
      (λ still. plainly (λ short. still_whole g m.state ask still (subst (λ (b : Bool). IsAmong (answer g b m.state ask).next.table (steps g b m.state ask)) (spared g (nor.bytes old.nor.now) stands.reserve) (publishes_in ask corner.cuts short.doable.publishes))))
      (λ is. told_tight m sized takes calls stands corner tight is)
      (tight_or_still g m.state ask corner.cuts (corner_done g (nor.bytes old.nor.now) m.state ask corner)))
      (λ none. plainly (not_short m takes calls stands.stands stands.reserve none))
      (corner_cases g (nor.bytes old.nor.now) m.state ask stands.reserve))
      (λ loose. plainly (λ short. loose short.tight))
      (tight_cases reply)

  -- it was answered
  pub does_answer : {old new : Volume N nor} {ask : Ask} {lent : List ℕ} (told : Told) → ((d : N) → nor.tells d → length (nor.bytes d) ≡ nor.size d) → takes_calls old ≡ true → Calls ask old new (shown_by told lent) → ¬ (shown_by told lent ≡ Refuses DeviceFault) → DoesCall nor old.geometry old.nor.now new.nor.now (memory old) (memory new) ask (Ok told) lent
  does_answer told sized takes calls fault = record {
    changes = changes_of calls;
    answers = λ m stands. told_by m sized takes calls fault stands;
    stops = λ m stands. tt {0};
    works = answer_works takes calls fault;
  }

  -- the device failed
  pub does_fault : {old new : Volume N nor} {ask : Ask} {lent : List ℕ} → Calls ask old new (Refuses DeviceFault) → DoesCall nor old.geometry old.nor.now new.nor.now (memory old) (memory new) ask (Err BoardFault) lent
  does_fault calls = record { changes = changes_of calls; answers = λ m stands. tt {0}; stops = λ m stands. refl; works = λ here. tt {0} }

  -- a page reads otherwise, which none does on a volume that stands
  pub does_damage : {old new : Volume N nor} {ask : Ask} {lent : List ℕ} (d : Differ) → Calls ask old new (Refuses (Damaged d)) → DoesCall nor old.geometry old.nor.now new.nor.now (memory old) (memory new) ask (Err (EndsDiffer d)) lent
  does_damage d calls = record { changes = changes_of calls; answers = λ m stands. tt {0}; stops = λ m stands. absurd (calls.undamaged m stands.stands d refl); works = λ here. absurd (calls.undamaged here.moment here.stands d refl) }

  -- whether it takes calls after one that told no fault
  takes_on : {old new : Volume N nor} {ask : Ask} {reply : Answer} → takes_calls old ≡ true → Calls ask old new reply → (breaks reply ≡ true → ⊥) → takes_calls new ≡ true
  takes_on takes calls whole = ⊎_elim (λ same. ap is_open same ∙ takes) (λ broken. absurd (whole broken.2)) calls.stays

  pub ran_answer : {old new : Volume N nor} {ask : Ask} (reply : Answer) → takes_calls old ≡ true → Calls ask old new reply → ¬ (reply ≡ Refuses DeviceFault) → ((d : Differ) → ¬ (reply ≡ Refuses (Damaged d))) → Ran nor old.nor.now new.nor.now None (takes_calls new)
  ran_answer reply takes calls fault damage = record { faults = calls.same.faults; cause = λ e. absurd (let no : None ≡ Some BoardFault = e in cc); stands = takes_on takes calls (unbroken reply fault damage) }
