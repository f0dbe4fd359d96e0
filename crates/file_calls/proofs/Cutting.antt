-- Files that are cut to their first bytes, in calls.
use Rattle.std.proofs.Common.{◌≡◌, ℕ, ◌+◌, ◌<◌, ◌≤◌, ◌==◌, ⊎_elim, inl, inr, List, [], ◌∷◌, length, map, Bool, true, false, refl, sym, ◌∙◌, ap, subst, arith, nat_lt}
use Rattle.std.specs.Prelude.{Option, Some, None, Result, Ok, Err}
use Rattle.std.specs.Option.{option_map}
use Rattle.std.proofs.lemmas.Bool.{cases_Bool, leb-true, lt-ltb, le-ltb, ne_eqb, eq-eqb}
use Rattle.std.proofs.lemmas.List.{length-take-le}
use Rattle.geometry.specs.declared.geometry.Geometry.{Geometry}
use Rattle.nor_core.specs.declared.state.NorState.{Ghosts as NorOf}
use Rattle.nor_core.proofs.Cuts.{wider}
use Rattle.table_model.specs.declared.error.FsErr.{FsErr}
use Rattle.table_model.specs.declared.error.FsErr.TheVariants.{BadDescriptor, NotWritable, SeekBounds, Tight, DeviceFault, Damaged}
use Rattle.table_model.specs.declared.reply.Stat.{Stat}
use Rattle.table_model.specs.Table.{File, Open, State, file_of, put_file}
use Rattle.table_model.specs.Descriptors.{open_at, may_write, pulled_back}
use Rattle.table_model.specs.Files.{stat_of, cut_to}
use Rattle.table_model.specs.Room.{has_room}
use Rattle.table_model.specs.Outcome.{Outcome, refused, gives, unless, page_refusal, with_page}
use Rattle.table_model.specs.Calls.{answer_truncate}
use Rattle.table_model.specs.Reply.{Answer, Fine, Refuses}
use Rattle.table_model.specs.Ask.{Ask, Truncates}
use Rattle.table_model.specs.Flat.{answer}
use Rattle.table_model.specs.Steps.{is_refusal, done_steps, open_file, cuts_file}
use Rattle.image_model.specs.Tables.{table_of}
use Rattle.image_model.specs.Tidy.{IsTidy, free_blocks, has_spare}
use Rattle.room_laws.specs.Stopping.{HasRoomFor}
use Rattle.block_gc.specs.RoomMade.{MadeRoom}
use Rattle.flash_view.specs.declared.kinds.StepErr.{StepErr}
use Rattle.flash_view.specs.declared.view.View.{View}
use Rattle.flash_view.specs.Same.{OnlyLooks}
use Rattle.flash_view.specs.Steps.{Step, Stepped, Finishes, stopped}
use Rattle.flash_view.proofs.Stepped.{fails_as, ends_as}
use Rattle.call_model.proofs.Tables.{file_of-id}
use Rattle.file_drop.specs.Truncates.{shortened, truncating}
use Rattle.fd_table.specs.declared.slot.FdSlot.{FdSlot}
use Rattle.fd_table.specs.Slots.{descriptors, opened}
use Rattle.file_calls.specs.Replies.{is_change, may_answer}
use Rattle.file_calls.specs.Slots.{slots_fault}
use Rattle.file_calls.specs.States.{IsImageOf}
use Rattle.file_calls.specs.Collecting.{RoomCut, seeking_page}
use Rattle.file_calls.specs.Refusals.{has_room_beside, IsResized, HasRoomAfter}
use Rattle.file_calls.specs.Cuts.{CanCut, JobCut, cutting}
use Rattle.file_calls.specs.Cleans.{index_taken, rest_taken, Taken}
use Rattle.file_calls.specs.Goes.{Goes}
use Rattle.file_calls.proofs.Numbered.{numbered_fine}
use Rattle.file_calls.proofs.CleansBy.{step_leaves, cleans_as, taken_as, taken_after, taken_then, taken_within}
use Rattle.file_calls.proofs.TurnsBy.{index_few, rest_few, few_once, turns_once}
use Rattle.file_calls.proofs.Going.{is_flat, not_collects, IsOneStep, one_step, one_does, before_or_after, IsStep, some_steps, goes_by, no_gift, refuses_same, stop_slots}
use Rattle.file_calls.proofs.Paged.{room_for_one, left_since}
use Rattle.file_calls.proofs.Descriptors.{open_in, file_at, stat_is}
use Rattle.file_calls.proofs.Restates.{the_file, the_file_is}

-- ---- room

room_beside : (g : Geometry) (files : List File) → has_room g files ≡ has_room_beside g files 0
unfolding has_room has_room_beside
room_beside g files = refl

-- a table without room for an index page has none
no_room : (g : Geometry) (image : List ℕ) → (HasRoomFor g image 1 0 → ⊥) → has_room g (table_of g image) ≡ false
no_room g image none = ⊎_elim
    (λ (room : has_room g (table_of g image) ≡ true). absurd (none (room_for_one g image 0 (sym (room_beside g (table_of g image)) ∙ room))))
    (λ (full : has_room g (table_of g image) ≡ false). full)
    (cases_Bool (has_room g (table_of g image)))

spare_by : (g : Geometry) (spare : Bool) (files : List File) → page_refusal g spare files ≡ None → spare ≡ true
unfolding page_refusal
spare_by g true files e = refl
spare_by g false files e = absurd (cc)

-- what is told of the room for a file that gets so many bytes in the place of others
abbrev pub TellsRoom : (from to : ℕ) → Result (Unit {0}) FsErr → Geometry → List ℕ → Type 0
TellsRoom from to result g image = (f new : File) → IsResized (table_of g image) from to f new → HasRoomAfter g image (put_file new (table_of g image)) result

-- a file that is cut
pub is_resized : (files : List File) (id size from : ℕ) (f : File) → file_of id files ≡ Some f → length f.bytes ≡ from → size ≤ from → IsResized files from size f (shortened size f)
is_resized files id size from f there long less = record {
  there = subst (λ (n : ℕ). file_of n files ≡ Some f) (sym (file_of-id id files f there)) there;
  same = refl;
  was = long;
  now = length-take-le size f.bytes (omega (arith, long, less));
}

-- ---- the step

-- a step, where it ends so
abbrev pub where_true : Step Bool → Step (Unit {0})
where_true step = record { needs = step.needs; cut = step.cut; done = λ g was now ok. step.done g was now true }

module _ {N : Type 0} {nor : NorOf N} {old new : View N nor} {rest : ℕ} {step : Step Bool} where
  pub ends_true : Taken stopped 1 0 rest old new (Ok true) step → Taken stopped 1 0 rest old new (Ok tt) (where_true step)
  ends_true call = taken_as call (ends_as call.steps (λ tells need. record { needs = need; cut = λ c cut. cut }) (λ tells need done. done)) (λ tells need. need) (λ e. e)

  pub fails_true : {why : StepErr} → Taken stopped 1 0 rest old new (Err why) step → Taken stopped 1 0 rest old new (Err why) (where_true step)
  fails_true call = taken_as call (fails_as call.steps (λ k. k) (λ k. k) call.steps.means (λ tells need. record { needs = need; cut = λ c cut. cut })) (λ tells need. need) (λ e. e)

-- a cut while a page is sought
seek_cut : (g : Geometry) (after : List File) (was image : List ℕ) → RoomCut g was image → JobCut g after was image
seek_cut g after was image cut = record { sound = cut.keeps.sound; table = inl cut.keeps.table; mends = cut.mends }

-- once one is had the file is cut
then_cuts : (g : Geometry) (was mid : List ℕ) (id size : ℕ) (f : File) → CanCut g was id size f → MadeRoom g 1 0 was mid → Finishes g was mid (truncating id size f) (where_true (cutting id size f))
then_cuts g was mid id size f can made = record {
  needs = record { tidy = made.tidy; had = made.ready.had; there = ap (file_of id) made.table ∙ can.there; less = can.less };
  cut = λ c cut. left_since g (put_file (shortened size f) (table_of g was)) was mid c made
      (record { sound = cut.sound; reserve = cut.reserve; wear = cut.wear; table = ⊎_elim (λ before. inl before) (λ after. inr (after ∙ ap (put_file (shortened size f)) made.table)) cut.table });
  done = λ c ok done. record { tidy = done.tidy; table = done.table ∙ ap (put_file (shortened size f)) made.table; reserve = λ reserve. done.reserve made.ready.reserve };
}

module _ {N : Type 0} {nor : NorOf N} {old new : View N nor} {rest : ℕ} (id size : ℕ) (f : File) where
  -- no page could be sought
  pub seek_failed : {why : StepErr} → Taken stopped 1 0 0 old new (Err why) seeking_page → Taken stopped 1 0 rest old new (Err why) (cutting id size f)
  seek_failed call = taken_within (omega arith) (taken_as call (fails_as call.steps (λ k. k) (λ k. k) call.steps.means (λ tells can. record { needs = record { tidy = can.tidy; reserve = can.reserve }; cut = λ c cut. seek_cut _ _ _ c cut }))
      (λ tells can. record { tidy = can.tidy; reserve = can.reserve }) (λ e. e))

  -- there was none
  pub none_found : Taken stopped 1 0 0 old new (Ok false) seeking_page → Taken stopped 1 0 rest old new (Ok false) (cutting id size f)
  none_found call = taken_within (omega arith) (taken_as call (ends_as call.steps (λ tells can. record { needs = record { tidy = can.tidy; reserve = can.reserve }; cut = λ c cut. seek_cut _ _ _ c cut }) (λ tells can none. none))
      (λ tells can. record { tidy = can.tidy; reserve = can.reserve }) (λ e. e))

  -- one was had, and then the file was to be cut
  pub cut_then : {mid : View N nor} {r : Result (Unit {0}) StepErr} → nor.device_writes new.nor.now ≤ nor.device_writes mid.nor.now + rest → Taken stopped 1 0 0 old mid (Ok true) seeking_page → Stepped stopped mid new r (truncating id size f) → Taken stopped 1 0 rest old new r (where_true (cutting id size f))
  cut_then few first next = taken_then (λ h was image cut. step_leaves cut) few first next
      (λ tells can. record { needs = record { tidy = can.tidy; reserve = can.reserve }; cut = λ c cut. seek_cut _ _ _ c cut })
      (λ tells can made. then_cuts _ _ _ id size f can made)

-- ---- calls that cut a file

-- Where its pages are had the flat table cuts the file of an id in a call and answers so, and these are the descriptors then.
pub record CutsFile (g : Geometry) (spare : Bool) (s : State) (ask : Ask) (reply : Answer) (id size : ℕ) (after : List (Option Open)) (f : File) (next : State) : Type 0 where
  pub there : file_of id s.table ≡ Some f
  pub less : size ≤ length f.bytes
  pub is : answer g spare s ask ≡ with_page g spare s (gives reply next)
  pub table_is : next.table ≡ put_file (shortened size f) s.table
  pub slots_are : after ≡ next.slots
  pub step : done_steps g s ask next.table ≡ next.table ∷ []

module _ {D : Type 0} {nor : NorOf D} {g : Geometry} {old : D} {slots : List FdSlot} (ask : Ask) (reply : Answer) (other : is_refusal reply ≡ false) (id size : ℕ) (after : List (Option Open)) (f : File) (next : State → State)
    (flat : (s : State) → IsImageOf nor g old slots s → CutsFile g (has_spare g (nor.bytes old)) s ask reply id size after f (next s)) where
  -- the table after it
  abbrev pub left : List File
  left = put_file (shortened size f) (table_of g (nor.bytes old))

  answered : (why : Option FsErr) (s : State) → IsImageOf nor g old slots s → page_refusal g (has_spare g (nor.bytes old)) left ≡ why → answer g (has_spare g (nor.bytes old)) s ask ≡ unless why s (gives reply (next s))
  answered why s here e =
      let w = flat s here in
      let table : (next s).table ≡ left = w.table_is ∙ ap (put_file (shortened size f)) here.table in
      w.is ∙ ap (λ (o : Option FsErr). unless o s (gives reply (next s))) (ap (page_refusal g (has_spare g (nor.bytes old))) table ∙ e)

  -- no page is had
  pub cut_refuses : {why : FsErr} (s : State) → IsImageOf nor g old slots s → page_refusal g (has_spare g (nor.bytes old)) left ≡ Some why → answer g (has_spare g (nor.bytes old)) s ask ≡ refused why s
  cut_refuses {why} s here lack = answered (Some why) s here lack

  -- the step
  module _ (ready : (s : State) → IsImageOf nor g old slots s → page_refusal g (has_spare g (nor.bytes old)) left ≡ None) where
    one : (s : State) → IsImageOf nor g old slots s → IsOneStep g (has_spare g (nor.bytes old)) s ask reply left
    one s here =
        let w = flat s here in
        subst (λ (table : List File). IsOneStep g (has_spare g (nor.bytes old)) s ask reply table) (w.table_is ∙ ap (put_file (shortened size f)) here.table)
        (one_step g (has_spare g (nor.bytes old)) s (next s) ask reply other (answered None s here (ready s here)) w.step)

    pub cut_step : IsStep nor g slots ask reply after old (where_true (cutting id size f))
    cut_step = record {
      can = λ s here. record {
        tidy = here.tidy;
        reserve = leb-true 2 (free_blocks g (nor.bytes old)) (spare_by g (has_spare g (nor.bytes old)) left (ready s here));
        there = ap (file_of id) (sym here.table) ∙ (flat s here).there;
        less = (flat s here).less;
      };
      cut = λ s here image cut. before_or_after g (nor.bytes old) image s ask reply left (one s here) here.table cut.sound cut.mends cut.table;
      done = λ s here now done. let o = one s here in record {
        answer_is = o.answer_is;
        tidy = done.tidy;
        table = o.table_is ∙ sym done.table;
        slots = (flat s here).slots_are ∙ sym (ap (λ (x : Outcome). x.next.slots) (answered None s here (ready s here)));
        reserve = done.reserve;
      };
      doable = λ s here. one_does g (nor.bytes old) s ask reply left other (one s here);
    }

-- No page was had for the cut, since the table had no room: nothing is changed but where pages stand.
pub goes_cornered : {N : Type 0} {nor : NorOf N} {old mid new : View N nor} {slots : List FdSlot} {after : List (Option Open)} {id size : ℕ} {f : File} (ask : Ask) (reply : Answer) → is_flat ask ≡ true → is_change ask ≡ true → cuts_file ask ≡ true → slots_fault old.geometry (descriptors slots) ask ≡ None →
    IsStep nor old.geometry slots ask reply after old.nor.now (where_true (cutting id size f)) → OnlyLooks old mid → old.wrote ≡ false → may_answer ask (Refuses Tight) ≡ true → Taken stopped (index_taken ask) 0 (rest_taken mid.geometry ask) mid new (Ok false) (cutting id size f) → Goes nor old.geometry ask old.nor.now new.nor.now slots slots new.wrote (Refuses Tight)
goes_cornered {nor = nor} {old = old} {mid = mid} {new = new} {slots = slots} {id = id} {size = size} {f = f} ask reply flat change cuts fine does looks fresh may taken =
    let all = subst (λ (k : Geometry). Taken {nor = nor} stopped (index_taken ask) 0 (rest_taken k ask) old new (Ok false) (cutting id size f)) looks.same.geometry (taken_after looks taken) in
    let call : Stepped stopped old new (Ok false) (cutting id size f) = all.steps in
    goes_by ask (Refuses Tight) new.wrote
    (record {
      among = may;
      brief = λ bytes e. absurd (no_gift (Refuses Tight) bytes refl e);
      numbered = numbered_fine old.geometry slots ask (Refuses Tight) new.wrote fine (stop_slots Tight tt);
      still = λ refusal. refl;
      keeps = λ k. refl;
    })
    (wider call.cuts (λ tells image cut s here. does.cut s here image (cut (does.can s here))))
    (wider call.upkeep (λ tells image kept s here. kept (does.can s here)))
    (λ s here no_fault whole.
    let can = does.can s here in
    let none = call.ends here.tells can in
    absurd (whole (record { why = inr (record { cuts = cuts; reserve = can.reserve; full = ap (has_room old.geometry) here.table ∙ no_room old.geometry (nor.bytes old.nor.now) none.1; done = (does.doable s here).done }); doable = does.doable s here; tight = refl })))
    (λ s here collects. absurd (not_collects ask flat collects))
    (λ s here corner tight.
    let none = (call.ends here.tells (does.can s here)).0 in
    record {
      holds = record { tells = call.cuts.cuts.told here.tells; tidy = none.tidy; table = here.table ∙ sym none.table; slots = here.slots; opened = here.opened };
      reserve = none.reserve corner.reserve;
      none = none.none;
      short = none.short;
    })
    (λ s here w. does.doable s here)
    (λ none. call.framed.untouched fresh none)
    (λ e. absurd (let no : Tight ≡ DeviceFault = refuses_same Tight DeviceFault e in cc))
    (λ d e. absurd (let no : Tight ≡ Damaged d = refuses_same Tight (Damaged d) e in cc))
    (λ look. absurd (let no : true ≡ false = sym change ∙ look in cc))
    (λ why e. absurd (let no : None ≡ Some why = sym fine ∙ e in cc))
    (λ s here write none. cleans_as (λ e. absurd (let no : false ≡ true = e in cc)) (all.cleans here.tells (does.can s here)))
    (λ s here write. turns_once 1 (index_few ask) (omega arith) (rest_few old.geometry ask write) (omega arith, omega arith, few_once (some_steps old.geometry (nor.bytes old.nor.now) s ask flat (does.doable s here))) (cleans_as (λ e. absurd (let no : false ≡ true = e in cc)) (all.cleans here.tells (does.can s here))))

-- ---- cuts by descriptor

module _ (g : Geometry) (spare : Bool) (s : State) (fd size : ℕ) where
  pub truncate_closed : open_at s.slots fd ≡ None → answer g spare s (Truncates fd size) ≡ refused BadDescriptor s
  unfolding answer answer_truncate
  truncate_closed none = rw none refl

  module _ (d : Open) (f : File) (at : open_at s.slots fd ≡ Some d) (there : file_of d.id s.table ≡ Some f) where
    flat_unwritable : may_write d.flags ≡ false → answer g spare s (Truncates fd size) ≡ refused NotWritable s
    unfolding answer answer_truncate
    flat_unwritable never = rw at (rw there (rw never refl))

    module _ (may : may_write d.flags ≡ true) where
      flat_beyond : nat_lt (length f.bytes) size ≡ true → answer g spare s (Truncates fd size) ≡ refused SeekBounds s
      unfolding answer answer_truncate
      flat_beyond more = rw at (rw there (rw may (rw more refl)))

      flat_same : nat_lt (length f.bytes) size ≡ false → (size == length f.bytes) ≡ true → answer g spare s (Truncates fd size) ≡ gives Fine s
      unfolding answer answer_truncate
      flat_same within same = rw at (rw there (rw may (rw within (rw same refl))))

      flat_cuts : nat_lt (length f.bytes) size ≡ false → (size == length f.bytes) ≡ false → answer g spare s (Truncates fd size) ≡ with_page g spare s (gives Fine (cut_to size f s))
      unfolding answer answer_truncate
      flat_cuts within less = rw at (rw there (rw may (rw within (rw less refl))))

    -- its one step
    cuts_once : (files : List File) → nat_lt size (length f.bytes) ≡ true → done_steps g s (Truncates fd size) files ≡ files ∷ []
    unfolding done_steps open_file
    cuts_once files less = rw at (rw there (rw less refl))

module _ {D : Type 0} {nor : NorOf D} {g : Geometry} {old : D} {slots : List FdSlot} (fd : ℕ) (slot : FdSlot) (at : open_at (descriptors slots) fd ≡ Some (opened slot)) (size : ℕ) where
  pub cut_unwritable : may_write slot.flags ≡ false → (s : State) → IsImageOf nor g old slots s → answer g (has_spare g (nor.bytes old)) s (Truncates fd size) ≡ refused NotWritable s
  cut_unwritable never s here = let w = file_at fd slot at s here in flat_unwritable g (has_spare g (nor.bytes old)) s fd size (opened slot) w.file (open_in slots s fd (Some (opened slot)) here.slots at) w.there never

  -- by the size that the record of its file tells
  module _ (may : may_write slot.flags ≡ true) (stat : Stat) (told : nor.tells old → IsTidy g (nor.bytes old) → Some stat ≡ option_map stat_of (file_of slot.id (table_of g (nor.bytes old)))) where
    pub is_old : (s : State) (here : IsImageOf nor g old slots s) → (file_of slot.id s.table ≡ Some (the_file slot.id (table_of g (nor.bytes old)))) × (length (the_file slot.id (table_of g (nor.bytes old))).bytes ≡ stat.size)
    is_old s here =
        let w = file_at fd slot at s here in
        let same = the_file_is slot.id (table_of g (nor.bytes old)) w.file w.listed in
        let of_file = stat_is stat w.file _ (told here.tells here.tidy) w.listed in
        (w.there ∙ ap (λ (x : File). Some x) (sym same), ap (λ (x : File). length x.bytes) same ∙ sym (ap (λ (x : Stat). x.size) of_file))

    -- beyond the end
    pub cut_beyond : stat.size < size → (s : State) → IsImageOf nor g old slots s → answer g (has_spare g (nor.bytes old)) s (Truncates fd size) ≡ refused SeekBounds s
    cut_beyond more s here =
        let w = is_old s here in
        flat_beyond g (has_spare g (nor.bytes old)) s fd size (opened slot) (the_file slot.id (table_of g (nor.bytes old))) (open_in slots s fd (Some (opened slot)) here.slots at) w.0 may (lt-ltb (length (the_file slot.id (table_of g (nor.bytes old))).bytes) size (omega (arith, w.1, more)))

    -- to the size that it has
    pub cut_at_end : size ≡ stat.size → (s : State) → IsImageOf nor g old slots s → answer g (has_spare g (nor.bytes old)) s (Truncates fd size) ≡ gives Fine s
    cut_at_end same s here =
        let w = is_old s here in
        flat_same g (has_spare g (nor.bytes old)) s fd size (opened slot) (the_file slot.id (table_of g (nor.bytes old))) (open_in slots s fd (Some (opened slot)) here.slots at) w.0 may (le-ltb (length (the_file slot.id (table_of g (nor.bytes old))).bytes) size (omega (arith, w.1, same))) (eq-eqb size (length (the_file slot.id (table_of g (nor.bytes old))).bytes) (same ∙ sym w.1))

    -- before it
    module _ (less : size < stat.size) where
      cut_by : (s : State) → IsImageOf nor g old slots s → CutsFile g (has_spare g (nor.bytes old)) s (Truncates fd size) Fine slot.id size (map (pulled_back slot.id size) (descriptors slots)) (the_file slot.id (table_of g (nor.bytes old))) (cut_to size (the_file slot.id (table_of g (nor.bytes old))) s)
      unfolding cut_to
      cut_by s here =
          let w = is_old s here in
          let held = open_in slots s fd (Some (opened slot)) here.slots at in
          let id : (the_file slot.id (table_of g (nor.bytes old))).id ≡ slot.id = file_of-id slot.id s.table (the_file slot.id (table_of g (nor.bytes old))) w.0 in
          record {
            there = w.0;
            less = omega (arith, w.1, less);
            is = flat_cuts g (has_spare g (nor.bytes old)) s fd size (opened slot) (the_file slot.id (table_of g (nor.bytes old))) held w.0 may (le-ltb (length (the_file slot.id (table_of g (nor.bytes old))).bytes) size (omega (arith, w.1, less))) (ne_eqb size (length (the_file slot.id (table_of g (nor.bytes old))).bytes) (λ same. omega (arith, w.1, less, same)));
            table_is = refl;
            slots_are = ap (λ (n : ℕ). map (pulled_back n size) (descriptors slots)) (sym id) ∙ ap (map (pulled_back (the_file slot.id (table_of g (nor.bytes old))).id size)) here.slots;
            step = cuts_once g (has_spare g (nor.bytes old)) s fd size (opened slot) (the_file slot.id (table_of g (nor.bytes old))) held w.0 _ (lt-ltb size (length (the_file slot.id (table_of g (nor.bytes old))).bytes) (omega (arith, w.1, less)));
          }

      is_room : (s : State) → IsImageOf nor g old slots s → IsResized (table_of g (nor.bytes old)) stat.size size (the_file slot.id (table_of g (nor.bytes old))) (shortened size (the_file slot.id (table_of g (nor.bytes old))))
      is_room s here = let w = is_old s here in is_resized (table_of g (nor.bytes old)) slot.id size stat.size (the_file slot.id (table_of g (nor.bytes old))) (ap (file_of slot.id) (sym here.table) ∙ w.0) w.1 (omega (arith, less))

      -- no page is had
      pub truncate_refuses : {why : FsErr} → (nor.tells old → IsTidy g (nor.bytes old) → TellsRoom stat.size size (Err why) g (nor.bytes old)) → (s : State) → IsImageOf nor g old slots s → (why ≡ DeviceFault → ⊥) → answer g (has_spare g (nor.bytes old)) s (Truncates fd size) ≡ refused why s
      truncate_refuses room s here no_fault = cut_refuses (Truncates fd size) Fine refl slot.id size (map (pulled_back slot.id size) (descriptors slots)) (the_file slot.id (table_of g (nor.bytes old))) (cut_to size (the_file slot.id (table_of g (nor.bytes old)))) cut_by s here
          (room here.tells here.tidy (the_file slot.id (table_of g (nor.bytes old))) (shortened size (the_file slot.id (table_of g (nor.bytes old)))) (is_room s here) no_fault)

      -- the step
      pub truncated_step : (nor.tells old → IsTidy g (nor.bytes old) → TellsRoom stat.size size (Ok tt) g (nor.bytes old)) → IsStep nor g slots (Truncates fd size) Fine (map (pulled_back slot.id size) (descriptors slots)) old (where_true (cutting slot.id size (the_file slot.id (table_of g (nor.bytes old)))))
      truncated_step room = cut_step (Truncates fd size) Fine refl slot.id size (map (pulled_back slot.id size) (descriptors slots)) (the_file slot.id (table_of g (nor.bytes old))) (cut_to size (the_file slot.id (table_of g (nor.bytes old)))) cut_by
          (λ s here. room here.tells here.tidy (the_file slot.id (table_of g (nor.bytes old))) (shortened size (the_file slot.id (table_of g (nor.bytes old)))) (is_room s here))
