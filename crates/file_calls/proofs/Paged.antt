-- What stands against a call that takes an index page, and what it leaves where nothing does.
use Rattle.std.proofs.Common.{◌≡◌, ℕ, ◌+◌, ◌≤◌, ◌⊎◌, ⊎_elim, inl, inr, List, [], ◌∷◌, Bool, true, false, not, refl, sym, ◌∙◌, ap, subst, arith, nat_lt, if◌then◌else◌}
use Rattle.std.specs.Prelude.{Option, Some, None, Result, Ok, Err}
use Rattle.std.proofs.lemmas.Bool.{ltb-true, ltb-false, leb-true, le-leb, lt-leb}
use Rattle.geometry.specs.declared.geometry.Geometry.{Geometry}
use Rattle.geometry.specs.Numbers.{ceil, entries, per_block, lookups}
use Rattle.nor_core.specs.declared.state.NorState.{Ghosts as NorOf}
use Rattle.table_model.specs.declared.error.FsErr.{FsErr}
use Rattle.table_model.specs.declared.error.FsErr.TheVariants.{Tight, Full}
use Rattle.table_model.specs.Table.{File, Open, State}
use Rattle.table_model.specs.Room.{has_room, index_count, data_count}
use Rattle.table_model.specs.Outcome.{Outcome, refused, gives, page_refusal, with_page}
use Rattle.table_model.specs.Reply.{Answer}
use Rattle.table_model.specs.Ask.{Ask}
use Rattle.table_model.specs.Flat.{answer}
use Rattle.table_model.specs.Steps.{is_refusal, done_steps}
use Rattle.image_model.specs.Tables.{table_of}
use Rattle.image_model.specs.Tidy.{IsTidy, free_blocks, HasReserve, has_spare}
use Rattle.image_laws.proofs.Serving.{ceil-mono}
use Rattle.image_laws.proofs.Sounding.{sound-on}
use Rattle.room_laws.specs.Stopping.{HasRoomFor}
use Rattle.room_laws.proofs.Tallies.{entries_pos}
use Rattle.room_laws.proofs.Staying.{reserve_mends}
use Rattle.block_gc.specs.RoomMade.{MadeRoom}
use Rattle.page_renew.specs.PageSteps.{StepCut, StepDone}
use Rattle.flash_view.specs.Steps.{Step, Errors, Stepped}
use Rattle.flash_view.specs.declared.view.View.{View}
use Rattle.flash_view.proofs.Stepped.{fails_as}
use Rattle.fd_table.specs.declared.slot.FdSlot.{FdSlot}
use Rattle.file_calls.specs.States.{IsImageOf}
use Rattle.file_calls.specs.Collecting.{RoomCut, CanTakePage, refusing, taking_page}
use Rattle.file_calls.specs.Cleans.{Taken}
use Rattle.file_calls.specs.Goes.{IsDoable}
use Rattle.file_calls.specs.Cuts.{JobCut}
use Rattle.file_calls.specs.Refusals.{has_room_beside, page_lack}
use Rattle.file_calls.proofs.CleansBy.{LeavesBlocksBy, taken_as, taken_then, taken_within}
use Rattle.file_calls.proofs.Going.{IsOneStep, one_step, one_does, before_or_after, IsStep, tidy_sound}

-- nothing stands against a call that leaves so many more index pages
pub record Allowed (g : Geometry) (image : List ℕ) (more : ℕ) : Type 0 where
  pub reserve : HasReserve g image
  pub room : has_room_beside g (table_of g image) more ≡ true

allowed_by : (g : Geometry) (image : List ℕ) (more : ℕ) (few room : Bool) → nat_lt (free_blocks g image) 2 ≡ few → has_room_beside g (table_of g image) more ≡ room → (if few then Some Tight else if not room then Some Full else None) ≡ None → Allowed g image more
allowed_by g image more true room ef er e = absurd (cc)
allowed_by g image more false false ef er e = absurd (cc)
allowed_by g image more false true ef er e = record { reserve = ltb-false (free_blocks g image) 2 ef; room = er }

pub allowed : (g : Geometry) (image : List ℕ) (more : ℕ) → page_lack g image more ≡ None → Allowed g image more
unfolding page_lack
allowed g image more e = allowed_by g image more (nat_lt (free_blocks g image) 2) (has_room_beside g (table_of g image) more) refl refl e

-- then there is room for one
beside_room : (g : Geometry) (files : List File) (more : ℕ) → has_room_beside g files more ≡ true → ceil (index_count g files + (more + 1)) (entries g) + ceil (data_count g files + 1) (entries g) + 2 ≤ g.blocks
unfolding has_room_beside entries per_block lookups
beside_room g files more e = leb-true _ g.blocks e

pub room_for_one : (g : Geometry) (image : List ℕ) (more : ℕ) → has_room_beside g (table_of g image) more ≡ true → HasRoomFor g image 1 0
room_for_one g image more e =
    let w = beside_room g (table_of g image) more e in
    let index = ceil-mono (index_count g (table_of g image) + 1) (index_count g (table_of g image) + (more + 1)) (entries g) (entries_pos g) (omega arith) in
    let pages = ceil-mono (data_count g (table_of g image) + 0) (data_count g (table_of g image) + 1) (entries g) (entries_pos g) (omega arith) in
    omega (arith, w, index, pages)

pub may_take : (g : Geometry) (image : List ℕ) (more : ℕ) → IsTidy g image → Allowed g image more → CanTakePage g image
may_take g image more tidy w = record { tidy = tidy; reserve = w.reserve; room = room_for_one g image more w.room }

-- ---- the flat table, where a call needs a page

page_had : (g : Geometry) (spare : Bool) (s : State) (out : Outcome) → spare ≡ true → has_room g out.next.table ≡ true → with_page g spare s out ≡ out
unfolding page_refusal
page_had g spare s out two room = rw (two, room) refl

page_tight : (g : Geometry) (spare : Bool) (s : State) (out : Outcome) → spare ≡ false → with_page g spare s out ≡ refused Tight s
unfolding page_refusal
page_tight g spare s out few = rw few refl

page_full : (g : Geometry) (spare : Bool) (s : State) (out : Outcome) → spare ≡ true → has_room g out.next.table ≡ false → with_page g spare s out ≡ refused Full s
unfolding page_refusal
page_full g spare s out two none = rw (two, none) refl

-- A call takes an index page: where there is one the flat table answers `out`, of which `files` is the table, with so many more index pages,
-- and this is its one step.
pub record TakesPage (g : Geometry) (spare : Bool) (s : State) (more : ℕ) (ask : Ask) (reply : Answer) (out : Outcome) (files : List File) : Type 0 where
  pub is : answer g spare s ask ≡ with_page g spare s out
  pub reply_is : out.answer ≡ reply
  pub table_is : out.next.table ≡ files
  pub room_is : has_room g files ≡ has_room_beside g s.table more
  pub step : done_steps g s ask out.next.table ≡ out.next.table ∷ []

module _ (g : Geometry) (image : List ℕ) (s : State) (more : ℕ) (ask : Ask) (reply : Answer) (out : Outcome) (files : List File) (other : is_refusal reply ≡ false) (same : s.table ≡ table_of g image)
    (page : TakesPage g (has_spare g image) s more ask reply out files) where
  room_after : has_room g out.next.table ≡ has_room_beside g (table_of g image) more
  room_after = ap (has_room g) page.table_is ∙ page.room_is ∙ ap (λ (t : List File). has_room_beside g t more) same

  -- where a page is had the flat table does the call
  does_by : has_spare g image ≡ true → has_room_beside g (table_of g image) more ≡ true → answer g (has_spare g image) s ask ≡ out
  does_by two room = page.is ∙ page_had g (has_spare g image) s out two (room_after ∙ room)

  does : Allowed g image more → answer g (has_spare g image) s ask ≡ out
  does w = does_by (le-leb 2 (free_blocks g image) w.reserve) w.room

  one : Allowed g image more → IsOneStep g (has_spare g image) s ask reply files
  one w = subst (λ (table : List File). IsOneStep g (has_spare g image) s ask reply table) page.table_is
      (one_step g (has_spare g image) s out.next ask reply other (does w ∙ ap (λ (a : Answer). gives a out.next) page.reply_is) page.step)

  -- else it refuses it so
  refused_by : (why : FsErr) (few room : Bool) → nat_lt (free_blocks g image) 2 ≡ few → has_room_beside g (table_of g image) more ≡ room → (if few then Some Tight else if not room then Some Full else None) ≡ Some why → answer g (has_spare g image) s ask ≡ refused why s
  refused_by why true room ef er e =
      let is : why ≡ Tight = cc in
      rw is (page.is ∙ page_tight g (has_spare g image) s out (lt-leb 2 (free_blocks g image) (ltb-true (free_blocks g image) 2 ef)))
  refused_by why false false ef er e =
      let is : why ≡ Full = cc in
      rw is (page.is ∙ page_full g (has_spare g image) s out (le-leb 2 (free_blocks g image) (ltb-false (free_blocks g image) 2 ef)) (room_after ∙ er))
  refused_by why false true ef er e = absurd (cc)

  refuses : (why : FsErr) → page_lack g image more ≡ Some why → answer g (has_spare g image) s ask ≡ refused why s
  unfolding page_lack
  refuses why e = refused_by why (nat_lt (free_blocks g image) 2) (has_room_beside g (table_of g image) more) refl refl e

  doable : Allowed g image more → IsDoable g image s ask
  doable w = one_does g image s ask reply files other (one w)

-- ---- the step, once an index page is had

-- An index page is had first, and then the step goes on from the image that is left: a cut is one in either.
abbrev pub with_room : Step (Unit {0}) → Step (Unit {0})
with_room step = record {
  needs = λ g was. CanTakePage g was × ((mid : List ℕ) → MadeRoom g 1 0 was mid → step.needs g mid);
  cut = λ g was image. RoomCut g was image ⊎ ((mid : List ℕ) × MadeRoom g 1 0 was mid × step.cut g mid image);
  done = λ g was now ok. (mid : List ℕ) × MadeRoom g 1 0 was mid × step.done g mid now ok;
}

-- no page was had
pub with_page_not_had : {N : Type 0} {nor : NorOf N} {old mid : View N nor} {step : Step (Unit {0})} {why : FsErr} → Taken refusing 1 0 0 old mid (Err why) taking_page → {rest : ℕ} → Taken refusing 1 0 rest old mid (Err why) (with_room step)
with_page_not_had call = taken_within (omega arith) (taken_as call (fails_as call.steps (λ e. e) (λ e. e) call.steps.means (λ tells need. record { needs = need.0; cut = λ c cut. inl cut })) (λ tells need. need.0) (λ e. e))

module _ {N : Type 0} {nor : NorOf N} {old mid new : View N nor} {step : Step (Unit {0})} where
  -- one was, and the step was taken, which cleans no block
  pub with_page_had : {E : Type 0} {errors : Errors E} {r : Result (Unit {0}) E} {rest : ℕ} → LeavesBlocksBy step → nor.device_writes new.nor.now ≤ nor.device_writes mid.nor.now + rest → Taken refusing 1 0 0 old mid (Ok tt) taking_page → Stepped errors mid new r step → Taken errors 1 0 rest old new r (with_room step)
  with_page_had spare few first next = taken_then spare few first next
      (λ tells need. record { needs = need.0; cut = λ c cut. inl cut })
      (λ tells need made. record { needs = need.1 (nor.bytes mid.nor.now) made; cut = λ c cut. inr (nor.bytes mid.nor.now, made, cut); done = λ c x done. (nor.bytes mid.nor.now, made, done) })

-- ---- over a device

-- what a cut in the step leaves of the image on which an index page was had, it leaves of the one before
pub left_since : (g : Geometry) (files : List File) (was mid image : List ℕ) → MadeRoom g 1 0 was mid → StepCut g files mid image → JobCut g files was image
left_since g files was mid image made cut = record {
  sound = sound-on g was mid image (tidy_sound g mid was made.tidy) cut.sound;
  table = ⊎_elim (λ (before : table_of g image ≡ table_of g mid). inl (before ∙ made.table)) (λ (after : table_of g image ≡ files). inr after) cut.table;
  mends = λ reserve. reserve_mends g image (cut.reserve made.ready.reserve);
}

module _ {D : Type 0} {nor : NorOf D} {g : Geometry} {old : D} {slots : List FdSlot} (more : ℕ) (ask : Ask) (reply : Answer) (other : is_refusal reply ≡ false) (out : State → Outcome) (files : List File)
    (page : (s : State) → IsImageOf nor g old slots s → TakesPage g (has_spare g (nor.bytes old)) s more ask reply (out s) files) where
  -- not done
  pub page_refuses : {why : FsErr} (s : State) → IsImageOf nor g old slots s → page_lack g (nor.bytes old) more ≡ Some why → answer g (has_spare g (nor.bytes old)) s ask ≡ refused why s
  page_refuses {why} s here e = refuses g (nor.bytes old) s more ask reply (out s) files other here.table (page s here) why e

  -- the step
  pub page_step : (after : List (Option Open)) (step : Step (Unit {0})) → (nor.tells old → IsTidy g (nor.bytes old) → page_lack g (nor.bytes old) more ≡ None) →
      ((s : State) → IsImageOf nor g old slots s → (mid : List ℕ) → MadeRoom g 1 0 (nor.bytes old) mid → step.needs g mid) →
      ((s : State) → IsImageOf nor g old slots s → (mid : List ℕ) → table_of g mid ≡ table_of g (nor.bytes old) → (image : List ℕ) → step.cut g mid image → StepCut g files mid image) →
      ((s : State) → IsImageOf nor g old slots s → (mid : List ℕ) → table_of g mid ≡ table_of g (nor.bytes old) → (now : List ℕ) → step.done g mid now tt → StepDone g files mid now) →
      ((s : State) → IsImageOf nor g old slots s → after ≡ (out s).next.slots) → IsStep nor g slots ask reply after old (with_room step)
  page_step after step ready needs cuts ends moved = record {
    can = λ s here. (may_take g (nor.bytes old) more here.tidy (allowed g (nor.bytes old) more (ready here.tells here.tidy)), λ mid made. needs s here mid made);
    cut = λ s here image cut. ⊎_elim
        (λ (taking : RoomCut g (nor.bytes old) image). before_or_after g (nor.bytes old) image s ask reply files (only s here) here.table taking.keeps.sound taking.mends (inl taking.keeps.table))
        (λ (going : (mid : List ℕ) × MadeRoom g 1 0 (nor.bytes old) mid × step.cut g mid image).
        let w = left_since g files (nor.bytes old) going.0 image going.1 (cuts s here going.0 going.1.table image going.2) in
        before_or_after g (nor.bytes old) image s ask reply files (only s here) here.table w.sound w.mends w.table)
        cut;
    done = λ s here now done.
        let w = ends s here done.0 done.1.table now done.2 in
        let o = only s here in
        record {
          answer_is = o.answer_is;
          tidy = w.tidy;
          table = o.table_is ∙ sym w.table;
          slots = moved s here ∙ sym (ap (λ (x : Outcome). x.next.slots) (does g (nor.bytes old) s more ask reply (out s) files other here.table (page s here) (allowed g (nor.bytes old) more (ready here.tells here.tidy))));
          reserve = λ reserve. w.reserve done.1.ready.reserve;
        };
    doable = λ s here. doable g (nor.bytes old) s more ask reply (out s) files other here.table (page s here) (allowed g (nor.bytes old) more (ready here.tells here.tidy));
  }
    where
      only : (s : State) → IsImageOf nor g old slots s → IsOneStep g (has_spare g (nor.bytes old)) s ask reply files
      only s here = one g (nor.bytes old) s more ask reply (out s) files other here.table (page s here) (allowed g (nor.bytes old) more (ready here.tells here.tidy))
