-- Calls that clean blocks in turns, one step after the other.
use Rattle.std.proofs.Common.{◌≡◌, ℕ, ◌+◌, ◌-◌, ◌≤◌, List, [], ◌∷◌, ◌++◌, length, length-append, true, false, refl, sym, subst, arith, Result, Ok, Err, IsErr}
use Rattle.std.proofs.lemmas.Bool.{leb-true, le-leb}
use Rattle.geometry.specs.declared.geometry.Geometry.{Geometry}
use Rattle.geometry.specs.Numbers.{entries}
use Rattle.nor_core.specs.declared.state.NorState.{Ghosts as NorOf}
use Rattle.nor_core.specs.Device.{OnlyReads}
use Rattle.nor_core.proofs.Cuts.{reads_then, reads_none}
use Rattle.table_model.specs.Table.{File}
use Rattle.table_model.specs.Ask.{Ask, Creates, Opens, Truncates, Removes, RemovesOpen, Renames, SetsMeta, SetsMetaOpen}
use Rattle.file_calls.specs.Replies.{is_write}
use Rattle.table_model.specs.Window.{IsAmong}
use Rattle.image_model.specs.Collect.{are_had, blocks_for, free_where, takes_index, takes_data}
use Rattle.image_model.specs.Tidy.{free_blocks}
use Rattle.image_laws.proofs.Serving.{ceil-mono}
use Rattle.room_laws.proofs.Tallies.{entries_pos}
use Rattle.block_gc.specs.RoomMade.{IsReady}
use Rattle.block_gc.proofs.Cleanings.{none_more}
use Rattle.flash_view.specs.declared.view.View.{View}
use Rattle.flash_view.specs.Same.{OnlyLooks}
use Rattle.flash_view.specs.Steps.{Step, Errors, Stepped, Begins, Finishes}
use Rattle.flash_view.proofs.Stepped.{after_look, stepped_then, passes}
use Rattle.file_calls.specs.Cleans.{index_taken, rest_taken, turn_most, WriteTurn, pages_in, CleansFor, Taken, TurnsAlong, IsFew, CleansInTurns, Turned}
use Rattle.file_calls.proofs.CleansBy.{cleans_as, cleans_read}

-- ---- fewer pages

-- where pages are had, fewer are
had_less : (g : Geometry) (image : List ℕ) (i p j q : ℕ) → i ≤ j → p ≤ q → are_had g image j q ≡ true → are_had g image i p ≡ true
unfolding are_had
had_less g image i p j q less fewer had =
    let index_free = free_where g image (takes_index g image) in
    let pages_free = free_where g image (takes_data g image) in
    let most = leb-true (blocks_for g j index_free q pages_free) (free_blocks g image - 2) had in
    let index = ceil-mono (i - index_free) (j - index_free) (entries g) (entries_pos g) (omega (arith, less)) in
    let pages = ceil-mono (p - pages_free) (q - pages_free) (entries g) (entries_pos g) (omega (arith, fewer)) in
    le-leb (blocks_for g i index_free p pages_free) (free_blocks g image - 2) (omega (arith, most, index, pages))

ready_less : (g : Geometry) (image : List ℕ) (i p j q : ℕ) → i ≤ j → p ≤ q → IsReady g image j q → IsReady g image i p
ready_less g image i p j q less fewer ready = record { had = had_less g image i p j q less fewer ready.had; reserve = ready.reserve }

-- the index pages of a call that is no write are few
pub index_few : (ask : Ask) → index_taken ask ≤ 2
index_few (Creates name) = omega arith
index_few (Opens name flags) = omega arith
index_few (Truncates fd size) = omega arith
index_few (Renames old_name new_name) = omega arith
index_few (SetsMeta name meta) = omega arith
index_few (SetsMetaOpen fd meta) = omega arith
index_few _ = omega arith

-- .. and a write has no rest but in its turns
pub rest_few : (g : Geometry) (ask : Ask) → is_write ask ≡ true → rest_taken g ask ≤ turn_most 1
rest_few g (Creates name) write = absurd (cc)
rest_few g (Opens name flags) write = absurd (cc)
rest_few g (Truncates fd size) write = absurd (cc)
rest_few g (Removes name) write = absurd (cc)
rest_few g (RemovesOpen fd) write = absurd (cc)
rest_few g (Renames old_name new_name) write = absurd (cc)
rest_few g (SetsMeta name meta) write = absurd (cc)
rest_few g (SetsMetaOpen fd meta) write = absurd (cc)
rest_few g _ write = omega arith

-- a list with a member has one
pub some_among : (t : List File) (us : List (List File)) → IsAmong t us → 1 ≤ length us
unfolding IsAmong
some_among t [] among = absurd among
some_among t (u ∷ us) among = omega arith

-- ---- over a device

module _ {D : Type 0} {nor : NorOf D} {g : Geometry} where
  -- blocks that are cleaned for few pages are cleaned for these
  cleans_more : {i p k : ℕ} (q : ℕ) {old new : D} {P : Type 0} → i ≤ 2 → p ≤ q → k ≤ turn_most q → CleansFor nor g i p k old new P → CleansFor nor g 2 q (turn_most q) old new P
  cleans_more {i} {p} {k} q {old} less fewer short call = record {
    mid = call.mid;
    first = call.first;
    idle = λ ready. call.idle (ready_less g (nor.bytes old) i p 2 q less fewer ready);
    needed = λ whole.
        let w = call.needed whole in
        record { swept = w.swept; lower = w.lower; most = w.most; few = w.few; needed = none_more (λ image. IsReady g image i p) (λ image. IsReady g image 2 q) w.swept.through (λ image ready. ready_less g image i p 2 q less fewer ready) w.needed };
    few = let few = call.few in omega (arith, few, short);
    rest_cut = call.rest_cut;
    none = λ no_index no_pages. absurd (let no : 2 ≡ 0 = no_index in omega (arith, no));
  }

module _ {D : Type 0} (nor : NorOf D) (g : Geometry) where
  -- turns that are broken off where others are
  along_as : (old new : D) (P Q : Type 0) (turns : List (WriteTurn D)) → (P → Q) → TurnsAlong nor g old new P turns → TurnsAlong nor g old new Q turns
  unfolding TurnsAlong
  along_as old new P Q [] on along = along
  along_as old new P Q (turn ∷ more) on along = (along.0, cleans_as on along.1)

  -- before reads
  along_read : (old mid new : D) (P : Type 0) (turns : List (WriteTurn D)) → TurnsAlong nor g old mid P turns → OnlyReads nor mid new → TurnsAlong nor g old new P turns
  unfolding TurnsAlong
  along_read old mid new P [] along reads = reads_then along reads
  along_read old mid new P (turn ∷ more) along reads = (along.0, cleans_read along.1 reads)

  -- after reads
  along_after : (old mid new : D) (P : Type 0) (turns : List (WriteTurn D)) → OnlyReads nor old mid → TurnsAlong nor g mid new P turns → TurnsAlong nor g old new P turns
  unfolding TurnsAlong
  along_after old mid new P [] reads along = reads_then reads along
  along_after old mid new P (turn ∷ more) reads along = (along_after old mid turn.from ⊥ more reads along.0, along.1)

  -- after turns that were not broken off
  along_then : (old mid new : D) (P : Type 0) (turns before : List (WriteTurn D)) → TurnsAlong nor g old mid ⊥ before → TurnsAlong nor g mid new P turns → TurnsAlong nor g old new P (turns ++ before)
  unfolding TurnsAlong
  along_then old mid new P [] before first along = along_read old mid new P before (along_as old mid ⊥ P before (λ e. absurd e) first) along
  along_then old mid new P (turn ∷ more) before first along = (along_then old mid turn.from ⊥ more before first along.0, along.1)

  -- one turn
  along_once : (pages : ℕ) (some : 1 ≤ pages) (short : pages ≤ 16) (old new : D) (P : Type 0) → CleansFor nor g 2 pages (turn_most pages) old new P → TurnsAlong nor g old new P (record { from = old; pages = pages; some = some; short = short } ∷ [])
  unfolding TurnsAlong
  along_once pages some short old new P call = (reads_none old, call)

  -- none
  along_none : (old new : D) (P : Type 0) → OnlyReads nor old new → TurnsAlong nor g old new P []
  unfolding TurnsAlong
  along_none old new P reads = reads

-- turns are no more than so many
pub few_none : {ready : Type 0} {parts : ℕ} → IsFew ready parts 0
few_none = record { most = omega arith; few = λ no_tail. omega arith }

pub few_once : {ready : Type 0} {parts pages : ℕ} → pages ≤ parts → IsFew ready parts pages
few_once few = record { most = omega (arith, few); few = λ no_tail. few }

-- the pages of one turn, and of turns behind others
one_in : {D : Type 0} (turn : WriteTurn D) → pages_in (turn ∷ []) ≡ turn.pages
unfolding pages_in
one_in turn = omega arith

both_in : {D : Type 0} (turns before : List (WriteTurn D)) → pages_in (turns ++ before) ≡ pages_in turns + pages_in before
unfolding pages_in
both_in [] before = omega arith
both_in (turn ∷ more) before = let rest = both_in more before in omega (arith, rest)

module _ {D : Type 0} {nor : NorOf D} {g : Geometry} where
  -- a call with no more than reads
  pub turns_none : {ready : Type 0} {parts : ℕ} {old new : D} {P : Type 0} → OnlyReads nor old new → CleansInTurns nor g ready parts old new P
  unfolding pages_in
  turns_none {old = old} {new = new} {P = P} reads = record { turns = []; along = along_none nor g old new P reads; few = few_none }

  -- with one turn, for so many data pages
  pub turns_once : {ready : Type 0} {parts i p k : ℕ} (pages : ℕ) {old new : D} {P : Type 0} → i ≤ 2 → p ≤ pages → k ≤ turn_most pages → (1 ≤ pages) × (pages ≤ 16) × IsFew ready parts pages → CleansFor nor g i p k old new P → CleansInTurns nor g ready parts old new P
  turns_once {ready} {parts} pages {old} {new} {P} less fewer within few call = record {
    turns = record { from = old; pages = pages; some = few.0; short = few.1 } ∷ [];
    along = along_once nor g pages few.0 few.1 old new P (cleans_more pages less fewer within call);
    few = subst (λ (n : ℕ). IsFew ready parts n) (sym (one_in {D = D} (record { from = old; pages = pages; some = few.0; short = few.1 }))) few.2;
  }

  -- broken off where another is, and no more than so many
  pub turns_as : {ready other : Type 0} {parts more : ℕ} {old new : D} {P Q : Type 0} → (P → Q) → ((n : ℕ) → IsFew ready parts n → IsFew other more n) → CleansInTurns nor g ready parts old new P → CleansInTurns nor g other more old new Q
  turns_as {old = old} {new = new} {P = P} {Q = Q} on few call = record { turns = call.turns; along = along_as nor g old new P Q call.turns on call.along; few = few (pages_in call.turns) call.few }

  -- after reads, and before reads
  pub turns_after : {ready : Type 0} {parts : ℕ} {old mid new : D} {P : Type 0} → OnlyReads nor old mid → CleansInTurns nor g ready parts mid new P → CleansInTurns nor g ready parts old new P
  turns_after {old = old} {mid = mid} {new = new} {P = P} reads call = record { turns = call.turns; along = along_after nor g old mid new P call.turns reads call.along; few = call.few }

  pub turns_read : {ready : Type 0} {parts : ℕ} {old mid new : D} {P : Type 0} → CleansInTurns nor g ready parts old mid P → OnlyReads nor mid new → CleansInTurns nor g ready parts old new P
  turns_read {old = old} {mid = mid} {new = new} {P = P} call reads = record { turns = call.turns; along = along_read nor g old mid new P call.turns call.along reads; few = call.few }

  -- one after another
  turns_then : {ready next whole : Type 0} {parts more all : ℕ} {old mid new : D} {P : Type 0} → CleansInTurns nor g ready parts old mid ⊥ → CleansInTurns nor g next more mid new P → ((m n : ℕ) → IsFew ready parts m → IsFew next more n → IsFew whole all (n + m)) →
      CleansInTurns nor g whole all old new P
  turns_then {whole = whole} {all = all} {old = old} {mid = mid} {new = new} {P = P} first last few = record {
    turns = last.turns ++ first.turns;
    along = along_then nor g old mid new P last.turns first.turns first.along last.along;
    few = subst (λ (n : ℕ). IsFew whole all n) (sym (both_in last.turns first.turns)) (few (pages_in first.turns) (pages_in last.turns) first.few last.few);
  }

-- where no tail is to be made ready for another reason too, and there are more parts
pub few_more : (ready other : Type 0) (parts more : ℕ) → (other → ready) → parts ≤ more → (n : ℕ) → IsFew ready parts n → IsFew other more n
few_more ready other parts more on less n few = record { most = omega (arith, few.most, less); few = λ no_tail. let k = few.few (on no_tail) in omega (arith, k, less) }

-- ---- over a view

module _ {N : Type 0} {nor : NorOf N} where
  -- no turn
  pub turned_none : {T E : Type 0} {errors : Errors E} {ready : Geometry → List ℕ → Type 0} {parts : ℕ} {old new : View N nor} {r : Result T E} {step : Step T} → OnlyLooks old new → Stepped errors old new r step → Turned errors ready parts old new r step
  turned_none looks call = record { steps = call; cleans = λ tells need. turns_none looks.reads }

  -- one, for so many data pages
  pub turned_once : {T E : Type 0} {errors : Errors E} {ready : Geometry → List ℕ → Type 0} {parts i p k : ℕ} (pages : ℕ) {old new : View N nor} {r : Result T E} {step : Step T} → i ≤ 2 → p ≤ pages → k ≤ turn_most pages →
      (nor.tells old.nor.now → step.needs old.geometry (nor.bytes old.nor.now) → (1 ≤ pages) × (pages ≤ 16) × IsFew (ready old.geometry (nor.bytes old.nor.now)) parts pages) → Taken errors i p k old new r step → Turned errors ready parts old new r step
  turned_once pages less fewer within few call = record { steps = call.steps; cleans = λ tells need. turns_once pages less fewer within (few tells need) (call.cleans tells need) }

  -- another step was taken by the same call
  pub turned_as : {S T D E : Type 0} {before : Errors D} {errors : Errors E} {ready other : Geometry → List ℕ → Type 0} {parts more : ℕ} {old new : View N nor} {r : Result S D} {q : Result T E} {first : Step S} {whole : Step T} → Turned before ready parts old new r first → Stepped errors old new q whole →
      (nor.tells old.nor.now → whole.needs old.geometry (nor.bytes old.nor.now) → first.needs old.geometry (nor.bytes old.nor.now)) →
      (nor.tells old.nor.now → whole.needs old.geometry (nor.bytes old.nor.now) → (n : ℕ) → IsFew (ready old.geometry (nor.bytes old.nor.now)) parts n → IsFew (other old.geometry (nor.bytes old.nor.now)) more n) → (IsErr r → IsErr q) → Turned errors other more old new q whole
  turned_as call steps needs few on = record { steps = steps; cleans = λ tells need. turns_as on (few tells need) (call.cleans tells (needs tells need)) }

  -- the exit of a `?` on any error
  pub turned_passes : {S T E : Type 0} {errors : Errors E} {ready other : Geometry → List ℕ → Type 0} {parts more : ℕ} {old new : View N nor} {e : E} {r : Result T E} {first : Step S} {whole : Step T} → Turned errors ready parts old new (Err e) first → r ≡ Err e →
      (nor.tells old.nor.now → whole.needs old.geometry (nor.bytes old.nor.now) → Begins old.geometry (nor.bytes old.nor.now) first whole) →
      (nor.tells old.nor.now → whole.needs old.geometry (nor.bytes old.nor.now) → (n : ℕ) → IsFew (ready old.geometry (nor.bytes old.nor.now)) parts n → IsFew (other old.geometry (nor.bytes old.nor.now)) more n) → Turned errors other more old new r whole
  turned_passes {T = T} {E = E} call is begins few = turned_as call (passes call.steps is begins) (λ tells need. (begins tells need).needs) few (λ e. subst (λ (x : Result T E). IsErr x) (sym is) refl)

  -- for the same number of parts
  pub turned_so : {T E : Type 0} {errors : Errors E} {ready : Geometry → List ℕ → Type 0} {parts more : ℕ} {old new : View N nor} {r : Result T E} {step : Step T} → parts ≡ more → Turned errors ready parts old new r step → Turned errors ready more old new r step
  turned_so {errors = errors} {ready = ready} {old = old} {new = new} {r = r} {step = step} e call = subst (λ (k : ℕ). Turned errors ready k old new r step) e call

  -- a step that nothing allows
  pub turned_never : {T E : Type 0} {errors : Errors E} {ready : Geometry → List ℕ → Type 0} {parts : ℕ} {old new : View N nor} {r : Result T E} {step : Step T} → Stepped errors old new r step → (nor.tells old.nor.now → step.needs old.geometry (nor.bytes old.nor.now) → ⊥) → Turned errors ready parts old new r step
  turned_never call never = record { steps = call; cleans = λ tells need. absurd (never tells need) }

  -- after a look
  pub turned_after : {T E : Type 0} {errors : Errors E} {ready : Geometry → List ℕ → Type 0} {parts : ℕ} {old mid new : View N nor} {r : Result T E} {step : Step T} → OnlyLooks old mid → Turned errors ready parts mid new r step → Turned errors ready parts old new r step
  turned_after {ready = ready} {parts = parts} {old = old} {mid = mid} {new = new} {r = r} {step = step} looks call =
      let cleans : nor.tells mid.nor.now → step.needs old.geometry (nor.bytes mid.nor.now) → CleansInTurns nor old.geometry (ready old.geometry (nor.bytes mid.nor.now)) parts mid.nor.now new.nor.now (IsErr r) =
      subst (λ (k : Geometry). nor.tells mid.nor.now → step.needs k (nor.bytes mid.nor.now) → CleansInTurns nor k (ready k (nor.bytes mid.nor.now)) parts mid.nor.now new.nor.now (IsErr r)) looks.same.geometry call.cleans in
      record {
        steps = after_look looks call.steps (λ tells need. record { needs = need; cut = λ c cut. cut; done = λ c ok done. done });
        cleans = λ tells need.
            turns_after looks.reads (subst (λ (l : List ℕ). CleansInTurns nor old.geometry (ready old.geometry l) parts mid.nor.now new.nor.now (IsErr r)) looks.reads.bytes
            (cleans (looks.reads.told tells) (subst (λ (l : List ℕ). step.needs old.geometry l) (sym looks.reads.bytes) need)));
      }

  -- one call after another
  pub turned_then : {S T D E : Type 0} {before : Errors D} {errors : Errors E} {ready next all : Geometry → List ℕ → Type 0} {parts more count : ℕ} {old mid new : View N nor} {x : S} {r : Result T E} {first : Step S} {last whole : Step T} → Turned before ready parts old mid (Ok x) first → Turned errors next more mid new r last →
      (nor.tells old.nor.now → whole.needs old.geometry (nor.bytes old.nor.now) → Begins old.geometry (nor.bytes old.nor.now) first whole) →
      (nor.tells old.nor.now → whole.needs old.geometry (nor.bytes old.nor.now) → first.done old.geometry (nor.bytes old.nor.now) (nor.bytes mid.nor.now) x → Finishes old.geometry (nor.bytes old.nor.now) (nor.bytes mid.nor.now) last whole) →
      (nor.tells old.nor.now → whole.needs old.geometry (nor.bytes old.nor.now) → first.done old.geometry (nor.bytes old.nor.now) (nor.bytes mid.nor.now) x → (m n : ℕ) → IsFew (ready old.geometry (nor.bytes old.nor.now)) parts m → IsFew (next old.geometry (nor.bytes mid.nor.now)) more n →
      IsFew (all old.geometry (nor.bytes old.nor.now)) count (n + m)) → Turned errors all count old new r whole
  turned_then {next = next} {more = more} {old = old} {mid = mid} {new = new} {r = r} {last = last} call after begins finishes few =
      let cleans : nor.tells mid.nor.now → last.needs old.geometry (nor.bytes mid.nor.now) → CleansInTurns nor old.geometry (next old.geometry (nor.bytes mid.nor.now)) more mid.nor.now new.nor.now (IsErr r) =
      subst (λ (k : Geometry). nor.tells mid.nor.now → last.needs k (nor.bytes mid.nor.now) → CleansInTurns nor k (next k (nor.bytes mid.nor.now)) more mid.nor.now new.nor.now (IsErr r)) call.steps.framed.same.geometry after.cleans in
      record {
        steps = stepped_then call.steps after.steps begins finishes;
        cleans = λ tells need.
            let b = begins tells need in
            let done = call.steps.ends tells b.needs in
            let f = finishes tells need done in
            turns_then (turns_as (λ e. let no : false ≡ true = e in cc) (λ n is. is) (call.cleans tells b.needs)) (cleans (call.steps.cuts.cuts.told tells) f.needs) (few tells need done);
      }
