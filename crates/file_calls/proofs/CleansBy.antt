-- Calls that clean blocks for the pages that they take, one step after the other.
use Rattle.std.proofs.Common.{◌≡◌, ℕ, ◌+◌, ◌≤◌, List, [], true, false, refl, sym, subst, arith, Result, Ok, Err, IsErr}
use Rattle.geometry.specs.declared.geometry.Geometry.{Geometry}
use Rattle.nor_core.specs.declared.state.NorState.{Ghosts as NorOf}
use Rattle.nor_core.specs.Device.{OnlyReads, Changes}
use Rattle.nor_core.proofs.Cuts.{wider, both, unchanged, read_after, after_reads, reads_then, reads_none}
use Rattle.table_model.specs.Table.{File}
use Rattle.trim_laws.proofs.Wears.{wear_none, wear_then}
use Rattle.page_renew.specs.PageSteps.{StepCut}
use Rattle.file_write.specs.Creates.{CreateCut}
use Rattle.file_drop.specs.Removals.{RemoveCut}
use Rattle.block_gc.specs.RoomMade.{SweptAlong, SweptWhile, NoneIs, IsReady}
use Rattle.block_gc.specs.Programs.{cost_of}
use Rattle.flash_view.specs.declared.view.View.{View}
use Rattle.flash_view.specs.Same.{OnlyLooks}
use Rattle.flash_view.specs.Steps.{Step, Errors, Stepped, Begins, Finishes}
use Rattle.flash_view.proofs.Stepped.{after_look, stepped_then, passes}
use Rattle.file_calls.specs.Collecting.{RoomCut}
use Rattle.file_calls.specs.Cleans.{SweptFor, LeavesBlocks, CleansFor, Taken}

-- ---- steps that clean no block

-- two free blocks stay free in a step, and no block is made fresh
abbrev pub LeavesBlocksBy : {T : Type 0} → Step T → Type 0
LeavesBlocksBy step = (g : Geometry) (was image : List ℕ) → step.cut g was image → LeavesBlocks g was image

pub leaves_none : (g : Geometry) (a : List ℕ) → LeavesBlocks g a a
leaves_none g a = record { reserve = λ two. two; wear = wear_none g a }

leaves_then : (g : Geometry) (a b c : List ℕ) → LeavesBlocks g a b → LeavesBlocks g b c → LeavesBlocks g a c
leaves_then g a b c first second = record { reserve = λ two. second.reserve (first.reserve two); wear = wear_then g a b c first.wear second.wear }

-- page steps, and those that make a file and remove one
pub step_leaves : {g : Geometry} {after : List File} {was image : List ℕ} → StepCut g after was image → LeavesBlocks g was image
step_leaves cut = record { reserve = cut.reserve; wear = cut.wear }

pub create_leaves : {g : Geometry} {id : ℕ} {name was image : List ℕ} → CreateCut g was id name image → LeavesBlocks g was image
create_leaves cut = record { reserve = λ two. cut.reserve; wear = cut.wear }

pub remove_leaves : {g : Geometry} {id : ℕ} {was image : List ℕ} → RemoveCut g was id image → LeavesBlocks g was image
remove_leaves cut = record { reserve = λ two. let free = cut.free in omega (arith, two, free); wear = cut.wear }

-- nothing was cleaned
pub swept_none : (g : Geometry) (index pages : ℕ) (image : List ℕ) (n : ℕ) → SweptFor g index pages image image n n
unfolding SweptAlong NoneIs cost_of
swept_none g index pages image n = record { swept = record { through = []; steps = refl }; lower = omega arith; most = omega arith; needed = tt; few = omega arith }

-- ---- over a device

module _ {D : Type 0} {nor : NorOf D} {g : Geometry} {index pages rest : ℕ} where
  -- broken off where another is
  pub cleans_as : {old new : D} {P Q : Type 0} → (P → Q) → CleansFor nor g index pages rest old new P → CleansFor nor g index pages rest old new Q
  cleans_as on call = record { mid = call.mid; first = call.first; idle = call.idle; needed = λ whole. call.needed (λ p. whole (on p)); few = call.few; rest_cut = call.rest_cut; none = call.none }

  -- after reads
  pub cleans_after : {old mid new : D} {P : Type 0} → OnlyReads nor old mid → CleansFor nor g index pages rest mid new P → CleansFor nor g index pages rest old new P
  cleans_after reads call = record {
    mid = call.mid;
    first = after_reads reads call.first;
    idle = λ ready. reads_then reads (call.idle (subst (λ (l : List ℕ). IsReady g l index pages) (sym reads.bytes) ready));
    needed = λ whole. rw (reads.bytes, reads.writes) at (call.needed whole);
    few = call.few;
    rest_cut = call.rest_cut;
    none = λ no_index no_pages. after_reads reads (call.none no_index no_pages);
  }

  -- and before reads
  pub cleans_read : {old mid new : D} {P : Type 0} → CleansFor nor g index pages rest old mid P → OnlyReads nor mid new → CleansFor nor g index pages rest old new P
  cleans_read call reads = record { mid = call.mid; first = call.first; idle = call.idle; needed = call.needed; few = let same = reads.writes in let few = call.few in omega (arith, same, few); rest_cut = read_after call.rest_cut reads; none = λ no_index no_pages. read_after (call.none no_index no_pages) reads }

  -- nothing is cleaned
  pub cleans_none : {old new : D} {P : Type 0} → RoomCut g (nor.bytes old) (nor.bytes old) → Changes nor old new (LeavesBlocks g) → nor.device_writes new ≤ nor.device_writes old + rest → CleansFor nor g index pages rest old new P
  cleans_none {old} stays cuts few = record {
    mid = old;
    first = unchanged old (RoomCut g) (λ tells. stays);
    idle = λ ready. reads_none old;
    needed = λ whole. swept_none g index pages (nor.bytes old) (nor.device_writes old);
    few = few;
    rest_cut = cuts;
    none = λ no_index no_pages. cuts;
  }

  -- no more than reads
  pub cleans_reads : {old new : D} {P : Type 0} → RoomCut g (nor.bytes old) (nor.bytes old) → OnlyReads nor old new → CleansFor nor g index pages rest old new P
  cleans_reads {old} stays reads = cleans_none stays (read_after (unchanged old (LeavesBlocks g) (λ tells. leaves_none g (nor.bytes old))) reads) (let same = reads.writes in omega (arith, same))

-- with more in the rest of it
pub cleans_within : {D : Type 0} {nor : NorOf D} {g : Geometry} {index pages rest more : ℕ} {old new : D} {P : Type 0} → rest ≤ more → CleansFor nor g index pages rest old new P → CleansFor nor g index pages more old new P
cleans_within less call = record { mid = call.mid; first = call.first; idle = call.idle; needed = call.needed; few = let few = call.few in omega (arith, few, less); rest_cut = call.rest_cut; none = call.none }

-- ---- over a view

module _ {N : Type 0} {nor : NorOf N} {index pages rest : ℕ} where
  -- another step was taken by the same call
  pub taken_as : {S T D E : Type 0} {before : Errors D} {errors : Errors E} {old new : View N nor} {r : Result S D} {q : Result T E} {first : Step S} {whole : Step T} → Taken before index pages rest old new r first → Stepped errors old new q whole →
      (nor.tells old.nor.now → whole.needs old.geometry (nor.bytes old.nor.now) → first.needs old.geometry (nor.bytes old.nor.now)) → (IsErr r → IsErr q) → Taken errors index pages rest old new q whole
  taken_as call steps needs on = record { steps = steps; cleans = λ tells need. cleans_as on (call.cleans tells (needs tells need)) }

  -- the exit of a `?` on any error
  pub taken_passes : {S T E : Type 0} {errors : Errors E} {old new : View N nor} {e : E} {r : Result T E} {first : Step S} {whole : Step T} → Taken errors index pages rest old new (Err e) first → r ≡ Err e →
      (nor.tells old.nor.now → whole.needs old.geometry (nor.bytes old.nor.now) → Begins old.geometry (nor.bytes old.nor.now) first whole) → Taken errors index pages rest old new r whole
  taken_passes {T = T} {E = E} call is begins = taken_as call (passes call.steps is begins) (λ tells need. (begins tells need).needs) (λ e. subst (λ (x : Result T E). IsErr x) (sym is) refl)

  -- for the same number of index pages, with as many programs in the rest
  pub taken_so : {T E : Type 0} {errors : Errors E} {old new : View N nor} {r : Result T E} {step : Step T} {n m : ℕ} → n ≡ index → m ≡ rest → Taken errors index pages rest old new r step → Taken errors n pages m old new r step
  taken_so {errors = errors} {old = old} {new = new} {r = r} {step = step} {m = m} e f call =
      subst (λ (k : ℕ). Taken errors k pages m old new r step) (sym e) (subst (λ (k : ℕ). Taken errors index pages k old new r step) (sym f) call)

  -- after a look
  pub taken_after : {T E : Type 0} {errors : Errors E} {old mid new : View N nor} {r : Result T E} {step : Step T} → OnlyLooks old mid → Taken errors index pages rest mid new r step → Taken errors index pages rest old new r step
  taken_after {old = old} {mid = mid} {new = new} {r = r} {step = step} looks call =
      let cleans : nor.tells mid.nor.now → step.needs old.geometry (nor.bytes mid.nor.now) → CleansFor nor old.geometry index pages rest mid.nor.now new.nor.now (IsErr r) =
      subst (λ (k : Geometry). nor.tells mid.nor.now → step.needs k (nor.bytes mid.nor.now) → CleansFor nor k index pages rest mid.nor.now new.nor.now (IsErr r)) looks.same.geometry call.cleans in
      record {
        steps = after_look looks call.steps (λ tells need. record { needs = need; cut = λ c cut. cut; done = λ c ok done. done });
        cleans = λ tells need. cleans_after looks.reads (cleans (looks.reads.told tells) (subst (λ (l : List ℕ). step.needs old.geometry l) (sym looks.reads.bytes) need));
      }

  -- nothing was cleaned for it
  pub untaken : {T E : Type 0} {errors : Errors E} {old new : View N nor} {r : Result T E} {step : Step T} → Stepped errors old new r step →
      (nor.tells old.nor.now → step.needs old.geometry (nor.bytes old.nor.now) → RoomCut old.geometry (nor.bytes old.nor.now) (nor.bytes old.nor.now)) → LeavesBlocksBy step → nor.device_writes new.nor.now ≤ nor.device_writes old.nor.now + rest → Taken errors index pages rest old new r step
  untaken {old = old} call stays spare few = record {
    steps = call;
    cleans = λ tells need. cleans_none (stays tells need) (wider call.cuts (λ told image cut. spare old.geometry (nor.bytes old.nor.now) image (cut need))) few;
  }

  -- pages were had, and then a step was taken that cleans no block
  pub taken_then : {S T D E : Type 0} {before : Errors D} {errors : Errors E} {old mid new : View N nor} {x : S} {r : Result T E} {first : Step S} {last whole : Step T} → LeavesBlocksBy last → nor.device_writes new.nor.now ≤ nor.device_writes mid.nor.now + rest → Taken before index pages 0 old mid (Ok x) first → Stepped errors mid new r last →
      (nor.tells old.nor.now → whole.needs old.geometry (nor.bytes old.nor.now) → Begins old.geometry (nor.bytes old.nor.now) first whole) →
      (nor.tells old.nor.now → whole.needs old.geometry (nor.bytes old.nor.now) → first.done old.geometry (nor.bytes old.nor.now) (nor.bytes mid.nor.now) x →
      Finishes old.geometry (nor.bytes old.nor.now) (nor.bytes mid.nor.now) last whole) → Taken errors index pages rest old new r whole
  taken_then {old = old} {mid = mid} {new = new} {last = last} spare few call next begins finishes =
      let g = old.geometry in
      let cuts : Changes nor mid.nor.now new.nor.now (λ was image. last.needs g was → last.cut g was image) =
      subst (λ (k : Geometry). Changes nor mid.nor.now new.nor.now (λ was image. last.needs k was → last.cut k was image)) call.steps.framed.same.geometry next.cuts in
      record {
        steps = stepped_then call.steps next begins finishes;
        cleans = λ tells need.
            let b = begins tells need in
            let f = finishes tells need (call.steps.ends tells b.needs) in
            let c = call.cleans tells b.needs in
            let leaves : Changes nor mid.nor.now new.nor.now (LeavesBlocks g) = wider cuts (λ told image cut. spare g (nor.bytes mid.nor.now) image (cut f.needs)) in
            record {
              mid = c.mid;
              first = c.first;
              idle = c.idle;
              needed = λ whole. c.needed (λ e. let no : false ≡ true = e in cc);
              few = let first = c.few in omega (arith, first, few);
              rest_cut = both (leaves_then g) c.rest_cut leaves;
              none = λ no_index no_pages. both (leaves_then g) (c.none no_index no_pages) leaves;
            };
      }

-- with more programs in the rest of it
pub taken_within : {N T E : Type 0} {nor : NorOf N} {errors : Errors E} {index pages rest more : ℕ} {old new : View N nor} {r : Result T E} {step : Step T} → rest ≤ more → Taken errors index pages rest old new r step → Taken errors index pages more old new r step
taken_within less call = record { steps = call.steps; cleans = λ tells need. cleans_within less (call.cleans tells need) }
