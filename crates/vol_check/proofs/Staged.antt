-- The entries of pages that aren't live, killed one after the other.
use Rattle.std.proofs.Common.{◌≡◌, ℕ, ◌+◌, ◌*◌, ◌<◌, ◌≤◌, List, [], ◌∷◌, slice_index, Bool, true, false, cond, Result, OnErr, OnOk, ap, sym, ◌∙◌, arith, add-zero, ⊎_elim, inl}
use Rattle.std.specs.Int.{bit_at}
use Rattle.std.proofs.lemmas.Bool.{and_parts, not-true}
use Rattle.geometry.specs.declared.geometry.Geometry.{Geometry}
use Rattle.geometry.specs.Numbers.{page_count}
use Rattle.image_model.specs.Places.{IsImage, page_of, is_entry_page, entry_at}
use Rattle.image_model.specs.Tidy.{is_free_entry}
use Rattle.image_model.specs.Killed.{is_used, is_dead_entry}
use Rattle.image_model.specs.Sound.{HasMagics}
use Rattle.image_model.specs.Within.{sizes}
use Rattle.image_laws.proofs.BetweenTorn.{torn_byte}
use Rattle.image_laws.proofs.Bits.{bit_cases, one_bit_image}
use Rattle.image_laws.proofs.DeadEntries.{Stage, stage_start, stage_next, stage_clean, stage_count, turned, unturned, unused_page, unused_dead, deletes_by}
use Rattle.image_laws.proofs.Finished.{finished-programmed}
use Rattle.image_laws.proofs.Frames.{page-same_entry}
use Rattle.image_laws.proofs.FreeBlocks.{free_blocks-fall, used-is_not_free}
use Rattle.image_laws.proofs.Placing.{page_byte}
use Rattle.image_laws.proofs.Sounding.{keeps-by_live}
use Rattle.image_laws.proofs.StillFree.{not_free, deleted_no_ones}
use Rattle.image_laws.proofs.TidySteps.{wanted-same}
use Rattle.image_laws.proofs.UsesStay.{uses-agree}
use Rattle.nor_core.specs.declared.device.Failed.{Failed}
use Rattle.nor_core.specs.declared.state.NorState.{Ghosts as NorOf}
use Rattle.nor_core.specs.Count.{Rose}
use Rattle.nor_core.specs.Device.{Changes}
use Rattle.nor_core.specs.Flash.{HalfProgrammed}
use Rattle.flash_view.specs.declared.view.View.{View}
use Rattle.flash_view.specs.Same.{IsSameView, OnlyLooks}
use Rattle.flash_view.specs.Steps.{Finishes, making, any_image}
use Rattle.flash_view.proofs.Stepped.{after_look, made}
use Rattle.page_put.specs.Kills.{deleted, killed, HalfKilled}
use Rattle.page_put.specs.LivePages.{Stays, Cleared}
use Rattle.page_put.proofs.Clearing.{left_half, clears_deleted}
use Rattle.page_put.proofs.Killed.{flags_left, clears_dead}
use Rattle.vol_check.specs.Stage.{Kills, CleansEntry, CleansEntries, IsClean}
use Rattle.vol_check.specs.Works.{Work, StageCut, step_of, Worked, MayClean, cleaning_entry}
use Rattle.vol_check.proofs.Working.{Goes, On}
use Rattle.vol_check.proofs.Passing.{kills_none, kills_then, kills_one}

-- ---- a turn

used_not_free : (g : Geometry) (a : List ℕ) (p : ℕ) → is_dead_entry g a p ≡ true → is_free_entry g a p ≡ false
unfolding is_used
used_not_free g a p dead = let w = and_parts _ _ dead in let v = and_parts _ _ w.0 in not-true (is_free_entry g a p) v.1

-- the kill of the entry of page p, whose page isn't live
abbrev pub killing_entry : ℕ → Work (Unit {0})
killing_entry p = record { needs = λ g was. is_dead_entry g was p ≡ true; done = λ g was now ok. CleansEntry g p true was now; idle = λ g was. ⊥ }

module _ (g : Geometry) (a : List ℕ) (p : ℕ) (is : IsImage g a) (h : HasMagics g a) (dead : is_dead_entry g a p ≡ true) (byte : slice_index a (p * g.page + 4) < 256) where
  page : is_entry_page g p ≡ true
  page = unused_page g a p dead

  -- a kill clears DELET
  gone : bit_at (flags_left g a p) 7 ≡ 0
  gone = (deletes_by (slice_index a (p * g.page + 4)) byte).cleared

  -- with DELET clear the page isn't erased
  marked : (c : List ℕ) → IsImage g c → bit_at (slice_index c (p * g.page + 4)) 7 ≡ 0 → is_free_entry g c p ≡ false
  marked c sized clear =
      let big : 128 ≤ g.page = (sizes g).page in
      not_free g c p 4 sized page (omega (arith, big)) (λ ones. deleted_no_ones (slice_index c (p * g.page + 4)) clear (sym (page_byte g c p 4 (omega (arith, big))) ∙ ones))

  -- the byte of the flags is as it was, or DELET is clear
  flags_used : (c : List ℕ) → HalfProgrammed (p * g.page + 4) (0x7F ∷ []) a c → is_free_entry g c p ≡ false
  flags_used c half =
      let at = p * g.page + 4 in
      let sized : IsImage g c = record { len = omega (arith, half.outside.size, is.len) } in
      ⊎_elim
      (λ (set : bit_at (slice_index a at) 7 ≡ 1). ⊎_elim
      (λ (same : c ≡ a). rw same (used_not_free g a p dead))
      (λ (there : slice_index c at ≡ flags_left g a p). marked c sized (rw there gone))
      (one_bit_image 7 at (flags_left g a p) a c (clears_deleted (slice_index a at) byte set) (left_half at 0x7F a c half)))
      (λ (clear : bit_at (slice_index a at) 7 ≡ 0). ⊎_elim
      (λ (now : bit_at (slice_index c at) 7 ≡ 1). absurd (let torn = rw add-zero at (torn_byte at (0x7F ∷ []) a c half 0 (omega arith)) in let was = torn.no_more 7 now in omega (arith, was, clear)))
      (λ (now : bit_at (slice_index c at) 7 ≡ 0). marked c sized now)
      (bit_cases (slice_index c at) 7))
      (bit_cases (slice_index a at) 7)

  -- and it is clear when the entry is programmed
  entry_used : (c : List ℕ) → HalfProgrammed (entry_at g p) (0 ∷ 0 ∷ []) (deleted g p a) c → is_free_entry g c p ≡ false
  entry_used c half =
      let at = p * g.page + 4 in
      let big : 128 ≤ g.page = (sizes g).page in
      let done = finished-programmed at (0x7F ∷ []) a in
      let sized : IsImage g c = record { len = omega (arith, half.outside.size, done.outside.size, is.len) } in
      let same : page_of g c p ≡ page_of g (deleted g p a) p = page-same_entry g (sizes g) (deleted g p a) c p page half.outside p page in
      let there : slice_index c at ≡ slice_index (deleted g p a) at = sym (page_byte g c p 4 (omega (arith, big))) ∙ ap (λ (l : List ℕ). slice_index l 4) same ∙ page_byte g (deleted g p a) p 4 (omega (arith, big)) in
      let now : slice_index (deleted g p a) at ≡ flags_left g a p = rw add-zero at (done.bytes 0 (omega arith)) in
      marked c sized (rw (there, now) gone)

  still_used : (c : List ℕ) → HalfKilled g p a c → is_free_entry g c p ≡ false
  still_used c half = ⊎_elim (λ (flags : HalfProgrammed (p * g.page + 4) (0x7F ∷ []) a c). flags_used c flags) (λ (entry : HalfProgrammed (entry_at g p) (0 ∷ 0 ∷ []) (deleted g p a) c). entry_used c entry) half

  stays : (c : List ℕ) → Stays g p a c → is_free_entry g c p ≡ false → StageCut g a c
  stays c s used = record {
    keeps = record {
      keeps = keeps-by_live g a c h s.agree.magic s.live;
      free = (free_blocks-fall g a c p s.agree).1 (used-is_not_free g a p page (used_not_free g a p dead));
    };
    uses = uses-agree g a c p s.agree (used_not_free g a p dead) used (wanted-same g a c s.live) (λ q wanted. s.live q);
  }

  clears_entry : Finishes g a a (making any_image (λ k. HalfKilled k p) (λ k. killed k p)) (step_of (killing_entry p))
  clears_entry =
      let clears = clears_dead g a p is (record { inside = page; dead = unused_dead g a p dead; byte = byte }) in
      record {
        needs = clears.needs;
        cut = λ c half. stays c (clears.cut c half) (still_used c half);
        done = λ c ok e.
            let cleared : Cleared g p a c = clears.done c ok e in
            record {
              turned = turned g a c p page cleared.stays.agree cleared.stays.live cleared.stays.image (keeps-by_live g a c h cleared.stays.agree.magic cleared.stays.live) cleared.zero dead;
              kills = kills_one g a c p cleared.stays.agree (used_not_free g a p dead) cleared.zero (λ q. inl (cleared.stays.live q));
            };
      }

pub must_be_killed : (own : Bool) (g : Geometry) (a : List ℕ) (p : ℕ) → is_dead_entry g a p ≡ true → Goes g a a (killing_entry p) (cleaning_entry own p)
must_be_killed own g a p dead = record { needs = dead; idle = λ quiet. let bad : true ≡ false = sym dead ∙ quiet in absurd (cc) }

-- a kill after a look that told the flags to be a byte
pub kills_entry : {N : Type 0} {nor : NorOf N} {old mid new : View N nor} {r : Result (Unit {0}) Failed} {p : ℕ} → OnlyLooks old mid → IsSameView mid new → new.wrote ≡ true → OnErr r (Rose (nor.faults mid.nor.now) (nor.faults new.nor.now)) →
    Changes nor mid.nor.now new.nor.now (HalfKilled mid.geometry p) → (nor.tells mid.nor.now → OnOk r (nor.bytes new.nor.now ≡ killed mid.geometry p (nor.bytes mid.nor.now))) →
    (nor.tells mid.nor.now → mid.counted ≡ true → OnOk r (new.counted ≡ true)) →
    (nor.tells old.nor.now → IsImage old.geometry (nor.bytes old.nor.now)) → On old (killing_entry p) (λ g a. slice_index a (p * g.page + 4) < 256) → Worked old new r (killing_entry p)
kills_entry {p = p} looks same wrote cause changes done counted image byte = record {
  step = after_look looks (made any_image (λ k. HalfKilled k p) (λ k. killed k p) same wrote cause changes done (λ any. counted)) (λ tells need. clears_entry _ _ p (image tells) need.0 need.1 (byte tells need.0 need.1));
  idle = λ tells magics need none. absurd (none);
}

-- an entry that isn't dead stays
pub cleans_nothing : (g : Geometry) (a : List ℕ) (p : ℕ) → IsImage g a → HasMagics g a → is_dead_entry g a p ≡ false → CleansEntry g p false a a
cleans_nothing g a p is h quiet = record { turned = unturned g a p is h quiet; kills = kills_none g a }

-- ---- entry by entry

-- after kills the next entry may be killed
pub may_clean_on : (own : Bool) (g : Geometry) (a b : List ℕ) → MayClean own g a → Kills g a b → MayClean own g b
may_clean_on own g a b may kills = record { magics = λ block low. kills.pages.magic block ∙ may.magics block low; owned = λ is. kills.own (may.owned is) }

-- p entries on, with n of them killed
pub record Cleaning (g : Geometry) (first now : List ℕ) (p n : ℕ) : Type 0 where
  pub stage : Stage g first now p n
  pub kills : Kills g first now

abbrev pub cleaning_to : (own : Bool) → ℕ → Work ℕ
cleaning_to own p = record { needs = MayClean own; done = λ g was now n. Cleaning g was now p n; idle = λ g was. IsClean g was }

pub cleaning_start : (g : Geometry) (a : List ℕ) → IsImage g a → HasMagics g a → Cleaning g a a 0 0
cleaning_start g a is h = record { stage = stage_start g a is h; kills = kills_none g a }

pub cleaning_next : (g : Geometry) (first a b : List ℕ) (p n m : ℕ) (killed : Bool) → Cleaning g first a p n → CleansEntry g p killed a b → m ≡ n + cond killed 1 0 → Cleaning g first b (p + 1) m
cleaning_next g first a b p n m killed s t e =
    let few : cond killed 1 0 ≤ 1 = elim killed as (λ (k : Bool). cond k 1 0 ≤ 1) [ true ↦ omega arith | false ↦ omega arith ] in
    record { stage = stage_next g first a b p n m killed s.stage t.turned e (omega (arith, e, few)); kills = kills_then g first a b s.kills t.kills }

pub cleaning_end : (g : Geometry) (first a : List ℕ) (p n : ℕ) → page_count g ≤ p → Cleaning g first a p n → CleansEntries g n first a
cleaning_end g first a p n all s = record { clean = stage_clean g first a p n all s.stage; count = stage_count g first a p n all s.stage; killed_more = s.stage.count; live = s.stage.live; kills = s.kills }
