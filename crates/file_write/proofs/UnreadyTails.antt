-- Where a look finds another byte than 0xFF past the size, or another entry than 0xFFFF behind the last, the tail isn't ready.
use Rattle.std.proofs.Common.{suc, ◌≡◌, ℕ, ◌+◌, ◌/◌, ◌%◌, ◌<◌, ◌≤◌, List, [], ◌∷◌, length, drop, slice_index, Bool, true, false, Option, Some, None, ap, refl, sym, ◌∙◌, arith, subst, length-drop}
use Rattle.std.specs.Prelude.{◌↔◌, IfSome, is_some, not, option_and_then}
use Rattle.std.specs.Bool.{OnTrue}
use Rattle.std.proofs.lemmas.List.{get_or-drop}
use Rattle.nor_core.specs.declared.state.NorState.{Ghosts as NorOf}
use Rattle.geometry.specs.declared.geometry.Geometry.{Geometry}
use Rattle.geometry.specs.Numbers.{body, head_slots}
use Rattle.table_model.specs.Table.{File}
use Rattle.table_model.specs.Room.{data_pages}
use Rattle.image_model.specs.Headers.{size_of}
use Rattle.image_model.specs.Within.{page_length}
use Rattle.image_model.specs.Live.{live_at, own}
use Rattle.image_model.specs.Files.{index_page, further, slot_at}
use Rattle.image_model.specs.Places.{page_of}
use Rattle.image_model.specs.Tidy.{is_erased}
use Rattle.image_laws.proofs.Finish.{own-parts}
use Rattle.image_laws.proofs.Frames.{live_parts}
use Rattle.image_laws.proofs.Judge.{index_passes}
use Rattle.page_renew.specs.declared.finding.Found.{Found}
use Rattle.page_renew.proofs.Homes.{index_some}
use Rattle.renew_laws.specs.Tails.{HasCleanTail, IsTailReady}
use Rattle.flash_view.specs.declared.view.View.{View}
use Rattle.flash_view.specs.Same.{OnlyLooks}
use Rattle.flash_view.proofs.Looking.{looks_then}
use Rattle.file_write.specs.Readyings.{HasOnes, HasOther, IsStale, IsTaken, HasReadyTailAt}
use Rattle.file_write.specs.Relinkings.{IsFileAt}
use Rattle.file_write.proofs.LastPage.{last_data}
use Rattle.file_write.proofs.TailLooks.{tail_ready}

-- bytes of 0xFF are erased
erased_by : (l : List ℕ) → ((k : ℕ) → k < length l → slice_index l k ≡ 0xFF) → is_erased l ≡ true
erased_by [] ones = refl
erased_by (b ∷ l) ones = let first : b ≡ 0xFF = ones 0 (omega arith) in rw first (erased_by l (λ k low. ones (suc k) (omega arith)))

-- ---- the tail of a file of that size is ready

module _ (g : Geometry) (image : List ℕ) (id size : ℕ) (f : File) (has : HasReadyTailAt g image id size f) where
  tail : HasCleanTail g (own (live_at g image) id) has.home.head
  tail = has.ready has.home.h has.home.head has.home.prime.at has.home.prime.header

  -- then no byte past the size is another,
  pub no_other : 0 < size % body g → HasOther g image id size → ⊥
  no_other used other =
      let told = has.home.told in
      let used_told : 0 < size_of has.home.head % body g = subst (λ (n : ℕ). 0 < n % body g) told used in
      let last = last_data g image id has.home.h has.home.head f has.home.prime used_told in
      let from = 5 + size_of has.home.head % body g in
      let len : length (page_of g image last.q) ≡ g.page = last.long in
      let rest = length-drop from (page_of g image last.q) in
      let ones : is_erased (drop from (page_of g image last.q)) ≡ true = erased_by (drop from (page_of g image last.q))
      (λ k low. get_or-drop from (page_of g image last.q) k 0 ∙ ap (λ (l : List ℕ). slice_index l (from + k)) last.bytes ∙ tail.bytes last.x (λ e. omega (arith, e, used_told)) last.whole (from + k) (omega arith) (omega (arith, low, rest, len))) in
      let few : size_of has.home.head / body g ≤ 0xFFFF = omega (arith, last.count, has.home.few) in
      let there : HasOther g image id (size_of has.home.head) = subst (λ (n : ℕ). HasOther g image id n) told other in
      let bad : true ≡ false = sym ones ∙ there last.q last.number last.inside few in
      absurd (cc)

  -- nor is one from the entry behind the last on
  pub none_taken : (w : ℕ) → IsStale g image id size (Some w) → IsTaken g image size w → ⊥
  none_taken w stale taken =
      let pages = own (live_at g image) id in
      let n = data_pages g (size_of has.home.head) in
      let at = subst (λ (m : ℕ). IsStale g image id m (Some w)) has.home.told stale in
      let other = subst (λ (m : ℕ). IsTaken g image m w) has.home.told taken in
      let x = index_some (pages w) (further g n) (index_passes g pages (further g n) w at.1) in
      let parts = live_parts g image w x.0 (own-parts (live_at g image) id w x.0 x.1).0 in
      let len : length (page_of g image w) ≡ g.page = page_length g image w has.home.prime.image parts.entry_page in
      let from = slot_at g n in
      let rest = length-drop from (page_of g image w) in
      let ones : is_erased (drop from (page_of g image w)) ≡ true = erased_by (drop from (page_of g image w))
      (λ k low. get_or-drop from (page_of g image w) k 0 ∙ ap (λ (l : List ℕ). slice_index l (from + k)) parts.bytes
      ∙ tail.entries w n (from + k) x.0 x.1 x.2 x.3 at.0 (omega arith) (omega arith) (omega (arith, low, rest, len))) in
      let bad : true ≡ false = sym ones ∙ other in
      absurd (cc)

-- ---- what only looks where that holds, after a look

pub still_after : {N : Type 0} {nor : NorOf N} {old mid new : View N nor} (P : Geometry → List ℕ → Type 0) → OnlyLooks old mid → (nor.tells mid.nor.now → P mid.geometry (nor.bytes mid.nor.now) → OnlyLooks mid new) →
    nor.tells old.nor.now → P old.geometry (nor.bytes old.nor.now) → OnlyLooks old new
still_after P looks call tells has = looks_then looks (call (looks.reads.told tells) (rw (looks.same.geometry, looks.reads.bytes) has))

-- ---- the whole tail

-- it isn't ready
pub never : {P : Type 0} (b : Bool) → b ≡ false → (P → ⊥) → (b ≡ true) ↔ P
never false is wrong = (λ e. absurd (cc), λ p. absurd (wrong p))
never true is wrong = absurd (cc)

-- as the calls tell it
pub tail_told : (g : Geometry) (image : List ℕ) (id : ℕ) (f : File) (found : Found) (clean : Bool) (stale : Option ℕ) (b : Bool) → IsFileAt g image id found.size f → clean ≡ true → OnTrue clean (HasOnes g image id found.size) →
    IsStale g image id found.size stale → IfSome stale (IsTaken g image found.size) → is_some stale ≡ not b → (b ≡ true) ↔ IsTailReady g image id
tail_told g image id f found clean None true at is_clean ones free taken is = (λ e. tail_ready g image id found.size f at (rw is_clean at ones) free, λ ready. refl)
tail_told g image id f found clean None false at is_clean ones free taken is = absurd (cc)
tail_told g image id f found clean (Some w) true at is_clean ones free taken is = absurd (cc)
tail_told g image id f found clean (Some w) false at is_clean ones free taken is = never false refl (λ ready. none_taken g image id found.size f (record { home = at; ready = ready }) w free taken)
