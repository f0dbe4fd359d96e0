-- Index pages have their turns one after the other, over plain images.
use Rattle.std.proofs.Common.{◌≡◌, ℕ, ◌+◌, ◌*◌, ◌<◌, ◌≤◌, ◌==◌, not, nat_lt, nat_le, List, true, false, None, refl, sym, ◌∙◌, subst, arith, ⊎_elim}
use Rattle.std.proofs.lemmas.Bool.{cases_eq, cases_lt, and_parts, leb-true, le-ltb}
use Rattle.std.proofs.lemmas.Bool.Decides.{nat_tests}
use Rattle.geometry.specs.declared.geometry.Geometry.{Geometry}
use Rattle.geometry.specs.Numbers.{per_block, lookups, entries, page_count}
use Rattle.page_layout.specs.declared.header.PageHeader.{PageHeader}
use Rattle.page_layout.specs.Layout.{is_between}
use Rattle.image_model.specs.Headers.{obj_id, names_index}
use Rattle.image_model.specs.Live.{live_at}
use Rattle.image_model.specs.Places.{page_of, entry_of, block_of}
use Rattle.image_model.specs.Tidy.{IsNeat, IsTidy}
use Rattle.image_model.specs.Kinds.{is_index_page, is_data_page, is_data_block}
use Rattle.image_model.specs.Shared.{FitsWith}
use Rattle.image_model.specs.Sound.{IsMixed}
use Rattle.image_model.specs.Within.{entry_of_block, page_number}
use Rattle.image_laws.proofs.Damaged.{any_from}
use Rattle.image_laws.proofs.Frames.{live_parts}
use Rattle.image_laws.proofs.MixedBlocks.{index_some}
use Rattle.image_laws.proofs.Unshared.{neat-tidy}
use Rattle.flash_view.specs.Steps.{Step, Begins, Finishes}
use Rattle.flash_view.specs.Walk.{IsPassed, IsNextLive, NextLive}
use Rattle.flash_view.proofs.Entries.{live_page, some_id}
use Rattle.flash_view.proofs.Passed.{live_here, passed_page}
use Rattle.flash_view.specs.declared.view.View.{View}
use Rattle.nor_core.specs.Device.{OnlyReads}
use Rattle.nor_core.specs.declared.state.NorState.{Ghosts as NorOf}
use Rattle.nor_core.proofs.Cuts.{reads_then}
use Rattle.block_gc.specs.Partings.{PartCut, Parted, parting, IsBesideData, PartsPage, parting_page, PartsTo, parting_to}
use Rattle.block_gc.proofs.PartedPages.{part_stays, parts_itself, parts_on, cut_after}

-- ---- pages that a walk over the entries of index pages finds

-- it stops at an index page
pub found_index : (g : Geometry) (image : List ℕ) (from p : ℕ) (head : PageHeader) → IsNextLive g image from 0x8000 0xFFFE p head → is_index_page (live_at g image p) ≡ true
found_index g image from p head found =
    let live = live_here g image p found.live in
    let large = and_parts (nat_le 0x8000 (entry_of g image p)) (nat_le (entry_of g image p) 0xFFFE) found.between in
    let number = (live_page g image p (page_of g image p) live).number in
    let index : nat_lt (obj_id (page_of g image p)) 0x8000 ≡ false = le-ltb (obj_id (page_of g image p)) 0x8000 (omega (arith, number, leb-true 0x8000 (entry_of g image p) large.0)) in
    rw (live, index) refl

below_index : (n : ℕ) → n < 0x10000 → is_between 0x8000 0xFFFE n ≡ false → not (n == 0xFFFF) ≡ true → not (nat_lt n 0x8000) ≡ false
below_index n small none whole = grind (arith, nat_tests)

-- and passes none
pub passed_index : (g : Geometry) (image : List ℕ) (p : ℕ) → IsPassed g image 0x8000 0xFFFE p → is_index_page (live_at g image p) ≡ true → ⊥
passed_index g image p passed index =
    let x = index_some (live_at g image p) index in
    let w = passed_page g image 0x8000 0xFFFE p x.0 passed x.1 in
    let below : names_index x.0 ≡ false = below_index (obj_id x.0) w.word w.none (some_id x.0 w.finished).1 in
    let bad : true ≡ false = sym x.2 ∙ below in absurd (cc)

-- ---- turn after turn

-- a look on the way, and one that fails
abbrev pub looking : Step (Unit {0})
looking = record { needs = λ g was. IsNeat g was × FitsWith g was 0; cut = λ g was image. PartCut g was image; done = λ g was now ok. now ≡ was }

abbrev pub failing : Step (Unit {0})
failing = record { needs = λ g was. IsNeat g was × FitsWith g was 0; cut = λ g was image. PartCut g was image; done = λ g was now ok. ⊥ }

pub turns_start : (g : Geometry) (a : List ℕ) → IsNeat g a × FitsWith g a 0 → PartCut g a a × PartsTo g 0 a a
turns_start g a can = (part_stays g a can.0, record { parts = parts_itself g a can.0; none = λ page below. absurd (omega (arith, below)) })

-- turns are part of the whole, and what can be parted still can
pub turns_begin : (g : Geometry) (at next : ℕ) (a : List ℕ) → IsNeat g a × FitsWith g a 0 → Begins g a (parting_to at) (parting_to next)
turns_begin g at next a can = record { needs = can; cut = λ c cut. cut }

pub turns_part : (g : Geometry) (at : ℕ) (a : List ℕ) → IsNeat g a × FitsWith g a 0 → Begins g a (parting_to at) parting
turns_part g at a can = record { needs = can; cut = λ c cut. cut }

so_far_can : (g : Geometry) (at : ℕ) (a b : List ℕ) → IsNeat g a × FitsWith g a 0 → PartsTo g at a b → IsNeat g b × FitsWith g b 0
so_far_can g at a b can so_far = (so_far.parts.neat, so_far.parts.fits 0 can.1)

pub look_stops : (g : Geometry) (at : ℕ) (a b : List ℕ) → IsNeat g a × FitsWith g a 0 → PartsTo g at a b → Finishes g a b failing parting
look_stops g at a b can so_far = record { needs = so_far_can g at a b can so_far; cut = λ c cut. cut_after g a b c so_far.parts cut; done = λ c ok bad. absurd bad }

-- an index page was found, and has its turn
pub turn_goes : (g : Geometry) (at p next : ℕ) (head : PageHeader) (a b : List ℕ) → next ≡ p + 1 → IsNeat g a × FitsWith g a 0 → IsNextLive g b at 0x8000 0xFFFE p head → PartsTo g at a b → Finishes g a b (parting_page p) (parting_to next)
turn_goes g at p next head a b is can found so_far = record {
  needs = so_far_can g at a b can so_far;
  cut = λ c cut. cut_after g a b c so_far.parts cut;
  done = λ c ok turn. record { parts = parts_on g a b c so_far.parts turn.parts; none = none c turn };
}
  where
    before : (q : ℕ) → q < p → IsBesideData g b q → ⊥
    before q below beside = ⊎_elim
        (λ (early : q < at). so_far.none q early beside)
        (λ (late : at ≤ q). passed_index g b q (found.passed q late below) beside.index)
        (cases_lt q at)

    none : (c : List ℕ) → PartsPage g p b c → (q : ℕ) → q < next → IsBesideData g c q → ⊥
    none c turn q below beside = ⊎_elim
        (λ (here : q ≡ p). turn.gone (subst (λ (r : ℕ). IsBesideData g c r) here beside))
        (λ (there : q ≡ p → ⊥). before q (omega (arith, below, is, there)) (turn.others q beside))
        (cases_eq q p)

-- where no page of an image lies beside data pages it is tidy
unmixed_tidy : (g : Geometry) (a : List ℕ) → IsNeat g a → ((p : ℕ) → p < page_count g → IsBesideData g a p → ⊥) → IsTidy g a
unfolding is_data_block
unmixed_tidy g a neat none = neat-tidy g a neat (λ block m. none m.p (page_number g m.p (live_parts g a m.p m.x m.p_is).entry_page) (record { index = rw m.p_is m.names; held = held block m }))
  where
    held : (block : ℕ) (m : IsMixed g (live_at g a) block) → is_data_block g a (block_of g m.p) ≡ true
    held block m =
        let v = entry_of_block g m.q (live_parts g a m.q m.y m.q_is).entry_page in
        let same : block_of g m.p ≡ block_of g m.q = m.p_at ∙ sym m.q_at in
        rw same (any_from (λ (r : ℕ). is_data_page (live_at g a r)) (block_of g m.q * per_block g + lookups g) (entries g) m.q v.0 v.1 (rw (m.q_is, m.holds) refl))

-- no index page is left, and all have had their turns
pub turns_end : (g : Geometry) (at : ℕ) (a b : List ℕ) → IsNeat g a × FitsWith g a 0 → NextLive g b at 0x8000 0xFFFE None → PartsTo g at a b → Finishes g a b looking parting
turns_end g at a b can last so_far = record {
  needs = so_far_can g at a b can so_far;
  cut = λ c cut. cut_after g a b c so_far.parts cut;
  done = λ c ok same. subst (λ (d : List ℕ). Parted g a d) (sym same) parted;
}
  where
    none : (p : ℕ) → p < page_count g → IsBesideData g b p → ⊥
    none p below beside = ⊎_elim
        (λ (early : p < at). so_far.none p early beside)
        (λ (late : at ≤ p). passed_index g b p (last p late below) beside.index)
        (cases_lt p at)

    parted : Parted g a b
    parted = record { tidy = unmixed_tidy g b so_far.parts.neat none; table = so_far.parts.keeps.table; reserve = so_far.parts.reserve; counts = so_far.parts.counts }

-- ---- a tidy image isn't written

pub idle_on : {N : Type 0} {nor : NorOf N} (old mid new : View N nor) → mid.geometry ≡ old.geometry → (nor.tells old.nor.now → IsTidy old.geometry (nor.bytes old.nor.now) → OnlyReads nor old.nor.now mid.nor.now) →
    (nor.tells mid.nor.now → IsTidy mid.geometry (nor.bytes mid.nor.now) → OnlyReads nor mid.nor.now new.nor.now) → nor.tells old.nor.now → IsTidy old.geometry (nor.bytes old.nor.now) → OnlyReads nor old.nor.now new.nor.now
idle_on old mid new same first second tells t = let reads = first tells t in reads_then reads (second (reads.told tells) (rw (same, reads.bytes) t))
