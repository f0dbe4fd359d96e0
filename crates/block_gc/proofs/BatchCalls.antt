-- A batch that is moved: where nothing is programmed yet, and its steps one after the other.
use Rattle.std.proofs.Common.{◌≡◌, ◌≢◌, ℕ, ◌+◌, ◌<◌, ◌≤◌, List, [], ◌∷◌, length, Some, Result, Ok, Err, OnOk, refl, sym, ◌∙◌, ap, subst, arith, ⊎_elim, inl, inr, ◌⊎◌, ◌*◌, true, false, Bool, ◌||◌}
use Rattle.std.specs.Prelude.{All}
use Rattle.std.proofs.lemmas.Bool.{cases_eq, eq-eqb}
use Rattle.geometry.specs.Numbers.{per_block, lookups, entries}
use Rattle.image_model.specs.Within.{entry_of_block}
use Rattle.image_laws.proofs.Frames.{live_parts}
use Rattle.std.proofs.lemmas.List.{length-map}
use Rattle.geometry.specs.declared.geometry.Geometry.{Geometry}
use Rattle.image_model.specs.Live.{live_at}
use Rattle.image_model.specs.Places.{block_of}
use Rattle.room_laws.specs.Sorts.{sort_at}
use Rattle.room_laws.specs.Ways.{HasCome}
use Rattle.room_laws.proofs.Batches.{IsOut, outs}
use Rattle.room_laws.proofs.OnTheWay.{all_at, all_cons, all_head}
use Rattle.nor_core.specs.declared.state.NorState.{Ghosts as NorOf}
use Rattle.flash_view.specs.declared.view.View.{View}
use Rattle.flash_view.specs.Same.{OnlyLooks}
use Rattle.flash_view.specs.Steps.{Step, Errors, Stepped, Begins, Finishes}
use Rattle.flash_view.proofs.Stepped.{after_look}
use Rattle.page_renew.specs.Built.{IsNamed}
use Rattle.block_gc.specs.Turns.{TurnCut}
use Rattle.block_gc.specs.declared.batch.Batch.{Batch}
use Rattle.block_gc.specs.declared.batch.Run.{Run}
use Rattle.block_gc.specs.Batches.{Carried, move_of, moves_of, are_from, IsFalling, IsRun, IsOfBatch, Carries, CanCarry, CanCarryTo, CarriesTo, EndsRun, CanMoveFrom, carrying_to, carrying, carrying_turn, carrying_batch, AreNamed}
use Rattle.block_gc.proofs.BatchCopies.{carrying_cut, named_moves}

-- where nothing more is programmed the image recovers
pub carry_stays : (g : Geometry) (was image : List ℕ) (block most : ℕ) (batch : Batch) (cs : List Carried) → Carries g was block most batch cs image → TurnCut g block most was image
carry_stays g was image block most batch cs c =
    let l = length-map cs move_of in
    let few = c.few in
    carrying_cut g was image block most batch c.index (moves_of cs) (record { are = c.carrying.are; ways = c.carrying.ways; way = c.carrying.way }) c.keeps (named_moves g was image batch c.index cs c.pages) (omega (arith, l, few))

-- what holds where a call is done
pub ok_then : {T E : Type 0} (r : Result T E) (P Q : Type 0) → (P → Q) → OnOk r P → OnOk r Q
ok_then (Ok x) P Q f h = f h
ok_then (Err e) P Q f h = tt

-- ---- one more copy

-- the same step after a look
pub after_looks : {N T E : Type 0} {nor : NorOf N} {errors : Errors E} {old mid new : View N nor} {r : Result T E} {step : Step T} → OnlyLooks old mid → Stepped errors mid new r step → Stepped errors old new r step
after_looks looks call = after_look looks call (λ tells need. record { needs = need; cut = λ c cut. cut; done = λ c ok done. done })

-- it is put at a place that was found
pub carry_begins : (g : Geometry) (was image : List ℕ) (block most : ℕ) (batch : Batch) (q to span : ℕ) → (cs : List Carried) × CanCarry g was block most batch cs q span image →
    ((cs : List Carried) → CanCarry g was block most batch cs q span image → CanCarryTo g was block most batch cs q to span image) → Begins g image (carrying_to was block most batch q to span) (carrying was block most batch q span)
carry_begins g was image block most batch q to span need place = record { needs = (need.0, place need.0 need.1); cut = λ d cut. cut }

-- ---- the pages in their turns

from_this : (cs : List Carried) (c : Carried) (r : ℕ) → r ≡ c.from → are_from (c ∷ cs) r ≡ true
from_this cs c r is = rw (eq-eqb r c.from is) (or_true (are_from cs r))
  where
    or_true : (x : Bool) → (x || true) ≡ true
    or_true true = refl
    or_true false = refl

-- one more page had its turn
full_on : (g : Geometry) (was : List ℕ) (block most : ℕ) (batch : Batch) (first q r span : ℕ) (cs : List Carried) → ((span : ℕ) → block_of g q ≡ block → IsOfBatch g was batch q span → (are_from cs q ≡ true) ⊎ (most ≤ length cs)) →
    ((span : ℕ) → block_of g r ≡ block → first ≤ r → r < q → IsOfBatch g was batch r span → (are_from cs r ≡ true) ⊎ (most ≤ length cs)) →
    block_of g r ≡ block → first ≤ r → r < q + 1 → IsOfBatch g was batch r span → (are_from cs r ≡ true) ⊎ (most ≤ length cs)
full_on g was block most batch first q r span cs this before here above next of = ⊎_elim
    (λ (same : r ≡ q). subst (λ (k : ℕ). block_of g k ≡ block → IsOfBatch g was batch k span → (are_from cs k ≡ true) ⊎ (most ≤ length cs)) (sym same) (this span) here of)
    (λ (other : r ≡ q → ⊥). before span here above (omega (arith, next, other)) of)
    (cases_eq r q)

-- nothing is carried in the turn of a page that isn't of the batch, or where this is as long as it may be
pub turn_idle : (g : Geometry) (was image : List ℕ) (block most : ℕ) (batch : Batch) (first q : ℕ) (run : Run) (cs : List Carried) →
    ((span : ℕ) → block_of g q ≡ block → IsOfBatch g was batch q span → (are_from cs q ≡ true) ⊎ (most ≤ length cs)) →
    CarriesTo g was block most batch first q run cs image → CarriesTo g was block most batch first (q + 1) run cs image
turn_idle g was image block most batch first q run cs this to = record {
  copies = to.copies;
  full = λ r span here above next of. full_on g was block most batch first q r span cs this (λ s. to.full r s) here above next of;
}

-- a page of the batch is one still
pub of_still : (g : Geometry) (was image : List ℕ) (block most : ℕ) (batch : Batch) (cs : List Carried) → Carries g was block most batch cs image → (q span : ℕ) → IsOfBatch g was batch q span → IsOfBatch g image batch q span
of_still g was image block most batch cs c q span of = record { page = of.page; live = c.beside.stays q of.page of.live; kind = of.kind; id = of.id; is_span = of.is_span; at = of.at }

-- a live page of the block was live before
pub live_was : (g : Geometry) (was image : List ℕ) (block most : ℕ) (batch : Batch) (cs : List Carried) → Carries g was block most batch cs image → (q : ℕ) (x : List ℕ) → block_of g q ≡ block → live_at g image q ≡ Some x → live_at g was q ≡ Some x
live_was g was image block most batch cs c q x at live = ⊎_elim
    (λ (before : live_at g was q ≡ Some x). before)
    (λ (come : HasCome g was (moves_of cs) q x).
    absurd ((all_at (IsOut g block (sort_at g was)) (moves_of cs) come.move (outs g block (sort_at g was) (moves_of cs) c.carrying.ways) come.one).apart (ap (λ (p : ℕ). block_of g p) come.at ∙ at)))
    (c.carrying.way.live q x live)

module _ (g : Geometry) (was image : List ℕ) (block most : ℕ) (batch : Batch) (first q : ℕ) (run : Run) (cs : List Carried) (to : CarriesTo g was block most batch first q run cs image) (ends : run.end ≤ q) where
  abbrev had : IsRun g was block batch first run cs
  had = to.copies.run_is

  pub turn_can : block_of g q ≡ block → run.count < most → (span : ℕ) → IsOfBatch g image batch q span → CanCarry g was block most batch cs q span image
  turn_can at room span of =
      let many = had.many in
      record {
        so_far = to.copies.so_far;
        of = record { page = of.page; live = live_was g was image block most batch cs to.copies.so_far q of.page at of.live; kind = of.kind; id = of.id; is_span = of.is_span; at = of.at };
        from = at;
        apart = λ k d low. λ e. let w = (had.inside k d low).1 in omega (arith, w, ends, e);
        room = omega (arith, many, room);
      }

  pub turn_done : (b : List ℕ) (place span : ℕ) (new : Run) → first ≤ q → run.count < most → new.end ≡ q + 1 → new.count ≡ run.count + 1 → IsOfBatch g was batch q span → Carries g was block most batch (record { from = q; to = place; span = span } ∷ cs) b →
      CarriesTo g was block most batch first (q + 1) new (record { from = q; to = place; span = span } ∷ cs) b
  unfolding IsFalling
  turn_done b place span new above room end count of c = record {
    copies = record {
      so_far = c;
      run_is = record {
        falls = (λ k d low. let w = (had.inside k d low).1 in omega (arith, w, ends), had.falls);
        many = let many = had.many in omega (arith, many, count);
        inside = all_cons (λ (d : Carried). (first ≤ d.from) × (d.from < new.end)) one cs (above, omega (arith, end))
            (λ k d low. let w = had.inside k d low in (w.0, let less = w.1 in omega (arith, less, ends, end)));
        of = all_cons (λ (d : Carried). IsOfBatch g was batch d.from d.span) one cs of had.of;
        each = λ r s here from before is. ⊎_elim
            (λ (same : r ≡ q). from_this cs one r same)
            (λ (other : r ≡ q → ⊥). all_of r s here from (omega (arith, before, end, other)) is)
            (cases_eq r q);
      };
    };
    full = λ r s here from next is. full_on g was block most batch first q r s (one ∷ cs) (λ s at is. inl (from_this cs one q refl))
        (λ s at from before is. ⊎_elim
        (λ (yes : are_from cs r ≡ true). inl (rw yes refl))
        (λ (long : most ≤ length cs). inr (omega (arith, long)))
        (to.full r s at from before is)) here from next is;
  }
    where
      one : Carried
      one = record { from = q; to = place; span = span }

      all_of : (r s : ℕ) → block_of g r ≡ block → first ≤ r → r < q → IsOfBatch g was batch r s → are_from (one ∷ cs) r ≡ true
      all_of r s here from before is = ⊎_elim
          (λ (yes : are_from cs r ≡ true). rw yes refl)
          (λ (long : most ≤ length cs). let many = had.many in absurd (omega (arith, long, many, room)))
          (to.full r s here from before is)

module _ (g : Geometry) (was image : List ℕ) (block most : ℕ) (batch : Batch) (first q : ℕ) (run : Run) (ends : run.end ≤ q)
    (need : ((cs : List Carried) × CarriesTo g was block most batch first q run cs image) × (block_of g q ≡ block) × (first ≤ q)) (room : run.count < most) (span : ℕ) (of : IsOfBatch g image batch q span) where
  turn_one : CanCarry g was block most batch need.0.0 q span image
  turn_one = turn_can g was image block most batch first q run need.0.0 need.0.1 ends need.1 room span of

  was_of : IsOfBatch g was batch q span
  was_of = record { page = of.page; live = live_was g was image block most batch need.0.0 need.0.1.copies.so_far q of.page need.1 of.live; kind = of.kind; id = of.id; is_span = of.is_span; at = of.at }

  pub turn_begins : Begins g image (carrying was block most batch q span) (carrying_turn was block most batch first q run)
  turn_begins = record { needs = (need.0.0, turn_one); cut = λ c cut. cut }

  pub turn_ends : (b : List ℕ) (to : ℕ) (new : Run) → new.end ≡ q + 1 → new.count ≡ run.count + 1 →
      ((cs : List Carried) → CanCarry g was block most batch cs q span image → Carries g was block most batch (record { from = q; to = to; span = span } ∷ cs) b) →
      (cs : List Carried) × CarriesTo g was block most batch first (q + 1) new cs b
  turn_ends b to new end count done = (
    record { from = q; to = to; span = span } ∷ need.0.0,
    turn_done g was image block most batch first q run need.0.0 need.0.1 ends b to span new need.2 room end count was_of (done need.0.0 turn_one),
  )

-- ---- the names

-- one more name
pub names_on : (g : Geometry) (plain mid new : List ℕ) (c : Carried) (cs more : List Carried) (span to : ℕ) → more ≡ c ∷ cs → span ≡ c.span → to ≡ c.to → AreNamed g plain cs mid → IsNamed g span to mid new → AreNamed g plain more new
unfolding AreNamed
names_on g plain mid new c cs more span to is span_is to_is named one = rw is (mid, named, rw (span_is, to_is) at one)

-- ---- all pages of the block

-- a page of the batch is one of the block's entry pages
entries_of : (g : Geometry) (was : List ℕ) (block : ℕ) (batch : Batch) (r span : ℕ) → block_of g r ≡ block → IsOfBatch g was batch r span → r < (block + 1) * per_block g
unfolding entries
entries_of g was block batch r span here of =
    let w = rw here at (entry_of_block g r (live_parts g was r of.page of.live).entry_page) in
    omega (arith, w.1, w.0)

-- a loop over them
abbrev pub carrying_part : (block most : ℕ) → Batch → (first span next : ℕ) → Step Run
carrying_part block most batch first span next = record {
  needs = λ g was. CanMoveFrom g was block most batch first span;
  cut = λ g was image. TurnCut g block most was image;
  done = λ g was now run. (cs : List Carried) × CarriesTo g was block most batch first next run cs now;
}

pub part_begin : (g : Geometry) (was : List ℕ) (block most : ℕ) (batch : Batch) (first span next more : ℕ) → CanMoveFrom g was block most batch first span →
    Begins g was (carrying_part block most batch first span next) (carrying_part block most batch first span more)
part_begin g was block most batch first span next more need = record { needs = need; cut = λ c cut. cut }

-- the turn of the next one
pub part_on : (g : Geometry) (was b : List ℕ) (block most : ℕ) (batch : Batch) (first span q : ℕ) (run : Run) → (cs : List Carried) × CarriesTo g was block most batch first q run cs b → block_of g q ≡ block → first ≤ q →
    Finishes g was b (carrying_turn was block most batch first q run) (carrying_part block most batch first span (q + 1))
part_on g was b block most batch first span q run s at from = record { needs = (s, at, from); cut = λ c cut. cut; done = λ c new done. done }

pub part_pass : (g : Geometry) (was : List ℕ) (block most : ℕ) (batch : Batch) (first span next : ℕ) → CanMoveFrom g was block most batch first span →
    Begins g was (carrying_part block most batch first span next) (carrying_batch block most batch first span)
part_pass g was block most batch first span next need = record { needs = need; cut = λ c cut. cut }

-- where all had their turns the page that begins the batch was carried
pub part_ends : (g : Geometry) (was : List ℕ) (block most : ℕ) (batch : Batch) (first span next : ℕ) → (block + 1) * per_block g ≤ next → CanMoveFrom g was block most batch first span →
    Finishes g was was (carrying_part block most batch first span next) (carrying_batch block most batch first span)
part_ends g was block most batch first span next all need = record { needs = need; cut = λ c cut. cut; done = λ now run done. ends_of now run done.0 done.1 }
  where
    inside : (r s : ℕ) → block_of g r ≡ block → IsOfBatch g was batch r s → r < next
    inside r s here of = let w = entries_of g was block batch r s here of in omega (arith, w, all)

    begun_by : (run : Run) (cs : List Carried) → IsRun g was block batch first run cs → 1 ≤ length cs → are_from cs first ≡ true
    begun_by run [] is some = absurd (omega (arith, some))
    begun_by run (c ∷ cs) is some =
        let w = all_head (λ (d : Carried). (first ≤ d.from) × (d.from < run.end)) c cs is.inside in
        let low = w.0 in
        let high = w.1 in
        is.each first span need.at (omega arith) (omega (arith, low, high)) need.of

    ends_of : (now : List ℕ) (run : Run) (cs : List Carried) → CarriesTo g was block most batch first next run cs now → (cs : List Carried) × EndsRun g was block most batch first run cs now
    ends_of now run cs to = (
      cs,
      record {
        all = record {
          so_far = to.copies.so_far;
          begun = ⊎_elim (λ (yes : are_from cs first ≡ true). yes) (λ (long : most ≤ length cs). let m = need.most_is in begun_by run cs to.copies.run_is (omega (arith, long, m)))
              (to.full first span need.at (omega arith) (inside first span need.at need.of) need.of);
          full = λ r s here above of. to.full r s here (omega (arith, above)) (inside r s here of) of;
        };
        run_is = to.copies.run_is;
      },
    )
