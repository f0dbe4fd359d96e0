-- A batch that is moved, by its steps: all pages are carried, the index page is renewed, and the old pages are killed.
use Rattle.std.proofs.Common.{◌≡◌, ◌≢◌, ℕ, ◌<◌, ◌≤◌, List, [], length, true, false, Option, Some, None, refl, sym, ◌∙◌, ap, subst, arith, ⊎_elim, ◌+◌}
use Rattle.geometry.specs.declared.geometry.Geometry.{Geometry}
use Rattle.table_model.specs.declared.error.Tag.{Tag}
use Rattle.image_model.specs.Headers.{obj_id, names_index}
use Rattle.image_model.specs.Live.{live_at, own}
use Rattle.image_model.specs.Places.{block_of, IsImage}
use Rattle.image_model.specs.Files.{index_page, index_span}
use Rattle.image_laws.proofs.Finish.{own-parts}
use Rattle.image_laws.proofs.Frames.{live_parts}
use Rattle.image_laws.proofs.Judge.{index_passes}
use Rattle.image_laws.proofs.TidySteps.{neat_of, tidy-is_tidy}
use Rattle.room_laws.proofs.BatchPuts.{carrying_starts}
use Rattle.room_laws.proofs.Carried.{begins_between}
use Rattle.room_laws.proofs.OnTheWay.{all_nil}
use Rattle.flash_view.specs.Steps.{Step, Begins, Finishes}
use Rattle.page_renew.proofs.Homes.{Home, index_some}
use Rattle.block_gc.specs.Turns.{TurnCut, CanMoveBatch, moving_batch}
use Rattle.block_gc.specs.declared.batch.Batch.{Batch}
use Rattle.block_gc.specs.declared.batch.Run.{Run}
use Rattle.block_gc.specs.Batches.{Carried, IsNamedBy, IsFoundFor, are_to, IsCarried, IsOfBatch, StandsBeside, Carries, IsRun, IsFalling, below, are_from, CarriesTo, EndsRun, CanRenameTo, IsTurnOf, Drops, DropsTo, HaveGone, StaysIn}
use Rattle.block_gc.specs.Batches.{renaming_to, renaming, dropping_turn, dropping_all, ending_batch, CanMoveFrom, carrying_batch, moving_from}
use Rattle.block_gc.proofs.BatchCalls.{carry_stays}
use Rattle.block_gc.proofs.BatchDrops.{drops_end, gone_then, none_gone}
use Rattle.block_gc.proofs.BatchRuns.{below_all, below_none}
use Rattle.block_gc.proofs.BatchCopies.{some_data}
use Rattle.block_gc.proofs.IndexOut.{block_low}
use Rattle.block_gc.proofs.Replacing.{tidy_keeps, home_of}

-- ---- a batch begins

module _ (g : Geometry) (was : List ℕ) (block most : ℕ) (batch : Batch) (page span : ℕ) (can : CanMoveFrom g was block most batch page span) where
  low : block < g.blocks
  low = block_low g block page (live_parts g was page can.of.page can.of.live).entry_page can.at

  home0 : Home g was batch.id
  home0 = subst (λ (n : ℕ). Home g was n) can.index.id (home_of g was can.is (neat_of can.can.can.tidy) batch.index can.index.page can.index.live)

  beside : StandsBeside g was was batch.id
  beside = record {
    h = home0.h;
    head = home0.head;
    f = home0.f;
    was_at = home0.at;
    was_header = home0.header;
    at = home0.at;
    header = home0.header;
    file = home0.file;
    index = λ k. refl;
    entry = λ t. refl;
    alone = λ r j passes. passes;
    stays = λ r x live. live;
  }

  none_carried : Carries g was block most batch [] was
  none_carried = record {
    is = can.is;
    can = can.can.can;
    low = low;
    index = can.index;
    carrying = carrying_starts g was was block (begins_between g was block can.is can.can.can.tidy low) can.can.can.places;
    tidy = (tidy-is_tidy g was (λ (r : ℕ). are_to [] r)).0 can.can.can.tidy;
    keeps = tidy_keeps g was can.can.can.tidy;
    pages = all_nil (IsCarried g was was batch);
    beside = beside;
    few = omega arith;
    tails = λ id ready. ready;
    counts = λ c inside. refl;
  }

  no_run : (run : Run) → run.end ≡ page → run.count ≡ 0 → IsRun g was block batch page run []
  unfolding IsFalling
  no_run run end count = record {
    falls = tt;
    many = sym count;
    inside = all_nil (λ (c : Carried). (page ≤ c.from) × (c.from < run.end));
    of = all_nil (λ (c : Carried). IsOfBatch g was batch c.from c.span);
    each = λ r s here from before is. absurd (omega (arith, from, before, end));
  }

  -- no page had its turn yet
  pub first_begins : (run : Run) → run.end ≡ page → run.count ≡ 0 → (cs : List Carried) × CarriesTo g was block most batch page page run cs was
  first_begins run end count = (
    [],
    record {
      copies = record { so_far = none_carried; run_is = no_run run end count };
      full = λ r s here from before is. absurd (omega (arith, from, before));
    },
  )

  pub first_stays : TurnCut g block most was was
  first_stays = carry_stays g was was block most batch [] none_carried

-- ---- and ends

-- the index page is renewed where a place was found
pub rename_on : (g : Geometry) (was image : List ℕ) (block most : ℕ) (batch : Batch) (first to : ℕ) (run : Run) → ((cs : List Carried) → EndsRun g was block most batch first run cs image → CanRenameTo g was block most batch first to cs image) →
    (cs : List Carried) × EndsRun g was block most batch first run cs image → Finishes g image image (renaming_to was block most batch first to run) (renaming was block most batch first run)
rename_on g was image block most batch first to run place need = record {
  needs = (need.0, place need.0 need.1, need.1.run_is);
  cut = λ d cut. cut;
  done = λ d ok done. λ cs ends. done cs (place cs ends) ends.run_is;
}

pub ending_begins : (g : Geometry) (was image : List ℕ) (block most : ℕ) (batch : Batch) (first : ℕ) (run : Run) → (cs : List Carried) × EndsRun g was block most batch first run cs image →
    Begins g image (renaming was block most batch first run) (ending_batch was block most batch first run)
ending_begins g was image block most batch first run need = record { needs = need; cut = λ c cut. cut }

pub ending_then : (g : Geometry) (was image b : List ℕ) (block most : ℕ) (batch : Batch) (first : ℕ) (run : Run) → (cs : List Carried) × EndsRun g was block most batch first run cs image →
    ((cs : List Carried) → EndsRun g was block most batch first run cs image → Drops g was block most first cs b × StaysIn g block image b) →
    Finishes g image b (dropping_all was block most batch first run) (ending_batch was block most batch first run)
ending_then g was image b block most batch first run need drops = record {
  needs = (need.0, (drops need.0 need.1).0, need.1.run_is);
  cut = λ c cut. cut;
  done = λ c ok done. (
    drops_end g was c block most first (done need.0 (drops need.0 need.1).0 need.1.run_is).0,
    λ cs ends.
        let renamed = drops cs ends in
        let dropped = done cs renamed.0 ends.run_is in
        record {
          gone = λ r here e. ⊎_elim (λ (left : are_from [] r ≡ true). let bad : false ≡ true = left in absurd (cc)) (λ (dead : live_at g c r ≡ None). dead) (dropped.1.gone r e);
          others = λ r here e. dropped.1.others r e ∙ renamed.1 r here;
        },
  );
}

pub from_begins : (g : Geometry) (was : List ℕ) (block most : ℕ) (batch : Batch) (page span : ℕ) → CanMoveFrom g was block most batch page span →
    Begins g was (carrying_batch block most batch page span) (moving_from block most batch page span)
from_begins g was block most batch page span can = record { needs = can; cut = λ c cut. cut }

pub from_then : (g : Geometry) (was b : List ℕ) (block most : ℕ) (batch : Batch) (page span : ℕ) (run : Run) → (cs : List Carried) × EndsRun g was block most batch page run cs b →
    Finishes g was b (ending_batch was block most batch page run) (moving_from block most batch page span)
from_then g was b block most batch page span run all = record { needs = all; cut = λ c cut. cut; done = λ c ok done. done.0 }

-- ---- the old pages go one by one

-- those from page `next` on are gone: how many are left
abbrev pub dropping_down : (was : List ℕ) (block most : ℕ) → Batch → (first : ℕ) → Run → (next : ℕ) → Step ℕ
dropping_down was block most batch first run next = record {
  needs = λ g image. (cs : List Carried) × Drops g was block most first cs image × IsRun g was block batch first run cs;
  cut = λ g image cut. TurnCut g block most was cut;
  done = λ g image now left. (cs : List Carried) → Drops g was block most first cs image → IsRun g was block batch first run cs →
      DropsTo g was block most batch first next run left cs now × HaveGone g cs (below next cs) image now;
}

module _ (g : Geometry) (was image : List ℕ) (block most : ℕ) (batch : Batch) (first : ℕ) (run : Run) where
  abbrev Needs : Type 0
  Needs = (cs : List Carried) × Drops g was block most first cs image × IsRun g was block batch first run cs

  abbrev DownTo : (next left : ℕ) (b : List ℕ) → Type 0
  DownTo next left b = (cs : List Carried) → Drops g was block most first cs image → IsRun g was block batch first run cs →
      DropsTo g was block most batch first next run left cs b × HaveGone g cs (below next cs) image b

  -- at first all are left
  pub down_none : (next left : ℕ) → next ≡ run.end → left ≡ run.count → DownTo next left image
  down_none next left end count cs drops is =
      let same : below next cs ≡ cs = below_all next cs (λ k d low. let w = (is.inside k d low).1 in omega (arith, w, end)) in
      let many = is.many in (
        record { drops = subst (λ (ds : List Carried). Drops g was block most first ds image) (sym same) drops; run_is = is; many = ap (λ (ds : List Carried). length ds) same ∙ (many ∙ sym count) },
        subst (λ (ds : List Carried). HaveGone g cs ds image image) (sym same) (none_gone g cs image),
      )

  pub down_begins : (next more : ℕ) → Needs → Begins g image (dropping_down was block most batch first run next) (dropping_down was block most batch first run more)
  down_begins next more need = record { needs = need; cut = λ d cut. cut }

  pub down_begin : (next : ℕ) → Needs → Begins g image (dropping_down was block most batch first run next) (dropping_all was block most batch first run)
  down_begin next need = record { needs = need; cut = λ d cut. cut }

  -- the turn of the next one
  pub down_on : (b : List ℕ) (next more left q : ℕ) → q + 1 ≡ next → more ≡ q → Needs → DownTo next left b → IsTurnOf g block first run q →
      Finishes g image b (dropping_turn was block most batch first run q left) (dropping_down was block most batch first run more)
  down_on b next more left q one is need so_far turn = record {
    needs = ((need.0, (left_at need.0 need.1 need.2).0), turn);
    cut = λ d cut. cut;
    done = λ d rest killed. λ cs drops has.
        let s = left_at cs drops has in
        let t = killed cs s.0 in
        subst (λ (n : ℕ). DropsTo g was block most batch first n run rest cs d × HaveGone g cs (below n cs) image d) (sym is) (t.0, gone_then g cs (below (q + 1) cs) (below q cs) image b d s.1 t.1);
  }
    where
      left_at : (cs : List Carried) → Drops g was block most first cs image → IsRun g was block batch first run cs → DropsTo g was block most batch first (q + 1) run left cs b × HaveGone g cs (below (q + 1) cs) image b
      left_at cs drops has = subst (λ (n : ℕ). DropsTo g was block most batch first n run left cs b × HaveGone g cs (below n cs) image b) (sym one) (so_far cs drops has)

  -- with the first one all are gone
  pub down_all : (next left : ℕ) (b : List ℕ) → next ≤ first → DownTo next left b → (cs : List Carried) → Drops g was block most first cs image → IsRun g was block batch first run cs → Drops g was block most first [] b × HaveGone g cs [] image b
  down_all next left b low so_far cs drops is =
      let none : below next cs ≡ [] = below_none next cs (λ k d small. let w = (is.inside k d small).0 in omega (arith, w, low)) in
      let s = so_far cs drops is in
      (subst (λ (ds : List Carried). Drops g was block most first ds b) none s.0.drops, subst (λ (ds : List Carried). HaveGone g cs ds image b) none s.1)

-- ---- the batch that a page begins is found

pub found_is : (g : Geometry) (image : List ℕ) (page : ℕ) (found : Option (ℕ × Tag)) (index : ℕ) (tag : Tag) → found ≡ Some (index, tag) → IsFoundFor g image page found → IsNamedBy g image page index tag
found_is g image page found index tag is h = rw is at h

pub batch_found : (g : Geometry) (was : List ℕ) (block most page index span : ℕ) (tag : Tag) → IsImage g was → block_of g page ≡ block → 1 ≤ most → CanMoveBatch g was block page → IsNamedBy g was page index tag → span ≡ index_span g tag.span →
    Finishes g was was (moving_from block most (record { index = index; id = tag.id; span = span }) page tag.span) (moving_batch block most page)
batch_found g was block most page index span tag is at most_is can named is_span =
    let x = index_some (own (live_at g was) tag.id index) (index_span g tag.span) (index_passes g (own (live_at g was) tag.id) (index_span g tag.span) index named.first) in
    let w = own-parts (live_at g was) tag.id index x.0 x.1 in
    let kind : names_index named.of.bytes ≡ false = some_data (live_at g was page) named.of.bytes named.of.is_live can.is_data in
    let low : obj_id named.of.bytes < 0x8000 = grind arith in
    let e = named.of.id in
    record {
      needs = record {
        can = can;
        is = is;
        at = at;
        most_is = most_is;
        index = record { page = x.0; live = w.0; kind = x.2; id = w.1; span = x.3 ∙ sym is_span; first = ap (index_page g (own (live_at g was) tag.id)) is_span ∙ named.first };
        of = record { page = named.of.bytes; live = named.of.is_live; kind = kind; id = omega (arith, e, low); is_span = sym named.of.span; at = sym is_span };
      };
      cut = λ c cut. cut;
      done = λ c ok done. done;
    }
