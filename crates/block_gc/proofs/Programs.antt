-- How many programs a turn of a cleaning asks for, over plain images.
use Rattle.std.proofs.Common.{◌≡◌, ◌≢◌, ℕ, ◌+◌, ◌*◌, ◌<◌, ◌≤◌, List, [], ◌∷◌, length, Bool, true, false, ◌==◌, ◌&&◌, ◌||◌, Option, Some, None, Result, Ok, Err, MatchResult, OnOk, ap, refl, sym, ◌∙◌, arith, ⊎_elim, inl, inr}
use Rattle.std.specs.Prelude.{All, is_some, max, not}
use Rattle.std.proofs.lemmas.Bool.{cases_eq, cases_lt, eq-eqb, eqb-true, ne_eqb, or_cases}
use Rattle.std.proofs.lemmas.Option.{none-some}
use Rattle.geometry.specs.declared.geometry.Geometry.{Geometry}
use Rattle.geometry.specs.Numbers.{per_block, lookups, entries}
use Rattle.image_model.specs.Collect.{count_in, deleted_in, free_in}
use Rattle.image_model.specs.Files.{index_span}
use Rattle.image_model.specs.Headers.{span_of, names_index}
use Rattle.image_model.specs.Kinds.{is_index_page}
use Rattle.image_model.specs.Live.{live_at}
use Rattle.image_model.specs.Places.{block_of}
use Rattle.image_model.specs.Tidy.{IsTidy}
use Rattle.image_model.specs.Within.{entry_in, entry_of_block}
use Rattle.image_laws.proofs.DeadEntries.{filter-one}
use Rattle.image_laws.proofs.Frames.{live_parts}
use Rattle.image_laws.proofs.Matching.{filter-none_in}
use Rattle.flash_view.specs.Steps.{Step, Begins, Finishes}
use Rattle.flash_view.specs.declared.counts.BlockCounts.{BlockCounts}
use Rattle.flash_view.specs.Counts.{AreCounts}
use Rattle.free_search.proofs.FreePages.{free_counted}
use Rattle.room_laws.specs.Sorts.{sort_at}
use Rattle.room_laws.specs.Ways.{AreApart, AreMoves}
use Rattle.room_laws.proofs.Batches.{IsOut, outs}
use Rattle.room_laws.proofs.OnTheWay.{all_head, all_tail}
use Rattle.room_laws.proofs.Sorted.{tidy_tells_free}
use Rattle.page_renew.proofs.Homes.{some_index}
use Rattle.block_gc.specs.Programs.{is_named, begins_batch, batches_in, live_in, moved_with, moved_in, longest_at, NoneBefore}
use Rattle.block_gc.specs.Turns.{CanEmpty, TurnDone, moving_index}
use Rattle.block_gc.specs.declared.batch.Batch.{Batch}
use Rattle.block_gc.specs.declared.batch.Run.{Run}
use Rattle.block_gc.specs.Batches.{Carried, move_of, moves_of, are_from, IsOfBatch, IsCarried, Carries, CarriesAll, EndsRun, HaveLeft, CanMoveFrom, carrying_batch, ending_batch}
use Rattle.block_gc.proofs.BatchCalls.{live_was}
use Rattle.block_gc.proofs.PagesMoved.{named_parts, named_from, BatchWent, batch_falls}
use Rattle.block_gc.proofs.Ranks.{count_less}

-- where a call is done, by what it leaves
pub if_ok : {T E : Type 0} (r : Result T E) (fault : E) (P Q : Type 0) → MatchResult r (λ x. P) (λ why. why ≡ fault) → (P → Q) → OnOk r Q
if_ok (Ok x) fault P Q h on = on h
if_ok (Err e) fault P Q h on = tt

-- ---- the pages that were carried

or_none : (x : Bool) → x ≡ (x || false)
or_none true = refl
or_none false = refl

or_true : (x : Bool) → (x || true) ≡ true
or_true true = refl
or_true false = refl

-- none was carried from the same page
not_from : (c : Carried) (cs : List Carried) → All (AreApart (move_of c)) (moves_of cs) → are_from cs c.from ≡ false
not_from c [] all = refl
not_from c (d ∷ cs) all = rw (not_from c cs (all_tail (AreApart (move_of c)) (move_of d) (moves_of cs) all), ne_eqb c.from d.from (all_head (AreApart (move_of c)) (move_of d) (moves_of cs) all).from) refl

module _ (g : Geometry) (was image : List ℕ) (block : ℕ) (batch : Batch) where
  -- a page that was carried is one that the batch's index page names
  named_of : (q span : ℕ) → IsOfBatch g was batch q span → is_named g batch.id batch.span (live_at g was q) ≡ true
  named_of q span of = rw of.live (named_from g batch.id batch.span of.page of.kind of.id (ap (index_span g) of.is_span ∙ of.at))

  of_named : (q : ℕ) (o : Option (List ℕ)) → live_at g was q ≡ o → is_named g batch.id batch.span o ≡ true → (x : List ℕ) × IsOfBatch g was batch q (span_of x)
  of_named q None e is = absurd (cc)
  of_named q (Some x) e is = let w = named_parts g batch.id batch.span x is in (x, record { page = x; live = e; kind = w.0; id = w.1; is_span = refl; at = w.2 })

  went_named : (cs : List Carried) → All (IsCarried g was image batch) cs → (q : ℕ) → are_from cs q ≡ true → is_named g batch.id batch.span (live_at g was q) ≡ true
  went_named [] all q e = absurd (cc)
  went_named (c ∷ cs) all q e = ⊎_elim
      (λ (rest : are_from cs q ≡ true). went_named cs (all_tail (IsCarried g was image batch) c cs all) q rest)
      (λ (here : (q == c.from) ≡ true). rw (eqb-true q c.from here) (named_of c.from c.span (all_head (IsCarried g was image batch) c cs all).of))
      (or_cases (are_from cs q) (q == c.from) e)

  -- there are as many of those pages as were carried
  count_from : (low : block < g.blocks) (cs : List Carried) → All (IsCarried g was image batch) cs → AreMoves g was (moves_of cs) → All (IsOut g block (sort_at g was)) (moves_of cs) → count_in g block (are_from cs) ≡ length cs
  unfolding AreMoves
  count_from low [] all are out = filter-none_in (are_from []) (block * per_block g + lookups g) (entries g) (λ q from to. refl)
  count_from low (c ∷ cs) all are out =
      let rest = count_from low cs (all_tail (IsCarried g was image batch) c cs all) are.2 (all_tail (IsOut g block (sort_at g was)) (move_of c) (moves_of cs) out) in
      let of = (all_head (IsCarried g was image batch) c cs all).of in
      let at : block_of g c.from ≡ block = (all_head (IsOut g block (sort_at g was)) (move_of c) (moves_of cs) out).from in
      let w : (block * per_block g + lookups g ≤ c.from) × (c.from < block * per_block g + lookups g + entries g) = rw at at (entry_of_block g c.from (live_parts g was c.from of.page of.live).entry_page) in
      let one = filter-one (are_from (c ∷ cs)) (are_from cs) c.from (block * per_block g + lookups g) (entries g) w.0 w.1 (rw (eq-eqb c.from c.from refl) (or_true (are_from cs c.from))) (not_from c cs are.1)
      (λ q other. rw (ne_eqb q c.from other) (or_none (are_from cs q))) in
      omega (arith, one, rest)

-- ---- a batch

some_carried : (cs : List Carried) (page : ℕ) → are_from cs page ≡ true → 0 < length cs
some_carried [] page e = absurd (cc)
some_carried (c ∷ cs) page e = omega arith

module _ (g : Geometry) (was mid now : List ℕ) (block most : ℕ) (batch : Batch) (page : ℕ) (cs : List Carried) (one : 1 ≤ most) (all : CarriesAll g was block most batch page cs mid) (left : HaveLeft g block cs mid now) (none : NoneBefore g was block page) where
  abbrev c : Carries g was block most batch cs mid
  c = all.so_far

  counted : count_in g block (are_from cs) ≡ length cs
  counted = count_from g was mid block batch c.low cs c.pages c.carrying.are (outs g block (sort_at g was) (moves_of cs) c.carrying.ways)

  -- the block is as it was until the old pages are killed
  same_in : (q : ℕ) → block_of g q ≡ block → live_at g mid q ≡ live_at g was q
  same_in q here = by (live_at g mid q) refl
    where
      old : (o : Option (List ℕ)) → live_at g was q ≡ o → live_at g mid q ≡ None → live_at g mid q ≡ live_at g was q
      old None e dead = dead ∙ sym e
      old (Some x) e dead = absurd (none-some x (sym dead ∙ c.beside.stays q x e))

      by : (o : Option (List ℕ)) → live_at g mid q ≡ o → live_at g mid q ≡ live_at g was q
      by None e = old (live_at g was q) refl e
      by (Some x) e = e ∙ sym (live_was g was mid block most batch cs c q x here e)

  went : BatchWent g was now block batch.id batch.span most (are_from cs)
  went = record {
    of = λ q here is. went_named g was mid block batch cs c.pages q is;
    gone = λ q here is. left.gone q here is;
    others = λ q here no. left.others q here no ∙ same_in q here;
    some = let s = some_carried cs page all.begun in omega (arith, s, counted);
    full = ⊎_elim
        (λ (short : length cs < most). inr (λ q here named. own q here named short))
        (λ (long : most ≤ length cs). inl (omega (arith, long, counted)))
        (cases_lt (length cs) most);
  }
    where
      own : (q : ℕ) → block_of g q ≡ block → is_named g batch.id batch.span (live_at g was q) ≡ true → length cs < most → are_from cs q ≡ true
      own q here named short =
          let x = of_named g was mid block batch q (live_at g was q) refl named in
          ⊎_elim
          (λ (below : q < page). absurd (none-some x.1.page (sym (none q here below) ∙ x.1.live)))
          (λ (high : page ≤ q). ⊎_elim
          (λ (same : q ≡ page). rw same all.begun)
          (λ (other : q ≡ page → ⊥). ⊎_elim
          (λ (is : are_from cs q ≡ true). is)
          (λ (long : most ≤ length cs). absurd (omega (arith, long, short)))
          (all.full q (span_of x.0) here (omega (arith, high, other)) x.1))
          (cases_eq q page))
          (cases_lt q page)

  pub batch_goes : moved_with g now block most + (length cs + 1) ≤ moved_with g was block most
  batch_goes =
      let f = batch_falls g was now block batch.id batch.span most (are_from cs) c.low (omega (arith, one)) went in
      omega (arith, f, counted)

-- a batch as a step over these numbers
abbrev pub counting : (block most : ℕ) → Batch → (page span : ℕ) → Run → Step (Unit {0})
counting block most batch page span run = record {
  needs = λ g was. CanMoveFrom g was block most batch page span × NoneBefore g was block page;
  cut = λ g was image. Unit {0};
  done = λ g was now ok. moved_with g now block most + (run.count + 1) ≤ moved_with g was block most;
}

pub counting_begins : (g : Geometry) (was : List ℕ) (block most : ℕ) (batch : Batch) (page span : ℕ) (run : Run) → CanMoveFrom g was block most batch page span →
    Begins g was (carrying_batch block most batch page span) (counting block most batch page span run)
counting_begins g was block most batch page span run can = record { needs = can; cut = λ c cut. tt }

pub counting_then : (g : Geometry) (was mid : List ℕ) (block most : ℕ) (batch : Batch) (page span : ℕ) (run : Run) → CanMoveFrom g was block most batch page span × NoneBefore g was block page →
    (cs : List Carried) × EndsRun g was block most batch page run cs mid → Finishes g was mid (ending_batch was block most batch page run) (counting block most batch page span run)
counting_then g was mid block most batch page span run need all = record {
  needs = all;
  cut = λ c cut. tt;
  done = λ now ok done.
      let f = batch_goes g was mid now block most batch page all.0 need.0.most_is all.1.all (done.1 all.0 all.1) need.1 in
      let many = all.1.run_is.many in
      omega (arith, f, many);
}

-- ---- an index page

-- a page of a block that goes, and with it all that begin a batch
module _ (g : Geometry) (was now : List ℕ) (block longest p : ℕ) (low : block < g.blocks) (t : IsTidy g was) (at : block_of g p ≡ block) (index : is_index_page (live_at g was p) ≡ true) (done : TurnDone g block p was now) where
  abbrev x : (page : List ℕ) × (live_at g was p ≡ Some page) × (names_index page ≡ true)
  x = some_index (live_at g was p) index

  abbrev start : ℕ
  start = block * per_block g + lookups g

  still : (q : ℕ) (o : Option (List ℕ)) → live_at g now q ≡ o → block_of g q ≡ block → is_some o ≡ true → is_some (live_at g was q) ≡ true
  still q None e here is = absurd (cc)
  still q (Some y) e here is = rw (done.others q y here e) refl

  -- fewer are live
  live_falls : live_in g now block + 1 ≤ live_in g was block
  unfolding live_in
  live_falls =
      let inside : (start ≤ p) × (p < start + entries g) = rw at at (entry_of_block g p (live_parts g was p x.0 x.1).entry_page) in
      let one = filter-one (λ (q : ℕ). is_some (live_at g was q)) (λ (q : ℕ). is_some (live_at g was q) && not (q == p)) p start (entries g) inside.0 inside.1 (ap (λ (o : Option (List ℕ)). is_some o) x.1) (rw (eq-eqb p p refl) (and_none (is_some (live_at g was p))))
      (λ q other. rw (ne_eqb q p other) (and_all (is_some (live_at g was q)))) in
      let fewer = count_less (λ (q : ℕ). is_some (live_at g now q)) (λ (q : ℕ). is_some (live_at g was q) && not (q == p)) start (entries g) (λ q from to is.
      let here = (entry_in g block q low from to).0 in
      let other : q ≢ p = λ e. let bad : false ≡ true = rw (e, done.gone) at is in absurd (cc) in
      rw (still q (live_at g now q) refl here is, ne_eqb q p other) refl) in
      omega (arith, one, fewer)
    where
      and_none : (b : Bool) → (b && false) ≡ false
      and_none true = refl
      and_none false = refl

      and_all : (b : Bool) → (b && true) ≡ b
      and_all true = refl
      and_all false = refl

  -- the block holds no data page
  no_batch : (q : ℕ) (o : Option (List ℕ)) → live_at g now q ≡ o → block_of g q ≡ block → begins_batch g now block longest q o ≡ false
  no_batch q None e here = refl
  no_batch q (Some y) e here = rw (t.unmixed q p y x.0 (done.others q y here e) x.1 (here ∙ sym at) ∙ x.2) refl

  no_batches : batches_in g now block longest ≡ 0
  unfolding batches_in
  no_batches = filter-none_in (λ (q : ℕ). begins_batch g now block longest q (live_at g now q)) start (entries g) (λ q from to. no_batch q (live_at g now q) refl (entry_in g block q low from to).0)

  pub index_goes : moved_with g now block longest + 1 ≤ moved_with g was block longest
  index_goes = omega (arith, live_falls, no_batches)

abbrev pub falling : (block longest p : ℕ) → Step (Unit {0})
falling block longest p = record {
  needs = λ g was. (block < g.blocks) × CanEmpty g was block × (block_of g p ≡ block) × (is_index_page (live_at g was p) ≡ true);
  cut = λ g was image. Unit {0};
  done = λ g was now ok. moved_with g now block longest + 1 ≤ moved_with g was block longest;
}

pub index_falls : (g : Geometry) (was : List ℕ) (block longest p : ℕ) → (block < g.blocks) × CanEmpty g was block × (block_of g p ≡ block) × (is_index_page (live_at g was p) ≡ true) → Finishes g was was (moving_index block p) (falling block longest p)
index_falls g was block longest p need = record {
  needs = record { can = need.1; index = need.3 };
  cut = λ c cut. tt;
  done = λ now ok done. index_goes g was now block longest p need.0 need.1.tidy need.2 need.3 done;
}

-- ---- the longest batch

pub longest_is : (g : Geometry) (a : List ℕ) (block most : ℕ) (c : BlockCounts) → IsTidy g a → block < g.blocks → AreCounts g a block c → most ≡ max 1 (c.deleted + c.free) → moved_with g a block most ≡ moved_in g a block
longest_is g a block most c t low counts is =
    let deleted : c.deleted ≡ deleted_in g a block = counts.deleted in
    let free : c.free ≡ free_in g a block = counts.free ∙ free_counted g a block (tidy_tells_free g a t) low in
    let same : most ≡ longest_at g a block = omega (arith, is, deleted, free) in
    ap (moved_with g a block) same
