-- The index page of a batch is renewed to name the copies, from what a put and a kill leave.
use Rattle.std.proofs.Common.{◌≡◌, ◌≢◌, ℕ, ◌+◌, ◌%◌, ◌<◌, ◌≤◌, List, [], ◌∷◌, length, take, set, Bool, true, false, ◌&&◌, Option, Some, Result, Ok, slice_index, slice_range, ap, refl, sym, ◌∙◌, arith, ⊎_elim, inl, inr, subst}
use Rattle.std.specs.Prelude.{All, Contains, is_some, option_and_then, unwrap_or}
use Rattle.std.specs.Option.{option_map}
use Rattle.std.proofs.lemmas.Bool.{cases_Bool, cases_lt, lt-ltb, le-ltb, and_parts}
use Rattle.std.proofs.lemmas.List.{get_or-take, length-map}
use Rattle.std.proofs.lemmas.List.Elements.{All-map}
use Rattle.std.proofs.lemmas.Option.{same_Some}
use Rattle.geometry.specs.declared.geometry.Geometry.{Geometry}
use Rattle.geometry.specs.Numbers.{head_slots}
use Rattle.table_model.specs.declared.error.Tag.{Tag}
use Rattle.table_model.specs.Table.{File}
use Rattle.table_model.specs.Room.{data_pages}
use Rattle.trim_laws.specs.Steps.{IsTrimHead}
use Rattle.trim_laws.proofs.Pages.{flags_trimmed}
use Rattle.page_renew.proofs.Trimmed.{flags_alone, span_zero, copied_size, copied_trims}
use Rattle.block_gc.proofs.NamesTrimmed.{names_trimmed}
use Rattle.flash_view.specs.declared.kinds.Kind.TheVariants.{Index}
use Rattle.flash_view.specs.Steps.{Finishes}
use Rattle.image_model.specs.declared.damage.Damage.{Damage}
use Rattle.image_model.specs.Within.{sizes, page_length, page_number}
use Rattle.image_model.specs.Headers.{obj_id, span_of, names_index, size_of}
use Rattle.image_model.specs.Live.{Live, live_at, own}
use Rattle.image_model.specs.Places.{block_of, IsImage}
use Rattle.image_model.specs.Files.{is_index, index_page, further, entry_number, data_of, data_page, span_bytes, index_span, slot_at}
use Rattle.image_model.specs.Tables.{has_of}
use Rattle.image_model.specs.Tidy.{serves}
use Rattle.image_model.specs.Kinds.{is_index_page}
use Rattle.image_model.specs.Sound.{Keeps}
use Rattle.image_laws.specs.SoundSteps.{IsOfKind}
use Rattle.image_laws.specs.LiveSteps.{PutLeaves, PutDone, KillLeaves}
use Rattle.image_laws.specs.Reindex.{Reindexes, slot_word, now_data}
use Rattle.image_laws.specs.Spares.{leftover}
use Rattle.image_laws.proofs.Frames.{live_parts}
use Rattle.image_laws.proofs.Judge.{found_from}
use Rattle.image_laws.proofs.Reindexed.{entry-slot}
use Rattle.image_laws.proofs.Sounding.{keeps-on}
use Rattle.image_laws.proofs.SpareKill.{tidy-has_magics}
use Rattle.image_laws.proofs.Tally.{served}
use Rattle.image_laws.proofs.TidySteps.{neat_of}
use Rattle.renew_laws.specs.Recopy.{RecopiesTo, Renamed}
use Rattle.renew_laws.specs.Replace.{ReplaceCut, Replaced}
use Rattle.renew_laws.proofs.RecopyCuts.{recopy-cuts, mine4, mine5}
use Rattle.renew_laws.proofs.RecopyLeaves.{recopy-spares}
use Rattle.renew_laws.proofs.ReindexSteps.{entry3_here}
use Rattle.renew_laws.specs.Tails.{FreesEntries}
use Rattle.renew_laws.proofs.TailSteps.{tail-copied}
use Rattle.room_laws.specs.Counts.{for_index}
use Rattle.room_laws.specs.Sorts.{sort_at, IsPlaceBy}
use Rattle.room_laws.specs.Tags.{SameTag}
use Rattle.room_laws.specs.Ways.{Move, AreApart, AreMoves, OnWay, IsBatch}
use Rattle.room_laws.specs.Recovery.{with_data}
use Rattle.room_laws.specs.Batching.{IsNamedThere}
use Rattle.room_laws.proofs.Batches.{IsOut, outs}
use Rattle.room_laws.proofs.BatchPuts.{carrying_places, renewing_leaves, renewed_is_batch, killed_is_batch}
use Rattle.room_laws.proofs.BatchMends.{batch_way_mends}
use Rattle.room_laws.proofs.OnTheWay.{all_at, all_from, all_nil, all_cons, in_head, in_tail, way_kill, done_leaves}
use Rattle.page_put.specs.Placing.{placed_page}
use Rattle.page_put.specs.LivePages.{finished_page}
use Rattle.page_renew.specs.Copies.{count_of}
use Rattle.page_renew.specs.Renewals.{CanReplace, replacing}
use Rattle.page_renew.proofs.SlotNames.{slots_rise}
use Rattle.page_renew.proofs.FreeEntries.{free_behind}
use Rattle.page_renew.proofs.Homes.{serves_data, own_of, of_kind, Home}
use Rattle.page_renew.proofs.IndexCopies.{placed_index}
use Rattle.page_renew.proofs.Renewed.{slot_same, renewed, now_same}
use Rattle.block_gc.specs.Turns.{TurnCut}
use Rattle.block_gc.specs.declared.batch.Batch.{Batch}
use Rattle.block_gc.specs.declared.batch.Run.{Run}
use Rattle.block_gc.specs.Batches.{Carried, IsRun, move_of, moves_of, are_from, are_to, IsCarried, Carries, AreNamed, IsNamedCopy, CanRenameTo, IsLeft, Drops, renaming_to, StaysIn}
use Rattle.block_gc.proofs.BatchCopies.{data_there, named_moves}
use Rattle.block_gc.proofs.BatchNames.{AreDistinct, IsThere, Leads, names_lead, names_each, names_left, names_size, names_head, names_behind, names_small, names_finished, to_one, from_one, from_there}
use Rattle.block_gc.proofs.BatchPlaces.{some_carried}
use Rattle.block_gc.proofs.Replacing.{keeps_same, counts_then, replaced_counts, home_of, flags_stay, not_put, still_live, replace_left, index_alone, set_twice, index_ready}

some_in : (o : Option (List ℕ)) (f : List ℕ → ℕ) (n : ℕ) → option_map f o ≡ Some n → (x : List ℕ) → o ≡ Some x → f x ≡ n
some_in o f n is x at = let e : Some (f x) ≡ Some n = rw at at is in same_Some (f x) n e

pub mapped : (xs : List Carried) (x : Carried) → Contains xs x → Contains (moves_of xs) (move_of x)
mapped xs x has = all_at (λ (y : Carried). Contains (moves_of xs) (move_of y)) xs x (go xs) has
  where
    go : (ys : List Carried) → All (λ (y : Carried). Contains (moves_of ys) (move_of y)) ys
    go [] = all_nil (λ (y : Carried). Contains (moves_of []) (move_of y))
    go (y ∷ ys) = all_cons (λ (z : Carried). Contains (moves_of (y ∷ ys)) (move_of z)) y ys (in_head (move_of y) (moves_of ys))
        (all_from (λ (z : Carried). Contains (moves_of (y ∷ ys)) (move_of z)) ys (λ z one. in_tail (move_of y) (move_of z) (moves_of ys) (all_at (λ (v : Carried). Contains (moves_of ys) (move_of v)) ys z (go ys) one)))

-- moves begin at different pages
distinct : (g : Geometry) (was : List ℕ) (cs : List Carried) → AreMoves g was (moves_of cs) → AreDistinct cs
unfolding AreMoves AreDistinct
distinct g was [] are = tt
distinct g was (c ∷ cs) are =
    (all_from (λ (d : Carried). c.from ≢ d.from) cs (λ d one. (all_at (AreApart (move_of c)) (moves_of cs) (move_of d) are.1 (mapped cs d one)).from), distinct g was cs are.2)

module _ (g : Geometry) (was image : List ℕ) (block most : ℕ) (batch : Batch) (page to : ℕ) (cs : List Carried) (can : CanRenameTo g was block most batch page to cs image) where
  abbrev c : Carries g was block most batch cs image
  c = can.all.so_far

  abbrev id : ℕ
  id = batch.id

  abbrev w : ℕ
  w = batch.index

  abbrev pages0 : Live
  pages0 = own (live_at g was) id

  abbrev pages4 : Live
  pages4 = own (live_at g image) id

  abbrev head : List ℕ
  head = c.beside.head

  abbrev h : ℕ
  h = c.beside.h

  abbrev f0 : File
  f0 = c.beside.f

  is4 : IsImage g image
  is4 = c.carrying.way.image_is

  -- ---- the index page

  live_w : live_at g image w ≡ Some c.index.page
  live_w = c.beside.stays w c.index.page c.index.live

  pub index_live : is_index_page (live_at g image w) ≡ true
  index_live = rw live_w c.index.kind

  -- ---- the pages that were carried

  there_of : (x : Carried) → IsCarried g was image batch x → IsThere g pages4 head batch.span x
  unfolding data_page
  there_of x carried =
      let of = carried.of in
      let mine : pages0 x.from ≡ Some of.page = subst (λ (n : ℕ). own (live_at g was) n x.from ≡ Some of.page) of.id (own_of (live_at g was) x.from of.page of.live) in
      let mine4 : pages4 x.from ≡ Some of.page = subst (λ (n : ℕ). own (live_at g image) n x.from ≡ Some of.page) of.id (own_of (live_at g image) x.from of.page (c.beside.stays x.from of.page of.live)) in
      let served0 = serves_data g pages0 head of.page x.from mine of.kind (served g was c.is (neat_of c.can.tidy) id h head c.beside.was_at c.beside.was_header x.from of.page mine) in
      let entry0 : entry_number g pages0 head x.span ≡ Some x.from = subst (λ (n : ℕ). entry_number g pages0 head n ≡ Some x.from) of.is_span served0.1 in
      let entry4 : entry_number g pages4 head x.span ≡ Some x.from = c.beside.entry x.span ∙ entry0 in
      let copy_id : obj_id carried.copy % 0x8000 ≡ id = ap (λ (n : ℕ). n % 0x8000) carried.copied.id ∙ of.id in
      let copy4 : pages4 x.to ≡ Some carried.copy = subst (λ (n : ℕ). own (live_at g image) n x.to ≡ Some carried.copy) copy_id (own_of (live_at g image) x.to carried.copy carried.there) in
      record {
        old = of.page;
        copy = carried.copy;
        low = let less = served0.0 in let span = of.is_span in omega (arith, less, span);
        at = of.at;
        entry = entry4;
        data_is = rw entry4 (rw mine4 (data_there of.page x.span of.kind of.is_span));
        copy_is = rw copy4 (data_there carried.copy x.span carried.copied.data_kind (carried.copied.span ∙ of.is_span));
        body = carried.copied.body;
      }

  module _ (work : List ℕ) (copy : IsNamedCopy g image w cs work) (range : (1 ≤ batch.id) × (batch.id ≤ 0x7FFE)) where
    abbrev tag : Tag
    tag = record { id = batch.id; span = batch.span }

    abbrev old : List ℕ
    old = copy.built.old

    abbrev plain : List ℕ
    plain = set (take g.page copy.plain) 4 0xF8

    abbrev new : List ℕ
    new = finished_page g Index tag work

    old_is : c.index.page ≡ old
    old_is = same_Some c.index.page old (sym live_w ∙ copy.built.live)

    index : names_index old ≡ true
    index = ap names_index (sym old_is) ∙ c.index.kind

    at_span : batch.span ≡ span_of old
    at_span = sym c.index.span ∙ ap span_of old_is

    of_id : obj_id old % 0x8000 ≡ id
    of_id = ap (λ (l : List ℕ). obj_id l % 0x8000) (sym old_is) ∙ c.index.id

    w4 : pages4 w ≡ Some old
    w4 = subst (λ (n : ℕ). own (live_at g image) n w ≡ Some old) of_id (own_of (live_at g image) w old copy.built.live)

    first4 : index_page g pages4 (span_of old) ≡ Some w
    first4 = c.beside.index (span_of old) ∙ ap (index_page g pages0) (sym at_span) ∙ c.index.first

    home0 : Home g was id
    home0 = subst (λ (n : ℕ). Home g was n) c.index.id (home_of g was c.is (neat_of c.can.tidy) w c.index.page c.index.live)

    alone4 : (r : ℕ) → is_index (pages4 r) (span_of old) ≡ true → r ≡ w
    alone4 r passes = index_alone g was c.is (neat_of c.can.tidy) id home0 (span_of old) w (ap (index_page g pages0) (sym at_span) ∙ c.index.first) r (c.beside.alone r (span_of old) passes)

    count : count_of g image (obj_id old % 0x8000) ≡ data_pages g (size_of head)
    unfolding count_of
    count = rw of_id (rw c.beside.at (rw c.beside.header refl))

    -- ---- the renewed page

    big : 128 ≤ g.page
    big = (sizes g).page

    old_len : length old ≡ g.page
    old_len = let v = live_parts g image w old copy.built.live in ap length (sym v.bytes) ∙ page_length g image w is4 v.entry_page

    plain_len : length (take g.page copy.plain) ≡ g.page
    plain_len = copy.built.copied.size ∙ old_len

    page_len : length (take g.page work) ≡ g.page
    page_len = names_size g (take g.page copy.plain) cs (take g.page work) copy.named ∙ plain_len

    small : (k : ℕ) → k < g.page → slice_index (take g.page work) k < 256
    small k below = names_small g (take g.page copy.plain) cs (take g.page work) copy.named k (rw (get_or-take g.page copy.plain k 0 below) (copy.built.small k below))

    placed_is : placed_page g Index tag work ≡ set (take g.page work) 4 0xFA
    placed_is =
        placed_index g.page tag work (take g.page work) old big page_len refl index (sym of_id) at_span
        (λ k below. names_head g (take g.page copy.plain) cs (take g.page work) copy.named k (omega arith) ∙ copy.built.copied.head k (omega arith))
        (λ k below. let size = big in rw (← get_or-take g.page work k 0 (omega (arith, size, below))) (small k (omega (arith, size, below))))

    sets : new ≡ set (take g.page work) 4 0xF8
    sets = ap (λ (l : List ℕ). set l 4 0xF8) placed_is ∙ set_twice (take g.page work) 4 0xFA 0xF8

    named : AreNamed g plain cs new
    named = subst (λ (l : List ℕ). AreNamed g plain cs l) (sym sets) (names_finished g (take g.page copy.plain) cs (take g.page work) (let size = big in let l = plain_len in omega (arith, size, l)) copy.named)

    there : All (λ (x : Carried). IsThere g pages4 head (span_of old) x) cs
    there = all_from (λ (x : Carried). IsThere g pages4 head (span_of old) x) cs (λ x one.
        subst (λ (n : ℕ). IsThere g pages4 head n x) at_span (there_of x (all_at (IsCarried g was image batch) cs x c.pages one)))

    plain_leads : (head0 : List ℕ) × Reindexes g pages4 id w h old plain head head0 f0 f0
    plain_leads = renewed g old (take g.page copy.plain) plain (count_of g image (obj_id old % 0x8000)) copy.built.copied refl old_len pages4 id w h head f0 w4 first4 alone4 index of_id c.beside.at c.beside.header c.beside.file count

    plain_spans : (t : ℕ) → t < data_pages g (size_of head) → slice_range (unwrap_or (now_data g pages4 head plain t) []) 5 g.page ≡ span_bytes g pages4 head t
    plain_spans t below = ap (λ (x : Option (List ℕ)). slice_range (unwrap_or x []) 5 g.page)
        (now_same g old (take g.page copy.plain) plain (count_of g image (obj_id old % 0x8000)) copy.built.copied refl old_len pages4 id w h head f0 w4 first4 alone4 index of_id c.beside.at c.beside.header c.beside.file count t below)

    leads : Leads g pages4 id w h old plain head plain_leads.0 f0 plain_leads.1 plain_spans new
    leads = names_lead g pages4 id w h old plain head plain_leads.0 f0 plain_leads.1 plain_spans cs new named there

    each : All (λ (x : Carried). slot_word g new x.span ≡ x.to) cs
    each = names_each g pages4 id w h old plain head plain_leads.0 f0 plain_leads.1 plain_spans cs new named there (distinct g was cs c.carrying.are)

    new_kind : IsOfKind g (live_at g image) to new
    new_kind = of_kind g image to new can.kind leads.reindexes.new_index

    start : RecopiesTo g image to w id h old new head leads.head' f0 f0
    start = record { undamaged = c.tidy.undamaged; inside = can.free.entry_page; kind = new_kind; pages = leads.reindexes }

    has4 : has_of g (live_at g image) id ≡ Some (h, Ok f0)
    unfolding has_of
    has4 = found_from g pages4 id h head c.beside.at c.beside.header ∙ ap (λ (r : Result File Damage). Some (h, r)) c.beside.file

    keeps_by : (d : List ℕ) → ReplaceCut g to w new image d → Keeps g was d
    keeps_by d cut =
        let law = recopy-cuts g image d to w id h old new head leads.head' f0 f0 start (tidy-has_magics g image (λ (r : ℕ). are_to cs r) c.tidy) cut in
        keeps-on g was image d c.keeps (keeps_same g image d id h f0 c.tidy.undamaged has4 law.0)

    -- ---- on the way

    abbrev ix : Move
    ix = record { from = w; to = to }

    abbrev moves : List Move
    moves = moves_of cs

    same_tag : SameTag c.index.page new
    same_tag = record {
      kind = leads.reindexes.new_index ∙ sym c.index.kind;
      id = leads.reindexes.new_of ∙ sym c.index.id;
      span = leads.reindexes.new_span ∙ ap span_of (sym old_is);
    }

    named_there : All (IsNamedThere g was new) moves
    named_there = All-map (IsNamedThere g was new) move_of cs (all_from (λ (x : Carried). IsNamedThere g was new (move_of x)) cs (λ x one p live.
        let of = (all_at (IsCarried g was image batch) cs x c.pages one).of in
        let same : p ≡ of.page = same_Some p of.page (sym live ∙ of.live) in
        ap (slot_word g new) (ap span_of same ∙ of.is_span) ∙ all_at (λ (y : Carried). slot_word g new y.span ≡ y.to) cs x each one))

    place : IsPlaceBy g (with_data moves (sort_at g was)) block for_index to
    place = carrying_places g was was image block moves for_index to c.low c.carrying can.place

    some : 0 < length moves
    some = let one = some_carried cs page can.all.begun in let l = length-map cs move_of in omega (arith, one, l)

    few : length moves ≤ most
    few = let n = c.few in let l = length-map cs move_of in omega (arith, n, l)

    -- the index page lies in another block, since the block has a data page
    out : block_of g w ≢ block
    out e =
        let x = from_one cs page can.all.begun in
        let carried = all_at (IsCarried g was image batch) cs x.0 c.pages x.1 in
        let of = carried.of in
        let o = all_at (λ (m : Move). IsOut g block (sort_at g was) m) moves (move_of x.0) (outs g block (sort_at g was) moves c.carrying.ways) (mapped cs x.0 x.1) in
        let bad : true ≡ false = sym c.index.kind ∙ c.can.tidy.unmixed w x.0.from c.index.page of.page c.index.live of.live (e ∙ sym o.from) ∙ of.kind in
        absurd (cc)

    -- the image is one on the way of the batch
    pub record OnBatch (d : List ℕ) : Type 0 where
      pub are : AreMoves g was (ix ∷ moves)
      pub way : OnWay g (ix ∷ moves) was d
      pub batch_is : IsBatch g was d ix moves

    put_way : (d : List ℕ) → PutLeaves g to new image d → OnBatch d
    put_way d put =
        let x = renewing_leaves g was was image d block moves ix c.index.page new c.low c.carrying c.index.live c.index.kind can.place same_tag put in
        record {
          are = x.0;
          way = x.1;
          batch_is = renewed_is_batch g was was image d block moves ix c.index.page new c.low c.carrying c.index.live c.index.kind can.place put (named_moves g was image batch c.index cs c.pages) named_there;
        }

    kill_way : (b d : List ℕ) → OnBatch b → KillLeaves g w b d → OnBatch d
    kill_way b d on kill = record { are = on.are; way = way_kill g (ix ∷ moves) was b d w c.index.page on.way kill c.index.live; batch_is = killed_is_batch g was b d moves ix w on.batch_is kill }

    way_by : (d : List ℕ) → ReplaceCut g to w new image d → OnBatch d
    way_by d cut = ⊎_elim (λ (put : PutLeaves g to new image d). put_way d put)
        (λ (x : (b : List ℕ) × PutDone g to new image b × KillLeaves g w b d). kill_way x.0 d (put_way x.0 ((done_leaves g image x.0 to new).0 x.1)) x.2) cut

    cut_by : (d : List ℕ) → ReplaceCut g to w new image d → TurnCut g block most was d
    cut_by d cut =
        let on = way_by d cut in
        let keeps = keeps_by d cut in
        record {
          keeps = keeps;
          mends = λ first may most_is between.
              batch_way_mends g first was d block ix moves may between c.carrying.ways some (omega (arith, few, most_is)) out place on.batch_is (record { moves_are = on.are; way = on.way; table = keeps.table });
        }

    -- the entries behind the last one are free
    next : FreesEntries g old new head
    next t k high past at low below =
        names_behind g plain cs new named k (all_from (λ (x : Carried). slot_at g x.span + 2 ≤ k) cs (λ x one.
        let y = all_at (λ (z : Carried). IsThere g pages4 head (span_of old) z) cs x there one in
        let under = y.low in
        let near : further g t ≡ span_of old = rw (le-ltb t (head_slots g) high) at at in
        let same = y.at in
        ⊎_elim
        (λ (close : x.span < head_slots g). let zero : index_span g x.span ≡ 0 = rw (lt-ltb x.span (head_slots g) close) refl in absurd (omega (arith, zero, same, near)))
        (λ (far : head_slots g ≤ x.span).
        let spans : further g x.span ≡ further g t = (rw (le-ltb x.span (head_slots g) far) at same) ∙ sym near in
        let step = slots_rise g x.span t far (omega (arith, under, past)) spans in
        omega (arith, step, low, under, past))
        (cases_lt x.span (head_slots g))))
        ∙ free_behind g old (take g.page copy.plain) plain (count_of g image (obj_id old % 0x8000)) copy.built.copied refl t k high (omega (arith, past, count)) at low below

    -- ---- then the old pages are spare

    names_copies : Renamed g pages4 head old new (λ r. are_to cs r) (λ r. are_from cs r)
    names_copies = record {
      named = λ r e.
          let x = to_one cs r e in
          let t = all_at (λ (y : Carried). IsThere g pages4 head (span_of old) y) cs x.0 there x.1 in
          (x.0.span, t.low, t.at, all_at (λ (y : Carried). slot_word g new y.span ≡ y.to) cs x.0 each x.1 ∙ sym x.2, ap (λ (k : ℕ). is_some (data_of (pages4 k) x.0.span)) x.2 ∙ ap is_some t.copy_is);
      left = λ t below at. ⊎_elim
          (λ (same : slot_word g new t ≡ slot_word g plain t).
          inl (same ∙ slot_same g old (take g.page copy.plain) plain (count_of g image (obj_id old % 0x8000)) copy.built.copied refl old_len t (omega (arith, below, count)) at))
          (λ (one : (x : Carried) × Contains cs x × (x.span ≡ t)).
          let y = all_at (λ (z : Carried). IsThere g pages4 head (span_of old) z) cs one.0 there one.1 in
          let slot = entry-slot g pages4 h head one.0.span c.beside.at c.beside.header in
          let found : option_and_then pages4 (index_page g pages4 (index_span g one.0.span)) ≡ Some old = rw y.at (rw first4 w4) in
          let word : slot_word g old one.0.span ≡ one.0.from = some_in _ (λ (l : List ℕ). slot_word g l one.0.span) one.0.from (sym slot ∙ y.entry) old found in
          inr (ap (are_from cs) (ap (slot_word g old) (sym one.2) ∙ word) ∙ from_there cs one.0 one.1))
          (names_left g pages4 id w h old plain head plain_leads.0 f0 plain_leads.1 plain_spans cs new named there t at);
    }

    module _ (b6 : List ℕ) (all : Replaced g to w new image b6) where
      abbrev pages6 : Live
      pages6 = own (live_at g b6) id

      abbrev spares : ℕ → Bool
      spares r = are_from cs r && leftover g pages6 leads.head' r

      left_of : (x : Carried) → Contains cs x → IsLeft g was b6 spares x
      unfolding leftover
      left_of x one =
          let carried = all_at (IsCarried g was image batch) cs x c.pages one in
          let of = carried.of in
          let t = all_at (λ (y : Carried). IsThere g pages4 head (span_of old) y) cs x there one in
          let live4 = c.beside.stays x.from of.page of.live in
          let live5 = still_live g image all.middle to x.from new of.page all.put live4 in
          let not_w : x.from ≢ w = λ e.
          (let same : of.page ≡ c.index.page = same_Some of.page c.index.page (sym of.live ∙ ap (live_at g was) e ∙ c.index.live) in
          let bad : false ≡ true = sym of.kind ∙ ap names_index same ∙ c.index.kind in absurd (cc)) in
          let live6 : live_at g b6 x.from ≡ Some of.page = all.kill.loses.others x.from not_w ∙ live5 in
          let mine6 : pages6 x.from ≡ Some of.page = subst (λ (n : ℕ). own (live_at g b6) n x.from ≡ Some of.page) of.id (own_of (live_at g b6) x.from of.page live6) in
          let not_to : x.from ≢ x.to = λ e.
          (let o = all_at (λ (m : Move). IsOut g block (sort_at g was) m) moves (move_of x) (outs g block (sort_at g was) moves c.carrying.ways) (mapped cs x one) in
          o.apart (ap (λ (p : ℕ). block_of g p) (sym e) ∙ o.from)) in
          let unserved : serves g pages6 leads.head' x.from ≡ false =
          ⊎_elim
          (λ (yes : serves g pages6 leads.head' x.from ≡ true).
          let y = serves_data g pages6 leads.head' of.page x.from mine6 of.kind yes in
          let gains4 = mine4 g image to w id h old new head leads.head' f0 f0 start all.middle all.put.gains in
          let loses6 = mine5 g image to w id h old new head leads.head' f0 f0 start all.middle all.put.gains b6 all.kill.loses in
          let now : entry_number g pages6 leads.head' x.span ≡ Some (slot_word g new x.span) =
          entry3_here g pages4 (own (live_at g all.middle) id) pages6 id w to h old new head leads.head' f0 f0 leads.reindexes (page_number g to can.free.entry_page) gains4 loses6 x.span t.at in
          let entry : entry_number g pages6 leads.head' x.span ≡ Some x.from = subst (λ (n : ℕ). entry_number g pages6 leads.head' n ≡ Some x.from) of.is_span y.1 in
          absurd (not_to (same_Some x.from x.to (sym entry ∙ now ∙ ap (λ (n : ℕ). Some n) (all_at (λ (z : Carried). slot_word g new z.span ≡ z.to) cs x each one)))))
          (λ (none : serves g pages6 leads.head' x.from ≡ false). none)
          (cases_Bool (serves g pages6 leads.head' x.from)) in
          record {
            old = of.page;
            was_live = of.live;
            kind = of.kind;
            live = live6;
            idle = rw (from_there cs x one) (rw mine6 (rw unserved refl));
            flags = flags_stay g all.middle b6 w x.from of.page all.kill.agree live5 not_w
                (flags_stay g image all.middle to x.from of.page all.put.agree live4 (not_put g image all.middle to x.from new of.page all.put live4) carried.flags);
          }

      -- the index page and its place lie outside the block
      stays_in : StaysIn g block image b6
      stays_in r here = all.kill.loses.others r (λ e. out (ap (λ (k : ℕ). block_of g k) (sym e) ∙ here)) ∙ all.put.gains.others r (λ e. place.apart (ap (λ (k : ℕ). block_of g k) (sym e) ∙ here))

      renamed_done : Drops g was block most page cs b6
      renamed_done =
          let cut = replace_left all in
          let on = way_by b6 cut in
          record {
            is = c.is;
            can = c.can;
            low = c.low;
            moves = moves;
            index = ix;
            ways = c.carrying.ways;
            some = some;
            few = few;
            out = out;
            place = place;
            are = on.are;
            way = on.way;
            batch = on.batch_is;
            keeps = keeps_by b6 cut;
            index_gone = all.kill.loses.after;
            spare = spares;
            idles = (recopy-spares g image b6 to w id h old new head leads.head' f0 f0 (λ (r : ℕ). are_to cs r) (λ (r : ℕ). are_from cs r) start all c.tidy names_copies).0;
            only = λ r e. (and_parts (are_from cs r) (leftover g pages6 leads.head' r) e).0;
            each = all_from (IsLeft g was b6 spares) cs left_of;
            apart = c.carrying.are;
            gone = inl can.all.begun;
            tails = λ j ready. tail-copied g image b6 to w id h old new head leads.head' f0 f0 start all leads.spans next j (c.tails j ready);
            counts = counts_then g was image b6 c.counts (replaced_counts all);
          }

    -- the renewed page names no page behind the last one of the file
    renamed_trim : IsTrimHead g new
    renamed_trim header =
        let zero : span_of old ≡ 0 = sym leads.reindexes.new_span ∙ span_zero new header in
        let place : w ≡ h = same_Some w h (sym first4 ∙ ap (index_page g pages4) zero ∙ c.beside.at) in
        let same : old ≡ head = same_Some old head (sym w4 ∙ ap pages4 place ∙ c.beside.header) in
        let y : List ℕ = take g.page copy.plain in
        let of_head : span_of old ≡ 0 → count_of g image (obj_id old % 0x8000) ≡ data_pages g (size_of old) = λ none. count ∙ ap (λ (l : List ℕ). data_pages g (size_of l)) (sym same) in
        let size : size_of y ≡ size_of head = copied_size g old y (count_of g image (obj_id old % 0x8000)) copy.built.copied of_head zero ∙ ap size_of same in
        flags_trimmed g (take g.page work) new (flags_alone (take g.page work) new sets)
        (names_trimmed g (span_of old) zero y cs (take g.page work) copy.named
        (all_from (λ (x : Carried). (x.span < data_pages g (size_of y)) × (index_span g x.span ≡ span_of old)) cs (λ x one.
        let t = all_at (λ (x : Carried). IsThere g pages4 head (span_of old) x) cs x there one in
        let fewer : data_pages g (size_of y) ≡ data_pages g (size_of head) = ap (λ (n : ℕ). data_pages g n) size in
        let low = t.low in
        (omega (arith, fewer, low), t.at)))
        (copied_trims g old y (count_of g image (obj_id old % 0x8000)) copy.built.copied of_head zero)).0

    rename_starts : CanReplace g image to w tag work
    rename_starts = record {
      put = record { free = can.free; ready = index_ready g tag work (take g.page work) placed_is page_len small range; trim = renamed_trim };
      kill = record { live = ap is_some copy.built.live; byte = copy.built.flags };
    }

module _ (g : Geometry) (was image : List ℕ) (block most : ℕ) (batch : Batch) (first to : ℕ) (run : Run) (work : List ℕ) (range : (1 ≤ batch.id) × (batch.id ≤ 0x7FFE))
    (copy : (cs : List Carried) → CanRenameTo g was block most batch first to cs image → IsRun g was block batch first run cs → IsNamedCopy g image batch.index cs work)
    (need : (cs : List Carried) × CanRenameTo g was block most batch first to cs image × IsRun g was block batch first run cs) where
  pub rename_puts : Finishes g image image (replacing to batch.index (record { id = batch.id; span = batch.span }) work) (renaming_to was block most batch first to run)
  rename_puts = record {
    needs = rename_starts g was image block most batch first to need.0 need.1 work (copy need.0 need.1 need.2) range;
    cut = λ d cut. cut_by g was image block most batch first to need.0 need.1 work (copy need.0 need.1 need.2) range d cut;
    done = λ d ok done. λ cs can is_run. (
      renamed_done g was image block most batch first to cs can work (copy cs can is_run) range d done,
      stays_in g was image block most batch first to cs can work (copy cs can is_run) range d done,
    );
  }
