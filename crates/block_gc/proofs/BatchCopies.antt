-- The copy of a data page of a batch is put.
use Rattle.std.proofs.Common.{◌≡◌, ◌≢◌, ℕ, zero, suc, ◌+◌, ◌-◌, ◌*◌, ◌/◌, ◌%◌, ◌<◌, ◌≤◌, List, ◌∷◌, length, take, drop, get_or, slice_index, slice_range, Bool, true, false, Option, Some, ap, refl, sym, ◌∙◌, arith, ⊎_elim, subst, length-drop}
use Rattle.std.specs.Prelude.{All, not, nat_lt}
use Rattle.std.proofs.lemmas.Bool.{cases_eq, eq-eqb}
use Rattle.std.proofs.lemmas.List.{drop-take, get_or-take, get_or-drop, length-map}
use Rattle.std.proofs.lemmas.List.Elements.{All-map}
use Rattle.geometry.specs.declared.geometry.Geometry.{Geometry}
use Rattle.table_model.specs.declared.error.Tag.{Tag}
use Rattle.trim_laws.proofs.Pages.{data_trims}
use Rattle.flash_view.specs.declared.kinds.Kind.TheVariants.{Data}
use Rattle.flash_view.specs.Steps.{Finishes}
use Rattle.image_model.specs.Within.{sizes, page_length, entry_of_block}
use Rattle.geometry.specs.Numbers.{per_block, lookups, entries}
use Rattle.image_model.specs.Headers.{obj_id, span_of, names_index}
use Rattle.image_model.specs.Live.{live_at, own}
use Rattle.image_model.specs.Places.{block_of, IsImage}
use Rattle.image_model.specs.Files.{is_index, index_page, data_of, index_span}
use Rattle.image_model.specs.Kinds.{is_index_page, is_data_page, is_index_block}
use Rattle.image_model.specs.Sound.{Keeps}
use Rattle.image_laws.specs.Changes.{Gains}
use Rattle.image_laws.specs.Put.{IsReadyPage}
use Rattle.image_laws.specs.SoundSteps.{IsOfKind}
use Rattle.image_laws.proofs.Records.{list_any-at}
use Rattle.image_laws.specs.LiveSteps.{PutLeaves, PutDone}
use Rattle.image_laws.proofs.Frames.{live_parts}
use Rattle.image_laws.proofs.Sounding.{keeps-on}
use Rattle.image_laws.proofs.SpareKill.{tidy-has_magics}
use Rattle.renew_laws.specs.Recopy.{PutsDataTo}
use Rattle.renew_laws.proofs.Beside.{put_data-cuts, put_data-done, beside-index, beside-entry, beside-header, beside-judged}
use Rattle.renew_laws.proofs.PutBeside.{gains_own}
use Rattle.renew_laws.proofs.TailSteps.{tail-beside}
use Rattle.room_laws.specs.Tags.{SameTag}
use Rattle.room_laws.specs.Ways.{Move, IsNamedBy}
use Rattle.room_laws.specs.Batching.{IsNextOut, CarryingLeaves}
use Rattle.room_laws.proofs.BatchPuts.{carrying_puts, carrying_is_cut}
use Rattle.room_laws.proofs.BatchMends.{pages_way_mend}
use Rattle.room_laws.proofs.OnTheWay.{all_cons, all_from, all_at}
use Rattle.page_put.specs.Placing.{placed_page}
use Rattle.page_put.specs.LivePages.{finished_page, IsPuttable, putting}
use Rattle.page_put.proofs.Putting.{ready}
use Rattle.page_renew.specs.Built.{IsLoaded}
use Rattle.block_gc.specs.Turns.{TurnCut}
use Rattle.block_gc.specs.declared.batch.Batch.{Batch}
use Rattle.block_gc.specs.Batches.{Carried}
use Rattle.block_gc.specs.Batches.{move_of, moves_of, are_to, IsIndexOf, IsOfBatch, IsCarried, StandsBeside, Carries, CanCarryTo, carrying_to}
use Rattle.block_gc.proofs.Replacing.{counts_then, flags_stay, not_put, still_live}

-- ---- data pages

pub some_data : (o : Option (List ℕ)) (x : List ℕ) → o ≡ Some x → is_data_page o ≡ true → names_index x ≡ false
some_data o x is page = go (names_index x) (rw is at page)
  where
    go : (b : Bool) → not b ≡ true → b ≡ false
    go true e = absurd (cc)
    go false e = refl

pub data_there : (page : List ℕ) (t : ℕ) → names_index page ≡ false → span_of page ≡ t → data_of (Some page) t ≡ Some page
data_there page t kind at = rw (kind, eq-eqb (span_of page) t at) refl

-- the live pages of a block without index pages are data pages
pub data_kind_there : (g : Geometry) (image : List ℕ) (p : ℕ) (page : List ℕ) → is_index_block g image (block_of g p) ≡ false → names_index page ≡ false → IsOfKind g (live_at g image) p page
unfolding is_index_block
data_kind_there g image p page none kind = record {
  same = λ q x is at.
      let w = entry_of_block g q (live_parts g image q x is).entry_page in
      let low : block_of g p * per_block g + lookups g ≤ q = rw at at w.0 in
      let high : q < block_of g p * per_block g + lookups g + entries g = rw at at w.1 in
      let no : is_index_page (live_at g image q) ≡ false = list_any-at (λ (r : ℕ). is_index_page (live_at g image r)) _ _ none q low high in
      let names : names_index x ≡ false = rw is at no in
      names ∙ sym kind;
}

-- a page of five bytes and a rest holds bytes
pub bytes_by : (a b c d e : ℕ) (rest : List ℕ) → a < 256 → b < 256 → c < 256 → d < 256 → e < 256 → (i n : ℕ) → ((k : ℕ) → k + 5 < n → get_or rest k 0 < 256) → i < n → get_or (a ∷ b ∷ c ∷ d ∷ e ∷ rest) i 0 < 256
bytes_by a b c d e rest one two three four five zero n small within = one
bytes_by a b c d e rest one two three four five (suc zero) n small within = two
bytes_by a b c d e rest one two three four five (suc (suc zero)) n small within = three
bytes_by a b c d e rest one two three four five (suc (suc (suc zero))) n small within = four
bytes_by a b c d e rest one two three four five (suc (suc (suc (suc zero)))) n small within = five
bytes_by a b c d e rest one two three four five (suc (suc (suc (suc (suc i))))) n small within = small i (omega arith)

-- ---- pages that were carried

-- the index page of the batch names each of them
pub named_move : (g : Geometry) (was : List ℕ) (batch : Batch) (index : IsIndexOf g was batch) (m : Move) (span : ℕ) → IsOfBatch g was batch m.from span → IsNamedBy g was index.page m
named_move g was batch index m span of = record {
  page = of.page;
  live = of.live;
  kind = of.kind;
  id = index.id ∙ sym of.id;
  span = index.span ∙ sym of.at ∙ ap (index_span g) (sym of.is_span);
}

pub named_moves : (g : Geometry) (was image : List ℕ) (batch : Batch) (index : IsIndexOf g was batch) (cs : List Carried) → All (IsCarried g was image batch) cs → All (IsNamedBy g was index.page) (moves_of cs)
named_moves g was image batch index cs pages =
    All-map (IsNamedBy g was index.page) move_of cs (all_from (λ (c : Carried). IsNamedBy g was index.page (move_of c)) cs
    (λ c one. named_move g was batch index (move_of c) c.span (all_at (IsCarried g was image batch) cs c pages one).of))

-- they stay so where another page is put
pub carried_stays : (g : Geometry) (was image next : List ℕ) (batch : Batch) (to : ℕ) (page : List ℕ) → PutDone g to page image next → ((r : ℕ) (x : List ℕ) → live_at g was r ≡ Some x → live_at g image r ≡ Some x) →
    (cs : List Carried) → All (IsCarried g was image batch) cs → All (IsCarried g was next batch) cs
carried_stays g was image next batch to page put stays cs pages = all_from (IsCarried g was next batch) cs (λ c one.
    let w = all_at (IsCarried g was image batch) cs c pages one in
    let here = stays c.from w.of.page w.of.live in
    record {
      of = w.of;
      copy = w.copy;
      copied = w.copied;
      there = still_live g image next to c.to page w.copy put w.there;
      flags = flags_stay g image next to c.from w.of.page put.agree here (not_put g image next to c.from page w.of.page put here) w.flags;
    })

-- ---- what a cut leaves while the batch's index page isn't put

pub carrying_cut : (g : Geometry) (was cut : List ℕ) (block most : ℕ) (batch : Batch) (index : IsIndexOf g was batch) (moves : List Move) → CarryingLeaves g block was moves cut → Keeps g was cut →
    All (IsNamedBy g was index.page) moves → length moves ≤ most → TurnCut g block most was cut
carrying_cut g was cut block most batch index moves leaves keeps named few = record {
  keeps = keeps;
  mends = λ first may most_is between.
      pages_way_mend g first was cut block batch.index index.page moves may between leaves.ways (omega (arith, few, most_is)) index.live index.kind named
      (record { moves_are = leaves.are; way = leaves.way; table = keeps.table });
}

-- ---- the pages beside

module _ (g : Geometry) (was image next : List ℕ) (id to : ℕ) (copy : List ℕ) (beside : StandsBeside g was image id) (put : PutDone g to copy image next) (kind : names_index copy ≡ false) (of : obj_id copy % 0x8000 ≡ id) where
  gains : Gains to copy (own (live_at g image) id) (own (live_at g next) id)
  gains = gains_own to id copy (live_at g image) (live_at g next) of put.gains

  index_same : (k : ℕ) → index_page g (own (live_at g next) id) k ≡ index_page g (own (live_at g image) id) k
  index_same = beside-index g to beside.h id copy beside.head beside.f (own (live_at g image) id) (own (live_at g next) id) gains kind beside.at beside.header beside.file

  pub beside_put : StandsBeside g was next id
  beside_put = record {
    h = beside.h;
    head = beside.head;
    f = beside.f;
    was_at = beside.was_at;
    was_header = beside.was_header;
    at = index_same 0 ∙ beside.at;
    header = beside-header g to beside.h id copy beside.head beside.f (own (live_at g image) id) (own (live_at g next) id) gains kind beside.at beside.header beside.file;
    file = beside-judged g to beside.h id copy beside.head beside.f (own (live_at g image) id) (own (live_at g next) id) gains kind beside.at beside.header beside.file ∙ beside.file;
    index = λ k. index_same k ∙ beside.index k;
    entry = λ t. beside-entry g to beside.h id copy beside.head beside.f (own (live_at g image) id) (own (live_at g next) id) gains kind beside.at beside.header beside.file beside.head t ∙ beside.entry t;
    alone = λ r j passes. ⊎_elim
        (λ (here : r ≡ to). let no : is_index (own (live_at g next) id r) j ≡ false = rw here (rw gains.after (rw kind refl)) in let bad : true ≡ false = sym passes ∙ no in absurd (cc))
        (λ (there : r ≡ to → ⊥). beside.alone r j (ap (λ (x : Option (List ℕ)). is_index x j) (sym (gains.others r there)) ∙ passes))
        (cases_eq r to);
    stays = λ r x live. still_live g image next to r copy x put (beside.stays r x live);
  }

-- ---- the step

module _ (g : Geometry) (was image : List ℕ) (block most : ℕ) (batch : Batch) (cs : List Carried) (q to span : ℕ) (work : List ℕ) (can : CanCarryTo g was block most batch cs q to span image) (loaded : IsLoaded g image q work)
    (range : (1 ≤ batch.id) × (batch.id ≤ 0x7FFE)) where
  abbrev so_far : Carries g was block most batch cs image
  so_far = can.can.so_far

  abbrev of : IsOfBatch g was batch q span
  of = can.can.of

  abbrev old : List ℕ
  old = of.page

  abbrev tag : Tag
  tag = record { id = batch.id; span = span }

  abbrev new : List ℕ
  new = finished_page g Data tag work

  abbrev one : Carried
  one = record { from = q; to = to; span = span }

  is : IsImage g image
  is = so_far.carrying.way.image_is

  live : live_at g image q ≡ Some old
  live = so_far.beside.stays q old of.live

  same : take g.page work ≡ old
  same = loaded.same ∙ (live_parts g image q old live).bytes

  len : length old ≡ g.page
  len = let w = live_parts g image q old live in ap length (sym w.bytes) ∙ page_length g image q is w.entry_page

  small : (k : ℕ) → k < g.page → slice_index old k < 256
  small k below = rw (← same, get_or-take g.page work k 0 below) (loaded.small k below)

  rest : slice_range work 5 g.page ≡ drop 5 old
  rest = let big : 128 ≤ g.page = (sizes g).page in
      sym (drop-take 5 (g.page - 5) work) ∙ ap (λ (m : ℕ). drop 5 (take m work)) (omega arith) ∙ ap (drop 5) same

  abbrev header : List ℕ → List ℕ
  header l = batch.id % 256 ∷ batch.id / 256 ∷ span % 256 ∷ span / 256 ∷ 0xFE ∷ l

  page_is : placed_page g Data tag work ≡ header (drop 5 old)
  page_is = ap header rest

  low_id : obj_id old < 0x8000
  low_id = let no = of.kind in grind arith

  id_is : batch.id ≡ obj_id old
  id_is = let e = of.id in let low = low_id in omega (arith, e, low)

  words : (batch.id / 256 < 256) × (span / 256 < 256)
  words =
      let big : 128 ≤ g.page = (sizes g).page in
      let b2 = small 2 (omega arith) in
      let b3 = small 3 (omega arith) in
      let high = range.1 in
      let f = of.is_span in
      (omega (arith, high), omega arith)

  new_id : obj_id new ≡ obj_id old
  new_id = let e = id_is in let f : batch.id % 256 + 256 * (batch.id / 256) ≡ obj_id old = omega arith in f

  new_span : span_of new ≡ span_of old
  new_span = let e = of.is_span in let f : span % 256 + 256 * (span / 256) ≡ span_of old = omega arith in f

  new_kind : names_index new ≡ false
  new_kind = ap (λ (n : ℕ). not (nat_lt n 0x8000)) new_id ∙ of.kind

  copy_ready : IsReadyPage g (placed_page g Data tag work) 0xFC
  copy_ready =
      let big : 128 ≤ g.page = (sizes g).page in
      let w = words in
      let five : length (header (drop 5 old)) ≡ g.page = omega (arith, length-drop 5 old, len, big) in
      ready g Data tag work (ap length page_is ∙ five)
      (λ i within. subst (λ (l : List ℕ). slice_index l i < 256) (sym page_is)
      (bytes_by (batch.id % 256) (batch.id / 256) (span % 256) (span / 256) 0xFE (drop 5 old) (omega arith) w.0 (omega arith) w.1 (omega arith) i g.page
      (λ k below. rw (get_or-drop 5 old k 0) (small (5 + k) (omega arith))) within))
      range.0 range.1

  of_new : obj_id new % 0x8000 ≡ batch.id
  of_new = ap (λ (n : ℕ). n % 0x8000) new_id ∙ of.id

  start : PutsDataTo g image to batch.id so_far.beside.h new so_far.beside.head so_far.beside.f
  start = record {
    kind = data_kind_there g image to new can.kind new_kind;
    data_kind = new_kind;
    of = of_new;
    at = so_far.beside.at;
    header = so_far.beside.header;
    file = so_far.beside.file;
  }

  same_tag : SameTag old new
  same_tag = record { kind = new_kind ∙ sym of.kind; id = ap (λ (n : ℕ). n % 0x8000) new_id; span = new_span }

  next_out : IsNextOut g block was (moves_of cs) image (move_of one) new
  next_out = record {
    old = old;
    live = of.live;
    kind = of.kind;
    from = can.can.from;
    apart = All-map (λ (m : Move). q ≢ m.from) move_of cs can.can.apart;
    place = can.place;
    tag = same_tag;
  }

  keeps_by : {c : List ℕ} → Keeps g image c → Keeps g was c
  keeps_by {c} keeps = keeps-on g was image c so_far.keeps keeps

  named : All (IsNamedBy g was so_far.index.page) (move_of one ∷ moves_of cs)
  named = all_cons (IsNamedBy g was so_far.index.page) (move_of one) (moves_of cs) (named_move g was batch so_far.index (move_of one) span of) (named_moves g was image batch so_far.index cs so_far.pages)

  few : length (move_of one ∷ moves_of cs) ≤ most
  few = let room = can.can.room in let l = length-map cs move_of in omega (arith, room, l)

  copy_left : (c : List ℕ) → PutLeaves g to new image c → TurnCut g block most was c
  copy_left c put =
      carrying_cut g was c block most batch so_far.index (move_of one ∷ moves_of cs) (carrying_is_cut g was was image c block (moves_of cs) (move_of one) new so_far.low so_far.carrying next_out put)
      (keeps_by (put_data-cuts g image c to batch.id so_far.beside.h new so_far.beside.head so_far.beside.f start (tidy-has_magics g image (λ (r : ℕ). are_to cs r) so_far.tidy) put)) named few

  copy_done : (b : List ℕ) → PutDone g to new image b → Carries g was block most batch (one ∷ cs) b
  copy_done b put =
      let law = put_data-done g image b to batch.id so_far.beside.h new so_far.beside.head so_far.beside.f start put in
      record {
        is = so_far.is;
        can = so_far.can;
        low = so_far.low;
        index = so_far.index;
        carrying = carrying_puts g was was image b block (moves_of cs) (move_of one) new so_far.low so_far.carrying next_out put;
        tidy = law.1 (λ (r : ℕ). are_to cs r) so_far.tidy;
        keeps = keeps_by (law.0 (tidy-has_magics g image (λ (r : ℕ). are_to cs r) so_far.tidy));
        pages = all_cons (IsCarried g was b batch) one cs
            (record {
              of = of;
              copy = new;
              copied = record { data_kind = new_kind; id = new_id; span = new_span; body = ap (take (g.page - 5)) rest };
              there = put.gains.after;
              flags = flags_stay g image b to q old put.agree live (not_put g image b to q new old put live) loaded.flags;
            })
            (carried_stays g was image b batch to new put so_far.beside.stays cs so_far.pages);
        beside = beside_put g was image b batch.id to new so_far.beside put new_kind of_new;
        few = let room = can.can.room in omega (arith, room);
        tails = λ j ready. tail-beside g image b to batch.id so_far.beside.h new so_far.beside.head so_far.beside.f start put j (so_far.tails j ready);
        counts = counts_then g was image b so_far.counts put.agree.counts;
      }

  copy_starts : IsPuttable g image to Data tag work
  copy_starts = record { free = can.free; ready = copy_ready; trim = data_trims g new new_kind }

pub copy_puts : (g : Geometry) (was image : List ℕ) (block most : ℕ) (batch : Batch) (q to span : ℕ) (work : List ℕ) → (cs : List Carried) × CanCarryTo g was block most batch cs q to span image → IsLoaded g image q work →
    (1 ≤ batch.id) × (batch.id ≤ 0x7FFE) → Finishes g image image (putting to Data (record { id = batch.id; span = span }) work) (carrying_to was block most batch q to span)
copy_puts g was image block most batch q to span work need loaded range = record {
  needs = copy_starts g was image block most batch need.0 q to span work need.1 loaded range;
  cut = λ c put. copy_left g was image block most batch need.0 q to span work need.1 loaded range c put;
  done = λ c ok put. λ cs can. copy_done g was image block most batch cs q to span work can loaded range c put;
}
