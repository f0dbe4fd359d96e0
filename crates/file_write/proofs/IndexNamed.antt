-- The index page is renewed to name the copy of a data page.
use Rattle.std.proofs.Common.{◌≡◌, ◌≢◌, ℕ, ◌+◌, ◌-◌, ◌*◌, ◌/◌, ◌%◌, ◌<◌, ◌≤◌, List, length, take, set, slice_index, true, false, ◌==◌, Some, None, ap, refl, sym, ◌∙◌, arith, ⊎_elim, inl, inr, subst}
use Rattle.std.specs.Prelude.{is_some}
use Rattle.std.proofs.lemmas.Bool.{cases_eq, cases_lt, eqb-true, eq-eqb, ne_eqb}
use Rattle.std.proofs.lemmas.List.{set-set}
use Rattle.std.proofs.lemmas.Option.{none-some, same_Some}
use Rattle.geometry.specs.declared.geometry.Geometry.{Geometry}
use Rattle.geometry.specs.Numbers.{body, head_slots}
use Rattle.table_model.specs.declared.error.Tag.{Tag}
use Rattle.table_model.specs.Table.{File, put_file}
use Rattle.table_model.specs.Files.{written}
use Rattle.table_model.specs.Room.{data_pages}
use Rattle.trim_laws.proofs.Wears.{wear_then}
use Rattle.page_renew.proofs.Trimmed.{renamed_head}
use Rattle.flash_view.specs.declared.kinds.Kind.TheVariants.{Index}
use Rattle.flash_view.specs.Steps.{Finishes}
use Rattle.free_search.specs.Free.{IsFreeFor, FreePage}
use Rattle.free_search.specs.Had.{IsClear}
use Rattle.free_search.proofs.FoundPage.{free_of}
use Rattle.free_search.proofs.Had.{page_had}
use Rattle.image_model.specs.Within.{sizes, page_length}
use Rattle.image_model.specs.Headers.{obj_id, names_index, span_of, size_of}
use Rattle.image_model.specs.Live.{Live, live_at, own}
use Rattle.image_model.specs.Files.{index_page, further, data_page, index_span, slot_at}
use Rattle.image_model.specs.Kinds.{is_index_page}
use Rattle.image_model.specs.Sound.{HasMagics}
use Rattle.image_model.specs.Tables.{table_of}
use Rattle.image_laws.specs.Reindex.{now_data}
use Rattle.image_laws.proofs.Finish.{own-parts}
use Rattle.image_laws.proofs.Frames.{live_parts}
use Rattle.image_laws.proofs.Judge.{index_passes}
use Rattle.image_laws.proofs.Sounding.{sound-on}
use Rattle.image_laws.proofs.SpareKill.{tidy-has_magics}
use Rattle.renew_laws.specs.Recopy.{RecopiesTo}
use Rattle.renew_laws.specs.Relink.{Relinks, IsRelinked}
use Rattle.renew_laws.specs.Replace.{ReplaceCut, Replaced}
use Rattle.renew_laws.specs.Tails.{IsTailReady, FreesEntries}
use Rattle.renew_laws.proofs.PrimePlaces.{tail-together}
use Rattle.renew_laws.proofs.RecopyCuts.{recopy-cuts}
use Rattle.renew_laws.proofs.Relinking.{relink-recopies, relink-reads, relink-ends}
use Rattle.renew_laws.proofs.ReserveKept.{replace-reserve}
use Rattle.renew_laws.proofs.TailSteps.{tail-readied}
use Rattle.page_put.specs.Placing.{placed_page}
use Rattle.page_put.specs.LivePages.{finished_page}
use Rattle.page_renew.specs.Built.{IsRenamed}
use Rattle.page_renew.specs.Copies.{count_of}
use Rattle.page_renew.specs.PageSteps.{StepCut}
use Rattle.page_renew.specs.Renewals.{replacing}
use Rattle.page_renew.proofs.HeaderRenewed.{replace_wear}
use Rattle.page_renew.proofs.Homes.{index_some, of_kind}
use Rattle.page_renew.proofs.IndexCopies.{placed_index}
use Rattle.page_renew.proofs.SlotNames.{slot_behind}
use Rattle.file_write.specs.declared.relinking.Patch.{Patch}
use Rattle.file_write.specs.declared.relinking.Spot.{Spot}
use Rattle.file_write.specs.Relinkings.{patched_files, EndsIn, CanPatch, HasCopy, CanName, HasOld, renaming_to}
use Rattle.file_write.proofs.AppendEnds.{primed_clear}
use Rattle.file_write.proofs.CopyPut.{flags_stay}
use Rattle.file_write.proofs.ReadyIndex.{index_ready, replace_left}
use Rattle.file_write.proofs.Sizes.{last_below}
use Rattle.file_write.proofs.SlotChanged.{next_free, relinked}

-- ---- where a page is found

module _ (g : Geometry) (was image : List ℕ) (patch : Patch) (spot : Spot) (to : ℕ) (bytes : List ℕ) (f : File) (has : HasCopy g was patch spot to bytes f image) where
  pub copy_clear : IsClear g image
  copy_clear = primed_clear g was image patch.id has.at.can.h has.at.can.head f (λ r. r == to) has.prime

  pub copy_stays : StepCut g (patched_files g patch bytes f was) was image
  copy_stays = record { sound = has.prime.keeps.sound; table = inl has.prime.keeps.table; reserve = has.reserve; wear = has.wear }

  pub index_found : FreePage g image Index 2 None None → ⊥
  index_found none = let bad : false ≡ true = page_had g image None none ∙ has.had in absurd (cc)

  pub index_place : (p : ℕ) → IsFreeFor g image Index 2 None p → CanName g was patch spot to p bytes f image
  index_place p found = record { has = has; free = free_of g image Index 2 p None has.prime.image found; kind = found.kind_is; room = found.keeps }

  x_is : (x : List ℕ) × (own (live_at g image) patch.id spot.index ≡ Some x) × (names_index x ≡ true) × (span_of x ≡ index_span g patch.span)
  x_is = index_some (own (live_at g image) patch.id spot.index) (index_span g patch.span)
      (index_passes g (own (live_at g image) patch.id) (index_span g patch.span) spot.index (has.places (index_span g patch.span) ∙ has.at.index))

  -- the index page is live
  pub index_live : is_index_page (live_at g image spot.index) ≡ true
  index_live = rw (own-parts (live_at g image) patch.id spot.index x_is.0 x_is.1).0 x_is.2

-- ---- the renewal

module _ (g : Geometry) (was image : List ℕ) (patch : Patch) (spot : Spot) (to p : ℕ) (bytes : List ℕ) (f : File) (can : CanName g was patch spot to p bytes f image) (range : (1 ≤ patch.id) × (patch.id ≤ 0x7FFE))
    (span : ℕ) (t_span : span ≡ index_span g patch.span) (work : List ℕ) (copy : IsRenamed g image spot.index patch.span to work) where
  abbrev has : HasCopy g was patch spot to bytes f image
  has = can.has

  abbrev at : CanPatch g was patch bytes f
  at = can.has.at.can

  abbrev pages : Live
  pages = own (live_at g image) patch.id

  abbrev tag : Tag
  tag = record { id = patch.id; span = span }

  abbrev old : List ℕ
  old = copy.built.old

  abbrev new : List ℕ
  new = finished_page g Index tag work

  x_there : (x : List ℕ) × (pages spot.index ≡ Some x) × (names_index x ≡ true) × (span_of x ≡ index_span g patch.span)
  x_there = x_is g was image patch spot to bytes f can.has

  x_old : x_there.0 ≡ copy.built.old
  x_old = same_Some x_there.0 copy.built.old (sym (own-parts (live_at g image) patch.id spot.index x_there.0 x_there.1).0 ∙ copy.built.live)

  index : names_index old ≡ true
  index = copy.built.index

  mine : pages spot.index ≡ Some old
  mine = x_there.1 ∙ ap (λ (l : List ℕ). Some l) x_old

  of_id : obj_id old % 0x8000 ≡ patch.id
  of_id = (own-parts (live_at g image) patch.id spot.index copy.built.old mine).1

  at_span : index_span g patch.span ≡ span_of old
  at_span = sym x_there.3 ∙ ap span_of x_old

  first : index_page g pages (index_span g patch.span) ≡ Some spot.index
  first = can.has.places (index_span g patch.span) ∙ can.has.at.index

  count : count_of g image (obj_id old % 0x8000) ≡ data_pages g (size_of at.head)
  unfolding count_of
  count = rw of_id (rw can.has.prime.at (rw can.has.prime.header refl))

  -- ---- the built page

  big : 128 ≤ g.page
  big = (sizes g).page

  old_len : length old ≡ g.page
  old_len = let v = live_parts g image spot.index old copy.built.live in ap length (sym v.bytes) ∙ page_length g image spot.index can.has.prime.image v.entry_page

  plain_len : length (take g.page copy.plain) ≡ g.page
  plain_len = copy.built.copied.size ∙ old_len

  work_len : length (take g.page work) ≡ g.page
  work_len = copy.others.size ∙ plain_len

  placed_is : placed_page g Index tag work ≡ set (take g.page work) 4 0xFA
  placed_is =
      placed_index g.page tag work (take g.page work) old big work_len refl index (sym of_id) (t_span ∙ at_span)
      (λ k below. let from = slot_behind g patch.span in copy.others.before k (omega (arith, from, below)) ∙ copy.built.copied.head k (omega (arith, below))) (λ k below. copy.small k (let size = big in omega (arith, size, below)))

  sets : new ≡ set (take g.page work) 4 0xF8
  sets = ap (λ (l : List ℕ). set l 4 0xF8) placed_is ∙ set-set (take g.page work) 4 0xFA 0xF8

  is_head : span_of old ≡ 0 → old ≡ at.head
  is_head zero =
      let place : spot.index ≡ at.h = same_Some spot.index at.h (sym first ∙ ap (index_page g pages) (at_span ∙ zero) ∙ can.has.prime.at) in
      same_Some old at.head (sym mine ∙ ap pages place ∙ can.has.prime.header)

  copied : (head' : List ℕ) × IsRelinked g patch.id patch.span to old new at.head head'
  copied = relinked g old (take g.page copy.plain) (count_of g image (obj_id old % 0x8000)) copy.built.copied old_len (take g.page work) new patch.span to copy.entry copy.others sets patch.id at.head at_span index of_id count is_head

  start : Relinks g was image patch.id at.h patch.span spot.index spot.page to p patch.from patch.used at.head copied.0 old new can.has.old can.has.copy bytes f (λ r. r == to)
  start = record {
    primed = can.has.prime;
    alone = λ r e. eqb-true r to e;
    below = at.below;
    first = first;
    was = mine;
    names = can.has.names;
    there = can.has.there;
    beside_is = can.has.copy_is;
    data_kind = can.has.copy_kind;
    span = can.has.copy_span;
    apart = can.has.apart;
    inner = at.inner;
    fits = at.fits;
    enough = at.enough;
    patched = can.has.patched;
    inside = can.free.entry_page;
    kind = of_kind g image p new can.kind copied.1.index;
    copied = copied.1;
  }

  abbrev f' : File
  f' = written (patch.span * body g + patch.from) bytes f

  recopies : RecopiesTo g image p spot.index patch.id at.h old new at.head copied.0 f f'
  recopies = relink-recopies g was image patch.id at.h patch.span spot.index spot.page to p patch.from patch.used at.head copied.0 old new can.has.old can.has.copy bytes f (λ r. r == to) start

  magics : HasMagics g image
  magics = tidy-has_magics g image (λ (r : ℕ). r == to) can.has.prime.tidy

  cut : (c : List ℕ) → ReplaceCut g p spot.index new image c → StepCut g (patched_files g patch bytes f was) was c
  cut c h =
      let law = recopy-cuts g image c p spot.index patch.id at.h old new at.head copied.0 f f' recopies magics h in
      record {
        sound = sound-on g was image c can.has.prime.keeps.sound law.0.sound;
        table = ⊎_elim
            (λ (same : table_of g c ≡ table_of g image). inl (same ∙ can.has.prime.keeps.table))
            (λ (next : table_of g c ≡ put_file f' (table_of g image)). inr (next ∙ ap (λ (t : List File). put_file f' t) can.has.prime.keeps.table))
            law.0.table;
        reserve = λ two. replace-reserve g image c p spot.index new old can.room copy.built.live (can.has.reserve two) (inl h);
        wear = wear_then g was image c can.has.wear (replace_wear g image c p spot.index new h);
      }

  -- ---- the tail

  abbrev n : ℕ
  n = data_pages g (size_of at.head)

  reads : (now_data g pages at.head new patch.span ≡ Some can.has.copy) × (span_of old ≡ index_span g patch.span) × ((t : ℕ) → t < n → t ≢ patch.span → now_data g pages at.head new t ≡ data_page g pages at.head t)
  reads = relink-reads g was image patch.id at.h patch.span spot.index spot.page to p patch.from patch.used at.head copied.0 old new can.has.old can.has.copy bytes f (λ r. r == to) start

  clean : EndsIn g (size_of at.head) patch.span → (z : List ℕ) → size_of at.head % body g ≢ 0 → now_data g pages at.head new (size_of at.head / body g) ≡ Some z → (k : ℕ) → 5 + size_of at.head % body g ≤ k → k < g.page → slice_index z k ≡ 0xFF
  clean ends z more there k low high =
      let same : z ≡ can.has.copy = same_Some z can.has.copy (sym there ∙ ap (now_data g pages at.head new) ends.0 ∙ reads.0) in
      let least = at.least ends in
      let place : 5 + (k - 5) ≡ k = omega (arith, low) in
      let ones : slice_index can.has.copy (5 + (k - 5)) ≡ 0xFF = can.has.patched.erased (k - 5) (omega (arith, low, least)) (omega (arith, low, high)) in
      subst (λ (l : List ℕ). slice_index l k ≡ 0xFF) (sym same) (subst (λ (i : ℕ). slice_index can.has.copy i ≡ 0xFF) place ones)

  -- the copy has free entries behind the last
  next : FreesEntries g old new at.head
  next t k high past there low inside =
      next_free g old (take g.page copy.plain) (count_of g image (obj_id old % 0x8000)) copy.built.copied old_len (take g.page work) new patch.span to copy.entry copy.others sets at_span
      (let below = at.below in omega (arith, below, count)) t k high (omega (arith, past, count)) there low inside

  -- where the file ends in the page, no other index page has an entry behind the last
  other : EndsIn g (size_of at.head) patch.span → (r t k : ℕ) (x : List ℕ) → r ≢ spot.index → pages r ≡ Some x → names_index x ≡ true → span_of x ≡ further g t → head_slots g ≤ t → n ≤ t → slot_at g t ≤ k → k < g.page → slice_index x k ≡ 0xFF
  other ends r t k x differ there kind span high past low inside =
      let some : 0 < size_of at.head % body g = let more = ends.1 in ⊎_elim (λ (y : 0 < size_of at.head % body g). y) (λ (y : size_of at.head % body g ≤ 0). absurd (more (omega (arith, y)))) (cases_lt 0 (size_of at.head % body g)) in
      let last : n ≡ patch.span + 1 = last_below g (size_of at.head) some ∙ ap (λ (m : ℕ). m + 1) ends.0 in
      let apart : (r == to) ≡ false = ne_eqb r to (λ e.
      (let same : x ≡ can.has.copy = same_Some x can.has.copy (sym there ∙ ap pages e ∙ can.has.copy_is) in
      let bad : true ≡ false = sym kind ∙ ap names_index same ∙ can.has.copy_kind in absurd (cc))) in
      let together = tail-together g was image patch.id at.h r t at.head f (λ q. q == to) can.has.prime apart high past (rw there (rw kind (eq-eqb (span_of x) (further g t) span))) in
      let near : n - 1 ≡ patch.span = omega (arith, last) in
      let spans : further g t ≡ index_span g patch.span = sym together.2 ∙ ap (index_span g) near in
      absurd (differ (same_Some r spot.index (sym together.0 ∙ ap (index_page g pages) spans ∙ first)))

  module _ (b : List ℕ) (all : Replaced g p spot.index new image b) where
    tail : EndsIn g (size_of at.head) patch.span → IsTailReady g b patch.id
    tail ends = tail-readied g image b p spot.index patch.id at.h old new at.head copied.0 f f' recopies all (clean ends) next (other ends)

    -- a tail that was ready is so still
    kept : IsTailReady g was patch.id → IsTailReady g b patch.id
    kept was_ready =
        let ready = can.has.tails patch.id was_ready at.h at.head can.has.prime.at can.has.prime.header in
        tail-readied g image b p spot.index patch.id at.h old new at.head copied.0 f f' recopies all
        (λ z more there k low high. ⊎_elim
        (λ (here : size_of at.head / body g ≡ patch.span). clean (here, more) z more there k low high)
        (λ (away : size_of at.head / body g ≡ patch.span → ⊥).
        let some : 0 < size_of at.head % body g = ⊎_elim (λ (y : 0 < size_of at.head % body g). y) (λ (y : size_of at.head % body g ≤ 0). absurd (more (omega (arith, y)))) (cases_lt 0 (size_of at.head % body g)) in
        let last = last_below g (size_of at.head) some in
        ready.bytes z more (sym (reads.2 (size_of at.head / body g) (omega (arith, last)) away) ∙ there) k low high)
        (cases_eq (size_of at.head / body g) patch.span))
        next (λ r t k x left. ready.entries r t k x)

  done : (b : List ℕ) → Replaced g p spot.index new image b → HasOld g was patch spot bytes f b
  done b all =
      let law = relink-ends g was image b patch.id at.h patch.span spot.index spot.page to p patch.from patch.used at.head copied.0 old new can.has.old can.has.copy bytes f (λ r. r == to) start all in
      let left = cut b (replace_left all) in
      let live : live_at g image spot.page ≡ Some can.has.old = (own-parts (live_at g image) patch.id spot.page can.has.old can.has.there).0 in
      let not_p : spot.page ≢ p = λ e. none-some can.has.old (sym all.put.gains.before ∙ ap (live_at g image) (sym e) ∙ live) in
      let live5 : live_at g all.middle spot.page ≡ Some can.has.old = all.put.gains.others spot.page not_p ∙ live in
      let not_w : spot.page ≢ spot.index = λ e.
      (let same : can.has.old ≡ old = same_Some can.has.old old (sym live ∙ ap (live_at g image) e ∙ copy.built.live) in
      let bad : false ≡ true = sym can.has.old_kind ∙ ap names_index same ∙ index in absurd (cc)) in
      record {
        can = at;
        old = can.has.old;
        live = law.1;
        kind = can.has.old_kind;
        idles = law.0;
        table = law.2;
        ends = law.3;
        sound = left.sound;
        reserve = left.reserve;
        wear = left.wear;
        flags = flags_stay g all.middle b spot.index spot.page can.has.old all.kill.agree live5 not_w (flags_stay g image all.middle p spot.page can.has.old all.put.agree live not_p can.has.flags);
        ready = λ ends. tail b all ends;
        kept = λ ready. kept b all ready;
      }

  all_of : span_of old ≡ 0 → count_of g image (obj_id old % 0x8000) ≡ data_pages g (size_of old)
  all_of zero = count ∙ ap (λ (l : List ℕ). data_pages g (size_of l)) (sym (is_head zero))

  pub index_puts : Finishes g image image (replacing p spot.index tag work) (renaming_to was patch spot to p bytes f)
  index_puts = record {
    needs = record {
      put = record { free = can.free; ready = index_ready g tag work (take g.page work) placed_is work_len (λ k below. rw (Rattle.std.proofs.lemmas.List.get_or-take g.page work k 0 below) (copy.small k below)) range; trim = renamed_head g old (take g.page copy.plain) (count_of g image (obj_id old % 0x8000)) copy.built.copied all_of (take g.page work) new patch.span copy.others at_span (λ zero. omega (arith, at.below, count)) sets };
      kill = record { live = ap is_some copy.built.live; byte = copy.built.flags };
    };
    cut = λ c h. cut c h;
    done = λ c ok h. done c h;
  }
