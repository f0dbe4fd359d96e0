-- The further index page with the entry of the span behind the last is replaced by a plain copy, in which that entry is free.
use Rattle.std.proofs.Common.{◌≡◌, ◌≢◌, ℕ, ◌+◌, ◌/◌, ◌%◌, ◌<◌, ◌≤◌, List, length, take, set, slice_index, true, false, ◌&&◌, Some, None, ap, refl, sym, ◌∙◌, arith, ⊎_elim, inl, subst}
use Rattle.std.specs.Prelude.{is_some}
use Rattle.std.proofs.lemmas.Bool.{cases_lt, eq-eqb}
use Rattle.std.proofs.lemmas.List.{set-set, get_or-take}
use Rattle.std.proofs.lemmas.Option.{same_Some}
use Rattle.geometry.specs.declared.geometry.Geometry.{Geometry}
use Rattle.geometry.specs.Numbers.{body, head_slots}
use Rattle.table_model.specs.declared.error.Tag.{Tag}
use Rattle.table_model.specs.Table.{File, put_file}
use Rattle.table_model.specs.Room.{data_pages, index_pages}
use Rattle.page_renew.proofs.Trimmed.{copied_head}
use Rattle.flash_view.specs.declared.kinds.Kind.TheVariants.{Index}
use Rattle.flash_view.specs.Steps.{Finishes}
use Rattle.free_search.specs.Free.{IsFreeFor, FreePage}
use Rattle.free_search.specs.Had.{IsClear}
use Rattle.free_search.proofs.FoundPage.{free_of}
use Rattle.free_search.proofs.Had.{page_had}
use Rattle.free_search.proofs.HadBy.{less_had}
use Rattle.image_model.specs.Within.{sizes, page_length}
use Rattle.image_model.specs.Headers.{obj_id, names_index, span_of, size_of}
use Rattle.image_model.specs.Live.{Live, live_at, own}
use Rattle.image_model.specs.Files.{is_index, index_page, further, index_span, slot_at}
use Rattle.image_model.specs.Kinds.{is_index_page}
use Rattle.image_model.specs.Sound.{HasMagics}
use Rattle.image_model.specs.Tables.{table_of}
use Rattle.image_laws.specs.Reindex.{Reindexes, now_data}
use Rattle.image_laws.specs.Spares.{leftover}
use Rattle.image_laws.specs.TidySteps.{IsTidyBut}
use Rattle.image_laws.proofs.Finish.{own-parts}
use Rattle.image_laws.proofs.Frames.{live_parts}
use Rattle.image_laws.proofs.Judge.{index_passes}
use Rattle.image_laws.proofs.SpareKill.{tidy-has_magics}
use Rattle.image_laws.proofs.TidySteps.{tidy-is_tidy}
use Rattle.renew_laws.specs.Recopy.{RecopiesTo}
use Rattle.renew_laws.specs.Replace.{ReplaceCut, Replaced}
use Rattle.renew_laws.specs.Tails.{IsTailReady, FreesEntries}
use Rattle.renew_laws.proofs.IdleKill.{idles-end}
use Rattle.renew_laws.proofs.PrimePlaces.{primed-places, tail-together}
use Rattle.renew_laws.proofs.RecopyCuts.{recopy-cuts}
use Rattle.renew_laws.proofs.RecopyLeaves.{recopy-spares}
use Rattle.renew_laws.proofs.ReserveKept.{replace-reserve}
use Rattle.renew_laws.proofs.TailSteps.{tail-readied}
use Rattle.page_put.specs.Placing.{placed_page}
use Rattle.page_put.specs.LivePages.{finished_page}
use Rattle.page_renew.specs.Built.{IsBuilt}
use Rattle.page_renew.specs.Copies.{count_of}
use Rattle.page_renew.specs.PageSteps.{StepCut}
use Rattle.page_renew.specs.Renewals.{replacing}
use Rattle.page_renew.proofs.FreeEntries.{free_behind}
use Rattle.page_renew.proofs.HeaderRenewed.{replace_wear}
use Rattle.page_renew.proofs.Homes.{index_some, of_kind}
use Rattle.page_renew.proofs.IndexCopies.{placed_index}
use Rattle.page_renew.proofs.Renewed.{slot_same, now_same, renewed}
use Rattle.file_write.specs.Readyings.{CanReadyEntry, CanRefresh, CanRefreshTo, Readied, refreshing_to, refreshing, readying_entry, IsStale}
use Rattle.file_write.specs.Relinkings.{IsFileAt}
use Rattle.file_write.proofs.AppendEnds.{primed_clear}
use Rattle.file_write.proofs.BytesReadied.{file_same}
use Rattle.file_write.proofs.ReadyIndex.{index_ready, replace_left}
use Rattle.file_write.proofs.Sizes.{last_below}
use Rattle.file_write.proofs.TailLooks.{ones_clean}

-- where such an index page is found
pub refresh_next : (g : Geometry) (a : List ℕ) (id size index : ℕ) (f : File) → CanReadyEntry g a id size f → IsStale g a id size (Some index) → Finishes g a a (refreshing id size index f) (readying_entry id size f)
refresh_next g a id size index f can stale = record { needs = record { at = can; stale = stale }; cut = λ c cut. cut; done = λ c ok done. done }

-- ---- where a page is found for its copy

module _ (g : Geometry) (a : List ℕ) (id size index : ℕ) (f : File) (can : CanRefresh g a id size index f) where
  abbrev home : IsFileAt g a id size f
  home = can.at.at.home

  pub refresh_clear : IsClear g a
  refresh_clear = primed_clear g a a id home.h home.head f (λ r. false) home.prime

  pub place_found : FreePage g a Index 2 None None → ⊥
  place_found none = let bad : false ≡ true = page_had g a None none ∙ less_had g a 1 1 1 0 (omega arith) (omega arith) can.at.at.can.had in absurd (cc)

  pub refresh_place : (to : ℕ) → IsFreeFor g a Index 2 None to → Finishes g a a (refreshing_to id size index to f) (refreshing id size index f)
  refresh_place to found = record {
    needs = record { can = can; free = free_of g a Index 2 to None home.prime.image found; kind = found.kind_is; room = found.keeps };
    cut = λ c cut. cut;
    done = λ c ok done. done;
  }

  -- the index page is live
  old_is : (x : List ℕ) × (own (live_at g a) id index ≡ Some x) × (names_index x ≡ true) × (span_of x ≡ further g (data_pages g size))
  old_is = index_some (own (live_at g a) id index) (further g (data_pages g size)) (index_passes g (own (live_at g a) id) (further g (data_pages g size)) index can.stale.1)

  pub refresh_live : is_index_page (live_at g a index) ≡ true
  refresh_live = rw (own-parts (live_at g a) id index old_is.0 old_is.1).0 old_is.2

-- ---- the renewal

module _ (g : Geometry) (a : List ℕ) (id size o to : ℕ) (f : File) (can : CanRefreshTo g a id size o to f) (range : (1 ≤ id) × (id ≤ 0x7FFE)) (built_tag : Tag) (work : List ℕ) (built : IsBuilt g a o built_tag work) where
  abbrev at : CanReadyEntry g a id size f
  at = can.can.at

  abbrev file_at : IsFileAt g a id size f
  file_at = can.can.at.at.home

  abbrev pages : Live
  pages = own (live_at g a) id

  abbrev tag : Tag
  tag = record { id = id; span = built_tag.span }

  abbrev old : List ℕ
  old = built.old

  abbrev new : List ℕ
  new = finished_page g Index tag work

  abbrev n : ℕ
  n = data_pages g (size_of file_at.head)

  x_is : (x : List ℕ) × (pages o ≡ Some x) × (names_index x ≡ true) × (span_of x ≡ further g (data_pages g size))
  x_is = old_is g a id size o f can.can

  x_old : x_is.0 ≡ built.old
  x_old = same_Some x_is.0 built.old (sym (own-parts (live_at g a) id o x_is.0 x_is.1).0 ∙ built.live)

  mine : pages o ≡ Some old
  mine = x_is.1 ∙ ap (λ (l : List ℕ). Some l) x_old

  of_id : obj_id old % 0x8000 ≡ id
  of_id = (own-parts (live_at g a) id o built.old mine).1

  at_span : span_of old ≡ further g n
  at_span = ap span_of (sym x_old) ∙ x_is.3 ∙ ap (λ (m : ℕ). further g (data_pages g m)) file_at.told

  first : index_page g pages (span_of old) ≡ Some o
  first = ap (index_page g pages) (ap span_of (sym x_old) ∙ x_is.3) ∙ can.can.stale.1

  alone : (r : ℕ) → is_index (pages r) (span_of old) ≡ true → r ≡ o
  alone r e =
      ⊎_elim
      (λ (none : false ≡ true). absurd (cc))
      (λ (v : (index_page g pages (span_of old) ≡ Some r) × (span_of old < index_pages g (size_of file_at.head))). same_Some r o (sym v.0 ∙ first))
      ((primed-places g a a id file_at.h file_at.head f (λ r. false) file_at.prime).1 r (span_of old) e)

  abbrev count : ℕ
  count = count_of g a (obj_id built.old % 0x8000)

  count_is : count ≡ n
  unfolding count_of
  count_is = rw of_id (rw file_at.prime.at (rw file_at.prime.header refl))

  -- ---- the built page

  big : 128 ≤ g.page
  big = (sizes g).page

  old_len : length old ≡ g.page
  old_len = let v = live_parts g a o old built.live in ap length (sym v.bytes) ∙ page_length g a o file_at.prime.image v.entry_page

  work_len : length (take g.page work) ≡ g.page
  work_len = built.copied.size ∙ old_len

  placed_is : placed_page g Index tag work ≡ set (take g.page work) 4 0xFA
  placed_is =
      placed_index g.page tag work (take g.page work) old big work_len refl built.index (sym of_id) built.span
      (λ k below. built.copied.head k (omega (arith, below))) (λ k below. built.small k (let size = big in omega (arith, size, below)))

  sets : new ≡ set (take g.page work) 4 0xF8
  sets = ap (λ (l : List ℕ). set l 4 0xF8) placed_is ∙ set-set (take g.page work) 4 0xFA 0xF8

  copied : (head' : List ℕ) × Reindexes g pages id o file_at.h old new file_at.head head' f f
  copied =
      renewed g old (take g.page work) new count built.copied sets old_len pages id o file_at.h file_at.head f mine first alone built.index of_id file_at.prime.at file_at.prime.header file_at.prime.file count_is

  start : RecopiesTo g a to o id file_at.h old new file_at.head copied.0 f f
  start = record { undamaged = at.at.can.tidy.undamaged; inside = can.free.entry_page; kind = of_kind g a to new can.kind copied.1.new_index; pages = copied.1 }

  tidy_but : IsTidyBut g a (λ r. false)
  tidy_but = (tidy-is_tidy g a (λ (r : ℕ). false)).0 at.at.can.tidy

  magics : HasMagics g a
  magics = tidy-has_magics g a (λ (r : ℕ). false) tidy_but

  same_file : put_file f (table_of g a) ≡ table_of g a
  same_file = file_same g a id size f at.at

  cut : (c : List ℕ) → ReplaceCut g to o new a c → StepCut g (table_of g a) a c
  cut c h =
      let law = recopy-cuts g a c to o id file_at.h old new file_at.head copied.0 f f start magics h in
      record {
        sound = law.0.sound;
        table = ⊎_elim (λ (same : table_of g c ≡ table_of g a). inl same) (λ (next : table_of g c ≡ put_file f (table_of g a)). inl (next ∙ same_file)) law.0.table;
        reserve = λ two. replace-reserve g a c to o new old can.room built.live two (inl h);
        wear = replace_wear g a c to o new h;
      }

  -- ---- done

  module _ (b : List ℕ) (all : Replaced g to o new a b) where
    clean : (z : List ℕ) → size_of file_at.head % body g ≢ 0 → now_data g pages file_at.head new (size_of file_at.head / body g) ≡ Some z → (k : ℕ) → 5 + size_of file_at.head % body g ≤ k → k < g.page → slice_index z k ≡ 0xFF
    clean z more there =
        let some : 0 < size_of file_at.head % body g = ⊎_elim (λ (x : 0 < size_of file_at.head % body g). x) (λ (x : size_of file_at.head % body g ≤ 0). absurd (more (omega (arith, x)))) (cases_lt 0 (size_of file_at.head % body g)) in
        let last = last_below g (size_of file_at.head) some in
        let below : size_of file_at.head / body g < n = omega (arith, last) in
        let same = now_same g old (take g.page work) new count built.copied sets old_len pages id o file_at.h file_at.head f mine first alone built.index of_id file_at.prime.at file_at.prime.header file_at.prime.file count_is (size_of file_at.head / body g) below in
        ones_clean g a id size file_at.h file_at.head file_at.prime.at file_at.prime.header file_at.told at.ones z more (sym same ∙ there)

    next : FreesEntries g old new file_at.head
    next t k far past there low inside =
        let free = free_behind g old (take g.page work) (set (take g.page work) 4 0xF8) count built.copied refl t k far (omega (arith, past, count_is)) there low inside in
        ap (λ (l : List ℕ). slice_index l k) sets ∙ free

    -- no other index page has an entry behind the last
    other : (r t k : ℕ) (x : List ℕ) → r ≢ o → pages r ≡ Some x → names_index x ≡ true → span_of x ≡ further g t → head_slots g ≤ t → n ≤ t → slot_at g t ≤ k → k < g.page → slice_index x k ≡ 0xFF
    other r t k x differ there kind span far past low inside =
        let together = tail-together g a a id file_at.h r t file_at.head f (λ q. false) file_at.prime refl far past (rw there (rw kind (eq-eqb (span_of x) (further g t) span))) in
        let spans : further g t ≡ span_of old = sym together.4 ∙ sym at_span in
        absurd (differ (same_Some r o (sym together.0 ∙ ap (index_page g pages) spans ∙ first)))

    tail : IsTailReady g b id
    tail = tail-readied g a b to o id file_at.h old new file_at.head copied.0 f f start all clean next other

    done : Readied g id a b
    done =
        let left = cut b (replace_left all) in
        let tidied = recopy-spares g a b to o id file_at.h old new file_at.head copied.0 f f (λ (r : ℕ). false) (λ (r : ℕ). false) start all tidy_but
        (record {
          named = λ r e. absurd (cc);
          left = λ t below there. inl (slot_same g old (take g.page work) new count built.copied sets old_len t (omega (arith, below, count_is)) there);
        }) in
        record {
          step = record {
            tidy = idles-end g b (λ (r : ℕ). false && leftover g (own (live_at g b) id) copied.0 r) (λ r e. absurd (cc)) tidied.0;
            table = tidied.1 ∙ same_file;
            reserve = left.reserve;
          };
          ready = tail;
        }

  pub refresh_puts : Finishes g a a (replacing to o tag work) (refreshing_to id size o to f)
  refresh_puts = record {
    needs = record {
      put = record { free = can.free; ready = index_ready g tag work (take g.page work) placed_is work_len (λ k below. rw (get_or-take g.page work k 0 below) (built.small k below)) range; trim = copied_head g old (take g.page work) count built.copied (λ zero. absurd (omega (arith, zero, at_span))) new sets };
      kill = record { live = ap is_some built.live; byte = built.flags };
    };
    cut = λ c h. cut c h;
    done = λ c ok h. done c h;
  }
