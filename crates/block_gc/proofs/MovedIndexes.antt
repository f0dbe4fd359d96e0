-- Moving an index page, from what the put of its copy and its kill leave.
use Rattle.std.proofs.Common.{◌≡◌, ℕ, ◌%◌, ◌<◌, ◌≤◌, Option, List, [], ◌∷◌, length, take, set, slice_range, Some, ap, refl, sym, ◌∙◌, arith, ⊎_elim, inl, subst}
use Rattle.std.specs.Prelude.{unwrap_or}
use Rattle.std.proofs.lemmas.List.{get_or-take}
use Rattle.std.proofs.lemmas.Option.{same_Some}
use Rattle.geometry.specs.declared.geometry.Geometry.{Geometry}
use Rattle.table_model.specs.declared.error.Tag.{Tag}
use Rattle.table_model.specs.Room.{data_pages}
use Rattle.trim_laws.specs.Steps.{IsTrimHead}
use Rattle.page_renew.proofs.Trimmed.{copied_head}
use Rattle.flash_view.specs.declared.kinds.Kind.TheVariants.{Index}
use Rattle.image_model.specs.Within.{page_length}
use Rattle.image_model.specs.Headers.{obj_id, span_of, size_of}
use Rattle.image_model.specs.Live.{live_at, own}
use Rattle.image_model.specs.Places.{IsImage}
use Rattle.image_model.specs.Files.{index_page, span_bytes}
use Rattle.image_laws.specs.LiveSteps.{PutLeaves, PutDone, KillLeaves}
use Rattle.image_laws.specs.Put.{IsReadyPage}
use Rattle.image_laws.specs.Reindex.{Reindexes, now_data}
use Rattle.image_laws.proofs.Frames.{live_parts}
use Rattle.renew_laws.specs.Recopy.{RecopiesTo}
use Rattle.renew_laws.specs.Replace.{ReplaceCut, Replaced}
use Rattle.renew_laws.specs.Tails.{KeepsTails, FreesEntries}
use Rattle.renew_laws.proofs.RecopyCuts.{recopy-cuts}
use Rattle.renew_laws.proofs.RecopyLeaves.{recopied-neat}
use Rattle.renew_laws.proofs.TailSteps.{tail-copied}
use Rattle.page_put.specs.Placing.{placed_page}
use Rattle.page_put.specs.LivePages.{finished_page}
use Rattle.page_renew.specs.Built.{IsBuilt}
use Rattle.page_renew.specs.Copies.{count_of}
use Rattle.page_renew.proofs.FreeEntries.{free_behind}
use Rattle.page_renew.proofs.Homes.{some_index, own_of, of_kind, Home}
use Rattle.page_renew.proofs.IndexCopies.{built_page}
use Rattle.page_renew.proofs.Renewed.{same_id, same_span, slot_same, renewed, now_same}
use Rattle.room_laws.specs.Tags.{SameTag}
use Rattle.room_laws.specs.Ways.{Move, AreApart, AreMoves, OnWay}
use Rattle.room_laws.proofs.OnTheWay.{all_nil, way_none, way_put, way_kill, done_leaves}
use Rattle.block_gc.specs.Moves.{CanMove, IndexCut, IndexMoved}
use Rattle.block_gc.proofs.Replacing.{neat_magics, neat_keeps, keeps_same, replaced_counts, home_of, replace_left, index_first, index_alone, set_twice, index_ready}

one_move : (g : Geometry) (a : List ℕ) (o p : ℕ) → CanMove g a o p → AreMoves g a (record { from = o; to = p } ∷ [])
unfolding AreMoves
one_move g a o p can =
    let x = some_index (live_at g a o) can.index in
    (record { page = x.0; live = x.1; entry = can.free.entry_page; free = can.entry }, all_nil (AreApart (record { from = o; to = p })), tt)

-- where nothing was programmed
pub none_cut : (g : Geometry) (a : List ℕ) (o p : ℕ) → IsImage g a → CanMove g a o p → IndexCut g o p a a
none_cut g a o p is can = record {
  keeps = neat_keeps g a can.neat;
  way = record {
    moves_are = one_move g a o p can;
    way = record { image_is = is; magic = λ b. refl; live = λ q y live. inl live; free = λ q page aside. refl };
    table = refl;
  };
}

module _ (g : Geometry) (a0 : List ℕ) (o p : ℕ) (tag : Tag) (work : List ℕ) (is : IsImage g a0) (can : CanMove g a0 o p) (built : IsBuilt g a0 o tag work) where
  abbrev old : List ℕ
  old = built.old

  abbrev id : ℕ
  id = obj_id built.old % 0x8000

  abbrev new : List ℕ
  new = finished_page g Index tag work

  home : Home g a0 id
  home = home_of g a0 is can.neat o old built.live

  mine : own (live_at g a0) id o ≡ Some old
  mine = own_of (live_at g a0) o old built.live

  len : length old ≡ g.page
  len = let w = live_parts g a0 o old built.live in ap length (sym w.bytes) ∙ page_length g a0 o is w.entry_page

  sets : new ≡ set (take g.page work) 4 0xF8
  sets = ap (λ (l : List ℕ). set l 4 0xF8) (built_page g a0 o tag work is built) ∙ set_twice (take g.page work) 4 0xFA 0xF8

  first : index_page g (own (live_at g a0) id) (span_of old) ≡ Some o
  first = index_first g a0 is can.neat id home o old mine built.index

  count : count_of g a0 id ≡ data_pages g (size_of home.head)
  unfolding count_of
  count = rw (home.at) (rw (home.header) refl)

  pages : (head' : List ℕ) × Reindexes g (own (live_at g a0) id) id o home.h old new home.head head' home.f home.f
  pages =
      renewed g old (take g.page work) new (count_of g a0 id) built.copied sets len (own (live_at g a0) id) id o home.h home.head home.f mine first (index_alone g a0 is can.neat id home (span_of old) o first) built.index refl
      home.at home.header home.file count

  pub moved_ready : (1 ≤ tag.id) × (tag.id ≤ 0x7FFE) → IsReadyPage g (placed_page g Index tag work) 0xF8
  moved_ready = index_ready g tag work (take g.page work) (built_page g a0 o tag work is built) (built.copied.size ∙ len) (λ k below. rw (get_or-take g.page work k 0 below) (built.small k below))

  -- the copy names no page behind the last one of its file
  pub moved_trim : IsTrimHead g new
  moved_trim = copied_head g old (take g.page work) (count_of g a0 id) built.copied of_head new sets
    where
      of_head : span_of old ≡ 0 → count_of g a0 id ≡ data_pages g (size_of old)
      of_head zero =
          let place : o ≡ home.h = same_Some o home.h (sym first ∙ ap (index_page g (own (live_at g a0) id)) zero ∙ home.at) in
          let same : old ≡ home.head = same_Some old home.head (sym mine ∙ ap (own (live_at g a0) id) place ∙ home.header) in
          count ∙ ap (λ (l : List ℕ). data_pages g (size_of l)) (sym same)

  start : RecopiesTo g a0 p o id home.h old new home.head pages.0 home.f home.f
  start = record { undamaged = can.neat.undamaged; inside = can.free.entry_page; kind = of_kind g a0 p new can.kind pages.1.new_index; pages = pages.1 }

  -- the copy leads to the same bytes, and its entries behind the last one are free
  spans : (t : ℕ) → t < data_pages g (size_of home.head) → slice_range (unwrap_or (now_data g (own (live_at g a0) id) home.head new t) []) 5 g.page ≡ span_bytes g (own (live_at g a0) id) home.head t
  spans t below = ap (λ (x : Option (List ℕ)). slice_range (unwrap_or x []) 5 g.page)
      (now_same g old (take g.page work) new (count_of g a0 id) built.copied sets len (own (live_at g a0) id) id o home.h home.head home.f mine first (index_alone g a0 is can.neat id home (span_of old) o first) built.index refl
      home.at home.header home.file count t below)

  next : FreesEntries g old new home.head
  next t k high past at low below = free_behind g old (take g.page work) new (count_of g a0 id) built.copied sets t k high (omega (arith, past, count)) at low below

  tails : (b : List ℕ) → Replaced g p o new a0 b → KeepsTails g a0 b
  tails b all = tail-copied g a0 b p o id home.h old new home.head pages.0 home.f home.f start all spans next

  abbrev step : Move
  step = record { from = o; to = p }

  -- the copy has the tag of the page
  tag_same : SameTag old new
  tag_same = record {
    kind = pages.1.new_index ∙ sym built.index;
    id = ap (λ (n : ℕ). n % 0x8000) (same_id g old (take g.page work) new (count_of g a0 id) built.copied sets len);
    span = same_span g old (take g.page work) new (count_of g a0 id) built.copied sets len;
  }

  way_left : (c : List ℕ) → ReplaceCut g p o new a0 c → OnWay g (step ∷ []) a0 c
  way_left c cut = ⊎_elim
      (λ (put : PutLeaves g p new a0 c). way_put g [] a0 a0 c step old new (way_none g a0 is) put built.live tag_same)
      (λ (x : (b : List ℕ) × PutDone g p new a0 b × KillLeaves g o b c).
      way_kill g (step ∷ []) a0 x.0 c o old (way_put g [] a0 a0 x.0 step old new (way_none g a0 is) ((done_leaves g a0 x.0 p new).0 x.1) built.live tag_same) x.2 built.live)
      cut

  pub move_left : (c : List ℕ) → ReplaceCut g p o new a0 c → IndexCut g o p a0 c
  move_left c cut =
      let law = recopy-cuts g a0 c p o id home.h old new home.head pages.0 home.f home.f start (neat_magics g a0 can.neat) cut in
      let keeps = keeps_same g a0 c id home.h home.f can.neat.undamaged home.has law.0 in
      record { keeps = keeps; way = record { moves_are = one_move g a0 o p can; way = way_left c cut; table = keeps.table } }

  pub moved_done : (b : List ℕ) → Replaced g p o new a0 b → IndexMoved g o p a0 b
  moved_done b all =
      let renewed_neat = recopied-neat g a0 b p o id home.h old new home.head pages.0 home.f home.f start all can.neat
      (record {
        named = λ r e. absurd (cc);
        left = λ t below at. inl (slot_same g old (take g.page work) new (count_of g a0 id) built.copied sets len t (omega (arith, below, count)) at);
      }) in
      record {
        cut = move_left b (replace_left all);
        neat = renewed_neat.0;
        gone = all.kill.loses.after;
        tails = tails b all;
        counts = replaced_counts all;
        copy = new;
        copy_index = pages.1.new_index;
        replaced = all;
      }
