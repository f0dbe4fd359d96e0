-- The copies of a batch's pages are found again by their id and span, and named.
use Rattle.std.proofs.Common.{◌≡◌, ◌≢◌, ℕ, ◌+◌, ◌%◌, ◌<◌, ◌≤◌, List, [], ◌∷◌, length, Bool, true, false, ◌==◌, ◌&&◌, not, nat_lt, nat_le, Option, Some, None, ap, refl, sym, ◌∙◌, arith, ⊎_elim, subst}
use Rattle.std.specs.Prelude.{All, Contains}
use Rattle.std.specs.Option.{option_map}
use Rattle.std.proofs.lemmas.Bool.{cases_Bool, cases_eq, cases_lt, and_parts, leb-true, le-leb, lt-ltb, eq-eqb, eqb-true, ne_eqb}
use Rattle.std.proofs.lemmas.List.Elements.{All-map}
use Rattle.std.proofs.lemmas.Option.{same_Some}
use Rattle.geometry.specs.declared.geometry.Geometry.{Geometry}
use Rattle.geometry.specs.Numbers.{page_count}
use Rattle.page_layout.specs.declared.header.PageHeader.{PageHeader}
use Rattle.page_layout.specs.Layout.{header_at, is_between}
use Rattle.page_renew.specs.Built.{IsNamed}
use Rattle.image_model.specs.Headers.{obj_id, span_of, names_index}
use Rattle.image_model.specs.Live.{live_at, own}
use Rattle.image_model.specs.Places.{block_of, page_of, entry_of}
use Rattle.image_model.specs.Within.{page_number}
use Rattle.image_model.specs.Files.{entry_number}
use Rattle.image_laws.proofs.Frames.{live_parts}
use Rattle.image_laws.proofs.Tally.{served}
use Rattle.image_laws.proofs.TidySteps.{neat_of}
use Rattle.room_laws.specs.Sorts.{sort_at}
use Rattle.room_laws.specs.Ways.{Move, HasCome}
use Rattle.room_laws.proofs.Batches.{IsOut, outs}
use Rattle.room_laws.proofs.OnTheWay.{all_at, all_from}
use Rattle.flash_view.specs.Walk.{IsPassed, IsNextLive, NextLive}
use Rattle.flash_view.proofs.Passed.{passed_page, live_here}
use Rattle.page_renew.proofs.Homes.{serves_data, own_of}
use Rattle.block_gc.specs.declared.batch.Batch.{Batch}
use Rattle.block_gc.specs.declared.batch.Run.{Run}
use Rattle.block_gc.specs.Batches.{Carried, move_of, moves_of, are_from, below, IsRun, IsFalling, IsTurnOf, IsSpanOf, IsOfBatch, IsCarried, Carries, HasCopies, IsCopyAt, IsCopyFrom, AreNamed}
use Rattle.block_gc.proofs.BatchCalls.{live_was, of_still, names_on}
use Rattle.block_gc.proofs.BatchRenews.{mapped}
use Rattle.block_gc.proofs.BatchRuns.{below_all, below_none, below_with, below_without, one_from}

-- ---- the search

not_between : (n : ℕ) → is_between n n n ≡ false → ⊥
not_between n none = let bad : true ≡ false = rw (le-leb n n (omega arith)) at none in absurd (cc)

module _ (g : Geometry) (image : List ℕ) (id span block : ℕ) where
  -- none of the pages from one on, and before another, is a copy
  abbrev pub NoneTo : (from to : ℕ) → Type 0
  NoneTo from to = (p : ℕ) → from ≤ p → p < to → IsCopyAt g image id span block p → ⊥

  passed_none : (p : ℕ) → IsPassed g image id id p → IsCopyAt g image id span block p → ⊥
  passed_none p passed copy = not_between id (subst (λ (n : ℕ). is_between id id n ≡ false) copy.id_is (passed_page g image id id p copy.page passed copy.live).none)

  -- those that were passed over aren't, nor is a page with another span or in the block
  pub none_on : (from at p : ℕ) (head : PageHeader) → IsNextLive g image at id id p head → ((head.span == span) && not (block_of g p == block)) ≡ false → NoneTo from at → NoneTo from (p + 1)
  none_on from at p head found other so_far q low high copy = ⊎_elim
      (λ (here : q ≡ p).
      let live : live_at g image p ≡ Some (page_of g image p) = live_here g image p found.live in
      let mine : live_at g image p ≡ Some copy.page = ap (live_at g image) (sym here) ∙ copy.live in
      let same : page_of g image p ≡ copy.page = same_Some (page_of g image p) copy.page (sym live ∙ mine) in
      let spans : head.span ≡ span = ap (λ (h : PageHeader). h.span) found.header ∙ ap span_of same ∙ copy.span_is in
      let apart : block_of g p ≢ block = λ e. copy.apart (ap (λ (k : ℕ). block_of g k) here ∙ e) in
      let bad : true ≡ false = sym (both spans apart) ∙ other in
      absurd (cc))
      (λ (there : q ≡ p → ⊥). ⊎_elim
      (λ (before : q < at). so_far q low before copy)
      (λ (behind : at ≤ q). passed_none q (found.passed q behind (omega (arith, high, there))) copy)
      (cases_lt q at))
      (cases_eq q p)
    where
      both : head.span ≡ span → block_of g p ≢ block → ((head.span == span) && not (block_of g p == block)) ≡ true
      both spans apart = rw (eq-eqb head.span span spans, ne_eqb (block_of g p) block apart) refl

  pub none_left : (from at : ℕ) → NextLive g image at id id None → NoneTo from at → IsCopyFrom g image id span block from None
  none_left from at none so_far q low copy = ⊎_elim
      (λ (before : q < at). so_far q low before copy)
      (λ (behind : at ≤ q). passed_none q (none q behind (page_number g q (live_parts g image q copy.page copy.live).entry_page)) copy)
      (cases_lt q at)

  pub copy_found : (at p : ℕ) (head : PageHeader) → id ≤ 0x7FFE → IsNextLive g image at id id p head → ((head.span == span) && not (block_of g p == block)) ≡ true → IsCopyAt g image id span block p
  copy_found at p head small found is =
      let w = and_parts (head.span == span) (not (block_of g p == block)) is in
      let live : live_at g image p ≡ Some (page_of g image p) = live_here g image p found.live in
      let between = and_parts (nat_le id (entry_of g image p)) (nat_le (entry_of g image p) id) found.between in
      let number : entry_of g image p ≡ id = omega (arith, leb-true id (entry_of g image p) between.0, leb-true (entry_of g image p) id between.1) in
      let id_is : obj_id (page_of g image p) ≡ id = sym (live_parts g image p (page_of g image p) live).entry ∙ number in
      record {
        page = page_of g image p;
        live = live;
        kind = ap (λ (b : Bool). not b) (lt-ltb (obj_id (page_of g image p)) 0x8000 (omega (arith, id_is, small)));
        id_is = id_is;
        span_is = sym (ap (λ (h : PageHeader). h.span) found.header) ∙ eqb-true head.span span w.0;
        apart = λ e. let bad : false ≡ true = rw (eq-eqb (block_of g p) block e) at w.1 in absurd (cc);
      }

-- ---- the copy of a page

module _ (g : Geometry) (was image : List ℕ) (block most : ℕ) (batch : Batch) (first : ℕ) (run : Run) (cs : List Carried) (has : HasCopies g was block most batch first run cs image) where
  abbrev c : Carries g was block most batch cs image
  c = has.so_far

  out_of : (x : Carried) → Contains cs x → IsOut g block (sort_at g was) (move_of x)
  out_of x one = all_at (IsOut g block (sort_at g was)) (moves_of cs) (move_of x) (outs g block (sort_at g was) (moves_of cs) c.carrying.ways) (mapped cs x one)

  -- the index page of the batch's file names a live data page of it
  named_at : (p : ℕ) (page : List ℕ) → live_at g was p ≡ Some page → names_index page ≡ false → obj_id page % 0x8000 ≡ batch.id → entry_number g (own (live_at g was) batch.id) c.beside.head (span_of page) ≡ Some p
  named_at p page live kind id =
      let mine : own (live_at g was) batch.id p ≡ Some page = subst (λ (n : ℕ). own (live_at g was) n p ≡ Some page) id (own_of (live_at g was) p page live) in
      (serves_data g (own (live_at g was) batch.id) c.beside.head page p mine kind (served g was c.is (neat_of c.can.tidy) batch.id c.beside.h c.beside.head c.beside.was_at c.beside.was_header p page mine)).1

  one_page : (p : ℕ) (page : List ℕ) → live_at g was p ≡ Some page → names_index page ≡ false → obj_id page % 0x8000 ≡ batch.id → (x : Carried) → Contains cs x → span_of page ≡ x.span → p ≡ x.from
  one_page p page live kind id x one span =
      let of = all_at (λ (d : Carried). IsOfBatch g was batch d.from d.span) cs x has.run_is.of one in
      let there = named_at p page live kind id in
      let here = named_at x.from of.page of.live of.kind of.id in
      let same : span_of page ≡ span_of of.page = span ∙ sym of.is_span in
      same_Some p x.from (sym there ∙ ap (entry_number g (own (live_at g was) batch.id) c.beside.head) same ∙ here)

  one_to : (m : Move) → Contains (moves_of cs) m → (x : Carried) → Contains cs x → m.from ≡ x.from → m.to ≡ x.to
  one_to m one = all_at (λ (n : Move). (x : Carried) → Contains cs x → n.from ≡ x.from → n.to ≡ x.to) (moves_of cs) m
      (All-map (λ (n : Move). (x : Carried) → Contains cs x → n.from ≡ x.from → n.to ≡ x.to) move_of cs
      (all_from (λ (d : Carried). (x : Carried) → Contains cs x → d.from ≡ x.from → d.to ≡ x.to) cs (λ d has_d. λ x has_x same. ap (λ (y : Carried). y.to) (one_from cs has.run_is.falls d x has_d has_x same))))
      one

  -- outside the block no other page has its id and span
  copy_is : (x : Carried) → Contains cs x → (p : ℕ) → batch.id ≤ 0x7FFE → IsCopyAt g image batch.id x.span block p → p ≡ x.to
  copy_is x one p small copy =
      let id : obj_id copy.page % 0x8000 ≡ batch.id = (let e = copy.id_is in omega (arith, e, small)) in
      ⊎_elim
      (λ (before : live_at g was p ≡ Some copy.page).
      let same : p ≡ x.from = one_page p copy.page before copy.kind id x one copy.span_is in
      absurd (copy.apart (ap (λ (k : ℕ). block_of g k) same ∙ (out_of x one).from)))
      (λ (come : HasCome g was (moves_of cs) p copy.page).
      let tag = come.tag in
      let same : come.move.from ≡ x.from = one_page come.move.from come.old come.from (sym tag.kind ∙ copy.kind) (sym tag.id ∙ id) x one (sym tag.span ∙ copy.span_is) in
      sym come.at ∙ one_to come.move come.one x one same)
      (c.carrying.way.live p copy.page copy.live)

  module _ (q : ℕ) (turn : IsTurnOf g block first run q) where
    -- a page that isn't of the batch has none
    pub name_idle : IsSpanOf g image batch q None → are_from cs q ≡ false
    name_idle none = ⊎_elim
        (λ (yes : are_from cs q ≡ true).
        let x = below_with q cs has.run_is.falls yes in
        let of = all_at (λ (d : Carried). IsOfBatch g was batch d.from d.span) cs x.0 has.run_is.of x.1 in
        absurd (none x.0.span (of_still g was image block most batch cs c q x.0.span (subst (λ (k : ℕ). IsOfBatch g was batch k x.0.span) x.2 of))))
        (λ (no : are_from cs q ≡ false). no)
        (cases_Bool (are_from cs q))

    module _ (span : ℕ) (of : IsOfBatch g image batch q span) (small : batch.id ≤ 0x7FFE) where
      was_of : IsOfBatch g was batch q span
      was_of = record { page = of.page; live = live_was g was image block most batch cs c q of.page turn.at of.live; kind = of.kind; id = of.id; is_span = of.is_span; at = of.at }

      -- it was carried
      carried : (x : Carried) × Contains cs x × (x.from ≡ q) × (below (q + 1) cs ≡ x ∷ below q cs)
      carried = below_with q cs has.run_is.falls (has.run_is.each q span turn.at turn.from turn.before was_of)

      span_same : span ≡ carried.0.span
      span_same =
          let there = all_at (λ (d : Carried). IsOfBatch g was batch d.from d.span) cs carried.0 has.run_is.of carried.1 in
          let live : live_at g was q ≡ Some there.page = ap (live_at g was) (sym carried.2) ∙ there.live in
          let same : was_of.page ≡ there.page = same_Some was_of.page there.page (sym was_of.live ∙ live) in
          sym was_of.is_span ∙ ap span_of same ∙ there.is_span

      -- its copy is found
      pub copy_there : IsCopyFrom g image batch.id span block 0 None → ⊥
      copy_there none =
          let x = carried.0 in
          let w = all_at (IsCarried g was image batch) cs x c.pages carried.1 in
          let low : obj_id w.of.page < 0x8000 = (let no = w.of.kind in grind arith) in
          let e = w.of.id in
          let f = w.copied.id in
          none x.to (omega arith) (record {
            page = w.copy;
            live = w.there;
            kind = w.copied.data_kind;
            id_is = omega (arith, e, f, low);
            span_is = w.copied.span ∙ w.of.is_span ∙ sym span_same;
            apart = (out_of x carried.1).apart;
          })

      -- and named
      pub name_on : (plain mid new : List ℕ) (to : ℕ) → IsCopyAt g image batch.id span block to → AreNamed g plain (below q cs) mid → IsNamed g span to mid new → AreNamed g plain (below (q + 1) cs) new
      name_on plain mid new to copy named one =
          names_on g plain mid new carried.0 (below q cs) (below (q + 1) cs) span to carried.3 span_same
          (copy_is carried.0 carried.1 to small (subst (λ (s : ℕ). IsCopyAt g image batch.id s block to) span_same copy)) named one

pub name_stays : (g : Geometry) (plain page : List ℕ) (q : ℕ) (cs : List Carried) → are_from cs q ≡ false → AreNamed g plain (below q cs) page → AreNamed g plain (below (q + 1) cs) page
name_stays g plain page q cs none named = subst (λ (ds : List Carried). AreNamed g plain ds page) (sym (below_without q cs none)) named

module _ (g : Geometry) (was image : List ℕ) (block most : ℕ) (batch : Batch) (first : ℕ) (run : Run) (cs : List Carried) (has : HasCopies g was block most batch first run cs image) where
  -- at first none is named
  pub names_begin : (plain : List ℕ) → AreNamed g plain (below first cs) plain
  unfolding AreNamed
  names_begin plain = rw (below_none first cs (λ k d low. (has.run_is.inside k d low).0)) refl

  -- and behind the last one all are
  pub names_end : (next : ℕ) (plain page : List ℕ) → run.end ≤ next → AreNamed g plain (below next cs) page → AreNamed g plain cs page
  names_end next plain page end named = subst (λ (ds : List Carried). AreNamed g plain ds page) (below_all next cs (λ k d low. let w = (has.run_is.inside k d low).1 in omega (arith, w, end))) named
