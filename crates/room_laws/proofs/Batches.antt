-- Batches of data pages that go out of a block, by what entries count as.
use Rattle.std.proofs.Common.{◌≡◌, ◌≢◌, ℕ, suc, ◌+◌, ◌-◌, ◌<◌, ◌⊎◌, List, [], ◌∷◌, length, true, refl, sym, ◌∙◌, ap, subst, arith, ⊎_elim, inl, inr}
use Rattle.std.specs.Prelude.{All, Contains}
use Rattle.std.proofs.lemmas.Bool.{cases_eq}
use Rattle.geometry.specs.declared.geometry.Geometry.{Geometry}
use Rattle.geometry.specs.Numbers.{entries}
use Rattle.image_model.specs.Places.{block_of, is_entry_page}
use Rattle.image_model.specs.Within.{page_number, block_number}
use Rattle.image_laws.proofs.Frames.{live_parts}
use Rattle.room_laws.specs.Counts.{Counts, IsBlock, Kind, unused, for_index, for_data, kind_of}
use Rattle.room_laws.specs.Volume.{free_of}
use Rattle.room_laws.specs.Sorts.{Sort, Data, Deleted, Free, sort_at, counts_by, others_by, beside, with_sort, IsPlaceBy}
use Rattle.room_laws.specs.Ways.{Move, IsMove, AreApart, AreMoves, IsAside}
use Rattle.room_laws.specs.Recovery.{EmptyingTo, with_data, ArePagesWay}
use Rattle.room_laws.proofs.Moves.{kind-data}
use Rattle.room_laws.proofs.Puts.{PutTells, put-data}
use Rattle.room_laws.proofs.Sorted.{with-here, with-there, sorts_are_counted, other_sorts_stay, place_can_put}
use Rattle.room_laws.proofs.SortSteps.{others_alike, place_alike, data_put, data_out_is, data_in_own, data_out}
use Rattle.room_laws.proofs.OnTheWay.{all_nil, all_cons, all_at, all_from}

-- a data page that leaves the block
pub record IsOut (g : Geometry) (block : ℕ) (sorts : ℕ → Sort) (m : Move) : Type 0 where
  pub from : block_of g m.from ≡ block
  pub sort : sorts m.from ≡ Data
  pub entry : is_entry_page g m.to ≡ true
  pub apart : block_of g m.to ≢ block
  pub free : sorts m.to ≡ Free

-- what is free with copies at their places is so without them, and none of these
pub free_back : (sorts : ℕ → Sort) (ms : List Move) (p : ℕ) → with_data ms sorts p ≡ Free → (sorts p ≡ Free) × All (λ (m : Move). p ≢ m.to) ms
free_back sorts [] p free = (free, all_nil (λ (m : Move). p ≢ m.to))
free_back sorts (m ∷ ms) p free = ⊎_elim
    (λ (here : p ≡ m.to). let bad : Data ≡ Free = sym (ap (with_sort m.to Data (with_data ms sorts)) here ∙ with-here (with_data ms sorts) m.to Data) ∙ free in absurd (cc))
    (λ (there : p ≡ m.to → ⊥).
    let rest = free_back sorts ms p (sym (with-there (with_data ms sorts) m.to p Data there) ∙ free) in
    (rest.0, all_cons (λ (n : Move). p ≢ n.to) m ms there rest.1))
    (cases_eq p m.to)

pub outs : (g : Geometry) (block : ℕ) (sorts : ℕ → Sort) (ms : List Move) → ArePagesWay g block sorts ms → All (IsOut g block sorts) ms
unfolding ArePagesWay
outs g block sorts [] ways = all_nil (IsOut g block sorts)
outs g block sorts (m ∷ ms) ways =
    all_cons (IsOut g block sorts) m ms
    (record { from = ways.0; sort = ways.1; entry = ways.2.entry; apart = ways.2.apart; free = (free_back sorts ms m.to ways.2.free).0 })
    (outs g block sorts ms ways.3)

-- what pages count as once their copies are at their places and they are gone
abbrev pub moved : List Move → (ℕ → Sort) → ℕ → Sort
moved [] sorts = sorts
moved (m ∷ ms) sorts = with_sort m.from Deleted (with_sort m.to Data (moved ms sorts))

pub moved_aside : (sorts : ℕ → Sort) (ms : List Move) (p : ℕ) → IsAside ms p → moved ms sorts p ≡ sorts p
moved_aside sorts [] p aside = refl
moved_aside sorts (m ∷ ms) p aside =
    let here = aside 0 m (omega arith) in
    with-there (with_sort m.to Data (moved ms sorts)) m.from p Deleted here.0 ∙ with-there (moved ms sorts) m.to p Data here.1 ∙ moved_aside sorts ms p (λ k d low. aside (suc k) d (omega arith))

-- where all have come each page counts so
pub moved_same : (sorts now : ℕ → Sort) (ms : List Move) (p : ℕ) → All (λ (m : Move). (now m.from ≡ Deleted) × (now m.to ≡ Data)) ms → (IsAside ms p → now p ≡ sorts p) → now p ≡ moved ms sorts p
moved_same sorts now [] p came others = others (all_nil (λ (m : Move). (p ≢ m.from) × (p ≢ m.to)))
moved_same sorts now (m ∷ ms) p came others =
    let c = came 0 m (omega arith) in
    ⊎_elim
    (λ (here : p ≡ m.from). ap now here ∙ c.0 ∙ sym (ap (with_sort m.from Deleted (with_sort m.to Data (moved ms sorts))) here ∙ with-here (with_sort m.to Data (moved ms sorts)) m.from Deleted))
    (λ (there : p ≡ m.from → ⊥). ⊎_elim
    (λ (to : p ≡ m.to). ap now to ∙ c.1 ∙ sym (with-there (with_sort m.to Data (moved ms sorts)) m.from p Deleted there ∙ ap (with_sort m.to Data (moved ms sorts)) to ∙ with-here (moved ms sorts) m.to Data))
    (λ (away : p ≡ m.to → ⊥).
    let rest = moved_same sorts now ms p (λ k d low. came (suc k) d (omega arith)) (λ aside. others (all_cons (λ (n : Move). (p ≢ n.from) × (p ≢ n.to)) m ms (there, away) aside)) in
    rest ∙ sym (with-there (with_sort m.to Data (moved ms sorts)) m.from p Deleted there ∙ with-there (moved ms sorts) m.to p Data away))
    (cases_eq p m.to))
    (cases_eq p m.from)

module _ (g : Geometry) (block : ℕ) (low : block < g.blocks) (was : List ℕ) where
  -- outside the block only the copies tell
  pub moved_outside : (ms : List Move) → ArePagesWay g block (sort_at g was) ms → (p : ℕ) → is_entry_page g p ≡ true → block_of g p ≢ block → moved ms (sort_at g was) p ≡ with_data ms (sort_at g was) p
  unfolding ArePagesWay
  moved_outside [] ways p page out = refl
  moved_outside (m ∷ ms) ways p page out =
      let there : p ≡ m.from → ⊥ = λ e. out (ap (λ (q : ℕ). block_of g q) e ∙ ways.0) in
      with-there (with_sort m.to Data (moved ms (sort_at g was))) m.from p Deleted there ∙ ⊎_elim
      (λ (here : p ≡ m.to).
      ap (with_sort m.to Data (moved ms (sort_at g was))) here ∙ with-here (moved ms (sort_at g was)) m.to Data
      ∙ sym (ap (with_sort m.to Data (with_data ms (sort_at g was))) here ∙ with-here (with_data ms (sort_at g was)) m.to Data))
      (λ (away : p ≡ m.to → ⊥).
      with-there (moved ms (sort_at g was)) m.to p Data away ∙ moved_outside ms ways.3 p page out ∙ sym (with-there (with_data ms (sort_at g was)) m.to p Data away))
      (cases_eq p m.to)

  -- the place where a page began is none of the others' ends
  from_aside : (m : Move) (ms : List Move) → block_of g m.from ≡ block → All (IsOut g block (sort_at g was)) ms → All (AreApart m) ms → IsAside ms m.from
  from_aside m ms at out apart = all_from (λ (n : Move). (m.from ≢ n.from) × (m.from ≢ n.to)) ms (λ n has.
      ((all_at (AreApart m) ms n apart has).from, λ e. (all_at (IsOut g block (sort_at g was)) ms n out has).apart (ap (λ (q : ℕ). block_of g q) (sym e) ∙ at)))

  from_page : (m : Move) → IsMove g was m → is_entry_page g m.from ≡ true
  from_page m move = (live_parts g was m.from move.page move.live).entry_page

  -- the data pages that left, and how many pages are left
  pub record AllOut (first : List ℕ) (ms : List Move) : Type 0 where
    pub emptying : EmptyingTo g first block (moved ms (sort_at g was)) (length ms)
    pub pages : (counts_by g (moved ms (sort_at g was)) block).pages + length ms ≡ (counts_by g (sort_at g was) block).pages
    pub index : (counts_by g (moved ms (sort_at g was)) block).index ≡ (counts_by g (sort_at g was) block).index

  pub all_out : (first : List ℕ) (ms : List Move) → AreMoves g was ms → ArePagesWay g block (sort_at g was) ms → EmptyingTo g first block (sort_at g was) 0 → AllOut first ms
  unfolding ArePagesWay AreMoves
  all_out first [] are ways start = record { emptying = start; pages = omega arith; index = refl }
  all_out first (m ∷ ms) are ways start =
      let rest = all_out first ms are.2 ways.3 start in
      let page = from_page m are.0 in
      let still : moved ms (sort_at g was) m.from ≡ Data = moved_aside (sort_at g was) ms m.from (from_aside m ms ways.0 (outs g block (sort_at g was) ms ways.3) are.1) ∙ ways.1 in
      let place = place_alike g block low (with_data ms (sort_at g was)) (moved ms (sort_at g was)) for_data m.to (moved_outside ms ways.3) ways.2 in
      let next = data_out g block low first (moved ms (sort_at g was)) (length ms) m.from m.to rest.emptying page ways.0 still place in
      let own = (data_out_is g block low (moved ms (sort_at g was)) m.from m.to page ways.0 still place).0 in
      let some = data_in_own g block low (moved ms (sort_at g was)) m.from page ways.0 still in
      let pages : (counts_by g (moved (m ∷ ms) (sort_at g was)) block).pages ≡ (counts_by g (moved ms (sort_at g was)) block).pages - 1 = ap (λ (c : Counts). c.pages) own in
      record {
        emptying = subst (λ (n : ℕ). EmptyingTo g first block (moved (m ∷ ms) (sort_at g was)) n) (omega arith) next;
        pages = omega (arith, pages, some, rest.pages);
        index = ap (λ (c : Counts). c.index) own ∙ rest.index;
      }

  -- ---- blocks that are opened

  -- a block for index pages takes none of them
  index_kept : (ms : List Move) → ArePagesWay g block (sort_at g was) ms → (b : ℕ) → b < g.blocks → kind_of (counts_by g (sort_at g was) b) ≡ for_index →
      (kind_of (counts_by g (with_data ms (sort_at g was)) b) ≡ for_index) × All (λ (m : Move). block_of g m.to ≢ b) ms
  unfolding ArePagesWay
  index_kept [] ways b there kind = (kind, all_nil (λ (m : Move). block_of g m.to ≢ b))
  index_kept (m ∷ ms) ways b there kind =
      let rest = index_kept ms ways.3 b there kind in
      let away : block_of g m.to ≢ b = λ e. ⊎_elim
      (λ (data_kind : kind_of (counts_by g (with_data ms (sort_at g was)) (block_of g m.to)) ≡ for_data).
      let bad : for_index ≡ for_data = sym rest.0 ∙ ap (λ (c : ℕ). kind_of (counts_by g (with_data ms (sort_at g was)) c)) (sym e) ∙ data_kind in absurd (cc))
      (λ none.
      let bad : for_index ≡ unused = sym rest.0 ∙ ap (λ (c : ℕ). kind_of (counts_by g (with_data ms (sort_at g was)) c)) (sym e) ∙ none.0 in absurd (cc))
      ways.2.rule in
      (ap kind_of (other_sorts_stay g (with_data ms (sort_at g was)) Data m.to b ways.2.entry there away) ∙ rest.0, all_cons (λ (n : Move). block_of g n.to ≢ b) m ms away rest.1)

  -- a block that isn't for data pages once they are there took none of them
  pub not_data_back : (ms : List Move) → ArePagesWay g block (sort_at g was) ms → (b : ℕ) → b < g.blocks → (kind_of (counts_by g (with_data ms (sort_at g was)) b) ≡ for_data → ⊥) →
      (counts_by g (with_data ms (sort_at g was)) b ≡ counts_by g (sort_at g was) b) × All (λ (m : Move). block_of g m.to ≢ b) ms
  unfolding ArePagesWay
  not_data_back [] ways b there none = (refl, all_nil (λ (m : Move). block_of g m.to ≢ b))
  not_data_back (m ∷ ms) ways b there none =
      let away : block_of g m.to ≢ b = λ e.
      let held = (sorts_are_counted g (with_data (m ∷ ms) (sort_at g was)) m.to ways.2.entry).pages (with-here (with_data ms (sort_at g was)) m.to Data) in
      let kind = kind-data (counts_by g (with_data (m ∷ ms) (sort_at g was)) (block_of g m.to)) held in
      none (ap (λ (c : ℕ). kind_of (counts_by g (with_data (m ∷ ms) (sort_at g was)) c)) (sym e) ∙ kind) in
      let same = other_sorts_stay g (with_data ms (sort_at g was)) Data m.to b ways.2.entry there away in
      let rest = not_data_back ms ways.3 b there (λ kind. none (ap kind_of same ∙ kind)) in
      (same ∙ rest.0, all_cons (λ (n : Move). block_of g n.to ≢ b) m ms away rest.1)

  -- Data pages all go into data blocks, or one opens an unused block, and then the places in data blocks were too few.
  pub data Opening (ms : List Move) : Type 0 where
    inside : All (λ (m : Move). kind_of (counts_by g (sort_at g was) (block_of g m.to)) ≡ for_data) ms →
        ((b : ℕ) → b < g.blocks → b ≢ block → kind_of (counts_by g (with_data ms (sort_at g was)) b) ≡ kind_of (counts_by g (sort_at g was) b)) →
        free_of for_data (others_by g (with_data ms (sort_at g was)) block) + length ms ≡ free_of for_data (others_by g (sort_at g was) block) → Opening ms
    opened : free_of for_data (others_by g (sort_at g was) block) < length ms → Opening ms

  -- one more
  opening_more : (m : Move) (ms : List Move) → IsPlaceBy g (with_data ms (sort_at g was)) block for_data m.to →
      PutTells (entries g) (others_by g (with_data ms (sort_at g was)) block) (others_by g (with_data (m ∷ ms) (sort_at g was)) block) for_data for_index → Opening ms → Opening (m ∷ ms)
  opening_more m ms place tells (opened few) = opened (omega (arith, few))
  opening_more m ms place tells (inside all kinds free) = ⊎_elim
      (λ (data_kind : kind_of (counts_by g (with_data ms (sort_at g was)) (block_of g m.to)) ≡ for_data).
      let there = block_number g m.to (page_number g m.to place.entry) in
      let was_data = sym (kinds (block_of g m.to) there place.apart) ∙ data_kind in
      ⊎_elim
      (λ own. inside (all_cons (λ (n : Move). kind_of (counts_by g (sort_at g was) (block_of g n.to)) ≡ for_data) m ms was_data all)
      (λ b below out. ⊎_elim
      (λ (here : block_of g m.to ≡ b).
      let held = (sorts_are_counted g (with_data (m ∷ ms) (sort_at g was)) m.to place.entry).pages (with-here (with_data ms (sort_at g was)) m.to Data) in
      subst (λ (c : ℕ). kind_of (counts_by g (with_data (m ∷ ms) (sort_at g was)) c) ≡ kind_of (counts_by g (sort_at g was) c)) here
      (kind-data (counts_by g (with_data (m ∷ ms) (sort_at g was)) (block_of g m.to)) held ∙ sym was_data))
      (λ (away : block_of g m.to ≡ b → ⊥). ap kind_of (other_sorts_stay g (with_data ms (sort_at g was)) Data m.to b place.entry below away) ∙ kinds b below out)
      (cases_eq (block_of g m.to) b))
      (omega (arith, own.2, free)))
      (λ own. opened (omega (arith, own.2, free)))
      tells.own)
      (λ none. opened (omega (arith, none.1, free)))
      place.rule

  module _ (first : List ℕ) (start : EmptyingTo g first block (sort_at g was) 0) where
    -- the blocks with copies in them are blocks
    pub blocks_with : (ms : List Move) → AreMoves g was ms → ArePagesWay g block (sort_at g was) ms → All (IsBlock (entries g)) (others_by g (with_data ms (sort_at g was)) block)
    blocks_with ms are ways =
        subst (λ (s : List Counts). All (IsBlock (entries g)) s) (sym (others_alike g block low (moved ms (sort_at g was)) (with_data ms (sort_at g was)) (λ p page out. sym (moved_outside ms ways p page out))))
        (all_out first ms are ways start).emptying.reached.blocks

    put_tells : (m : Move) (ms : List Move) → AreMoves g was ms → ArePagesWay g block (sort_at g was) ms → IsPlaceBy g (with_data ms (sort_at g was)) block for_data m.to →
        PutTells (entries g) (others_by g (with_data ms (sort_at g was)) block) (others_by g (with_data (m ∷ ms) (sort_at g was)) block) for_data for_index
    put_tells m ms are ways place =
        subst (λ (t : List Counts). PutTells (entries g) (others_by g (with_data ms (sort_at g was)) block) t for_data for_index)
        (sym (data_put g block low (with_data ms (sort_at g was)) m.to place.entry place.apart place.free))
        (put-data (entries g) (others_by g (with_data ms (sort_at g was)) block) (beside block (block_of g m.to)) (counts_by g (with_data ms (sort_at g was)) (block_of g m.to)) (blocks_with ms are ways)
        (place_can_put g (with_data ms (sort_at g was)) block for_data m.to low place))

    pub opening : (ms : List Move) → AreMoves g was ms → ArePagesWay g block (sort_at g was) ms → Opening ms
    unfolding ArePagesWay AreMoves
    opening [] are ways = inside (all_nil (λ (m : Move). kind_of (counts_by g (sort_at g was) (block_of g m.to)) ≡ for_data)) (λ b below out. refl) (omega arith)
    opening (m ∷ ms) are ways = opening_more m ms ways.2 (put_tells m ms are.2 ways.3 ways.2) (opening ms are.2 ways.3)

    -- they take no place for index pages
    index_free_stays : (ms : List Move) → AreMoves g was ms → ArePagesWay g block (sort_at g was) ms → free_of for_index (others_by g (with_data ms (sort_at g was)) block) ≡ free_of for_index (others_by g (sort_at g was) block)
    unfolding ArePagesWay AreMoves
    index_free_stays [] are ways = refl
    index_free_stays (m ∷ ms) are ways = (put_tells m ms are.2 ways.3 ways.2).other_free ∙ index_free_stays ms are.2 ways.3

    -- so a place for an index page was one
    pub index_place_back : (ms : List Move) → AreMoves g was ms → ArePagesWay g block (sort_at g was) ms → (to : ℕ) → IsPlaceBy g (with_data ms (sort_at g was)) block for_index to →
        IsPlaceBy g (sort_at g was) block for_index to × All (λ (m : Move). block_of g m.to ≢ block_of g to) ms × All (λ (m : Move). to ≢ m.to) ms
    index_place_back ms are ways to place =
        let there = block_number g to (page_number g to place.entry) in
        let none : kind_of (counts_by g (with_data ms (sort_at g was)) (block_of g to)) ≡ for_data → ⊥ = λ kind. ⊎_elim
        (λ (index : kind_of (counts_by g (with_data ms (sort_at g was)) (block_of g to)) ≡ for_index). let bad : for_index ≡ for_data = sym index ∙ kind in absurd (cc))
        (λ un. let bad : unused ≡ for_data = sym un.0 ∙ kind in absurd (cc))
        place.rule in
        let back = not_data_back ms ways (block_of g to) there none in
        let same = index_free_stays ms are ways in
        let free = free_back (sort_at g was) ms to place.free in
        (record { entry = place.entry; apart = place.apart; free = free.0; rule = rw (sym back.0, sym same) place.rule }, back.1, free.1)

  -- each of them went into a data block or an unused one
  pub kinds_of : (ms : List Move) → ArePagesWay g block (sort_at g was) ms → (m : Move) → Contains ms m →
      (kind_of (counts_by g (sort_at g was) (block_of g m.to)) ≡ for_data) ⊎ (kind_of (counts_by g (sort_at g was) (block_of g m.to)) ≡ unused)
  kinds_of ms ways m has = by (kind_of (counts_by g (sort_at g was) (block_of g m.to))) refl
    where
      by : (k : Kind) → kind_of (counts_by g (sort_at g was) (block_of g m.to)) ≡ k → (kind_of (counts_by g (sort_at g was) (block_of g m.to)) ≡ for_data) ⊎ (kind_of (counts_by g (sort_at g was) (block_of g m.to)) ≡ unused)
      by unused e = inr e
      by for_data e = inl e
      by for_index e =
          let out = all_at (IsOut g block (sort_at g was)) ms m (outs g block (sort_at g was) ms ways) has in
          absurd (all_at (λ (n : Move). block_of g n.to ≢ block_of g m.to) ms m (index_kept ms ways (block_of g m.to) (block_number g m.to (page_number g m.to out.entry)) e).1 has refl)
