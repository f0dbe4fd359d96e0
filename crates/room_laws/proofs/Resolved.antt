-- Where the pages on their way are once the stages of a check are over.
use Rattle.std.proofs.Common.{◌≡◌, ◌≢◌, ℕ, zero, suc, ◌%◌, ◌⊎◌, List, [], ◌∷◌, true, false, ◌==◌, Option, Some, None, refl, sym, ◌∙◌, ap, subst, arith, ⊎_elim, inl, inr}
use Rattle.std.specs.Prelude.{All, Contains}
use Rattle.std.proofs.lemmas.Bool.{cases_Bool, eqb-true, ne_eqb, and_parts}
use Rattle.std.proofs.lemmas.Option.{same_Some, none-some}
use Rattle.geometry.specs.declared.geometry.Geometry.{Geometry}
use Rattle.image_model.specs.Headers.{obj_id, span_of, names_index}
use Rattle.image_model.specs.Places.{IsImage, entry_of, block_of, is_entry_page}
use Rattle.image_model.specs.Live.{live_at}
use Rattle.image_model.specs.Tables.{table_of}
use Rattle.image_model.specs.Tidy.{IsTidy, is_free_entry, TellsFree}
use Rattle.image_model.specs.Within.{page_number, block_number}
use Rattle.image_laws.proofs.Frames.{live_parts}
use Rattle.image_laws.proofs.StillFree.{live-used}
use Rattle.image_laws.proofs.Tally.{is_finished-ones}
use Rattle.image_laws.specs.Reindex.{slot_word}
use Rattle.image_model.specs.Files.{index_span}
use Rattle.room_laws.specs.Sorts.{Deleted, Free, sort_of_page, sort_at}
use Rattle.room_laws.specs.Tags.{SameTag}
use Rattle.room_laws.specs.Staged.{IsStaged}
use Rattle.room_laws.specs.Ways.{Move, HasCome, IsMove, AreApart, AreMoves, IsNoPlace, OnWay, Came, Stayed, Ends, IsAside, Resolves, WayResolves, IsNamedBy, IsRenamed, BatchResolves, BatchStays}
use Rattle.room_laws.proofs.Blocks.{unlive}
use Rattle.room_laws.proofs.Sorted.{tidy_tells_free}
use Rattle.room_laws.proofs.Tagged.{tags_are_once, tags_are_kept, tags_are_named}
use Rattle.room_laws.proofs.OnTheWay.{all_nil, all_cons, all_at, all_from, in_head, in_tail}

-- ---- sorts of entries

pub live_sort : (g : Geometry) (a : List ℕ) (p : ℕ) (x : List ℕ) → live_at g a p ≡ Some x → sort_at g a p ≡ sort_of_page (Some x)
unfolding sort_at
live_sort g a p x live =
    let w = live_parts g a p x live in
    let used : (entry_of g a p == 0xFFFF) ≡ false = ne_eqb (entry_of g a p) 0xFFFF (λ ones. let bad : false ≡ true = sym (is_finished-ones x (sym w.entry ∙ ones)) ∙ w.finished in absurd (cc)) in
    rw (used, live) refl

pub free_sort : (g : Geometry) (a : List ℕ) (p : ℕ) → is_free_entry g a p ≡ true → sort_at g a p ≡ Free
unfolding sort_at
free_sort g a p free = let ones : (entry_of g a p == 0xFFFF) ≡ true = (and_parts _ _ free).0 in rw ones refl

pub used_sort : (g : Geometry) (a : List ℕ) (p : ℕ) → TellsFree g a → is_entry_page g p ≡ true → is_free_entry g a p ≡ false → live_at g a p ≡ None → sort_at g a p ≡ Deleted
unfolding sort_at
used_sort g a p t page used dead = ⊎_elim
    (λ (ones : (entry_of g a p == 0xFFFF) ≡ true). let free = t.free p page (eqb-true _ 0xFFFF ones) in let bad : false ≡ true = sym used ∙ free in absurd (cc))
    (λ (none : (entry_of g a p == 0xFFFF) ≡ false). rw (none, dead) refl)
    (cases_Bool (entry_of g a p == 0xFFFF))

pub dead_sort : (g : Geometry) (a : List ℕ) (p : ℕ) → live_at g a p ≡ None → (sort_at g a p ≡ Deleted) ⊎ (sort_at g a p ≡ Free)
unfolding sort_at
dead_sort g a p dead = ⊎_elim
    (λ (ones : (entry_of g a p == 0xFFFF) ≡ true). inr (rw ones refl))
    (λ (none : (entry_of g a p == 0xFFFF) ≡ false). inl (rw (none, dead) refl))
    (cases_Bool (entry_of g a p == 0xFFFF))

pub free_dead : (g : Geometry) (a : List ℕ) (p : ℕ) → is_free_entry g a p ≡ true → live_at g a p ≡ None
free_dead g a p free = unlive g a p 0xFFFF (eqb-true _ 0xFFFF (and_parts _ _ free).0) (λ x id. is_finished-ones x id)

-- a live page or none
pub live_or : (o : Option (List ℕ)) → (o ≡ None) ⊎ ((x : List ℕ) × (o ≡ Some x))
live_or None = inl refl
live_or (Some x) = inr (x, refl)

-- ---- moves apart from each other

pub moves_each : (g : Geometry) (was : List ℕ) (moves : List Move) → AreMoves g was moves → All (IsMove g was) moves
unfolding AreMoves
moves_each g was [] are = all_nil (IsMove g was)
moves_each g was (m ∷ moves) are = all_cons (IsMove g was) m moves are.0 (moves_each g was moves are.2)

-- two of them with one end are one
abbrev IsOnce : Move → Move → Type 0
IsOnce m n = (m.from ≡ n.from → m.to ≡ n.to) × (m.to ≡ n.to → m.from ≡ n.from)

once_apart : (m n : Move) → AreApart m n → IsOnce m n
once_apart m n apart = (λ e. absurd (apart.from e), λ e. absurd (apart.to e))

once_back : (m n : Move) → AreApart m n → IsOnce n m
once_back m n apart = (λ e. absurd (apart.from (sym e)), λ e. absurd (apart.to (sym e)))

moves_once : (g : Geometry) (was : List ℕ) (moves : List Move) (m n : Move) → AreMoves g was moves → Contains moves m → Contains moves n → IsOnce m n
unfolding AreMoves
moves_once g was [] m n are a b = absurd (omega (arith, a.1))
moves_once g was (h ∷ moves) m n are (zero, low, at) (zero, low', at') = let same : m ≡ n = sym at ∙ at' in (λ e. ap (λ (z : Move). z.to) same, λ e. ap (λ (z : Move). z.from) same)
moves_once g was (h ∷ moves) m n are (zero, low, at) (suc k, low', at') = subst (λ (z : Move). IsOnce z n) at (once_apart h n (all_at (AreApart h) moves n are.1 (k, omega arith, at')))
moves_once g was (h ∷ moves) m n are (suc k, low, at) (zero, low', at') = subst (λ (z : Move). IsOnce m z) at' (once_back h m (all_at (AreApart h) moves m are.1 (k, omega arith, at)))
moves_once g was (h ∷ moves) m n are (suc k, low, at) (suc j, low', at') = moves_once g was moves m n are.2 (k, omega arith, at) (j, omega arith, at')

-- ---- where pages are

module _ (g : Geometry) (moves : List Move) (was image now : List ℕ) (is : IsImage g was) (t : IsTidy g was) (are : AreMoves g was moves) (way : OnWay g moves was image)
    (table : table_of g image ≡ table_of g was) (is_now : IsImage g now) (s : IsStaged g image now) where
  -- a live page that was one is so since, or is a copy at its place
  from_now : (p : ℕ) (x : List ℕ) → live_at g now p ≡ Some x → (live_at g was p ≡ Some x) ⊎ HasCome g was moves p x
  from_now p x live = ⊎_elim
      (λ (same : live_at g now p ≡ live_at g image p). way.live p x (sym same ∙ live))
      (λ (gone : live_at g now p ≡ None). absurd (none-some x (sym gone ∙ live)))
      (s.live p)

  free_now : (p : ℕ) → is_entry_page g p ≡ true → IsNoPlace moves p → is_free_entry g now p ≡ is_free_entry g was p
  free_now p page aside =
      s.free p page (way.magic (block_of g p) ∙ t.magic (block_of g p) (block_number g p (page_number g p page))) ∙ way.free p page aside

  same_table : table_of g now ≡ table_of g was
  same_table = s.table ∙ table

  -- the copy of a live page at its place
  record Arrives (p : ℕ) (x : List ℕ) : Type 0 where
    move : Move
    one : Contains moves move
    from : move.from ≡ p
    copy : List ℕ
    live : live_at g now move.to ≡ Some copy
    tag : SameTag x copy

  -- a live page is where it was, or has come to a place
  kept : (p : ℕ) (x : List ℕ) → live_at g was p ≡ Some x → (live_at g now p ≡ Some x) ⊎ Arrives p x
  kept p x live =
      let k = tags_are_kept g was now p x is is_now t s.tidy same_table live in
      ⊎_elim
      (λ (old : live_at g was k.0 ≡ Some k.1).
      let same : p ≡ k.0 = tags_are_once g was p k.0 x k.1 is t live old k.3 in
      let page : k.1 ≡ x = same_Some k.1 x (sym old ∙ ap (live_at g was) (sym same) ∙ live) in
      inl (ap (live_at g now) same ∙ k.2 ∙ ap (λ (y : List ℕ). Some y) page))
      (λ (come : HasCome g was moves k.0 k.1).
      let tag : SameTag x come.old = record { kind = sym come.tag.kind ∙ k.3.kind; id = sym come.tag.id ∙ k.3.id; span = sym come.tag.span ∙ k.3.span } in
      let same : p ≡ come.move.from = tags_are_once g was p come.move.from x come.old is t live come.from tag in
      inr (record { move = come.move; one = come.one; from = sym same; copy = k.1; live = ap (live_at g now) come.at ∙ k.2; tag = k.3 }))
      (from_now k.0 k.1 k.2)

  -- a live page is no place
  no_place : (p : ℕ) (x : List ℕ) → live_at g was p ≡ Some x → IsNoPlace moves p
  no_place p x live k m low same =
      let move = moves_each g was moves are k m low in
      let used = live-used g was p x live in
      let free = ap (is_free_entry g was) same ∙ move.free in
      let bad : false ≡ true = sym used ∙ free in absurd (cc)

  -- so the page at it, if there is one, is the one that was
  at_source : (p : ℕ) (x y : List ℕ) → live_at g was p ≡ Some x → live_at g now p ≡ Some y → y ≡ x
  at_source p x y live here = ⊎_elim
      (λ (old : live_at g was p ≡ Some y). same_Some y x (sym old ∙ live))
      (λ (come : HasCome g was moves p y). absurd (all_at (λ (m : Move). p ≢ m.to) moves come.move (no_place p x live) come.one (sym come.at)))
      (from_now p y here)

  -- ---- the two ends of a move

  -- the page is at one of them alone
  pub data Lands (m : Move) (page : List ℕ) : Type 0 where
    lands : live_at g now m.from ≡ None → (copy : List ℕ) → live_at g now m.to ≡ Some copy → SameTag page copy → Lands m page
    stays : live_at g now m.from ≡ Some page → live_at g now m.to ≡ None → Lands m page

  -- it is never at both
  not_both : (m : Move) (page copy : List ℕ) → Contains moves m → live_at g was m.from ≡ Some page → live_at g now m.from ≡ Some page → live_at g now m.to ≡ Some copy → SameTag page copy → ⊥
  not_both m page copy one live here there tag =
      let same = tags_are_once g now m.from m.to page copy is_now s.tidy here there tag in
      all_at (λ (n : Move). m.from ≢ n.to) moves m (no_place m.from page live) one same

  landing : (m : Move) (page : List ℕ) → Contains moves m → live_at g was m.from ≡ Some page → Lands m page
  landing m page one live = ⊎_elim
      (λ (here : live_at g now m.from ≡ Some page). stays here (⊎_elim
      (λ (none : live_at g now m.to ≡ None). none)
      (λ (some : (y : List ℕ) × (live_at g now m.to ≡ Some y)). ⊎_elim
      (λ (old : live_at g was m.to ≡ Some some.0).
      let free = (all_at (IsMove g was) moves m (moves_each g was moves are) one).free in
      absurd (none-some some.0 (sym (free_dead g was m.to free) ∙ old)))
      (λ (come : HasCome g was moves m.to some.0).
      let from = (moves_once g was moves come.move m are come.one one).1 come.at in
      let same : come.old ≡ page = same_Some come.old page (sym come.from ∙ ap (live_at g was) from ∙ live) in
      absurd (not_both m page some.0 one live here some.1 (subst (λ (z : List ℕ). SameTag z some.0) same come.tag)))
      (from_now m.to some.0 some.1))
      (live_or (live_at g now m.to))))
      (λ (a : Arrives m.from page).
      let to = (moves_once g was moves a.move m are a.one one).0 a.from in
      let there : live_at g now m.to ≡ Some a.copy = ap (live_at g now) (sym to) ∙ a.live in
      lands (⊎_elim
      (λ (none : live_at g now m.from ≡ None). none)
      (λ (some : (y : List ℕ) × (live_at g now m.from ≡ Some y)).
      let same = at_source m.from page some.0 live some.1 in
      absurd (not_both m page a.copy one live (some.1 ∙ ap (λ (z : List ℕ). Some z) same) there a.tag))
      (live_or (live_at g now m.from))) a.copy there a.tag)
      (kept m.from page live)

  same_sort_of : (x y : List ℕ) → SameTag x y → sort_of_page (Some y) ≡ sort_of_page (Some x)
  same_sort_of x y tag = rw tag.kind refl

  came : (m : Move) (page : List ℕ) → Contains moves m → live_at g was m.from ≡ Some page → live_at g now m.from ≡ None → (copy : List ℕ) → live_at g now m.to ≡ Some copy → SameTag page copy →
      Came (sort_at g was) (sort_at g now) m
  came m page one live gone copy there tag =
      let entry = (live_parts g was m.from page live).entry_page in
      let used = free_now m.from entry (no_place m.from page live) ∙ live-used g was m.from page live in
      (used_sort g now m.from (tidy_tells_free g now s.tidy) entry used gone, live_sort g now m.to copy there ∙ same_sort_of page copy tag ∙ sym (live_sort g was m.from page live))

  stayed : (m : Move) (page : List ℕ) → live_at g was m.from ≡ Some page → live_at g now m.from ≡ Some page → live_at g now m.to ≡ None → Stayed (sort_at g was) (sort_at g now) m
  stayed m page live here none = (live_sort g now m.from page here ∙ sym (live_sort g was m.from page live), dead_sort g now m.to none)

  ends_by : (m : Move) (page : List ℕ) → Contains moves m → live_at g was m.from ≡ Some page → Lands m page → Ends (sort_at g was) (sort_at g now) m
  ends_by m page one live (lands gone copy there tag) = inl (came m page one live gone copy there tag)
  ends_by m page one live (stays here none) = inr (stayed m page live here none)

  ends : (m : Move) → Contains moves m → Ends (sort_at g was) (sort_at g now) m
  ends m one = let move = all_at (IsMove g was) moves m (moves_each g was moves are) one in ends_by m move.page one move.live (landing m move.page one move.live)

  aside_place : (p : ℕ) → IsAside moves p → IsNoPlace moves p
  aside_place p aside k m low = (aside k m low).1

  -- ---- all other entries

  others_same : (p : ℕ) → is_entry_page g p ≡ true → IsAside moves p → sort_at g now p ≡ sort_at g was p
  others_same p page aside = ⊎_elim
      (λ (dead : live_at g was p ≡ None).
      let dead_now : live_at g now p ≡ None = ⊎_elim
      (λ (none : live_at g now p ≡ None). none)
      (λ (some : (y : List ℕ) × (live_at g now p ≡ Some y)). ⊎_elim
      (λ (old : live_at g was p ≡ Some some.0). absurd (none-some some.0 (sym dead ∙ old)))
      (λ (come : HasCome g was moves p some.0). absurd ((all_at (λ (m : Move). (p ≢ m.from) × (p ≢ m.to)) moves come.move aside come.one).1 (sym come.at)))
      (from_now p some.0 some.1))
      (live_or (live_at g now p)) in
      let free = free_now p page (aside_place p aside) in
      ⊎_elim
      (λ (yes : is_free_entry g was p ≡ true). free_sort g now p (free ∙ yes) ∙ sym (free_sort g was p yes))
      (λ (no : is_free_entry g was p ≡ false).
      used_sort g now p (tidy_tells_free g now s.tidy) page (free ∙ no) dead_now ∙ sym (used_sort g was p (tidy_tells_free g was t) page no dead))
      (cases_Bool (is_free_entry g was p)))
      (λ (live : (x : List ℕ) × (live_at g was p ≡ Some x)). ⊎_elim
      (λ (here : live_at g now p ≡ Some live.0). live_sort g now p live.0 here ∙ sym (live_sort g was p live.0 live.1))
      (λ (a : Arrives p live.0). absurd ((all_at (λ (m : Move). (p ≢ m.from) × (p ≢ m.to)) moves a.move aside a.one).0 (sym a.from)))
      (kept p live.0 live.1))
      (live_or (live_at g was p))

  pub resolved : Resolves g moves (sort_at g was) (sort_at g now)
  resolved = record { each = all_from (Ends (sort_at g was) (sort_at g now)) moves ends; others = others_same }

  -- ---- batches

  -- the index page at a place names a move's data page where that is
  reads : (w p : ℕ) (index x y : List ℕ) → live_at g now w ≡ Some index → names_index index ≡ true → obj_id index % 0x8000 ≡ obj_id x % 0x8000 → span_of index ≡ index_span g (span_of x) →
      live_at g now p ≡ Some y → SameTag x y → names_index x ≡ false → slot_word g index (span_of x) ≡ p
  reads w p index x y there kind id span here tag data_page =
      let n = tags_are_named g now p w y index is_now s.tidy here (tag.kind ∙ data_page) there kind (id ∙ sym tag.id) (span ∙ ap (index_span g) (sym tag.span)) in
      ap (slot_word g index) (sym tag.span) ∙ n

  apart : (m : Move) (page : List ℕ) → Contains moves m → live_at g was m.from ≡ Some page → m.from ≡ m.to → ⊥
  apart m page one live same = all_at (λ (n : Move). m.from ≢ n.to) moves m (no_place m.from page live) one same

  -- while the old index page is live the data pages stay
  stays_by : (w : ℕ) (index : List ℕ) → live_at g was w ≡ Some index → live_at g now w ≡ Some index → names_index index ≡ true → (m : Move) → Contains moves m → (n : IsNamedBy g was index m) →
      Lands m n.page → Stayed (sort_at g was) (sort_at g now) m
  stays_by w index was_index there kind m one n (stays here none) = stayed m n.page n.live here none
  stays_by w index was_index there kind m one n (lands gone copy at tag) =
      let to = reads w m.to index n.page copy there kind n.id n.span at tag n.kind in
      let from = tags_are_named g was m.from w n.page index is t n.live n.kind was_index kind n.id n.span in
      absurd (apart m n.page one n.live (sym from ∙ to))

  -- and once its copy is they have come
  came_by : (ix : Move) (index copy : List ℕ) → live_at g now ix.to ≡ Some copy → SameTag index copy → names_index index ≡ true → (m : Move) → Contains moves m → (n : IsNamedBy g was index m) →
      IsRenamed g was image ix.to m → Lands m n.page → Came (sort_at g was) (sort_at g now) m
  came_by ix index copy there same kind m one n renamed (lands gone page at tag) = came m n.page one n.live gone page at tag
  came_by ix index copy there same kind m one n renamed (stays here none) =
      let mine : SameTag n.page n.page = record { kind = refl; id = refl; span = refl } in
      let from = reads ix.to m.from copy n.page n.page there (same.kind ∙ kind) (same.id ∙ n.id) (same.span ∙ n.span) here mine n.kind in
      let held : live_at g image ix.to ≡ Some copy = ⊎_elim
      (λ (old : live_at g now ix.to ≡ live_at g image ix.to). sym old ∙ there)
      (λ (gone : live_at g now ix.to ≡ None). absurd (none-some copy (sym gone ∙ there)))
      (s.live ix.to) in
      absurd (apart m n.page one n.live (sym from ∙ renamed n.page copy n.live held))

  -- the old index page stays where no move begins at it
  index_stays : (at : ℕ) (index : List ℕ) → live_at g was at ≡ Some index → names_index index ≡ true → All (IsNamedBy g was index) moves → live_at g now at ≡ Some index
  index_stays at index live kind names = ⊎_elim
      (λ (here : live_at g now at ≡ Some index). here)
      (λ (a : Arrives at index).
      let n = all_at (IsNamedBy g was index) moves a.move names a.one in
      let same : n.page ≡ index = same_Some n.page index (sym n.live ∙ ap (live_at g was) a.from ∙ live) in
      let bad : true ≡ false = sym kind ∙ ap names_index (sym same) ∙ n.kind in absurd (cc))
      (kept at index live)

  all_stay : (at : ℕ) (index : List ℕ) → live_at g was at ≡ Some index → names_index index ≡ true → All (IsNamedBy g was index) moves → All (Stayed (sort_at g was) (sort_at g now)) moves
  all_stay at index live kind names =
      let here = index_stays at index live kind names in
      all_from (Stayed (sort_at g was) (sort_at g now)) moves (λ m one. let n = all_at (IsNamedBy g was index) moves m names one in stays_by at index live here kind m one n (landing m n.page one n.live))

  -- how all moves of a batch end, by its index page
  batch_ends : (ix : Move) (ms : List Move) (index : List ℕ) → ((m : Move) → Contains ms m → Contains moves m) → Contains moves ix → live_at g was ix.from ≡ Some index → names_index index ≡ true →
      All (IsNamedBy g was index) ms → All (IsRenamed g was image ix.to) ms → Lands ix index →
      (Came (sort_at g was) (sort_at g now) ix × All (Came (sort_at g was) (sort_at g now)) ms) ⊎ (Stayed (sort_at g was) (sort_at g now) ix × All (Stayed (sort_at g was) (sort_at g now)) ms)
  batch_ends ix ms index within one live kind names renamed (lands gone copy there tag) = inl (
    came ix index one live gone copy there tag,
    all_from (Came (sort_at g was) (sort_at g now)) ms (λ m has. let n = all_at (IsNamedBy g was index) ms m names has in
        came_by ix index copy there tag kind m (within m has) n (all_at (IsRenamed g was image ix.to) ms m renamed has) (landing m n.page (within m has) n.live)),
  )
  batch_ends ix ms index within one live kind names renamed (stays here none) = inr (
    stayed ix index live here none,
    all_from (Stayed (sort_at g was) (sort_at g now)) ms (λ m has. let n = all_at (IsNamedBy g was index) ms m names has in
        stays_by ix.from index live here kind m (within m has) n (landing m n.page (within m has) n.live)),
  )

pub way_resolves : (g : Geometry) → WayResolves g
way_resolves g moves was image now is t are way table is_now s = resolved g moves was image now is t are way table is_now s

pub batch_resolves : (g : Geometry) → BatchResolves g
batch_resolves g index moves was image now is t are way table batch is_now s =
    let one = in_head index moves in
    let e = batch_ends g (index ∷ moves) was image now is t are way table is_now s index moves batch.page (λ m has. in_tail index m moves has) one batch.live batch.kind batch.named batch.renamed
    (landing g (index ∷ moves) was image now is t are way table is_now s index batch.page one batch.live) in
    ⊎_elim
    (λ c. inl (all_cons (Came (sort_at g was) (sort_at g now)) index moves c.0 c.1))
    (λ c. inr (all_cons (Stayed (sort_at g was) (sort_at g now)) index moves c.0 c.1))
    e

pub batch_stays : (g : Geometry) → BatchStays g
batch_stays g at page moves was image now is t are way table live kind named is_now s = all_stay g moves was image now is t are way table is_now s at page live kind named
