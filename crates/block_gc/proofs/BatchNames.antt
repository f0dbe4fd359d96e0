-- The index page of a batch with the names of all pages that were carried leads to the same file.
use Rattle.std.proofs.Common.{◌≡◌, ◌≢◌, ℕ, ◌+◌, ◌-◌, ◌*◌, ◌/◌, ◌%◌, ◌<◌, ◌≤◌, ◌⊎◌, List, [], ◌∷◌, length, set, slice_index, slice_range, Bool, true, false, ◌==◌, ◌||◌, Option, Some, ap, refl, sym, ◌∙◌, arith, ⊎_elim, inl, inr, subst, length-set, get_or-set_same, get_or-set_other}
use Rattle.std.specs.Prelude.{All, Contains, unwrap_or}
use Rattle.std.proofs.lemmas.Bool.{cases_eq, or_cases, eq-eqb, eqb-true}
use Rattle.std.proofs.lemmas.Option.{same_Some}
use Rattle.geometry.specs.declared.geometry.Geometry.{Geometry}
use Rattle.table_model.specs.Table.{File}
use Rattle.table_model.specs.Room.{data_pages}
use Rattle.nor_core.specs.Flash.{SameOutside}
use Rattle.page_layout.proofs.Stays.{word_stays}
use Rattle.image_model.specs.Headers.{size_of, span_of}
use Rattle.image_model.specs.Live.{Live}
use Rattle.image_model.specs.Files.{entry_number, data_of, data_page, span_bytes, slot_at, index_span}
use Rattle.image_laws.specs.Reindex.{Reindexes, slot_word, now_data}
use Rattle.room_laws.proofs.OnTheWay.{all_head, all_tail, all_at, all_cons, all_nil, in_head, in_tail}
use Rattle.page_renew.specs.Built.{IsNamed}
use Rattle.page_renew.proofs.SlotNames.{slot_word_at, slot_behind, other_word, named_leads, named_spans}
use Rattle.block_gc.specs.Batches.{Carried}
use Rattle.block_gc.specs.Batches.{are_from, are_to, AreNamed}
use Rattle.block_gc.proofs.Replacing.{set_outside, set_inside}

-- ---- lists

pub to_one : (cs : List Carried) (r : ℕ) → are_to cs r ≡ true → (c : Carried) × Contains cs c × (r ≡ c.to)
to_one [] r e = absurd (cc)
to_one (c ∷ cs) r e = ⊎_elim
    (λ (rest : are_to cs r ≡ true). let x = to_one cs r rest in (x.0, in_tail c x.0 cs x.1, x.2))
    (λ (here : (r == c.to) ≡ true). (c, in_head c cs, eqb-true r c.to here))
    (or_cases (are_to cs r) (r == c.to) e)

pub from_one : (cs : List Carried) (r : ℕ) → are_from cs r ≡ true → (c : Carried) × Contains cs c × (r ≡ c.from)
from_one [] r e = absurd (cc)
from_one (c ∷ cs) r e = ⊎_elim
    (λ (rest : are_from cs r ≡ true). let x = from_one cs r rest in (x.0, in_tail c x.0 cs x.1, x.2))
    (λ (here : (r == c.from) ≡ true). (c, in_head c cs, eqb-true r c.from here))
    (or_cases (are_from cs r) (r == c.from) e)

or_left : (a b : Bool) → a ≡ true → (a || b) ≡ true
or_left a b e = rw e refl

or_right : (a b : Bool) → b ≡ true → (a || b) ≡ true
or_right true b e = refl
or_right false b e = e

pub from_there : (cs : List Carried) (c : Carried) → Contains cs c → are_from cs c.from ≡ true
from_there cs c has = go cs (λ (d : Carried). are_from cs d.from ≡ true) (each cs) has
  where
    go : (xs : List Carried) (P : Carried → Type 0) → All P xs → Contains xs c → P c
    go xs P all one = all_at P xs c all one

    each : (xs : List Carried) → All (λ (d : Carried). are_from xs d.from ≡ true) xs
    each [] = all_nil (λ (d : Carried). are_from [] d.from ≡ true)
    each (x ∷ xs) = all_cons (λ (d : Carried). are_from (x ∷ xs) d.from ≡ true) x xs (or_right (are_from xs x.from) (x.from == x.from) (eq-eqb x.from x.from refl))
        (λ k d low. or_left (are_from xs (Rattle.std.proofs.Common.get_or xs k d).from) ((Rattle.std.proofs.Common.get_or xs k d).from == x.from) (each xs k d low))

-- they were carried from different pages
unfoldable pub AreDistinct : List Carried → Type 0
AreDistinct [] = Unit {0}
AreDistinct (c ∷ cs) = All (λ (d : Carried). c.from ≢ d.from) cs × AreDistinct cs

-- ---- a page that was carried, among the pages of its file

pub record IsThere (g : Geometry) (pages : Live) (head : List ℕ) (at_span : ℕ) (c : Carried) : Type 0 where
  pub old : List ℕ
  pub copy : List ℕ
  pub low : c.span < data_pages g (size_of head)
  pub at : index_span g c.span ≡ at_span
  pub entry : entry_number g pages head c.span ≡ Some c.from
  pub data_is : data_page g pages head c.span ≡ Some old
  pub copy_is : data_of (pages c.to) c.span ≡ Some copy
  pub body : slice_range copy 5 g.page ≡ slice_range old 5 g.page

module _ (g : Geometry) (pages : Live) (id w h : ℕ) (old plain head head0 : List ℕ) (f0 : File) (start : Reindexes g pages id w h old plain head head0 f0 f0)
    (spans0 : (t : ℕ) → t < data_pages g (size_of head) → slice_range (unwrap_or (now_data g pages head plain t) []) 5 g.page ≡ span_bytes g pages head t) where
  -- the renewed page leads to the file
  pub record Leads (new : List ℕ) : Type 0 where
    pub head' : List ℕ
    pub reindexes : Reindexes g pages id w h old new head head' f0 f0
    pub spans : (t : ℕ) → t < data_pages g (size_of head) → slice_range (unwrap_or (now_data g pages head new t) []) 5 g.page ≡ span_bytes g pages head t

  abbrev There : Carried → Type 0
  There c = IsThere g pages head (span_of old) c

  pub names_lead : (cs : List Carried) (new : List ℕ) → AreNamed g plain cs new → All There cs → Leads new
  unfolding AreNamed
  names_lead [] new named all = subst Leads (sym named) (record { head' = head0; reindexes = start; spans = spans0 })
  names_lead (c ∷ cs) new named all =
      let x = all_head There c cs all in
      let rest = names_lead cs named.0 named.1 (all_tail There c cs all) in
      let one = named_leads g pages id w h old named.0 new head rest.head' f0 rest.reindexes rest.spans c.span c.to x.old x.copy x.at x.data_is x.copy_is x.body named.2.entry named.2.others in
      record {
        head' = one.0;
        reindexes = one.1;
        spans = named_spans g pages id w h old named.0 new head rest.head' f0 rest.reindexes rest.spans c.span c.to x.old x.copy x.at x.data_is x.copy_is x.body named.2.entry named.2.others;
      }

  -- one more name leaves the others
  other_names : (c : Carried) (cs : List Carried) (mid new : List ℕ) → AreNamed g plain cs mid → IsNamed g c.span c.to mid new → All There (c ∷ cs) →
      (t : ℕ) → t ≢ c.span → index_span g t ≡ span_of old → slot_word g new t ≡ slot_word g mid t
  other_names c cs mid new before named all t differ at =
      let x = all_head There c cs all in
      let rest = names_lead cs mid before (all_tail There c cs all) in
      other_word g pages id w h old mid new head rest.head' f0 rest.reindexes rest.spans c.span c.to x.old x.copy x.at x.data_is x.copy_is x.body named.entry named.others t differ at

  -- each is named
  pub names_each : (cs : List Carried) (new : List ℕ) → AreNamed g plain cs new → All There cs → AreDistinct cs → All (λ (c : Carried). slot_word g new c.span ≡ c.to) cs
  unfolding AreNamed AreDistinct
  names_each [] new named all apart = all_nil (λ (c : Carried). slot_word g new c.span ≡ c.to)
  names_each (c ∷ cs) new named all apart =
      let rest = names_each cs named.0 named.1 (all_tail There c cs all) apart.1 in
      let x = all_head There c cs all in
      all_cons (λ (d : Carried). slot_word g new d.span ≡ d.to) c cs named.2.entry
      (λ k z low.
      let d = Rattle.std.proofs.Common.get_or cs k z in
      let y = all_tail There c cs all k z low in
      let differ : d.span ≢ c.span = λ e. apart.0 k z low (same_Some c.from d.from (sym x.entry ∙ ap (entry_number g pages head) (sym e) ∙ y.entry)) in
      other_names c cs named.0 new named.1 named.2 all d.span differ y.at ∙ rest k z low)

  -- and no other one is renewed
  pub names_left : (cs : List Carried) (new : List ℕ) → AreNamed g plain cs new → All There cs → (t : ℕ) → index_span g t ≡ span_of old →
      (slot_word g new t ≡ slot_word g plain t) ⊎ ((c : Carried) × Contains cs c × (c.span ≡ t))
  unfolding AreNamed
  names_left [] new named all t at = inl (ap (λ (l : List ℕ). slot_word g l t) named)
  names_left (c ∷ cs) new named all t at = ⊎_elim
      (λ (here : c.span ≡ t). inr (c, in_head c cs, here))
      (λ (there : c.span ≡ t → ⊥). ⊎_elim
      (λ (same : slot_word g named.0 t ≡ slot_word g plain t). inl (other_names c cs named.0 new named.1 named.2 all t (λ e. there (sym e)) at ∙ same))
      (λ (one : (d : Carried) × Contains cs d × (d.span ≡ t)). inr (one.0, in_tail c one.0 cs one.1, one.2))
      (names_left cs named.0 named.1 (all_tail There c cs all) t at))
      (cases_eq c.span t)

-- ---- the bytes of the page

module _ (g : Geometry) (plain : List ℕ) where
  pub names_size : (cs : List Carried) (new : List ℕ) → AreNamed g plain cs new → length new ≡ length plain
  unfolding AreNamed
  names_size [] new named = ap length named
  names_size (c ∷ cs) new named = named.2.others.size ∙ names_size cs named.0 named.1

  -- its header stays
  pub names_head : (cs : List Carried) (new : List ℕ) → AreNamed g plain cs new → (k : ℕ) → k < 5 → slice_index new k ≡ slice_index plain k
  unfolding AreNamed
  names_head [] new named k below = ap (λ (l : List ℕ). slice_index l k) named
  names_head (c ∷ cs) new named k below = let from = slot_behind g c.span in named.2.others.before k (omega (arith, from, below)) ∙ names_head cs named.0 named.1 k below

  -- and so do the bytes behind the entries that are named
  pub names_behind : (cs : List Carried) (new : List ℕ) → AreNamed g plain cs new → (k : ℕ) → All (λ (c : Carried). slot_at g c.span + 2 ≤ k) cs → slice_index new k ≡ slice_index plain k
  unfolding AreNamed
  names_behind [] new named k past = ap (λ (l : List ℕ). slice_index l k) named
  names_behind (c ∷ cs) new named k past =
      named.2.others.after k (all_head (λ (d : Carried). slot_at g d.span + 2 ≤ k) c cs past) ∙ names_behind cs named.0 named.1 k (all_tail (λ (d : Carried). slot_at g d.span + 2 ≤ k) c cs past)

  pub names_small : (cs : List Carried) (new : List ℕ) → AreNamed g plain cs new → (k : ℕ) → slice_index plain k < 256 → slice_index new k < 256
  unfolding AreNamed
  names_small [] new named k small = rw named small
  names_small (c ∷ cs) new named k small = named.2.small k

  -- the same with its flags finished
  set_small : (l : List ℕ) → ((k : ℕ) → slice_index l k < 256) → 4 < length l → (k : ℕ) → slice_index (set l 4 0xF8) k < 256
  set_small l small long k = ⊎_elim
      (λ (here : k ≡ 4). rw here (rw (get_or-set_same l 4 0xF8 0 long) (omega arith)))
      (λ (there : k ≡ 4 → ⊥). rw (get_or-set_other l 4 k 0xF8 0 there) (small k))
      (cases_eq k 4)

  set_named : (c : Carried) (mid new : List ℕ) → 4 < length mid → IsNamed g c.span c.to mid new → IsNamed g c.span c.to (set mid 4 0xF8) (set new 4 0xF8)
  set_named c mid new long named =
      let from = slot_behind g c.span in
      let size = named.others.size in
      let far : 4 < length new = omega (arith, size, long) in
      let only : SameOutside 4 1 new (set new 4 0xF8) = set_inside 4 0xF8 new in
      record {
        entry = slot_word_at g (set new 4 0xF8) c.span ∙ word_stays 4 1 (slot_at g c.span) new (set new 4 0xF8) only (inl (omega (arith, from))) ∙ sym (slot_word_at g new c.span) ∙ named.entry;
        others = set_outside (slot_at g c.span) 2 0xF8 mid new long far named.others;
        small = set_small new named.small far;
      }

  pub names_finished : (cs : List Carried) (new : List ℕ) → 4 < length plain → AreNamed g plain cs new → AreNamed g (set plain 4 0xF8) cs (set new 4 0xF8)
  unfolding AreNamed
  names_finished [] new long named = ap (λ (l : List ℕ). set l 4 0xF8) named
  names_finished (c ∷ cs) new long named =
      let size = names_size cs named.0 named.1 in
      (set named.0 4 0xF8, names_finished cs named.0 long named.1, set_named c named.0 new (omega (arith, size, long)) named.2)
