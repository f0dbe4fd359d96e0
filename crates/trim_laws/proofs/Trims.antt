-- Programs and erases leave header pages that name no page behind the last one of their file.
use Rattle.std.proofs.Common.{◌≡◌, ◌≢◌, ℕ, ◌+◌, ◌-◌, ◌*◌, ◌<◌, ◌≤◌, ◌⊎◌, List, length, slice_index, true, false, Bool, Option, Some, None, inl, inr, ap, refl, sym, ◌∙◌, arith, ⊎_elim, subst}
use Rattle.std.proofs.lemmas.Bool.{cases_eq, cases_lt, false≢true}
use Rattle.std.proofs.lemmas.Option.{none-some, same_Some}
use Rattle.geometry.specs.declared.geometry.Geometry.{Geometry}
use Rattle.geometry.specs.Numbers.{head_slots}
use Rattle.nor_core.specs.Flash.{word_at, SameOutside, HalfProgrammed}
use Rattle.table_model.specs.Room.{data_pages}
use Rattle.image_model.specs.Within.{Sizes, sizes}
use Rattle.image_model.specs.Files.{is_index}
use Rattle.image_model.specs.Headers.{obj_id, span_of, size_of}
use Rattle.image_model.specs.Live.{live_at}
use Rattle.image_model.specs.Places.{IsImage, page_of, block_of}
use Rattle.image_laws.specs.LiveSteps.{PutLeaves, PutDone, KillLeaves, KillDone}
use Rattle.image_laws.specs.Changes.{Gains, Loses}
use Rattle.image_laws.proofs.Frames.{live_parts, live-page_other, word_at-same}
use Rattle.image_laws.proofs.Erase.{live-other}
use Rattle.image_laws.proofs.Placing.{page_byte, wider}
use Rattle.trim_laws.specs.Trim.{IsTrimmed, IsTrim, Trims}
use Rattle.trim_laws.specs.Steps.{IsTrimHead, PutTrims, KillTrims, InPlaceTrims, FlagsTrim}

-- ---- the live pages

-- where each live page was live
pub lived_trims : (g : Geometry) (a c : List ℕ) → ((q : ℕ) (x : List ℕ) → live_at g c q ≡ Some x → live_at g a q ≡ Some x) → Trims g a c
lived_trims g a c back trim = record { each = λ q x live index. trim.each q x (back q x live) index }

pub same_trims : (g : Geometry) (a c : List ℕ) → ((q : ℕ) → live_at g c q ≡ live_at g a q) → Trims g a c
same_trims g a c same = lived_trims g a c (λ q x live. sym (same q) ∙ live)

-- .. but page p, which is no header page that names more
but_trims : (g : Geometry) (a c : List ℕ) (p : ℕ) → ((q : ℕ) → q ≢ p → live_at g c q ≡ live_at g a q) → (IsTrim g a → (x : List ℕ) → live_at g c p ≡ Some x → IsTrimHead g x) → Trims g a c
but_trims g a c p others here trim = record {
  each = λ q x live index. ⊎_elim
      (λ (e : q ≡ p). here trim x (rw e at live) index)
      (λ (e : q ≡ p → ⊥). trim.each q x (sym (others q e) ∙ live) index)
      (cases_eq q p);
}

gained : (g : Geometry) (a c : List ℕ) (p : ℕ) (page : List ℕ) → IsTrimHead g page → Gains p page (live_at g a) (live_at g c) → Trims g a c
gained g a c p page head gains = but_trims g a c p gains.others (λ trim x live. let same : page ≡ x = same_Some page x (sym gains.after ∙ live) in subst (λ (y : List ℕ). IsTrimHead g y) same head)

lost : (g : Geometry) (a c : List ℕ) (p : ℕ) → Loses p (live_at g a) (live_at g c) → Trims g a c
lost g a c p loses = but_trims g a c p loses.others (λ trim x live. absurd (none-some x (sym loses.after ∙ live)))

at_each : {a c : ℕ → Option (List ℕ)} → c ≡ a → (q : ℕ) → c q ≡ a q
at_each e q = ap (λ (f : ℕ → Option (List ℕ)). f q) e

pub put_trims : (g : Geometry) → PutTrims g
put_trims g a c p page head put = ⊎_elim
    (λ (leaves : PutLeaves g p page a c). ⊎_elim
    (λ (same : live_at g c ≡ live_at g a). same_trims g a c (at_each same))
    (λ (gains : Gains p page (live_at g a) (live_at g c)). gained g a c p page head gains)
    leaves.live)
    (λ (done : PutDone g p page a c). gained g a c p page head done.gains)
    put

-- what was live before a put is live after it
pub put_back : (g : Geometry) (a c : List ℕ) (p : ℕ) (page : List ℕ) → PutLeaves g p page a c → Trims g c a
put_back g a c p page put = ⊎_elim
    (λ (same : live_at g c ≡ live_at g a). same_trims g c a (λ q. sym (at_each same q)))
    (λ (gains : Gains p page (live_at g a) (live_at g c)). but_trims g c a p (λ q other. sym (gains.others q other)) (λ trim x live. absurd (none-some x (sym gains.before ∙ live))))
    put.live

pub kill_trims : (g : Geometry) → KillTrims g
kill_trims g a c p kill = ⊎_elim
    (λ (leaves : KillLeaves g p a c). ⊎_elim
    (λ (same : live_at g c ≡ live_at g a). same_trims g a c (at_each same))
    (λ (loses : Loses p (live_at g a) (live_at g c)). lost g a c p loses)
    leaves.live)
    (λ (done : KillDone g p a c). lost g a c p done.loses)
    kill

-- a change inside a block of which no page is live then
pub block_trims : (g : Geometry) (a c : List ℕ) (block : ℕ) → SameOutside (block * g.block) g.block a c → (c ≡ a) ⊎ ((q : ℕ) → block_of g q ≡ block → live_at g c q ≡ None) → Trims g a c
block_trims g a c block outside dead = lived_trims g a c (λ q x live. ⊎_elim
    (λ (same : c ≡ a). subst (λ (l : List ℕ). live_at g l q ≡ Some x) same live)
    (λ (none : (r : ℕ) → block_of g r ≡ block → live_at g c r ≡ None). ⊎_elim
    (λ (here : block_of g q ≡ block). absurd (none-some x (sym (none q here) ∙ live)))
    (λ (there : block_of g q ≡ block → ⊥). sym (live-other g (sizes g) a c block outside q there) ∙ live)
    (cases_eq (block_of g q) block))
    dead)

-- ---- programs inside a page

-- a header page goes by its id and span
index_by : (x y : List ℕ) → obj_id y ≡ obj_id x → span_of y ≡ span_of x → is_index (Some y) 0 ≡ is_index (Some x) 0
index_by x y id span = rw (id, span) refl

module _ (g : Geometry) (a c : List ℕ) (p at : ℕ) (page : List ℕ) (is : IsImage g a) (live : live_at g a p ≡ Some page) where
  abbrev geo : Sizes g
  geo = sizes g

  others : (n : ℕ) → SameOutside at n a c → p * g.page ≤ at → at + n ≤ p * g.page + g.page → (q : ℕ) → q ≢ p → live_at g c q ≡ live_at g a q
  others n outside from to = live-page_other g geo a c p (live_parts g a p page live).entry_page (wider at n (p * g.page) g.page a c from to outside)

  -- the same words in both
  word : (n k : ℕ) → SameOutside at n a c → k + 1 < g.page → (p * g.page + k + 1 < at) ⊎ (at + n ≤ p * g.page + k) → word_at (page_of g c p) k ≡ word_at (page_of g a p) k
  word n k outside low apart =
      let one : slice_index (page_of g c p) k ≡ slice_index (page_of g a p) k = bytes k (omega arith) (⊎_elim (λ (x : p * g.page + k + 1 < at). inl (omega arith)) (λ (x : at + n ≤ p * g.page + k). inr x) apart) in
      let two : slice_index (page_of g c p) (k + 1) ≡ slice_index (page_of g a p) (k + 1) = bytes (k + 1) low (⊎_elim (λ (x : p * g.page + k + 1 < at). inl (omega arith)) (λ (x : at + n ≤ p * g.page + k). inr (omega arith)) apart) in
      word_at-same (page_of g a p) (page_of g c p) k one two
    where
      bytes : (i : ℕ) → i < g.page → (p * g.page + i < at) ⊎ (at + n ≤ p * g.page + i) → slice_index (page_of g c p) i ≡ slice_index (page_of g a p) i
      bytes i small apart =
          let same : slice_index c (p * g.page + i) ≡ slice_index a (p * g.page + i) = ⊎_elim (λ (x : p * g.page + i < at). outside.before _ x) (λ (x : at + n ≤ p * g.page + i). outside.after _ x) apart in
          page_byte g c p i small ∙ same ∙ sym (page_byte g a p i small)

  old : page_of g a p ≡ page
  old = (live_parts g a p page live).bytes

  new : (x : List ℕ) → live_at g c p ≡ Some x → page_of g c p ≡ x
  new x e = (live_parts g c p x e).bytes

  -- behind its header, where it is no header page
  pub inside : (asked : List ℕ) → is_index (Some page) 0 ≡ false → p * g.page + 5 ≤ at → at + length asked ≤ p * g.page + g.page → HalfProgrammed at asked a c → Trims g a c
  inside asked other from to half = but_trims g a c p (others (length asked) half.outside (omega (arith, from)) to) (λ trim x e index.
      let id : obj_id (page_of g c p) ≡ obj_id (page_of g a p) = word (length asked) 0 half.outside (omega (arith, geo.page)) (inl (omega (arith, from))) in
      let span : span_of (page_of g c p) ≡ span_of (page_of g a p) = word (length asked) 2 half.outside (omega (arith, geo.page)) (inl (omega (arith, from))) in
      let same : is_index (Some (page_of g c p)) 0 ≡ is_index (Some (page_of g a p)) 0 = index_by (page_of g a p) (page_of g c p) id span in
      let now : is_index (Some x) 0 ≡ is_index (Some page) 0 = subst (λ (y : List ℕ). is_index (Some y) 0 ≡ is_index (Some page) 0) (new x e) (same ∙ ap (λ (y : List ℕ). is_index (Some y) 0) old) in
      absurd (false≢true (sym other ∙ (sym now ∙ index))))

-- its flags
module _ (g : Geometry) (a c : List ℕ) (p : ℕ) (page : List ℕ) (is : IsImage g a) (live : live_at g a p ≡ Some page) where
  pub by_flags : (asked : List ℕ) → length asked ≡ 1 → HalfProgrammed (p * g.page + 4) asked a c → Trims g a c
  by_flags asked one half =
      let outside : SameOutside (p * g.page + 4) 1 a c = subst (λ (n : ℕ). SameOutside (p * g.page + 4) n a c) one half.outside in
      let geo = sizes g in
      let same : (k : ℕ) → k + 1 < g.page → (k + 1 < 4) ⊎ (5 ≤ k) → word_at (page_of g c p) k ≡ word_at (page_of g a p) k = λ k low apart.
      word g a c p (p * g.page + 4) page is live 1 k outside low (⊎_elim (λ (x : k + 1 < 4). inl (omega arith)) (λ (x : 5 ≤ k). inr (omega arith)) apart) in
      let old : page_of g a p ≡ page = (live_parts g a p page live).bytes in
      but_trims g a c p (others g a c p (p * g.page + 4) page is live 1 outside (omega arith) (omega (arith, geo.page))) (λ trim x e index.
      let new : page_of g c p ≡ x = (live_parts g c p x e).bytes in
      let id : obj_id (page_of g c p) ≡ obj_id (page_of g a p) = same 0 (omega (arith, geo.page)) (inl (omega arith)) in
      let span : span_of (page_of g c p) ≡ span_of (page_of g a p) = same 2 (omega (arith, geo.page)) (inl (omega arith)) in
      let was_index : is_index (Some (page_of g a p)) 0 ≡ true = sym (index_by (page_of g a p) (page_of g c p) id span) ∙ (rw new index) in
      let was : IsTrimmed g (page_of g a p) = trim.each p (page_of g a p) (rw old live) was_index in
      let size : size_of (page_of g c p) ≡ size_of (page_of g a p) = rw (same 8 (omega (arith, geo.page)) (inr (omega arith)), same 10 (omega (arith, geo.page)) (inr (omega arith))) refl in
      let now : IsTrimmed g (page_of g c p) = record {
        free = λ t from below.
            let high : data_pages g (size_of (page_of g a p)) ≤ t = rw size at from in
            same (45 + g.meta + 2 * t) (omega (arith, below)) (inr (omega arith)) ∙ was.free t high below;
      } in
      subst (λ (y : List ℕ). IsTrimmed g y) new now)

pub inside_trims : (g : Geometry) → InPlaceTrims g
inside_trims g a c p at page asked is live other from to half = inside g a c p at page is live asked other from to half

pub flags_trim : (g : Geometry) → FlagsTrim g
flags_trim g a c p page asked is live one half = by_flags g a c p page is live asked one half
