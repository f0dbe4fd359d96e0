-- What keeps an image sound.
use Rattle.std.proofs.Common.{◌≡◌, ◌≢◌, ℕ, ◌+◌, ◌*◌, ◌<◌, ◌≤◌, List, [], ◌∷◌, length, slice_index, set, true, Option, Some, None, Result, Ok, ap, refl, sym, ◌∙◌, arith, ⊎_elim, subst}
use Rattle.std.proofs.Math.Path.{fun_ext}
use Rattle.std.proofs.lemmas.Bool.{cases_lt, cases_eq}
use Rattle.std.proofs.lemmas.Option.{none-some, same_Some}
use Rattle.geometry.specs.declared.geometry.Geometry.{Geometry}
use Rattle.image_model.specs.Within.{sizes}
use Rattle.geometry.specs.Numbers.{page_count}
use Rattle.nor_core.specs.Flash.{HalfProgrammed}
use Rattle.image_model.specs.Live.{live_at, Live, own}
use Rattle.image_model.specs.Places.{has_magic, page_of, block_of, is_entry_page, IsImage}
use Rattle.image_model.specs.Headers.{names_index}
use Rattle.table_model.specs.Table.{File}
use Rattle.image_model.specs.Files.{found, index_page}
use Rattle.image_model.specs.Tables.{has_of, damages, table_of, damaged_of}
use Rattle.image_laws.specs.Changes.{Gains, Loses}
use Rattle.image_laws.specs.Programs.{LeadsTo}
use Rattle.image_model.specs.Sound.{IsMixed, HasMagics, IsSound, Keeps}
use Rattle.image_laws.specs.SoundSteps.{KeepsItself, KeepsOn, IsOfKind, PlacingEntryIsSound, PlacingPageIsSound, FinishingIsSound, RetiringIsSound, KillingIsSound}
use Rattle.image_laws.proofs.Frames.{magic-same_page, magic-same_entry, live_parts, table_of-same, damaged_of-same}
use Rattle.image_model.specs.Within.{page_number}
use Rattle.image_laws.proofs.Placing.{wider, live-placing_entry, live-placing_page}
use Rattle.image_laws.proofs.Bits.{one_bit_image}
use Rattle.image_laws.proofs.Kill.{killing-loses, killing-keeps, own-loses, own-loses_other}
use Rattle.image_laws.proofs.Judge.{judged-keyed, retired, IsHeadAtMost, index-none}
use Rattle.image_laws.proofs.Finish.{own-parts}
use Rattle.image_laws.proofs.Publish.{finishing-gains, first, later, others-same, own-before}
use Rattle.image_laws.proofs.Undamaged.{undamaged-changed}

pub magics-same : (g : Geometry) (a b : List ℕ) → HasMagics g a → ((c : ℕ) → has_magic g b c ≡ has_magic g a c) → HasMagics g b
magics-same g a b h same = record { one = λ c d low low' x y. h.one c d low low' (sym (same c) ∙ x) (sym (same d) ∙ y) }

pub sound-by : (g : Geometry) (a b : List ℕ) → HasMagics g a → ((c : ℕ) → has_magic g b c ≡ has_magic g a c) →
    ((c : ℕ) → IsMixed g (live_at g b) c → IsMixed g (live_at g a) c) → damaged_of g b ≡ damaged_of g a → IsSound g b a
sound-by g a b h same mixed damaged = record {
  magics = magics-same g a b h same;
  mixed = mixed;
  damaged = λ id k. rw damaged at k;
}

pub mixed-from : (g : Geometry) (old new : Live) (c : ℕ) → ((q : ℕ) (x : List ℕ) → new q ≡ Some x → old q ≡ Some x) → IsMixed g new c → IsMixed g old c
mixed-from g old new c back m = record {
  p = m.p;
  q = m.q;
  x = m.x;
  y = m.y;
  p_at = m.p_at;
  q_at = m.q_at;
  p_is = back m.p m.x m.p_is;
  q_is = back m.q m.y m.q_is;
  names = m.names;
  holds = m.holds;
}

pub keeps-by_live : (g : Geometry) (a b : List ℕ) → HasMagics g a → ((c : ℕ) → has_magic g b c ≡ has_magic g a c) → ((q : ℕ) → live_at g b q ≡ live_at g a q) → Keeps g a b
keeps-by_live g a b h same live = record {
  sound = sound-by g a b h same (λ c m. mixed-from g (live_at g a) (live_at g b) c (λ q x e. sym (live q) ∙ e) m) (damaged_of-same g b a live);
  table = table_of-same g b a live;
}

pub keeps-itself : (g : Geometry) → KeepsItself g
keeps-itself g a h = keeps-by_live g a a h (λ c. refl) (λ q. refl)

pub sound-on : (g : Geometry) (a b c : List ℕ) → IsSound g b a → IsSound g c b → IsSound g c a
sound-on g a b c x y = record {
  magics = y.magics;
  mixed = λ d m. x.mixed d (y.mixed d m);
  damaged = λ id k. x.damaged id (y.damaged id k);
}

pub keeps-on : (g : Geometry) → KeepsOn g
keeps-on g a b c x y = record {
  sound = record {
    magics = y.sound.magics;
    mixed = λ d m. x.sound.mixed d (y.sound.mixed d m);
    damaged = λ id k. x.sound.damaged id (y.sound.damaged id k);
  };
  table = y.table ∙ x.table;
}

pub placing_entry-sound : (g : Geometry) → PlacingEntryIsSound g
placing_entry-sound g a b p asked is h unfinished two torn =
    keeps-by_live g a b h (magic-same_entry g (sizes g) a b p unfinished.entry_page (rw two at torn.outside))
    (live-placing_entry g (sizes g) a b p unfinished.entry_page unfinished.final asked two torn)

pub placing_page-sound : (g : Geometry) → PlacingPageIsSound g
placing_page-sound g a b p at asked is h unfinished low high keeps torn =
    keeps-by_live g a b h (magic-same_page g (sizes g) a b p unfinished.entry_page (wider at (length asked) (p * g.page) g.page a b low high torn.outside))
    (live-placing_page g (sizes g) a b p unfinished.entry_page unfinished.final at asked low high torn keeps)

-- the magics stay where the flags byte of an entry page changes
pub magic-flags : (g : Geometry) (a b : List ℕ) (p flags : ℕ) → IsImage g a → is_entry_page g p ≡ true → HalfProgrammed (p * g.page + 4) (flags ∷ []) a b → (c : ℕ) → has_magic g b c ≡ has_magic g a c
magic-flags g a b p flags is page torn =
    let big : 128 ≤ g.page = (sizes g).page in
    magic-same_page g (sizes g) a b p page (wider (p * g.page + 4) 1 (p * g.page) g.page a b (omega arith) (omega arith) torn.outside)

-- ---- a page more

module _ (g : Geometry) (old new : Live) (p : ℕ) (page : List ℕ) (change : Gains p page old new) (kind : IsOfKind g old p page) where
  pub other-kind : (q r : ℕ) (x y : List ℕ) → new q ≡ Some x → new r ≡ Some y → block_of g q ≡ block_of g r → q ≢ p → r ≡ p → names_index x ≡ names_index y
  other-kind q r x y e f at there here =
      let same : page ≡ y = same_Some page y (sym change.after ∙ ap new (sym here) ∙ f) in
      kind.same q x (sym (change.others q there) ∙ e) (at ∙ ap (λ (k : ℕ). block_of g k) here) ∙ ap names_index same

  pub mixed-gains : (c : ℕ) → IsMixed g new c → IsMixed g old c
  mixed-gains c m =
      ⊎_elim
      (λ (here : m.p ≡ p). ⊎_elim
      (λ (too : m.q ≡ p). let same : m.x ≡ m.y = same_Some _ _ (sym m.p_is ∙ ap new (here ∙ sym too) ∙ m.q_is) in
      let x = m.names in let y = m.holds in absurd (cc))
      (λ (there : m.q ≡ p → ⊥).
      let k = other-kind m.q m.p m.y m.x m.q_is m.p_is (m.q_at ∙ sym m.p_at) there here in let x = m.names in let y = m.holds in absurd (cc))
      (cases_eq m.q p))
      (λ (index : m.p ≡ p → ⊥). ⊎_elim
      (λ (here : m.q ≡ p).
      let k = other-kind m.p m.q m.x m.y m.p_is m.q_is (m.p_at ∙ sym m.q_at) index here in let x = m.names in let y = m.holds in absurd (cc))
      (λ (apart : m.q ≡ p → ⊥). record {
        p = m.p;
        q = m.q;
        x = m.x;
        y = m.y;
        p_at = m.p_at;
        q_at = m.q_at;
        p_is = sym (change.others m.p index) ∙ m.p_is;
        q_is = sym (change.others m.q apart) ∙ m.q_is;
        names = m.names;
        holds = m.holds;
      })
      (cases_eq m.q p))
      (cases_eq m.p p)

-- ---- a page less

pub loses-back : (p : ℕ) (old new : Live) → Loses p old new → (q : ℕ) (x : List ℕ) → new q ≡ Some x → old q ≡ Some x
loses-back p old new change q x e =
    ⊎_elim
    (λ (here : q ≡ p). absurd (none-some x (sym change.after ∙ ap new (sym here) ∙ e)))
    (λ (there : q ≡ p → ⊥). sym (change.others q there) ∙ e)
    (cases_eq q p)

module _ (g : Geometry) (a : List ℕ) (new : Live) (p id : ℕ) (head : List ℕ) (f : File) (within : p < page_count g)
    (change : Gains p head (live_at g a) new) (leads : LeadsTo g a id head f) where
  -- nothing is damaged either where it is the first or a later header page
  undamaged-by : (o : Option ℕ) → index_page g (own (live_at g a) id) 0 ≡ o → damages (has_of g new) 0x7FFF ≡ []
  unfolding damaged_of table_of
  undamaged-by o e =
      let now : has_of g new id ≡ Some (p, Ok f) → damages (has_of g new) 0x7FFF ≡ [] = λ is.
      undamaged-changed g a id f leads.low leads.high leads.undamaged leads.unused new p (judged-keyed g (own (live_at g a) id) id head f leads.file) is (others-same g a new p id head f within change leads) in
      elim o as (λ (o : Option ℕ). index_page g (own (live_at g a) id) 0 ≡ o → damages (has_of g new) 0x7FFF ≡ []) [
        | None ↦ λ e. now (first g a new p id head f within change leads (λ q k. absurd (none-some q (sym e ∙ k))))
        | Some q ↦ λ e. ⊎_elim
            (λ (less : q < p). let same : has_of g new ≡ has_of g (live_at g a) = fun_ext (λ (j : ℕ). ⊎_elim
            (λ (here : j ≡ id). rw here (later g a new p id head f within change leads q e less))
            (λ (there : j ≡ id → ⊥). others-same g a new p id head f within change leads j there)
            (cases_eq j id)) in rw same leads.undamaged)
            (λ (more : p ≤ q). ⊎_elim
            (λ (here : q ≡ p). absurd (index-none g (own (live_at g a) id) 0 q e (rw here (own-before g a new p id head f within change leads))))
            (λ (there : q ≡ p → ⊥). now (first g a new p id head f within change leads (λ r k. let same : q ≡ r = same_Some q r (sym e ∙ k) in omega (arith, there))))
            (cases_eq q p))
            (cases_lt q p)
      ] e

  pub gains-undamaged : damages (has_of g new) 0x7FFF ≡ []
  gains-undamaged = undamaged-by (index_page g (own (live_at g a) id) 0) refl

pub finishing-sound : (g : Geometry) → FinishingIsSound g
unfolding damaged_of
finishing-sound g a b p flags id f is h placed leads kind torn =
    let same = magic-flags g a b p flags is placed.entry_page torn in
    ⊎_elim
    (λ (e : b ≡ a). (subst (λ (x : List ℕ). IsSound g x a) (sym e) (keeps-itself g a h).sound, ap (λ (x : List ℕ). damaged_of g x) e ∙ leads.undamaged))
    (λ (done : slice_index b (p * g.page + 4) ≡ flags).
    let gains = finishing-gains g a b p flags is placed torn done in
    let none : damaged_of g b ≡ [] = gains-undamaged g a (live_at g b) p id (set (page_of g a p) 4 flags) f (page_number g p placed.entry_page) gains leads in
    (sound-by g a b h same (mixed-gains g (live_at g a) (live_at g b) p (set (page_of g a p) 4 flags) gains kind) (none ∙ sym leads.undamaged), none))
    (one_bit_image 1 (p * g.page + 4) flags a b placed.clears torn)

pub retiring-sound : (g : Geometry) → RetiringIsSound g
unfolding damaged_of table_of has_of
retiring-sound g a b p q flags id old head f is h clears two leads torn =
    let was = own-parts (live_at g a) id p old two.was in
    let here = own-parts (live_at g a) id q head two.is in
    let page = (live_parts g a p old was.0).entry_page in
    let magic = magic-flags g a b p flags is page torn in
    ⊎_elim
    (λ (e : b ≡ a). (subst (λ (x : List ℕ). IsSound g x a) (sym e) (keeps-itself g a h).sound, ap (λ (x : List ℕ). damaged_of g x) e ∙ leads.undamaged))
    (λ (done : slice_index b (p * g.page + 4) ≡ flags).
    let change = killing-loses g a b p flags is page clears.cleared torn done in
    let mine = own-loses p old (live_at g a) (live_at g b) was.0 change id in
    let now : has_of g (live_at g b) id ≡ Some (q, Ok f) =
    retired g p (own (live_at g a) id) (own (live_at g b) id) (subst IsHeadAtMost (sym two.was) (two.old_head.index, two.old_head.first)) mine.after mine.others
    id q head (page_number g q (live_parts g a q head here.0).entry_page) two.differ two.is leads.is_head.index leads.is_head.first two.only
    ∙ ap (λ (r : Result File _). Some (q, r)) leads.file in
    let none : damaged_of g b ≡ [] = undamaged-changed g a id f leads.low leads.high leads.undamaged leads.unused (live_at g b) q (judged-keyed g (own (live_at g a) id) id head f leads.file) now
    (λ j there. ap (λ (pages : Live). found g pages j) (own-loses_other p old (live_at g a) (live_at g b) was.0 change j (λ e. there (sym e ∙ was.1)))) in
    (sound-by g a b h magic (λ c m. mixed-from g (live_at g a) (live_at g b) c (loses-back p (live_at g a) (live_at g b) change) m) (none ∙ sym leads.undamaged), none))
    (one_bit_image 7 (p * g.page + 4) flags a b clears torn)

pub killing-sound : (g : Geometry) → KillingIsSound g
killing-sound g a b p flags page is h live clears idle torn =
    let entry = (live_parts g a p page live).entry_page in
    let keeps = killing-keeps g a b p flags page is live clears idle torn in
    record {
      sound = sound-by g a b h (magic-flags g a b p flags is entry torn)
          (λ c m. mixed-from g (live_at g a) (live_at g b) c
          (⊎_elim
          (λ (e : b ≡ a). λ q x k. rw (sym e) k)
          (λ (done : slice_index b (p * g.page + 4) ≡ flags). loses-back p (live_at g a) (live_at g b) (killing-loses g a b p flags is entry clears.cleared torn done))
          (one_bit_image 7 (p * g.page + 4) flags a b clears torn)) m) keeps.1;
      table = keeps.0;
    }
