-- Finishing a header page.
use Rattle.std.proofs.Common.{◌≡◌, ◌≢◌, ℕ, ◌+◌, ◌*◌, ◌<◌, ◌≤◌, ◌⊎◌, List, [], ◌∷◌, length, slice_index, set, true, Option, Some, None, Result, Ok, ap, refl, sym, ◌∙◌, arith, ⊎_elim, inl, inr, length-set, get_or-set_same, get_or-set_other}
use Rattle.std.proofs.Math.Path.{fun_ext}
use Rattle.std.proofs.lemmas.Bool.{cases_lt, cases_eq}
use Rattle.std.proofs.lemmas.List.{ext_get_or}
use Rattle.std.proofs.lemmas.Option.{none-some, same_Some}
use Rattle.geometry.specs.declared.geometry.Geometry.{Geometry}
use Rattle.image_model.specs.Within.{sizes}
use Rattle.geometry.specs.Numbers.{page_count}
use Rattle.nor_core.specs.Flash.{SameOutside, HalfProgrammed}
use Rattle.image_model.specs.Within.{Sizes}
use Rattle.image_model.specs.Live.{live_at, Live, own}
use Rattle.image_model.specs.Headers.{is_flag_set, obj_id}
use Rattle.image_model.specs.Places.{page_of, block_of, is_entry_page, IsImage}
use Rattle.image_model.specs.declared.damage.Damage.{Damage}
use Rattle.table_model.specs.Table.{File, put_file}
use Rattle.image_model.specs.Tables.{Found, has_of, records, table_of, damaged_of}
use Rattle.image_model.specs.Files.{found, index_page}
use Rattle.image_laws.specs.Changes.{Gains}
use Rattle.image_laws.specs.Programs.{IsPlaced, LeadsTo, FinishingPublishes}
use Rattle.image_laws.proofs.Bits.{one_bit_image}
use Rattle.image_model.specs.Within.{page_number, page_length}
use Rattle.image_laws.proofs.Placing.{page_byte, flag_from, wider}
use Rattle.image_laws.proofs.Frames.{live_at-unfinished, finished_from_flag, live-page_other, live_from, magic-same_page, entry-same_page}
use Rattle.image_laws.proofs.Tables.{own-gains_other, own-gains_page, own-gains_rest}
use Rattle.image_laws.proofs.Judge.{judged-keyed, published-first, published-later, index-none}
use Rattle.image_laws.proofs.Finish.{records-changed}

-- one byte of the page
pub page-set : (g : Geometry) (a b : List ℕ) (p x : ℕ) → IsImage g a → is_entry_page g p ≡ true → SameOutside (p * g.page + 4) 1 a b → slice_index b (p * g.page + 4) ≡ x →
    page_of g b p ≡ set (page_of g a p) 4 x
page-set g a b p x is h same done =
    let len_a : length (page_of g a p) ≡ g.page = page_length g a p is h in
    let len_b : length (page_of g b p) ≡ g.page = page_length g b p (record { len = omega (arith, same.size, is.len) }) h in
    let big : 128 ≤ g.page = (sizes g).page in
    ext_get_or 0 _ _ (len_b ∙ sym len_a ∙ sym (length-set (page_of g a p) 4 x))
    (λ i small. let inside : i < g.page = omega arith in
    let byte : slice_index (page_of g b p) i ≡ slice_index b (p * g.page + i) = page_byte g b p i inside in
    let old : slice_index (page_of g a p) i ≡ slice_index a (p * g.page + i) = page_byte g a p i inside in
    ⊎_elim
    (λ (here : i ≡ 4). let e : slice_index b (p * g.page + i) ≡ x = rw here done in
    byte ∙ e ∙ sym (rw here (get_or-set_same (page_of g a p) 4 x 0 (omega arith))))
    (λ (there : i ≡ 4 → ⊥).
    let other : slice_index (set (page_of g a p) 4 x) i ≡ slice_index (page_of g a p) i = get_or-set_other (page_of g a p) 4 i x 0 there in
    let kept : slice_index b (p * g.page + i) ≡ slice_index a (p * g.page + i) = ⊎_elim
    (λ (low : i < 4). same.before (p * g.page + i) (omega arith))
    (λ (high : 4 ≤ i). same.after (p * g.page + i) (omega (arith, there)))
    (cases_lt i 4) in
    byte ∙ kept ∙ sym old ∙ sym other)
    (cases_eq i 4))

id-set : (page : List ℕ) (x : ℕ) → obj_id (set page 4 x) ≡ obj_id page
id-set page x =
    let low : slice_index (set page 4 x) 0 ≡ slice_index page 0 = get_or-set_other page 4 0 x 0 (omega arith) in
    let high : slice_index (set page 4 x) 1 ≡ slice_index page 1 = get_or-set_other page 4 1 x 0 (omega arith) in
    cc

pub finishing-gains : (g : Geometry) (a b : List ℕ) (p flags : ℕ) → IsImage g a → IsPlaced g a p flags → HalfProgrammed (p * g.page + 4) (flags ∷ []) a b → slice_index b (p * g.page + 4) ≡ flags →
    Gains p (set (page_of g a p) 4 flags) (live_at g a) (live_at g b)
finishing-gains g a b p flags is placed h done =
    let geo : Sizes g = (sizes g) in
    let big : 128 ≤ g.page = geo.page in
    let same : SameOutside (p * g.page) g.page a b = wider (p * g.page + 4) 1 (p * g.page) g.page a b (omega arith) (omega arith) h.outside in
    let byte : slice_index (page_of g a p) 4 ≡ slice_index a (p * g.page + 4) = page_byte g a p 4 (omega arith) in
    let final : is_flag_set (page_of g a p) 1 ≡ true = flag_from (page_of g a p) 1 (rw byte placed.clears.set) in
    record {
      before = live_at-unfinished g a p (finished_from_flag _ final);
      after = live_from g b p (set (page_of g a p) 4 flags) (record {
        entry_page = placed.entry_page;
        magic = magic-same_page g geo a b p placed.entry_page same (block_of g p) ∙ placed.magic;
        entry = entry-same_page g geo a b p placed.entry_page same p ∙ placed.entry ∙ sym (id-set (page_of g a p) flags);
        finished = placed.finished;
        bytes = page-set g a b p flags is placed.entry_page h.outside done;
      });
      others = λ q there. live-page_other g geo a b p placed.entry_page same q there;
    }

module _ (g : Geometry) (a : List ℕ) (new : Live) (p id : ℕ) (head : List ℕ) (f : File) (within : p < page_count g)
    (change : Gains p head (live_at g a) new) (leads : LeadsTo g a id head f) where
  pub others-same : (j : ℕ) → j ≢ id → has_of g new j ≡ has_of g (live_at g a) j
  unfolding has_of
  others-same j there = ap (λ (pages : Live). found g pages j) (own-gains_other p head (live_at g a) new change j (λ e. there (sym e ∙ leads.is_head.of)))

  pub own-before : own (live_at g a) id p ≡ None
  unfolding own
  own-before = rw change.before refl

  pub own-after : own new id p ≡ Some head
  own-after = rw leads.is_head.of at (own-gains_page p head (live_at g a) new change)

  pub own-others : (q : ℕ) → q ≢ p → own new id q ≡ own (live_at g a) id q
  own-others q there = rw leads.is_head.of at (own-gains_rest p head (live_at g a) new change q there)

  pub first : ((q : ℕ) → index_page g (own (live_at g a) id) 0 ≡ Some q → p < q) → has_of g new id ≡ Some (p, Ok f)
  unfolding has_of
  first front =
      published-first g p head (own (live_at g a) id) (own new id) within own-before own-after own-others leads.is_head.index leads.is_head.first id front
      ∙ ap (λ (r : Result File Damage). Some (p, r)) leads.file

  pub later : (q : ℕ) → index_page g (own (live_at g a) id) 0 ≡ Some q → q < p → has_of g new id ≡ has_of g (live_at g a) id
  unfolding has_of
  later q e less = published-later g p head (own (live_at g a) id) (own new id) within own-before own-after own-others leads.is_head.index leads.is_head.first id q e less

  changed : has_of g new id ≡ Some (p, Ok f) → records (has_of g new) 0x7FFF ≡ put_file f (records (has_of g (live_at g a)) 0x7FFF)
  unfolding table_of damaged_of
  changed is =
      records-changed g a new id p f leads.low leads.high leads.undamaged leads.unused
      (judged-keyed g (own (live_at g a) id) id head f leads.file) is others-same

  pub unchanged : has_of g new id ≡ has_of g (live_at g a) id → records (has_of g new) 0x7FFF ≡ records (has_of g (live_at g a)) 0x7FFF
  unchanged is = ap (λ (has : Found). records has 0x7FFF) (fun_ext (λ (j : ℕ). ⊎_elim (λ (here : j ≡ id). rw here is) (λ (there : j ≡ id → ⊥). others-same j there) (cases_eq j id)))

  by_place : (o : Option ℕ) → index_page g (own (live_at g a) id) 0 ≡ o →
      (records (has_of g new) 0x7FFF ≡ records (has_of g (live_at g a)) 0x7FFF) ⊎ (records (has_of g new) 0x7FFF ≡ put_file f (records (has_of g (live_at g a)) 0x7FFF))
  by_place None e = inr (changed (first (λ q k. absurd (none-some q (sym e ∙ k)))))
  by_place (Some q) e =
      ⊎_elim
      (λ (less : q < p). inl (unchanged (later q e less)))
      (λ (more : p ≤ q). ⊎_elim
      (λ (here : q ≡ p). absurd (index-none g (own (live_at g a) id) 0 q e (rw here own-before)))
      (λ (there : q ≡ p → ⊥). let behind : p < q = omega (arith, there) in
      inr (changed (first (λ r k. let same : q ≡ r = same_Some q r (sym e ∙ k) in omega arith))))
      (cases_eq q p))
      (cases_lt q p)

  pub either : (records (has_of g new) 0x7FFF ≡ records (has_of g (live_at g a)) 0x7FFF) ⊎ (records (has_of g new) 0x7FFF ≡ put_file f (records (has_of g (live_at g a)) 0x7FFF))
  either = by_place (index_page g (own (live_at g a) id) 0) refl

pub finishing-publishes : (g : Geometry) → FinishingPublishes g
unfolding table_of
finishing-publishes g a b p flags id f is placed leads h =
    ⊎_elim
    (λ (same : b ≡ a). inl (ap (λ (x : List ℕ). table_of g x) same))
    (λ (done : slice_index b (p * g.page + 4) ≡ flags).
    either g a (live_at g b) p id (set (page_of g a p) 4 flags) f (page_number g p placed.entry_page) (finishing-gains g a b p flags is placed h done) leads)
    (one_bit_image 1 (p * g.page + 4) flags a b placed.clears h)

-- the first header page of its id
pub finishing-puts : (g : Geometry) (a b : List ℕ) (p flags id : ℕ) (f : File) → IsImage g a → IsPlaced g a p flags → LeadsTo g a id (set (page_of g a p) 4 flags) f →
    index_page g (own (live_at g a) id) 0 ≡ None → HalfProgrammed (p * g.page + 4) (flags ∷ []) a b → slice_index b (p * g.page + 4) ≡ flags → table_of g b ≡ put_file f (table_of g a)
unfolding table_of
finishing-puts g a b p flags id f is placed leads none h done =
    let within : p < page_count g = page_number g p placed.entry_page in
    let gains = finishing-gains g a b p flags is placed h done in
    changed g a (live_at g b) p id (set (page_of g a p) 4 flags) f within gains leads
    (first g a (live_at g b) p id (set (page_of g a p) 4 flags) f within gains leads (λ q k. absurd (none-some q (sym none ∙ k))))
