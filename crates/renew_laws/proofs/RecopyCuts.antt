-- A renewed index page: its cuts.
use Rattle.std.proofs.Common.{◌≡◌, ◌≢◌, ℕ, zero, suc, ◌+◌, ◌%◌, ◌<◌, ◌≤◌, ◌⊎◌, List, [], ◌==◌, Option, Some, None, Result, Ok, ap, refl, sym, ◌∙◌, arith, ⊎_elim, inl, inr}
use Rattle.std.proofs.Math.Path.{fun_ext}
use Rattle.std.specs.Prelude.{if◌then◌else◌}
use Rattle.std.specs.List.{All, range_with_len, filter_map, cons_option}
use Rattle.std.proofs.lemmas.List.Elements.{All-cons, All-nil}
use Rattle.std.proofs.lemmas.Bool.{cases_eq, ne_eqb, eq-eqb}
use Rattle.std.proofs.lemmas.Option.{none-some}
use Rattle.geometry.specs.declared.geometry.Geometry.{Geometry}
use Rattle.image_model.specs.Within.{page_number}
use Rattle.image_model.specs.declared.damage.Damage.{Damage}
use Rattle.geometry.specs.Numbers.{page_count}
use Rattle.image_model.specs.Live.{live_at, Live, own}
use Rattle.image_model.specs.Headers.{obj_id}
use Rattle.image_laws.specs.Changes.{Gains, Loses}
use Rattle.table_model.specs.Table.{File, put_file}
use Rattle.image_model.specs.Tables.{Found, has_of, counted, records, damages, table_of, damaged_of}
use Rattle.image_model.specs.Files.{found}
use Rattle.image_model.specs.Tidy.{free_blocks}
use Rattle.image_laws.specs.NewFile.{IsBeforeOrAfter}
use Rattle.image_model.specs.Sound.{HasMagics, IsMixed}
use Rattle.image_laws.specs.TidySteps.{Agree}
use Rattle.image_laws.specs.Creating.{CutOf}
use Rattle.image_laws.specs.LiveSteps.{PutLeaves, PutDone, KillLeaves}
use Rattle.renew_laws.proofs.ReserveKept.{kill-reserve}
use Rattle.renew_laws.specs.Recopy.{RecopiesTo, RecopyCuts}
use Rattle.image_laws.proofs.Frames.{table_of-same, damaged_of-same}
use Rattle.image_laws.proofs.Kill.{own-loses, own-loses_other}
use Rattle.image_laws.proofs.Tables.{own-gains_other, own-gains_page, own-gains_rest}
use Rattle.image_laws.proofs.Judge.{found_from}
use Rattle.image_laws.proofs.Finish.{own-parts, records-changed, has_of-within, has_of-keyed, heads-apart}
use Rattle.image_laws.proofs.Records.{counted-some, names-apart}
use Rattle.image_laws.proofs.Undamaged.{undamaged-changed}
use Rattle.image_laws.proofs.Sounding.{sound-by, mixed-gains, mixed-from, loses-back}
use Rattle.image_laws.proofs.FreeBlocks.{free_blocks-fall}
use Rattle.renew_laws.proofs.ReindexSteps.{found2, found3}

-- ---- no other file of an undamaged image has the name of a whole one

cons-all : (P : File → Type 0) (o : Option File) (xs : List File) → ((x : File) → o ≡ Some x → P x) → All P xs → All P (cons_option o xs)
cons-all P None xs here rest = rest
cons-all P (Some x) xs here rest = All-cons P x xs (here x refl) rest

range-all : (P : File → Type 0) (c : ℕ → Option File) (a n : ℕ) → ((j : ℕ) (x : File) → c j ≡ Some x → P x) → All P (filter_map c (range_with_len a n))
range-all P c a zero each = All-nil P
range-all P c a (suc n) each = cons-all P (c a) (filter_map c (range_with_len (a + 1) n)) (each a) (range-all P c (a + 1) n each)

pub unused-name : (g : Geometry) (a : List ℕ) (id h : ℕ) (f0 : File) → damaged_of g a ≡ [] → has_of g (live_at g a) id ≡ Some (h, Ok f0) → All (λ x. x.id ≢ id → x.name ≢ f0.name) (table_of g a)
unfolding table_of records damaged_of
unused-name g a id h f0 undamaged e =
    range-all (λ (x : File). x.id ≢ id → x.name ≢ f0.name) (λ (j : ℕ). counted (has_of g (live_at g a)) 0x7FFF (has_of g (live_at g a) j)) 1 0x7FFF
    (λ j x k. let w = counted-some (has_of g (live_at g a)) 0x7FFF (has_of g (live_at g a) j) x k in
    let key : x.id ≡ j = has_of-keyed g (live_at g a) j w.0 x w.1 in
    let b = has_of-within g a id h (Ok f0) e in
    let c = has_of-within g a j w.0 (Ok x) w.1 in
    λ other same. let there : id ≢ j = λ z. other (key ∙ sym z) in
    names-apart (has_of g (live_at g a)) 0x7FFF undamaged id j h w.0 f0 x b.0 b.1 c.0 c.1 e w.1 (λ z. heads-apart g (live_at g a) id j h w.0 (Ok f0) (Ok x) e w.1 there z) (sym same))

pub has-all : (g : Geometry) (old new : Live) (id : ℕ) → has_of g new id ≡ has_of g old id → ((j : ℕ) → j ≢ id → has_of g new j ≡ has_of g old j) → has_of g new ≡ has_of g old
has-all g old new id here others = fun_ext (λ (j : ℕ). ⊎_elim (λ (e : j ≡ id). rw e here) (λ (there : j ≡ id → ⊥). others j there) (cases_eq j id))

module _ (g : Geometry) (a0 : List ℕ) (p o id h : ℕ) (old page head head' : List ℕ) (f0 f : File) (start : RecopiesTo g a0 p o id h old page head head' f0 f) where
  within : p < page_count g
  within = page_number g p start.inside

  pub was0 : (live_at g a0 o ≡ Some old) × (obj_id old % 0x8000 ≡ id)
  was0 = own-parts (live_at g a0) id o old start.pages.was

  has0 : has_of g (live_at g a0) id ≡ Some (h, Ok f0)
  unfolding has_of
  has0 = found_from g (own (live_at g a0) id) id h head start.pages.at start.pages.header ∙ ap (λ (r : Result File Damage). Some (h, r)) start.pages.file

  pub bounds : (1 ≤ id) × (id ≤ 0x7FFF)
  bounds = has_of-within g a0 id h (Ok f0) has0

  pub unused0 : All (λ x. x.id ≢ id → x.name ≢ f.name) (table_of g a0)
  unused0 = rw start.pages.result (unused-name g a0 id h f0 start.undamaged has0)

  its : f.id ≡ id
  its = ap (λ (x : File). x.id) start.pages.result ∙ has_of-keyed g (live_at g a0) id h f0 has0

  puts : (new : Live) (k : ℕ) → has_of g new id ≡ Some (k, Ok f) → ((j : ℕ) → j ≢ id → has_of g new j ≡ has_of g (live_at g a0) j) → (records (has_of g new) 0x7FFF ≡ put_file f (records (has_of g (live_at g a0)) 0x7FFF)) × (damages (has_of g new) 0x7FFF ≡ [])
  unfolding table_of damaged_of
  puts new k now others = (
    records-changed g a0 new id k f bounds.0 bounds.1 start.undamaged unused0 its now others,
    undamaged-changed g a0 id f bounds.0 bounds.1 start.undamaged unused0 new k its now others,
  )

  module _ (c : List ℕ) (gains : Gains p page (live_at g a0) (live_at g c)) where
    own_none : own (live_at g a0) id p ≡ None
    unfolding own
    own_none = rw gains.before refl

    pub mine4 : Gains p page (own (live_at g a0) id) (own (live_at g c) id)
    mine4 = record {
      before = own_none;
      after = rw start.pages.new_of at (own-gains_page p page (live_at g a0) (live_at g c) gains);
      others = λ q there. rw start.pages.new_of at (own-gains_rest p page (live_at g a0) (live_at g c) gains q there);
    }

    pub apart : o ≢ p
    apart e = none-some old (sym gains.before ∙ ap (live_at g a0) (sym e) ∙ was0.0)

    pub live4 : live_at g c o ≡ Some old
    live4 = gains.others o apart ∙ was0.0

    others4 : (j : ℕ) → j ≢ id → own (live_at g c) j ≡ own (live_at g a0) j
    others4 j there = own-gains_other p page (live_at g a0) (live_at g c) gains j (λ e. there (sym e ∙ start.pages.new_of))

    has_others4 : (j : ℕ) → j ≢ id → has_of g (live_at g c) j ≡ has_of g (live_at g a0) j
    unfolding has_of
    has_others4 j there = ap (λ (pages : Live). found g pages j) (others4 j there)

    pub mixed4 : (d : ℕ) → IsMixed g (live_at g c) d → IsMixed g (live_at g a0) d
    mixed4 = mixed-gains g (live_at g a0) (live_at g c) p page gains start.kind

    without : Live
    without r = if r == o then None else own (live_at g c) id r

    lost : Loses o (own (live_at g c) id) without
    unfolding without
    lost = record { after = rw (eq-eqb o o refl) refl; others = λ q there. rw (ne_eqb q o there) refl }

    both4 : (table_of g c ≡ table_of g a0) × (damaged_of g c ≡ []) ⊎ (table_of g c ≡ put_file f (table_of g a0)) × (damaged_of g c ≡ [])
    unfolding table_of damaged_of has_of
    both4 =
        ⊎_elim
        (λ (same : found g (own (live_at g c) id) id ≡ found g (own (live_at g a0) id) id).
        let all = has-all g (live_at g a0) (live_at g c) id same has_others4 in
        inl (ap (λ (x : Found). records x 0x7FFF) all, ap (λ (x : Found). damages x 0x7FFF) all ∙ start.undamaged))
        (λ (new : found g (own (live_at g c) id) id ≡ found g without id).
        inr (puts (live_at g c) _ (new ∙ found3 g (own (live_at g a0) id) (own (live_at g c) id) without id o p h old page head head' f0 f start.pages within mine4 lost) has_others4))
        (found2 g (own (live_at g a0) id) (own (live_at g c) id) without id o p h old page head head' f0 f start.pages within mine4 lost)

    table4 : IsBeforeOrAfter g a0 f c
    table4 = ⊎_elim (λ (x : (table_of g c ≡ table_of g a0) × (damaged_of g c ≡ [])). inl x.0) (λ (x : (table_of g c ≡ put_file f (table_of g a0)) × (damaged_of g c ≡ [])). inr x.0) both4

    none4 : damaged_of g c ≡ []
    none4 = ⊎_elim (λ (x : (table_of g c ≡ table_of g a0) × (damaged_of g c ≡ [])). x.1) (λ (x : (table_of g c ≡ put_file f (table_of g a0)) × (damaged_of g c ≡ [])). x.1) both4

    module _ (d : List ℕ) (loses : Loses o (live_at g c) (live_at g d)) where
      pub mine5 : Loses o (own (live_at g c) id) (own (live_at g d) id)
      mine5 = own-loses o old (live_at g c) (live_at g d) live4 loses id

      pub others5 : (j : ℕ) → j ≢ id → own (live_at g d) j ≡ own (live_at g a0) j
      others5 j there = own-loses_other o old (live_at g c) (live_at g d) live4 loses j (λ e. there (sym e ∙ was0.1)) ∙ others4 j there

      both5 : (table_of g d ≡ put_file f (table_of g a0)) × (damaged_of g d ≡ [])
      unfolding table_of damaged_of has_of
      both5 = puts (live_at g d) _ (found3 g (own (live_at g a0) id) (own (live_at g c) id) (own (live_at g d) id) id o p h old page head head' f0 f start.pages within mine4 mine5)
          (λ j there. ap (λ (pages : Live). found g pages j) (others5 j there))

      pub mixed5 : (k : ℕ) → IsMixed g (live_at g d) k → IsMixed g (live_at g a0) k
      mixed5 k m = mixed4 k (mixed-from g (live_at g c) (live_at g d) k (loses-back o (live_at g c) (live_at g d) loses) m)

  module _ (m : HasMagics g a0) where
    fall4 : (c : List ℕ) → Agree g a0 c p → free_blocks g a0 ≤ free_blocks g c + 1
    fall4 c h = (free_blocks-fall g a0 c p h).0

    pub cut_put : (c : List ℕ) → PutLeaves g p page a0 c → CutOf g a0 f c × (damaged_of g c ≡ [])
    cut_put c h =
        ⊎_elim
        (λ (same : live_at g c ≡ live_at g a0).
        let table : table_of g c ≡ table_of g a0 = table_of-same g c a0 (λ q. ap (λ (l : Live). l q) same) in
        let damaged : damaged_of g c ≡ damaged_of g a0 = damaged_of-same g c a0 (λ q. ap (λ (l : Live). l q) same) in (
          record { table = inl table; sound = sound-by g a0 c m h.agree.magic (λ d x. rw same at x) damaged; free = fall4 c h.agree },
          damaged ∙ start.undamaged,
        ))
        (λ (gains : Gains p page (live_at g a0) (live_at g c)). (
          record { table = table4 c gains; sound = sound-by g a0 c m h.agree.magic (mixed4 c gains) (none4 c gains ∙ sym start.undamaged); free = fall4 c h.agree },
          none4 c gains,
        ))
        h.live

    pub cut_kill : (a4 c : List ℕ) → PutDone g p page a0 a4 → KillLeaves g o a4 c → CutOf g a0 f c × (damaged_of g c ≡ [])
    cut_kill a4 c put h =
        let live = live4 a4 put.gains in
        let free : free_blocks g a0 ≤ free_blocks g c + 1 =
        let one = fall4 a4 put.agree in
        let two = kill-reserve g a4 c o old live h.agree in omega (arith, one, two) in
        ⊎_elim
        (λ (same : live_at g c ≡ live_at g a4).
        let table : table_of g c ≡ table_of g a4 = table_of-same g c a4 (λ q. ap (λ (l : Live). l q) same) in
        let damaged : damaged_of g c ≡ damaged_of g a4 = damaged_of-same g c a4 (λ q. ap (λ (l : Live). l q) same) in
        let none : damaged_of g c ≡ [] = damaged ∙ none4 a4 put.gains in (
          record {
            table = ⊎_elim (λ (x : table_of g a4 ≡ table_of g a0). inl (table ∙ x)) (λ (x : table_of g a4 ≡ put_file f (table_of g a0)). inr (table ∙ x)) (table4 a4 put.gains);
            sound = sound-by g a0 c m (λ d. h.agree.magic d ∙ put.agree.magic d) (λ d x. mixed4 a4 put.gains d (rw same at x)) (none ∙ sym start.undamaged);
            free = free;
          },
          none,
        ))
        (λ (loses : Loses o (live_at g a4) (live_at g c)).
        let both = both5 a4 put.gains c loses in (
          record {
            table = inr both.0;
            sound = sound-by g a0 c m (λ d. h.agree.magic d ∙ put.agree.magic d) (mixed5 a4 put.gains c loses) (both.1 ∙ sym start.undamaged);
            free = free;
          },
          both.1,
        ))
        h.live

pub recopy-cuts : (g : Geometry) → RecopyCuts g
recopy-cuts g a c p o id h old page head head' f0 f start m cut =
    ⊎_elim
    (λ (x : PutLeaves g p page a c). cut_put g a p o id h old page head head' f0 f start m c x)
    (λ (x : (b : List ℕ) × PutDone g p page a b × KillLeaves g o b c). cut_kill g a p o id h old page head head' f0 f start m x.0 c x.1 x.2)
    cut
