-- Header pages that are told doubled by the ids noted before them.
use Rattle.std.proofs.Common.{◌≡◌, ◌≢◌, ℕ, ◌+◌, ◌%◌, ◌<◌, ◌≤◌, List, Bool, true, false, ◌==◌, Option, Some, None, ap, refl, sym, ◌∙◌, arith, ⊎_elim, subst, cond}
use Rattle.std.specs.Prelude.{is_some}
use Rattle.std.specs.Option.{option_map}
use Rattle.std.proofs.lemmas.Bool.{cases_eq, cases_lt, cases_Bool, eq-eqb, eqb-true, ne_eqb}
use Rattle.std.proofs.lemmas.Option.{none-some, same_Some}
use Rattle.geometry.specs.declared.geometry.Geometry.{Geometry}
use Rattle.page_layout.specs.declared.header.PageHeader.{PageHeader}
use Rattle.page_layout.specs.Ids.{bit_of}
use Rattle.page_layout.specs.Layout as layout
use Rattle.page_layout.specs.Layout.{header_at}
use Rattle.geometry.specs.Numbers.{page_count}
use Rattle.image_model.specs.Live.{live_at, own}
use Rattle.image_model.specs.Headers.{names_index, span_of}
use Rattle.image_model.specs.Files.{is_index, index_page}
use Rattle.image_model.specs.Tidy.{is_number}
use Rattle.flash_view.specs.Found.{headed, has_header}
use Rattle.flash_view.proofs.Least.{heads}
use Rattle.file_find.proofs.Marking.{find_parts}
use Rattle.file_find.proofs.Heads.{header_parts}
use Rattle.vol_check.specs.Culls.{is_doubled, Culls}
use Rattle.vol_check.specs.Noted.{Notes, NotesId, TellsDoubled}
use Rattle.vol_check.specs.Works.{TurnsDoubled}
use Rattle.vol_check.proofs.Resting.{headed_at, headed_page, own_self}
use Rattle.vol_check.proofs.Doubles.{Doubling, doubled_is, culls_double, doubles_nothing}

not_number : (o : Option ℕ) (p : ℕ) → o ≢ Some p → is_number o p ≡ false
not_number None p other = refl
not_number (Some q) p other = ne_eqb q p (λ e. other (ap (λ (x : ℕ). Some x) e))

-- ---- the first header page of an id

passes : (g : Geometry) (a : List ℕ) (p id : ℕ) → headed (live_at g a p) ≡ Some id → is_index (own (live_at g a) id p) 0 ≡ true
passes g a p id heads =
    let w = headed_at (live_at g a p) id heads in
    let mine : own (live_at g a) id p ≡ Some w.0 = rw w.4 at (own_self (live_at g a) p w.0 w.1) in
    rw mine (rw (w.2, w.3) refl)

-- one that stands behind another isn't it
later_page : (g : Geometry) (a : List ℕ) (p h id : ℕ) → h < p → headed (live_at g a h) ≡ Some id → index_page g (own (live_at g a) id) 0 ≢ Some p
unfolding index_page
later_page g a p h id low heads = λ e.
    let w = find_parts (λ (q : ℕ). is_index (own (live_at g a) id q) 0) 0 (page_count g) p e in
    let bad : true ≡ false = sym (passes g a h id heads) ∙ w.3 h (omega arith) low in absurd (cc)

-- and one without another before it is
first_page : (g : Geometry) (a : List ℕ) (p id : ℕ) → p < page_count g → headed (live_at g a p) ≡ Some id → ((h : ℕ) → h < p → headed (live_at g a h) ≡ Some id → ⊥) → index_page g (own (live_at g a) id) 0 ≡ Some p
unfolding has_header
first_page g a p id low is none = by (index_page g (own (live_at g a) id) 0) refl (heads g a p id low is)
  where
    by : (o : Option ℕ) → index_page g (own (live_at g a) id) 0 ≡ o → is_some o ≡ true → index_page g (own (live_at g a) id) 0 ≡ Some p
    by None e some = absurd (let bad : false ≡ true = some in cc)
    by (Some q) e some =
        ⊎_elim
        (λ (before : q < p). absurd (none q before (header_parts g a id q e).0))
        (λ (not_before : p ≤ q). ⊎_elim
        (λ (same : q ≡ p). e ∙ ap (λ (x : ℕ). Some x) same)
        (λ (there : q ≡ p → ⊥). absurd (later_page g a q p id (omega (arith, not_before, there)) is e))
        (cases_eq q p))
        (cases_lt q p)

heads_page : (g : Geometry) (a page : List ℕ) (p : ℕ) (head : PageHeader) → live_at g a p ≡ Some page → names_index page ≡ true → span_of page ≡ 0 → head ≡ header_at page → headed (live_at g a p) ≡ Some (head.id % 0x8000)
heads_page g a page p head live kind first same = rw (live, kind, first, same) refl

-- ---- notes go on page by page

module _ (g : Geometry) (a : List ℕ) (p : ℕ) (bits : List ℕ) (notes : Notes g a p bits) where
  -- a page whose id is noted nowhere
  notes_pass : ((id : ℕ) → headed (live_at g a p) ≡ Some id → ⊥) → Notes g a (p + 1) bits
  notes_pass none = record {
    noted = λ id h low is. ⊎_elim
        (λ (before : h < p). notes.noted id h before is)
        (λ (after : p ≤ h). let same : h ≡ p = omega (arith, low, after) in absurd (none id (subst (λ (q : ℕ). headed (live_at g a q) ≡ Some id) same is)))
        (cases_lt h p);
    only = λ id set. let w = notes.only id set in (w.0, omega (arith, w.1), w.2);
  }

  -- an index page that was looked for
  pub searched_told : (head : PageHeader) (doubled : Bool) → Some head ≡ option_map header_at (live_at g a p) → doubled ≡ is_doubled g a p → head.span ≢ 0 → TellsDoubled g a p doubled bits
  searched_told head doubled e told further = record { is = told; noted = by doubled }
    where
      unheaded : (id : ℕ) → headed (live_at g a p) ≡ Some id → ⊥
      unheaded id is =
          let w = headed_page (live_at g a p) head e in
          let x = headed_at (live_at g a p) id is in
          let same : x.0 ≡ w.0 = same_Some x.0 w.0 (sym x.1 ∙ w.1) in
          further (ap (λ (y : PageHeader). y.span) w.2 ∙ sym (ap span_of same) ∙ x.3)

      by : (b : Bool) → Notes g a (cond b p (p + 1)) bits
      by true = notes
      by false = notes_pass unheaded

  -- a header page by the notes
  module _ (now : List ℕ) (head : PageHeader) (e : Some head ≡ option_map header_at (live_at g a p)) (index : layout.names_index head ≡ true) (span : head.span ≡ 0) (is : NotesId (head.id % 0x8000) bits now) where
    heads_it : headed (live_at g a p) ≡ Some (head.id % 0x8000)
    heads_it =
        let w = headed_page (live_at g a p) head e in
        let kind : names_index w.0 ≡ true = rw w.2 at index in
        let first : span_of w.0 ≡ 0 = rw w.2 at span in
        heads_page g a w.0 p head w.1 kind first w.2

    noted_on : Notes g a (p + 1) now
    noted_on = record {
      noted = λ id h low heads. ⊎_elim
          (λ (here : id ≡ head.id % 0x8000). rw here is.noted)
          (λ (there : id ≡ head.id % 0x8000 → ⊥). is.others id there ∙ ⊎_elim
          (λ (before : h < p). notes.noted id h before heads)
          (λ (after : p ≤ h). let same : h ≡ p = omega (arith, low, after) in
          absurd (there (same_Some id (head.id % 0x8000) (sym (subst (λ (q : ℕ). headed (live_at g a q) ≡ Some id) same heads) ∙ heads_it))))
          (cases_lt h p))
          (cases_eq id (head.id % 0x8000));
      only = λ id set. ⊎_elim
          (λ (here : id ≡ head.id % 0x8000). (p, omega arith, rw here heads_it))
          (λ (there : id ≡ head.id % 0x8000 → ⊥). let w = notes.only id (sym (is.others id there) ∙ set) in (w.0, omega (arith, w.1), w.2))
          (cases_eq id (head.id % 0x8000));
    }

    noted_again : bit_of bits (head.id % 0x8000) ≡ 1 → Notes g a p now
    noted_again set = record {
      noted = λ id h low heads. ⊎_elim
          (λ (here : id ≡ head.id % 0x8000). rw here is.noted)
          (λ (there : id ≡ head.id % 0x8000 → ⊥). is.others id there ∙ notes.noted id h low heads)
          (cases_eq id (head.id % 0x8000));
      only = λ id later. ⊎_elim
          (λ (here : id ≡ head.id % 0x8000). notes.only id (rw here set))
          (λ (there : id ≡ head.id % 0x8000 → ⊥). notes.only id (sym (is.others id there) ∙ later))
          (cases_eq id (head.id % 0x8000));
    }

    pub noted_told : (before : Bool) → p < page_count g → before ≡ (bit_of bits (head.id % 0x8000) == 1) → TellsDoubled g a p before now
    noted_told before low told = ⊎_elim
        (λ (yes : before ≡ true).
        let set : bit_of bits (head.id % 0x8000) ≡ 1 = eqb-true _ 1 (sym told ∙ yes) in
        let w = notes.only (head.id % 0x8000) set in
        let other : is_number (index_page g (own (live_at g a) (head.id % 0x8000)) 0) p ≡ false = not_number _ p (later_page g a p w.0 (head.id % 0x8000) w.1 w.2) in
        rw yes (record { is = sym (doubled_is g a p head e index ∙ rw (span, other) refl); noted = noted_again set }))
        (λ (no : before ≡ false).
        let first = first_page g a p (head.id % 0x8000) low heads_it (λ h less heads.
        let set = notes.noted (head.id % 0x8000) h less heads in
        let bad : true ≡ false = sym (eq-eqb _ 1 set) ∙ sym told ∙ no in absurd (cc)) in
        rw no (record { is = sym (doubled_is g a p head e index ∙ rw (span, first, eq-eqb p p refl) refl); noted = noted_on }))
        (cases_Bool before)

-- pages that are neither doubled nor header pages are passed over
pub doubling_skip : (g : Geometry) (first a bits : List ℕ) (at p n : ℕ) → at ≤ p → ((q : ℕ) → at ≤ q → q < p → is_doubled g a q ≡ false) → ((q : ℕ) → at ≤ q → q < p → headed (live_at g a q) ≡ None) →
    Doubling g first a bits at n → Doubling g first a bits p n
doubling_skip g first a bits at p n more single none s = record {
  passes = s.passes;
  single = λ q low. ⊎_elim (λ (early : q < at). s.single q early) (λ (late : at ≤ q). single q late low) (cases_lt q at);
  damaged = s.damaged;
  noted = record {
    noted = λ id h low is. ⊎_elim (λ (early : h < at). s.noted.noted id h early is) (λ (late : at ≤ h). absurd (none-some id (sym (none h late low) ∙ is))) (cases_lt h at);
    only = λ id set. let w = s.noted.only id set in (w.0, omega (arith, w.1, more), w.2);
  };
}

-- ---- a turn

notes_after : (g : Geometry) (a b : List ℕ) (p : ℕ) (bits : List ℕ) → Notes g a p bits → live_at g b p ≡ None → ((q : ℕ) → q ≢ p → live_at g b q ≡ live_at g a q) → Notes g b (p + 1) bits
notes_after g a b p bits notes gone others = record {
  noted = λ id h low is. ⊎_elim
      (λ (here : h ≡ p). let none : headed (live_at g b h) ≡ None = rw (here, gone) refl in absurd (none-some id (sym none ∙ is)))
      (λ (there : h ≡ p → ⊥). notes.noted id h (omega (arith, low, there)) (rw (others h there) at is))
      (cases_eq h p);
  only = λ id set.
      let w = notes.only id set in
      let there : w.0 ≢ p = λ same. omega (arith, same, w.1) in
      (w.0, omega (arith, w.1), rw (others w.0 there) w.2);
}

pub turns_double : (g : Geometry) (a b : List ℕ) (p : ℕ) (bits : List ℕ) → TellsDoubled g a p true bits → Culls g p true a b → TurnsDoubled g p bits true a b
turns_double g a b p bits told culls = record { culls = culls_double g a b p (sym told.is) culls; noted = notes_after g a b p bits told.noted (culls.gone refl) culls.others }

pub turns_nothing : (g : Geometry) (a : List ℕ) (p : ℕ) (bits : List ℕ) → TellsDoubled g a p false bits → TurnsDoubled g p bits false a a
turns_nothing g a p bits told = record { culls = doubles_nothing g a p (sym told.is); noted = told.noted }

-- no id is noted at first
pub notes_none : (g : Geometry) (a bits : List ℕ) → ((id : ℕ) → bit_of bits id ≡ 0) → Notes g a 0 bits
notes_none g a bits none = record { noted = λ id h low is. absurd (omega arith); only = λ id set. let clear = none id in absurd (omega (arith, set, clear)) }
