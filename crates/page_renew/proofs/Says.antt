-- What a header page says once one of its fields is written.
use Rattle.std.proofs.Common.{◌≡◌, ◌≢◌, ℕ, ◌+◌, ◌*◌, ◌<◌, ◌≤◌, ◌⊎◌, List, length, take, min, ◌-◌, slice_index, slice_range, ◌==◌, Some, ap, refl, sym, subst, ◌∙◌, arith, ⊎_elim, inl, inr}
use Rattle.std.specs.Prelude.{nat_lt, if◌then◌else◌}
use Rattle.std.proofs.lemmas.List.{get_or-take, length-take-le, take_all}
use Rattle.std.proofs.lemmas.Bool.{cases_eq, cases_lt, lt-ltb, le-ltb, ne_eqb, eq-eqb}
use Rattle.geometry.specs.declared.geometry.Geometry.{Geometry}
use Rattle.geometry.specs.Numbers.{head_slots}
use Rattle.nor_core.specs.Flash.{SameOutside, word_at}
use Rattle.page_layout.proofs.Stays.{word_stays, range_stays, name_stays}
use Rattle.image_laws.proofs.Frames.{word_at-same, range-same}
use Rattle.image_model.specs.Headers.{size_of, name_of}
use Rattle.page_renew.specs.Copies.{kept_of, IsCopy}
use Rattle.page_renew.specs.declared.edits.Edit.{Edit}
use Rattle.page_renew.specs.declared.edits.Edit.TheVariants.{Cut, Grow}
use Rattle.page_renew.specs.Edits.{Header, header_in, Says, cut_at, edited, IsNamed, named_from, naming}

module _ (g : Geometry) (h : Header) (old new : List ℕ) (says : Says g h old) where
  size_same : (at count : ℕ) → SameOutside at count old new → (at + count ≤ 8) ⊎ (12 ≤ at) → size_of new ≡ size_of old
  size_same at count same apart =
      let one : word_at new 8 ≡ word_at old 8 = word_stays at count 8 old new same (⊎_elim (λ (x : at + count ≤ 8). inl x) (λ (x : 12 ≤ at). inr (omega (arith, x))) apart) in
      let two : word_at new 10 ≡ word_at old 10 = word_stays at count 10 old new same (⊎_elim (λ (x : at + count ≤ 8). inl (omega (arith, x))) (λ (x : 12 ≤ at). inr (omega (arith, x))) apart) in
      rw (one, two) refl

  -- another name
  pub says_name : (name : List ℕ) → SameOutside 13 32 old new → name_of new ≡ Some name →
      Says g (record { id = h.id; span = h.span; kind = h.kind; size = h.size; name = Some name; meta = h.meta; entry = h.entry }) new
  says_name name same is = record {
    len = same.size ∙ says.len;
    id = word_stays 13 32 0 old new same (inr (omega arith)) ∙ says.id;
    span = word_stays 13 32 2 old new same (inr (omega arith)) ∙ says.span;
    kind = same.before 12 (omega arith) ∙ says.kind;
    size = size_same 13 32 same (inr (omega arith)) ∙ says.size;
    name = is;
    meta = range_stays 13 32 45 g.meta old new same (inl (omega arith)) ∙ says.meta;
    entries = λ t below. word_stays 13 32 (45 + g.meta + 2 * t) old new same (inl (omega arith)) ∙ says.entries t below;
  }

  -- other meta bytes
  pub says_meta : (meta : List ℕ) → SameOutside 45 g.meta old new → slice_range new 45 (45 + g.meta) ≡ meta →
      Says g (record { id = h.id; span = h.span; kind = h.kind; size = h.size; name = h.name; meta = meta; entry = h.entry }) new
  says_meta meta same is = record {
    len = same.size ∙ says.len;
    id = word_stays 45 g.meta 0 old new same (inr (omega arith)) ∙ says.id;
    span = word_stays 45 g.meta 2 old new same (inr (omega arith)) ∙ says.span;
    kind = same.before 12 (omega arith) ∙ says.kind;
    size = size_same 45 g.meta same (inr (omega arith)) ∙ says.size;
    name = name_stays 45 g.meta old new same (inr (omega arith)) ∙ says.name;
    meta = is;
    entries = λ t below. word_stays 45 g.meta (45 + g.meta + 2 * t) old new same (inl (omega arith)) ∙ says.entries t below;
  }

  -- another size
  pub says_size : (size : ℕ) → SameOutside 8 4 old new → size_of new ≡ size →
      Says g (record { id = h.id; span = h.span; kind = h.kind; size = size; name = h.name; meta = h.meta; entry = h.entry }) new
  says_size size same is = record {
    len = same.size ∙ says.len;
    id = word_stays 8 4 0 old new same (inr (omega arith)) ∙ says.id;
    span = word_stays 8 4 2 old new same (inr (omega arith)) ∙ says.span;
    kind = same.after 12 (omega arith) ∙ says.kind;
    size = is;
    name = name_stays 8 4 old new same (inl (omega arith)) ∙ says.name;
    meta = range_stays 8 4 45 g.meta old new same (inl (omega arith)) ∙ says.meta;
    entries = λ t below. word_stays 8 4 (45 + g.meta + 2 * t) old new same (inl (omega arith)) ∙ says.entries t below;
  }

  -- one page number more
  pub says_entry : (span page : ℕ) → IsNamed g span page old new →
      Says g (record { id = h.id; span = h.span; kind = h.kind; size = h.size; name = h.name; meta = h.meta; entry = λ t. if t == span then page else h.entry t }) new
  says_entry span page named =
      ⊎_elim
      (λ (low : span < head_slots g).
      let w = named.1 low in
      let at : ℕ = 45 + g.meta + 2 * span in
      record {
        len = w.1.size ∙ says.len;
        id = word_stays (45 + g.meta + 2 * span) 2 0 old new w.1 (inr (omega arith)) ∙ says.id;
        span = word_stays (45 + g.meta + 2 * span) 2 2 old new w.1 (inr (omega arith)) ∙ says.span;
        kind = w.1.before 12 (omega arith) ∙ says.kind;
        size = size_same (45 + g.meta + 2 * span) 2 w.1 (inr (omega arith)) ∙ says.size;
        name = name_stays (45 + g.meta + 2 * span) 2 old new w.1 (inr (omega arith)) ∙ says.name;
        meta = range_stays (45 + g.meta + 2 * span) 2 45 g.meta old new w.1 (inr (omega arith)) ∙ says.meta;
        entries = λ t below. ⊎_elim
            (λ (here : t ≡ span). rw (eq-eqb t span here) (rw here w.0))
            (λ (there : t ≡ span → ⊥). rw (ne_eqb t span there) (word_stays (45 + g.meta + 2 * span) 2 (45 + g.meta + 2 * t) old new w.1 (apart t there) ∙ says.entries t below))
            (cases_eq t span);
      })
      (λ (high : head_slots g ≤ span). rw (named.0 high) (record {
        len = says.len;
        id = says.id;
        span = says.span;
        kind = says.kind;
        size = says.size;
        name = says.name;
        meta = says.meta;
        entries = λ t below. rw (ne_eqb t span (λ e. omega (arith, e, below, high))) (says.entries t below);
      }))
      (cases_lt span (head_slots g))
    where
      apart : (t : ℕ) → t ≢ span → (45 + g.meta + 2 * span + 2 ≤ 45 + g.meta + 2 * t) ⊎ (45 + g.meta + 2 * t + 2 ≤ 45 + g.meta + 2 * span)
      apart t there =
          ⊎_elim
          (λ (less : span < t). inl (omega (arith, less)))
          (λ (more : t ≤ span). inr (omega (arith, more, there)))
          (cases_lt span t)

  -- the same where the page numbers are those
  pub says_entries : (entry : ℕ → ℕ) → ((t : ℕ) → h.entry t ≡ entry t) →
      Says g (record { id = h.id; span = h.span; kind = h.kind; size = h.size; name = h.name; meta = h.meta; entry = entry }) old
  says_entries entry same = record {
    len = says.len;
    id = says.id;
    span = says.span;
    kind = says.kind;
    size = says.size;
    name = says.name;
    meta = says.meta;
    entries = λ t below. says.entries t below ∙ same t;
  }

  -- other flags
  pub says_flags : SameOutside 4 1 old new → Says g h new
  says_flags same = record {
    len = same.size ∙ says.len;
    id = word_stays 4 1 0 old new same (inr (omega arith)) ∙ says.id;
    span = word_stays 4 1 2 old new same (inr (omega arith)) ∙ says.span;
    kind = same.after 12 (omega arith) ∙ says.kind;
    size = size_same 4 1 same (inl (omega arith)) ∙ says.size;
    name = name_stays 4 1 old new same (inl (omega arith)) ∙ says.name;
    meta = range_stays 4 1 45 g.meta old new same (inl (omega arith)) ∙ says.meta;
    entries = λ t below. word_stays 4 1 (45 + g.meta + 2 * t) old new same (inl (omega arith)) ∙ says.entries t below;
  }

-- ---- page numbers from a span on

pub named_inside : (span : ℕ) (pages : List ℕ) (entry : ℕ → ℕ) (t : ℕ) → span ≤ t → t < span + length pages → named_from span pages entry t ≡ slice_index pages (t - span)
named_inside span pages entry t low high = rw (le-ltb t span low, lt-ltb t (span + length pages) high) refl

pub named_before : (span : ℕ) (pages : List ℕ) (entry : ℕ → ℕ) (t : ℕ) → t < span → named_from span pages entry t ≡ entry t
named_before span pages entry t less = rw (lt-ltb t span less) refl

pub named_behind : (span : ℕ) (pages : List ℕ) (entry : ℕ → ℕ) (t : ℕ) → span + length pages ≤ t → named_from span pages entry t ≡ entry t
named_behind span pages entry t past = rw (le-ltb t span (omega (arith, past)), le-ltb t (span + length pages) past) refl

-- one more of them
module _ (span : ℕ) (pages : List ℕ) (entry : ℕ → ℕ) (i : ℕ) (inside : i < length pages) where
  short : length (take i pages) ≡ i
  short = length-take-le i pages (omega (arith, inside))

  longer : length (take (i + 1) pages) ≡ i + 1
  longer = length-take-le (i + 1) pages (omega (arith, inside))

  pub one_more : (t : ℕ) → (if t == span + i then slice_index pages i else named_from span (take i pages) entry t) ≡ named_from span (take (i + 1) pages) entry t
  one_more t =
      ⊎_elim
      (λ (here : t ≡ span + i).
      let at : t - span ≡ i = omega (arith, here) in
      rw (eq-eqb t (span + i) here)
      (sym (named_inside span (take (i + 1) pages) entry t (omega (arith, here)) (omega (arith, here, longer)) ∙ get_or-take (i + 1) pages (t - span) 0 (omega (arith, at)) ∙ ap (λ (k : ℕ). slice_index pages k) at)))
      (λ (there : t ≡ span + i → ⊥). rw (ne_eqb t (span + i) there) (⊎_elim
      (λ (before : t < span). named_before span (take i pages) entry t before ∙ sym (named_before span (take (i + 1) pages) entry t before))
      (λ (from : span ≤ t). ⊎_elim
      (λ (low : t < span + i). named_inside span (take i pages) entry t from (omega (arith, low, short)) ∙ get_or-take i pages (t - span) 0 (omega (arith, low, from))
      ∙ sym (named_inside span (take (i + 1) pages) entry t from (omega (arith, low, longer)) ∙ get_or-take (i + 1) pages (t - span) 0 (omega (arith, low, from))))
      (λ (high : span + i ≤ t). named_behind span (take i pages) entry t (omega (arith, high, short)) ∙ sym (named_behind span (take (i + 1) pages) entry t (omega (arith, high, longer, there))))
      (cases_lt t (span + i)))
      (cases_lt t span)))
      (cases_eq t (span + i))

-- it stays of its length
pub named_size : (g : Geometry) (span page : ℕ) (old new : List ℕ) → IsNamed g span page old new → length old ≡ g.page → length new ≡ g.page
named_size g span page old new named len = ⊎_elim
    (λ (low : span < head_slots g). (named.1 low).1.size ∙ len)
    (λ (high : head_slots g ≤ span). ap (λ (l : List ℕ). length l) (named.0 high) ∙ len)
    (cases_lt span (head_slots g))

-- a header page with one more of them
pub says_more : (g : Geometry) (h : Header) (mid new : List ℕ) (span : ℕ) (pages : List ℕ) (i : ℕ) → i < length pages → Says g (naming span (take i pages) h) mid → IsNamed g (span + i) (slice_index pages i) mid new → Says g (naming span (take (i + 1) pages) h) new
says_more g h mid new span pages i inside says named =
    says_entries g _ new new (says_entry g (naming span (take i pages) h) mid new says (span + i) (slice_index pages i) named) (named_from span (take (i + 1) pages) h.entry) (one_more span pages h.entry i inside)

-- none, and all of them
pub says_first : (g : Geometry) (h : Header) (page : List ℕ) (span : ℕ) (pages : List ℕ) → Says g h page → Says g (naming span (take 0 pages) h) page
says_first g h page span pages says = says_entries g h page page says (named_from span (take 0 pages) h.entry) (λ t. ⊎_elim
    (λ (less : t < span). sym (named_before span (take 0 pages) h.entry t less))
    (λ (high : span ≤ t). sym (named_behind span (take 0 pages) h.entry t (let none : length (take 0 pages) ≡ 0 = length-take-le 0 pages (omega arith) in omega (arith, high, none))))
    (cases_lt t span))

pub says_all : (g : Geometry) (h : Header) (page : List ℕ) (span : ℕ) (pages : List ℕ) (i : ℕ) → length pages ≤ i → Says g (naming span (take i pages) h) page → Says g (naming span pages h) page
says_all g h page span pages i all says = subst (λ (l : List ℕ). Says g (naming span l h) page) (take_all i pages all) says

-- another size, by the edits that give one
pub by_size : (g : Geometry) (h : Header) (old new : List ℕ) → Says g h old → (edit : Edit) (count asked size : ℕ) → (edit ≡ Cut asked) ⊎ (edit ≡ Grow asked) → size ≡ asked → SameOutside 8 4 old new → size_of new ≡ size → Says g (edited edit count h) new
by_size g h old new says edit count asked size by same others is =
    ⊎_elim
    (λ (e : edit ≡ Cut asked). rw e (says_size g h old new says asked others (is ∙ same)))
    (λ (e : edit ≡ Grow asked). rw e (says_size g h old new says asked others (is ∙ same)))
    by

-- a copy says the same, with the page numbers below the count
module _ (g : Geometry) (count : ℕ) (old new : List ℕ) (len : length old ≡ g.page) (copy : IsCopy g 0 (kept_of g 0 count) old new) where
  byte : (k : ℕ) → 8 ≤ k → k < 45 + g.meta + 2 * min count (head_slots g) → (k < 13) ⊎ (45 ≤ k) → slice_index new k ≡ slice_index old k
  byte k low high field = copy.fields k low high (λ z. field)

  entry_is : (t : ℕ) → t < head_slots g → word_at new (45 + g.meta + 2 * t) ≡ (if nat_lt t count then word_at old (45 + g.meta + 2 * t) else 0xFFFF)
  entry_is t below =
      ⊎_elim
      (λ (kept : t < count). rw (lt-ltb t count kept) (word_at-same old new (45 + g.meta + 2 * t)
      (byte (45 + g.meta + 2 * t) (omega arith) (omega arith) (inr (omega arith))) (byte (45 + g.meta + 2 * t + 1) (omega arith) (omega arith) (inr (omega arith)))))
      (λ (past : count ≤ t).
      let one : slice_index new (45 + g.meta + 2 * t) ≡ 0xFF = copy.erased (45 + g.meta + 2 * t) (omega arith) (omega arith) in
      let two : slice_index new (45 + g.meta + 2 * t + 1) ≡ 0xFF = copy.erased (45 + g.meta + 2 * t + 1) (omega arith) (omega arith) in
      rw (le-ltb t count past) (omega (arith, one, two)))
      (cases_lt t count)

  pub says_copy : Says g (cut_at count (header_in g old)) new
  says_copy = record {
    len = copy.size ∙ len;
    id = word_at-same old new 0 (copy.head 0 (omega arith)) (copy.head 1 (omega arith));
    span = word_at-same old new 2 (copy.head 2 (omega arith)) (copy.head 3 (omega arith));
    kind = byte 12 (omega arith) (omega arith) (inl (omega arith));
    size =
        let low : word_at new 8 ≡ word_at old 8 = word_at-same old new 8 (byte 8 (omega arith) (omega arith) (inl (omega arith))) (byte 9 (omega arith) (omega arith) (inl (omega arith))) in
        let high : word_at new 10 ≡ word_at old 10 = word_at-same old new 10 (byte 10 (omega arith) (omega arith) (inl (omega arith))) (byte 11 (omega arith) (omega arith) (inl (omega arith))) in
        rw (low, high) refl;
    name = copy.name refl;
    meta = range-same old new 45 g.meta copy.size (λ i low high. byte i (omega arith) (omega arith) (inr low));
    entries = entry_is;
  }
