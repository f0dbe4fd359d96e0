-- What a turn leaves of the pages that a cleaning moves.
use Rattle.std.proofs.Common.{◌≡◌, ℕ, ◌+◌, ◌*◌, ◌%◌, ◌<◌, ◌≤◌, ◌⊎◌, List, Bool, true, false, not, nat_lt, ◌==◌, ◌&&◌, Option, Some, None, ap, refl, sym, ◌∙◌, arith, ⊎_elim, inl, inr}
use Rattle.std.specs.Prelude.{is_some}
use Rattle.std.proofs.lemmas.Bool.{cases_Bool, and_parts, eqb-true, eq-eqb, false_from_ne_true, not-true}
use Rattle.geometry.specs.declared.geometry.Geometry.{Geometry}
use Rattle.geometry.specs.Numbers.{per_block, lookups, entries}
use Rattle.image_model.specs.Collect.{count_in}
use Rattle.image_model.specs.Files.{index_span}
use Rattle.image_model.specs.Headers.{obj_id, span_of, names_index}
use Rattle.image_model.specs.Live.{live_at}
use Rattle.image_model.specs.Places.{block_of}
use Rattle.image_model.specs.Within.{entry_in}
use Rattle.image_laws.proofs.FreeBlocks.{filter-same}
use Rattle.image_laws.proofs.Matching.{filter-none_in}
use Rattle.block_gc.specs.Programs.{is_named, named_before, begins_batch, batches_in, live_in, moved_with}
use Rattle.block_gc.proofs.Ranks.{count, count_split, below, IsOver, firsts, fewer_parts}

-- of those that passed some went, and the others pass still
pub count_gone : (was now went : ℕ → Bool) (a n : ℕ) → ((q : ℕ) → a ≤ q → q < a + n → went q ≡ true → (was q ≡ true) × (now q ≡ false)) → ((q : ℕ) → a ≤ q → q < a + n → went q ≡ false → now q ≡ was q) →
    count was a n ≡ count now a n + count went a n
count_gone was now went a n gone others =
    let split = count_split was went a n in
    let left = filter-same (λ (p : ℕ). was p && not (went p)) now a n (λ q low high. ⊎_elim
    (λ (is : went q ≡ true). rw (is, (gone q low high is).1) (sym (no (was q))))
    (λ (none : went q ≡ false). rw (none, others q low high none) (sym (all (was q))))
    (cases_Bool (went q))) in
    let out = filter-same (λ (p : ℕ). was p && went p) went a n (λ q low high. ⊎_elim
    (λ (is : went q ≡ true). rw (is, (gone q low high is).0) refl)
    (λ (none : went q ≡ false). rw none (sym (no (was q))))
    (cases_Bool (went q))) in
    omega (arith, split, left, out)
  where
    no : (x : Bool) → (x && false) ≡ false
    no true = refl
    no false = refl

    all : (x : Bool) → (x && true) ≡ x
    all true = refl
    all false = refl

none_and : (x : Bool) → (x && false) ≡ false
none_and true = refl
none_and false = refl

-- what the tag of a live data page is that an index page names
pub named_parts : (g : Geometry) (id span : ℕ) (x : List ℕ) → is_named g id span (Some x) ≡ true → (names_index x ≡ false) × (obj_id x % 0x8000 ≡ id) × (index_span g (span_of x) ≡ span)
named_parts g id span x is =
    let w : ((not (names_index x) && (obj_id x % 0x8000 == id)) ≡ true) × ((index_span g (span_of x) == span) ≡ true) = and_parts (not (names_index x) && (obj_id x % 0x8000 == id)) (index_span g (span_of x) == span) is in
    let v : (not (names_index x) ≡ true) × ((obj_id x % 0x8000 == id) ≡ true) = and_parts (not (names_index x)) (obj_id x % 0x8000 == id) w.0 in
    (not-true (names_index x) v.0, eqb-true (obj_id x % 0x8000) id v.1, eqb-true (index_span g (span_of x)) span w.1)

pub named_from : (g : Geometry) (id span : ℕ) (x : List ℕ) → names_index x ≡ false → obj_id x % 0x8000 ≡ id → index_span g (span_of x) ≡ span → is_named g id span (Some x) ≡ true
named_from g id span x kind at is = rw (kind, eq-eqb (obj_id x % 0x8000) id at, eq-eqb (index_span g (span_of x)) span is) refl

-- of the pages that one index page names those begin batches before which whole batches are
begins_named : (g : Geometry) (image : List ℕ) (block longest id span p : ℕ) (o : Option (List ℕ)) →
    (is_named g id span o && (named_before g image block id span p % longest == 0)) ≡ (begins_batch g image block longest p o && is_named g id span o)
begins_named g image block longest id span p None = refl
begins_named g image block longest id span p (Some x) = ⊎_elim
    (λ (is : is_named g id span (Some x) ≡ true).
    let w = named_parts g id span x is in
    rw is (rw (w.0, w.1, w.2) (sym (all (named_before g image block id span p % longest == 0)))))
    (λ (none : is_named g id span (Some x) ≡ false). rw none (sym (none_and (begins_batch g image block longest p (Some x)))))
    (cases_Bool (is_named g id span (Some x)))
  where
    all : (b : Bool) → (b && true) ≡ b
    all true = refl
    all false = refl

-- ---- a batch goes

-- The live data pages of a block for which a test holds went: an index page names them all, and as many went as make a whole batch, or no other is named there.
pub record BatchWent (g : Geometry) (was now : List ℕ) (block id span longest : ℕ) (went : ℕ → Bool) : Type 0 where
  pub of : (q : ℕ) → block_of g q ≡ block → went q ≡ true → is_named g id span (live_at g was q) ≡ true
  pub gone : (q : ℕ) → block_of g q ≡ block → went q ≡ true → live_at g now q ≡ None
  pub others : (q : ℕ) → block_of g q ≡ block → went q ≡ false → live_at g now q ≡ live_at g was q
  pub some : 0 < count_in g block went
  pub full : (longest ≤ count_in g block went) ⊎ ((q : ℕ) → block_of g q ≡ block → is_named g id span (live_at g was q) ≡ true → went q ≡ true)

module _ (g : Geometry) (was now : List ℕ) (block id span longest : ℕ) (went : ℕ → Bool) (low : block < g.blocks) (one : 0 < longest) (b : BatchWent g was now block id span longest went) where
  abbrev a : ℕ
  a = block * per_block g + lookups g

  at : (q : ℕ) → a ≤ q → q < a + entries g → block_of g q ≡ block
  at q from to = (entry_in g block q low from to).0

  named_some : (o : Option (List ℕ)) → is_named g id span o ≡ true → is_some o ≡ true
  named_some None e = absurd (cc)
  named_some (Some x) e = refl

  live_falls : live_in g was block ≡ live_in g now block + count_in g block went
  unfolding live_in
  live_falls = count_gone (λ (p : ℕ). is_some (live_at g was p)) (λ (p : ℕ). is_some (live_at g now p)) went a (entries g)
      (λ q from to is. (named_some (live_at g was q) (b.of q (at q from to) is), ap (λ (o : Option (List ℕ)). is_some o) (b.gone q (at q from to) is)))
      (λ q from to none. ap (λ (o : Option (List ℕ)). is_some o) (b.others q (at q from to) none))

  named_falls : count (λ p. is_named g id span (live_at g was p)) a (entries g) ≡ count (λ p. is_named g id span (live_at g now p)) a (entries g) + count_in g block went
  named_falls = count_gone (λ (p : ℕ). is_named g id span (live_at g was p)) (λ (p : ℕ). is_named g id span (live_at g now p)) went a (entries g)
      (λ q from to is. (b.of q (at q from to) is, ap (is_named g id span) (b.gone q (at q from to) is)))
      (λ q from to none. ap (is_named g id span) (b.others q (at q from to) none))

  -- another index page names as many before each page as it did
  module _ (other at_span : ℕ) (apart : (other ≡ id) × (at_span ≡ span) → ⊥) where
    not_both : (o : Option (List ℕ)) → is_named g id span o ≡ true → is_named g other at_span o ≡ false
    not_both None e = refl
    not_both (Some x) e = false_from_ne_true _ (λ is. let w = named_parts g id span x e in let v = named_parts g other at_span x is in apart (sym v.1 ∙ w.1, sym v.2 ∙ w.2))

    same_before : (p : ℕ) → named_before g now block other at_span p ≡ named_before g was block other at_span p
    unfolding named_before
    same_before p = filter-same (λ (q : ℕ). nat_lt q p && is_named g other at_span (live_at g was q)) (λ (q : ℕ). nat_lt q p && is_named g other at_span (live_at g now q)) a (entries g) (λ q from to. ⊎_elim
        (λ (is : went q ≡ true). ap (λ (x : Bool). nat_lt q p && x) (ap (is_named g other at_span) (b.gone q (at q from to) is) ∙ sym (not_both (live_at g was q) (b.of q (at q from to) is))))
        (λ (none : went q ≡ false). ap (λ (o : Option (List ℕ)). nat_lt q p && is_named g other at_span o) (b.others q (at q from to) none))
        (cases_Bool (went q)))

  -- a page that is left and that another index page names begins a batch as before
  same_begins : (p : ℕ) (o : Option (List ℕ)) → (begins_batch g now block longest p o && not (is_named g id span o)) ≡ (begins_batch g was block longest p o && not (is_named g id span o))
  same_begins p None = refl
  same_begins p (Some x) = ⊎_elim
      (λ (is : is_named g id span (Some x) ≡ true). rw is (none_and (begins_batch g now block longest p (Some x)) ∙ sym (none_and (begins_batch g was block longest p (Some x)))))
      (λ (none : is_named g id span (Some x) ≡ false). ⊎_elim
      (λ (index : names_index x ≡ true). rw index refl)
      (λ (kind : names_index x ≡ false).
      let same = same_before (obj_id x % 0x8000) (index_span g (span_of x)) (λ w. let e = named_from g id span x kind w.0 w.1 in let bad : false ≡ true = sym none ∙ e in absurd (cc)) p in
      ap (λ (k : ℕ). not (names_index x) && (k % longest == 0) && not (is_named g id span (Some x))) same)
      (cases_Bool (names_index x)))
      (cases_Bool (is_named g id span (Some x)))

  abbrev first : (image : List ℕ) → ℕ → Bool
  first image p = begins_batch g image block longest p (live_at g image p)

  abbrev own : (image : List ℕ) → ℕ → Bool
  own image p = is_named g id span (live_at g image p)

  rest_same : count (λ p. first now p && not (own now p)) a (entries g) ≡ count (λ p. first was p && not (own was p)) a (entries g)
  rest_same = filter-same (λ (p : ℕ). first was p && not (own was p)) (λ (p : ℕ). first now p && not (own now p)) a (entries g) (λ q from to. ⊎_elim
      (λ (is : went q ≡ true). rw (b.gone q (at q from to) is, b.of q (at q from to) is) (sym (none_and (first was q))))
      (λ (none : went q ≡ false). rw (b.others q (at q from to) none) (same_begins q (live_at g was q)))
      (cases_Bool (went q)))

  parts : (image : List ℕ) → IsOver (count (own image) a (entries g)) longest (count (λ p. first image p && own image p) a (entries g))
  unfolding named_before
  parts image =
      let over = firsts (own image) longest a (entries g) one in
      let same = filter-same (λ (p : ℕ). first image p && own image p) (λ (p : ℕ). own image p && (below (own image) a (entries g) p % longest == 0)) a (entries g) (λ q from to. begins_named g image block longest id span q (live_at g image q)) in
      rw same at over

  batches_fall : batches_in g now block longest + 1 ≤ batches_in g was block longest
  unfolding batches_in
  batches_fall =
      let was_split = count_split (first was) (own was) a (entries g) in
      let now_split = count_split (first now) (own now) a (entries g) in
      let how : (longest ≤ count_in g block went) ⊎ (count (own now) a (entries g) ≡ 0) = ⊎_elim
      (λ (full : longest ≤ count_in g block went). inl full)
      (λ (all : (q : ℕ) → block_of g q ≡ block → is_named g id span (live_at g was q) ≡ true → went q ≡ true).
      inr (filter-none_in (own now) a (entries g) (λ q from to. ⊎_elim
      (λ (is : went q ≡ true). ap (is_named g id span) (b.gone q (at q from to) is))
      (λ (none : went q ≡ false). ap (is_named g id span) (b.others q (at q from to) none) ∙ false_from_ne_true _ (λ is. let e = all q (at q from to) is in let bad : false ≡ true = sym none ∙ e in absurd (cc)))
      (cases_Bool (went q)))))
      b.full in
      let f = fewer_parts longest (count (own was) a (entries g)) (count (own now) a (entries g)) (count_in g block went) (count (λ p. first was p && own was p) a (entries g)) (count (λ p. first now p && own now p) a (entries g))
      (parts was) (parts now) (sym named_falls) b.some how in
      omega (arith, was_split, now_split, rest_same, f)

  pub batch_falls : moved_with g now block longest + (count_in g block went + 1) ≤ moved_with g was block longest
  batch_falls = omega (arith, live_falls, batches_fall)
