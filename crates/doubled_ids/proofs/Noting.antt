-- What is noted of header pages.
use Rattle.std.proofs.Common.{◌≡◌, ℕ, zero, suc, ◌+◌, ◌≤◌, ◌==◌, Bool, true, false, if◌then◌else◌, List, length, slice_index, Option, Some, None, ap, refl, sym, ◌∙◌, arith, ⊎_elim, length-set}
use Rattle.std.specs.Prelude.{IfSome, filter, nat_lt}
use Rattle.std.specs.List.{range_with_len}
use Rattle.std.proofs.lemmas.Bool.{cases_eq, eq-eqb, ne_eqb}
use Rattle.std.proofs.lemmas.List.{get_or-set_same, get_or-set_other}
use Rattle.image_model.specs.Live.{Live}
use Rattle.doubled_ids.specs.Doubled.{heads_to, doubled_to}
use Rattle.doubled_ids.specs.Notes.{IsId, note_of, note_after, is_second, with_one, AreNoted}
use Rattle.doubled_ids.proofs.Heads.{Heads, heads_none, heads_here, heads_there, doubled_none, doubled_second, doubled_first}

-- of one header page more
note_more : (h : ℕ) → note_of (h + 1) ≡ note_after (note_of h)
note_more zero = refl
note_more (suc zero) = refl
note_more (suc (suc h)) = let e : suc (suc h) + 1 ≡ suc (suc (h + 1)) = omega arith in rw e refl

-- it says whether there is one
note_one : (h : ℕ) → (note_of h == 1) ≡ (h == 1)
note_one zero = refl
note_one (suc zero) = refl
note_one (suc (suc h)) = sym (ne_eqb (suc (suc h)) 1 (λ e. absurd (omega (arith, e))))

-- before the first page
pub none_noted : (live : Live) (notes : List ℕ) → length notes ≡ 0x8000 → ((k : ℕ) → slice_index notes k ≡ 0) → AreNoted live 0 notes
unfolding heads_to
none_noted live notes len none = record { len = len; each = λ id few. none id }

module _ (live : Live) (p : ℕ) where
  pub noted_more : (notes : List ℕ) (o : Option ℕ) → AreNoted live p notes → Heads live p o → IfSome o IsId → AreNoted live (p + 1) (with_one notes o)
  noted_more notes None was is within = record {
    len = was.len;
    each = λ id few. was.each id few ∙ ap note_of (sym (heads_none live p id is));
  }
  noted_more notes (Some k) was is within = record {
    len = length-set notes k (note_after (slice_index notes k)) ∙ was.len;
    each = λ id few. ⊎_elim
        (λ (same : k ≡ id).
        let here : slice_index notes k ≡ note_of (heads_to live p k) = was.each k (omega (arith, same, few)) in
        let set = get_or-set_same notes k (note_after (slice_index notes k)) 0 (omega (arith, same, few, was.len)) in
        rw (← same) (set ∙ ap note_after here ∙ sym (note_more (heads_to live p k)) ∙ ap note_of (sym (heads_here live p k is))))
        (λ (differ : k ≡ id → ⊥). get_or-set_other notes k id (note_after (slice_index notes k)) 0 (λ e. differ (sym e)) ∙ was.each id few ∙ ap note_of (sym (heads_there live p k id differ is)))
        (cases_eq k id);
  }

  -- one id more is doubled, where a page is the second of an id
  pub counted_more : (notes : List ℕ) (o : Option ℕ) (n count more : ℕ) → AreNoted live p notes → Heads live p o → IfSome o (λ id. (1 ≤ id) × (id ≤ n)) → n ≤ 0x7FFF → count ≡ length (doubled_to live p n) →
      more ≡ (if is_second notes o then count + 1 else count) → more ≡ length (doubled_to live (p + 1) n)
  counted_more notes None n count more noted is within top was next = next ∙ was ∙ sym (doubled_none live p n is)
  counted_more notes (Some k) n count more noted is within top was next =
      let here : slice_index notes k ≡ note_of (heads_to live p k) = noted.each k (omega (arith, within.1, top)) in
      let told : is_second notes (Some k) ≡ (heads_to live p k == 1) = rw here (note_one (heads_to live p k)) in
      ⊎_elim
      (λ (one : heads_to live p k ≡ 1).
      let second : is_second notes (Some k) ≡ true = told ∙ eq-eqb (heads_to live p k) 1 one in
      let next' : more ≡ count + 1 = rw second at next in
      let more' = doubled_second live p k n is within.0 (omega (arith, within.1)) one in
      omega (arith, next', was, more'))
      (λ (other : heads_to live p k ≡ 1 → ⊥).
      let first : is_second notes (Some k) ≡ false = told ∙ ne_eqb (heads_to live p k) 1 other in
      let next' : more ≡ count = rw first at next in
      next' ∙ was ∙ sym (doubled_first live p k n is other))
      (cases_eq (heads_to live p k) 1)

-- none at first
none_doubled : (live : Live) (a n : ℕ) → length (filter (λ (id : ℕ). nat_lt 1 (heads_to live 0 id)) (range_with_len a n)) ≡ 0
unfolding heads_to
none_doubled live a zero = refl
none_doubled live a (suc n) = none_doubled live (a + 1) n

pub none_counted : (live : Live) (n : ℕ) → 0 ≡ length (doubled_to live 0 n)
unfolding doubled_to
none_counted live n = sym (none_doubled live 1 n)

-- no more than pages
pub few_more : (second : Bool) (count more p : ℕ) → count ≤ p → more ≡ (if second then count + 1 else count) → more ≤ p + 1
few_more true count more p few is = omega (arith, few, is)
few_more false count more p few is = omega (arith, few, is)
