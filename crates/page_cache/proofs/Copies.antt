-- What a program and an erase leave in a copy.
use Rattle.std.proofs.Common.{◌≡◌, ℕ, ◌+◌, ◌-◌, ◌*◌, ◌<◌, ◌≤◌, ⊎_elim, List, length, get_or, max, min, slice_range, refl, sym, ◌∙◌, ap, arith}
use Rattle.std.specs.Int.Bits.{bit_and}
use Rattle.std.proofs.lemmas.Grind.{common_steps, get_or_default_zero}
use Rattle.std.proofs.lemmas.List.{same_lists}
use Rattle.nor_core.specs.Flash.{programmed, erased}
use Rattle.nor_core.proofs.Programs.{get_or-programmed_before, get_or-programmed_after, get_or-programmed_inside}
use Rattle.page_cache.specs.Frames.{number_of, word_in, SameHead, IsCopy, GoesWithProgram, GoesWithErase}
use Rattle.page_cache.proofs.Places.{put_before, put_after, put_inside, range_byte, range_length, lt_or_le}
use borrow.Rule.Slice.PartMut.{put_mid}

-- bytes after an erase
pub erased_before : (bytes : List ℕ) (at count k : ℕ) → at + count ≤ length bytes → k < at → get_or (erased bytes at count) k 0 ≡ get_or bytes k 0
erased_before bytes at count k fits below = grind (arith, common_steps)

pub erased_after : (bytes : List ℕ) (at count k : ℕ) → at + count ≤ length bytes → at + count ≤ k → get_or (erased bytes at count) k 0 ≡ get_or bytes k 0
erased_after bytes at count k fits above = grind (arith, common_steps)

pub erased_inside : (bytes : List ℕ) (at count k : ℕ) → at + count ≤ length bytes → at ≤ k → k < at + count → get_or (erased bytes at count) k 0 ≡ 255
erased_inside bytes at count k fits low high = grind (arith, common_steps)

-- where the range doesn't meet the page, the copy stays
pub program_misses : (page at start : ℕ) (from old : List ℕ) → start ≡ number_of old * page → min (start + page) (at + length from) ≤ max start at → GoesWithProgram page at from old old
program_misses page at start from old start_is apart = record {
  number = refl;
  head = record { since = refl; until = refl; used = refl };
  goes = λ bytes copy i inside. copy i inside ∙ ⊎_elim
      (λ (before : number_of old * page + i < at). sym (get_or-programmed_before bytes at from (number_of old * page + i) before))
      (λ (behind : at ≤ number_of old * page + i). sym (get_or-programmed_after bytes at from (number_of old * page + i) (omega (arith, behind, apart, inside, start_is))))
      (lt_or_le (number_of old * page + i) at);
}

pub erase_misses : (page at count start : ℕ) (old : List ℕ) → start ≡ number_of old * page → min (start + page) (at + count) ≤ max start at → GoesWithErase page at count old old
erase_misses page at count start old start_is apart = record {
  number = refl;
  head = record { since = refl; until = refl; used = refl };
  goes = λ bytes fits copy i inside. copy i inside ∙ ⊎_elim
      (λ (before : number_of old * page + i < at). sym (erased_before bytes at count (number_of old * page + i) fits before))
      (λ (behind : at ≤ number_of old * page + i). sym (erased_after bytes at count (number_of old * page + i) fits (omega (arith, behind, apart, inside, start_is))))
      (lt_or_le (number_of old * page + i) at);
}

-- where it meets it, that part goes with it
module _ (page at start low high n a : ℕ) (old part : List ℕ) (long : length old ≡ page + 8) (start_is : start ≡ number_of old * page) (low_is : low ≡ max start at)
    (some : low < high) (inside : high ≤ start + page) (a_is : a ≡ 8 + low - start) (n_is : n ≡ high - low) (size : length part ≡ n) where
  fits : a + n ≤ length old
  fits = omega (arith, long, inside, some, n_is, low_is, a_is)

  same_number : number_of (put_mid a n old part) ≡ number_of old
  same_number =
      let b0 : get_or (put_mid a n old part) 0 0 ≡ get_or old 0 0 = put_before old part a n fits size 0 (omega (arith, low_is, a_is)) in
      let b1 : get_or (put_mid a n old part) 1 0 ≡ get_or old 1 0 = put_before old part a n fits size 1 (omega (arith, low_is, a_is)) in
      omega (arith, b0, b1)

  same_word : (k : ℕ) → k + 1 < 8 → word_in (put_mid a n old part) k ≡ word_in old k
  same_word k front =
      let b0 : get_or (put_mid a n old part) k 0 ≡ get_or old k 0 = put_before old part a n fits size k (omega (arith, front, low_is, a_is)) in
      let b1 : get_or (put_mid a n old part) (k + 1) 0 ≡ get_or old (k + 1) 0 = put_before old part a n fits size (k + 1) (omega (arith, front, low_is, a_is)) in
      omega (arith, b0, b1)

  same_head : SameHead old (put_mid a n old part)
  same_head = record { since = same_word 2 (omega arith); until = same_word 4 (omega arith); used = same_word 6 (omega arith) }

  -- each byte of the new copy is by its place
  by_place : (after : List ℕ → List ℕ) (bytes : List ℕ) → IsCopy page bytes old
      → ((k : ℕ) → k < low → start ≤ k → get_or (after bytes) k 0 ≡ get_or bytes k 0)
      → ((k : ℕ) → high ≤ k → k < start + page → get_or (after bytes) k 0 ≡ get_or bytes k 0)
      → ((j : ℕ) → j < n → get_or old (a + j) 0 ≡ get_or bytes (low + j) 0 → get_or part j 0 ≡ get_or (after bytes) (low + j) 0)
      → IsCopy page (after bytes) (put_mid a n old part)
  by_place after bytes copy before behind here i within =
      let there : number_of (put_mid a n old part) * page + i ≡ start + i = omega (arith, ap (λ (m : ℕ). m * page) same_number, start_is) in
      let was : get_or old (8 + i) 0 ≡ get_or bytes (start + i) 0 = copy i within ∙ ap (λ (m : ℕ). get_or bytes m 0) (let e : number_of old * page + i ≡ start + i = omega (arith, start_is) in e) in
      let now : get_or (put_mid a n old part) (8 + i) 0 ≡ get_or (after bytes) (start + i) 0 =
      ⊎_elim
      (λ (less : start + i < low). put_before old part a n fits size (8 + i) (omega (arith, less, a_is, low_is)) ∙ was ∙ sym (before (start + i) less (omega arith)))
      (λ (more : low ≤ start + i). ⊎_elim
      (λ (in_it : start + i < high).
      let j : ℕ = start + i - low in
      let j_is : low + (start + i - low) ≡ start + i = omega (arith, more) in
      let p_is : a + (start + i - low) ≡ 8 + i = omega (arith, more, a_is, low_is) in
      ap (λ (m : ℕ). get_or (put_mid a n old part) m 0) (sym p_is) ∙ put_inside old part a n fits size (start + i - low) (omega (arith, in_it, more, n_is))
      ∙ here (start + i - low) (omega (arith, in_it, more, n_is)) (ap (λ (m : ℕ). get_or old m 0) p_is ∙ was ∙ ap (λ (m : ℕ). get_or bytes m 0) (sym j_is))
      ∙ ap (λ (m : ℕ). get_or (after bytes) m 0) j_is)
      (λ (past : high ≤ start + i). put_after old part a n fits size (8 + i) (omega (arith, past, a_is, low_is, n_is, some)) ∙ was ∙ sym (behind (start + i) past (omega (arith, within))))
      (lt_or_le (start + i) high))
      (lt_or_le (start + i) low) in
      now ∙ ap (λ (m : ℕ). get_or (after bytes) m 0) (sym there)

-- a program that meets the page
pub program_meets : (page at start low high n a : ℕ) (from old part : List ℕ) → length old ≡ page + 8 → start ≡ number_of old * page → low ≡ max start at → high ≡ min (start + page) (at + length from) → low < high
    → a ≡ 8 + low - start → n ≡ high - low → length part ≡ n → ((j : ℕ) → j < n → get_or part j 0 ≡ bit_and (get_or old (a + j) 0) (get_or from (low - at + j) 0)) → GoesWithProgram page at from old (put_mid a n old part)
program_meets page at start low high n a from old part long start_is low_is high_is some a_is n_is size anded = record {
  number = same_number page at start low high n a old part long start_is low_is some (omega (arith, high_is)) a_is n_is size;
  head = same_head page at start low high n a old part long start_is low_is some (omega (arith, high_is)) a_is n_is size;
  goes = λ bytes copy. by_place page at start low high n a old part long start_is low_is some (omega (arith, high_is)) a_is n_is size (λ (b : List ℕ). programmed b at from) bytes copy
      (λ k below above. get_or-programmed_before bytes at from k (omega (arith, below, above, low_is)))
      (λ k above below. get_or-programmed_after bytes at from k (omega (arith, below, above, high_is)))
      (λ j below was. anded j below ∙ ap (λ (b : ℕ). bit_and b (get_or from (low - at + j) 0)) was
      ∙ sym (get_or-programmed_inside bytes at from (low - at + j) (low + j) (omega (arith, low_is)) (omega (arith, below, n_is, high_is, low_is))));
}

-- an erase that meets the page
pub erase_meets : (page at count start low high n a : ℕ) (old part : List ℕ) → length old ≡ page + 8 → start ≡ number_of old * page → low ≡ max start at → high ≡ min (start + page) (at + count) → low < high
    → a ≡ 8 + low - start → n ≡ high - low → length part ≡ n → ((j : ℕ) → j < n → get_or part j 0 ≡ 255) → GoesWithErase page at count old (put_mid a n old part)
erase_meets page at count start low high n a old part long start_is low_is high_is some a_is n_is size blank = record {
  number = same_number page at start low high n a old part long start_is low_is some (omega (arith, high_is)) a_is n_is size;
  head = same_head page at start low high n a old part long start_is low_is some (omega (arith, high_is)) a_is n_is size;
  goes = λ bytes fits copy. by_place page at start low high n a old part long start_is low_is some (omega (arith, high_is)) a_is n_is size (λ (b : List ℕ). erased b at count) bytes copy
      (λ k below above. erased_before bytes at count k fits (omega (arith, below, above, low_is)))
      (λ k above below. erased_after bytes at count k fits (omega (arith, below, above, high_is)))
      (λ j below was. blank j below ∙ sym (erased_inside bytes at count (low + j) fits (omega (arith, low_is)) (omega (arith, below, n_is, high_is))));
}

-- a part of a copy is that part of its page
pub copy_range : (len page start n first end : ℕ) (bytes frame : List ℕ) → IsCopy len bytes frame → number_of frame ≡ page → start + n ≤ len → page * len + len ≤ length bytes → length frame ≡ len + 8
    → first ≡ 8 + start → end ≡ first + n → slice_range frame first end ≡ slice_range bytes (page * len + start) (page * len + start + n)
copy_range len page start n first end bytes frame copy number fits inside size first_is end_is = same_lists _ _
    (range_length frame first end (omega (arith, end_is), omega (arith, end_is, first_is, size, fits)) ∙ omega (arith, end_is, range_length bytes (page * len + start) (page * len + start + n) (omega arith, omega (arith, inside, fits))))
    (λ k d below.
    let here : k < n = omega (arith, below, end_is, range_length frame first end (omega (arith, end_is), omega (arith, end_is, first_is, size, fits))) in
    let there : k < length (slice_range bytes (page * len + start) (page * len + start + n)) = omega (arith, here, range_length bytes (page * len + start) (page * len + start + n) (omega arith, omega (arith, inside, fits))) in
    let at : first + k ≡ 8 + (start + k) = omega (arith, first_is) in
    let place : number_of frame * len + (start + k) ≡ page * len + start + k = omega (arith, ap (λ (m : ℕ). m * len) number) in
    get_or_default_zero (slice_range frame first end) k d below ∙ range_byte frame first end k (omega (arith, here, end_is)) ∙ ap (λ (m : ℕ). get_or frame m 0) at
    ∙ copy (start + k) (omega (arith, here, fits)) ∙ ap (λ (m : ℕ). get_or bytes m 0) place
    ∙ sym (range_byte bytes (page * len + start) (page * len + start + n) k (omega (arith, here))) ∙ sym (get_or_default_zero (slice_range bytes (page * len + start) (page * len + start + n)) k d there))
