-- A part of a list of bytes, changed within the whole.
use Rattle.std.proofs.Common.{◌≡◌, ℕ, zero, suc, ◌+◌, ◌-◌, ◌*◌, ◌/◌, ◌%◌, ◌<◌, ◌≤◌, ◌⊎◌, inl, inr, ⊎_elim, List, [], ◌∷◌, ◌++◌, length, get_or, take, drop, replicate, refl, sym, ◌∙◌, ap, subst, arith, length-append, append_assoc, length-drop, Some, None, OnOk, OnErr, Ok, Err, Result}
use Rattle.std.proofs.lemmas.List.{take_all, length-take, length-replicate, get_or-take, get_or-drop, get_or_append_left, get_or-append-add, take-append-le, drop-append-le, drop-drop}
use Rattle.std.proofs.lemmas.Grind.{common_steps}
use Rattle.std.specs.Int.Bits.{bit_and}
use Rattle.std.proofs.lemmas.Nat.{and_le_r, div-add-mod'}
use Rattle.std.proofs.Math.Nat.{mul-le-mul_left}
use Rattle.std.specs.declared.option.Option.{Option}
use Rattle.nor_core.specs.declared.device.Mark.{Mark}
use Rattle.nor_core.specs.declared.device.Failed.{Failed}
use Rattle.std.specs.Option.{ForSome}
use Rattle.std.specs.List.{slice_range}
use Rattle.nor_core.specs.Flash.{programmed, HalfProgrammed, SameOutside, IsBetween, erased, HalfErased, Unmarked}
use Rattle.nor_core.proofs.Programs.{half_none, programmed-none}

-- of two numbers one is below, or not
pub lt_or_le : (a b : ℕ) → (a < b) ⊎ (b ≤ a)
lt_or_le zero zero = inr (omega arith)
lt_or_le zero (suc b) = inl (omega arith)
lt_or_le (suc a) zero = inr (omega arith)
lt_or_le (suc a) (suc b) = ⊎_elim (λ h. inl (omega (arith, h))) (λ h. inr (omega (arith, h))) (lt_or_le a b)

-- a finished erase leaves all other bytes
pub erased_outside : (old : List ℕ) (at n : ℕ) → at + n ≤ length old → SameOutside at n old (erased old at n)
erased_outside old at n within = record {
  size = omega (arith, within, length-append (take at old ++ replicate n 255) (drop (at + n) old), length-append (take at old) (replicate n 255), length-take at old, length-drop (at + n) old, length-replicate {A = ℕ} n 255);
  before = λ k below. grind (arith, common_steps);
  after = λ k above. grind (arith, common_steps);
}

-- an erase leaves all other bytes, finished or not
pub erase_outside : (result : Result (Unit {0}) Failed) (old new : List ℕ) (at n : ℕ) (mark : Option Mark) → at + n ≤ length old → OnOk result (new ≡ erased old at n) → OnErr result (HalfErased at n mark old new) → SameOutside at n old new
erase_outside (Ok done) old new at n mark within whole half = subst (SameOutside at n old) (sym whole) (erased_outside old at n within)
erase_outside (Err failed) old new at n mark within whole half = ⊎_elim
    (λ same. subst (SameOutside at n old) (sym same) (record { size = refl; before = λ k below. refl; after = λ k above. refl }))
    (λ scrambled. scrambled.outside)
    half

-- a byte of a part
part_at : (pre part post : List ℕ) (k : ℕ) → k < length part → get_or (pre ++ (part ++ post)) (length pre + k) 0 ≡ get_or part k 0
part_at pre part post k below = get_or-append-add pre (part ++ post) k 0 ∙ get_or_append_left part post 0 k below

-- what stays in a part stays in the part and what follows
follows : (old new post : List ℕ) (k : ℕ) → length new ≡ length old → get_or new k 0 ≡ get_or old k 0 → get_or (new ++ post) k 0 ≡ get_or (old ++ post) k 0
follows old new post k size same = ⊎_elim
    (λ low. get_or_append_left new post 0 k (omega (arith, low, size)) ∙ same ∙ sym (get_or_append_left old post 0 k low))
    (λ high. let m : ℕ = k - length old in
    let e : k ≡ length old + m = omega (arith, high) in
    let f : k ≡ length new + m = omega (arith, high, size) in
    ap (λ (n : ℕ). get_or (new ++ post) n 0) f ∙ get_or-append-add new post m 0 ∙ sym (get_or-append-add old post m 0) ∙ sym (ap (λ (n : ℕ). get_or (old ++ post) n 0) e))
    (lt_or_le k (length old))

module _ (pre post old new : List ℕ) (at n : ℕ) (within : at + n ≤ length old) (outside : SameOutside at n old new) where
  -- a byte of the whole whose place in the part stays
  elsewhere : (k : ℕ) → ((j : ℕ) → k ≡ length pre + j → get_or new j 0 ≡ get_or old j 0) → get_or (pre ++ (new ++ post)) k 0 ≡ get_or (pre ++ (old ++ post)) k 0
  elsewhere k same = ⊎_elim
      (λ low. get_or_append_left pre (new ++ post) 0 k low ∙ sym (get_or_append_left pre (old ++ post) 0 k low))
      (λ high. let j : ℕ = k - length pre in
      let e : k ≡ length pre + j = omega (arith, high) in
      ap (λ (i : ℕ). get_or (pre ++ (new ++ post)) i 0) e ∙ get_or-append-add pre (new ++ post) j 0
      ∙ follows old new post j outside.size (same j e)
      ∙ sym (get_or-append-add pre (old ++ post) j 0) ∙ sym (ap (λ (i : ℕ). get_or (pre ++ (old ++ post)) i 0) e))
      (lt_or_le k (length pre))

  -- outside the range in the part all stays in the whole
  pub outside_parts : SameOutside (length pre + at) n (pre ++ (old ++ post)) (pre ++ (new ++ post))
  outside_parts = record {
    size = omega (arith, outside.size, length-append pre (new ++ post), length-append new post, length-append pre (old ++ post), length-append old post);
    before = λ k below. elsewhere k (λ j is. outside.before j (omega (arith, below, is)));
    after = λ k above. elsewhere k (λ j is. outside.after j (omega (arith, above, is)));
  }

-- a part that is half programmed, in the whole
pub half_parts : (pre post : List ℕ) (at : ℕ) (asked old new : List ℕ) → at + length asked ≤ length old → HalfProgrammed at asked old new → HalfProgrammed (length pre + at) asked (pre ++ (old ++ post)) (pre ++ (new ++ post))
half_parts pre post at asked old new within half = record {
  outside = outside_parts pre post old new at (length asked) within half.outside;
  inside = λ k below.
      let e : length pre + at + k ≡ length pre + (at + k) = omega arith in
      let was = ap (λ (i : ℕ). get_or (pre ++ (old ++ post)) i 0) e ∙ part_at pre old post (at + k) (omega (arith, below, within)) in
      let is = ap (λ (i : ℕ). get_or (pre ++ (new ++ post)) i 0) e ∙ part_at pre new post (at + k) (omega (arith, below, within, half.outside.size)) in
      subst (λ (b : ℕ). IsBetween b (get_or asked k 0) (get_or (pre ++ (new ++ post)) (length pre + at + k) 0)) (sym was)
      (subst (λ (b : ℕ). IsBetween (get_or old (at + k) 0) (get_or asked k 0) b) (sym is) (half.inside k below));
}

-- a program in a part and what follows
programmed_front : (old post : List ℕ) (at : ℕ) (asked : List ℕ) → at + length asked ≤ length old → programmed (old ++ post) at asked ≡ programmed old at asked ++ post
unfolding programmed
programmed_front [] post zero [] within = programmed-none post
programmed_front [] post zero (a ∷ asked) within = absurd (omega (arith, within))
programmed_front [] post (suc at) asked within = absurd (omega (arith, within))
programmed_front (b ∷ old) post (suc at) asked within = ap (λ (l : List ℕ). b ∷ l) (programmed_front old post at asked (omega (arith, within)))
programmed_front (b ∷ old) post zero [] within = refl
programmed_front (b ∷ old) post zero (a ∷ asked) within = ap (λ (l : List ℕ). bit_and b a ∷ l) (programmed_front old post zero asked (omega (arith, within)))

-- a program in a part, in the whole
pub programmed_parts : (pre post : List ℕ) (at : ℕ) (asked old : List ℕ) → at + length asked ≤ length old → programmed (pre ++ (old ++ post)) (length pre + at) asked ≡ pre ++ (programmed old at asked ++ post)
unfolding programmed
programmed_parts [] post at asked old within = ap (λ (k : ℕ). programmed (old ++ post) k asked) (omega arith) ∙ programmed_front old post at asked within
programmed_parts (b ∷ pre) post at asked old within =
    let e : suc (length pre) + at ≡ suc (length pre + at) = omega arith in
    ap (λ (k : ℕ). programmed (b ∷ (pre ++ (old ++ post))) k asked) e ∙ ap (λ (l : List ℕ). b ∷ l) (programmed_parts pre post at asked old within)

-- a program of no bytes
pub programmed_nothing : (image : List ℕ) (at : ℕ) → programmed image at [] ≡ image
unfolding programmed
programmed_nothing [] at = refl
programmed_nothing (b ∷ image) zero = refl
programmed_nothing (b ∷ image) (suc at) = ap (λ (l : List ℕ). b ∷ l) (programmed_nothing image at)

-- the next elements after the first
pub take_join : (xs : List ℕ) (n m : ℕ) → take n xs ++ take m (drop n xs) ≡ take (n + m) xs
take_join [] n m = ap (λ (l : List ℕ). l ++ take m (drop n [])) (take_none n) ∙ ap (λ (l : List ℕ). take m l) (drop_none n) ∙ take_none m ∙ sym (take_none (n + m))
  where
    take_none : (k : ℕ) → take {A = ℕ} k [] ≡ []
    take_none zero = refl
    take_none (suc k) = refl

    drop_none : (k : ℕ) → drop {A = ℕ} k [] ≡ []
    drop_none zero = refl
    drop_none (suc k) = refl
take_join (x ∷ xs) zero m = ap (λ (k : ℕ). take k (x ∷ xs)) (omega arith)
take_join (x ∷ xs) (suc n) m =
    let e : suc n + m ≡ suc (n + m) = omega arith in
    ap (λ (l : List ℕ). x ∷ l) (take_join xs n m) ∙ ap (λ (k : ℕ). take k (x ∷ xs)) (sym e)

-- a range goes on
pub slice_join : (l : List ℕ) (at n m : ℕ) → slice_range l at (at + n) ++ slice_range l (at + n) (at + n + m) ≡ slice_range l at (at + (n + m))
slice_join l at n m =
    let a : at + n - at ≡ n = omega arith in
    let d : at + n + m - (at + n) ≡ m = omega arith in
    let e : at + (n + m) - at ≡ n + m = omega arith in
    ap (λ (k : ℕ). take k (drop at l) ++ take (at + n + m - (at + n)) (drop (at + n) l)) a
    ∙ ap (λ (k : ℕ). take n (drop at l) ++ take k (drop (at + n) l)) d
    ∙ ap (λ (r : List ℕ). take n (drop at l) ++ take m r) (sym (drop-drop n at l))
    ∙ take_join (drop at l) n m
    ∙ ap (λ (k : ℕ). take k (drop at l)) (sym e)

-- a program that goes on after its first bytes
pub programmed_on : (image first rest : List ℕ) (at : ℕ) → programmed (programmed image at first) (at + length first) rest ≡ programmed image at (first ++ rest)
unfolding programmed
programmed_on [] first rest at = refl
programmed_on (b ∷ image) first rest (suc at) =
    let e : suc at + length first ≡ suc (at + length first) = omega arith in
    ap (λ (k : ℕ). programmed (b ∷ programmed image at first) k rest) e ∙ ap (λ (l : List ℕ). b ∷ l) (programmed_on image first rest at)
programmed_on (b ∷ image) [] rest zero = refl
programmed_on (b ∷ image) (a ∷ first) rest zero =
    let e : zero + suc (length first) ≡ suc (zero + length first) = omega arith in
    ap (λ (k : ℕ). programmed (bit_and b a ∷ programmed image zero first) k rest) e ∙ ap (λ (l : List ℕ). bit_and b a ∷ l) (programmed_on image first rest zero)

-- the bytes up to a place in a part
take_parts : (pre l : List ℕ) (k : ℕ) → take (length pre + k) (pre ++ l) ≡ pre ++ take k l
take_parts [] l k = ap (λ (i : ℕ). take i l) (omega arith)
take_parts (b ∷ pre) l k =
    let e : suc (length pre) + k ≡ suc (length pre + k) = omega arith in
    ap (λ (i : ℕ). take i (b ∷ (pre ++ l))) e ∙ ap (λ (m : List ℕ). b ∷ m) (take_parts pre l k)

-- the bytes from a place in a part on
drop_parts : (pre l : List ℕ) (k : ℕ) → drop (length pre + k) (pre ++ l) ≡ drop k l
drop_parts [] l k = ap (λ (i : ℕ). drop i l) (omega arith)
drop_parts (b ∷ pre) l k =
    let e : suc (length pre) + k ≡ suc (length pre + k) = omega arith in
    ap (λ (i : ℕ). drop i (b ∷ (pre ++ l))) e ∙ drop_parts pre l k

-- a range in a part
pub slice_parts : (pre post part : List ℕ) (at n : ℕ) → at + n ≤ length part → slice_range (pre ++ (part ++ post)) (length pre + at) (length pre + at + n) ≡ slice_range part at (at + n)
slice_parts pre post part at n within =
    let first : length pre + at + n - (length pre + at) ≡ n = omega arith in
    let second : at + n - at ≡ n = omega arith in
    ap (λ (k : ℕ). take k (drop (length pre + at) (pre ++ (part ++ post)))) first
    ∙ ap (λ (l : List ℕ). take n l) (drop_parts pre (part ++ post) at ∙ drop-append-le at part post (omega (arith, within)))
    ∙ take-append-le n (drop at part) post (omega (arith, within, length-drop at part))
    ∙ sym (ap (λ (k : ℕ). take k (drop at part)) second)

-- an erase in a part, in the whole
pub erased_parts : (pre post old : List ℕ) (at n : ℕ) → at + n ≤ length old → erased (pre ++ (old ++ post)) (length pre + at) n ≡ pre ++ (erased old at n ++ post)
erased_parts pre post old at n within =
    let front : take (length pre + at) (pre ++ (old ++ post)) ≡ pre ++ take at old = take_parts pre (old ++ post) at ∙ ap (λ (l : List ℕ). pre ++ l) (take-append-le at old post (omega (arith, within))) in
    let e : length pre + at + n ≡ length pre + (at + n) = omega arith in
    let back : drop (length pre + at + n) (pre ++ (old ++ post)) ≡ drop (at + n) old ++ post = ap (λ (k : ℕ). drop k (pre ++ (old ++ post))) e ∙ drop_parts pre (old ++ post) (at + n) ∙ drop-append-le (at + n) old post within in
    ap (λ (l : List ℕ). l ++ replicate n 255 ++ drop (length pre + at + n) (pre ++ (old ++ post))) front
    ∙ ap (λ (l : List ℕ). pre ++ take at old ++ replicate n 255 ++ l) back
    ∙ append_assoc (pre ++ take at old) (replicate n 255) (drop (at + n) old ++ post)
    ∙ append_assoc pre (take at old) (replicate n 255 ++ (drop (at + n) old ++ post))
    ∙ ap (λ (l : List ℕ). pre ++ l) (sym (append_assoc (take at old) (replicate n 255) (drop (at + n) old ++ post)) ∙ sym (append_assoc (take at old ++ replicate n 255) (drop (at + n) old) post))

-- each byte is below 256
abbrev AllBelow : List ℕ → Type 0
AllBelow l = (k : ℕ) → get_or l k 0 < 256

-- bytes below 256 end to end
pub below_append : (xs ys : List ℕ) → AllBelow xs → AllBelow ys → AllBelow (xs ++ ys)
below_append xs ys first second = λ k. ⊎_elim
    (λ low. subst (λ (b : ℕ). b < 256) (sym (get_or_append_left xs ys 0 k low)) (first k))
    (λ high. let m : ℕ = k - length xs in
    let e : k ≡ length xs + m = omega (arith, high) in
    subst (λ (b : ℕ). b < 256) (sym (ap (λ (i : ℕ). get_or (xs ++ ys) i 0) e ∙ get_or-append-add xs ys m 0)) (second m))
    (lt_or_le k (length xs))

-- a part without its mark, in the whole
unmarked_parts : (mark : Option Mark) (pre part post : List ℕ) (at n : ℕ) → ForSome mark (λ m. m.at + 2 ≤ n) → at + n ≤ length part → Unmarked at mark part → Unmarked (length pre + at) mark (pre ++ (part ++ post))
unmarked_parts None pre part post at n marked within none = tt
unmarked_parts (Some mark) pre part post at n marked within none = λ again.
    let inside = marked mark refl in
    let e : length pre + at + mark.at ≡ length pre + (at + mark.at) = omega arith in
    let f : length pre + at + mark.at + 1 ≡ length pre + (at + mark.at + 1) = omega arith in
    let first = ap (λ (i : ℕ). get_or (pre ++ (part ++ post)) i 0) e ∙ part_at pre part post (at + mark.at) (omega (arith, inside, within)) in
    let second = ap (λ (i : ℕ). get_or (pre ++ (part ++ post)) i 0) f ∙ part_at pre part post (at + mark.at + 1) (omega (arith, inside, within)) in
    none (omega (arith, first, second, again))

-- a part that is half erased, in the whole
pub half_erased_parts : (mark : Option Mark) (pre post old new : List ℕ) (at n : ℕ) → ForSome mark (λ m. m.at + 2 ≤ n) → at + n ≤ length old → AllBelow pre → AllBelow post → HalfErased at n mark old new → HalfErased (length pre + at) n mark (pre ++ (old ++ post)) (pre ++ (new ++ post))
half_erased_parts mark pre post old new at n marked within below_pre below_post half = ⊎_elim
    (λ same. inl (ap (λ (l : List ℕ). pre ++ (l ++ post)) same))
    (λ scrambled. inr (record {
      outside = outside_parts pre post old new at n within scrambled.outside;
      bytes = below_append pre (new ++ post) below_pre (below_append new post scrambled.bytes below_post);
      unmarked = unmarked_parts mark pre new post at n marked (omega (arith, within, scrambled.outside.size)) scrambled.unmarked;
    }))
    half

-- a program goes on after its first bytes, and is half done
pub half_on : (at n m : ℕ) (from old mid image : List ℕ) → n + m ≤ length from → HalfProgrammed at (take n from) old mid → HalfProgrammed (at + n) (take m (drop n from)) mid image → HalfProgrammed at (take (n + m) from) old image
half_on at n m from old mid image fits first second = record {
  outside = record {
    size = second.outside.size ∙ first.outside.size;
    before = λ k below. second.outside.before k (omega (arith, below)) ∙ first.outside.before k below;
    after = λ k above. second.outside.after k (omega (arith, above, len_b, len_ab)) ∙ first.outside.after k (omega (arith, above, len_a, len_ab));
  };
  inside = λ k within. ⊎_elim
      (λ low. let a : get_or (take (n + m) from) k 0 ≡ get_or (take n from) k 0 = get_or-take (n + m) from k 0 (omega (arith, low)) ∙ sym (get_or-take n from k 0 low) in
      let b = second.outside.before (at + k) (omega (arith, low)) in
      rw a (rw b (first.inside k (omega (arith, low, len_a)))))
      (λ high. let j : ℕ = k - n in
      let e : k ≡ n + j = omega (arith, high) in
      let small : j < m = omega (arith, within, len_ab, e) in
      let a : get_or (take (n + m) from) k 0 ≡ get_or (take m (drop n from)) j 0 = get_or-take (n + m) from k 0 (omega (arith, within, len_ab)) ∙ ap (λ (i : ℕ). get_or from i 0) e ∙ sym (get_or-drop n from j 0) ∙ sym (get_or-take m (drop n from) j 0 small) in
      let f : at + k ≡ at + n + j = omega (arith, e) in
      let b : get_or old (at + k) 0 ≡ get_or mid (at + n + j) 0 = ap (λ (i : ℕ). get_or old i 0) f ∙ sym (first.outside.after (at + n + j) (omega (arith, len_a))) in
      let d : get_or image (at + k) 0 ≡ get_or image (at + n + j) 0 = ap (λ (i : ℕ). get_or image i 0) f in
      rw a (rw b (rw d (second.inside j (omega (arith, small, len_b))))))
      (lt_or_le k n);
} where
  len_a : length (take n from) ≡ n
  len_a = omega (arith, length-take n from, fits)

  len_b : length (take m (drop n from)) ≡ m
  len_b = omega (arith, length-take m (drop n from), length-drop n from, fits)

  len_ab : length (take (n + m) from) ≡ n + m
  len_ab = omega (arith, length-take (n + m) from, fits)

-- what is half programmed by the first bytes is so by more
pub half_wider : (at n m : ℕ) (from old image : List ℕ) → n + m ≤ length from → HalfProgrammed at (take n from) old image → HalfProgrammed at (take (n + m) from) old image
half_wider at n m from old image fits half = half_on at n m from old image image fits half (half_none image (at + n) (take m (drop n from)))

-- and by all
pub half_all : (at n : ℕ) (from old image : List ℕ) → n ≤ length from → HalfProgrammed at (take n from) old image → HalfProgrammed at from old image
half_all at n from old image fits half =
    let e : n + (length from - n) ≡ length from = omega (arith, fits) in
    let whole : take (n + (length from - n)) from ≡ from = ap (λ (k : ℕ). take k from) e ∙ take_all (length from) from (omega arith) in
    subst (λ (l : List ℕ). HalfProgrammed at l old image) whole (half_wider at n (length from - n) from old image (omega (arith, fits)) half)

-- what a program leaves is no more than what stood
pub below_program : (at : ℕ) (asked old new : List ℕ) → HalfProgrammed at asked old new → AllBelow old → AllBelow new
below_program at asked old new half below = λ k. ⊎_elim
    (λ low. subst (λ (b : ℕ). b < 256) (sym (half.outside.before k low)) (below k))
    (λ high. ⊎_elim
    (λ inside. let j : ℕ = k - at in
    let e : k ≡ at + j = omega (arith, high) in
    let cleared = (half.inside j (omega (arith, e, inside))).cleared in
    let less = and_le_r (get_or new (at + j) 0) (get_or old (at + j) 0) in
    subst (λ (i : ℕ). get_or new i 0 < 256) (sym e) (omega (arith, cleared, less, below (at + j))))
    (λ past. subst (λ (b : ℕ). b < 256) (sym (half.outside.after k past)) (below k))
    (lt_or_le k (at + length asked)))
    (lt_or_le k at)

-- what a finished erase leaves is below 256
below_erased : (old : List ℕ) (at n : ℕ) → at + n ≤ length old → AllBelow old → AllBelow (erased old at n)
below_erased old at n within below = λ k. ⊎_elim
    (λ low. subst (λ (b : ℕ). b < 256) (sym ((erased_outside old at n within).before k low)) (below k))
    (λ high. ⊎_elim
    (λ inside. let is : get_or (erased old at n) k 0 ≡ 255 = grind (arith, common_steps) in omega (arith, is))
    (λ past. subst (λ (b : ℕ). b < 256) (sym ((erased_outside old at n within).after k past)) (below k))
    (lt_or_le k (at + n)))
    (lt_or_le k at)

-- what an erase leaves is below 256, finished or not
pub below_erase : (result : Result (Unit {0}) Failed) (old new : List ℕ) (at n : ℕ) (mark : Option Mark) → at + n ≤ length old → OnOk result (new ≡ erased old at n) → OnErr result (HalfErased at n mark old new) → AllBelow old → AllBelow new
below_erase (Ok done) old new at n mark within whole half below = subst AllBelow (sym whole) (below_erased old at n within below)
below_erase (Err failed) old new at n mark within whole half below = ⊎_elim (λ same. subst AllBelow (sym same) below) (λ scrambled. scrambled.bytes) half

-- a unit of a chip lies inside it
pub unit_within : (size unit unit_ix : ℕ) → 0 < unit → size % unit ≡ 0 → unit_ix < size / unit → unit_ix * unit + unit ≤ size
unit_within size unit unit_ix some whole inside =
    let parts = div-add-mod' size unit in
    let next : unit_ix + 1 ≤ size / unit = omega (arith, inside) in
    let units = mul-le-mul_left unit next in
    omega (arith, parts, units, whole)
