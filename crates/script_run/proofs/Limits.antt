-- Scripts that have more bytes than are read, and lines that are seen in those that are.
use Rattle.std.proofs.Common.{◌≡◌, ℕ, ◌+◌, ◌<◌, ◌≤◌, ◌⊎◌, List, [], ◌∷◌, ◌++◌, length, refl, sym, ◌∙◌, ap, subst, arith, inl, inr, ⊎_elim, append_assoc, append-nil, length-append, true, false, eqb}
use Rattle.std.proofs.lemmas.Bool.{cases_lt, cases_Bool}
use Rattle.table_model.specs.Ask.{Ask}
use Rattle.call_script.specs.Lines.{Bad, onto, lines, of_line, NoBreak}
use Rattle.script_run.specs.Turns.{AllGood}
use Rattle.script_run.specs.Outcomes.{HasSeenBad, IsTooLong}
use Rattle.script_run.proofs.Turning.{apart, head_length, head_of, first_long}

-- a script of at most 16,777,216 bytes isn't too long
pub not_too_long : (script : List ℕ) (front : List Ask) → length script ≤ 16777216 → IsTooLong script front → ⊥
not_too_long script front few long = omega (arith, few, long.count, ap length long.taken.script_is, length-append long.whole (long.rest ++ (long.byte ∷ long.left)), length-append long.rest (long.byte ∷ long.left))

-- of two fronts of one list one is a front of the other
pub record IsFurther (xs us ys vs : List ℕ) : Type 0 where
  pub mid : List ℕ
  pub longer : us ≡ xs ++ mid
  pub rest : ys ≡ mid ++ vs

further : (xs ys us vs : List ℕ) → xs ++ ys ≡ us ++ vs → length xs ≤ length us → IsFurther xs us ys vs
further [] ys us vs e less = record { mid = us; longer = refl; rest = e }
further (x ∷ xs) ys [] vs e less = absurd (omega (arith, less))
further (x ∷ xs) ys (u ∷ us) vs e less =
    let rest : xs ++ ys ≡ us ++ vs = cc in
    let same : x ≡ u = cc in
    let f : IsFurther xs us ys vs = further xs ys us vs rest (omega (arith, less)) in
    record { mid = f.mid; longer = ap (λ (b : ℕ). b ∷ us) (sym same) ∙ ap (λ (l : List ℕ). x ∷ l) f.longer; rest = f.rest }

-- lists with one front have the same rest
pub same_behind : (xs ys zs : List (List ℕ)) → xs ++ ys ≡ xs ++ zs → ys ≡ zs
same_behind [] ys zs e = e
same_behind (x ∷ xs) ys zs e = same_behind xs ys zs cc

-- bytes behind whole lines are whole lines too
lines_between : (whole more mid : List ℕ) (done next : List (List ℕ)) → ((rest : List ℕ) → lines (whole ++ rest) ≡ done ++ lines rest) → ((rest : List ℕ) → lines ((whole ++ mid) ++ rest) ≡ next ++ lines rest) → next ≡ done ++ lines mid → lines (mid ++ more) ≡ lines mid ++ lines more
lines_between whole more mid done next ended further_on is = same_behind done (lines (mid ++ more)) (lines mid ++ lines more)
    (sym (ended (mid ++ more)) ∙ ap lines (sym (append_assoc whole mid more)) ∙ further_on more ∙ ap (λ (l : List (List ℕ)). l ++ lines more) is ∙ append_assoc done (lines mid) (lines more))

-- no line is lost before others
onto_some : (b : ℕ) (ls : List (List ℕ)) → (0 < length (onto b ls)) × (length (onto b ls) ≤ length ls + 1) × (0 < length ls → length (onto b ls) ≡ length ls)
onto_some b [] = (omega arith, omega arith, λ some. absurd (omega (arith, some)))
onto_some b (l ∷ ls) = (omega arith, omega arith, λ some. refl)

-- bytes have a line
some_line : (bs : List ℕ) → 0 < length bs → 0 < length (lines bs)
unfolding lines
some_line [] some = absurd (omega arith)
some_line (b ∷ bs) some = ⊎_elim
    (λ (ends : eqb b 10 ≡ true). rw ends (omega arith))
    (λ (none : eqb b 10 ≡ false). rw none (onto_some b (lines bs)).0)
    (cases_Bool (eqb b 10))

-- bytes that end no line, and one more, are one line
one_more : (bs ys : List ℕ) → NoBreak (bs ++ ys) → length (lines (bs ++ 48 ∷ [])) ≡ 1
unfolding lines
one_more [] ys plain = refl
one_more (b ∷ bs) ys plain =
    let a = apart b (bs ++ ys) plain in
    let rest : length (lines (bs ++ 48 ∷ [])) ≡ 1 = one_more bs ys a.1 in
    rw a.0 ((onto_some b (lines (bs ++ 48 ∷ []))).2 (omega (arith, rest)) ∙ rest)

two_lines : length (lines (48 ∷ [])) ≡ 1
unfolding lines
two_lines = refl

-- so no front of them is whole lines
no_front : (mid ys : List ℕ) → 0 < length mid → NoBreak (mid ++ ys) → lines (mid ++ 48 ∷ []) ≡ lines mid ++ lines (48 ∷ []) → ⊥
no_front mid ys some plain e = omega (arith, one_more mid ys plain, ap length e, length-append (lines mid) (lines (48 ∷ [])), two_lines, some_line mid some)

-- good lines are good in part
good_behind : (xs ys : List (List ℕ)) → AllGood (xs ++ ys) → AllGood ys
unfolding AllGood
good_behind [] ys h = h
good_behind (x ∷ xs) ys h = good_behind xs ys h.1

-- the first of some good lines is good
first_good : (ls others more : List (List ℕ)) (bad : List ℕ) → 0 < length ls → AllGood ls → bad ∷ others ≡ ls ++ more → of_line bad ≡ Bad → ⊥
unfolding AllGood
first_good [] others more bad some good e is = absurd (omega (arith, some))
first_good (l ∷ ls) others more bad some good e is = good.0 (let same : bad ≡ l = cc in ap of_line (sym same) ∙ is)

whole_lines : (whole : List ℕ) (done : List (List ℕ)) → ((more : List ℕ) → lines (whole ++ more) ≡ done ++ lines more) → lines whole ≡ done
unfolding lines
whole_lines whole done ended = ap lines (sym (append-nil whole)) ∙ ended [] ∙ append-nil done

empty_list : (xs : List ℕ) → length xs ≡ 0 → xs ≡ []
empty_list [] e = refl
empty_list (x ∷ xs) e = absurd (omega (arith, e))

module _ (script : List ℕ) (number : ℕ) (front : List Ask) (bad : HasSeenBad script number) (long : IsTooLong script front) where
  tail_lines : lines bad.tail ≡ bad.bad_line.bad ∷ bad.bad_line.others
  tail_lines = same_behind bad.bad_line.done (lines bad.tail) (bad.bad_line.bad ∷ bad.bad_line.others) (sym (bad.ended bad.tail) ∙ ap lines (sym bad.script_is) ∙ bad.bad_line.lines_are)

  one_script : bad.whole ++ bad.tail ≡ long.whole ++ (long.rest ++ (long.byte ∷ long.left))
  one_script = sym bad.script_is ∙ long.taken.script_is

  -- the bad line is not among those that were done
  not_before : length bad.whole < length long.whole → ⊥
  not_before less =
      let f : IsFurther bad.whole long.whole bad.tail (long.rest ++ (long.byte ∷ long.left)) = further bad.whole bad.tail long.whole (long.rest ++ (long.byte ∷ long.left)) one_script (omega (arith, less)) in
      let some : 0 < length f.mid = omega (arith, less, ap length f.longer, length-append bad.whole f.mid) in
      let next : lines long.whole ≡ bad.bad_line.done ++ lines f.mid = ap lines f.longer ∙ bad.ended f.mid in
      let good : AllGood (lines f.mid) = good_behind bad.bad_line.done (lines f.mid) (subst AllGood next long.taken.good) in
      let on : (rest : List ℕ) → lines ((bad.whole ++ f.mid) ++ rest) ≡ lines long.whole ++ lines rest = λ rest. ap (λ (l : List ℕ). lines (l ++ rest)) (sym f.longer) ∙ long.taken.ended rest in
      let split : lines bad.tail ≡ lines f.mid ++ lines (long.rest ++ (long.byte ∷ long.left)) = ap lines f.rest ∙ lines_between bad.whole (long.rest ++ (long.byte ∷ long.left)) f.mid bad.bad_line.done (lines long.whole) bad.ended on next in
      first_good (lines f.mid) bad.bad_line.others (lines (long.rest ++ (long.byte ∷ long.left))) bad.bad_line.bad (some_line f.mid some) good (sym tail_lines ∙ split) bad.bad_line.is_bad

  -- it is the one that the limit cuts, or it is behind the limit
  too_far : (f : IsFurther long.whole bad.whole (long.rest ++ (long.byte ∷ long.left)) bad.tail) → 0 < length f.mid → length f.mid ≤ length long.rest → ⊥
  too_far f some less =
      let part : IsFurther f.mid long.rest bad.tail (long.byte ∷ long.left) = further f.mid bad.tail long.rest (long.byte ∷ long.left) (sym f.rest) less in
      let plain : NoBreak (f.mid ++ part.mid) = subst NoBreak part.longer long.taken.no_break in
      let done : bad.bad_line.done ≡ lines long.whole ++ lines f.mid = sym (whole_lines bad.whole bad.bad_line.done bad.ended) ∙ ap lines f.longer ∙ long.taken.ended f.mid in
      let on : (rest : List ℕ) → lines ((long.whole ++ f.mid) ++ rest) ≡ bad.bad_line.done ++ lines rest = λ rest. ap (λ (l : List ℕ). lines (l ++ rest)) (sym f.longer) ∙ bad.ended rest in
      no_front f.mid part.mid some plain (lines_between long.whole (48 ∷ []) f.mid (lines long.whole) bad.bad_line.done long.taken.ended on done)

  behind_limit : (f : IsFurther long.whole bad.whole (long.rest ++ (long.byte ∷ long.left)) bad.tail) → 0 < length f.mid → length f.mid ≤ length long.rest ⊎ (length long.rest < length f.mid) → 16777216 < length bad.whole
  behind_limit f some which = ⊎_elim
      (λ less. absurd (too_far f some less))
      (λ more. omega (arith, more, long.count, ap length f.longer, length-append long.whole f.mid))
      which

  at_limit : (f : IsFurther long.whole bad.whole (long.rest ++ (long.byte ∷ long.left)) bad.tail) → length f.mid ≡ 0 → (length bad.whole ≡ length long.whole) × (length long.rest ≤ length bad.bad_line.bad)
  at_limit f none =
      let same : length bad.whole ≡ length long.whole = omega (arith, none, ap length f.longer, length-append long.whole f.mid) in
      let back : IsFurther bad.whole long.whole bad.tail (long.rest ++ (long.byte ∷ long.left)) = further bad.whole bad.tail long.whole (long.rest ++ (long.byte ∷ long.left)) one_script (omega (arith, same)) in
      (same, first_of_tail back (omega (arith, same, ap length back.longer, length-append bad.whole back.mid)))
    where
      first_of_tail : (back : IsFurther bad.whole long.whole bad.tail (long.rest ++ (long.byte ∷ long.left))) → length back.mid ≡ 0 → length long.rest ≤ length bad.bad_line.bad
      first_of_tail back empty =
          let first : length long.rest ≤ head_length (lines (long.rest ++ (long.byte ∷ long.left))) = first_long long.rest (long.byte ∷ long.left) long.taken.no_break in
          let tail_is : bad.tail ≡ long.rest ++ (long.byte ∷ long.left) = back.rest ∙ ap (λ (l : List ℕ). l ++ (long.rest ++ (long.byte ∷ long.left))) (empty_list back.mid empty) in
          let head : head_length (lines (long.rest ++ (long.byte ∷ long.left))) ≡ length bad.bad_line.bad = head_of bad.bad_line.bad bad.bad_line.others (lines (long.rest ++ (long.byte ∷ long.left))) (ap lines (sym tail_is) ∙ tail_lines) in
          omega (arith, first, head)

  -- a line that is seen in the bytes that are read, and a script of which these are good
  pub seen_not_long : ⊥
  seen_not_long = ⊎_elim
      (λ (before : length bad.whole < length long.whole). not_before before)
      (λ (behind : length long.whole ≤ length bad.whole).
      let f : IsFurther long.whole bad.whole (long.rest ++ (long.byte ∷ long.left)) bad.tail = further long.whole (long.rest ++ (long.byte ∷ long.left)) bad.whole bad.tail (sym one_script) behind in
      ⊎_elim
      (λ (some : 0 < length f.mid).
      let far : 16777216 < length bad.whole = behind_limit f some (⊎_elim (λ (more : length long.rest < length f.mid). inr more) (λ (less : length f.mid ≤ length long.rest). inl less) (cases_lt (length long.rest) (length f.mid))) in
      ⊎_elim
      (λ ended. omega (arith, far, ended))
      (λ others. ⊎_elim (λ wide. omega (arith, far, wide)) (λ last. not_too_long script front last long) others)
      bad.seen)
      (λ (none : length f.mid ≤ 0).
      let here = at_limit f (omega (arith, none)) in
      ⊎_elim
      (λ ended. omega (arith, ended, here.0, here.1, long.count))
      (λ others. ⊎_elim (λ wide. omega (arith, wide, here.0, long.count, long.taken.few)) (λ last. not_too_long script front last long) others)
      bad.seen)
      (cases_lt 0 (length f.mid)))
      (cases_lt (length bad.whole) (length long.whole))
