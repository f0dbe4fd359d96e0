-- The parts of a write, one after another.
use Rattle.std.proofs.Common.{◌≡◌, ℕ, zero, suc, ◌+◌, ◌-◌, ◌%◌, ◌<◌, ◌≤◌, ◌⊎◌, List, [], ◌∷◌, ◌++◌, length, take, drop, map, Bool, true, false, ◌==◌, ◌||◌, inl, inr, ⊎_elim, sym, ◌∙◌, ap, subst, refl, arith, append_assoc, length-append, length-take}
use Rattle.std.specs.Prelude.{filter, nat_lt}
use Rattle.std.specs.List.{range_with_len}
use Rattle.std.proofs.lemmas.Bool.{cases_Bool, cases_eq, or_cases, or_left, or_right, eqb-true, eq-eqb, le-ltb}
use Rattle.std.proofs.lemmas.List.{take_all, length-take-le, take_at, drop_at, drop-drop, take-append-drop, take-take, drop-take}
use Rattle.geometry.specs.declared.geometry.Geometry.{Geometry}
use Rattle.geometry.specs.Numbers.{body}
use Rattle.table_model.specs.Table.{File, put_file}
use Rattle.table_model.specs.Files.{written}
use Rattle.table_model.specs.Steps.{file_steps, written_up_to}
use Rattle.table_model.specs.Window.{IsAmong}
use Rattle.call_model.specs.Parts.{AmongSteps, StepsAmong, WholeAmong, WrittenOn, WrittenNext, PutTwice}

-- ---- among tables

-- a number of a range that passes, and its table
record IsChosen (p : ℕ → Bool) (w : ℕ → List File) (a n : ℕ) (t : List File) : Type 0 where
  pub e : ℕ
  pub low : a ≤ e
  pub high : e < a + n
  pub passes : p e ≡ true
  pub table : t ≡ w e

chosen : (p : ℕ → Bool) (w : ℕ → List File) (a n : ℕ) (t : List File) → IsAmong t (map w (filter p (range_with_len a n))) → IsChosen p w a n t
unfolding IsAmong
chosen p w a zero t h = absurd h
chosen p w a (suc n) t h = ⊎_elim
    (λ (yes : p a ≡ true). ⊎_elim
    (λ (here : t ≡ w a). record { e = a; low = omega arith; high = omega arith; passes = yes; table = here })
    (λ (there : IsAmong t (map w (filter p (range_with_len (a + 1) n)))).
    let c = chosen p w (a + 1) n t there in record { e = c.e; low = omega (arith, c.low); high = omega (arith, c.high); passes = c.passes; table = c.table })
    (rw yes at h))
    (λ (no : p a ≡ false). let c = chosen p w (a + 1) n t (rw no at h) in record { e = c.e; low = omega (arith, c.low); high = omega (arith, c.high); passes = c.passes; table = c.table })
    (cases_Bool (p a))

among_chosen : (p : ℕ → Bool) (w : ℕ → List File) (a n e : ℕ) → a ≤ e → e < a + n → p e ≡ true → IsAmong (w e) (map w (filter p (range_with_len a n)))
unfolding IsAmong
among_chosen p w a zero e low high passes = absurd (omega arith)
among_chosen p w a (suc n) e low high passes = ⊎_elim
    (λ (here : a ≡ e). let now : p a ≡ true = rw here passes in rw now (inl (ap w (sym here))))
    (λ (there : a ≡ e → ⊥).
    let rest = among_chosen p w (a + 1) n e (omega (arith, there, low)) (omega arith) passes in
    ⊎_elim
    (λ (yes : p a ≡ true). rw yes (inr rest))
    (λ (no : p a ≡ false). rw no rest)
    (cases_Bool (p a)))
    (cases_eq a e)

pub among-left : (t : List File) (us vs : List (List File)) → IsAmong t us → IsAmong t (us ++ vs)
unfolding IsAmong
among-left t [] vs h = absurd h
among-left t (u ∷ us) vs h = ⊎_elim (λ here. inl here) (λ there. inr (among-left t us vs there)) h

pub among-right : (t : List File) (us vs : List (List File)) → IsAmong t vs → IsAmong t (us ++ vs)
unfolding IsAmong
among-right t [] vs h = h
among-right t (u ∷ us) vs h = inr (among-right t us vs h)

-- ---- the steps of a write

end_cases : (page size at len e : ℕ) → ((e % page == 0) || (e == size) || (e == at + len)) ≡ true → (e % page ≡ 0) ⊎ ((e ≡ size) ⊎ (e ≡ at + len))
end_cases page size at len e h = ⊎_elim
    (λ two. ⊎_elim (λ page_end. inl (eqb-true (e % page) 0 page_end)) (λ old. inr (inl (eqb-true e size old))) (or_cases (e % page == 0) (e == size) two))
    (λ own. inr (inr (eqb-true e (at + len) own)))
    (or_cases ((e % page == 0) || (e == size)) (e == at + len) h)

-- where a part may end, the test for an end passes
pub end_passes : (page size at len e : ℕ) → (e % page ≡ 0) ⊎ ((e ≡ size) ⊎ (e ≡ at + len)) → ((e % page == 0) || (e == size) || (e == at + len)) ≡ true
end_passes page size at len e h = ⊎_elim
    (λ (page_end : e % page ≡ 0). or_left ((e % page == 0) || (e == size)) (e == at + len) (or_left (e % page == 0) (e == size) (eq-eqb (e % page) 0 page_end)))
    (λ (more : (e ≡ size) ⊎ (e ≡ at + len)). ⊎_elim
    (λ (old : e ≡ size). or_left ((e % page == 0) || (e == size)) (e == at + len) (or_right (e % page == 0) (e == size) (eq-eqb e size old)))
    (λ (own : e ≡ at + len). or_right ((e % page == 0) || (e == size)) (e == at + len) (eq-eqb e (at + len) own))
    more)
    h

pub among-steps : (g : Geometry) → AmongSteps g
unfolding file_steps
among-steps g at bytes f files t h =
    let c = chosen (λ (e : ℕ). (e % body g == 0) || (e == length f.bytes) || (e == at + length bytes)) (written_up_to at bytes f files) (at + 1) (length bytes) t h in
    record { end = c.e; is_end = record { from = omega (arith, c.low); to = omega (arith, c.high); ends = end_cases (body g) (length f.bytes) at (length bytes) c.e c.passes }; table = c.table }

pub steps-among : (g : Geometry) → StepsAmong g
unfolding file_steps
steps-among g at bytes f files e is =
    among_chosen (λ (e : ℕ). (e % body g == 0) || (e == length f.bytes) || (e == at + length bytes)) (written_up_to at bytes f files) (at + 1) (length bytes) e (omega (arith, is.from)) (omega (arith, is.to))
    (end_passes (body g) (length f.bytes) at (length bytes) e is.ends)

-- up to its own end all bytes are written
pub whole-table : (at : ℕ) (bytes : List ℕ) (f : File) (files : List File) → written_up_to at bytes f files (at + length bytes) ≡ put_file (written at bytes f) files
whole-table at bytes f files = ap (λ (l : List ℕ). put_file (written at l f) files) (take_all (at + length bytes - at) bytes (omega arith))

pub whole-among : (g : Geometry) → WholeAmong g
whole-among g at bytes f files some =
    subst (λ (t : List File). IsAmong t (file_steps g at bytes f files)) (whole-table at bytes f files)
    (steps-among g at bytes f files (at + length bytes) (record { from = omega (arith, some); to = omega arith; ends = inr (inr refl) }))

-- ---- one write after another

pub written_on : WrittenOn
written_on at xs ys f inside =
    let p : List ℕ = take at f.bytes ++ xs in
    let q : List ℕ = drop (at + length xs) f.bytes in
    let long : length p ≡ at + length xs = length-append (take at f.bytes) xs ∙ (let n = length-take at f.bytes in omega (arith, n, inside)) in
    let front : take (at + length xs) (p ++ q) ≡ p = take_at p q (at + length xs) long in
    let back : drop (at + length xs + length ys) (p ++ q) ≡ drop (at + length (xs ++ ys)) f.bytes =
    sym (drop-drop (length ys) (at + length xs) (p ++ q)) ∙ ap (λ (l : List ℕ). drop (length ys) l) (drop_at p q (at + length xs) long) ∙ drop-drop (length ys) (at + length xs) f.bytes
    ∙ ap (λ (n : ℕ). drop n f.bytes) (let n = length-append xs ys in omega (arith, n)) in
    let both : take (at + length xs) (p ++ q) ++ ys ≡ take at f.bytes ++ (xs ++ ys) = ap (λ (l : List ℕ). l ++ ys) front ∙ append_assoc (take at f.bytes) xs ys in
    ap (λ (l : List ℕ). record f { bytes = l }) (ap (λ (l : List ℕ). l ++ drop (at + length xs + length ys) (p ++ q)) both ∙ ap (λ (l : List ℕ). take at f.bytes ++ (xs ++ ys) ++ l) back)

-- the first elements, and those behind them
pub take-two : (m n : ℕ) (xs : List ℕ) → m ≤ n → take m xs ++ take (n - m) (drop m xs) ≡ take n xs
take-two m n xs less =
    let whole : m + (n - m) ≡ n = omega (arith, less) in
    ap (λ (l : List ℕ). l ++ take (n - m) (drop m xs)) (sym (take-take m n xs less)) ∙ ap (λ (l : List ℕ). take m (take n xs) ++ l) (sym (ap (λ (k : ℕ). drop m (take k xs)) (sym whole) ∙ drop-take m (n - m) xs)) ∙ take-append-drop m (take n xs)

pub written_next : WrittenNext
written_next at e next bytes f inside low less within =
    let len : length (take (e - at) bytes) ≡ e - at = length-take-le (e - at) bytes (omega (arith, less, within)) in
    let place : at + length (take (e - at) bytes) ≡ e = omega (arith, len, low) in
    ap (λ (n : ℕ). written n (take (next - e) (drop (e - at) bytes)) (written at (take (e - at) bytes) f)) (sym place)
    ∙ written_on at (take (e - at) bytes) (take (next - e) (drop (e - at) bytes)) f inside
    ∙ ap (λ (l : List ℕ). written at l f) (ap (λ (n : ℕ). take (e - at) bytes ++ take n (drop (e - at) bytes)) (omega (arith, low, less)) ∙ take-two (e - at) (next - at) bytes (omega (arith, less)))

pub put_twice : PutTwice
put_twice f old [] same = rw (le-ltb f.id old.id (omega (arith, same)), eq-eqb f.id old.id same) refl
put_twice f old (x ∷ files) same = ⊎_elim
    (λ (less : nat_lt old.id x.id ≡ true).
    let too : nat_lt f.id x.id ≡ true = rw same less in
    rw (less, too) (rw (le-ltb f.id old.id (omega (arith, same)), eq-eqb f.id old.id same) refl))
    (λ (more : nat_lt old.id x.id ≡ false).
    let too : nat_lt f.id x.id ≡ false = rw same more in
    rw (more, too) (⊎_elim
    (λ (here : (old.id == x.id) ≡ true).
    let both : (f.id == x.id) ≡ true = rw same here in
    rw (here, both) (rw (le-ltb f.id old.id (omega (arith, same)), eq-eqb f.id old.id same) refl))
    (λ (apart : (old.id == x.id) ≡ false).
    let both : (f.id == x.id) ≡ false = rw same apart in
    rw (apart, both) (rw too (ap (λ (l : List File). x ∷ l) (put_twice f old files same))))
    (cases_Bool (old.id == x.id))))
    (cases_Bool (nat_lt old.id x.id))
