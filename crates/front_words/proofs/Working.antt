-- Working names.
use Rattle.std.proofs.Common.{◌≡◌, ℕ, ◌+◌, ◌-◌, ◌<◌, ◌≤◌, List, [], ◌∷◌, length, get_or, Bool, true, false, eqb, ltb, refl, ap, arith, ⊎_elim}
use Rattle.std.specs.Prelude.{not, ◌&&◌, ◌||◌, ◌==◌}
use Rattle.std.specs.List.{list_any}
use Rattle.std.proofs.lemmas.Bool.{false≢true, cases_Bool}
use Rattle.std.proofs.lemmas.Grind.{common_steps}
use Rattle.call_script.specs.Lines.{is_text}
use Rattle.front_words.specs.Scripts.{turned, working, is_free, can_put}

turned_twice : (b : ℕ) → b < 256 → turned (turned b) ≡ b
turned_twice b small = ⊎_elim
    (λ (low : ltb b 128 ≡ true).
    let up : ltb (b + 128) 128 ≡ false = grind (arith, common_steps) in
    rw (low, up) (omega arith))
    (λ (high : ltb b 128 ≡ false).
    let most : 128 ≤ b = grind (arith, common_steps) in
    let down : ltb (b - 128) 128 ≡ true = grind (arith, common_steps) in
    rw (high, down) (omega arith))
    (cases_Bool (ltb b 128))

turned_other : (b : ℕ) → turned b ≡ b → ⊥
turned_other b same = ⊎_elim
    (λ (low : ltb b 128 ≡ true). let up = rw low at same in omega (arith, up))
    (λ (high : ltb b 128 ≡ false).
    let most : 128 ≤ b = grind (arith, common_steps) in
    let down = rw high at same in
    omega (arith, most, down))
    (cases_Bool (ltb b 128))

pub working_again : (b : ℕ) (bs : List ℕ) → b < 256 → working (working (b ∷ bs)) ≡ b ∷ bs
working_again b bs small = ap (λ (k : ℕ). k ∷ bs) (turned_twice b small)

pub working_other : (b : ℕ) (bs : List ℕ) → working (b ∷ bs) ≡ b ∷ bs → ⊥
working_other b bs same = turned_other b (first same)
  where
    first : turned b ∷ bs ≡ b ∷ bs → turned b ≡ b
    first e = cc

pub working_length : (name : List ℕ) → length (working name) ≡ length name
working_length [] = refl
working_length (b ∷ bs) = refl

-- which byte turned is 0 or 1
turned_to : (b k : ℕ) → k < 128 → eqb (turned b) k ≡ eqb b (k + 128)
turned_to b k small = ⊎_elim
    (λ (low : ltb b 128 ≡ true).
    let one : eqb (b + 128) k ≡ false = grind (arith, common_steps) in
    let other : eqb b (k + 128) ≡ false = grind (arith, common_steps) in
    rw (low, one, other) refl)
    (λ (high : ltb b 128 ≡ false). rw high (down high))
    (cases_Bool (ltb b 128))
  where
    down : ltb b 128 ≡ false → eqb (b - 128) k ≡ eqb b (k + 128)
    down high = ⊎_elim
        (λ (yes : eqb b (k + 128) ≡ true).
        let one : eqb (b - 128) k ≡ true = grind (arith, common_steps) in
        rw (yes, one) refl)
        (λ (no : eqb b (k + 128) ≡ false).
        let most : 128 ≤ b = grind (arith, common_steps) in
        let one : eqb (b - 128) k ≡ false = grind (arith, common_steps) in
        rw (no, one) refl)
        (cases_Bool (eqb b (k + 128)))

last_byte : (free void other : Bool) → (free && (not void && not other)) ≡ (free && (not void && not (other && true)))
last_byte free void true = refl
last_byte free void false = refl

more_bytes : (zero rest void other : Bool) → (not (zero || rest) && not (void || rest)) ≡ (not (zero || rest) && (not void && not (other && false)))
more_bytes true rest void other = refl
more_bytes false true void other = refl
more_bytes false false true other = refl
more_bytes false false false true = refl
more_bytes false false false false = refl

either_byte : (zero one : Bool) → (not (false || (zero || false)) && not (one && true)) ≡ (not zero && not one)
either_byte true one = refl
either_byte false true = refl
either_byte false false = refl

no_scratch : (zero one : Bool) → (not (false || zero) && not (one && false)) ≡ not zero
no_scratch true one = refl
no_scratch false true = refl
no_scratch false false = refl

-- a name of one byte is free where that is neither 0 nor 1
free_one : (b : ℕ) → is_free (b ∷ []) ≡ (not (eqb b 0) && not (eqb b 1))
unfolding is_free is_text
free_one b = either_byte (eqb b 0) (eqb b 1)

-- a longer one where no byte is 0
free_more : (b c : ℕ) (bs : List ℕ) → is_free (b ∷ c ∷ bs) ≡ not (eqb b 0 || list_any (λ k. eqb k 0) (c ∷ bs))
unfolding is_free is_text
free_more b c bs =
    let some : eqb (length (b ∷ c ∷ bs)) 0 ≡ false = grind (arith, common_steps) in
    rw some (no_scratch (eqb b 0 || list_any (λ k. eqb k 0) (c ∷ bs)) (eqb b 1))

-- a file can be put under a name that is free, does not begin with the byte 128 and is not the byte 129
pub put_by : (name : List ℕ) → 0 < length name → can_put name ≡ (is_free name && (not (get_or name 0 0 == 128) && not (is_text name (129 ∷ []))))
unfolding can_put is_text
put_by [] some = absurd (omega arith)
put_by (b ∷ []) some = rw (free_one (turned b), turned_to b 0 (omega arith), turned_to b 1 (omega arith)) (last_byte (is_free (b ∷ [])) (eqb b 128) (eqb b 129))
put_by (b ∷ c ∷ bs) some = rw (free_more b c bs, free_more (turned b) c bs, turned_to b 0 (omega arith)) (more_bytes (eqb b 0) (list_any (λ k. eqb k 0) (c ∷ bs)) (eqb b 128) (eqb b 129))

-- under one that is not free it can't
pub put_not : (name : List ℕ) → is_free name ≡ false → can_put name ≡ false
unfolding can_put
put_not name free = rw free refl

-- such a name is not empty
pub free_some : (name : List ℕ) → is_free name ≡ true → 0 < length name
unfolding is_free
free_some [] free = absurd (false≢true free)
free_some (b ∷ bs) free = omega arith
