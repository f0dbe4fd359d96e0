-- What slots hold after a change of one or of all of them.
use Rattle.std.proofs.Common.{◌≡◌, ℕ, zero, suc, ◌+◌, ◌-◌, ◌<◌, ◌≤◌, List, [], ◌∷◌, ◌++◌, map, length, get_or, set, take, drop, replicate, refl, ap, arith, true, false, sym, ◌∙◌, Option, Some, None, append-nil, append_assoc, min, eqb}
use Rattle.std.proofs.lemmas.List.{map-append, length-map, length-take-le, drop_more, take_more, get_or_at, set_at, take_all, drop_all, take-map, map-set, get_or-map, get_or-take, length-take, get_or_past}
use Rattle.std.proofs.lemmas.Grind.{common_steps}
use Rattle.fd_table.specs.declared.slot.FdSlot.{FdSlot}
use Rattle.table_model.specs.Table.{Open}
use Rattle.fd_table.specs.Slots.{held, opened, lowest_from, open_at}

-- a step of a change in place
pub mapped_more : {A : Type 0} (g : A → A) (now first : List A) (i : ℕ) (d : A) → i < length first → now ≡ map g (take i first) ++ drop i first → set now i (g (get_or now i d)) ≡ map g (take (i + 1) first) ++ drop (i + 1) first
mapped_more {A} g now first i d h e =
    let y : A = get_or first i d in
    let ys : List A = drop (i + 1) first in
    let p : List A = map g (take i first) in
    let long : length p ≡ i = length-map (take i first) g ∙ length-take-le i first (omega arith) in
    let whole : now ≡ p ++ y ∷ ys = e ∙ ap (λ l. p ++ l) (drop_more first i d h) in
    let read : get_or now i d ≡ y = ap (λ l. get_or l i d) whole ∙ get_or_at p y ys d i long in
    let wrote : set now i (g (get_or now i d)) ≡ p ++ g y ∷ ys = ap (λ l. set l i (g (get_or now i d))) whole ∙ set_at p y ys (g (get_or now i d)) i long ∙ ap (λ v. p ++ g v ∷ ys) read in
    let front : map g (take (i + 1) first) ≡ p ++ g y ∷ [] = ap (λ l. map g l) (take_more first i d h) ∙ map-append g (take i first) (y ∷ []) in
    wrote ∙ sym (ap (λ l. l ++ ys) front ∙ append_assoc p (g y ∷ []) ys)

-- slots of which the first `i` are changed
pub record IsChanged (g : Option Open → Option Open) (first now : List FdSlot) (i : ℕ) : Type 0 where
  pub parts : map held now ≡ map g (take i (map held first)) ++ drop i (map held first)

pub changed_none : (g : Option Open → Option Open) (first : List FdSlot) → IsChanged g first first 0
changed_none g first = record { parts = refl }

pub changed_more : (g : Option Open → Option Open) (first now : List FdSlot) (i : ℕ) (d new : FdSlot) → i < length now → length now ≡ length first → held new ≡ g (held (get_or now i d)) → IsChanged g first now i → IsChanged g first (set now i new) (i + 1)
changed_more g first now i d new h same value c = record {
  parts =
      (let there : get_or (map held now) i None ≡ held (get_or now i d) = get_or-map held now i d None h in
      let wrote : map held (set now i new) ≡ set (map held now) i (g (get_or (map held now) i None)) = map-set held now i new ∙ ap (λ v. set (map held now) i v) (value ∙ ap g (sym there)) in
      wrote ∙ mapped_more g (map held now) (map held first) i None (rw (length-map first held) (omega arith)) c.parts);
}

-- all slots are changed
pub changed_all : (n : ℕ) (g : Option Open → Option Open) (first now : List FdSlot) (i : ℕ) → length first ≤ i → IsChanged g first now i → map held (take n now) ≡ map g (map held (take n first))
changed_all n g first now i h c =
    let long : length (map held first) ≤ i = rw (length-map first held) h in
    let all : map held now ≡ map g (map held first) = c.parts ∙ ap (λ l. map g l ++ drop i (map held first)) (take_all i (map held first) long) ∙ ap (λ l. map g (map held first) ++ l) (drop_all i (map held first) long) ∙ append-nil (map g (map held first)) in
    sym (take-map held n now) ∙ ap (λ l. take n l) all ∙ take-map g n (map held first) ∙ ap (λ l. map g l) (take-map held n first)

-- what the slot of an index holds
pub held_at : (n : ℕ) (xs : List FdSlot) (i : ℕ) (d : FdSlot) → i < n → i < length xs → get_or (map held (take n xs)) i None ≡ held (get_or xs i d)
held_at n xs i d low h = let long : i < length (take n xs) = rw (length-take n xs) (omega arith) in get_or-map held (take n xs) i d None long ∙ ap held (get_or-take n xs i d low)

-- past the last slot nothing is held
pub held_past : (n : ℕ) (xs : List FdSlot) (i : ℕ) → length xs ≤ i → get_or (map held (take n xs)) i None ≡ None
held_past n xs i h = get_or_past (map held (take n xs)) i None (rw (length-map (take n xs) held, length-take n xs) (omega arith))

-- a write to the slot of an index
pub held_set : (n : ℕ) (xs : List FdSlot) (i : ℕ) (s : FdSlot) → i < n → map held (take n (set xs i s)) ≡ set (map held (take n xs)) i (held s)
held_set zero xs i s h = absurd (omega arith)
held_set (suc n) [] i s h = refl
held_set (suc n) (x ∷ xs) zero s h = refl
held_set (suc n) (x ∷ xs) (suc i) s h = ap (λ l. held x ∷ l) (held_set n xs i s (omega arith))

-- all of them are open
pub none_closed : (n : ℕ) (xs : List FdSlot) (m : ℕ) → ((k : ℕ) (d : FdSlot) → k < n → k < length xs → (get_or xs k d).used ≡ true) → lowest_from m (map held (take n xs)) ≡ None
none_closed zero xs m all = refl
none_closed (suc n) [] m all = refl
none_closed (suc n) (x ∷ xs) m all =
    let here : x.used ≡ true = all 0 x (omega arith) (omega arith) in
    rw here (none_closed n xs (m + 1) (λ k d low h. all (suc k) d (omega arith) (omega arith)))

-- the first that is closed
pub closed_here : (n : ℕ) (xs : List FdSlot) (m i : ℕ) (d : FdSlot) → i < n → i < length xs → (get_or xs i d).used ≡ false → ((k : ℕ) (d : FdSlot) → k < i → (get_or xs k d).used ≡ true) → lowest_from m (map held (take n xs)) ≡ Some (m + i)
closed_here zero xs m i d low h here all = absurd (omega arith)
closed_here (suc n) [] m i d low h here all = absurd (omega arith)
closed_here (suc n) (x ∷ xs) m zero d low h here all = rw here (ap (λ (k : ℕ). Some k) (omega arith))
closed_here (suc n) (x ∷ xs) m (suc i) d low h here all =
    let used : x.used ≡ true = all 0 x (omega arith) in
    rw used (closed_here n xs (m + 1) i d (omega arith) (omega arith) here (λ k e b. all (suc k) e (omega arith)) ∙ ap (λ (k : ℕ). Some k) (omega arith))

-- every descriptor is closed
pub all_closed : {B C : Type 0} (xs : List B) (y : C) → map (λ (o : B). y) xs ≡ replicate (length xs) y
all_closed [] y = refl
all_closed (x ∷ xs) y = ap (λ l. y ∷ l) (all_closed xs y)

pub count_held : (n : ℕ) (xs : List FdSlot) → length (map held (take n xs)) ≡ min n (length xs)
count_held n xs = length-map (take n xs) held ∙ length-take n xs

-- closed, whatever it was
abbrev pub none_of : Option Open → Option Open
none_of o = None

-- no descriptor has the number 0
pub open_none : (all : List (Option Open)) (fd : ℕ) → fd ≡ 0 → open_at all fd ≡ None
unfolding open_at
open_none all fd e = rw e refl

-- the descriptor of a number
pub open_is : (all : List (Option Open)) (fd : ℕ) → 0 < fd → open_at all fd ≡ get_or all (fd - 1) None
unfolding open_at
open_is all fd h = let t : eqb fd 0 ≡ false = grind (arith, common_steps) in rw t refl

-- what the slot of a descriptor's number holds
pub open_held : (n : ℕ) (xs : List FdSlot) (fd at : ℕ) (d : FdSlot) → at ≡ fd → 0 < fd → fd ≤ n → fd ≤ length xs → open_at (map held (take n xs)) fd ≡ held (get_or xs (at - 1) d)
open_held n xs fd at d e some low h = rw e (open_is (map held (take n xs)) fd some ∙ held_at n xs (fd - 1) d (omega arith) (omega arith))

-- no descriptor is past the last slot
pub open_past : (n : ℕ) (xs : List FdSlot) (fd : ℕ) → length xs < fd → open_at (map held (take n xs)) fd ≡ None
open_past n xs fd h = open_is (map held (take n xs)) fd (omega arith) ∙ held_past n xs (fd - 1) (omega arith)

pub held_used : (s : FdSlot) → s.used ≡ true → held s ≡ Some (opened s)
held_used s e = rw e refl

pub held_closed : (s : FdSlot) → s.used ≡ false → held s ≡ None
held_closed s e = rw e refl
