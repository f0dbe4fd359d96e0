-- What stands in a unit after an erase.
use Rattle.std.proofs.Common.{◌≡◌, ◌≢◌, ℕ, zero, suc, ◌+◌, ◌<◌, ◌≤◌, inl, inr, Bool, true, false, cond, eqb, List, length, take, drop, get_or, set, replicate, refl, sym, ◌∙◌, ap, subst, arith, eqb-true, zero-add, Some, None}
use Rattle.std.proofs.lemmas.Bool.{eqb-false}
use Rattle.std.proofs.lemmas.List.{length-replicate, get_or-set_same, get_or-set_other, length-set}
use Rattle.std.proofs.lemmas.Grind.{common_steps}
use Rattle.std.specs.Int.Bits.{bit_xor, xor_add_and}
use Rattle.std.specs.Option.{ForSome}
use Rattle.std.specs.declared.option.Option.{Option}
use Rattle.nor_core.specs.declared.device.Mark.{Mark}
use Rattle.nor_memory.specs.declared.plan.Way.{Way}
use Rattle.nor_memory.specs.declared.plan.Way.TheVariants.{Whole, Fails, Cut, Unpowered}
use Rattle.nor_core.specs.Flash.{HalfErased, SameOutside, Unmarked, word_at}
use Rattle.nor_memory.specs.Picks.{put, mark_turned, UnitErased}
use Rattle.nor_memory.proofs.Ranges.{put_same, put_outside, get_or-put_inside}

-- what holds of each byte holds past the end too, where 0 is read
pub all_below : (bytes : List ℕ) → ((i d : ℕ) → i < length bytes → get_or bytes i d < 256) → (k : ℕ) → get_or bytes k 0 < 256
all_below bytes below k = let here = below k 0 in grind (arith, common_steps)

-- turning the lowest bit changes a byte
turned : (b : ℕ) → bit_xor b 1 ≢ b
turned b same = absurd (omega (arith, xor_add_and b 1, same))

module _ (bytes : List ℕ) (at word : ℕ) (within : at + 2 ≤ length bytes) where
  unmarked_by : (reads : Bool) → eqb (word_at bytes at) word ≡ reads → word_at (cond reads (set bytes at (bit_xor (get_or bytes at 0) 1)) bytes) at ≢ word
  unmarked_by false reads = eqb-false _ _ reads
  unmarked_by true reads = λ again.
      let first = get_or-set_same bytes at (bit_xor (get_or bytes at 0) 1) 0 (omega (arith, within)) in
      let second = get_or-set_other bytes at (at + 1) (bit_xor (get_or bytes at 0) 1) 0 (λ e. absurd (omega (arith, e))) in
      turned (get_or bytes at 0) (omega (arith, first, second, again, eqb-true _ _ reads))

  length_by : (reads : Bool) (b : ℕ) → length (cond reads (set bytes at b) bytes) ≡ length bytes
  length_by false b = refl
  length_by true b = length-set bytes at b

-- a mark that was turned doesn't read as its word
unmarked_turned : (mark : Option Mark) (bytes : List ℕ) → ForSome mark (λ m. m.at + 2 ≤ length bytes) → Unmarked 0 mark (mark_turned mark bytes)
unmarked_turned None bytes within = tt
unmarked_turned (Some mark) bytes within = subst (λ (at : ℕ). word_at (mark_turned (Some mark) bytes) at ≢ mark.word) (sym (zero-add mark.at)) (unmarked_by bytes mark.at mark.word (within mark refl) _ refl)

length-mark_turned : (mark : Option Mark) (bytes : List ℕ) → ForSome mark (λ m. m.at + 2 ≤ length bytes) → length (mark_turned mark bytes) ≡ length bytes
length-mark_turned None bytes within = refl
length-mark_turned (Some mark) bytes within = length_by bytes mark.at mark.word (within mark refl) _ _

-- a unit without its mark, put into the image
unmarked_put : (mark : Option Mark) (old left : List ℕ) (start : ℕ) → ForSome mark (λ m. m.at + 2 ≤ length left) → start + length left ≤ length old → Unmarked 0 mark left → Unmarked start mark (put old start left)
unmarked_put None old left start marked within none = tt
unmarked_put (Some mark) old left start marked within none = λ again.
    let inside = marked mark refl in
    let first = get_or-put_inside old start left mark.at within (omega (arith, inside)) in
    let second = get_or-put_inside old start left (mark.at + 1) within (omega (arith, inside)) in
    let place : start + (mark.at + 1) ≡ start + mark.at + 1 = omega arith in
    let there = ap (λ (k : ℕ). get_or (put old start left) k 0) place in
    let none_there = subst (λ (at : ℕ). word_at left at ≢ mark.word) (zero-add mark.at) none in
    none_there (omega (arith, first, second, there, again))

module _ (unit : ℕ) (mark : Option Mark) (marked : ForSome mark (λ m. m.at + 2 ≤ unit)) where
  marked_in : (bytes : List ℕ) → length bytes ≡ unit → ForSome mark (λ m. m.at + 2 ≤ length bytes)
  marked_in bytes size = λ m is. omega (arith, marked m is, size)

  turned_size : (bytes left : List ℕ) → length bytes ≡ unit → left ≡ mark_turned mark bytes → length left ≡ unit
  turned_size bytes left size is = ap length is ∙ length-mark_turned mark bytes (marked_in bytes size) ∙ size

  -- what an erase leaves has the unit's size
  pub unit_size : (way : Way) (old left : List ℕ) → length old ≡ unit → UnitErased way unit mark old left → length left ≡ unit
  unit_size Whole old left size is = ap length is ∙ length-replicate unit 255
  unit_size Fails old left size is = ap length is ∙ size
  unit_size (Cut zero) old left size range = ap length (range.nothing refl) ∙ size
  unit_size (Cut (suc zero)) old left size range = turned_size (replicate unit 255) left (length-replicate unit 255) (range.all refl)
  unit_size (Cut (suc (suc pick))) old left size range = let some = range.between (omega arith) in turned_size some.bytes left some.all_drawn.size some.turned
  unit_size Unpowered old left size is = ap length is ∙ size

  module _ (start : ℕ) (old new : List ℕ) (within : start + unit ≤ length old) (fits : (k : ℕ) → get_or new k 0 < 256) where
    scrambled : (bytes left : List ℕ) → length bytes ≡ unit → left ≡ mark_turned mark bytes → new ≡ put old start left → HalfErased start unit mark old new
    scrambled bytes left size is new_is =
        let long = turned_size bytes left size is in
        let none = subst (Unmarked 0 mark) (sym is) (unmarked_turned mark bytes (marked_in bytes size)) in
        inr (record {
          outside = subst (λ (l : List ℕ). SameOutside start unit old l) (sym new_is) (put_outside old left start unit long within);
          bytes = fits;
          unmarked = subst (Unmarked start mark) (sym new_is) (unmarked_put mark old left start (marked_in left long) (omega (arith, long, within)) none);
        })

    -- an erase that doesn't go whole leaves what the rules allow
    pub half_erased : (way : Way) (n : ℕ) (left : List ℕ) → n ≡ unit → way ≢ Whole → UnitErased way unit mark (take n (drop start old)) left → new ≡ put old start left → HalfErased start unit mark old new
    half_erased Whole n left n_is halfway range new_is = absurd (halfway refl)
    half_erased Fails n left n_is halfway range new_is = inl (new_is ∙ put_same old start n left (omega (arith, n_is, within)) range)
    half_erased (Cut zero) n left n_is halfway range new_is = inl (new_is ∙ put_same old start n left (omega (arith, n_is, within)) (range.nothing refl))
    half_erased (Cut (suc zero)) n left n_is halfway range new_is = scrambled (replicate unit 255) left (length-replicate unit 255) (range.all refl) new_is
    half_erased (Cut (suc (suc pick))) n left n_is halfway range new_is = let some = range.between (omega arith) in scrambled some.bytes left some.all_drawn.size some.turned new_is
    half_erased Unpowered n left n_is halfway range new_is = inl (new_is ∙ put_same old start n left (omega (arith, n_is, within)) range)
