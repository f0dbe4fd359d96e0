-- A range of bytes in pieces, each in one chip, and what the calls of these leave together.
use Rattle.std.proofs.Common.{◌≡◌, ℕ, ◌+◌, ◌-◌, ◌*◌, ◌/◌, ◌%◌, ◌<◌, ◌≤◌, ◌⊎◌, min, inl, inr, ⊎_elim, List, length, sym, ◌∙◌, ap, subst, refl, arith, Ok, Err, OnOk, Result}
use Rattle.std.specs.Result.{IsErr}
use Rattle.std.proofs.lemmas.Bool.{false≢true}
use Rattle.std.proofs.lemmas.Nat.{div-add-mod'}
use Rattle.std.proofs.Math.Nat.{mul-le-mul_left, mod-lt}
use Rattle.nor_core.specs.declared.device.Failed.{Failed}
use Rattle.nor_core.specs.declared.state.NorState.{Ghosts as NorOf}
use Rattle.nor_core.specs.Count.{counted}
use Rattle.nor_core.specs.Device.{Changes}
use Rattle.nor_core.proofs.Cuts.{andthen, widened}
use Rattle.chip_row.specs.declared.row.ChipRow.{ChipRow}
use Rattle.chip_row.specs.Chips.{ChipOf}
use Rattle.chip_row.specs.Asks.{Asks, HoldsSome}
use Rattle.chip_row.proofs.Parts.{lt_or_le, unit_within}
use Rattle.chip_row.proofs.Ends.{on_ok, on_err}

-- the piece of a range that lies in the chip where it goes on
pub record Piece (at done len size m : ℕ) : Type 0 where
  pub some : 0 < m
  pub fits : (at + done) % size + m ≤ size
  pub within : done + m ≤ len
  pub place : (at + done) / size * size + (at + done) % size ≡ at + done
  pub goes_on : (done + m ≡ len) ⊎ ((at + (done + m)) ≡ (at + done) / size * size + size)

-- the piece that a turn of the loop takes
pub piece_of : (at done len size m : ℕ) → 0 < size → (at + done) % size < size → done < len → m ≡ min (size - (at + done) % size) (len - done) → Piece at done len size m
piece_of at done len size m some below more m_is =
    let place = div-add-mod' (at + done) size in
    record {
      some = omega (arith, m_is, below, more);
      fits = omega (arith, m_is, below);
      within = omega (arith, m_is, more);
      place = place;
      goes_on = ⊎_elim
          (λ short. inr (omega (arith, m_is, short, below, place)))
          (λ rest. inl (omega (arith, m_is, rest, below, more)))
          (lt_or_le (size - (at + done) % size) (len - done));
    }

-- how far a range has come: at its start, at its end, or at the beginning of a chip
pub AtChip : ℕ → ℕ → ℕ → ℕ → Type 0
AtChip at done len size = (done ≡ 0) ⊎ (done ≡ len) ⊎ ((k : ℕ) × (at + done ≡ k * size))

-- at first the range stands at its start
pub at_start : (at len size : ℕ) → AtChip at 0 len size
unfolding AtChip
at_start at len size = inl refl

-- a chip that holds some of a range holds some of a longer one
pub holds_more : (size at n more place : ℕ) → n ≤ more → HoldsSome size at n place → HoldsSome size at more place
holds_more size at n more place within holds = record { byte = holds.byte; below = omega (arith, holds.below, within); starts = holds.starts; ends = holds.ends }

-- a failure gives nothing that an Ok would
pub no_ok : (P : Type 0) (result : Result (Unit {0}) Failed) → IsErr result → OnOk result P
no_ok P (Ok done) is = absurd (false≢true is)
no_ok P (Err failed) is = tt

module _ {C : Type 0} {chip : ChipOf C} where
  -- nothing was called
  pub asks_none : {Asked : ℕ → Type 0} {Other : Type 0} (row : ChipRow C) → Asks chip Asked row row (Ok tt) Other
  asks_none row = record { numbers = refl; others = λ place other. refl; sound = λ fit. fit; no_fault = refl; one_fault = tt; no_fuse = refl; blamed = tt }

  module _ {Asked : ℕ → Type 0} {old new : ChipRow C} where
    -- after an Ok there is no cause to tell
    pub asks_ok : {Other None : Type 0} {done also : Unit {0}} → Asks chip Asked old new (Ok done) Other → Asks chip Asked old new (Ok also) None
    asks_ok call = record { numbers = call.numbers; others = call.others; sound = call.sound; no_fault = call.no_fault; one_fault = tt; no_fuse = call.no_fuse; blamed = tt }

    -- each failure is the same
    pub asks_err : {Other : Type 0} {failed : Failed} (result : Result (Unit {0}) Failed) → IsErr result → Asks chip Asked old new (Err failed) Other → Asks chip Asked old new result Other
    asks_err (Ok done) is call = absurd (false≢true is)
    asks_err (Err also) is call = record { numbers = call.numbers; others = call.others; sound = call.sound; no_fault = tt; one_fault = call.one_fault; no_fuse = tt; blamed = call.blamed }

  -- seen as a call that may ask more chips
  pub asks_wider : {Few Many : ℕ → Type 0} {old new : ChipRow C} {S T : Type 0} (result : Result (Unit {0}) Failed) → ((place : ℕ) → Few place → Many place) → (S → T) → Asks chip Few old new result S → Asks chip Many old new result T
  asks_wider result more goes call = record {
    numbers = call.numbers;
    others = λ place other. call.others place (λ few. other (more place few));
    sound = call.sound;
    no_fault = call.no_fault;
    one_fault = call.one_fault;
    no_fuse = call.no_fuse;
    blamed = on_err result (λ blame. ⊎_elim (λ rose. inl (rose.0, more rose.0 rose.1, rose.2, rose.3)) (λ stuck. inr (stuck.0, goes stuck.1)) blame) call.blamed;
  }

  -- a call after others that were Ok, which asked no chip that it asks
  pub asks_then : {First Next Both : ℕ → Type 0} {old mid new : ChipRow C} {None S T : Type 0} (result : Result (Unit {0}) Failed) → Asks chip First old mid (Ok tt) None → Asks chip Next mid new result S
      → ((place : ℕ) → First place → Both place) → ((place : ℕ) → Next place → Both place × (First place → ⊥)) → (S → T) → Asks chip Both old new result T
  asks_then {First} {Next} {Both} {old} {mid} {new} result first call wide next goes =
      let same : mid.faults ≡ old.faults = first.no_fault in
      let named : mid.fuse ≡ old.fuse = first.no_fuse in
      record {
        numbers = call.numbers ∙ first.numbers;
        others = λ place other. call.others place (λ here. other (next place here).0) ∙ first.others place (λ here. other (wide place here));
        sound = λ fit. call.sound (first.sound fit);
        no_fault = on_ok result (λ none. none ∙ same) call.no_fault;
        one_fault = on_err result (λ one. one ∙ ap (λ (n : ℕ). counted n) same) call.one_fault;
        no_fuse = on_ok result (λ none. none ∙ named) call.no_fuse;
        blamed = on_err result (λ blame. ⊎_elim
            (λ rose. (
            let here = next rose.0 rose.1 in
            inl (rose.0, here.0, record { was = rose.2.was; is = rose.2.is; old_is = sym (first.others rose.0 here.1) ∙ rose.2.old_is; new_is = rose.2.new_is; rose = rose.2.rose }, rose.3)))
            (λ stuck. inr (stuck.0 ∙ named, goes stuck.1))
            blame) call.blamed;
      }

module _ (size at done len m i : ℕ) (i_is : i ≡ (at + done) / size) (p : Piece at done len size m) where
  -- after a piece the range stands at a chip's beginning, or is done
  pub at_chip_next : AtChip at (done + m) len size
  unfolding AtChip
  at_chip_next = ⊎_elim (λ ends. inr (inl ends)) (λ next. inr (inr (i + 1, (let e : i * size ≡ (at + done) / size * size = ap (λ (k : ℕ). k * size) i_is in omega (arith, next, e))))) p.goes_on

  -- the chip of the piece holds some of the range with it
  holds_here : HoldsSome size at (done + m) i
  holds_here =
      let start : i * size ≡ (at + done) / size * size = ap (λ (k : ℕ). k * size) i_is in
      record { byte = done; below = omega (arith, p.some); starts = omega (arith, start, p.place); ends = omega (arith, start, p.place, p.fits, p.some) }

  -- and none of the range before it
  none_yet : done < len → AtChip at done len size → HoldsSome size at done i → ⊥
  unfolding AtChip
  none_yet more here holds = ⊎_elim
      (λ none. absurd (omega (arith, none, holds.below)))
      (⊎_elim (λ ends. absurd (omega (arith, ends, more)))
      (λ at_it. (let starts_here = starts at_it.0 at_it.1 in absurd (omega (arith, starts_here, holds.starts, holds.below)))))
      here
    where
      starts : (k : ℕ) → at + done ≡ k * size → at + done ≤ i * size
      starts k is = ⊎_elim
          (λ less. (let up : i + 1 ≤ k = omega (arith, less) in
          let over = mul-le-mul_left size up in
          let start : i * size ≡ (at + done) / size * size = ap (λ (j : ℕ). j * size) i_is in
          absurd (omega (arith, over, is, start, p.place, p.fits, p.some))))
          (λ more_it. (let over = mul-le-mul_left size more_it in omega (arith, over, is)))
          (lt_or_le i k)

  -- what the pieces so far and this one leave together
  pub asks_next : {C : Type 0} {chip : ChipOf C} {old mid new : ChipRow C} {None S T : Type 0} (result : Result (Unit {0}) Failed) → done < len → AtChip at done len size
      → Asks chip (HoldsSome size at done) old mid (Ok tt) None → Asks chip (λ place. place ≡ i) mid new result S → (S → T) → Asks chip (HoldsSome size at (done + m)) old new result T
  asks_next result more here first call goes = asks_then result first call
      (λ place holds. holds_more size at done (done + m) place (omega arith) holds)
      (λ place is. subst (λ (k : ℕ). HoldsSome size at (done + m) k × (HoldsSome size at done k → ⊥)) (sym is) (holds_here, none_yet more here))
      goes

-- a change by one relation, and then by another
pub go_to : {E : Type 0} {nor : NorOf E} {old mid new : E} {R S W : List ℕ → List ℕ → Type 0} → Changes nor old mid R → Changes nor mid new S
    → (nor.tells old → (image : List ℕ) → R (nor.bytes old) image → W (nor.bytes old) image)
    → (nor.tells old → (image : List ℕ) → R (nor.bytes old) (nor.bytes mid) → S (nor.bytes mid) image → W (nor.bytes old) image) → Changes nor old new W
go_to first second wide step = record {
  cuts = andthen (widened first.cuts (λ image count here. (here.0, λ tells. wide tells image (here.1 tells)))) (widened second.cuts (λ image count here. (here.0 ∙ ap length first.said, λ tells. step tells image (first.now tells) (here.1 (first.cuts.told tells)))));
  said = second.said ∙ first.said;
  now = λ tells. step tells _ (first.now tells) (second.now (first.cuts.told tells));
}

-- an erase unit of a row, and its place in its chip
pub record UnitPlace (count chip_size unit unit_ix : ℕ) : Type 0 where
  pub inside : unit_ix / (chip_size / unit) < count
  pub start : unit_ix / (chip_size / unit) * chip_size + unit_ix % (chip_size / unit) * unit ≡ unit_ix * unit
  pub ends : unit_ix % (chip_size / unit) * unit + unit ≤ chip_size

-- each erase unit has one
pub unit_place : (count chip_size unit unit_ix : ℕ) → 0 < unit → chip_size % unit ≡ 0 → unit_ix < count * chip_size / unit → 0 < chip_size → UnitPlace count chip_size unit unit_ix
unit_place count chip_size unit unit_ix some whole below some_bytes =
    let q : ℕ = chip_size / unit in
    let i : ℕ = unit_ix / q in
    let r : ℕ = unit_ix % q in
    let chips : q * unit ≡ chip_size = omega (arith, div-add-mod' chip_size unit, whole) in
    let some_units : 0 < q = ⊎_elim (λ more. more) (λ none. (let zero_units : q * unit ≡ 0 * unit = ap (λ (k : ℕ). k * unit) (omega (arith, none)) in absurd (omega (arith, zero_units, chips, some_bytes)))) (lt_or_le 0 q) in
    let rest : r < q = mod-lt unit_ix some_units in
    let units : i * q + r ≡ unit_ix = div-add-mod' unit_ix q in
    let all = div-add-mod' (count * chip_size) unit in
    let next : unit_ix + 1 ≤ count * chip_size / unit = omega (arith, below) in
    let over = mul-le-mul_left unit next in
    let row : count * chip_size ≡ count * (q * unit) = ap (λ (k : ℕ). count * k) (sym chips) in
    let here : i * chip_size ≡ i * (q * unit) = ap (λ (k : ℕ). i * k) (sym chips) in
    let scaled : unit_ix * unit ≡ (i * q + r) * unit = ap (λ (k : ℕ). k * unit) (sym units) in
    record {
      inside = ⊎_elim (λ low. low) (λ high. (let past = mul-le-mul_left (q * unit) high in absurd (omega (arith, past, over, all, row, scaled, some)))) (lt_or_le i count);
      start = omega (arith, here, scaled);
      ends = unit_within chip_size unit r some whole rest;
    }

-- the chip of that place holds some of the unit
pub unit_held : (count chip_size unit unit_ix : ℕ) → 0 < unit → UnitPlace count chip_size unit unit_ix → HoldsSome chip_size (unit_ix * unit) unit (unit_ix / (chip_size / unit))
unit_held count chip_size unit unit_ix some p = record { byte = 0; below = some; starts = omega (arith, p.start); ends = omega (arith, p.start, p.ends, some) }
