use Rattle.std.proofs.Common.{◌≡◌, ℕ, ◌+◌, ◌-◌, ◌*◌, ◌/◌, ◌%◌, ◌<◌, List, length, take, drop, inl, inr, ⊎_elim, ◌∙◌, refl, sym, ap, subst, arith, rules}
use Rattle.std.proofs.lemmas.List.{take_all, length-take}
use Rattle.nor_core.specs.Device.{Changes}
use Rattle.nor_core.specs.Flash.{programmed, HalfProgrammed}
use Rattle.nor_core.proofs.Cuts.{unchanged}
use Rattle.nor_core.proofs.Programs.{half_none}
use Rattle.chip_row.specs.declared.numbers.Numbers.{Numbers}
use Rattle.chip_row.specs.Asks.{Stuck}
use Rattle.chip_row.specs.contracts.row.ChipRowNorState.TheImpl.{ghosts}
use Rattle.chip_row.proofs.Parts.{half_on, half_wider, half_all, programmed_on, programmed_nothing, take_join}
use Rattle.chip_row.proofs.Pieces.{piece_of, at_start, at_chip_next, holds_more, asks_none, asks_ok, asks_err, asks_wider, asks_next, go_to}
use Rattle.chip_row.proofs.row.ChipRow.program_all.Goals as goal

pub loop-done-init : goal.loop-done-init
loop-done-init g c =
    let nor = (ghosts g.row.C g.C.Chip g.C.Chip-dict g.C.ChipState g.C.ChipState-dict g.C.Destruct-dict) in
    let was = c.args.self.now in
    record {
      changes = unchanged was _ (λ tells. half_none _ _ _);
      bytes = λ tells. sym (programmed_nothing (nor.bytes was) c.args.at);
      within = omega arith;
      at_chip = at_start c.args.at (length c.args.from.now) was.numbers.chip_size;
      asks = asks_none was;
      reads = refl;
      writes = refl;
    }

pub loop-done-preserved : goal.loop-done-preserved
loop-done-preserved g c =
    let nor = (ghosts g.row.C g.C.Chip g.C.Chip-dict g.C.ChipState g.C.ChipState-dict g.C.Destruct-dict) in
    let was = c.args.self.now in
    let mid = c.loop-done.self in
    let inv = c.loop-done.invariant in
    let at = c.args.at in
    let done = c.loop-done.done in
    let m = c.min-here.result in
    let from = c.args.from.now in
    let size = was.numbers.chip_size in
    let i : ℕ = (at + done) / size in
    let r : ℕ = (at + done) % size in
    let more : done < length from = c.loop-done-test.true in
    let below : r < size = search rules in
    let piece = piece_of at done (length from) size m was.numbers.some_bytes below more c.min-here.ensures in
    let mid_size : mid.numbers.chip_size ≡ size = ap (λ (k : Numbers). k.chip_size) inv.asks.numbers in
    let e : i * mid.numbers.chip_size + r ≡ at + done = ap (λ (k : ℕ). i * k + r) mid_size ∙ piece.place in
    let f : done + m - done ≡ m = omega arith in
    let call = c.in_ok-program_in.ensures in
    let long : length (take done from) ≡ done = omega (arith, length-take done from, piece.within) in
    record {
      changes = go_to inv.changes call.changes
          (λ tells image half. half_wider at done m from _ image piece.within half)
          (λ tells image first second. (half_on at done m from _ (nor.bytes mid) image piece.within first (subst (λ (k : ℕ). HalfProgrammed k (take m (drop done from)) (nor.bytes mid) image) e (subst (λ (k : ℕ). HalfProgrammed (i * mid.numbers.chip_size + r) (take k (drop done from)) (nor.bytes mid) image) f second))));
      bytes = λ tells.
          call.done (inv.changes.cuts.told tells)
          ∙ ap (λ (l : List ℕ). programmed l (i * mid.numbers.chip_size + r) (take (done + m - done) (drop done from))) (inv.bytes tells)
          ∙ ap (λ (k : ℕ). programmed (programmed (nor.bytes was) at (take done from)) k (take (done + m - done) (drop done from))) (e ∙ ap (λ (k : ℕ). at + k) (sym long))
          ∙ ap (λ (k : ℕ). programmed (programmed (nor.bytes was) at (take done from)) (at + length (take done from)) (take k (drop done from))) f
          ∙ programmed_on (nor.bytes was) (take done from) (take m (drop done from)) at
          ∙ ap (λ (l : List ℕ). programmed (nor.bytes was) at l) (take_join from done m);
      within = piece.within;
      at_chip = at_chip_next size at done (length from) m i refl piece;
      asks = asks_ok (asks_next size at done (length from) m i refl piece _ more inv.at_chip inv.asks call.asks (λ other. other));
      reads = call.reads ∙ inv.reads;
      writes = call.writes ∙ inv.writes;
    }

pub returns-in_err-program_in : goal.returns-in_err-program_in
returns-in_err-program_in g c =
    let nor = (ghosts g.row.C g.C.Chip g.C.Chip-dict g.C.ChipState g.C.ChipState-dict g.C.Destruct-dict) in
    let was = c.args.self.now in
    let mid = c.loop-done.self in
    let inv = c.loop-done.invariant in
    let at = c.args.at in
    let done = c.loop-done.done in
    let m = c.min-here.result in
    let from = c.args.from.now in
    let size = was.numbers.chip_size in
    let i : ℕ = (at + done) / size in
    let r : ℕ = (at + done) % size in
    let more : done < length from = c.loop-done-test.true in
    let below : r < size = search rules in
    let piece = piece_of at done (length from) size m was.numbers.some_bytes below more c.min-here.ensures in
    let mid_size : mid.numbers.chip_size ≡ size = ap (λ (k : Numbers). k.chip_size) inv.asks.numbers in
    let e : i * mid.numbers.chip_size + r ≡ at + done = ap (λ (k : ℕ). i * k + r) mid_size ∙ piece.place in
    let f : done + m - done ≡ m = omega arith in
    let call = c.program_in.ensures in
    let goes : Stuck g.C.ChipState mid c.program_in.new.self → Stuck g.C.ChipState was c.program_in.new.self = λ stuck. ⊎_elim (λ last. inl last) (λ unfit. inr (λ fit. unfit (inv.asks.sound fit))) stuck in
    let all = asks_next size at done (length from) m i refl piece _ more inv.at_chip inv.asks c.in_err-program_in.ensures.asks goes in
    let wide = asks_wider _ (λ place holds. holds_more size at (done + m) (length from) place piece.within holds) (λ stuck. stuck) all in
    record {
      done = search rules;
      changes = go_to inv.changes call.changes
          (λ tells image half. half_all at done from _ image (omega (arith, more)) half)
          (λ tells image first second. half_all at (done + m) from _ image piece.within (half_on at done m from _ (nor.bytes mid) image piece.within first (subst (λ (k : ℕ). HalfProgrammed k (take m (drop done from)) (nor.bytes mid) image) e (subst (λ (k : ℕ). HalfProgrammed (i * mid.numbers.chip_size + r) (take k (drop done from)) (nor.bytes mid) image) f second))));
      reads = call.reads ∙ inv.reads;
      writes = call.writes ∙ inv.writes;
      asks = asks_err c.from_residual.result c.from_residual.ensures.0 wide;
    }

pub returns : goal.returns
returns g c =
    let nor = (ghosts g.row.C g.C.Chip g.C.Chip-dict g.C.ChipState g.C.ChipState-dict g.C.Destruct-dict) in
    let was = c.args.self.now in
    let inv = c.loop-done.invariant in
    let all = take_all c.loop-done.done c.args.from.now (omega (arith, c.loop-done-test.false)) in
    record {
      done = λ tells. inv.bytes tells ∙ ap (λ (l : List ℕ). programmed (nor.bytes was) c.args.at l) all;
      changes = subst (λ (l : List ℕ). Changes nor was c.loop-done.self (HalfProgrammed c.args.at l)) all inv.changes;
      reads = inv.reads;
      writes = inv.writes;
      asks = asks_ok (asks_wider _ (λ place holds. holds_more c.args.self.now.numbers.chip_size c.args.at c.loop-done.done (length c.args.from.now) place inv.within holds) (λ other. other) inv.asks);
    }
