use Rattle.std.proofs.Common.{◌≡◌, ℕ, ◌+◌, ◌-◌, ◌*◌, ◌/◌, ◌%◌, ◌<◌, ◌++◌, min, List, length, take, drop, ◌∙◌, refl, sym, ap, arith, rules}
use Rattle.std.specs.List.{slice_range}
use Rattle.std.proofs.lemmas.List.{take_all, length-take, length-drop, length-append}
use Rattle.std.proofs.lemmas.Slice.{take-put_mid}
use Rattle.nor_core.proofs.Cuts.{reads_none, reads_then}
use Rattle.chip_row.specs.declared.numbers.Numbers.{Numbers}
use Rattle.chip_row.specs.Asks.{Unfit}
use Rattle.chip_row.specs.contracts.row.ChipRowNorState.TheImpl.{ghosts}
use Rattle.chip_row.proofs.Parts.{slice_join}
use Rattle.chip_row.proofs.Pieces.{piece_of, at_start, at_chip_next, holds_more, asks_none, asks_ok, asks_err, asks_wider, asks_next, no_ok}
use Rattle.chip_row.proofs.row.ChipRow.read_all.Goals as goal

pub loop-done-init : goal.loop-done-init
loop-done-init g c =
    let nor = (ghosts g.row.C g.C.Chip g.C.Chip-dict g.C.ChipState g.C.ChipState-dict g.C.Destruct-dict) in
    let was = c.args.self.now in
    record {
      only_reads = reads_none was;
      size = refl;
      read = λ tells. (let e : c.args.at + 0 - c.args.at ≡ 0 = omega arith in sym (ap (λ (k : ℕ). take k (drop c.args.at (nor.bytes was))) e));
      within = omega arith;
      at_chip = at_start c.args.at (length c.args.into.now) was.numbers.chip_size;
      asks = asks_none was;
      reads = refl;
    }

pub loop-done-preserved : goal.loop-done-preserved
loop-done-preserved g c =
    let nor = (ghosts g.row.C g.C.Chip g.C.Chip-dict g.C.ChipState g.C.ChipState-dict g.C.Destruct-dict) in
    let was = c.args.self.now in
    let mid = c.loop-done.self in
    let inv = c.loop-done.invariant in
    let at = c.args.at in
    let done = c.loop-done.done in
    let m = c.min-here.result in
    let into = c.args.into.now in
    let size = was.numbers.chip_size in
    let i : ℕ = (at + done) / size in
    let r : ℕ = (at + done) % size in
    let more : done < length into = omega (arith, c.loop-done-test.true, inv.size) in
    let below : r < size = search rules in
    let piece = piece_of at done (length into) size m was.numbers.some_bytes below more (c.min-here.ensures ∙ ap (λ (k : ℕ). min (size - r) (k - done)) inv.size) in
    let mid_size : mid.numbers.chip_size ≡ size = ap (λ (k : Numbers). k.chip_size) inv.asks.numbers in
    let e : i * mid.numbers.chip_size + r ≡ at + done = ap (λ (k : ℕ). i * k + r) mid_size ∙ piece.place in
    let f : done + m - done ≡ m = omega arith in
    let call = c.in_ok-read_in.ensures in
    let ys = c.read_in.new.into in
    let old = c.loop-done.into in
    let long : length ys ≡ m = omega (arith, call.sized, length-take (done + m - done) (drop done old), length-drop done old, inv.size, piece.within, f) in
    record {
      only_reads = reads_then inv.only_reads call.only_reads;
      size = omega (arith, length-append (take done old) (ys ++ drop (done + m - done) (drop done old)), length-append ys (drop (done + m - done) (drop done old)), length-drop (done + m - done) (drop done old), length-drop done old, length-take done old, long, f, inv.size, piece.within);
      read = λ tells. (
          let read : ys ≡ slice_range (nor.bytes mid) (i * mid.numbers.chip_size + r) (i * mid.numbers.chip_size + r + length (take (done + m - done) (drop done old))) = call.read (inv.only_reads.told tells) in
          take-put_mid done (done + m - done) old ys (done + m) (omega (arith, long)) (omega (arith, inv.size, piece.within))
          ∙ ap (λ (l : List ℕ). l ++ ys) (inv.read tells)
          ∙ ap (λ (l : List ℕ). slice_range (nor.bytes was) at (at + done) ++ l) (read
          ∙ ap (λ (l : List ℕ). slice_range l (i * mid.numbers.chip_size + r) (i * mid.numbers.chip_size + r + length (take (done + m - done) (drop done old)))) inv.only_reads.bytes
          ∙ ap (λ (k : ℕ). slice_range (nor.bytes was) (i * mid.numbers.chip_size + r) (i * mid.numbers.chip_size + r + k)) (sym call.sized ∙ long)
          ∙ ap (λ (k : ℕ). slice_range (nor.bytes was) k (k + m)) e)
          ∙ slice_join (nor.bytes was) at done m);
      within = piece.within;
      at_chip = at_chip_next size at done (length into) m i refl piece;
      asks = asks_ok (asks_next size at done (length into) m i refl piece _ more inv.at_chip inv.asks call.asks (λ other. other));
      reads = call.reads ∙ inv.reads;
    }

pub returns-in_err-read_in : goal.returns-in_err-read_in
returns-in_err-read_in g c =
    let was = c.args.self.now in
    let inv = c.loop-done.invariant in
    let at = c.args.at in
    let done = c.loop-done.done in
    let m = c.min-here.result in
    let into = c.args.into.now in
    let size = was.numbers.chip_size in
    let i : ℕ = (at + done) / size in
    let r : ℕ = (at + done) % size in
    let more : done < length into = omega (arith, c.loop-done-test.true, inv.size) in
    let below : r < size = search rules in
    let piece = piece_of at done (length into) size m was.numbers.some_bytes below more (c.min-here.ensures ∙ ap (λ (k : ℕ). min (size - r) (k - done)) inv.size) in
    let goes : Unfit g.C.ChipState c.loop-done.self → Unfit g.C.ChipState was = λ unfit fit. unfit (inv.asks.sound fit) in
    let all = asks_next size at done (length into) m i refl piece _ more inv.at_chip inv.asks c.in_err-read_in.ensures.asks goes in
    let wide = asks_wider _ (λ place holds. holds_more size at (done + m) (length into) place piece.within holds) (λ unfit. unfit) all in
    record {
      read = λ tells. no_ok _ c.from_residual.result c.from_residual.ensures.0;
      sized = search rules;
      only_reads = reads_then inv.only_reads c.read_in.ensures.only_reads;
      reads = c.read_in.ensures.reads ∙ inv.reads;
      asks = asks_err c.from_residual.result c.from_residual.ensures.0 wide;
    }

pub returns : goal.returns
returns g c =
    let nor = (ghosts g.row.C g.C.Chip g.C.Chip-dict g.C.ChipState g.C.ChipState-dict g.C.Destruct-dict) in
    let inv = c.loop-done.invariant in
    let done = c.loop-done.done in
    let all : done ≡ length c.args.into.now = omega (arith, c.loop-done-test.false, inv.size, inv.within) in
    record {
      read = λ tells. sym (take_all done c.loop-done.into (omega (arith, c.loop-done-test.false))) ∙ inv.read tells ∙ ap (λ (k : ℕ). slice_range (nor.bytes c.args.self.now) c.args.at (c.args.at + k)) all;
      sized = inv.size;
      only_reads = inv.only_reads;
      reads = inv.reads;
      asks = asks_ok (asks_wider _ (λ place holds. holds_more c.args.self.now.numbers.chip_size c.args.at c.loop-done.done (length c.args.into.now) place inv.within holds) (λ other. other) inv.asks);
    }
