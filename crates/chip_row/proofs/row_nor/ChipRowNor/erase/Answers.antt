use Rattle.std.proofs.Common.{◌≡◌, ℕ, ◌*◌, ◌≤◌, OnOk, OnErr, sym, subst, arith, rules}
use Rattle.nor_core.specs.Flash.{erased, HalfErased}
use Rattle.nor_core.specs.Device.{Changes}
use Rattle.chip_row.specs.contracts.row.ChipRowNorState.TheImpl.{ghosts}
use Rattle.chip_row.specs.Chips.{InChipErase}
use Rattle.chip_row.specs.Asks.{HoldsSome}
use Rattle.chip_row.proofs.Pieces.{unit_place, unit_held, asks_wider}
use Rattle.chip_row.proofs.row_nor.ChipRowNor.erase.Goals as goal

pub erase_in-requires-clause-inside : goal.erase_in-requires-clause-inside
erase_in-requires-clause-inside g c =
    let nor = (ghosts g.row.C g.C.Chip g.C.Chip-dict g.C.ChipState g.C.ChipState-dict g.C.Destruct-dict) in
    let was = c.args.self.now in
    let row = was.numbers in
    let p = unit_place row.count row.chip_size row.unit c.args.unit_ix row.some_unit row.whole c.requires.inside row.some_bytes in
    p.inside

pub returns-clause-done : goal.returns-clause-done
returns-clause-done g c = λ tells. (
    let nor = (ghosts g.row.C g.C.Chip g.C.Chip-dict g.C.ChipState g.C.ChipState-dict g.C.Destruct-dict) in
    let was = c.args.self.now in
    let row = was.numbers in
    let p = unit_place row.count row.chip_size row.unit c.args.unit_ix row.some_unit row.whole c.requires.inside row.some_bytes in
    let new = c.erase_in.new.self in
    subst (λ (k : ℕ). OnOk c.erase_in.result (nor.bytes new ≡ erased (nor.bytes was) k row.unit)) p.start (c.erase_in.ensures.done tells).0)

pub returns-clause-half : goal.returns-clause-half
returns-clause-half g c = λ tells. (
    let nor = (ghosts g.row.C g.C.Chip g.C.Chip-dict g.C.ChipState g.C.ChipState-dict g.C.Destruct-dict) in
    let was = c.args.self.now in
    let row = was.numbers in
    let p = unit_place row.count row.chip_size row.unit c.args.unit_ix row.some_unit row.whole c.requires.inside row.some_bytes in
    let new = c.erase_in.new.self in
    subst (λ (k : ℕ). OnErr c.erase_in.result (HalfErased k row.unit c.args.mark (nor.bytes was) (nor.bytes new))) p.start (c.erase_in.ensures.done tells).1)

pub returns-clause-changes : goal.returns-clause-changes
returns-clause-changes g c =
    let nor = (ghosts g.row.C g.C.Chip g.C.Chip-dict g.C.ChipState g.C.ChipState-dict g.C.Destruct-dict) in
    let was = c.args.self.now in
    let row = was.numbers in
    let p = unit_place row.count row.chip_size row.unit c.args.unit_ix row.some_unit row.whole c.requires.inside row.some_bytes in
    let new = c.erase_in.new.self in
    let mid = record was { writes = c.saturating_add-self.result } in
    let done = subst (λ (k : ℕ). Changes nor mid new (λ old image. InChipErase k row.unit c.args.mark old (nor.bytes new) image)) p.start c.erase_in.ensures.changes in
    let more : was.writes ≤ c.saturating_add-self.result = search rules in
    record {
      cuts = record {
        size = done.cuts.size;
        unit = done.cuts.unit;
        lent = done.cuts.lent;
        told = done.cuts.told;
        told_before = done.cuts.told_before;
        moment = done.cuts.moment;
        faults = done.cuts.faults;
        reads = done.cuts.reads;
        writes = omega (arith, more, done.cuts.writes);
        cuts = done.cuts.cuts;
        kept = done.cuts.kept;
      };
      said = done.said;
      now = done.now;
    }

pub returns-clause-asks : goal.returns-clause-asks
returns-clause-asks g c =
    let was = c.args.self.now in
    let row = was.numbers in
    let unit_ix = c.args.unit_ix in
    let p = unit_place row.count row.chip_size row.unit unit_ix row.some_unit row.whole c.requires.inside row.some_bytes in
    let holds = unit_held row.count row.chip_size row.unit unit_ix row.some_unit p in
    let call = asks_wider c.erase_in.result (λ place is. subst (λ (k : ℕ). HoldsSome row.chip_size (unit_ix * row.unit) row.unit k) (sym is) holds) (λ stuck. stuck) c.erase_in.ensures.asks in
    record {
      numbers = call.numbers;
      others = call.others;
      sound = call.sound;
      no_fault = call.no_fault;
      one_fault = call.one_fault;
      no_fuse = call.no_fuse;
      blamed = call.blamed;
    }
