use Rattle.std.proofs.Common.{◌≡◌, ◌*◌, ◌/◌, ◌<◌, ◌≤◌, ◌∙◌, length, arith}
use Rattle.page_put.proofs.Freshening.{erased_all}
use Rattle.vol_mount.proofs.Blanks.{unit_more}
use Rattle.vol_mount.proofs.Units.{unit_inside}
use Rattle.vol_mount.proofs.Inside.{inside_then, inside_unit}
use Rattle.vol_mount.proofs.formatting.erase_block.Goals as goal

pub erase-requires-clause-inside : goal.erase-requires-clause-inside
erase-requires-clause-inside g c =
    let unit : g.N.NorState.unit c.loop-i.nor ≡ c.args.g.now.phys = c.loop-i.invariant.changes.cuts.unit ∙ c.requires.unit in
    let fits : c.args.g.now.blocks * c.args.g.now.block ≤ g.N.NorState.size c.loop-i.nor = rw c.loop-i.invariant.changes.cuts.size c.requires.volume in
    let i : c.loop-i.i < c.args.g.now.block / c.args.g.now.phys = rw (← c.block.ensures, ← c.phys.ensures) c.loop-i-test.true in
    rw (unit, c.block.ensures, c.phys.ensures) (unit_inside c.args.g.now c.args.block c.loop-i.i (g.N.NorState.size c.loop-i.nor) c.requires.block i fits)

pub loop-i-preserved : goal.loop-i-preserved
loop-i-preserved g c =
    let was = c.loop-i.invariant in
    let volume = c.args.g.now in
    let step = c.in_ok-erase.ensures in
    record {
      changes = inside_then _ was.changes
          (inside_unit volume c.args.block c.loop-i.i _ _ c.erase.result c.requires.block (omega (arith, was.units, c.loop-i-test.true)) (cc) (was.changes.cuts.unit ∙ c.requires.unit)
          (λ tells. omega (arith, g.met.N.Nor.sized c.loop-i.nor tells, was.changes.cuts.size, c.requires.volume)) c.erase.ensures.done c.erase.ensures.half step.changes);
      units = was.units;
      mark = was.mark;
      few = omega (arith, was.few, step.writes.writes);
      below = omega (arith, c.loop-i-test.true);
      done = λ tells.
          let unit : g.N.NorState.unit c.loop-i.nor ≡ volume.phys = was.changes.cuts.unit ∙ c.requires.unit in
          let fits : volume.blocks * volume.block ≤ length (g.N.NorState.bytes c.args.nor.now) = omega (arith, g.met.N.Nor.sized c.args.nor.now tells, c.requires.volume) in
          unit_more volume c.args.block c.loop-i.i _ (g.N.NorState.unit c.loop-i.nor) (g.N.NorState.bytes c.args.nor.now) (g.N.NorState.bytes c.loop-i.nor) (g.N.NorState.bytes c.erase.new.self)
          c.requires.block (omega (arith, was.units, c.loop-i-test.true)) (cc) unit fits (was.done tells) (step.done (was.changes.cuts.told tells));
    }

pub returns-clause-done : goal.returns-clause-done
returns-clause-done g c = λ tells.
    let was = c.loop-i.invariant in
    erased_all c.args.g.now c.args.block c.loop-i.i (g.N.NorState.bytes c.args.nor.now) (g.N.NorState.bytes c.loop-i.nor) (omega (arith, was.units, c.loop-i-test.false)) (was.done tells)

pub returns-in_err-erase-clause-changes : goal.returns-in_err-erase-clause-changes
returns-in_err-erase-clause-changes g c =
    let was = c.loop-i.invariant in
    inside_then _ was.changes
    (inside_unit c.args.g.now c.args.block c.loop-i.i _ _ c.erase.result c.requires.block (omega (arith, was.units, c.loop-i-test.true)) (cc) (was.changes.cuts.unit ∙ c.requires.unit)
    (λ tells. omega (arith, g.met.N.Nor.sized c.loop-i.nor tells, was.changes.cuts.size, c.requires.volume)) c.erase.ensures.done c.erase.ensures.half c.erase.ensures.changes)

pub returns-in_err-erase-clause-few : goal.returns-in_err-erase-clause-few
returns-in_err-erase-clause-few g c = omega (arith, c.loop-i.invariant.few, c.erase.ensures.writes.writes, c.loop-i.invariant.units, c.loop-i-test.true)

pub returns-clause-few : goal.returns-clause-few
returns-clause-few g c = omega (arith, c.loop-i.invariant.few, c.loop-i.invariant.units, c.loop-i.invariant.below)
