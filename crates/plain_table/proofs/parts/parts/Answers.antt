use Rattle.std.proofs.Common.{ℕ, ◌+◌, map, length, arith}
use Rattle.std.specs.Prelude.{◌==◌, ◌||◌, ◌%◌}
use Rattle.std.proofs.lemmas.Grind.{common_steps}
use Rattle.geometry.specs.Numbers.{body}
use Rattle.table_model.specs.Steps.{written_up_to}
use Rattle.plain_table.specs.Seen.{file, files_of}
use Rattle.plain_table.proofs.Stepping.{part_made, part_none}
use Rattle.plain_table.proofs.parts.parts.Goals as goal
use Rattle.plain_table.proofs.parts.parts.Goals.{then-is_part_end+in_ok-written_table+in_ok-push, else-is_part_end}

pub loop-i-preserved : goal.loop-i-preserved
loop-i-preserved c =
    let test = λ (e : ℕ). (e % body c.args.g.now == 0) || (e == length (file c.args.f.now).bytes) || (e == c.args.at + length c.args.bytes.now) in
    let table = written_up_to c.args.at c.args.bytes.now (file c.args.f.now) (map file c.args.files.now) in
    elim c.if-is_part_end.branch [
      | then-is_part_end+in_ok-written_table+in_ok-push w ↦ part_made files_of test table c.loop-i.steps.items _ w.in_ok-written_table.field-0 (c.args.at + 1) c.loop-i.i _ _ c.loop-i-test.true (grind (arith, common_steps)) (grind (arith, common_steps)) (grind (arith, common_steps)) c.loop-i.invariant
      | else-is_part_end w ↦ part_none files_of test table c.loop-i.steps.items _ (c.args.at + 1) c.loop-i.i _ _ c.loop-i-test.true (grind (arith, common_steps)) (grind (arith, common_steps)) c.loop-i.invariant
    ]
