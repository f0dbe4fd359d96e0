use Rattle.std.proofs.Common.{◌≡◌, ℕ, ◌*◌, ◌%◌, ◌∙◌, ap, length, rules}
use Rattle.nor_core.specs.Count.{Rose}
use Rattle.tool_parts.specs.Lent.{lengths_of}
use Rattle.trace_tool.proofs.Sizes.{whole_units}
use Rattle.trace_tool.proofs.Running.{fresh_board, rehearses}
use Rattle.trace_tool.proofs.rehearsing.rehearse.Goals as goal

pub new-requires-clause-whole : goal.new-requires-clause-whole
new-requires-clause-whole c =
    ap (λ (n : ℕ). n % c.phys.result) c.requires.size ∙ (ap (λ (n : ℕ). (c.args.g.now.blocks * c.args.g.now.block) % n) c.phys.ensures ∙ whole_units c.args.g.now)

pub returns : goal.returns
returns c =
    let made = c.in-Ok-new.ensures in
    let fresh = fresh_board c.in-Ok-new.board c.args.image.items made.bytes made.first made.said in
    let none : c.run_on-status.new.board.faults ≡ 0 = search rules in
    rehearses c.args.g.now (lengths_of c.args.bufs.now) c.args.image.items c.args.script.now c.in-Ok-new.board c.new-recorder.result c.run_on-status.new.board c.new-held.result c.run_on-status.new.script c.run_on-status.result
    fresh made.bytes (made.unit ∙ c.phys.ensures) made.moment c.new-recorder.ensures.board c.new-recorder.ensures.events c.new-recorder.ensures.faults (search rules) c.run_on-status.ensures.does c.run_on-status.ensures.board_fault c.run_on-status.ensures.script_fault none
