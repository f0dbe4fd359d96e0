-- The text so far, and what is to come.
use Rattle.std.proofs.Common.{◌≡◌, ◌++◌, ◌-◌, string_bytes}
use Rattle.std.specs.List.{flat_map, range_with_len}
use Rattle.plain_explain.specs.Report.{block_line}
use Rattle.plain_explain.proofs.report.push_blocks.Given as goal

abbrev pub invariant-loop-block : goal.invariant-loop-block
invariant-loop-block l = string_bytes l.text ++ flat_map (block_line l.g l.image) (range_with_len l.block (l.block-end - l.block)) ≡ string_bytes l.initial.text ++ flat_map (block_line l.g l.image) (range_with_len 0 l.g.blocks)
