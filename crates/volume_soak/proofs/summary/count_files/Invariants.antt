-- The record of the next file was told, and those before it were counted.
use Rattle.std.proofs.Common.{◌-◌, ◌*◌, ◌^◌, ◌<◌, ◌≤◌}
use Rattle.std.specs.Option.{IfSome}
use Rattle.volume_run.specs.Ready.{IsMoved}
use Rattle.volume_soak.proofs.Walking.{IsCountingFrom}
use Rattle.volume_soak.proofs.summary.count_files.Given as goal

abbrev pub invariant-loop-files : goal.invariant-loop-files
invariant-loop-files g l = record {
  few : l.files ≤ 65536;
  small : l.bytes ≤ l.files * 4294967295;
  bounds : IfSome l.found (λ stat. (stat.id < 2 ^ 16) × (stat.size < 2 ^ 32));
  moved : IsMoved l.fn.volume l.volume;
  counting : IsCountingFrom l.fn.volume l.volume l.found l.files l.bytes;
}

abbrev pub decreases-loop-files : goal.decreases-loop-files
decreases-loop-files g l = 65536 - l.files
