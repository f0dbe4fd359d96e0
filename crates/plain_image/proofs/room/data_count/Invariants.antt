-- The pages so far, and those of the files to come.
use Rattle.std.proofs.Common.{◌≡◌, ◌+◌, ◌*◌, ◌≤◌, length, drop}
use Rattle.std.specs.Prelude.{sum_by}
use Rattle.table_model.specs.Room.{data_pages}
use Rattle.plain_image.specs.declared.record.Record.{Record}
use Rattle.plain_image.proofs.room.data_count.Given as goal

abbrev pub invariant-loop-record : goal.invariant-loop-record
invariant-loop-record l =
    (l.total + sum_by (λ (r : Record). data_pages l.g (length r.bytes.items)) (drop l.record-index l.records) ≡ sum_by (λ (r : Record). data_pages l.g (length r.bytes.items)) l.records) × (l.total ≤ 4294967296 * l.record-index)
