-- The pages of the files so far.
use Rattle.std.proofs.Common.{◌≡◌, ◌<◌, ◌^◌, map, take}
use Rattle.table_model.specs.Room.{data_count}
use Rattle.plain_table.specs.Seen.{file}
use Rattle.plain_table.proofs.counts.data_count.Given as goal

abbrev pub invariant-loop-f : goal.invariant-loop-f
invariant-loop-f l = (l.total ≡ data_count l.g (map file (take l.f-index l.files))) × (l.total < 2 ^ 32)
