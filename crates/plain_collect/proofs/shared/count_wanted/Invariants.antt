-- Those so far, and those to come.
use Rattle.std.proofs.Common.{ℕ, ◌+◌, ◌*◌, length}
use Rattle.std.specs.Prelude.{filter}
use Rattle.std.specs.List.{range_with_len}
use Rattle.geometry.specs.Numbers.{per_block, lookups, entries}
use Rattle.plain_image.specs.Tallied.{Tallies}
use Rattle.plain_collect.specs.Wanted.{is_wanted_of}
use Rattle.plain_collect.proofs.shared.count_wanted.Given as goal

abbrev pub invariant-loop-p : goal.invariant-loop-p
invariant-loop-p l =
    let test = λ (j : ℕ). is_wanted_of l.g l.image l.index j in
    let first = l.block * per_block l.g + lookups l.g in
    Tallies test first l.count l.p l.p-end (length (filter test (range_with_len first (entries l.g))))
