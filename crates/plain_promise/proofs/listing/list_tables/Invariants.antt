-- The lines so far were listed.
use Rattle.std.proofs.Common.{◌-◌, length, map, replicate, None}
use Rattle.table_model.specs.Window.{settled_at}
use Rattle.plain_table.specs.Seen.{file}
use Rattle.plain_promise.proofs.Printing.{IsListed}
use Rattle.plain_promise.proofs.listing.list_tables.Given as goal

abbrev pub invariant-loop-words : goal.invariant-loop-words
invariant-loop-words l = IsListed l.fn.geometry (settled_at (record { table = map file l.files; slots = replicate l.slots None })) l.script l.at l.number l.moment l.text.items

abbrev pub decreases-loop-words : goal.decreases-loop-words
decreases-loop-words l = length l.script - l.at
