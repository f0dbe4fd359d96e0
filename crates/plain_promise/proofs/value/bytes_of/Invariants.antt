-- The bytes are those of the names from here on.
use Rattle.std.proofs.Common.{◌≡◌, map, drop}
use Rattle.plain_table.specs.Seen.{file}
use Rattle.promise_model.specs.Promises.{bytes_of}
use Rattle.plain_promise.specs.Seen.{text_seen}
use Rattle.plain_promise.proofs.value.bytes_of.Given as goal

abbrev pub invariant-loop-name : goal.invariant-loop-name
invariant-loop-name l = bytes_of (map text_seen (drop l.name-index l.names)) (map file l.files) ≡ bytes_of (map text_seen l.names) (map file l.files)
