-- What is found from here on is found of all.
use Rattle.std.proofs.Common.{map, drop, Option}
use Rattle.plain_table.specs.Seen.{files_of}
use Rattle.promise_model.specs.Verdicts.{Broken, FindsTable}
use Rattle.plain_promise.specs.Seen.{promise}
use Rattle.plain_promise.proofs.broken.broken_among.Given as goal

abbrev pub invariant-loop-files : goal.invariant-loop-files
invariant-loop-files l = (o : Option Broken) → FindsTable (map promise l.promises) l.line l.number (map files_of (drop l.files-index l.tables)) o → FindsTable (map promise l.promises) l.line l.step (map files_of l.tables) o
