-- What is found from here on is found of all.
use Rattle.std.proofs.Common.{ℕ, map, drop, Option}
use Rattle.plain_table.specs.Seen.{file}
use Rattle.promise_model.specs.Verdicts.{Finds}
use Rattle.plain_promise.specs.Seen.{promise}
use Rattle.plain_promise.proofs.promise.first_broken.Given as goal

abbrev pub invariant-loop-p : goal.invariant-loop-p
invariant-loop-p l = (o : Option ℕ) → Finds (map promise (drop l.p-index l.promises)) (map file l.files) o → Finds (map promise l.promises) (map file l.files) o
