-- The names that were read and those of the words that are left are those of all words.
use Rattle.std.proofs.Common.{◌≡◌, map}
use Rattle.call_script.specs.Lines.{words}
use Rattle.promise_model.specs.Lines.{names_of}
use Rattle.plain_promise.specs.Seen.{text_seen}
use Rattle.plain_promise.proofs.Naming.{names_left, rest_length}
use Rattle.plain_promise.proofs.sort.names_of.Given as goal

abbrev pub invariant-loop-rest : goal.invariant-loop-rest
invariant-loop-rest l = names_of (words l.text) ≡ names_left (map text_seen l.names.items) l.rest

abbrev pub decreases-loop-rest : goal.decreases-loop-rest
decreases-loop-rest l = rest_length l.rest
