use Rattle.std.proofs.Common.{◌≡◌, length, map}
use Rattle.std.specs.Prelude.{slice_get, string_bytes}
use Rattle.front_words.specs.Options.{rank}
use Rattle.front_words.specs.Tokens.{parts, rest_parts, texts}
use Rattle.front_words.proofs.giving.first_given.Given as goal

abbrev pub invariant-loop-token : goal.invariant-loop-token
invariant-loop-token l =
    slice_get (texts (rank l.fn.slot) (rest_parts l.is_ended (map string_bytes l.rest))) 0 ≡ slice_get (texts (rank l.fn.slot) (parts (map string_bytes l.fn.words))) 0

abbrev pub decreases-loop-token : goal.decreases-loop-token
decreases-loop-token l = length l.rest
