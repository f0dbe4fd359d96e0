use Rattle.std.proofs.Common.{◌≡◌, length, map}
use Rattle.std.specs.Prelude.{slice_get, string_bytes}
use Rattle.front_words.specs.Tokens.{parts, rest_parts, places}
use Rattle.front_words.proofs.giving.place.Given as goal

abbrev pub invariant-loop-token : goal.invariant-loop-token
invariant-loop-token l = slice_get (places (rest_parts l.is_ended (map string_bytes l.rest))) l.left ≡ slice_get (places (parts (map string_bytes l.fn.words))) l.fn.i

abbrev pub decreases-loop-token : goal.decreases-loop-token
decreases-loop-token l = length l.rest
