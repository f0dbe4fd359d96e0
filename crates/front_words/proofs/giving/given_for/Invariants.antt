use Rattle.std.proofs.Common.{◌≡◌, length, map}
use Rattle.std.specs.Prelude.{string_bytes}
use Rattle.front_words.specs.Options.{rank}
use Rattle.front_words.specs.Tokens.{parts, rest_parts, texts, held, held_by, held_after}
use Rattle.front_words.proofs.giving.given_for.Given as goal

abbrev pub invariant-loop-token : goal.invariant-loop-token
invariant-loop-token l = held_after (held_by l.found) (texts (rank l.fn.slot) (rest_parts l.is_ended (map string_bytes l.rest))) ≡ held (texts (rank l.fn.slot) (parts (map string_bytes l.fn.words)))

abbrev pub decreases-loop-token : goal.decreases-loop-token
decreases-loop-token l = length l.rest
