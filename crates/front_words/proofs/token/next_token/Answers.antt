use Rattle.std.specs.Prelude.{string_bytes}
use Rattle.std.proofs.lemmas.List.{take_rest}
use Rattle.front_words.proofs.Parted.{rest_first}
use Rattle.front_words.proofs.token.next_token.Goals as goal

pub returns-in-len1-up-clause-token : goal.returns-in-len1-up-clause-token
returns-in-len1-up-clause-token c =
    rw (rest_first string_bytes c.args.is_ended c.as_bytes.result.now c.word-item.result c.args.words.now _ c.if-is_ended.false c.in-len1-up.len_at_least c.word-item.is (take_rest c.args.words.now 1) c.as_bytes.ensures.value)
    c.open_token.ensures.token
