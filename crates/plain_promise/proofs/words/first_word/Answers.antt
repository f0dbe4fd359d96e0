use Rattle.std.proofs.Common.{arith, add-one}
use Rattle.std.proofs.lemmas.List.{take_rest}
use Rattle.call_script.proofs.Parting.{words_at, words_alone}
use Rattle.plain_promise.proofs.words.first_word.Goals as goal

pub returns-then-end-line-clause-word : goal.returns-then-end-line-clause-word
returns-then-end-line-clause-word c = rw (take_rest, add-one) (words_at _ _ c.if-end-line.true (c.first_space-end.ensures.found c.if-end-line.true) c.first_space-end.ensures.before)

pub returns-else-end-line-clause-word : goal.returns-else-end-line-clause-word
returns-else-end-line-clause-word c = words_alone _ (λ k b. c.first_space-end.ensures.before k (omega arith))
