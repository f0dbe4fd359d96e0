use Rattle.std.proofs.Common.{arith}
use Rattle.call_script.proofs.Parting.{some-words, behind}
use Rattle.call_script.proofs.words.words_of.Goals as goal

pub returns-in-Some-rest-3 : goal.returns-in-Some-rest-3
returns-in-Some-rest-3 c =
    rw (behind _ _ _ _ c.first_word.ensures c.in-Some.is)
    (rw (behind _ _ _ _ c.first_word-2.ensures c.in-Some-rest.is)
    (rw (behind _ _ _ _ c.first_word-3.ensures c.in-Some-rest-2.is)
    (rw (behind _ _ _ _ c.first_word-4.ensures c.in-Some-rest-3.is) (omega (arith, some-words c.in-Some-rest-3.field-0.now)))))
