use Rattle.call_script.proofs.Putting.{puts_more, puts_same}
use Rattle.image_picture.specs.Signs.{word_of}
use Rattle.image_picture.specs.Pieces.{title_text}
use Rattle.image_picture.proofs.svg.put_title.Goals as goal

pub returns-clause-put : goal.returns-clause-put
unfolding title_text
returns-clause-put c =
    puts_more _ _ _ _ _ _ _ _ (puts_more _ _ _ _ _ _ _ _ (puts_more _ _ _ _ _ _ _ _ (puts_more _ _ _ _ _ _ _ _ c.put_count-at.ensures.put c.put-at.ensures)
    (puts_same _ _ _ (word_of c.args.sign) _ _ c.word.ensures c.put-at-2.ensures)) c.put_whose-at.ensures.put) c.put.ensures
