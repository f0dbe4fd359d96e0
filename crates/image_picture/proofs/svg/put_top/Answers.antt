use Rattle.std.proofs.Common.{ℕ, ◌+◌, ◌*◌, ◌++◌, codes, ap}
use Rattle.std.specs.Fmt.{decimal}
use Rattle.geometry.specs.Numbers.{per_block}
use Rattle.call_script.proofs.Putting.{puts_more, puts_same}
use Rattle.image_picture.specs.Pieces.{row_top}
use Rattle.image_picture.specs.Picture.{top_of}
use Rattle.image_picture.proofs.svg.put_top.Goals as goal

pub returns-clause-put : goal.returns-clause-put
unfolding top_of
returns-clause-put c =
    puts_more _ _ _ _ _ _ _ _ (puts_more _ _ _ _ _ _ _ _ (puts_more _ _ _ _ _ _ _ _ (puts_more _ _ _ _ _ _ _ _ (puts_more _ _ _ _ _ _ _ _
    (puts_same _ _ _ (codes "<svg xmlns='http://www.w3.org/2000/svg' viewBox='0 0 " ++ decimal (12 * per_block c.args.g.now + 400)) _ _
    (ap (λ (x : ℕ). codes "<svg xmlns='http://www.w3.org/2000/svg' viewBox='0 0 " ++ decimal (12 * x + 400)) c.per_block.ensures.count) c.put_count-at.ensures.put)
    c.put-at.ensures)
    (puts_same _ _ _ (decimal (row_top c.args.g.now.blocks + 60)) _ _ (ap (λ (x : ℕ). decimal x) c.bottom.ensures) c.put_number-at.ensures.put))
    c.put-at-2.ensures) c.put-at-3.ensures) c.put.ensures
