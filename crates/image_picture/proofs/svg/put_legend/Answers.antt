use Rattle.std.proofs.Common.{ℕ, ◌+◌, ◌++◌, codes, ap}
use Rattle.std.specs.Fmt.{decimal}
use Rattle.call_script.proofs.Putting.{puts_more, puts_same}
use Rattle.image_picture.specs.Pieces.{row_top}
use Rattle.image_picture.specs.Picture.{legend_of}
use Rattle.image_picture.proofs.svg.put_legend.Goals as goal

pub returns-clause-put : goal.returns-clause-put
unfolding legend_of
returns-clause-put c =
    puts_more _ _ _ _ _ _ _ _ (puts_more _ _ _ _ _ _ _ _ (puts_more _ _ _ _ _ _ _ _ (puts_more _ _ _ _ _ _ _ _
    (puts_same _ _ _ (codes "<text y='" ++ decimal (row_top c.args.g.now.blocks + 16)) _ _ (ap (λ (x : ℕ). codes "<text y='" ++ decimal x) c.bottom.ensures) c.put_count-at.ensures.put)
    c.put-at.ensures) c.put-at-2.ensures)
    (puts_same _ _ _ (decimal (row_top c.args.g.now.blocks + 30)) _ _ (ap (λ (x : ℕ). decimal x) c.bottom-2.ensures) c.put_number-at.ensures.put)) c.put.ensures
