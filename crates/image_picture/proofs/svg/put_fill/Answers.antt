use Rattle.std.proofs.Common.{ℕ, ◌++◌, ◌%◌, codes, ap}
use Rattle.std.specs.Fmt.{decimal}
use Rattle.call_script.proofs.Putting.{puts_more, puts_same}
use Rattle.image_picture.specs.Signs.{hue_of}
use Rattle.image_picture.proofs.svg.put_fill.Goals as goal

pub returns-in-Live-clause-put : goal.returns-in-Live-clause-put
returns-in-Live-clause-put c =
    rw c.in-Live.is (puts_more _ _ _ _ _ _ _ _
    (puts_same _ _ _ (codes " fill='hsl(" ++ decimal (hue_of (c.in-Live.head.id % 0x8000))) _ _ (ap (λ (x : ℕ). codes " fill='hsl(" ++ decimal x) c.hue.ensures) c.put_count-at.ensures.put)
    c.put.ensures)
