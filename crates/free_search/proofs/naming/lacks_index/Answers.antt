use Rattle.flash_view.proofs.Looking.{looks_none}
use Rattle.flash_view.proofs.Telling.{looked}
use Rattle.free_search.proofs.Scanning.{lacks_by_row, lacks_by_magic}
use Rattle.free_search.proofs.naming.lacks_index.Goals as goal

pub returns-in-Some-clause-looks : goal.returns-in-Some-clause-looks
returns-in-Some-clause-looks g c = looked (looks_none c.args.v.now) (λ tells. lacks_by_row c.args.v.now.geometry c.args.v.now.nor.now c.args.v.now.rows.now c.args.block c.in-Some.row c.in-Some.ensures.stands tells c.requires c.in-Some.ensures.row)

pub returns-clause-looks : goal.returns-clause-looks
returns-clause-looks g c = looked c.in_ok-has_magic.ensures.looks (λ tells. lacks_by_magic c.args.v.now.geometry (g.N.NorState.bytes c.args.v.now.nor.now) c.args.block c.in_ok-has_magic.field-0 (c.in_ok-has_magic.ensures.told tells))
