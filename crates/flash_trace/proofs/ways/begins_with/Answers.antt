use Rattle.std.proofs.Common.{◌≡◌, true, false}
use Rattle.std.proofs.lemmas.Bool.Decides.{Decides-eqb}
use Rattle.std.proofs.lemmas.Slice.Eq.{starts_is}
use Rattle.flash_trace.proofs.ways.begins_with.Goals as goal

pub returns-clause-yes : goal.returns-clause-yes
returns-clause-yes c = (starts_is Decides-eqb c.args.said.now c.args.line.now _ c.starts_with.ensures.value).0

pub returns-clause-no : goal.returns-clause-no
returns-clause-no c = λ no more is. absurd (let yes' : _ ≡ true = (starts_is Decides-eqb c.args.said.now c.args.line.now _ c.starts_with.ensures.value).1 more is in let bad : false ≡ true = cc in cc)
