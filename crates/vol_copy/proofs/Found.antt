-- What was told of a file, or that there is none.
use Rattle.std.proofs.Common.{◌≡◌, Option, Some, None, refl, sym}
use Rattle.std.specs.Option.{option_map}
use Rattle.std.proofs.lemmas.Option.{none-some, same_Some}
use Rattle.table_model.specs.declared.reply.Stat.{Stat}
use Rattle.table_model.specs.Table.{File}
use Rattle.table_model.specs.Files.{stat_of}

pub found_some : (o : Option File) (stat : Stat) → Some stat ≡ option_map stat_of o → (f : File) × (o ≡ Some f) × (stat ≡ stat_of f)
found_some None stat told = absurd (none-some stat (sym told))
found_some (Some f) stat told = (f, refl, same_Some stat (stat_of f) told)

pub found_none : (o : Option File) → None ≡ option_map stat_of o → o ≡ None
found_none None told = refl
found_none (Some f) told = absurd (none-some (stat_of f) told)
