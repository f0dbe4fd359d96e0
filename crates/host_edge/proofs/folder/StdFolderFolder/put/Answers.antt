use Rattle.std.proofs.Common.{rules, refl}
use Rattle.folder_core.proofs.Named.{named_in}
use Rattle.host_edge.proofs.Entries.{half_of}
use Rattle.host_edge.proofs.folder.StdFolderFolder.put.Goals as goal

pub returns-in-Ok-clause-there : goal.returns-in-Ok-clause-there
returns-in-Ok-clause-there g c = named_in _ _ _ _ _ c.in-Ok.ensures.done

pub returns-in-Err-clause-half : goal.returns-in-Err-clause-half
returns-in-Err-clause-half g c = half_of _ c.args.first c.args.name.now c.args.piece.now _ _ (λ tells. tells) (λ tells. tells) (search rules) refl c.in-Err.ensures.half
