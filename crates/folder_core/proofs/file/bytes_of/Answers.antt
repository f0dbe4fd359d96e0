use Rattle.std.proofs.Common.{◌∙◌, List, ℕ, length, sym, ap}
use Rattle.folder_core.specs.declared.file.MemFile.{MemFile}
use Rattle.folder_core.proofs.MemFiles.{size_is}
use Rattle.folder_core.proofs.file.bytes_of.Goals as goal

pub returns-clause-size : goal.returns-clause-size
returns-clause-size c = ap (λ (l : List ℕ). length l) c.deref.ensures.value ∙ ap (λ (f : MemFile). length f.bytes.items) c.index.ensures ∙ sym (size_is c.args.files.now.items c.args.i c.index.result.now c.requires)
