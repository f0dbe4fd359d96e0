use Rattle.std.proofs.Common.{◌∙◌, sym, ap}
use Rattle.folder_core.specs.declared.file.MemFile.{MemFile}
use Rattle.folder_core.proofs.MemFiles.{name_is}
use Rattle.folder_core.proofs.file.name_of.Goals as goal

pub returns : goal.returns
returns c = c.deref.ensures.value ∙ ap (λ (f : MemFile). f.name.items) c.index.ensures ∙ sym (name_is c.args.files.now.items c.args.i c.index.result.now c.requires)
