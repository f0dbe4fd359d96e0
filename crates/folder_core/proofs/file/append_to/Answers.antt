use Rattle.std.proofs.Common.{ℕ, ◌++◌, List, set, ◌∙◌, sym, ap}
use Rattle.std.proofs.lemmas.List.{map-set}
use Rattle.folder_core.specs.declared.file.MemFile.{MemFile}
use Rattle.folder_core.specs.Files.{entries_of, name_at, bytes_before}
use Rattle.folder_core.specs.Mem.{file_of, files_of}
use Rattle.folder_core.proofs.MemFiles.{name_is, bytes_is}
use Rattle.folder_core.proofs.Putting.{on_ok, on_err}
use Rattle.folder_core.proofs.file.append_to.Goals as goal

pub returns-clause-done : goal.returns-clause-done
returns-clause-done c =
    let items = c.args.files.now.items in
    let i = c.args.i in
    let was = c.index_mut.result.now in
    let name = ap (λ (f : MemFile). f.name.items) c.index_mut.ensures.value ∙ sym (name_is items i was c.requires) in
    let bytes = ap (λ (f : MemFile). f.bytes.items) c.index_mut.ensures.value ∙ sym (bytes_is items i was c.requires) in
    on_ok c.append.result (λ done.
    map-set file_of items i (record { name = was.name; bytes = c.append.new.bytes })
    ∙ ap (λ (l : List ℕ). set (files_of items) i (record { name = l; bytes = c.append.new.bytes.items })) name
    ∙ ap (λ (l : List ℕ). set (files_of items) i (record { name = name_at (entries_of (files_of items)) i; bytes = l })) (done ∙ ap (λ (l : List ℕ). bytes_before c.args.first l ++ c.args.piece.now) bytes)) c.append.ensures.done

pub returns-clause-half : goal.returns-clause-half
returns-clause-half c =
    let items = c.args.files.now.items in
    let i = c.args.i in
    let was = c.index_mut.result.now in
    let name = ap (λ (f : MemFile). f.name.items) c.index_mut.ensures.value ∙ sym (name_is items i was c.requires) in
    let bytes = ap (λ (f : MemFile). f.bytes.items) c.index_mut.ensures.value ∙ sym (bytes_is items i was c.requires) in
    on_err c.append.result (λ half.
    map-set file_of items i (record { name = was.name; bytes = c.append.new.bytes })
    ∙ ap (λ (l : List ℕ). set (files_of items) i (record { name = l; bytes = c.append.new.bytes.items })) name
    ∙ ap (λ (l : List ℕ). set (files_of items) i (record { name = name_at (entries_of (files_of items)) i; bytes = l })) (half ∙ ap (λ (l : List ℕ). bytes_before c.args.first l) bytes)) c.append.ensures.half
