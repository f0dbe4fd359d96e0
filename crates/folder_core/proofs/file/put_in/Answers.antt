use Rattle.std.proofs.Common.{ℕ, List, [], set, inr, sym, ap, ◌∙◌}
use Rattle.std.proofs.lemmas.List.{append-nil}
use Rattle.folder_core.specs.Files.{entries_of, name_at, bytes_at, bytes_before}
use Rattle.folder_core.specs.Mem.{files_of}
use Rattle.folder_core.proofs.Putting.{puts_at, on_ok, on_err}
use Rattle.folder_core.proofs.file.put_in.Goals as goal

pub returns-in-Some-clause-done : goal.returns-in-Some-clause-done
returns-in-Some-clause-done c = on_ok c.append_to.result (λ done. puts_at c.args.first c.args.name.now c.args.piece.now c.in-Some.i c.args.files.now.items _ c.in-Some.ensures.found done) c.append_to.ensures.done

pub returns-in-Some-clause-half : goal.returns-in-Some-clause-half
returns-in-Some-clause-half c = on_err c.append_to.result (λ half.
    (let was = files_of c.args.files.now.items in
    let kept = bytes_before c.args.first (bytes_at was c.in-Some.i) in
    inr (
      0,
      puts_at c.args.first c.args.name.now [] c.in-Some.i c.args.files.now.items _ c.in-Some.ensures.found
          (half ∙ ap (λ (l : List ℕ). set was c.in-Some.i (record { name = name_at (entries_of was) c.in-Some.i; bytes = l })) (sym (append-nil kept))),
    ))) c.append_to.ensures.half
