use Rattle.std.proofs.Common.{ap, inl, inr, ⊎_elim, List, ℕ, ◌+◌, ◌∙◌, slice_set}
use Rattle.std.proofs.lemmas.Result.{on_err_weaker}
use Rattle.host_edge.specs.declared.host_file.HostFile.{HostFile}
use Rattle.folder_core.specs.Files.{size_at, size_before}
use Rattle.host_edge.specs.Host.{host_entries}
use Rattle.host_edge.proofs.put.put_in.Goals as goal

pub returns-in-None-clause-half : goal.returns-in-None-clause-half
returns-in-None-clause-half g c = on_err_weaker c.make.result (⊎_elim
    (λ same. inl (ap (λ (l : List HostFile). host_entries l) same))
    (λ some. inr (some.0, some.1, inr (record { none = c.in-None.ensures.missing; new_is = some.2 }))))
    c.make.ensures.half

pub returns-in-Some-clause-half : goal.returns-in-Some-clause-half
returns-in-Some-clause-half g c =
    let was = host_entries c.args.files.now.items in
    let first = c.in-Some.ensures.found in
    on_err_weaker c.put_at.result (⊎_elim
    (λ same. inl same)
    (λ some. inr (
      some.0,
      some.1,
      inl (
        c.in-Some.i,
        record {
          is_first = first;
          new_is = some.2 ∙ ap (λ (l : List ℕ). slice_set was c.in-Some.i (record { name = l; size = size_before c.args.first (size_at was c.in-Some.i) + some.0 })) first.here;
        },
      ),
    )))
    c.put_at.ensures.half
