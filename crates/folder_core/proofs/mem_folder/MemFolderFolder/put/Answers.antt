use Rattle.std.proofs.Common.{◌≡◌, ◌≤◌, take, inl, inr, ⊎_elim, ◌∙◌, ap, subst, rules}
use Rattle.folder_core.specs.Mem.{MemPuts}
use Rattle.folder_core.proofs.Named.{named_in}
use Rattle.folder_core.proofs.Putting.{kept_of, puts_of, on_ok, on_err}
use Rattle.folder_core.proofs.mem_folder.MemFolderFolder.put.Goals as goal

pub returns-then-is_err-clause-half : goal.returns-then-is_err-clause-half
returns-then-is_err-clause-half c =
    let was = c.args.self.now in
    let files : c.fails.new.self.files.items ≡ was.files.items = ap (λ v. v.items) c.fails.ensures.files in
    let faults : was.faults ≤ c.saturating_add-self.result = search rules in
    on_err c.put_in-answer.result (λ half. ⊎_elim
    (λ same. inl (kept_of was _ faults (same ∙ files)))
    (λ some. inr (some.0, puts_of was _ faults c.args.first c.args.name.now (take some.0 c.args.piece.now) (subst (λ l. MemPuts c.args.first c.args.name.now (take some.0 c.args.piece.now) l c.put_in-answer.new.files.items) files some.1)))
    half) c.put_in-answer.ensures.half

pub returns-else-is_err-clause-there : goal.returns-else-is_err-clause-there
returns-else-is_err-clause-there c = on_ok c.put_in-answer.result (λ puts. named_in _ _ _ _ _ puts.entries) c.put_in-answer.ensures.done
