-- A file put into a table, by the number of files before it.
use Rattle.std.proofs.Common.{◌≡◌, ℕ, zero, suc, ◌<◌, ◌≤◌, List, [], ◌∷◌, map, length, get_or, refl, arith}
use Rattle.std.proofs.lemmas.Grind.{common_steps}
use Rattle.std.specs.Prelude.{insert, slice_set}
use Rattle.table_model.specs.Table.{put_file}
use Rattle.plain_table.specs.declared.file.PlainFile.{PlainFile}
use Rattle.plain_table.specs.Seen.{file}

-- a file of an id above those before goes in its place
pub put_new : (f : PlainFile) (xs : List PlainFile) (i : ℕ) → i ≤ length xs →
    ((k : ℕ) (d : PlainFile) → k < i → (get_or xs k d).id < f.id) → ((d : PlainFile) → i < length xs → f.id < (get_or xs i d).id) →
    map file (insert xs i f) ≡ put_file (file f) (map file xs)
put_new f [] zero most before here = refl
put_new f [] (suc i) most before here = absurd (omega arith)
put_new f (x ∷ xs) zero most before here = let less : f.id < x.id = here x (omega arith) in grind (arith, common_steps, less)
put_new f (x ∷ xs) (suc i) most before here =
    let less : x.id < f.id = before 0 x (omega arith) in
    let rest : map file (insert xs i f) ≡ put_file (file f) (map file xs) = put_new f xs i (omega arith) (λ k d h. before (suc k) d (omega arith)) (λ d h. here d (omega arith)) in
    grind (arith, common_steps, less, rest)

-- a file of an id that is there takes its place
pub put_over : (f : PlainFile) (xs : List PlainFile) (i : ℕ) → i < length xs →
    ((k : ℕ) (d : PlainFile) → k < i → (get_or xs k d).id < f.id) → ((d : PlainFile) → (get_or xs i d).id ≡ f.id) →
    map file (slice_set xs i f) ≡ put_file (file f) (map file xs)
put_over f [] i most before here = absurd (omega arith)
put_over f (x ∷ xs) zero most before here = let same : x.id ≡ f.id = here x in grind (arith, common_steps, same)
put_over f (x ∷ xs) (suc i) most before here =
    let less : x.id < f.id = before 0 x (omega arith) in
    let rest : map file (slice_set xs i f) ≡ put_file (file f) (map file xs) = put_over f xs i (omega arith) (λ k d h. before (suc k) d (omega arith)) (λ d. here d) in
    grind (arith, common_steps, less, rest)
