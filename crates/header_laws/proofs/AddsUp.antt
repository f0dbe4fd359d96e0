-- What a file of an unused id adds to the counts of a table.
use Rattle.std.proofs.Common.{◌≡◌, ℕ, ◌+◌, ◌-◌, ◌/◌, ◌*◌, ◌%◌, ◌<◌, ◌≤◌, List, [], ◌∷◌, length, true, false, ◌==◌, ap, refl, sym, ◌∙◌, arith, ⊎_elim}
use Rattle.std.specs.Prelude.{nat_lt}
use Rattle.std.specs.List.{sum_by, list_any}
use Rattle.std.proofs.Math.Nat.{div-add-mod, mul-le-mul_left}
use Rattle.std.proofs.lemmas.List.Sums.{sum_by-cons}
use Rattle.std.proofs.lemmas.Bool.{cases_Bool, cases_lt, or_parts, ne_eqb, eqb-false, le-ltb}
use Rattle.geometry.specs.declared.geometry.Geometry.{Geometry}
use Rattle.geometry.specs.Numbers.{ceil, body, head_slots}
use Rattle.table_model.specs.Table.{File, has_id, put_file}
use Rattle.table_model.specs.Room.{index_pages, data_pages, index_count, data_count}
use Rattle.table_model.specs.Files.{new_file}
use Rattle.image_model.specs.Within.{sizes}
use Rattle.header_laws.specs.Sums.{PutAdds, NewAdds}
use Rattle.header_laws.proofs.HeadCount.{sum-ones}

sum-put : (h : File → ℕ) (f : File) (xs : List File) → has_id f.id xs ≡ false → sum_by h (put_file f xs) ≡ sum_by h xs + h f
unfolding has_id
sum-put h f [] unused = let a = sum_by-cons h f [] in omega (arith, a)
sum-put h f (x ∷ xs) unused =
    let w = or_parts (x.id == f.id) (list_any (λ (y : File). y.id == f.id) xs) unused in
    ⊎_elim
    (λ (less : nat_lt f.id x.id ≡ true). rw less (let a = sum_by-cons h f (x ∷ xs) in omega (arith, a)))
    (λ (more : nat_lt f.id x.id ≡ false).
    let differ : (f.id == x.id) ≡ false = ne_eqb f.id x.id (λ e. eqb-false x.id f.id w.0 (sym e)) in
    let a = sum_by-cons h x (put_file f xs) in
    let b = sum_by-cons h x xs in
    let rest = sum-put h f xs w.1 in
    rw more (rw differ (omega (arith, a, b, rest))))
    (cases_Bool (nat_lt f.id x.id))

pub put-adds : (g : Geometry) → PutAdds g
unfolding index_count data_count
put-adds g f files unused = record {
  files_are = sym (sum-ones (put_file f files)) ∙ sum-put (λ (x : File). 1) f files unused ∙ ap (λ (n : ℕ). n + 1) (sum-ones files);
  index_are = sum-put (λ (x : File). index_pages g (length x.bytes)) f files unused;
  data_are = sum-put (λ (x : File). data_pages g (length x.bytes)) f files unused;
}

ceil-none : (b : ℕ) → 0 < b → ceil 0 b ≡ 0
ceil-none b pos =
    let whole : b * ((0 + b - 1) / b) + (0 + b - 1) % b ≡ 0 + b - 1 = div-add-mod (0 + b - 1) b in
    ⊎_elim
    (λ (x : (0 + b - 1) / b < 1). omega arith)
    (λ (x : 1 ≤ (0 + b - 1) / b). let step : b * 1 ≤ b * ((0 + b - 1) / b) = mul-le-mul_left b x in absurd (omega arith))
    (cases_lt ((0 + b - 1) / b) 1)

-- an empty file has its header page alone
no_data : (g : Geometry) → data_pages g 0 ≡ 0
no_data g = let big = (sizes g).page in ceil-none (body g) (omega arith)

one_index : (g : Geometry) → index_pages g 0 ≡ 1
one_index g =
    let none = no_data g in
    let few : nat_lt (head_slots g) (data_pages g 0) ≡ false = le-ltb (head_slots g) (data_pages g 0) (omega arith) in
    rw few refl

pub new-adds : (g : Geometry) → NewAdds g
new-adds g id name files unused =
    let w = put-adds g (new_file g id name) files unused in
    record {
      files_are = w.files_are;
      index_are = w.index_are ∙ ap (λ (n : ℕ). index_count g files + n) (one_index g);
      data_are = w.data_are ∙ ap (λ (n : ℕ). data_count g files + n) (no_data g);
    }
