-- One page of a copied file is one step.
use Rattle.std.proofs.Common.{◌≡◌, ℕ, ◌+◌, ◌-◌, ◌*◌, ◌/◌, ◌%◌, ◌<◌, ◌≤◌, List, length, sym, ◌∙◌, ap, arith, ⊎_elim}
use Rattle.std.proofs.Math.Nat.{div-add-mod}
use Rattle.std.proofs.lemmas.Nat.{mod-mul-add}
use Rattle.std.proofs.lemmas.Bool.{cases_lt}
use Rattle.geometry.specs.declared.geometry.Geometry.{Geometry}
use Rattle.geometry.specs.Numbers.{body}
use Rattle.table_model.specs.Table.{File, put_file}
use Rattle.table_model.specs.Files.{written}
use Rattle.table_model.specs.Steps.{file_steps, written_up_to}
use Rattle.table_model.specs.Window.{IsAmong}
use Rattle.call_model.proofs.Parts.{among-steps, whole-table}

-- the one end of a data page behind one, no further than a page
next_end : (page at e len : ℕ) → 0 < page → at % page ≡ 0 → e % page ≡ 0 → at < e → e ≤ at + len → len ≤ page → e ≡ at + len
next_end page at e len some from to less most few =
    let whole : page * (at / page) + at % page ≡ at = div-add-mod at page in
    ⊎_elim
    (λ (short : e - at < page).
    let here : at / page * page + (e - at) ≡ e = omega (arith, whole, from, less) in
    let rest : e % page ≡ e - at = ap (λ (n : ℕ). n % page) (sym here) ∙ mod-mul-add (at / page) page (e - at) short in
    absurd (omega (arith, rest, to, less)))
    (λ (long : page ≤ e - at). omega (arith, long, most, few, less))
    (cases_lt (e - at) page)

pub one_write : (g : Geometry) (at : ℕ) (bytes : List ℕ) (f : File) (files t : List File) → 0 < body g → at ≡ length f.bytes → at % body g ≡ 0 → length bytes ≤ body g → IsAmong t (file_steps g at bytes f files) → t ≡ put_file (written at bytes f) files
one_write g at bytes f files t some is from few among =
    let s = among-steps g at bytes f files t among in
    let end : s.end ≡ at + length bytes = ⊎_elim
    (λ (page : s.end % body g ≡ 0). next_end (body g) at s.end (length bytes) some from page s.is_end.from s.is_end.to few)
    (λ more. ⊎_elim (λ (size : s.end ≡ length f.bytes). omega (arith, size, is, s.is_end.from)) (λ (own : s.end ≡ at + length bytes). own) more)
    s.is_end.ends in
    s.table ∙ ap (written_up_to at bytes f files) end ∙ whole-table at bytes f files
