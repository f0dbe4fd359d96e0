-- What `make` leaves tells its number of meta bytes.
use Rattle.std.proofs.Common.{◌≡◌, ℕ, zero, suc, ◌+◌, ◌<◌, List, [], ◌∷◌, length, Some, refl, sym, ap, subst, arith}
use Rattle.std.proofs.lemmas.Bool.{eq-eqb, ne_eqb}
use Rattle.geometry.specs.declared.geometry.Geometry.{Geometry}
use Rattle.table_model.specs.Table.{File, file_of}
use Rattle.folder_core.specs.Files.{FolderFile, entries_of, size_at}
use Rattle.image_model.specs.Tables.{table_of}
use Rattle.folder_plan.specs.Tables.{file_as, numbered, folder_table}
use Rattle.meta_laws.specs.Other.{HasPlainFile}
use Rattle.tool_core.specs.Telling.{HasSome, MadeTells}

-- a file with bytes of a list that is numbered from that id on
record IsPlainThere (g : Geometry) (id : ℕ) (files : List FolderFile) : Type 0 where
  behind : ℕ
  from : FolderFile
  there : file_of (id + behind) (numbered g id files) ≡ Some (file_as g (id + behind) from)
  some : 0 < length from.bytes

one_more : (g : Geometry) (id : ℕ) (f : FolderFile) (files : List FolderFile) → IsPlainThere g (id + 1) files → IsPlainThere g id (f ∷ files)
unfolding file_of numbered
one_more g id f files is = record {
  behind = suc is.behind;
  from = is.from;
  there =
      let e : id + 1 + is.behind ≡ id + suc is.behind = omega arith in
      rw (ne_eqb id (id + suc is.behind) (λ same. omega (arith, same)))
      (subst (λ (n : ℕ). file_of n (numbered g (id + 1) files) ≡ Some (file_as g n is.from)) e is.there);
  some = is.some;
}

plain_there : (g : Geometry) (id at : ℕ) (files : List FolderFile) → 0 < size_at (entries_of files) at → IsPlainThere g id files
unfolding file_of numbered
plain_there g id at [] some = absurd (omega (arith, some))
plain_there g id zero (f ∷ files) some = record {
  behind = 0;
  from = f;
  there = let e : id ≡ id + 0 = omega arith in rw (eq-eqb id (id + 0) e) (ap (λ (n : ℕ). Some (file_as g n f)) e);
  some = some;
}
plain_there g id (suc at) (f ∷ files) some = one_more g id f files (plain_there g (id + 1) at files some)

plain_file : (g : Geometry) (image : List ℕ) (files : List FolderFile) → table_of g image ≡ folder_table g files → HasSome (entries_of files) → HasPlainFile g image
plain_file g image files is has =
    let one : IsPlainThere g 1 files = plain_there g 1 has.at files has.some in
    record {
      id = 1 + one.behind;
      file = file_as g (1 + one.behind) one.from;
      there = subst (λ (t : List File). file_of (1 + one.behind) t ≡ Some (file_as g (1 + one.behind) one.from)) (sym is) one.there;
      some = one.some;
      plain = refl;
    }

pub made_tells : (g : Geometry) (image : List ℕ) (files : List FolderFile) → MadeTells g image files
made_tells g image files holds small has some = record {
  holds = holds;
  tidy = has.tidy;
  trim = has.trim;
  small = small;
  plain = plain_file g image files has.table some;
}
