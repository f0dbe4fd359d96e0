-- The tables that copying a record makes, and what they leave of each name.
use Rattle.std.proofs.Common.{◌≡◌, ◌≢◌, ℕ, List, [], ◌∷◌, ◌++◌, take, Bool, true, false, Option, Some, None, refl, sym, ◌∙◌, ap, subst, append_assoc}
use Rattle.std.proofs.lemmas.Option.{none-some}
use Rattle.geometry.specs.declared.geometry.Geometry.{Geometry}
use Rattle.table_model.specs.Table.{File, file_named, file_of, put_file}
use Rattle.image_laws.proofs.Records.{bytes_equal}
use Rattle.header_laws.proofs.Telling.{each-by_id}
use Rattle.header_laws.proofs.Naming.{each_by_name}
use Rattle.call_model.proofs.Parts.{put_twice}
use Rattle.call_model.proofs.Unused.{least-unused, file_of-unused}
use Rattle.copy_model.specs.Copying.{working, is_copy, is_copied, front_of, begun, marked, without_found, without_name, cleared, placed}
use Rattle.copy_model.specs.Under.{IsTable, HasNow, IsUnder, IsCopied}
use Rattle.copy_model.specs.Stages.{ImageTables, StartsCopy, IsNext, CopiesNext, KeepsNext, DoneIsUnder, DoneIsThere}
use Rattle.copy_model.proofs.Putting.{over-drop, named-put, unlike}
use Rattle.copy_model.proofs.Names.{named-is, put-others}
use Rattle.copy_model.proofs.Tabling.{table-put, table-without, table-instead}
use Rattle.copy_model.proofs.Answering.{other-there, working-stays, marked-name, marked-unused}
use Rattle.copy_model.proofs.Stages.{under-none, under-begun, under-cleared, without-others, without-own, copied-kept, copied-placed}

pub image-tables : (g : Geometry) → ImageTables g
image-tables g image = record { by_id = each-by_id g image; by_name = each_by_name g image }

-- ---- before the first record

found-none : (name : List ℕ) → file_named name [] ≡ None
unfolding file_named
found-none name = refl

pub starts-copy : StartsCopy
starts-copy first table =
    let less = table-without working first table in
    let others : (name : List ℕ) → name ≢ working → file_named name (without_name working first) ≡ file_named name first = λ name other. without-others working first table less name (λ same. other (sym same)) in
    let copied : (alike : Bool) → IsCopied alike [] first (without_name working first) = λ alike. record {
      each = λ name other. subst (λ (o : Option File). HasNow alike o (file_named name first) (file_named name (without_name working first))) (sym (found-none name)) (others name other);
      none = without-own working first table less;
    } in
    record { table = less; copied = copied; under = λ alike source. under-none alike [] source first (without_name working first) (copied alike) }

-- ---- a record

-- the working file that is whole is a copy of its record
pub whole-copy : (g : Geometry) (alike : Bool) (f : File) (files : List File) → is_copy alike f (marked g alike f files) ≡ true
whole-copy g true f files = rw (bytes_equal f.bytes, bytes_equal f.meta) refl
whole-copy g false f files = rw (bytes_equal f.bytes) refl

-- with the record's name it is one too
marked-copy : (g : Geometry) (alike : Bool) (f : File) (files : List File) → is_copy alike f (record (marked g alike f files) { name = f.name }) ≡ true
marked-copy g true f files = rw (bytes_equal f.bytes, bytes_equal f.meta) refl
marked-copy g false f files = rw (bytes_equal f.bytes) refl

module _ (g : Geometry) (alike : Bool) (front rest first files : List File) (f : File) (next : IsNext alike front first files f) where
  no_working : file_named working files ≡ None
  no_working = next.done.none

  marked_table : IsTable (put_file (marked g alike f files) files)
  marked_table = table-put (marked g alike f files) files next.table (marked-unused g alike f files) (subst (λ (n : List ℕ). file_named n files ≡ None) (sym (marked-name g alike f files)) no_working)

  begun_under : (at : ℕ) → IsUnder alike (front ++ f ∷ rest) first (begun g f files at)
  begun_under at =
      let w = front_of g files (take at f.bytes) in
      under-begun alike front (f ∷ rest) first files next.done w refl next.table (table-put w files next.table (least-unused files) no_working) (file_of-unused w.id files (least-unused files))

  marked_fresh : file_of (marked g alike f files).id files ≡ None
  marked_fresh = file_of-unused (marked g alike f files).id files (marked-unused g alike f files)

  marked_under : IsUnder alike (front ++ f ∷ rest) first (put_file (marked g alike f files) files)
  marked_under = under-begun alike front (f ∷ rest) first files next.done (marked g alike f files) (marked-name g alike f files) next.table marked_table marked_fresh

  cleared_table : IsTable (cleared g alike f files)
  cleared_table = table-without f.name (put_file (marked g alike f files) files) marked_table

  -- names but its own and the working one
  cleared_others : (name : List ℕ) → name ≢ working → f.name ≢ name → file_named name (cleared g alike f files) ≡ file_named name files
  cleared_others name other apart =
      without-others f.name (put_file (marked g alike f files) files) marked_table cleared_table name apart
      ∙ put-others (marked g alike f files) files next.table marked_table marked_fresh name (λ same. other (sym same ∙ marked-name g alike f files))

  cleared_none : file_named f.name (cleared g alike f files) ≡ None
  cleared_none = without-own f.name (put_file (marked g alike f files) files) marked_table cleared_table

  stays : file_named working (cleared g alike f files) ≡ Some (marked g alike f files)
  stays = working-stays (marked g alike f files) files f.name (marked-unused g alike f files) (marked-name g alike f files) next.fine no_working

  cleared_under : IsUnder alike (front ++ f ∷ rest) first (cleared g alike f files)
  cleared_under = under-cleared alike front rest first files f next.done next.unlike_front next.fine (cleared g alike f files) cleared_others cleared_none (ap (is_copied alike f) stays ∙ whole-copy g alike f files)

  own : (marked g alike f files).name ≢ f.name
  own same = next.fine (sym same ∙ marked-name g alike f files)

  -- the file that had its name had it before the working file was made
  was_there : (x : File) → file_named f.name (put_file (marked g alike f files) files) ≡ Some x → file_named f.name files ≡ Some x
  was_there x is = sym (named-put f.name (marked g alike f files) files (marked-unused g alike f files) (unlike (marked g alike f files).name f.name own)) ∙ is

  table_at : (o : Option File) → file_named f.name (put_file (marked g alike f files) files) ≡ o →
      IsTable (put_file (record (marked g alike f files) { name = f.name }) (without_found o (put_file (marked g alike f files) files)))
  table_at None is =
      subst IsTable (sym (put_twice (record (marked g alike f files) { name = f.name }) (marked g alike f files) files refl))
      (table-put (record (marked g alike f files) { name = f.name }) files next.table (marked-unused g alike f files)
      (sym (named-put f.name (marked g alike f files) files (marked-unused g alike f files) (unlike (marked g alike f files).name f.name own)) ∙ is))
  table_at (Some x) is =
      let other = other-there (marked g alike f files) files f.name x (marked-unused g alike f files) own is in
      subst IsTable (sym (over-drop (marked g alike f files) (record (marked g alike f files) { name = f.name }) x.id files refl other))
      (table-instead (record (marked g alike f files) { name = f.name }) x files next.table (marked-unused g alike f files) other (was_there x is))

  placed_table : IsTable (placed g alike f files)
  unfolding placed without_name
  placed_table = table_at (file_named f.name (put_file (marked g alike f files) files)) refl

  placed_copied : IsCopied alike (front ++ f ∷ []) first (placed g alike f files)
  unfolding placed
  placed_copied = copied-placed alike front rest first files f next.done next.unlike_front next.fine (marked g alike f files) (record (marked g alike f files) { name = f.name }) (cleared g alike f files)
      cleared_table placed_table (named-is (cleared g alike f files) working (marked g alike f files) cleared_table stays).0 (marked-name g alike f files) refl refl (marked-copy g alike f files) cleared_others

  placed_under : IsUnder alike (front ++ f ∷ rest) first (placed g alike f files)
  placed_under = subst (λ (source : List File). IsUnder alike source first (placed g alike f files)) (append_assoc front (f ∷ []) rest) (under-none alike (front ++ f ∷ []) rest first (placed g alike f files) placed_copied)

pub copies-next : (g : Geometry) → CopiesNext g
copies-next g alike front rest first files f next = record {
  still_under = under-none alike front (f ∷ rest) first files next.done;
  begun_under = begun_under g alike front rest first files f next;
  marked_under = marked_under g alike front rest first files f next;
  cleared_under = cleared_under g alike front rest first files f next;
  cleared_none = cleared_none g alike front rest first files f next;
  placed_under = placed_under g alike front rest first files f next;
  placed_copied = placed_copied g alike front rest first files f next;
  placed_table = placed_table g alike front rest first files f next;
}

pub keeps-next : KeepsNext
keeps-next alike front first files f next kept = copied-kept alike front [] first files f next.done next.unlike_front next.fine kept

pub done-under : DoneIsUnder
done-under alike front rest first files done = under-none alike front rest first files done

-- ---- behind the last record

pub done-there : DoneIsThere
done-there alike source first files fine done = record {
  each = λ name f is. subst (λ (o : Option File). HasNow alike o (file_named name first) (file_named name files)) is
      (done.each name (λ same. none-some f (sym fine ∙ ap (λ (n : List ℕ). file_named n source) (sym same) ∙ is)));
  none = done.none;
}
