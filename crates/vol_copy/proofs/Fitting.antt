-- The records of a reader can be copied, where none has the working name.
use Rattle.std.proofs.Common.{◌≡◌, ℕ, ◌+◌, ◌≤◌, List, [], ◌∷◌, length, slice_range, Bool, true, false, not, ◌==◌, Some, None, Ok, refl, sym, ◌∙◌, ap, subst, ⊎_elim, arith, length-take, length-drop}
use Rattle.std.specs.Prelude.{find, nat_lt, position}
use Rattle.std.specs.List.{All, prefix_len, slice_index_or}
use Rattle.std.proofs.lemmas.Bool.{cases_Bool, ltb-false}
use Rattle.std.proofs.lemmas.Option.{none-some}
use Rattle.geometry.specs.declared.geometry.Geometry.{Geometry}
use Rattle.nor_core.specs.declared.state.NorState.{Ghosts as NorOf}
use Rattle.table_model.specs.Table.{File, same_text, file_named}
use Rattle.table_model.specs.Names.{name_refusal}
use Rattle.table_model.proofs.Ascending.{Ascends}
use Rattle.image_model.specs.Within.{sizes, page_length}
use Rattle.image_model.specs.Places.{IsImage}
use Rattle.image_model.specs.Live.{live_at, own}
use Rattle.image_model.specs.Tables.{has_of, records, table_of}
use Rattle.image_laws.proofs.Records.{counted-some}
use Rattle.image_laws.proofs.Judge.{found_parts}
use Rattle.image_laws.proofs.Reindexed.{judged-parts}
use Rattle.image_laws.proofs.Finish.{own-parts}
use Rattle.image_laws.proofs.Frames.{live_parts}
use Rattle.image_laws.proofs.Ascending.{table-ascends}
use Rattle.header_laws.proofs.Listed.{each-listed}
use Rattle.header_laws.proofs.HeadPages.{file_at}
use Rattle.header_laws.proofs.HeadNames.{judged-name}
use Rattle.header_laws.proofs.FineNames.{fine-names, name_of-fine}
use Rattle.vol_mount.specs.declared.reader.Reader.{Reader}
use Rattle.volume.specs.declared.volume.Volume.{Volume}
use Rattle.copy_model.specs.Copying.{working}
use Rattle.copy_model.specs.Tasks.{Task}
use Rattle.copy_model.specs.Under.{IsTable}
use Rattle.copy_model.specs.Parts.{AreFit}
use Rattle.vol_copy.specs.Ends.{alike_of}
use Rattle.vol_copy.proofs.Composing.{image_table}

-- a file's name isn't refused, and it has as many meta bytes as the volume
abbrev pub IsFine : Geometry → File → Type 0
IsFine g f = (name_refusal f.name ≡ None) × (length f.meta ≡ g.meta)

fine_at : (g : Geometry) (a : List ℕ) → IsImage g a → (j : ℕ) (f : File) → file_at g a j ≡ Some f → IsFine g f
unfolding has_of
fine_at g a is j f e =
    let geo = sizes g in
    let w = counted-some (has_of g (live_at g a)) 0x7FFF (has_of g (live_at g a) j) f e in
    let v = found_parts g (own (live_at g a) j) j w.0 (Ok f) w.1 in
    let parts = judged-parts g (own (live_at g a) j) j v.0 f v.3 in
    let name = judged-name g (own (live_at g a) j) j v.0 f v.3 in
    let live = live_parts g a w.0 v.0 (own-parts (live_at g a) j w.0 v.0 v.2).0 in
    let page : length v.0 ≡ g.page = ap length (sym live.bytes) ∙ page_length g a w.0 is live.entry_page in
    let meta : f.meta ≡ slice_range v.0 45 (45 + g.meta) = ap (λ (x : File). x.meta) (sym parts.2) in
    ((fine-names f.name).1 (name_of-fine v.0 f.name name), ap length meta ∙ simp (length-take, length-drop) (omega (arith, page, geo.page, geo.meta)))

pub fine_files : (g : Geometry) (a : List ℕ) → IsImage g a → All (IsFine g) (table_of g a)
unfolding table_of records
fine_files g a is = each-listed (IsFine g) (file_at g a) 1 0x7FFF (λ j f here. fine_at g a is j f here)

-- the bytes of a reader's device, and of a volume's, are an image
pub reader_image : {N : Type 0} {nor : NorOf N} (r : Reader N nor) → (nor.tells r.nor.now → length (nor.bytes r.nor.now) ≡ nor.size r.nor.now) → nor.tells r.nor.now → IsImage r.geometry (nor.bytes r.nor.now)
reader_image r sized tells = record { len = omega (arith, r.fits, sized tells) }

pub volume_image : {N : Type 0} {nor : NorOf N} (v : Volume N nor) → (nor.tells v.nor.now → length (nor.bytes v.nor.now) ≡ nor.size v.nor.now) → nor.tells v.nor.now → IsImage v.geometry (nor.bytes v.nor.now)
volume_image v sized tells = record { len = omega (arith, v.fits, sized tells) }

-- ---- no record has the working name

none_found : (t : File → Bool) (files : List File) → length files ≤ prefix_len (λ x. not (t x)) files → find t files ≡ None
none_found t [] long = refl
none_found t (x ∷ xs) long = ⊎_elim
    (λ (is : t x ≡ true). absurd (let no = rw is at long in omega (arith, no)))
    (λ (other : t x ≡ false). let more = rw other at long in rw other (none_found t xs (omega (arith, more))))
    (cases_Bool (t x))

none_placed : (t : File → Bool) (files : List File) → position t files ≡ None → find t files ≡ None
none_placed t files none = ⊎_elim
    (λ (less : nat_lt (prefix_len (λ x. not (t x)) files) (length files) ≡ true). absurd (none-some (prefix_len (λ x. not (t x)) files) (sym (rw less at none))))
    (λ (all : nat_lt (prefix_len (λ x. not (t x)) files) (length files) ≡ false). none_found t files (ltb-false (prefix_len (λ x. not (t x)) files) (length files) all))
    (cases_Bool (nat_lt (prefix_len (λ x. not (t x)) files) (length files)))

pub no_working : (files : List File) → position (λ f. same_text f.name working) files ≡ None → file_named working files ≡ None
unfolding file_named
no_working files none = none_placed (λ f. same_text f.name working) files none

-- ---- so they can be copied

pub are_fit : (gf : Geometry) (a : List ℕ) (t : Task) → IsImage gf a → table_of gf a ≡ t.source → t.alike ≡ alike_of gf t.g → file_named working t.source ≡ None → AreFit t
are_fit gf a t is told alike none =
    let table : IsTable t.source = subst IsTable told (image_table gf a) in
    let fine : All (IsFine gf) t.source = subst (All (IsFine gf)) told (fine_files gf a is) in
    record {
      table = table;
      ascends = subst (λ (files : List File). Ascends (λ (f : File). f.id) 0 files) told (table-ascends gf a);
      all = λ k d less.
          let f = slice_index_or t.source k d in
          let parts = fine k d less in
          record {
            fine = parts.0;
            apart = λ same. none-some f (sym none ∙ ap (λ (n : List ℕ). file_named n t.source) (sym same) ∙ table.by_name k d less);
            as_many = ap (λ (n : ℕ). n == t.g.meta) parts.1 ∙ sym alike;
          };
    }
