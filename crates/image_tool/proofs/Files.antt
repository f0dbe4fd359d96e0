-- How an extraction goes on from file to file.
use Rattle.std.proofs.Common.{◌≡◌, ℕ, ◌+◌, ◌-◌, ◌<◌, ◌≤◌, ◌==◌, List, [], ◌∷◌, ◌++◌, length, take, drop, Option, Some, None, Result, Ok, Err, inr, ap, refl, sym, ◌∙◌, arith, subst, append_assoc, append-nil}
use Rattle.std.specs.Prelude.{IsErr, IsErrAnd}
use Rattle.std.specs.Option.{option_map}
use Rattle.std.specs.List.{flat_map}
use Rattle.std.proofs.lemmas.Grind.{flat_map-append}
use Rattle.std.proofs.lemmas.List.{map-append, take_all, length-take, length-drop}
use Rattle.std.proofs.lemmas.Option.{none-some}
use Rattle.geometry.specs.declared.geometry.Geometry.{Geometry}
use Rattle.nor_core.specs.declared.state.NorState.{Ghosts as NorOf}
use Rattle.nor_core.specs.Device.{OnlyReads}
use Rattle.table_model.specs.Table.{File, file_above}
use Rattle.table_model.specs.Files.{bytes_at}
use Rattle.table_model.specs.declared.reply.Stat.{Stat}
use Rattle.image_model.specs.Tables.{table_of, damaged_of}
use Rattle.folder_core.specs.Files.{FolderFile}
use Rattle.folder_core.specs.declared.state.FolderState.{Ghosts as FolderOf}
use Rattle.folder_core.specs.Puts.{Puts}
use Rattle.file_read.specs.Whole.{IsRead}
use Rattle.image_tool.specs.declared.error.ExtractErr.{ExtractErr}
use Rattle.image_tool.specs.declared.error.ExtractErr.TheVariants.{BoardFault, FolderFault, Damaged}
use Rattle.image_tool.specs.Extracting.{ExtractsAll, ExtractsFront, ExtractsTo}
use Rattle.image_tool.specs.Lists.{NextRecord, next_record, list_of}
use Rattle.image_tool.specs.Pieces.{PutsOne, PutsSome, PutsPiece, PutsBytes}
use Rattle.image_tool.specs.Putting.{folder_file, folder_files, FolderGoes, PutsFiles}
use Rattle.image_tool.specs.Saying.{SaysFront}
use Rattle.image_tool.specs.Texts.{record_line, record_lines, line_if, list_if}
use Rattle.image_tool.proofs.Pieces.{PutsTo, to_next, to_half, kept_none, files_none, files_one, files_then, partly_none, partly_one, partly_more, partly_all}
use Rattle.image_tool.proofs.Speaking.{front_wider, front_more, front_after}
use Rattle.image_tool.proofs.Walking.{Place, all_ahead, lines_if, place_ahead, walk_next, walk_last}

-- what holds of a file's error that `?` passes on
pub bytes_passed : {X : Type 0} (folder : FolderOf X) (name bytes : List ℕ) (was now : X) (e : ExtractErr) (r : Result (Unit {0}) ExtractErr) → IsErr r → IsErrAnd r (λ x. x ≡ e) → PutsBytes folder name bytes was now (Err e) → PutsBytes folder name bytes was now r
bytes_passed folder name bytes was now e (Ok done) failed same here = absurd (cc)
bytes_passed folder name bytes was now e (Err x) failed same here = subst (λ (y : ExtractErr). PutsBytes folder name bytes was now (Err y)) (sym same) here

-- and of one of all files
pub extracts_passed : {D X T : Type 0} (nor : NorOf D) (folder : FolderOf X) (text : List ℕ) (table : List File) (old new : D) (was now : X) (P : T → Type 0) (e : ExtractErr) (r : Result T ExtractErr) → IsErr r → IsErrAnd r (λ x. x ≡ e) →
    ExtractsTo nor folder text table old new was now P (Err e) → ExtractsTo nor folder text table old new was now P r
extracts_passed nor folder text table old new was now P e (Ok done) failed same here = absurd (cc)
extracts_passed nor folder text table old new was now P e (Err x) failed same here = subst (λ (y : ExtractErr). ExtractsTo nor folder text table old new was now P (Err y)) (sym same) here

-- ---- the pieces of a file

module _ {X : Type 0} {folder : FolderOf X} where
  -- a piece that was read is put
  pub piece_put : (f : File) (at n : ℕ) (read_into read : List ℕ) {name : List ℕ} {was now : X} → IsRead f at read_into read n → Puts folder (at == 0) name (take n read) was now →
      PutsPiece folder name at (bytes_at (length read_into) at f) was now (Ok (at + n))
  piece_put f at n read_into read {name} {was} {now} is puts = (ap (λ (k : ℕ). at + k) is.count, subst (λ (l : List ℕ). Puts folder (at == 0) name l was now) is.bytes puts)

  -- an error of a piece is one of its file
  pub pieces_err : (e : ExtractErr) (bytes : List ℕ) (at count : ℕ) {name : List ℕ} {was mid : X} (now : X) → FolderGoes folder was mid → PutsTo folder name bytes at was mid →
      PutsPiece folder name at (take count (drop at bytes)) mid now (Err e) → PutsBytes folder name bytes was now (Err e)
  pieces_err BoardFault bytes at count now goes to half = to_half bytes at count goes to half
  pieces_err FolderFault bytes at count now goes to half = to_half bytes at count goes to half
  pieces_err (Damaged differ) bytes at count now goes to half = half

  -- a piece more
  pub pieces_more : (bytes : List ℕ) (at count end : ℕ) {name : List ℕ} {was mid now : X} → at < end → FolderGoes folder was mid → PutsTo folder name bytes at was mid →
      PutsPiece folder name at (take count (drop at bytes)) mid now (Ok end) → PutsTo folder name bytes end was now
  pieces_more bytes at count end {name} {was} {mid} {now} more goes to put =
      inr (omega (arith, more), subst (λ (k : ℕ). PutsOne folder name (take k bytes) was now) (sym put.0) (to_next bytes at count goes to put.1))

  -- a piece that is shorter than there was room is the last one
  pub pieces_done : (bytes : List ℕ) (at count end : ℕ) {name : List ℕ} {was mid now : X} → end - at < count → FolderGoes folder was mid → PutsTo folder name bytes at was mid →
      PutsPiece folder name at (take count (drop at bytes)) mid now (Ok end) → PutsOne folder name bytes was now
  pieces_done bytes at count end {name} {was} {mid} {now} short goes to put =
      let piece = take count (drop at bytes) in
      let all : length bytes ≤ at + length piece = omega (arith, short, put.0, length-take count (drop at bytes), length-drop at bytes) in
      subst (λ (l : List ℕ). PutsOne folder name l was now) (take_all (at + length piece) bytes all) (to_next bytes at count goes to put.1)

-- ---- a file

-- all lines of a text are whole
front_all : {D : Type 0} {nor : NorOf D} {old new : D} (text : List ℕ) → nor.said new ≡ nor.said old ++ text → SaysFront nor old new text
front_all text said = record { part = text; rest = []; said = said; whole_is = sym (append-nil text) }

-- the board failed before a file was put
pub none_put : {D X : Type 0} {nor : NorOf D} {folder : FolderOf X} {old new : D} {text : List ℕ} {table : List File} (d : X) → SaysFront nor old new text → ExtractsFront nor folder text table old new d d
none_put d front = record { front = front; partly = partly_none _ (kept_none d) }

module _ {D X : Type 0} (nor : NorOf D) (folder : FolderOf X) (g : Geometry) (image : List ℕ) (after : ℕ) (old new : D) where
  -- there was no further file
  pub next_none : (d : X) → file_above after (table_of g image) ≡ None → nor.said new ≡ nor.said old ++ next_record g image after →
      ExtractsTo nor folder (next_record g image after) (list_if (file_above after (table_of g image))) old new d d (λ found. found ≡ option_map (λ (f : File). f.id) (file_above after (table_of g image))) (Ok None)
  next_none d none said = rw none (record { said = rw none at said; puts = files_none (kept_none d) }, refl)

  -- a file was put
  pub next_put : (was now : X) (page : ℕ) (stat : Stat) → (next : NextRecord g image after (Some (page, stat))) → nor.said new ≡ nor.said old ++ next_record g image after →
      PutsOne folder stat.name next.file.bytes was now →
      ExtractsTo nor folder (next_record g image after) (list_if (file_above after (table_of g image))) old new was now (λ found. found ≡ option_map (λ (f : File). f.id) (file_above after (table_of g image))) (Ok (Some stat.id))
  next_put was now page stat next said one =
      let f = next.file in
      let named : PutsOne folder f.name f.bytes was now = subst (λ (n : List ℕ). PutsOne folder n f.bytes was now) (ap (λ (s : Stat). s.name) next.record_is) one in
      rw (next.above) (record { said = rw (next.above) at said; puts = files_one (folder_file f) named }, ap (λ (s : Stat). Some s.id) next.record_is)

  -- or a front of it, as a fault came
  pub next_err : (was now : X) (P : Option ℕ → Type 0) (e : ExtractErr) (page : ℕ) (stat : Stat) → (next : NextRecord g image after (Some (page, stat))) → nor.said new ≡ nor.said old ++ next_record g image after →
      PutsBytes folder stat.name next.file.bytes was now (Err e) →
      ExtractsTo nor folder (next_record g image after) (list_if (file_above after (table_of g image))) old new was now P (Err e)
  unfolding record_lines
  next_err was now P BoardFault page stat next said some =
      let f = next.file in
      let named : PutsSome folder f.name f.bytes was now = subst (λ (n : List ℕ). PutsSome folder n f.bytes was now) (ap (λ (s : Stat). s.name) next.record_is) some in
      rw (next.above) (record { front = front_all (record_line f) (rw (next.above) at said); partly = partly_one (folder_file f) named })
  next_err was now P FolderFault page stat next said some =
      let f = next.file in
      let named : PutsSome folder f.name f.bytes was now = subst (λ (n : List ℕ). PutsSome folder n f.bytes was now) (ap (λ (s : Stat). s.name) next.record_is) some in
      let line : nor.said new ≡ nor.said old ++ record_line f = rw (next.above) at said in
      rw (next.above) (record {
        front = front_all (record_line f) line;
        lines = record { front = f ∷ []; rest = []; table_is = refl; said = line ∙ ap (λ (l : List ℕ). nor.said old ++ l) (sym (lines_if (λ (x : File). x.id) record_line (Some f))) };
        partly = partly_one (folder_file f) named;
      })
  next_err was now P (Damaged differ) page stat next said some = some

-- ---- file after file

no_file : {X : Type 0} (key : X → ℕ) (o : Option X) → None ≡ option_map key o → list_if o ≡ []
no_file key None none = refl
no_file key (Some x) none = absurd (none-some (key x) none)

-- the files that a table begins with, the next one, and those behind
files_ahead : {first now : List ℕ} {all : List File} {after : ℕ} → (p : Place (λ (f : File). f.id) record_line first now all after) →
    (tail : List File) × ((all ≡ p.front ++ (list_if (file_above after all) ++ tail)) × (folder_files all ≡ folder_files p.front ++ (folder_files (list_if (file_above after all)) ++ folder_files tail)))
unfolding file_above
files_ahead {first} {now} {all} {after} p =
    let w = all_ahead (λ (f : File). f.id) record_line p in
    let next = list_if (file_above after all) in
    (w.0, (w.1, ap folder_files w.1 ∙ map-append folder_file p.front (next ++ w.0) ∙ ap (λ (l : List FolderFile). folder_files p.front ++ l) (map-append folder_file next w.0)))

module _ {X : Type 0} {folder : FolderOf X} where
  -- the files of a front and the next one
  more_files : {was amid now : X} (front next : List File) → FolderGoes folder was amid → PutsFiles folder (folder_files front) was amid → PutsFiles folder (folder_files next) amid now → PutsFiles folder (folder_files (front ++ next)) was now
  more_files {was} {amid} {now} front next goes puts more = subst (λ (l : List FolderFile). PutsFiles folder l was now) (sym (map-append folder_file front next)) (files_then (folder_files front) (folder_files next) goes puts more)

module _ {D X : Type 0} (nor : NorOf D) (folder : FolderOf X) (old mid new : D) (was amid now : X) (all : List File) (after : ℕ)
    (p : Place (λ (f : File). f.id) record_line (nor.said old) (nor.said mid) all after) (goes : FolderGoes folder was amid) (puts : PutsFiles folder (folder_files p.front) was amid) where
  files_stop : (P : Option ℕ → Type 0) (Q : Unit {0} → Type 0) (e : ExtractErr) →
      ExtractsTo nor folder (line_if record_line (file_above after all)) (list_if (file_above after all)) mid new amid now P (Err e) →
      ExtractsTo nor folder (record_lines all) all old new was now Q (Err e)
  unfolding file_above record_lines
  files_stop P Q BoardFault fails =
      let w = files_ahead p in
      record {
        front = front_more (place_ahead (λ (f : File). f.id) record_line p) fails.front;
        partly = partly_more (folder_files p.front) (folder_files (list_if (file_above after all))) (folder_files w.0) (folder_files all) w.1.1 goes puts fails.partly;
      }
  files_stop P Q FolderFault fails =
      let w = files_ahead p in
      let l = fails.lines in
      record {
        front = front_more (place_ahead (λ (f : File). f.id) record_line p) fails.front;
        lines = record {
          front = p.front ++ l.front;
          rest = l.rest ++ w.0;
          table_is = w.1.0 ∙ ap (λ (x : List File). p.front ++ (x ++ w.0)) l.table_is ∙ ap (λ (x : List File). p.front ++ x) (append_assoc l.front l.rest w.0) ∙ sym (append_assoc p.front l.front (l.rest ++ w.0));
          said = l.said ∙ ap (λ (x : List ℕ). x ++ flat_map record_line l.front) p.said ∙ append_assoc (nor.said old) (flat_map record_line p.front) (flat_map record_line l.front) ∙ ap (λ (x : List ℕ). nor.said old ++ x) (sym (flat_map-append record_line p.front l.front));
        };
        partly = partly_more (folder_files p.front) (folder_files l.front) [] (folder_files (p.front ++ l.front)) (map-append folder_file p.front l.front ∙ ap (λ (x : List FolderFile). folder_files p.front ++ x) (sym (append-nil (folder_files l.front)))) goes puts fails.partly;
      }
  files_stop P Q (Damaged differ) fails = fails

  -- an error of a file is one of all files
  pub files_err : (here : List File) → here ≡ all → (P : Option ℕ → Type 0) (Q : Unit {0} → Type 0) (e : ExtractErr) →
      ExtractsTo nor folder (line_if record_line (file_above after here)) (list_if (file_above after here)) mid new amid now P (Err e) →
      ExtractsTo nor folder (record_lines all) all old new was now Q (Err e)
  files_err here same P Q e fails = files_stop P Q e (subst (λ (l : List File). ExtractsTo nor folder (line_if record_line (file_above after l)) (list_if (file_above after l)) mid new amid now P (Err e)) same fails)

  -- a file more
  pub files_more : (id : ℕ) →
      ExtractsTo nor folder (line_if record_line (file_above after all)) (list_if (file_above after all)) mid new amid now (λ found. found ≡ option_map (λ (f : File). f.id) (file_above after all)) (Ok (Some id)) →
      (q : Place (λ (f : File). f.id) record_line (nor.said old) (nor.said new) all id) × PutsFiles folder (folder_files q.front) was now
  unfolding file_above
  files_more id done =
      let w = walk_next (λ (f : File). f.id) record_line all all after id refl p done.1 done.0.said in
      (w.0, subst (λ (l : List File). PutsFiles folder (folder_files l) was now) (sym w.1.0) (more_files p.front (list_if (file_above after all)) goes puts done.0.puts))

  -- no file more
  pub files_done :
      ExtractsTo nor folder (line_if record_line (file_above after all)) (list_if (file_above after all)) mid new amid now (λ found. found ≡ option_map (λ (f : File). f.id) (file_above after all)) (Ok None) →
      ExtractsAll nor folder (record_lines all) all old new was now
  unfolding file_above record_lines
  files_done done =
      let w = walk_last (λ (f : File). f.id) record_line all all after refl p done.1 done.0.said in
      let behind : p.front ++ list_if (file_above after all) ≡ all = ap (λ (l : List File). p.front ++ l) (no_file (λ (f : File). f.id) (file_above after all) done.1) ∙ append-nil p.front ∙ w.1 in
      record {
        said = w.0;
        puts = subst (λ (l : List File). PutsFiles folder (folder_files l) was now) behind (more_files p.front (list_if (file_above after all)) goes puts done.0.puts);
      }

-- ---- a whole list

module _ {D X : Type 0} (nor : NorOf D) (folder : FolderOf X) (table : List File) where
  -- what ended the part of the files ended the list
  pub list_err : {S T : Type 0} (P : S → Type 0) (Q : T → Type 0) (old new : D) (was now : X) (text more : List ℕ) (e : ExtractErr) →
      ExtractsTo nor folder text table old new was now P (Err e) → ExtractsTo nor folder (text ++ more) table old new was now Q (Err e)
  list_err P Q old new was now text more BoardFault fails = record { front = front_wider more fails.front; partly = fails.partly }
  list_err P Q old new was now text more FolderFault fails = record { front = front_wider more fails.front; lines = fails.lines; partly = fails.partly }
  list_err P Q old new was now text more (Damaged differ) fails = fails

  -- the board failed behind the files
  pub list_broken : {old mid new : D} {was now : X} (text more : List ℕ) → ExtractsAll nor folder text table old mid was now → SaysFront nor mid new more → ExtractsFront nor folder (text ++ more) table old new was now
  list_broken text more all front = record {
    front = front_more (record { part = text; tail = []; said = all.said; text_is = ap (λ (l : List ℕ). text ++ l) (sym (append-nil more)) }) front;
    partly = partly_all (folder_files table) all.puts;
  }

  -- all was said behind the files
  pub list_done : {old mid new : D} {was now : X} (text more : List ℕ) → ExtractsAll nor folder text table old mid was now → nor.said new ≡ nor.said mid ++ more → ExtractsAll nor folder (text ++ more) table old new was now
  list_done {old} text more all said = record { said = said ∙ ap (λ (l : List ℕ). l ++ more) all.said ∙ append_assoc (nor.said old) text more; puts = all.puts }

module _ {D X : Type 0} (nor : NorOf D) (folder : FolderOf X) where
  reads_first : {T : Type 0} (P : T → Type 0) (text : List ℕ) (table : List File) (old mid new : D) (was now : X) (r : Result T ExtractErr) → OnlyReads nor old mid → ExtractsTo nor folder text table mid new was now P r → ExtractsTo nor folder text table old new was now P r
  reads_first P text table old mid new was now (Ok answer) reads done = (record { said = done.0.said ∙ ap (λ (l : List ℕ). l ++ text) reads.said; puts = done.0.puts }, done.1)
  reads_first P text table old mid new was now (Err BoardFault) reads fails = record { front = front_after reads fails.front; partly = fails.partly }
  reads_first P text table old mid new was now (Err FolderFault) reads fails =
      let l = fails.lines in
      record { front = front_after reads fails.front; lines = record { front = l.front; rest = l.rest; table_is = l.table_is; said = l.said ∙ ap (λ (x : List ℕ). x ++ record_lines l.front) reads.said }; partly = fails.partly }
  reads_first P text table old mid new was now (Err (Damaged differ)) reads fails = fails

  -- how an extraction ends of an image with some text, table and number of damaged ids
  abbrev Extracted : (g : Geometry) (image : List ℕ) (old new : D) (was now : X) → Result ℕ ExtractErr → Type 0
  Extracted g image old new was now r = ExtractsTo nor folder (list_of g image) (table_of g image) old new was now (λ count. count ≡ length (damaged_of g image)) r

  -- reads before it
  pub extracts_after : (g h : Geometry) (image other : List ℕ) → h ≡ g → other ≡ image → (old mid new : D) (was now : X) (r : Result ℕ ExtractErr) → OnlyReads nor old mid →
      ExtractsTo nor folder (list_of h other) (table_of h other) mid new was now (λ count. count ≡ length (damaged_of h other)) r →
      ExtractsTo nor folder (list_of g image) (table_of g image) old new was now (λ count. count ≡ length (damaged_of g image)) r
  extracts_after g h image other same bytes old mid new was now r reads told =
      reads_first (λ count. count ≡ length (damaged_of g image)) (list_of g image) (table_of g image) old mid new was now r reads
      (subst (λ (l : List ℕ). Extracted g l mid new was now r) bytes (subst (λ (k : Geometry). Extracted k other mid new was now r) same told))
