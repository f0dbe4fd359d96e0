-- Files go by their ids after one of them gets other bytes, and at each moment of a volume.
use Rattle.std.proofs.Common.{◌≡◌, ℕ, List, [], ◌∷◌, true, false, Option, Some, None, ◌==◌, ◌⊎◌, inl, inr, ⊎_elim, sym, ◌∙◌, ap, subst, refl}
use Rattle.std.specs.Prelude.{nat_lt}
use Rattle.std.proofs.lemmas.Bool.{cases_Bool, eq-eqb, ne_eqb, eqb-true, eqb-false, both_ways}
use Rattle.std.proofs.lemmas.Option.{none-some, same_Some}
use Rattle.geometry.specs.declared.geometry.Geometry.{Geometry}
use Rattle.table_model.specs.Table.{File, file_of, file_named, put_file, same_text}
use Rattle.table_model.specs.Files.{written}
use Rattle.table_model.specs.Window.{Moment, settled_at}
use Rattle.write_window.specs.Runs.{Run}
use Rattle.image_model.specs.Tables.{table_of}
use Rattle.call_model.specs.Memory.{Memory, IsAt, Waits, RunWaits}
use Rattle.call_model.specs.Tables.{NamesById}
use Rattle.call_model.proofs.Tables.{file_of-put, file_of-put_other}
use Rattle.call_model.proofs.Unused.{found-passes}

-- the file of a name after one of its name was put in its place: that one, or the one that was found before, which has another name or id
found-put : (f old : File) (name : List ℕ) (files : List File) (x : File) → file_of f.id files ≡ Some old → f.name ≡ old.name → file_named name (put_file f files) ≡ Some x →
    (x ≡ f) ⊎ ((file_named name files ≡ Some x) × ((same_text f.name name ≡ false) ⊎ (f.id ≡ x.id → ⊥)))
unfolding file_of file_named
found-put f old name [] x there same h = absurd (none-some old there)
found-put f old name (y ∷ files) x there same h = ⊎_elim
    (λ (less : nat_lt f.id y.id ≡ true).
    let h1 = rw less at h in
    ⊎_elim
    (λ (mine : same_text f.name name ≡ true). inl (sym (same_Some f x (rw mine at h1))))
    (λ (other : same_text f.name name ≡ false). inr (rw other at h1, inl other))
    (cases_Bool (same_text f.name name)))
    (λ (more : nat_lt f.id y.id ≡ false).
    let h1 = rw more at h in
    ⊎_elim
    (λ (here : (f.id == y.id) ≡ true).
    let h2 = rw here at h1 in
    ⊎_elim
    (λ (mine : same_text f.name name ≡ true). inl (sym (same_Some f x (rw mine at h2))))
    (λ (other : same_text f.name name ≡ false).
    let is : y ≡ old = same_Some y old (rw (eq-eqb y.id f.id (sym (eqb-true f.id y.id here))) at there) in
    let none : same_text y.name name ≡ false = rw (is, ← same) other in
    inr (rw none (rw other at h2), inl other))
    (cases_Bool (same_text f.name name)))
    (λ (apart : (f.id == y.id) ≡ false).
    let h2 = rw apart at h1 in
    ⊎_elim
    (λ (first : same_text y.name name ≡ true).
    let is : y ≡ x = same_Some y x (rw first at h2) in
    inr (rw first (ap (λ (v : File). Some v) is), inr (λ e. eqb-false f.id y.id apart (e ∙ ap (λ (v : File). v.id) (sym is)))))
    (λ (later : same_text y.name name ≡ false).
    let away : (y.id == f.id) ≡ false = ne_eqb y.id f.id (λ e. eqb-false f.id y.id apart (sym e)) in
    rw later (found-put f old name files x (rw away at there) same (rw later at h2)))
    (cases_Bool (same_text y.name name)))
    (cases_Bool (f.id == y.id)))
    (cases_Bool (nat_lt f.id y.id))

passes : (name : List ℕ) (files : List File) (x : File) → file_named name files ≡ Some x → same_text x.name name ≡ true
unfolding file_named
passes name files x h = found-passes (λ (f : File). same_text f.name name) files x h

-- a file in the place of one of its name and id
pub names-put : (f old : File) (files : List File) → NamesById files → file_of f.id files ≡ Some old → f.name ≡ old.name → NamesById (put_file f files)
names-put f old files names there same name x h = ⊎_elim
    (λ (is : x ≡ f). rw is (file_of-put f files))
    (λ (w : (file_named name files ≡ Some x) × ((same_text f.name name ≡ false) ⊎ (f.id ≡ x.id → ⊥))).
    let apart : f.id ≡ x.id → ⊥ = ⊎_elim
    (λ (other : same_text f.name name ≡ false). λ (e : f.id ≡ x.id).
    let is : old ≡ x = same_Some old x (sym there ∙ ap (λ (id : ℕ). file_of id files) e ∙ names name x w.0) in
    let named : same_text f.name name ≡ true = rw (same, is) (passes name files x w.0) in
    both_ways (same_text f.name name) other named)
    (λ (apart : f.id ≡ x.id → ⊥). apart)
    w.1 in
    file_of-put_other x.id f files apart ∙ names name x w.0)
    (found-put f old name files x there same h)

-- where a run waits
names-wait : (g : Geometry) (m : Moment) (r : Run) → NamesById m.settled → Waits g m r → NamesById m.state.table
names-wait g m r names w = rw w.next (names-put (written r.start r.bytes w.file) w.file m.settled names (ap (λ (id : ℕ). file_of id m.settled) w.named ∙ w.there) refl)

names-run : (g : Geometry) (image : List ℕ) (m : Moment) (o : Option Run) → NamesById m.settled → RunWaits g image m o → NamesById m.state.table
unfolding settled_at
names-run g image m None names is = subst NamesById (ap (λ (n : Moment). n.settled) is) names
names-run g image m (Some r) names w = names-wait g m r names w.0

-- at a moment, where the table of the image goes by ids
pub names_at : (g : Geometry) (image : List ℕ) (memory : Memory) (m : Moment) → NamesById (table_of g image) → IsAt g image memory m → NamesById m.state.table
names_at g image memory m names at = names-run g image m memory.run (subst NamesById at.table names) at.run
