-- A data page is replaced by a copy.
use Rattle.std.proofs.Common.{◌≡◌, ◌≢◌, ℕ, ◌+◌, ◌*◌, ◌<◌, List, ◌++◌, length, take, drop, Bool, true, false, not, ◌==◌, ◌&&◌, Option, Some, ap, refl, sym, ◌∙◌, ⊎_elim, subst, inl, inr}
use Rattle.std.specs.Prelude.{is_some, option_and_then}
use Rattle.std.proofs.Math.Path.{fun_ext}
use Rattle.std.proofs.lemmas.Bool.{cases_eq, and_parts, eq-eqb, ne_eqb, false_from_ne_true}
use Rattle.std.proofs.lemmas.Option.{none-some, same_Some}
use Rattle.geometry.specs.declared.geometry.Geometry.{Geometry}
use Rattle.geometry.specs.Numbers.{body}
use Rattle.table_model.specs.Table.{File, put_file}
use Rattle.table_model.specs.Files.{written}
use Rattle.table_model.specs.Room.{data_pages, index_pages}
use Rattle.image_model.specs.Within.{page_length, page_number}
use Rattle.image_model.specs.Live.{live_at, own}
use Rattle.image_model.specs.Headers.{names_index, span_of, size_of}
use Rattle.image_model.specs.Files.{is_index, index_page, entry_number, data_of, data_page, index_span}
use Rattle.image_model.specs.Tables.{table_of}
use Rattle.image_model.specs.Tidy.{IsTidy, serves}
use Rattle.image_laws.specs.LiveSteps.{KillDone}
use Rattle.image_laws.specs.Reindex.{Reindexes, slot_word, now_data, now_bytes}
use Rattle.image_laws.specs.Spares.{leftover}
use Rattle.image_laws.proofs.Doubled.{index-span_is}
use Rattle.image_laws.proofs.Finish.{own-parts}
use Rattle.image_laws.proofs.Frames.{live_parts}
use Rattle.image_laws.proofs.Judge.{index_passes}
use Rattle.image_laws.proofs.Reindexed.{entry-slot}
use Rattle.renew_laws.specs.Idles.{Idles}
use Rattle.renew_laws.specs.Recopy.{RecopiesTo, Renamed}
use Rattle.renew_laws.specs.Relink.{Relinks, RelinkRecopies, RelinkReads, RelinkEnds}
use Rattle.renew_laws.specs.Replace.{Replaced}
use Rattle.renew_laws.proofs.IdleKill.{idle-kills, idles-end}
use Rattle.renew_laws.proofs.Serves.{data_parts, served_as}
use Rattle.renew_laws.proofs.Overwritten.{patched-is_written}
use Rattle.renew_laws.proofs.PrimePlaces.{primed-places}
use Rattle.renew_laws.proofs.RecopyCuts.{mine4, mine5}
use Rattle.renew_laws.proofs.RecopyLeaves.{recopy-spares}
use Rattle.renew_laws.proofs.ReindexSteps.{entry3_here, three_other}
use Rattle.renew_laws.proofs.Spans.{span_page}

data_is : (x : List ℕ) (t : ℕ) (z : List ℕ) → data_of (Some x) t ≡ Some z → (x ≡ z) × (names_index x ≡ false) × (span_of x ≡ t)
data_is x t z e =
    let v = data_parts x t (ap is_some e) in
    (same_Some x z (rw (v.0, eq-eqb (span_of x) t v.1) at e), v.0, v.1)

module _ (g : Geometry) (a b : List ℕ) (id h s w q to p from used : ℕ) (head head' x y old copy bytes : List ℕ) (f : File) (beside : ℕ → Bool) (start : Relinks g a b id h s w q to p from used head head' x y old copy bytes f beside) where
  lengths : (r : ℕ) (z : List ℕ) → own (live_at g b) id r ≡ Some z → length z ≡ g.page
  lengths r z e = let parts = live_parts g b r z (own-parts (live_at g b) id r z e).0 in ap length (sym parts.bytes) ∙ page_length g b r start.primed.image parts.entry_page

  passes : is_index (Some x) (index_span g s) ≡ true
  passes = let e = index_passes g (own (live_at g b) id) (index_span g s) w start.first in rw start.was at e

  here : index_span g s ≡ span_of x
  here = sym (index-span_is x (index_span g s) passes)

  first : index_page g (own (live_at g b) id) (span_of x) ≡ Some w
  first = ap (index_page g (own (live_at g b) id)) (sym here) ∙ start.first

  -- the entries of the old index page
  entry_was : (t : ℕ) → index_span g t ≡ span_of x → entry_number g (own (live_at g b) id) head t ≡ Some (slot_word g x t)
  entry_was t e = entry-slot g (own (live_at g b) id) h head t start.primed.at start.primed.header ∙ (rw e (rw first (rw start.was refl)))

  names_old : slot_word g x s ≡ q
  names_old = same_Some (slot_word g x s) q (sym (entry_was s here) ∙ start.names)

  page_was : (z : List ℕ) × (data_page g (own (live_at g b) id) head s ≡ Some z)
  page_was = span_page g (own (live_at g b) id) id head f start.primed.file s start.below

  old_is : (old ≡ page_was.0) × (names_index old ≡ false) × (span_of old ≡ s)
  unfolding data_page
  old_is =
      let e = page_was.1 in
      let at : data_of (own (live_at g b) id q) s ≡ Some page_was.0 = ap (λ (o : Option ℕ). option_and_then (λ r. data_of (own (live_at g b) id r) s) o) (sym start.names) ∙ e in
      data_is old s page_was.0 (ap (λ (o : Option (List ℕ)). data_of o s) (sym start.there) ∙ at)

  reads_old : data_page g (own (live_at g b) id) head s ≡ Some old
  reads_old = page_was.1 ∙ ap (λ (z : List ℕ). Some z) (sym old_is.0)

  now_here : now_data g (own (live_at g b) id) head y s ≡ Some copy
  unfolding now_data
  now_here = rw (eq-eqb (index_span g s) (span_of y) (here ∙ sym start.copied.span)) (rw start.copied.entry (rw start.beside_is (rw (start.data_kind, eq-eqb (span_of copy) s start.span) refl)))

  now_other : (t : ℕ) → t < data_pages g (size_of head) → t ≢ s → now_data g (own (live_at g b) id) head y t ≡ data_page g (own (live_at g b) id) head t
  unfolding now_data data_page
  now_other t low there =
      ⊎_elim
      (λ (same : index_span g t ≡ span_of x).
      rw (eq-eqb (index_span g t) (span_of y) (same ∙ sym start.copied.span)) (rw (entry_was t same) (ap (λ (r : ℕ). data_of (own (live_at g b) id r) t) (start.copied.others t low there same))))
      (λ (differ : index_span g t ≡ span_of x → ⊥). rw (ne_eqb (index_span g t) (span_of y) (λ e. differ (e ∙ start.copied.span))) refl)
      (cases_eq (index_span g t) (span_of x))

  whole : (t : ℕ) → t < data_pages g (size_of head) → is_some (now_data g (own (live_at g b) id) head y t) ≡ true
  whole t low =
      ⊎_elim
      (λ (same : t ≡ s). rw same (rw now_here refl))
      (λ (there : t ≡ s → ⊥). let z = span_page g (own (live_at g b) id) id head f start.primed.file t low in rw (now_other t low there) (rw z.1 refl))
      (cases_eq t s)

  bytes_now : now_bytes g (own (live_at g b) id) head y ≡ take (s * body g + from) f.bytes ++ bytes ++ drop (s * body g + from + length bytes) f.bytes
  bytes_now =
      patched-is_written g (own (live_at g b) id) id s head y old copy bytes f start.primed.file lengths start.below reads_old now_here (lengths to copy start.beside_is) now_other from used start.inner start.fits start.enough start.patched

  -- no other index page of the id has this span
  alone : (r : ℕ) → is_index (own (live_at g b) id r) (span_of x) ≡ true → r ≡ w
  alone r e =
      ⊎_elim
      (λ (copy_there : beside r ≡ true).
      let no : is_index (own (live_at g b) id r) (span_of x) ≡ false = rw (start.alone r copy_there) (rw start.beside_is (rw start.data_kind refl)) in let bad : true ≡ false = sym e ∙ no in absurd (cc))
      (λ (v : (index_page g (own (live_at g b) id) (span_of x) ≡ Some r) × (span_of x < index_pages g (size_of head))). same_Some r w (sym v.0 ∙ first))
      ((primed-places g a b id h head f beside start.primed).1 r (span_of x) e)

  pub relinks : Reindexes g (own (live_at g b) id) id w h x y head head' f (written (s * body g + from) bytes f)
  relinks = record {
    was = start.was;
    index = (and_parts _ _ passes).0;
    first = first;
    alone = alone;
    new_index = start.copied.index;
    new_of = start.copied.of;
    new_span = start.copied.span;
    at = start.primed.at;
    header = start.primed.header;
    file = start.primed.file;
    renewed = start.copied.renewed;
    stays = start.copied.stays;
    size = start.copied.size;
    name = start.copied.name;
    kind = start.copied.kind;
    meta = start.copied.meta;
    whole = whole;
    result = ap (λ (bs : List ℕ). record { id = f.id; name = f.name; kind = f.kind; meta = f.meta; bytes = bs }) (sym bytes_now);
  }

  pub recopies : RecopiesTo g b p w id h x y head head' f (written (s * body g + from) bytes f)
  recopies = record { undamaged = start.primed.tidy.undamaged; inside = start.inside; kind = start.kind; pages = relinks }

  renamed : Renamed g (own (live_at g b) id) head x y beside (λ r. r == q)
  renamed = record {
    named = λ r e. (s, start.below, here, start.copied.entry ∙ sym (start.alone r e), rw (start.alone r e) (rw start.beside_is (rw (start.data_kind, eq-eqb (span_of copy) s start.span) refl)));
    left = λ t low same. ⊎_elim
        (λ (yes : t ≡ s). inr (eq-eqb (slot_word g x t) q (ap (slot_word g x) yes ∙ names_old)))
        (λ (there : t ≡ s → ⊥). inl (start.copied.others t low there same))
        (cases_eq t s);
  }

  module _ (c : List ℕ) (all : Replaced g p w y b c) where
    old_now : own (live_at g c) id q ≡ Some old
    old_now =
        let gains = mine4 g b p w id h x y head head' f (written (s * body g + from) bytes f) recopies all.middle all.put.gains in
        let loses = mine5 g b p w id h x y head head' f (written (s * body g + from) bytes f) recopies all.middle all.put.gains c all.kill.loses in
        let not_w : q ≢ w = λ e. let same : old ≡ x = same_Some old x (sym start.there ∙ ap (own (live_at g b) id) e ∙ start.was) in let yes : names_index x ≡ true = (and_parts _ _ passes).0 in
        let bad : false ≡ true = sym old_is.1 ∙ ap names_index same ∙ yes in absurd (cc) in
        let not_p : q ≢ p = λ e. none-some old (sym gains.before ∙ ap (own (live_at g b) id) (sym e) ∙ start.there) in
        three_other g (own (live_at g b) id) (own (live_at g all.middle) id) (own (live_at g c) id) id w p h x y head head' f (written (s * body g + from) bytes f) relinks (page_number g p start.inside) gains loses q not_w not_p
        ∙ start.there

    unserved : serves g (own (live_at g c) id) head' q ≡ false
    unserved =
        let gains = mine4 g b p w id h x y head head' f (written (s * body g + from) bytes f) recopies all.middle all.put.gains in
        let loses = mine5 g b p w id h x y head head' f (written (s * body g + from) bytes f) recopies all.middle all.put.gains c all.kill.loses in
        let entry = entry3_here g (own (live_at g b) id) (own (live_at g all.middle) id) (own (live_at g c) id) id w p h x y head head' f (written (s * body g + from) bytes f) relinks (page_number g p start.inside) gains loses s here in
        false_from_ne_true _ (λ yes. ⊎_elim
        (λ (v : (names_index old ≡ true) × (span_of old < index_pages g (size_of head')) × (index_page g (own (live_at g c) id) (span_of old) ≡ Some q)). let bad : true ≡ false = sym v.0 ∙ old_is.1 in absurd (cc))
        (λ (v : (names_index old ≡ false) × (span_of old < data_pages g (size_of head')) × (entry_number g (own (live_at g c) id) head' (span_of old) ≡ Some q) × (is_some (data_of (own (live_at g c) id q) (span_of old)) ≡ true)).
        let now : entry_number g (own (live_at g c) id) head' s ≡ Some q = ap (entry_number g (own (live_at g c) id) head') (sym old_is.2) ∙ v.2 in
        absurd (start.apart (same_Some q to (sym now ∙ entry ∙ ap (λ (k : ℕ). Some k) start.copied.entry))))
        (served_as g (own (live_at g c) id) head' q old old_now yes))

    spare_is : (r : ℕ) → ((r == q) && leftover g (own (live_at g c) id) head' r) ≡ (r == q)
    unfolding leftover
    spare_is r =
        ⊎_elim
        (λ (same : r ≡ q). rw same (rw (eq-eqb q q refl) (rw old_now (rw unserved refl))))
        (λ (there : r ≡ q → ⊥). rw (ne_eqb r q there) refl)
        (cases_eq r q)

    left_over : Idles g (λ r. r == q) c × (table_of g c ≡ put_file (written (s * body g + from) bytes f) (table_of g a))
    left_over =
        let law = recopy-spares g b c p w id h x y head head' f (written (s * body g + from) bytes f) beside (λ (r : ℕ). r == q) recopies all start.primed.tidy renamed in
        (subst (λ (spare : ℕ → Bool). Idles g spare c) (fun_ext spare_is) law.0, law.1 ∙ ap (put_file (written (s * body g + from) bytes f)) start.primed.keeps.table)

    ends : (d : List ℕ) → KillDone g q c d → IsTidy g d × (table_of g d ≡ put_file (written (s * body g + from) bytes f) (table_of g a))
    ends d kill =
        let live = (own-parts (live_at g c) id q old old_now).0 in
        let law = (idle-kills g c q old (λ (r : ℕ). r == q) left_over.0 (eq-eqb q q refl) live).1 d kill in
        (idles-end g d (λ (r : ℕ). (r == q) && not (r == q)) (λ r e. none_twice (r == q) e) law.2, law.0.table ∙ left_over.1)
      where
        none_twice : (v : Bool) → (v && not v) ≡ true → ⊥
        none_twice false e = absurd (cc)
        none_twice true e = absurd (cc)

pub relink-recopies : (g : Geometry) → RelinkRecopies g
relink-recopies g a b id h s w q to p from used head head' x y old copy bytes f beside start = recopies g a b id h s w q to p from used head head' x y old copy bytes f beside start

pub relink-reads : (g : Geometry) → RelinkReads g
relink-reads g a b id h s w q to p from used head head' x y old copy bytes f beside start = (
  now_here g a b id h s w q to p from used head head' x y old copy bytes f beside start,
  sym (here g a b id h s w q to p from used head head' x y old copy bytes f beside start),
  now_other g a b id h s w q to p from used head head' x y old copy bytes f beside start,
)

pub relink-ends : (g : Geometry) → RelinkEnds g
relink-ends g a b c id h s w q to p from used head head' x y old copy bytes f beside start all =
    let over = left_over g a b id h s w q to p from used head head' x y old copy bytes f beside start c all in (
      over.0,
      (own-parts (live_at g c) id q old (old_now g a b id h s w q to p from used head head' x y old copy bytes f beside start c all)).0,
      over.1,
      ends g a b id h s w q to p from used head head' x y old copy bytes f beside start c all,
    )
