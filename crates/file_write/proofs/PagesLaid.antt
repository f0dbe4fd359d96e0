-- Data pages of an append are put beside those of its file, one after the other.
use Rattle.std.proofs.Common.{◌≡◌, ◌≢◌, ℕ, ◌+◌, ◌-◌, ◌*◌, ◌/◌, ◌%◌, ◌<◌, ◌≤◌, ◌⊎◌, List, length, set, slice_index, Bool, true, false, ◌==◌, ◌||◌, Some, None, ap, refl, sym, ◌∙◌, arith, subst, ⊎_elim, inl, inr}
use Rattle.std.proofs.lemmas.Bool.{eqb-true, cases_eq, cases_lt}
use Rattle.std.proofs.lemmas.List.{get_or-set_other, get_or-set_same}
use Rattle.std.proofs.lemmas.Option.{none-some}
use Rattle.geometry.specs.declared.geometry.Geometry.{Geometry}
use Rattle.geometry.specs.Numbers.{body}
use Rattle.table_model.specs.Table.{File, put_file}
use Rattle.table_model.specs.Files.{written}
use Rattle.table_model.specs.Room.{data_pages}
use Rattle.image_model.specs.Live.{live_at, own}
use Rattle.image_model.specs.Collect.{are_had}
use Rattle.image_model.specs.Tables.{table_of}
use Rattle.image_model.specs.Tidy.{HasReserve}
use Rattle.image_laws.proofs.Append.{own-live, own-some}
use Rattle.image_laws.proofs.Finish.{own-parts}
use Rattle.image_laws.proofs.Sounding.{keeps-on}
use Rattle.trim_laws.specs.Wear.{SameWear}
use Rattle.trim_laws.proofs.Wears.{programs_keep, wear_none, wear_then}
use Rattle.flash_view.specs.declared.kinds.Kind.TheVariants.{Data}
use Rattle.flash_view.specs.Steps.{Step}
use Rattle.free_search.specs.Had.{IsClear}
use Rattle.free_search.proofs.HadBy.{less_had, put_had}
use Rattle.renew_laws.specs.Append.{page_part}
use Rattle.renew_laws.specs.Primed.{Primed}
use Rattle.renew_laws.specs.Tails.{IsTailReady}
use Rattle.renew_laws.proofs.PrimeBeside.{prime-data}
use Rattle.renew_laws.proofs.ReserveKept.{put-reserve}
use Rattle.renew_laws.proofs.TailSteps.{tail-beside}
use Rattle.page_renew.specs.PageSteps.{StepCut}
use Rattle.page_renew.proofs.Homes.{of_data}
use Rattle.file_write.specs.Appends.{CanAppendAt}
use Rattle.file_write.specs.Batches.{IsPart, IsLaid, laying}
use Rattle.file_write.specs.Beside.{HasPage, AddsPage, AddedPage, adding, is_data}
use Rattle.file_write.proofs.AppendEnds.{primed_clear, kept, stays}
use Rattle.file_write.proofs.LastPage.{one_index}

or_either : (x y : Bool) → (x || y) ≡ true → (x ≡ true) ⊎ (y ≡ true)
or_either true y e = inl refl
or_either false y e = inr e

-- none at first
pub laid_none : (g : Geometry) (a : List ℕ) (id h size : ℕ) (bytes : List ℕ) (f : File) (pages : List ℕ) → CanAppendAt g a id h size bytes f → IsLaid g a id h size bytes f 0 pages a
laid_none g a id h size bytes f pages can = record {
  can = can;
  beside = λ (r : ℕ). false;
  prime = can.prime;
  parts = λ i low. absurd (omega (arith, low));
  only = λ r e. let bad : false ≡ true = e in absurd (cc);
  ready = can.can.ready;
  had = less_had g a _ (data_pages g (length bytes)) 1 (data_pages g (length bytes) - 0) (one_index g a id h size bytes f can) (omega arith) can.can.had;
  reserve = λ two. two;
  wear = wear_none g a;
}

-- one more
module _ (g : Geometry) (a b : List ℕ) (id h size n : ℕ) (bytes : List ℕ) (f : File) (pages : List ℕ) (laid : IsLaid g a id h size bytes f n pages b) (more : n < data_pages g (length bytes)) where
  clear : IsClear g b
  clear = primed_clear g a b id h laid.can.head f laid.beside laid.prime

  rest_had : are_had g b 1 (data_pages g (length bytes) - (n + 1) + 1) ≡ true
  rest_had = let same : data_pages g (length bytes) - n ≡ data_pages g (length bytes) - (n + 1) + 1 = omega (arith, more) in subst (λ (k : ℕ). are_had g b 1 k ≡ true) same laid.had

  -- it is put where one is had
  pub lay_begins : (span : ℕ) → size / body g + n ≡ span → (part : List ℕ) → part ≡ page_part g bytes n → (c : List ℕ) →
      (c ≡ b) ⊎ AddsPage g Data (is_data id span part g) b c → StepCut g (put_file (written (length f.bytes) bytes f) (table_of g a)) a c
  lay_begins span at part is c left = ⊎_elim
      (λ (same : c ≡ b). subst (λ (x : List ℕ). StepCut g (put_file (written (length f.bytes) bytes f) (table_of g a)) a x) (sym same)
      (kept g a id h size bytes f laid.can b laid.prime.keeps laid.reserve laid.wear))
      (λ (w : AddsPage g Data (is_data id span part g) b c).
      let put = (prime-data g a b id h w.p laid.can.head w.page f laid.beside laid.prime (of_data g b w.p w.page w.found.kind_is w.is.kind) w.is.kind w.is.of).0 c w.leaves in
      kept g a id h size bytes f laid.can c (keeps-on g a b c laid.prime.keeps put)
      (λ two. put-reserve g b c w.p w.found.keeps w.leaves.agree (laid.reserve two)) (wear_then g a b c laid.wear (programs_keep g b c w.p w.leaves.agree)))
      left

  pub has_next : HasPage g Data b
  has_next = record { clear = clear; had = less_had g b 1 (data_pages g (length bytes) - (n + 1) + 1) 0 1 (omega arith) (omega arith) rest_had }

  module _ (c : List ℕ) (p span : ℕ) (at : size / body g + n ≡ span) (part : List ℕ) (is : part ≡ page_part g bytes n) (w : AddedPage g Data (is_data id span part g) b c p) where
    abbrev beside_now : ℕ → Bool
    beside_now r = laid.beside r || (r == p)

    prime_now : Primed g id h laid.can.head f beside_now a c
    prime_now = (prime-data g a b id h p laid.can.head w.page f laid.beside laid.prime (of_data g b p w.page w.found.kind_is w.is.kind) w.is.kind w.is.of).1 c w.put

    -- the others stay
    still : (q : ℕ) (z : List ℕ) → own (live_at g b) id q ≡ Some z → own (live_at g c) id q ≡ Some z
    still q z there =
        let apart : q ≢ p = λ e. none-some z (sym w.put.gains.before ∙ ap (live_at g b) (sym e) ∙ (own-parts (live_at g b) id q z there).0) in
        own-live (live_at g b) (live_at g c) id q (w.put.gains.others q apart) ∙ there

    new_part : IsPart g id size bytes c n p
    new_part = record {
      page = w.page;
      there = own-some (live_at g c) id p w.page w.put.gains.after w.is.of;
      is = rw (at, ← is) w.is;
    }

    ready_now : IsTailReady g c id
    ready_now = tail-beside g b c p id h w.page laid.can.head f
        (record { kind = of_data g b p w.page w.found.kind_is w.is.kind; data_kind = w.is.kind; of = w.is.of; at = laid.prime.at; header = laid.prime.header; file = laid.prime.file }) w.put id laid.ready

    pub laid_more : (pages' : List ℕ) → ((i : ℕ) → i < n → slice_index pages' i ≡ slice_index pages i) → slice_index pages' n ≡ p → IsLaid g a id h size bytes f (n + 1) pages' c
    laid_more pages' same last = record {
      can = laid.can;
      beside = beside_now;
      prime = prime_now;
      parts = λ i low. ⊎_elim
          (λ (old : i < n). let o = laid.parts i old in
          subst (λ (q : ℕ). IsPart g id size bytes c i q) (sym (same i old)) (record { page = o.page; there = still (slice_index pages i) o.page o.there; is = o.is }))
          (λ (new : n ≤ i). let e : n ≡ i = omega (arith, low, new) in
          subst (λ (j : ℕ). IsPart g id size bytes c j (slice_index pages' j)) e (subst (λ (q : ℕ). IsPart g id size bytes c n q) (sym last) new_part))
          (cases_lt i n);
      only = λ r e. ⊎_elim
          (λ (old : laid.beside r ≡ true). let o = laid.only r old in (o.0, omega (arith, o.1), o.2 ∙ sym (same o.0 o.1)))
          (λ (new : (r == p) ≡ true). (n, omega arith, eqb-true r p new ∙ sym last))
          (or_either (laid.beside r) (r == p) e);
      ready = ready_now;
      had = (put_had g b c p w.page 1 (data_pages g (length bytes) - (n + 1)) clear (primed_clear g a c id h laid.can.head f beside_now prime_now) w.put).1 w.found w.is.kind rest_had;
      reserve = λ two. put-reserve g b c p w.found.keeps w.put.agree (laid.reserve two);
      wear = wear_then g a b c laid.wear (programs_keep g b c p w.put.agree);
    }

pub set_others : (pages : List ℕ) (i p : ℕ) → (j : ℕ) → j < i → slice_index (set pages i p) j ≡ slice_index pages j
set_others pages i p j low = get_or-set_other pages i j p 0 (λ e. omega (arith, e, low))

pub set_same : (pages : List ℕ) (i p : ℕ) → i < length pages → slice_index (set pages i p) i ≡ p
set_same pages i p low = get_or-set_same pages i p 0 low

-- as a step from the pages so far
abbrev pub laying_one : (was : List ℕ) (id h size n m : ℕ) → (pages pages' bytes : List ℕ) → File → Step (Unit {0})
laying_one was id h size n m pages pages' bytes f = record {
  needs = λ g b. IsLaid g was id h size bytes f n pages b;
  cut = λ g b c. StepCut g (put_file (written (length f.bytes) bytes f) (table_of g was)) was c;
  done = λ g b c ok. IsLaid g was id h size bytes f m pages' c;
}

pub lay_next : (g : Geometry) (a b : List ℕ) (id h size n span : ℕ) (bytes part : List ℕ) (f : File) (pages : List ℕ) → IsLaid g a id h size bytes f n pages b → n < data_pages g (length bytes) → size / body g + n ≡ span → part ≡ page_part g bytes n →
    HasPage g Data b × ((c : List ℕ) → (c ≡ b) ⊎ AddsPage g Data (is_data id span part g) b c → StepCut g (put_file (written (length f.bytes) bytes f) (table_of g a)) a c)
    × ((c : List ℕ) (p : ℕ) (pages' : List ℕ) → AddedPage g Data (is_data id span part g) b c p → ((i : ℕ) → i < n → slice_index pages' i ≡ slice_index pages i) → slice_index pages' n ≡ p → IsLaid g a id h size bytes f (n + 1) pages' c)
lay_next g a b id h size n span bytes part f pages laid more at is = (
  has_next g a b id h size n bytes f pages laid more,
  lay_begins g a b id h size n bytes f pages laid more span at part is,
  λ c p pages' w same last. laid_more g a b id h size n bytes f pages laid more c p span at part is w pages' same last,
)
