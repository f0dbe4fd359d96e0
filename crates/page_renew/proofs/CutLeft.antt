-- What a file that is cut leaves over.
use Rattle.std.proofs.Common.{◌≡◌, ◌≢◌, ℕ, ◌-◌, ◌<◌, ◌≤◌, List, Bool, true, false, not, ◌==◌, ◌&&◌, Option, Some, None, ap, refl, sym, ◌∙◌, arith, ⊎_elim, subst}
use Rattle.std.specs.Prelude.{nat_le, nat_lt}
use Rattle.std.proofs.Math.Path.{fun_ext}
use Rattle.std.proofs.lemmas.Bool.{cases_eq, eq-eqb, ne_eqb, lt-leb}
use Rattle.geometry.specs.declared.geometry.Geometry.{Geometry}
use Rattle.geometry.specs.Numbers.{head_slots}
use Rattle.table_model.specs.Table.{File}
use Rattle.table_model.specs.Room.{data_pages, index_pages}
use Rattle.image_model.specs.Headers.{span_of, size_of}
use Rattle.image_model.specs.Live.{Live, live_at, own}
use Rattle.image_model.specs.Tidy.{serves}
use Rattle.image_laws.specs.Spares.{leftover}
use Rattle.image_laws.proofs.Serving.{ceil-mono}
use Rattle.image_laws.proofs.TidySteps.{neat-but}
use Rattle.renew_laws.specs.Idles.{Idles}
use Rattle.renew_laws.specs.Primed.{Primed}
use Rattle.renew_laws.specs.Truncate.{is_past}
use Rattle.renew_laws.proofs.LeftPast.{left-is_past}
use Rattle.renew_laws.proofs.LiveServes.{served-or_spare}
use Rattle.image_model.specs.Within.{sizes}
use Rattle.page_renew.specs.declared.edits.Edit.TheVariants.{Cut}
use Rattle.page_renew.specs.Edits.{IsEdited}
use Rattle.page_renew.specs.EditLaws.{past_of, CutLeaves}
use Rattle.page_renew.specs.Renewals.{EditDone}
use Rattle.page_renew.proofs.EditsLead.{renewed_at, word_kept}
use Rattle.page_renew.proofs.Homes.{own_of}

-- the pages of an id at a place depend on the live page there
own_at : (old new : Live) (id q : ℕ) → new q ≡ old q → own new id q ≡ own old id q
unfolding own
own_at old new id q same = rw same refl

own_none : (live : Live) (id q : ℕ) → live q ≡ None → own live id q ≡ None
unfolding own
own_none live id q none = rw none refl

-- no page is left over where none is
left_none : (g : Geometry) (pages : Live) (head : List ℕ) (r : ℕ) → pages r ≡ None → leftover g pages head r ≡ false
unfolding leftover
left_none g pages head r none = rw none refl

-- a file has an index page at least
one_index : (g : Geometry) (size : ℕ) → 0 < index_pages g size
one_index g size = either (nat_lt (head_slots g) (data_pages g size)) refl
  where
    either : (b : Bool) → nat_lt (head_slots g) (data_pages g size) ≡ b → 0 < index_pages g size
    either true e = rw e (omega arith)
    either false e = rw e (omega arith)

module _ (g : Geometry) (a c : List ℕ) (id h : ℕ) (head : List ℕ) (f f' : File) (size : ℕ) (prime : Primed g id h head f (λ r. false) a a) (less : size ≤ size_of head) (done : EditDone g id (Cut size) f' a c) where
  at : done.o ≡ h
  at = (renewed_at g a c id h head f f' (λ (r : ℕ). false) (Cut size) prime done).0

  edited : IsEdited g head (Cut size) done.y
  edited = rw (renewed_at g a c id h head f f' (λ (r : ℕ). false) (Cut size) prime done).1 at done.edited

  now : size_of done.y ≡ size
  now = edited.size

  abbrev spare : ℕ → Bool
  spare r = not (r == done.o) && leftover g (own (live_at g a) id) done.y r

  abbrev past : ℕ → Bool
  past r = past_of (index_pages g size) (data_pages g size) (own (live_at g c) id r)

  fewer : (t : ℕ) → t < data_pages g size → t < data_pages g (size_of head)
  fewer t below = let most = ceil-mono size (size_of head) (g.page - 5) (omega (arith, (sizes g).page)) less in omega (arith, most, below)

  -- the old header page is gone
  old_gone : (r : ℕ) → r ≡ done.o → spare r ≡ past r
  old_gone r here =
      let gone : own (live_at g c) id r ≡ None = ap (own (live_at g c) id) here ∙ own_none (live_at g c) id done.o done.replaced.kill.loses.after in
      rw (eq-eqb r done.o here, gone) refl

  -- the new one is needed
  new_stays : (r : ℕ) → (r ≡ done.o → ⊥) → r ≡ done.to → spare r ≡ past r
  new_stays r there here =
      let head_is = done.renews.leads.is_head in
      let other : done.to ≢ done.o = λ e. there (here ∙ e) in
      let live : live_at g c done.to ≡ Some done.y = done.replaced.kill.loses.others done.to other ∙ done.replaced.put.gains.after in
      let is : own (live_at g c) id done.to ≡ Some done.y = subst (λ (n : ℕ). own (live_at g c) n done.to ≡ Some done.y) head_is.of (own_of (live_at g c) done.to done.y live) in
      let before : own (live_at g a) id r ≡ None = ap (own (live_at g a) id) here ∙ own_none (live_at g a) id done.to done.replaced.put.gains.before in
      let span : span_of done.y ≡ 0 = head_is.first in
      let low : nat_le (index_pages g size) 0 ≡ false = lt-leb (index_pages g size) 0 (one_index g size) in
      let left : leftover g (own (live_at g a) id) done.y r ≡ false = left_none g (own (live_at g a) id) done.y r before in
      let one : spare r ≡ false = rw (ne_eqb r done.o there, left) refl in
      let two : past r ≡ false = rw (here, is) (rw (head_is.index, span) low) in
      one ∙ sym two

  -- the others are as they were
  same_page : (r : ℕ) → (r ≡ done.o → ⊥) → (r ≡ done.to → ⊥) → own (live_at g c) id r ≡ own (live_at g a) id r
  same_page r there apart = own_at (live_at g a) (live_at g c) id r (done.replaced.kill.loses.others r there ∙ done.replaced.put.gains.others r apart)

  left_over : (r : ℕ) (o : Option (List ℕ)) → own (live_at g a) id r ≡ o → leftover g (own (live_at g a) id) done.y r ≡ past_of (index_pages g size) (data_pages g size) o
  left_over r None is = left_none g (own (live_at g a) id) done.y r is
  left_over r (Some x) is =
      let served : serves g (own (live_at g a) id) head r ≡ true = ⊎_elim (λ (s : false ≡ true). absurd (cc)) (λ (s : serves g (own (live_at g a) id) head r ≡ true). s) (served-or_spare g a (λ (q : ℕ). false) (neat-but prime.tidy) id h head prime.at prime.header r x is) in
      left-is_past g (own (live_at g a) id) head done.y (λ t later below. word_kept g head done.y (Cut size) edited t (fewer t (rw now at later)) (rw now at later) below) r x is served
      ∙ ap (λ (n : ℕ). is_past (index_pages g n) (data_pages g n) x) now

  same : (r : ℕ) → spare r ≡ past r
  same r =
      ⊎_elim
      (λ (here : r ≡ done.o). old_gone r here)
      (λ (there : r ≡ done.o → ⊥). ⊎_elim
      (λ (here : r ≡ done.to). new_stays r there here)
      (λ (apart : r ≡ done.to → ⊥). rw (ne_eqb r done.o there, same_page r there apart) (left_over r (own (live_at g a) id r) refl))
      (cases_eq r done.to))
      (cases_eq r done.o)

  pub leaves : Idles g past c
  leaves = subst (λ (t : ℕ → Bool). Idles g t c) (fun_ext same) done.idles

pub cut-leaves : (g : Geometry) → CutLeaves g
cut-leaves g a c id h head f f' size prime less done = leaves g a c id h head f f' size prime less done
