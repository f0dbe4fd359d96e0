-- What another name or other meta bytes leave of a file.
use Rattle.std.proofs.Common.{◌≡◌, ℕ, ◌+◌, ◌%◌, ◌<◌, List, true, false, min, Some, Ok, refl, sym, ◌∙◌, ap, subst, arith}
use Rattle.std.specs.Prelude.{slice_index, slice_range, nat_lt}
use Rattle.std.proofs.lemmas.Bool.{lt-ltb}
use Rattle.geometry.specs.declared.geometry.Geometry.{Geometry}
use Rattle.table_model.specs.Room.{data_pages}
use Rattle.table_model.specs.Table.{File, put_file}
use Rattle.image_model.specs.Headers.{size_of, name_of}
use Rattle.image_model.specs.Live.{live_at, own}
use Rattle.image_model.specs.Places.{IsImage}
use Rattle.image_model.specs.Tables.{table_of}
use Rattle.image_laws.specs.Programs.{LeadsTo, HasOneHead}
use Rattle.image_laws.proofs.Judge.{index_passes}
use Rattle.renew_laws.specs.Leads.{SameSpans}
use Rattle.renew_laws.proofs.Leading.{renamed-leads}
use Rattle.renew_laws.proofs.RenewTidy.{rename-tidies}
use Rattle.header_laws.specs.Heads.{HasHead}
use Rattle.header_laws.proofs.Telling.{files-have_heads, one-head}
use Rattle.flash_view.specs.Steps.{Finishes}
use Rattle.page_renew.specs.declared.edits.Edit.{Edit}
use Rattle.page_renew.specs.declared.edits.Edit.TheVariants.{Name, Meta, Cut, Grow, GrowBy}
use Rattle.page_renew.specs.Edits.{IsEdited, TakesNext}
use Rattle.page_renew.specs.PageSteps.{StepDone}
use Rattle.page_renew.specs.Renewals.{EditDone, CanEdit, renewing}
use Rattle.page_renew.specs.Restated.{restates, restated, CanRestate, restating}
use Rattle.page_renew.proofs.Trimmed.{edited_trims}

below : (t n : ℕ) → t < n → nat_lt t (min n n) ≡ true
below t n less = lt-ltb t (min n n) (omega (arith, less))

-- the edited header page has the same size and entries
same_spans : (g : Geometry) (head y : List ℕ) (edit : Edit) → restates edit ≡ true → IsEdited g head edit y → SameSpans g head y
same_spans g head y (Name name) kind edited = record {
  size = edited.size;
  words = λ t less slot. edited.entries t slot ∙ rw (below t (data_pages g (size_of head)) less) refl;
}
same_spans g head y (Meta meta) kind edited = record {
  size = edited.size;
  words = λ t less slot. edited.entries t slot ∙ rw (below t (data_pages g (size_of head)) less) refl;
}
same_spans g head y _ kind edited = absurd (let no : false ≡ true = kind in cc)

-- the name that it says, and the file that it leads to then
leads_name : (g : Geometry) (head y : List ℕ) (edit : Edit) (f : File) → restates edit ≡ true → IsEdited g head edit y → name_of head ≡ Some f.name → name_of y ≡ Some (restated edit f).name
leads_name g head y (Name name) f kind edited named = edited.name
leads_name g head y (Meta meta) f kind edited named = edited.name ∙ named
leads_name g head y _ f kind edited named = absurd (let no : false ≡ true = kind in cc)

is_restated : (g : Geometry) (head y : List ℕ) (id : ℕ) (edit : Edit) (f : File) → restates edit ≡ true → IsEdited g head edit y → f.id ≡ id → f.kind ≡ slice_index head 12 → f.meta ≡ slice_range head 45 (45 + g.meta) →
    record { id = id; name = (restated edit f).name; kind = slice_index y 12; meta = slice_range y 45 (45 + g.meta); bytes = f.bytes } ≡ restated edit f
is_restated g head y id (Name name) f kind edited same k m = rw (edited.kind, edited.meta, sym same, sym k, sym m) refl
is_restated g head y id (Meta meta) f kind edited same k m = rw (edited.kind, edited.meta, sym same, sym k) refl
is_restated g head y id _ f kind edited same k m = absurd (let no : false ≡ true = kind in cc)

-- such an edit names no further data page
takes_none : (g : Geometry) (edit : Edit) (size : ℕ) → restates edit ≡ true → TakesNext g edit size
takes_none g (Name name) size kind = tt
takes_none g (Meta meta) size kind = tt
takes_none g (Cut now) size kind = tt
takes_none g (Grow now) size kind = tt
takes_none g (GrowBy now pages) size kind = absurd (cc)

module _ (g : Geometry) (a : List ℕ) (id : ℕ) (edit : Edit) (f : File) (is : IsImage g a) (can : CanRestate g a id edit f) where
  h : HasHead g a id f
  h = files-have_heads g a is can.tidy id f can.there

  one : HasOneHead g a id h.p h.page
  one = one-head g a is can.tidy id h.p h.page h.at h.live

  leads : (y : List ℕ) → IsEdited g h.page edit y → LeadsTo g a id y (restated edit f)
  leads y edited = record {
    is_head = record { index = (let same = edited.id in rw same one.is_head.index); of = ap (λ (n : ℕ). n % 0x8000) edited.id ∙ one.is_head.of; first = edited.span ∙ one.is_head.first };
    low = one.low;
    high = one.high;
    file = (renamed-leads g (own (live_at g a) id) id h.page y (restated edit f).name f h.tells.whole (same_spans g h.page y edit can.kind edited) (leads_name g h.page y edit f can.kind edited h.tells.name)).0
        ∙ ap (λ (x : File). Ok x) (is_restated g h.page y id edit f can.kind edited h.tells.id_is h.tells.kind h.tells.meta);
    undamaged = can.tidy.undamaged;
    unused = can.unused;
  }

  can_edit : CanEdit g a id edit (restated edit f)
  can_edit = record { tidy = can.tidy; had = can.had; o = h.p; at = h.at; head = h.page; says = record { one = one; leads = leads; trims = λ y edited. edited_trims g h.page y edit (takes_none g edit (size_of h.page) can.kind) edited } }

  done : (b : List ℕ) → EditDone g id edit (restated edit f) a b → StepDone g (put_file (restated edit f) (table_of g a)) a b
  done b w =
      let same : h.p ≡ w.o = w.renews.only h.p (index_passes g (own (live_at g a) id) 0 h.p h.at) in
      let page : Some w.head ≡ Some h.page = sym w.renews.was ∙ ap (own (live_at g a) id) (sym same) ∙ one.is in
      let head : w.head ≡ h.page = cc in
      let edited : IsEdited g h.page edit w.y = subst (λ (x : List ℕ). IsEdited g x edit w.y) head w.edited in
      let spans : SameSpans g w.head w.y = subst (λ (x : List ℕ). SameSpans g x w.y) (sym head) (same_spans g h.page w.y edit can.kind edited) in
      let law = rename-tidies g a b w.to w.o id w.head w.y f (restated edit f) w.renews (h.at ∙ ap (λ (p : ℕ). Some p) same) (rw head h.tells.whole) spans w.replaced can.tidy in
      record { tidy = law.0; table = law.1; reserve = w.reserve }

  pub restates_by : Finishes g a a (renewing id edit (restated edit f)) (restating id edit f)
  restates_by = record { needs = can_edit; cut = λ c cut. cut; done = λ b ok w. done b w }
