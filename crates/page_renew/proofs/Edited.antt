-- A header page with an edit done, from the calls that make it.
use Rattle.std.proofs.Common.{◌≡◌, ℕ, ◌+◌, ◌*◌, ◌<◌, ◌≤◌, List, ◌++◌, length, take, min, slice_index, ap, ◌∙◌, arith, subst}
use Rattle.std.proofs.lemmas.List.{take_at, get_or_append_left}
use Rattle.geometry.specs.declared.geometry.Geometry.{Geometry}
use Rattle.table_model.specs.Room.{data_pages}
use Rattle.image_model.specs.Within.{sizes}
use Rattle.image_model.specs.Headers.{size_of}
use Rattle.image_model.specs.Places.{page_of}
use Rattle.image_laws.proofs.Placing.{page_byte}
use Rattle.page_renew.specs.declared.edits.Edit.{Edit}
use Rattle.page_renew.specs.Copies.{kept_of, IsCopy}
use Rattle.page_renew.specs.Edits.{Header, Says, edited, edited_size, IsEdited, HasEdited}
use Rattle.page_renew.proofs.Says.{says_copy}

pub edited_by : (g : Geometry) (x c y : List ℕ) (edit : Edit) (size count now later least kept : ℕ) → size ≡ size_of x → count ≡ data_pages g size → now ≡ edited_size edit size → later ≡ data_pages g now → least ≡ min count later → kept ≡ kept_of g 0 least →
    length x ≡ g.page → IsCopy g 0 kept x c → ((h : Header) → Says g h c → Says g (edited edit count h) y) → IsEdited g x edit y
edited_by g x c y edit size count now later least kept is_size is_count is_now is_later is_least is_kept len copy writes =
    let count_is : count ≡ data_pages g (size_of x) = is_count ∙ ap (data_pages g) is_size in
    let later_is : later ≡ data_pages g (edited_size edit (size_of x)) = is_later ∙ ap (data_pages g) (is_now ∙ ap (edited_size edit) is_size) in
    let says = writes _ (says_copy g least x c len (subst (λ (k : ℕ). IsCopy g 0 k x c) is_kept copy)) in
    rw (← count_is, ← later_is, ← is_least) says

pub has_edited : (g : Geometry) (image : List ℕ) (header : ℕ) (edit : Edit) (n : ℕ) (loaded page rest : List ℕ) → take g.page loaded ≡ page_of g image header → n ≡ g.page → IsEdited g (take n loaded) edit page →
    ((k : ℕ) → slice_index (take n loaded) k < 256) → ((k : ℕ) → slice_index page k < 256) → HasEdited g image header edit (page ++ rest)
has_edited g image header edit n loaded page rest same whole edited old small =
    let big : 128 ≤ g.page = (sizes g).page in
    let cut : take g.page (page ++ rest) ≡ page = take_at page rest g.page edited.len in
    let from : take n loaded ≡ page_of g image header = ap (λ (m : ℕ). take m loaded) whole ∙ same in
    record {
      edited = rw cut (subst (λ (l : List ℕ). IsEdited g l edit page) from edited);
      small = λ k below. rw (get_or_append_left page rest 0 k (omega (arith, below, edited.len))) (small k);
      flags = let here : slice_index (page_of g image header) 4 ≡ slice_index image (header * g.page + 4) = page_byte g image header 4 (omega arith) in
          rw (← here, ← from) (old 4);
    }
