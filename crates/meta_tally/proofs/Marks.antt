-- Marks of header pages by their names.
use Rattle.std.proofs.Common.{◌≡◌, ◌≢◌, ℕ, ◌<◌, ◌&&◌, List, true, false, Option, Some, None, slice_index, ap, refl, sym, ◌∙◌, arith}
use Rattle.std.specs.Prelude.{is_some}
use Rattle.std.proofs.lemmas.Bool.{false≢true, false_from_ne_true}
use Rattle.geometry.specs.declared.geometry.Geometry.{Geometry}
use Rattle.geometry.specs.Numbers.{page_count}
use Rattle.image_model.specs.Places.{page_of}
use Rattle.image_model.specs.Headers.{name_of}
use Rattle.image_laws.proofs.Records.{bytes_same, bytes_equal}
use Rattle.plain_image.specs.Leading.{is_text}
use Rattle.meta_tally.specs.Heads.{head_at}
use Rattle.meta_tally.specs.Names.{name_mark, mark_by, mark_at, IsMarked, is_named_at}

pub mark_some : (name : List ℕ) → name_mark name ≡ 0 → ⊥
unfolding name_mark
mark_some name e = absurd (omega (arith, e))

by_mark : (o : Option ℕ) (n : Option (List ℕ)) (name : List ℕ) → mark_by o n ≡ name_mark name → is_some o ≡ true
by_mark None n name e = absurd (mark_some name (sym e))
by_mark (Some id) None name e = absurd (mark_some name (sym e))
by_mark (Some id) (Some other) name e = refl

by_name : (o : Option ℕ) (n : Option (List ℕ)) (name : List ℕ) → (is_some o && is_text n name) ≡ true → mark_by o n ≡ name_mark name
by_name None n name e = absurd (false≢true e)
by_name (Some id) None name e = absurd (false≢true e)
by_name (Some id) (Some other) name e = ap (λ (x : List ℕ). name_mark x) (bytes_same other name e)

some_name : (o : Option ℕ) (n : Option (List ℕ)) → mark_by o n ≢ 0 → (name : List ℕ) × (is_some o ≡ true) × (n ≡ Some name)
some_name None n e = absurd (e refl)
some_name (Some id) None e = absurd (e refl)
some_name (Some id) (Some name) e = (name, refl, refl)

module _ (g : Geometry) (image marks : List ℕ) (p : ℕ) (name : List ℕ) (are : IsMarked g image marks) (low : p < page_count g) where
  -- with the mark of a name a page is a header page with that name where its bytes say so
  pub named_is : slice_index marks p ≡ name_mark name → is_named_at g image name p ≡ is_text (name_of (page_of g image p)) name
  unfolding is_named_at mark_at
  named_is is = let some = by_mark (head_at g image p) (name_of (page_of g image p)) name (sym (are.each p low) ∙ is) in rw some refl

  -- with another mark it is none
  pub other_mark : slice_index marks p ≢ name_mark name → is_named_at g image name p ≡ false
  unfolding is_named_at mark_at
  other_mark differ = false_from_ne_true _ (λ yes. differ (are.each p low ∙ by_name (head_at g image p) (name_of (page_of g image p)) name yes))

-- a marked page is a header page that has a name
pub marked_name : (g : Geometry) (image marks : List ℕ) (p : ℕ) → IsMarked g image marks → p < page_count g → slice_index marks p ≢ 0 → (name : List ℕ) × (is_some (head_at g image p) ≡ true) × (name_of (page_of g image p) ≡ Some name)
unfolding mark_at
marked_name g image marks p are low some = some_name (head_at g image p) (name_of (page_of g image p)) (λ none. some (are.each p low ∙ none))

pub named_at : (g : Geometry) (image : List ℕ) (p : ℕ) (name : List ℕ) → is_some (head_at g image p) ≡ true → name_of (page_of g image p) ≡ Some name → is_named_at g image name p ≡ true
unfolding is_named_at
named_at g image p name head is = rw (head, is) (bytes_equal name)
