-- The kind of a live page.
use Rattle.std.specs.Prelude.{◌≡◌, List, ℕ, Option, Some, None, true}
use Rattle.image_model.specs.Kinds.{is_index_page, is_data_page}
use Rattle.flash_view.specs.declared.kinds.Kind.{Kind}
use Rattle.flash_view.specs.declared.kinds.Kind.TheVariants.{Index, Data}

-- what is live at a page is of that kind, or nothing is
abbrev pub IsKindAt : Option (List ℕ) → Option Kind → Type 0
IsKindAt page None = page ≡ None
IsKindAt page (Some Index) = is_index_page page ≡ true
IsKindAt page (Some Data) = is_data_page page ≡ true
