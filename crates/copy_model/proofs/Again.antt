-- Copies that were cut, and given again.
use Rattle.std.proofs.Common.{◌≡◌, ◌∙◌, ◌⊎◌, List, Bool, Option, Some, None, inl, inr, ⊎_elim, subst, sym}
use Rattle.table_model.specs.Table.{File, file_named}
use Rattle.copy_model.specs.Copying.{working}
use Rattle.copy_model.specs.Under.{HasCopy, MayHave, HasNow, IsUnder, MayBeLeft, IsLeft, IsCopied}

may-left : (alike : Bool) (o first now under : Option File) → MayHave alike o first now under → MayBeLeft alike o first now
may-left alike None first now under may = may
may-left alike (Some f) first now under may = ⊎_elim (λ (none : (now ≡ None) × HasCopy alike f under). inl none.0) (λ (more : (now ≡ first) ⊎ HasCopy alike f now). inr more) may

-- what one copy may have left
pub under_left : (alike : Bool) (source first now : List File) → IsUnder alike source first now → IsLeft alike source first now
under_left alike source first now may = λ name other. may-left alike (file_named name source) (file_named name first) (file_named name now) (file_named working now) (may name other)

may-again : (alike : Bool) (o first mid now : Option File) → MayBeLeft alike o first mid → MayBeLeft alike o mid now → MayBeLeft alike o first now
may-again alike None first mid now before after = after ∙ before
may-again alike (Some f) first mid now before after = ⊎_elim
    (λ (none : now ≡ None). inl none)
    (λ (more : (now ≡ mid) ⊎ HasCopy alike f now). ⊎_elim
    (λ (same : now ≡ mid). subst (λ (x : Option File). (x ≡ None) ⊎ ((x ≡ first) ⊎ HasCopy alike f x)) (sym same) before)
    (λ (copy : HasCopy alike f now). inr (inr copy))
    more)
    after

has-again : (alike : Bool) (o first mid now : Option File) → MayBeLeft alike o first mid → HasNow alike o mid now → HasNow alike o first now
has-again alike None first mid now before after = after ∙ before
has-again alike (Some f) first mid now before after = after

pub left_again : (alike : Bool) (source first mid now : List File) → IsLeft alike source first mid → IsLeft alike source mid now → IsLeft alike source first now
left_again alike source first mid now before after = λ name other. may-again alike (file_named name source) (file_named name first) (file_named name mid) (file_named name now) (before name other) (after name other)

pub copied_again : (alike : Bool) (source first mid now : List File) → IsLeft alike source first mid → IsCopied alike source mid now → IsCopied alike source first now
copied_again alike source first mid now before after = record {
  each = λ name other. has-again alike (file_named name source) (file_named name first) (file_named name mid) (file_named name now) (before name other) (after.each name other);
  none = after.none;
}
