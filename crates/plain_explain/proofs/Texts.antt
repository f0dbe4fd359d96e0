-- What a block that lacks its magic or is mixed tells.
use Rattle.std.proofs.Common.{◌≡◌, ℕ, List, true, codes, refl}
use Rattle.geometry.specs.declared.geometry.Geometry.{Geometry}
use Rattle.plain_explain.specs.Report.{is_unfit, worth_text}

pub worth_unfit : (g : Geometry) (image : List ℕ) (block : ℕ) → is_unfit g image block ≡ true → worth_text g image block ≡ codes " worth - fits - score -"
unfolding worth_text
worth_unfit g image block e = rw e refl
