-- Names of pages that were carried leave a header page as it was behind those of its file.
use Rattle.std.proofs.Common.{◌≡◌, ℕ, ◌+◌, ◌*◌, ◌<◌, List, [], ◌∷◌, ap, sym, ◌∙◌, subst, arith}
use Rattle.std.specs.Prelude.{All}
use Rattle.geometry.specs.declared.geometry.Geometry.{Geometry}
use Rattle.nor_core.specs.Flash.{SameOutside}
use Rattle.table_model.specs.Room.{data_pages}
use Rattle.image_model.specs.Files.{slot_at, index_span}
use Rattle.image_model.specs.Headers.{size_of}
use Rattle.trim_laws.specs.Trim.{IsTrimmed}
use Rattle.trim_laws.proofs.Pages.{named_trimmed, named_size}
use Rattle.room_laws.proofs.OnTheWay.{all_head, all_tail}
use Rattle.page_renew.proofs.Trimmed.{slot_near}
use Rattle.block_gc.specs.Batches.{Carried}
use Rattle.block_gc.specs.Batches.{AreNamed}

module _ (g : Geometry) (span : ℕ) (zero : span ≡ 0) (y : List ℕ) where
  -- one of the file's spans, whose entry the header page has
  abbrev Near : Carried → Type 0
  Near c = (c.span < data_pages g (size_of y)) × (index_span g c.span ≡ span)

  pub names_trimmed : (cs : List Carried) (z : List ℕ) → AreNamed g y cs z → All Near cs → IsTrimmed g y → IsTrimmed g z × (size_of z ≡ size_of y)
  unfolding AreNamed
  names_trimmed [] z named all was = (subst (λ (l : List ℕ). IsTrimmed g l) (sym named) was, ap size_of named)
  names_trimmed (c ∷ cs) z named all was =
      let rest = names_trimmed cs named.0 named.1 (all_tail Near c cs all) was in
      let one = all_head Near c cs all in
      let place : slot_at g c.span ≡ 45 + g.meta + 2 * c.span = slot_near g c.span (one.1 ∙ zero) in
      let same : SameOutside (45 + g.meta + 2 * c.span) 2 named.0 z = subst (λ (n : ℕ). SameOutside n 2 named.0 z) place named.2.others in
      let pages : data_pages g (size_of named.0) ≡ data_pages g (size_of y) = ap (λ (n : ℕ). data_pages g n) rest.1 in
      let low = one.0 in
      (named_trimmed g named.0 z c.span (omega (arith, pages, low)) same rest.0, named_size g named.0 z c.span same ∙ rest.1)
