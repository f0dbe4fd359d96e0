-- A renewed header page that all pages of its file serve leaves the image tidy.
use Rattle.std.proofs.Common.{◌≡◌, ℕ, true, false, not, ◌==◌, ◌&&◌, ◌∙◌, ⊎_elim}
use Rattle.std.proofs.lemmas.Bool.{and_parts}
use Rattle.geometry.specs.declared.geometry.Geometry.{Geometry}
use Rattle.image_model.specs.Live.{live_at, own}
use Rattle.image_model.specs.Tidy.{serves}
use Rattle.image_laws.specs.Spares.{leftover}
use Rattle.image_laws.proofs.SpareKill.{spares-end}
use Rattle.image_laws.proofs.TidySteps.{neat-but, tidy-is_tidy}
use Rattle.renew_laws.specs.Append.{RenewedTidies}
use Rattle.renew_laws.specs.Leads.{RenameTidies}
use Rattle.renew_laws.specs.Renew.{NoneLeft}
use Rattle.renew_laws.proofs.LiveServes.{served-or_spare}
use Rattle.renew_laws.proofs.Leading.{no_leftover, serves-renamed}
use Rattle.renew_laws.proofs.RenewStep.{renewed-spares}

pub none-left : (g : Geometry) → NoneLeft g
none-left g a o id old head before t at header beside on r e =
    no_leftover g (own (live_at g a) id) head r
    (λ x k. ⊎_elim (λ (b : before r ≡ true). beside r b) (λ (s : serves g (own (live_at g a) id) old r ≡ true). on r s) (served-or_spare g a before (neat-but t) id o old at header r x k))
    e

pub renewed-tidies : (g : Geometry) → RenewedTidies g
renewed-tidies g a b p o id old head f before start at all t beside on =
    let w = renewed-spares g a b p o id old head f before start all t (λ r e. (beside r e).0) in (
      spares-end g b (λ (r : ℕ). not (r == o) && leftover g (own (live_at g a) id) head r)
          (λ r e. let v : (not (r == o) ≡ true) × (leftover g (own (live_at g a) id) head r ≡ true) = and_parts (not (r == o)) _ e in none-left g a o id old head before t at start.was (λ q b. (beside q b).1) on r v.1)
          w.0,
      w.1,
    )

pub rename-tidies : (g : Geometry) → RenameTidies g
rename-tidies g a b p o id old head f0 f start at file spans all t =
    renewed-tidies g a b p o id old head f (λ (r : ℕ). false) start at all ((tidy-is_tidy g a (λ (r : ℕ). false)).0 t) (λ r none. let bad : false ≡ true = none in absurd (cc))
    (λ r e. serves-renamed g (own (live_at g a) id) old head spans r ∙ e)
