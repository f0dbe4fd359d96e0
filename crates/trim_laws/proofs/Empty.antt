-- A tidy image without files has no header page.
use Rattle.std.proofs.Common.{◌≡◌, ℕ, ◌+◌, ◌%◌, ◌<◌, ◌≤◌, List, [], true, false, Option, Some, None, sym, ◌∙◌, ap, arith, ⊎_elim}
use Rattle.std.specs.Prelude.{is_some}
use Rattle.std.proofs.lemmas.Bool.{false≢true}
use Rattle.geometry.specs.declared.geometry.Geometry.{Geometry}
use Rattle.image_model.specs.Headers.{obj_id}
use Rattle.image_model.specs.Live.{live_at, own}
use Rattle.image_model.specs.Files.{judged}
use Rattle.image_model.specs.Tables.{table_of, records, has_of, counted}
use Rattle.image_model.specs.Tidy.{IsTidy, is_wanted}
use Rattle.image_laws.proofs.Finish.{own-parts, has_of-within}
use Rattle.image_laws.proofs.Judge.{found_from}
use Rattle.image_laws.proofs.Records.{filter_map-nil}
use Rattle.image_laws.proofs.SpareKill.{wanted-or_spare}
use Rattle.image_laws.proofs.TidySteps.{tidy-is_tidy, neat-but}
use Rattle.image_laws.proofs.Wants.{Wanted, wanted_parts}
use Rattle.trim_laws.specs.Trim.{IsTrim}

no_live : (g : Geometry) (image : List ℕ) → IsTidy g image → table_of g image ≡ [] → (p : ℕ) (x : List ℕ) → live_at g image p ≡ Some x → ⊥
unfolding table_of records is_wanted has_of
no_live g image tidy none p x live = ⊎_elim
    (λ (spare : false ≡ true). false≢true spare)
    (λ (wanted : is_wanted g image p ≡ true).
    let w : Wanted g (live_at g image) p = wanted_parts g (live_at g image) p wanted in
    let id : ℕ = obj_id w.page % 0x8000 in
    let has = found_from g (own (live_at g image) id) id w.h w.head w.at w.header in
    let inside = has_of-within g image id w.h (judged g (own (live_at g image) id) id w.head) has in
    let gone : counted (has_of g (live_at g image)) 0x7FFF (has_of g (live_at g image) id) ≡ None = filter_map-nil (λ (j : ℕ). counted (has_of g (live_at g image)) 0x7FFF (has_of g (live_at g image) j)) 1 0x7FFF none id inside.0 (omega (arith, inside.1)) in
    let there = w.in_table in
    false≢true (sym (ap is_some gone) ∙ there))
    (wanted-or_spare g image (λ (q : ℕ). false) (neat-but ((tidy-is_tidy g image (λ (q : ℕ). false)).0 tidy)) p x live)

pub empty_trims : (g : Geometry) (image : List ℕ) → IsTidy g image → table_of g image ≡ [] → IsTrim g image
empty_trims g image tidy none = record { each = λ p x live index. absurd (no_live g image tidy none p x live) }
