-- An image stays tidy where bytes are appended to a file.
use Rattle.std.proofs.Common.{◌≡◌, ℕ, ◌%◌, List, true, Some, ap, refl, sym, ◌∙◌, ⊎_elim}
use Rattle.std.proofs.lemmas.Bool.{cases_eq}
use Rattle.std.proofs.lemmas.Option.{same_Some}
use Rattle.geometry.specs.declared.geometry.Geometry.{Geometry}
use Rattle.image_model.specs.Live.{live_at}
use Rattle.image_model.specs.Headers.{obj_id, names_index}
use Rattle.image_model.specs.Places.{page_of, is_entry_page}
use Rattle.image_model.specs.Within.{sizes}
use Rattle.renew_laws.proofs.ReserveKept.{kill-reserve}
use Rattle.renew_laws.specs.Append.{AppendingTidies, AppendingIsSound}
use Rattle.image_laws.proofs.Append.{append_wide, append_kind, append_now, append_first, append_header, append_serves, append_has, own-some, appending-keeps}
use Rattle.image_laws.proofs.Frames.{live_parts, live-page_other}
use Rattle.image_laws.proofs.Finish.{own-parts}
use Rattle.image_laws.proofs.TidySteps.{agree_page}
use Rattle.image_laws.proofs.Sounding.{sound-by}
use Rattle.renew_laws.proofs.StayTidy.{stays-tidy}

pub appending-tidies : (g : Geometry) → AppendingTidies g
appending-tidies g a b p h at asked x head spare is t live no_index first header low high torn =
    stays-tidy g a b p (obj_id x % 0x8000) h x (page_of g b p) head head
    (append_wide g a b p h at asked x head is live no_index first header low high torn.outside)
    (own-some (live_at g a) (obj_id x % 0x8000) p x live refl)
    (append_now g a b p h at asked x head is live no_index first header low high torn.outside)
    (append_kind g a b p h at asked x head is live no_index first header low high torn.outside)
    first header
    (append_first g a b p h at asked x head is live no_index first header low high torn.outside)
    (append_header g a b p h at asked x head is live no_index first header low high torn.outside)
    (append_has g a b p h at asked x head is live no_index first header low high torn.outside)
    (append_serves g a b p h at asked x head is live no_index first header low high torn.outside)
    spare t

pub appending-is_sound : (g : Geometry) → AppendingIsSound g
appending-is_sound g a b p h at asked x head is m live no_index first header low high torn =
    let wide = append_wide g a b p h at asked x head is live no_index first header low high torn.outside in
    let kind = append_kind g a b p h at asked x head is live no_index first header low high torn.outside in
    let now = (own-parts (live_at g b) (obj_id x % 0x8000) p (page_of g b p) (append_now g a b p h at asked x head is live no_index first header low high torn.outside)).0 in
    let entry_page : is_entry_page g p ≡ true = (live_parts g a p x live).entry_page in
    let back : (q : ℕ) (z : List ℕ) → live_at g b q ≡ Some z → (w : List ℕ) × (live_at g a q ≡ Some w) × (names_index w ≡ names_index z) =
    λ q z e. ⊎_elim
    (λ (k : q ≡ p).
    let new : z ≡ page_of g b p = same_Some z (page_of g b p) (sym e ∙ ap (live_at g b) k ∙ now) in
    (x, ap (live_at g a) k ∙ live, sym kind ∙ ap names_index (sym new)))
    (λ (k : q ≡ p → ⊥). (z, sym (live-page_other g (sizes g) a b p entry_page wide q k) ∙ e, refl))
    (cases_eq q p) in
    let agree = agree_page g a b p (sizes g) entry_page wide in
    let kept = appending-keeps g a b p h at asked x head is live no_index first header low high torn in (
      record {
        sound = sound-by g a b m agree.magic
            (λ c i.
            let u = back i.p i.x i.p_is in
            let v = back i.q i.y i.q_is in
            record { p = i.p; q = i.q; x = u.0; y = v.0; p_at = i.p_at; q_at = i.q_at; p_is = u.1; q_is = v.1; names = u.2 ∙ i.names; holds = v.2 ∙ i.holds })
            kept.1;
        table = kept.0;
      },
      kill-reserve g a b p x live agree,
    )
