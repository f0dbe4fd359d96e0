-- An index page that is built is put in the place of another.
use Rattle.std.proofs.Common.{◌≡◌, ℕ, ◌<◌, ◌≤◌, List, length, set, slice_index, ap, refl, sym, ◌∙◌, arith, ⊎_elim, inr, subst, length-set, get_or-set_same, get_or-set_other}
use Rattle.std.proofs.lemmas.Bool.{cases_eq}
use Rattle.geometry.specs.declared.geometry.Geometry.{Geometry}
use Rattle.table_model.specs.declared.error.Tag.{Tag}
use Rattle.flash_view.specs.declared.kinds.Kind.TheVariants.{Index}
use Rattle.image_model.specs.Within.{sizes}
use Rattle.image_laws.specs.LiveSteps.{KillLeaves, KillDone}
use Rattle.image_laws.specs.Put.{IsReadyPage}
use Rattle.renew_laws.specs.Replace.{ReplaceCut, Replaced}
use Rattle.page_put.specs.Placing.{placed_page}
use Rattle.page_put.proofs.Putting.{ready}

-- what is done is one of the cuts
pub kill_left : {g : Geometry} {o : ℕ} {a b : List ℕ} → KillDone g o a b → KillLeaves g o a b
kill_left done = record { image = done.image; agree = done.agree; live = inr done.loses; used = rw done.zero refl }

pub replace_left : {g : Geometry} {p o : ℕ} {page a b : List ℕ} → Replaced g p o page a b → ReplaceCut g p o page a b
replace_left all = inr (all.middle, all.put, kill_left all.kill)

-- it is ready to be put
pub index_ready : (g : Geometry) (tag : Tag) (work y : List ℕ) → placed_page g Index tag work ≡ set y 4 0xFA → length y ≡ g.page → ((k : ℕ) → k < g.page → slice_index y k < 256) → (1 ≤ tag.id) × (tag.id ≤ 0x7FFE) →
    IsReadyPage g (placed_page g Index tag work) 0xF8
index_ready g tag work y is len small id =
    let big : 128 ≤ g.page = (sizes g).page in
    let four : slice_index (set y 4 0xFA) 4 ≡ 0xFA = get_or-set_same y 4 0xFA 0 (omega (arith, big, len)) in
    ready g Index tag work (ap length is ∙ length-set y 4 0xFA ∙ len)
    (λ i within. subst (λ (l : List ℕ). slice_index l i < 256) (sym is)
    (⊎_elim
    (λ (here : i ≡ 4). rw here (rw four (omega arith)))
    (λ (there : i ≡ 4 → ⊥). rw (get_or-set_other y 4 i 0xFA 0 there) (small i within))
    (cases_eq i 4)))
    id.0 id.1
