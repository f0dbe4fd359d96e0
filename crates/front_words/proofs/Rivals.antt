-- No two volumes that were found are both the one of which no other leaves doubt.
use Rattle.std.proofs.Common.{◌≡◌, ◌<◌, ◌≤◌, ◌⊎◌, ◌==◌, true, false, refl, sym, ◌∙◌, inl, inr, ⊎_elim, arith}
use Rattle.std.specs.Prelude.{not, ◌&&◌, ◌||◌, nat_lt, Some}
use Rattle.std.proofs.lemmas.Bool.{false≢true, and_parts, or_cases, not-true, eqb-true, eq-eqb, ltb-true, leb-true}
use Rattle.geometry.specs.declared.magic.MagicKind.{MagicKind}
use Rattle.geometry.specs.declared.magic.MagicKind.TheVariants.{Plain, Length}
use Rattle.front_words.specs.declared.settling.Candidate.{Candidate}
use Rattle.front_words.specs.Settling.{fits_magic, same_numbers, lies_in, reads_none, reads_worse, is_coarser, no_rival}

magic_back : (a b : MagicKind) → fits_magic (Some b) a ≡ true → fits_magic (Some a) b ≡ true
magic_back Plain Plain h = refl
magic_back Length Length h = refl
magic_back Plain Length h = absurd (false≢true h)
magic_back Length Plain h = absurd (false≢true h)

same_back : (c d : Candidate) → same_numbers d c ≡ true → same_numbers c d ≡ true
same_back c d h =
    let magic = and_parts _ _ h in
    let blocks = and_parts _ _ magic.0 in
    let block = and_parts _ _ blocks.0 in
    let page = and_parts _ _ block.0 in
    rw (eq-eqb c.at d.at (sym (eqb-true d.at c.at page.0)))
    (rw (eq-eqb c.page d.page (sym (eqb-true d.page c.page page.1)))
    (rw (eq-eqb c.block d.block (sym (eqb-true d.block c.block block.1)))
    (rw (eq-eqb c.blocks d.blocks (sym (eqb-true d.blocks c.blocks blocks.1)))
    (magic_back c.magic d.magic magic.1))))

none_less : (c d : Candidate) → reads_none d c ≡ true → d.whole < c.whole
none_less c d h =
    let reads = and_parts _ _ (and_parts _ _ h).0 in
    let some = ltb-true 0 c.whole reads.0 in
    let none = eqb-true d.whole 0 reads.1 in
    omega (arith, some, none)

worse_less : (c d : Candidate) → reads_worse d c ≡ true → d.whole < c.whole
worse_less c d h = ltb-true d.whole c.whole (and_parts _ _ (and_parts _ _ h).0).1

-- it reads less, lies within, or has longer blocks
abbrev Behind : (c d : Candidate) → Type 0
Behind c d = (d.whole < c.whole) ⊎ (((lies_in d c ≡ true) × (lies_in c d ≡ false)) ⊎ (is_coarser d c ≡ true))

behind : (c d : Candidate) → no_rival c d ≡ true → (same_numbers c d ≡ true) ⊎ Behind c d
behind c d h = ⊎_elim
    (λ (first : (same_numbers c d || reads_none d c || reads_worse d c || (lies_in d c && not (lies_in c d))) ≡ true). ⊎_elim
    (λ (second : (same_numbers c d || reads_none d c || reads_worse d c) ≡ true). ⊎_elim
    (λ (third : (same_numbers c d || reads_none d c) ≡ true). ⊎_elim
    (λ (same : same_numbers c d ≡ true). inl same)
    (λ (none : reads_none d c ≡ true). inr (inl (none_less c d none)))
    (or_cases _ _ third))
    (λ (worse : reads_worse d c ≡ true). inr (inl (worse_less c d worse)))
    (or_cases _ _ second))
    (λ (lies : (lies_in d c && not (lies_in c d)) ≡ true). let w = and_parts _ _ lies in inr (inr (inl (w.0, not-true (lies_in c d) w.1))))
    (or_cases _ _ first))
    (λ (coarse : is_coarser d c ≡ true). inr (inr (inr coarse)))
    (or_cases _ _ h)

fewer : (c d : Candidate) → lies_in d c ≡ true → d.whole ≤ c.whole
fewer c d h = leb-true d.whole c.whole (and_parts _ _ h).1

coarse_lies : (c d : Candidate) → is_coarser d c ≡ true → lies_in d c ≡ true
coarse_lies c d h = (and_parts _ _ h).1

coarse_block : (c d : Candidate) → is_coarser d c ≡ true → c.block < d.block
coarse_block c d h = ltb-true c.block d.block (and_parts _ _ (and_parts _ _ (and_parts _ _ (and_parts _ _ h).0).0).0).0

no_more : (c d : Candidate) → Behind c d → d.whole ≤ c.whole
no_more c d h = ⊎_elim
    (λ (less : d.whole < c.whole). omega (arith, less))
    (λ (more : ((lies_in d c ≡ true) × (lies_in c d ≡ false)) ⊎ (is_coarser d c ≡ true)). ⊎_elim
    (λ (lies : (lies_in d c ≡ true) × (lies_in c d ≡ false)). fewer c d lies.0)
    (λ (coarse : is_coarser d c ≡ true). fewer c d (coarse_lies c d coarse))
    more)
    h

-- two that lie in one another, each with longer blocks or not within the other
abbrev Within : (c d : Candidate) → Type 0
Within c d = ((lies_in d c ≡ true) × (lies_in c d ≡ false)) ⊎ (is_coarser d c ≡ true)

crossed : (c d : Candidate) → Within c d → Within d c → ⊥
crossed c d first second = ⊎_elim
    (λ (lies : (lies_in d c ≡ true) × (lies_in c d ≡ false)). ⊎_elim
    (λ (back : (lies_in c d ≡ true) × (lies_in d c ≡ false)). false≢true (sym lies.1 ∙ back.0))
    (λ (coarse : is_coarser c d ≡ true). false≢true (sym lies.1 ∙ coarse_lies d c coarse))
    second)
    (λ (coarse : is_coarser d c ≡ true). ⊎_elim
    (λ (back : (lies_in c d ≡ true) × (lies_in d c ≡ false)). false≢true (sym back.1 ∙ coarse_lies c d coarse))
    (λ (other : is_coarser c d ≡ true). let one = coarse_block c d coarse in let two = coarse_block d c other in omega (arith, one, two))
    second)
    first

never : (c d : Candidate) → Behind c d → Behind d c → ⊥
never c d first second = ⊎_elim
    (λ (less : d.whole < c.whole). let more = no_more d c second in omega (arith, less, more))
    (λ (one : Within c d). ⊎_elim
    (λ (less : c.whole < d.whole). let more = no_more c d first in omega (arith, less, more))
    (λ (other : Within d c). crossed c d one other)
    second)
    first

pub sure_is_one : (c d : Candidate) → no_rival c d ≡ true → no_rival d c ≡ true → same_numbers c d ≡ true
sure_is_one c d first second = ⊎_elim
    (λ (same : same_numbers c d ≡ true). same)
    (λ (one : Behind c d). ⊎_elim (λ (same : same_numbers d c ≡ true). same_back c d same) (λ (other : Behind d c). absurd (never c d one other)) (behind d c second))
    (behind c d first)
