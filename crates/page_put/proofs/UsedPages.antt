-- A live page has an entry, and this isn't free.
use Rattle.std.proofs.Common.{◌≡◌, ℕ, List, true, false, sym, ◌∙◌}
use Rattle.std.specs.Prelude.{Some}
use Rattle.geometry.specs.declared.geometry.Geometry.{Geometry}
use Rattle.image_model.specs.Live.{live_at}
use Rattle.image_model.specs.Within.{page_number, behind}
use Rattle.image_laws.proofs.Frames.{live_parts}
use Rattle.image_laws.proofs.Tally.{is_finished-ones}
use Rattle.page_put.specs.Recount.{IsUsedPage}

pub live_used : (g : Geometry) (image : List ℕ) (p : ℕ) (page : List ℕ) → live_at g image p ≡ Some page → IsUsedPage g image p
live_used g image p page live =
    let w = live_parts g image p page live in
    record {
      entry = record { below = page_number g p w.entry_page; behind = behind g p w.entry_page };
      used = λ ones. let bad : false ≡ true = sym (is_finished-ones page (sym w.entry ∙ ones)) ∙ w.finished in absurd (cc);
    }
