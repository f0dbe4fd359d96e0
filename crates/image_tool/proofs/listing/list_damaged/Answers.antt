use Rattle.std.proofs.Common.{◌≡◌, ◌∙◌, sym, ap, ℕ, List, [], ◌++◌, length, append-nil}
use Rattle.image_model.specs.declared.damage.Damage.{Damage}
use Rattle.image_model.specs.Tables.{damaged_of}
use Rattle.nor_core.proofs.Cuts.{reads_none}
use Rattle.image_tool.specs.Parts.{lines_of, text_of}
use Rattle.image_tool.specs.Texts.{damage_lines}
use Rattle.image_tool.specs.declared.listing.Part.TheVariants.{Damaged}
use Rattle.image_tool.proofs.Found.{damages_text, damages_many}
use Rattle.image_tool.proofs.Sound.{no_damages_text}
use Rattle.image_tool.proofs.Speaking.{says_none}
use Rattle.flash_view.proofs.Looking.{same_none}
use Rattle.image_tool.proofs.listing.list_damaged.Goals as goal

pub returns-then-none_damaged-clause-says : goal.returns-then-none_damaged-clause-says
returns-then-none_damaged-clause-says g c = says_none _ (reads_none c.args.v.now.nor.now)

pub returns-then-none_damaged-clause-count : goal.returns-then-none_damaged-clause-count
returns-then-none_damaged-clause-count g c = λ tells.
    let v = c.args.v.now in
    sym (damages_many v.geometry (g.B.NorState.bytes v.nor.now) ∙ ap (λ (ds : List (ℕ × Damage)). length ds) ((c.none_damaged.ensures tells).0 c.if-none_damaged.true))

pub returns-then-none_damaged-clause-whole : goal.returns-then-none_damaged-clause-whole
returns-then-none_damaged-clause-whole g c = λ tells.
    let v = c.args.v.now in
    let image = g.B.NorState.bytes v.nor.now in
    sym (append-nil (g.B.NorState.said v.nor.now)) ∙ ap (λ (l : List ℕ). g.B.NorState.said v.nor.now ++ l) (sym (no_damages_text v.geometry image ((c.none_damaged.ensures tells).0 c.if-none_damaged.true)))

pub returns-then-none_damaged-clause-same : goal.returns-then-none_damaged-clause-same
returns-then-none_damaged-clause-same g c = same_none c.args.v.now
