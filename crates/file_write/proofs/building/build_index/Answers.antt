use Rattle.std.proofs.Common.{◌∙◌, arith}
use Rattle.page_renew.proofs.SlotNames.{slot_behind}
use Rattle.file_write.proofs.building.build_index.Goals as goal

pub returns-clause-erased : goal.returns-clause-erased
returns-clause-erased c = λ k low below.
    let from = slot_behind c.args.g.now c.args.span in
    c.name_data.ensures.others.after k low ∙ c.erase_part.ensures.ones k (omega (arith, from, low)) (let size = c.requires.page in omega (arith, below, size))
