use Rattle.page_renew.proofs.Copies.{further_copy, header_copy}
use Rattle.page_renew.proofs.copying.copy_index.Goals.{then-span-eq0, else-span-eq0}
use Rattle.page_renew.proofs.copying.copy_index.Goals as goal

pub returns-clause-copy : goal.returns-clause-copy
returns-clause-copy c = elim c.if-span-eq0.branch [
  | then-span-eq0 w ↦ header_copy c.args.g.now c.args.span c.args.kept c.slots_end-end.result c.page-len.result c.args.page.now c.erase_part.new.bytes w.pad_name.new.page c.erase_part-2.new.bytes
      c.page-len.ensures c.slots_end-end.ensures.within c.slots_end-end.ensures.from c.slots_end-end.ensures.place c.erase_part.ensures.others c.erase_part.ensures.ones
      (rw w.page-is at c.erase_part-2.ensures.others) c.erase_part-2.ensures.ones w.if-span-eq0.true w.pad_name.ensures.others w.pad_name.ensures.name w.pad_name.ensures.padding
  | else-span-eq0 w ↦ further_copy c.args.g.now c.args.span c.args.kept c.slots_end-end.result c.page-len.result c.args.page.now c.erase_part.new.bytes c.if-span-eq0.page c.erase_part-2.new.bytes
      c.page-len.ensures c.slots_end-end.ensures.within c.slots_end-end.ensures.from c.slots_end-end.ensures.place c.erase_part.ensures.others c.erase_part.ensures.ones
      c.erase_part-2.ensures.others c.erase_part-2.ensures.ones w.if-span-eq0.false w.page-is
]
