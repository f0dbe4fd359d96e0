use Rattle.page_renew.proofs.Says.{says_name, says_meta, says_size, by_size}
use Rattle.page_renew.proofs.edits.write_edit.Goals.{in-Cut, in-Cut-2}
use Rattle.page_renew.proofs.edits.write_edit.Goals as goal

pub returns-in-Name : goal.returns-in-Name
returns-in-Name c = λ h says. rw c.in-Name.is (says_name c.args.g.now h c.args.page.now c.put_name.new.page says c.in-Name.name.now c.put_name.ensures.others c.put_name.ensures.name)

pub returns-in-Meta : goal.returns-in-Meta
returns-in-Meta c = λ h says. rw c.in-Meta.is (says_meta c.args.g.now h c.args.page.now c.put_meta.new.page says c.in-Meta.meta.now c.put_meta.ensures.others c.put_meta.ensures.field)

pub returns-in-GrowBy : goal.returns-in-GrowBy
returns-in-GrowBy c = λ h says.
    rw c.in-GrowBy.is
    (c.name_next.ensures _
    (says_size c.args.g.now h c.args.page.now c.set_size.new.page says c.in-GrowBy.size c.set_size.ensures.others c.set_size.ensures.size))

pub returns-in-Cut : goal.returns-in-Cut
returns-in-Cut c = λ h says. elim c.in-Cut-1.branch [
  | in-Cut w ↦ by_size c.args.g.now h c.args.page.now c.set_size-in-Cut.new.page says c.args.edit c.args.count w.in-Cut.size _ w.in-Cut.is w.size-is c.set_size-in-Cut.ensures.others c.set_size-in-Cut.ensures.size
  | in-Cut-2 w ↦ by_size c.args.g.now h c.args.page.now c.set_size-in-Cut.new.page says c.args.edit c.args.count w.in-Cut.size _ w.in-Cut.is w.size-is c.set_size-in-Cut.ensures.others c.set_size-in-Cut.ensures.size
]
