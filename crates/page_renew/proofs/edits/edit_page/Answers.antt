use Rattle.page_renew.proofs.Edited.{edited_by}
use Rattle.page_renew.proofs.edits.edit_page.Goals as goal

pub returns-clause-edited : goal.returns-clause-edited
returns-clause-edited c =
    edited_by c.args.g.now c.args.page.now c.copy_index.new.page c.write_edit.new.page c.args.edit c.file_size-size.result c.data_pages-count.result c.new_size.result c.data_pages-later.result c.min.result c.kept_slots.result
    c.file_size-size.ensures c.data_pages-count.ensures.pages c.new_size.ensures c.data_pages-later.ensures.pages c.min.ensures c.kept_slots.ensures.kept c.requires.page c.copy_index.ensures.copy c.write_edit.ensures
