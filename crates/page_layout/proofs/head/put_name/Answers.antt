use Rattle.std.proofs.Common.{refl, ◌∙◌}
use borrow.Rule.Slice.PartMut.{put_mid}
use Rattle.page_layout.proofs.Parts.{part_written, part_is, padded_name}
use Rattle.page_layout.proofs.head.put_name.Goals as goal

pub returns-clause-field : goal.returns-clause-field
returns-clause-field c = part_is 13 32 32 c.args.page.now _ c.requires.page refl c.fill_name.ensures.len ∙ c.fill_name.ensures.padded

pub returns-clause-name : goal.returns-clause-name
returns-clause-name c = padded_name (put_mid 13 32 c.args.page.now c.fill_name.new.field) c.args.name.now (returns-clause-field c) c.requires.some c.requires.few c.requires.no_zero

pub returns-clause-others : goal.returns-clause-others
returns-clause-others c = part_written 13 32 32 c.args.page.now _ c.requires.page refl c.fill_name.ensures.len
