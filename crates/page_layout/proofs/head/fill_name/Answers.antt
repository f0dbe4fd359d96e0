use Rattle.page_layout.proofs.Parts.{zeros_written}
use Rattle.page_layout.proofs.head.fill_name.Goals as goal

pub returns-clause-padded : goal.returns-clause-padded
returns-clause-padded c = zeros_written _ c.fill.new.self c.args.name.now _ (c.fill.ensures.after (λ y same. same)) c.requires.field c.copy_from_slice.ensures.after
