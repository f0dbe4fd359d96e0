use Rattle.std.proofs.Common.{drop, rules, arith}
use Rattle.flash_view.proofs.Stepped.{after_look, rebuilt}
use Rattle.file_write.proofs.DataBeside.{puts_index}
use Rattle.file_write.proofs.beside.put_index.Goals as goal

pub returns-clause-step : goal.returns-clause-step
returns-clause-step g c =
    after_look (rebuilt (search rules)) c.put_page.ensures.step
    (λ tells free. puts_index c.args.v.now.geometry _ c.args.to c.args.id c.args.span c.args.data_span c.args.target c.build_index.new.page (drop c.page-len.result c.args.v.now.work.now) (c.build_index.ensures.size) c.build_index.ensures.slot c.build_index.ensures.erased c.build_index.ensures.bytes c.requires.id c.ranges.span.fits c.requires.some free)

pub returns-clause-few : goal.returns-clause-few
returns-clause-few g c = omega (arith, c.put_page.ensures.few)
