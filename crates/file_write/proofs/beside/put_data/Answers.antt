use Rattle.std.proofs.Common.{drop, rules, arith}
use Rattle.flash_view.proofs.Stepped.{after_look, rebuilt}
use Rattle.file_write.proofs.DataBeside.{puts_data}
use Rattle.file_write.proofs.beside.put_data.Goals as goal

pub returns-clause-step : goal.returns-clause-step
returns-clause-step g c =
    after_look (rebuilt (search rules)) c.put_page.ensures.step
    (λ tells free. puts_data c.args.v.now.geometry _ c.args.to c.args.id c.args.span c.args.from.now c.build_bytes.new.page (drop c.page-len.result c.args.v.now.work.now) (search rules) c.build_bytes.ensures.holds c.build_bytes.ensures.erased c.build_bytes.ensures.bytes c.requires.id c.ranges.span.fits free)

pub returns-clause-few : goal.returns-clause-few
returns-clause-few g c = omega (arith, c.put_page.ensures.few)
