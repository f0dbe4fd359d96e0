use Rattle.std.proofs.Common.{◌∙◌, ap, arith}
use Rattle.page_cache.specs.Frames.{number_of, word_in}
use Rattle.page_cache.proofs.Findable.{missing_near}
use Rattle.page_cache.proofs.frames.find.Goals as goal

pub returns-then-since-until-clause-missing : goal.returns-then-since-until-clause-missing
returns-then-since-until-clause-missing c none = missing_near c.args.g.now c.args.frames.now c.args.page c.home-home.result c.strays-since.result.0 c.strays-since.result.1 c.requires.page c.requires.findable c.home-home.ensures.home
    (λ is. c.if-number_of-page.false (c.number_of.ensures ∙ ap number_of c.frame-head.ensures.frame ∙ is))
    (c.strays-since.ensures.since ∙ ap (λ l. word_in l 2) c.frame-head.ensures.frame) (c.strays-since.ensures.until ∙ ap (λ l. word_in l 4) c.frame-head.ensures.frame)
    (λ f below low high is. absurd (omega (arith, low, high, c.if-since-until.true)))

pub returns-clause-missing : goal.returns-clause-missing
returns-clause-missing c none = missing_near c.args.g.now c.args.frames.now c.args.page c.home-home.result c.strays-since.result.0 c.strays-since.result.1 c.requires.page c.requires.findable c.home-home.ensures.home
    (λ is. c.if-number_of-page.false (c.number_of.ensures ∙ ap number_of c.frame-head.ensures.frame ∙ is))
    (c.strays-since.ensures.since ∙ ap (λ l. word_in l 2) c.frame-head.ensures.frame) (c.strays-since.ensures.until ∙ ap (λ l. word_in l 4) c.frame-head.ensures.frame)
    (λ f below low high. c.first_with.ensures.missing none f low (omega (arith, below, high, c.min.ensures, c.frame_count.ensures)))
