use Rattle.std.proofs.Common.{◌≡◌, ◌+◌, ◌*◌, arith}
use Rattle.page_cache.proofs.through.read_page.Goals as goal

pub returns-clause-read : goal.returns-clause-read
returns-clause-read g c tells =
    let start = c.args.page * c.args.g.now.page in
    let none : start + 0 ≡ start = omega arith in
    rw (none, c.requires.whole) at (c.peek_page.ensures.read tells)
