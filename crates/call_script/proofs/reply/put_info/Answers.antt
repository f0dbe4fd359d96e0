use Rattle.std.specs.Prelude.{codes, decimal}
use Rattle.call_script.specs.Replies.{info_text}
use Rattle.call_script.proofs.Putting.{puts_more, puts_same, regroup}
use Rattle.call_script.proofs.reply.put_info.Goals as goal

pub returns-clause-put : goal.returns-clause-put
unfolding info_text
returns-clause-put c =
    let i = c.args.info.now in
    puts_same _ _ _ _ _ _ (regroup (codes "files ") (decimal i.files) (codes " index ") (decimal i.index_pages) (codes " data ") (decimal i.data_pages) (codes " usable ") (decimal i.usable_pages))
    (puts_more _ _ _ _ _ _ _ _ (puts_more _ _ _ _ _ _ _ _ (puts_more _ _ _ _ _ _ _ _ c.put_count-at.ensures.put c.put_count-at-2.ensures.put) c.put_count-at-3.ensures.put) c.put_count.ensures.put)
