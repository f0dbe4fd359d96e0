use Rattle.std.proofs.Common.{◌≡◌, ◌≤◌, ℕ, List, [], length, take, replicate, true, false, subst, rules}
use Rattle.std.proofs.lemmas.List.{length-take-le}
use Rattle.table_model.specs.Ask.{Writes, asked}
use Rattle.volume.specs.Opening.{is_open}
use Rattle.file_calls.specs.Replies.{shown_by}
use Rattle.volume.specs.Calls.{Calls}
use Rattle.volume.proofs.Calling.{other_apart, calls_closed, calls_into, calls_filled}
use Rattle.volume.proofs.volume.Volume.answer.Goals as goal

pub returns-then-ne : goal.returns-then-ne
returns-then-ne g c = let shut : is_open c.args.self.now.stage ≡ false = search rules in calls_closed (asked c.args.call.now) c.args.self.now shut

pub do_call-requires : goal.do_call-requires
do_call-requires g c =
    let other = c.in_default in
    let apart = other_apart c.args.call.now (record { tell = other.not-Tell; write = other.not-Write; fill = other.not-Fill }) in
    let checked : is_open c.args.self.now.stage ≡ true = search rules in
    record { takes = checked; leaves = apart.leaves; apart = λ m here. apart.apart c.args.self.now.geometry m; room = c.requires.room; no_fill = apart.no_fill }

pub returns-in-Fill : goal.returns-in-Fill
returns-in-Fill g c =
    let fd = c.in-Fill.fd in
    let count = c.in-Fill.count in
    let byte = c.in-Fill.byte in
    let told = c.do_write-in-Fill.result in
    let room : count ≤ length c.args.into.now = rw c.in-Fill.is at c.requires.room in
    let lent : length (take count c.args.into.now) ≡ count = length-take-le count c.args.into.now room in
    let bytes : c.fill.new.self ≡ replicate count byte = rw lent at (c.fill.ensures.after (λ y same. same)) in
    let filled = calls_filled fd count byte (shown_by told []) (subst (λ (l : List ℕ). Calls (Writes fd l) c.args.self.now c.do_write-in-Fill.new.self (shown_by told [])) bytes c.do_write-in-Fill.ensures) in
    rw c.in-Fill.is (calls_into told _ (λ fd count e. cc) filled)
