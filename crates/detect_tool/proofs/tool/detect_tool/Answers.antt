use Rattle.std.proofs.Common.{ℕ, map, string_bytes, sym, ◌∙◌, subst}
use Rattle.detect_tool.specs.Lent.{HasLengths, lengths_of}
use Rattle.detect_tool.proofs.Enough.{accepted}
use Rattle.detect_tool.proofs.tool.detect_tool.Goals as goal

pub detect_in-requires : goal.detect_in-requires
detect_in-requires g c =
    let lent = lengths_of c.args.memory.now in
    record { room = subst (λ (n : ℕ). HasLengths n lent) c.size.ensures (accepted (map string_bytes c.args.words.now) c.size.result lent (sym c.why_refused.ensures ∙ c.in-None.is)) }
