use Rattle.flash_trace.proofs.Recording.{none_recorded}
use Rattle.flash_trace.proofs.recorder.Recorder.new.Goals as goal

pub invariant_of-result : goal.invariant_of-result
invariant_of-result c = record { recorded = λ none. ∣ none_recorded c.args.board _ c.new.ensures.items c.requires.fresh ∣₁ }
