use Rattle.std.proofs.Common.{ℕ, ◌+◌, bit_xor, ap, ◌∙◌}
use Rattle.volume_detect.proofs.Tellings.{first_tells, second_tells}
use Rattle.volume_detect.proofs.told.length_volume.Goals as goal

pub returns-in-Some : goal.returns-in-Some
returns-in-Some c = first_tells c.args.words.now c.args.first c.args.step c.args.page c.args.block c.args.room c.told_blocks-by_first.result c.in-Some.g (c.told_blocks-by_first.ensures.value ∙ ap (λ (x : ℕ). bit_xor x (bit_xor 0x0529 c.args.page)) c.word.ensures) c.in-Some.ensures

pub returns-in-None : goal.returns-in-None
returns-in-None c =
    second_tells c.args.words.now c.args.first c.args.step c.args.page c.args.block c.args.room c.told_blocks-by_first.result _ c.volume_by-in-None.result
    (c.told_blocks-by_first.ensures.value ∙ ap (λ (x : ℕ). bit_xor x (bit_xor 0x0529 c.args.page)) c.word.ensures)
    (ap (λ (n : ℕ). n + 1) (c.told_blocks-by_second.ensures.value ∙ ap (λ (x : ℕ). bit_xor x (bit_xor 0x0529 c.args.page)) c.word-2.ensures))
    c.in-None.ensures c.volume_by-in-None.ensures
