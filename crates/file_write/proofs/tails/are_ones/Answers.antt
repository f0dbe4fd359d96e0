use Rattle.std.proofs.Common.{◌≡◌, ℕ, ◌+◌, ◌<◌, ◌≤◌, ◌==◌, ◌&&◌, Bool, List, [], get_or, drop, min, sym, ◌∙◌, ap, add-one, arith}
use Rattle.std.proofs.Math.Seq.{drop-cons}
use Rattle.std.proofs.Math.Bool.{and-true}
use Rattle.std.proofs.lemmas.List.{drop_all}
use Rattle.std.proofs.lemmas.Bool.Decides.{nat_tests}
use Rattle.image_model.specs.Tidy.{is_erased}
use Rattle.file_write.proofs.tails.are_ones.Goals as goal

one_more : (least x : ℕ) (rest : Bool) → least ≤ 255 → x < 256 → ((least == 255) && ((x == 255) && rest)) ≡ ((min x least == 255) && rest)
one_more least x rest most small = grind (arith, nat_tests)

pub loop-byte-preserved : goal.loop-byte-preserved
loop-byte-preserved c =
    let was = c.loop-byte.invariant in
    let bytes = c.args.bytes.now in
    let at = c.loop-byte.byte-index in
    let next : is_erased (drop at bytes) ≡ ((get_or bytes at 0 == 255) && is_erased (drop (at + 1) bytes)) = rw (add-one at) (ap is_erased (drop-cons bytes at 0 c.loop-byte-test.true)) in
    record {
      most = omega (arith, was.most, c.min-least.ensures);
      told = was.told ∙ ap (λ (b : Bool). (c.loop-byte.least == 255) && b) next ∙ rw c.min-least.ensures (one_more c.loop-byte.least (get_or bytes at 0) (is_erased (drop (at + 1) bytes)) was.most (c.type_inv.bytes at).fits);
    }

pub returns : goal.returns
returns c =
    let was = c.loop-byte.invariant in
    let none : drop c.loop-byte.byte-index c.args.bytes.now ≡ [] = drop_all c.loop-byte.byte-index c.args.bytes.now c.loop-byte-test.false in
    sym (was.told ∙ ap (λ (l : List ℕ). (c.loop-byte.least == 255) && is_erased l) none ∙ and-true (c.loop-byte.least == 255))
