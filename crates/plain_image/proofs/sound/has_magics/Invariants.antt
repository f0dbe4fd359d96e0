-- Of the blocks so far the one that is known lacks its magic, and no other.
use Rattle.plain_image.specs.Spoiled.{OneLacks}
use Rattle.plain_image.proofs.sound.has_magics.Given as goal

abbrev pub invariant-loop-block : goal.invariant-loop-block
invariant-loop-block l = OneLacks l.g l.image l.block l.spoiled
