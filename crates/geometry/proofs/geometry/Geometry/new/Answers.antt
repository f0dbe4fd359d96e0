use Rattle.std.proofs.Common.{◌≡◌, ◌≤◌, ◌*◌, true, refl, sym, ◌∙◌, arith}
use Rattle.geometry.specs.Rules.{pages_in, is_page, is_block, has_magic_room}
use Rattle.geometry.proofs.Volumes.{volume_of}
use Rattle.geometry.proofs.geometry.Geometry.new.Goals as goal

pub invariant_of-result : goal.invariant_of-result
invariant_of-result c =
    let page : is_page c.args.page ≡ true = sym c.is_page.ensures ∙ c.if-not-is_page.false in
    let block : is_block c.args.page c.args.block c.args.phys ≡ true = sym c.is_block.ensures ∙ c.if-not-is_block.false in
    let room : has_magic_room c.args.page c.args.block ≡ true = sym c.has_magic_room.ensures ∙ c.if-not-has_magic_room.false in
    let few : c.args.blocks * pages_in c.args.page c.args.block ≤ 65535 = rw (← c.from.ensures, ← c.from-2.ensures) c.if-from-gt65535.false in
    record { valid = volume_of _ _ _ _ _ page block (omega arith) few room c.if-meta-gt64.false; kept = (refl, c.lookup_pages.ensures) }
