use Rattle.std.proofs.Common.{◌≡◌, ◌≢◌, ◌-◌, ◌≤◌, ℕ, [], length, drop, arith, append-nil, refl}
use Rattle.std.proofs.lemmas.Slice.{between_to_end}
use Rattle.std.proofs.lemmas.List.{drop_all, length-drop}
use Rattle.page_layout.specs.Ids.{bit_of}
use Rattle.file_find.proofs.Bits.{notes_one}
use Rattle.file_find.proofs.ids.note_one.Goals as goal

pub returns : goal.returns
returns c =
    let mid = c.args.marks.now in
    let start = c.args.start in
    let most : start ≤ length mid = omega (arith, c.requires) in
    let others : (k : ℕ) → k ≢ c.args.id → bit_of c.note_id.new.bits k ≡ bit_of (drop start mid) k = rw (between_to_end mid start (length mid) (omega arith)) at c.note_id.ensures.others in
    let behind : drop (length mid - start) (drop start mid) ≡ [] = drop_all (length mid - start) (drop start mid) (simp length-drop (omega arith)) in
    rw (behind, append-nil) (notes_one start c.args.id mid mid c.note_id.new.bits (λ p. refl) c.note_id.ensures.noted others most)
