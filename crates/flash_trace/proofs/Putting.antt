-- Bytes put into an image.
use Rattle.std.proofs.Common.{◌≡◌, ℕ, ◌+◌, ◌≤◌, List, ◌++◌, length, take, drop, sym, ◌∙◌, ap, arith, append_assoc}
use Rattle.std.proofs.lemmas.List.{append_cancel_left}
use Rattle.nor_core.specs.Flash.{programmed}
use Rattle.nor_core.proofs.Programs.{length-programmed}
use Rattle.nor_memory.specs.Picks.{put}
use Rattle.nor_memory.proofs.Ranges.{put_programmed, range_size}
use Rattle.trace_laws.proofs.Fronts.{same_front}

-- bytes of one number put at one place are the same where the images are
put_one : (image : List ℕ) (at : ℕ) (a b : List ℕ) → length a ≡ length b → put image at a ≡ put image at b → a ≡ b
put_one image at a b same is =
    let e : take at image ++ (a ++ drop (at + length a) image) ≡ take at image ++ (b ++ drop (at + length b) image) = sym (append_assoc (take at image) a (drop (at + length a) image)) ∙ is ∙ append_assoc (take at image) b (drop (at + length b) image) in
    same_front a b (drop (at + length a) image) (drop (at + length b) image) (append_cancel_left (take at image) (a ++ drop (at + length a) image) (b ++ drop (at + length b) image) e) same

-- What a program left is right where it is what the old and the asked bytes leave.
pub right_bits : (image : List ℕ) (at n : ℕ) (asked got left : List ℕ) → n ≡ length asked → length got ≡ length asked → at + length asked ≤ length image → left ≡ programmed (take n (drop at image)) 0 asked → (left ≡ got → put image at got ≡ programmed image at asked) × (put image at got ≡ programmed image at asked → left ≡ got)
right_bits image at n asked got left n_is same inside left_is =
    let whole : put image at left ≡ programmed image at asked = put_programmed image at n asked left n_is (omega (arith, n_is, inside)) left_is in
    let long : length left ≡ length got = ap length left_is ∙ length-programmed (take n (drop at image)) 0 asked ∙ range_size image at n (omega (arith, n_is, inside)) ∙ omega (arith, n_is, same) in
    (λ is. ap (λ (l : List ℕ). put image at l) (sym is) ∙ whole, λ is. put_one image at left got long (whole ∙ sym is))
