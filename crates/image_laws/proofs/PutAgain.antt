-- A file put again, and bytes.
use Rattle.std.proofs.Common.{◌≡◌, ℕ, ◌<◌, ◌≤◌, List, [], ◌∷◌, refl, ap, arith, ⊎_elim}
use Rattle.std.specs.Prelude.{bit_and}
use Rattle.std.specs.Int.{bit_at}
use Rattle.std.proofs.lemmas.Bool.{cases_lt, cases_eq, lt-ltb, le-ltb, eq-eqb, ne_eqb}
use Rattle.std.proofs.lemmas.Nat.Bits.{bit_at_and, same_from_bits}
use Rattle.table_model.specs.Table.{File, put_file}
use Rattle.image_laws.specs.Programs.{ClearsBit}

pub put-again : (f : File) (t : List File) → put_file f (put_file f t) ≡ put_file f t
put-again f [] = rw (le-ltb f.id f.id (omega arith)) (rw (eq-eqb f.id f.id refl) refl)
put-again f (x ∷ xs) =
    ⊎_elim
    (λ (less : f.id < x.id). rw (lt-ltb f.id x.id less) (rw (le-ltb f.id f.id (omega arith)) (rw (eq-eqb f.id f.id refl) refl)))
    (λ (more : x.id ≤ f.id). ⊎_elim
    (λ (same : f.id ≡ x.id). rw (le-ltb f.id x.id more) (rw (eq-eqb f.id x.id same) (rw (le-ltb f.id f.id (omega arith)) (rw (eq-eqb f.id f.id refl) refl))))
    (λ (other : f.id ≡ x.id → ⊥). rw (le-ltb f.id x.id more) (rw (ne_eqb f.id x.id other) (rw (le-ltb f.id x.id more) (rw (ne_eqb f.id x.id other) (ap (λ (l : List File). x ∷ l) (put-again f xs))))))
    (cases_eq f.id x.id))
    (cases_lt f.id x.id)

-- a finished program of one bit
pub cleared-and : (k old asked : ℕ) → ClearsBit k old asked → bit_and old asked ≡ asked
cleared-and k old asked c =
    same_from_bits (bit_and old asked) asked (λ j. ⊎_elim
    (λ (here : j ≡ k). let e = bit_at_and old asked j in let z : bit_at asked j ≡ 0 = rw here c.cleared in omega (arith, e, z))
    (λ (there : j ≡ k → ⊥). let e = bit_at_and old asked j in let z = c.others j there in omega (arith, e, z))
    (cases_eq j k))
