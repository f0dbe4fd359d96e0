-- Descriptors that are all closed but the first.
use Rattle.std.proofs.Common.{◌≡◌, ℕ, zero, suc, ◌<◌, List, Option, Some, None, refl, arith}
use Rattle.std.specs.Prelude.{replicate}
use Rattle.table_model.specs.Table.{Open}
use Rattle.table_model.specs.Descriptors.{open_at, put_at, lowest_closed}

abbrev closed : ℕ → List (Option Open)
closed n = replicate n None

pub first_closed : (n : ℕ) → 0 < n → lowest_closed (closed n) ≡ Some 1
unfolding lowest_closed
first_closed zero some = absurd (omega (arith, some))
first_closed (suc n) some = refl

pub first_open : (n : ℕ) (d : Open) → 0 < n → open_at (put_at (closed n) 1 (Some d)) 1 ≡ Some d
unfolding open_at put_at
first_open zero d some = absurd (omega (arith, some))
first_open (suc n) d some = refl

pub opened_twice : (n : ℕ) (d e : Open) → put_at (put_at (closed n) 1 (Some d)) 1 (Some e) ≡ put_at (closed n) 1 (Some e)
unfolding put_at
opened_twice zero d e = refl
opened_twice (suc n) d e = refl

pub closed_again : (n : ℕ) (d : Open) → put_at (put_at (closed n) 1 (Some d)) 1 None ≡ closed n
unfolding put_at
closed_again zero d = refl
closed_again (suc n) d = refl
