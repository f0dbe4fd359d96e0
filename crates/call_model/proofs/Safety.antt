-- What may follow an image.
use Rattle.std.proofs.Common.{ℕ, List, inl}
use Rattle.geometry.specs.declared.geometry.Geometry.{Geometry}
use Rattle.image_model.specs.Tidy.{IsTidy, HasReserve}
use Rattle.image_model.specs.Sound.{IsSound}
use Rattle.image_laws.proofs.Unshared.{tidy-unshared, sound-unshared}
use Rattle.room_laws.specs.Recovery.{Recovers}
use Rattle.room_laws.proofs.Staying.{reserve_mends}
use Rattle.call_model.specs.Safe.{IsSafe, HoldsImage}

-- what is sound with respect to an image that is sound with respect to another is so with respect to that
sound_then : (g : Geometry) (a b c : List ℕ) → IsSound g b a → IsSound g c b → IsSound g c a
sound_then g a b c one two = record {
  magics = two.magics;
  mixed = λ block h. one.mixed block (two.mixed block h);
  damaged = λ id h. one.damaged id (two.damaged id h);
}

-- what a cut leaves of a tidy image: it has no shared block
pub safe_of_tidy : (g : Geometry) (was image : List ℕ) → IsTidy g was → IsSound g image was → (HasReserve g was → Recovers g image) → IsSafe g was image
safe_of_tidy g was image tidy sound mends =
    let none = sound-unshared g was image tidy sound in
    record {
      sound = λ magics. sound;
      mends = λ reserve. record { recovers = mends reserve; parts = inl none };
      fits = λ spare fits. inl none;
    }

-- what a cut leaves of a tidy image that stands after another
pub holds_safe : (g : Geometry) (a b c : List ℕ) → HoldsImage g a b → IsTidy g b → IsSafe g b c → IsSafe g a c
holds_safe g a b c first tidy second = record {
  sound = λ magics. let one = first.sound magics in sound_then g a b c one (second.sound one.magics);
  mends = λ reserve. second.mends (first.reserve reserve);
  fits = λ spare fits. second.fits spare (inl (tidy-unshared g b tidy));
}

-- and what stands after it
pub holds_then : (g : Geometry) (a b c : List ℕ) → HoldsImage g a b → HoldsImage g b c → HoldsImage g a c
holds_then g a b c first second = record {
  sound = λ magics. let one = first.sound magics in sound_then g a b c one (second.sound one.magics);
  reserve = λ reserve. second.reserve (first.reserve reserve);
}

-- any image may stay
pub holds_itself : (g : Geometry) (image : List ℕ) → HoldsImage g image image
holds_itself g image = record {
  sound = λ magics. record { magics = magics; mixed = λ block h. h; damaged = λ id h. h };
  reserve = λ reserve. reserve;
}

-- what stands uncut and is tidy may be left by a cut
pub safe_as : (g : Geometry) (a b : List ℕ) → HoldsImage g a b → IsTidy g b → IsSafe g a b
safe_as g a b h tidy =
    let none = tidy-unshared g b tidy in
    record {
      sound = h.sound;
      mends = λ reserve. record { recovers = reserve_mends g b (h.reserve reserve); parts = inl none };
      fits = λ spare fits. inl none;
    }
