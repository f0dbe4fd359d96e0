-- How a volume keeps the map of a file.
use Rattle.std.specs.Prelude.{◌≡◌, ◌⊎◌, ℕ, length, nat_lt, Bool, true, false, None}
use Rattle.nor_core.specs.declared.state.NorState.{Ghosts as NorOf}
use Rattle.nor_core.specs.Count.{Rose}
use Rattle.image_model.specs.Live.{live_at, own}
use Rattle.image_model.specs.Files.{index_page}
use Rattle.ix_map.specs.declared.map.IxMap.{IxMap}
use Rattle.ix_map.specs.Maps.{no_map}
use Rattle.volume.specs.declared.volume.Volume.{Volume}

-- what is known of a map after a call: nothing, where that asked for a program or an erase
abbrev pub known_map : IxMap → Bool → IxMap
known_map m true = no_map
known_map m false = m

module _ {N : Type 0} {nor : NorOf N} where
  -- bytes are lent for a map
  abbrev pub is_attached : Volume N nor → Bool
  is_attached v = nat_lt 0 (length v.numbers.now)

  -- There is no map any more; the bytes stay lent.
  pub record GivesUpMap (old new : Volume N nor) : Type 0 where
    pub none : new.map.used ≡ false
    pub room : length new.numbers.now ≡ length old.numbers.now

  -- an id has no header page
  abbrev pub HasNoHeader : Volume N nor → (id : ℕ) → Type 0
  HasNoHeader v id = nor.tells v.nor.now → index_page v.geometry (own (live_at v.geometry (nor.bytes v.nor.now)) id) 0 ≡ None

  -- A map that there was is there again, of the same file and from the same span on; or the volume failed, a fault was counted, or the
  -- file is gone.
  pub record RefillsTo (was : IxMap) (old new : Volume N nor) (broke : Bool) : Type 0 where
    pub room : length new.numbers.now ≡ length old.numbers.now
    pub lost : was.used ≡ true → new.map.used ≡ false → (broke ≡ true) ⊎ (Rose (nor.faults old.nor.now) (nor.faults new.nor.now) ⊎ HasNoHeader new was.id)
    pub same : new.map.used ≡ true → (new.map ≡ old.map) ⊎ ((was.used ≡ true) × (new.map.id ≡ was.id) × (new.map.first ≡ was.first))

  -- What a call leaves of a volume's map: it is of the same file, from the same span on, or there is none any more; that comes only where the
  -- call broke, where a fault was counted in it, or where the file is gone.
  pub record KeepsMap (old new : Volume N nor) (broke : Bool) : Type 0 where
    pub room : length new.numbers.now ≡ length old.numbers.now
    pub lost : old.map.used ≡ true → new.map.used ≡ false →
        (broke ≡ true) ⊎ (Rose (nor.faults old.nor.now) (nor.faults new.nor.now) ⊎ HasNoHeader new old.map.id)
    pub same : new.map.used ≡ true → (old.map.used ≡ true) × (new.map.id ≡ old.map.id) × (new.map.first ≡ old.map.first)
