use Rattle.std.proofs.Common.{rules, ◌≡◌, ◌<◌, length, refl, arith}
use Rattle.page_cache.proofs.Held.{few_none}
use Rattle.flash_view.proofs.Behind.{behind_none}
use Rattle.volume.proofs.Continuing.{room_held, few_held, extends_none, extends_some}
use Rattle.volume.proofs.volume.Volume.extend.Goals as goal

pub returns-then-is_empty : goal.returns-then-is_empty
returns-then-is_empty g c =
    let none : length c.args.bytes.now ≡ 0 = search rules in
    extends_none c.args.self.now c.args.fd c.args.slot c.args.bytes.now c.requires.takes c.requires.on none

pub push-self-requires-clause-room : goal.push-self-requires-clause-room
push-self-requires-clause-room g c = room_held c.requires.on

pub push-self-requires-clause-few : goal.push-self-requires-clause-few
push-self-requires-clause-few g c = few_held c.requires.on

pub returns : goal.returns
returns g c =
    let self = c.args.self.now in
    let some : 0 < length c.args.bytes.now = search rules in
    extends_some c.args.fd c.args.slot c.args.bytes.now _ c.requires.takes c.requires.on some
    (record {
      geometry = refl;
      nor_name = refl;
      work_name = refl;
      cache_name = refl;
      slots_name = refl;
      window_name = refl;
      cache_size = refl;
      behind = behind_none self.geometry self.nor.now;
      faults = omega arith;
      few = few_none self.geometry self.nor.now self.cache.now;
    })
    refl refl refl refl refl c.put.ensures (omega (arith, c.saturating_add.ensures, c.push-self.ensures.taken)) c.push-self.ensures.run
