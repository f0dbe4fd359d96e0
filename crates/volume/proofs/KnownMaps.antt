-- Maps that a call leaves.
use Rattle.std.proofs.Common.{◌≡◌, ◌⊎◌, ◌≤◌, ⊎_elim, inl, inr, Bool, true, false, length, ◌&&◌, if◌then◌else◌, List, ℕ, refl, sym, ◌∙◌, ap, subst, arith}
use Rattle.std.proofs.lemmas.Bool.{cases_Bool}
use Rattle.geometry.specs.declared.geometry.Geometry.{Geometry}
use Rattle.nor_core.specs.declared.state.NorState.{Ghosts as NorOf}
use Rattle.nor_core.specs.Count.{Rose}
use Rattle.nor_core.specs.Device.{OnlyReads}
use Rattle.ix_map.specs.declared.map.IxMap.{IxMap}
use Rattle.ix_map.specs.Maps.{no_map, IsMapOf}
use Rattle.volume.specs.declared.volume.Volume.{Volume}
use Rattle.table_model.specs.Reply.{Answer}
use Rattle.volume.specs.declared.stage.Stage.TheVariants.{Checked, Failed}
use Rattle.volume.specs.Opening.{is_open, stage_after}
use Rattle.volume.specs.Replies.{breaks}
use Rattle.volume.specs.Stages.{takes_calls}
use Rattle.volume.specs.Mapping.{known_map, HasNoHeader, RefillsTo, KeepsMap}

pub never : true ≡ false → ⊥
never e = cc

-- what is known of a map after a call is right
pub known_stays : {N : Type 0} {nor : NorOf N} {g : Geometry} {old new : N} {numbers : List ℕ} (m known : IxMap) (wrote : Bool) → (m.used ≡ true → nor.tells old → IsMapOf g (nor.bytes old) m numbers) → (wrote ≡ false → OnlyReads nor old new) → known ≡ known_map m wrote →
    known.used ≡ true → nor.tells new → IsMapOf g (nor.bytes new) known numbers
known_stays m known true was reads is used tells = absurd (let no : false ≡ true = ap (λ (k : IxMap). k.used) (sym is) ∙ used in cc)
known_stays {N} {nor} {g} {old} {new} {numbers} m known false was reads is used tells =
    let looks = reads refl in
    let here = was (ap (λ (k : IxMap). k.used) (sym is) ∙ used) (looks.told_before tells) in
    subst (λ (k : IxMap). IsMapOf g (nor.bytes new) k numbers) (sym is) (subst (λ (l : List ℕ). IsMapOf g l m numbers) (sym looks.bytes) here)

-- it is the map that there was, or none
pub known_is : (m known : IxMap) (wrote : Bool) → known ≡ known_map m wrote → (known ≡ m) ⊎ (known ≡ no_map)
known_is m known true is = inr is
known_is m known false is = inl is

-- a device is as before where a map that is still known is to be read again: it isn't
pub device_stays : {N : Type 0} {nor : NorOf N} {old new : Volume N nor} (was : IxMap) → old.map ≡ was → (old.map.used ≡ true → new ≡ old) → (was.used ≡ false → new ≡ old) → new.nor.now ≡ old.nor.now
device_stays {N} {nor} {old} {new} was same used free =
    let stays : new ≡ old = ⊎_elim
    (λ (yes : was.used ≡ true). used (ap (λ (m : IxMap). m.used) same ∙ yes))
    (λ (no : was.used ≡ false). free no)
    (cases_Bool was.used) in
    ap (λ (v : Volume N nor). v.nor.now) stays

-- one that is none isn't in use
none_used : (m : IxMap) → m ≡ no_map → m.used ≡ true → ⊥
none_used m is used = let no : false ≡ true = ap (λ (k : IxMap). k.used) (sym is) ∙ used in cc

-- a call that leads to where no call is taken broke
pub shut_breaks : (asked : Bool) (reply : Answer) → is_open (stage_after asked reply) ≡ false → breaks reply ≡ true
shut_breaks asked reply = by_tests asked (breaks reply)
  where
    by_tests : (a b : Bool) → is_open (if a && b then Failed else Checked) ≡ false → b ≡ true
    by_tests true true e = refl
    by_tests true false e = absurd (let no : true ≡ false = e in cc)
    by_tests false b e = absurd (let no : true ≡ false = e in cc)

module _ {N : Type 0} {nor : NorOf N} where
  -- nothing was done
  pub keeps_none : (v : Volume N nor) (broke : Bool) → KeepsMap v v broke
  keeps_none v broke = record { room = refl; lost = λ used lost. absurd (let no : true ≡ false = sym used ∙ lost in cc); same = λ used. (used, refl, refl) }

  -- the map stayed
  pub keeps_same : {old new : Volume N nor} (broke : Bool) → length new.numbers.now ≡ length old.numbers.now → new.map ≡ old.map → KeepsMap old new broke
  keeps_same {old} {new} broke room is = record {
    room = room;
    lost = λ used lost. absurd (let no : true ≡ false = sym used ∙ ap (λ (m : IxMap). m.used) (sym is) ∙ lost in cc);
    same = λ used. (ap (λ (m : IxMap). m.used) (sym is) ∙ used, ap (λ (m : IxMap). m.id) is, ap (λ (m : IxMap). m.first) is);
  }

  -- the call broke
  pub keeps_broken : {old new : Volume N nor} (broke : Bool) → broke ≡ true → length new.numbers.now ≡ length old.numbers.now → (new.map ≡ old.map) ⊎ (new.map ≡ no_map) → KeepsMap old new broke
  keeps_broken {old} {new} broke is room map = record {
    room = room;
    lost = λ used lost. inl is;
    same = λ used. ⊎_elim (λ (kept : new.map ≡ old.map). let k : KeepsMap old new broke = keeps_same broke room kept in k.same used) (λ (none : new.map ≡ no_map). absurd (none_used new.map none used)) map;
  }

  -- it was given up and read again, or it stayed
  pub refills : {old mid new : Volume N nor} (was : IxMap) (wrote broke : Bool) → length new.numbers.now ≡ length old.numbers.now → mid.map ≡ known_map old.map wrote → (takes_calls mid ≡ false → broke ≡ true) → nor.faults old.nor.now ≤ nor.faults mid.nor.now →
      (mid.map.used ≡ true → new ≡ mid) → (was.used ≡ false → new ≡ mid) → (was.used ≡ true → new.map.used ≡ false → (takes_calls mid ≡ false) ⊎ (Rose (nor.faults mid.nor.now) (nor.faults new.nor.now) ⊎ HasNoHeader new was.id)) →
      (mid.map.used ≡ false → new.map.used ≡ true → (new.map.id ≡ was.id) × (new.map.first ≡ was.first)) → RefillsTo was old new broke
  refills {old} {mid} {new} was wrote broke room known stops faults still none lost is = record {
    room = room;
    lost = λ used gone. ⊎_elim
        (λ (shut : takes_calls mid ≡ false). inl (stops shut))
        (λ more. inr (⊎_elim (λ (rose : Rose (nor.faults mid.nor.now) (nor.faults new.nor.now)). inl (omega (arith, rose, faults))) (λ (header : HasNoHeader new was.id). inr header) more))
        (lost used gone);
    same = λ used. ⊎_elim
        (λ (kept : mid.map.used ≡ true). ⊎_elim
        (λ (here : mid.map ≡ old.map). inl (ap (λ (v : Volume N nor). v.map) (still kept) ∙ here))
        (λ (gone : mid.map ≡ no_map). absurd (none_used mid.map gone kept))
        (known_is old.map mid.map wrote known))
        (λ (given : mid.map.used ≡ false). ⊎_elim
        (λ (had : was.used ≡ true). let w = is given used in inr (had, w.0, w.1))
        (λ (free : was.used ≡ false). absurd (let no : true ≡ false = sym used ∙ ap (λ (v : Volume N nor). v.map.used) (none free) ∙ given in cc))
        (cases_Bool was.used))
        (cases_Bool mid.map.used);
  }

  -- so of a call before which what waited was put onto the chip
  pub keeps_refilled : {old mid new : Volume N nor} (broke : Bool) → length mid.numbers.now ≡ length old.numbers.now → (mid.map ≡ old.map) ⊎ (mid.map ≡ no_map) → nor.faults old.nor.now ≤ nor.faults mid.nor.now → RefillsTo old.map mid new broke → KeepsMap old new broke
  keeps_refilled {old} {mid} {new} broke room map faults done = record {
    room = done.room ∙ room;
    lost = λ used gone. ⊎_elim
        (λ (b : broke ≡ true). inl b)
        (λ more. inr (⊎_elim (λ (rose : Rose (nor.faults mid.nor.now) (nor.faults new.nor.now)). inl (omega (arith, rose, faults))) (λ (header : HasNoHeader new old.map.id). inr header) more))
        (done.lost used gone);
    same = λ used. ⊎_elim
        (λ (stood : new.map ≡ mid.map). ⊎_elim
        (λ (kept : mid.map ≡ old.map). let k : KeepsMap old new broke = keeps_same broke (done.room ∙ room) (stood ∙ kept) in k.same used)
        (λ (none : mid.map ≡ no_map). absurd (none_used new.map (stood ∙ none) used))
        map)
        (λ (again : (old.map.used ≡ true) × (new.map.id ≡ old.map.id) × (new.map.first ≡ old.map.first)). again)
        (done.same used);
  }

  -- what waited was put onto the chip, and the map read again
  pub keeps_settled : {old mid new : Volume N nor} → takes_calls old ≡ true → mid.stage ≡ old.stage → length mid.numbers.now ≡ length old.numbers.now → length new.numbers.now ≡ length mid.numbers.now → (mid.map ≡ old.map) ⊎ (mid.map ≡ no_map) → nor.faults old.nor.now ≤ nor.faults mid.nor.now →
      (mid.map.used ≡ true → new ≡ mid) → (old.map.used ≡ false → new ≡ mid) → (old.map.used ≡ true → new.map.used ≡ false → (takes_calls mid ≡ false) ⊎ (Rose (nor.faults mid.nor.now) (nor.faults new.nor.now) ⊎ HasNoHeader new old.map.id)) →
      (mid.map.used ≡ false → new.map.used ≡ true → (new.map.id ≡ old.map.id) × (new.map.first ≡ old.map.first)) → KeepsMap old new false
  keeps_settled {old} {mid} {new} takes stage room rooms map faults still none lost is =
      let shut : takes_calls mid ≡ false → ⊥ = λ e. never (sym takes ∙ sym (ap is_open stage) ∙ e) in
      let again : RefillsTo old.map mid new false = refills old.map false false rooms refl (λ e. absurd (shut e)) (omega arith) still none lost is in
      keeps_refilled false room map faults again
