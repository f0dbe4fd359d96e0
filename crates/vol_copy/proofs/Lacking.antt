-- A copy stops for want of room.
use Rattle.std.proofs.Common.{◌≡◌, ℕ, ◌+◌, Result, Ok, Err, refl, sym, ◌∙◌, ap, subst, ⊎_elim, inl, inr}
use Rattle.nor_core.specs.declared.state.NorState.{Ghosts as NorOf}
use Rattle.table_model.specs.declared.error.FsErr.TheVariants.{DeviceFault}
use Rattle.table_model.specs.declared.reply.Info.{Info}
use Rattle.table_model.specs.Table.{State}
use Rattle.table_model.specs.Room.{index_count, data_count}
use Rattle.table_model.specs.Calls.{info_of}
use Rattle.table_model.specs.Outcome.{Outcome}
use Rattle.table_model.specs.Ask.{Removes, Informs}
use Rattle.table_model.specs.Reply.{Answer, Counts, Refuses}
use Rattle.volume.specs.declared.volume.Volume.{Volume}
use Rattle.volume_run.specs.Resting.{IsAtRest}
use Rattle.copy_model.specs.declared.err.CopyErr.{CopyErr}
use Rattle.copy_model.specs.declared.err.CopyErr.TheVariants.{Full, ToFault}
use Rattle.copy_model.specs.Copying.{working}
use Rattle.copy_model.specs.Tasks.{Task}
use Rattle.copy_model.specs.Under.{IsUnder}
use Rattle.copy_model.proofs.Answering.{informed}
use Rattle.copy_model.proofs.Stages.{part-under}
use Rattle.vol_copy.specs.Stages.{LacksRoom, CutsUnder, Leads, StopsAs, StopsFrom}
use Rattle.vol_copy.specs.Went.{Went, info_as, removed_as}
use Rattle.vol_copy.proofs.Calling.{goes, any_cuts}
use Rattle.vol_copy.proofs.Places.{removed_stop, removed_whole}

-- a look how full it is that isn't done
pub info_stop : (why : CopyErr) (a : Answer) (info : Info) → info_as a ≡ Err why → ((a ≡ Refuses DeviceFault → ⊥) → a ≡ Counts info) → why ≡ ToFault
info_stop why (Refuses DeviceFault) info is counts = cc
info_stop why (Counts other) info is counts = absurd (let no : Ok other ≡ Err why = is in cc)
info_stop why a info is counts = absurd (let e = counts (λ fault. let e = fault in cc) in cc)

pub info_told : (info : Info) (a : Answer) → info_as a ≡ Ok info → a ≡ Counts info
info_told info (Counts other) is = cc
info_told info (Refuses why) is = absurd (let no : info_as (Refuses why) ≡ Ok info = is in cc)
info_told info a is = absurd (cc)

module _ {M : Type 0} {nor : NorOf M} where
  -- so many pages are told of a target that lacks room
  pub record LacksOf (info : Info) (index pages : ℕ) (t : Task) (v : Volume M nor) : Type 0 where
    pub lacks : LacksRoom index pages t v
    pub told : info ≡ info_of t.g lacks.state.table

  module _ (index pages : ℕ) (old new : Volume M nor) (result : Result Info CopyErr) (went : Went info_as Informs old new result) where
    pub info_cuts : CutsUnder (LacksRoom index pages) old new
    info_cuts = any_cuts Informs old new went.0 went.1 refl refl (LacksRoom index pages) (λ t has. has.state) (λ t has. has.at) (λ t has known. (has.known known).under)
        (λ t has known table. subst (λ (o : Outcome). IsUnder t.alike t.source t.first o.next.table) (sym (informed t.g has.state)) (has.known known).under)

    pub info_leads : (info : Info) → result ≡ Ok info → Leads (LacksRoom index pages) (LacksOf info index pages) old new
    info_leads info ok = λ t has.
        let told : went.0 ≡ Counts info = info_told info went.0 (sym went.2 ∙ ok) in
        let w = goes Informs old new went.0 went.1 refl refl t.g has.state has.at (λ fault. let no : Counts info ≡ Refuses DeviceFault = sym told ∙ fault in cc) in
        let same : Counts info ≡ Counts (info_of t.g has.state.table) = sym told ∙ w.0 ∙ ap (λ (o : Outcome). o.answer) (informed t.g has.state) in
        record {
          lacks = record { state = has.state; at = subst (IsAtRest t.g new) (ap (λ (o : Outcome). o.next) (informed t.g has.state)) w.1; known = has.known };
          told = cc;
        }

    pub info_stops : (why : CopyErr) → result ≡ Err why → StopsFrom (LacksRoom index pages) old new why
    info_stops why is = λ t has known.
        let fault : why ≡ ToFault = info_stop why went.0 (info_of t.g has.state.table) (sym went.2 ∙ is) (λ whole.
        (goes Informs old new went.0 went.1 refl refl t.g has.state has.at whole).0 ∙ ap (λ (o : Outcome). o.answer) (informed t.g has.state)) in
        subst (StopsAs t new) (sym fault) tt

  module _ (info : Info) (index pages : ℕ) (old new : Volume M nor) (result : Result (Unit {0}) CopyErr) (went : Went removed_as (Removes working) old new result) where
    pub give_cuts : CutsUnder (LacksOf info index pages) old new
    give_cuts = any_cuts (Removes working) old new went.0 went.1 refl refl (LacksOf info index pages) (λ t has. has.lacks.state) (λ t has. has.lacks.at) (λ t has known. (has.lacks.known known).under)
        (λ t has known table. subst (IsUnder t.alike t.source t.first) (sym (ap (λ (s : State). s.table) (has.lacks.known known).next)) (part-under t.alike t.source t.first (has.lacks.known known).left (has.lacks.known known).part))

    pub give_ends : result ≡ Ok tt → StopsFrom (LacksOf info index pages) old new (Full (info.index_pages + index) (info.data_pages + pages))
    give_ends ok = λ t has known.
        let is = has.lacks.known known in
        let w = goes (Removes working) old new went.0 went.1 refl refl t.g has.lacks.state has.lacks.at (removed_whole went.0 (sym went.2 ∙ ok)) in
        let i : info.index_pages ≡ index_count t.g has.lacks.state.table = ap (λ (x : Info). x.index_pages) has.told in
        let d : info.data_pages ≡ data_count t.g has.lacks.state.table = ap (λ (x : Info). x.data_pages) has.told in
        record {
          table = is.table;
          stops = is.stops;
          why_is = ap (λ (n : ℕ). Full (n + index) (info.data_pages + pages)) i ∙ ap (λ (n : ℕ). Full (index_count t.g has.lacks.state.table + index) (n + pages)) d ∙ ap (λ (n : ℕ). Full n (data_count t.g has.lacks.state.table + pages)) is.index_are ∙ ap (Full (index_count t.g is.table)) is.pages_are;
          left = is.left;
          at = subst (IsAtRest t.g new) is.next w.1;
          part = is.part;
        }

    pub give_stops : (why : CopyErr) → result ≡ Err why → StopsFrom (LacksOf info index pages) old new why
    give_stops why err = λ t has known.
        let is = has.lacks.known known in
        let fault : why ≡ ToFault = removed_stop why went.0 (sym went.2 ∙ err) (λ whole.
        let r = (goes (Removes working) old new went.0 went.1 refl refl t.g has.lacks.state has.lacks.at whole).0 in
        ⊎_elim (λ fine. inl (r ∙ fine)) (λ missing. inr (r ∙ missing)) is.reply) in
        subst (StopsAs t new) (sym fault) tt
