-- One record after the other.
use Rattle.std.proofs.Common.{◌≡◌, ℕ, ◌+◌, List, length, Bool, true, false, Option, Some, None, cond, sym, ◌∙◌, ap, subst}
use Rattle.std.specs.Option.{option_map}
use Rattle.std.proofs.lemmas.Bool.{false≢true}
use Rattle.geometry.specs.declared.geometry.Geometry.{Geometry}
use Rattle.nor_core.specs.declared.state.NorState.{Ghosts as NorOf}
use Rattle.nor_core.specs.Device.{OnlyReads}
use Rattle.nor_core.proofs.Cuts.{reads_then, reads_none}
use Rattle.table_model.specs.declared.reply.Stat.{Stat}
use Rattle.table_model.specs.Table.{File, State, file_above, file_named}
use Rattle.table_model.specs.Files.{stat_of}
use Rattle.image_model.specs.Tables.{table_of}
use Rattle.vol_mount.specs.declared.reader.Reader.{Reader}
use Rattle.vol_mount.specs.Readers.{IsSameReader}
use Rattle.volume.specs.declared.volume.Volume.{Volume}
use Rattle.volume_run.specs.Resting.{IsAtRest}
use Rattle.copy_model.specs.declared.err.Copied.{Copied}
use Rattle.copy_model.specs.declared.err.CopyErr.{CopyErr}
use Rattle.copy_model.specs.declared.err.CopyErr.TheVariants.{FromFault}
use Rattle.copy_model.specs.Copying.{kept_count}
use Rattle.copy_model.specs.Tasks.{Task}
use Rattle.copy_model.specs.Under.{IsUnder, IsAllThere}
use Rattle.copy_model.specs.Parts.{IsUpTo, IsCounted, IsNext, IsMissing, IsPassed}
use Rattle.copy_model.proofs.Names.{id-named}
use Rattle.copy_model.proofs.Passing.{next_here, kept_passes, passed_up, passed_counts, counts_none, all_passed}
use Rattle.copy_model.proofs.Walking.{none_next}
use Rattle.vol_copy.specs.Ends.{TellsFiles}
use Rattle.vol_copy.specs.Stages.{Rests, With, CutsUnder, Leads, StopsAs, StopsFrom}
use Rattle.vol_copy.specs.Seen.{IsSeen, Idles, Looked, LooksUntil}
use Rattle.vol_copy.specs.Turns.{IsAllUpTo, IsTurned, IsLast, HasTurned, IsThrough}
use Rattle.vol_copy.specs.declared.copying.Turn.{Turn}
use Rattle.vol_copy.proofs.Composing.{rests_some, rest_table, cuts_then, cuts_none, cuts_of, tells_on}
use Rattle.vol_copy.proofs.Found.{found_some, found_none}
use Rattle.vol_copy.proofs.Looking.{rest_image, rests_as}
use Rattle.vol_copy.proofs.Places.{amid_under}

module _ {M : Type 0} {nor : NorOf M} where
  -- a target that is only read has the files that it had
  pub same_files : {g : Geometry} {old new : Volume M nor} {s more : State} → OnlyReads nor old.nor.now new.nor.now → IsAtRest g old s → IsAtRest g new more → more.table ≡ s.table
  same_files {g} reads was now = sym (rest_image now) ∙ ap (table_of g) reads.bytes ∙ rest_image was

  pub up_under : (after : ℕ) (t : Task) (v : Volume M nor) → Rests (IsUpTo after) t v → t.known ≡ true → IsUnder t.alike t.source t.first (table_of t.g (nor.bytes v.nor.now))
  up_under after t v has known = subst (IsUnder t.alike t.source t.first) (sym (rest_image has.at)) (amid_under t _ _ has.files (has.known known))

  pub all_up : (after : ℕ) (t : Task) (v : Volume M nor) → Rests (IsAllUpTo after) t v → Rests (IsUpTo after) t v
  all_up after t v has = rests_as (IsAllUpTo after) (IsUpTo after) t v (λ known files all. all.up) has

-- what is passed is turned
passed_turned : (after : ℕ) (stat : Stat) (is_new : Bool) (t : Task) (files : List File) (f : File) → file_above after t.source ≡ Some f → stat ≡ stat_of f → IsPassed stat is_new t files → IsTurned after (record { id = stat.id; is_new = is_new }) t files
passed_turned after stat is_new t files f found told passed = record { up = passed_up stat is_new t files passed; counts = λ copied kept counted. passed_counts stat is_new t files passed after copied kept f found told counted }

-- a record with a copy already isn't missing
there_seen : (stat : Stat) (t : Task) (files : List File) → IsSeen stat false t files → IsAllThere t.alike t.source files → ⊥
there_seen stat t files seen there =
    let f = seen.next.f in
    let named : file_named f.name t.source ≡ Some f = id-named t.source f.id f seen.next.amid.fit.table (next_here stat t files seen.next) in
    false≢true (sym seen.seen ∙ there.each f.name f named)

-- ---- one turn

module _ {N M : Type 0} {nor_from : NorOf N} {nor : NorOf M} (after : ℕ) (from : Reader N nor_from) (old : Volume M nor) where
  -- the source fails, or tells nothing more
  pub turn_none_cuts : CutsUnder (With nor_from from (Rests (IsUpTo after))) old old
  turn_none_cuts = cuts_none (With nor_from from (Rests (IsUpTo after))) old (λ t has. rests_some t old has.1) (λ t has known. up_under after t old has.1 known)

  pub turn_none_idle : Idles (With nor_from from (Rests (IsAllUpTo after))) old old
  turn_none_idle = λ t has known. reads_none old.nor.now

  pub turn_fails : (why : CopyErr) → why ≡ FromFault → StopsFrom (With nor_from from (Rests (IsUpTo after))) old old why
  turn_fails why fault = λ t has known. subst (StopsAs t old) (sym fault) tt

module _ {N M : Type 0} {nor_from : NorOf N} {nor : NorOf M} (after : ℕ) (from from_mid : Reader N nor_from) (reads : OnlyReads nor_from from.nor.now from_mid.nor.now) (same : IsSameReader from from_mid) (found : Option Stat)
    (told : (source : List File) → TellsFiles nor_from from source → found ≡ option_map stat_of (file_above after source)) (old : Volume M nor) where
  abbrev pub Before : Task → Volume M nor → Type 0
  Before = With nor_from from (Rests (IsUpTo after))

  pub turn_last : found ≡ None → Leads Before (Rests (HasTurned after None)) old old
  turn_last none = λ t has. rests_as (IsUpTo after) (IsLast after) t old (λ known files up. record { up = up; none = found_none (file_above after t.source) (sym none ∙ told t.source (has.0 known)) }) has.1

  module _ (stat : Stat) (some : found ≡ Some stat) where
    file_is : (t : Task) → TellsFiles nor_from from t.source → (f : File) × (file_above after t.source ≡ Some f) × (stat ≡ stat_of f)
    file_is t tells = found_some (file_above after t.source) stat (sym some ∙ told t.source tells)

    -- the record is the next
    turn_next : (t : Task) → Before t old → With nor_from from_mid (Rests (IsNext stat)) t old
    turn_next t has = (
      λ known. tells_on reads same (has.0 known),
      record {
        files = has.1.files;
        some = has.1.some;
        at = has.1.at;
        known = λ known. let w = file_is t (has.0 known) in record { after = after; f = w.0; found = w.1; stat_is = w.2; amid = has.1.known known; table = rest_table has.1.at };
      },
    )

    turn_all : (t : Task) → With nor_from from (Rests (IsAllUpTo after)) t old → Before t old
    turn_all t has = (has.0, all_up after t old has.1)

    -- the comparison fails
    module _ (mid : Volume M nor) (why : CopyErr) (until : LooksUntil (With nor_from from_mid (Rests (IsNext stat))) old mid why) where
      pub unseen_cuts : CutsUnder Before old mid
      unseen_cuts = cuts_of Before (With nor_from from_mid (Rests (IsNext stat))) old mid turn_next until.cuts

      pub unseen_idle : Idles (With nor_from from (Rests (IsAllUpTo after))) old mid
      unseen_idle = λ t has known. until.looks t (turn_next t (turn_all t has)) known

      pub unseen_stops : StopsFrom Before old mid why
      unseen_stops = λ t has known. until.stops t (turn_next t has) known

    module _ (copy : Bool) (mid : Volume M nor) (looked : Looked (With nor_from from_mid (Rests (IsNext stat))) (Rests (IsSeen stat copy)) old mid) where
      seen_cuts : CutsUnder Before old mid
      seen_cuts = cuts_of Before (With nor_from from_mid (Rests (IsNext stat))) old mid turn_next looked.cuts

      pub seen_leads : Leads Before (Rests (IsSeen stat copy)) old mid
      seen_leads = λ t has. looked.leads t (turn_next t has)

    -- it has its copy
    module _ (mid : Volume M nor) (looked : Looked (With nor_from from_mid (Rests (IsNext stat))) (Rests (IsSeen stat true)) old mid) where
      pub kept_cuts : CutsUnder Before old mid
      kept_cuts = seen_cuts true mid looked

      pub kept_idle : Idles (With nor_from from (Rests (IsAllUpTo after))) old mid
      kept_idle = λ t has known. looked.looks t (turn_next t (turn_all t has)) known

      pub kept_leads : Leads Before (Rests (HasTurned after (Some (record { id = stat.id; is_new = false })))) old mid
      kept_leads = λ t has.
          let w = seen_leads true mid looked t has in
          record {
            files = w.files;
            some = w.some;
            at = w.at;
            known = λ known.
                let f = file_is t (has.0 known) in
                let seen = w.known known in
                passed_turned after stat false t w.files f.0 f.1 f.2 (kept_passes stat t w.files seen.next seen.seen);
          }

    -- it is copied
    module _ (mid new : Volume M nor) (from_new : Reader N nor_from) (more : OnlyReads nor_from from_mid.nor.now from_new.nor.now) (same_more : IsSameReader from_mid from_new) (looked : Looked (With nor_from from_mid (Rests (IsNext stat))) (Rests (IsSeen stat false)) old mid)
        (copies : CutsUnder (With nor_from from_new (Rests (IsMissing stat))) mid new) where
      missing_leads : Leads Before (With nor_from from_new (Rests (IsMissing stat))) old mid
      missing_leads = λ t has. (λ known. tells_on more same_more (tells_on reads same (has.0 known)), rests_as (IsSeen stat false) (IsMissing stat) t mid (λ known files seen. record { next = seen.next; missing = seen.seen }) (seen_leads false mid looked t has))

      pub copied_cuts : CutsUnder Before old new
      copied_cuts = cuts_then Before (With nor_from from_new (Rests (IsMissing stat))) old mid new (λ t has. rests_some t mid has.1) (seen_cuts false mid looked) missing_leads copies

      pub copied_idle : Idles (With nor_from from (Rests (IsAllUpTo after))) old new
      copied_idle = λ t has known. absurd (
          let w = seen_leads false mid looked t (turn_all t has) in
          let files : w.files ≡ has.1.files = same_files (looked.looks t (turn_next t (turn_all t has)) known) has.1.at w.at in
          there_seen stat t w.files (w.known known) (subst (IsAllThere t.alike t.source) (sym files) (has.1.known known).there))

      pub copied_stops : (why : CopyErr) → StopsFrom (With nor_from from_new (Rests (IsMissing stat))) mid new why → StopsFrom Before old new why
      copied_stops why stops = λ t has known. stops t (missing_leads t has) known

      pub copied_leads : Leads (With nor_from from_new (Rests (IsMissing stat))) (Rests (IsPassed stat true)) mid new → Leads Before (Rests (HasTurned after (Some (record { id = stat.id; is_new = true })))) old new
      copied_leads leads = λ t has.
          let w = leads t (missing_leads t has) in
          record {
            files = w.files;
            some = w.some;
            at = w.at;
            known = λ known. let f = file_is t (has.0 known) in passed_turned after stat true t w.files f.0 f.1 f.2 (w.known known);
          }

-- ---- turn after turn

-- so many were copied and kept up to an id
pub record HasCounted (after : ℕ) (c : Copied) (t : Task) (files : List File) : Type 0 where
  pub up : IsUpTo after t files
  pub counted : IsCounted after c.copied c.kept t

counted_turn : (after : ℕ) (turn : Turn) (c : Copied) (t : Task) (files : List File) → IsCounted after c.copied c.kept t → IsTurned after turn t files →
    HasCounted turn.id (record { copied = c.copied + cond turn.is_new 1 0; kept = c.kept + cond turn.is_new 0 1 }) t files
counted_turn after turn c t files counted turned = record { up = turned.up; counted = turned.counts c.copied c.kept counted }

module _ {N M : Type 0} {nor_from : NorOf N} {nor : NorOf M} (from : Reader N nor_from) (start : Volume M nor) where
  abbrev pub Start : Task → Volume M nor → Type 0
  Start = With nor_from from (Rests (IsUpTo 0))

  -- So far: what a cut leaves, where the target stands, and that it was only read where all was there.
  pub record HasGone (after : ℕ) (c : Copied) (v : Volume M nor) : Type 0 where
    pub cuts : CutsUnder Start start v
    pub leads : Leads Start (Rests (HasCounted after c)) start v
    pub idle : Idles (With nor_from from (Rests (IsAllUpTo 0))) start v

  pub gone_none : HasGone 0 (record { copied = 0; kept = 0 }) start
  gone_none = record {
    cuts = cuts_none Start start (λ t has. rests_some t start has.1) (λ t has known. up_under 0 t start has.1 known);
    leads = λ t has. rests_as (IsUpTo 0) (HasCounted 0 (record { copied = 0; kept = 0 })) t start (λ known files up. record { up = up; counted = counts_none t up.fit }) has.1;
    idle = λ t has known. reads_none start.nor.now;
  }

  module _ (after : ℕ) (c : Copied) (mid new : Volume M nor) (from_mid : Reader N nor_from) (reads : OnlyReads nor_from from.nor.now from_mid.nor.now) (same : IsSameReader from from_mid) (gone : HasGone after c mid) where
    here : Leads Start (With nor_from from_mid (Rests (IsUpTo after))) start mid
    here = λ t has. (λ known. tells_on reads same (has.0 known), rests_as (HasCounted after c) (IsUpTo after) t mid (λ known files counted. counted.up) (gone.leads t has))

    from_all : (t : Task) → With nor_from from (Rests (IsAllUpTo 0)) t start → Start t start
    from_all t has = (has.0, all_up 0 t start has.1)

    -- where all was there, it is
    all_here : (t : Task) → With nor_from from (Rests (IsAllUpTo 0)) t start → t.known ≡ true → With nor_from from_mid (Rests (IsAllUpTo after)) t mid
    all_here t has known =
        let w = here t (from_all t has) in
        let files : w.1.files ≡ has.1.files = same_files (gone.idle t has known) has.1.at w.1.at in
        (w.0, record { files = w.1.files; some = w.1.some; at = w.1.at; known = λ k. record { up = w.1.known k; there = subst (IsAllThere t.alike t.source) (sym files) (has.1.known k).there } })

    pub gone_cuts : CutsUnder (With nor_from from_mid (Rests (IsUpTo after))) mid new → CutsUnder Start start new
    gone_cuts cuts = cuts_then Start (With nor_from from_mid (Rests (IsUpTo after))) start mid new (λ t has. rests_some t mid has.1) gone.cuts here cuts

    pub gone_idle : Idles (With nor_from from_mid (Rests (IsAllUpTo after))) mid new → Idles (With nor_from from (Rests (IsAllUpTo 0))) start new
    gone_idle idle = λ t has known. reads_then (gone.idle t has known) (idle t (all_here t has known) known)

    pub gone_stops : (why : CopyErr) → StopsFrom (With nor_from from_mid (Rests (IsUpTo after))) mid new why → StopsFrom Start start new why
    gone_stops why stops = λ t has known. stops t (here t has) known

    -- a turn more
    pub gone_turn : (turn : Turn) → CutsUnder (With nor_from from_mid (Rests (IsUpTo after))) mid new → Leads (With nor_from from_mid (Rests (IsUpTo after))) (Rests (HasTurned after (Some turn))) mid new → Idles (With nor_from from_mid (Rests (IsAllUpTo after))) mid new →
        HasGone turn.id (record { copied = c.copied + cond turn.is_new 1 0; kept = c.kept + cond turn.is_new 0 1 }) new
    gone_turn turn cuts leads idle = record {
      cuts = gone_cuts cuts;
      leads = λ t has.
          let w = leads t (here t has) in
          record { files = w.files; some = w.some; at = w.at; known = λ known. counted_turn after turn c t w.files ((gone.leads t has).known known).counted (w.known known) };
      idle = gone_idle idle;
    }

    pub gone_counted : (turn : Turn) (d : Copied) → d.copied ≡ c.copied + cond turn.is_new 1 0 → d.kept ≡ c.kept + cond turn.is_new 0 1 → HasGone turn.id (record { copied = c.copied + cond turn.is_new 1 0; kept = c.kept + cond turn.is_new 0 1 }) new → HasGone turn.id d new
    gone_counted turn d copied kept now = subst (λ (x : Copied). HasGone turn.id x new) (ap (λ (n : ℕ). record { copied = n; kept = c.kept + cond turn.is_new 0 1 }) (sym copied) ∙ ap (λ (n : ℕ). record { copied = d.copied; kept = n }) (sym kept)) now

    -- none is left
    pub gone_last : Leads (With nor_from from_mid (Rests (IsUpTo after))) (Rests (HasTurned after None)) mid new → Leads Start (Rests (IsThrough c)) start new
    gone_last leads = λ t has.
        let w = leads t (here t has) in
        record {
          files = w.files;
          some = w.some;
          at = w.at;
          known = λ known.
              let last = w.known known in
              let counted = ((gone.leads t has).known known).counted in
              let all = (none_next after t.source last.none).1 in
              record {
                amid = all_passed after t w.files last.none last.up;
                kept_is = subst (λ (l : List File). c.kept ≡ kept_count t.alike l t.first) all counted.kept_is;
                all = subst (λ (l : List File). c.copied + c.kept ≡ length l) all counted.all;
              };
        }
