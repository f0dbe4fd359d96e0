-- What the functions that compare a record with the file of its name do, call by call.
use Rattle.std.proofs.Common.{◌≡◌, ℕ, ◌+◌, List, length, Bool, true, false, Option, Some, None, Result, Ok, Err, sym, ◌∙◌, ap, subst}
use Rattle.std.specs.Option.{option_map}
use Rattle.std.specs.Prelude.{IfOk, IfErr}
use Rattle.std.specs.List.{All}
use Rattle.geometry.specs.declared.geometry.Geometry.{Geometry}
use Rattle.nor_core.specs.declared.state.NorState.{Ghosts as NorOf}
use Rattle.nor_core.specs.Device.{OnlyReads}
use Rattle.nor_core.proofs.Cuts.{reads_none}
use Rattle.table_model.specs.declared.reply.Stat.{Stat}
use Rattle.table_model.specs.Table.{File, Open, same_text, file_named}
use Rattle.table_model.specs.Files.{stat_of}
use Rattle.table_model.specs.Ask.{Opens, Closes, Stats}
use Rattle.image_model.specs.Places.{IsImage}
use Rattle.image_model.specs.Tables.{table_of}
use Rattle.call_model.specs.Closed.{with_files}
use Rattle.vol_mount.specs.declared.reader.Reader.{Reader}
use Rattle.vol_mount.specs.Readers.{IsSameReader}
use Rattle.volume.specs.declared.volume.Volume.{Volume}
use Rattle.volume_run.specs.Resting.{IsAtRest}
use Rattle.copy_model.specs.declared.err.CopyErr.{CopyErr}
use Rattle.copy_model.specs.declared.err.CopyErr.TheVariants.{Refused}
use Rattle.copy_model.specs.Tasks.{Task}
use Rattle.copy_model.specs.Parts.{IsNext}
use Rattle.copy_model.proofs.Names.{found-all}
use Rattle.copy_model.proofs.Passing.{next_under}
use Rattle.vol_copy.specs.Stages.{Rests, Works, With}
use Rattle.vol_copy.specs.Went.{Went, done_as, stat_as, opened_as}
use Rattle.vol_copy.specs.Seen.{may_be, IsSeen, IsLike, IsLooking, IsLooked, IsRead, Looked, LooksUntil}
use Rattle.vol_copy.proofs.Composing.{rests_some, works_some, cuts_none}
use Rattle.vol_copy.proofs.Found.{found_some, found_none}
use Rattle.vol_copy.proofs.Fitting.{IsFine, fine_files}
use Rattle.vol_copy.proofs.Likeness.{next_fine, seen_none, seen_other, is_like, looks_all}
use Rattle.vol_copy.proofs.Looking.{rest_image, looked_then, until_then, looked_as, looked_with, until_with, with_looked, with_until}
use Rattle.vol_copy.proofs.Seeing.{fault_stops, stat_reads, stat_cuts, stat_leads, stat_stops, see_looked, see_until, see_missing, quit_looked, quit_until, looking_under}

-- a file of an image has as many meta bytes as the volume
meta_long : (g : Geometry) (a : List ℕ) (name : List ℕ) (files : List File) (x : File) → IsImage g a → table_of g a ≡ files → file_named name files ≡ Some x → length x.meta ≡ g.meta
unfolding file_named
meta_long g a name files x is table there = (found-all (IsFine g) (λ (f : File). same_text f.name name) files x (subst (λ (l : List File). All (IsFine g) l) table (fine_files g a is)) there).1

module _ {M : Type 0} {nor : NorOf M} where
  -- what holds of a target at rest, as it stands, holds of more
  rests_at : (K L : Task → List File → Type 0) (t : Task) (v : Volume M nor) → ((files : List File) → IsAtRest t.g v (with_files t.slots files) → t.known ≡ true → K t files → L t files) → Rests K t v → Rests L t v
  rests_at K L t v more has = record { files = has.files; some = has.some; at = has.at; known = λ known. more has.files has.at known (has.known known) }

  works_as : (fd flags : ℕ) (K L : Task → Open → List File → Type 0) (t : Task) (v : Volume M nor) → ((d : Open) (files : List File) → K t d files → L t d files) → Works fd flags K t v → Works fd flags L t v
  works_as fd flags K L t v more has = record { files = has.files; id = has.id; offset = has.offset; first = has.first; some = has.some; at = has.at; known = λ known. more (record { id = has.id; flags = flags; offset = has.offset }) has.files (has.known known) }

-- ---- whether it is there

module _ {N M : Type 0} {nor_from : NorOf N} {nor : NorOf M} (stat : Stat) (name : List ℕ) (named : name ≡ stat.name) (from : Reader N nor_from) (old mid : Volume M nor) (r : Result (Option Stat) CopyErr) (first : Went stat_as (Stats name) old mid r) where
  abbrev pub Next : Task → Volume M nor → Type 0
  Next = With nor_from from (Rests (IsNext stat))

  went : Went stat_as (Stats stat.name) old mid r
  went = subst (λ (n : List ℕ). Went stat_as (Stats n) old mid r) named first

  told : (o : Option Stat) → r ≡ Ok o → Looked Next (Rests (λ t files. IsNext stat t files × (o ≡ option_map stat_of (file_named stat.name files)))) old mid
  told o ok = with_looked (Rests (IsNext stat)) from (Rests (λ t files. IsNext stat t files × (o ≡ option_map stat_of (file_named stat.name files)))) old mid (record {
    cuts = stat_cuts (IsNext stat) stat.name (λ t files next. next_fine stat t files next) old mid r went (λ t files next table. next_under stat t files next);
    looks = stat_reads (IsNext stat) stat.name (λ t files next. next_fine stat t files next) old mid r went;
    leads = stat_leads (IsNext stat) stat.name (λ t files next. next_fine stat t files next) old mid r went o ok;
  })

  pub there_fails : (why : CopyErr) → r ≡ Err why → LooksUntil Next old mid why
  there_fails why is = with_until (Rests (IsNext stat)) from old mid why (record {
    cuts = stat_cuts (IsNext stat) stat.name (λ t files next. next_fine stat t files next) old mid r went (λ t files next table. next_under stat t files next);
    looks = stat_reads (IsNext stat) stat.name (λ t files next. next_fine stat t files next) old mid r went;
    stops = λ t has known. fault_stops t mid why (stat_stops (IsNext stat) stat.name (λ t files next. next_fine stat t files next) old mid r went why is t has known);
  })

  pub there_none : r ≡ Ok None → Looked Next (Rests (IsSeen stat false)) old mid
  there_none ok = looked_as Next (Rests (λ t files. IsNext stat t files × (None ≡ option_map stat_of (file_named stat.name files)))) (Rests (IsSeen stat false)) old mid
      (λ t has w. rests_at (λ t files. IsNext stat t files × (None ≡ option_map stat_of (file_named stat.name files))) (IsSeen stat false) t mid (λ files at known k. seen_none stat t files k.0 (found_none (file_named stat.name files) k.1)) w) (told None ok)

  module _ (there : Stat) (ok : r ≡ Ok (Some there)) (image : nor.tells mid.nor.now → IsImage mid.geometry (nor.bytes mid.nor.now)) where
    meta_at : (t : Task) (files : List File) (x : File) → IsAtRest t.g mid (with_files t.slots files) → file_named stat.name files ≡ Some x → length x.meta ≡ t.g.meta
    meta_at t files x at here = meta_long t.g (nor.bytes mid.nor.now) stat.name files x (subst (λ (g : Geometry). IsImage g (nor.bytes mid.nor.now)) at.geometry (image at.stands.stands.tells)) (rest_image at) here

    pub there_other : may_be stat there ≡ false → Looked Next (Rests (IsSeen stat false)) old mid
    there_other other = looked_as Next (Rests (λ t files. IsNext stat t files × (Some there ≡ option_map stat_of (file_named stat.name files)))) (Rests (IsSeen stat false)) old mid
        (λ t has w. rests_at (λ t files. IsNext stat t files × (Some there ≡ option_map stat_of (file_named stat.name files))) (IsSeen stat false) t mid (λ files at known k.
        let x = found_some (file_named stat.name files) there k.1 in
        seen_other stat t files k.0 x.0 x.1 (meta_at t files x.0 at x.1) (ap (may_be stat) (sym x.2) ∙ other)) w) (told (Some there) ok)

    there_like : may_be stat there ≡ true → Looked Next (With nor_from from (Rests (IsLike stat))) old mid
    there_like may = looked_as Next (Rests (λ t files. IsNext stat t files × (Some there ≡ option_map stat_of (file_named stat.name files)))) (With nor_from from (Rests (IsLike stat))) old mid
        (λ t has w. (
          has.0,
          rests_at (λ t files. IsNext stat t files × (Some there ≡ option_map stat_of (file_named stat.name files))) (IsLike stat) t mid (λ files at known k.
              let x = found_some (file_named stat.name files) there k.1 in
              is_like stat t files k.0 x.0 x.1 (meta_at t files x.0 at x.1) (ap (may_be stat) (sym x.2) ∙ may)) w,
        )) (told (Some there) ok)

    module _ (may : may_be stat there ≡ true) (new : Volume M nor) (result : Result Bool CopyErr) where
      pub there_then : IfOk result (λ same. Looked (With nor_from from (Rests (IsLike stat))) (Rests (IsSeen stat same)) mid new) → IfOk result (λ same. Looked Next (Rests (IsSeen stat same)) old new)
      there_then second = go result second
        where
          go : (r : Result Bool CopyErr) → IfOk r (λ same. Looked (With nor_from from (Rests (IsLike stat))) (Rests (IsSeen stat same)) mid new) → IfOk r (λ same. Looked Next (Rests (IsSeen stat same)) old new)
          go (Ok same) looked = looked_then Next (With nor_from from (Rests (IsLike stat))) (Rests (IsSeen stat same)) old mid new (λ t has. rests_some t mid has.1) (there_like may) looked
          go (Err why) looked = looked

      pub there_until : IfErr result (LooksUntil (With nor_from from (Rests (IsLike stat))) mid new) → IfErr result (LooksUntil Next old new)
      there_until second = go result second
        where
          go : (r : Result Bool CopyErr) → IfErr r (LooksUntil (With nor_from from (Rests (IsLike stat))) mid new) → IfErr r (LooksUntil Next old new)
          go (Ok same) until = until
          go (Err why) until = until_then Next (With nor_from from (Rests (IsLike stat))) old mid new why (λ t has. rests_some t mid has.1) (there_like may) until

-- ---- whether it has the bytes

module _ {N M : Type 0} {nor_from : NorOf N} {nor : NorOf M} (stat : Stat) (name : List ℕ) (named : name ≡ stat.name) (from : Reader N nor_from) (old mid : Volume M nor) (r : Result (Option ℕ) CopyErr) (first : Went opened_as (Opens name 8) old mid r) where
  abbrev pub Like : Task → Volume M nor → Type 0
  Like = With nor_from from (Rests (IsLike stat))

  opens : Went opened_as (Opens stat.name 8) old mid r
  opens = subst (λ (n : List ℕ). Went opened_as (Opens n 8) old mid r) named first

  pub bytes_fails : (why : CopyErr) → r ≡ Err why → LooksUntil Like old mid why
  bytes_fails why is = with_until (Rests (IsLike stat)) from old mid why (see_until stat old mid r opens why is)

  pub bytes_missing : r ≡ Ok None → LooksUntil Like old mid Refused
  bytes_missing is = with_until (Rests (IsLike stat)) from old mid Refused (see_missing stat old mid r opens Refused is)

  module _ (fd : ℕ) (ok : r ≡ Ok (Some fd)) where
    opened : Looked Like (With nor_from from (Works fd 8 (IsLooking stat 0))) old mid
    opened =
        let looked = see_looked stat old mid r opens fd ok in
        looked_as Like (Works fd 8 (IsLooking stat 0)) (With nor_from from (Works fd 8 (IsLooking stat 0))) old mid (λ t has w. (has.0, w)) (with_looked (Rests (IsLike stat)) from (Works fd 8 (IsLooking stat 0)) old mid looked)

    pub bytes_unread : (next : Volume M nor) (why : CopyErr) → LooksUntil (With nor_from from (Works fd 8 (IsLooking stat 0))) mid next why → LooksUntil Like old next why
    bytes_unread next why until = until_then Like (With nor_from from (Works fd 8 (IsLooking stat 0))) old mid next why (λ t has. works_some t mid has.1) opened until

    module _ (same : Bool) (next : Volume M nor) (second : Looked (With nor_from from (Works fd 8 (IsLooking stat 0))) (Works fd 8 (IsLooked stat same)) mid next) (new : Volume M nor) (r3 : Result (Unit {0}) CopyErr) (third : Went done_as (Closes fd) next new r3) where
      compared : Looked Like (Works fd 8 (IsLooked stat same)) old next
      compared = looked_then Like (With nor_from from (Works fd 8 (IsLooking stat 0))) (Works fd 8 (IsLooked stat same)) old mid next (λ t has. works_some t mid has.1) opened second

      pub bytes_unclosed : (why : CopyErr) → r3 ≡ Err why → LooksUntil Like old new why
      bytes_unclosed why is = until_then Like (Works fd 8 (IsLooked stat same)) old next new why (λ t has. works_some t next has) compared (quit_until stat same fd next new r3 third why is)

      pub bytes_done : r3 ≡ Ok tt → Looked Like (Rests (IsSeen stat same)) old new
      bytes_done done = looked_then Like (Works fd 8 (IsLooked stat same)) (Rests (IsSeen stat same)) old next new (λ t has. works_some t next has) compared (quit_looked stat same fd next new r3 third done)

-- ---- piece by piece

module _ {N M : Type 0} {nor_from : NorOf N} {nor : NorOf M} (stat : Stat) (fd : ℕ) (from : Reader N nor_from) (old : Volume M nor) where
  abbrev pub Opened : Task → Volume M nor → Type 0
  Opened = With nor_from from (Works fd 8 (IsLooking stat 0))

  pub pieces_begin : Looked Opened (Works fd 8 (IsLooking stat 0)) old old
  pieces_begin = record {
    cuts = cuts_none Opened old (λ t has. works_some t old has.1) (λ t has known. looking_under stat fd 0 t old has.1 known);
    looks = λ t has known. reads_none old.nor.now;
    leads = λ t has. has.1;
  }

  module _ (at : ℕ) (mid : Volume M nor) (so_far : Looked Opened (Works fd 8 (IsLooking stat at)) old mid) where
    pub pieces_end : at ≡ stat.size → Looked Opened (Works fd 8 (IsLooked stat true)) old mid
    pieces_end end = looked_as Opened (Works fd 8 (IsLooking stat at)) (Works fd 8 (IsLooked stat true)) old mid
        (λ t has w. works_as fd 8 (IsLooking stat at) (IsLooked stat true) t mid (λ d files looking. looks_all stat at t d files looking end) w) so_far

    module _ (from_mid : Reader N nor_from) (reads : OnlyReads nor_from from.nor.now from_mid.nor.now) (same_from : IsSameReader from from_mid) (new : Volume M nor) where
      pub pieces_fail : (why : CopyErr) → LooksUntil (With nor_from from_mid (Works fd 8 (IsLooking stat at))) mid new why → LooksUntil Opened old new why
      pieces_fail why until = until_with (Works fd 8 (IsLooking stat 0)) (Works fd 8 (IsLooking stat at)) from from_mid reads same_from old mid new why (λ t has. works_some t mid has) so_far until

      more : (n : ℕ) (same : Bool) → Looked (With nor_from from_mid (Works fd 8 (IsLooking stat at))) (Works fd 8 (IsRead stat (at + n) same)) mid new → Looked Opened (Works fd 8 (IsRead stat (at + n) same)) old new
      more n same piece = looked_with (Works fd 8 (IsLooking stat 0)) (Works fd 8 (IsLooking stat at)) from from_mid reads same_from (Works fd 8 (IsRead stat (at + n) same)) old mid new (λ t has. works_some t mid has) so_far piece

      pub pieces_more : (n : ℕ) (same : Bool) → same ≡ true → Looked (With nor_from from_mid (Works fd 8 (IsLooking stat at))) (Works fd 8 (IsRead stat (at + n) same)) mid new → Looked Opened (Works fd 8 (IsLooking stat (at + n))) old new
      pieces_more n same is piece = looked_as Opened (Works fd 8 (IsRead stat (at + n) true)) (Works fd 8 (IsLooking stat (at + n))) old new
          (λ t has w. works_as fd 8 (IsRead stat (at + n) true) (IsLooking stat (at + n)) t new (λ d files looking. looking) w) (subst (λ (b : Bool). Looked Opened (Works fd 8 (IsRead stat (at + n) b)) old new) is (more n same piece))

      pub pieces_other : (n : ℕ) (same : Bool) → same ≡ false → Looked (With nor_from from_mid (Works fd 8 (IsLooking stat at))) (Works fd 8 (IsRead stat (at + n) same)) mid new → Looked Opened (Works fd 8 (IsLooked stat false)) old new
      pieces_other n same differ piece = looked_as Opened (Works fd 8 (IsRead stat (at + n) false)) (Works fd 8 (IsLooked stat false)) old new
          (λ t has w. works_as fd 8 (IsRead stat (at + n) false) (IsLooked stat false) t new (λ d files seen. seen) w) (subst (λ (b : Bool). Looked Opened (Works fd 8 (IsRead stat (at + n) b)) old new) differ (more n same piece))
