-- Calls that only look at a target, one after the other.
use Rattle.std.proofs.Common.{◌≡◌, List, true}
use Rattle.geometry.specs.declared.geometry.Geometry.{Geometry}
use Rattle.nor_core.specs.declared.state.NorState.{Ghosts as NorOf}
use Rattle.nor_core.specs.Device.{OnlyReads}
use Rattle.nor_core.proofs.Cuts.{reads_then, reads_none}
use Rattle.table_model.specs.Table.{File, State}
use Rattle.table_model.specs.Window.{settled_at}
use Rattle.image_model.specs.Tables.{table_of}
use Rattle.vol_mount.specs.declared.reader.Reader.{Reader}
use Rattle.vol_mount.specs.Readers.{IsSameReader}
use Rattle.volume.specs.declared.volume.Volume.{Volume}
use Rattle.volume_run.specs.Resting.{IsAtRest}
use Rattle.copy_model.specs.declared.err.CopyErr.{CopyErr}
use Rattle.copy_model.specs.Tasks.{Task}
use Rattle.copy_model.specs.Under.{IsUnder}
use Rattle.vol_copy.specs.Stages.{StopsFrom, With, Rests}
use Rattle.vol_copy.specs.Seen.{Looked, LooksUntil}
use Rattle.vol_copy.proofs.Composing.{RestsSome, cuts_then, cuts_none, cuts_of, with_then}

module _ {M : Type 0} {nor : NorOf M} where
  -- the image of a target at rest has its table
  pub rest_image : {g : Geometry} {v : Volume M nor} {s : State} → IsAtRest g v s → table_of g (nor.bytes v.nor.now) ≡ s.table
  unfolding settled_at
  rest_image rest = rest.stands.stands.image.table

  -- what holds of a target at rest holds of more
  pub rests_as : (K L : Task → List File → Type 0) (t : Task) (v : Volume M nor) → (t.known ≡ true → (files : List File) → K t files → L t files) → Rests K t v → Rests L t v
  rests_as K L t v more has = record { files = has.files; some = has.some; at = has.at; known = λ known. more known has.files (has.known known) }

  -- no call
  pub looked_none : (A : Task → Volume M nor → Type 0) (v : Volume M nor) → ((t : Task) → A t v → RestsSome t v) → ((t : Task) → A t v → t.known ≡ true → IsUnder t.alike t.source t.first (table_of t.g (nor.bytes v.nor.now))) → Looked A A v v
  looked_none A v rests under = record { cuts = cuts_none A v rests under; looks = λ t has known. reads_none v.nor.now; leads = λ t has. has }

  pub until_none : (A : Task → Volume M nor → Type 0) (v : Volume M nor) (why : CopyErr) → ((t : Task) → A t v → RestsSome t v) → ((t : Task) → A t v → t.known ≡ true → IsUnder t.alike t.source t.first (table_of t.g (nor.bytes v.nor.now))) → StopsFrom A v v why → LooksUntil A v v why
  until_none A v why rests under stops = record { cuts = cuts_none A v rests under; looks = λ t has known. reads_none v.nor.now; stops = stops }

  -- some after others
  pub looked_then : (A B C : Task → Volume M nor → Type 0) (old mid new : Volume M nor) → ((t : Task) → B t mid → RestsSome t mid) → Looked A B old mid → Looked B C mid new → Looked A C old new
  looked_then A B C old mid new rests first second = record {
    cuts = cuts_then A B old mid new rests first.cuts first.leads second.cuts;
    looks = λ t has known. reads_then (first.looks t has known) (second.looks t (first.leads t has) known);
    leads = λ t has. second.leads t (first.leads t has);
  }

  pub until_then : (A B : Task → Volume M nor → Type 0) (old mid new : Volume M nor) (why : CopyErr) → ((t : Task) → B t mid → RestsSome t mid) → Looked A B old mid → LooksUntil B mid new why → LooksUntil A old new why
  until_then A B old mid new why rests first second = record {
    cuts = cuts_then A B old mid new rests first.cuts first.leads second.cuts;
    looks = λ t has known. reads_then (first.looks t has known) (second.looks t (first.leads t has) known);
    stops = λ t has known. second.stops t (first.leads t has) known;
  }

  -- what holds of fewer targets
  pub looked_of : (A B C : Task → Volume M nor → Type 0) (old new : Volume M nor) → ((t : Task) → A t old → B t old) → Looked B C old new → Looked A C old new
  looked_of A B C old new weaker is = record { cuts = cuts_of A B old new weaker is.cuts; looks = λ t has known. is.looks t (weaker t has) known; leads = λ t has. is.leads t (weaker t has) }

  pub until_of : (A B : Task → Volume M nor → Type 0) (old new : Volume M nor) (why : CopyErr) → ((t : Task) → A t old → B t old) → LooksUntil B old new why → LooksUntil A old new why
  until_of A B old new why weaker is = record { cuts = cuts_of A B old new weaker is.cuts; looks = λ t has known. is.looks t (weaker t has) known; stops = λ t has known. is.stops t (weaker t has) known }

  pub looked_as : (A B C : Task → Volume M nor → Type 0) (old new : Volume M nor) → ((t : Task) → A t old → B t new → C t new) → Looked A B old new → Looked A C old new
  looked_as A B C old new more is = record { cuts = is.cuts; looks = is.looks; leads = λ t has. more t has (is.leads t has) }

module _ {N M : Type 0} {nor_from : NorOf N} {nor : NorOf M} (A B : Task → Volume M nor → Type 0) (from from_mid : Reader N nor_from) (reads : OnlyReads nor_from from.nor.now from_mid.nor.now) (same : IsSameReader from from_mid) where
  -- beside a source that the first calls only read
  pub looked_with : (C : Task → Volume M nor → Type 0) (old mid new : Volume M nor) → ((t : Task) → B t mid → RestsSome t mid) → Looked (With nor_from from A) B old mid → Looked (With nor_from from_mid B) C mid new → Looked (With nor_from from A) C old new
  looked_with C old mid new rests first second = looked_then (With nor_from from A) (With nor_from from_mid B) C old mid new (λ t has. rests t has.1)
      (record { cuts = first.cuts; looks = first.looks; leads = with_then A B from from_mid old mid reads same first.leads }) second

  pub until_with : (old mid new : Volume M nor) (why : CopyErr) → ((t : Task) → B t mid → RestsSome t mid) → Looked (With nor_from from A) B old mid → LooksUntil (With nor_from from_mid B) mid new why → LooksUntil (With nor_from from A) old new why
  until_with old mid new why rests first second = until_then (With nor_from from A) (With nor_from from_mid B) old mid new why (λ t has. rests t has.1)
      (record { cuts = first.cuts; looks = first.looks; leads = with_then A B from from_mid old mid reads same first.leads }) second

-- from a target of which B holds where A does
module _ {N M : Type 0} {nor_from : NorOf N} {nor : NorOf M} (A : Task → Volume M nor → Type 0) (from : Reader N nor_from) where
  pub with_looked : (B : Task → Volume M nor → Type 0) (old new : Volume M nor) → Looked A B old new → Looked (With nor_from from A) B old new
  with_looked B old new is = looked_of (With nor_from from A) A B old new (λ t has. has.1) is

  pub with_until : (old new : Volume M nor) (why : CopyErr) → LooksUntil A old new why → LooksUntil (With nor_from from A) old new why
  with_until old new why is = until_of (With nor_from from A) A old new why (λ t has. has.1) is
