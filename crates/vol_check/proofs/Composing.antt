-- The stages of the check one after another.
use Rattle.std.proofs.Common.{◌≡◌, ℕ, ◌+◌, List, length, Bool, true, false, refl, sym, ◌∙◌, ap, arith, ⊎_elim}
use Rattle.std.proofs.lemmas.Bool.{cases_Bool}
use Rattle.geometry.specs.declared.geometry.Geometry.{Geometry}
use Rattle.geometry.specs.Numbers.{page_count}
use Rattle.image_model.specs.Tables.{table_of, damaged_of}
use Rattle.image_model.specs.Tidy.{IsTidy, IsNeat, free_blocks, TellsFree, is_free_entry}
use Rattle.image_model.specs.Killed.{is_used, is_dead_entry, is_killable, killed_of}
use Rattle.image_model.specs.Places.{entry_of, has_magic, block_of, is_entry_page}
use Rattle.image_model.specs.Within.{block_number, page_number}
use Rattle.flash_view.proofs.Sorts.{free_is_dead}
use Rattle.image_laws.proofs.Frames.{table_of-same, damaged_of-same}
use Rattle.image_laws.proofs.Matching.{filter-none_in}
use Rattle.room_laws.specs.Staged.{OnlyKills, IsStripped}
use Rattle.vol_check.specs.Stage.{Kills}
use Rattle.room_laws.proofs.Sorted.{neat_tells_free}
use Rattle.room_laws.proofs.Staying.{stripped_free_stays}
use Rattle.vol_check.specs.declared.checking.Culled.{Culled}
use Rattle.vol_check.specs.declared.report.Report.{Report}
use Rattle.vol_check.specs.Owned.{OwnIf}
use Rattle.vol_check.specs.Stage.{IsClean, CleansEntries}
use Rattle.vol_check.specs.Culls.{IsSettled, IsServed, Passes, PassesDoubled, PassesDamaged, PassesRest, CullsPages}
use Rattle.vol_check.specs.MadeFresh.{MadeFresh}
use Rattle.vol_check.specs.Checks.{Checked}
use Rattle.vol_check.specs.Works.{Work, StageCut}
use Rattle.vol_check.proofs.Passing.{passes_then, kills_then}
use Rattle.vol_check.proofs.Tidied.{wanted_by, neat_after}

-- ---- the passes over live pages

-- after the first two, which killed n and m pages
pub record Settles (g : Geometry) (n m : ℕ) (was now : List ℕ) : Type 0 where
  pub passes : Passes g (n + m) was now
  pub settled : IsSettled g now
  pub count : m ≡ length (damaged_of g was)

abbrev pub settling : Work (ℕ × ℕ)
settling = record { needs = λ g was. Unit {0}; done = λ g was now n. Settles g n.0 n.1 was now; idle = λ g was. IsTidy g was }

pub settles : (g : Geometry) (a b c : List ℕ) (n m : ℕ) → PassesDoubled g n a b → PassesDamaged g m b c → Settles g n m a c
settles g a b c n m x y = record { passes = passes_then g a b c n m x.passes y.passes; settled = y.settled; count = y.count ∙ ap length x.damaged }

pub culls_all : (g : Geometry) (a c d : List ℕ) (n m l : ℕ) → Settles g n m a c → PassesRest g l c d → CullsPages g (n + m + l) m a d
culls_all g a c d n m l x y = record { passes = passes_then g a c d (n + m) l x.passes y.passes; served = y.served; none = y.none; count = x.count }

-- ---- nothing is left to be killed

not_killable : (g : Geometry) (a : List ℕ) → IsClean g a → IsServed g a → (p : ℕ) → is_killable g a p ≡ false
not_killable g a clean served p =
    ⊎_elim
    (λ (used : is_used g a p ≡ true). rw (used, wanted_by g a p clean served used) refl)
    (λ (unused : is_used g a p ≡ false). rw unused refl)
    (cases_Bool (is_used g a p))

none_killed : (g : Geometry) (a : List ℕ) → IsClean g a → IsServed g a → killed_of g a ≡ 0
unfolding killed_of
none_killed g a clean served = filter-none_in (λ p. is_killable g a p) 0 (page_count g) (λ p low high. not_killable g a clean served p)

-- ---- the whole check

-- an entry of 0xFFFF that isn't dead is free
ones_free : (g : Geometry) (a : List ℕ) (p : ℕ) → is_entry_page g p ≡ true → has_magic g a (block_of g p) ≡ true → entry_of g a p ≡ 0xFFFF → is_dead_entry g a p ≡ false → is_free_entry g a p ≡ true
unfolding is_used
ones_free g a p page magic ones clean =
    ⊎_elim
    (λ (free : is_free_entry g a p ≡ true). free)
    (λ (not_free : is_free_entry g a p ≡ false). absurd (
    let used : is_dead_entry g a p ≡ true = rw (page, magic, not_free, free_is_dead g a p ones, ones) refl in
    let bad : true ≡ false = sym used ∙ clean in cc))
    (cases_Bool (is_free_entry g a p))

-- after the block without its magic was made fresh, and the entries that are dead were killed
pub record Readies (g : Geometry) (erased : Bool) (dead : ℕ) (was now : List ℕ) : Type 0 where
  pub image : List ℕ
  pub made : MadeFresh g erased was image
  pub cleans : CleansEntries g dead image now

abbrev pub readying : (own : Bool) → Work (Bool × ℕ)
readying own = record { needs = λ g was. OwnIf own g was; done = λ g was now x. Readies g x.0 x.1 was now; idle = λ g was. IsTidy g was }

-- Then the lookup pages tell which entries are free.
pub ready_tells : (g : Geometry) (a c : List ℕ) (erased : Bool) (dead : ℕ) → Readies g erased dead a c → TellsFree g c
ready_tells g a c erased dead ready = record {
  magic = λ block low. ready.cleans.kills.pages.magic block ∙ ready.made.magics block low;
  free = λ p page ones.
      let block = block_number g p (page_number g p page) in
      let magic : has_magic g c (block_of g p) ≡ true = ready.cleans.kills.pages.magic (block_of g p) ∙ ready.made.magics (block_of g p) block in
      ones_free g c p page magic ones (ready.cleans.clean p);
}

-- and the passes over live pages
pub record CullsAll (g : Geometry) (erased : Bool) (dead : ℕ) (culled : Culled) (was now : List ℕ) : Type 0 where
  pub image : List ℕ
  pub ready : Readies g erased dead was image
  pub passes : CullsPages g culled.pages culled.damaged image now

abbrev pub culling_all : (own : Bool) → Work (Bool × ℕ × Culled)
culling_all own = record { needs = λ g was. OwnIf own g was; done = λ g was now x. CullsAll g x.0 x.1 x.2 was now; idle = λ g was. IsTidy g was }

-- kills after a block was made fresh
stripped_after : (g : Geometry) (a b d : List ℕ) (erased : Bool) → MadeFresh g erased a b → OnlyKills g b d → IsNeat g d → table_of g d ≡ table_of g a → IsStripped g a d
stripped_after g a b d erased made kills neat table =
    let later : IsStripped g b d = record {
      neat = neat;
      table = table ∙ sym (table_of-same g b a made.live);
      live = kills.live;
      free = λ p page magic. kills.free p page;
      fresh = λ block low none. let bad : true ≡ false = sym (made.magics block low) ∙ none in absurd (cc);
    } in
    record {
      neat = neat;
      table = table;
      live = λ p. rw (made.live p) at (kills.live p);
      free = λ p page magic. kills.free p page ∙ made.free p page magic;
      fresh = λ block low none. stripped_free_stays g b d later block low (made.fresh block low none);
    }

pub checked : (g : Geometry) (a c d : List ℕ) (report : Report) (dead pages : ℕ) → Readies g report.erased dead a c → CullsPages g pages report.damaged c d → StageCut g a d →
    report.killed ≡ dead + pages → (TellsFree g d → report.free_blocks ≡ free_blocks g d) → Checked g a d report
checked g a c d report dead pages ready culled kept killed free =
    let made = ready.made in
    let cleans = ready.cleans in
    let kills : Kills g ready.image d = kills_then g ready.image c d cleans.kills culled.passes.kills in
    let clean : IsClean g d = culled.passes.clean cleans.clean in
    let none : killed_of g d ≡ 0 = none_killed g d clean culled.served in
    let same_damage : damaged_of g c ≡ damaged_of g a = damaged_of-same g c a (λ p. cleans.live p ∙ made.live p) in
    let neat : IsNeat g d = neat_after g d (λ block low. kills.pages.magic block ∙ made.magics block low) clean culled.served culled.none in
    record {
      neat = neat;
      table = kept.keeps.keeps.table;
      erased = made.erased_is;
      killed = omega (arith, killed, made.killed, cleans.killed_more, culled.passes.count, none);
      damaged = culled.count ∙ ap length same_damage;
      free = free (neat_tells_free g d neat);
      free_least = kept.keeps.free;
      stripped = stripped_after g a ready.image d report.erased made kills.pages neat kept.keeps.keeps.table;
      uses = kept.uses;
      counts = λ block low. kills.counts block low ∙ made.counts block low;
    }
