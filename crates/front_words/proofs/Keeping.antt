-- The numbers that a line gives are those of its volume.
use Rattle.std.proofs.Common.{◌≡◌, ℕ, ◌-◌, ◌*◌, ◌/◌, ◌%◌, ◌<◌, ◌≤◌, List, [], ◌∷◌, Bool, true, false, cond, eqb, leb, refl, ap, arith, ⊎_elim, subst, Option, Some, None, Result, Ok, Err}
use Rattle.std.specs.Prelude.{filter, unwrap_or, is_none, not, nat_lt, nat_le, ◌&&◌, ◌||◌}
use Rattle.std.specs.List.{list_all}
use Rattle.std.proofs.lemmas.Bool.{false≢true, cases_Bool}
use Rattle.std.proofs.lemmas.Grind.{common_steps}
use Rattle.geometry.specs.declared.magic.MagicKind.{MagicKind}
use Rattle.geometry.specs.declared.magic.MagicKind.TheVariants.{Plain, Length}
use Rattle.front_words.specs.declared.asked.Asked.{Asked}
use Rattle.front_words.specs.declared.settling.Candidate.{Candidate}
use Rattle.front_words.specs.declared.settling.Volume.{Volume}
use Rattle.front_words.specs.declared.settling.Unsettled.{Unsettled}
use Rattle.front_words.specs.declared.settling.Unsettled.TheVariants.{NoSize, Uneven, Several, AnyMeta, Spoiled, Doubled, Harmed, TooFar}
use Rattle.front_words.specs.Asking.{changes}
use Rattle.front_words.specs.Settling.{no_rival, writes, may_be_two, is_harmed, unless_harmed, none_sure, alone_in, sure_by, sure, chosen_by, told_volume, first_of, known_page, known_block, known_meta, known_magic, start_of, bytes_of, sized, fits, fits_magic, agrees, found_volume, with_meta, as_good, chosen, agreeing, settled_by, end_of, reached, settled, needs_found, IsAsGiven, KeepsNumbers}

both : (a b : Bool) → (a && b) ≡ true → (a ≡ true) × (b ≡ true)
both true true h = (refl, refl)
both true false h = absurd (false≢true h)
both false b h = absurd (false≢true h)

-- what is known is what is given
given_first : {A : Type 0} (o other : Option A) (x : A) → first_of o other ≡ Some x → IsAsGiven o x
given_first None other x h = tt
given_first (Some a) other x h = cc

given_none : {A : Type 0} (o other : Option A) (x : A) → first_of o other ≡ None → IsAsGiven o x
given_none None other x h = tt
given_none (Some a) other x h = cc

given_or : (o : Option ℕ) (d : ℕ) → IsAsGiven o (unwrap_or o d)
given_or None d = tt
given_or (Some a) d = refl

given_fit : (o : Option ℕ) (n : ℕ) → fits o n ≡ true → IsAsGiven o n
given_fit None n h = tt
given_fit (Some a) n h = grind (arith, common_steps)

given_first_fit : (o other : Option ℕ) (n : ℕ) → fits (first_of o other) n ≡ true → IsAsGiven o n
given_first_fit None other n h = tt
given_first_fit (Some a) other n h = given_fit (Some a) n h

given_magic : (o other : Option MagicKind) (k : MagicKind) → fits_magic (first_of o other) k ≡ true → IsAsGiven o k
given_magic None other k h = tt
given_magic (Some Plain) other Plain h = refl
given_magic (Some Length) other Length h = refl
given_magic (Some Plain) other Length h = absurd (false≢true h)
given_magic (Some Length) other Plain h = absurd (false≢true h)

-- a volume by its size
record IsSized (asked : Asked) (bytes page block meta : ℕ) (magic : MagicKind) (v : Volume) : Type 0 where
  page_is : page ≡ v.page
  block_is : block ≡ v.block
  meta_is : meta ≡ v.meta
  magic_is : magic ≡ v.magic
  at_is : start_of asked ≡ v.at
  bytes_are : bytes ≡ v.block * v.blocks

sized_is : (asked : Asked) (bytes page block meta : ℕ) (magic : MagicKind) (v : Volume) → sized asked bytes page block meta magic ≡ Ok v → IsSized asked bytes page block meta magic v
sized_is asked bytes page block meta magic v = first (eqb bytes 0 || not (leb bytes 4294967295)) (eqb block 0 || not (eqb (bytes % block) 0)) refl
  where
    made : Volume
    made = record { at = start_of asked; page = page; block = block; blocks = bytes / block; meta = meta; magic = magic }

    first : (a b : Bool) → (eqb block 0 || not (eqb (bytes % block) 0)) ≡ b → cond a (Err NoSize) (cond b (Err (Uneven bytes block)) (Ok made)) ≡ Ok v → IsSized asked bytes page block meta magic v
    first true b e h = cc
    first false true e h = cc
    first false false e h =
        let is : made ≡ v = cc in
        let some : 0 < block = grind (arith, common_steps) in
        let even : bytes % block ≡ 0 = grind (arith, common_steps) in
        let whole : bytes ≡ block * (bytes / block) = omega arith in
        subst (λ (u : Volume). IsSized asked bytes page block meta magic u) is (record { page_is = refl; block_is = refl; meta_is = refl; magic_is = refl; at_is = refl; bytes_are = whole })

as_is : {A : Type 0} (o : Option A) (x y : A) → x ≡ y → IsAsGiven o x → IsAsGiven o y
as_is o x y same h = subst (λ z. IsAsGiven o z) same h

sized_keeps : (asked : Asked) (length page block meta : ℕ) (magic : MagicKind) (v : Volume) → known_page asked ≡ Some page → known_block asked ≡ Some block → known_meta asked ≡ Some meta → known_magic asked ≡ Some magic → sized asked (bytes_of asked length) page block meta magic ≡ Ok v → KeepsNumbers asked v
sized_keeps asked length page block meta magic v p b m k h =
    let is = sized_is asked (bytes_of asked length) page block meta magic v h in
    record {
      page = as_is asked.page page v.page is.page_is (given_first asked.page _ page p);
      block = as_is asked.block block v.block is.block_is (given_first asked.block _ block b);
      meta = as_is asked.meta meta v.meta is.meta_is (given_first asked.meta _ meta m);
      magic = as_is asked.magic magic v.magic is.magic_is (given_first asked.magic _ magic k);
      at = as_is asked.at (start_of asked) v.at is.at_is (given_or asked.at 0);
      size = as_is asked.size (bytes_of asked length) (v.block * v.blocks) is.bytes_are (given_or asked.size (length - start_of asked));
    }

found_keeps : (asked : Asked) (c : Candidate) (meta : ℕ) → agrees asked c ≡ true → IsAsGiven asked.meta meta → KeepsNumbers asked (found_volume c meta)
found_keeps asked c meta fine given =
    let at = both (fits asked.at c.at) (fits (known_page asked) c.page && (fits (known_block asked) c.block && (fits asked.size (c.block * c.blocks) && fits_magic (known_magic asked) c.magic))) fine in
    let page = both (fits (known_page asked) c.page) (fits (known_block asked) c.block && (fits asked.size (c.block * c.blocks) && fits_magic (known_magic asked) c.magic)) at.1 in
    let block = both (fits (known_block asked) c.block) (fits asked.size (c.block * c.blocks) && fits_magic (known_magic asked) c.magic) page.1 in
    let size = both (fits asked.size (c.block * c.blocks)) (fits_magic (known_magic asked) c.magic) block.1 in
    record {
      page = given_first_fit asked.page _ c.page page.0;
      block = given_first_fit asked.block _ c.block block.0;
      meta = given;
      magic = given_magic asked.magic _ c.magic size.1;
      at = given_fit asked.at c.at at.0;
      size = given_fit asked.size (c.block * c.blocks) size.0;
    }

meta_keeps : (asked : Asked) (c : Candidate) (known : Option ℕ) (v : Volume) → known_meta asked ≡ known → agrees asked c ≡ true → with_meta asked c known ≡ Ok v → KeepsNumbers asked v
meta_keeps asked c (Some meta) v is fine h =
    let same : found_volume c meta ≡ v = cc in
    subst (λ (u : Volume). KeepsNumbers asked u) same (found_keeps asked c meta fine (given_first asked.meta _ meta is))
meta_keeps asked c None v is fine h = go (changes asked.word && not (eqb c.first_meta c.last_meta)) h
  where
    go : (b : Bool) → cond b (Err AnyMeta) (Ok (found_volume c c.first_meta)) ≡ Ok v → KeepsNumbers asked v
    go true h = cc
    go false h =
        let same : found_volume c c.first_meta ≡ v = cc in
        subst (λ (u : Volume). KeepsNumbers asked u) same (found_keeps asked c c.first_meta fine (given_none asked.meta _ c.first_meta is))

-- each of those that agree does
filter_all : (t : Candidate → Bool) (xs : List Candidate) → list_all t (filter t xs) ≡ true
filter_all t [] = refl
filter_all t (x ∷ xs) = ⊎_elim (λ (yes : t x ≡ true). rw yes (rw yes (filter_all t xs))) (λ (no : t x ≡ false). rw no (filter_all t xs)) (cases_Bool (t x))

harmed_keeps : (asked : Asked) (c : Candidate) (v : Volume) → agrees asked c ≡ true → unless_harmed asked c ≡ Ok v → KeepsNumbers asked v
harmed_keeps asked c v fine h = go (may_be_two asked c) (nat_le 2 c.spoiled) (is_harmed asked c) h
  where
    go : (two torn harmed : Bool) → cond two (Err (Doubled c.doubled)) (cond torn (Err (Spoiled c.spoiled)) (cond harmed (Err (Harmed c.damaged)) (with_meta asked c (known_meta asked)))) ≡ Ok v → KeepsNumbers asked v
    go true torn harmed h = cc
    go false true harmed h = cc
    go false false true h = cc
    go false false false h = meta_keeps asked c (known_meta asked) v refl fine h

none_keeps : (asked : Asked) (all : List Candidate) (v : Volume) → none_sure all ≡ Ok v → KeepsNumbers asked v
none_keeps asked [] v h = cc
none_keeps asked (c ∷ rest) v h = cc

-- one of those that agree does
alone_agrees : (asked : Asked) (all left : List Candidate) (c : Candidate) → list_all (agrees asked) left ≡ true → alone_in all left ≡ Some c → agrees asked c ≡ true
alone_agrees asked all [] c fine h = cc
alone_agrees asked all (d ∷ rest) c fine h =
    let parts = both (agrees asked d) (list_all (agrees asked) rest) fine in
    go parts.0 (λ later. alone_agrees asked all rest c parts.1 later) (list_all (no_rival d) all) h
  where
    go : agrees asked d ≡ true → (alone_in all rest ≡ Some c → agrees asked c ≡ true) → (b : Bool) → cond b (Some d) (alone_in all rest) ≡ Some c → agrees asked c ≡ true
    go this later true e = let same : d ≡ c = cc in subst (λ (x : Candidate). agrees asked x ≡ true) same this
    go this later false e = later e

sure_keeps : (asked : Asked) (all : List Candidate) (v : Volume) (alone : Option Candidate) → ((c : Candidate) → alone ≡ Some c → agrees asked c ≡ true) → sure_by asked all alone ≡ Ok v → KeepsNumbers asked v
sure_keeps asked all v None fine h = none_keeps asked all v h
sure_keeps asked all v (Some c) fine h = harmed_keeps asked c v (fine c refl) h

choice_keeps : (asked : Asked) (v : Volume) (alone : Option Candidate) → ((c : Candidate) → alone ≡ Some c → agrees asked c ≡ true) → chosen_by asked alone ≡ Ok v → KeepsNumbers asked v
choice_keeps asked v None fine h = cc
choice_keeps asked v (Some c) fine h = meta_keeps asked c (known_meta asked) v refl (fine c refl) h

chosen_keeps : (asked : Asked) (all : List Candidate) (v : Volume) → list_all (agrees asked) all ≡ true → chosen asked all ≡ Ok v → KeepsNumbers asked v
chosen_keeps asked [] v fine h = cc
chosen_keeps asked (c ∷ []) v fine h = meta_keeps asked c (known_meta asked) v refl (both (agrees asked c) (list_all (agrees asked) []) fine).0 h
chosen_keeps asked (c ∷ d ∷ rest) v fine h = go (as_good c d) h
  where
    go : (b : Bool) → cond b (chosen_by asked (alone_in (c ∷ d ∷ rest) (c ∷ d ∷ rest))) (with_meta asked c (known_meta asked)) ≡ Ok v → KeepsNumbers asked v
    go true h = choice_keeps asked v (alone_in (c ∷ d ∷ rest) (c ∷ d ∷ rest)) (λ e is. alone_agrees asked (c ∷ d ∷ rest) (c ∷ d ∷ rest) e fine is) h
    go false h = meta_keeps asked c (known_meta asked) v refl (both (agrees asked c) (list_all (agrees asked) (d ∷ rest)) fine).0 h

told_keeps : (asked : Asked) (found : List Candidate) (v : Volume) → told_volume asked (agreeing asked found) ≡ Ok v → KeepsNumbers asked v
told_keeps asked found v h = go (writes asked.word asked.repairs) h
  where
    go : (b : Bool) → cond b (sure asked (agreeing asked found)) (chosen asked (agreeing asked found)) ≡ Ok v → KeepsNumbers asked v
    go true h = sure_keeps asked (agreeing asked found) v (alone_in (agreeing asked found) (agreeing asked found))
        (λ c is. alone_agrees asked (agreeing asked found) (agreeing asked found) c (filter_all (agrees asked) found) is) h
    go false h = chosen_keeps asked (agreeing asked found) v (filter_all (agrees asked) found) h

all_keep : (asked : Asked) (length : ℕ) (found : List Candidate) (v : Volume) (page block meta : Option ℕ) (magic : Option MagicKind) → known_page asked ≡ page → known_block asked ≡ block → known_meta asked ≡ meta → known_magic asked ≡ magic → settled_by asked length found page block meta magic ≡ Ok v → KeepsNumbers asked v
all_keep asked length found v (Some page) (Some block) (Some meta) (Some magic) p b m k h = sized_keeps asked length page block meta magic v p b m k h
all_keep asked length found v (Some page) (Some block) (Some meta) None p b m k h = told_keeps asked found v h
all_keep asked length found v (Some page) (Some block) None magic p b m k h = told_keeps asked found v h
all_keep asked length found v (Some page) None meta magic p b m k h = told_keeps asked found v h
all_keep asked length found v None block meta magic p b m k h = told_keeps asked found v h

-- what is reached was settled, and ends in reach
pub reached_is : (r : Result Volume Unsettled) (v : Volume) → reached r ≡ Ok v → (r ≡ Ok v) × (end_of v ≤ 4294967295)
reached_is (Err why) v h = cc
reached_is (Ok u) v h = let is = go (leb (end_of u) 4294967295) refl h in (ap (λ (w : Volume). Ok w) is.0, is.1)
  where
    go : (b : Bool) → leb (end_of u) 4294967295 ≡ b → cond b (Ok u) (Err (TooFar u.at (end_of u))) ≡ Ok v → (u ≡ v) × (end_of v ≤ 4294967295)
    go false e h = cc
    go true e h =
        let same : u ≡ v = cc in
        let low : end_of u ≤ 4294967295 = grind (arith, common_steps) in
        (same, subst (λ (w : Volume). end_of w ≤ 4294967295) same low)

pub settled_keeps : (asked : Asked) (length : ℕ) (found : List Candidate) (v : Volume) → settled asked length found ≡ Ok v → KeepsNumbers asked v
unfolding settled
settled_keeps asked length found v h =
    let is = reached_is (settled_by asked length found (known_page asked) (known_block asked) (known_meta asked) (known_magic asked)) v h in
    all_keep asked length found v (known_page asked) (known_block asked) (known_meta asked) (known_magic asked) refl refl refl refl is.0

pub settled_reached : (asked : Asked) (length : ℕ) (found : List Candidate) (v : Volume) → settled asked length found ≡ Ok v → end_of v ≤ 4294967295
unfolding settled
settled_reached asked length found v h =
    let is = reached_is (settled_by asked length found (known_page asked) (known_block asked) (known_meta asked) (known_magic asked)) v h in is.1

-- where all numbers are known the volumes that were found are not asked
none_asked : (asked : Asked) (length : ℕ) (found other : List Candidate) (page block meta : Option ℕ) (magic : Option MagicKind) → (is_none page || (is_none block || (is_none meta || is_none magic))) ≡ false → settled_by asked length found page block meta magic ≡ settled_by asked length other page block meta magic
none_asked asked length found other (Some page) (Some block) (Some meta) (Some magic) h = refl
none_asked asked length found other (Some page) (Some block) (Some meta) None h = cc
none_asked asked length found other (Some page) (Some block) None magic h = cc
none_asked asked length found other (Some page) None meta magic h = cc
none_asked asked length found other None block meta magic h = cc

pub settled_alone : (asked : Asked) (length : ℕ) (found other : List Candidate) → needs_found asked ≡ false → settled asked length found ≡ settled asked length other
unfolding settled
settled_alone asked length found other h =
    ap reached (none_asked asked length found other (known_page asked) (known_block asked) (known_meta asked) (known_magic asked) h)
