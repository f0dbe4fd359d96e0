-- What a line writes to is one of those that were found, and nothing speaks against it.
use Rattle.std.proofs.Common.{◌≡◌, ℕ, ◌<◌, ◌≤◌, zero, suc, List, [], ◌∷◌, length, eqb, Bool, true, false, cond, refl, sym, subst, arith, Option, Some, None, Result, Ok, Err}
use Rattle.std.specs.Prelude.{is_none, not, nat_lt, nat_le, ◌&&◌, ◌||◌, Contains}
use Rattle.std.specs.List.{list_all}
use Rattle.std.proofs.lemmas.Bool.{false≢true, leb-false, ltb-false}
use Rattle.std.proofs.lemmas.Grind.{common_steps}
use Rattle.geometry.specs.declared.magic.MagicKind.{MagicKind}
use Rattle.front_words.specs.declared.asked.Asked.{Asked}
use Rattle.front_words.specs.declared.settling.Candidate.{Candidate}
use Rattle.front_words.specs.declared.settling.Volume.{Volume}
use Rattle.front_words.specs.declared.settling.Unsettled.{Unsettled}
use Rattle.front_words.specs.declared.settling.Unsettled.TheVariants.{AnyMeta, Spoiled, Doubled, Harmed}
use Rattle.front_words.specs.Asking.{changes}
use Rattle.front_words.specs.Settling.{no_rival, writes, edits, most_doubled, may_be_two, is_harmed, unless_harmed, none_sure, alone_in, sure_by, sure, told_volume, chosen, found_volume, with_meta}
use Rattle.front_words.specs.Settling.{known_page, known_block, known_meta, known_magic, agreeing, settled_by, settled, needs_found, reached, IsSafe, MayBeWritten}
use Rattle.front_words.proofs.Keeping.{reached_is}

-- with its numbers
meta_taken : (asked : Asked) (c : Candidate) (m : Option ℕ) (v : Volume) → with_meta asked c m ≡ Ok v → v ≡ found_volume c v.meta
meta_taken asked c (Some meta) v h = grind (arith, common_steps, h)
meta_taken asked c None v h = go (changes asked.word && not (eqb c.first_meta c.last_meta)) h
  where
    go : (b : Bool) → cond b (Err AnyMeta) (Ok (found_volume c c.first_meta)) ≡ Ok v → v ≡ found_volume c v.meta
    go true e = cc
    go false e = grind (arith, common_steps, e)

below : (n : ℕ) → nat_le 2 n ≡ false → n < 2
below n h = leb-false 2 n h

no_one : (n : ℕ) → nat_lt 0 n ≡ false → n ≡ 0
no_one n h = let le = ltb-false 0 n h in omega (arith, le)

not_two : (asked : Asked) (c : Candidate) → may_be_two asked c ≡ false → asked.is_forced ≡ false → c.doubled ≤ most_doubled c.magic
not_two asked c h free = ltb-false (most_doubled c.magic) c.doubled (rest asked.is_forced (nat_lt (most_doubled c.magic) c.doubled) free h)
  where
    rest : (f b : Bool) → f ≡ false → (not f && b) ≡ false → b ≡ false
    rest false b g k = k
    rest true b g k = absurd (false≢true (sym g))

not_harmed : (asked : Asked) (c : Candidate) → is_harmed asked c ≡ false → edits asked.word ≡ true → asked.is_forced ≡ false → c.damaged ≡ 0
not_harmed asked c h edit free = no_one c.damaged (rest (edits asked.word) asked.is_forced (nat_lt 0 c.damaged) edit free h)
  where
    rest : (a f b : Bool) → a ≡ true → f ≡ false → ((a && not f) && b) ≡ false → b ≡ false
    rest true false b e g k = k
    rest true true b e g k = absurd (false≢true (sym g))
    rest false f b e g k = absurd (false≢true e)

safe : (asked : Asked) (all : List Candidate) (c : Candidate) (v : Volume) → list_all (no_rival c) all ≡ true → unless_harmed asked c ≡ Ok v → IsSafe asked all c v
safe asked all c v alone h = go (may_be_two asked c) (nat_le 2 c.spoiled) (is_harmed asked c) refl refl refl h
  where
    go : (two torn harmed : Bool) → may_be_two asked c ≡ two → nat_le 2 c.spoiled ≡ torn → is_harmed asked c ≡ harmed →
        cond two (Err (Doubled c.doubled)) (cond torn (Err (Spoiled c.spoiled)) (cond harmed (Err (Harmed c.damaged)) (with_meta asked c (known_meta asked)))) ≡ Ok v → IsSafe asked all c v
    go true torn harmed d t w h = cc
    go false true harmed d t w h = cc
    go false false true d t w h = cc
    go false false false d t w h = record
        { alone = alone; marked = below c.spoiled t; apart = not_two asked c d; whole = not_harmed asked c w; taken = meta_taken asked c (known_meta asked) v h }

none_ok : (all : List Candidate) (v : Volume) → none_sure all ≡ Ok v → ⊥
none_ok [] v h = cc
none_ok (c ∷ rest) v h = cc

in_tail : (c : Candidate) (rest : List Candidate) (x : Candidate) → Contains rest x → Contains (c ∷ rest) x
in_tail c rest x (k, low, at) = (suc k, omega (arith, low), at)

-- one of what is left, of which none leaves doubt
alone_is : (all left : List Candidate) (c : Candidate) → alone_in all left ≡ Some c → Contains left c × (list_all (no_rival c) all ≡ true)
alone_is all [] c h = cc
alone_is all (d ∷ rest) c h = go (λ later. alone_is all rest c later) (list_all (no_rival d) all) refl h
  where
    go : (alone_in all rest ≡ Some c → Contains rest c × (list_all (no_rival c) all ≡ true)) → (b : Bool) → list_all (no_rival d) all ≡ b → cond b (Some d) (alone_in all rest) ≡ Some c →
        Contains (d ∷ rest) c × (list_all (no_rival c) all ≡ true)
    go later true alone e =
        let same : d ≡ c = cc in
        ((zero, omega arith, same), subst (λ (x : Candidate). list_all (no_rival x) all ≡ true) same alone)
    go later false rivals e = let w = later e in (in_tail d rest c w.0, w.1)

sure_safe : (asked : Asked) (all : List Candidate) (v : Volume) (alone : Option Candidate) → alone_in all all ≡ alone → sure_by asked all alone ≡ Ok v → MayBeWritten asked all v
sure_safe asked all v None is h = absurd (none_ok all v h)
sure_safe asked all v (Some c) is h = let w = alone_is all all c is in (c, w.0, safe asked all c v w.1 h)

told_safe : (asked : Asked) (found : List Candidate) (v : Volume) → writes asked.word asked.repairs ≡ true → told_volume asked (agreeing asked found) ≡ Ok v → MayBeWritten asked (agreeing asked found) v
told_safe asked found v wr h = go (writes asked.word asked.repairs) wr h
  where
    go : (b : Bool) → b ≡ true → cond b (sure asked (agreeing asked found)) (chosen asked (agreeing asked found)) ≡ Ok v → MayBeWritten asked (agreeing asked found) v
    go true e k = sure_safe asked (agreeing asked found) v (alone_in (agreeing asked found) (agreeing asked found)) refl k
    go false e k = absurd (false≢true e)

by_safe : (asked : Asked) (length : ℕ) (found : List Candidate) (v : Volume) (page block meta : Option ℕ) (magic : Option MagicKind) → writes asked.word asked.repairs ≡ true →
    (is_none page || (is_none block || (is_none meta || is_none magic))) ≡ true → settled_by asked length found page block meta magic ≡ Ok v → MayBeWritten asked (agreeing asked found) v
by_safe asked length found v (Some page) (Some block) (Some meta) (Some magic) wr needs h = absurd (false≢true needs)
by_safe asked length found v (Some page) (Some block) (Some meta) None wr needs h = told_safe asked found v wr h
by_safe asked length found v (Some page) (Some block) None magic wr needs h = told_safe asked found v wr h
by_safe asked length found v (Some page) None meta magic wr needs h = told_safe asked found v wr h
by_safe asked length found v None block meta magic wr needs h = told_safe asked found v wr h

pub settled_safe : (asked : Asked) (length : ℕ) (found : List Candidate) (v : Volume) → writes asked.word asked.repairs ≡ true → needs_found asked ≡ true →
    settled asked length found ≡ Ok v → MayBeWritten asked (agreeing asked found) v
unfolding settled
settled_safe asked length found v wr needs h =
    by_safe asked length found v (known_page asked) (known_block asked) (known_meta asked) (known_magic asked) wr needs
    (reached_is (settled_by asked length found (known_page asked) (known_block asked) (known_meta asked) (known_magic asked)) v h).0
