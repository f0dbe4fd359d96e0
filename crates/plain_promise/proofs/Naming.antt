-- The names of a promise, word by word.
use Rattle.std.proofs.Common.{◌≡◌, ⊎_elim, ℕ, ◌+◌, List, [], ◌∷◌, ◌++◌, length, map, refl, sym, ap, append_assoc, true, false, Option, Some, None, Vec, Bor}
use Rattle.std.specs.declared.alloc.Global.{Global}
use Rattle.std.specs.Prelude.{◌==◌, codes}
use Rattle.std.proofs.lemmas.Bool.{cases_Bool}
use Rattle.std.proofs.lemmas.List.{map-append}
use Rattle.call_script.specs.Lines.{words, onto, is_text}
use Rattle.call_script.specs.Split.{IsFirst}
use Rattle.promise_model.specs.Lines.{name_of, names_of, before_names, promised_on, said_by, promised}
use Rattle.plain_promise.specs.Seen.{text_seen}

-- names before others, where all are spelled
abbrev pub names_onto : List (List ℕ) → Option (List (List ℕ)) → Option (List (List ℕ))
names_onto xs None = None
names_onto xs (Some ys) = Some (xs ++ ys)

-- the names of the words that are left, behind those that were read
abbrev pub names_left : List (List ℕ) → Option (Bor (List ℕ)) → Option (List (List ℕ))
names_left read None = Some read
names_left read (Some rest) = names_onto read (names_of (words rest.now))

onto_none : (read : List (List ℕ)) (more : Option (List (List ℕ))) → names_onto read (before_names None more) ≡ None
onto_none read more = refl

onto_some : (read : List (List ℕ)) (name : List ℕ) (more : Option (List (List ℕ))) → names_onto read (before_names (Some name) more) ≡ names_onto (read ++ (name ∷ [])) more
onto_some read name None = refl
onto_some read name (Some ys) = ap Some (sym (append_assoc read (name ∷ []) ys))

-- a word that spells no name
pub names_stop : (read : List (List ℕ)) (line word : List ℕ) (rest : Option (Bor (List ℕ))) → IsFirst word rest (words line) → name_of word ≡ None → names_onto read (names_of (words line)) ≡ None
unfolding names_of
names_stop read line word None first none = rw first (rw none refl)
names_stop read line word (Some rest) first none = rw first (rw none refl)

-- a word that spells one
pub names_more : (read : List (List ℕ)) (line word name : List ℕ) (rest : Option (Bor (List ℕ))) → IsFirst word rest (words line) → name_of word ≡ Some name → names_onto read (names_of (words line)) ≡ names_left (read ++ (name ∷ [])) rest
unfolding names_of
names_more read line word name None first is = rw first (rw is refl)
names_more read line word name (Some rest) first is = rw first (rw is (onto_some read name (names_of (words rest.now))))

-- before the first one
pub names_begin : (o : Option (List (List ℕ))) → o ≡ names_onto [] o
names_begin None = refl
names_begin (Some ys) = refl

pub seen_push : (xs : List (Vec ℕ Global)) (x : Vec ℕ Global) → map text_seen (xs ++ (x ∷ [])) ≡ map text_seen xs ++ (x.items ∷ [])
seen_push xs x = map-append text_seen xs (x ∷ [])

-- the bytes that are left, and one
abbrev pub rest_length : Option (Bor (List ℕ)) → ℕ
rest_length None = 0
rest_length (Some rest) = length rest.now + 1

-- ---- the words behind `#!`

said_onto : (form : List ℕ) (b : ℕ) (ws : List (List ℕ)) → said_by (form ∷ onto b ws) ≡ promised_on form (onto b ws)
said_onto form b [] = refl
said_onto form b (w ∷ ws) = refl

said_words : (form text : List ℕ) → said_by (form ∷ words text) ≡ promised_on form (words text)
unfolding words
said_words form [] = refl
said_words form (b ∷ bs) = ⊎_elim
    (λ (yes : (b == 32) ≡ true). rw yes refl)
    (λ (no : (b == 32) ≡ false). rw no (said_onto form b (words bs)))
    (cases_Bool (b == 32))

-- a form's word and what is behind it
pub promised_as : (line mark rest form names : List ℕ) → words line ≡ mark ∷ words rest → words rest ≡ form ∷ words names → is_text mark (codes "#!") ≡ true → promised (words line) ≡ promised_on form (words names)
unfolding promised
promised_as line mark rest form names first second is = rw first (rw is (rw second (said_words form names)))
