-- Runs of calls, one after another.
use Rattle.std.proofs.Common.{◌≡◌, ℕ, ◌<◌, List, [], ◌∷◌, ◌++◌, length, refl, sym, ◌∙◌, ap, subst, arith, inl, inr, ⊎_elim, append_assoc, append-nil, length-append, true, false}
use Rattle.geometry.specs.declared.geometry.Geometry.{Geometry}
use Rattle.table_model.specs.Table.{File}
use Rattle.table_model.specs.Ask.{Ask}
use Rattle.table_model.specs.Flat.{answer}
use Rattle.table_model.specs.Steps.{steps}
use Rattle.table_model.specs.Window.{Moment, from_settled, IsAmong}
use Rattle.call_script.specs.Replies.{told}
use Rattle.image_model.specs.Tables.{table_of}
use Rattle.run_model.specs.Runs.{RunCall, IsFair, AreFair, next, plain, asks_of, after_all, said_of, replies, IsUnderWay, IsCut}

pub after_all-append : (g : Geometry) (m : Moment) (xs ys : List RunCall) → after_all g m (xs ++ ys) ≡ after_all g (after_all g m xs) ys
unfolding after_all
after_all-append g m [] ys = refl
after_all-append g m (x ∷ xs) ys = after_all-append g (next g m x) xs ys

pub replies-append : (g : Geometry) (m : Moment) (xs ys : List RunCall) → replies g m (xs ++ ys) ≡ replies g m xs ++ replies g (after_all g m xs) ys
unfolding replies after_all
replies-append g m [] ys = refl
replies-append g m (x ∷ xs) ys = ap (λ (l : List ℕ). said_of g m x ++ l) (replies-append g (next g m x) xs ys) ∙ sym (append_assoc (said_of g m x) (replies g (next g m x) xs) (replies g (after_all g (next g m x) xs) ys))

pub asks-append : (xs ys : List RunCall) → asks_of (xs ++ ys) ≡ asks_of xs ++ asks_of ys
asks-append [] ys = refl
asks-append (x ∷ xs) ys = ap (λ (l : List Ask). x.ask ∷ l) (asks-append xs ys)

pub fair-append : (g : Geometry) (m : Moment) (xs ys : List RunCall) → AreFair g m xs → AreFair g (after_all g m xs) ys → AreFair g m (xs ++ ys)
unfolding AreFair after_all
fair-append g m [] ys h k = k
fair-append g m (x ∷ xs) ys h k = (h.0, fair-append g (next g m x) xs ys h.1 k)

-- calls with two free blocks are fair
pub plain_fair : (g : Geometry) (m : Moment) (ask : Ask) → IsFair g m (record { ask = ask; spare = true })
plain_fair g m ask e = absurd (let no : true ≡ false = e in cc)

pub plain-asks : (asks : List Ask) → asks_of (plain asks) ≡ asks
plain-asks [] = refl
plain-asks (ask ∷ asks) = ap (λ (l : List Ask). ask ∷ l) (plain-asks asks)

pub plain-fair : (g : Geometry) (m : Moment) (asks : List Ask) → AreFair g m (plain asks)
unfolding AreFair
plain-fair g m [] = tt {0}
plain-fair g m (ask ∷ asks) = (plain_fair g m ask, plain-fair g (next g m (record { ask = ask; spare = true })) asks)

-- no reply line is empty
pub said_some : (g : Geometry) (m : Moment) (call : RunCall) → 0 < length (said_of g m call)
unfolding said_of
said_some g m call = omega (arith, length-append (told (answer g call.spare m.state call.ask).answer) (10 ∷ []))

-- among more tables
among_more : (t : List File) (us vs : List (List File)) → IsAmong t us → IsAmong t (us ++ vs)
unfolding IsAmong
among_more t [] vs h = absurd h
among_more t (u ∷ us) vs h = ⊎_elim (λ here. inl here) (λ there. inr (among_more t us vs there)) h

-- among the steps of a call too
pub among_settled : (m : Moment) (t : List File) (vs : List (List File)) → IsAmong t (from_settled m []) → IsAmong t (from_settled m vs)
unfolding IsAmong
among_settled m t vs h = ⊎_elim (λ here. inl here) (λ there. inr (among_more t m.waiting vs (subst (λ (l : List (List File)). IsAmong t l) (append-nil m.waiting) there))) h

-- the settled table is the first of these
pub is_settled : (m : Moment) (t : List File) (vs : List (List File)) → t ≡ m.settled → IsAmong t (from_settled m vs)
unfolding IsAmong
is_settled m t vs e = inl e

-- before the first byte of the next reply
none_under_way : (g : Geometry) (m : Moment) (calls : List RunCall) (image : List ℕ) → IsAmong (table_of g image) (from_settled m []) → IsUnderWay g m calls [] image
unfolding IsUnderWay
none_under_way g m [] image h = (refl, h)
none_under_way g m (x ∷ xs) image h = record {
  said = record { rest = said_of g m x; whole_is = refl; some = said_some g m x };
  among = among_settled m (table_of g image) (steps g true m.state x.ask) h;
  once_said = λ some. absurd (omega (arith, some));
  lacks = λ some. absurd (omega (arith, some));
}

-- a cut before the first byte of a reply
pub cut_none : (g : Geometry) (m : Moment) (calls : List RunCall) (image : List ℕ) → IsAmong (table_of g image) (from_settled m []) → IsCut g m calls [] image
unfolding after_all replies
cut_none g m calls image h = record { front = []; later = calls; part = []; calls_are = refl; said_is = refl; under_way = none_under_way g m calls image h }

-- what is under way in some calls is so in more
wider_under_way : (g : Geometry) (m : Moment) (xs ys : List RunCall) (part image : List ℕ) → IsUnderWay g m xs part image → IsUnderWay g m (xs ++ ys) part image
unfolding IsUnderWay
wider_under_way g m [] ys part image h = subst (λ (l : List ℕ). IsUnderWay g m ys l image) (sym h.0) (none_under_way g m ys image h.1)
wider_under_way g m (x ∷ xs) ys part image h = h

-- a cut in the front of a run is one in the run
pub cut_wider : (g : Geometry) (m : Moment) (xs ys : List RunCall) (said image : List ℕ) → IsCut g m xs said image → IsCut g m (xs ++ ys) said image
cut_wider g m xs ys said image h = record {
  front = h.front;
  later = h.later ++ ys;
  part = h.part;
  calls_are = ap (λ (l : List RunCall). l ++ ys) h.calls_are ∙ append_assoc h.front h.later ys;
  said_is = h.said_is;
  under_way = wider_under_way g (after_all g m h.front) h.later ys h.part image h.under_way;
}

-- a cut after calls that were done is one in these and the others
pub cut_later : (g : Geometry) (m : Moment) (xs ys : List RunCall) (said image : List ℕ) → IsCut g (after_all g m xs) ys said image → IsCut g m (xs ++ ys) (replies g m xs ++ said) image
cut_later g m xs ys said image h = record {
  front = xs ++ h.front;
  later = h.later;
  part = h.part;
  calls_are = ap (λ (l : List RunCall). xs ++ l) h.calls_are ∙ sym (append_assoc xs h.front h.later);
  said_is = ap (λ (l : List ℕ). replies g m xs ++ l) h.said_is ∙ sym (append_assoc (replies g m xs) (replies g (after_all g m xs) h.front) h.part) ∙ ap (λ (l : List ℕ). l ++ h.part) (sym (replies-append g m xs h.front));
  under_way = subst (λ (j : Moment). IsUnderWay g j h.later h.part image) (sym (after_all-append g m xs h.front)) h.under_way;
}
