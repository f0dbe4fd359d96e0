-- What may stand behind some calls that were answered.
use Rattle.std.proofs.Common.{◌≡◌, ℕ, ◌+◌, ◌&&◌, List, [], ◌∷◌, ◌++◌, length, refl, sym, ◌∙◌, ap, subst, arith, append_assoc, true, false, Option, Some, ◌⊎◌, inl, inr, ⊎_elim}
use Rattle.std.specs.Prelude.{not, nat_lt, is_some}
use Rattle.std.proofs.lemmas.Bool.{cases_Bool, false_from_ne_true, and_parts}
use Rattle.geometry.specs.declared.geometry.Geometry.{Geometry}
use Rattle.table_model.specs.Ask.{Ask}
use Rattle.table_model.specs.Flat.{answer}
use Rattle.table_model.specs.Reply.{Answer, Fine, Tells, Gives, Shows, Ends, Counts, Refuses}
use Rattle.table_model.specs.declared.error.FsErr.{FsErr}
use Rattle.table_model.specs.declared.error.FsErr.TheVariants.{Failed, BadName, NameTooLong, BadFlags, BadDescriptor, OutOfDescriptors, NotFound, FileExists, ConflictingName, NotReadable, NotWritable, SeekBounds, Tight, Full, DeviceFault, Damaged}
use Rattle.table_model.specs.Window.{Moment}
use Rattle.call_script.specs.Replies.{told, text}
use Rattle.image_model.specs.Tidy.{free_blocks}
use Rattle.image_model.specs.Kinds.{spoiled_blocks}
use Rattle.image_model.specs.Shared.{fits_over, shared_blocks}
use Rattle.image_model.specs.Collect.{chosen_block}
use Rattle.run_model.specs.Runs.{RunCall, AreFair, next, asks_of, after_all, said_of, replies}
use Rattle.trace_laws.specs.Standing.{MayStand, IsUnanswered}
use Rattle.trace_laws.specs.Counting.{is_corner, begins_so, replies_in}
use Rattle.trace_laws.proofs.Fronts.{Heads, more_heads, heads_one, front_heads}
use Rattle.trace_laws.proofs.Standing.{stands_on, stands_off, fair_first}
use Rattle.trace_laws.proofs.Counting.{counts_more, begins_yes, corner_yes}
use Rattle.flash_trace.specs.Good.{EndsBadly, IsBegun, mixed_text, tight_text, unbegun_text}
use Rattle.flash_trace.proofs.Endings.{ends_on, ends_off}

first_reply : (g : Geometry) (m : Moment) (x : RunCall) (xs : List RunCall) (part : List ℕ) → replies g m (x ∷ xs) ++ part ≡ said_of g m x ++ (replies g (next g m x) xs ++ part)
unfolding replies
first_reply g m x xs part = append_assoc (said_of g m x) (replies g (next g m x) xs) part

module _ (g : Geometry) (image : List ℕ) where
  pub stands_behind : (m : Moment) (done : List RunCall) (asks : List Ask) (part : List ℕ) → AreFair g m done → MayStand g m (asks_of done ++ asks) (replies g m done ++ part) image → MayStand g (after_all g m done) asks part image
  unfolding replies after_all
  stands_behind m [] asks part fair s = s
  stands_behind m (x ∷ done) asks part fair s =
      let w = fair_first g m x done fair in
      stands_behind (next g m x) done asks part w.1 (stands_on g m x.ask (asks_of done ++ asks) x.spare (replies g (next g m x) done ++ part) image w.0 (subst (λ (l : List ℕ). MayStand g m (x.ask ∷ (asks_of done ++ asks)) l image) (first_reply g m x done part) s))

  pub stands_before : (m : Moment) (done : List RunCall) (asks : List Ask) (part : List ℕ) → AreFair g m done → MayStand g (after_all g m done) asks part image → MayStand g m (asks_of done ++ asks) (replies g m done ++ part) image
  unfolding replies after_all
  stands_before m [] asks part fair s = s
  stands_before m (x ∷ done) asks part fair s =
      let w = fair_first g m x done fair in
      subst (λ (l : List ℕ). MayStand g m (x.ask ∷ (asks_of done ++ asks)) l image) (sym (first_reply g m x done part)) (stands_off g m x.ask (asks_of done ++ asks) x.spare (replies g (next g m x) done ++ part) image w.0 (stands_before (next g m x) done asks part w.1 s))

  pub ends_behind : (bad : Option ℕ) (m : Moment) (done : List RunCall) (asks : List Ask) (part : List ℕ) → AreFair g m done → EndsBadly g m (asks_of done ++ asks) bad (replies g m done ++ part) image → EndsBadly g (after_all g m done) asks bad part image
  unfolding replies after_all
  ends_behind bad m [] asks part fair s = s
  ends_behind bad m (x ∷ done) asks part fair s =
      let w = fair_first g m x done fair in
      ends_behind bad (next g m x) done asks part w.1 (ends_on g bad image m x.ask (asks_of done ++ asks) x.spare (replies g (next g m x) done ++ part) w.0 (subst (λ (l : List ℕ). EndsBadly g m (x.ask ∷ (asks_of done ++ asks)) bad l image) (first_reply g m x done part) s))

  pub ends_before : (bad : Option ℕ) (m : Moment) (done : List RunCall) (asks : List Ask) (part : List ℕ) → AreFair g m done → EndsBadly g (after_all g m done) asks bad part image → EndsBadly g m (asks_of done ++ asks) bad (replies g m done ++ part) image
  unfolding replies after_all
  ends_before bad m [] asks part fair s = s
  ends_before bad m (x ∷ done) asks part fair s =
      let w = fair_first g m x done fair in
      subst (λ (l : List ℕ). EndsBadly g m (x.ask ∷ (asks_of done ++ asks)) bad l image) (sym (first_reply g m x done part)) (ends_off g bad image m x.ask (asks_of done ++ asks) x.spare (replies g (next g m x) done ++ part) w.0 (ends_before bad (next g m x) done asks part w.1 s))

  -- the replies to these calls are counted
  pub counts_behind : (m : Moment) (done : List RunCall) (asks : List Ask) (part : List ℕ) → AreFair g m done → replies_in g m (asks_of done ++ asks) (replies g m done ++ part) ≡ length done + replies_in g (after_all g m done) asks part
  unfolding replies after_all
  counts_behind m [] asks part fair = omega arith
  counts_behind m (x ∷ done) asks part fair =
      let w = fair_first g m x done fair in
      let first = counts_more g m x.ask (asks_of done ++ asks) x.spare (replies g m (x ∷ done) ++ part) (replies g (next g m x) done ++ part) w.0 (first_reply g m x done part) in
      first ∙ ap (λ (n : ℕ). n + 1) (counts_behind (next g m x) done asks part w.1) ∙ omega arith

  -- and no more, where the next isn't said whole
  pub counts_end : (m : Moment) (part : List ℕ) → replies_in g m [] part ≡ 0
  unfolding replies_in
  counts_end m part = refl

  pub counts_here : (m : Moment) (ask : Ask) (asks : List Ask) (part : List ℕ) → IsUnanswered g m ask part → replies_in g m (ask ∷ asks) part ≡ 0
  unfolding replies_in
  counts_here m ask asks part not =
      let plain : begins_so g m ask true part ≡ false = false_from_ne_true (begins_so g m ask true part) (λ (yes' : begins_so g m ask true part ≡ true). absurd (not true (λ e. absurd (let no : true ≡ false = e in cc)) _ (begins_yes g m ask true part yes'))) in
      let tight : (is_corner g m.state ask && begins_so g m ask false part) ≡ false = false_from_ne_true (is_corner g m.state ask && begins_so g m ask false part) (λ (yes' : (is_corner g m.state ask && begins_so g m ask false part) ≡ true).
      let parts = and_parts (is_corner g m.state ask) (begins_so g m ask false part) yes' in
      absurd (not false (λ e. corner_yes g m.state ask parts.0) _ (begins_yes g m ask false part parts.1))) in
      rw (plain, tight) refl

-- each reply line begins with `o` or `-`
refusal_heads : (why : FsErr) → Heads 45 (text (Refuses why))
unfolding told
refusal_heads Failed = record { rest = _; is = refl }
refusal_heads BadName = record { rest = _; is = refl }
refusal_heads NameTooLong = record { rest = _; is = refl }
refusal_heads BadFlags = record { rest = _; is = refl }
refusal_heads BadDescriptor = record { rest = _; is = refl }
refusal_heads OutOfDescriptors = record { rest = _; is = refl }
refusal_heads NotFound = record { rest = _; is = refl }
refusal_heads FileExists = record { rest = _; is = refl }
refusal_heads ConflictingName = record { rest = _; is = refl }
refusal_heads NotReadable = record { rest = _; is = refl }
refusal_heads NotWritable = record { rest = _; is = refl }
refusal_heads SeekBounds = record { rest = _; is = refl }
refusal_heads Tight = record { rest = _; is = refl }
refusal_heads Full = record { rest = _; is = refl }
refusal_heads DeviceFault = record { rest = _; is = refl }
refusal_heads (Damaged differ) = record { rest = _; is = refl }

reply_heads : (a : Answer) → Heads 111 (text a) ⊎ Heads 45 (text a)
unfolding told
reply_heads Fine = inl (record { rest = _; is = refl })
reply_heads (Tells n) = inl (record { rest = _; is = refl })
reply_heads (Gives bytes) = inl (record { rest = _; is = refl })
reply_heads (Shows stat) = inl (record { rest = _; is = refl })
reply_heads Ends = inl (record { rest = _; is = refl })
reply_heads (Counts info) = inl (record { rest = _; is = refl })
reply_heads (Refuses why) = inr (refusal_heads why)

said_heads : (g : Geometry) (m : Moment) (call : RunCall) → Heads 111 (said_of g m call) ⊎ Heads 45 (said_of g m call)
unfolding said_of
said_heads g m call = reply_heads (answer g call.spare m.state call.ask).answer

-- no closing line does
mixed_heads : (n : ℕ) → Heads 33 (mixed_text n)
mixed_heads n = record { rest = _; is = refl }

tight_heads : (n : ℕ) → Heads 33 (tight_text n)
tight_heads n = record { rest = _; is = refl }

unbegun_heads : (g : Geometry) (first image line : List ℕ) → unbegun_text g first image ≡ Some line → Heads 33 line
unfolding unbegun_text
unbegun_heads g first image line e =
    ⊎_elim
    (λ (many : nat_lt 1 (spoiled_blocks g first) ≡ true). absurd (let is = rw many at e in cc))
    (λ (few : nat_lt 1 (spoiled_blocks g first) ≡ false).
    ⊎_elim
    (λ (mixed : not (fits_over g first) ≡ true).
    let is : Some (mixed_text (shared_blocks g first)) ≡ Some line = rw (few, mixed) at e in
    let whole : mixed_text (shared_blocks g first) ≡ line = cc in
    subst (Heads 33) whole (mixed_heads (shared_blocks g first)))
    (λ (over : not (fits_over g first) ≡ false).
    ⊎_elim
    (λ (tight : (nat_lt (free_blocks g image) 2 && not (is_some (chosen_block g image))) ≡ true).
    let is : Some (tight_text (free_blocks g image)) ≡ Some line = rw (few, over, tight) at e in
    let whole : tight_text (free_blocks g image) ≡ line = cc in
    subst (Heads 33) whole (tight_heads (free_blocks g image)))
    (λ (enough : (nat_lt (free_blocks g image) 2 && not (is_some (chosen_block g image))) ≡ false). absurd (let is = rw (few, over, enough) at e in cc))
    (cases_Bool (nat_lt (free_blocks g image) 2 && not (is_some (chosen_block g image)))))
    (cases_Bool (not (fits_over g first))))
    (cases_Bool (nat_lt 1 (spoiled_blocks g first)))

-- So none was begun where a reply was said.
pub unbegun_first : (g : Geometry) (m : Moment) (x : RunCall) (done : List RunCall) (part first image line : List ℕ) → unbegun_text g first image ≡ Some line → IsBegun (replies g m (x ∷ done) ++ part) line → ⊥
unbegun_first g m x done part first image line e begun =
    let head : Heads 33 (replies g m (x ∷ done) ++ part) = front_heads 33 (replies g m (x ∷ done) ++ part) begun.rest line (unbegun_heads g first image line e) begun.line_is begun.some in
    let head_said : Heads 33 (said_of g m x ++ (replies g (next g m x) done ++ part)) = subst (Heads 33) (first_reply g m x done part) head in
    ⊎_elim
    (λ (h : Heads 111 (said_of g m x)). absurd (let bad : 111 ≡ 33 = heads_one 111 33 _ (more_heads 111 (said_of g m x) (replies g (next g m x) done ++ part) h) head_said in omega (arith, bad)))
    (λ (h : Heads 45 (said_of g m x)). absurd (let bad : 45 ≡ 33 = heads_one 45 33 _ (more_heads 45 (said_of g m x) (replies g (next g m x) done ++ part) h) head_said in omega (arith, bad)))
    (said_heads g m x)
