-- The file of the next record's name is a copy of it, or not.
use Rattle.std.proofs.Common.{◌≡◌, ◌≢◌, ◌⊎◌, ℕ, ◌+◌, ◌-◌, ◌<◌, ◌≤◌, List, ◌++◌, length, take, drop, Bool, true, false, not, ◌==◌, ◌&&◌, ◌||◌, Option, Some, None, refl, sym, ◌∙◌, ap, ⊎_elim, inl, inr, arith, length-take, length-drop}
use Rattle.std.specs.Prelude.{min}
use Rattle.std.proofs.lemmas.Bool.{cases_Bool, eqb-true, eqb-false, eq-eqb, ne_eqb, false≢true}
use Rattle.std.proofs.lemmas.List.{take_all}
use Rattle.table_model.specs.declared.reply.Stat.{Stat}
use Rattle.table_model.specs.Table.{File, Open, same_text, file_named}
use Rattle.table_model.specs.Names.{name_refusal}
use Rattle.table_model.specs.Files.{bytes_at, stat_of}
use Rattle.table_model.specs.Outcome.{gives}
use Rattle.table_model.specs.Ask.{Opens, Reads}
use Rattle.table_model.specs.Reply.{Tells, Gives}
use Rattle.table_model.specs.Flat.{answer}
use Rattle.image_laws.proofs.Records.{bytes_same, bytes_equal}
use Rattle.call_model.specs.Closed.{with_files}
use Rattle.call_model.proofs.Parts.{take-two}
use Rattle.copy_model.specs.Copying.{is_copied, keeps}
use Rattle.copy_model.specs.Filling.{with_first, looker, looking}
use Rattle.copy_model.specs.Tasks.{Task}
use Rattle.copy_model.specs.Under.{IsTable}
use Rattle.copy_model.specs.Parts.{IsNext}
use Rattle.copy_model.proofs.Names.{named-is}
use Rattle.copy_model.proofs.Answering.{opens-file, reads-on}
use Rattle.copy_model.proofs.Passing.{next_fit}
use Rattle.vol_copy.specs.Seen.{may_be, IsSeen, IsLike, IsLooking}

-- ---- whether that file may be a copy

module _ (stat : Stat) (t : Task) (files : List File) (next : IsNext stat t files) where
  name_same : stat.name ≡ next.f.name
  name_same = ap (λ (s : Stat). s.name) next.stat_is

  pub next_fine : name_refusal stat.name ≡ None
  next_fine = ap name_refusal name_same ∙ (next_fit stat t files next).fine

  keeps_by : (o : Option File) → file_named stat.name files ≡ o → keeps t.alike next.f files ≡ is_copied t.alike next.f o
  keeps_by o is = ap (is_copied t.alike next.f) (ap (λ (n : List ℕ). file_named n files) (sym name_same) ∙ is)

  -- where it has none
  pub seen_none : file_named stat.name files ≡ None → IsSeen stat false t files
  seen_none none = record { next = next; seen = keeps_by None none }

  module _ (x : File) (there : file_named stat.name files ≡ Some x) (meta : length x.meta ≡ t.g.meta) where
    as_many : (length x.meta == length next.f.meta) ≡ t.alike
    as_many = let fit = next_fit stat t files next in same_either (length x.meta) (length next.f.meta) t.g.meta meta ∙ fit.as_many
      where
        same_either : (a b c : ℕ) → a ≡ c → (a == b) ≡ (b == c)
        same_either a b c same = ⊎_elim
            (λ (yes : (b == c) ≡ true). eq-eqb a b (omega (arith, same, eqb-true b c yes)) ∙ sym yes)
            (λ (other : (b == c) ≡ false). let apart = eqb-false b c other in ne_eqb a b (λ e. omega (arith, e, same, apart)) ∙ sym other)
            (cases_Bool (b == c))

    -- it has as many bytes, or it is none
    long_or : (length x.bytes ≡ length next.f.bytes) ⊎ (same_text x.bytes next.f.bytes ≡ false)
    long_or = ⊎_elim
        (λ (same : same_text x.bytes next.f.bytes ≡ true). inl (ap (λ (l : List ℕ). length l) (bytes_same x.bytes next.f.bytes same)))
        (λ (differ : same_text x.bytes next.f.bytes ≡ false). inr differ)
        (cases_Bool (same_text x.bytes next.f.bytes))

    by_parts : may_be stat (stat_of x) ≡ (x.kind == 1) && (length x.bytes == length next.f.bytes) && (not t.alike || same_text x.meta next.f.meta)
    by_parts = ap (λ (s : Stat). may_be s (stat_of x)) next.stat_is ∙ ap (λ (b : Bool). (x.kind == 1) && (length x.bytes == length next.f.bytes) && (not b || same_text x.meta next.f.meta)) as_many

    copy_if : (k l s m : Bool) → (l ≡ true) ⊎ (s ≡ false) → (k && l && m ≡ true → k && s && m ≡ s) × (k && l && m ≡ false → k && s && m ≡ false)
    copy_if true true true true or = (λ e. refl, λ e. absurd (false≢true (sym e)))
    copy_if true true false true or = (λ e. refl, λ e. absurd (false≢true (sym e)))
    copy_if true true true false or = (λ never. absurd (false≢true never), λ yes. refl)
    copy_if true true false false or = (λ never. refl, λ yes. refl)
    copy_if true false true m or = absurd (⊎_elim (λ e. false≢true e) (λ e. false≢true (sym e)) or)
    copy_if true false false m or = (λ never. refl, λ yes. refl)
    copy_if false l s m or = (λ never. absurd (false≢true never), λ yes. refl)

    whether : (may_be stat (stat_of x) ≡ true → keeps t.alike next.f files ≡ same_text x.bytes next.f.bytes) × (may_be stat (stat_of x) ≡ false → keeps t.alike next.f files ≡ false)
    whether =
        let w = copy_if (x.kind == 1) (length x.bytes == length next.f.bytes) (same_text x.bytes next.f.bytes) (not t.alike || same_text x.meta next.f.meta)
        (⊎_elim (λ long. inl (eq-eqb (length x.bytes) (length next.f.bytes) long)) (λ differ. inr differ) long_or) in
        (λ may. keeps_by (Some x) there ∙ w.0 (sym by_parts ∙ may), λ other. keeps_by (Some x) there ∙ w.1 (sym by_parts ∙ other))

    pub seen_other : may_be stat (stat_of x) ≡ false → IsSeen stat false t files
    seen_other other = record { next = next; seen = whether.1 other }

    pub is_like : may_be stat (stat_of x) ≡ true → IsLike stat t files
    is_like may = record {
      next = next;
      x = x;
      there = there;
      long = same_long (x.kind == 1) (length x.bytes == length next.f.bytes) (not t.alike || same_text x.meta next.f.meta) (sym by_parts ∙ may) refl ∙ ap (λ (s : Stat). s.size) (sym next.stat_is);
      by_bytes = whether.0 may;
    }
      where
        same_long : (k l m : Bool) → (k && l && m) ≡ true → (length x.bytes == length next.f.bytes) ≡ l → length x.bytes ≡ length next.f.bytes
        same_long true true m may is = eqb-true (length x.bytes) (length next.f.bytes) is
        same_long true false m may is = absurd (false≢true may)
        same_long false l m may is = absurd (false≢true may)

-- ---- its bytes are read

module _ (stat : Stat) (t : Task) (files : List File) (is : IsLike stat t files) where
  pub like_opens : 0 < t.slots → answer t.g true (with_files t.slots files) (Opens stat.name 8) ≡ gives (Tells 1) (looking t.slots is.x files 0)
  like_opens some = opens-file t.g t.slots stat.name files is.x some (next_fine stat t files is.next) is.there

  pub looks_first : IsLooking stat 0 t (looker is.x.id 0) files
  looks_first = record { like = is; d_is = refl; within = omega arith; same = refl }

module _ (stat : Stat) (at : ℕ) (t : Task) (d : Open) (files : List File) (is : IsLooking stat at t d files) where
  size_is : length is.like.next.f.bytes ≡ stat.size
  size_is = ap (λ (s : Stat). s.size) (sym is.like.next.stat_is)

  module _ (len : ℕ) (within : at + len ≤ stat.size) where
    pub read_long : length (bytes_at len at is.like.x) ≡ len
    read_long = let long : length (bytes_at len at is.like.x) ≡ min len (length is.like.x.bytes - at) = simp (length-take, length-drop) refl in omega (arith, long, is.like.long, within)

    pub reads_it : 0 < t.slots → IsTable files → answer t.g true (with_first t.slots d files) (Reads 1 len) ≡ gives (Gives (bytes_at len at is.like.x)) (with_first t.slots (looker is.like.x.id (at + len)) files)
    reads_it some table =
        ap (λ (e : Open). answer t.g true (with_first t.slots e files) (Reads 1 len)) is.d_is
        ∙ reads-on t.g t.slots is.like.x files at len some (named-is files stat.name is.like.x table is.like.there).0
        ∙ ap (λ (n : ℕ). gives (Gives (bytes_at len at is.like.x)) (with_first t.slots (looker is.like.x.id (at + n)) files)) read_long

    take_more : (l : List ℕ) → take (at + len) l ≡ take at l ++ take len (drop at l)
    take_more l = let many : at + len - at ≡ len = omega arith in sym (take-two at (at + len) l (omega arith)) ∙ ap (λ (n : ℕ). take at l ++ take n (drop at l)) many

    -- they are the record's
    pub looks_on : bytes_at len at is.like.x ≡ bytes_at len at is.like.next.f → IsLooking stat (at + len) t (looker is.like.x.id (at + len)) files
    looks_on same = record {
      like = is.like;
      d_is = refl;
      within = within;
      same = take_more is.like.x.bytes ∙ ap (λ (l : List ℕ). l ++ bytes_at len at is.like.x) is.same ∙ ap (λ (l : List ℕ). take at is.like.next.f.bytes ++ l) same ∙ sym (take_more is.like.next.f.bytes);
    }

    -- or others
    pub looks_other : bytes_at len at is.like.x ≢ bytes_at len at is.like.next.f → IsSeen stat false t files
    looks_other differ = record {
      next = is.like.next;
      seen = ⊎_elim
          (λ (same : same_text is.like.x.bytes is.like.next.f.bytes ≡ true). absurd (differ (ap (λ (l : List ℕ). take len (drop at l)) (bytes_same is.like.x.bytes is.like.next.f.bytes same))))
          (λ (other : same_text is.like.x.bytes is.like.next.f.bytes ≡ false). is.like.by_bytes ∙ other)
          (cases_Bool (same_text is.like.x.bytes is.like.next.f.bytes));
    }

  -- all were read
  pub looks_all : at ≡ stat.size → IsSeen stat true t files
  looks_all end =
      let x : take at is.like.x.bytes ≡ is.like.x.bytes = take_all at is.like.x.bytes (omega (arith, end, is.like.long)) in
      let f : take at is.like.next.f.bytes ≡ is.like.next.f.bytes = take_all at is.like.next.f.bytes (omega (arith, end, size_is)) in
      let same : is.like.x.bytes ≡ is.like.next.f.bytes = sym x ∙ is.same ∙ f in
      record { next = is.like.next; seen = is.like.by_bytes ∙ ap (λ (l : List ℕ). same_text l is.like.next.f.bytes) same ∙ bytes_equal is.like.next.f.bytes }
