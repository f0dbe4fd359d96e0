-- Tidy images after the programs of a step.
use Rattle.std.proofs.Common.{◌≡◌, ◌≢◌, ℕ, ◌+◌, ◌*◌, ◌≤◌, ◌⊎◌, List, [], ◌∷◌, length, slice_index, set, Bool, true, Some, ap, refl, sym, ◌∙◌, arith, ⊎_elim, subst, inl, inr, add-zero}
use Rattle.std.proofs.Math.Path.{fun_ext}
use Rattle.std.specs.Prelude.{bit_and}
use Rattle.std.specs.Int.Bits.{and_zero_r}
use Rattle.std.proofs.lemmas.Bool.{cases_eq}
use Rattle.std.proofs.lemmas.Option.{same_Some}
use Rattle.geometry.specs.declared.geometry.Geometry.{Geometry}
use Rattle.nor_core.specs.Flash.{SameOutside, HalfProgrammed}
use Rattle.image_laws.specs.Flash.{Programmed}
use Rattle.image_model.specs.Within.{sizes}
use Rattle.image_model.specs.Within.{Sizes}
use Rattle.image_model.specs.Live.{live_at, Live}
use Rattle.image_model.specs.Places.{page_of, block_of, entry_of, slot_of, is_entry_page, IsImage, entry_at}
use Rattle.image_model.specs.Headers.{names_index}
use Rattle.image_model.specs.Tables.{damaged_of}
use Rattle.image_model.specs.Tidy.{is_free_entry, is_wanted, is_wanted_as, IsTidy, IsNeat}
use Rattle.image_laws.specs.Changes.{Gains}
use Rattle.image_laws.specs.SoundSteps.{IsOfKind}
use Rattle.image_laws.specs.TidySteps.{Agree, ProgramsAgree, IsTidyBut, IsNeatBut, TidyIsTidy, PlacingEntryTidy, PlacingPageTidy, FinishingTidies, KillingTidy, KilledTidies}
use Rattle.image_laws.proofs.Frames.{magic-same_page, magic-same_entry, entry-same_page, entry-same_entry, other-same_page, page-same_entry, entry_place-at, live_parts, damaged_of-same, live-entry_changed}
use Rattle.image_model.specs.Within.{page_number}
use Rattle.image_laws.proofs.Placing.{wider, live-placing_entry, live-placing_page}
use Rattle.image_laws.proofs.EraseCounts.{erases_stay}
use Rattle.image_laws.proofs.Bits.{one_bit_image}
use Rattle.image_laws.proofs.Kill.{killing-loses, killing-keeps}
use Rattle.image_laws.proofs.Publish.{finishing-gains}
use Rattle.image_laws.proofs.Sounding.{loses-back, gains-undamaged, other-kind}
use Rattle.image_laws.proofs.Finished.{torn_from}
use Rattle.image_laws.proofs.Wants.{wanted-gains, wanted-new, wanted-loses}

pub tidy-is_tidy : (g : Geometry) → TidyIsTidy g
tidy-is_tidy g a spare = (
  λ t. record { magic = t.magic; entries = λ p e. inr (t.entries p e); undamaged = t.undamaged; unmixed = t.unmixed },
  λ none t. record {
    magic = t.magic;
    entries = λ p e. ⊎_elim (λ (x : spare p ≡ true). absurd (none p x)) (λ y. y) (t.entries p e);
    undamaged = t.undamaged;
    unmixed = t.unmixed;
  },
)

-- tidy images are neat
pub neat_of : {g : Geometry} {a : List ℕ} → IsTidy g a → IsNeat g a
neat_of t = record { magic = t.magic; entries = t.entries; undamaged = t.undamaged }

pub neat-but : {g : Geometry} {a : List ℕ} {spare : ℕ → Bool} → IsTidyBut g a spare → IsNeatBut g a spare
neat-but t = record { magic = t.magic; entries = t.entries; undamaged = t.undamaged }

-- no page is spare
pub neat-none : {g : Geometry} {a : List ℕ} (spare : ℕ → Bool) → IsNeat g a → IsNeatBut g a spare
neat-none spare n = record { magic = n.magic; entries = λ p e. inr (n.entries p e); undamaged = n.undamaged }

pub neat-end : {g : Geometry} {a : List ℕ} (spare : ℕ → Bool) → ((p : ℕ) → spare p ≡ true → ⊥) → IsNeatBut g a spare → IsNeat g a
neat-end spare none n = record { magic = n.magic; entries = λ p e. ⊎_elim (λ (x : spare p ≡ true). absurd (none p x)) (λ y. y) (n.entries p e); undamaged = n.undamaged }

-- what an entry may be
abbrev pub Entry : Geometry → List ℕ → ℕ → Type 0
Entry g a p = (entry_of g a p ≡ 0) ⊎ ((is_free_entry g a p ≡ true) ⊎ (is_wanted g a p ≡ true))

pub entry-same : (g : Geometry) (a b : List ℕ) (q : ℕ) → entry_of g b q ≡ entry_of g a q → page_of g b q ≡ page_of g a q → (is_wanted g a q ≡ true → is_wanted g b q ≡ true) → Entry g a q → Entry g b q
entry-same g a b q e p w x =
    ⊎_elim
    (λ (zero : entry_of g a q ≡ 0). inl (e ∙ zero))
    (λ (more : (is_free_entry g a q ≡ true) ⊎ (is_wanted g a q ≡ true)). inr (⊎_elim
    (λ (free : is_free_entry g a q ≡ true). inl (rw (e, p) free))
    (λ (wanted : is_wanted g a q ≡ true). inr (w wanted))
    more))
    x

pub wanted-same : (g : Geometry) (a b : List ℕ) → ((q : ℕ) → live_at g b q ≡ live_at g a q) → (q : ℕ) → is_wanted g b q ≡ is_wanted g a q
unfolding is_wanted
wanted-same g a b live q = ap (λ (l : Live). is_wanted_as g l (l q) q) (fun_ext live)

pub agree_page : (g : Geometry) (a b : List ℕ) (p : ℕ) → Sizes g → is_entry_page g p ≡ true → SameOutside (p * g.page) g.page a b → Agree g a b p
agree_page g a b p geo page h = record {
  magic = magic-same_page g geo a b p page h;
  entry = λ q e there. entry-same_page g geo a b p page h q;
  page = λ q e there. other-same_page g geo a b p page h q there;
  counts = λ d low. erases_stay g a b p d page low (inl h);
}

pub agree_entry : (g : Geometry) (a b : List ℕ) (p : ℕ) → Sizes g → is_entry_page g p ≡ true → SameOutside (entry_at g p) 2 a b → Agree g a b p
agree_entry g a b p geo page h = record {
  magic = magic-same_entry g geo a b p page h;
  entry = λ q e there. entry-same_entry g geo a b p page h q (entry_place-at g q e) there;
  page = λ q e there. page-same_entry g geo a b p page h q e;
  counts = λ d low. erases_stay g a b p d page low (inr h);
}

pub agree-on : (g : Geometry) (a b c : List ℕ) (p : ℕ) → Agree g a b p → Agree g b c p → Agree g a c p
agree-on g a b c p x y = record {
  magic = λ d. y.magic d ∙ x.magic d;
  entry = λ q e there. y.entry q e there ∙ x.entry q e there;
  page = λ q e there. y.page q e there ∙ x.page q e there;
  counts = λ d low. y.counts d low ∙ x.counts d low;
}

-- the entries but for that of p
pub entries-but : (g : Geometry) (a b : List ℕ) (p : ℕ) (spare later : ℕ → Bool) → Agree g a b p → IsTidyBut g a spare → ((q : ℕ) → q ≢ p → spare q ≡ true → later q ≡ true) →
    ((q : ℕ) → q ≢ p → is_wanted g a q ≡ true → is_wanted g b q ≡ true) → ((later p ≡ true) ⊎ Entry g b p) → (q : ℕ) → is_entry_page g q ≡ true → (later q ≡ true) ⊎ Entry g b q
entries-but g a b p spare later agree t leaves wants here q e =
    ⊎_elim
    (λ (x : q ≡ p). subst (λ (k : ℕ). (later k ≡ true) ⊎ Entry g b k) (sym x) here)
    (λ (there : q ≡ p → ⊥). ⊎_elim
    (λ (s : spare q ≡ true). inl (leaves q there s))
    (λ (old : Entry g a q). inr (entry-same g a b q (agree.entry q e there) (agree.page q e there) (wants q there) old))
    (t.entries q e))
    (cases_eq q p)

-- where the live pages stay
pub tidy_live : (g : Geometry) (a b : List ℕ) (p : ℕ) (spare later : ℕ → Bool) → Agree g a b p → IsTidyBut g a spare → ((q : ℕ) → q ≢ p → spare q ≡ true → later q ≡ true) →
    ((q : ℕ) → live_at g b q ≡ live_at g a q) → ((later p ≡ true) ⊎ Entry g b p) → IsTidyBut g b later
tidy_live g a b p spare later agree t leaves live here = record {
  magic = λ c low. agree.magic c ∙ t.magic c low;
  entries = entries-but g a b p spare later agree t leaves (λ q there w. wanted-same g a b live q ∙ w) here;
  undamaged = damaged_of-same g b a live ∙ t.undamaged;
  unmixed = λ q r x y e f at. t.unmixed q r x y (sym (live q) ∙ e) (sym (live r) ∙ f) at;
}

pub placing_entry-tidy : (g : Geometry) → PlacingEntryTidy g
placing_entry-tidy g a b p asked spare is t sp unfinished two torn =
    tidy_live g a b p spare spare (agree_entry g a b p (sizes g) unfinished.entry_page (rw two at torn.outside)) t (λ q there s. s)
    (live-placing_entry g (sizes g) a b p unfinished.entry_page unfinished.final asked two torn) (inl sp)

pub placing_page-tidy : (g : Geometry) → PlacingPageTidy g
placing_page-tidy g a b p at asked spare is t sp unfinished low high keeps torn =
    tidy_live g a b p spare spare (agree_page g a b p (sizes g) unfinished.entry_page (wider at (length asked) (p * g.page) g.page a b low high torn.outside)) t (λ q there s. s)
    (live-placing_page g (sizes g) a b p unfinished.entry_page unfinished.final at asked low high torn keeps) (inl sp)

pub wide_flags : (g : Geometry) (a b : List ℕ) (p flags : ℕ) → IsImage g a → HalfProgrammed (p * g.page + 4) (flags ∷ []) a b → SameOutside (p * g.page) g.page a b
wide_flags g a b p flags is torn = let big : 128 ≤ g.page = (sizes g).page in wider (p * g.page + 4) 1 (p * g.page) g.page a b (omega arith) (omega arith) torn.outside

module _ (g : Geometry) (old new : Live) (p : ℕ) (page : List ℕ) (change : Gains p page old new) (kind : IsOfKind g old p page)
    (unmixed : (q r : ℕ) (x y : List ℕ) → old q ≡ Some x → old r ≡ Some y → block_of g q ≡ block_of g r → names_index x ≡ names_index y) where
  unmixed-gains : (q r : ℕ) (x y : List ℕ) → new q ≡ Some x → new r ≡ Some y → block_of g q ≡ block_of g r → names_index x ≡ names_index y
  unmixed-gains q r x y e f at =
      ⊎_elim
      (λ (here : q ≡ p). ⊎_elim
      (λ (too : r ≡ p). ap names_index (same_Some x y (sym e ∙ ap new (here ∙ sym too) ∙ f)))
      (λ (there : r ≡ p → ⊥). sym (other-kind g old new p page change kind r q y x f e (sym at) there here))
      (cases_eq r p))
      (λ (apart : q ≡ p → ⊥). ⊎_elim
      (λ (here : r ≡ p). other-kind g old new p page change kind q r x y e f at apart here)
      (λ (there : r ≡ p → ⊥). unmixed q r x y (sym (change.others q apart) ∙ e) (sym (change.others r there) ∙ f) at)
      (cases_eq r p))
      (cases_eq q p)

pub finishing-tidies : (g : Geometry) → FinishingTidies g
unfolding damaged_of is_wanted
finishing-tidies g a b p flags id f spare later leaves is t placed leads none kind program done =
    let torn = torn_from _ _ _ _ program in
    let gains = finishing-gains g a b p flags is placed torn done in
    let within = page_number g p placed.entry_page in
    let agree = agree_page g a b p (sizes g) placed.entry_page (wide_flags g a b p flags is torn) in
    record {
      magic = λ c low. agree.magic c ∙ t.magic c low;
      entries = entries-but g a b p spare later agree t leaves.others
          (λ q there w. wanted-gains g a (live_at g b) p id (set (page_of g a p) 4 flags) f within gains leads none q there w)
          (inr (inr (inr (wanted-new g a (live_at g b) p id (set (page_of g a p) 4 flags) f within gains leads none))));
      undamaged = gains-undamaged g a (live_at g b) p id (set (page_of g a p) 4 flags) f within gains leads;
      unmixed = unmixed-gains g (live_at g a) (live_at g b) p (set (page_of g a p) 4 flags) gains kind t.unmixed;
    }

pub killing-tidy : (g : Geometry) → KillingTidy g
unfolding is_wanted
killing-tidy g a b p flags page spare is t sp live clears idle torn =
    let entry = (live_parts g a p page live).entry_page in
    let agree = agree_page g a b p (sizes g) entry (wide_flags g a b p flags is torn) in
    ⊎_elim
    (λ (e : b ≡ a). subst (λ (x : List ℕ). IsTidyBut g x spare) (sym e) t)
    (λ (done : slice_index b (p * g.page + 4) ≡ flags).
    let loses = killing-loses g a b p flags is entry clears.cleared torn done in
    record {
      magic = λ c low. agree.magic c ∙ t.magic c low;
      entries = entries-but g a b p spare spare agree t (λ q there s. s)
          (λ q there w. wanted-loses g p page (live_at g a) (live_at g b) live loses idle q there w) (inl sp);
      undamaged = (killing-keeps g a b p flags page is live clears idle torn).1 ∙ t.undamaged;
      unmixed = λ q r x y e f at. t.unmixed q r x y (loses-back p (live_at g a) (live_at g b) loses q x e) (loses-back p (live_at g a) (live_at g b) loses r y f) at;
    })
    (one_bit_image 7 (p * g.page + 4) flags a b clears torn)

pub zeroed : (g : Geometry) (a b : List ℕ) (p : ℕ) → Programmed (entry_at g p) (0 ∷ 0 ∷ []) a b → entry_of g b p ≡ 0
unfolding entry_of slot_of
zeroed g a b p h =
    let lo : slice_index b (entry_at g p + 0) ≡ bit_and (slice_index a (entry_at g p + 0)) 0 = h.bytes 0 (omega arith) in
    let hi : slice_index b (entry_at g p + 1) ≡ bit_and (slice_index a (entry_at g p + 1)) 0 = h.bytes 1 (omega arith) in
    let low : slice_index b (entry_at g p) ≡ 0 = rw add-zero at (lo ∙ and_zero_r (slice_index a (entry_at g p + 0))) in
    let high : slice_index b (entry_at g p + 1) ≡ 0 = hi ∙ and_zero_r (slice_index a (entry_at g p + 1)) in
    rw (low, high) refl

pub killed-tidies : (g : Geometry) → KilledTidies g
killed-tidies g a b p spare later leaves is t sp page unfinished = (
  λ torn. tidy_live g a b p spare spare (agree_entry g a b p (sizes g) page torn.outside) t (λ q there s. s)
      (live-entry_changed g (sizes g) a b p page torn.outside unfinished) (inl sp),
  λ h. tidy_live g a b p spare later (agree_entry g a b p (sizes g) page h.outside) t leaves.others
      (live-entry_changed g (sizes g) a b p page h.outside unfinished) (inr (inl (zeroed g a b p h))),
)

pub programs-agree : (g : Geometry) → ProgramsAgree g
programs-agree g = (λ a b p page h. ⊎_elim (agree_page g a b p (sizes g) page) (agree_entry g a b p (sizes g) page) h, agree-on g)
