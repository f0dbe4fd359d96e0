-- What a cut in a call of a copy leaves.
use Rattle.std.proofs.Common.{◌≡◌, ℕ, ◌<◌, ◌⊎◌, List, [], ◌∷◌, length, take, Bool, true, false, refl, ◌∙◌, subst, arith, ⊎_elim, inl, inr, length-take}
use Rattle.std.specs.Prelude.{nat_lt, min}
use Rattle.std.proofs.lemmas.Bool.{cases_Bool, false≢true}
use Rattle.geometry.specs.declared.geometry.Geometry.{Geometry}
use Rattle.image_model.specs.Within.{sizes}
use Rattle.table_model.specs.Table.{File, State, file_named, least_id}
use Rattle.table_model.specs.Descriptors.{open_at}
use Rattle.table_model.specs.Opening.{open_changes}
use Rattle.table_model.specs.Ask.{Ask, Creates, Opens, Reads, Writes, Fills, Seeks, Tells, Truncates, Flushes, Closes, Removes, RemovesOpen, Renames, Stats, StatsOpen, NextAbove, Informs, Collects, SetsMeta, SetsMetaOpen}
use Rattle.table_model.specs.Flat.{answer}
use Rattle.table_model.specs.Steps.{steps, done_steps, one_if, file_steps, write_steps, open_file, size_or_zero, is_refusal}
use Rattle.table_model.specs.Window.{IsAmong}
use Rattle.call_model.proofs.Closed.{first_open}
use Rattle.call_model.proofs.Tables.{file_of-put}
use Rattle.copy_model.specs.Copying.{front_of, begun}
use Rattle.copy_model.specs.Filling.{filler, filling}
use Rattle.copy_model.specs.Steps.{writes_none, OneStep, OnePage}
use Rattle.copy_model.proofs.Answering.{piece-ends, put-piece}
use Rattle.copy_model.proofs.Writing.{one_write}

-- ---- calls that write no bytes

abbrev AtMostOne : List (List File) → List File → Type 0
AtMostOne more t = (more ≡ []) ⊎ (more ≡ t ∷ [])

one-if : (b : Bool) (t : List File) → AtMostOne (one_if b t) t
one-if true t = inr refl
one-if false t = inl refl

one-done : (g : Geometry) (s : State) (ask : Ask) (t : List File) → writes_none ask ≡ true → AtMostOne (done_steps g s ask t) t
unfolding done_steps
one-done g s (Creates name) t none = inr refl
one-done g s (Opens name flags) t none = one-if (open_changes flags (file_named name s.table)) t
one-done g s (Reads fd count) t none = inl refl
one-done g s (Writes fd bytes) t none = absurd (false≢true none)
one-done g s (Fills fd count byte) t none = absurd (false≢true none)
one-done g s (Seeks fd offset from) t none = inl refl
one-done g s (Tells fd) t none = inl refl
one-done g s (Truncates fd size) t none = one-if (nat_lt size (size_or_zero (open_file s (open_at s.slots fd)))) t
one-done g s (Flushes fd) t none = inl refl
one-done g s (Closes fd) t none = inl refl
one-done g s (Removes name) t none = inr refl
one-done g s (RemovesOpen fd) t none = inr refl
one-done g s (Renames old_name new_name) t none = inr refl
one-done g s (Stats name) t none = inl refl
one-done g s (StatsOpen fd) t none = inl refl
one-done g s (NextAbove after) t none = inl refl
one-done g s Informs t none = inl refl
one-done g s Collects t none = inl refl
one-done g s (SetsMeta name meta) t none = inr refl
one-done g s (SetsMetaOpen fd meta) t none = inr refl

among-one : (t u : List File) (more : List (List File)) → AtMostOne more u → IsAmong t more → t ≡ u
unfolding IsAmong
among-one t u more one among = ⊎_elim
    (λ (none : more ≡ []). absurd (subst (IsAmong t) none among))
    (λ (is : more ≡ u ∷ []). ⊎_elim (λ (same : t ≡ u). same) (λ never. absurd never) (subst (IsAmong t) is among))
    one

pub one-step : (g : Geometry) → OneStep g
unfolding IsAmong steps
one-step g spare s ask t none among = ⊎_elim
    (λ (here : t ≡ s.table). inl here)
    (λ later. ⊎_elim
    (λ (refused : is_refusal (answer g spare s ask).answer ≡ true). absurd (rw refused at later))
    (λ (done : is_refusal (answer g spare s ask).answer ≡ false). inr (among-one t (answer g spare s ask).next.table (done_steps g s ask (answer g spare s ask).next.table) (one-done g s ask (answer g spare s ask).next.table none) (rw done at later)))
    (cases_Bool (is_refusal (answer g spare s ask).answer)))
    among

-- ---- a page of the working file

piece-steps : (g : Geometry) (slots : ℕ) (f : File) (files : List File) (at : ℕ) (bytes : List ℕ) → 0 < slots → write_steps g (filling g slots f files at) 1 bytes ≡ file_steps g at bytes (front_of g files (take at f.bytes)) (begun g f files at)
unfolding write_steps open_file
piece-steps g slots f files at bytes some =
    rw (first_open (min 65535 slots) (filler (least_id files) at) (omega (arith, some)), file_of-put (front_of g files (take at f.bytes)) files) refl

among-piece : (g : Geometry) (slots : ℕ) (f : File) (files : List File) (at : ℕ) (bytes : List ℕ) (t : List File) → 0 < slots → IsAmong t (done_steps g (filling g slots f files at) (Writes 1 bytes) (answer g true (filling g slots f files at) (Writes 1 bytes)).next.table) →
    IsAmong t (file_steps g at bytes (front_of g files (take at f.bytes)) (begun g f files at))
unfolding done_steps
among-piece g slots f files at bytes t some among = subst (IsAmong t) (piece-steps g slots f files at bytes some) among

pub one-page : (g : Geometry) → OnePage g
unfolding IsAmong steps
one-page g slots f files at bytes t some more is from few among =
    let s = filling g slots f files at in
    let ask = Writes 1 bytes in
    let big = (sizes g).page in
    let long : at ≡ length (take at f.bytes) = let n = length-take at f.bytes in let ends = piece-ends f at bytes more is in omega (arith, n, ends) in
    ⊎_elim
    (λ (here : t ≡ begun g f files at). inl here)
    (λ later. ⊎_elim
    (λ (refused : is_refusal (answer g true s ask).answer ≡ true). absurd (rw refused at later))
    (λ (done : is_refusal (answer g true s ask).answer ≡ false).
    inr (one_write g at bytes (front_of g files (take at f.bytes)) (begun g f files at) t (omega (arith, big)) long from few (among-piece g slots f files at bytes t some (rw done at later)) ∙ put-piece g f files at bytes more is))
    (cases_Bool (is_refusal (answer g true s ask).answer)))
    among
