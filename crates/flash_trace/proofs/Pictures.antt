-- What an image means is kept where its live pages and magics are.
use Rattle.std.proofs.Common.{◌≡◌, ◌↔◌, ℕ, ◌+◌, ◌*◌, ◌/◌, ◌<◌, ◌≤◌, List, ◌++◌, length, map, take, drop, replicate, refl, sym, ◌∙◌, ap, subst, arith, length-append, length-drop, Bool, true, false, IsTrue}
use Rattle.std.specs.Prelude.{not, IfOk, Result, Ok, Err}
use Rattle.std.specs.Vec.{with_items}
use Rattle.std.proofs.lemmas.List.{length-take, length-replicate}
use Rattle.std.proofs.Math.Nat.{div-mul-le_self, mul-le-mul_right, add-mul}
use Rattle.geometry.specs.declared.geometry.Geometry.{Geometry}
use Rattle.image_model.specs.Places.{IsImage}
use Rattle.image_model.specs.Live.{live_at}
use Rattle.image_model.specs.Tables.{table_of}
use Rattle.image_model.specs.Sound.{IsSound}
use Rattle.image_laws.proofs.Frames.{table_of-same, damaged_of-same}
use Rattle.image_laws.proofs.Sounding.{mixed-from}
use Rattle.nor_core.specs.Flash.{erased}
use Rattle.nor_memory.proofs.Ranges.{put_size, written_back}
use Rattle.plain_image.specs.declared.record.Record.{Record}
use Rattle.plain_image.specs.Seen.{file as the_file}
use Rattle.plain_table.specs.Seen.{file}
use Rattle.flash_trace.specs.declared.event.Event.{Event}
use Rattle.flash_trace.specs.declared.event.Event.TheVariants.{Program, Erase, Say}
use Rattle.flash_trace.specs.declared.case.Case.{Case}
use Rattle.flash_trace.specs.declared.picture.Picture.{Picture}
use Rattle.flash_trace.specs.Events.{IsInside, image_after}
use Rattle.flash_trace.specs.Stands.{IsPicture, MeansSame}
use Rattle.flash_trace.proofs.Testing.{told_no, told_yes}

erased_size : (was : List ℕ) (start n : ℕ) → start + n ≤ length was → length (erased was start n) ≡ length was
erased_size was start n fits = omega (arith, length-append (take start was ++ replicate n 255) (drop (start + n) was), length-append (take start was) (replicate n 255), length-take start was, length-drop (start + n) was, length-replicate {A = ℕ} n 255)

-- a unit below so many lies in the image
unit_within : (unit_ix size unit : ℕ) → unit_ix < size / unit → unit_ix * unit + unit ≤ size
unit_within unit_ix size unit low = omega (arith, mul-le-mul_right {m = unit_ix + 1} {n = size / unit} unit (omega arith), div-mul-le_self size unit, add-mul unit_ix 1 unit)

-- An event that is inside leaves an image as long as before.
pub after_size : (unit : ℕ) (e : Event) (image : List ℕ) → IsInside (length image) unit e → length (image_after unit e image) ≡ length image
unfolding IsInside image_after
after_size unit (Program at asked got) image inside = put_size image at got.bytes.items (omega (arith, inside.1, inside.2))
after_size unit (Erase unit_ix) image inside = erased_size image (unit_ix * unit) unit (unit_within unit_ix (length image) unit inside)
after_size unit (Say piece) image inside = refl

-- So the one is sound where the other is.
sound_kept : (g : Geometry) (a b first : List ℕ) → MeansSame g a b → IsSound g a first → IsSound g b first
sound_kept g a b first same sound = record {
  magics = record { one = λ c d low low' x y. sound.magics.one c d low low' (sym (same.magics c low) ∙ x) (sym (same.magics d low') ∙ y) };
  mixed = λ block m. sound.mixed block (mixed-from g (live_at g a) (live_at g b) block (λ q x e. sym (same.live q) ∙ e) m);
  damaged = λ id k. sound.damaged id (rw (damaged_of-same g b a same.live) at k);
}

turned : (g : Geometry) (a b : List ℕ) → MeansSame g a b → MeansSame g b a
turned g a b same = record { live = λ k. sym (same.live k); magics = λ block low. sym (same.magics block low) }

joined : (g : Geometry) (a b c : List ℕ) → MeansSame g a b → MeansSame g b c → MeansSame g a c
joined g a b c x y = record { live = λ k. y.live k ∙ x.live k; magics = λ block low. y.magics block low ∙ x.magics block low }

-- an image of a case
pub is_image : (case : Case) (image : List ℕ) → length image ≡ length case.first.now → IsImage case.g.now image
is_image case image size = record { len = omega (arith, size, case.image) }

pub same_itself : (g : Geometry) (image : List ℕ) → MeansSame g image image
same_itself g image = record { live = λ k. refl; magics = λ block low. refl }

-- What was computed for an image is right.
pub picture_made : (case : Case) (p : Picture) (records : List Record) (x y : List ℕ) → length p.image.items ≡ length case.first.now → x ≡ p.image.items → y ≡ p.image.items → p.seen.items ≡ p.image.items → map file p.table.items ≡ map the_file records → map the_file records ≡ table_of case.g.now x
    → IsTrue p.is_sound ↔ IsSound case.g.now y case.first.now → IsPicture case p
picture_made case p records x y size x_is y_is seen_is copied table sound = record {
  size = size;
  seen_size = ap length seen_is ∙ size;
  seen = subst (λ (l : List ℕ). MeansSame case.g.now l p.image.items) (sym seen_is) (same_itself case.g.now p.image.items);
  table = copied ∙ table ∙ ap (table_of case.g.now) x_is;
  sound = subst (λ (l : List ℕ). IsTrue p.is_sound ↔ IsSound case.g.now l case.first.now) y_is sound;
}

-- What was computed for an image is right for another one that means the same.
pub picture_kept : (case : Case) (was now : Picture) → IsPicture case was → length now.image.items ≡ length case.first.now → now.seen ≡ was.seen → now.table ≡ was.table → now.is_sound ≡ was.is_sound → MeansSame case.g.now was.seen.items now.image.items → IsPicture case now
picture_kept case was now p size seen_is table_is sound_is same =
    let g : Geometry = case.g.now in
    let here : MeansSame g was.image.items now.image.items = joined g was.image.items was.seen.items now.image.items (turned g was.seen.items was.image.items p.seen) same in
    record {
      size = size;
      seen_size = ap (λ v. length v.items) seen_is ∙ p.seen_size;
      seen = subst (λ v. MeansSame g v.items now.image.items) (sym seen_is) same;
      table = ap (λ v. map file v.items) table_is ∙ p.table ∙ table_of-same g was.image.items now.image.items (λ k. sym (here.live k));
      sound = (
        λ h. sound_kept g was.image.items now.image.items case.first.now here (p.sound.0 (subst IsTrue sound_is h)),
        λ sound. subst IsTrue (sym sound_is) (p.sound.1 (sound_kept g now.image.items was.image.items case.first.now (turned g was.image.items now.image.items here) sound)),
      );
    }

means_at : (g : Geometry) (x a y b : List ℕ) → x ≡ a → y ≡ b → MeansSame g x y → MeansSame g a b
means_at g x a y b p q same = subst (λ (l : List ℕ). MeansSame g l b) p (subst (λ (l : List ℕ). MeansSame g x l) q same)

-- the image of a picture was changed by an event
module _ (case : Case) (was : Picture) (e : Event) (new old : List ℕ) (p : IsPicture case was) (inside : IsInside (length case.first.now) case.g.now.phys e)
    (old_is : old ≡ was.image.items) (is : new ≡ image_after case.g.now.phys e old) where
  inside_here : IsInside (length was.image.items) case.g.now.phys e
  inside_here = subst (λ (n : ℕ). IsInside n case.g.now.phys e) (sym p.size) inside

  pub changed : (with_items was.image new).items ≡ image_after case.g.now.phys e was.image.items
  changed =
      let new_is : new ≡ image_after case.g.now.phys e was.image.items = is ∙ ap (image_after case.g.now.phys e) old_is in
      written_back was.image.items new was.image.len was.image.ok.0 (ap length new_is ∙ after_size case.g.now.phys e was.image.items inside_here) ∙ new_is

  changed_size : length (with_items was.image new).items ≡ length case.first.now
  changed_size = ap length changed ∙ after_size case.g.now.phys e was.image.items inside_here ∙ p.size

  pub changed_picture : (x y : List ℕ) → x ≡ was.seen.items → y ≡ (with_items was.image new).items → MeansSame case.g.now x y
      → IsPicture case (record { image = with_items was.image new; seen = was.seen; table = was.table; is_sound = was.is_sound })
  changed_picture x y x_is y_is same = picture_kept case was _ p changed_size refl refl refl (means_at case.g.now x was.seen.items y (with_items was.image new).items x_is y_is same)

  pub changed_image : {E : Type 0} (r : Result Picture E) → IfOk r (λ q. q.image.items ≡ (with_items was.image new).items) → IfOk r (λ q. q.image.items ≡ image_after case.g.now.phys e was.image.items)
  changed_image (Ok q) same = same ∙ changed
  changed_image (Err x) same = tt

-- a block has its magic in both images, or in none
pub magic_yes : (x y a b : Bool) → x ≡ a → y ≡ b → x ≡ true → IsTrue y ↔ (b ≡ a)
magic_yes x y a b xa yb t = (λ h. sym yb ∙ h ∙ sym t ∙ xa, λ e. yb ∙ e ∙ sym xa ∙ t)

pub magic_no : (x y a b : Bool) → x ≡ a → y ≡ b → x ≡ false → IsTrue (not y) ↔ (b ≡ a)
magic_no x true a b xa yb f = told_no (b ≡ a) (λ e. absurd (let bad : true ≡ false = yb ∙ e ∙ sym xa ∙ f in cc))
magic_no x false a b xa yb f = told_yes (b ≡ a) (sym yb ∙ sym f ∙ xa)
