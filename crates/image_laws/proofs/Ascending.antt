-- Files and damaged ids in order of ids.
use Rattle.std.proofs.Common.{◌≡◌, ℕ, List, Bool, true, false, Option, Some, None, Result, Ok, Err, ap, sym, arith, cond}
use Rattle.std.proofs.lemmas.Option.{none-some, same_Some}
use Rattle.geometry.specs.declared.geometry.Geometry.{Geometry}
use Rattle.table_model.specs.Table.{File}
use Rattle.table_model.proofs.Ascending.{Ascends, ranged}
use Rattle.image_model.specs.declared.damage.Damage.{Damage}
use Rattle.image_model.specs.declared.damage.Damage.TheVariants.{SameName}
use Rattle.image_model.specs.Live.{live_at}
use Rattle.image_model.specs.Tables.{Found, counts, counted, records, damage, damages, holder, has_of, table_of, damaged_of}
use Rattle.image_laws.proofs.Records.{counted-keyed}
use Rattle.image_laws.proofs.Finish.{has_of-keyed}

-- the files of a table
pub table-ascends : (g : Geometry) (image : List ℕ) → Ascends (λ (f : File). f.id) 0 (table_of g image)
unfolding table_of records
table-ascends g image =
    let has = has_of g (live_at g image) in
    ranged (λ (f : File). f.id) (λ (id : ℕ). counted has 0x7FFF (has id)) (λ j x e. counted-keyed has 0x7FFF (has_of-keyed g (live_at g image)) j x e) 0 1 0x7FFF (omega arith)

picked-keyed : (b : Bool) (id : ℕ) (cause : Damage) (d : ℕ × Damage) → cond b None (Some (id, cause)) ≡ Some d → d.0 ≡ id
picked-keyed true id cause d e = absurd (none-some d e)
picked-keyed false id cause d e = ap (λ (x : ℕ × Damage). x.0) (sym (same_Some (id, cause) d e))

damage-keyed : (has : Found) (n id : ℕ) (o : Option (ℕ × Result File Damage)) (d : ℕ × Damage) → damage has n id o ≡ Some d → d.0 ≡ id
damage-keyed has n id None d e = absurd (none-some d e)
damage-keyed has n id (Some (p, Err cause)) d e = ap (λ (x : ℕ × Damage). x.0) (sym (same_Some (id, cause) d e))
damage-keyed has n id (Some (p, Ok f)) d e = picked-keyed (counts has n p f.name) id (SameName (holder has n f.name)) d e

-- the damaged ids
pub damaged-ascends : (g : Geometry) (image : List ℕ) → Ascends (λ (d : ℕ × Damage). d.0) 0 (damaged_of g image)
unfolding damaged_of damages
damaged-ascends g image =
    let has = has_of g (live_at g image) in
    ranged (λ (d : ℕ × Damage). d.0) (λ (id : ℕ). damage has 0x7FFF id (has id)) (λ j d e. damage-keyed has 0x7FFF j (has j) d e) 0 1 0x7FFF (omega arith)
