use Rattle.std.proofs.Common.{[], ◌≡◌, true, ◌∙◌, Some, None}
use Rattle.table_model.specs.Room.{has_room}
use Rattle.table_model.specs.Files.{created}
use Rattle.table_model.specs.Table.{least_id}
use Rattle.image_model.specs.Tables.{table_of}
use Rattle.free_search.specs.Ids.{unused_id}
use Rattle.file_calls.proofs.Paged.{allowed}
use Rattle.file_calls.proofs.NewFiles.{created_room}
use Rattle.file_calls.proofs.create.prepare.Goals as goal

pub returns-in-Some-clause-told : goal.returns-in-Some-clause-told
unfolding unused_id
returns-in-Some-clause-told g c = λ tells tidy.
    let geometry = c.args.v.now.geometry in
    let image = g.N.NorState.bytes c.args.v.now.nor.now in
    let before = c.in_ok-have_page.ensures in
    let none = before.told tells tidy in
    let found : Some c.in-Some.id ≡ unused_id geometry image = rw (before.looks.same.geometry, before.looks.reads.bytes, c.in-Some.is) at (c.in_ok-id.ensures.looks.told (before.looks.reads.told tells)) in
    let room : has_room geometry (created geometry [] (table_of geometry image)) ≡ true = created_room geometry [] (table_of geometry image) ∙ (allowed geometry image 1 none).room in
    let least : unused_id geometry image ≡ Some (least_id (table_of geometry image)) = (c.ids_are_least.ensures.first geometry image [] tidy.undamaged room).0 in
    (none, cc)

pub returns-in-None-clause-told : goal.returns-in-None-clause-told
unfolding unused_id
returns-in-None-clause-told g c = λ tells tidy.
    let geometry = c.args.v.now.geometry in
    let image = g.N.NorState.bytes c.args.v.now.nor.now in
    let before = c.in_ok-have_page.ensures in
    let none = before.told tells tidy in
    let found : None ≡ unused_id geometry image = rw (before.looks.same.geometry, before.looks.reads.bytes, c.in-None.is) at (c.in_ok-id.ensures.looks.told (before.looks.reads.told tells)) in
    let room : has_room geometry (created geometry [] (table_of geometry image)) ≡ true = created_room geometry [] (table_of geometry image) ∙ (allowed geometry image 1 none).room in
    let least : unused_id geometry image ≡ Some (least_id (table_of geometry image)) = (c.ids_are_least.ensures.first geometry image [] tidy.undamaged room).0 in
    let never : None ≡ Some (least_id (table_of geometry image)) = found ∙ least in
    absurd (cc)
