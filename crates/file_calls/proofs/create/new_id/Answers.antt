use Rattle.std.proofs.Common.{[], ◌≡◌, true, false, ◌∙◌, sym, ap, ℕ, Option, Some, None}
use Rattle.std.specs.Prelude.{is_some}
use Rattle.table_model.specs.Room.{has_room}
use Rattle.table_model.specs.Files.{created}
use Rattle.table_model.specs.Table.{has_name, least_id}
use Rattle.image_model.specs.Tables.{table_of}
use Rattle.flash_view.proofs.Stepped.{view_image}
use Rattle.free_search.specs.Ids.{unused_id}
use Rattle.free_search.specs.Naming.{NamingOf}
use Rattle.free_search.specs.declared.naming.Naming.TheVariants.{Free}
use Rattle.file_calls.specs.Refusals.{page_lack}
use Rattle.file_calls.proofs.Going.{err_is, looked_back}
use Rattle.file_calls.proofs.Paged.{allowed}
use Rattle.file_calls.proofs.NewFiles.{created_room}
use Rattle.file_calls.proofs.create.new_id.Goals as goal

pub returns-in_err-have_page-clause-among : goal.returns-in_err-have_page-clause-among
returns-in_err-have_page-clause-among g c =
    rw (err_is c.from_residual-in_err-have_page.result c.from_residual-in_err-have_page.ensures.1) (c.in_err-have_page.ensures.among c.args.name.now [] 0 0 0).0

pub returns-in-Some-clause-told : goal.returns-in-Some-clause-told
unfolding unused_id
returns-in-Some-clause-told g c = λ tells tidy.
    let view = c.args.v.now in
    let geometry = view.geometry in
    let image = g.N.NorState.bytes view.nor.now in
    let name = c.args.name.now in
    let looked = c.in_ok-found.ensures in
    let told : NamingOf geometry image name (Free c.in-Free.found) = rw c.in-Free.is at (looked.looks.told tells) in
    let none = told.0 in
    let found = told.1 in
    let new : has_name name (table_of geometry image) ≡ false = sym (c.names_are_told.ensures.has geometry image (view_image view (g.met.N.Nor.sized view.nor.now) tells) tidy name) ∙ ap (λ (o : Option ℕ). is_some o) none in
    let had : page_lack geometry image 1 ≡ None = looked_back (λ h a. page_lack h a 1 ≡ None) looked.looks.only c.in_ok-have_page.ensures.told tells tidy in
    let room : has_room geometry (created geometry [] (table_of geometry image)) ≡ true = created_room geometry [] (table_of geometry image) ∙ (allowed geometry image 1 had).room in
    let least : unused_id geometry image ≡ Some (least_id (table_of geometry image)) = (c.ids_are_least.ensures.first geometry image [] tidy.undamaged room).0 in
    let is = c.in-Some.is in
    (new, (had, cc))

pub returns-in-None-clause-told : goal.returns-in-None-clause-told
unfolding unused_id
returns-in-None-clause-told g c = λ tells tidy.
    let geometry = c.args.v.now.geometry in
    let image = g.N.NorState.bytes c.args.v.now.nor.now in
    let looked = c.in_ok-found.ensures in
    let told : NamingOf geometry image c.args.name.now (Free c.in-Free.found) = rw c.in-Free.is at (looked.looks.told tells) in
    let had : page_lack geometry image 1 ≡ None = looked_back (λ h a. page_lack h a 1 ≡ None) looked.looks.only c.in_ok-have_page.ensures.told tells tidy in
    let room : has_room geometry (created geometry [] (table_of geometry image)) ≡ true = created_room geometry [] (table_of geometry image) ∙ (allowed geometry image 1 had).room in
    let least : unused_id geometry image ≡ Some (least_id (table_of geometry image)) = (c.ids_are_least.ensures.first geometry image [] tidy.undamaged room).0 in
    let is = c.in-None.is in
    let never : None ≡ Some (least_id (table_of geometry image)) = sym is ∙ told.1 ∙ least in
    absurd (cc)
