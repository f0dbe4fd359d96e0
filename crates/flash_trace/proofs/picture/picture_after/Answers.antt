use Rattle.flash_trace.proofs.Pictures.{changed_picture, changed_image}
use Rattle.flash_trace.proofs.picture.picture_after.Goals as goal

pub returns-then-means_same-clause-picture : goal.returns-then-means_same-clause-picture
returns-then-means_same-clause-picture c =
    changed_picture c.args.case.now c.args.picture c.args.event.now c.change_image.new.image _ c.requires.picture c.requires.inside c.as_mut_slice.ensures.value c.in_ok-change_image.ensures _ _ c.as_slice.ensures.value c.as_slice-2.ensures.value
    (c.means_same.ensures.0 c.if-means_same.true)

pub returns-clause-image : goal.returns-clause-image
returns-clause-image c =
    changed_image c.args.case.now c.args.picture c.args.event.now c.change_image.new.image _ c.requires.picture c.requires.inside c.as_mut_slice.ensures.value c.in_ok-change_image.ensures _ c.picture_of.ensures.image
