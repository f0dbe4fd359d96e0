use Rattle.image_laws.proofs.Erasing.{erasing-sound}
use Rattle.image_laws.proofs.Sounding.{placing_entry-sound, placing_page-sound, finishing-sound, retiring-sound, killing-sound}
use Rattle.image_laws.proofs.sound.steps_are_sound.Goals as goal

pub returns-clause-entry : goal.returns-clause-entry
returns-clause-entry c = placing_entry-sound

pub returns-clause-page : goal.returns-clause-page
returns-clause-page c = placing_page-sound

pub returns-clause-finishing : goal.returns-clause-finishing
returns-clause-finishing c = finishing-sound

pub returns-clause-retiring : goal.returns-clause-retiring
returns-clause-retiring c = retiring-sound

pub returns-clause-killing : goal.returns-clause-killing
returns-clause-killing c = killing-sound

pub returns-clause-erasing : goal.returns-clause-erasing
returns-clause-erasing c = erasing-sound
