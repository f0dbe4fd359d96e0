use Rattle.room_laws.proofs.CleanedImages.{emptied_has_cleaned, has_cleaned_can_clean, has_cleaned_is_lower, has_cleaned_mends, has_cleaned_is_swept}
use Rattle.room_laws.proofs.cleaning.emptied_blocks_are_cleaned.Goals as goal

pub returns-clause-emptied : goal.returns-clause-emptied
returns-clause-emptied c = emptied_has_cleaned

pub returns-clause-again : goal.returns-clause-again
returns-clause-again c = has_cleaned_can_clean

pub returns-clause-lower : goal.returns-clause-lower
returns-clause-lower c = has_cleaned_is_lower

pub returns-clause-mends : goal.returns-clause-mends
returns-clause-mends c = has_cleaned_mends

pub returns-clause-swept : goal.returns-clause-swept
returns-clause-swept c = has_cleaned_is_swept
