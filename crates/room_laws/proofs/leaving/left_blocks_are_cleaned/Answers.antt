use Rattle.room_laws.proofs.Leaves.{emptying_cleans, cleaned_rearranged}
use Rattle.room_laws.proofs.leaving.left_blocks_are_cleaned.Goals as goal

pub returns-clause-cleans : goal.returns-clause-cleans
returns-clause-cleans c = emptying_cleans

pub returns-clause-rearranged : goal.returns-clause-rearranged
returns-clause-rearranged c = cleaned_rearranged
