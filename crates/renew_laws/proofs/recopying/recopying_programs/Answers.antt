use Rattle.renew_laws.proofs.RecopyStep.{recopy-is_sound, put_data-keeps}
use Rattle.renew_laws.proofs.RecopyTidy.{put_data-spares, recopy-tidies}
use Rattle.renew_laws.proofs.recopying.recopying_programs.Goals as goal

pub returns-clause-cuts : goal.returns-clause-cuts
returns-clause-cuts c = recopy-is_sound

pub returns-clause-data_page : goal.returns-clause-data_page
returns-clause-data_page c = put_data-keeps

pub returns-clause-spares : goal.returns-clause-spares
returns-clause-spares c = put_data-spares

pub returns-clause-tidy : goal.returns-clause-tidy
returns-clause-tidy c = recopy-tidies
