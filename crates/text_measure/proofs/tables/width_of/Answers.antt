use Rattle.text_measure.proofs.Lookups.{searched_ok, searched_err}
use Rattle.text_measure.proofs.tables.width_of.Goals as goal

pub returns-in-Ok : goal.returns-in-Ok
returns-in-Ok c = searched_ok _ _ _ _ _ c.requires.same_length c.requires.rising c.in-Ok.ensures.position

pub returns-in-Err : goal.returns-in-Err
returns-in-Err c = searched_err _ _ _ _ _ c.requires.rising c.in-Err.ensures.position
