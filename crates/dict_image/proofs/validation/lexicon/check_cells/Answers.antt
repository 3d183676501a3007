use Rattle.dict_image.proofs.validation.lexicon.check_cells.Goals as goal

pub returns-in-None : goal.returns-in-None
returns-in-None c =
    let cells = rw c.in-Some.is at c.in_ok-places.ensures in
    let keys = rw c.in-None.is at c.in_ok-first_without_key.ensures in
    (cells.0, (keys, tt))
