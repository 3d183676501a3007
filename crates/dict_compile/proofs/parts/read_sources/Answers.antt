use Rattle.dict_compile.proofs.parts.read_sources.Goals as goal

pub returns-clause-accepted : goal.returns-clause-accepted
returns-clause-accepted g c = c.read_others.ensures.accepted c.args.sources.now.matrix c.in_ok-matrix.ensures.accepted

pub returns-clause-rejected : goal.returns-clause-rejected
returns-clause-rejected g c = c.read_others.ensures.rejected c.args.sources.now.matrix c.in_ok-matrix.ensures.accepted
