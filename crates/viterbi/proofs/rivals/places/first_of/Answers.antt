use Rattle.std.proofs.Common.{length, refl, arith}
use Rattle.std.proofs.lemmas.Option.{slice_get_read}
use Rattle.viterbi.proofs.PlaceLemmas.{as_many, past_index}
use Rattle.viterbi.proofs.rivals.places.first_of.Goals as goal

pub returns-in-Some-clause-first : goal.returns-in-Some-clause-first
returns-in-Some-clause-first c =
    let firsts = c.args.firsts.now in
    let first = c.in-Some.first.now in
    c.requires.each c.args.place first (slice_get_read firsts (length firsts) c.args.place first refl c.in-Some.ensures.lookup.3.0 c.in-Some.ensures.lookup.1)

pub returns-in-Some-clause-within : goal.returns-in-Some-clause-within
returns-in-Some-clause-within c =
    let firsts = c.args.firsts.now in
    let first = c.in-Some.first.now in
    let within = (c.requires.each c.args.place first (slice_get_read firsts (length firsts) c.args.place first refl c.in-Some.ensures.lookup.3.0 c.in-Some.ensures.lookup.1)).within in
    omega (arith, within, as_many c.args.nodes.now)

pub returns-in-None-clause-first : goal.returns-in-None-clause-first
returns-in-None-clause-first c = past_index c.args.nodes.now c.args.firsts.now c.args.place c.requires c.in-None.ensures.lookup.3
