use Rattle.std.proofs.Common.{◌≡◌, ℕ, ◌+◌, arith, length, subst}
use Rattle.mj_model.specs.Counts.{end_in}
use Rattle.jseg_lib.specs.PeekedReader.{sum_of}
use Rattle.jseg_lib.proofs.PeekedCounts.{calls_can_rise, one_end, one_failure, one_more_call, one_more_replay, replays_can_rise}
use Rattle.jseg_lib.proofs.peeked_reader.PeekedReaderTextIn.read_counted.Goals as goal

pub count-requires-clause-reads : goal.count-requires-clause-reads
count-requires-clause-reads g c = replays_can_rise (g.R.TextIn.state c.args.self.now.reader).reads c.args.self.now.replays.reads c.requires.reads

pub count-requires-clause-ends : goal.count-requires-clause-ends
count-requires-clause-ends g c = replays_can_rise (g.R.TextIn.state c.args.self.now.reader).ends c.args.self.now.replays.ends c.requires.ends

pub count-requires-clause-failures : goal.count-requires-clause-failures
count-requires-clause-failures g c = replays_can_rise (g.R.TextIn.state c.args.self.now.reader).failures c.args.self.now.replays.failures c.requires.failures

pub read_counted-requires-clause-reads : goal.read_counted-requires-clause-reads
read_counted-requires-clause-reads g c = calls_can_rise (g.R.TextIn.state c.args.self.now.reader).reads c.args.self.now.replays.reads c.requires.reads

pub read_counted-requires-clause-ends : goal.read_counted-requires-clause-ends
read_counted-requires-clause-ends g c = calls_can_rise (g.R.TextIn.state c.args.self.now.reader).ends c.args.self.now.replays.ends c.requires.ends

pub read_counted-requires-clause-failures : goal.read_counted-requires-clause-failures
read_counted-requires-clause-failures g c = calls_can_rise (g.R.TextIn.state c.args.self.now.reader).failures c.args.self.now.replays.failures c.requires.failures

pub returns-in-Some-clause-reads : goal.returns-in-Some-clause-reads
returns-in-Some-clause-reads g c =
    one_more_replay (g.R.TextIn.state c.args.self.now.reader).reads c.args.self.now.replays.reads c.count.new.self.reads 1 c.requires.reads (omega arith) c.count.ensures.reads

pub returns-in-Some-clause-ends : goal.returns-in-Some-clause-ends
returns-in-Some-clause-ends g c =
    let calls = (g.R.TextIn.state c.args.self.now.reader).ends in
    let room : length c.replay.new.buf ≡ length c.args.buf.now = omega arith in
    subst (λ (n : ℕ). sum_of calls c.count.new.self.ends ≡ sum_of calls c.args.self.now.replays.ends + end_in c.in-Some.replayed n) room (one_more_replay (g.R.TextIn.state c.args.self.now.reader).ends c.args.self.now.replays.ends c.count.new.self.ends _ c.requires.ends (one_end c.in-Some.replayed _) c.count.ensures.ends)

pub returns-in-Some-clause-failures : goal.returns-in-Some-clause-failures
returns-in-Some-clause-failures g c =
    one_more_replay (g.R.TextIn.state c.args.self.now.reader).failures c.args.self.now.replays.failures c.count.new.self.failures _ c.requires.failures (one_failure c.in-Some.replayed) c.count.ensures.failures

pub returns-in-None-clause-reads : goal.returns-in-None-clause-reads
returns-in-None-clause-reads g c =
    one_more_call (g.R.TextIn.state c.args.self.now.reader).reads c.args.self.now.replays.reads (g.R.TextIn.state c.read_counted.new.self).reads 1 c.requires.reads (omega arith) c.read_counted.ensures.reads

pub returns-in-None-clause-ends : goal.returns-in-None-clause-ends
returns-in-None-clause-ends g c =
    let replays = c.args.self.now.replays.ends in
    let room : length c.replay.new.buf ≡ length c.args.buf.now = omega arith in
    subst (λ (n : ℕ). sum_of (g.R.TextIn.state c.read_counted.new.self).ends replays ≡ sum_of (g.R.TextIn.state c.args.self.now.reader).ends replays + end_in c.read_counted.result n) room (one_more_call (g.R.TextIn.state c.args.self.now.reader).ends c.args.self.now.replays.ends (g.R.TextIn.state c.read_counted.new.self).ends _ c.requires.ends (one_end c.read_counted.result _) c.read_counted.ensures.ends)

pub returns-in-None-clause-failures : goal.returns-in-None-clause-failures
returns-in-None-clause-failures g c =
    one_more_call (g.R.TextIn.state c.args.self.now.reader).failures c.args.self.now.replays.failures (g.R.TextIn.state c.read_counted.new.self).failures _ c.requires.failures (one_failure c.read_counted.result) c.read_counted.ensures.failures
