use Rattle.std.proofs.Common.{rules, ◌++◌, ◌∷◌, [], List, ℕ, ◌∙◌, ap, append_assoc}
use Rattle.std.proofs.lemmas.Result.{on_ok_weaker}
use Rattle.lex_source.proofs.QuoteLemmas.{after_quote, read_more, read_all, prefix_more}
use Rattle.lex_source.proofs.quoted.append_undoubled.Goals as goal

pub split_around-requires-clause-within : goal.split_around-requires-clause-within
split_around-requires-clause-within g c =
    let left = c.loop-before.invariant.left c.requires.0 c.requires.1 in
    (after_quote c.loop-before.rest.now c.in-Some.before.now c.in-Some.following.now (left.0, left.1) c.in-Some.ensures).0

pub split_around-requires-clause-ascii : goal.split_around-requires-clause-ascii
split_around-requires-clause-ascii g c =
    let left = c.loop-before.invariant.left c.requires.0 c.requires.1 in
    (after_quote c.loop-before.rest.now c.in-Some.before.now c.in-Some.following.now (left.0, left.1) c.in-Some.ensures).1

pub loop-before-preserved : goal.loop-before-preserved
loop-before-preserved g c =
    let bytes = g.S.TextSink.bytes in
    let old = bytes c.args.out.now in
    let done = bytes c.loop-before.out in
    let before = c.in-Some.before.now in
    let after = bytes c.push_text-in-Some.new.self in
    let pushed = c.in_ok-push_text-2.ensures.appended ∙ ap (λ (xs : List ℕ). xs ++ 34 ∷ []) c.in_ok-push_text.ensures.appended in
    record {
      utf8 = search rules;
      left = λ field is. read_more c.args.raw.now (old ++ field) c.loop-before.rest.now before c.in-Some.following.now done c.split_around.result.1.now after (c.loop-before.invariant.left field is)
          c.in-Some.ensures c.split_around.ensures.after pushed;
      front = prefix_more old done (before ++ 34 ∷ []) after c.loop-before.invariant.front (pushed ∙ append_assoc done before (34 ∷ []));
    }

pub returns-clause-appended : goal.returns-clause-appended
returns-clause-appended g c =
    λ field is.
    let bytes = g.S.TextSink.bytes in
    on_ok_weaker c.push_text-2.result
    (λ pushed. read_all (bytes c.args.out.now ++ field) c.loop-before.rest.now (bytes c.loop-before.out) (bytes c.push_text-2.new.self) (c.loop-before.invariant.left field is) c.in_default.ensures pushed)
    c.push_text-2.ensures.appended
