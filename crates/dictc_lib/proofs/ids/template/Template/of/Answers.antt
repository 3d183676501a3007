use Rattle.std.proofs.Common.{◌≡◌, [], ◌∷◌, map, Some, ap, ◌∙◌, string_bytes}
use Rattle.std.proofs.lemmas.List.{map-append}
use Rattle.std.specs.Prelude.{slice_get}
use Rattle.dictc_lib.proofs.TemplateLemmas.{field_is, one_more}
use Rattle.dictc_lib.proofs.ids.template.Template.of.Goals as goal

pub loop-n-preserved : goal.loop-n-preserved
loop-n-preserved c = λ all are.
    let found = rw c.in-Some.is at c.in_ok-found.ensures in
    let here : Some (string_bytes c.in-Some.found) ≡ slice_get all c.loop-n.n = field_is c.args.text.now all c.loop-n.n (Some (string_bytes c.in-Some.found)) are found in
    ap (map string_bytes) c.in_ok-push-in-Some.ensures.items ∙ map-append string_bytes c.loop-n.fields.items (c.in-Some.found ∷ [])
    ∙ one_more all (map string_bytes c.loop-n.fields.items) c.loop-n.n (string_bytes c.in-Some.found) (c.loop-n.invariant all are) here
