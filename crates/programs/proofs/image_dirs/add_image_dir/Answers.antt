use Rattle.std.proofs.Common.{rules, ◌≡◌, [], ◌∷◌, ◌++◌, map, string_bytes, ap, sym, ◌∙◌}
use Rattle.std.specs.List.{list_any}
use Rattle.std.specs.Prelude.{string_eq}
use Rattle.programs.proofs.ImageDirLemmas.{with_image_dir-there, with_image_dir-new}
use Rattle.programs.proofs.image_dirs.add_image_dir.Goals as goal

pub returns-then-contains : goal.returns-then-contains
returns-then-contains c =
    let is : c.deref.result.now ≡ c.args.image_dirs.now.items = search rules in
    let contained = ap (λ ss. list_any (λ s. string_eq s c.args.dir) ss) (sym is) ∙ sym c.contains.ensures.value in
    with_image_dir-there c.args.dir c.args.image_dirs.now.items (contained ∙ c.if-contains.true)

pub returns : goal.returns
returns c =
    let is : c.deref.result.now ≡ c.args.image_dirs.now.items = search rules in
    let contained = ap (λ ss. list_any (λ s. string_eq s c.args.dir) ss) (sym is) ∙ sym c.contains.ensures.value in
    let pushed : c.push.new.self.items ≡ c.args.image_dirs.now.items ++ c.args.dir ∷ [] = search rules in
    ap (λ items. map (λ dir. string_bytes dir) items) pushed
    ∙ with_image_dir-new c.args.dir c.args.image_dirs.now.items (contained ∙ c.if-contains.false)
