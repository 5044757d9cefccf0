use Rattle.std.proofs.Common.{rules, ◌≡◌, not, ap, sym, ◌∙◌}
use Rattle.std.specs.List.{list_any}
use Rattle.std.proofs.lemmas.Iterator.{YieldsList-from_slice}
use Rattle.std.proofs.lemmas.Iterator.Search.{any_from_yields_List}
use Rattle.hierarchy_questions.specs.OwnMethods.{is_own_at}
use Rattle.hierarchy_questions.proofs.OwnListed.{lacks-listed, lacks-unnamed}
use Rattle.hierarchy_questions.proofs.methods.lacks_method.Goals as goal

pub returns : goal.returns
returns c =
    let s = c.args.image.now in
    let m = c.args.method in
    let k = c.in-Some.class in
    let any : c.any.result ≡ list_any (is_own_at s k m.meta m.selector) c.listed-places.result.now =
    any_from_yields_List (is_own_at s k m.meta m.selector) _ _ c.any.result c.any.ensures.ran (YieldsList-from_slice c.listed-places.result.now (cc)) (λ x b q k. search rules) in
    ap not any ∙ lacks-listed s c.requires.orderly m.class m.meta m.selector k c.args.index.now c.listed-places.result.now (sym c.in-Some.ensures) c.requires.index c.listed-places.ensures

pub returns-in_default : goal.returns-in_default
returns-in_default c =
    let m = c.args.method in
    lacks-unnamed c.args.image.now c.requires.orderly m.class m.meta m.selector (sym c.in_default.ensures)
