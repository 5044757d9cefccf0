use Rattle.std.proofs.Common.{rules, tests, ◌≡◌, ap, ◌∙◌}
use Rattle.std.specs.List.{filter_map}
use Rattle.std.proofs.lemmas.Result.{IfOk-at_ok}
use Rattle.std.proofs.lemmas.Iterator.{YieldsList-from_slice, items_from_collect}
use Rattle.std.proofs.lemmas.Iterator.Consumers.{YieldsList-from_filter_map}
use Rattle.hierarchy_questions.specs.Children.{name_that, is_loser}
use Rattle.hierarchy_questions.proofs.NamesThat.{names-live}
use Rattle.hierarchy_questions.proofs.children.losers.Goals as goal

pub returns : goal.returns
returns c =
    let s = c.args.image.now in
    let items : c.in_ok-names.names.items ≡ filter_map (name_that (is_loser c.args.class c.args.variable) s) c.classes.result.now =
    IfOk-at_ok _ c.in_ok-names.was (items_from_collect _ c.collect.ensures.ran (YieldsList-from_filter_map _ (name_that (is_loser c.args.class c.args.variable) s) (YieldsList-from_slice c.classes.result.now (cc)) c.filter_map.ensures.closure (λ x r q k. search (rules, tests)))) in
    c.from_vec.ensures ∙ items ∙ ap (filter_map (name_that (is_loser c.args.class c.args.variable) s)) c.classes.ensures.value ∙ names-live (is_loser c.args.class c.args.variable) s
