use Rattle.std.specs.Prelude.{[], ◌∷◌, ◌++◌}
use Rattle.rb_base.specs.Names.{text_eq}
use Rattle.tree_model.specs.Tree.{no_trees, more_trees}
use Rattle.tree_model.specs.Path.{append}
use Rattle.run_model.specs.Renamings.{no_renaming}
use Rattle.rename_model.specs.OneRenamed.{one_selector}
use Rattle.rename_model.specs.SelectorRenamed.{selector_renamed}
use Rattle.command_model.specs.Asked.{text_asked}
use Rattle.command_model.specs.Commands.{AddParameter}
use Rattle.command_model.specs.Effects.{effect}
use Rattle.command_model.specs.Plain.{literal_node}
use Rattle.parameter_laws.specs.ArgumentsChanged.{argument_appended}
use Rattle.parameter_laws.proofs.AtomTrees.{node-atom}
use Rattle.parameter_laws.proofs.Composed.{nothing-first, nothing-last}
use Rattle.parameter_laws.proofs.OneStep.{last-natural, image-both}
use Rattle.parameter_laws.proofs.SelectorsKept.{last-none, atom-none, fresh-kept}
use Rattle.parameter_laws.proofs.laws.law_added_parameter.Goals as goal

pub returns : goal.returns
returns c = λ writing i s t x k l old new fresh atom h.
    let a = literal_node l in
    let is_atom = node-atom l atom in
    let between = argument_appended text_eq writing s x a i in
    let renamed = selector_renamed text_eq writing between s t in
    c.law_matched.ensures.composed i renamed (effect text_asked writing (AddParameter s t x l) i) (one_selector s t) no_renaming (one_selector s t) (nothing-last s t)
    (c.law_matched.ensures.composed i between renamed no_renaming (one_selector s t) (one_selector s t) (nothing-first s t)
    (c.law_appended_argument.ensures writing i s x k l old atom h)
    (c.law_renamed_selector.ensures.matched writing between s t old new
    (fresh-kept t s (λ args. append args (more_trees a no_trees)) (λ ts q. last-none t a (atom-none t a is_atom) ts q) writing (λ ns. ns ++ x ∷ []) i fresh)).matched)
    (c.law_same_resolved.ensures.matched renamed (effect text_asked writing (AddParameter s t x l) i)
    (image-both s t (λ args. append args (more_trees a no_trees)) writing (λ ns. ns ++ x ∷ []) (λ ts. last-natural _ l ts) i))
