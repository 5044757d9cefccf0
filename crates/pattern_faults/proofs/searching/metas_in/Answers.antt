use Rattle.std.proofs.Common.{◌≡◌, false, map, ap, ◌∙◌, List}
use Rattle.patterns.specs.View.{meta_of}
use Rattle.patterns.specs.declared.tree.Meta.{Meta}
use Rattle.pattern_model.specs.Patterns.{metas}
use Rattle.pattern_trees.specs.Faults.{at_places, meta_places}
use Rattle.pattern_faults.proofs.searching.metas_in.Goals as goal

pub unreachable-requires : goal.unreachable-requires
unreachable-requires c =
    let none = rw c.in_default.is at c.in_ok-places.ensures.fault in
    none c.requires.0 c.requires.1

pub returns : goal.returns
returns c tokens lexed =
    let all = rw c.in-Some.is at c.in_ok-places.ensures.places in
    let found : map meta_of c.deref.result.now ≡ metas c.args.pattern.now = ap (λ (xs : List Meta). map meta_of xs) c.deref.ensures.value ∙ c.in_ok-metas.ensures in
    let there : c.deref-2.result.now ≡ meta_places false tokens = c.deref-2.ensures.value ∙ all tokens lexed in
    c.in_ok-placed.ensures ∙ (λ i. at_places (found i) (there i))
