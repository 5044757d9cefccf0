use Rattle.std.proofs.Common.{◌≡◌, ℕ, List, map, ap, subst, ◌∙◌}
use Rattle.std.proofs.lemmas.Result.{IfOk-weaker}
use Rattle.std.specs.List.{concat}
use Rattle.pattern_model.specs.Patterns.{MetaOf, this_selector, any_unary, of_keywords, any_message}
use Rattle.patterns.specs.View.{meta_of, keyword_of, selector_of}
use Rattle.patterns.specs.Names.{SelectorNames}
use Rattle.patterns.specs.declared.tree.PatternKeyword.{PatternKeyword}
use Rattle.filled_patterns.specs.declared.bindings.Binding.{Binding}
use Rattle.filled_patterns.specs.Filling.{Known, keyword_text}
use Rattle.filled_patterns.proofs.Growing.{numbered, grown, later_still}
use Rattle.filled_patterns.proofs.Chosen.{Selects, Chooses, a_plain, a_unary, a_whole, a_row, chosen_is}
use Rattle.filled_patterns.proofs.standing.filled_selector.Goals as goal

pub returns-in-Plain-clause-filled : goal.returns-in-Plain-clause-filled
returns-in-Plain-clause-filled c = λ final g bs h k.
    let is = ap selector_of c.in-Plain.is in
    chosen_is final bs (selector_of c.args.selector.now) (this_selector c.in-Plain.name) c.in-Plain.name is (a_plain g bs k c.in-Plain.name (subst (SelectorNames (Known c.args.names.now)) is c.requires.selector))

pub returns-in-Unary-clause-filled : goal.returns-in-Unary-clause-filled
returns-in-Unary-clause-filled c =
    let ss : List Binding = c.args.bindings.now in
    let m : MetaOf ℕ = meta_of c.in-Unary.meta in
    let is = ap selector_of c.in-Unary.is in
    IfOk-weaker c.selector_for.result (Selects ss m) (Chooses c.args.names.now ss (selector_of c.args.selector.now))
    (λ n e final g bs h k.
    chosen_is final bs (selector_of c.args.selector.now) (any_unary m) n is
    (a_unary g bs k m (subst (SelectorNames (Known c.args.names.now)) is c.requires.selector) n (e bs h)))
    c.selector_for.ensures

pub returns-in-Whole-clause-filled : goal.returns-in-Whole-clause-filled
returns-in-Whole-clause-filled c =
    let ss : List Binding = c.args.bindings.now in
    let m : MetaOf ℕ = meta_of c.in-Whole.meta in
    let is = ap selector_of c.in-Whole.is in
    IfOk-weaker c.selector_for-in-Whole.result (Selects ss m) (Chooses c.args.names.now ss (selector_of c.args.selector.now))
    (λ n e final g bs h k.
    chosen_is final bs (selector_of c.args.selector.now) (any_message m) n is
    (a_whole g bs k m (subst (SelectorNames (Known c.args.names.now)) is c.requires.selector) n (e bs h)))
    c.selector_for-in-Whole.ensures

pub returns-in_ok-number-in-Keywords-clause-filled : goal.returns-in_ok-number-in-Keywords-clause-filled
returns-in_ok-number-in-Keywords-clause-filled c = λ final g bs h k.
    let n = c.in_ok-number-in-Keywords.number in
    let is = ap selector_of c.in-Keywords.is in
    let text : c.as_slice.result.now ≡ concat (map (keyword_text bs) (map keyword_of c.in-Keywords.keywords.items)) =
    c.as_slice.ensures ∙ c.in_ok-text-in-Keywords.ensures bs h ∙ ap (λ (ws : List PatternKeyword). concat (map (keyword_text bs) (map keyword_of ws))) c.deref.ensures.value in
    let l = later_still (grown c.args.names.now c.intern.new.self c.as_slice.result.now c.in_ok-number-in-Keywords.ensures.ok) g in
    let there = numbered c.intern.new.self n c.as_slice.result.now c.in_ok-number-in-Keywords.ensures.number final g.grows in
    chosen_is final bs (selector_of c.args.selector.now) (of_keywords (map keyword_of c.in-Keywords.keywords.items)) n is
    (a_row l bs k (map keyword_of c.in-Keywords.keywords.items) (subst (SelectorNames (Known c.args.names.now)) is c.requires.selector) n (there.0 ∙ text, there.1))
