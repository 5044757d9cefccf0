-- A fact of each name in what metavariables are bound to.
use Rattle.tree_model.specs.AllNames.{AllNames, TreesNames, StatementsNames}
use Rattle.pattern_model.specs.Bindings.{BoundOf, a_part, a_run, a_selector, a_keyword, a_message, BindingOf}

abbrev pub BoundNames : {N : Type 0} → (N → Type 0) → BoundOf N → Type 0
BoundNames P (a_part t) = AllNames P t
BoundNames P (a_run ss) = StatementsNames P ss
BoundNames P (a_selector n) = P n
BoundNames P (a_keyword k) = Unit {0}
BoundNames P (a_message n ts) = P n × TreesNames P ts

abbrev pub BindingNames : {N : Type 0} → (N → Type 0) → BindingOf N → Type 0
BindingNames P b = P b.meta.name × BoundNames P b.bound
