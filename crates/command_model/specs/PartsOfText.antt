-- The part of a method that stands at a place of its source, found among all parts of its tree.
use Rattle.std.specs.Prelude.{ℕ, ◌+◌, ◌-◌, ◌==◌, Bool, false, ◌&&◌, nat_le, if◌then◌else◌, List, [], ◌∷◌, ◌++◌, map, find, flat_map, Option, Some, None, option_map, option_and_then, ◌⊎◌}
use Rattle.std.specs.List.{range_with_len}
use Rattle.std.specs.Option.{option_map_or}
use Rattle.std.proofs.Common.{inl, inr}
use Rattle.token_model.specs.declared.kind.Dialect.TheVariants.{Second}
use Rattle.tree_model.specs.Tree.{MethodOf}
use Rattle.tree_model.specs.Path.{count}
use Rattle.tree_model.specs.Nodes.{nodes}
use Rattle.grammar_model.specs.Whole.{Method}
use Rattle.grammar_model.specs.Checks.{Fault}
use Rattle.grammar_model.specs.Spanned.{SpannedTrees, SpannedSequence, SpannedMethod, plain_trees, plain_sequence}
use Rattle.grammar_model.specs.Spans.{begin_of, end_of, spanned_nth, Span, span_at, statements_at}
use Rattle.grammar_model.specs.Spelling.{SpellsMethod, HasFirstFault}
use Rattle.grammar_model.proofs.Texts.{method_or_fault}
use Rattle.command_model.specs.Parts.{Part, Expression, Run}
use Rattle.command_model.specs.Located.{Locating}

-- from the first byte of the first one of so many nodes up to the place behind the last one, where they are two or more
abbrev pub run_span : SpannedTrees → (first count : ℕ) → Option Span
run_span ts first count =
    if nat_le 2 count
    then option_and_then (λ head. option_map (λ last. record { from = begin_of head; to = end_of last }) (spanned_nth ts (first + count - 1))) (spanned_nth ts first)
    else None

-- where a part stands
abbrev pub span_of_part : SpannedSequence → Part → Option Span
span_of_part s (Expression path) = span_at s path
span_of_part s (Run path first count) = option_and_then (λ ts. run_span ts first count) (statements_at s path)

-- the paths of all nodes
abbrev pub node_paths : SpannedSequence → List (List ℕ)
node_paths s = map (λ e. e.0) (nodes (plain_sequence s))

-- two or more neighbouring ones of so many statements: each first one, with each number of them
abbrev pub runs_among : List ℕ → ℕ → List Part
runs_among path number = flat_map (λ first. map (Run path first) (range_with_len 2 number)) (range_with_len 0 number)

-- those of the statements where a path leads
abbrev pub runs_at : SpannedSequence → List ℕ → List Part
runs_at s path = option_map_or (λ ts. runs_among path (count (plain_trees ts))) (statements_at s path) []

-- all parts: the nodes, and neighbouring statements of the sequence and of its blocks
abbrev pub parts_in : SpannedSequence → List Part
parts_in s = map Expression (node_paths s) ++ flat_map (runs_at s) ([] ∷ node_paths s)

-- whether a span is this one
abbrev pub is_span : Span → Span → Bool
is_span x y = x.from == y.from && x.to == y.to

-- whether a part has the span
abbrev pub stands_at : SpannedSequence → Span → Part → Bool
stands_at s span part = option_map_or (is_span span) (span_of_part s part) false

-- the part with the span
abbrev pub part_with : SpannedSequence → Span → Option Part
part_with s span = find (stands_at s span) (parts_in s)

-- the tree of a source that spells a user's method, with the places of its parts
abbrev pub tree_told : (source : List ℕ) → ((tree : MethodOf (List ℕ)) × SpellsMethod Second false source tree) ⊎ ((fault : Fault) × HasFirstFault Second (Method false) source fault) → Option SpannedMethod
tree_told source (inl (tree, spells)) = Some spells.spanned
tree_told source (inr (fault, has)) = None

-- the part from one place of a source up to another; each source spells a method or has a fault, and the grammar tells which
unfoldable pub parts_of_text : Locating
parts_of_text source from to =
    option_and_then (λ (m : SpannedMethod). part_with m.body (record { from = from; to = to })) (tree_told source (method_or_fault Second false source))
