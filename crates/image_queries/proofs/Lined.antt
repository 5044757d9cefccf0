-- The lines of marked nodes are those of the nodes that are asked for.
use Rattle.std.proofs.Common.{◌≡◌, ℕ, Bool, true, false, cond, ◌&&◌, if◌then◌else◌, List, [], ◌∷◌, ◌++◌, append_assoc, map, refl, sym, ap, subst, ◌∙◌, true≢false}
use Rattle.std.specs.Prelude.{filter}
use Rattle.std.specs.List.{AllByRecursion}
use Rattle.tree_model.specs.Tree.{TreeOf, map_names}
use Rattle.tree_model.specs.Nodes.{Placed, map_placed}
use Rattle.image_model.specs.Image.{ImageOf}
use Rattle.image_model.specs.Nodes.{Place, Use, NodeOf}
use Rattle.image_model.specs.Uses.{places}
use Rattle.event_spans.specs.declared.search.NodeSpan.{NodeSpan}
use Rattle.event_spans.specs.Answers.{of_span}
use Rattle.grammar_model.specs.Spans.{Span}
use Rattle.query_model.specs.Lines.{Text, StandsAt, title, node_line, AreLines, no_lines, one_line}
use Rattle.image_queries.specs.Marks.{marked_lines}
use Rattle.image_queries.proofs.KnownNames.{answers}
use Rattle.image_queries.proofs.Places.{span_paths, node_paths}

module _ (i : ImageOf Text) where
  -- the lines of no node, before others
  pub lines-append : (us vs : List Use) (a b : Text) → AreLines i us a → AreLines i vs b → AreLines i (us ++ vs) (a ++ b)
  lines-append us vs a b no_lines m = m
  lines-append us vs a b (one_line {u} {us = rest} {text} span stands l) m =
      subst (AreLines i (u ∷ (rest ++ vs))) (sym (append_assoc (node_line (title i u.place) span) text b)) (one_line span stands (lines-append rest vs text b l m))

  module _ (place : Place) (owner : Text) (is_title : title i place ≡ owner) (asked : NodeOf Text → Bool) (mark : TreeOf ℕ → Bool) (meant : List ℕ → Bool) (f : ℕ → Text) where
    -- a node of the place
    abbrev node : Placed Text → NodeOf Text
    node e = record { use_of = record { place = place; path = e.0 }; tree = e.1 }

    -- one more node, which has a line or not
    step : (path : List ℕ) (span : Span) (us : List Use) (text : Text) → StandsAt i place path span → AreLines i us text → (b c : Bool) → b ≡ c
        → AreLines i (cond b (record { place = place; path = path } ∷ us) us) ((if c then node_line owner span else []) ++ text)
    step path span us text stands l true true e =
        subst (λ (t : Text). AreLines i (record { place = place; path = path } ∷ us) (node_line t span ++ text)) is_title (one_line span stands l)
    step path span us text stands l true false e = absurd (true≢false e)
    step path span us text stands l false true e = absurd (true≢false (sym e))
    step path span us text stands l false false e = l

    -- the places of the nodes that are left, with one more or without it
    places-cond : (b : Bool) (e : NodeOf Text) (es : List (NodeOf Text)) → places (cond b (e ∷ es) es) ≡ cond b (e.use_of ∷ places es) (places es)
    places-cond true e es = refl
    places-cond false e es = refl

    -- all lines
    pub lined : (ns : List (Placed ℕ)) (es : List NodeSpan) → span_paths es ≡ node_paths ns
        → AllByRecursion (λ (e : NodeSpan). StandsAt i place e.path (of_span e.span)) es
        → AllByRecursion (λ (n : Placed ℕ). asked (record { use_of = record { place = place; path = n.0 }; tree = map_names f n.1 }) ≡ (mark n.1 && meant n.0)) ns
        → AreLines i (places (filter asked (map node (map_placed f ns)))) (marked_lines meant owner es (answers mark ns))
    lined [] [] p stand test = no_lines
    lined [] (e ∷ es) p stand test = absurd (cc)
    lined (n ∷ ns) [] p stand test = absurd (cc)
    lined (n ∷ ns) (e ∷ es) p stand test =
        let same : e.path ≡ n.0 = cc in
        let others : span_paths es ≡ node_paths ns = cc in
        subst (λ (us : List Use). AreLines i us (marked_lines meant owner (e ∷ es) (answers mark (n ∷ ns)))) (sym (places-cond (asked (node (n.0, map_names f n.1))) (node (n.0, map_names f n.1)) (filter asked (map node (map_placed f ns)))))
        (step n.0 (of_span e.span) (places (filter asked (map node (map_placed f ns)))) (marked_lines meant owner es (answers mark ns))
        (subst (λ (path : List ℕ). StandsAt i place path (of_span e.span)) same stand.0)
        (lined ns es others stand.1 test.1)
        (asked (node (n.0, map_names f n.1))) (mark n.1 && meant e.path) (test.0 ∙ ap (λ (path : List ℕ). mark n.1 && meant path) (sym same)))
