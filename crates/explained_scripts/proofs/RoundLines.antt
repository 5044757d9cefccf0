-- The lines of the nodes that stand round two offsets.
use Rattle.std.proofs.Common.{◌≡◌, ℕ, Bool, true, false, cond, List, [], ◌∷◌, ◌++◌, map, Some, sym, ap, subst}
use Rattle.std.specs.Prelude.{not, filter}
use Rattle.std.specs.List.{AllByRecursion}
use Rattle.std.specs.Option.{option_map_or}
use Rattle.token_model.specs.declared.kind.Dialect.TheVariants.{Second}
use Rattle.grammar_model.specs.Spanned.{SpannedMethod}
use Rattle.grammar_model.specs.Spans.{span_at}
use Rattle.grammar_model.specs.Spelling.{SpellsMethodAt}
use Rattle.image_model.specs.Image.{EntryOf, ImageOf}
use Rattle.query_model.specs.Lines.{Text, node_line}
use Rattle.event_spans.specs.declared.search.NodeSpan.{NodeSpan}
use Rattle.event_spans.specs.Answers.{of_span, sequence_spans}
use Rattle.image_queries.proofs.Places.{span_paths, sequence_paths, spans_stand}
use Rattle.refusal_witnesses.specs.Witnesses.{InMethod, a_node}
use Rattle.refusal_witnesses.specs.Lines.{IsLine, AreLines, no_lines, more_lines, part_line}
use Rattle.why_model.specs.Explained.{reaches_round, round_paths, AreRound}
use Rattle.explained_scripts.specs.Lines.{round_texts, IsTitled}

module _ (i : ImageOf Text) (m : EntryOf Text) (title source : Text) (titled : IsTitled m title source) (tree : SpannedMethod) (spells : SpellsMethodAt Second false source tree) (from to : ℕ) where
  -- whether a node stands round both
  abbrev test : List ℕ → Bool
  test path = option_map_or (reaches_round from to) (span_at tree.body path) false

  -- one more node, which is told or not
  step : (e : NodeSpan) (paths : List (List ℕ)) (texts : List Text) (at : span_at tree.body e.path ≡ Some (of_span e.span)) → AreLines i (map (a_node (InMethod m)) paths) texts
      → (b c : Bool) → b ≡ c → AreLines i (map (a_node (InMethod m)) (cond b (e.path ∷ paths) paths)) (cond c (node_line title (of_span e.span) ∷ []) [] ++ texts)
  step e paths texts at rest true true same =
      more_lines
      (subst (λ (t : Text). IsLine i (a_node (InMethod m) e.path) (node_line t (of_span e.span))) titled.title_is
      (part_line (of_span e.span) (ap not titled.users) (record { tree = tree; spells = subst (λ (t : Text). SpellsMethodAt Second false t tree) (sym titled.source_is) spells; at = at }))) rest
  step e paths texts at rest true false same = absurd (cc)
  step e paths texts at rest false true same = absurd (cc)
  step e paths texts at rest false false same = rest

  lined : (es : List NodeSpan) → AllByRecursion (λ (e : NodeSpan). span_at tree.body e.path ≡ Some (of_span e.span)) es → AreLines i (map (a_node (InMethod m)) (filter test (span_paths es))) (round_texts title from to es)
  lined [] stand = no_lines
  lined (e ∷ es) stand =
      step e (filter test (span_paths es)) (round_texts title from to es) stand.0 (lined es stand.1) (test e.path) (reaches_round from to (of_span e.span))
      (ap (λ o. option_map_or (reaches_round from to) o false) stand.0)

  pub round-there : (texts : List Text) → texts ≡ round_texts title from to (sequence_spans tree.body) → AreRound i m from to texts
  round-there texts are = record {
    tree = tree;
    spells = subst (λ (t : Text). SpellsMethodAt Second false t tree) (sym titled.source_is) spells;
    lines =
        subst (AreLines i (map (a_node (InMethod m)) (round_paths tree.body from to))) (sym are)
        (subst (λ (paths : List (List ℕ)). AreLines i (map (a_node (InMethod m)) (filter test paths)) (round_texts title from to (sequence_spans tree.body))) (sequence_paths tree.body)
        (lined (sequence_spans tree.body) (spans_stand tree.body)));
  }
