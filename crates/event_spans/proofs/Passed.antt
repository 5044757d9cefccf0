-- One node more is passed.
use Rattle.std.proofs.Common.{◌≡◌, ℕ, ◌+◌, ◌<◌, false, if◌then◌else◌, List, [], ◌∷◌, ◌++◌, length, get_or, drop, append_assoc, ap, sym, ◌∙◌, Some}
use Rattle.std.proofs.lemmas.List.{drop_more}
use Rattle.rb_base.specs.declared.text.Span.{Span}
use Rattle.event_spans.specs.declared.place.Place.{Place}
use Rattle.event_spans.specs.declared.search.NodeSpan.{NodeSpan}
use Rattle.event_spans.specs.Walk.{next_path, walked, is_at, node_found, listed}

module _ (path next : List ℕ) (ps : List Place) (i : ℕ) (d : Place) (inside : i < length ps) (is : next ≡ next_path (get_or ps i d).depth path) where
  -- a node without the span is passed
  pub found_behind : (span : Span) → is_at span (get_or ps i d) ≡ false → node_found span (walked path (drop i ps)) ≡ node_found span (walked next (drop (i + 1) ps))
  found_behind span other =
      let first = next_path (get_or ps i d).depth path in
      ap (λ qs. node_found span (walked path qs)) (drop_more ps i d inside) ∙
      ap (λ b. if b then Some first else node_found span (walked first (drop (i + 1) ps))) other ∙ ap (λ s. node_found span (walked s (drop (i + 1) ps))) (sym is)

  -- the path and the span of one more node are listed
  pub listed_behind : (own : List ℕ) (spans more : List NodeSpan) → own ≡ next → more ≡ spans ++ record { path = own; span = record { from = (get_or ps i d).from; to = (get_or ps i d).to } } ∷ [] →
      spans ++ listed (walked path (drop i ps)) ≡ more ++ listed (walked next (drop (i + 1) ps))
  listed_behind own spans more e m =
      let p = get_or ps i d in
      let rest = drop (i + 1) ps in
      let node : NodeSpan = record { path = own; span = record { from = p.from; to = p.to } } in
      ap (λ qs. spans ++ listed (walked path qs)) (drop_more ps i d inside) ∙ ap (λ s. spans ++ record { path = s; span = record { from = p.from; to = p.to } } ∷ listed (walked s rest)) (sym is) ∙
      ap (λ s. spans ++ record { path = s; span = record { from = p.from; to = p.to } } ∷ listed (walked next rest)) (sym e) ∙ sym (append_assoc spans (node ∷ []) (listed (walked next rest))) ∙
      ap (λ x. x ++ listed (walked next rest)) (sym m)
