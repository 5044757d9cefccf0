use Rattle.std.proofs.Common.{◌≡◌, ℕ, ◌<◌, List, [], ◌∷◌, ◌++◌, map, Vec, Global, sym, ap, subst, ◌∙◌, arith, rules}
use Rattle.std.specs.Prelude.{option_map, OnOk}
use Rattle.std.proofs.lemmas.Grind.{common_steps}
use Rattle.tree_model.specs.Tree.{TreeOf}
use Rattle.tree_model.specs.Measure.{height}
use Rattle.tree_model.specs.Nodes.{Placed}
use Rattle.pattern_model.specs.Patterns.{PatternOf}
use Rattle.pattern_model.specs.MatchTree.{PlaceOf}
use Rattle.pattern_model.specs.Search.{searched_in, found_among, found}
use Rattle.pattern_match.specs.declared.standing.Place.{Place}
use Rattle.pattern_match.specs.Gathering.{place_of, kept}
use Rattle.pattern_match.specs.Parts.{placed_parts, parts_height, searched_height, onward}
use Rattle.pattern_match.specs.Words.{number_words}
use Rattle.pattern_match.proofs.Searched.{part_low, place_low, part_more, place_more, parts_kept, lower_match, found_none, found_some, path_first, on_ok, match_parts}
use Rattle.pattern_match.proofs.searching.+finding.Goals as goal

pub search_places-search_parts-requires : goal.search_places-search_parts-requires
search_places-search_parts-requires t c =
    (omega (arith, place_low c.args.places.now c.loop-place.place-index c.place-item.result c.loop-place-test.true c.place-item.is, ap parts_height c.deref.ensures.value), tt)

pub search_places-loop-place-preserved : goal.search_places-loop-place-preserved
search_places-loop-place-preserved t c =
    let l = c.loop-place in
    place_more (found (number_words c.args.names.now) c.args.pattern.now) c.args.path.now c.args.places.now c.place-item.result l.place-index l.out.items c.search_parts.new.out.items _ c.loop-place-test.true c.place-item.is
    (first_of (search rules, cc)) l.invariant

pub search_parts-search_node-requires : goal.search_parts-search_node-requires
search_parts-search_node-requires t c = (omega (arith, part_low c.args.parts.now c.loop-part.part-index c.part-item.result c.loop-part-test.true c.part-item.is), tt)

pub search_parts-loop-part-preserved : goal.search_parts-loop-part-preserved
search_parts-loop-part-preserved t c =
    let l = c.loop-part in
    part_more (found (number_words c.args.names.now) c.args.pattern.now) c.args.path.now c.args.parts.now c.part-item.result l.part-index l.out.items c.search_node.new.out.items _ c.loop-part-test.true c.part-item.is
    (first_of (search rules, grind (arith, common_steps), cc)) l.invariant

pub search_match-returns-in_default : goal.search_match-returns-in_default
search_match-returns-in_default t c =
    let f : TreeOf ℕ → List (List ℕ) = found (number_words c.args.names.now) c.args.pattern.now in
    let old : List (List ℕ) = c.args.out.now.items in
    let new : List (List ℕ) = c.search_places.new.out.items in
    on_ok c.search_places.result (new ≡ old ++ onward c.args.path.now (found_among f (placed_parts c.args.places.now)))
    ((xs : List (PlaceOf ℕ)) → map place_of c.args.places.now ≡ map (kept []) xs → new ≡ old ++ onward c.args.path.now (found_among f (searched_in c.args.pattern.now c.args.node.now xs)))
    (λ h xs e.
    h
    ∙ ap (λ (es : List (Placed ℕ)). old ++ onward c.args.path.now (found_among f es))
    (parts_kept c.args.places.now xs e ∙ sym (match_parts c.pattern.inside.kind c.args.node.now xs c.in_default.not-Meta) ∙ ap (λ (p : PatternOf ℕ). searched_in p c.args.node.now xs) c.pattern.view_is))
    c.search_places.ensures

pub search_node-search_match-requires : goal.search_node-search_match-requires
search_node-search_match-requires t c =
    let names : List (List ℕ) = c.args.names.now in
    let m = found_some names c.args.pattern.now c.args.node.now c.in-Some.places.items (ap (option_map (λ (ps : Vec Place Global). map place_of ps.items)) (sym c.in-Some.is) ∙ c.in_ok-match_places.ensures) in (
      omega arith,
      subst (λ (ps : List Place). searched_height c.args.pattern.now ps < height c.args.node.now) (sym c.deref.ensures.value)
          (lower_match names c.args.pattern.now c.args.node.now c.in-Some.places.items m.0 m.1.matched m.1.placed),
    )

pub search_node-returns-in-None : goal.search_node-returns-in-None
search_node-returns-in-None t c =
    let names : List (List ℕ) = c.args.names.now in
    subst (λ (z : List (List ℕ)). OnOk c.search_below.result (c.search_below.new.out.items ≡ c.args.out.now.items ++ onward c.args.path.now z))
    (sym (found_none names c.args.pattern.now c.args.node.now (ap (option_map (λ (ps : Vec Place Global). map place_of ps.items)) (sym c.in-None.is) ∙ c.in_ok-match_places.ensures)))
    c.search_below.ensures

pub search_node-returns-in_ok-push-in-Some : goal.search_node-returns-in_ok-push-in-Some
search_node-returns-in_ok-push-in-Some t c =
    let names : List (List ℕ) = c.args.names.now in
    let p : PatternOf ℕ = c.args.pattern.now in
    let f : TreeOf ℕ → List (List ℕ) = found (number_words names) p in
    let old : List (List ℕ) = c.args.out.now.items in
    let mid : List (List ℕ) = c.push.new.self.items in
    let new : List (List ℕ) = c.search_match.new.out.items in
    let m = found_some names p c.args.node.now c.in-Some.places.items (ap (option_map (λ (ps : Vec Place Global). map place_of ps.items)) (sym c.in-Some.is) ∙ c.in_ok-match_places.ensures) in
    let here : mid ≡ old ++ c.args.path.now ∷ [] = first_of (search rules, cc) in
    on_ok c.search_match.result
    ((xs : List (PlaceOf ℕ)) → map place_of c.deref.result.now ≡ map (kept []) xs → new ≡ mid ++ onward c.args.path.now (found_among f (searched_in p c.args.node.now xs)))
    (new ≡ old ++ onward c.args.path.now (found (number_words names) p c.args.node.now))
    (λ h.
    path_first c.args.path.now old mid new (found_among f (searched_in p c.args.node.now m.0)) here (h m.0 (ap (map place_of) c.deref.ensures.value ∙ m.1.placed))
    ∙ ap (λ (z : List (List ℕ)). old ++ onward c.args.path.now z) (sym m.1.finds))
    c.search_match.ensures
