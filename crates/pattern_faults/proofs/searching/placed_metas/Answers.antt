use Rattle.std.proofs.Common.{◌≡◌, ℕ, ◌+◌, ◌++◌, [], ◌∷◌, List, map, drop, sym, ap, ◌∙◌, arith, rules}
use Rattle.std.proofs.lemmas.Grind.{common_steps}
use Rattle.patterns.specs.View.{meta_of}
use Rattle.patterns.specs.declared.tree.Meta.{Meta}
use Rattle.pattern_trees.specs.Faults.{MetaAt, at_places}
use Rattle.pattern_faults.specs.Placed.{meta_at}
use Rattle.pattern_faults.proofs.Again.{place_next, place_none, put_place}
use Rattle.pattern_faults.proofs.searching.placed_metas.Goals as goal
use Rattle.pattern_faults.proofs.searching.placed_metas.Goals.{in-Some, in-None}

pub loop-meta-preserved : goal.loop-meta-preserved
loop-meta-preserved c =
    let l = c.loop-meta in
    let m : Meta = c.meta-item.result in
    let ms : List Meta = c.args.metas.now in
    let here : MetaAt ℕ = record { meta = meta_of m; from = c.match-split_first.from.0 } in
    let others : List (MetaAt ℕ) = at_places (map meta_of (drop (l.meta-index + 1) ms)) c.match-split_first.from.1.now in
    let first : at_places (map meta_of (drop l.meta-index ms)) l.rest.now ≡ here ∷ others =
    elim c.match-split_first.branch [
      | in-Some w ↦
          let is : l.rest.now ≡ c.match-split_first.from.0 ∷ c.match-split_first.from.1.now = first_of (search rules, grind (arith, common_steps), cc) in
          place_next ms l.meta-index m c.loop-meta-test.true c.meta-item.is l.rest.now c.match-split_first.from.1.now c.match-split_first.from.0 is
      | in-None w ↦
          let none : l.rest.now ≡ [] = first_of (search rules, grind (arith, common_steps), cc) in
          let zero : c.match-split_first.from.0 ≡ 0 = first_of (search rules, grind (arith, common_steps), cc) in
          let same : c.match-split_first.from.1.now ≡ l.rest.now = first_of (search rules, grind (arith, common_steps), cc) in
          place_none ms l.meta-index m c.loop-meta-test.true c.meta-item.is l.rest.now none ∙ (λ j. record { meta = meta_of m; from = sym zero j } ∷ at_places (map meta_of (drop (l.meta-index + 1) ms)) (sym same j))
    ] in
    let more : c.push.new.self.items ≡ l.placed.items ++ record { meta = m; from = c.match-split_first.from.0 } ∷ [] = first_of (search rules, grind (arith, common_steps), cc) in
    put_place l.placed.items c.push.new.self.items (record { meta = m; from = c.match-split_first.from.0 }) others more ∙ ap (λ xs. map meta_at l.placed.items ++ xs) (sym first) ∙ l.invariant
