use Rattle.std.proofs.Common.{◌≡◌, ℕ, List, ◌++◌, map, append_assoc, sym, ap, ◌∙◌}
use Rattle.std.specs.Prelude.{filter, nat_eq}
use Rattle.std.proofs.lemmas.List.{map-append}
use Rattle.std.proofs.lemmas.List.Elements.{filter-append}
use Rattle.std.proofs.lemmas.Result.{on_ok_weaker}
use Rattle.refusal_witnesses.specs.Witnesses.{OwnerOf, WitnessOf, a_node}
use Rattle.witness_lists.specs.Views.{owner_of, shown}
use Rattle.part_witnesses.proofs.declarations.block_times.Goals as goal

-- a node for each time that the name is one of these
abbrev times : OwnerOf ℕ → List ℕ → ℕ → List ℕ → List (WitnessOf ℕ)
times o path x ns = map (λ y. a_node o path) (filter (nat_eq x) ns)

both-times : (o : OwnerOf ℕ) (path : List ℕ) (x : ℕ) (ps ts : List ℕ) → times o path x ps ++ times o path x ts ≡ times o path x (ps ++ ts)
both-times o path x ps ts =
    sym (ap (map (λ (y : ℕ). a_node o path)) (filter-append (nat_eq x) ps ts) ∙ map-append (λ (y : ℕ). a_node o path) (filter (nat_eq x) ps) (filter (nat_eq x) ts))

pub returns : goal.returns
returns c s =
    let o = owner_of s c.args.owner.now in
    let x = c.args.name in
    let path = c.args.path.now in
    let old = shown s c.args.found.now.items in
    let ps = c.args.parameters.now in
    let ts = c.args.temporaries.now in
    on_ok_weaker c.nodes_times-2.result
    (λ e. e
    ∙ ap (λ (ws : List (WitnessOf ℕ)). ws ++ times o path x ts) (c.in_ok-nodes_times.ensures s)
    ∙ append_assoc old (times o path x ps) (times o path x ts)
    ∙ ap (λ (ws : List (WitnessOf ℕ)). old ++ ws) (both-times o path x ps ts))
    (c.nodes_times-2.ensures s)
