use Rattle.std.proofs.Common.{◌<◌, ◌+◌, ℕ, ◌++◌, List, length, map, drop, append_assoc, ap, ◌∙◌, arith}
use Rattle.std.specs.List.{flat_map, enumerate_from}
use Rattle.class_table.specs.View.{doit_of}
use Rattle.refusal_witnesses.specs.Witnesses.{WitnessOf}
use Rattle.witness_lists.specs.Views.{shown}
use Rattle.witness_lists.specs.Walks.{doit_found, numbered_found}
use Rattle.witness_lists.proofs.Gathered.{doits_more}
use Rattle.witness_lists.proofs.code.sought_in_doits.Goals as goal

pub loop-number-preserved : goal.loop-number-preserved
loop-number-preserved g c =
    let s = c.args.image.now in
    let x = c.args.sought.now in
    let k = c.loop-number.number in
    let within : k < length s.doits = omega (arith, c.loop-number-test.true, c.doits.ensures) in
    let behind : List (WitnessOf ℕ) = flat_map (numbered_found s.names x) (enumerate_from (k + 1) (map doit_of (drop (k + 1) s.doits))) in
    ap (λ (ws : List (WitnessOf ℕ)). ws ++ behind) c.in_ok-number_witnesses.ensures
    ∙ append_assoc (shown s c.loop-number.found.items) (doit_found s x k) behind
    ∙ ap (λ (ws : List (WitnessOf ℕ)). shown s c.loop-number.found.items ++ ws) (doits_more s x k within)
    ∙ c.loop-number.invariant
