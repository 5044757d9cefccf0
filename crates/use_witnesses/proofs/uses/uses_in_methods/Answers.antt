use Rattle.std.proofs.Common.{◌≡◌, ◌<◌, ◌≤◌, ◌+◌, ℕ, ◌++◌, List, length, drop, append_assoc, sym, ap, ◌∙◌, arith}
use Rattle.std.specs.List.{flat_map, enumerate_from}
use Rattle.std.proofs.lemmas.List.{append-nil, drop_all}
use Rattle.refusal_witnesses.specs.Witnesses.{WitnessOf}
use Rattle.witness_lists.specs.Views.{shown}
use Rattle.use_witnesses.specs.Uses.{entry_uses, method_uses, slot_uses}
use Rattle.use_witnesses.proofs.Numbered.{methods-numbered, more-numbered}
use Rattle.use_witnesses.proofs.uses.uses_in_methods.Goals as goal

pub loop-number-preserved : goal.loop-number-preserved
loop-number-preserved g c =
    let s = c.args.image.now in
    let u = c.args.sought.now in
    let k = c.loop-number.number in
    let order : length c.methods.result.now ≡ length s.method_order = ap length c.methods.ensures.value in
    let within : k < length s.method_order = omega (arith, c.loop-number-test.true, order) in
    let behind : List (WitnessOf ℕ) = flat_map (slot_uses s u) (enumerate_from (k + 1) (drop (k + 1) s.method_order)) in
    ap (λ (ws : List (WitnessOf ℕ)). ws ++ behind) c.in_ok-method_uses.ensures
    ∙ append_assoc (shown s c.loop-number.found.items) (method_uses s u k) behind
    ∙ ap (λ (ws : List (WitnessOf ℕ)). shown s c.loop-number.found.items ++ ws) (more-numbered (slot_uses s u) s.method_order k within)
    ∙ c.loop-number.invariant

pub returns : goal.returns
returns g c =
    let s = c.args.image.now in
    let u = c.args.sought.now in
    let k = c.loop-number.number in
    let order : length c.methods.result.now ≡ length s.method_order = ap length c.methods.ensures.value in
    let over : length s.method_order ≤ k = omega (arith, c.loop-number-test.false, order) in
    sym (append-nil (shown s c.loop-number.found.items))
    ∙ sym (ap (λ (ks : List ℕ). shown s c.loop-number.found.items ++ flat_map (slot_uses s u) (enumerate_from k ks)) (drop_all k s.method_order over))
    ∙ c.loop-number.invariant
    ∙ ap (λ (ws : List (WitnessOf ℕ)). shown s c.args.found.now.items ++ ws) (methods-numbered s c.requires (entry_uses s u))
