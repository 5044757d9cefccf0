use Rattle.std.proofs.Common.{◌<◌, ◌≤◌, ◌+◌, ℕ, ◌++◌, Bool, List, [], cond, length, drop, append_assoc, sym, ap, ◌∙◌, arith}
use Rattle.std.specs.List.{flat_map, enumerate_from}
use Rattle.std.proofs.lemmas.List.{append-nil, drop_all}
use Rattle.class_table.specs.declared.record.DoIt.{DoIt}
use Rattle.class_table.specs.View.{doit_of, number_image}
use Rattle.refusal_witnesses.specs.Witnesses.{WitnessOf}
use Rattle.witness_lists.specs.Views.{shown}
use Rattle.use_witnesses.specs.Uses.{body_uses, doit_uses}
use Rattle.use_witnesses.proofs.Numbered.{mapped-numbered, more-numbered}
use Rattle.use_witnesses.proofs.uses.uses_in_doits.Goals as goal

pub loop-number-preserved : goal.loop-number-preserved
loop-number-preserved g c =
    let s = c.args.image.now in
    let u = c.args.sought.now in
    let k = c.loop-number.number in
    let f : ℕ × DoIt → List (WitnessOf ℕ) = λ e. body_uses s u (e.0, doit_of e.1) in
    let within : k < length s.doits = omega (arith, c.loop-number-test.true, c.doits.ensures) in
    let behind : List (WitnessOf ℕ) = flat_map f (enumerate_from (k + 1) (drop (k + 1) s.doits)) in
    ap (λ (ws : List (WitnessOf ℕ)). ws ++ behind) c.in_ok-doit_uses.ensures
    ∙ append_assoc (shown s c.loop-number.found.items) (doit_uses s u k) behind
    ∙ ap (λ (ws : List (WitnessOf ℕ)). shown s c.loop-number.found.items ++ ws) (more-numbered f s.doits k within)
    ∙ c.loop-number.invariant

pub returns : goal.returns
returns g c =
    let s = c.args.image.now in
    let u = c.args.sought.now in
    let k = c.loop-number.number in
    let f : ℕ × DoIt → List (WitnessOf ℕ) = λ e. body_uses s u (e.0, doit_of e.1) in
    let over : length s.doits ≤ k = omega (arith, c.loop-number-test.false, c.doits.ensures) in
    sym (append-nil (shown s c.loop-number.found.items))
    ∙ sym (ap (λ (ds : List DoIt). shown s c.loop-number.found.items ++ flat_map f (enumerate_from k ds)) (drop_all k s.doits over))
    ∙ c.loop-number.invariant
    ∙ ap (λ (ws : List (WitnessOf ℕ)). shown s c.args.found.now.items ++ ws) (mapped-numbered (body_uses s u) doit_of 0 s.doits)
    ∙ ap (λ (b : Bool). shown s c.args.found.now.items ++ cond b (flat_map (body_uses s u) (enumerate_from 0 (number_image s).doits)) []) (sym c.if-not-are_doits_asked.false ∙ c.are_doits_asked.ensures)
