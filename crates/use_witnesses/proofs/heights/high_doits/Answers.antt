use Rattle.std.proofs.Common.{◌<◌, ◌≤◌, ◌+◌, ℕ, ◌++◌, List, length, drop, append_assoc, sym, ap, ◌∙◌, arith}
use Rattle.std.specs.List.{flat_map, enumerate_from}
use Rattle.std.proofs.lemmas.List.{append-nil, drop_all}
use Rattle.image_model.specs.Image.{DoItOf}
use Rattle.image_model.specs.Nodes.{in_doit}
use Rattle.class_table.specs.declared.record.DoIt.{DoIt}
use Rattle.class_table.specs.declared.record.Place.TheVariants as place
use Rattle.class_table.specs.View.{doit_of}
use Rattle.refusal_witnesses.specs.Witnesses.{AtPlace, WitnessOf, AWhole, where_true}
use Rattle.witness_lists.specs.Views.{shown}
use Rattle.use_witnesses.specs.Heights.{doit_high, high_at}
use Rattle.use_witnesses.proofs.Highs.{one_doit, doit-here}
use Rattle.use_witnesses.proofs.Numbered.{mapped-numbered, more-numbered}
use Rattle.use_witnesses.proofs.heights.high_doits.Goals as goal

pub loop-number-preserved : goal.loop-number-preserved
loop-number-preserved g c =
    let s = c.args.image.now in
    let l = c.args.looked.now in
    let k = c.loop-number.number in
    let within : k < length s.doits = omega (arith, c.loop-number-test.true, c.doits.ensures) in
    let behind : List (WitnessOf ℕ) = flat_map (one_doit s l) (enumerate_from (k + 1) (drop (k + 1) s.doits)) in
    ap (λ (ws : List (WitnessOf ℕ)). ws ++ behind) c.in_ok-high_at.ensures
    ∙ append_assoc (shown s c.loop-number.found.items) (high_at s l (place.DoIt k)) behind
    ∙ ap (λ (ws : List (WitnessOf ℕ)). shown s c.loop-number.found.items ++ ws) (ap (λ (ws : List (WitnessOf ℕ)). ws ++ behind) (doit-here s l k) ∙ more-numbered (one_doit s l) s.doits k within)
    ∙ c.loop-number.invariant

pub returns : goal.returns
returns g c =
    let s = c.args.image.now in
    let l = c.args.looked.now in
    let k = c.loop-number.number in
    let over : length s.doits ≤ k = omega (arith, c.loop-number-test.false, c.doits.ensures) in
    sym (append-nil (shown s c.loop-number.found.items))
    ∙ sym (ap (λ (ds : List DoIt). shown s c.loop-number.found.items ++ flat_map (one_doit s l) (enumerate_from k ds)) (drop_all k s.doits over))
    ∙ c.loop-number.invariant
    ∙ ap (λ (ws : List (WitnessOf ℕ)). shown s c.args.found.now.items ++ ws) (mapped-numbered (λ (e : ℕ × DoItOf ℕ). where_true (doit_high s l e.1) (AWhole (AtPlace (in_doit e.0)))) doit_of 0 s.doits)
