use Rattle.std.proofs.Common.{sym, ◌∙◌, ap, find}
use Rattle.std.proofs.lemmas.List.{take_all}
use Rattle.std.specs.Option.{option_map}
use Rattle.rb_base.specs.Names.{text_eq}
use Rattle.script_lang.proofs.Verbs.{first-here, none-yet}
use Rattle.script_lang.proofs.verb.find_verb.Goals as goal

pub returns-then-same_text : goal.returns-then-same_text
returns-then-same_text c = record { is = sym (ap (option_map (λ r. r.1)) (first-here _ c.args.rows.now c.loop-text.text-index _ c.loop-text-test.true c.loop-text.invariant (sym c.same_text.ensures ∙ c.if-same_text.true))) }

pub loop-text-preserved : goal.loop-text-preserved
loop-text-preserved c = none-yet _ c.args.rows.now c.loop-text.text-index _ c.loop-text-test.true c.loop-text.invariant (sym c.same_text.ensures ∙ c.if-same_text.false)

pub returns : goal.returns
returns c = record {
  is = ap (option_map (λ r. r.1)) (sym c.loop-text.invariant) ∙ ap (λ rs. option_map (λ r. r.1) (find (λ r. text_eq c.args.word.now r.0.now) rs)) (take_all c.loop-text.text-index c.args.rows.now c.loop-text-test.false);
}
