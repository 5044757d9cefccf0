use Rattle.std.proofs.Common.{◌≡◌, sym, ◌∙◌, suc, ◌+◌, ◌-◌, ◌≤◌, length, codes, arith}
use Rattle.std.proofs.lemmas.List.{take_all, drop_all}
use Rattle.rb_base.specs.Names.{name_at}
use Rattle.text_model.specs.Pieces.{keywords_of}
use Rattle.st_formatter.proofs.Turned.{names-turned}
use Rattle.st_formatter.proofs.Words.{items-left, length-left}
use Rattle.st_formatter.proofs.whole.write_pattern.Goals as goal

pub loop-at-init : goal.loop-at-init
loop-at-init c =
    let pieces = keywords_of c.text_of-text.result.now in
    let counted : length pieces ≤ c.max-at.result = omega arith in
    let arguments = drop_all c.max-at.result c.args.arguments.now (omega arith) in
    record {
      words = sym (take_all c.max-at.result pieces counted);
      pattern = rw (arguments, drop_all c.max-at.result pieces counted) c.in_ok-pattern.ensures;
    }

pub write_keyword-requires : goal.write_keyword-requires
write_keyword-requires c =
    let f : c.loop-at.at ≡ suc (c.loop-at.at - 1) = omega arith in
    let words = rw f at c.loop-at.invariant.words in
    let left = length-left _ _ (c.loop-at.at - 1) _ words c.count_keywords-count.ensures in
    record { last = left.0; none = left.1 }

pub loop-at-preserved : goal.loop-at-preserved
loop-at-preserved c =
    let e : c.loop-at.at ≡ c.loop-at.at - 1 + 1 = omega arith in
    let f : c.loop-at.at ≡ suc (c.loop-at.at - 1) = omega arith in
    let before = rw e at c.loop-at.invariant.pattern in
    let words = rw f at c.loop-at.invariant.words in
    let left = items-left _ _ (c.loop-at.at - 1) words in
    let turn = names-turned (codes " ") (name_at c.args.names.now) (keywords_of c.text_of-text.result.now) c.args.arguments.now (c.loop-at.at - 1) in
    record {
      words = c.in_ok-words.ensures.rest ∙ left.1;
      pattern = cc (turn, before, left.0, c.in_ok-words.ensures.text, c.in_ok-write_argument_name.ensures);
    }
