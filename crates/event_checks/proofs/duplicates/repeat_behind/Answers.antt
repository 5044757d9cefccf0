use Rattle.std.proofs.Common.{◌++◌, take, ap, ◌∙◌}
use Rattle.std.specs.List.{list_any}
use Rattle.std.specs.Str.{bytes_eq}
use Rattle.grammar_model.specs.Terminal.{Text}
use Rattle.event_checks.specs.Lists.{names_of}
use Rattle.event_checks.proofs.Repeats.{repeat_at_index, repeat_past_index}
use Rattle.event_checks.proofs.duplicates.repeat_behind.Goals as goal

pub returns-then-have_name : goal.returns-then-have_name
returns-then-have_name c = λ rest.
    c.loop-index.invariant rest ∙
    repeat_at_index c.args.first.now c.args.second.now c.loop-index.index c.index-second-index.result rest c.loop-index-test.true c.index-second-index.is
    (c.if-have_name.ensures ∙ ap (λ (t : Text). list_any (bytes_eq t) (names_of c.args.first.now ++ names_of (take c.loop-index.index c.args.second.now))) c.as_slice.ensures)

pub loop-index-preserved : goal.loop-index-preserved
loop-index-preserved c = λ rest.
    c.loop-index.invariant rest ∙
    repeat_past_index c.args.first.now c.args.second.now c.loop-index.index c.index-second-index.result rest c.loop-index-test.true c.index-second-index.is
    (c.if-have_name.ensures ∙ ap (λ (t : Text). list_any (bytes_eq t) (names_of c.args.first.now ++ names_of (take c.loop-index.index c.args.second.now))) c.as_slice.ensures)
