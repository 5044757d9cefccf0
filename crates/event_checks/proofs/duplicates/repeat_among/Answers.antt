use Rattle.std.proofs.Common.{◌++◌, ◌+◌, ◌∷◌, List, [], drop, ap, sym, ◌∙◌}
use Rattle.std.specs.List.{list_any}
use Rattle.std.specs.Str.{bytes_eq}
use Rattle.grammar_model.specs.Checks.{first_repeat}
use Rattle.grammar_model.specs.Terminal.{Text}
use Rattle.parse_events.specs.declared.event.Declaration.{Declaration}
use Rattle.event_checks.specs.Lists.{declared}
use Rattle.event_checks.proofs.Lists.{drop_here}
use Rattle.event_checks.proofs.Repeats.{repeat_here, repeat_more}
use Rattle.event_checks.proofs.duplicates.repeat_among.Goals as goal

pub returns-then-branch : goal.returns-then-branch
returns-then-branch c = λ rest.
    let names = c.loop-declaration.names in
    let ds = c.args.declarations.now in
    let i = c.loop-declaration.declaration-index in
    let d = c.declaration-item.result in
    c.loop-declaration.invariant rest ∙
    ap (λ (ds : List Declaration). first_repeat names (declared ds ++ rest)) (drop_here ds i d c.loop-declaration-test.true c.declaration-item.is) ∙
    repeat_here names (record { name = d.name; from = d.from }) (declared (drop (i + 1) ds) ++ rest)
    (sym c.if-branch.true ∙ c.in_ok-is_repeat.ensures.0 ∙ ap (λ (t : Text). list_any (bytes_eq t) names) c.as_slice.ensures)

pub loop-declaration-preserved : goal.loop-declaration-preserved
loop-declaration-preserved c = λ rest.
    let names = c.loop-declaration.names in
    let ds = c.args.declarations.now in
    let i = c.loop-declaration.declaration-index in
    let d = c.declaration-item.result in
    c.loop-declaration.invariant rest ∙
    ap (λ (ds : List Declaration). first_repeat names (declared ds ++ rest)) (drop_here ds i d c.loop-declaration-test.true c.declaration-item.is) ∙
    repeat_more names c.is_repeat.new.names (record { name = d.name; from = d.from }) (declared (drop (i + 1) ds) ++ rest)
    (sym c.if-branch.false ∙ c.in_ok-is_repeat.ensures.0 ∙ ap (λ (t : Text). list_any (bytes_eq t) names) c.as_slice.ensures)
    (c.in_ok-is_repeat.ensures.1 c.if-branch.false ∙ ap (λ (t : Text). names ++ t ∷ []) c.as_slice.ensures)
