use Rattle.std.proofs.Common.{◌≡◌, sym, ◌∙◌, subst}
use Rattle.std.specs.Prelude.{IfOk}
use Rattle.st_events.proofs.Unquoted.{singled-none}
use Rattle.st_events.proofs.texts.singled.Goals as goal

pub returns-then-not-contains : goal.returns-then-not-contains
returns-then-not-contains c =
    subst (λ s. IfOk c.from_slice.result (λ text. text ≡ s)) (sym (singled-none 39 c.args.bytes.now (sym c.contains.ensures.value ∙ c.if-not-contains.true))) c.from_slice.ensures
