use Rattle.std.proofs.Common.{rules, arith, position, sym, ap, ◌∙◌}
use Rattle.derivations.specs.Signs.{sign_of, same_sign}
use Rattle.derivations.specs.declared.marks.Mark as program
use Rattle.derivations.proofs.Places.{number_is}
use Rattle.derivations.proofs.marking.number_of.Goals as goal

pub returns-in_ok-number-in-Some : goal.returns-in_ok-number-in-Some
returns-in_ok-number-in-Some c =
    number_is c.args.marks.now.first c.args.marks.now.items.items (sign_of c.args.mark.now) c.in-Some.at c.in_ok-number-in-Some.number
    (sym c.in-Some.is ∙ c.place_of.ensures ∙ ap (position (λ (x : program.Mark). same_sign (sign_of x) (sign_of c.args.mark.now))) c.deref.ensures.value)
    (search (rules, arith))
