use Rattle.std.proofs.Common.{◌≡◌, ◌≤◌, ◌++◌, ℕ, [], length, take, drop, nat_eq, Option, sym, ap, subst, ◌∙◌}
use Rattle.std.specs.Prelude.{unwrap_or}
use Rattle.file_laws.specs.Settling as settling
use Rattle.image_draft.proofs.Passed.{passed_from, place_within}
use Rattle.image_draft.proofs.order.first_place.Goals as goal

pub returns-clause-within : goal.returns-clause-within
returns-clause-within c =
    subst (λ (k : ℕ). k ≤ length c.args.classes.now) (sym (c.unwrap_or.ensures ∙ ap (λ (o : Option ℕ). unwrap_or o 0) c.place.ensures)) (place_within c.args.name c.args.classes.now)

pub returns-clause-before : goal.returns-clause-before
returns-clause-before c = λ above.
    subst (λ (k : ℕ). take k c.args.classes.now ++ settling.passed nat_eq c.args.name above [] (drop k c.args.classes.now) ≡ settling.passed nat_eq c.args.name above [] c.args.classes.now)
    (sym (c.unwrap_or.ensures ∙ ap (λ (o : Option ℕ). unwrap_or o 0) c.place.ensures)) (passed_from c.args.name above c.args.classes.now)
