use Rattle.std.proofs.Common.{refl, rules}
use Rattle.std.proofs.lemmas.List.{map-append}
use Rattle.derivations.specs.Signs.{sign_of}
use Rattle.derivations.specs.Numbered.{table_of}
use Rattle.derivations.proofs.NamedOnce.{named_still, named_more}
use Rattle.derivations.proofs.naming.put_once.Goals as goal

pub returns-then-has_mark-clause-put : goal.returns-then-has_mark-clause-put
returns-then-has_mark-clause-put c = λ before all h.
    named_still before c.args.names.now all (sign_of c.args.mark) (table_of c.args.marks.now) h (search rules)

pub returns-clause-put : goal.returns-clause-put
returns-clause-put c = λ before all h.
    let added = c.in_ok-add_name.ensures.added in
    named_more before c.args.names.now c.add_name.new.names all (sign_of c.args.mark) (table_of c.args.marks.now) _ h (search rules) added.0 added.1 added.2 refl (search (rules, map-append))
