use Rattle.std.proofs.Common.{◌≡◌, length, sym, ◌∙◌}
use Rattle.std.specs.Prelude.{vec_len}
use Rattle.std.proofs.lemmas.Bool.{eqb-true}
use Rattle.log_lang.proofs.Telling.{one-known}
use Rattle.log_lang.proofs.log.only_asked.Goals as goal

pub returns-clause-known : goal.returns-clause-known
returns-clause-known c = λ names known.
    let none : length c.pop.new.self.items ≡ 0 = sym c.pop.new.self.ok.0 ∙ eqb-true (vec_len c.pop.new.self) 0 (sym c.is_empty.ensures ∙ c.if-not-is_empty.false) in
    c.proposed_by.ensures.known names (one-known names c.args.lines.items c.pop.new.self.items c.in_ok-last.last c.in_ok-last.ensures.items none known)
