use Rattle.std.proofs.Common.{◌∙◌, arith}
use Rattle.std.proofs.lemmas.Result.{IfOk-weaker}
use Rattle.rb_base.specs.Names.{name_at}
use Rattle.script_lang.proofs.PassedLiterals.{one-statement, no-statement}
use Rattle.script_lang.proofs.parameters.only_literal.Goals.{in_default-via-then-statements-lt1, in_default-via-else-statements-lt1+else-statements-lt2}
use Rattle.script_lang.proofs.parameters.only_literal.Goals as goal

pub returns-in_default-clause-literal : goal.returns-in_default-clause-literal
returns-in_default-clause-literal c =
    elim c.in_default.branch [
      | in_default-via-then-statements-lt1 w ↦ no-statement (name_at c.args.names.now) c.args.statements.now (λ e. grind (arith, e))
      | in_default-via-else-statements-lt1+else-statements-lt2 w ↦ no-statement (name_at c.args.names.now) c.args.statements.now (λ e. grind (arith, e))
    ]

pub returns-clause-literal : goal.returns-clause-literal
returns-clause-literal c =
    IfOk-weaker c.literal_of.result _ _ (λ o is. is ∙ one-statement (name_at c.args.names.now) c.args.statements.now c.only-item.result (omega (arith, c.in-len1.len_at_least, c.in-len1.len_below)) c.only-item.is)
    c.literal_of.ensures.literal
