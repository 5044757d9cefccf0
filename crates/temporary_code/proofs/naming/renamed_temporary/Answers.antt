use Rattle.std.proofs.Common.{◌<◌, length}
use Rattle.std.proofs.lemmas.Result.{IfOk-weaker}
use Rattle.st_tree.specs.View.{method_of}
use Rattle.temporary_code.specs.declared.naming.Naming.{Naming}
use Rattle.temporary_code.proofs.NamesKept.{normal-known}
use Rattle.temporary_code.proofs.naming.renamed_temporary.Goals as goal

pub returns-clause-known : goal.returns-clause-known
returns-clause-known c =
    let it : Naming = record { method = c.args.method; names = c.args.names; variable = c.args.variable; to = c.args.to } in
    IfOk-weaker c.normalized.result _ _
    (λ after is new known. normal-known (λ n. n < length c.args.names.now) it new (method_of c.in_ok-after.after) (method_of after) is c.in_ok-after.ensures known)
    c.normalized.ensures
