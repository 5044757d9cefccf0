use Rattle.std.proofs.Common.{◌<◌, List, ℕ, length, sym, subst}
use Rattle.tree_model.specs.AllNames.{SequenceNames}
use Rattle.st_tree.specs.View.{sequence_of}
use Rattle.abstract_plans.proofs.Made.{doit-none, doit-known, doit-some}
use Rattle.abstract_plans.proofs.code.doit_change.Goals as goal

pub returns-in_default-made : goal.returns-in_default-made
returns-in_default-made g c =
    doit-none c.args.image c.args.abstraction.now c.args.number c.in-Some.old c.in-Some.ensures.body c.in_ok-made.made c.in_ok-made.ensures c.in_default-made.is

pub format_doit-requires : goal.format_doit-requires
format_doit-requires g c =
    subst (λ (names : List (List ℕ)). SequenceNames (λ n. n < length names) (sequence_of c.in-Some-made.body)) (sym c.names.ensures)
    (doit-known c.args.image c.args.abstraction.now c.args.number c.in-Some.old c.in-Some.ensures.body c.in_ok-made.made c.in_ok-made.ensures c.in-Some-made.body c.in-Some-made.is c.requires.known)

pub returns : goal.returns
returns g c =
    doit-some c.args.image c.args.abstraction.now c.args.number c.in-Some.old c.in-Some.ensures.body c.in_ok-made.made c.in_ok-made.ensures c.in-Some-made.body c.in-Some-made.is
    c.format_doit.new.out c.new-source.result c.names.result.now c.new-source.ensures c.names.ensures c.in_ok-format_doit.ensures.ok
