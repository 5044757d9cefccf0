use Rattle.std.proofs.Common.{sym, subst}
use Rattle.std.proofs.lemmas.Result.{IfOk-weaker}
use Rattle.rb_base.specs.Names.{name_at}
use Rattle.query_model.specs.Lines.{Text}
use Rattle.refusal_witnesses.specs.Lines.{IsLine}
use Rattle.refusal_witnesses.specs.Witnesses.{InMethod, AWhole}
use Rattle.use_witnesses.specs.Brought.{as_in}
use Rattle.witness_lists.specs.declared.witness.Witness.{Witness}
use Rattle.witness_lists.specs.Views.{witness_of}
use Rattle.witness_numbers.specs.MappedWitnesses.{map_witness}
use Rattle.explained_scripts.proofs.BroughtLines.{whole-inside}
use Rattle.explained_scripts.proofs.witnesses.line_inside.Goals as goal

pub returns-in-Node : goal.returns-in-Node
returns-in-Node c =
    IfOk-weaker c.node_inside.result _ _
    (λ line h s i m titled. subst (λ (w : Witness). IsLine i (as_in m (map_witness (name_at s.names) (witness_of s w))) line) (sym c.in-Node.is) (h i m titled)) c.node_inside.ensures

pub returns-in-Whole : goal.returns-in-Whole
returns-in-Whole c =
    IfOk-weaker c.method_line.result _ _
    (λ line e s i m titled. subst (λ (w : Witness). IsLine i (as_in m (map_witness (name_at s.names) (witness_of s w))) line) (sym c.in-Whole.is)
    (subst (λ (t : Text). IsLine i (AWhole (InMethod m)) t) (sym e) (whole-inside i m c.args.title.now c.args.source.now titled))) c.method_line.ensures
