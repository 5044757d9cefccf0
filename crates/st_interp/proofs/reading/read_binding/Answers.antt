use Rattle.std.proofs.lemmas.Result.{IfOk-weaker}
use Rattle.st_meaning.specs.StoreView.{store_of}
use Rattle.st_interp.proofs.Naming.{read_cell}
use Rattle.st_interp.proofs.reading.read_binding.Goals as goal

pub returns-in-InCell : goal.returns-in-InCell
returns-in-InCell c =
    IfOk-weaker c.cell.result _ _ (λ v h names i f n. read_cell _ _ _ _ i f n (store_of names c.args.store.now) c.binding.view_is c.in-InCell.is (h names)) c.cell.ensures
