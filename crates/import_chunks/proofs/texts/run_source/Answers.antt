use Rattle.import_chunks.proofs.Written.{run_joined}
use Rattle.import_chunks.proofs.texts.run_source.Goals as goal

pub returns : goal.returns
returns c =
    run_joined (record { class = c.args.class.now; meta = c.args.meta; protocol = c.args.protocol.now }) c.in_ok-source.source c.push_slice.new.self c.write_argument.new.out c.side_of.result.now
    c.in_ok-source.ensures c.side_of.ensures c.in_ok-push_slice.ensures.ok c.in_ok-write_argument.ensures
