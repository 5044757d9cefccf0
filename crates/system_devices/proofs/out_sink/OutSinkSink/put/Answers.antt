-- What the writer took goes from the rest to what is sent.
use Rattle.std.proofs.Common.{◌++◌, take}
use Rattle.std.proofs.KnownBytes.{Appends-trans}
use Rattle.system_devices.proofs.Known.{moves_front}
use Rattle.system_devices.proofs.out_sink.OutSinkSink.put.Goals as goal

pub loop-rest-preserved : goal.loop-rest-preserved
loop-rest-preserved g c =
    let (done, split, appended) = c.loop-rest.invariant.sent in
    record {
      faults = c.loop-rest.invariant.faults;
      sent = (done ++ take c.in-Ok.count c.loop-rest.rest.now, moves_front _ done _ c.in-Ok.count split, Appends-trans _ _ _ _ _ appended c.in-Ok.ensures.bytes);
    }
