use Rattle.std.proofs.Common.{refl}
use Rattle.chunk_format.proofs.Sources.{IsSource-shown}
use Rattle.chunk_format.proofs.source.source_in.Goals as goal

pub returns : goal.returns
returns c =
    let chunk = c.args.chunk.now in
    let shown = IsSource-shown chunk.doubled chunk.body.now c.fill_room.new.room c.args.room.now c.source_from.result.now c.requires.doubled c.in_ok-fill_room.ensures.ok c.source_from.ensures in (
      (refl, λ _. tt, shown.0),
      record { room = tt; source = shown.1; no_memory = λ _. refl },
    )
