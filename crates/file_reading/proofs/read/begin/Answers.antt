use Rattle.file_reading.proofs.Taking.{was_begun}
use Rattle.file_reading.proofs.read.begin.Goals as goal

pub returns-clause-sound : goal.returns-clause-sound
returns-clause-sound c =
    (was_begun c.args.reading.names c.args.reading.draft c.requires (record c.args.reading.draft { value = c.begin_file.new.self }) (rw c.deref_mut.ensures.value at c.begin_file.ensures.image) c.begin_file.ensures.run c.begin_file.ensures.head c.begin_file.ensures.places c.begin_file.ensures.whole).0

pub returns-clause-filed : goal.returns-clause-filed
returns-clause-filed c =
    (was_begun c.args.reading.names c.args.reading.draft c.requires (record c.args.reading.draft { value = c.begin_file.new.self }) (rw c.deref_mut.ensures.value at c.begin_file.ensures.image) c.begin_file.ensures.run c.begin_file.ensures.head c.begin_file.ensures.places c.begin_file.ensures.whole).1
