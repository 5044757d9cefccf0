use Rattle.std.proofs.Common.{refl, ap, ◌∙◌}
use Rattle.rb_base.specs.Names.{name_at}
use Rattle.chunk_format.specs.Chunks.{piece}
use Rattle.file_model.specs.Causes.{UnknownDefinition}
use Rattle.file_model.specs.Filing.{Text}
use Rattle.chunk_forms.specs.Told.{sent_text, first_text}
use Rattle.import_model.specs.Foreign.{first_argument}
use Rattle.import_model.specs.Steps.{InRun, changed, opened, run_source}
use Rattle.import_chunks.proofs.Taking.{Answers-same, no_run, one_run}
use Rattle.import_chunks.proofs.steps.open.Goals as goal

pub returns-in-None : goal.returns-in-None
returns-in-None c =
    let m = sent_text c.args.names.now c.args.sent.now in
    (UnknownDefinition, refl, no_run (piece c.args.chunk.now) m m.arguments (c.in-None.ensures (name_at c.args.names.now)))

pub returns-in_ok-source-in-Some : goal.returns-in_ok-source-in-Some
returns-in_ok-source-in-Some c =
    let p = piece c.args.chunk.now in
    let f = name_at c.args.names.now in
    let m = sent_text c.args.names.now c.args.sent.now in
    Answers-same (changed p c.in_ok-source-in-Some.source InRun) (opened p m (first_argument m.arguments))
    (ap (λ (s : Text). changed p s InRun) (c.in_ok-source-in-Some.ensures ∙ ap (λ (t : Text). run_source (record { class = t; meta = m.meta; protocol = c.in-Some.protocol.text.now })) c.text_of-class.ensures)
    ∙ one_run p m m.arguments (first_text f c.in-Some.protocol) (c.in-Some.ensures f))
    c.args.names.now c.args.out.now c.change.new.out c.change.result (c.change.ensures c.args.names.now)
